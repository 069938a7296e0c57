-- SightLaws: what an expression, an input or a change sees and means by references is what it is by names.
use Rattle.std.proofs.Common.{◌≡◌, ℕ, Bool, List, [], ◌∷◌, map, Option, Some, None, refl, ap, ◌∙◌}
use Rattle.std.specs.Prelude.{if◌then◌else◌, slice_get}
use Rattle.std.specs.Option.{option_map}
use Rattle.std.proofs.lemmas.List.{length-map}
use Rattle.std.proofs.lemmas.Option.{slice_get-map}
use Rattle.std.specs.List.{position_or_len}
use Rattle.gq_value.specs.Val.{Val, Vertex, Tuple, list_of}
use Rattle.gq_value.specs.Accums.{TUPLE, Parts, Base, Accum, One, Keyed, given_and}
use Rattle.gq_accum_laws.specs.Holds.{HoldsEach}
use Rattle.gq_rules_typing.specs.Sorts.{names_of, bases_of}
use Rattle.gq_rules_typing.specs.Words.{OfTupleType, OfParts, names_of_parts}
use Rattle.gq_rules_typing.specs.FieldTypes.{tuple_fields}
use Rattle.gq_rules_meaning.specs.Answers.{Answer, Gives, ◌>>=◌, found}
use Rattle.gq_rules_meaning.specs.Meanings.{Meant, Is, IsRow, IsEdge, IsMember, Outcome, read, value_of_meant, as_number, as_truth, converted_to}
use Rattle.gq_rules_meaning.specs.Expressions.{setting, Look, value_of, number_of, truth_of, value_as}
use Rattle.gq_rules_meaning.specs.States.{Thing, Slot, meant, slot_number, slot_named, read_slot, value_at, part_at, vertex_field, edge_field, field_of, sight}
use Rattle.gq_rules_meaning.specs.StateFits.{AllOf}
use Rattle.gq_plan_ir.specs.Renamed.{SeesAlike, Renaming, renamed}
use Rattle.gq_plan_ir.specs.Naming.{named_by}
use Rattle.gq_plan_ir.specs.Alike.{Sides, old_world, new_world, WordsAlike, new_slot, new_slots, AccumIs}
use Rattle.gq_plan_laws.proofs.NameLaws.{LooksAlike}
use Rattle.gq_tree.specs.Tree.{Tree}
use Rattle.gq_rules_typing.specs.Selecting.{Input, Plain, Keys, Inputs, no_input, input_and, Change, Adds, Puts}
use Rattle.gq_rules_typing.specs.Kinds.{input_type, set_type, key_types, part_kinds}
use Rattle.gq_rules_meaning.specs.Blocks.{input_of, inputs_of, passes}
use Rattle.gq_rules_meaning.specs.Writes.{with_input, with_value, made_by}
use Rattle.gq_plan_ir.proofs.RenamedLaws.{then_same, meaning-renamed, arguments-renamed}
use Rattle.gq_plan_ir.specs.RenamedBlocks.{renamed_input, renamed_inputs, renamed_change}

-- ---- what an expression sees by references is what it sees by names

module _ {M N : Type 0} (s : Sides M N) (w : WordsAlike s) where
  -- ---- accumulators

  place_alike : (a : M) (slots : List (Slot M)) → AllOf (AccumIs s) slots
      → position_or_len (λ (t : Slot N). s.fixed.references.same t.name (s.fixed.accum a)) (new_slots s slots) ≡ position_or_len (λ (t : Slot M). s.fixed.names.same t.name a) slots
  place_alike a [] h = refl
  place_alike a (t ∷ slots) h = let r = place_alike a slots h.1 in let q = h.0.same a in cc

  pub slot_number_alike : (a : M) (slots : List (Slot M)) → AllOf (AccumIs s) slots → slot_number (new_world s) (new_slots s slots) (s.fixed.accum a) ≡ slot_number (old_world s) slots a
  slot_number_alike a slots h = let n = length-map slots (new_slot s) in let m = place_alike a slots h in cc

  pub slot_alike : (a : M) (slots : List (Slot M)) → AllOf (AccumIs s) slots → slot_named (new_world s) (new_slots s slots) (s.fixed.accum a) ≡ option_map (new_slot s) (slot_named (old_world s) slots a)
  slot_alike a slots h = go (slot_number (old_world s) slots a) (slot_number (new_world s) (new_slots s slots) (s.fixed.accum a)) (slot_number_alike a slots h)
    where
      at_old : Option ℕ → Option (Slot M)
      at_old None = None
      at_old (Some n) = slice_get slots n

      at_new : Option ℕ → Option (Slot N)
      at_new None = None
      at_new (Some n) = slice_get (new_slots s slots) n

      same_place : (o : Option ℕ) → at_new o ≡ option_map (new_slot s) (at_old o)
      same_place None = refl
      same_place (Some n) = slice_get-map (new_slot s) slots n

      go : (o p : Option ℕ) → p ≡ o → at_new p ≡ option_map (new_slot s) (at_old o)
      go o p e = ap at_new e ∙ same_place o

  -- the value of an accumulator, if it exists
  abbrev read_in : {N : Type 0} → ℕ → Option (Slot N) → Outcome
  read_in v o = found o >>= λ t. found (slice_get t.contents v) >>= λ c. Gives (read t.kind c)

  pub read_alike : (a : M) (v : ℕ) (slots : List (Slot M)) → AllOf (AccumIs s) slots → read_slot (new_world s) (new_slots s slots) (s.fixed.accum a) v ≡ read_slot (old_world s) slots a v
  read_alike a v slots h = ap (read_in v) (slot_alike a slots h) ∙ elim (slot_named (old_world s) slots a) as (λ (o : Option (Slot M)). read_in v (option_map (new_slot s) o) ≡ read_in v o) [ None ↦ refl | Some t ↦ refl ]

  -- ---- fields

  -- an option continues alike, if that is known of its value
  pub found_same : {F A B : Type 0} (o : Option A) (f g : A → Answer F B) → ((a : A) → o ≡ Some a → f a ≡ g a) → (found o >>= f) ≡ (found o >>= g)
  found_same None f g h = refl
  found_same (Some a) f g h = h a refl

  pub choice_same : {A : Type 0} (p q : Bool) (a b c : A) → p ≡ q → b ≡ c → (if p then a else b) ≡ (if q then a else c)
  choice_same p q a b c e g = ap (λ z. if z then a else b) e ∙ ap (λ z. if q then a else z) g

  vertex_alike : (f : M) (v : ℕ) → vertex_field (new_world s) (s.fixed.field f) v ≡ vertex_field (old_world s) f v
  vertex_alike f v = found_same (slice_get s.graph.sight.kinds v) _ _ (λ t e. found_same (slice_get s.graph.sorts.vertices t) _ _ (λ sort g.
      choice_same _ _ _ _ _ (w.is_type f) (found_same (slice_get s.graph.vertex_values v) _ _ (λ vs h. ap (value_at (bases_of sort.fields) vs) (w.of_vertex t sort g f)))))

  edge_alike : (f : M) (r t : ℕ) → edge_field (new_world s) (s.fixed.field f) r t ≡ edge_field (old_world s) f r t
  edge_alike f r t = found_same (slice_get s.graph.sorts.edges t) _ _ (λ sort g.
      choice_same _ _ _ _ _ (w.is_type f) (found_same (slice_get s.graph.edge_values r) _ _ (λ vs h. ap (value_at (bases_of sort.fields) vs) (w.of_edge t sort g f))))

  tuple_alike : (f : M) (n : ℕ) (row : List Val)
      → value_at (bases_of (tuple_fields (setting (new_world s)) n)) row (s.fixed.references.field (OfTupleType n) (names_of (tuple_fields (setting (new_world s)) n)) (s.fixed.field f))
      ≡ value_at (bases_of (tuple_fields (setting (old_world s)) n)) row (s.fixed.names.field (OfTupleType n) (names_of (tuple_fields (setting (old_world s)) n)) f)
  tuple_alike f n row =
      ap (λ fs. value_at (bases_of fs) row (s.fixed.references.field (OfTupleType n) (names_of fs) (s.fixed.field f))) (w.tuples n)
      ∙ ap (value_at (bases_of (tuple_fields (setting (old_world s)) n)) row) (w.of_tuple n f)

  parts_alike : (f : M) (ps : Parts) (cs : HoldsEach ps)
      → (found (s.fixed.references.field OfParts (names_of_parts ps) (s.fixed.field f)) >>= part_at ps cs) ≡ (found (s.fixed.names.field OfParts (names_of_parts ps) f) >>= part_at ps cs)
  parts_alike f ps cs = ap (λ o. found o >>= part_at ps cs) (w.of_parts ps f)

  pub field_alike : (m : Meant) (f : M) → field_of (new_world s) m (s.fixed.field f) ≡ field_of (old_world s) m f
  field_alike (Is b (Vertex v)) f = vertex_alike f v
  field_alike (Is (TUPLE n bs) (Tuple row)) f = tuple_alike f n (list_of row)
  field_alike (IsMember set b v) f = vertex_alike f v
  field_alike (IsEdge r t) f = edge_alike f r t
  field_alike (IsRow ps cs) f = parts_alike f ps cs
  field_alike m f = refl

  -- ---- all together

  pub sees_alike : (f : M → N) (as' : List (M × Thing)) (bs : List (N × Thing)) (slots before : List (Slot M)) → LooksAlike s w f as' bs → AllOf (AccumIs s) slots → AllOf (AccumIs s) before
      → SeesAlike (named_by s.fixed f) (sight (old_world s) as' slots before) (sight (new_world s) bs (new_slots s slots) (new_slots s before))
  sees_alike f as' bs slots before h k b = record {
    named = λ x. ap (λ o. found o >>= λ thing. Gives (meant thing)) (h x);
    global = λ a. read_alike a 0 slots k;
    attached = λ a v. read_alike a v slots k;
    before = λ a v. read_alike a v before b;
    field = field_alike;
    function = w.function;
    method = w.method;
    graph = refl;
    calendar = refl;
  }

-- ---- inputs, conditions and changes mean by references what they mean by names

module _ {M N : Type 0} (r : Renaming M N) (old : Look M) (new : Look N) (h : SeesAlike r old new) where
  pub value_alike : (t : Tree M) → value_of new (renamed r t) ≡ value_of old t
  value_alike t = ap (λ o. o >>= value_of_meant) (meaning-renamed r old new h t)

  pub number_alike : (t : Tree M) → number_of new (renamed r t) ≡ number_of old t
  number_alike t = ap (λ o. o >>= as_number) (value_alike t)

  pub truth_alike : (t : Tree M) → truth_of new (renamed r t) ≡ truth_of old t
  truth_alike t = ap (λ o. o >>= as_truth) (value_alike t)

  pub as_alike : (b : Base) (t : Tree M) → value_as new b (renamed r t) ≡ value_as old b t
  as_alike b t = ap (λ o. o >>= converted_to b) (value_alike t)

  pub passes_alike : (t : Option (Tree M)) → passes new (option_map (renamed r) t) ≡ passes old t
  passes_alike None = refl
  passes_alike (Some t) = truth_alike t

  mutual
    pub input_alike : (k : Accum) (x : Input M) → input_of new k (renamed_input r x) ≡ input_of old k x
    input_alike k (Plain t) = then_same (found (input_type k)) _ _ _ refl (λ b. ap (λ o. o >>= λ v. Gives (One v)) (as_alike b t))
    input_alike k (Keys ts xs) = then_same _ _ _ _ (arguments-renamed r old new h ts (map Some (key_types k))) (λ vs. ap (λ o. o >>= λ ys. Gives (Keyed vs ys)) (inputs_alike (part_kinds k) xs))

    inputs_alike : (ks : List Accum) (xs : Inputs M) → inputs_of new ks (renamed_inputs r xs) ≡ inputs_of old ks xs
    inputs_alike [] no_input = refl
    inputs_alike (k ∷ ks) (input_and x xs) = then_same _ _ _ _ (input_alike k x) (λ y. ap (λ o. o >>= λ ys. Gives (given_and y ys)) (inputs_alike ks xs))
    inputs_alike ks xs = refl

  pub made_alike : (k : Accum) (change : Change M) → made_by new k (renamed_change r change) ≡ made_by old k change
  made_alike k (Adds x) = ap (λ o. o >>= λ y. Gives (with_input y)) (input_alike k x)
  made_alike k (Puts t) = then_same (found (set_type k)) _ _ _ refl (λ b. ap (λ o. o >>= λ v. Gives (with_value v)) (as_alike b t))
