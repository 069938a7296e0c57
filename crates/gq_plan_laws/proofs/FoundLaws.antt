-- FoundLaws: references represent names, if they are the ones found for the names; so do the declarations so far.
use Rattle.std.proofs.Common.{◌≡◌, ◌≢◌, ℕ, zero, suc, ◌≤◌, Bool, true, false, List, [], ◌∷◌, map, arith, eq-eqb, ne_eqb, Option, Some, None, refl, sym, ap, ◌∙◌, subst, ◌++◌, length}
use Rattle.std.proofs.lemmas.Slice.Eq.{bytes_eq-Decides}
use Rattle.std.specs.Prelude.{◌==◌, ◌&&◌, if◌then◌else◌, bytes_eq, codes, slice_get, unwrap_or}
use Rattle.std.specs.List.{list_any, list_all}
use Rattle.gq_value.specs.declared.kind.BaseType.{BaseType}
use Rattle.gq_scope.specs.Named.{Named, found_in, seen_at, place_at, with_name}
use Rattle.gq_rules_typing.specs.Statements.{Bytes}
use Rattle.gq_rules_typing.specs.Sorts.{Fields, Sorts, names_of, bases_of}
use Rattle.gq_rules_typing.specs.Words as words
use Rattle.gq_rules_typing.specs.Words.{Words, Setting, OfVertexType, OfEdgeType, OfTupleType, place_of, by_name, if_own, under, methods, functions, function_from, function_named, names_of_parts}
use Rattle.gq_rules_meaning.specs.Calendars.{Calendar}
use Rattle.gq_rules_meaning.specs.Graphs.{Graph}
use Rattle.gq_plan_ir.specs.declared.expr.Field.TheVariants as field
use Rattle.gq_plan_ir.specs.declared.expr.Function.{Function}
use Rattle.gq_plan_ir.specs.declared.expr.Function.TheVariants as function
use Rattle.gq_plan_ir.specs.Reference.{Reference, Place, VertexType, EdgeType, TupleType, TypeName, Calls, Does, Slot}
use Rattle.gq_plan_ir.specs.References as references
use Rattle.gq_plan_ir.specs.References.{same, in_table, by_reference}
use Rattle.gq_plan_ir.specs.ExprView.{field_of, function_of}
use Rattle.gq_plan_ir.specs.Alike.{WordsAlike}
use Rattle.gq_plan_expr.specs.Known.{or_nothing, method_at}
use Rattle.gq_plan_expr.specs.Found.{TupleTypes, plain_fields, plain_tuples, in_vertex, in_edge, in_tuple, places_of, field_at, field_types, tuple_from, own_function, own_if, language, or_language, function_at, part_of_time}
use Rattle.gq_plan_expr.proofs.PlanLaws.{some_inj}
use Rattle.gq_rules_safety.proofs.NameLaws.{all_with}
use Rattle.gq_plan_laws.proofs.NameLaws.{both_all}
use Rattle.gq_plan_laws.specs.Sides.{numbered, sides_of}
use Rattle.gq_plan_laws.specs.FoundLaws.{FoundLaw}
use Rattle.std.specs.Option.{option_map}
use Rattle.gq_scope.specs.declared.places.NameBinding.{NameBinding}
use Rattle.gq_rules_meaning.specs.StateFits.{AllOf}
use Rattle.gq_plan_ir.specs.Plans.{AccumTold, IsSound}
use Rattle.gq_plan_laws.specs.Declared.{ground_of, slotted, accums_in, declared_of, SlotsAre}

-- ---- references represent names, if they are the ones found for the names

-- ---- references that nothing is looked for under

nothing_same : (r : Reference) → same r TypeName ≡ false
nothing_same (Place n) = refl
nothing_same r = refl

type_same : (r : Reference) (t : ℕ) → same r (VertexType t) ≡ false
type_same (Place n) t = refl
type_same r t = refl

no_variable : (r : Reference) (o : Option ℕ) → same r (or_nothing VertexType o) ≡ false
no_variable r None = nothing_same r
no_variable r (Some t) = type_same r t

-- ---- types of the graph

own_twice : (ns : List ℕ) (o : Option ℕ) (n : ℕ) → if_own ns o ≡ Some n → if_own ns (Some n) ≡ Some n
own_twice ns None n h = cc
own_twice ns (Some m) n h = go (list_any (λ k. k == m) ns) refl h
  where
    go : (q : Bool) → list_any (λ k. k == m) ns ≡ q → (if q then Some m else None) ≡ Some n → if_own ns (Some n) ≡ Some n
    go true e h = subst (λ z. if_own ns (Some z) ≡ Some z) (some_inj h) (ap (λ q. if q then Some m else None) e)
    go false e h = cc

vertex_type_is : (sorts : Sorts) (o : Option ℕ) → references.vertex_type sorts (or_nothing VertexType (if_own sorts.own_vertices o)) ≡ if_own sorts.own_vertices o
vertex_type_is sorts o = go (if_own sorts.own_vertices o) refl
  where
    go : (p : Option ℕ) → if_own sorts.own_vertices o ≡ p → references.vertex_type sorts (or_nothing VertexType p) ≡ p
    go None e = refl
    go (Some n) e = own_twice sorts.own_vertices o n e

edge_type_is : (sorts : Sorts) (o : Option ℕ) → references.edge_type sorts (or_nothing EdgeType (if_own sorts.own_edges o)) ≡ if_own sorts.own_edges o
edge_type_is sorts o = go (if_own sorts.own_edges o) refl
  where
    go : (p : Option ℕ) → if_own sorts.own_edges o ≡ p → references.edge_type sorts (or_nothing EdgeType p) ≡ p
    go None e = refl
    go (Some n) e = own_twice sorts.own_edges o n e

method_is : (m : Bytes) → references.method (or_nothing Does (method_at m)) ≡ under bytes_eq m methods
unfolding method_at
method_is m = elim (under bytes_eq m methods) as (λ (o : Option words.Method). references.method (or_nothing Does o) ≡ o) [ None ↦ refl | Some w ↦ refl ]

-- ---- tables of fields

table_at : {A : Type 0} (f : A → Option ℕ) (xs : List A) (t : ℕ) (names : List Bytes) (name : Bytes) (a : A) → slice_get xs t ≡ Some a → in_table (map f xs) t names name ≡ f a
table_at f [] t names name a h = cc
table_at f (x ∷ xs) zero names name a h = ap f (some_inj h)
table_at f (x ∷ xs) (suc t) names name a h = table_at f xs t names name a h

abbrev fields_at : {N : Type 0} → Option (N × Fields) → Fields
fields_at None = []
fields_at (Some t) = t.1

-- past the end of the table the name says it
tuple_table : (ts : TupleTypes) (n : ℕ) (f : Bytes)
    → in_table (map (in_tuple f) ts) n (names_of (fields_at (slice_get (plain_tuples ts) n))) f ≡ place_of (names_of (fields_at (slice_get (plain_tuples ts) n))) f
tuple_table (t ∷ ts) (suc n) f = tuple_table ts n f
tuple_table ts n f = refl

-- ---- tuple types

numbered_fields : (i : ℕ) (ts : TupleTypes) (n : ℕ) → fields_at (slice_get (numbered i ts) n) ≡ fields_at (slice_get (plain_tuples ts) n)
numbered_fields i (t ∷ ts) (suc n) = numbered_fields (suc i) ts n
numbered_fields i ts n = refl

-- ---- functions of the language

part_is : (p : words.PartOfTime) → function_of (part_of_time p) ≡ Calls (words.PartOf p)
part_is words.Year = refl
part_is p = refl

-- no function of the language makes a tuple
abbrev is_own : words.Function → Bool
is_own (words.Makes n fields) = false
is_own f = true

under_all : {A : Type 0} (p : A → Bool) (f : Bytes) (pairs : List (Bytes × A)) (a : A) → list_all (λ (x : Bytes × A). p x.1) pairs ≡ true → under bytes_eq f pairs ≡ Some a → p a ≡ true
under_all p f [] a h e = cc
under_all {A = A} p f (x ∷ pairs) a h e = go (bytes_eq x.0 f) (p x.1) refl e h (under_all p f pairs a)
  where
    go : (q b : Bool) → p x.1 ≡ b → (if q then Some x.1 else under bytes_eq f pairs) ≡ Some a → (b && list_all (λ (x : Bytes × A). p x.1) pairs) ≡ true
        → (list_all (λ (x : Bytes × A). p x.1) pairs ≡ true → under bytes_eq f pairs ≡ Some a → p a ≡ true) → p a ≡ true
    go true true d e h r = subst (λ z. p z ≡ true) (some_inj e) d
    go false true d e h r = r h e
    go q b d e h r = cc

-- ---- all together

module _ (g : Graph) (clock : Calendar) (ts : TupleTypes) (accums : List Bytes) (slots : Named) where
  is_type_is : (f : Bytes) → references.is_type (field_of (field_at g.sorts ts f)) ≡ bytes_eq (codes "type") f
  is_type_is f = elim (bytes_eq (codes "type") f) as (λ (q : Bool). references.is_type (field_of (if q then field.Type else field.Named (places_of g.sorts ts f))) ≡ q) [ true ↦ refl | false ↦ refl ]

  -- a field of an owner with these names, if the tables agree with the name
  field_is : (owner : words.Owner) (names : List Bytes) (f : Bytes) → references.place_in (places_of g.sorts ts f) owner names ≡ place_of names f → references.field owner names (field_of (field_at g.sorts ts f)) ≡ place_of names f
  field_is owner names f table = go (bytes_eq (codes "type") f) refl
    where
      go : (q : Bool) → bytes_eq (codes "type") f ≡ q → references.field owner names (field_of (if q then field.Type else field.Named (places_of g.sorts ts f))) ≡ place_of names f
      go true e = ap (place_of names) ((bytes_eq-Decides (codes "type") f).0 e)
      go false e = table

  -- ---- functions

  abbrev plan_words : Words Reference
  plan_words = by_reference g.sorts accums

  abbrev old_words : Words Bytes
  old_words = by_name g.sorts

  -- a name that isn't a tuple type is a function of the language
  no_tuple : (r : Reference) → ((n : ℕ) → same (TupleType n) r ≡ false) → (i : ℕ) (us : TupleTypes) → function_from plan_words r i (numbered i us) ≡ references.function r
  no_tuple r h i [] = refl
  no_tuple r h i (t ∷ us) = ap (λ q. if q then Some (words.Makes i (bases_of (plain_fields t.1))) else function_from plan_words r (suc i) (numbered (suc i) us)) (h i) ∙ no_tuple r h (suc i) us

  own_is : (h : words.Function) → is_own h ≡ true → (us : TupleTypes) → function_from plan_words (or_nothing function_of (own_function h)) 0 (numbered 0 us) ≡ Some h
  own_is (words.Makes n fields) e us = cc
  own_is (words.PartOf p) e us = ap (λ r. function_from plan_words r 0 (numbered 0 us)) (part_is p) ∙ no_tuple (Calls (words.PartOf p)) (λ n. refl) 0 us
  own_is h e us = no_tuple (Calls h) (λ n. refl) 0 us

  language_is : (f : Bytes) (us : TupleTypes) → function_from plan_words (or_nothing function_of (language f)) 0 (numbered 0 us) ≡ under bytes_eq f functions
  language_is f us = go (under bytes_eq f functions) refl
    where
      go : (o : Option words.Function) → under bytes_eq f functions ≡ o → function_from plan_words (or_nothing function_of (own_if o)) 0 (numbered 0 us) ≡ o
      go None e = no_tuple TypeName (λ n. refl) 0 us
      go (Some h) e = own_is h (under_all is_own f functions h refl e) us

  -- what is found for a name: no tuple type, or one whose number isn't below that of the first, and finds it
  abbrev FindsAs : Bytes → ℕ → TupleTypes → Option Function → Type 0
  FindsAs f i us None = function_from old_words f i (plain_tuples us) ≡ under bytes_eq f functions
  FindsAs f i us (Some (function.Tuple n types)) = (i ≤ n) × (function_from plan_words (TupleType n) i (numbered i us) ≡ function_from old_words f i (plain_tuples us))
  FindsAs f i us (Some h) = ⊥

  finds_more : (f : Bytes) (i : ℕ) (t : Bytes × List (Bytes × BaseType)) (us : TupleTypes) (o : Option Function) → bytes_eq t.0 f ≡ false → FindsAs f (suc i) us o → FindsAs f i (t ∷ us) o
  finds_more f i t us None e h = rw e h
  finds_more f i t us (Some (function.Tuple n types)) e h = let other : i ≢ n = omega (arith, h.0) in (omega (arith, h.0), rw (ne_eqb i n other, e) h.1)
  finds_more f i t us (Some g) e h = absurd h

  finds_as : (f : Bytes) (i : ℕ) (us : TupleTypes) → FindsAs f i us (tuple_from f i us)
  finds_as f i [] = refl
  finds_as f i (t ∷ us) = go (bytes_eq t.0 f) refl (finds_as f (suc i) us)
    where
      go : (q : Bool) → bytes_eq t.0 f ≡ q → FindsAs f (suc i) us (tuple_from f (suc i) us) → FindsAs f i (t ∷ us) (if q then Some (function.Tuple i (field_types t.1)) else tuple_from f (suc i) us)
      go true e h = (omega arith, rw (eq-eqb i i refl, e))
      go false e h = finds_more f i t us (tuple_from f (suc i) us) e h

  function_is : (f : Bytes) → function_from plan_words (or_nothing function_of (function_at ts f)) 0 (numbered 0 ts) ≡ function_from old_words f 0 (plain_tuples ts)
  function_is f = go (tuple_from f 0 ts) (finds_as f 0 ts)
    where
      go : (o : Option Function) → FindsAs f 0 ts o → function_from plan_words (or_nothing function_of (or_language o f)) 0 (numbered 0 ts) ≡ function_from old_words f 0 (plain_tuples ts)
      go None h = language_is f ts ∙ sym h
      go (Some (function.Tuple n types)) h = h.1
      go (Some g) h = absurd h

  words_alike : WordsAlike (sides_of g clock ts accums slots)
  words_alike = record {
    same = λ x y e. (bytes_eq-Decides x y).0 e;
    nothing = nothing_same;
    no_variable = λ r t. no_variable r (old_words.vertex_type t);
    is_type = is_type_is;
    of_vertex = λ t sort e f. field_is (OfVertexType t) (names_of sort.fields) f (table_at (in_vertex f) g.sorts.vertices t (names_of sort.fields) f sort e);
    of_edge = λ t sort e f. field_is (OfEdgeType t) (names_of sort.fields) f (table_at (in_edge f) g.sorts.edges t (names_of sort.fields) f sort e);
    of_tuple = λ n f. field_is (OfTupleType n) (names_of (fields_at (slice_get (plain_tuples ts) n))) f (tuple_table ts n f);
    of_parts = λ ps f. field_is words.OfParts (names_of_parts ps) f refl;
    method = method_is;
    function = function_is;
    vertex_type = λ t. vertex_type_is g.sorts _;
    edge_type = λ t. edge_type_is g.sorts _;
    tuples = λ n. numbered_fields 0 ts n;
  }

pub found_law : FoundLaw
found_law g clock ts accums slots = words_alike g clock ts accums slots

-- ---- the declarations so far represent the meaning of names

all_append : {A : Type 0} (P : A → Type 0) (xs ys : List A) → AllOf P xs → AllOf P ys → AllOf P (xs ++ ys)
all_append P [] ys u v = v
all_append P (x ∷ xs) ys u v = (u.0, all_append P xs ys u.1 v)

accums_all : (P : Bytes × Reference → Type 0) (es : List (Bytes × NameBinding)) → AllOf (λ (e : Bytes × NameBinding). P (slotted e)) es → AllOf P (accums_in es)
accums_all P [] u = u
accums_all P (e ∷ es) u = all_append P (accums_in es) (slotted e ∷ []) (accums_all P es u.1) (u.0, _)

module _ (accums : List Bytes) where
  abbrev Told : Bytes × NameBinding → Type 0
  Told e = slice_get accums e.1.place ≡ Some e.0

  -- the slot of a name that is found has that name
  told_at : (es : List (Bytes × NameBinding)) (x : Bytes) (s : NameBinding) → found_in es x ≡ Some s → AllOf Told es → slice_get accums s.place ≡ Some x
  told_at [] x s h u = cc
  told_at (e ∷ es) x s h u = go (bytes_eq e.0 x) refl h (told_at es x s)
    where
      go : (q : Bool) → bytes_eq e.0 x ≡ q → (if q then Some e.1 else found_in es x) ≡ Some s → (found_in es x ≡ Some s → AllOf Told es → slice_get accums s.place ≡ Some x) → slice_get accums s.place ≡ Some x
      go true d k rest = ap (λ (z : NameBinding). slice_get accums z.place) (sym (some_inj k)) ∙ (u.0 ∙ ap Some ((bytes_eq-Decides e.0 x).0 d))
      go false d k rest = rest k u.1

  abbrev placed : NameBinding → ℕ
  placed s = s.place

  -- an accumulator's slot is looked for as its name is
  same_is : (slots : Named) → SlotsAre accums slots → (e : Bytes × NameBinding) → seen_at slots e.0 ≡ Some e.1 → Told e → (b : Bytes) → same (Slot e.1.place) (or_nothing Slot (place_at slots b)) ≡ bytes_eq e.0 b
  same_is slots h e found told b = go (bytes_eq e.0 b) (seen_at slots b) refl refl
    where
      go : (q : Bool) (o : Option NameBinding) → bytes_eq e.0 b ≡ q → seen_at slots b ≡ o → same (Slot e.1.place) (or_nothing Slot (option_map placed o)) ≡ q
      go true o d k =
          let at : Some e.1 ≡ o = sym found ∙ (ap (seen_at slots) ((bytes_eq-Decides e.0 b).0 d) ∙ k) in
          ap (λ z. same (Slot e.1.place) (or_nothing Slot (option_map placed z))) (sym at) ∙ eq-eqb e.1.place e.1.place refl
      go false None d k = refl
      go false (Some s) d k = ne_eqb e.1.place s.place (λ i. apart d (some_inj (sym told ∙ (ap (slice_get accums) i ∙ told_at slots.visible b s k h.told))))
        where
          apart : bytes_eq e.0 b ≡ false → e.0 ≡ b → ⊥
          apart u v = let w : bytes_eq e.0 b ≡ true = (bytes_eq-Decides e.0 b).1 v in absurd (cc (u, w))

  module _ (g : Graph) (clock : Calendar) (ts : TupleTypes) where
    pub sound_is : (slots : Named) → SlotsAre accums slots → IsSound (ground_of g clock accums) (declared_of g clock accums ts slots)
    sound_is slots h = record {
      words = found_law g clock ts accums slots;
      accums = accums_all (AccumTold (ground_of g clock accums) (declared_of g clock accums ts slots)) slots.visible
          (all_with _ (λ (e : Bytes × NameBinding). AccumTold (ground_of g clock accums) (declared_of g clock accums ts slots) (slotted e)) slots.visible (λ e p. one e p.0 p.1)
          (both_all (λ (e : Bytes × NameBinding). seen_at slots e.0 ≡ Some e.1) Told slots.visible h.found h.told));
    }
      where
        one : (e : Bytes × NameBinding) → seen_at slots e.0 ≡ Some e.1 → Told e → AccumTold (ground_of g clock accums) (declared_of g clock accums ts slots) (slotted e)
        one e found told = record {
          is = ap (λ o. or_nothing Slot (option_map placed o)) found;
          same = same_is slots h e found told;
          said = ap (λ o. unwrap_or o []) told;
        }

  -- one accumulator more
  slot_first : (x : Bytes) (s : NameBinding) (es : List (Bytes × NameBinding)) → found_in ((x, s) ∷ es) x ≡ Some s
  slot_first x s es = ap (λ q. if q then Some s else found_in es x) ((bytes_eq-Decides x x).1 refl)

  pub slots_more : (slots : Named) (x : Bytes) (marked : Bool) → SlotsAre accums slots → seen_at slots x ≡ None → slice_get accums slots.next ≡ Some x → SlotsAre accums (with_name slots x marked)
  slots_more slots x marked h none at = record {
    found = (slot_first x new slots.visible, all_with (λ (e : Bytes × NameBinding). seen_at slots e.0 ≡ Some e.1) (λ (e : Bytes × NameBinding). seen_at (with_name slots x marked) e.0 ≡ Some e.1) slots.visible stays h.found);
    told = (at, h.told);
  }
    where
      new : NameBinding
      new = record { place = slots.next; marked = marked }

      stays : (e : Bytes × NameBinding) → seen_at slots e.0 ≡ Some e.1 → found_in ((x, new) ∷ slots.visible) e.0 ≡ Some e.1
      stays e found = go (bytes_eq x e.0) refl
        where
          go : (q : Bool) → bytes_eq x e.0 ≡ q → (if q then Some new else found_in slots.visible e.0) ≡ Some e.1
          go true d = let u : None ≡ Some e.1 = sym none ∙ (ap (seen_at slots) ((bytes_eq-Decides x e.0).0 d) ∙ found) in absurd (cc u)
          go false d = found

  -- the names of slots are in order
  pub slice_at : (done : List Bytes) (x : Bytes) (more : List Bytes) → slice_get (done ++ x ∷ more) (length done) ≡ Some x
  slice_at [] x more = refl
  slice_at (d ∷ done) x more = slice_at done x more
