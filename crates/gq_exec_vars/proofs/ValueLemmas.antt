-- ValueLemmas: the value of an opening, evaluated once for all targets.
use Rattle.std.proofs.Common.{◌≡◌, ◌≢◌, ℕ, suc, Bool, true, false, List, [], ◌∷◌, map, length, reverse, if◌then◌else◌, ℤ, pos, negsuc, Option, Some, None, Ok, Err, refl, sym, ap, ◌∙◌, subst, arith}
use Rattle.std.specs.Option.{option_map}
use Rattle.std.proofs.lemmas.Bool.Decides.{nat_tests}
use Rattle.std.proofs.lemmas.Int.{ints}
use Rattle.std.proofs.lemmas.List.FromFn.{length-range_with_len}
use Rattle.gq_tree.specs.Tree.{Tree}
use Rattle.gq_index.specs.declared.store.Graph as code
use Rattle.gq_graph.specs.declared.rows.VertexRow.{VertexRow}
use Rattle.gq_rules_meaning.specs.Calendars.{Calendar}
use Rattle.gq_rules_meaning.specs.States.{State, seen}
use Rattle.gq_plan_ir.specs.declared.expr.Expr.{Expr}
use Rattle.gq_plan_ir.specs.declared.plan.Plan.{Plan}
use Rattle.gq_plan_ir.specs.ExprView.{view}
use Rattle.gq_plan_ir.specs.Reference.{Reference}
use Rattle.gq_eval_attributes.specs.declared.tuple_type.TupleType.{TupleType}
use Rattle.gq_eval_context.specs.Viewed.{Over, viewed}
use Rattle.gq_eval_context.specs.Looks.{look_of}
use Rattle.gq_eval_context.specs.LookLaws.{look_shows}
use Rattle.gq_frame.specs.declared.live.Live.{Live}
use Rattle.gq_frame.specs.Lives.{Lives}
use Rattle.gq_frame.proofs.LookupLemmas.{alike_now}
use Rattle.gq_value.specs.declared.value.Value.{Value}
use Rattle.gq_value.specs.declared.value.Wrong.{Wrong}
use Rattle.gq_value.specs.declared.value.Wrong.TheVariants as wrong
use Rattle.gq_value.specs.declared.kind.Number.{Number}
use Rattle.gq_value.specs.declared.kind.Number.TheVariants as number
use Rattle.gq_value.specs.Arithmetic.{as_type, in_type, is_within}
use Rattle.gq_value.specs.Typed.{is_of, number_type, takes}
use Rattle.gq_value.specs.Accums.{Base, INT, BOOL, Accum, SumAccum, MinAccum, MaxAccum, OrAccum, AndAccum, BitwiseOrAccum, BitwiseAndAccum, AvgAccum, SetAccum, BagAccum, ListAccum, MapAccum, GroupByAccum, HeapAccum}
use Rattle.gq_value.specs.Val.{Val, Int, UInt, Truth, Text, Vertex, Tuple, Fraction}
use Rattle.gq_accum_laws.specs.Holds.{Holds}
use Rattle.gq_accum_laws.specs.Inputs.{truth}
use Rattle.gq_value.specs.Views.{val}
use Rattle.gq_accum_laws.specs.After.{fresh}
use Rattle.gq_accum_laws.specs.Reads.{set_to}
use Rattle.gq_rules_typing.specs.Kinds.{set_type}
use Rattle.gq_rules_meaning.specs.Answers.{Answer, Gives, Faults, Stuck, ◌>>=◌, each, found, of_result}
use Rattle.gq_rules_meaning.specs.Expressions.{World, Look, value_of}
use Rattle.gq_rules_meaning.specs.Graphs.{vertex_count}
use Rattle.gq_rules_meaning.specs.Meanings.{as_number, converted_to}
use Rattle.gq_rules_meaning.specs.Queries.{opening, places}
use Rattle.gq_eval_operand.specs.declared.halt.Halt.{Halt}
use Rattle.gq_eval_operand.specs.declared.halt.Halt.TheVariants as halt
use Rattle.gq_eval_operand.specs.Meant.{Halts}
use Rattle.gq_exec_vars.specs.Begun.{Sets, TellsFirst, over_of, sets, world_with}

-- an evaluation that ends stops everything after it
pub stops : {A B : Type 0} (o : Answer Wrong A) (f : A → Answer Wrong B) (h : Halt) → Halts o h → Halts (o >>= f) h
stops o f (halt.Wrong w) e = ap (λ p. p >>= f) e
stops o f halt.Stuck e = ap (λ p. p >>= f) e
stops o f halt.OutOfMemory e = tt

-- ---- the value that a kind is set to

-- what is converted to a number type is of it
in_range : (n : Number) (x : ℤ) → is_within n x ≡ true → is_of (number_type n) (as_type n x) ≡ true
in_range number.Int x e = e
in_range number.UInt (pos n) e = grind (arith, ints, nat_tests)
in_range number.UInt (negsuc n) e = absurd (let no : ⊥ = cc in no)

of_number : (n : Number) (v w : Val) → (as_number v >>= λ x. of_result (in_type n x)) ≡ Gives w → is_of (number_type n) w ≡ true
of_number n v w e = by (as_number v) e
  where
    within : (x : ℤ) (b : Bool) → is_within n x ≡ b → of_result (if b then Ok (as_type n x) else Err wrong.Range) ≡ Gives w → is_of (number_type n) w ≡ true
    within x true is e = ap (is_of (number_type n)) (let f : w ≡ as_type n x = cc in f) ∙ in_range n x is
    within x false is e = absurd (let no : ⊥ = cc in no)

    by : (o : Answer Wrong ℤ) → (o >>= λ x. of_result (in_type n x)) ≡ Gives w → is_of (number_type n) w ≡ true
    by (Gives x) e = within x (is_within n x) refl e
    by (Faults f) e = absurd (let no : ⊥ = cc in no)
    by Stuck e = absurd (let no : ⊥ = cc in no)

of_base : (n : Number) (b : Base) (v w : Val) → Some (number_type n) ≡ Some b → converted_to b v ≡ Gives w → is_of (number_type n) w ≡ true
of_base n b v w e c = of_number n v w (to n (ap (λ a. converted_to a v) (let f : number_type n ≡ b = cc in f) ∙ c))
  where
    to : (n : Number) → converted_to (number_type n) v ≡ Gives w → (as_number v >>= λ x. of_result (in_type n x)) ≡ Gives w
    to number.Int c = c
    to number.UInt c = c

pub kind_set : (k : Accum) (b : Base) (v w : Val) (x : Value) → set_type k ≡ Some b → converted_to b v ≡ Gives w → val x ≡ w → Sets k (val x)
kind_set k b v w x e c is = subst (Sets k) (sym is) (by k e)
  where
    by : (k : Accum) → set_type k ≡ Some b → Sets k w
    by (SumAccum n) e = of_base n b v w e c
    by (MinAccum n) e = of_base n b v w e c
    by (MaxAccum n) e = of_base n b v w e c
    by BitwiseOrAccum e = of_base number.Int b v w e c
    by BitwiseAndAccum e = of_base number.Int b v w e c
    by OrAccum e = tt
    by AndAccum e = tt
    by AvgAccum e = absurd (let no : ⊥ = cc in no)
    by (SetAccum a) e = absurd (let no : ⊥ = cc in no)
    by (BagAccum a) e = absurd (let no : ⊥ = cc in no)
    by (ListAccum a) e = absurd (let no : ⊥ = cc in no)
    by (MapAccum a j) e = absurd (let no : ⊥ = cc in no)
    by (GroupByAccum keys ps) e = absurd (let no : ⊥ = cc in no)
    by (HeapAccum a n order) e = absurd (let no : ⊥ = cc in no)

-- a kind that doesn't take the value is one of truths, and the value is none
is_false : (v : Val) → is_of BOOL v ≡ false → truth v ≡ false
is_false (Truth b) e = absurd (let no : ⊥ = cc in no)
is_false (Int x) e = refl
is_false (UInt n) e = refl
is_false (Text s) e = refl
is_false (Vertex n) e = refl
is_false (Tuple vs) e = refl
is_false (Fraction x n) e = refl

no_more : {P : Type 0} (b : Bool) → b ≡ true → b ≡ false → P
no_more true e f = absurd (let no : ⊥ = cc in no)
no_more false e f = absurd (let no : ⊥ = cc in no)

pub false_set : (k : Accum) (v w : Val) → Sets k v → takes k v ≡ false → w ≡ Truth false → set_to k w ≡ set_to k v
false_set (SumAccum n) v w s e is = no_more (is_of (number_type n) v) s e
false_set (MinAccum n) v w s e is = no_more (is_of (number_type n) v) s e
false_set (MaxAccum n) v w s e is = no_more (is_of (number_type n) v) s e
false_set BitwiseOrAccum v w s e is = no_more (is_of INT v) s e
false_set BitwiseAndAccum v w s e is = no_more (is_of INT v) s e
false_set OrAccum v w s e is = ap truth is ∙ sym (is_false v e)
false_set AndAccum v w s e is = ap truth is ∙ sym (is_false v e)
false_set AvgAccum v w s e is = absurd s
false_set (SetAccum a) v w s e is = absurd s
false_set (BagAccum a) v w s e is = absurd s
false_set (ListAccum a) v w s e is = absurd s
false_set (MapAccum a j) v w s e is = absurd s
false_set (GroupByAccum keys ps) v w s e is = absurd s
false_set (HeapAccum a n order) v w s e is = absurd s

pub false_taken : (k : Accum) (v w : Val) → Sets k v → takes k v ≡ false → w ≡ Truth false → takes k w ≡ true
false_taken (SumAccum n) v w s e is = no_more (is_of (number_type n) v) s e
false_taken (MinAccum n) v w s e is = no_more (is_of (number_type n) v) s e
false_taken (MaxAccum n) v w s e is = no_more (is_of (number_type n) v) s e
false_taken BitwiseOrAccum v w s e is = no_more (is_of INT v) s e
false_taken BitwiseAndAccum v w s e is = no_more (is_of INT v) s e
false_taken OrAccum v w s e is = ap (is_of BOOL) is
false_taken AndAccum v w s e is = ap (is_of BOOL) is
false_taken AvgAccum v w s e is = absurd s
false_taken (SetAccum a) v w s e is = absurd s
false_taken (BagAccum a) v w s e is = absurd s
false_taken (ListAccum a) v w s e is = absurd s
false_taken (MapAccum a j) v w s e is = absurd s
false_taken (GroupByAccum keys ps) v w s e is = absurd s
false_taken (HeapAccum a n order) v w s e is = absurd s

module _ {N : Type 0} (look : Look N) (k : Accum) (t : Tree N) where
  -- the initial content for a value
  abbrev put_of : Option Base → Answer Wrong Val → Answer Wrong (Holds k)
  put_of o v = found o >>= λ b. v >>= converted_to b >>= λ w. Gives (set_to k w)

  pub no_base : set_type k ≡ None → opening look k (Some t) ≡ Stuck
  no_base e = ap (λ o. put_of o (value_of look t)) e

  pub value_stops : (b : Base) (h : Halt) → set_type k ≡ Some b → Halts (value_of look t) h → Halts (opening look k (Some t)) h
  value_stops b h e s =
      subst (λ o. Halts o h) (sym (ap (λ o. put_of o (value_of look t)) e)) (stops (value_of look t >>= converted_to b) (λ w. Gives (set_to k w)) h (stops (value_of look t) (converted_to b) h s))

  pub conversion_stops : (b : Base) (v : Val) (h : Halt) → set_type k ≡ Some b → value_of look t ≡ Gives v → Halts (converted_to b v) h → Halts (opening look k (Some t)) h
  conversion_stops b v h e g s =
      subst (λ o. Halts o h) (sym (ap (λ o. put_of o (value_of look t)) e ∙ ap (λ o. put_of (Some b) o) g)) (stops (converted_to b v) (λ w. Gives (set_to k w)) h s)

  pub value_opens : (b : Base) (v w : Val) (x y : Value) → set_type k ≡ Some b → value_of look t ≡ Gives v → converted_to b v ≡ Gives w → val x ≡ w → sets k y ≡ sets k x → opening look k (Some t) ≡ Gives (sets k y)
  value_opens b v w x y e g c is same =
      ap (λ o. put_of o (value_of look t)) e ∙ ap (λ o. put_of (Some b) o) g ∙ ap (λ o. o >>= λ w. Gives (set_to k w)) c ∙ ap (λ u. Gives (set_to k u)) (sym is) ∙ ap Gives (sym same)

pub ruleset open_laws = (no_base, value_stops, conversion_stops, value_opens, kind_set)

-- ---- all targets

each_gives : {A B F : Type 0} (o : Answer F B) (b : B) (xs : List A) → o ≡ Gives b → each (λ x. o) xs ≡ Gives (map (λ x. b) xs)
each_gives o b [] e = refl
each_gives o b (x ∷ xs) e = ap (λ p. p >>= λ c. each (λ x. o) xs >>= λ cs. Gives (c ∷ cs)) e ∙ ap (λ p. p >>= λ cs. Gives (b ∷ cs)) (each_gives o b xs e)

each_stops : {A B : Type 0} (o : Answer Wrong B) (xs : List A) (h : Halt) → length xs ≢ 0 → Halts o h → Halts (each (λ x. o) xs) h
each_stops o [] h n s = absurd (n refl)
each_stops o (x ∷ xs) h n s = stops o (λ c. each (λ x. o) xs >>= λ cs. Gives (c ∷ cs)) h s

-- how many targets there are
pub places_many : {N : Type 0} (world : World N) (attached : Bool) → length (places world attached) ≡ (if attached then vertex_count world.graph else 1)
places_many world true = length-range_with_len 0 (vertex_count world.graph)
places_many world false = refl

length_mapped : {A B : Type 0} (f : A → B) (xs : List A) → length (map f xs) ≡ length xs
length_mapped f [] = refl
length_mapped f (x ∷ xs) = ap suc (length_mapped f xs)

pub many_places : (clock : Calendar) (g : code.Graph) (plan : Plan) (tuples : List TupleType) (attached : Bool) → length (places (world_with clock g plan tuples) attached) ≡ (if attached then length g.store.now.vertices else 1)
many_places clock g plan tuples attached =
    places_many (world_with clock g plan tuples) attached
    ∙ ap (λ (n : ℕ). if attached then n else 1) (length_mapped (λ (r : VertexRow). r.kind) g.store.now.vertices)

module _ {N : Type 0} (look : Look N) (k : Accum) (xs : List ℕ) where
  pub first_own : (o : Option (Tree N)) → o ≡ None → TellsFirst look k xs o (Ok None)
  first_own o e = subst (λ o. TellsFirst look k xs o (Ok None)) (sym e) (record { tells = each_gives (Gives (fresh k)) (fresh k) xs refl })

  pub first_nowhere : (o : Option (Tree N)) → length xs ≡ 0 → TellsFirst look k xs o (Ok None)
  first_nowhere o n = record { tells = nowhere xs n }
    where
      nowhere : (xs : List ℕ) → length xs ≡ 0 → each (λ (x : ℕ). opening look k o) xs ≡ Gives (map (λ (x : ℕ). fresh k) xs)
      nowhere [] n = refl
      nowhere (x ∷ xs) n = let no : ⊥ = omega (arith, n) in absurd no

  pub first_put : (o : Option (Tree N)) (t : Tree N) (v : Value) → o ≡ Some t → opening look k (Some t) ≡ Gives (sets k v) → TellsFirst look k xs o (Ok (Some v))
  first_put o t v e g = subst (λ o. TellsFirst look k xs o (Ok (Some v))) (sym e) (record { tells = each_gives (opening look k (Some t)) (set_to k (val v)) xs g })

  pub first_stops : (o : Option (Tree N)) (t : Tree N) (h : Halt) → o ≡ Some t → length xs ≢ 0 → Halts (opening look k (Some t)) h → TellsFirst look k xs o (Err h)
  first_stops o t h e n s = subst (λ o. TellsFirst look k xs o (Err h)) (sym e) (record {
    tells = each_stops (opening look k (Some t)) xs h n s;
  })

-- ---- in the state so far

-- an opening sees what the state shows
pub seen_so : (clock : Calendar) (g : code.Graph) (plan : Plan) (tuples : List TupleType) (live : Live) (over : Over) (s : State Reference) → over ≡ over_of g plan tuples live.frame → Lives live s
    → look_of clock (viewed over [] over.frame.accums over.frame.accums) ≡ seen (world_with clock g plan tuples) s
seen_so clock g plan tuples live over s is lives =
    ap (λ (o : Over). look_of clock (viewed o [] o.frame.accums o.frame.accums)) is
    ∙ look_shows clock (over_of g plan tuples live.frame) s (record { names = (alike_now live.frame.things (reverse live.undo.items) s.names lives.names).each; slots = lives.slots })

module _ (clock : Calendar) (g : code.Graph) (plan : Plan) (tuples : List TupleType) (live : Live) (over : Over) (k : Accum) (attached : Bool) (o : Option Expr) (t : Expr) (is : o ≡ Some t) (made : over ≡ over_of g plan tuples live.frame) where
  abbrev world : World Reference
  world = world_with clock g plan tuples

  abbrev look : Look Reference
  look = look_of clock (viewed over [] over.frame.accums over.frame.accums)

  pub first_told : (v : Value) → opening look k (Some (view t)) ≡ Gives (sets k v) → (s : State Reference) → Lives live s → TellsFirst (seen world s) k (places world attached) (option_map view o) (Ok (Some v))
  first_told v e s lives = first_put (seen world s) k (places world attached) (option_map view o) (view t) v (ap (option_map view) is) (ap (λ l. opening l k (Some (view t))) (sym (seen_so clock g plan tuples live over s made lives)) ∙ e)

  pub first_halted : (n : ℕ) (h : Halt) → n ≡ (if attached then length g.store.now.vertices else 1) → n ≢ 0 → Halts (opening look k (Some (view t))) h
      → (s : State Reference) → Lives live s → TellsFirst (seen world s) k (places world attached) (option_map view o) (Err h)
  first_halted n h many some e s lives =
      first_stops (seen world s) k (places world attached) (option_map view o) (view t) h (ap (option_map view) is) (λ z. some (many ∙ sym (many_places clock g plan tuples attached) ∙ z))
      (subst (λ l. Halts (opening l k (Some (view t))) h) (seen_so clock g plan tuples live over s made lives) e)

-- if there is no target
pub told_nowhere : (clock : Calendar) (g : code.Graph) (plan : Plan) (tuples : List TupleType) (live : Live) (k : Accum) (attached : Bool) (o : Option (Tree Reference)) (n : ℕ) → n ≡ (if attached then length g.store.now.vertices else 1) → n ≡ 0
    → (s : State Reference) → Lives live s → TellsFirst (seen (world_with clock g plan tuples) s) k (places (world_with clock g plan tuples) attached) o (Ok None)
told_nowhere clock g plan tuples live k attached o n many none s lives = first_nowhere (seen (world_with clock g plan tuples) s) k (places (world_with clock g plan tuples) attached) o (many_places clock g plan tuples attached ∙ sym many ∙ none)
