-- OpenLemmas: accumulators and definitions, one after the other.
use Rattle.std.proofs.Common.{◌≡◌, ℕ, suc, ◌+◌, ◌<◌, ◌≤◌, List, [], ◌∷◌, ◌++◌, drop, map, length, get_or, reverse, if◌then◌else◌, Option, Result, Ok, Err, refl, sym, ap, subst, ◌∙◌, arith}
use Rattle.std.specs.Prelude.{IfErr, IsErrAnd, OnOk}
use Rattle.std.specs.Option.{option_map}
use Rattle.std.proofs.lemmas.List.{drop_more, drop_all}
use Rattle.std.proofs.lemmas.Result.{err_from_is_err_and}
use Rattle.gq_index.specs.declared.store.Graph as code
use Rattle.gq_index.specs.Sights.{sight_of}
use Rattle.gq_index.specs.Walks.{adjacency}
use Rattle.gq_index.specs.Rows.{HaveAttributes, HaveEnds}
use Rattle.gq_value.specs.declared.value.Value.{Value}
use Rattle.gq_value.specs.declared.value.Wrong.{Wrong}
use Rattle.gq_value.specs.declared.kind.Kind.{Kind}
use Rattle.gq_value.specs.Accums.{Accum}
use Rattle.gq_value.specs.AccumViews.{accum_of}
use Rattle.gq_value.specs.Val.{Val}
use Rattle.gq_value.specs.Views.{val}
use Rattle.gq_frame.specs.declared.accums.Accums.{Accums}
use Rattle.gq_rules_meaning.specs.Answers.{Answer, Gives, ◌>>=◌, each, through}
use Rattle.gq_rules_meaning.specs.Calendars.{Calendar}
use Rattle.gq_rules_meaning.specs.Expressions.{World}
use Rattle.gq_rules_meaning.specs.States as states
use Rattle.gq_rules_meaning.specs.States.{State, Thing, seen}
use Rattle.gq_rules_meaning.specs.Queries.{Defining, bound, defined, opened, opening, places, with_tuples}
use Rattle.gq_plan_ir.specs.declared.plan.Accum as code_accum
use Rattle.gq_plan_ir.specs.declared.plan.Definition.{Definition}
use Rattle.gq_plan_ir.specs.declared.plan.Definition.TheVariants as defs
use Rattle.gq_plan_ir.specs.declared.plan.Declared.{Declared}
use Rattle.gq_plan_ir.specs.declared.plan.Plan.{Plan}
use Rattle.gq_plan_ir.specs.ExprView.{view}
use Rattle.gq_plan_ir.specs.PlanView.{view_accum, view_definition, view_parameter}
use Rattle.gq_plan_ir.specs.Reference as reference
use Rattle.gq_plan_ir.specs.Reference.{Reference}
use Rattle.gq_rules_typing.specs.Statements.{Bytes}
use Rattle.gq_rules_typing.specs.Sorts.{Fields}
use Rattle.gq_eval_operand.specs.declared.halt.Halt.{Halt}
use Rattle.gq_eval_operand.specs.Meant.{Halts}
use Rattle.gq_eval_attributes.specs.declared.tuple_type.TupleType.{TupleType}
use Rattle.gq_eval_attributes.specs.Tuples.{fields_in, tuples_are, tuples_from}
use Rattle.gq_frame.specs.Slots.{AreSound, slots_are}
use Rattle.gq_frame.specs.declared.live.Live.{Live}
use Rattle.gq_frame.specs.Lives.{Lives, Unwinds}
use Rattle.gq_exec_vars.specs.declared.opening.Opened.{Opened}
use Rattle.gq_exec_vars.specs.Begun.{AddsSlot, AddsTuple, AreReady, Begins, BoundHalts, FieldsHalt, Goes, IsBound, KnowsTypes, Leads, MayOpen, Stands, TellsFirst, begins, fields_as, no_accums, opens_with, world_with}
use Rattle.gq_exec_vars.proofs.NameLemmas.{knows_own}
use Rattle.gq_exec_vars.proofs.ValueLemmas.{many_places, stops}

-- ---- one after the other

halts_same : {A : Type 0} (o p : Answer Wrong A) (h : Halt) → o ≡ p → Halts p h → Halts o h
halts_same o p h e g = subst (λ q. Halts q h) (sym e) g

leads_same : {A : Type 0} (P : A → Type 0) (o p : Answer Wrong A) (r : Result (Unit {0}) Halt) → o ≡ p → Leads P p r → Leads P o r
leads_same P o p r e l = subst (λ q. Leads P q r) (sym e) l

-- the value that a `?` returns
pub leads_returned : {A : Type 0} (P : A → Type 0) (o : Answer Wrong A) (h : Halt) (r : Result (Unit {0}) Halt) → IsErrAnd r (λ y. y ≡ h) → Halts o h → Leads P o r
leads_returned P o h r e g = let p = err_from_is_err_and r e in subst (Leads P o) (sym (p.1 ∙ ap Err p.2)) g

module _ {A S : Type 0} (P : S → A → Type 0) where
  pub goes_none : (whole : A → Answer Wrong A) (now : S) → Goes P whole whole now now
  goes_none whole now = record { each = λ a p. (a, refl, p) }

  pub goes_more : (whole rest step next : A → Answer Wrong A) (old mid new : S) → ((a : A) → rest a ≡ (step a >>= next)) → ((a : A) → P mid a → Leads (P new) (step a) (Ok tt)) → Goes P whole rest old mid → Goes P whole next old new
  goes_more whole rest step next old mid new is leads goes = record {
    each = λ a p.
        let g = goes.each a p in
        let l = leads g.0 g.2 in
        (l.0, g.1 ∙ is g.0 ∙ ap (λ o. o >>= next) l.1, l.2);
  }

  pub goes_stops : (whole rest step next : A → Answer Wrong A) (old mid new : S) (h : Halt) → ((a : A) → rest a ≡ (step a >>= next)) → ((a : A) → P mid a → Halts (step a) h) → Goes P whole rest old mid → (a : A) → P old a → Halts (whole a) h
  goes_stops whole rest step next old mid new h is halts goes a p =
      let g = goes.each a p in
      halts_same (whole a) (step g.0 >>= next) h (g.1 ∙ is g.0) (stops (step g.0) next h (halts g.0 g.2))

  pub goes_all : (whole rest : A → Answer Wrong A) (old now : S) → ((a : A) → rest a ≡ Gives a) → Goes P whole rest old now → (a : A) → P old a → Leads (P now) (whole a) (Ok tt)
  goes_all whole rest old now is goes a p = let g = goes.each a p in (g.0, g.1 ∙ is g.0, g.2)

-- a loop over a list, as the code has it
module _ {A X Y : Type 0} (f : A → Y → Answer Wrong A) (v : X → Y) where
  pub through_more : (xs : List X) (i : ℕ) (x : X) → i < length xs → x ≡ get_or xs i x → (a : A) → through f a (map v (drop i xs)) ≡ (f a (v x) >>= λ b. through f b (map v (drop (i + 1) xs)))
  through_more xs i x n is a = ap (λ ys. through f a (map v ys)) (drop_more xs i x n ∙ ap (λ y. y ∷ drop (i + 1) xs) (sym is))

  pub through_all : (xs : List X) (i : ℕ) → length xs ≤ i → (a : A) → through f a (map v (drop i xs)) ≡ Gives a
  through_all xs i l a = ap (λ ys. through f a (map v ys)) (drop_all i xs l)

-- ---- accumulators

module _ (world : World Reference) (k : Accum) (trees : List code_accum.Accum) where
  abbrev pub accums_from : ℕ → State Reference → Answer Wrong (State Reference)
  accums_from i s = through (opened world k) s (map view_accum (drop i trees))

  abbrev pub GoesAccums : ℕ → Live → Live → Type 0
  GoesAccums i old now = Goes {A = State Reference} {S = Live} Lives (accums_from 0) (accums_from i) old now

  abbrev one : code_accum.Accum → State Reference → Answer Wrong (State Reference)
  one tree s = opened world k s (view_accum tree)

  pub accums_begin : (live : Live) → GoesAccums 0 live live
  accums_begin live = goes_none Lives (accums_from 0) live

  pub accums_more : (i : ℕ) (tree : code_accum.Accum) (old mid new : Live) → i < length trees → tree ≡ get_or trees i tree → ((s : State Reference) → Lives mid s → Leads (Lives new) (opened world k s (view_accum tree)) (Ok tt))
      → GoesAccums i old mid → GoesAccums (i + 1) old new
  accums_more i tree old mid new n is leads goes = goes_more Lives (accums_from 0) (accums_from i) (one tree) (accums_from (i + 1)) old mid new (through_more (opened world k) view_accum trees i tree n is) leads goes

  pub accums_stop : (i : ℕ) (tree : code_accum.Accum) (old mid new : Live) (h : Halt) (r : Result (Unit {0}) Halt) → i < length trees → tree ≡ get_or trees i tree → IsErrAnd r (λ y. y ≡ h)
      → ((s : State Reference) → Lives mid s → Halts (opened world k s (view_accum tree)) h)
      → GoesAccums i old mid → (s : State Reference) → Lives old s → Leads (Lives new) (accums_from 0 s) r
  accums_stop i tree old mid new h r n is e halts goes s l =
      leads_returned (Lives new) (accums_from 0 s) h r e (goes_stops Lives (accums_from 0) (accums_from i) (one tree) (accums_from (i + 1)) old mid mid h (through_more (opened world k) view_accum trees i tree n is) halts goes s l)

  pub accums_end : (i : ℕ) (old now : Live) → length trees ≤ i → GoesAccums i old now → (s : State Reference) → Lives old s → Leads (Lives now) (accums_from 0 s) (Ok tt)
  accums_end i old now n goes = goes_all Lives (accums_from 0) (accums_from i) old now (through_all (opened world k) view_accum trees i n) goes

-- ---- one accumulator

pub accum_opens : (world : World Reference) (k : Accum) (tree : code_accum.Accum) (first : Option Value) (old new : Live) (s : State Reference)
    → TellsFirst (seen world s) k (places world tree.attached) (option_map view tree.opening) (Ok first)
    → AddsSlot k tree.attached (opens_with k first) old.frame.accums new.frame.accums
    → length (places world tree.attached) ≡ (if tree.attached then old.frame.accums.slots.vertices else 1)
    → length old.frame.accums.slots.declared ≡ tree.slot
    → new.frame.things ≡ old.frame.things → new.undo.items ≡ old.undo.items
    → Lives old s → Leads (Lives new) (opened world k s (view_accum tree)) (Ok tt)
accum_opens world k tree first old new s told adds many next things undo lives = (
  record s { slots = s.slots ++ slot ∷ [] },
  ap (λ o. o >>= λ cs. Gives (record s { slots = s.slots ++ record { name = reference.Slot tree.slot; attached = tree.attached; kind = k; contents = cs } ∷ [] })) told.tells,
  record {
    names = subst (λ ts. Unwinds ts (reverse new.undo.items) s.names) (sym things) (subst (λ us. Unwinds old.frame.things (reverse us) s.names) (sym undo) lives.names);
    slots =
        ap (λ ss. ss ++ slot ∷ []) lives.slots
        ∙ ap (λ (n : ℕ). slots_are old.frame.accums ++ record { name = reference.Slot n; attached = tree.attached; kind = k; contents = map (λ (x : ℕ). opens_with k first) (places world tree.attached) } ∷ []) (sym next)
        ∙ sym (adds.each (places world tree.attached) many);
  },
)
  where
    slot : states.Slot Reference
    slot = record { name = reference.Slot tree.slot; attached = tree.attached; kind = k; contents = map (λ (x : ℕ). opens_with k first) (places world tree.attached) }

pub accum_halts : (world : World Reference) (k : Accum) (tree : code_accum.Accum) (s : State Reference) (h : Halt)
    → TellsFirst (seen world s) k (places world tree.attached) (option_map view tree.opening) (Err h) → Halts (opened world k s (view_accum tree)) h
accum_halts world k tree s h e = stops (each (λ (x : ℕ). opening (seen world s) k (option_map view tree.opening)) (places world tree.attached)) (λ cs. Gives (record s { slots = s.slots ++ record { name = reference.Slot tree.slot; attached = tree.attached; kind = k; contents = cs } ∷ [] })) h e.tells

-- the same for the results of the code
module _ (clock : Calendar) (g : code.Graph) (plan : Plan) (tuples : List TupleType) (k : Accum) (tree : code_accum.Accum) where
  abbrev world_at : World Reference
  world_at = world_with clock g plan tuples

  pub accum_done : (first : Option Value) (old new : Live)
      → ((s : State Reference) → Lives old s → TellsFirst (seen world_at s) k (places world_at tree.attached) (option_map view tree.opening) (Ok first))
      → ((count : ℕ) → AreReady count old.frame.accums → AddsSlot k tree.attached (opens_with k first) old.frame.accums new.frame.accums)
      → AreReady (length g.store.now.vertices) old.frame.accums → length old.frame.accums.slots.declared ≡ tree.slot → new.frame.things ≡ old.frame.things → new.undo.items ≡ old.undo.items
      → (s : State Reference) → Lives old s → Leads (Lives new) (opened world_at k s (view_accum tree)) (Ok tt)
  accum_done first old new told adds ready next things undo s lives =
      accum_opens world_at k tree first old new s (told s lives) (adds (length g.store.now.vertices) ready)
      (many_places clock g plan tuples tree.attached ∙ ap (λ (n : ℕ). if tree.attached then n else 1) (sym ready.vertices)) next things undo lives

  pub accum_ends : (old new : Live) (h : Halt) (r : Result (Unit {0}) Halt) → IsErrAnd r (λ y. y ≡ h)
      → ((s : State Reference) → Lives old s → TellsFirst (seen world_at s) k (places world_at tree.attached) (option_map view tree.opening) (Err h))
      → (s : State Reference) → Lives old s → Leads (Lives new) (opened world_at k s (view_accum tree)) r
  accum_ends old new h r e told s lives = leads_returned (Lives new) (opened world_at k s (view_accum tree)) h r e (accum_halts world_at k tree s h (told s lives))

-- ---- one definition

-- the fields' end, as the code returns it
pub fields_end : (own lent : List ℕ) (fields given : List (Declared × Bytes)) (h : Halt) (r : Result (Unit {0}) Halt) → IsErrAnd r (λ y. y ≡ h) → lent ≡ own → given ≡ fields → FieldsHalt lent given h → IfErr r (FieldsHalt own fields)
fields_end own lent fields given h r e o f halts =
    let p = err_from_is_err_and r e in
    subst (λ x. IfErr x (FieldsHalt own fields)) (sym (p.1 ∙ ap Err p.2)) (subst (λ os. FieldsHalt os fields h) o (subst (λ fs. FieldsHalt lent fs h) f halts))

tuples_more : (n m : ℕ) (ts : List TupleType) (t : TupleType) → m ≡ n + length ts → tuples_from n (ts ++ t ∷ []) ≡ tuples_from n ts ++ (reference.TupleType m, fields_in t) ∷ []
tuples_more n m [] t e = ap (λ (i : ℕ). (reference.TupleType i, fields_in t) ∷ []) (let f : n ≡ m = omega (arith, e) in f)
tuples_more n m (r ∷ ts) t e = ap (λ rest. (reference.TupleType n, fields_in r) ∷ rest) (tuples_more (suc n) m ts t (omega (arith, e)))

module _ (clock : Calendar) (g : code.Graph) (plan : Plan) where
  abbrev base_world : World Reference
  base_world = world_with clock g plan []

  known_in : (tuples : List (Reference × Fields)) → KnowsTypes plan.vertices (with_tuples tuples base_world)
  known_in tuples = record { each = (knows_own clock g plan []).each; none = (knows_own clock g plan []).none }

  abbrev pub rule : Defining Reference → Definition → Answer Wrong (Defining Reference)
  rule d definition = defined base_world (λ w k. Gives k) d (view_definition definition)

  abbrev pub definitions_from : ℕ → Defining Reference → Answer Wrong (Defining Reference)
  definitions_from i d = through (defined base_world (λ w k. Gives k)) d (map view_definition (drop i plan.definitions))

  abbrev pub GoesDefinitions : ℕ → Opened → Opened → Type 0
  GoesDefinitions i old now = Goes {A = Defining Reference} {S = Opened} Stands (definitions_from 0) (definitions_from i) old now

  pub definitions_begin : (now : Opened) → GoesDefinitions 0 now now
  definitions_begin now = goes_none Stands (definitions_from 0) now

  pub definitions_more : (i : ℕ) (definition : Definition) (old mid new : Opened) → i < length plan.definitions → definition ≡ get_or plan.definitions i definition
      → ((d : Defining Reference) → Stands mid d → Leads (Stands new) (rule d definition) (Ok tt)) → GoesDefinitions i old mid → GoesDefinitions (i + 1) old new
  definitions_more i definition old mid new n is leads goes =
      goes_more Stands (definitions_from 0) (definitions_from i) (λ d. rule d definition) (definitions_from (i + 1)) old mid new (through_more (defined base_world (λ w k. Gives k)) view_definition plan.definitions i definition n is) leads goes

  pub definitions_stop : (i : ℕ) (definition : Definition) (old mid new : Opened) (h : Halt) (r : Result (Unit {0}) Halt) → i < length plan.definitions → definition ≡ get_or plan.definitions i definition → IsErrAnd r (λ y. y ≡ h)
      → ((d : Defining Reference) → Stands mid d → Halts (rule d definition) h) → GoesDefinitions i old mid
      → (d : Defining Reference) → Stands old d → Leads (Stands new) (definitions_from 0 d) r
  definitions_stop i definition old mid new h r n is e halts goes d stands =
      leads_returned (Stands new) (definitions_from 0 d) h r e
      (goes_stops Stands (definitions_from 0) (definitions_from i) (λ d. rule d definition) (definitions_from (i + 1)) old mid mid h (through_more (defined base_world (λ w k. Gives k)) view_definition plan.definitions i definition n is) halts goes d stands)

  pub definitions_end : (i : ℕ) (old now : Opened) → length plan.definitions ≤ i → GoesDefinitions i old now → (d : Defining Reference) → Stands old d → Leads (Stands now) (definitions_from 0 d) (Ok tt)
  definitions_end i old now n goes = goes_all Stands (definitions_from 0) (definitions_from i) old now (through_all (defined base_world (λ w k. Gives k)) view_definition plan.definitions i n) goes

  pub tuple_defined : (definition : Definition) (fields : List (Declared × Bytes)) (number : ℕ) (old new : Opened) → definition ≡ defs.Tuple fields number → AddsTuple plan.vertices fields number old.tuples new.tuples → new.live ≡ old.live
      → (d : Defining Reference) → Stands old d → Leads (Stands new) (rule d definition) (Ok tt)
  tuple_defined definition fields number old new is adds live d stands = leads_same (Stands new) (rule d definition) (rule d (defs.Tuple fields number)) (Ok tt) (ap (rule d) is) (
    record d { tuples = d.tuples ++ (reference.TupleType number, fields_in adds.tuple) ∷ [] },
    ap (λ o. o >>= λ fields. Gives (record d { tuples = d.tuples ++ (reference.TupleType number, fields) ∷ [] })) (adds.fields_are.each (with_tuples d.tuples base_world) (known_in d.tuples)),
    record {
      tuples =
          ap (λ ts. ts ++ (reference.TupleType number, fields_in adds.tuple) ∷ []) stands.tuples
          ∙ sym (ap tuples_are adds.added ∙ tuples_more 0 number old.tuples adds.tuple (let n = adds.next in omega (arith, n)));
      lives = subst (λ (l : Live). Lives l d.state) (sym live) stands.lives;
    },
  )

  pub tuple_halts : (definition : Definition) (fields : List (Declared × Bytes)) (number : ℕ) (new : Opened) (h : Halt) → definition ≡ defs.Tuple fields number → FieldsHalt plan.vertices fields h
      → (d : Defining Reference) → Leads (Stands new) (rule d definition) (Err h)
  tuple_halts definition fields number new h is halts d =
      halts_same (rule d definition) (rule d (defs.Tuple fields number)) h (ap (rule d) is)
      (stops (fields_as (with_tuples d.tuples base_world) fields) (λ fs. Gives (record d { tuples = d.tuples ++ (reference.TupleType number, fs) ∷ [] })) h (halts.each (with_tuples d.tuples base_world) (known_in d.tuples)))

  -- by what adds it
  pub tuple_led : (definition : Definition) (fields : List (Declared × Bytes)) (number : ℕ) (old new : Opened) (r : Result (Unit {0}) Halt) → definition ≡ defs.Tuple fields number → OnOk r (AddsTuple plan.vertices fields number old.tuples new.tuples)
      → IfErr r (FieldsHalt plan.vertices fields) → new.live ≡ old.live → (d : Defining Reference) → Stands old d → Leads (Stands new) (rule d definition) r
  tuple_led definition fields number old new (Ok u) is adds halts live d stands = tuple_defined definition fields number old new is adds live d stands
  tuple_led definition fields number old new (Err h) is adds halts live d stands = tuple_halts definition fields number new h is halts d

  pub accums_defined : (definition : Definition) (kind : Kind) (trees : List code_accum.Accum) (old new : Opened) (r : Result (Unit {0}) Halt) → definition ≡ defs.Accums kind trees → new.tuples ≡ old.tuples
      → ((s : State Reference) → Lives old.live s → Leads (Lives new.live) (through (opened (world_with clock g plan old.tuples) (accum_of kind)) s (map view_accum trees)) r)
      → (d : Defining Reference) → Stands old d → Leads (Stands new) (rule d definition) r
  accums_defined definition kind trees old new r is tuples leads d stands = leads_same (Stands new) (rule d definition) (joined (world_with clock g plan old.tuples)) r (ap (rule d) is ∙ ap (λ ts. joined (with_tuples ts base_world)) stands.tuples) (by_result r (leads d.state stands.lives))
    where
      joined : World Reference → Answer Wrong (Defining Reference)
      joined world = through (opened world (accum_of kind)) d.state (map view_accum trees) >>= λ s. Gives (record d { state = s })

      inner : Answer Wrong (State Reference)
      inner = through (opened (world_with clock g plan old.tuples) (accum_of kind)) d.state (map view_accum trees)

      by_result : (r : Result (Unit {0}) Halt) → Leads (Lives new.live) inner r → Leads (Stands new) (joined (world_with clock g plan old.tuples)) r
      by_result (Ok u) l = (
        record d { state = l.0 },
        ap (λ o. o >>= λ s. Gives (record d { state = s })) l.1,
        record { tuples = stands.tuples ∙ ap tuples_are (sym tuples); lives = l.2 },
      )
      by_result (Err h) l = stops inner (λ s. Gives (record d { state = s })) h l

  -- ---- the whole

  abbrev whole : List Val → Answer Wrong (Defining Reference)
  whole arguments = begins clock g plan arguments

  abbrev behind : List (Reference × Thing) → Answer Wrong (Defining Reference)
  behind names = through (defined base_world (λ w k. Gives k)) (record { tuples = []; state = record { names = names; slots = [] } }) (map view_definition plan.definitions)

  module _ (arguments : List Value) (live : Live) (old new : Opened) (r : Result (Unit {0}) Halt) (is_bound : IsBound plan arguments live) (is_live : old.live ≡ live) (no_tuples : old.tuples ≡ [])
      (leads : (d : Defining Reference) → Stands old d → Leads (Stands new) (through (defined base_world (λ w k. Gives k)) d (map view_definition plan.definitions)) r) where
    abbrev names_bound : List (Reference × Thing)
    names_bound = (is_bound.each base_world (knows_own clock g plan [])).0

    begun : whole (map val arguments) ≡ behind names_bound
    begun = ap (λ o. o >>= behind) (is_bound.each base_world (knows_own clock g plan [])).1

    led : Leads (Stands new) (behind names_bound) r
    led = leads (record { tuples = []; state = record { names = names_bound; slots = [] } }) (record {
      tuples = sym (ap tuples_are no_tuples);
      lives = subst (λ (l : Live). Lives l (record { names = names_bound; slots = [] })) (sym is_live) (is_bound.each base_world (knows_own clock g plan [])).2;
    })

    pub begins_ok : r ≡ Ok tt → Begins (whole (map val arguments)) (Ok new)
    begins_ok e = let l : Leads (Stands new) (behind names_bound) (Ok tt) = subst (Leads (Stands new) (behind names_bound)) e led in (l.0, begun ∙ l.1, l.2)

    pub begins_err : (h : Halt) (result : Result Opened Halt) → IsErrAnd result (λ y. y ≡ h) → r ≡ Err h → Begins (whole (map val arguments)) result
    begins_err h result is e =
        let p = err_from_is_err_and result is in
        subst (Begins (whole (map val arguments))) (sym (p.1 ∙ ap Err p.2)) (halts_same (whole (map val arguments)) (behind names_bound) h begun (subst (Leads (Stands new) (behind names_bound)) e led))

  -- its parameters can't be bound
  pub begins_unbound : (arguments : List Value) (h : Halt) (result : Result Opened Halt) → IsErrAnd result (λ y. y ≡ h) → BoundHalts plan arguments h → Begins (whole (map val arguments)) result
  begins_unbound arguments h result is halts =
      let p = err_from_is_err_and result is in
      subst (Begins (whole (map val arguments))) (sym (p.1 ∙ ap Err p.2))
      (stops (bound base_world (map view_parameter plan.parameters) (map val arguments)) behind h (halts.each base_world (knows_own clock g plan [])))

-- ---- before the first definition

pub may_open : (g : code.Graph) (plan : Plan) → g.index.now ≡ adjacency (sight_of g.catalog.now g.store.now.vertices g.store.now.edges) → HaveAttributes g.catalog.now g.store.now.vertices → HaveEnds g.store.now.vertices g.store.now.edges.rows
    → length plan.edges ≤ 256 → MayOpen g plan
may_open g plan indexed attributes ends few = record { indexed = indexed; attributes = attributes; ends = ends; few = few }

none_sound : (count : ℕ) → AreSound (no_accums count)
none_sound count = record { each = λ n v s c at l is. absurd (cc at) }

pub ready_none : (count : ℕ) (a : Accums) → a ≡ no_accums count → AreReady count a
ready_none count a e = subst (AreReady count) (sym e) (record { vertices = refl; contents = refl; sound = none_sound count })
