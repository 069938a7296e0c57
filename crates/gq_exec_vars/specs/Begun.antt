-- Begun: when the state that the code opens is the initial state of a run in the definitions.
use Rattle.std.specs.Prelude.{◌≡◌, ◌==◌, ◌≤◌, ℕ, Bool, true, false, if◌then◌else◌, List, [], ◌∷◌, ◌++◌, map, length, Option, Some, None, Result, Ok, Err, slice_get}
use Rattle.std.specs.List.{list_any}
use Rattle.gq_index.specs.declared.store.Graph as code
use Rattle.gq_index.specs.Sights.{sight_of}
use Rattle.gq_index.specs.Walks.{adjacency}
use Rattle.gq_index.specs.Rows.{HaveAttributes, HaveEnds}
use Rattle.gq_graph.specs.Catalog.{most_types}
use Rattle.gq_value.specs.declared.kind.BaseType.{BaseType}
use Rattle.gq_value.specs.declared.value.Value.{Value}
use Rattle.gq_value.specs.declared.value.Wrong.{Wrong}
use Rattle.gq_value.specs.Accums.{INT, Accum, SumAccum, MinAccum, MaxAccum, OrAccum, AndAccum, BitwiseOrAccum, BitwiseAndAccum}
use Rattle.gq_value.specs.AccumViews.{base_of}
use Rattle.gq_value.specs.Val.{Val}
use Rattle.gq_value.specs.Typed.{is_of, number_type, takes}
use Rattle.gq_value.specs.Views.{val}
use Rattle.gq_accum_laws.specs.Holds.{Holds}
use Rattle.gq_accum_laws.specs.After.{fresh}
use Rattle.gq_accum_laws.specs.Reads.{set_to}
use Rattle.gq_accum_laws.specs.Targets.{target_count}
use Rattle.gq_nest.specs.declared.content.Content.{Content}
use Rattle.gq_nest.specs.Shows.{Shows}
use Rattle.gq_nest.specs.Tells.{is_settable}
use Rattle.gq_frame.specs.declared.accums.Accums.{Accums}
use Rattle.gq_frame.specs.Targets.{attached_in}
use Rattle.gq_tree.specs.Tree.{Tree}
use Rattle.gq_rules_typing.specs.Statements.{Bytes}
use Rattle.gq_rules_typing.specs.Scopes.{base_written}
use Rattle.gq_rules_typing.specs.Judging.{Judged}
use Rattle.gq_rules_typing.specs.Sorts.{Fields}
use Rattle.gq_rules_meaning.specs.Answers.{Answer, Gives, Stuck, each}
use Rattle.gq_rules_meaning.specs.Calendars.{Calendar}
use Rattle.gq_rules_meaning.specs.Expressions.{World, Look, setting}
use Rattle.gq_rules_meaning.specs.Statements.{base_of_tree}
use Rattle.gq_rules_meaning.specs.States as states
use Rattle.gq_rules_meaning.specs.States.{State, Variable, Thing}
use Rattle.gq_rules_meaning.specs.Queries.{Defining, bound, fields_of, opening, scope_of, start}
use Rattle.gq_plan_ir.specs.declared.plan.Declared.{Declared}
use Rattle.gq_plan_ir.specs.declared.plan.Parameter.{Parameter}
use Rattle.gq_plan_ir.specs.declared.plan.Plan.{Plan}
use Rattle.gq_plan_ir.specs.Belonging.{world_of}
use Rattle.gq_plan_ir.specs.PlanView.{accum_names, view_declared, view_parameter, view_plan}
use Rattle.gq_plan_ir.specs.Reference as reference
use Rattle.gq_plan_ir.specs.Reference.{Reference, Place, VertexType}
use Rattle.gq_eval_operand.specs.declared.halt.Halt.{Halt}
use Rattle.gq_eval_operand.specs.declared.halt.Halt.TheVariants as halt
use Rattle.gq_eval_operand.specs.Meant.{Halts, Tells}
use Rattle.gq_eval_attributes.specs.declared.tuple_type.TupleType.{TupleType}
use Rattle.gq_eval_attributes.specs.Tuples.{fields_in, tuples_are}
use Rattle.gq_exec_feed.proofs.SlotLemmas.{Every}
use Rattle.gq_frame.specs.declared.frame.Frame.{Frame}
use Rattle.gq_frame.specs.Slots.{AreSound, slots_are}
use Rattle.gq_eval_context.specs.Looks.{graph_for}
use Rattle.gq_eval_context.specs.Viewed.{Over}
use Rattle.gq_frame.specs.declared.live.Live.{Live}
use Rattle.gq_frame.specs.Lives.{Lives}
use Rattle.gq_exec_vars.specs.declared.opening.Opened.{Opened}

-- ---- the initial state

-- all that a run of a plan sees over a graph, with these tuple types
abbrev pub world_with : Calendar → code.Graph → Plan → List TupleType → World Reference
world_with clock g plan tuples = world_of (accum_names plan) (tuples_are tuples) (graph_for g.catalog.now g.store.now.vertices g.store.now.edges plan) clock

-- the context in which an opening is evaluated
abbrev pub over_of : code.Graph → Plan → List TupleType → Frame → Over
over_of g plan tuples frame = record { schema = g.catalog.now; vertices = g.store.now.vertices; edges = g.store.now.edges; plan = plan; tuples = tuples; frame = frame }

-- the initial state of a run, in the definitions
abbrev pub begins : Calendar → code.Graph → Plan → List Val → Answer Wrong (Defining Reference)
begins clock g plan arguments = start (world_with clock g plan []) (λ w k. Gives k) (view_plan plan) arguments

-- tuple types, names and accumulators are those of the definitions
pub record Stands (opened : Opened) (d : Defining Reference) : Type 0 where
  pub tuples : d.tuples ≡ tuples_are opened.tuples
  pub lives : Lives opened.live d.state

-- the result is opened, or it ends as the definitions do
abbrev pub Begins : Answer Wrong (Defining Reference) → Result Opened Halt → Type 0
Begins o (Ok opened) = (d : Defining Reference) × (o ≡ Gives d) × Stands opened d
Begins o (Err h) = Halts o h

-- a content for each target, in a store of `count` vertices, and none is spoiled
pub record AreReady (count : ℕ) (a : Accums) : Type 0 where
  pub vertices : a.slots.vertices ≡ count
  pub contents : length a.contents ≡ target_count a.slots.vertices (attached_in a.slots.declared)
  pub sound : AreSound a

-- ---- the conditions on a graph

-- the index is that of catalog and store, rows have their types' attributes and ends, and the plan knows few edge types
pub record MayOpen (g : code.Graph) (plan : Plan) : Type 0 where
  pub indexed : g.index.now ≡ adjacency (sight_of g.catalog.now g.store.now.vertices g.store.now.edges)
  pub attributes : HaveAttributes g.catalog.now g.store.now.vertices
  pub ends : HaveEnds g.store.now.vertices g.store.now.edges.rows
  pub few : length plan.edges ≤ most_types

-- ---- step by step

-- the result satisfies P, or it ends as the definitions do
abbrev pub Leads : {A : Type 0} → (A → Type 0) → Answer Wrong A → Result (Unit {0}) Halt → Type 0
Leads {A = A} P o (Ok u) = (a : A) × (o ≡ Gives a) × P a
Leads P o (Err h) = Halts o h

-- the old state became the new one, and the rest is still to do
pub record Goes {A S : Type 0} (P : S → A → Type 0) (whole rest : A → Answer Wrong A) (old now : S) : Type 0 where
  pub each : (a : A) → P old a → (b : A) × (whole a ≡ rest b) × P now b

-- ---- types

-- vertex types are known by these numbers, and no others
pub record KnowsTypes (own : List ℕ) (world : World Reference) : Type 0 where
  pub each : (t : ℕ) → list_any (λ m. m == t) own ≡ true → world.words.vertex_type (VertexType t) ≡ Some t
  pub none : (t : ℕ) → list_any (λ m. m == t) own ≡ false → world.words.vertex_type (VertexType t) ≡ None

-- a declared type is this one, both as written and in a run
pub record IsDeclared (own : List ℕ) (declared : Declared) (base : BaseType) : Type 0 where
  pub runs : (world : World Reference) → KnowsTypes own world → base_of_tree world (view_declared declared) ≡ Gives (base_of base)
  pub written : (world : World Reference) → KnowsTypes own world → base_written (scope_of (setting world)) (view_declared declared) ≡ Ok (base_of base)

-- a rule refuses it
abbrev pub is_refused : {A : Type 0} → Judged A → Bool
is_refused (Ok a) = false
is_refused (Err e) = true

-- a declared type isn't one of the graph, both as written and in a run
pub record IsForeign (own : List ℕ) (declared : Declared) : Type 0 where
  pub runs : (world : World Reference) → KnowsTypes own world → base_of_tree world (view_declared declared) ≡ Stuck
  pub written : (world : World Reference) → KnowsTypes own world → is_refused (base_written (scope_of (setting world)) (view_declared declared)) ≡ true

-- the fields of a tuple type: up to the limit, each with a name of its own; or a rule refuses them
abbrev pub fields_as : World Reference → List (Declared × Bytes) → Answer Wrong Fields
fields_as world fields = fields_of world (map (λ f. (view_declared f.0, f.1)) fields)

-- the fields are these
pub record HasFields (own : List ℕ) (fields : List (Declared × Bytes)) (t : TupleType) : Type 0 where
  pub each : (world : World Reference) → KnowsTypes own world → fields_as world fields ≡ Gives (fields_in t)

-- it ends as the fields do
pub record FieldsHalt (own : List ℕ) (fields : List (Declared × Bytes)) (h : Halt) : Type 0 where
  pub each : (world : World Reference) → KnowsTypes own world → Halts (fields_as world fields) h

-- one more tuple type, which gets the next number
pub record AddsTuple (own : List ℕ) (fields : List (Declared × Bytes)) (number : ℕ) (old new : List TupleType) : Type 0 where
  pub tuple : TupleType
  pub fields_are : HasFields own fields tuple
  pub next : length old ≡ number
  pub added : new ≡ old ++ tuple ∷ []

-- ---- parameters

-- no accumulator is declared
abbrev pub no_accums : ℕ → Accums
no_accums count = record { slots = record { declared = []; vertices = count }; contents = [] }

-- names and values are those of the parameters, and there are no accumulators
pub record IsBound (plan : Plan) (arguments : List Value) (live : Live) : Type 0 where
  pub each : (world : World Reference) → KnowsTypes plan.vertices world
      → (names : List (Reference × Thing)) × (bound world (map view_parameter plan.parameters) (map val arguments) ≡ Gives names) × Lives live (record { names = names; slots = [] })

-- it ends as the parameters do
pub record BoundHalts (plan : Plan) (arguments : List Value) (h : Halt) : Type 0 where
  pub each : (world : World Reference) → KnowsTypes plan.vertices world → Halts (bound world (map view_parameter plan.parameters) (map val arguments)) h

-- why a parameter doesn't come into view: its type is none of the graph's
abbrev pub BindHalts : Plan → Parameter → Halt → Type 0
BindHalts plan parameter halt.Stuck = IsForeign plan.vertices parameter.base
BindHalts plan parameter halt.OutOfMemory = Unit {0}
BindHalts plan parameter h = ⊥

-- one more parameter comes into view
pub record Binds (plan : Plan) (parameter : Parameter) (argument : Value) (old new : Live) : Type 0 where
  pub base : BaseType
  pub declared : IsDeclared plan.vertices parameter.base base
  pub lives : (s : State Reference) → Lives old s → Lives new (states.with_new (Place parameter.place) (Variable (base_of base) (val argument)) s)

-- ---- accumulators

-- the initial content of an accumulator of a kind: the kind's own, or one that is set to a value
abbrev pub opens_with : (k : Accum) → Option Value → Holds k
opens_with k None = fresh k
opens_with k (Some v) = set_to k (val v)

-- the content that a value sets a kind to
abbrev pub sets : (k : Accum) → Value → Holds k
sets k v = set_to k (val v)

-- a value of the type that a kind is set to, if that is a number
abbrev pub Sets : Accum → Val → Type 0
Sets (SumAccum n) v = is_of (number_type n) v ≡ true
Sets (MinAccum n) v = is_of (number_type n) v ≡ true
Sets (MaxAccum n) v = is_of (number_type n) v ≡ true
Sets BitwiseOrAccum v = is_of INT v ≡ true
Sets BitwiseAndAccum v = is_of INT v ≡ true
Sets OrAccum v = Unit {0}
Sets AndAccum v = Unit {0}
Sets k v = ⊥

-- the answer is the initial value of each of some targets
pub record TellsFirst {N : Type 0} (look : Look N) (k : Accum) (targets : List ℕ) (tree : Option (Tree N)) (result : Result (Option Value) Halt) : Type 0 where
  pub tells : Tells (λ (v : Option Value). map (λ (x : ℕ). opens_with k v) targets) (each (λ (x : ℕ). opening look k tree) targets) result

-- a value that an accumulator opens with is one that its kind takes
abbrev pub CanOpen : Accum → Option Value → Type 0
CanOpen k None = Unit {0}
CanOpen k (Some v) = (is_settable k ≡ true) × (takes k (val v) ≡ true)

-- `count` more contents, each of which shows this
pub record AddsContents (k : Accum) (h : Holds k) (count : ℕ) (old new : List Content) : Type 0 where
  pub more : List Content
  pub added : new ≡ old ++ more
  pub many : length more ≡ count
  pub shows : Every (λ c. Shows k c h) more

-- one more accumulator, with a content for each target
pub record AddsSlot (k : Accum) (attached : Bool) (h : Holds k) (old new : Accums) : Type 0 where
  pub each : (targets : List ℕ) → length targets ≡ (if attached then old.slots.vertices else 1)
      → slots_are new ≡ slots_are old ++ record { name = reference.Slot (length old.slots.declared); attached = attached; kind = k; contents = map (λ v. h) targets } ∷ []
