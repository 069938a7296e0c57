-- Queries: a query's run: its openings over the arguments, then its statements. The result is its output.
use Rattle.std.specs.Prelude.{ℕ, Bool, true, false, List, [], ◌∷◌, ◌++◌, Option, Some, None, Ok, Err}
use Rattle.std.specs.List.{range_with_len}
use Rattle.gq_rules_typing.specs.Tree.{Tree}
use Rattle.gq_value.specs.declared.value.Wrong.{Wrong}
use Rattle.gq_value.specs.Val.{Val}
use Rattle.gq_value.specs.Accums.{Accum}
use Rattle.gq_rules_typing.specs.Holds.{Holds}
use Rattle.gq_rules_typing.specs.After.{fresh}
use Rattle.gq_rules_typing.specs.Reads.{set_to}
use Rattle.gq_rules_typing.specs.Statements.{Bytes, BaseTree, KindTree, Definition, TupleType, Accums, Parameter, Query, QueryOver}
use Rattle.gq_rules_typing.specs.Sorts.{Fields}
use Rattle.gq_rules_typing.specs.Words.{Setting, by_name}
use Rattle.gq_rules_typing.specs.Judging.{Judged}
use Rattle.gq_rules_typing.specs.Kinds.{set_type}
use Rattle.gq_rules_typing.specs.Scopes.{Scope}
use Rattle.gq_rules_typing.specs.KindTypes.{kind_written, fields_written}
use Rattle.gq_rules_meaning.specs.Answers.{Answer, Gives, Stuck, ◌>>=◌, blaming, found, each, through}
use Rattle.gq_rules_meaning.specs.Calendars.{Calendar}
use Rattle.gq_rules_meaning.specs.Graphs.{Graph, vertex_count}
use Rattle.gq_rules_meaning.specs.Expressions.{World, setting, Look, value_as}
use Rattle.gq_rules_meaning.specs.States.{Thing, Variable, State, seen}
use Rattle.gq_rules_meaning.specs.Outs.{Out}
use Rattle.gq_rules_meaning.specs.Statements.{Fault, Evaluation, base_of_tree}
use Rattle.gq_rules_meaning.specs.Runs.{run_all}

-- ---- openings

-- the kind's own, or one that is set to a value
abbrev pub opening : {N : Type 0} → Look N → (k : Accum) → Option (Tree N) → Answer Wrong (Holds k)
opening look k None = Gives (fresh k)
opening look k (Some t) = found (set_type k) >>= λ b. value_as look b t >>= λ v. Gives (set_to k v)

-- an attached accumulator is opened once for each vertex, a global one once
abbrev pub places : {N : Type 0} → World N → Bool → List ℕ
places world true = range_with_len 0 (vertex_count world.graph)
places world false = 0 ∷ []

abbrev pub opened : {N : Type 0} → World N → (k : Accum) → State N → Bool × N × Option (Tree N) → Answer Wrong (State N)
opened world k s a = each (λ v. opening (seen world s) k a.2) (places world a.0) >>= λ cs. Gives (record s { slots = s.slots ++ record { name = a.1; attached = a.0; kind = k; contents = cs } ∷ [] })

-- the tuple types and the accumulators declared so far
pub record Defining (N : Type 0) : Type 0 where
  pub tuples : List (N × Fields)
  pub state : State N

-- as a rule gives it, or stuck
abbrev pub judged : {F A : Type 0} → Judged A → Answer F A
judged (Ok a) = Gives a
judged (Err e) = Stuck

abbrev pub scope_of : {N : Type 0} → Setting N → Scope N
scope_of setting = record { setting = setting; names = []; with_paths = false }

-- the fields of a tuple type
abbrev pub fields_of : {N : Type 0} → World N → List (BaseTree N × Bytes) → Answer Wrong Fields
fields_of world fs = judged (fields_written (scope_of (setting world)) 16 [] fs)

abbrev pub with_tuples : {N : Type 0} → List (N × Fields) → World N → World N
with_tuples tuples world = record world { tuples = tuples }

-- a declaration sees the tuple types before it; a rule gives the kind that K represents
abbrev pub defined : {N K : Type 0} → World N → (World N → K → Answer Wrong Accum) → Defining N → Definition N K → Answer Wrong (Defining N)
defined world kinds d (TupleType fs x) = fields_of (with_tuples d.tuples world) fs >>= λ fields. Gives (record d { tuples = d.tuples ++ (x, fields) ∷ [] })
defined world kinds d (Accums k accums) = kinds (with_tuples d.tuples world) k >>= λ kind. through (opened (with_tuples d.tuples world) kind) d.state accums >>= λ s. Gives (record d { state = s })

-- ---- the query

-- each parameter with its argument
abbrev pub bound : {N : Type 0} → World N → List (Parameter N) → List Val → Answer Wrong (List (N × Thing))
bound world [] [] = Gives []
bound world (p ∷ ps) (v ∷ vs) = base_of_tree world p.base >>= λ b. bound world ps vs >>= λ names. Gives ((p.name, Variable b v) ∷ names)
bound world _ _ = Stuck

abbrev pub start : {N K : Type 0} → World N → (World N → K → Answer Wrong Accum) → QueryOver N K → List Val → Answer Wrong (Defining N)
start world kinds q arguments = bound world q.parameters arguments >>= λ names. through (defined world kinds) (record { tuples = []; state = record { names = names; slots = [] } }) q.definitions

-- the output with a bound on loop iterations, an object for each PRINT; or the first fault
abbrev pub run_over : {N K : Type 0} → World N → (World N → K → Answer Wrong Accum) → QueryOver N K → List Val → ℕ → Answer Fault (List (List (Bytes × Out)))
run_over world kinds q arguments turns = blaming Evaluation (start world kinds q arguments) >>= λ d. run_all (with_tuples d.tuples world) q.statements (record { state = d.state; turns = turns; printed = [] }) >>= λ r. Gives r.printed

-- a plan has its kinds already
abbrev pub run_plan : {N : Type 0} → World N → QueryOver N Accum → List Val → ℕ → Answer Fault (List (List (Bytes × Out)))
run_plan world q arguments turns = run_over world (λ w k. Gives k) q arguments turns

-- ---- by names

-- the kind that a tree represents
abbrev pub kind_of : {N : Type 0} → World N → KindTree N → Answer Wrong Accum
kind_of world k = judged (kind_written (scope_of (setting world)) [] k)

-- nothing is declared yet
abbrev pub world_of : Graph → Calendar → World Bytes
world_of g clock = record { words = by_name g.sorts; tuples = []; graph = g; calendar = clock }

-- a query as written
abbrev pub run_query : Graph → Calendar → Query Bytes → List Val → ℕ → Answer Fault (List (List (Bytes × Out)))
run_query g clock q arguments turns = run_over (world_of g clock) kind_of q arguments turns
