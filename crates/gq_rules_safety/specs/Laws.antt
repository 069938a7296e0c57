-- Laws: the laws of all typed SELECTs, statements and queries. N is the representation of a name.
use Rattle.std.specs.Prelude.{◌≡◌, ℕ, true, Ok, List, [], ◌∷◌}
use Rattle.gq_value.specs.Val.{Val}
use Rattle.gq_value.specs.Accums.{Base, Accum}
use Rattle.std.specs.List.{list_all}
use Rattle.gq_rules_typing.specs.Selecting.{Select}
use Rattle.gq_rules_typing.specs.Statements.{Bytes, Stmts, Parameter, Query, QueryOver}
use Rattle.gq_rules_typing.specs.Sorts.{Fields}
use Rattle.gq_rules_typing.specs.Scopes.{Scope}
use Rattle.gq_rules_typing.specs.SelectTypes.{typing_select}
use Rattle.gq_rules_typing.specs.StatementTypes.{typing_stmts}
use Rattle.gq_rules_typing.specs.QueryTypes.{typing_over, typing_query}
use Rattle.gq_rules_meaning.specs.Answers.{Gives}
use Rattle.gq_rules_meaning.specs.Calendars.{Calendar}
use Rattle.gq_rules_meaning.specs.Graphs.{Graph}
use Rattle.gq_rules_meaning.specs.Expressions.{World, setting}
use Rattle.gq_rules_meaning.specs.States.{State}
use Rattle.gq_rules_meaning.specs.Sources.{from, selects_target, types_at}
use Rattle.gq_rules_meaning.specs.Tails.{Selected, select}
use Rattle.gq_rules_meaning.specs.Runs.{Running, run_all}
use Rattle.gq_rules_meaning.specs.Outs.{Out}
use Rattle.gq_rules_meaning.specs.Statements.{base_of_tree}
use Rattle.gq_rules_meaning.specs.Queries.{with_tuples, run_plan, world_of, run_query}
use Rattle.gq_rules_meaning.specs.Fitting.{Safe, is_vertex_of, is_value, WorldFits}
use Rattle.gq_rules_meaning.specs.StateFits.{NamesFit, no_repeats}
use Rattle.gq_rules_safety.specs.Matching.{WordsFit, StateIs}

-- the result of a SELECT: accumulators that fit, and vertices of these types, each once
pub record SelectedFits {N : Type 0} (world : World N) (s : Scope N) (state : State N) (types : List ℕ) (r : Selected N) : Type 0 where
  pub slots : NamesFit world s state.names r.slots
  pub vertices : list_all (is_vertex_of world.graph types) r.vertices ≡ true
  pub once : no_repeats r.vertices ≡ true

-- a typed SELECT is never stuck over a state of its scope, and gives vertices of the types that typing gives
abbrev pub SelectLaw : Type 0 → Type 0
SelectLaw N = (world : World N) → WordsFit world → (s : Scope N) (state : State N) → StateIs world s state → (q : Select N) (types : List ℕ) → typing_select s q ≡ Ok types
    → (types_at (from world state.names q) (selects_target world q) ≡ types) × Safe (SelectedFits world s state types) (select world state q)

-- typed statements are never stuck over a state of their scope, and the state that they give is one of the scope after
-- them
abbrev pub StatementLaw : Type 0 → Type 0
StatementLaw N = (world : World N) → WordsFit world → (s t : Scope N) (body : Stmts N) → typing_stmts s body ≡ Ok t
    → (r : Running N) → StateIs world s r.state → Safe (λ (after : Running N). StateIs world t after.state) (run_all world body r)

-- ---- queries

-- a value of each parameter's type
abbrev pub ArgumentsFit : {N : Type 0} → World N → List (Parameter N) → List Val → Type 0
ArgumentsFit world [] [] = Unit {0}
ArgumentsFit world (p ∷ ps) (v ∷ vs) = ((b : Base) → base_of_tree world p.base ≡ Gives b → is_value world b v ≡ true) × ArgumentsFit world ps vs
ArgumentsFit world _ _ = ⊥

-- a typed plan is never stuck over arguments of its parameters' types, in a store whose rows are of their types whatever tuple
-- types are declared
abbrev pub PlanLaw : Type 0 → Type 0
PlanLaw N = (world : World N) → WordsFit world → ((tuples : List (N × Fields)) → WorldFits (with_tuples tuples world))
    → (q : QueryOver N Accum) (t : Scope N) → typing_over (λ s a k. Ok k) (setting (with_tuples [] world)) q ≡ Ok t
    → (arguments : List Val) → ArgumentsFit world q.parameters arguments → (turns : ℕ) → Safe (λ (printed : List (List (Bytes × Out))). Unit {0}) (run_plan world q arguments turns)

-- nor is a typed query as written
abbrev pub QueryLaw : Type 0
QueryLaw = (g : Graph) (clock : Calendar) → ((tuples : List (Bytes × Fields)) → WorldFits (with_tuples tuples (world_of g clock)))
    → (q : Query Bytes) (t : Scope Bytes) → typing_query g.sorts q ≡ Ok t
    → (arguments : List Val) → ArgumentsFit (world_of g clock) q.parameters arguments → (turns : ℕ) → Safe (λ (printed : List (List (Bytes × Out))). Unit {0}) (run_query g clock q arguments turns)
