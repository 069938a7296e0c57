-- Laws: a run with references has the same result as the run with names.
use Rattle.std.specs.Prelude.{◌≡◌, ℕ, List}
use Rattle.gq_value.specs.declared.value.Wrong.{Wrong}
use Rattle.gq_value.specs.Val.{Val}
use Rattle.gq_value.specs.Accums.{Accum}
use Rattle.gq_rules_typing.specs.Statements.{Stmts, QueryOver}
use Rattle.gq_rules_meaning.specs.Answers.{Answer}
use Rattle.gq_rules_meaning.specs.Expressions.{World}
use Rattle.gq_rules_meaning.specs.Runs.{Running, run_all}
use Rattle.gq_rules_meaning.specs.Queries.{run_over, run_plan}
use Rattle.gq_plan_ir.specs.Naming.{View, AreDistinct}
use Rattle.gq_plan_ir.specs.StandsFor.{AllStand, behind_all}
use Rattle.gq_plan_ir.specs.Alike.{AnswersAlike, Sides, old_world, new_world, WordsAlike, RunsAlike}
use Rattle.gq_plan_ir.specs.Plans.{Ground, old_ground, new_ground, QueryStands}

-- statements that represent others do the same: the same is printed, or the same fault ends both, and after them names
-- and accumulators hold the same
abbrev pub StatementLaw : Type 0 → Type 0 → Type 0
StatementLaw M N = (s : Sides M N) → WordsAlike s → (view : View M N) → AreDistinct s.fixed view → (body : Stmts M) (other : Stmts N) → AllStand s.fixed view body other
    → (old : Running M) (new : Running N) → RunsAlike s view old new → AnswersAlike (RunsAlike s (behind_all s.fixed view body other)) (run_all (old_world s) body old) (run_all (new_world s) other new)

-- a plan that represents a query prints what the query prints, or ends with its fault; K represents a kind in the query
abbrev pub QueryLaw : Type 0 → Type 0 → Type 0 → Type 0
QueryLaw M N K = (ground : Ground M N) (kinds : World M → K → Answer Wrong Accum) (q : QueryOver M K) (p : QueryOver N Accum) → QueryStands ground kinds q p
    → (arguments : List Val) (turns : ℕ) → run_plan (new_ground ground) p arguments turns ≡ run_over (old_ground ground) kinds q arguments turns
