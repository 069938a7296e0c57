-- Standing: when a run of the code shows a run of the definitions, and acts as they say.
use Rattle.std.specs.Prelude.{◌≡◌, ℕ, ◌+◌, Bool, map, Some, Result, Ok, Err}
use Rattle.gq_json.specs.declared.out.Printed.{Printed}
use Rattle.gq_tree.specs.Tree.{Tree}
use Rattle.gq_rules_typing.specs.Statements.{Over}
use Rattle.gq_rules_meaning.specs.Answers.{Answer, Gives, Faults, Stuck, blaming}
use Rattle.gq_rules_meaning.specs.Built.{built_print}
use Rattle.gq_rules_meaning.specs.Expressions.{World}
use Rattle.gq_rules_meaning.specs.States.{seen}
use Rattle.gq_rules_meaning.specs.Statements.{Fault, Evaluation, SumOutOfRange, LoopBound, PathBound, gone_over}
use Rattle.gq_rules_meaning.specs.Runs as runs
use Rattle.gq_rules_meaning.specs.Runs.{Body, limit_of}
use Rattle.gq_plan_ir.specs.Reference.{Reference}
use Rattle.gq_frame.specs.Slots.{AreSound}
use Rattle.gq_frame.specs.Lives.{Lives}
use Rattle.gq_exec_control.specs.declared.running.Running.{Running}
use Rattle.gq_exec_control.specs.declared.running.RunFault.{RunFault}
use Rattle.gq_exec_control.specs.declared.running.RunFault.TheVariants as fault
use Rattle.gq_exec_control.specs.declared.running.Rounds.{Rounds}
use Rattle.gq_exec_control.specs.Values.{rounds_in}

-- ---- runs

-- the live data shows the state, the iterations left and the output are the same, and no content is spoiled
pub record Stands (r : Running) (q : runs.Running Reference) : Type 0 where
  pub lives : Lives r.live q.state
  pub turns : r.turns ≡ q.turns
  pub printed : map (λ (p : Printed). p.members) r.printed ≡ map built_print q.printed
  pub sound : AreSound r.live.frame.accums

-- a run ends as the definitions do; OutOfMemory may occur at any time
abbrev pub Ends : {A : Type 0} → Answer Fault A → RunFault → Type 0
Ends o (fault.Eval w) = o ≡ Faults (Evaluation w)
Ends o (fault.SumRange n) = o ≡ Faults (SumOutOfRange n)
Ends o fault.LoopBound = o ≡ Faults LoopBound
Ends o fault.PathBound = o ≡ Faults PathBound
Ends o fault.Stuck = o ≡ Stuck
Ends o fault.OutOfMemory = Unit {0}

-- the value has a property, or the fault is that of the definitions
abbrev pub Leads : {A : Type 0} → (A → Type 0) → Answer Fault A → Result (Unit {0}) RunFault → Type 0
Leads {A = A} P o (Ok u) = (a : A) × (o ≡ Gives a) × P a
Leads P o (Err e) = Ends o e

-- the code changes the run as the body does in the definitions
pub record Does (body : Body Reference) (old new : Running) (result : Result (Unit {0}) RunFault) : Type 0 where
  pub each : (q : runs.Running Reference) → Stands old q → Leads (Stands new) (body q) result

-- the run has changed, and the rest of the body remains to be done
pub record Goes (whole rest : Body Reference) (old now : Running) : Type 0 where
  pub each : (q : runs.Running Reference) → Stands old q → (p : runs.Running Reference) × (whole q ≡ rest p) × Stands now p

-- one iteration is taken off those left, and nothing else changes; or none is left
pub record TakesTurn (old new : Running) : Type 0 where
  pub live : new.live ≡ old.live
  pub turns : new.turns + 1 ≡ old.turns
  pub printed : new.printed ≡ old.printed

pub record HasNoTurn (old new : Running) : Type 0 where
  pub turns : old.turns ≡ 0
  pub same : new ≡ old

-- ---- reading a run

-- the answer is that of the definitions
abbrev pub Says : {A B : Type 0} → (B → A) → Answer Fault A → Result B RunFault → Type 0
Says view o (Ok b) = o ≡ Gives (view b)
Says view o (Err e) = Ends o e

pub record Tests (condition : runs.Running Reference → Answer Fault Bool) (r : Running) (result : Result Bool RunFault) : Type 0 where
  pub each : (q : runs.Running Reference) → Stands r q → Says (λ b. b) (condition q) result

pub record Limits (world : World Reference) (t : Tree Reference) (r : Running) (result : Result ℕ RunFault) : Type 0 where
  pub each : (q : runs.Running Reference) → Stands r q → Says Some (blaming Evaluation (limit_of world q.state (Some t))) result

-- ---- the iterations of FOREACH

-- the values are those of the definitions, with their type
pub record GoesOver (world : World Reference) (over : Over Reference) (r : Running) (result : Result Rounds RunFault) : Type 0 where
  pub each : (q : runs.Running Reference) → Stands r q → Says rounds_in (blaming Evaluation (gone_over (seen world q.state) over)) result
