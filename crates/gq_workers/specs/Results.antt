-- Results: how a block ends.
use Rattle.std.specs.Prelude.{◌≡◌, ℕ, ◌<◌, List, length, nat_eq, Result, Ok, Err}
use Rattle.std.specs.List.{All, IsDistinct}
use Rattle.gq_rules_typing.specs.Patterns.{by_number}
use Rattle.gq_exec_source.specs.Marks.{Marks}
use Rattle.gq_rules_meaning.specs.Answers.{Answer, Gives}
use Rattle.gq_rules_meaning.specs.Blocks as blocks
use Rattle.gq_rules_meaning.specs.Blocks.{Match, after_matches, matches, accumulated}
use Rattle.gq_rules_meaning.specs.Sources.{from, candidates_of}
use Rattle.gq_rules_meaning.specs.Calendars.{Calendar}
use Rattle.gq_rules_meaning.specs.States.{State}
use Rattle.gq_plan_ir.specs.declared.block.Block.{Block}
use Rattle.gq_plan_ir.specs.BlockView.{view_block}
use Rattle.gq_plan_ir.specs.Reference.{Reference}
use Rattle.gq_frame.specs.Shows.{Shows}
use Rattle.gq_frame.specs.Slots.{slots_are, AreSound}
use Rattle.gq_eval_context.specs.Viewed.{Over}
use Rattle.gq_eval_context.specs.Looks.{world_over}
use Rattle.gq_eval_context.specs.declared.after.After.{After}
use Rattle.gq_eval_context.specs.declared.after.BlockFault.{BlockFault}
use Rattle.gq_eval_context.specs.declared.after.BlockFault.TheVariants as fault
use Rattle.gq_eval_context.specs.Answered.{Answered, after_is}
use Rattle.gq_workers.specs.declared.block.Ran.{Ran}
use Rattle.gq_workers.specs.declared.block.Ran.TheVariants as ran
use Rattle.gq_workers.specs.declared.found.MatchBuffer.{MatchBuffer}
use Rattle.gq_workers.specs.declared.run.BlockProgress.{BlockProgress}
use Rattle.gq_workers.specs.declared.rounds.Work.{Work}
use Rattle.gq_exec_contribute.specs.declared.candidate.Stop.{Stop}
use Rattle.gq_exec_contribute.specs.declared.candidate.Stop.TheVariants as stop
use Rattle.gq_workers.specs.Running.{AreFedTo, HasRun, IsShort, IsWork, stopped_at, sources_of, targets_of}

-- the result of a block: the same slots, no spoiled content, and existing vertices, each once
pub record Leaves (o : Over) (a : After) : Type 0 where
  pub slots : a.accums.slots ≡ o.frame.accums.slots
  pub sound : AreSound a.accums
  pub sources : All (λ v. v < length o.vertices) a.sources
  pub sources_once : IsDistinct nat_eq a.sources
  pub targets : All (λ v. v < length o.vertices) a.targets
  pub targets_once : IsDistinct nat_eq a.targets

abbrev pub IfLeft : Over → Result After BlockFault → Type 0
IfLeft o (Ok a) = Leaves o a
IfLeft o (Err e) = Unit {0}

-- whatever state the frame shows, the answer is that of the definitions
pub record Answers (clock : Calendar) (o : Over) (block : Block) (result : Result After BlockFault) : Type 0 where
  pub each : (s : State Reference) → Shows o.frame s → Answered after_is (accumulated (world_over clock o) s (view_block block)) result

-- all contributions of these matches are fed, and the marks are those of their ends
pub record IsOver (o : Over) (ms : List Match) (r : BlockProgress) : Type 0 where
  pub fed : AreFedTo o ms r.accums r.fed
  pub sources : Marks r.found.sources (sources_of ms)
  pub targets : Marks r.found.targets (targets_of ms)

-- for any block that leads to this progress, the answer is that of the definitions
pub record IsJudged (r : BlockProgress) (result : Result After BlockFault) : Type 0 where
  pub answered : (o : Over) (ms : List Match) → IsOver o ms r → Answered after_is (after_matches (slots_are o.frame.accums) ms) result
  pub left : (o : Over) (ms : List Match) → IsOver o ms r → IfLeft o result

-- the marked vertices, by number
pub record AreListed (found : MatchBuffer) (lists : List ℕ × List ℕ) : Type 0 where
  pub sources : (xs : List ℕ) → Marks found.sources xs → lists.0 ≡ by_number xs
  pub targets : (xs : List ℕ) → Marks found.targets xs → lists.1 ≡ by_number xs

-- ---- the run

-- the matches of a block, or its first fault
abbrev pub block_matches : Calendar → Over → Block → State Reference → Answer blocks.BlockFault (List Match)
block_matches clock o block s =
    matches (world_over clock o) s (view_block block) (from (world_over clock o) s.names (view_block block)) 0
    (candidates_of (world_over clock o) (from (world_over clock o) s.names (view_block block)).start (view_block block).walk)

-- the work of a run of this block
pub record IsWorkOf (o : Over) (block : Block) (w : Work) : Type 0 where
  pub is : IsWork o w
  pub same : w.block.now ≡ block

-- before the first candidate, for any block
pub record IsBegun (o : Over) (r : BlockProgress) : Type 0 where
  pub each : (clock : Calendar) (w : Work) → HasRun clock o w r

-- the fault of a block whose candidate at a place has no value
abbrev pub stop_fault : ℕ → Stop → BlockFault
stop_fault n (stop.Wrong w) = fault.Eval n w
stop_fault n stop.Stuck = fault.Stuck

-- all candidates are done and all contributions are fed; or the first fault is returned
abbrev pub RanTo : Calendar → Over → Block → Ran → Type 0
RanTo clock o block (ran.Done r) = (ms : List Match) × ((s : State Reference) → Shows o.frame s → block_matches clock o block s ≡ Gives ms) × IsOver o ms r × IsShort r.found
RanTo clock o block (ran.Fault n w) = (s : State Reference) → Shows o.frame s → block_matches clock o block s ≡ stopped_at n w
