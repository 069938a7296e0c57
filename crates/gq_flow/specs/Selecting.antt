-- Selecting: when a whole SELECT returns what the definitions say.
use Rattle.std.specs.Prelude.{◌≡◌, ℕ, Bool, true, false, List, Result}
use Rattle.gq_rules_typing.specs.Selecting.{Select}
use Rattle.gq_rules_meaning.specs.Answers.{Answer, Gives, Faults, ◌>>=◌, blaming}
use Rattle.gq_rules_meaning.specs.Blocks as blocks
use Rattle.gq_rules_meaning.specs.Calendars.{Calendar}
use Rattle.gq_rules_meaning.specs.Expressions.{World}
use Rattle.gq_rules_meaning.specs.Posts.{posted}
use Rattle.gq_rules_meaning.specs.Sets.{TypedSet}
use Rattle.gq_rules_meaning.specs.Sources.{from, selects_target, types_at, candidates_of, within_bound}
use Rattle.gq_rules_meaning.specs.States as states
use Rattle.gq_rules_meaning.specs.States.{State}
use Rattle.gq_rules_meaning.specs.Statements.{Fault, PathBound, of_block}
use Rattle.gq_rules_meaning.specs.Tails.{select, tail}
use Rattle.gq_plan_ir.specs.declared.block.Block.{Block}
use Rattle.gq_plan_ir.specs.BlockView.{view_block}
use Rattle.gq_plan_ir.specs.Reference.{Reference}
use Rattle.gq_frame.specs.Shows.{Shows}
use Rattle.gq_frame.specs.Slots.{slots_are}
use Rattle.gq_eval_context.specs.Viewed.{Over}
use Rattle.gq_eval_context.specs.Looks.{world_over}
use Rattle.gq_eval_context.specs.declared.after.After.{After}
use Rattle.gq_eval_context.specs.declared.after.BlockFault.{BlockFault}
use Rattle.gq_eval_context.specs.Answered.{Answered, after_is}
use Rattle.gq_exec_control.specs.declared.running.RunFault.{RunFault}
use Rattle.gq_exec_control.specs.Standing.{Says}
use Rattle.gq_flow.specs.declared.selects.Selected.{Selected}

-- the selected vertices with the types of their end, and the accumulators
abbrev pub Chosen : Type 0
Chosen = TypedSet × List (states.Slot Reference)

abbrev pub chosen : Selected → Chosen
chosen r = ((r.types, r.vertices), slots_are r.accums)

-- the selection of the definitions among the candidates
abbrev pub chosen_by : World Reference → State Reference → Select Reference → Answer blocks.BlockFault Chosen
chosen_by world s q = select world s q >>= λ r. Gives ((types_at (from world s.names q) (selects_target world q), r.vertices), r.slots)

-- the selection of the definitions, with the candidates counted first: true if a path has at most as many as allowed
abbrev pub chosen_if : World Reference → State Reference → Select Reference → Bool → Answer Fault Chosen
chosen_if world s q few = elim few [ false ↦ Faults PathBound | true ↦ blaming of_block (chosen_by world s q) ]

abbrev pub selected_by : World Reference → State Reference → Select Reference → Answer Fault Chosen
selected_by world s q = chosen_if world s q (within_bound q.walk (candidates_of world (from world s.names q).start q.walk))

-- the same, starting from the result of the block
abbrev pub chosen_after : World Reference → State Reference → Select Reference → blocks.After Reference → Answer blocks.BlockFault Chosen
chosen_after world s q a = posted world s q a >>= λ b. tail world s q b >>= λ vs. Gives ((types_at (from world s.names q) (selects_target world q), vs), b.slots)

-- whatever state the frame shows, the answer is that of the definitions
pub record Selects (clock : Calendar) (o : Over) (block : Block) (result : Result Selected RunFault) : Type 0 where
  pub each : (s : State Reference) → Shows o.frame s → Says chosen (selected_by (world_over clock o) s (view_block block)) result

-- the same, among the candidates
pub record Chooses (clock : Calendar) (o : Over) (block : Block) (result : Result Selected BlockFault) : Type 0 where
  pub each : (s : State Reference) → Shows o.frame s → Answered chosen (chosen_by (world_over clock o) s (view_block block)) result

-- the same for POST-ACCUM and the tail
pub record Posts (clock : Calendar) (o : Over) (block : Block) (after : After) (result : Result Selected BlockFault) : Type 0 where
  pub each : (s : State Reference) → Shows o.frame s → Answered chosen (chosen_after (world_over clock o) s (view_block block) (after_is after)) result

-- the types are those of the end with the selected alias
pub record HasTypes (clock : Calendar) (o : Over) (block : Block) (types : List ℕ) : Type 0 where
  pub each : (s : State Reference) → Shows o.frame s → types ≡ types_at (from (world_over clock o) s.names (view_block block)) (selects_target (world_over clock o) (view_block block))
