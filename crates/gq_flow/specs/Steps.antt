-- Steps: the effects and output of single statements.
use Rattle.std.specs.Prelude.{◌≡◌, ℕ, List, slice_get, Some, Result, Ok, Err}
use Rattle.gq_json.specs.declared.out.Printed as json
use Rattle.gq_value.specs.declared.kind.Slot as code
use Rattle.gq_value.specs.declared.value.Wrong.{Wrong}
use Rattle.gq_value.specs.AccumViews.{accum_of}
use Rattle.gq_rules_typing.specs.Selecting as plain
use Rattle.gq_rules_typing.specs.Statements as statements
use Rattle.gq_rules_typing.specs.Statements.{Bytes}
use Rattle.gq_rules_meaning.specs.Answers.{Answer, Gives, Faults, Stuck, ◌>>=◌, blaming, each}
use Rattle.gq_rules_meaning.specs.Built.{built_print}
use Rattle.gq_rules_meaning.specs.Expressions.{World, Look}
use Rattle.gq_rules_meaning.specs.Outs.{Out}
use Rattle.gq_rules_meaning.specs.Printing.{printed}
use Rattle.gq_rules_meaning.specs.States.{State, seen}
use Rattle.gq_rules_meaning.specs.Statements.{Fault, Evaluation, of_write}
use Rattle.gq_rules_meaning.specs.Writes.{made_by, slots_changed}
use Rattle.gq_plan_ir.specs.Reference.{Reference, Slot}
use Rattle.gq_eval_operand.specs.declared.halt.Halt.{Halt}
use Rattle.gq_eval_operand.specs.declared.halt.Halt.TheVariants as halt
use Rattle.gq_frame.specs.declared.accums.Accums.{Accums}
use Rattle.gq_frame.specs.declared.frame.Frame.{Frame}
use Rattle.gq_frame.specs.Shows.{Shows}
use Rattle.gq_exec_control.specs.declared.running.RunFault.{RunFault}
use Rattle.gq_exec_control.specs.Standing.{Ends}
use Rattle.gq_exec_post.specs.declared.making.Made.{Made}
use Rattle.gq_exec_post.specs.Making.{making_of}
use Rattle.gq_exec_post.specs.Sights.{made_at}
use Rattle.gq_output.specs.Prints.{Prints}
use Rattle.gq_exec_control.specs.Changes.{Change}

-- a statement without a body
abbrev pub IsSimple : statements.Stmt Reference → Type 0
IsSimple (statements.If branches) = ⊥
IsSimple (statements.While condition limit body) = ⊥
IsSimple (statements.Foreach x over body) = ⊥
IsSimple simple = Unit {0}

-- ---- changes of global accumulators

-- the effect of a change of the accumulator in a slot
abbrev pub global_so : World Reference → ℕ → plain.Change Reference → Change
global_so world n change s = blaming of_write (slots_changed (seen world s) s.slots (Slot n) 0 change) >>= λ slots. Gives (record s { slots = slots })

-- the result of a change of the accumulator in a slot, or its fault
abbrev pub Makes : Look Reference → Accums → ℕ → plain.Change Reference → Result Made Halt → Type 0
Makes look a n change (Ok m) = (s : code.Slot) × (slice_get a.slots.declared n ≡ Some s) × (made_by look (accum_of s.kind) change ≡ Gives (making_of m))
Makes look a n change (Err (halt.Wrong w)) = (s : code.Slot) × (slice_get a.slots.declared n ≡ Some s) × (made_by look (accum_of s.kind) change ≡ Faults w)
Makes look a n change (Err halt.Stuck) = made_at look a.slots n change ≡ Stuck
Makes look a n change (Err halt.OutOfMemory) = Unit {0}

-- ---- PRINT

-- the members that the definitions print
abbrev pub members_of : World Reference → State Reference → List (statements.Printed Reference) → Answer Wrong (List (Bytes × Out))
members_of world s items = each (printed world s) items

-- the object that one PRINT prints, for each state that the frame shows
pub record PrintsOn (world : World Reference) (items : List (statements.Printed Reference)) (f : Frame) (result : Result json.Printed Halt) : Type 0 where
  pub each : (s : State Reference) → Shows f s → Prints (members_of world s items) result

-- the same as an answer of a run
abbrev pub PrintsSo : Answer Fault (List (Bytes × Out)) → Result json.Printed RunFault → Type 0
PrintsSo o (Ok p) = (ms : List (Bytes × Out)) × (o ≡ Gives ms) × (p.members ≡ built_print ms)
PrintsSo o (Err e) = Ends o e

pub record PrintsOne (world : World Reference) (items : List (statements.Printed Reference)) (f : Frame) (result : Result json.Printed RunFault) : Type 0 where
  pub each : (s : State Reference) → Shows f s → PrintsSo (blaming Evaluation (members_of world s items)) result
