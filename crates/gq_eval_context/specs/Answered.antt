-- Answered: when an answer is the one that was meant.
use Rattle.std.specs.Prelude.{◌≡◌, Result, Ok, Err}
use Rattle.gq_rules_meaning.specs.Answers.{Answer, Gives, Faults, Stuck}
use Rattle.gq_rules_meaning.specs.Blocks as blocks
use Rattle.gq_plan_ir.specs.Reference.{Reference}
use Rattle.gq_frame.specs.Slots.{slots_are}
use Rattle.gq_eval_context.specs.declared.after.After.{After}
use Rattle.gq_eval_context.specs.declared.after.BlockFault.{BlockFault}
use Rattle.gq_eval_context.specs.declared.after.BlockFault.TheVariants as fault

abbrev pub after_is : After → blocks.After Reference
after_is a = record { slots = slots_are a.accums; sources = a.sources; targets = a.targets }

-- a block ends as the definitions do; OutOfMemory may occur at any time
abbrev pub EndsAs : {A : Type 0} → Answer blocks.BlockFault A → BlockFault → Type 0
EndsAs o (fault.Eval at w) = o ≡ Faults (blocks.AtPlace at w)
EndsAs o (fault.SumRange n) = o ≡ Faults (blocks.SumRange n)
EndsAs o fault.Stuck = o ≡ Stuck
EndsAs o fault.OutOfMemory = Unit {0}

-- the answer is the one that was meant
abbrev pub Answered : {A B : Type 0} → (B → A) → Answer blocks.BlockFault A → Result B BlockFault → Type 0
Answered view o (Ok b) = o ≡ Gives (view b)
Answered view o (Err e) = EndsAs o e
