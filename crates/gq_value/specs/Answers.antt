-- Answers: when a result of the code is the one that was meant.
use Rattle.std.specs.Prelude.{◌≡◌, Result, Ok, Err}
use Rattle.gq_value.specs.declared.value.Value.{Value}
use Rattle.gq_value.specs.declared.value.Wrong.{Wrong}
use Rattle.gq_value.specs.declared.value.EvalFault.{EvalFault}
use Rattle.gq_value.specs.declared.value.EvalFault.TheVariants as fault
use Rattle.gq_value.specs.Val.{Val}
use Rattle.gq_value.specs.Views.{val}

-- the result is the one meant, a value or a fault; if Free holds, it may be OutOfMemory too
abbrev pub Gives : Type 0 → Result Value EvalFault → Result Val Wrong → Type 0
Gives Free (Ok v) meant = meant ≡ Ok (val v)
Gives Free (Err (fault.Wrong w)) meant = meant ≡ Err w
Gives Free (Err fault.OutOfMemory) meant = Free
