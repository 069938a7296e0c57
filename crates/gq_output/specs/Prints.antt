-- Prints: when the code's output is that of the definitions.
use Rattle.std.specs.Prelude.{◌≡◌, List, Result, Ok, Err}
use Rattle.gq_value.specs.declared.value.Wrong.{Wrong}
use Rattle.gq_json.specs.declared.out.Printed as json
use Rattle.gq_rules_typing.specs.Statements.{Bytes}
use Rattle.gq_rules_meaning.specs.Answers.{Answer, Gives}
use Rattle.gq_rules_meaning.specs.Outs.{Out}
use Rattle.gq_rules_meaning.specs.Built.{built_print}
use Rattle.gq_eval_operand.specs.declared.halt.Halt.{Halt}
use Rattle.gq_eval_operand.specs.Meant.{Halts}

-- these members are the result, and the code's members are the same
pub record IsPrinted (o : Answer Wrong (List (Bytes × Out))) (p : json.Printed) : Type 0 where
  pub members : List (Bytes × Out)
  pub gives : o ≡ Gives members
  pub built : p.members ≡ built_print members

-- the output of PRINT, or the first fault; OutOfMemory may occur at any time
abbrev pub Prints : Answer Wrong (List (Bytes × Out)) → Result json.Printed Halt → Type 0
Prints o (Ok p) = IsPrinted o p
Prints o (Err h) = Halts o h
