use Rattle.std.proofs.Common.{arith}
use Rattle.std.proofs.lemmas.Map.Text.{text_keys}
use Rattle.gq_scope.proofs.names.restore.Goals as goal

pub returns-in-Some : goal.returns-in-Some
returns-in-Some c = λ other. grind (arith, text_keys)

pub returns-in_default : goal.returns-in_default
returns-in_default c = λ other. grind (arith, text_keys)
