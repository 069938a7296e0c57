use Rattle.std.proofs.Common.{sym}
use Rattle.gq_scope.specs.Held.{setting_in}
use Rattle.gq_scope.specs.Views.{typed_is}
use Rattle.gq_type.proofs.CallLemmas.{degree_many}
use Rattle.gq_type.proofs.calls.outdegree_type.Goals as goal

pub returns-then-arguments-gt1 : goal.returns-then-arguments-gt1
returns-then-arguments-gt1 c = λ _. sym (degree_many (setting_in c.args.scope.now).sorts (typed_is c.args.x) c.args.arguments.now c.if-arguments-gt1.true)
