use Rattle.std.proofs.Common.{◌<◌, length, arith}
use Rattle.gq_plan_expr.specs.Names.{known_of}
use Rattle.gq_plan_expr.proofs.MethodLemmas.{degree_many}
use Rattle.gq_plan_expr.proofs.exprs.outdegree.Goals as goal

pub returns-then-arguments-gt1 : goal.returns-then-arguments-gt1
returns-then-arguments-gt1 c = λ n. let many : 1 < length c.args.arguments.now = omega (arith, c.if-arguments-gt1.true) in degree_many (known_of c.args.names.now) c.args.arguments.now many
