use Rattle.std.proofs.Common.{rules, subst}
use Rattle.gq_rules_calendar.specs.Gregorian.{gregorian}
use Rattle.gq_eval_context.specs.Viewed.{Over}
use Rattle.gq_output.proofs.VertexLemmas.{Types, type_told}
use Rattle.gq_output.proofs.vertices.type_of.Goals as goal

pub returns : goal.returns
returns c = subst (λ (s : Over). Types gregorian s c.args.vertex c.vertex_by_number.result) c.over.view_is (type_told gregorian _ c.args.vertex _ c.vertex_by_number.result c.over.invariant.attributes (search rules) c.kind.ensures c.vertex_by_number.ensures)
