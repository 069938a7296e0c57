use Rattle.std.proofs.Common.{arith}
use Rattle.gq_eval_context.proofs.DegreeLemmas.{vertex_there, few_edges}
use Rattle.gq_eval_context.proofs.degrees.walked.Goals as goal

pub returns-then-vertex-len-clause-degree : goal.returns-then-vertex-len-clause-degree
returns-then-vertex-len-clause-degree c =
    λ own. vertex_there c.args.graph own c.args.vertex c.args.kind c.degree.result c.in-Some.field-0.now c.degree.ensures c.requires.indexed (omega (arith, c.len.ensures.count)) c.in-Some.ensures

pub returns-then-vertex-len-clause-few : goal.returns-then-vertex-len-clause-few
returns-then-vertex-len-clause-few c =
    few_edges c.args.graph c.args.vertex c.args.kind c.degree.result c.in-Some.field-0.now c.degree.ensures c.requires.indexed (omega (arith, c.len.ensures.count)) c.in-Some.ensures c.len-edges.ensures.few
