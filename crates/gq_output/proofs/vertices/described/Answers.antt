use Rattle.gq_output.proofs.VertexLemmas.{three_put}
use Rattle.gq_output.proofs.vertices.described.Goals as goal

pub returns : goal.returns
returns c = three_put _ _ _ _ c.args.id c.args.kind c.args.attributes c.new-members.ensures c.in_ok-put.ensures c.in_ok-put-2.ensures c.in_ok-put-3.ensures
