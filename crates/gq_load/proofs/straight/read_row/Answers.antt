use Rattle.std.proofs.lemmas.Result.{IfOk-weaker}
use Rattle.gq_load.proofs.straight.read_row.Goals as goal

pub returns-in-Vertex-clause-reads : goal.returns-in-Vertex-clause-reads
returns-in-Vertex-clause-reads c = IfOk-weaker c.vertex_in.result _ _ (λ ok h is read tells. rw c.in-Vertex.is (rw c.as_slice.ensures at (h is read c.args.route.now tells))) c.vertex_in.ensures.reads
