use Rattle.std.proofs.lemmas.Result.{IfOk-weaker}
use Rattle.gq_load.proofs.draft.read_draft.Goals as goal

pub returns-in-Vertex-clause-reads : goal.returns-in-Vertex-clause-reads
returns-in-Vertex-clause-reads c = IfOk-weaker c.read_vertex.result _ _ (λ ok h read tells. rw c.in-Vertex.is (rw c.as_slice.ensures at (h read c.args.route.now tells))) c.read_vertex.ensures.reads
