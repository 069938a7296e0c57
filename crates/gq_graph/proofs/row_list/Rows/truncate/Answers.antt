use Rattle.gq_graph.proofs.SpanLemmas.{cut_is, apart_cut}
use Rattle.gq_graph.proofs.row_list.Rows.truncate.Goals as goal

pub invariant_of-self : goal.invariant_of-self
invariant_of-self c = apart_cut c.self.inside.spans _ _ c.args.len c.truncate.ensures c.self.invariant

pub returns : goal.returns
returns c = cut_is c.self.inside.spans _ c.self.inside.values.items c.args.self.now c.args.len c.self.view_is c.truncate.ensures
