use Rattle.gq_graph.proofs.SpanLemmas.{pushed_is}
use Rattle.gq_graph.proofs.row_list.Rows.push.Goals as goal

pub returns-in-Ok-clause-ok : goal.returns-in-Ok-clause-ok
returns-in-Ok-clause-ok c =
    pushed_is c.self.inside.spans c.push.new.self c.self.inside.values.items c.append.new.values.items c.args.row.now c.args.self.now c.in_ok-span.span c.self.view_is
    c.self.invariant c.in-Ok.ensures c.in_ok-span.ensures.ok c.in_ok-span.ensures.start c.in_ok-span.ensures.len
