use Rattle.std.proofs.Common.{arith}
use Rattle.gq_graph.proofs.EvenLemmas.{all_long, all_set}
use Rattle.gq_graph.proofs.spans.Spans.set.Goals as goal

pub index_mut-requires-2 : goal.index_mut-requires-2
index_mut-requires-2 c =
    let inside = c.self.inside in let long = all_long inside.even inside.width inside.rest.items c.args.self.now c.self.view_is in
    omega (arith, c.requires, c.if-number-self.false, long, inside.rest.ok.0)

pub returns : goal.returns
returns c =
    let inside = c.self.inside in
    all_set inside.even inside.width inside.rest.items c.args.self.now c.args.number c.args.span c.self.view_is c.if-number-self.false
