use Rattle.std.proofs.Common.{◌-◌, ◌<◌, ◌∙◌, length, sym, arith}
use Rattle.std.proofs.lemmas.List.{get_or_read}
use Rattle.gq_graph.specs.Spans.{no_span}
use Rattle.gq_graph.proofs.EvenLemmas.{all_long, all_front, all_back}
use Rattle.gq_graph.proofs.spans.Spans.at.Goals as goal

pub index-requires : goal.index-requires
index-requires c =
    let inside = c.self.inside in let long = all_long inside.even inside.width inside.rest.items c.args.self.now c.self.view_is in
    omega (arith, c.requires, c.if-number-self.false, long, inside.rest.ok.0)

pub returns-then-number-self : goal.returns-then-number-self
returns-then-number-self c =
    let inside = c.self.inside in
    c.span_of.ensures ∙ sym (all_front inside.even inside.width inside.rest.items c.args.self.now c.args.number c.self.view_is c.if-number-self.true)

pub returns-else-number-self : goal.returns-else-number-self
returns-else-number-self c =
    let inside = c.self.inside in let rest = inside.rest.items in
    let long = all_long inside.even inside.width rest c.args.self.now c.self.view_is in
    let low : c.args.number - inside.even < length rest = omega (arith, c.requires, c.if-number-self.false, long) in
    get_or_read rest (c.args.number - inside.even) c.index.result.now low c.index.ensures no_span
    ∙ sym (all_back inside.even inside.width rest c.args.self.now c.args.number c.self.view_is c.if-number-self.false)
