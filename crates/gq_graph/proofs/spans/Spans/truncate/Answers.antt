use Rattle.std.proofs.Common.{inl, inr, ◌++◌, ◌∙◌, ap, arith}
use Rattle.std.proofs.lemmas.Bool.{cases_lt}
use Rattle.gq_graph.specs.Spans.{even_spans}
use Rattle.gq_graph.proofs.EvenLemmas.{all_cut}
use Rattle.gq_graph.proofs.spans.Spans.truncate.Goals as goal

pub returns : goal.returns
returns c =
    let inside = c.self.inside in let len = c.args.len in let m = c.min-self-inside.result in let j = c.saturating_sub.result in
    ap (λ l. even_spans m inside.width ++ l) c.truncate.ensures.items
    ∙ all_cut inside.even inside.width inside.rest.items c.args.self.now len m j c.self.view_is (elim (cases_lt len inside.even) [
      | inl few ↦ inl (omega (arith, few), omega (arith, few, c.min-self-inside.ensures), omega (arith, few, c.saturating_sub.ensures))
      | inr more ↦ inr (more, omega (arith, more, c.min-self-inside.ensures), omega (arith, more, c.saturating_sub.ensures))
    ])
