use Rattle.std.proofs.Common.{◌∙◌, ap, false, arith, get_or, length}
use Rattle.gq_graph.specs.Candidates.{among}
use Rattle.gq_index.proofs.CandidateLemmas.{flagged_is}
use Rattle.gq_index.proofs.marks.Marks.has.Goals as goal

pub returns-in-Some : goal.returns-in-Some
returns-in-Some c =
    let inside = c.self.inside in let k = c.args.number in
    let there = c.in-Some.ensures.lookup in
    there.3.1 false ∙ ap (λ l. get_or l k false) c.deref.ensures.value
    ∙ flagged_is inside.listed.now inside.flags.items k c.self.invariant (omega (arith, there.3.0, ap length c.deref.ensures.value))
    ∙ ap (λ l. among l k) c.self.view_is
