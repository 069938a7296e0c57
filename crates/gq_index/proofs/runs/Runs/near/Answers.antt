use Rattle.std.proofs.Common.{◌<◌, length, arith, ap, sym, ◌∙◌}
use Rattle.gq_index.specs.Walks.{walk_at}
use Rattle.gq_index.specs.Runs.{segment_of, reached_at, walk_of}
use Rattle.gq_index.proofs.RunLemmas.{length_runs, shown_at}
use Rattle.gq_index.proofs.runs.Runs.near.Goals as goal

pub walk_near-requires-clause-within : goal.walk_near-requires-clause-within
walk_near-requires-clause-within c = omega (arith, length_runs c.self.inside.segments.items c.self.inside.reached.items c.args.self.now c.self.view_is, ap length c.deref-2.ensures.value)

pub returns-clause-exact : goal.returns-clause-exact
returns-clause-exact c =
    let long = length_runs c.self.inside.segments.items c.self.inside.reached.items c.args.self.now c.self.view_is in
    let here : c.args.place < length c.self.inside.reached.items = omega arith in
    c.walk_near.ensures.exact
    ∙ ap (λ s. walk_of (segment_of s c.args.place) (reached_at c.deref-2.result.now c.args.place)) c.deref.ensures.value
    ∙ ap (λ r. walk_of (segment_of c.self.inside.segments.items c.args.place) (reached_at r c.args.place)) c.deref-2.ensures.value
    ∙ sym (shown_at c.self.inside.segments.items c.self.inside.reached.items c.args.place here)
    ∙ ap (λ l. walk_at l c.args.place) c.self.view_is
