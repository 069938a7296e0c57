use Rattle.std.proofs.Common.{◌∙◌, ap, sym}
use Rattle.std.specs.Prelude.{position}
use Rattle.gq_query_run.specs.Kept.{Kept}
use Rattle.gq_query_run.specs.Queries.{is_named}
use Rattle.gq_query_run.proofs.PlaceLemmas.{replaced}
use Rattle.gq_query_run.proofs.queries.Queries.put.Goals as goal

pub invariant_of-self : goal.invariant_of-self
invariant_of-self c =
    let qs = c.self.inside.stored in
    rw (c.set.ensures) (replaced qs c.self.inside.places c.self.invariant c.in-Some.place c.created.result
    (ap (λ (k : Kept). position (is_named k.name) qs) c.created.ensures ∙ ap (position (is_named c.args.name.now)) c.self.view_is ∙ sym c.place_of.ensures ∙ c.in-Some.is))
