use Rattle.std.proofs.Common.{◌∙◌, ◌∷◌, [], ap, sym}
use Rattle.std.specs.Prelude.{position, slice_set}
use Rattle.gq_query_run.specs.Kept.{Kept}
use Rattle.gq_query_run.specs.Queries.{is_named, with_installed}
use Rattle.gq_query_run.proofs.PlaceLemmas.{reinstalled, installed_there}
use Rattle.gq_query_run.proofs.queries.Queries.install.Goals as goal

pub invariant_of-self : goal.invariant_of-self
invariant_of-self c =
    rw (c.set.ensures) (reinstalled c.self.inside.stored c.self.inside.places c.self.invariant c.in-Some.place c.at.result.now c.as_installed-installed.result
    c.at.ensures (sym (ap (λ (k : Kept). k.name) c.as_installed-installed.ensures)))

pub returns-in-Some : goal.returns-in-Some
returns-in-Some c =
    let qs = c.self.inside.stored in
    let name = c.args.name.now in
    c.set.ensures ∙ ap (slice_set qs c.in-Some.place) c.as_installed-installed.ensures
    ∙ installed_there qs c.self.inside.places c.self.invariant name c.in-Some.place c.at.result.now
    (ap (position (is_named name)) c.self.view_is ∙ sym c.place_of.ensures ∙ c.in-Some.is) c.at.ensures
    ∙ ap (with_installed (name ∷ [])) c.self.view_is
