use Rattle.std.proofs.Common.{◌≡◌, ◌<◌, ◌↔◌, ◌∙◌, IsTrue, List, ap, sym, subst, length}
use Rattle.std.specs.Prelude.{position}
use Rattle.std.specs.Option.{option_copied}
use Rattle.gq_schema.specs.Kept.{name_at}
use Rattle.gq_schema.proofs.NameLemmas.{not_kept, kept_there, kept_elsewhere}
use Rattle.gq_ddl.specs.declared.named.NamedJob.{NamedJob}
use Rattle.gq_ddl.specs.Jobs.{is_named}
use Rattle.gq_ddl.specs.Placed.{names_of}
use Rattle.gq_ddl.proofs.PlaceLemmas.{place_is}
use Rattle.gq_ddl.proofs.named.Jobs.place_of.Goals as goal

pub returns-in-Some : goal.returns-in-Some
returns-in-Some c =
    let jobs = c.self.inside.entries in
    kept_there (names_of jobs) c.self.inside.places c.self.invariant c.args.name.now (option_copied c.get.result) c.get.ensures.value
    c.in-Some.place.now c.stands_at.result
    (subst (λ (l : List NamedJob). IsTrue c.stands_at.result ↔ ((c.in-Some.place.now < length (names_of l)) × (name_at (names_of l) c.in-Some.place.now ≡ c.args.name.now))) c.as_slice.ensures c.stands_at.ensures)
    c.if-stands_at.true
    ∙ sym (place_is c.args.name.now jobs) ∙ ap (position (is_named c.args.name.now)) c.self.view_is

pub returns-in_default : goal.returns-in_default
returns-in_default c =
    let jobs = c.self.inside.entries in
    kept_elsewhere (names_of jobs) c.self.inside.places c.self.invariant c.args.name.now (option_copied c.get.result) c.get.ensures.value
    c.in-Some.place.now c.stands_at.result
    (subst (λ (l : List NamedJob). IsTrue c.stands_at.result ↔ ((c.in-Some.place.now < length (names_of l)) × (name_at (names_of l) c.in-Some.place.now ≡ c.args.name.now))) c.as_slice.ensures c.stands_at.ensures)
    (ap option_copied c.in-Some.is) c.if-stands_at.false
    ∙ sym (place_is c.args.name.now jobs) ∙ ap (position (is_named c.args.name.now)) c.self.view_is

pub returns-in_default-2 : goal.returns-in_default-2
returns-in_default-2 c =
    let jobs = c.self.inside.entries in
    not_kept (names_of jobs) c.self.inside.places c.self.invariant c.args.name.now (option_copied c.get.result) c.get.ensures.value
    (ap option_copied c.in_default.is)
    ∙ sym (place_is c.args.name.now jobs) ∙ ap (position (is_named c.args.name.now)) c.self.view_is
