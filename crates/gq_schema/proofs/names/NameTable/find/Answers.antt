use Rattle.std.proofs.Common.{◌∙◌, ap, sym, subst, ◌<◌, ◌≡◌, ◌↔◌, IsTrue, length}
use Rattle.std.specs.Option.{option_copied}
use Rattle.gq_graph.specs.Catalog.{name_place}
use Rattle.gq_schema.specs.Kept.{name_at}
use Rattle.gq_schema.proofs.NameLemmas.{not_kept, kept_there, kept_elsewhere}
use Rattle.gq_schema.proofs.names.NameTable.find.Goals as goal

pub returns-in-Some : goal.returns-in-Some
returns-in-Some c =
    kept_there c.self.inside.names.items c.self.inside.places c.self.invariant c.args.name.now (option_copied c.get.result) c.get.ensures.value
    c.in-Some.place.now c.stands_at.result (rw (sym c.deref.ensures.value) c.stands_at.ensures) c.if-stands_at.true
    ∙ ap (λ ns. name_place ns c.args.name.now) c.self.view_is

pub returns-in_default : goal.returns-in_default
returns-in_default c =
    kept_elsewhere c.self.inside.names.items c.self.inside.places c.self.invariant c.args.name.now (option_copied c.get.result) c.get.ensures.value
    c.in-Some.place.now c.stands_at.result (rw (sym c.deref.ensures.value) c.stands_at.ensures) (ap option_copied c.in-Some.is) c.if-stands_at.false
    ∙ ap (λ ns. name_place ns c.args.name.now) c.self.view_is

pub returns-in_default-2 : goal.returns-in_default-2
returns-in_default-2 c =
    not_kept c.self.inside.names.items c.self.inside.places c.self.invariant c.args.name.now (option_copied c.get.result) c.get.ensures.value
    (ap option_copied c.in_default.is) ∙ ap (λ ns. name_place ns c.args.name.now) c.self.view_is
