use Rattle.std.proofs.Common.{◌≡◌, map, sym, ap, ◌∙◌}
use Rattle.std.proofs.lemmas.List.{length-map}
use Rattle.gq_rules_typing.specs.Types.{converts}
use Rattle.gq_value.specs.AccumViews.{base_of}
use Rattle.gq_scope.specs.Views.{types_are, base_is}
use Rattle.gq_scope.proofs.BaseLemmas.{read_map}
use Rattle.gq_type.proofs.RuleLemmas.{convert_short, convert_stops, convert_goes}
use Rattle.gq_type.proofs.rules.convert_all.Goals as goal

pub returns-then-from-len : goal.returns-then-from-len
returns-then-from-len c =
    convert_short (map base_is c.args.from.now) (types_are c.args.to) (λ e. c.if-from-len.true (sym (length-map c.args.from.now base_is) ∙ e ∙ sym c.len.ensures))

pub returns-then-not-converts : goal.returns-then-not-converts
returns-then-not-converts c =
    convert_stops (map base_is c.args.from.now) (types_are c.args.to) c.loop-place.place (base_is c.index-from-place.result) (base_of c.at.result.now) c.converts.result
    (read_map base_is c.args.from.now c.loop-place.place c.index-from-place.result c.loop-place-test.true c.index-from-place.is)
    c.at.ensures (c.converts.ensures ∙ ap (converts (base_is c.index-from-place.result)) c.of.ensures) c.if-not-converts.true c.loop-place.invariant

pub loop-place-preserved : goal.loop-place-preserved
loop-place-preserved c =
    convert_goes (map base_is c.args.from.now) (types_are c.args.to) c.loop-place.place (base_is c.index-from-place.result) (base_of c.at.result.now) c.converts.result
    (read_map base_is c.args.from.now c.loop-place.place c.index-from-place.result c.loop-place-test.true c.index-from-place.is)
    c.at.ensures (c.converts.ensures ∙ ap (converts (base_is c.index-from-place.result)) c.of.ensures) c.if-not-converts.false c.loop-place.invariant
