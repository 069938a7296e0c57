use Rattle.std.proofs.Common.{◌≡◌, sym, ◌∙◌}
use Rattle.gq_value.specs.AccumViews.{base_of}
use Rattle.gq_scope.specs.Views.{types_are}
use Rattle.gq_type.proofs.RuleLemmas.{same_short, same_stops, same_goes}
use Rattle.gq_type.proofs.rules.same_types.Goals as goal

pub returns-then-len : goal.returns-then-len
returns-then-len c = same_short (types_are c.args.a) (types_are c.args.b) (λ e. c.if-len.true (c.len.ensures ∙ e ∙ sym c.len-2.ensures))

pub returns-then-not-same_kept : goal.returns-then-not-same_kept
returns-then-not-same_kept c =
    same_stops (types_are c.args.a) (types_are c.args.b) c.loop-place.place (base_of c.at.result.now) (base_of c.at-in-loop-place.result.now) c.same_kept.result
    c.at.ensures c.at-in-loop-place.ensures c.same_kept.ensures c.if-not-same_kept.true c.loop-place.invariant

pub loop-place-preserved : goal.loop-place-preserved
loop-place-preserved c =
    same_goes (types_are c.args.a) (types_are c.args.b) c.loop-place.place (base_of c.at.result.now) (base_of c.at-in-loop-place.result.now) c.same_kept.result
    c.at.ensures c.at-in-loop-place.ensures c.same_kept.ensures c.if-not-same_kept.false c.loop-place.invariant
