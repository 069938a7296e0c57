use Rattle.std.proofs.Common.{◌≡◌, map, length, refl, sym, ap, ◌∙◌, arith}
use Rattle.std.proofs.lemmas.List.{length-map}
use Rattle.gq_value.specs.AccumViews.{base_of}
use Rattle.gq_scope.proofs.BaseLemmas.{read_map}
use Rattle.gq_type.proofs.RuleLemmas.{same_short, same_stops, same_goes}
use Rattle.gq_type.proofs.rules.+kept.Goals as goal

pub same_all-returns-then-a-b : goal.same_all-returns-then-a-b
same_all-returns-then-a-b t c =
    same_short (map base_of c.args.a.now) (map base_of c.args.b.now)
    (λ e. c.if-a-b.true (sym (length-map c.args.a.now base_of) ∙ e ∙ length-map c.args.b.now base_of))

pub same_all-returns-then-not-same_kept : goal.same_all-returns-then-not-same_kept
same_all-returns-then-not-same_kept t c =
    same_stops (map base_of c.args.a.now) (map base_of c.args.b.now) c.loop-place.place (base_of c.index-a-place.result) (base_of c.index-b-place.result) c.same_kept.result
    (read_map base_of c.args.a.now c.loop-place.place c.index-a-place.result c.loop-place-test.true c.index-a-place.is)
    (read_map base_of c.args.b.now c.loop-place.place c.index-b-place.result (omega (arith, c.if-a-b.false)) c.index-b-place.is)
    c.same_kept.ensures c.if-not-same_kept.true c.loop-place.invariant

pub same_all-loop-place-preserved : goal.same_all-loop-place-preserved
same_all-loop-place-preserved t c =
    same_goes (map base_of c.args.a.now) (map base_of c.args.b.now) c.loop-place.place (base_of c.index-a-place.result) (base_of c.index-b-place.result) c.same_kept.result
    (read_map base_of c.args.a.now c.loop-place.place c.index-a-place.result c.loop-place-test.true c.index-a-place.is)
    (read_map base_of c.args.b.now c.loop-place.place c.index-b-place.result (omega (arith, c.if-a-b.false)) c.index-b-place.is)
    c.same_kept.ensures c.if-not-same_kept.false c.loop-place.invariant
