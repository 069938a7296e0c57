use Rattle.std.proofs.Common.{◌≡◌, ◌∙◌, ap, map, List}
use Rattle.gq_value.specs.declared.kind.BaseType.{BaseType}
use Rattle.gq_rules_typing.specs.Statements.{Bytes}
use Rattle.gq_rules_typing.specs.Words.{place_of}
use Rattle.gq_plan_expr.proofs.TableLemmas.{tuple_next}
use Rattle.gq_plan_expr.proofs.tables.in_tuples.Goals as goal

pub loop-tuple-preserved : goal.loop-tuple-preserved
loop-tuple-preserved c =
    let at : c.in_ok-place.place ≡ place_of (map (λ (f : Bytes × BaseType). f.0) c.tuple-item.result.1) c.args.name.now =
    c.in_ok-place.ensures ∙ ap (λ (fields : List (Bytes × BaseType)). place_of (map (λ (f : Bytes × BaseType). f.0) fields) c.args.name.now) c.as_slice.ensures in
    rw c.in_ok-push.ensures.ok
    (tuple_next c.args.name.now c.args.types.now c.loop-tuple.tuple-index c.tuple-item.result c.in_ok-place.place c.loop-tuple.places _ c.loop-tuple-test.true c.tuple-item.is at c.loop-tuple.invariant)
