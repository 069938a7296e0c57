use Rattle.std.proofs.Common.{◌≡◌, ℤ, arith, rules, Some, ap, sym, ◌∙◌, ◌++◌, ◌∷◌, [], FitsSigned, w64}
use Rattle.std.proofs.lemmas.Int.{to_z-of_z}
use Rattle.std.proofs.lemmas.List.{length-append}
use Rattle.std.specs.Prelude.{slice_get, nat_lt}
use Rattle.gq_value.specs.declared.value.Value.{Value}
use Rattle.gq_value.specs.declared.value.Value.TheVariants as variant
use Rattle.gq_load.specs.Rows.{values_of}
use Rattle.gq_load.proofs.ListLemmas.{item_at}
use Rattle.gq_load.proofs.RowLemmas.{value_more}
use Rattle.gq_load.proofs.value.read_values.Goals as goal
use Rattle.gq_load.proofs.value.read_values.Goals.{in-Some-int_at+in_ok-push, in_default+in-Ok-Some+in_ok-push-2}

pub loop-place-preserved : goal.loop-place-preserved
loop-place-preserved c =
    let at_a : slice_get c.args.attributes.now c.loop-place.place ≡ Some c.index-attributes-place.result = item_at c.args.attributes.now c.loop-place.place c.index-attributes-place.result (omega arith) c.index-attributes-place.is in
    let at_s : slice_get c.args.sources.now c.loop-place.place ≡ Some c.in-Some.source.now = item_at c.args.sources.now c.loop-place.place c.in-Some.source.now c.in-Some.ensures.lookup.3.0 c.in-Some.ensures.lookup.1 in
    elim c.match-int_at.branch [
      | in-Some-int_at+in_ok-push w ↦
          let v : Value = variant.Int w.in-Some-int_at.number in
          let fits : FitsSigned w64 w.in-Some-int_at.number = search rules in
          let put : w.push.new.self ≡ c.loop-place.values ++ v ∷ [] =
          w.in_ok-push.ensures.ok ∙ ap (λ (z : ℤ). c.loop-place.values ++ variant.Int z ∷ []) (to_z-of_z w64 w.in-Some-int_at.number fits) in
          rw (w.values-is, put) (record {
            values = λ read tells. value_more (values_of read c.args.keys c.args.attributes.now c.args.sources.now c.args.row.now) read c.args.keys c.loop-place.place c.args.attributes.now c.args.sources.now c.args.row.now
                c.index-attributes-place.result c.in-Some.source.now c.loop-place.values v at_a at_s (sym (w.in-Some-int_at.ensures read (nat_lt c.loop-place.place c.args.keys))) (c.loop-place.invariant.values read tells);
            sized = omega (arith, length-append c.loop-place.values (v ∷ []), c.loop-place.invariant.sized);
          })
      | in_default+in-Ok-Some+in_ok-push-2 w ↦
          let v : Value = w.in-Ok-Some.value in
          let put : w.push-in_default.new.self ≡ c.loop-place.values ++ v ∷ [] = w.in_ok-push-2.ensures.ok in
          rw (w.values-is, put) (record {
            values = λ read tells. value_more (values_of read c.args.keys c.args.attributes.now c.args.sources.now c.args.row.now) read c.args.keys c.loop-place.place c.args.attributes.now c.args.sources.now c.args.row.now
                c.index-attributes-place.result c.in-Some.source.now c.loop-place.values v at_a at_s (sym w.in-Ok-Some.field-0-is ∙ w.in-Ok-Some.ensures read tells) (c.loop-place.invariant.values read tells);
            sized = omega (arith, length-append c.loop-place.values (v ∷ []), c.loop-place.invariant.sized);
          })
    ]
