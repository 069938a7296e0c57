use Rattle.std.proofs.Common.{◌≡◌, ℤ, arith, rules, Some, ap, sym, ◌∙◌, ◌+◌, ◌++◌, ◌∷◌, [], List, FitsSigned, w64, take}
use Rattle.std.proofs.lemmas.Int.{to_z-of_z}
use Rattle.std.specs.Prelude.{slice_get, nat_lt}
use Rattle.gq_value.specs.declared.value.Value.{Value}
use Rattle.gq_value.specs.declared.value.Value.TheVariants as variant
use Rattle.gq_load_csv.specs.Next.{NextRecord}
use Rattle.gq_load.specs.Rows.{value_of, values_of}
use Rattle.gq_load.proofs.ListLemmas.{item_at}
use Rattle.gq_load.proofs.RowLemmas.{before, rest_of, value_more}
use Rattle.gq_load.proofs.straight.values_in.Goals as goal
use Rattle.gq_load.proofs.straight.values_in.Goals.{in-Some-int_in+in_ok-write_int, in_default+in-Ok-Some+in_ok-write}

pub loop-place-preserved : goal.loop-place-preserved
loop-place-preserved c =
    let at_a : slice_get c.args.attributes.now c.loop-place.place ≡ Some c.index-attributes-place.result = item_at c.args.attributes.now c.loop-place.place c.index-attributes-place.result (omega arith) c.index-attributes-place.is in
    let at_s : slice_get c.args.sources.now c.loop-place.place ≡ Some c.in-Some.source.now = item_at c.args.sources.now c.loop-place.place c.in-Some.source.now c.in-Some.ensures.lookup.3.0 c.in-Some.ensures.lookup.1 in
    let so_far : List Value = take c.loop-place.place c.loop-place.values in
    let same : c.int_in.new.line ≡ c.args.line.now = c.int_in.ensures.same ∙ c.loop-place.invariant.same in
    elim c.match-int_in.branch [
      | in-Some-int_in+in_ok-write_int w ↦
          let v : Value = variant.Int w.in-Some-int_in.number in
          let fits : FitsSigned w64 w.in-Some-int_in.number = search rules in
          let put : take (c.loop-place.place + 1) w.write_int.new.values ≡ so_far ++ v ∷ [] =
          w.in_ok-write_int.ensures.value ∙ ap (λ (z : ℤ). so_far ++ variant.Int z ∷ []) (to_z-of_z w64 w.in-Some-int_in.number fits) in
          rw (w.values-is, w.line-is) (record {
            values = λ read tells.
                let is : value_of read (nat_lt c.loop-place.place c.args.keys) c.index-attributes-place.result c.in-Some.source.now c.args.line.now.fields ≡ Some v =
                ap (λ (n : NextRecord). value_of read (nat_lt c.loop-place.place c.args.keys) c.index-attributes-place.result c.in-Some.source.now n.fields) (sym c.loop-place.invariant.same)
                ∙ w.in-Some-int_in.ensures.reads read (nat_lt c.loop-place.place c.args.keys) in
                value_more (values_of read c.args.keys c.args.attributes.now c.args.sources.now c.args.line.now.fields) read c.args.keys c.loop-place.place c.args.attributes.now c.args.sources.now c.args.line.now.fields
                c.index-attributes-place.result c.in-Some.source.now so_far v at_a at_s (sym is) (c.loop-place.invariant.values read tells)
                ∙ ap (λ (vs : List Value). before vs (rest_of read c.args.keys c.args.attributes.now c.args.sources.now c.args.line.now.fields (c.loop-place.place + 1))) (sym put);
            long = w.in_ok-write_int.ensures.long;
            same = same;
          })
      | in_default+in-Ok-Some+in_ok-write w ↦
          let v : Value = w.in-Ok-Some.value in
          let put : take (c.loop-place.place + 1) w.write.new.values ≡ so_far ++ v ∷ [] = w.in_ok-write.ensures.value in
          rw (w.values-is, w.line-is) (record {
            values = λ read tells.
                let got = rw w.in-Ok-Some.field-0-is at w.in-Ok-Some.ensures.reads in
                let is : value_of read (nat_lt c.loop-place.place c.args.keys) c.index-attributes-place.result c.in-Some.source.now c.args.line.now.fields ≡ Some v =
                ap (λ (n : NextRecord). value_of read (nat_lt c.loop-place.place c.args.keys) c.index-attributes-place.result c.in-Some.source.now n.fields) (sym same)
                ∙ got read tells in
                value_more (values_of read c.args.keys c.args.attributes.now c.args.sources.now c.args.line.now.fields) read c.args.keys c.loop-place.place c.args.attributes.now c.args.sources.now c.args.line.now.fields
                c.index-attributes-place.result c.in-Some.source.now so_far v at_a at_s (sym is) (c.loop-place.invariant.values read tells)
                ∙ ap (λ (vs : List Value). before vs (rest_of read c.args.keys c.args.attributes.now c.args.sources.now c.args.line.now.fields (c.loop-place.place + 1))) (sym put);
            long = w.in_ok-write.ensures.long;
            same = w.value_in.ensures.same ∙ same;
          })
    ]
