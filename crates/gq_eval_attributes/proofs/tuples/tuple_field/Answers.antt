use Rattle.std.proofs.Common.{length, ltb-true, refl, sym}
use Rattle.std.proofs.lemmas.Option.{slice_get_read}
use Rattle.gq_eval_attributes.proofs.TupleLemmas.{field_there}
use Rattle.gq_eval_attributes.proofs.tuples.tuple_field.Goals as goal

pub returns-in-Some-get-2-clause-told : goal.returns-in-Some-get-2-clause-told
returns-in-Some-get-2-clause-told c =
    field_there c.args.of.now c.args.row.now c.in-Some.place _ c.in-Some-get.base.now c.in-Some-get-2.value.now _ c.in-Some.ensures c.in-Some-get.ensures c.of.ensures
    (slice_get_read c.args.row.now (length c.args.row.now) c.in-Some.place c.in-Some-get-2.value.now refl (ltb-true _ _ (sym c.in-Some-get-2.ensures.lookup.0)) c.in-Some-get-2.ensures.lookup.1)
