use Rattle.std.proofs.Common.{map, take, drop, ap, sym, ◌∙◌}
use Rattle.std.proofs.lemmas.Result.{on_ok_weaker}
use Rattle.gq_value.specs.declared.kind.Input.TheVariants as input
use Rattle.gq_value.specs.declared.value.Value.TheVariants as value
use Rattle.gq_exec_contribute.specs.Scalars.{made_of, one_int}
use Rattle.gq_exec_contribute.specs.Waiting.{own}
use Rattle.gq_exec_contribute.proofs.ScalarLemmas.{made_taken}
use Rattle.gq_exec_contribute.proofs.scalars.feed_scalar.Goals as goal

pub returns-in_ok-refill_tuple-in-Tuple : goal.returns-in_ok-refill_tuple-in-Tuple
returns-in_ok-refill_tuple-in-Tuple c = on_ok_weaker c.feed_one.result
    (made_taken c.args.accums.now c.feed_one.new.accums c.args.target c.refill_tuple.new.spare (own c.args.x)
    (c.in_ok-refill_tuple-in-Tuple.ensures ∙ ap (λ l. input.One (value.Tuple (map value.Int l))) c.as_slice.ensures ∙ ap (λ z. made_of (own z)) (sym c.in-Tuple.is)))
    c.feed_one.ensures

pub returns-in_ok-refill_keyed-in-Keyed : goal.returns-in_ok-refill_keyed-in-Keyed
returns-in_ok-refill_keyed-in-Keyed c = on_ok_weaker c.feed_one-in-Keyed.result
    (made_taken c.args.accums.now c.feed_one-in-Keyed.new.accums c.args.target c.refill_keyed.new.spare (own c.args.x)
    (c.in_ok-refill_keyed-in-Keyed.ensures ∙ ap (λ l. input.Keyed (map value.Int (take c.in-Keyed.count l)) (map one_int (drop c.in-Keyed.count l))) c.as_slice-in-Keyed.ensures ∙ ap (λ z. made_of (own z)) (sym c.in-Keyed.is)))
    c.feed_one-in-Keyed.ensures
