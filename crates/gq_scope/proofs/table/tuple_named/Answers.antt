use Rattle.std.proofs.Common.{◌∙◌, ◌≤◌, ap, length, arith}
use Rattle.std.specs.Str.{bytes_eq}
use Rattle.gq_scope.proofs.TupleLemmas.{place_low, misses_more, tuple_found, tuple_missing, tuples_few}
use Rattle.gq_scope.proofs.table.tuple_named.Goals as goal

pub bounds-names-place : goal.bounds-names-place
bounds-names-place c = place_low c.args.names.now c.args.tuples.now c.loop-number.number c.requires.numbered c.loop-number-test.true

pub overflow_cast-result : goal.overflow_cast-result
overflow_cast-result c =
    let few : length c.args.tuples.now ≤ length c.args.names.now = tuples_few c.args.names.now c.args.tuples.now c.requires.numbered in omega arith

pub returns-then-eq : goal.returns-then-eq
returns-then-eq c =
    tuple_found c.args.names.now c.args.tuples.now c.args.name.now c.loop-number.number c.index-names-place.result c.eq.result c.requires.numbered c.loop-number-test.true
    (c.eq.ensures ∙ ap (λ n. bytes_eq n c.args.name.now) c.as_str.ensures) c.if-eq.true c.loop-number.invariant

pub loop-number-preserved : goal.loop-number-preserved
loop-number-preserved c =
    misses_more c.args.names.now c.args.tuples.now c.args.name.now c.loop-number.number c.index-names-place.result c.eq.result c.requires.numbered c.loop-number-test.true
    (c.eq.ensures ∙ ap (λ n. bytes_eq n c.args.name.now) c.as_str.ensures) c.if-eq.false c.loop-number.invariant

pub returns : goal.returns
returns c = tuple_missing c.args.names.now c.args.tuples.now c.args.name.now c.loop-number.number c.requires.numbered c.loop-number-test.false c.loop-number.invariant
