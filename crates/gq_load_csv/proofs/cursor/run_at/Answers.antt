use Rattle.std.proofs.Common.{◌≡◌, ℕ, ◌+◌, ◌*◌, ◌^◌, ◌<◌, ◌≤◌, ◌-◌, length, arith, rules}
use Rattle.std.specs.Int.{IsInRange}
use Rattle.std.specs.Prelude.{slice_index}
use Rattle.gq_load_csv.proofs.CursorLemmas.{running_fits, running_run}
use Rattle.gq_load_csv.proofs.cursor.run_at.Goals as goal

pub returns-then-not-is_ascii_digit : goal.returns-then-not-is_ascii_digit
returns-then-not-is_ascii_digit c =
    let low : c.loop-place.place ≤ length c.args.text.now = omega (arith, c.few_of-most.ensures.within) in
    let few : c.loop-place.place ≤ 18 = omega (arith, c.few_of-most.ensures.few) in
    running_run c.args.text.now c.loop-place.place c.loop-place.number c.loop-place.invariant low few

pub overflow_mul-number : goal.overflow_mul-number
overflow_mul-number c =
    let low : c.loop-place.place < length c.args.text.now = omega (arith, c.few_of-most.ensures.within) in
    let few : c.loop-place.place < 18 = omega (arith, c.few_of-most.ensures.few) in
    let bound : c.loop-place.number * 10 + 0 < 10 ^ 18 = running_fits c.args.text.now c.loop-place.place c.loop-place.number 0 c.loop-place.invariant low few (omega arith) in
    omega (arith, bound)

pub overflow_add-number : goal.overflow_add-number
overflow_add-number c =
    let low : c.loop-place.place < length c.args.text.now = omega (arith, c.few_of-most.ensures.within) in
    let few : c.loop-place.place < 18 = omega (arith, c.few_of-most.ensures.few) in
    let digit : IsInRange 48 57 (slice_index c.args.text.now c.loop-place.place) = search rules in
    let d : ℕ = slice_index c.args.text.now c.loop-place.place - 48 in
    let bound : c.loop-place.number * 10 + d < 10 ^ 18 = running_fits c.args.text.now c.loop-place.place c.loop-place.number d c.loop-place.invariant low few (omega (arith, digit.0, digit.1)) in
    omega (arith, bound)

pub returns : goal.returns
returns c =
    running_run c.args.text.now c.few_of-most.result c.loop-place.number
    (let same : c.loop-place.place ≡ c.few_of-most.result = omega arith in rw same at c.loop-place.invariant)
    c.few_of-most.ensures.within c.few_of-most.ensures.few
