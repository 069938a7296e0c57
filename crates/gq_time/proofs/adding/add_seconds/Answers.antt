use Rattle.std.proofs.Common.{◌≡◌, refl, arith, ◌+ℤ◌, ◌*ℤ◌, FitsSigned, w64}
use Rattle.std.proofs.lemmas.Int.{ints, to_z-of_z}
use Rattle.gq_time.proofs.adding.add_seconds.Goals as goal

pub returns-then-in_range-clause-some : goal.returns-then-in_range-clause-some
returns-then-in_range-clause-some c =
    let f : FitsSigned w64 c.args.seconds = c.ranges.seconds in
    let g : FitsSigned w64 c.args.n = c.ranges.n in
    let h : FitsSigned w64 c.args.size = c.ranges.size in
    let more = simp to_z-of_z at c.in-Some.ensures in
    let fits : FitsSigned w64 c.in-Some.more = rw more.1 more.0 in
    let sum = simp to_z-of_z at c.in-Some-checked_add.ensures in
    let fits_sum : FitsSigned w64 c.in-Some-checked_add.sum = rw sum.1 sum.0 in
    let is : c.in-Some-checked_add.sum ≡ c.args.seconds +ℤ c.args.n *ℤ c.args.size = rw (← more.1) sum.1 in
    (omega (arith, ints), c.if-in_range.ensures.0 refl)

pub returns-else-in_range-clause-none : goal.returns-else-in_range-clause-none
returns-else-in_range-clause-none c other h =
    let f : FitsSigned w64 c.args.seconds = c.ranges.seconds in
    let g : FitsSigned w64 c.args.n = c.ranges.n in
    let i : FitsSigned w64 c.args.size = c.ranges.size in
    let more = simp to_z-of_z at c.in-Some.ensures in
    let fits : FitsSigned w64 c.in-Some.more = rw more.1 more.0 in
    let sum = simp to_z-of_z at c.in-Some-checked_add.ensures in
    let fits_sum : FitsSigned w64 c.in-Some-checked_add.sum = rw sum.1 sum.0 in
    let is : c.in-Some-checked_add.sum ≡ c.args.seconds +ℤ c.args.n *ℤ c.args.size = rw (← more.1) sum.1 in
    let no = c.if-in_range.ensures.1 (omega (arith, ints)) in
    cc
