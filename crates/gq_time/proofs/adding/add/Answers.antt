use Rattle.std.proofs.Common.{FitsSigned, w64, ◌*ℤ◌, pos}
use Rattle.std.proofs.lemmas.Int.{to_z-of_z}
use Rattle.gq_time.specs.Adding.{AreMonthsLater}
use Rattle.gq_time.proofs.AddingLemmas.{months_fit}
use Rattle.gq_time.proofs.adding.add.Goals as goal

pub returns-in-Some-clause-some : goal.returns-in-Some-clause-some
returns-in-Some-clause-some c =
    let f : FitsSigned w64 c.args.seconds = c.ranges.seconds in
    let g : FitsSigned w64 c.args.n = c.ranges.n in
    let months = simp to_z-of_z at c.in-Some.ensures in
    let fits : FitsSigned w64 c.in-Some.months = rw months.1 months.0 in
    let some = simp to_z-of_z at c.add_months.ensures.some in
    rw (c.in-Year.is, ← months.1) some

pub returns-in-Some-clause-only : goal.returns-in-Some-clause-only
returns-in-Some-clause-only c =
    let f : FitsSigned w64 c.args.seconds = c.ranges.seconds in
    let g : FitsSigned w64 c.args.n = c.ranges.n in
    let months = simp to_z-of_z at c.in-Some.ensures in
    let fits : FitsSigned w64 c.in-Some.months = rw months.1 months.0 in
    let only = simp to_z-of_z at c.add_months.ensures.only in
    rw (c.in-Year.is, ← months.1) only

pub returns-in-Some-clause-none : goal.returns-in-Some-clause-none
returns-in-Some-clause-none c =
    let f : FitsSigned w64 c.args.seconds = c.ranges.seconds in
    let g : FitsSigned w64 c.args.n = c.ranges.n in
    let months = simp to_z-of_z at c.in-Some.ensures in
    let fits : FitsSigned w64 c.in-Some.months = rw months.1 months.0 in
    let none = simp to_z-of_z at c.add_months.ensures.none in
    rw (c.in-Year.is, ← months.1) none

pub returns-in-Some-clause-in_range : goal.returns-in-Some-clause-in_range
returns-in-Some-clause-in_range c = c.add_months.ensures.in_range

pub returns-in-None-clause-none : goal.returns-in-None-clause-none
returns-in-None-clause-none c other h =
    let later : AreMonthsLater (c.args.n *ℤ pos 12) c.args.seconds other = rw c.in-Year.is at h in
    let fits = months_fit _ _ _ later in
    let f : FitsSigned w64 c.args.n = c.ranges.n in
    let no = simp to_z-of_z at c.in-None.ensures in
    no fits

pub returns-in-Month-clause-some : goal.returns-in-Month-clause-some
returns-in-Month-clause-some c =
    let f : FitsSigned w64 c.args.seconds = c.ranges.seconds in
    let g : FitsSigned w64 c.args.n = c.ranges.n in
    rw c.in-Month.is (simp to_z-of_z at c.add_months-in-Month.ensures.some)

pub returns-in-Month-clause-only : goal.returns-in-Month-clause-only
returns-in-Month-clause-only c =
    let f : FitsSigned w64 c.args.seconds = c.ranges.seconds in
    let g : FitsSigned w64 c.args.n = c.ranges.n in
    rw c.in-Month.is (simp to_z-of_z at c.add_months-in-Month.ensures.only)

pub returns-in-Month-clause-none : goal.returns-in-Month-clause-none
returns-in-Month-clause-none c =
    let f : FitsSigned w64 c.args.seconds = c.ranges.seconds in
    let g : FitsSigned w64 c.args.n = c.ranges.n in
    rw c.in-Month.is (simp to_z-of_z at c.add_months-in-Month.ensures.none)

pub returns-in-Month-clause-in_range : goal.returns-in-Month-clause-in_range
returns-in-Month-clause-in_range c = c.add_months-in-Month.ensures.in_range
