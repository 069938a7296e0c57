use Rattle.std.proofs.Common.{◌≡◌, Ok, refl, ap, arith}
use Rattle.std_collections.specs.Layout.BTreeMap.{seek}
use Rattle.gq_nest.proofs.Seeks.{within, writes, finds, lacks, unwritten}
use Rattle.gq_nest.proofs.form.Form.get_mut.Goals as goal

pub index_mut-requires : goal.index_mut-requires
index_mut-requires g c = rw c.in-Few.is (
    let s : Ok c.in-Ok.at ≡ seek (g.Q.Comparable.compare c.args.key) c.in-Few.entries.items = rw (c.as_slice.ensures.value, c.in-Few.is) at c.in-Ok.ensures in
    let l = within (g.Q.Comparable.compare c.args.key) c.in-Few.entries.items c.in-Ok.at s in
    let n = c.in-Few.entries.ok.0 in
    omega (arith, l, n))

pub returns-in-Ok : goal.returns-in-Ok
returns-in-Ok g c = rw c.in-Few.is (
    let s = rw (c.as_slice.ensures.value, c.in-Few.is) at c.in-Ok.ensures in
    let e = rw c.in-Few.is at c.index_mut.ensures.value in
    ((refl, (λ w. writes _ _ _ s _ w e), refl), record { writes_back = tt; value = finds _ _ _ s _ e }))

pub returns-in-Err : goal.returns-in-Err
returns-in-Err g c = rw c.in-Few.is (
    let s = rw (c.as_slice.ensures.value, c.in-Few.is) at c.in-Err.ensures in
    let up = rw c.in-Few.is at c.requires in
    ((refl, (λ w. unwritten _ (g.met.Q.Comparable.below_greater c.args.key) _ _ up s w), refl), record { writes_back = tt; value = lacks _ (g.met.Q.Comparable.below_greater c.args.key) _ _ up s }))

pub returns-in-Many : goal.returns-in-Many
returns-in-Many g c = rw c.in-Many.is (
    let none = rw (c.deref_mut.ensures.value, c.in-Many.is) at c.get_mut.follows.holds-at-none in
    ((refl, (λ w. (rw (c.deref_mut.ensures.value, c.in-Many.is) at (c.get_mut.follows.holds w)).0), ap (λ m. m.entries) none), record { writes_back = tt; value = rw (c.deref_mut.ensures.value, c.in-Many.is) at c.get_mut.ensures.value }))
