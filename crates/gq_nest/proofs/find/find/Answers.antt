use Rattle.std.proofs.Common.{◌≡◌, ◌<◌, ◌+◌, ◌-◌, length, refl, sym, ap, ◌∙◌, arith}
use Rattle.gq_nest.proofs.Seeks.{starts_below, starts_end, seek_none, seek_above, seek_there}
use Rattle.gq_nest.proofs.find.find.Goals as goal

pub returns-in-Greater : goal.returns-in-Greater
returns-in-Greater g c =
    let some = c.loop-end-test.true in
    let most = c.loop-end.invariant.0 in
    let n : c.loop-end.end ≡ (c.loop-end.end - 1) + 1 = omega (arith, some) in
    let l : c.loop-end.end - 1 < length c.args.entries.now = omega (arith, some, most) in
    seek_above (g.Q.Comparable.compare c.args.key) (g.met.Q.Comparable.below_greater c.args.key) _ _ _ _ n l c.index-entries-end.is
    (ap (λ v. g.Q.Comparable.compare c.args.key v.0) c.index-entries-end.is ∙ sym c.in-Greater.ensures) c.loop-end.invariant.1 c.requires

pub returns-in-Equal : goal.returns-in-Equal
returns-in-Equal g c =
    let some = c.loop-end-test.true in
    let most = c.loop-end.invariant.0 in
    let l : c.loop-end.end - 1 < length c.args.entries.now = omega (arith, some, most) in
    seek_there (g.Q.Comparable.compare c.args.key) (g.met.Q.Comparable.below_greater c.args.key) _ _ _ l c.index-entries-end.is
    (ap (λ v. g.Q.Comparable.compare c.args.key v.0) c.index-entries-end.is ∙ sym c.in-Equal.ensures) c.requires

pub loop-end-preserved : goal.loop-end-preserved
loop-end-preserved g c =
    let some = c.loop-end-test.true in
    let most = c.loop-end.invariant.0 in
    let l : c.loop-end.end - 1 < length c.args.entries.now = omega (arith, some, most) in (
      omega (arith, l),
      starts_below (g.Q.Comparable.compare c.args.key) _ _ _ l c.index-entries-end.is
          (ap (λ v. g.Q.Comparable.compare c.args.key v.0) c.index-entries-end.is ∙ sym c.in-Less.ensures),
    )

pub loop-end-init : goal.loop-end-init
loop-end-init g c = (omega arith, starts_end (g.Q.Comparable.compare c.args.key) c.args.entries.now _ refl)

pub returns : goal.returns
returns g c =
    let none = c.loop-end-test.false in
    let n : c.loop-end.end ≡ 0 = omega (arith, none) in
    seek_none (g.Q.Comparable.compare c.args.key) _ _ n c.loop-end.invariant.1
