use Rattle.std.proofs.Common.{◌<◌, ◌-◌, length, subst, sym, ap, ◌∙◌, arith}
use Rattle.gq_base.specs.Keys.{number_of, numbers_of, links_of}
use Rattle.gq_base.proofs.KeyChainLemmas.{walk_starts, walk_goes, walk_falls, number_at, link_at, Walks}
use Rattle.gq_base.proofs.key_chains.last_below.Goals as goal

pub loop-place-init : goal.loop-place-init
loop-place-init c = walk_starts (length c.args.heads.now) (numbers_of c.args.entries.now) (number_of c.args.key) c.args.bound c.start-place.result c.start-place.ensures

pub loop-place-smaller : goal.loop-place-smaller
loop-place-smaller c =
    let place = c.loop-place.place in
    subst (λ x. x < place) (link_at c.args.entries.now (place - 1) (record { word = 0; tag = 0; before = 0 }) (omega (arith, c.loop-place.invariant.low, c.requires.within, c.loop-place-test.true)))
    (walk_falls (length c.args.entries.now) (length c.args.heads.now) c.args.heads.now (numbers_of c.args.entries.now) (links_of c.args.entries.now) (number_of c.args.key) c.args.bound
    place c.requires.chained.chains c.requires.within c.loop-place-test.true c.loop-place.invariant)

pub loop-place-preserved : goal.loop-place-preserved
loop-place-preserved c =
    let place = c.loop-place.place in let entries = c.args.entries.now in
    let under : place - 1 < length entries = omega (arith, c.loop-place.invariant.low, c.requires.within, c.loop-place-test.true) in
    let number = number_at entries (place - 1) (record { word = 0; tag = 0; before = 0 }) under in
    subst (Walks (length c.args.heads.now) (numbers_of entries) (number_of c.args.key) c.args.bound)
    (link_at entries (place - 1) (record { word = 0; tag = 0; before = 0 }) under)
    (walk_goes (length entries) (length c.args.heads.now) c.args.heads.now (numbers_of entries) (links_of entries) (number_of c.args.key) c.args.bound
    place c.requires.chained.chains c.requires.within c.loop-place-test.true c.loop-place.invariant
    (λ at. let yes = c.if-is_same.ensures.1 (ap number_of c.key_of.ensures ∙ sym number ∙ at) in absurd (cc)))
