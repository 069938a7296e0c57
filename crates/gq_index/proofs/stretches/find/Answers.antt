use Rattle.std.proofs.Common.{◌≡◌, ◌+◌, ◌-◌, ◌≤◌, ◌/◌, subst, arith}
use Rattle.gq_index.specs.Stretches.{stretch_at}
use Rattle.gq_index.proofs.RunLemmas.{stepped}
use Rattle.gq_index.proofs.stretches.find.Goals as goal

pub tick-requires : goal.tick-requires
tick-requires c = omega (arith, c.loop-low.invariant.bound 63 c.requires.short)

pub loop-low-preserved-then-stretches-middle : goal.loop-low-preserved-then-stretches-middle
loop-low-preserved-then-stretches-middle c =
    let i = c.loop-low.invariant in let low = c.loop-low.low in let high = c.loop-low.high in
    let e = c.args.steps.now in
    let next : c.tick.new.self ≡ c.loop-low.steps + 1 = c.tick.ensures in
    let last : low + (high - low) / 2 ≡ low + (high - low) / 2 + 1 - 1 = omega arith in
    record {
      order = omega arith;
      inside = omega arith;
      before = λ _. subst (λ k. (stretch_at c.args.stretches.now k).start ≤ c.args.place) last c.if-stretches-middle.true;
      behind = i.behind;
      grown = omega arith;
      bound = λ d h. (stepped (high - low) (high - (low + (high - low) / 2 + 1)) e d c.loop-low.steps c.tick.new.self (omega arith) (omega arith) next (i.bound d h) (i.halved d h)).0;
      halved = λ d h. (stepped (high - low) (high - (low + (high - low) / 2 + 1)) e d c.loop-low.steps c.tick.new.self (omega arith) (omega arith) next (i.bound d h) (i.halved d h)).1;
    }

pub loop-low-preserved : goal.loop-low-preserved
loop-low-preserved c =
    let i = c.loop-low.invariant in let low = c.loop-low.low in let high = c.loop-low.high in
    let e = c.args.steps.now in
    let next : c.tick.new.self ≡ c.loop-low.steps + 1 = c.tick.ensures in
    record {
      order = omega arith;
      inside = omega arith;
      before = i.before;
      behind = λ _. c.if-stretches-middle.false;
      grown = omega arith;
      bound = λ d h. (stepped (high - low) (low + (high - low) / 2 - low) e d c.loop-low.steps c.tick.new.self (omega arith) (omega arith) next (i.bound d h) (i.halved d h)).0;
      halved = λ d h. (stepped (high - low) (low + (high - low) / 2 - low) e d c.loop-low.steps c.tick.new.self (omega arith) (omega arith) next (i.bound d h) (i.halved d h)).1;
    }
