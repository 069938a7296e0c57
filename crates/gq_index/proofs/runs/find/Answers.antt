use Rattle.std.proofs.Common.{◌≡◌, ℕ, ◌+◌, ◌-◌, ◌<◌, ◌≤◌, ◌/◌, arith}
use Rattle.gq_index.proofs.RunLemmas.{stepped, found_is}
use Rattle.gq_index.proofs.runs.find.Goals as goal

le_trans : (a b c : ℕ) → a ≤ b → b ≤ c → a ≤ c
le_trans a b c h k = omega arith

lt_le_trans : (a b c : ℕ) → a < b → b ≤ c → a < c
lt_le_trans a b c h k = omega arith

pub tick-requires : goal.tick-requires
tick-requires c = omega (arith, c.loop-low.invariant.bound 63 c.requires.short)

pub loop-low-preserved-then-segments-middle : goal.loop-low-preserved-then-segments-middle
loop-low-preserved-then-segments-middle c =
    let i = c.loop-low.invariant in let low = c.loop-low.low in let high = c.loop-low.high in
    let segments = c.args.segments.now in let e = c.args.steps.now in
    let next : c.tick.new.self ≡ c.loop-low.steps + 1 = c.tick.ensures in
    record {
      order = omega arith;
      inside = omega arith;
      before = λ k h. le_trans _ _ _ (c.requires.rising k (low + (high - low) / 2) (omega arith) (omega arith)) c.if-segments-middle.true;
      after = i.after;
      grown = omega arith;
      bound = λ d h. (stepped (high - low) (high - (low + (high - low) / 2 + 1)) e d c.loop-low.steps c.tick.new.self (omega arith) (omega arith) next (i.bound d h) (i.halved d h)).0;
      halved = λ d h. (stepped (high - low) (high - (low + (high - low) / 2 + 1)) e d c.loop-low.steps c.tick.new.self (omega arith) (omega arith) next (i.bound d h) (i.halved d h)).1;
    }

pub loop-low-preserved : goal.loop-low-preserved
loop-low-preserved c =
    let i = c.loop-low.invariant in let low = c.loop-low.low in let high = c.loop-low.high in
    let segments = c.args.segments.now in let e = c.args.steps.now in
    let next : c.tick.new.self ≡ c.loop-low.steps + 1 = c.tick.ensures in
    record {
      order = omega arith;
      inside = omega arith;
      before = i.before;
      after = λ k g h. lt_le_trans _ _ _ c.if-segments-middle.false (c.requires.rising (low + (high - low) / 2) k g h);
      grown = omega arith;
      bound = λ d h. (stepped (high - low) (low + (high - low) / 2 - low) e d c.loop-low.steps c.tick.new.self (omega arith) (omega arith) next (i.bound d h) (i.halved d h)).0;
      halved = λ d h. (stepped (high - low) (low + (high - low) / 2 - low) e d c.loop-low.steps c.tick.new.self (omega arith) (omega arith) next (i.bound d h) (i.halved d h)).1;
    }

pub returns-clause-found : goal.returns-clause-found
returns-clause-found c =
    let i = c.loop-low.invariant in
    found_is c.args.segments.now c.args.place c.loop-low.low (omega arith) i.before (λ k g h. i.after k (omega arith) h)
