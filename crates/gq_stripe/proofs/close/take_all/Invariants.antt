use Rattle.std.proofs.Common.{◌≡◌, ℕ, ◌<◌, ◌≤◌, true, false, get_or, length, vec_capacity}
use Rattle.std.specs.Slots.{slots_items, slots_filled, slots_len}
use Rattle.std.specs.Slots.Ownership.{Filled}
use Rattle.gq_stripe.specs.Ending.{AreTaken}
use Rattle.gq_stripe.proofs.close.take_all.Given as goal

abbrev pub invariant-loop-j : goal.invariant-loop-j
invariant-loop-j l = record {
  filled : Filled (slots_filled l.closed.slots) l.j (slots_len l.closed.slots);
  taken : (k : ℕ) → k < l.j → get_or (slots_filled l.closed.slots) k false ≡ false;
  same : slots_items l.closed.slots ≡ slots_items l.initial.closed.slots;
  len : slots_len l.closed.slots ≡ l.count;
  room : l.count ≤ vec_capacity l.taken;
  few : length l.taken.items ≤ l.j;
  fine : l.fine ≡ true → AreTaken l.j (slots_items l.initial.closed.slots) l.taken.items;
}
