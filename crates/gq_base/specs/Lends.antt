-- Lends: the final items of a list, once a `&mut` into it has ended.
use Rattle.std.specs.Prelude.{ℕ, List, length, slice_set}
use Rattle.std.specs.List.{refill}
use Rattle.std.specs.Borrow.{Lends, Fml, RattleType, MutBor, Array}
use Rattle.gq_base.specs.contracts.list.List.{the_row}

module _ (T : RattleType) (l : MutBor (List T.Denot)) where
  -- the item at a place is the last value written through r
  abbrev pub lends_item : ℕ → MutBor T.Denot → Fml
  lends_item at r = Lends (the_row T) T l r (slice_set l.now at)

  -- the items are the last ones written through r; their number is unchanged
  abbrev pub lends_items : MutBor (List T.Denot) → Fml
  lends_items r = Lends (the_row T) (Array T 0) l r (refill (length l.now) l.now)
