use Rattle.std.proofs.Common.{◌≡◌, ◌≤◌, take, vec_len}
use Rattle.gq_base.specs.Keys.{numbers_of}
use Rattle.gq_base.specs.KeySlots.{IsTable}
use Rattle.gq_base.proofs.key_table.KeyTable.cut.Given as goal

abbrev pub invariant-loop-self : goal.invariant-loop-self
invariant-loop-self l = record {
  table : IsTable l.self-inside.slots.items l.self-inside.entries.items;
  enough : l.len ≤ vec_len l.self-inside.entries;
  kept : take l.len (numbers_of l.self-inside.entries.items) ≡ take l.len (numbers_of l.initial.self-inside.entries.items);
}

abbrev pub decreases-loop-self : goal.decreases-loop-self
decreases-loop-self l = vec_len l.self-inside.entries
