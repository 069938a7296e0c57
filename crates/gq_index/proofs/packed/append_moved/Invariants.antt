use Rattle.std.proofs.Common.{◌≡◌, ◌++◌, map, take}
use Rattle.gq_index.specs.Packed.{AreApart, moved}
use Rattle.gq_index.proofs.packed.append_moved.Given as goal

abbrev pub invariant-loop-span : goal.invariant-loop-span
invariant-loop-span l = record {
  apart : AreApart l.spans.items l.limit;
  spans : l.spans.items ≡ l.fn.spans.items ++ map (moved l.first) (take l.span-index l.others);
}
