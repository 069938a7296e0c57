use Rattle.std.proofs.Common.{◌≡◌, length}
use Rattle.gq_base.specs.Keys.{numbers_of, links_of}
use Rattle.gq_base.specs.KeyChains.{IsChainedTo}
use Rattle.gq_base.proofs.key_chains.link_all.Given as goal

abbrev pub invariant-loop-i : goal.invariant-loop-i
invariant-loop-i l = record {
  chained : IsChainedTo l.i (length l.heads) l.heads (numbers_of l.entries) (links_of l.entries);
  same : numbers_of l.entries ≡ numbers_of l.fn.entries;
}
