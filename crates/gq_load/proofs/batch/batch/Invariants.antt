use Rattle.std.proofs.Common.{◌≡◌, length}
use Rattle.gq_load.specs.Batches.{HaveDrafts}
use Rattle.gq_load.proofs.batch.batch.Given as goal

abbrev pub invariant-loop : goal.invariant-loop
invariant-loop l = record {
  count : length l.batch.items ≡ l.counter;
  drafts : HaveDrafts l.routes l.batch.items;
}
