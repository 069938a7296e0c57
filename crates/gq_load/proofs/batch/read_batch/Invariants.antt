use Rattle.std.proofs.Common.{◌≡◌, length, take}
use Rattle.gq_load.specs.Batches.{HaveDrafts, AreWhole, ReadsOn}
use Rattle.gq_load.proofs.batch.read_batch.Given as goal

abbrev pub invariant-loop-place : goal.invariant-loop-place
invariant-loop-place l = record {
  room : length l.batch ≡ length l.fn.batch;
  drafts : HaveDrafts l.routes l.batch;
  whole : AreWhole l.catalog l.routes l.place l.batch;
  reads : ReadsOn l.catalog l.routes l.fn.records l.records (take l.place l.batch);
}
