use Rattle.std.proofs.Common.{◌≡◌, length}
use Rattle.gq_load_check.specs.Targets.{edge_type_at}
use Rattle.gq_index.specs.Namings.{AreNamedBy}
use Rattle.gq_load.specs.Batches.{HaveDrafts}
use Rattle.gq_load.proofs.LoadLemmas.{IsUnderWay}
use Rattle.gq_load.proofs.loading.load_records.Given as goal

abbrev pub invariant-reading : goal.invariant-reading
invariant-reading l = record {
  way : IsUnderWay l.catalog l.routes l.fn.records l.fn.store l.records l.store l.report;
  named : AreNamedBy (edge_type_at l.catalog) l.store.edges.namings;
  room : length l.batch.items ≡ 256;
  drafts : HaveDrafts l.routes l.batch.items;
}

abbrev pub decreases-reading : goal.decreases-reading
decreases-reading l = length l.records
