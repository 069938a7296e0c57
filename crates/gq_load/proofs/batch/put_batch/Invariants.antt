use Rattle.std.proofs.Common.{◌≡◌, ◌++◌, List, length, drop}
use Rattle.gq_load_check.specs.Targets.{edge_type_at}
use Rattle.gq_index.specs.Steps.{Done}
use Rattle.gq_index.specs.Namings.{AreNamedBy}
use Rattle.gq_load.specs.Records.{Judged}
use Rattle.gq_load.specs.Reports.{report_of}
use Rattle.gq_load.specs.Batches.{HaveDrafts, steps_in}
use Rattle.gq_load.proofs.BatchLemmas.{judged_to}
use Rattle.gq_load.proofs.batch.put_batch.Given as goal

abbrev pub invariant-loop-place : goal.invariant-loop-place
invariant-loop-place l = record {
  room : length l.batch ≡ length l.fn.batch;
  drafts : HaveDrafts l.routes l.batch;
  others : drop l.place l.batch ≡ drop l.place l.fn.batch;
  done : Done l.fn.store (steps_in (judged_to l.catalog l.routes l.fn.batch l.place)) l.store;
  counted : (js : List Judged) → l.fn.report ≡ report_of js → l.report ≡ report_of (js ++ judged_to l.catalog l.routes l.fn.batch l.place);
  named : AreNamedBy (edge_type_at l.catalog) l.store.edges.namings;
}
