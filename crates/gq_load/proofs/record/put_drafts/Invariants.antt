use Rattle.std.proofs.Common.{◌≡◌, drop}
use Rattle.gq_load_check.specs.Targets.{edge_type_at}
use Rattle.gq_index.specs.Steps.{Done}
use Rattle.gq_index.specs.Namings.{AreNamedBy}
use Rattle.gq_load.proofs.DraftLemmas.{drafted_to}
use Rattle.gq_load.proofs.record.put_drafts.Given as goal

abbrev pub invariant-loop-place : goal.invariant-loop-place
invariant-loop-place l = record {
  done : Done l.fn.store (drafted_to l.catalog l.routes l.fn.drafts l.place) l.store;
  others : drop l.place l.drafts ≡ drop l.place l.fn.drafts;
  named : AreNamedBy (edge_type_at l.catalog) l.store.edges.namings;
}
