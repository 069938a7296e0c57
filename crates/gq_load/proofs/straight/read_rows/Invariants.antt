use Rattle.std.proofs.Common.{◌≡◌, ◌<◌, ℕ, length, drop}
use Rattle.std.specs.Prelude.{slice_get, Some}
use Rattle.gq_load_csv.specs.Fields.{TellsTimes}
use Rattle.gq_load.specs.declared.route.Route.{Route}
use Rattle.gq_load.specs.declared.draft.Draft.{Draft}
use Rattle.gq_load.specs.Rows.{steps_of, and_steps}
use Rattle.gq_load.specs.Drafts.{IsSized}
use Rattle.gq_load.proofs.RowLemmas.{Reading}
use Rattle.gq_load.proofs.DraftLemmas.{drafted_to}
use Rattle.gq_load.proofs.straight.read_rows.Given as goal

abbrev pub invariant-loop-place : goal.invariant-loop-place
invariant-loop-place l = record {
  reads : (read : Reading) → TellsTimes read → steps_of read l.catalog l.routes l.fn.line.fields ≡ and_steps (drafted_to l.catalog l.routes l.drafts l.place) (steps_of read l.catalog (drop l.place l.routes) l.fn.line.fields);
  count : length l.drafts ≡ length l.routes;
  sized : (k : ℕ) (route : Route) (draft : Draft) → k < l.place → slice_get l.routes k ≡ Some route → slice_get l.drafts k ≡ Some draft → IsSized l.catalog route draft;
  same : l.line ≡ l.fn.line;
}
