-- SessionLemmas: the invariant of a session holds after each change; and what its answers say about a statement.
use Rattle.std.proofs.Common.{◌≡◌, ℕ, List, [], ◌∷◌, All, Option, Some, None, Result, Ok, Err, IfOk, IfSome, ◌++◌, refl, sym, ap, subst, ◌∙◌, ◌<◌, length, drop}
use Rattle.std.proofs.lemmas.List.{take-append-drop}
use Rattle.std.specs.Prelude.{IfErr, IsSome, Vec}
use Rattle.std.specs.declared.alloc.Global.{Global}
use Rattle.gq_graph.specs.Catalog.{Schema}
use Rattle.gq_graph.specs.declared.types.EdgeType.{EdgeType}
use Rattle.gq_index.specs.declared.kept.KeptIndex.{KeptIndex}
use Rattle.gq_index.specs.declared.store.Store.{Store}
use Rattle.gq_index.specs.declared.walks.Traversal.{Traversal}
use Rattle.gq_index.specs.Kept.{IsKept, CatalogGrown, StoreGrown}
use Rattle.gq_index.specs.Sights.{sight_of}
use Rattle.gq_index.specs.Walks.{adjacency}
use Rattle.gq_index.proofs.KeptLemmas.{kept_grows, store_same, catalog_same}
use Rattle.gq_diagnostics.specs.declared.refusal.Refusal.{Refusal}
use Rattle.gq_diagnostics.specs.declared.refusal.StatementFault.{StatementFault}
use Rattle.gq_diagnostics.specs.declared.refusal.StatementFault.TheVariants as fault
use Rattle.gq_diagnostics.specs.Answers.{Answers, Denies}
use Rattle.gq_insert.specs.Fits.{IsSound}
use Rattle.gq_load.specs.Records.{AllHaveEnds}
use Rattle.gq_load_check.specs.Fits.{HasGrown}
use Rattle.gq_load_check.specs.Targets.{no_edge_type}
use Rattle.gq_load.specs.Keeping.{StoreFits, no_rows}
use Rattle.gq_query_run.specs.Indexed.{IsIndexed}
use Rattle.gq_query_run.specs.Kept.{Kept}
use Rattle.gq_query_run.specs.Queries.{QueryFits}
use Rattle.gq_rules_store.specs.Upserts.{StoreRowsFit}
use Rattle.gq_ddl.specs.declared.named.NamedJob.{NamedJob}
use Rattle.gq_ddl.specs.Fitting.{JobsFit}
use Rattle.gq_load.specs.KeepingLaws.{empty_fits, growth_fits, attributes_there, rows_join}
use Rattle.gq_tree.specs.declared.job.RunJobTree.{RunJobTree}
use Rattle.gq_io.specs.Known.{Known}
use Rattle.gq_diagnostics.specs.Effects.{Becomes, Refused, lines_of}
use Rattle.gq_load_run.specs.JobRuns.{JobDoes, JobLeaves}
use Rattle.gq_session.specs.Statements.{State, RunsJob, JobLeft, opening}
use Rattle.gq_session.specs.Safe.{IsSafe}
use Rattle.gq_session.specs.Keeping.{SessionFits}
use Rattle.gq_session.proofs.GrowthLemmas.{Grown, not_grown}
use Rattle.gq_session.proofs.SafeLemmas.{opening_law, grown_safe, used_safe, jobs_safe, queries_safe, rows_safe}

-- the ends of edge types exist
pub ends_there : (schema : Schema) → IsSound schema → AllHaveEnds schema
ends_there schema sound kind low =
    let t = sound.edge_types kind no_edge_type low in
    record { from = t.from; to = t.to; key = t.key }

-- ---- what a call leaves

-- what holds of what was there, and of what the call makes of it, holds of what it leaves
pub answers_keep : {A R : Type 0} (P : A → Type 0) (meant : Result A Refusal) (old new : A) (r : Result R StatementFault) → P old → ((made : A) → meant ≡ Ok made → P made)
    → Answers meant old new r → P new
answers_keep P meant old new (Ok x) before after is = after new is
answers_keep P meant old new (Err (fault.Refused refusal)) before after denies = subst P (sym denies.1) before
answers_keep P meant old new (Err fault.ReadFault) before after never = absurd never
answers_keep P meant old new (Err fault.OutOfMemory) before after same = subst P (sym same) before

-- a declaration extends the catalog, or leaves it unchanged
pub answers_grow : {R : Type 0} (meant : Result Schema Refusal) (before after : Schema) (r : Result R StatementFault) → ((new : Schema) → meant ≡ Ok new → Grown before new)
    → Answers meant before after r → Grown before after
answers_grow meant before after r grows answers = answers_keep (Grown before) meant before after r (not_grown before) grows answers

-- ---- the invariant

-- an empty session
pub session_opens : (schema : Schema) (jobs : List NamedJob) (queries : List Kept) (store : Store) (file : Option (List ℕ)) (turns : ℕ) (index : KeptIndex)
    → schema ≡ record { vertex_types = []; edge_types = []; graphs = [] } → jobs ≡ [] → queries ≡ [] → store ≡ no_rows
    → IsKept index schema store → SessionFits (record { schema = schema; in_use = None; jobs = jobs; queries = queries; store = store; file = file; turns = turns }) index
session_opens schema jobs queries store file turns index types no_jobs no_queries rows kept =
    let With : Schema → List NamedJob → List Kept → Store → State =
    λ s js qs rs. record { schema = s; in_use = None; jobs = js; queries = qs; store = rs; file = file; turns = turns } in
    let same : With schema jobs queries store ≡ opening file turns =
    ap (λ s. With s jobs queries store) types ∙ ap (λ js. With (opening file turns).schema js queries store) no_jobs
    ∙ ap (λ qs. With (opening file turns).schema [] qs store) no_queries ∙ ap (λ rs. With (opening file turns).schema [] [] rs) rows in
    record { safe = subst IsSafe (sym same) (opening_law file turns); kept = subst (StoreFits schema) (sym rows) (empty_fits schema); indexed = kept }

-- the catalog is extended, in the sense of the index
types_grow : (before after : Schema) → HasGrown before after → CatalogGrown before after
types_grow before after grown =
    let more : List EdgeType = drop (length before.edge_types) after.edge_types in
    record {
      more = more;
      types = sym (take-append-drop (length before.edge_types) after.edge_types) ∙ ap (λ (l : List EdgeType). l ++ more) grown.edge_types;
    }

module _ (s : State) (index : KeptIndex) (fits : SessionFits s index) where
  pub session_grows : (after : Schema) → Grown s.schema after → SessionFits (record s { schema = after }) index
  session_grows after more = record {
    safe = grown_safe s after more fits.safe;
    kept = growth_fits s.schema after s.store more.grown fits.kept;
    indexed = kept_grows index s.schema after s.store s.store (types_grow s.schema after more.grown) (store_same s.store) fits.indexed;
  }

  -- another graph is in use
  pub session_uses : (graph : ℕ) → graph < length s.schema.graphs → SessionFits (record s { in_use = Some graph }) index
  session_uses graph low = record { safe = used_safe s graph low fits.safe; kept = fits.kept; indexed = fits.indexed }

  -- there are other jobs
  pub session_works : (jobs : List NamedJob) → JobsFit s.schema jobs → SessionFits (record s { jobs = jobs }) index
  session_works jobs fit = record { safe = jobs_safe s jobs fit fits.safe; kept = fits.kept; indexed = fits.indexed }

  -- there are other queries
  pub session_asks : (queries : List Kept) → All (QueryFits s.schema) queries → SessionFits (record s { queries = queries }) index
  session_asks queries fit = record { safe = queries_safe s queries fit fits.safe; kept = fits.kept; indexed = fits.indexed }

  -- the store has grown
  pub session_gains : (after : Store) → StoreFits s.schema after → StoreRowsFit s.schema after → StoreGrown s.store after → SessionFits (record s { store = after }) index
  session_gains after fit rows more = record {
    safe = rows_safe s after rows fits.safe;
    kept = fit;
    indexed = kept_grows index s.schema s.schema s.store after (catalog_same s.schema) more fits.indexed;
  }

  -- the index was updated
  pub session_indexes : (after : KeptIndex) → IsKept after s.schema s.store → SessionFits s after
  session_indexes after kept = record { safe = fits.safe; kept = fits.kept; indexed = kept }

  -- with its index, as it was last updated, queries can run over its store
  pub session_indexed : (after : KeptIndex) (built : List (List Traversal)) → after.index ≡ adjacency (sight_of s.schema s.store.vertices s.store.edges) → built ≡ after.index
      → IsIndexed s.schema s.store built
  session_indexed after built is lent = record { attributes = attributes_there s.schema s.store fits.kept; ends = rows_join s.schema s.store fits.kept; adjacent = lent ∙ is }

-- ---- the session afterwards

denied_same : (meant : Result State Refusal) (s t : State) (f : StatementFault) → Denies meant s t f → t ≡ s
denied_same meant s t (fault.Refused refusal) denies = denies.1
denied_same meant s t fault.ReadFault never = absurd never
denied_same meant s t fault.OutOfMemory same = same

-- a statement that prints nothing leaves the session unchanged if it fails
pub silent_left : {R A : Type 0} (meant : Result State Refusal) (s t : State) (answer : Result R StatementFault) (r : Result A StatementFault)
    → Answers meant s t answer → IfErr r (λ f. answer ≡ Err f) → IfErr r (λ f. t ≡ s)
silent_left meant s t answer (Ok a) answers same = tt
silent_left {R} meant s t answer (Err f) answers same =
    let P : Result R StatementFault → Type 0 = λ a. Answers meant s t a in
    denied_same meant s t f (subst P same answers)

-- and so does one that prints a line
pub left_same : {A : Type 0} (s t : State) (r : Result A StatementFault) → t ≡ s → IfErr r (λ f. t ≡ s)
left_same s t (Ok a) same = tt
left_same s t (Err f) same = same

-- ---- loading jobs

-- the answer that an answer with an optional line was made of
abbrev pub IsLine : {A E : Type 0} → Result A E → Result (Option A) E → Type 0
IsLine answer (Ok (Some line)) = answer ≡ Ok line
IsLine answer (Ok None) = ⊥
IsLine answer (Err fault) = answer ≡ Err fault

pub is_line : {A E : Type 0} (answer : Result A E) (r : Result (Option A) E) → IfOk r (λ printed. IfSome printed (λ line. answer ≡ Ok line)) → IfOk r IsSome
    → IfErr r (λ fault. answer ≡ Err fault) → IsLine answer r
is_line answer (Ok (Some line)) done printed same = done
is_line answer (Ok None) done printed same = absurd (cc)
is_line answer (Err fault) done printed same = same

module _ (s v : State) (same : v ≡ s) (tree : RunJobTree) where
  job_done : (known : Known) (later : Store) (lines : List (List ℕ)) → JobDoes known v.schema v.jobs v.store tree (Becomes later lines)
      → RunsJob known s tree (Becomes (record v { store = later }) lines)
  job_done known later lines does =
      let P : State → Type 0 = λ u. RunsJob known u tree (Becomes (record v { store = later }) lines) in
      subst P same (Becomes later lines, does, refl)

  pub job_printed : (known : Known) (later : Store) (answer : Result (Vec ℕ Global) StatementFault) (r : Result (Option (Vec ℕ Global)) StatementFault) → IsLine answer r
      → IfOk answer (λ line. JobDoes known v.schema v.jobs v.store tree (Becomes later (line.items ∷ [])))
      → IfOk r (λ line. RunsJob known s tree (Becomes (record v { store = later }) (lines_of line)))
  job_printed known later answer (Ok (Some line)) is does =
      let P : Result (Vec ℕ Global) StatementFault → Type 0 = λ a. IfOk a (λ l. JobDoes known v.schema v.jobs v.store tree (Becomes later (l.items ∷ []))) in
      job_done known later (line.items ∷ []) (subst P is does)
  job_printed known later answer (Ok None) is does = absurd is
  job_printed known later answer (Err fault) is does = tt

  pub job_refused : (known : Known) (message : List ℕ) → JobDoes known v.schema v.jobs v.store tree (Refused message) → RunsJob known s tree (Refused message)
  job_refused known message does =
      let P : State → Type 0 = λ u. RunsJob known u tree (Refused message) in
      subst P same (Refused message, does, refl)

  pub job_left : (known : Known) (later : Store) (answer : Result (Vec ℕ Global) StatementFault) (r : Result (Option (Vec ℕ Global)) StatementFault) → IsLine answer r
      → IfErr answer (λ f. JobLeaves known v.schema v.jobs v.store tree f later) → IfErr r (λ f. JobLeft known s tree f (record v { store = later }))
  job_left known later answer (Ok line) is leaves = tt
  job_left known later answer (Err f) is leaves =
      let P : Result (Vec ℕ Global) StatementFault → Type 0 = λ a. IfErr a (λ e. JobLeaves known v.schema v.jobs v.store tree e later) in
      let Q : State → Type 0 = λ u. JobLeft known u tree f (record v { store = later }) in
      subst Q same (later, subst P is leaves, refl)

-- the refusal of a statement is that of its call
pub refused_back : {A E : Type 0} (answer : Result A E) (r : Result (Option A) E) (fault : E) → IsLine answer r → r ≡ Err fault → answer ≡ Err fault
refused_back answer r fault is same = let P = λ (x : _). IsLine answer x in subst P same is
