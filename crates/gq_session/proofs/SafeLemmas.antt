-- SafeLemmas: a session begins safe, and each statement leaves it so.
use Rattle.std.proofs.Common.{◌≡◌, ◌≢◌, ℕ, zero, suc, ◌+◌, ◌<◌, ◌≤◌, min, Bool, true, false, not, cond, List, [], ◌∷◌, ◌++◌, length, get_or, take, map, All, Option, Some, None, refl, ap, sym, ◌∙◌, subst, arith}
use Rattle.std.specs.Prelude.{Result, Ok, Err, ◌&&◌, ◌||◌, ◌==◌, bytes_eq, find, position, slice_get, option_and_then}
use Rattle.std.specs.List.{list_any}
use Rattle.std.specs.Option.{ForSome, option_or, option_map}
use Rattle.std.proofs.lemmas.List.{length-take}
use Rattle.std.proofs.lemmas.List.Elements.{All-set, All-push, All-map}
use Rattle.std.proofs.lemmas.Option.{slice_get_within, get_or_from_slice_get}
use Rattle.gq_graph.specs.Catalog.{Schema, graph_of}
use Rattle.gq_graph.specs.declared.types.GraphType.{GraphType}
use Rattle.gq_tree.specs.declared.job.Destination.{Destination}
use Rattle.gq_tree.specs.declared.job.FileTree.{FileTree}
use Rattle.gq_tree.specs.declared.job.FileTree.TheVariants as trees
use Rattle.gq_tree.specs.declared.job.JobLine.{JobLine}
use Rattle.gq_tree.specs.declared.job.JobLine.TheVariants.{Define, Load}
use Rattle.gq_tree.specs.declared.job.JobTree.{JobTree}
use Rattle.gq_tree.specs.declared.job.RunJobTree.{RunJobTree}
use Rattle.gq_tree.specs.declared.query.QueryTree.{QueryTree}
use Rattle.gq_tree.specs.declared.query.Installed.{Installed}
use Rattle.gq_tree.specs.declared.query.Installed.TheVariants as which
use Rattle.gq_tree.specs.declared.schema.GraphTree.{GraphTree}
use Rattle.gq_tree.specs.declared.schema.InsertTree.{InsertTree}
use Rattle.gq_tree.specs.declared.statement.Statement.TheVariants as top
use Rattle.gq_diagnostics.specs.declared.refusal.Refusal.{Refusal}
use Rattle.gq_diagnostics.specs.declared.refusal.Refusal.TheVariants as refusal
use Rattle.gq_diagnostics.specs.Effects.{Effect, Becomes, Refused}
use Rattle.gq_io.specs.Known.{Known, Answer, Absent, TooLong, Bytes}
use Rattle.gq_index.specs.declared.store.Store.{Store}
use Rattle.gq_load_csv.specs.Readings.{reading, reading_tells}
use Rattle.gq_load_check.specs.declared.fault.JobFault.{JobFault}
use Rattle.gq_load_check.specs.declared.fault.JobFault.TheVariants as fault
use Rattle.gq_load_check.specs.declared.insert.Insert.{Insert}
use Rattle.gq_load_check.specs.declared.job.Job.{Job}
use Rattle.gq_load_check.specs.declared.job.LoadLine.{LoadLine}
use Rattle.gq_load_check.specs.declared.job.Target.{Target}
use Rattle.gq_load_check.specs.Fits.{is_default, HasGrown, LineFits}
use Rattle.gq_load_check.specs.Lines.{defines, target_of, job_of}
use Rattle.gq_load_check.specs.Options.{has_bad_option}
use Rattle.gq_load_check.specs.Paths.{undefined_name}
use Rattle.gq_load_check.specs.Refusals.{first_due, bad_option, unknown_file, wrong_count, id_missing, columns_refusal, destination_refusal, line_refusal, job_refusal}
use Rattle.gq_load_check.specs.Targets.{value_count, name_count, graph_at}
use Rattle.gq_load_check.proofs.FitLemmas.{lines_fit}
use Rattle.gq_ddl.specs.declared.named.NamedJob.{NamedJob}
use Rattle.gq_ddl.specs.Declarations.{vertex_created, edge_created, graph_created}
use Rattle.gq_ddl.specs.Fitting.{JobsFit}
use Rattle.gq_ddl.specs.FittingLaws.{jobs_stay, jobs_and, found_fits}
use Rattle.gq_ddl.specs.Jobs.{has_job, entry_of, with_job, unless_refused, job_for, job_created}
use Rattle.gq_load.specs.declared.report.Report.{Report}
use Rattle.gq_load.specs.Columns.{Fields}
use Rattle.gq_load.specs.Inserts.{steps_of_insert}
use Rattle.gq_load.specs.Loads.{header_of, loaded_of, records_in, missing_of}
use Rattle.gq_load.specs.Puts.{put_all}
use Rattle.gq_load_run.specs.declared.lines.FileReport.{FileReport}
use Rattle.gq_load_run.specs.declared.place.LoadPath.{LoadPath}
use Rattle.gq_load_run.specs.declared.place.LoadPath.TheVariants.{At, Nowhere}
use Rattle.gq_load_run.specs.Loads.{Loaded, Loads, Fails, report_of, Continues, AnswerLoads, PlaceLoads, LoadsMean}
use Rattle.gq_load_run.specs.Loadings.{place_of, line_steps, line_report, stored_or, unless_missing, line_loaded, no_records, one_loaded, loaded_by}
use Rattle.gq_load_run.specs.JobRuns.{UsingDoes, FoundDoes, JobDoes}
use Rattle.gq_insert.specs.Fits.{IsSound}
use Rattle.gq_insert.specs.SoundLaws.{empty_is_sound}
use Rattle.gq_insert.specs.Inserts.{insert_named, insert_refusal}
use Rattle.gq_insert.specs.Inserting as inserting
use Rattle.gq_insert.specs.Inserting.{named_put, row_inserted}
use Rattle.gq_rules_typing.specs.StatementViews.{view_query}
use Rattle.gq_rules_typing.specs.Sorts.{sorts_of}
use Rattle.gq_rules_typing.specs.QueryTypes.{typing_query}
use Rattle.gq_rules_meaning.specs.Sessions as sessions
use Rattle.gq_rules_meaning.specs.Sessions.{good_modes, ran, interpreted}
use Rattle.gq_rules_calendar.specs.Gregorian.{gregorian}
use Rattle.gq_rules_safety.specs.Growing.{over}
use Rattle.gq_rules_safety.proofs.SafetyLaws.{graph_law}
use Rattle.gq_rules_safety.proofs.WordGrowth.{growth_law}
use Rattle.gq_rules_store.specs.Stores.{IsWhole}
use Rattle.gq_rules_store.specs.Upserts.{StoreRowsFit}
use Rattle.gq_rules_store.proofs.CatalogFits.{no_types_law}
use Rattle.gq_rules_store.proofs.RecordFits.{record_law, insert_law, put_law}
use Rattle.gq_rules_store.proofs.UpsertFits.{empty_law, row_growth_law}
use Rattle.gq_scope.specs.Held.{graph_in}
use Rattle.gq_arguments.specs.Given.{view_argument}
use Rattle.gq_arguments.specs.Members.{members_for}
use Rattle.gq_query_run.specs.Kept.{Kept}
use Rattle.gq_query_run.specs.Judging.{graph_refusal}
use Rattle.gq_query_run.proofs.TypedLemmas.{graph_is_there, graph_low, graph_typed}
use Rattle.gq_query_run.specs.Queries.{QueryFits, is_named, has_query, graph_fixed, created, put_at, with_query, create_refusal, installed_if, with_installed, or_installed, all_installed}
use Rattle.gq_query_run.specs.Queries as queries
use Rattle.gq_session.specs.Arguments.{object_of}
use Rattle.gq_session.specs.Statements.{State, session_in, opening, with_schema, with_graph, in_use_or, with_jobs, with_rows, with_queries, vertex_made, edge_made, graph_made, graph_used, job_made, row_made, store_done, query_made, install_made, effect_of, effect_in, RunsJob}
use Rattle.gq_session.specs.Safe.{IsSafe, OpeningLaw, NextLaw, RunLaw, InterpretLaw}
use Rattle.gq_session.proofs.GrowthLemmas.{Grown, vertex_grown, edge_grown, graph_grown, graph_there}
use Rattle.gq_session.proofs.StuckLemmas.{sees, ran_has_words, interpreted_has_words}

-- ---- answers and effects

same_some : {A : Type 0} (x y : A) → Some x ≡ Some y → x ≡ y
same_some x y e = cc

same_ok : {A E : Type 0} (x y : A) → ◌≡◌ {A = Result A E} (Ok x) (Ok y) → x ≡ y
same_ok x y e = cc

no_ok : {A E B : Type 0} (e : E) (x : A) → ◌≡◌ {A = Result A E} (Err e) (Ok x) → B
no_ok e x is = absurd (cc is)

same_state : {S : Type 0} (s t : S) (these those : List (List ℕ)) → Becomes s these ≡ Becomes t those → s ≡ t
same_state s t these those e = cc

no_state : {S B : Type 0} (message : List ℕ) (t : S) (lines : List (List ℕ)) → Refused message ≡ Becomes t lines → B
no_state message t lines e = absurd (cc e)

-- the state after a statement that prints nothing
made : (r : Result State Refusal) (t : State) (lines : List (List ℕ)) → Becomes t lines ≡ effect_of r → r ≡ Ok t
made (Ok u) t lines e = ap Ok (same_state u t [] lines (sym e))
made (Err r) t lines e = no_state _ t lines (sym e)

-- ---- a catalog that grows

low_min : (m n : ℕ) → min m n ≡ m → m ≤ n
low_min m n is = omega (arith, is)

long : {A : Type 0} (xs ys : List A) → take (length xs) ys ≡ xs → length xs ≤ length ys
long xs ys begins = low_min (length xs) (length ys) (sym (length-take (length xs) ys) ∙ ap length begins)

there_still : (o : Option ℕ) (m n : ℕ) → m ≤ n → ForSome o (λ graph. graph < m) → ForSome o (λ graph. graph < n)
there_still o m n more low = λ graph is. let before = low graph is in omega arith

graph_stays : (before after : Schema) → HasGrown before after → (g : Option ℕ) → ForSome g (λ graph. graph < length before.graphs) → graph_in after g ≡ graph_in before g
graph_stays before after grown None there = refl
graph_stays before after grown (Some n) there = graph_law before after n grown (there n refl)

query_stays : (before after : Schema) → HasGrown before after → IsWhole before → (q : Kept) → QueryFits before q → QueryFits after q
query_stays before after grown whole q fits =
    let own = graph_in before q.graph in
    record {
      there = there_still q.graph (length before.graphs) (length after.graphs) (long before.graphs after.graphs grown.graphs) fits.there;
      typed = (
        over (sorts_of after own) fits.typed.0,
        ap (λ g. typing_query (sorts_of after g) (view_query q.tree)) (graph_stays before after grown q.graph fits.there)
            ∙ growth_law before after own grown (sees before whole q.graph).0 (view_query q.tree) fits.typed.0 fits.typed.1,
      );
    }

pub grown_safe : (s : State) (after : Schema) → Grown s.schema after → IsSafe s → IsSafe (record s { schema = after })
grown_safe s after more safe = record {
  there = there_still s.in_use (length s.schema.graphs) (length after.graphs) (long s.schema.graphs after.graphs more.grown.graphs) safe.there;
  sound = more.whole safe.sound;
  whole = more.fits safe.sound safe.whole;
  jobs = jobs_stay s.schema after s.jobs more.grown safe.jobs;
  rows = row_growth_law s.schema after s.store more.grown safe.rows;
  queries = λ k d low. query_stays s.schema after more.grown safe.whole (get_or s.queries k d) (safe.queries k d low);
}

-- another graph is in use
pub used_safe : (s : State) (graph : ℕ) → graph < length s.schema.graphs → IsSafe s → IsSafe (record s { in_use = Some graph })
used_safe s graph low safe = record {
  there = λ other is. subst (λ n. n < length s.schema.graphs) (same_some graph other is) low;
  sound = safe.sound;
  whole = safe.whole;
  jobs = safe.jobs;
  rows = safe.rows;
  queries = safe.queries;
}

by_schema : (s t : State) (r : Result Schema Refusal) → IsSafe s → ((new : Schema) → r ≡ Ok new → Grown s.schema new) → with_schema s r ≡ Ok t → IsSafe t
by_schema s t (Ok new) safe grows is = subst IsSafe (same_ok _ t is) (grown_safe s new (grows new refl) safe)
by_schema s t (Err r) safe grows is = no_ok r t is

by_graph : (s t : State) (tree : GraphTree) (r : Result Schema Refusal) → graph_created s.schema tree ≡ r → IsSafe s → with_graph s r ≡ Ok t → IsSafe t
by_graph s t tree (Ok new) made safe is =
    subst IsSafe (same_ok _ t is)
    (used_safe (record s { schema = new }) (length s.schema.graphs) (graph_there s.schema new tree (length s.schema.graphs) made refl) (grown_safe s new (graph_grown s.schema new tree made) safe))
by_graph s t tree (Err r) made safe is = no_ok r t is

by_use : (s t : State) (name : List ℕ) (o : Option ℕ) → graph_of s.schema name ≡ o → IsSafe s → in_use_or s name o ≡ Ok t → IsSafe t
by_use s t name (Some n) found safe is = subst IsSafe (same_ok _ t is) (used_safe s n (graph_low s.schema name n found) safe)
by_use s t name None found safe is = no_ok _ t is

-- ---- jobs

abbrev Tells : Option JobFault → Type 0
Tells o = o ≢ Some fault.OutOfMemory

or_tells : (a b : Option JobFault) → Tells a → Tells b → Tells (option_or a b)
or_tells None b first second = second
or_tells (Some f) b first second = first

cond_tells : (b : Bool) (f : JobFault) → f ≢ fault.OutOfMemory → Tells (cond b (Some f) None)
cond_tells true f other e = other (same_some f fault.OutOfMemory e)
cond_tells false f other e = cc e

unless_tells : (b : Bool) (f : JobFault) → f ≢ fault.OutOfMemory → Tells (cond b None (Some f))
unless_tells true f other e = cc e
unless_tells false f other e = other (same_some f fault.OutOfMemory e)

first_tells : {A : Type 0} (due : A → Option JobFault) → ((a : A) → Tells (due a)) → (xs : List A) → Tells (first_due due xs)
first_tells due tells [] e = cc e
first_tells due tells (x ∷ xs) e = or_tells (due x) (first_due due xs) (tells x) (first_tells due tells xs) e

columns_tell : (schema : Schema) (d : Destination) (o : Option Target) → Tells (columns_refusal schema d o)
columns_tell schema d None e = let same = same_some (fault.NoSuchType d.name) fault.OutOfMemory e in cc same
columns_tell schema d (Some t) e =
    or_tells (wrong_count schema t d) (id_missing schema t d)
    (unless_tells (length d.columns == value_count schema t) (fault.WrongCount d.name) (λ is. cc is))
    (cond_tells (list_any is_default (take (name_count schema t) d.columns)) (fault.IdMissing d.name) (λ is. cc is)) e

file_tells : (lines : List JobLine) (file : FileTree) → Tells (unknown_file lines file)
file_tells lines (trees.Path path) e = cc e
file_tells lines (trees.Defined name) e = unless_tells (defines lines name) (fault.UnknownFile name) (λ is. cc is) e

line_tells : (schema : Schema) (graph : GraphType) (lines : List JobLine) (line : JobLine) → Tells (line_refusal schema graph lines line)
line_tells schema graph lines (Define name path) e = cc e
line_tells schema graph lines (Load load) e =
    or_tells (bad_option load.options) _ (cond_tells (has_bad_option load.options) fault.BadOption (λ is. cc is))
    (or_tells (unknown_file lines load.file) _ (file_tells lines load.file)
    (first_tells (destination_refusal schema graph) (λ d. columns_tell schema d (target_of schema graph d.table d.name)) load.destinations)) e

job_tells : (schema : Schema) (graph : ℕ) (tree : JobTree) → Tells (job_refusal schema graph tree)
job_tells schema graph tree = first_tells (line_refusal schema (graph_at schema graph) tree.lines) (λ line. line_tells schema (graph_at schema graph) tree.lines line) tree.lines

-- jobs that aren't refused
kept_jobs : (due : Option JobFault) (jobs new : List NamedJob) → Tells due → unless_refused due jobs ≡ Ok new → (due ≡ None) × (jobs ≡ new)
kept_jobs None jobs new tells is = (refl, same_ok jobs new is)
kept_jobs (Some (fault.NoSuchType x)) jobs new tells is = no_ok _ new is
kept_jobs (Some (fault.WrongCount x)) jobs new tells is = no_ok _ new is
kept_jobs (Some (fault.IdMissing x)) jobs new tells is = no_ok _ new is
kept_jobs (Some (fault.UnknownFile x)) jobs new tells is = no_ok _ new is
kept_jobs (Some fault.BadOption) jobs new tells is = no_ok _ new is
kept_jobs (Some fault.OutOfMemory) jobs new tells is = absurd (tells refl)

job_fits : (schema : Schema) (jobs new : List NamedJob) (tree : JobTree) (o : Option ℕ) → JobsFit schema jobs → job_for schema jobs tree o ≡ Ok new → JobsFit schema new
job_fits schema jobs new tree None fit is = no_ok _ new is
job_fits schema jobs new tree (Some graph) fit is =
    let ok = kept_jobs (job_refusal schema graph tree) (with_job jobs tree.name (job_of schema graph tree)) new (job_tells schema graph tree) is in
    subst (JobsFit schema) ok.1
    (jobs_and schema jobs (record { name = tree.name; job = job_of schema graph tree }) fit (lines_fit schema (graph_at schema graph) tree.lines tree.lines ok.0))

jobs_fit : (schema : Schema) (jobs new : List NamedJob) (tree : JobTree) → JobsFit schema jobs → job_created schema jobs tree ≡ Ok new → JobsFit schema new
jobs_fit schema jobs new tree fit is = by (has_job jobs tree.name) is
  where
    by : (b : Bool) → cond b (Err (refusal.NameTaken tree.name)) (job_for schema jobs tree (graph_of schema tree.graph)) ≡ Ok new → JobsFit schema new
    by true none = no_ok _ new none
    by false some = job_fits schema jobs new tree (graph_of schema tree.graph) fit some

pub jobs_safe : (s : State) (jobs : List NamedJob) → JobsFit s.schema jobs → IsSafe s → IsSafe (record s { jobs = jobs })
jobs_safe s jobs fit safe = record { there = safe.there; sound = safe.sound; whole = safe.whole; jobs = fit; rows = safe.rows; queries = safe.queries }

by_jobs : (s t : State) (tree : JobTree) (r : Result (List NamedJob) Refusal) → job_created s.schema s.jobs tree ≡ r → IsSafe s → with_jobs s r ≡ Ok t → IsSafe t
by_jobs s t tree (Ok new) made safe is = subst IsSafe (same_ok _ t is) (jobs_safe s new (jobs_fit s.schema s.jobs new tree safe.jobs made) safe)
by_jobs s t tree (Err r) made safe is = no_ok r t is

-- ---- rows

pub rows_safe : (s : State) (store : Store) → StoreRowsFit s.schema store → IsSafe s → IsSafe (record s { store = store })
rows_safe s store fit safe = record { there = safe.there; sound = safe.sound; whole = safe.whole; jobs = safe.jobs; rows = fit; queries = safe.queries }

pub row_stored : (schema : Schema) (sound : IsSound schema) (store later : Store) (tree : InsertTree) → StoreRowsFit schema store → row_inserted schema store tree ≡ Ok later → StoreRowsFit schema later
row_stored schema sound store later tree fit is = refused (option_and_then inserting.refusal_of (insert_refusal reading schema tree)) is
  where
    put : (row : Insert) → insert_named reading schema tree ≡ Some row → (o : Option Store) → put_all store (steps_of_insert row) ≡ o → inserting.stored_or o ≡ Ok later → StoreRowsFit schema later
    put row named None is none = no_ok _ later none
    put row named (Some new) is some =
        put_law schema store later (steps_of_insert row) (insert_law reading reading_tells schema sound tree row named) (is ∙ ap Some (same_ok new later some)) fit

    by : (o : Option Insert) → insert_named reading schema tree ≡ o → named_put store o ≡ Ok later → StoreRowsFit schema later
    by None named none = no_ok _ later none
    by (Some row) named some = put row named (put_all store (steps_of_insert row)) refl some

    refused : (o : Option Refusal) → inserting.refused_or o (named_put store (insert_named reading schema tree)) ≡ Ok later → StoreRowsFit schema later
    refused None some = by (insert_named reading schema tree) refl some
    refused (Some due) none = no_ok _ later none

by_rows : (s t : State) (tree : InsertTree) (r : Result Store Refusal) → row_inserted s.schema s.store tree ≡ r → IsSafe s → with_rows s r ≡ Ok t → IsSafe t
by_rows s t tree (Ok new) made safe is = subst IsSafe (same_ok _ t is) (rows_safe s new (row_stored s.schema safe.sound s.store new tree safe.rows made) safe)
by_rows s t tree (Err r) made safe is = no_ok r t is

-- ---- loads

module _ {S : Type 0} (place : ℕ → LoadPath) (loaded : S → ℕ → List ℕ → Loaded S) (known : Known) (P : S → Type 0)
    (keeps : (s t : S) (number : ℕ) (bytes : List ℕ) (counts : Report) → P s → loaded s number bytes ≡ Loads t counts → P t) where
  -- what holds of a state before some LOADs, and is kept by each, holds after them
  loads_keep : (left : ℕ) (s t : S) (number : ℕ) (reports : List FileReport) (lines : List (List ℕ)) → P s → LoadsMean place loaded known s number left reports (Becomes t lines) → P t
  loads_keep zero s t number reports lines holds is = subst P (sym (same_state t s lines _ is)) holds
  loads_keep (suc left) s t number reports lines holds means = at_place (place number) means (λ u more after on. loads_keep left u t (number + 1) more lines after on)
    where
      Rest : S → List FileReport → Type 0
      Rest u more = LoadsMean place loaded known u (number + 1) left more (Becomes t lines)

      Goes : Type 0
      Goes = (u : S) (more : List FileReport) → P u → Rest u more → P t

      at_bytes : (path bytes : List ℕ) (l : Loaded S) → loaded s number bytes ≡ l → Continues place loaded known path reports l Rest (Becomes t lines) → Goes → P t
      at_bytes path bytes (Loads u counts) is on goes = goes u (reports ++ report_of path counts ∷ []) (keeps s u number bytes counts holds is) on
      at_bytes path bytes (Fails r) is on goes = no_state _ t lines (sym on)

      at_answer : (path : List ℕ) (answer : Answer) → AnswerLoads place loaded known s number path reports answer Rest (Becomes t lines) → Goes → P t
      at_answer path Absent on goes = no_state _ t lines (sym on)
      at_answer path TooLong on goes = no_state _ t lines (sym on)
      at_answer path (Bytes bytes) on goes = at_bytes path bytes (loaded s number bytes) refl on goes

      at_place : (l : LoadPath) → PlaceLoads place loaded known s number reports l Rest (Becomes t lines) → Goes → P t
      at_place (Nowhere name) on goes = no_state _ t lines (sym on)
      at_place (At path) (answer, may, on) goes = at_answer path answer on goes

module _ (schema : Schema) (sound : IsSound schema) where
  line_kept : (line : LoadLine) → LineFits schema line → (records : List Fields) (store later : Store) (counts : Report) → StoreRowsFit schema store
      → line_loaded schema line records store ≡ Loads later counts → StoreRowsFit schema later
  line_kept line fits records store later counts rows is = by (missing_of line (header_of line records)) is
    where
      same_store : (new : Store) (report : Report) → Loads new report ≡ Loads later counts → new ≡ later
      same_store new report e = cc

      put : (o : Option Store) → put_all store (line_steps schema line records) ≡ o → stored_or (line_report schema line records) o ≡ Loads later counts → StoreRowsFit schema later
      put None is none = absurd (cc none)
      put (Some new) is some =
          put_law schema store later (line_steps schema line records) (record_law reading reading_tells schema sound line fits (header_of line records) (loaded_of line records))
          (is ∙ ap Some (same_store new (line_report schema line records) some)) rows

      by : (o : Option (List ℕ)) → unless_missing schema line records store o ≡ Loads later counts → StoreRowsFit schema later
      by (Some name) none = absurd (cc none)
      by None some = put (put_all store (line_steps schema line records)) refl some

  one_kept : (lines : List LoadLine) → All (LineFits schema) lines → (number : ℕ) (o : Option LoadLine) → slice_get lines number ≡ o → (bytes : List ℕ) (store later : Store) (counts : Report)
      → StoreRowsFit schema store → one_loaded schema o bytes store ≡ Loads later counts → StoreRowsFit schema later
  one_kept lines fit number None found bytes store later counts rows is = subst (StoreRowsFit schema) (same_store is) rows
    where
      same_store : Loads store no_records ≡ Loads later counts → store ≡ later
      same_store e = cc
  one_kept lines fit number (Some line) found bytes store later counts rows is =
      let fits : LineFits schema line = subst (LineFits schema) (get_or_from_slice_get lines number line line found) (fit number line (slice_get_within lines number line found)) in
      line_kept line fits (records_in line bytes) store later counts rows is

  pub loaded_kept : (job : Job) → All (LineFits schema) job.lines → (store later : Store) (number : ℕ) (bytes : List ℕ) (counts : Report) → StoreRowsFit schema store
      → loaded_by schema job store number bytes ≡ Loads later counts → StoreRowsFit schema later
  unfolding loaded_by
  loaded_kept job fit store later number bytes counts rows is = one_kept job.lines fit number (slice_get job.lines number) refl bytes store later counts rows is

  module _ (known : Known) (jobs : List NamedJob) (fit : JobsFit schema jobs) (store later : Store) (tree : RunJobTree) (lines : List (List ℕ)) (rows : StoreRowsFit schema store) where
    using_kept : (job : Job) → All (LineFits schema) job.lines → (o : Option (List ℕ)) → UsingDoes known schema job tree.paths store o (Becomes later lines) → StoreRowsFit schema later
    using_kept job lines_fit (Some name) is = no_state _ later lines (sym is)
    using_kept job lines_fit None means =
        loads_keep (place_of job tree.paths) (loaded_by schema job) known (StoreRowsFit schema) (λ s t number bytes counts rows is. loaded_kept job lines_fit s t number bytes counts rows is)
        (length job.lines) store later 0 [] lines rows means

    found_kept : (o : Option NamedJob) → entry_of jobs tree.name ≡ o → FoundDoes known schema store tree (option_map (λ (entry : NamedJob). entry.job) o) (Becomes later lines)
        → StoreRowsFit schema later
    found_kept None found is = no_state _ later lines (sym is)
    found_kept (Some entry) found means = using_kept entry.job (found_fits schema jobs tree.name entry fit found) (undefined_name entry.job.files tree.paths) means

    pub job_kept : JobDoes known schema jobs store tree (Becomes later lines) → StoreRowsFit schema later
    job_kept does = found_kept (entry_of jobs tree.name) refl does

by_job : (known : Known) (s t : State) (tree : RunJobTree) (lines : List (List ℕ)) → IsSafe s → RunsJob known s tree (Becomes t lines) → IsSafe t
by_job known s t tree lines safe (e, does, is) = by e does is
  where
    by : (e : Effect Store) → JobDoes known s.schema s.jobs s.store tree e → Becomes t lines ≡ store_done s e → IsSafe t
    by (Becomes later printed) does is =
        subst IsSafe (sym (same_state t (record s { store = later }) lines printed is))
        (rows_safe s later (job_kept s.schema safe.sound known s.jobs safe.jobs s.store later tree printed safe.rows does) safe)
    by (Refused message) does is = no_state message t lines (sym is)

-- ---- queries

pub queries_safe : (s : State) (qs : List Kept) → All (QueryFits s.schema) qs → IsSafe s → IsSafe (record s { queries = qs })
queries_safe s qs fit safe = record { there = safe.there; sound = safe.sound; whole = safe.whole; jobs = safe.jobs; rows = safe.rows; queries = fit }

create_none : (schema : Schema) (in_use : Option ℕ) (qs : List Kept) (replace : Bool) (name : List ℕ) (tree : QueryTree) → create_refusal schema in_use qs replace name tree ≡ None
    → graph_refusal schema in_use tree ≡ None
create_none schema in_use qs replace name tree none = by (not (good_modes tree.modes)) (not replace && has_query qs name) none
  where
    by : (a b : Bool) → cond a (Some refusal.BadOption) (cond b (Some (refusal.NameTaken name)) (graph_refusal schema in_use tree)) ≡ None → graph_refusal schema in_use tree ≡ None
    by true b some = absurd (cc some)
    by false true some = absurd (cc some)
    by false false none = none

with_fits : (schema : Schema) (qs : List Kept) (q : Kept) (o : Option ℕ) → QueryFits schema q → All (QueryFits schema) qs → All (QueryFits schema) (put_at qs q o)
with_fits schema qs q (Some n) fits are = All-set (QueryFits schema) qs n q fits are
with_fits schema qs q None fits are = All-push (QueryFits schema) qs q are fits

pub by_query : (s t : State) (replace : Bool) (name : List ℕ) (tree : QueryTree) → IsSafe s → query_made s replace name tree ≡ Ok t → IsSafe t
by_query s t replace name tree safe is = by (create_refusal s.schema s.in_use s.queries replace name tree) refl is
  where
    new : Kept
    new = created name tree (graph_fixed s.schema s.in_use tree)

    fits : create_refusal s.schema s.in_use s.queries replace name tree ≡ None → QueryFits s.schema new
    fits none = record {
      there = graph_is_there s.schema s.in_use safe.there tree.graph;
      typed = graph_typed s.schema s.in_use tree (create_none s.schema s.in_use s.queries replace name tree none);
    }

    by : (o : Option Refusal) → create_refusal s.schema s.in_use s.queries replace name tree ≡ o → with_queries s (queries.unless_refused o (with_query s.queries new)) ≡ Ok t → IsSafe t
    by None none is =
        subst IsSafe (same_ok _ t is)
        (queries_safe s (with_query s.queries new) (with_fits s.schema s.queries new (position (is_named new.name) s.queries) (fits none) safe.queries) safe)
    by (Some due) some is = no_ok due t is

install_fits : (schema : Schema) (q : Kept) (b : Bool) → QueryFits schema q → QueryFits schema (record q { installed = b })
install_fits schema q b fits = record { there = fits.there; typed = fits.typed }

pub by_install : (s t : State) (which : Installed) → IsSafe s → install_made s which ≡ Ok t → IsSafe t
by_install s t which.All safe is =
    subst IsSafe (same_ok _ t is)
    (queries_safe s (all_installed s.queries)
    (All-map (QueryFits s.schema) (λ (q : Kept). record q { installed = true }) s.queries (λ k d low. install_fits s.schema (get_or s.queries k d) true (safe.queries k d low))) safe)
by_install s t (which.Named names) safe is = by (find (λ name. not (has_query s.queries name)) names) is
  where
    all : All (QueryFits s.schema) (with_installed names s.queries)
    all =
        All-map (QueryFits s.schema) (λ (q : Kept). installed_if (list_any (bytes_eq q.name) names) q) s.queries
        (λ k d low. let q = get_or s.queries k d in install_fits s.schema q (q.installed || list_any (bytes_eq q.name) names) (safe.queries k d low))

    by : (o : Option (List ℕ)) → with_queries s (or_installed o (with_installed names s.queries)) ≡ Ok t → IsSafe t
    by None is = subst IsSafe (same_ok _ t is) (queries_safe s (with_installed names s.queries) all safe)
    by (Some name) is = no_ok _ t is

-- a query's run doesn't change the session
by_run : (s t : State) (e : sessions.Effect) (lines : List (List ℕ)) → IsSafe s → Becomes t lines ≡ effect_in s e → IsSafe t
by_run s t (sessions.Becomes u printed) lines safe is = subst IsSafe (sym (same_state t s lines printed is)) safe
by_run s t (sessions.Refused message) lines safe is = no_state message t lines (sym is)

-- ---- the laws

pub opening_law : OpeningLaw
opening_law file turns = record {
  there = λ graph is. absurd (cc is);
  sound = empty_is_sound;
  whole = no_types_law;
  jobs = λ k d low. absurd (omega arith);
  rows = empty_law (opening file turns).schema;
  queries = λ k d low. absurd (omega arith);
}

pub next_law : NextLaw
next_law known s t (top.Vertex tree) lines safe does =
    by_schema s t (vertex_created s.schema tree) safe (λ new is. vertex_grown s.schema new tree is) (made (vertex_made s tree) t lines does)
next_law known s t (top.Edge tree) lines safe does =
    by_schema s t (edge_created s.schema tree) safe (λ new is. edge_grown s.schema new tree is) (made (edge_made s tree) t lines does)
next_law known s t (top.Graph tree) lines safe does = by_graph s t tree (graph_created s.schema tree) refl safe (made (graph_made s tree) t lines does)
next_law known s t (top.Use name) lines safe does = by_use s t name (graph_of s.schema name) refl safe (made (graph_used s name) t lines does)
next_law known s t (top.Job tree) lines safe does = by_jobs s t tree (job_created s.schema s.jobs tree) refl safe (made (job_made s tree) t lines does)
next_law known s t (top.RunJob tree) lines safe does = by_job known s t tree lines safe does
next_law known s t (top.Query replace name tree) lines safe does = by_query s t replace name tree safe (made (query_made s replace name tree) t lines does)
next_law known s t (top.Install which) lines safe does = by_install s t which safe (made (install_made s which) t lines does)
next_law known s t (top.Run tree) lines safe does =
    by_run s t (ran (session_in s) gregorian s.turns tree.name (option_map (map view_argument) tree.arguments) (members_for (object_of s.file) tree.name)) lines safe does.0
next_law known s t (top.Interpret tree) lines safe does =
    by_run s t (interpreted (session_in s) gregorian s.turns tree.graph tree.modes (view_query tree)) lines safe does.0
next_law known s t (top.Insert tree) lines safe does = by_rows s t tree (row_inserted s.schema s.store tree) refl safe (made (row_made s tree) t lines does)
next_law known s t top.Begin lines safe does = subst IsSafe (sym (same_state t s lines [] does)) safe
next_law known s t top.End lines safe does = subst IsSafe (sym (same_state t s lines [] does)) safe

pub run_law : RunLaw
run_law s tree safe = ran_has_words s safe tree

pub interpret_law : InterpretLaw
interpret_law s tree safe bare = interpreted_has_words s safe tree bare
