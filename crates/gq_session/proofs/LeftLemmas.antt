-- LeftLemmas: the rows of a session are of their types after each call, also after RUN LOADING JOB that doesn't run to
-- its end; and its queries are typed.
use Rattle.std.proofs.Common.{◌≡◌, ℕ, zero, suc, inl, inr, List, [], ◌∷◌, length, All, Option, Some, None, IfOk, refl, sym, ap, subst}
use Rattle.std.specs.Prelude.{Bool, Result, Ok, Err, IfErr, Vec, slice_get}
use Rattle.std.specs.Option.{option_map}
use Rattle.std.specs.declared.alloc.Global.{Global}
use Rattle.std.proofs.lemmas.Option.{slice_get_within, get_or_from_slice_get}
use Rattle.gq_graph.specs.Catalog.{Schema}
use Rattle.gq_index.specs.declared.store.Store.{Store}
use Rattle.gq_index.specs.Steps.{Step, Begun, Refused}
use Rattle.gq_tree.specs.declared.job.RunJobTree.{RunJobTree}
use Rattle.gq_tree.specs.declared.query.QueryTree.{QueryTree}
use Rattle.gq_tree.specs.declared.query.Installed.{Installed}
use Rattle.gq_diagnostics.specs.declared.refusal.StatementFault.{StatementFault}
use Rattle.gq_diagnostics.specs.declared.refusal.StatementFault.TheVariants as fault
use Rattle.gq_diagnostics.specs.Effects.{Becomes}
use Rattle.gq_io.specs.Known.{Known, Answer, Absent, TooLong, Bytes}
use Rattle.gq_load_csv.specs.Readings.{reading, reading_tells}
use Rattle.gq_load_check.specs.declared.job.Job.{Job}
use Rattle.gq_load_check.specs.declared.job.LoadLine.{LoadLine}
use Rattle.gq_load_check.specs.Fits.{LineFits}
use Rattle.gq_load_check.specs.Paths.{Given, undefined_name}
use Rattle.gq_ddl.specs.declared.named.NamedJob.{NamedJob}
use Rattle.gq_ddl.specs.Fitting.{JobsFit}
use Rattle.gq_ddl.specs.FittingLaws.{found_fits}
use Rattle.gq_ddl.specs.Jobs.{entry_of}
use Rattle.gq_load.specs.Columns.{Fields}
use Rattle.gq_load.specs.Loads.{header_of, loaded_of, records_in, missing_of}
use Rattle.gq_load_run.specs.declared.place.LoadPath.{LoadPath}
use Rattle.gq_load_run.specs.declared.place.LoadPath.TheVariants.{At, Nowhere}
use Rattle.gq_load_run.specs.Loadings.{place_of, loaded_by, line_steps, RefusedLeaves, LineLeaves, OneLeaves, Leaves}
use Rattle.gq_load_run.specs.Remains.{LeadTo, AnswerLeaves, PlaceLeaves, BreaksOff, Remains}
use Rattle.gq_load_run.specs.JobRuns.{UsingLeaves, FoundLeaves, JobDoes, JobLeaves}
use Rattle.gq_insert.specs.Fits.{IsSound}
use Rattle.gq_rules_store.specs.Upserts.{StepsFit, StoreRowsFit}
use Rattle.gq_rules_store.proofs.RecordFits.{record_law}
use Rattle.gq_rules_store.proofs.UpsertFits.{upsert_law}
use Rattle.gq_query_run.specs.Kept.{Kept}
use Rattle.gq_query_run.specs.Queries.{QueryFits, query_created, query_installed}
use Rattle.gq_session.specs.Statements.{State, with_queries}
use Rattle.gq_session.specs.Safe.{IsSafe}
use Rattle.gq_session.proofs.SafeLemmas.{loaded_kept, job_kept, by_query, by_install}

-- ---- rows

-- upserts up to a refused one are some of them
refused_begun : (before later : Store) (steps : List Step) → Refused before steps later → Begun before steps later
refused_begun before later steps r = record { first = r.first; others = r.refused ∷ r.others; whole = r.whole; done = r.done }

module _ (schema : Schema) (sound : IsSound schema) where
  -- ---- one LOAD

  module _ (line : LoadLine) (fits : LineFits schema line) (records : List Fields) (store later : Store) (rows : StoreRowsFit schema store) where
    steps_fit : StepsFit schema (line_steps schema line records)
    steps_fit = record_law reading reading_tells schema sound line fits (header_of line records) (loaded_of line records)

    refused_left : (o : Option (List ℕ)) → RefusedLeaves o (line_steps schema line records) store later → StoreRowsFit schema later
    refused_left (Some name) same = subst (StoreRowsFit schema) (sym same) rows
    refused_left None refused = upsert_law schema store later (line_steps schema line records) steps_fit (refused_begun store later (line_steps schema line records) refused) rows

    line_left : (f : StatementFault) → LineLeaves schema line records store f later → StoreRowsFit schema later
    line_left (fault.Refused r) left = refused_left (missing_of line (header_of line records)) left
    line_left fault.ReadFault never = absurd never
    line_left fault.OutOfMemory begun = upsert_law schema store later (line_steps schema line records) steps_fit begun rows

  one_left : (lines : List LoadLine) → All (LineFits schema) lines → (number : ℕ) (o : Option LoadLine) → slice_get lines number ≡ o → (bytes : List ℕ) (store later : Store) (f : StatementFault)
      → StoreRowsFit schema store → OneLeaves schema o bytes store f later → StoreRowsFit schema later
  one_left lines fit number None found bytes store later f rows never = absurd never
  one_left lines fit number (Some line) found bytes store later f rows left =
      let fits : LineFits schema line = subst (LineFits schema) (get_or_from_slice_get lines number line line found) (fit number line (slice_get_within lines number line found)) in
      line_left line fits (records_in line bytes) store later rows f left

  load_left : (job : Job) → All (LineFits schema) job.lines → (store later : Store) (number : ℕ) (bytes : List ℕ) (f : StatementFault) → StoreRowsFit schema store
      → Leaves schema job store number bytes f later → StoreRowsFit schema later
  unfolding Leaves
  load_left job fit store later number bytes f rows left = one_left job.lines fit number (slice_get job.lines number) refl bytes store later f rows left

  -- ---- a job

  module _ (known : Known) (job : Job) (fit : All (LineFits schema) job.lines) (given : List Given) (store : Store) (rows : StoreRowsFit schema store) where
    led : (number : ℕ) (t : Store) → LeadTo (place_of job given) (loaded_by schema job) known store number t → StoreRowsFit schema t
    led zero t same = subst (StoreRowsFit schema) (sym same) rows
    led (suc number) t (u, leads, (bytes, counts, may, loads)) = loaded_kept schema sound job fit u t number bytes counts (led number u leads) loads

    broken : (number : ℕ) (u t : Store) (f : StatementFault) → StoreRowsFit schema u
        → BreaksOff (place_of job given) (loaded_by schema job) (Leaves schema job) known u number f t → StoreRowsFit schema t
    broken number u t (fault.Refused r) fits off = at_place (place_of job given number) off
      where
        at_answer : (path : List ℕ) (answer : Answer) → AnswerLeaves (place_of job given) (loaded_by schema job) (Leaves schema job) known u number path answer r t → StoreRowsFit schema t
        at_answer path Absent off = subst (StoreRowsFit schema) (sym off.1) fits
        at_answer path TooLong off = subst (StoreRowsFit schema) (sym off.1) fits
        at_answer path (Bytes bytes) off = load_left job fit u t number bytes (fault.Refused r) fits off.1

        at_place : (l : LoadPath) → PlaceLeaves (place_of job given) (loaded_by schema job) (Leaves schema job) known u number l r t → StoreRowsFit schema t
        at_place (Nowhere name) off = subst (StoreRowsFit schema) (sym off.1) fits
        at_place (At path) (answer, may, off) = at_answer path answer off
    broken number u t fault.ReadFault fits (path, there, same) = subst (StoreRowsFit schema) (sym same) fits
    broken number u t fault.OutOfMemory fits (inl same) = subst (StoreRowsFit schema) (sym same) fits
    broken number u t fault.OutOfMemory fits (inr (bytes, may, left)) = load_left job fit u t number bytes fault.OutOfMemory fits left

    remain_fit : (count : ℕ) (t : Store) (f : StatementFault) → Remains (place_of job given) (loaded_by schema job) (Leaves schema job) known store count f t → StoreRowsFit schema t
    remain_fit count t (fault.Refused r) (number, u, low, leads, off) = broken number u t (fault.Refused r) (led number u leads) off
    remain_fit count t fault.ReadFault (number, u, low, leads, off) = broken number u t fault.ReadFault (led number u leads) off
    remain_fit count t fault.OutOfMemory (inl (number, u, low, leads, off)) = broken number u t fault.OutOfMemory (led number u leads) off
    remain_fit count t fault.OutOfMemory (inr leads) = led count t leads

    using_left : (o : Option (List ℕ)) (f : StatementFault) (t : Store) → UsingLeaves known schema job given store o f t → StoreRowsFit schema t
    using_left (Some name) f t same = subst (StoreRowsFit schema) (sym same) rows
    using_left None f t remains = remain_fit (length job.lines) t f remains

  module _ (known : Known) (jobs : List NamedJob) (fit : JobsFit schema jobs) (store later : Store) (tree : RunJobTree) (rows : StoreRowsFit schema store) where
    found_left : (o : Option NamedJob) → entry_of jobs tree.name ≡ o → (f : StatementFault)
        → FoundLeaves known schema store tree (option_map (λ (entry : NamedJob). entry.job) o) f later → StoreRowsFit schema later
    found_left None found f same = subst (StoreRowsFit schema) (sym same) rows
    found_left (Some entry) found f left =
        using_left known entry.job (found_fits schema jobs tree.name entry fit found) tree.paths store rows (undefined_name entry.job.files tree.paths) f later left

    -- whether it runs to its end or not
    pub rows_left : (r : Result (Vec ℕ Global) StatementFault) → IfOk r (λ line. JobDoes known schema jobs store tree (Becomes later (line.items ∷ [])))
        → IfErr r (λ f. JobLeaves known schema jobs store tree f later) → StoreRowsFit schema later
    rows_left (Ok line) does left = job_kept schema sound known jobs fit store later tree (line.items ∷ []) rows does
    rows_left (Err f) does left = found_left (entry_of jobs tree.name) refl f left

-- ---- queries

module _ (s : State) (safe : IsSafe s) where
  pub created_fit : (replace : Bool) (name : List ℕ) (tree : QueryTree) (new : List Kept) → query_created s.schema s.in_use s.queries replace name tree ≡ Ok new → All (QueryFits s.schema) new
  created_fit replace name tree new is = (by_query s (record s { queries = new }) replace name tree safe (ap (with_queries s) is)).queries

  pub installed_fit : (which : Installed) (new : List Kept) → query_installed s.queries which ≡ Ok new → All (QueryFits s.schema) new
  installed_fit which new is = (by_install s (record s { queries = new }) which safe (ap (with_queries s) is)).queries
