-- SomeEffects: if the listing of the files is given, each statement and each list of statements has exactly one effect.
use Rattle.std.proofs.Common.{◌≡◌, ℕ, zero, suc, ◌+◌, List, [], ◌∷◌, ◌++◌, length, Option, Some, None, refl, ap, sym, ◌∙◌, subst}
use Rattle.gq_io.specs.Listing.{Listing, named}
use Rattle.gq_io.specs.Known.{Told, Answer, Absent, TooLong, Bytes, answer_of}
use Rattle.gq_graph.specs.Catalog.{Schema}
use Rattle.gq_index.specs.declared.store.Store.{Store}
use Rattle.gq_token.specs.Lines.{line_of}
use Rattle.gq_tree.specs.declared.job.RunJobTree.{RunJobTree}
use Rattle.gq_tree.specs.declared.statement.Statement.{Statement}
use Rattle.gq_tree.specs.declared.statement.Statement.TheVariants as top
use Rattle.gq_tree.specs.declared.statement.Placed.{Placed}
use Rattle.gq_diagnostics.specs.declared.refusal.Refusal.TheVariants as refusal
use Rattle.gq_diagnostics.specs.Messages.{message_of, refusal_text}
use Rattle.gq_diagnostics.specs.Effects.{Effect, Becomes, Refused}
use Rattle.gq_diagnostics.specs.Outcome.{Outcome, done, ended_by, lines_then}
use Rattle.gq_load_check.specs.declared.job.Job.{Job}
use Rattle.gq_load_check.specs.Paths.{Given, undefined_name}
use Rattle.gq_load_run.specs.declared.place.LoadPath.{LoadPath}
use Rattle.gq_load_run.specs.declared.place.LoadPath.TheVariants.{At, Nowhere}
use Rattle.gq_load_run.specs.declared.lines.FileReport.{FileReport}
use Rattle.gq_load_run.specs.Reports.{report_text}
use Rattle.gq_load_run.specs.Loads.{Loaded, Loads, Fails, report_of, Continues, AnswerLoads, PlaceLoads, LoadsMean}
use Rattle.gq_load_run.specs.Loadings.{place_of, loaded_by}
use Rattle.gq_load_run.specs.JobRuns.{UsingDoes, FoundDoes, JobDoes}
use Rattle.gq_ddl.specs.declared.named.NamedJob.{NamedJob}
use Rattle.gq_ddl.specs.Jobs.{job_named}
use Rattle.gq_session.specs.Statements.{State, vertex_made, edge_made, graph_made, graph_used, job_made, row_made, query_made, install_made, effect_of, query_ran, query_interpreted, store_done, RunsJob, Does}
use Rattle.gq_session.specs.StatementLaws.{does_one}
use Rattle.gq_session.specs.Runs.{Follows, Runs}
use Rattle.gq_session.specs.Safe.{IsSafe, IsWritten}
use Rattle.gq_session.proofs.SafeLemmas.{next_law, run_law, interpret_law}
use Rattle.gq_driver.proofs.WrittenLemmas.{AreWritten}

-- ---- loads

module _ {S : Type 0} (place_of : ℕ → LoadPath) (loaded_by : S → ℕ → List ℕ → Loaded S) (pairs : Listing) where
  -- if the rest of a job has an effect, so has the job from an earlier LOAD on
  module _ (Rest : Effect S → S → List FileReport → Type 0) (rest : (t : S) (more : List FileReport) → (e : Effect S) × Rest e t more) (s : S) (number : ℕ) (reports : List FileReport) where
    some_loaded : (path : List ℕ) (loaded : Loaded S) → (e : Effect S) × Continues place_of loaded_by (Told pairs) path reports loaded (Rest e) e
    some_loaded path (Loads t counts) = rest t (reports ++ report_of path counts ∷ [])
    some_loaded path (Fails r) = (Refused (message_of r), refl)

    some_answer : (path : List ℕ) (answer : Answer) → (e : Effect S) × AnswerLoads place_of loaded_by (Told pairs) s number path reports answer (Rest e) e
    some_answer path Absent = (Refused (message_of (refusal.MissingFile path)), refl)
    some_answer path TooLong = (Refused (message_of (refusal.TooLarge path)), refl)
    some_answer path (Bytes bytes) = some_loaded path (loaded_by s number bytes)

    some_place : (place : LoadPath) → (e : Effect S) × PlaceLoads place_of loaded_by (Told pairs) s number reports place (Rest e) e
    some_place (Nowhere name) = (Refused (message_of (refusal.NoPath name)), refl)
    some_place (At path) =
        let answer = answer_of (named path pairs) in
        let does = some_answer path answer in
        (does.0, (answer, refl, does.1))

  some_loads : (s : S) (number left : ℕ) (reports : List FileReport) → (e : Effect S) × LoadsMean place_of loaded_by (Told pairs) s number left reports e
  some_loads s number zero reports = (Becomes s (report_text reports ∷ []), refl)
  some_loads s number (suc left) reports =
      some_place (λ e t more. LoadsMean place_of loaded_by (Told pairs) t (number + 1) left more e)
      (λ t more. some_loads t (number + 1) left more) s number reports (place_of number)

-- ---- jobs

module _ (pairs : Listing) (schema : Schema) (store : Store) where
  some_using : (job : Job) (given : List Given) (o : Option (List ℕ)) → (e : Effect Store) × UsingDoes (Told pairs) schema job given store o e
  some_using job given (Some name) = (Refused (message_of (refusal.UnknownName name)), refl)
  some_using job given None = some_loads (place_of job given) (loaded_by schema job) pairs store 0 (length job.lines) []

  some_found : (tree : RunJobTree) (o : Option Job) → (e : Effect Store) × FoundDoes (Told pairs) schema store tree o e
  some_found tree None = (Refused (message_of (refusal.UnknownName tree.name)), refl)
  some_found tree (Some job) = some_using job tree.paths (undefined_name job.files tree.paths)

  some_job : (jobs : List NamedJob) (tree : RunJobTree) → (e : Effect Store) × JobDoes (Told pairs) schema jobs store tree e
  some_job jobs tree = some_found tree (job_named jobs tree.name)

-- ---- statements

module _ (pairs : Listing) (s : State) (safe : IsSafe s) where
  some_run : (tree : RunJobTree) → (e : Effect State) × RunsJob (Told pairs) s tree e
  some_run tree = let does = some_job pairs s.schema s.store s.jobs tree in (store_done s does.0, (does.0, does.1, refl))

  some_effect : (statement : Statement) → IsWritten statement → (e : Effect State) × Does (Told pairs) s statement e
  some_effect (top.Vertex tree) is = (effect_of (vertex_made s tree), refl)
  some_effect (top.Edge tree) is = (effect_of (edge_made s tree), refl)
  some_effect (top.Graph tree) is = (effect_of (graph_made s tree), refl)
  some_effect (top.Use name) is = (effect_of (graph_used s name), refl)
  some_effect (top.Job tree) is = (effect_of (job_made s tree), refl)
  some_effect (top.RunJob tree) is = some_run tree
  some_effect (top.Query replace name tree) is = (effect_of (query_made s replace name tree), refl)
  some_effect (top.Install which) is = (effect_of (install_made s which), refl)
  some_effect (top.Run tree) is = (query_ran s tree, (refl, run_law s tree safe))
  some_effect (top.Interpret tree) is = (query_interpreted s tree, (refl, interpret_law s tree safe is))
  some_effect (top.Insert tree) is = (effect_of (row_made s tree), refl)
  some_effect top.Begin is = (Becomes s [], refl)
  some_effect top.End is = (Becomes s [], refl)

-- ---- lists of statements

module _ (bytes : List ℕ) (pairs : Listing) where
  -- a statement's effect followed by the rest has an outcome, if the rest has one from each state
  some_behind : (line : ℕ) (effect : Effect State) (Rest : State → Outcome → Type 0) → ((t : State) (lines : List (List ℕ)) → effect ≡ Becomes t lines → (o : Outcome) × Rest t o)
      → (o : Outcome) × Follows line effect Rest o
  some_behind line (Refused message) Rest rest = (ended_by (refusal_text line message), refl)
  some_behind line (Becomes t lines) Rest rest = let others = rest t lines refl in (lines_then lines others.0, (others.0, others.1, refl))

  -- statements as the grammar has them have an outcome, from a safe session on
  pub some_runs : (s : State) → IsSafe s → (statements : List Placed) → AreWritten statements → (o : Outcome) × Runs bytes (Told pairs) s statements o
  some_runs s safe [] written = (done, refl)
  some_runs s safe (p ∷ others) written =
      let does = some_effect pairs s safe p.statement written.0 in
      let on = some_behind (line_of bytes p.from) does.0 (λ t. Runs bytes (Told pairs) t others)
      (λ t lines is. some_runs t (next_law (Told pairs) s t p.statement lines safe (subst (Does (Told pairs) s p.statement) is does.1)) others written.1) in
      (on.0, (does.0, does.1, on.1))

  -- one effect is followed by only one outcome
  one_behind : (line : ℕ) (effect : Effect State) (Rest : State → Outcome → Type 0) → ((t : State) (a b : Outcome) → Rest t a → Rest t b → a ≡ b)
      → (o p : Outcome) → Follows line effect Rest o → Follows line effect Rest p → o ≡ p
  one_behind line (Refused message) Rest rest o p a b = a ∙ sym b
  one_behind line (Becomes t lines) Rest rest o p (x, on, is) (y, other, as_well) = is ∙ ap (lines_then lines) (rest t x y on other) ∙ sym as_well

  -- and no other outcome
  pub one_run : (s : State) (statements : List Placed) (o p : Outcome) → Runs bytes (Told pairs) s statements o → Runs bytes (Told pairs) s statements p → o ≡ p
  one_run s [] o p a b = a ∙ sym b
  one_run s (q ∷ others) o p (e, does, on) (f, might, other) =
      one_behind (line_of bytes q.from) e (λ t. Runs bytes (Told pairs) t others) (λ t a b. one_run t others a b) o p on
      (subst (λ x. Follows (line_of bytes q.from) x (λ t. Runs bytes (Told pairs) t others) p) (does_one pairs s q.statement f e might does) other)
