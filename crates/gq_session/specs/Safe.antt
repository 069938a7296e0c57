-- Safe: the states in which no query is stuck. A session begins in one, and each statement leaves one.
use Rattle.std.specs.Prelude.{◌≡◌, ℕ, ◌<◌, List, [], length, All, Option}
use Rattle.std.specs.Option.{ForSome}
use Rattle.gq_tree.specs.declared.query.QueryTree.{QueryTree}
use Rattle.gq_tree.specs.declared.query.RunTree.{RunTree}
use Rattle.gq_tree.specs.declared.statement.Statement.{Statement}
use Rattle.gq_tree.specs.declared.statement.Statement.TheVariants as top
use Rattle.gq_diagnostics.specs.Effects.{Becomes}
use Rattle.gq_io.specs.Known.{Known}
use Rattle.gq_ddl.specs.Fitting.{JobsFit}
use Rattle.gq_insert.specs.Fits.{IsSound}
use Rattle.gq_rules_store.specs.Stores.{IsWhole}
use Rattle.gq_rules_store.specs.Upserts.{StoreRowsFit}
use Rattle.gq_query_run.specs.Queries.{QueryFits}
use Rattle.gq_session.specs.Statements.{State, HasWords, opening, query_ran, query_interpreted, Does}

-- the graph in use exists, the catalog is as declarations leave it, jobs and queries fit it, and all rows are of its types
pub record IsSafe (s : State) : Type 0 where
  pub there : ForSome s.in_use (λ graph. graph < length s.schema.graphs)
  pub sound : IsSound s.schema
  pub whole : IsWhole s.schema
  pub jobs : JobsFit s.schema s.jobs
  pub rows : StoreRowsFit s.schema s.store
  pub queries : All (QueryFits s.schema) s.queries

-- a statement as the grammar has it: INTERPRET QUERY has no parameters
abbrev pub IsWritten : Statement → Type 0
IsWritten (top.Interpret tree) = tree.parameters ≡ []
IsWritten statement = Unit {0}

-- ---- laws

abbrev pub OpeningLaw : Type 0
OpeningLaw = (file : Option (List ℕ)) (turns : ℕ) → IsSafe (opening file turns)

abbrev pub NextLaw : Type 0
NextLaw = (known : Known) (s t : State) (statement : Statement) (lines : List (List ℕ)) → IsSafe s → Does known s statement (Becomes t lines) → IsSafe t

-- whatever the arguments are, in parentheses or in the file
abbrev pub RunLaw : Type 0
RunLaw = (s : State) (tree : RunTree) → IsSafe s → HasWords (query_ran s tree)

abbrev pub InterpretLaw : Type 0
InterpretLaw = (s : State) (tree : QueryTree) → IsSafe s → IsWritten (top.Interpret tree) → HasWords (query_interpreted s tree)
