-- How one LOAD, and the LOADs of a job, are part of a run.
use Rattle.std.proofs.Common.{◌≡◌, ℕ, List, Option, Some, None, Result, Ok, Err, IfOk, length, refl, sym, ap, subst, ◌∙◌, slice_get, arith}
use Rattle.std.specs.Prelude.{IfErr}
use Rattle.gq_graph.specs.Catalog.{Schema}
use Rattle.gq_tree.specs.declared.job.RunJobTree.{RunJobTree}
use Rattle.gq_diagnostics.specs.declared.refusal.StatementFault.{StatementFault}
use Rattle.gq_index.specs.declared.store.Store.{Store}
use Rattle.gq_load_check.specs.declared.job.Job.{Job}
use Rattle.gq_load_check.specs.declared.job.LoadLine.{LoadLine}
use Rattle.gq_load.specs.Loads.{records_in}
use Rattle.gq_load_check.specs.Paths.{Given, undefined_name}
use Rattle.gq_io.specs.Known.{Known}
use Rattle.gq_diagnostics.specs.Effects.{Effect}
use Rattle.gq_diagnostics.specs.declared.refusal.StatementFault.TheVariants as fault
use Rattle.gq_load_run.specs.LoadLaws.{stands_here}
use Rattle.gq_load_run.specs.Loadings.{LineLeaves, OneLeaves, Leaves, loaded_by, place_of}
use Rattle.gq_load_run.specs.JobRuns.{UsingDoes, LoadsDo, FoundDoes, LoadsLeave, UsingLeaves, FoundLeaves}

pub if_ok : {A E : Type 0} (P Q : A → Type 0) (r : Result A E) → ((a : A) → P a → Q a) → IfOk r P → IfOk r Q
if_ok P Q (Ok a) more holds = more a holds
if_ok P Q (Err e) more holds = tt

-- the LOAD with a number leaves what its line leaves
pub leaves_line : {A : Type 0} (schema : Schema) (job : Job) (store later : Store) (number : ℕ) (bytes : List ℕ) (line : LoadLine) → slice_get job.lines number ≡ Some line
    → (r : Result A StatementFault) → IfErr r (λ f. LineLeaves schema line (records_in line bytes) store f later) → IfErr r (λ f. Leaves schema job store number bytes f later)
unfolding Leaves
leaves_line schema job store later number bytes line found (Ok a) left = tt
leaves_line schema job store later number bytes line found (Err f) left =
    let P : Option LoadLine → Type 0 = λ o. OneLeaves schema o bytes store f later in subst P (sym found) left

-- the LOADs of a job, if the run supplies paths only for the job's files
pub using_none : (known : Known) (schema : Schema) (job : Job) (store : Store) (tree : RunJobTree) (given paths : List Given) (effect : Effect Store)
    → given ≡ tree.paths → paths ≡ tree.paths → None ≡ undefined_name job.files given → LoadsDo known schema job paths store effect
    → FoundDoes known schema store tree (Some job) effect
using_none known schema job store tree given paths effect b c none does =
    let P : List Given → Type 0 = λ p. LoadsDo known schema job p store effect in
    let Q : Option (List ℕ) → Type 0 = λ o. UsingDoes known schema job tree.paths store o effect in
    let e : None ≡ undefined_name job.files tree.paths = none ∙ ap (undefined_name job.files) b in
    subst Q e (subst P c does)

-- and what they leave
pub using_left : {A : Type 0} (known : Known) (schema : Schema) (job : Job) (store later : Store) (tree : RunJobTree) (given paths : List Given)
    → given ≡ tree.paths → paths ≡ tree.paths → None ≡ undefined_name job.files given → (r : Result A StatementFault)
    → IfErr r (λ f. LoadsLeave known schema job paths store f later) → IfErr r (λ f. FoundLeaves known schema store tree (Some job) f later)
using_left known schema job store later tree given paths b c none (Ok x) left = tt
using_left known schema job store later tree given paths b c none (Err f) left =
    let P : List Given → Type 0 = λ p. LoadsLeave known schema job p store f later in
    let Q : Option (List ℕ) → Type 0 = λ o. UsingLeaves known schema job tree.paths store o f later in
    let e : None ≡ undefined_name job.files tree.paths = none ∙ ap (undefined_name job.files) b in
    subst Q e (subst P c left)

-- which is nothing, if memory runs out before the first
pub left_none : (known : Known) (schema : Schema) (job : Job) (store : Store) (tree : RunJobTree) (given : List Given) → given ≡ tree.paths
    → None ≡ undefined_name job.files given → FoundLeaves known schema store tree (Some job) fault.OutOfMemory store
left_none known schema job store tree given b none =
    let Q : Option (List ℕ) → Type 0 = λ o. UsingLeaves known schema job tree.paths store o fault.OutOfMemory store in
    subst Q (none ∙ ap (undefined_name job.files) b)
    (stands_here (place_of job tree.paths) (loaded_by schema job) (Leaves schema job) known store (length job.lines) 0 store (omega arith) refl)
