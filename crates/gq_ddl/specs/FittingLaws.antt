-- FittingLaws: jobs stay valid while their catalog grows, and a valid job may be added.
use Rattle.std.proofs.Common.{ℕ, zero, suc, ◌≡◌, List, [], ◌∷◌, ◌++◌, get_or, All, Some, Bool, true, false, cond, subst, arith}
use Rattle.std.specs.List.{find}
use Rattle.gq_graph.specs.Catalog.{Schema}
use Rattle.gq_load_check.specs.declared.job.LoadLine.{LoadLine}
use Rattle.gq_load_check.specs.Fits.{HasGrown, LineFits}
use Rattle.gq_load_check.specs.GrowthLaws.{line_stays}
use Rattle.gq_ddl.specs.declared.named.NamedJob.{NamedJob}
use Rattle.gq_ddl.specs.Fitting.{JobsFit}
use Rattle.gq_ddl.specs.Jobs.{is_named, entry_of}

pub jobs_stay : (before after : Schema) (jobs : List NamedJob) → HasGrown before after → JobsFit before jobs → JobsFit after jobs
jobs_stay before after jobs grown fit k d low =
    λ j (e : LoadLine) less. line_stays before after (get_or (get_or jobs k d).job.lines j e) grown (fit k d low j e less)

pub all_and : {A : Type 0} (P : A → Type 0) (xs : List A) (x : A) → All P xs → P x → All P (xs ++ x ∷ [])
all_and P [] x all last zero d low = last
all_and P [] x all last (suc k) d low = absurd (omega arith)
all_and P (y ∷ xs) x all last zero d low = all 0 y (omega arith)
all_and P (y ∷ xs) x all last (suc k) d low = all_and P xs x (λ j e less. all (suc j) e (omega arith)) last k d (omega arith)

-- one more job
pub jobs_and : (schema : Schema) (jobs : List NamedJob) (entry : NamedJob) → JobsFit schema jobs → All (LineFits schema) entry.job.lines → JobsFit schema (jobs ++ entry ∷ [])
jobs_and schema jobs entry fit last = all_and (λ (e : NamedJob). All (LineFits schema) e.job.lines) jobs entry fit last

-- an item that is found has what all items have
pub all_found : {A : Type 0} (P : A → Type 0) (p : A → Bool) (xs : List A) (x : A) → All P xs → find p xs ≡ Some x → P x
all_found P p [] x all is = absurd (cc)
all_found {A} P p (y ∷ xs) x all is = by (p y) is (λ later. all_found P p xs x (λ j e less. all (suc j) e (omega arith)) later)
  where
    first : (z : A) → Some z ≡ Some x → P z → P x
    first z same holds = let e : z ≡ x = cc in subst P e holds

    by : (b : Bool) → cond b (Some y) (find p xs) ≡ Some x → (find p xs ≡ Some x → P x) → P x
    by true found later = first y found (all 0 y (omega arith))
    by false found later = later found

-- the lines of the job of a name
pub found_fits : (schema : Schema) (jobs : List NamedJob) (name : List ℕ) (entry : NamedJob) → JobsFit schema jobs → entry_of jobs name ≡ Some entry → All (LineFits schema) entry.job.lines
found_fits schema jobs name entry fit is = all_found (λ (e : NamedJob). All (LineFits schema) e.job.lines) (is_named name) jobs entry fit is
