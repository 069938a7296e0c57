-- ReadyLemmas: what is prepared of a session's queries.
use Rattle.std.proofs.Common.{ℕ, zero, suc, ◌+◌, ◌<◌, ◌≤◌, ◌≡◌, Bool, true, false, List, [], ◌∷◌, ◌++◌, length, Option, Some, None, refl, ap, sym, subst, ◌∙◌, inl, inr, arith}
use Rattle.std.specs.Prelude.{◌≢◌, ◌⊎◌, Result, Ok, Err, OnOk, OnErr, slice_get, slice_set}
use Rattle.std.specs.Option.{option_flatten}
use Rattle.gq_graph.specs.Catalog.{Schema}
use Rattle.gq_query_run.specs.Kept.{Kept}
use Rattle.gq_query_run.specs.Ready.{AreReady, IsOf, IsReadyFor, OthersStay, ready_at}

some_inj : {A : Type 0} {a b : A} → ◌≡◌ {A = Option A} (Some a) (Some b) → a ≡ b
some_inj h = cc

-- nothing is prepared
pub none_ready : {P : Type 0} (is_of : IsOf P) (schema : Schema) (queries : List Kept) (plans : List (Option P)) → plans ≡ [] → AreReady is_of schema queries plans
none_ready is_of schema queries plans none place query there p at = absurd (cc)

-- another nothing at the end
pub ready_longer : {P : Type 0} (plans : List (Option P)) (k : ℕ) → ready_at (plans ++ None ∷ []) k ≡ ready_at plans k
ready_longer [] zero = refl
ready_longer [] (suc k) = refl
ready_longer (p ∷ ps) zero = refl
ready_longer (p ∷ ps) (suc k) = ready_longer ps k

-- one more at the end
pub ready_last : {P : Type 0} (plans : List (Option P)) (x : Option P) (place : ℕ) → length plans ≡ place → ready_at (plans ++ x ∷ []) place ≡ x
ready_last [] x zero is = refl
ready_last [] x (suc k) is = absurd (cc)
ready_last (p ∷ ps) x zero is = absurd (omega (arith, is))
ready_last (p ∷ ps) x (suc k) is = ready_last ps x k (omega (arith, is))

pub ready_before : {P : Type 0} (plans : List (Option P)) (x : Option P) (k : ℕ) → k ≢ length plans → ready_at (plans ++ x ∷ []) k ≡ ready_at plans k
ready_before [] x zero other = absurd (other refl)
ready_before [] x (suc k) other = refl
ready_before (p ∷ ps) x zero other = refl
ready_before (p ∷ ps) x (suc k) other = ready_before ps x k (λ same. other (ap suc same))

pub pushed_there : {P U E : Type 0} (plans new : List (Option P)) (x : Option P) (place : ℕ) (r : Result U E) → length plans ≡ place → OnOk r (new ≡ plans ++ x ∷ []) → OnOk r (ready_at new place ≡ x)
pushed_there {P = P} plans new x place (Ok done) is put = ap (λ (l : List (Option P)). ready_at l place) put ∙ ready_last plans x place is
pushed_there plans new x place (Err fault) is put = tt

pub pushed_nowhere : {P U E : Type 0} (old plans new : List (Option P)) (place : ℕ) (r : Result U E) → ((k : ℕ) → ready_at plans k ≡ ready_at old k) → OnErr r (new ≡ plans) → OnErr r (ready_at new place ≡ ready_at old place)
pushed_nowhere old plans new place (Ok done) was same = tt
pushed_nowhere {P = P} old plans new place (Err fault) was same = ap (λ (l : List (Option P)). ready_at l place) same ∙ was place

pub any_err : {T : Type 0} {U E : Type 0} (r : Result U E) → T → OnErr r T
any_err (Ok done) t = tt
any_err (Err fault) t = t

pub pushed_others : {P U E : Type 0} (old plans new : List (Option P)) (x : Option P) (place : ℕ) (r : Result U E) → length plans ≡ place → ((k : ℕ) → ready_at plans k ≡ ready_at old k)
    → OnOk r (new ≡ plans ++ x ∷ []) → OnErr r (new ≡ plans) → OthersStay old new place
pushed_others {P = P} old plans new x place (Ok done) is was put same k other = ap (λ (l : List (Option P)). ready_at l k) put ∙ ready_before plans x k (λ at. other (at ∙ is)) ∙ was k
pushed_others {P = P} old plans new x place (Err fault) is was put same k other = ap (λ (l : List (Option P)). ready_at l k) same ∙ was k

-- a place that is set
pub ready_set : {P : Type 0} (plans : List (Option P)) (place : ℕ) (p : Option P) → place < length plans → ready_at (slice_set plans place p) place ≡ p
ready_set [] place p low = absurd (omega (arith, low))
ready_set (q ∷ qs) zero p low = refl
ready_set (q ∷ qs) (suc place) p low = ready_set qs place p (omega (arith, low))

pub ready_elsewhere : {P : Type 0} (plans : List (Option P)) (place : ℕ) (p : Option P) (k : ℕ) → k ≢ place → ready_at (slice_set plans place p) k ≡ ready_at plans k
ready_elsewhere [] place p k other = refl
ready_elsewhere (q ∷ qs) zero p zero other = absurd (other refl)
ready_elsewhere (q ∷ qs) zero p (suc k) other = refl
ready_elsewhere (q ∷ qs) (suc place) p zero other = refl
ready_elsewhere (q ∷ qs) (suc place) p (suc k) other = ready_elsewhere qs place p k (λ same. other (ap suc same))

-- the query at a place is prepared, and the others are as before
same_or_other : (k n : ℕ) → (k ≡ n) ⊎ (k ≢ n)
same_or_other zero zero = inl refl
same_or_other zero (suc n) = inr (λ h. cc)
same_or_other (suc k) zero = inr (λ h. cc)
same_or_other (suc k) (suc n) = go (same_or_other k n)
  where
    go : (k ≡ n) ⊎ (k ≢ n) → (suc k ≡ suc n) ⊎ (suc k ≢ suc n)
    go (inl same) = inl (ap suc same)
    go (inr other) = inr (λ h. other (omega (arith, h)))

pub all_ready : {P : Type 0} (is_of : IsOf P) (schema : Schema) (queries : List Kept) (old new : List (Option P)) (place : ℕ) (query : Kept)
    → slice_get queries place ≡ Some query → AreReady is_of schema queries old → IsReadyFor is_of schema new place query → OthersStay old new place
    → AreReady is_of schema queries new
all_ready {P = P} is_of schema queries old new place query there ready for others k q at = go (same_or_other k place)
  where
    go : (k ≡ place) ⊎ (k ≢ place) → IsReadyFor is_of schema new k q
    go (inl same) p is =
        let q_is : query ≡ q = some_inj (sym there ∙ ap (slice_get queries) (sym same) ∙ at) in
        let For : Kept → Type 0 = λ x. IsReadyFor is_of schema new place x in
        subst For q_is for p (ap (ready_at new) (sym same) ∙ is)
    go (inr other) p is = ready k q at p (sym (others k other) ∙ is)
