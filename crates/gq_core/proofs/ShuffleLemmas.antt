-- A finished machine has each chunk once at each stripe, and so all inputs.
use Rattle.std.proofs.Common.{◌≡◌, ℕ, zero, suc, ◌+◌, ◌%◌, ◌<◌, ◌≤◌, ◌≢◌, ◌==◌, Bool, true, false, cond, min, List, [], ◌∷◌, ◌++◌, length, map, take, get_or, sym, ◌∙◌, refl, ap, ap₂, subst, arith, eq-eqb, ne_eqb, append_assoc}
use Rattle.std.specs.Prelude.{filter, flat_map}
use Rattle.std.specs.List.Sorted.{IsPermutation}
use Rattle.std.proofs.lemmas.Option.{unwrap_or-slice_get}
use Rattle.std.proofs.lemmas.List.{append-nil, take_more, map-append}
use Rattle.std.proofs.Math.Seq.{take-length}
use Rattle.std.proofs.lemmas.List.Concat.{flat_map-append}
use Rattle.std.proofs.lemmas.List.Elements.{filter-append}
use Rattle.std.proofs.lemmas.List.Sorted.{IsPermutation-refl, IsPermutation-trans, IsPermutation-append_left, IsPermutation-append_right, IsPermutation-append_comm}
use mathlib.Core.Logic.{dite}
use native.Mathlib.Decide.{ℕ_discrete}
use Rattle.gq_core.specs.declared.job.FeedJob.{FeedJob}
use Rattle.gq_core.specs.declared.worker.Phase.{Phase}
use Rattle.gq_core.specs.declared.worker.Phase.TheVariants.{Idle, Ended, Holds, Waits, Served, Lifted, Laid, Joined}
use Rattle.gq_core.specs.Batches.{batch_of, chunk_at, batches_of}
use Rattle.gq_core.specs.Machine.{Machine, stripe_at}
use Rattle.gq_core.specs.Accounts.{below, times, total, put_of, owes_of, laid_of, IsInOrder}
use Rattle.gq_core.specs.Contents.{has_chunk, IsFinished, numbers, all_of, inputs_to, put_times, IsShuffled}
use Rattle.gq_core.proofs.TotalLemmas.{is_same, is_other, below_yes, below_no, below-next, total_agrees, times-append}

-- a number that is in a list, with the parts before and after it
found : (x : ℕ) (xs : List ℕ) → 0 < times x xs → (before : List ℕ) × (behind : List ℕ) × (xs ≡ before ++ x ∷ behind)
found x [] h = absurd (omega arith)
found x (y ∷ ys) h = dite (ℕ_discrete x y)
    (λ (e : x ≡ y). ([], ys, ap (λ (z : ℕ). z ∷ ys) (sym e)))
    (λ (ne : x ≢ y). let n = is_other x y ne in let r = found x ys (omega arith) in (y ∷ r.0, r.1, ap (λ (zs : List ℕ). y ∷ zs) r.2))

-- a list that has exactly the numbers below n, each once: mapped, it is a permutation of the numbers in order, mapped
shuffled : {B : Type 0} (f : ℕ → List B) (n : ℕ) (xs : List ℕ) → ((c : ℕ) → times c xs ≡ below c n) → IsPermutation (flat_map f (numbers n)) (flat_map f xs)
shuffled f zero [] counts = IsPermutation-refl []
shuffled f zero (x ∷ xs) counts = let h = counts x in let a = is_same x x refl in let b = below_no x 0 (omega arith) in absurd (omega arith)
shuffled {B} f (suc n) xs counts =
    let h = counts n in let up = below_yes n (suc n) (omega arith) in
    let r = found n xs (omega arith) in let before : List ℕ = r.0 in let behind : List ℕ = r.1 in
    let rest : (c : ℕ) → times c (before ++ behind) ≡ below c n = λ c.
    let k = counts c in let e = ap (times c) r.2 in let a = times-append c before (n ∷ behind) in let b = times-append c before behind in let d = below-next c n in
    let s : below c (n + 1) ≡ below c (suc n) = ap (below c) (omega arith) in omega arith in
    let A : List B = flat_map f before in let D : List B = flat_map f behind in let N : List B = flat_map f (numbers n) in
    let split : flat_map f (before ++ behind) ≡ A ++ D = flat_map-append f before behind in
    let whole : (A ++ f n) ++ D ≡ flat_map f xs = append_assoc A (f n) D ∙ (sym (flat_map-append f before (n ∷ behind)) ∙ ap (flat_map f) (sym r.2)) in
    let last : flat_map f (numbers n ++ n ∷ []) ≡ N ++ f n = flat_map-append f (numbers n) (n ∷ []) ∙ ap (λ ys. N ++ ys) (append-nil (f n)) in
    let less : IsPermutation N (A ++ D) = subst (IsPermutation N) split (shuffled f n (before ++ behind) rest) in
    let moved : IsPermutation ((A ++ D) ++ f n) ((A ++ f n) ++ D) =
    subst (λ ys. IsPermutation ys ((A ++ f n) ++ D)) (sym (append_assoc A D (f n)))
    (subst (IsPermutation (A ++ (D ++ f n))) (sym (append_assoc A (f n) D)) (IsPermutation-append_right A (D ++ f n) (f n ++ D) (IsPermutation-append_comm D (f n)))) in
    subst (λ ys. IsPermutation ys (flat_map f xs)) (sym last) (subst (IsPermutation (N ++ f n)) whole
    (IsPermutation-trans (N ++ f n) ((A ++ D) ++ f n) ((A ++ f n) ++ D) (IsPermutation-append_left (f n) N (A ++ D) less) moved))

singles : (xs : List ℕ) → flat_map (λ c. c ∷ []) xs ≡ xs
singles [] = refl
singles (x ∷ xs) = ap (λ ys. x ∷ ys) (singles xs)

-- the batches of all chunks in order are the batch of all contributions
in_chunks : {A : Type 0} (chunks : List (List (ℕ × A))) (stripes j k : ℕ) → k ≤ length chunks → batches_of chunks stripes j (numbers k) ≡ batch_of stripes j (all_of (take k chunks))
in_chunks chunks stripes j zero h = refl
in_chunks {A} chunks stripes j (suc k) h =
    let f : ℕ → List (ℕ × A) = λ c. batch_of stripes j (chunk_at chunks c) in
    let one : List (ℕ × A) = get_or chunks k [] in let up : suc k ≡ k + 1 = omega arith in
    let more : take (suc k) chunks ≡ take k chunks ++ one ∷ [] = ap (λ (n : ℕ). take n chunks) up ∙ take_more chunks k [] (omega arith) in
    let all : all_of (take (suc k) chunks) ≡ all_of (take k chunks) ++ one = ap all_of more ∙ (flat_map-append (λ (c : List (ℕ × A)). c) (take k chunks) (one ∷ []) ∙ ap (λ ys. all_of (take k chunks) ++ ys) (append-nil one)) in
    flat_map-append f (numbers k) (k ∷ [])
    ∙ (ap₂ (λ (ys zs : List (ℕ × A)). ys ++ zs) (in_chunks chunks stripes j k (omega arith)) (append-nil (f k) ∙ ap (batch_of stripes j) (unwrap_or-slice_get chunks k []))
    ∙ (sym (filter-append (λ input. input.0 % stripes == j) (all_of (take k chunks)) one) ∙ ap (batch_of stripes j) (sym all)))

in_all : {A : Type 0} (chunks : List (List (ℕ × A))) (stripes j : ℕ) → batches_of chunks stripes j (numbers (length chunks)) ≡ batch_of stripes j (all_of chunks)
in_all chunks stripes j = in_chunks chunks stripes j (length chunks) (omega arith) ∙ ap (λ ys. batch_of stripes j (all_of ys)) (take-length chunks)

inputs_to-append : {A : Type 0} (target : ℕ) (xs ys : List (ℕ × A)) → inputs_to target (xs ++ ys) ≡ inputs_to target xs ++ inputs_to target ys
inputs_to-append target xs ys = ap (map (λ input. input.1)) (filter-append (λ input. input.0 == target) xs ys) ∙ map-append (λ input. input.1) (filter (λ input. input.0 == target) xs) (filter (λ input. input.0 == target) ys)

inputs_to-flat_map : {A : Type 0} (target : ℕ) (f : ℕ → List (ℕ × A)) (cs : List ℕ) → inputs_to target (flat_map f cs) ≡ flat_map (λ c. inputs_to target (f c)) cs
inputs_to-flat_map target f [] = refl
inputs_to-flat_map target f (c ∷ cs) = inputs_to-append target (f c) (flat_map f cs) ∙ ap (λ ys. inputs_to target (f c) ++ ys) (inputs_to-flat_map target f cs)

-- a target's inputs all go to its stripe
inputs_to-batch_of : {A : Type 0} (target stripes : ℕ) (xs : List (ℕ × A)) → inputs_to target (batch_of stripes (target % stripes) xs) ≡ inputs_to target xs
inputs_to-batch_of target stripes [] = refl
inputs_to-batch_of {A} target stripes (x ∷ xs) = dite (ℕ_discrete x.0 target)
    (λ (e : x.0 ≡ target). ap (λ b. inputs_to target (cond b (x ∷ rest) rest)) (eq-eqb (x.0 % stripes) (target % stripes) (ap (λ (n : ℕ). n % stripes) e))
    ∙ (test rest true (eq-eqb x.0 target e) ∙ (ap (λ ys. x.1 ∷ ys) (inputs_to-batch_of target stripes xs) ∙ sym (test xs true (eq-eqb x.0 target e)))))
    (λ (ne : x.0 ≢ target). dropped (ne_eqb x.0 target ne) (x.0 % stripes == target % stripes) ∙ (inputs_to-batch_of target stripes xs ∙ sym (test xs false (ne_eqb x.0 target ne))))
  where
    rest : List (ℕ × A)
    rest = batch_of stripes (target % stripes) xs

    test : (ys : List (ℕ × A)) (b : Bool) → (x.0 == target) ≡ b → inputs_to target (x ∷ ys) ≡ cond b (x.1 ∷ inputs_to target ys) (inputs_to target ys)
    test ys true h = ap (λ b. map (λ input. input.1) (cond b (x ∷ filter (λ input. input.0 == target) ys) (filter (λ input. input.0 == target) ys))) h
    test ys false h = ap (λ b. map (λ input. input.1) (cond b (x ∷ filter (λ input. input.0 == target) ys) (filter (λ input. input.0 == target) ys))) h

    dropped : (x.0 == target) ≡ false → (q : Bool) → inputs_to target (cond q (x ∷ rest) rest) ≡ inputs_to target rest
    dropped h true = test rest false h
    dropped h false = refl

-- what holds of a machine whose workers hold no chunk
owes_none : (p : Phase) → has_chunk p ≡ false → (c j : ℕ) → owes_of c j p ≡ 0
owes_none Idle h c j = refl
owes_none Ended h c j = refl
owes_none (Holds chunk stripe) h c j = cc
owes_none (Waits t) h c j = cc
owes_none (Served t) h c j = cc
owes_none (Lifted t) h c j = cc
owes_none (Laid t) h c j = cc
owes_none Joined h c j = refl

laid_none : (p : Phase) → has_chunk p ≡ false → (c j : ℕ) → laid_of c j p ≡ 0
laid_none Idle h c j = refl
laid_none Ended h c j = refl
laid_none (Holds chunk stripe) h c j = refl
laid_none (Waits t) h c j = refl
laid_none (Served t) h c j = refl
laid_none (Lifted t) h c j = refl
laid_none (Laid t) h c j = cc
laid_none Joined h c j = refl

module _ (job : FeedJob) (m : Machine) (r : IsInOrder job m) (done : IsFinished job m) where
  put_counts : (j : ℕ) → j < job.stripes → (c : ℕ) → put_times m c j ≡ below c (length job.chunks)
  put_counts j h c =
      let same : put_times m c j ≡ total (λ v. times c v.draws) m.workers = total_agrees (λ v. put_of c j v.puts) (λ v. times c v.draws) m.workers
      (λ w v at. let f = (r.accounts.fair w v at).owed c j h in let o = owes_none v.phase (done.free w v at) c j in omega arith) in
      let all : min m.next (length job.chunks) ≡ length job.chunks = let d = done.drawn in omega arith in
      same ∙ (r.accounts.drawn c ∙ ap (below c) all)

  book_counts : (j : ℕ) → j < job.stripes → (c : ℕ) → times c (stripe_at m j).book ≡ below c (length job.chunks)
  book_counts j h c = (r.accounts.balanced j h).booked c
      ∙ (total_agrees (λ v. put_of c j v.puts + laid_of c j v.phase) (λ v. put_of c j v.puts) m.workers (λ w v at. let l = laid_none v.phase (done.free w v at) c j in omega arith) ∙ put_counts j h c)

  pub put_once : (chunk stripe : ℕ) → chunk < length job.chunks → stripe < job.stripes → put_times m chunk stripe ≡ 1
  put_once c j less h = put_counts j h c ∙ below_yes c (length job.chunks) less

  pub is_shuffled : (stripe : ℕ) → stripe < job.stripes → IsShuffled job m stripe
  is_shuffled j h = let n : ℕ = length job.chunks in let book : List ℕ = (stripe_at m j).book in record {
    book = subst (IsPermutation (numbers n)) (singles book) (subst (λ ys. IsPermutation ys (flat_map (λ c. c ∷ []) book)) (singles (numbers n)) (shuffled (λ c. c ∷ []) n book (book_counts j h)));
    inputs = subst (IsPermutation (batch_of job.stripes j (all_of job.chunks))) (sym (r.fed j h))
        (subst (λ ys. IsPermutation ys (batches_of job.chunks job.stripes j book)) (in_all job.chunks job.stripes j) (shuffled (λ c. batch_of job.stripes j (chunk_at job.chunks c)) n book (book_counts j h)));
  }

  pub has_inputs : (target : ℕ) → IsPermutation (inputs_to target (all_of job.chunks)) (inputs_to target (stripe_at m (target % job.stripes)).inputs)
  has_inputs t =
      let some : 0 < job.stripes = job.some in let j : ℕ = t % job.stripes in let h : j < job.stripes = omega arith in let n : ℕ = length job.chunks in let book : List ℕ = (stripe_at m j).book in
      let g : ℕ → List (ℕ × _) = λ c. batch_of job.stripes j (chunk_at job.chunks c) in
      let there : flat_map (λ c. inputs_to t (g c)) book ≡ inputs_to t (stripe_at m j).inputs = sym (inputs_to-flat_map t g book) ∙ ap (inputs_to t) (sym (r.fed j h)) in
      let all : flat_map (λ c. inputs_to t (g c)) (numbers n) ≡ inputs_to t (all_of job.chunks) =
      sym (inputs_to-flat_map t g (numbers n)) ∙ (ap (inputs_to t) (in_all job.chunks job.stripes j) ∙ inputs_to-batch_of t job.stripes (all_of job.chunks)) in
      subst (IsPermutation (inputs_to t (all_of job.chunks))) there (subst (λ ys. IsPermutation ys (flat_map (λ c. inputs_to t (g c)) book)) all (shuffled (λ c. inputs_to t (g c)) n book (book_counts j h)))
