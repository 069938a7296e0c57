-- JobLemmas: the chunks of a job, joined, are its candidates, and each target gets what its accumulator gets at its vertex.
use Rattle.std.proofs.Common.{◌≡◌, ℕ, zero, suc, ◌+◌, ◌*◌, ◌/◌, ◌%◌, ◌<◌, ◌≤◌, ◌==◌, ◌&&◌, Bool, true, false, List, [], ◌∷◌, ◌++◌, map, take, drop, length, min, slice_get, Some, None, refl, sym, ap, ap₂, ◌∙◌, subst, arith, cond, eq-eqb, eqb-true, filter}
use Rattle.std.specs.List.{All, flat_map}
use Rattle.std.specs.Fork.{slice_chunk}
use native.Mathlib.Nat.{add-mul, one-mul, mul-le-mul_right}
use Rattle.std.proofs.lemmas.Nat.{div-add-mod', mod_below}
use Rattle.std.proofs.lemmas.List.{append_assoc, map-append, take_all}
use Rattle.std.proofs.lemmas.List.Elements.{All-head, All-tail}
use Rattle.std.proofs.lemmas.List.Concat.{flat_map-append}
use Rattle.std.proofs.lemmas.Option.{same_Some}
use Rattle.gq_value.specs.declared.kind.Slot.{Slot}
use Rattle.gq_value.specs.declared.value.Wrong.{Wrong}
use Rattle.gq_value.specs.Accums.{Given}
use Rattle.gq_graph.specs.declared.rows.Candidate.{Candidate}
use Rattle.gq_accum_laws.specs.Targets.{targets}
use Rattle.gq_accum_laws.specs.Laws.{TargetLaw}
use Rattle.gq_accum_laws.proofs.TargetLaws.{target_law}
use Rattle.gq_core.specs.Contents as core
use Rattle.gq_frame.specs.declared.slots.Slots.{Slots}
use Rattle.gq_frame.specs.Targets.{attached_in, targets_of, number_of}
use Rattle.gq_rules_meaning.specs.Answers.{Answer, Gives, Faults, Stuck, ◌>>=◌, blaming}
use Rattle.gq_rules_meaning.specs.Blocks as blocks
use Rattle.gq_rules_meaning.specs.Blocks.{AtPlace, Contribution, Match, inputs_to}
use Rattle.gq_exec_feed.specs.Taking.{MayTake, targeted}
use Rattle.gq_workers.specs.Running.{gives_of, matches_by}
use Rattle.gq_workers.specs.Working.{Job, given_in, given_by, job_chunk, parts}
use Rattle.gq_workers.specs.JobLaws.{first_chunks, given_to, JobLaw}

-- ---- how many chunks there are

-- so many parts are just enough
spanned : (size n : ℕ) → 0 < size → (n ≤ parts size n * size) × (parts size n * size < n + size)
spanned size n some = by (n % size) refl
  where
    by : (r : ℕ) → n % size ≡ r → (n ≤ parts size n * size) × (parts size n * size < n + size)
    by zero e =
        let w : parts size n * size ≡ (n / size) * size = ap (λ (k : ℕ). k * size) (let c : parts size n ≡ n / size = omega (arith, e) in c) in
        let a = div-add-mod' n size in
        (omega (arith, w, a, e), omega (arith, w, a, e, some))
    by (suc r) e =
        let w : parts size n * size ≡ (n / size) * size + size = ap (λ (k : ℕ). k * size) (let c : parts size n ≡ n / size + 1 = omega (arith, e) in c) ∙ add-mul (n / size) 1 size ∙ ap (λ (k : ℕ). (n / size) * size + k) (one-mul size) in
        let a = div-add-mod' n size in let b = mod_below n size some in
        (omega (arith, w, a, b), omega (arith, w, a, e))

-- each of them begins at a candidate
pub begins_inside : (size n chunk : ℕ) → 0 < size → chunk < parts size n → chunk * size < n
begins_inside size n chunk some below =
    let up : chunk + 1 ≤ parts size n = omega (arith, below) in
    let m = mul-le-mul_right size up in let a = add-mul chunk 1 size in let o = one-mul size in let s = (spanned size n some).1 in omega (arith, m, a, o, s)

-- ---- the chunks, joined

take_chunk : (cs : List Candidate) (start size : ℕ) → take (start + size) cs ≡ take start cs ++ take size (drop start cs)
take_chunk cs zero size = ap (λ (k : ℕ). take k cs) (let e : 0 + size ≡ size = omega arith in e)
take_chunk [] (suc start) size = nothing (suc start + size) size
  where
    nothing : (n m : ℕ) → ◌≡◌ {A = List Candidate} (take n []) ([] ++ take m [])
    nothing zero zero = refl
    nothing zero (suc m) = refl
    nothing (suc n) zero = refl
    nothing (suc n) (suc m) = refl
take_chunk (c ∷ cs) (suc start) size = ap (λ (k : ℕ). take k (c ∷ cs)) (let e : suc start + size ≡ suc (start + size) = omega arith in e) ∙ ap (λ xs. c ∷ xs) (take_chunk cs start size)

chunks_are : (job : Job) (n : ℕ) → first_chunks job n ≡ map (targeted job.slots) (given_by job.go (take (n * job.size) job.candidates))
chunks_are job zero = ap (λ (k : ℕ). map (targeted job.slots) (given_by job.go (take k job.candidates))) (let e : 0 ≡ 0 * job.size = omega arith in e)
chunks_are job (suc n) =
    let cs = job.candidates in let f = λ (c : Candidate). given_in (job.go c) in
    ap (λ xs. xs ++ job_chunk job n) (chunks_are job n)
    ∙ sym (map-append (targeted job.slots) (given_by job.go (take (n * job.size) cs)) (given_by job.go (slice_chunk cs job.size n)))
    ∙ ap (map (targeted job.slots)) (sym (flat_map-append f (take (n * job.size) cs) (slice_chunk cs job.size n))
    ∙ ap (given_by job.go) (sym (take_chunk cs (n * job.size) job.size) ∙ ap (λ (k : ℕ). take k cs) (let e : n * job.size + job.size ≡ suc n * job.size = omega arith in e)))

all_chunks : (job : Job) → 1 ≤ job.size → first_chunks job (parts job.size (length job.candidates)) ≡ map (targeted job.slots) (given_by job.go job.candidates)
all_chunks job some = chunks_are job (parts job.size (length job.candidates))
    ∙ ap (λ cs. map (targeted job.slots) (given_by job.go cs)) (take_all (parts job.size (length job.candidates) * job.size) job.candidates (spanned job.size (length job.candidates) (omega (arith, some))).0)

-- ---- the contributions of a block without a fault

gives_append : (ms ns : List Match) → gives_of (ms ++ ns) ≡ gives_of ms ++ gives_of ns
gives_append ms ns = flat_map-append (λ (m : Match). m.gives) ms ns

given_is : (go : Candidate → Answer Wrong (List Match)) (n : ℕ) (cs : List Candidate) (ms : List Match) → matches_by go n cs ≡ Gives ms → given_by go cs ≡ gives_of ms
given_is go n [] ms h = ap gives_of (gives_same h)
  where
    gives_same : {a b : List Match} → ◌≡◌ {A = Answer blocks.BlockFault (List Match)} (Gives a) (Gives b) → a ≡ b
    gives_same h = cc
given_is go n (c ∷ cs) ms h = by (go c) (matches_by go (suc n) cs) refl refl h (λ ks q. given_is go (suc n) cs ks q)
  where
    by : (g : Answer Wrong (List Match)) (r : Answer blocks.BlockFault (List Match)) → go c ≡ g → matches_by go (suc n) cs ≡ r → (blaming (AtPlace n) g >>= λ m. r >>= λ ks. Gives (m ++ ks)) ≡ Gives ms → ((ks : List Match) → matches_by go (suc n) cs ≡ Gives ks → given_by go cs ≡ gives_of ks) → given_by go (c ∷ cs) ≡ gives_of ms
    by (Gives m) (Gives ks) p q e rest =
        let same : m ++ ks ≡ ms = cc e in
        ap₂ (λ (xs ys : List Contribution). xs ++ ys) (ap given_in p) (rest ks q) ∙ sym (gives_append m ks) ∙ ap gives_of same
    by (Gives m) (Faults w) p q e rest = absurd (cc e)
    by (Gives m) Stuck p q e rest = absurd (cc e)
    by (Faults w) r p q e rest = absurd (cc e)
    by Stuck r p q e rest = absurd (cc e)

-- ---- a target and its accumulator's vertex

module _ (slots : Slots) (n v : ℕ) (s : Slot) (at : slice_get slots.declared n ≡ Some s) (below : v < targets_of slots.vertices s) where
  own_place : (m w : ℕ) (d : Slot) → slice_get slots.declared m ≡ Some d → w < targets_of slots.vertices d → slice_get (targets slots.vertices (attached_in slots.declared)) (number_of slots m w) ≡ Some (m, w)
  own_place m w d here l = target_law.place slots.vertices (attached_in slots.declared) m w d.attached (attached_at slots.declared m d here) l
    where
      attached_at : (ds : List Slot) (i : ℕ) (d : Slot) → slice_get ds i ≡ Some d → slice_get (attached_in ds) i ≡ Some d.attached
      attached_at [] i d h = absurd (cc h)
      attached_at (e ∷ ds) zero d h = ap (λ (x : Slot). Some x.attached) (same_Some e d h)
      attached_at (e ∷ ds) (suc i) d h = attached_at ds i d h

  same_pair : (m w : ℕ) (d : Slot) → slice_get slots.declared m ≡ Some d → w < targets_of slots.vertices d → number_of slots m w ≡ number_of slots n v → ◌≡◌ {A = ℕ × ℕ} (m, w) (n, v)
  same_pair m w d here l e = same_Some (m, w) (n, v) (sym (own_place m w d here l) ∙ ap (slice_get (targets slots.vertices (attached_in slots.declared))) e ∙ own_place n v s at below)

  same_test : (m w : ℕ) (d : Slot) → slice_get slots.declared m ≡ Some d → w < targets_of slots.vertices d → (number_of slots m w == number_of slots n v) ≡ ((m == n) && (w == v))
  same_test m w d here l = by (number_of slots m w == number_of slots n v) ((m == n) && (w == v)) refl refl
    where
      by : (a b : Bool) → (number_of slots m w == number_of slots n v) ≡ a → ((m == n) && (w == v)) ≡ b → a ≡ b
      by true true p q = refl
      by false false p q = refl
      by true false p q = let e = same_pair m w d here l (eqb-true (number_of slots m w) (number_of slots n v) p) in
          sym (ap₂ (λ (a b : Bool). a && b) (eq-eqb m n (ap (λ (x : ℕ × ℕ). x.0) e)) (eq-eqb w v (ap (λ (x : ℕ × ℕ). x.1) e))) ∙ q
      by false true p q = sym p ∙ eq-eqb (number_of slots m w) (number_of slots n v) (ap₂ (number_of slots) (eqb-true m n (left (m == n) (w == v) q)) (eqb-true w v (right (m == n) (w == v) q)))
        where
          left : (a b : Bool) → (a && b) ≡ true → a ≡ true
          left true b h = refl
          left false b h = h

          right : (a b : Bool) → (a && b) ≡ true → b ≡ true
          right true b h = h
          right false b h = absurd (cc h)

  inputs_are : (xs : List Contribution) → All (MayTake slots) xs → core.inputs_to (number_of slots n v) (map (targeted slots) xs) ≡ inputs_to n v xs
  inputs_are [] may = refl
  inputs_are (x ∷ xs) may =
      let m = All-head (MayTake slots) x xs may in
      pick (number_of slots x.slot x.vertex == number_of slots n v) ∙ ap₂ (λ (b : Bool) (ys : List Given). cond b (x.input ∷ ys) ys) (same_test x.slot x.vertex m.slot m.declared m.within) (inputs_are xs (All-tail (MayTake slots) x xs may))
    where
      pick : (b : Bool) → map (λ (input : ℕ × Given). input.1) (cond b (targeted slots x ∷ filter (λ (input : ℕ × Given). input.0 == number_of slots n v) (map (targeted slots) xs)) (filter (λ (input : ℕ × Given). input.0 == number_of slots n v) (map (targeted slots) xs)))
          ≡ cond b (x.input ∷ core.inputs_to (number_of slots n v) (map (targeted slots) xs)) (core.inputs_to (number_of slots n v) (map (targeted slots) xs))
      pick true = refl
      pick false = refl

pub job_law : JobLaw
job_law job ms some matched may n v s at below =
    ap (core.inputs_to (number_of job.slots n v)) (all_chunks job some ∙ ap (map (targeted job.slots)) (given_is job.go 0 job.candidates ms matched))
    ∙ inputs_are job.slots n v s at below (gives_of ms) may
