-- KeyChainLemmas: the last row of a bucket, and the chains with one row added or removed.
use Rattle.std.proofs.Common.{ℕ, zero, suc, ◌+◌, ◌-◌, ◌<◌, ◌≤◌, ◌≡◌, ◌≢◌, ◌==◌, Bool, true, false, cond, List, [], ◌∷◌, ◌++◌, Some, length, get_or, set, take, refl, ap, sym, ◌∙◌, subst, arith, length-set, add-one, eq-eqb, below_more, inl, inr}
use Rattle.std.specs.List.{slice_get}
use Rattle.std.proofs.lemmas.Bool.{ne_eqb, eqb-false, cases_lt}
use Rattle.std.proofs.lemmas.Bool.Decides.{eqb_tells, nat_tests}
use Rattle.std.proofs.lemmas.List.{get_or-set_same, get_or-set_other, get_or_append_left, get_or_push, get_or-take, length-take-le, length_push, length-map, get_or-map, map-set, map-append, take-map}
use Rattle.std.proofs.Math.Seq.{map-set_same}
use Rattle.std.proofs.lemmas.Option.{get_or_from_slice_get}
use Rattle.gq_base.specs.Keys.{number_in, numbers_of, links_of, bucket_of}
use Rattle.gq_base.specs.KeyChains.{latest, IsChained, IsChainedTo}
use Rattle.gq_base.specs.declared.key_chains.Entry.{Entry}

by_test : (t : Bool) (x y : ℕ) (P : ℕ → Type 0) → (t ≡ true → P x) → (t ≡ false → P y) → P (cond t x y)
by_test true x y P one other = one refl
by_test false x y P one other = other refl

is_equal : (a b : ℕ) → (a == b) ≡ true → a ≡ b
is_equal a b h = grind (arith, nat_tests)

-- the last row of a bucket is below the bound
pub latest_low : (B : ℕ) (H : List ℕ) (b n : ℕ) → latest B H b n ≤ n
latest_low B H b zero = omega arith
latest_low B H b (suc n) =
    by_test (bucket_of (get_or H n 0) B == b) (suc n) (latest B H b n) (λ m. m ≤ suc n) (λ _. omega arith) (λ _. omega (arith, latest_low B H b n))

-- it is in the bucket
pub latest_is : (B : ℕ) (H : List ℕ) (b n k : ℕ) → latest B H b n ≡ k + 1 → bucket_of (get_or H k 0) B ≡ b
latest_is B H b zero k is = absurd (omega arith)
latest_is B H b (suc n) k is =
    by_test (bucket_of (get_or H n 0) B == b) (suc n) (latest B H b n) (λ m. m ≡ k + 1 → bucket_of (get_or H k 0) B ≡ b)
    (λ hit at. let same : n ≡ k = omega arith in subst (λ j. bucket_of (get_or H j 0) B ≡ b) same (is_equal (bucket_of (get_or H n 0) B) b hit))
    (λ _ at. latest_is B H b n k at) is

-- no later row below n is in it
pub latest_past : (B : ℕ) (H : List ℕ) (b n k : ℕ) → latest B H b n ≤ k → k < n → bucket_of (get_or H k 0) B ≢ b
latest_past B H b zero k past low = absurd (omega arith)
latest_past B H b (suc n) k past low =
    by_test (bucket_of (get_or H n 0) B == b) (suc n) (latest B H b n) (λ m. m ≤ k → bucket_of (get_or H k 0) B ≢ b)
    (λ _ over. absurd (omega arith))
    (λ miss over. below_more (λ j. latest B H b n ≤ j → bucket_of (get_or H j 0) B ≢ b) n (λ j under at. latest_past B H b n j at under)
    (λ at. eqb-false (bucket_of (get_or H n 0) B) b miss) k (omega arith) over) past

-- the bound raised by one row
pub latest_hit : (B : ℕ) (H : List ℕ) (b n : ℕ) → bucket_of (get_or H n 0) B ≡ b → latest B H b (n + 1) ≡ n + 1
latest_hit B H b n is =
    ap (latest B H b) (add-one n) ∙ ap (λ t. cond t (suc n) (latest B H b n)) (eq-eqb (bucket_of (get_or H n 0) B) b is) ∙ sym (add-one n)

pub latest_miss : (B : ℕ) (H : List ℕ) (b n : ℕ) → bucket_of (get_or H n 0) B ≢ b → latest B H b (n + 1) ≡ latest B H b n
latest_miss B H b n not =
    ap (latest B H b) (add-one n) ∙ ap (λ t. cond t (suc n) (latest B H b n)) (ne_eqb (bucket_of (get_or H n 0) B) b not)

-- only hashes below the bound count
pub latest_agree : (B : ℕ) (H G : List ℕ) (b n : ℕ) → ((k : ℕ) → k < n → get_or H k 0 ≡ get_or G k 0) → latest B H b n ≡ latest B G b n
latest_agree B H G b zero same = refl
latest_agree B H G b (suc n) same =
    ap (λ x. cond (bucket_of x B == b) (suc n) (latest B H b n)) (same n (omega arith))
    ∙ ap (λ r. cond (bucket_of (get_or G n 0) B == b) (suc n) r) (latest_agree B H G b n (λ k low. same k (omega arith)))

-- chains of the same hashes and links
pub same_chains : (n B : ℕ) (heads H G before after : List ℕ) → ((k : ℕ) → k < n → get_or H k 0 ≡ get_or G k 0)
    → ((k : ℕ) → k < n → get_or before k 0 ≡ get_or after k 0) → IsChainedTo n B heads H before → IsChainedTo n B heads G after
same_chains n B heads H G before after hashes links old = record {
  headed = λ b low. old.headed b low ∙ latest_agree B H G b n hashes;
  linked = λ i low. sym (links i low) ∙ old.linked i low ∙ ap (λ h. latest B H (bucket_of h B) i) (hashes i low)
      ∙ latest_agree B H G (bucket_of (get_or G i 0) B) i (λ k under. hashes k (omega arith));
}

same_or_not : (a b : ℕ) (P : Type 0) → (a ≡ b → P) → (a ≢ b → P) → P
same_or_not a b P one other = elim (eqb_tells a b) [ inl h ↦ one h.1 | inr h ↦ other h.1 ]

-- a row that is linked becomes the last of its bucket
pub linked_one : (n B : ℕ) (heads H before : List ℕ) → length heads ≡ B → bucket_of (get_or H n 0) B < B → get_or before n 0 ≡ get_or heads (bucket_of (get_or H n 0) B) 0
    → IsChainedTo n B heads H before → IsChainedTo (n + 1) B (set heads (bucket_of (get_or H n 0) B) (n + 1)) H before
linked_one n B heads H before long low link old = record {
  headed = λ b under. same_or_not b (bucket_of (get_or H n 0) B) (get_or (set heads (bucket_of (get_or H n 0) B) (n + 1)) b 0 ≡ latest B H b (n + 1))
      (λ is. ap (λ j. get_or (set heads (bucket_of (get_or H n 0) B) (n + 1)) j 0) is
      ∙ get_or-set_same heads (bucket_of (get_or H n 0) B) (n + 1) 0 (omega arith) ∙ sym (latest_hit B H b n (sym is)))
      (λ not. get_or-set_other heads (bucket_of (get_or H n 0) B) b (n + 1) 0 not ∙ old.headed b under ∙ sym (latest_miss B H b n (λ is. not (sym is))));
  linked = below_more (λ i. get_or before i 0 ≡ latest B H (bucket_of (get_or H i 0) B) i) n old.linked (link ∙ old.headed (bucket_of (get_or H n 0) B) low);
}

-- without its last row a bucket ends at the row before it
pub unlinked_one : (n B : ℕ) (heads H before : List ℕ) → length heads ≡ B → bucket_of (get_or H n 0) B < B → IsChainedTo (n + 1) B heads H before
    → IsChainedTo n B (set heads (bucket_of (get_or H n 0) B) (get_or before n 0)) H before
unlinked_one n B heads H before long low old = record {
  headed = λ b under. same_or_not b (bucket_of (get_or H n 0) B) (get_or (set heads (bucket_of (get_or H n 0) B) (get_or before n 0)) b 0 ≡ latest B H b n)
      (λ is. ap (λ j. get_or (set heads (bucket_of (get_or H n 0) B) (get_or before n 0)) j 0) is
      ∙ get_or-set_same heads (bucket_of (get_or H n 0) B) (get_or before n 0) 0 (omega arith) ∙ old.linked n (omega arith) ∙ ap (λ j. latest B H j n) (sym is))
      (λ not. get_or-set_other heads (bucket_of (get_or H n 0) B) b (get_or before n 0) 0 not ∙ old.headed b under ∙ latest_miss B H b n (λ is. not (sym is)));
  linked = λ i under. old.linked i (omega arith);
}

-- the state of a walk: it is at a row of the bucket or at the end, and no later row has the hash
pub record Walks (B : ℕ) (H : List ℕ) (hash bound place : ℕ) : Type 0 where
  pub low : place ≤ bound
  pub same : 0 < place → bucket_of (get_or H (place - 1) 0) B ≡ bucket_of hash B
  pub past : (k : ℕ) → place ≤ k → k < bound → get_or H k 0 ≢ hash

pub walk_starts : (B : ℕ) (H : List ℕ) (hash bound place : ℕ) → place ≡ latest B H (bucket_of hash B) bound → Walks B H hash bound place
walk_starts B H hash bound place is = record {
  low = omega (arith, latest_low B H (bucket_of hash B) bound);
  same = λ some. latest_is B H (bucket_of hash B) bound (place - 1) (omega arith);
  past = λ k over low at. latest_past B H (bucket_of hash B) bound k (omega arith) low (ap (λ h. bucket_of h B) at);
}

pub walk_goes : (n B : ℕ) (heads H before : List ℕ) (hash bound place : ℕ) → IsChainedTo n B heads H before → bound ≤ n → 0 < place
    → Walks B H hash bound place → get_or H (place - 1) 0 ≢ hash → Walks B H hash bound (get_or before (place - 1) 0)
walk_goes n B heads H before hash bound place chains within some walk other =
    let link = chains.linked (place - 1) (omega (arith, walk.low)) ∙ ap (λ b. latest B H b (place - 1)) (walk.same some) in
    let next = walk_starts B H hash (place - 1) (get_or before (place - 1) 0) link in
    record {
      low = omega (arith, next.low, walk.low);
      same = next.same;
      past = λ k over low. elim (cases_lt k (place - 1)) [
        | inl under ↦ next.past k over under
        | inr above ↦ elim (eqb_tells k (place - 1)) [
          | inl h ↦ λ at. other (ap (λ j. get_or H j 0) (sym h.1) ∙ at)
          | inr h ↦ walk.past k (omega (arith, h.1)) low
        ]
      ];
    }

-- a step of a walk leads to a smaller place
pub walk_falls : (n B : ℕ) (heads H before : List ℕ) (hash bound place : ℕ) → IsChainedTo n B heads H before → bound ≤ n → 0 < place
    → Walks B H hash bound place → get_or before (place - 1) 0 < place
walk_falls n B heads H before hash bound place chains within some walk =
    omega (arith, chains.linked (place - 1) (omega (arith, walk.low)), latest_low B H (bucket_of (get_or H (place - 1) 0) B) (place - 1))

-- the chains of no rows
pub no_chains : (B : ℕ) (heads H before : List ℕ) → ((b : ℕ) → b < B → get_or heads b 0 ≡ 0) → IsChainedTo 0 B heads H before
no_chains B heads H before none = record { headed = none; linked = λ i low. absurd (omega arith) }

-- the keys and the links after one more entry, and of the first n
pub number_at : (entries : List Entry) (i : ℕ) (d : Entry) → i < length entries → get_or (numbers_of entries) i 0 ≡ number_in (get_or entries i d)
number_at entries i d low = get_or-map number_in entries i d 0 low

pub link_at : (entries : List Entry) (i : ℕ) (d : Entry) → i < length entries → get_or (links_of entries) i 0 ≡ (get_or entries i d).before
link_at entries i d low = get_or-map (λ (x : Entry). x.before) entries i d 0 low

-- the chains after a push
pub added : (heads : List ℕ) (entries : List Entry) (e : Entry) → bucket_of (number_in e) (length heads) < length heads
    → e.before ≡ get_or heads (bucket_of (number_in e) (length heads)) 0 → IsChained heads entries
    → IsChained (set heads (bucket_of (number_in e) (length heads)) (length entries + 1)) (entries ++ e ∷ [])
added heads entries e low link old =
    let B = length heads in let H = numbers_of entries in let before = links_of entries in let n = length entries in
    let G = H ++ number_in e ∷ [] in let after = before ++ e.before ∷ [] in
    let long : length H ≡ n = length-map entries number_in in
    let linked : length before ≡ n = length-map entries (λ (x : Entry). x.before) in
    let here : get_or G n 0 ≡ number_in e = get_or_push H (number_in e) 0 n long in
    let kept = same_chains n B heads H G before after
    (λ k under. sym (get_or_append_left H (number_in e ∷ []) 0 k (omega (arith, under, long))))
    (λ k under. sym (get_or_append_left before (e.before ∷ []) 0 k (omega (arith, under, linked)))) old.chains in
    let one = linked_one n B heads G after refl (subst (λ x. bucket_of x B < B) (sym here) low)
    (get_or_push before e.before 0 n linked ∙ link ∙ ap (λ x. get_or heads (bucket_of x B) 0) (sym here)) kept in
    let count : length (entries ++ e ∷ []) ≡ n + 1 = length_push entries e in
    record {
      room = λ _. omega (arith, length-set heads (bucket_of (number_in e) B) (n + 1), low);
      short = omega (arith, length-set heads (bucket_of (number_in e) B) (n + 1), old.short);
      chains = rw (length-set, count, map-append number_in entries (e ∷ []), map-append (λ (x : Entry). x.before) entries (e ∷ [])) (subst (λ x. IsChainedTo (n + 1) B (set heads (bucket_of x B) (n + 1)) G after) here one);
    }

abbrev pub no_entry : Entry
no_entry = record { word = 0; tag = 0; before = 0 }

-- changing a row's link keeps its key
pub same_numbers : (entries : List Entry) (i : ℕ) (e : Entry) → number_in e ≡ number_in (get_or entries i no_entry) → numbers_of (set entries i e) ≡ numbers_of entries
same_numbers entries i e same = map-set_same number_in entries i e no_entry same

-- one row of the list gets a new link
pub relinked : (heads : List ℕ) (entries : List Entry) (i : ℕ) (e : Entry) → i < length entries → number_in e ≡ number_in (get_or entries i no_entry)
    → e.before ≡ get_or heads (bucket_of (number_in e) (length heads)) 0 → bucket_of (number_in e) (length heads) < length heads
    → IsChainedTo i (length heads) heads (numbers_of entries) (links_of entries)
    → IsChainedTo (i + 1) (length (set heads (bucket_of (number_in e) (length heads)) (i + 1))) (set heads (bucket_of (number_in e) (length heads)) (i + 1)) (numbers_of (set entries i e)) (links_of (set entries i e))
relinked heads entries i e under same link low old =
    let B = length heads in let H = numbers_of entries in let before = links_of entries in
    let after = set before i e.before in
    let here : get_or H i 0 ≡ number_in e = number_at entries i no_entry under ∙ sym same in
    let kept = same_chains i B heads H H before after (λ k low. refl) (λ k less. sym (get_or-set_other before i k e.before 0 (omega (arith, less)))) old in
    let linked : get_or after i 0 ≡ e.before = get_or-set_same before i e.before 0 (omega (arith, under, length-map entries (λ (x : Entry). x.before))) in
    let one = linked_one i B heads H after refl (subst (λ x. bucket_of x B < B) (sym here) low) (linked ∙ link ∙ ap (λ x. get_or heads (bucket_of x B) 0) (sym here)) kept in
    rw (length-set, same_numbers entries i e same, map-set (λ (x : Entry). x.before) entries i e)
    (subst (λ x. IsChainedTo (i + 1) B (set heads (bucket_of x B) (i + 1)) H after) here one)

-- the chains after the last row is removed
pub dropped : (heads : List ℕ) (entries : List Entry) (e : Entry) (n : ℕ) → length entries ≡ n + 1 → slice_get entries n ≡ Some e
    → bucket_of (number_in e) (length heads) < length heads → IsChained heads entries
    → IsChained (set heads (bucket_of (number_in e) (length heads)) e.before) (take n entries)
dropped heads entries e n long is low old =
    let B = length heads in let H = numbers_of entries in let before = links_of entries in
    let under : n < length entries = omega (arith, long) in
    let number : get_or H n 0 ≡ number_in e = get_or-map number_in entries n e 0 under ∙ ap number_in (get_or_from_slice_get entries n e e is) in
    let link : get_or before n 0 ≡ e.before = get_or-map (λ (x : Entry). x.before) entries n e 0 under ∙ ap (λ (x : Entry). x.before) (get_or_from_slice_get entries n e e is) in
    let one = unlinked_one n B heads H before refl (subst (λ x. bucket_of x B < B) (sym number) low) (subst (λ m. IsChainedTo m B heads H before) long old.chains) in
    let short = set heads (bucket_of (get_or H n 0) B) (get_or before n 0) in
    let kept = same_chains n B short H (take n H) before (take n before) (λ k low. sym (get_or-take n H k 0 low)) (λ k low. sym (get_or-take n before k 0 low)) one in
    let count : length (take n entries) ≡ n = length-take-le n entries (omega (arith, long)) in
    let same : set heads (bucket_of (get_or H n 0) B) (get_or before n 0) ≡ set heads (bucket_of (number_in e) B) e.before =
    ap (λ x. set heads (bucket_of x B) (get_or before n 0)) number ∙ ap (λ x. set heads (bucket_of (number_in e) B) x) link in
    record {
      room = λ _. omega (arith, length-set heads (bucket_of (number_in e) B) e.before, low);
      short = omega (arith, length-set heads (bucket_of (number_in e) B) e.before, old.short);
      chains = rw (length-set, count, sym (take-map number_in n entries), sym (take-map (λ (x : Entry). x.before) n entries))
          (subst (λ hs. IsChainedTo n B hs (take n H) (take n before)) same kept);
    }
