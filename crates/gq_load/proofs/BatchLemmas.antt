-- Batches of records: the steps of reading one more record, and of putting one more.
use Rattle.std.proofs.Common.{◌≡◌, ◌⊎◌, ℕ, zero, suc, ◌+◌, ◌<◌, ◌≤◌, List, [], ◌∷◌, ◌++◌, length, take, set, map, Some, inl, inr, refl, sym, ap, ap₂, subst, ◌∙◌, arith}
use Rattle.std.specs.Prelude.{slice_get, nat_lt, if◌then◌else◌, Bool, Err}
use Rattle.std.proofs.lemmas.Bool.{cases_Bool, cases_lt, lt-ltb, ltb-true}
use Rattle.std.proofs.lemmas.List.{append_assoc, append-nil, map-append, take_more_set, length-append, length-map}
use Rattle.std.proofs.lemmas.Grind.{flat_map-append}
use Rattle.gq_graph.specs.Catalog.{Schema}
use Rattle.gq_graph.specs.declared.rows.StoreFault.{StoreFault}
use Rattle.gq_index.specs.declared.store.Store.{Store}
use Rattle.gq_index.specs.Steps.{Step, Done, Begun, Puts}
use Rattle.gq_index.proofs.StepLemmas.{done_more, err_before, err_more, begun_all}
use Rattle.gq_load_csv.specs.Fields.{TellsTimes}
use Rattle.gq_load_csv.specs.Readings.{reading, reading_tells}
use Rattle.gq_load.specs.declared.route.Route.{Route}
use Rattle.gq_load.specs.declared.draft.Draft.{Draft}
use Rattle.gq_load.specs.declared.record.Verdict.{Verdict}
use Rattle.gq_load.specs.declared.record.Verdict.TheVariants as verdict
use Rattle.gq_load.specs.declared.record.ReadRecord.{ReadRecord}
use Rattle.gq_load.specs.declared.report.Report.{Report}
use Rattle.gq_load.specs.Columns.{Fields}
use Rattle.gq_load.specs.Records.{Judged, judged, steps_from, verdict_of}
use Rattle.gq_load.specs.Reports.{report_of}
use Rattle.gq_load.specs.Batches.{judged_by, judged_of, left_behind, steps_in, HaveDrafts, IsWhole, AreWhole, ReadsOn}
use Rattle.gq_load.proofs.ListLemmas.{to_place, get_other, same_some}
use Rattle.gq_load.proofs.RowLemmas.{Reading}

-- ---- lists

-- the item at an index of a list after one item was overwritten or appended
get_set : {A : Type 0} (xs : List A) (i k : ℕ) (y z : A) → slice_get (set xs i y) k ≡ Some z → (y ≡ z) ⊎ ((k ≡ i → ⊥) × (slice_get xs k ≡ Some z))
get_set {A} [] i k y z is = absurd (cc)
get_set {A} (x ∷ xs) zero zero y z is = inl (same_some y z is)
get_set {A} (x ∷ xs) zero (suc k) y z is = inr (λ e. omega (arith, e), is)
get_set {A} (x ∷ xs) (suc i) zero y z is = inr (λ e. omega (arith, e), is)
get_set {A} (x ∷ xs) (suc i) (suc k) y z is = elim (get_set xs i k y z is) [ inl h ↦ inl h | inr h ↦ inr (λ e. h.0 (omega (arith, e)), h.1) ]

get_last : {A : Type 0} (xs : List A) (k : ℕ) (y z : A) → slice_get (xs ++ y ∷ []) k ≡ Some z → (y ≡ z) ⊎ (slice_get xs k ≡ Some z)
get_last {A} [] zero y z is = inl (same_some y z is)
get_last {A} [] (suc k) y z is = absurd (cc)
get_last {A} (x ∷ xs) zero y z is = inr is
get_last {A} (x ∷ xs) (suc k) y z is = get_last xs k y z is

-- a longer prefix is a shorter one followed by more items
take_more : {A : Type 0} (i n : ℕ) (xs : List A) → i ≤ n → (ys : List A) × (take n xs ≡ take i xs ++ ys)
take_more {A} zero n xs low = (take n xs, refl)
take_more {A} (suc i) zero xs low = absurd (omega arith)
take_more {A} (suc i) (suc n) [] low = ([], refl)
take_more {A} (suc i) (suc n) (x ∷ xs) low = let k = take_more i n xs (omega arith) in (k.0, ap (λ zs. x ∷ zs) k.1)

-- ---- drafts

pub drafts_last : (routes : List Route) (batch : List ReadRecord) (r : ReadRecord) → HaveDrafts routes batch → length r.drafts.items ≡ length routes → HaveDrafts routes (batch ++ r ∷ [])
drafts_last routes batch r have own k other is = elim (get_last batch k r other is) [
  | inl new ↦ subst (λ (x : ReadRecord). length x.drafts.items ≡ length routes) new own
  | inr old ↦ have k other old
]

pub drafts_more : (routes : List Route) (batch : List ReadRecord) (i : ℕ) (r : ReadRecord) → HaveDrafts routes batch → length r.drafts.items ≡ length routes → HaveDrafts routes (set batch i r)
drafts_more routes batch i r have own k other is = elim (get_set batch i k r other is) [
  | inl new ↦ subst (λ (x : ReadRecord). length x.drafts.items ≡ length routes) new own
  | inr old ↦ have k other old.1
]

pub whole_more : (schema : Schema) (routes : List Route) (batch : List ReadRecord) (i : ℕ) (r : ReadRecord) → AreWhole schema routes i batch → IsWhole schema routes r.verdict r.drafts.items
    → AreWhole schema routes (i + 1) (set batch i r)
whole_more schema routes batch i r whole own k other low is = elim (get_set batch i k r other is) [
  | inl new ↦ subst (λ (x : ReadRecord). IsWhole schema routes x.verdict x.drafts.items) new own
  | inr old ↦ elim (cases_lt k i) [ inl less ↦ whole k other less old.1 | inr high ↦ absurd (old.0 (omega arith)) ]
]

-- an item that is overwritten isn't among those before it
pub take_kept : {A : Type 0} (xs : List A) (i : ℕ) (y : A) → take i (set xs i y) ≡ take i xs
take_kept {A} [] zero y = refl
take_kept {A} [] (suc i) y = refl
take_kept {A} (x ∷ xs) zero y = refl
take_kept {A} (x ∷ xs) (suc i) y = ap (λ zs. x ∷ zs) (take_kept xs i y)

pub whole_kept : (schema : Schema) (routes : List Route) (batch : List ReadRecord) (i : ℕ) (r : ReadRecord) → AreWhole schema routes i batch → AreWhole schema routes i (set batch i r)
whole_kept schema routes batch i r whole k other low is = whole k other low (sym (get_other batch i k r low) ∙ is)

-- ---- records that are read

split_more : (records behind left rest : List Fields) (fields : Fields) → records ≡ behind ++ left → left ≡ fields ∷ rest → records ≡ (behind ++ fields ∷ []) ++ rest
split_more records behind left rest fields split next = split ∙ ap (λ ls. behind ++ ls) next ∙ sym (append_assoc behind (fields ∷ []) rest)

pub reads_none : (schema : Schema) (routes : List Route) (records : List Fields) (batch : List ReadRecord) → ReadsOn schema routes records records (take 0 batch)
reads_none schema routes records batch = record { taken = []; split = refl; judged = λ read tells. refl }

pub reads_more : (schema : Schema) (routes : List Route) (before now rest : List Fields) (batch : List ReadRecord) (i : ℕ) (fields : Fields) (r : ReadRecord) → i < length batch
    → ReadsOn schema routes before now (take i batch) → now ≡ fields ∷ rest → ((read : Reading) → TellsTimes read → judged_of schema routes r ≡ judged read schema routes fields)
    → ReadsOn schema routes before rest (take (i + 1) (set batch i r))
reads_more schema routes before now rest batch i fields r low on next is = record {
  taken = on.taken ++ fields ∷ [];
  split = split_more before on.taken now rest fields on.split next;
  judged = λ read tells.
      ap (map (judged_of schema routes)) (take_more_set batch i r low) ∙ map-append (judged_of schema routes) (take i batch) (r ∷ [])
      ∙ ap₂ (λ (js ks : List Judged). js ++ ks) (on.judged read tells) (ap (λ j. j ∷ []) (is read tells))
      ∙ sym (map-append (judged read schema routes) on.taken (fields ∷ []));
}

-- no records are left, or the batch was full
pub left_none : (count room : ℕ) (after : List Fields) → count < room → left_behind count room after ≡ []
left_none count room after low = ap (λ (b : Bool). if b then [] else after) (lt-ltb count room low)

pub left_some : (count room : ℕ) (after : List Fields) → room ≤ count → left_behind count room after ≡ after
left_some count room after high = elim (cases_Bool (nat_lt count room)) [
  | inl low ↦ absurd (let k = ltb-true count room low in omega (arith, k))
  | inr isnt ↦ ap (λ (b : Bool). if b then [] else after) isnt
]

pub reads_all : (schema : Schema) (routes : List Route) (before now after : List Fields) (batch : List ReadRecord) (count room : ℕ) → count < room → now ≡ []
    → ReadsOn schema routes before now batch → ReadsOn schema routes before (left_behind count room after) batch
reads_all schema routes before now after batch count room low none on =
    subst (λ (rest : List Fields). ReadsOn schema routes before rest batch) (none ∙ sym (left_none count room after low)) on

pub reads_room : (schema : Schema) (routes : List Route) (before now : List Fields) (batch : List ReadRecord) (count room : ℕ) → room ≤ count
    → ReadsOn schema routes before now batch → ReadsOn schema routes before (left_behind count room now) batch
reads_room schema routes before now batch count room high on =
    subst (λ (rest : List Fields). ReadsOn schema routes before rest batch) (sym (left_some count room now high)) on

-- each record that is read leaves fewer records
pub fewer_left : (schema : Schema) (routes : List Route) (before after : List Fields) (batch : List ReadRecord) → 0 < length batch → ReadsOn schema routes before after batch → length after < length before
fewer_left schema routes before after batch some on =
    omega (
      arith,
      ap length on.split,
      length-append on.taken after,
      ap length (on.judged reading reading_tells),
      length-map batch (judged_of schema routes),
      length-map on.taken (judged reading schema routes),
    )

-- ---- records that are put

pub verdict_is : (schema : Schema) (routes : List Route) (v : Verdict) (drafts : List Draft) → v ≡ verdict_of (judged_by schema routes v drafts)
verdict_is schema routes verdict.Short drafts = refl
verdict_is schema routes verdict.Unreadable drafts = refl
verdict_is schema routes verdict.Loaded drafts = refl

-- the judgements of the first `i` records
abbrev pub judged_to : Schema → List Route → List ReadRecord → ℕ → List Judged
judged_to schema routes batch i = map (judged_of schema routes) (take i batch)

judged_more : (schema : Schema) (routes : List Route) (batch : List ReadRecord) (i : ℕ) (r : ReadRecord) → slice_get batch i ≡ Some r
    → judged_to schema routes batch (i + 1) ≡ judged_to schema routes batch i ++ judged_of schema routes r ∷ []
judged_more schema routes batch i r at = ap (map (judged_of schema routes)) (to_place batch i r at) ∙ map-append (judged_of schema routes) (take i batch) (r ∷ [])

steps_more : (schema : Schema) (routes : List Route) (batch : List ReadRecord) (i : ℕ) (r : ReadRecord) → slice_get batch i ≡ Some r
    → steps_in (judged_to schema routes batch (i + 1)) ≡ steps_in (judged_to schema routes batch i) ++ steps_from (judged_of schema routes r)
steps_more schema routes batch i r at =
    ap steps_in (judged_more schema routes batch i r at) ∙ flat_map-append steps_from (judged_to schema routes batch i) (judged_of schema routes r ∷ [])
    ∙ ap (λ (s : List Step). steps_in (judged_to schema routes batch i) ++ s) (append-nil (steps_from (judged_of schema routes r)))

pub puts_more : (schema : Schema) (routes : List Route) (batch : List ReadRecord) (i : ℕ) (r : ReadRecord) (a b c : Store) → slice_get batch i ≡ Some r
    → Done a (steps_in (judged_to schema routes batch i)) b → Done b (steps_from (judged_of schema routes r)) c → Done a (steps_in (judged_to schema routes batch (i + 1))) c
puts_more schema routes batch i r a b c at first next =
    subst (λ (s : List Step). Done a s c) (sym (steps_more schema routes batch i r at))
    (done_more a b c (steps_in (judged_to schema routes batch i)) (steps_from (judged_of schema routes r)) first next)

-- the steps of a shorter prefix of records are a prefix of the steps of a longer one
steps_upto : (schema : Schema) (routes : List Route) (batch : List ReadRecord) (i n : ℕ) → i ≤ n
    → (others : List Step) × (steps_in (judged_to schema routes batch n) ≡ steps_in (judged_to schema routes batch i) ++ others)
steps_upto schema routes batch i n low =
    let k = take_more i n batch low in (
      steps_in (map (judged_of schema routes) k.0),
      ap (λ (rs : List ReadRecord). steps_in (map (judged_of schema routes) rs)) k.1
          ∙ ap steps_in (map-append (judged_of schema routes) (take i batch) k.0)
          ∙ flat_map-append steps_from (judged_to schema routes batch i) (map (judged_of schema routes) k.0),
    )

pub puts_stop : (A B : Type 0) (schema : Schema) (routes : List Route) (batch : List ReadRecord) (i n : ℕ) (r : ReadRecord) (a b c : Store) (f : StoreFault) → i < n → slice_get batch i ≡ Some r
    → Done a (steps_in (judged_to schema routes batch i)) b → Puts {A = A} b (steps_from (judged_of schema routes r)) c (Err f)
    → Puts {A = B} a (steps_in (judged_to schema routes batch n)) c (Err f)
puts_stop A B schema routes batch i n r a b c f low at first next =
    let more = steps_upto schema routes batch (i + 1) n (omega arith) in
    subst (λ (s : List Step). Puts {A = B} a s c (Err f))
    (ap (λ (s : List Step). s ++ more.0) (sym (steps_more schema routes batch i r at)) ∙ sym more.1)
    (err_before A B a c (steps_in (judged_to schema routes batch i) ++ steps_from (judged_of schema routes r)) more.0 f
    (err_more A A a b c (steps_in (judged_to schema routes batch i)) (steps_from (judged_of schema routes r)) f first next))

-- OutOfMemory after a record was put
pub puts_begun : (schema : Schema) (routes : List Route) (batch : List ReadRecord) (i n : ℕ) (a c : Store) → i ≤ n
    → Done a (steps_in (judged_to schema routes batch i)) c → Begun a (steps_in (judged_to schema routes batch n)) c
puts_begun schema routes batch i n a c low done =
    let more = steps_upto schema routes batch i n low in
    subst (λ (s : List Step). Begun a s c) (sym more.1) (begun_all a c (steps_in (judged_to schema routes batch i)) more.0 done)

pub counts_more : (schema : Schema) (routes : List Route) (batch : List ReadRecord) (i : ℕ) (r : ReadRecord) (first now next : Report) → slice_get batch i ≡ Some r
    → ((js : List Judged) → first ≡ report_of js → now ≡ report_of (js ++ judged_to schema routes batch i))
    → ((js : List Judged) (j : Judged) → now ≡ report_of js → r.verdict ≡ verdict_of j → next ≡ report_of (js ++ j ∷ []))
    → (js : List Judged) → first ≡ report_of js → next ≡ report_of (js ++ judged_to schema routes batch (i + 1))
counts_more schema routes batch i r first now next at counted with js is =
    with (js ++ judged_to schema routes batch i) (judged_of schema routes r) (counted js is) (verdict_is schema routes r.verdict r.drafts.items)
    ∙ ap report_of (append_assoc js (judged_to schema routes batch i) (judged_of schema routes r ∷ []) ∙ ap (λ (ks : List Judged). js ++ ks) (sym (judged_more schema routes batch i r at)))
