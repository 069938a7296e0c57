-- OpenLemmas: contents laid out for one target after another, which are distributed over the stripes in cyclic order.
use Rattle.std.proofs.Common.{◌≡◌, ℕ, zero, suc, ◌+◌, ◌*◌, ◌%◌, ◌/◌, ◌<◌, ◌≤◌, ◌≢◌, ◌⊎◌, ⊎_elim, false, List, [], ◌∷◌, ◌++◌, take, length, map, set, get_or, slice_get, Option, Some, None, sym, refl, ap, ap₂, ◌∙◌, subst, arith, length-append, length-set, append_assoc, append-nil, div-add-mod', mod-lt, mod-eq_of_lt, mul-le-mul_left}
use Rattle.std.specs.Prelude.{flat_map, replicate}
use Rattle.std.proofs.lemmas.Option.{none-some, same_Some, slice_get_within}
use Rattle.std.proofs.lemmas.List.Concat.{flat_map-append}
use mathlib.Core.Option.{some}
use mathlib.Core.Logic.{dite}
use native.Mathlib.Decide.{ℕ_discrete, dec_lt}
use native.Mathlib.Nat.{mod-add-mod, mul_comm}
use lib.ListN.{get_elem?, length-replicate}
use Rattle.gq_value.specs.declared.kind.Kind.{Kind}
use Rattle.gq_value.specs.Accums.{Accum, SumAccum, MinAccum, MaxAccum, OrAccum, AndAccum, BitwiseOrAccum, BitwiseAndAccum, AvgAccum, SetAccum, BagAccum, ListAccum, MapAccum, GroupByAccum, HeapAccum, Parts, no_part, part_and}
use Rattle.gq_value.specs.AccumViews.{accum_of}
use Rattle.gq_accum_laws.specs.After as model
use Rattle.gq_nest.specs.declared.content.Content.{Content}
use Rattle.gq_nest.specs.Shows.{Shows}
use Rattle.gq_core.proofs.TotalLemmas.{at_same, at_other}
use Rattle.gq_stripe.specs.declared.layout.Run.{Run}
use Rattle.gq_stripe.specs.declared.stripe.Stripe.{Stripe}
use Rattle.gq_stripe.specs.Contents.{content_after, StandsAt, HoldsAll}
use Rattle.gq_stripe.specs.Laid.{IsLaid}
use Rattle.gq_stripe.specs.Runs.{kinds_in}
use Rattle.gq_stripe.specs.Rule.{Slot}
use Rattle.gq_stripe.specs.Opening.{AreRows, AreOpen, IsPushedAt}
use Rattle.gq_stripe.proofs.ListLemmas.{found_at, get_front, get_last, get_split}

-- ---- numbers

-- a quotient is determined by its product
quotient : (n q m a i : ℕ) → a < n → i < n → n * q + a ≡ n * m + i → q ≡ m
quotient n q m a i small small' e = dite (dec_lt q m)
    (λ (h : q < m). let x : n * suc q ≤ n * m = mul-le-mul_left n h in let y = more n q in absurd (omega arith))
    (λ (h : ¬ (q < m)). dite (dec_lt m q)
    (λ (g : m < q). let x : n * suc m ≤ n * q = mul-le-mul_left n g in let y = more n m in absurd (omega arith))
    (λ (g : ¬ (m < q)). omega arith))
  where
    more : (n q : ℕ) → n * suc q ≡ n * q + n
    more n q = Rattle.std.proofs.Common.mul-suc n q

-- the number t from its remainder and quotient
whole : (t n : ℕ) → n * (t / n) + t % n ≡ t
whole t n = ap (λ (x : ℕ). x + t % n) (mul_comm n (t / n)) ∙ div-add-mod' t n

-- ---- contents without inputs

mutual
  none_given : (k : Accum) → model.after k (model.fresh k) [] ≡ model.fresh k
  none_given (SumAccum n) = refl
  none_given (MinAccum n) = refl
  none_given (MaxAccum n) = refl
  none_given OrAccum = refl
  none_given AndAccum = refl
  none_given BitwiseOrAccum = refl
  none_given BitwiseAndAccum = refl
  none_given AvgAccum = refl
  none_given (SetAccum b) = refl
  none_given (BagAccum b) = refl
  none_given (ListAccum b) = refl
  none_given (MapAccum b k) = λ i. ([], λ q. none_given k i)
  none_given (GroupByAccum keys ps) = λ i. ([], λ q. none_each ps i)
  none_given (HeapAccum b zero by) = refl
  none_given (HeapAccum b (suc n) by) = refl

  none_each : (ps : Parts) → model.after_each ps (model.fresh_each ps) [] ≡ model.fresh_each ps
  none_each no_part = refl
  none_each (part_and name k ps) = λ i. (none_given k i, none_each ps i)

-- ---- rows

pub record OpenTo (kinds : List Kind) (n : ℕ) (rows : List (List Content)) : Type 0 where
  pub count : length rows ≡ n
  pub each : (t : ℕ) (kind : Kind) → slice_get kinds t ≡ Some kind → (row : List Content) × (slice_get rows (t % n) ≡ Some row) × StandsAt row (t / n) kind (content_after kind t [])
  -- the next target of stripe i is placed at the end of the row
  pub long : (i : ℕ) (row : List Content) → slice_get rows i ≡ Some row → (length kinds ≤ n * length row + i) × (n * length row + i < length kinds + n)

abbrev no_rows : ℕ → List (List Content)
no_rows n = replicate n []

no_rows_long : (n : ℕ) → length (no_rows n) ≡ n
no_rows_long zero = refl
no_rows_long (suc n) = ap suc (no_rows_long n)

pub open_first : (n : ℕ) (rows : List (List Content)) → rows ≡ replicate n [] → OpenTo [] n rows
open_first n rows is = subst (OpenTo [] n) (sym is) record {
  count = no_rows_long n;
  each = λ t kind h. absurd (none-some kind h);
  long = λ i row got. let l = slice_get_within (no_rows n) i row got in let m = no_rows_long n in let e = empty n i row got in let z : n * length row ≡ 0 = ap (λ (x : ℕ). n * x) e ∙ Rattle.std.proofs.Common.mul-zero n in (omega arith, omega arith);
}
  where
    empty : (n i : ℕ) (row : List Content) → slice_get (no_rows n) i ≡ Some row → length row ≡ 0
    empty zero i row got = absurd (none-some row got)
    empty (suc n) zero row got = ap length (sym (same_Some [] row got))
    empty (suc n) (suc i) row got = empty n i row got

pub open_more : (kinds : List Kind) (n : ℕ) (rows new : List (List Content)) (kind : Kind) (c : Content) (at : ℕ) → 1 ≤ n → at ≡ length kinds % n → Shows (accum_of kind) c (model.fresh (accum_of kind))
    → IsPushedAt at c rows new → OpenTo kinds n rows → OpenTo (kinds ++ kind ∷ []) n new
open_more kinds n rows new kind c at some_n place fresh (row, found, is) r =
    let t : ℕ = length kinds in let small : t % n < n = mod-lt t (omega arith) in
    let span = r.long at row found in let low = span.0 in let high = span.1 in let w = whole t n in
    let behind : length row ≡ t / n = fits n (t / n) (length row) (t % n) at t small place w low high in
    let here : n * length row + at ≡ t = ap₂ (λ (x y : ℕ). n * x + y) behind place ∙ w in
    subst (OpenTo (kinds ++ kind ∷ []) n) (sym is) record {
      count = length-set rows at (row ++ c ∷ []) ∙ r.count;
      each = λ u k got. ⊎_elim
          (λ (old : slice_get kinds u ≡ Some k). let o = r.each u k old in dite (ℕ_discrete (u % n) at)
          (λ (e : u % n ≡ at).
          let same : row ≡ o.0 = same_Some row o.0 (sym found ∙ (ap (slice_get rows) (sym e) ∙ o.1)) in (
            row ++ c ∷ [],
            ap (slice_get (set rows at (row ++ c ∷ []))) e ∙ at_same rows at row (row ++ c ∷ []) found,
            record { content = o.2.content; is = get_front row (c ∷ []) (u / n) o.2.content (ap (λ l. slice_get l (u / n)) same ∙ o.2.is); shows = o.2.shows },
          ))
          (λ (ne : u % n ≢ at). (o.0, at_other rows at (u % n) (row ++ c ∷ []) ne ∙ o.1, o.2)))
          (λ (last : (u ≡ t) × (kind ≡ k)). (
            row ++ c ∷ [],
            ap (slice_get (set rows at (row ++ c ∷ []))) (ap (λ (x : ℕ). x % n) last.0 ∙ sym place) ∙ at_same rows at row (row ++ c ∷ []) found,
            record {
              content = c;
              is = ap (slice_get (row ++ c ∷ [])) (ap (λ (x : ℕ). x / n) last.0) ∙ get_last row (t / n) c behind;
              shows = subst (λ (q : Kind). Shows (accum_of q) c (content_after q u [])) last.1 (subst (Shows (accum_of kind) c) (sym (none_given (accum_of kind))) fresh);
            },
          ))
          (get_split kinds kind u k got);
      long = λ i row' got. let l = length-append kinds (kind ∷ []) in dite (ℕ_discrete i at)
          (λ (e : i ≡ at).
          let same : row ++ c ∷ [] ≡ row' = same_Some (row ++ c ∷ []) row' (sym (at_same rows at row (row ++ c ∷ []) found) ∙ (ap (slice_get (set rows at (row ++ c ∷ []))) (sym e) ∙ got)) in
          let m : length row' ≡ length row + 1 = ap length (sym same) ∙ length-append row (c ∷ []) in
          let p : n * length row' ≡ n * length row + n = ap (λ (x : ℕ). n * x) (m ∙ sym (add_one (length row))) ∙ Rattle.std.proofs.Common.mul-suc n (length row) in (omega arith, omega arith))
          (λ (ne : i ≢ at).
          let got' : slice_get rows i ≡ Some row' = sym (at_other rows at i (row ++ c ∷ []) ne) ∙ got in let s = r.long i row' got' in let a = s.0 in let b = s.1 in
          let inside = slice_get_within rows i row' got' in let count = r.count in
          let apart : n * length row' + i ≢ t = λ e. ne (last_of n (t / n) (length row') (t % n) i small (omega arith) (w ∙ sym e) ∙ sym place) in (omega arith, omega arith));
    }
  where
    add_one : (x : ℕ) → suc x ≡ x + 1
    add_one x = omega arith

    last_of : (n q m a i : ℕ) → a < n → i < n → n * q + a ≡ n * m + i → i ≡ a
    last_of n q m a i small small' e = let s : n * q ≡ n * m = ap (λ (x : ℕ). n * x) (quotient n q m a i small small' e) in omega arith

    fits : (n q m a at t : ℕ) → a < n → at ≡ a → n * q + a ≡ t → t ≤ n * m + at → n * m + at < t + n → m ≡ q
    fits n q m a at t small same w low high = dite (dec_lt q m)
        (λ (h : q < m). let x : n * suc q ≤ n * m = mul-le-mul_left n h in let y = Rattle.std.proofs.Common.mul-suc n q in absurd (omega arith))
        (λ (h : ¬ (q < m)). dite (dec_lt m q)
        (λ (g : m < q). let x : n * suc m ≤ n * q = mul-le-mul_left n g in let y = Rattle.std.proofs.Common.mul-suc n m in absurd (omega arith))
        (λ (g : ¬ (m < q)). omega arith))

-- the next stripe in cyclic order
pub next_stripe : (kinds : List Kind) (kind : Kind) (at n : ℕ) → at ≡ length kinds % n → (at + 1) % n ≡ length (kinds ++ kind ∷ []) % n
next_stripe kinds kind at n is = ap (λ (x : ℕ). (x + 1) % n) is ∙ (mod-add-mod (length kinds) n 1 ∙ ap (λ (x : ℕ). x % n) (sym (length-append kinds (kind ∷ []))))

-- all targets are laid out
pub open_all : (kinds : List Kind) (n : ℕ) (rows : List (List Content)) → OpenTo kinds n rows → AreRows kinds n rows
open_all kinds n rows r = record {
  count = r.count;
  each = λ j row got. record {
    each = λ t kind is here. let o = r.each t kind is in let same : o.0 ≡ row = same_Some o.0 row (sym o.1 ∙ (ap (slice_get rows) here ∙ got)) in
        subst (λ (l : List Content). StandsAt l (t / n) kind (content_after kind t [])) same o.2;
  };
}

-- ---- rows without contents

no_rows-snoc : (n : ℕ) → no_rows n ++ [] ∷ [] ≡ no_rows (suc n)
no_rows-snoc zero = refl
no_rows-snoc (suc n) = ap (λ (l : List (List Content)). [] ∷ l) (no_rows-snoc n)

pub row_more : (n : ℕ) (rows new : List (List Content)) (row : List Content) → rows ≡ replicate n [] → row ≡ [] → new ≡ rows ++ row ∷ [] → new ≡ replicate (n + 1) []
row_more n rows new row e f is = is ∙ ((λ i. e i ++ f i ∷ []) ∙ (no_rows-snoc n ∙ ap no_rows up))
  where
    up : suc n ≡ n + 1
    up = omega arith

-- ---- runs

-- the first c targets of a run
abbrev part : Option Run → ℕ → List Kind
part (Some run) c = replicate c run.kind
part None c = []

-- the kinds of the earlier runs, and of the first c targets of this one
abbrev pub kinds_to : List Run → ℕ → ℕ → List Kind
kinds_to runs i c = kinds_in (take i runs) ++ part (slice_get runs i) c

read_at : {A : Type 0} (xs : List A) (i : ℕ) (x : A) → i < length xs → x ≡ get_or xs i x → slice_get xs i ≡ Some x
read_at [] i x less e = absurd (omega arith)
read_at (y ∷ ys) zero x less e = ap Some (sym e)
read_at (y ∷ ys) (suc i) x less e = read_at ys i x (omega arith) e

taken : {A : Type 0} (xs : List A) (i : ℕ) (x : A) → slice_get xs i ≡ Some x → take (suc i) xs ≡ take i xs ++ x ∷ []
taken [] i x got = absurd (none-some x got)
taken (y ∷ ys) zero x got = ap (λ z. z ∷ []) (same_Some y x got)
taken (y ∷ ys) (suc i) x got = ap (λ l. y ∷ l) (taken ys i x got)

replicate-snoc : (c : ℕ) (kind : Kind) → replicate c kind ++ kind ∷ [] ≡ replicate (suc c) kind
replicate-snoc zero kind = refl
replicate-snoc (suc c) kind = ap (λ l. kind ∷ l) (replicate-snoc c kind)

-- the invariant: the rows so far, and the stripe of the next target
abbrev pub IsNext : List Kind → ℕ → ℕ → List (List Content) → Type 0
IsNext kinds n stripe rows = OpenTo kinds n rows × (stripe ≡ length kinds % n)

pub next_first : (n : ℕ) (rows : List (List Content)) → 1 ≤ n → rows ≡ replicate n [] → IsNext [] n 0 rows
next_first n rows some_n is = (open_first n rows is, sym (mod-eq_of_lt small))
  where
    small : 0 < n
    small = omega arith

pub stripe_small : (kinds : List Kind) (n stripe : ℕ) (rows : List (List Content)) → 1 ≤ n → IsNext kinds n stripe rows → (stripe < n) × (stripe < length rows)
stripe_small kinds n stripe rows some_n (r, is) = let small : length kinds % n < n = mod-lt (length kinds) (omega arith) in let count = r.count in (omega arith, omega arith)

pub run_begins : (runs : List Run) (i n stripe : ℕ) (rows : List (List Content)) → IsNext (kinds_in (take i runs)) n stripe rows → IsNext (kinds_to runs i 0) n stripe rows
run_begins runs i n stripe rows r = subst (λ (ks : List Kind). IsNext ks n stripe rows) (nothing (slice_get runs i)) r
  where
    nothing : (o : Option Run) → kinds_in (take i runs) ≡ kinds_in (take i runs) ++ part o 0
    nothing (Some run) = sym (append-nil (kinds_in (take i runs)))
    nothing None = sym (append-nil (kinds_in (take i runs)))

pub kind_more : (runs : List Run) (i c n stripe : ℕ) (run : Run) (rows new : List (List Content)) (content : Content) → 1 ≤ n → i < length runs → run ≡ get_or runs i run → Shows (accum_of run.kind) content (model.fresh (accum_of run.kind))
    → IsPushedAt stripe content rows new → IsNext (kinds_to runs i c) n stripe rows → IsNext (kinds_to runs i (c + 1)) n ((stripe + 1) % n) new
kind_more runs i c n stripe run rows new content some_n less is fresh pushed (r, place) =
    subst (λ (ks : List Kind). IsNext ks n ((stripe + 1) % n) new) grown (open_more (kinds_to runs i c) n rows new run.kind content stripe some_n place fresh pushed r, next_stripe (kinds_to runs i c) run.kind stripe n place)
  where
    here : slice_get runs i ≡ Some run
    here = read_at runs i run less is

    up : suc c ≡ c + 1
    up = omega arith

    grown : kinds_to runs i c ++ run.kind ∷ [] ≡ kinds_to runs i (c + 1)
    grown = append_assoc (kinds_in (take i runs)) (part (slice_get runs i) c) (run.kind ∷ [])
        ∙ ap (λ (l : List Kind). kinds_in (take i runs) ++ l)
        (ap (λ (o : Option Run). part o c ++ run.kind ∷ []) here ∙ (replicate-snoc c run.kind ∙ (ap (λ (m : ℕ). replicate m run.kind) up ∙ ap (λ (o : Option Run). part o (c + 1)) (sym here))))

pub run_ends : (runs : List Run) (i c n stripe : ℕ) (run : Run) (rows : List (List Content)) → i < length runs → run ≡ get_or runs i run → c ≡ run.targets → IsNext (kinds_to runs i c) n stripe rows → IsNext (kinds_in (take (i + 1) runs)) n stripe rows
run_ends runs i c n stripe run rows less is all r = subst (λ (ks : List Kind). IsNext ks n stripe rows) whole_run r
  where
    here : slice_get runs i ≡ Some run
    here = read_at runs i run less is

    up : suc i ≡ i + 1
    up = omega arith

    more : take (i + 1) runs ≡ take i runs ++ run ∷ []
    more = ap (λ (m : ℕ). take m runs) (sym up) ∙ taken runs i run here

    whole_run : kinds_to runs i c ≡ kinds_in (take (i + 1) runs)
    whole_run = ap (λ (o : Option Run). kinds_in (take i runs) ++ part o c) here
        ∙ (ap (λ (m : ℕ). kinds_in (take i runs) ++ replicate m run.kind) all
        ∙ sym (ap kinds_in more ∙ (flat_map-append (λ (r : Run). replicate r.targets r.kind) (take i runs) (run ∷ []) ∙ ap (λ (l : List Kind). kinds_in (take i runs) ++ l) (append-nil (replicate run.targets run.kind)))))

pub all_runs : (runs : List Run) (kinds : List Kind) (i n stripe : ℕ) (rows : List (List Content)) → length runs ≤ i → i ≤ length runs → kinds_in runs ≡ kinds → IsNext (kinds_in (take i runs)) n stripe rows → AreRows kinds n rows
all_runs runs kinds i n stripe rows low high is (r, place) = subst (λ (ks : List Kind). AreRows ks n rows) (ap kinds_in taken_all ∙ is) (open_all (kinds_in (take i runs)) n rows r)
  where
    same : i ≡ length runs
    same = omega arith

    taken_all : take i runs ≡ runs
    taken_all = ap (λ (m : ℕ). take m runs) same ∙ Rattle.std.proofs.Math.Seq.take-length runs

-- ---- stripes

-- the first n rows, made into stripes
pub record AreOpenTo (kinds : List Kind) (n k : ℕ) (slots : List Slot) : Type 0 where
  pub count : length slots ≡ k
  pub each : (j : ℕ) → j < k → (stripe : Stripe) × (get_elem? slots j ≡ some (Some stripe)) × IsLaid kinds n j [] stripe

pub stripe_more : (kinds : List Kind) (n k : ℕ) (rows : List (List Content)) (row : List Content) (slots new : List Slot) → AreRows kinds n rows → slice_get rows k ≡ Some row
    → new ≡ slots ++ Some (record { contents = row; laid = 0; spoiled = false }) ∷ [] → AreOpenTo kinds n k slots → AreOpenTo kinds n (k + 1) new
stripe_more kinds n k rows row slots new r got is h = subst (AreOpenTo kinds n (k + 1)) (sym is) record {
  count = length-append slots (one ∷ []) ∙ ap (λ (x : ℕ). x + 1) h.count;
  each = λ j less. dite (ℕ_discrete j k)
      (λ (e : j ≡ k). (stripe, ap (get_elem? (slots ++ one ∷ [])) e ∙ Rattle.atomic_table.proofs.Lists.at_last slots one k h.count, subst (λ (i : ℕ). IsLaid kinds n i [] stripe) (sym e) record { counts = refl; spoiled = refl; holds = λ _. r.each k row got }))
      (λ ne. let o = h.each j (omega arith) in (o.0, Rattle.atomic_table.proofs.Lists.at_longer slots (one ∷ []) j (Some o.0) o.1, o.2));
}
  where
    stripe : Stripe
    stripe = record { contents = row; laid = 0; spoiled = false }

    one : Slot
    one = Some stripe

-- the first k rows were taken out, and the others are unchanged
pub record AreTakenTo (rows now : List (List Content)) (k : ℕ) : Type 0 where
  pub count : length now ≡ length rows
  pub each : (j : ℕ) → k ≤ j → slice_get now j ≡ slice_get rows j

pub none_taken : (whole : List (List Content)) → AreTakenTo whole whole 0
none_taken whole = record { count = refl; each = λ j low. refl }

pub one_taken : (rows now new : List (List Content)) (k : ℕ) → AreTakenTo rows now k → new ≡ set now k [] → AreTakenTo rows new (k + 1)
one_taken rows now new k t is = record {
  count = ap length is ∙ (length-set now k [] ∙ t.count);
  each = λ j low. ap (λ l. slice_get l j) is ∙ (at_other now k j [] (λ e. absurd (omega arith)) ∙ t.each j (omega arith));
}

pub open_none : (kinds : List Kind) (n : ℕ) (slots : List Slot) → slots ≡ [] → AreOpenTo kinds n 0 slots
open_none kinds n slots is = record { count = ap length is; each = λ j less. absurd (omega arith) }

pub open_whole : (kinds : List Kind) (n k : ℕ) (slots : List Slot) → n ≤ k → k ≤ n → AreOpenTo kinds n k slots → AreOpen kinds n slots
open_whole kinds n k slots low high h = record { count = h.count ∙ omega arith; each = λ j less. h.each j (omega arith) }
