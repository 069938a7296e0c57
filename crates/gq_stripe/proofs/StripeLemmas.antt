-- StripeLemmas: a batch that is fed input by input, and a stripe on which a batch is laid.
use Rattle.std.proofs.Common.{◌≡◌, ℕ, zero, suc, ◌+◌, ◌*◌, ◌/◌, ◌^◌, ◌<◌, ◌≤◌, ◌||◌, ◌&&◌, Bool, true, false, List, [], ◌∷◌, ◌++◌, take, length, set, get_or, slice_get, Some, None, sym, refl, ap, ap₂, ◌∙◌, subst, arith, length-append, append_assoc, append-nil, length-take}
use Rattle.std.specs.Prelude.{All, flat_map}
use Rattle.std.specs.List.{list_all}
use Rattle.std.proofs.lemmas.Option.{none-some, same_Some, slice_get_within}
use Rattle.std.proofs.lemmas.List.{take_at}
use Rattle.std.proofs.lemmas.List.Concat.{flat_map-append}
use Rattle.std.proofs.lemmas.List.Folds.{list_any-append}
use Rattle.std.proofs.lemmas.List.Elements.{All-append, All-take}
use Rattle.gq_value.specs.declared.kind.Kind.{Kind}
use Rattle.gq_value.specs.declared.kind.Input.{Input}
use Rattle.gq_value.specs.Accums.{Accum, SumAccum, MinAccum, MaxAccum, OrAccum, AndAccum, BitwiseOrAccum, BitwiseAndAccum, AvgAccum, SetAccum, BagAccum, ListAccum, MapAccum, GroupByAccum, HeapAccum, Given, One, Keyed}
use Rattle.gq_value.specs.AccumViews.{accum_of, given}
use Rattle.gq_value.specs.Typed.{is_scalar, suits}
use Rattle.gq_accum_laws.specs.Holds.{Holds}
use Rattle.gq_nest.specs.declared.content.Content.{Content, Content-F, out-Content}
use Rattle.gq_nest.specs.Forms.{HasForm}
use Rattle.gq_nest.specs.Shows.{Shows, TakesInput, plain_in, is_plain, is_one}
use Rattle.gq_stripe.specs.declared.view.Put.{Put}
use Rattle.gq_stripe.specs.declared.stripe.Stripe.{Stripe}
use Rattle.gq_stripe.specs.Contents.{Batch, FitsInput, content_after, StandsAt, HoldsAll, inputs_of, any_spoiled, all_scalar}
use Rattle.gq_stripe.specs.Laid.{IsLaid}
use Rattle.gq_stripe.specs.Feeding.{IsReady, CanFeed, CanFeedScalars, IsFed, IsOpen, CanLay, IsLaidOn}
use Rattle.gq_stripe.proofs.FeedLemmas.{fed_one, stands}

-- the first n inputs of a batch are fed
abbrev pub IsFedTo : ℕ → Batch → List Content → ℕ → List Content → Type 0
IsFedTo stripes batch old n now = (kinds : List Kind) (j : ℕ) (inputs : Batch) → IsReady kinds stripes j inputs batch old → HoldsAll kinds stripes j (inputs ++ take n batch) now

pub fed_none : (stripes : ℕ) (batch : Batch) (old : List Content) → IsFedTo stripes batch old 0 old
fed_none stripes batch old kinds j inputs r = subst (λ (xs : Batch). HoldsAll kinds stripes j xs old) (sym (append-nil inputs)) r.holds

-- the inputs so far fit, and are few enough
so_far : (kinds : List Kind) (stripes j : ℕ) (inputs batch : Batch) (old : List Content) (n : ℕ) → IsReady kinds stripes j inputs batch old → n < length batch
    → All (FitsInput kinds stripes j) (inputs ++ take n batch) × (length (inputs ++ take n batch) < 2 ^ 62)
so_far kinds stripes j inputs batch old n r h =
    let room = r.room in let l = length-append inputs (take n batch) in let t = length-take n batch in (
      All-append (FitsInput kinds stripes j) inputs (take n batch) r.fit (All-take (FitsInput kinds stripes j) n batch r.comes),
      omega arith,
    )

one_fits : (kinds : List Kind) (stripes j : ℕ) (batch : Batch) (n : ℕ) (x : ℕ × Input) → All (FitsInput kinds stripes j) batch → n < length batch → x ≡ get_or batch n x → FitsInput kinds stripes j x
one_fits kinds stripes j batch n x h less is = subst (FitsInput kinds stripes j) (sym is) (h n x less)

-- the next one has a place, and is fed there
pub place_there : (stripes : ℕ) (batch : Batch) (old now : List Content) (n : ℕ) (x : ℕ × Input) → CanFeed stripes batch old → IsFedTo stripes batch old n now → n < length batch → x ≡ get_or batch n x → x.0 / stripes < length now
place_there stripes batch old now n x (kinds, j, inputs, ready) fed less is =
    let at = stands kinds stripes j (inputs ++ take n batch) now x (fed kinds j inputs ready) (one_fits kinds stripes j batch n x ready.comes less is) in
    slice_get_within now (x.0 / stripes) at.content at.is

pub fed_more : (stripes : ℕ) (batch : Batch) (old now after : List Content) (n : ℕ) (x : ℕ × Input) (was new : Content) → IsFedTo stripes batch old n now → n < length batch → x ≡ get_or batch n x
    → slice_get now (x.0 / stripes) ≡ Some was → TakesInput was (given x.1) new → after ≡ set now (x.0 / stripes) new → IsFedTo stripes batch old (n + 1) after
fed_more stripes batch old now after n x was new fed less is found takes written kinds j inputs ready =
    let far = so_far kinds stripes j inputs batch old n ready less in
    let one = fed_one kinds stripes j (inputs ++ take n batch) now x was new (fed kinds j inputs ready) far.0 (one_fits kinds stripes j batch n x ready.comes less is) far.1 found takes in
    let grown : (inputs ++ take n batch) ++ x ∷ [] ≡ inputs ++ take (n + 1) batch = append_assoc inputs (take n batch) (x ∷ []) ∙ ap (λ (l : Batch). inputs ++ l) (sym (taken batch n x less is)) in
    subst (HoldsAll kinds stripes j (inputs ++ take (n + 1) batch)) (sym written) (subst (λ (l : Batch). HoldsAll kinds stripes j l (set now (x.0 / stripes) new)) grown one)
  where
    taken : {A : Type 0} → (l : List A) (j : ℕ) (a : A) → j < length l → a ≡ get_or l j a → take (j + 1) l ≡ take j l ++ a ∷ []
    taken l j a h e = rw Rattle.std.proofs.Common.add-one (go l j a h e)
      where
        go : {A : Type 0} → (l : List A) (j : ℕ) (a : A) → j < length l → a ≡ get_or l j a → take (suc j) l ≡ take j l ++ a ∷ []
        go [] j a h e = absurd (omega arith)
        go (x ∷ xs) zero a h e = ap (λ y. y ∷ []) (sym e)
        go (x ∷ xs) (suc j) a h e = ap (λ r. x ∷ r) (go xs j a (omega arith) e)

pub fed_whole : (stripes : ℕ) (batch : Batch) (old now : List Content) (n : ℕ) → n ≡ length batch → IsFedTo stripes batch old n now → IsFed stripes batch old now
fed_whole stripes batch old now n e fed kinds j inputs ready = subst (λ (l : Batch). HoldsAll kinds stripes j (inputs ++ l) now) (ap (λ (m : ℕ). take m batch) e ∙ Rattle.std.proofs.Math.Seq.take-length batch) (fed kinds j inputs ready)

-- ---- kinds that need no memory

plain_level : (k : Accum) (l : Content-F Content) → HasForm l k → is_scalar k ≡ true → plain_in l ≡ true
plain_level k (Content-F.Scalar s) h e = refl
plain_level k (Content-F.Set m) (b, is) e = let d : false ≡ true = ap is_scalar (sym is) ∙ e in cc
plain_level k (Content-F.Bag items) (b, is) e = let d : false ≡ true = ap is_scalar (sym is) ∙ e in cc
plain_level k (Content-F.List items) (b, is) e = let d : false ≡ true = ap is_scalar (sym is) ∙ e in cc
plain_level k (Content-F.Heap m) (b, is) e = let d : false ≡ true = ap is_scalar (sym is) ∙ e in cc
plain_level k (Content-F.Map o m) (b, i, is) e = let d : false ≡ true = ap is_scalar (sym is) ∙ e in cc
plain_level k (Content-F.Group os m) (keys, ps, is) e = let d : false ≡ true = ap is_scalar (sym is) ∙ e in cc
plain_level k Content-F.Spoiled h e = absurd h

one_value : (k : Accum) (x : Given) → suits k x ≡ true → is_scalar k ≡ true → is_one x ≡ true
one_value k (One v) h e = refl
one_value (SumAccum n) (Keyed row xs) h e = cc
one_value (MinAccum n) (Keyed row xs) h e = cc
one_value (MaxAccum n) (Keyed row xs) h e = cc
one_value OrAccum (Keyed row xs) h e = cc
one_value AndAccum (Keyed row xs) h e = cc
one_value BitwiseOrAccum (Keyed row xs) h e = cc
one_value BitwiseAndAccum (Keyed row xs) h e = cc
one_value AvgAccum (Keyed row xs) h e = cc
one_value (SetAccum b) (Keyed row xs) h e = cc
one_value (BagAccum b) (Keyed row xs) h e = cc
one_value (ListAccum b) (Keyed row xs) h e = cc
one_value (MapAccum b k) (Keyed row xs) h e = cc
one_value (GroupByAccum keys ps) (Keyed row xs) h e = cc
one_value (HeapAccum b n by) (Keyed row xs) h e = cc

scalar_at : (kinds : List Kind) (t : ℕ) (kind : Kind) → all_scalar kinds ≡ true → slice_get kinds t ≡ Some kind → is_scalar (accum_of kind) ≡ true
scalar_at [] t kind all is = absurd (none-some kind is)
scalar_at (k ∷ ks) zero kind all is = subst (λ (x : Kind). is_scalar (accum_of x) ≡ true) (same_Some k kind is) (first (is_scalar (accum_of k)) (all_scalar ks) all)
  where
    first : (a b : Bool) → (a && b) ≡ true → a ≡ true
    first true b h = refl
    first false b h = h
scalar_at (k ∷ ks) (suc t) kind all is = scalar_at ks t kind (second (is_scalar (accum_of k)) (all_scalar ks) all) is
  where
    second : (a b : Bool) → (a && b) ≡ true → b ≡ true
    second true b h = h
    second false b h = let d : false ≡ true = h in cc

-- the next one needs no memory, if all kinds are scalar
pub plain_there : (stripes : ℕ) (batch : Batch) (old now : List Content) (n : ℕ) (x : ℕ × Input) (was : Content) → CanFeedScalars stripes batch old → IsFedTo stripes batch old n now → n < length batch → x ≡ get_or batch n x
    → slice_get now (x.0 / stripes) ≡ Some was → (is_plain was ≡ true) × (is_one (given x.1) ≡ true)
plain_there stripes batch old now n x was (kinds, j, inputs, ready, all) fed less is found =
    let fits = one_fits kinds stripes j batch n x ready.comes less is in
    let at = stands kinds stripes j (inputs ++ take n batch) now x (fed kinds j inputs ready) fits in
    let scalar = scalar_at kinds x.0 fits.kind all fits.is in
    let same : at.content ≡ was = same_Some at.content was (sym at.is ∙ found) in (
      ap is_plain (sym same) ∙ plain_level (accum_of fits.kind) (out-Content at.content) at.shows.of_kind.0 scalar,
      one_value (accum_of fits.kind) (given x.1) fits.takes scalar,
    )

-- ---- a stripe

inputs-snoc : (ps : List Put) (p : Put) → inputs_of (ps ++ p ∷ []) ≡ inputs_of ps ++ p.batch
inputs-snoc ps p = flat_map-append (λ (p : Put). p.batch) ps (p ∷ []) ∙ ap (λ (l : Batch). inputs_of ps ++ l) (append-nil p.batch)

spoiled-snoc : (ps : List Put) (p : Put) → any_spoiled (ps ++ p ∷ []) ≡ (any_spoiled ps || p.spoiled)
spoiled-snoc ps p = list_any-append (λ (p : Put). p.spoiled) ps (p ∷ []) ∙ ap (λ (b : Bool). any_spoiled ps || b) (or_false p.spoiled)
  where
    or_false : (b : Bool) → (b || false) ≡ b
    or_false true = refl
    or_false false = refl

pub can_feed : (stripes : ℕ) (batch : Batch) (stripe : Stripe) → CanLay stripes batch stripe → stripe.spoiled ≡ false → CanFeed stripes batch stripe.contents
can_feed stripes batch stripe (kinds, j, puts, r) fine = (kinds, j, inputs_of puts, record { holds = r.laid.holds fine; fit = r.fit; comes = r.comes; room = r.room })

-- a spoiled stripe only counts the put
pub laid_spoiled : (stripes : ℕ) (batch : Batch) (old new : Stripe) → old.spoiled ≡ true → new.spoiled ≡ true → new.laid ≡ old.laid + 1 → IsLaidOn stripes batch old new
laid_spoiled stripes batch old new was is counted = record {
  next = λ kinds j puts r p batch_is spoiled_is. record {
    counts = counted ∙ (ap (λ (n : ℕ). n + 1) r.laid.counts ∙ sym (length-append puts (p ∷ [])));
    spoiled = is ∙ sym (spoiled-snoc puts p ∙ ap₂ (λ (a b : Bool). a || b) (sym r.laid.spoiled ∙ was) (spoiled_is ∙ is));
    holds = λ fine. let d : true ≡ false = sym is ∙ fine in cc;
  };
  scalars = λ kinds j puts r all fine. let d : true ≡ false = sym was ∙ fine in cc;
}

-- another one is fed the batch, or spoiled by it
pub laid_fed : (stripes : ℕ) (batch : Batch) (old new : Stripe) → old.spoiled ≡ false → new.laid ≡ old.laid + 1 → (new.spoiled ≡ false → IsFed stripes batch old.contents new.contents)
    → (CanFeedScalars stripes batch old.contents → new.spoiled ≡ false) → IsLaidOn stripes batch old new
laid_fed stripes batch old new was counted fed scalars = record {
  next = λ kinds j puts r p batch_is spoiled_is. record {
    counts = counted ∙ (ap (λ (n : ℕ). n + 1) r.laid.counts ∙ sym (length-append puts (p ∷ [])));
    spoiled = sym (spoiled-snoc puts p ∙ ap₂ (λ (a b : Bool). a || b) (sym r.laid.spoiled ∙ was) spoiled_is);
    holds = λ fine. subst (λ (l : Batch). HoldsAll kinds stripes j l new.contents) (ap (λ (l : Batch). inputs_of puts ++ l) (sym batch_is) ∙ sym (inputs-snoc puts p))
        (fed fine kinds j (inputs_of puts) record { holds = r.laid.holds was; fit = r.fit; comes = r.comes; room = r.room });
  };
  scalars = λ kinds j puts r all fine. scalars (kinds, j, inputs_of puts, record { holds = r.laid.holds was; fit = r.fit; comes = r.comes; room = r.room }, all);
}
