-- FitLemmas: sums are checked content by content and slot by slot.
use Rattle.std.proofs.Common.{if◌then◌else◌, ◌≡◌, ℕ, zero, suc, ◌+◌, ◌-◌, ◌<◌, ◌≤◌, ◌&&◌, min, Bool, true, false, List, [], ◌∷◌, take, drop, length, map, get_or, Some, None, refl, sym, ap, ◌∙◌, subst, arith, length-drop}
use Rattle.std.proofs.lemmas.List.Elements.{All-cons}
use Rattle.std.specs.List.{All, list_all, slice_get}
use Rattle.gq_value.specs.declared.kind.Slot.{Slot}
use Rattle.gq_value.specs.Accums.{Accum, SumAccum, MinAccum, MaxAccum, OrAccum, AndAccum, BitwiseOrAccum, BitwiseAndAccum, AvgAccum, SetAccum, BagAccum, ListAccum, MapAccum, GroupByAccum, HeapAccum}
use Rattle.gq_accum_laws.specs.Holds.{Holds}
use Rattle.gq_value.specs.Val.{Val}
use Rattle.gq_value.specs.AccumViews.{accum_of}
use Rattle.gq_accum_laws.specs.Fits.{fits}
use Rattle.gq_accum_laws.proofs.FedLaws.{fed_law}
use Rattle.gq_nest.specs.declared.content.Content.{Content}
use Rattle.gq_nest.specs.Tells.{Tells}
use Rattle.gq_frame.specs.declared.accums.Accums.{Accums}
use Rattle.gq_frame.specs.Pages as pages
use Rattle.gq_frame.specs.Targets.{targets_of}
use Rattle.gq_rules_meaning.specs.Blocks.{first_unfit}
use Rattle.gq_eval_operand.specs.Sound.{IsSound}
use Rattle.gq_frame.specs.Slots.{slots_from, slots_are, AreSound}
use Rattle.gq_exec_feed.specs.Feeding.{IsFed, AreFed}
use Rattle.gq_exec_feed.specs.Steps.{AllFit, AllFitAs, has_no_sum}
use Rattle.gq_exec_feed.proofs.PlaceLemmas.{same_some, none_apart, taken_get, get_dropped, drop_item, get_some, drop_all}
use Rattle.gq_exec_feed.proofs.SlotLemmas.{Every, EachSlot, seen_in, slots_of_targets, targets_of_slots}

-- ---- fed contents that fit are sound

fit_sound : (k : Accum) (f : ℕ) (c : Content) → IsFed k f c → fits k (seen_in k c) ≡ true → IsSound k c
fit_sound k f c h e = record { shows = h.shows; forms = h.forms; fit = e }

both : (a b : Bool) → (a && b) ≡ true → (a ≡ true) × (b ≡ true)
both true b h = (refl, h)
both false b h = absurd (cc h)

every_fit : (k : Accum) (f : ℕ) (cs : List Content) → Every (IsFed k f) cs → list_all (fits k) (map (seen_in k) cs) ≡ true → Every (IsSound k) cs
every_fit k f [] h e = tt
every_fit k f (c ∷ cs) h e = let b = both (fits k (seen_in k c)) (list_all (fits k) (map (seen_in k) cs)) e in (fit_sound k f c h.0 b.0, every_fit k f cs h.1 b.1)

slots_fit : (vertices f n : ℕ) (ss : List Slot) (cs : List Content) → EachSlot (λ k c. IsFed k f c) vertices ss cs → first_unfit n (slots_from vertices n ss cs) ≡ None → EachSlot IsSound vertices ss cs
slots_fit vertices f n [] cs h e = tt
slots_fit vertices f n (s ∷ ss) cs h e = by (list_all (fits (accum_of s.kind)) (map (seen_in (accum_of s.kind)) (take (targets_of vertices s) cs))) refl e (λ r. slots_fit vertices f (suc n) ss (drop (targets_of vertices s) cs) h.1 r)
  where
    by : (b : Bool) → list_all (fits (accum_of s.kind)) (map (seen_in (accum_of s.kind)) (take (targets_of vertices s) cs)) ≡ b
        → (if b then first_unfit (suc n) (slots_from vertices (suc n) ss (drop (targets_of vertices s) cs)) else Some n) ≡ None
        → (first_unfit (suc n) (slots_from vertices (suc n) ss (drop (targets_of vertices s) cs)) ≡ None → EachSlot IsSound vertices ss (drop (targets_of vertices s) cs)) → EachSlot IsSound vertices (s ∷ ss) cs
    by true q r more = (every_fit (accum_of s.kind) f (take (targets_of vertices s) cs) h.0 q, more r)
    by false q r more = absurd (cc r)

-- fed accumulators whose contents all fit
pub fed_sound : (f : ℕ) (a : Accums) → AreFed f a → first_unfit 0 (slots_are a) ≡ None → AreSound a
fed_sound f a h e = record {
  each = targets_of_slots IsSound a.slots.vertices a.slots.declared a.contents
      (slots_fit a.slots.vertices f 0 a.slots.declared a.contents (slots_of_targets (λ k c. IsFed k f c) a.slots.vertices a.slots.declared a.contents h.each) e);
}

-- sound accumulators are in the range of one input
pub sound_fed : (a : Accums) → AreSound a → AreFed 1 a
sound_fed a h = record { each = λ n v s c e l g. let w = h.each n v s c e l g in record { shows = w.shows; forms = w.forms; fed = fed_law.fitting (accum_of s.kind) (seen_in (accum_of s.kind) c) w.shows.proper w.fit } }

-- ---- all contents fit

all_fit_in : (k : Accum) (f : ℕ) (cs : List Content) → pages.AllFit cs → Every (IsFed k f) cs → list_all (fits k) (map (seen_in k) cs) ≡ true
all_fit_in k f [] fit h = refl
all_fit_in k f (c ∷ cs) fit h = ap (λ b. b && list_all (fits k) (map (seen_in k) cs)) (sym (fit.0.each k (seen_in k c) h.0.shows)) ∙ all_fit_in k f cs fit.1 h.1

fit_taken : (n : ℕ) (cs : List Content) → pages.AllFit cs → pages.AllFit (take n cs)
fit_taken zero cs h = tt
fit_taken (suc n) [] h = tt
fit_taken (suc n) (c ∷ cs) h = (h.0, fit_taken n cs h.1)

fit_dropped : (n : ℕ) (cs : List Content) → pages.AllFit cs → pages.AllFit (drop n cs)
fit_dropped zero cs h = h
fit_dropped (suc n) [] h = tt
fit_dropped (suc n) (c ∷ cs) h = fit_dropped n cs h.1

none_unfit : (vertices f n : ℕ) (ss : List Slot) (cs : List Content) → pages.AllFit cs → EachSlot (λ k c. IsFed k f c) vertices ss cs → first_unfit n (slots_from vertices n ss cs) ≡ None
none_unfit vertices f n [] cs fit h = refl
none_unfit vertices f n (s ∷ ss) cs fit h =
    ap (λ b. if b then first_unfit (suc n) (slots_from vertices (suc n) ss (drop (targets_of vertices s) cs)) else Some n) (all_fit_in (accum_of s.kind) f (take (targets_of vertices s) cs) (fit_taken (targets_of vertices s) cs fit) h.0)
    ∙ none_unfit vertices f (suc n) ss (drop (targets_of vertices s) cs) (fit_dropped (targets_of vertices s) cs fit) h.1

pub all_fit_none : (a : Accums) → pages.AllFit a.contents → (f : ℕ) → AreFed f a → None ≡ first_unfit 0 (slots_are a)
all_fit_none a fit f h = sym (none_unfit a.slots.vertices f 0 a.slots.declared a.contents fit (slots_of_targets (λ k c. IsFed k f c) a.slots.vertices a.slots.declared a.contents h.each))

-- ---- the loop over the contents of a slot

pub record FitFrom (cs : List Content) (i : ℕ) : Type 0 where
  pub each : (k : Accum) (f : ℕ) → All (IsFed k f) cs → list_all (fits k) (map (seen_in k) cs) ≡ list_all (fits k) (map (seen_in k) (drop i cs))

pub fit_first : (cs : List Content) → FitFrom cs 0
fit_first cs = record { each = λ k f h. refl }

tested : (cs : List Content) (i : ℕ) (c : Content) (b : Bool) → i < length cs → c ≡ get_or cs i c → Tells c b fits → (k : Accum) (f : ℕ) → All (IsFed k f) cs
    → list_all (fits k) (map (seen_in k) (drop i cs)) ≡ (b && list_all (fits k) (map (seen_in k) (drop (i + 1) cs)))
tested cs i c b l is t k f h =
    ap (λ d. list_all (fits k) (map (seen_in k) d)) (drop_item cs i c (get_some cs i c l is))
    ∙ ap (λ d. d && list_all (fits k) (map (seen_in k) (drop (suc i) cs))) (sym (t.each k (seen_in k c) (subst (λ x. IsFed k f x) (sym is) (h i c l)).shows))
    ∙ (let e : suc i ≡ i + 1 = omega arith in ap (λ (n : ℕ). b && list_all (fits k) (map (seen_in k) (drop n cs))) e)

pub fit_more : (cs : List Content) (i : ℕ) (c : Content) (b : Bool) → i < length cs → c ≡ get_or cs i c → Tells c b fits → b ≡ true → FitFrom cs i → FitFrom cs (i + 1)
fit_more cs i c b l is t e h = record { each = λ k f p. h.each k f p ∙ tested cs i c b l is t k f p ∙ ap (λ d. d && list_all (fits k) (map (seen_in k) (drop (i + 1) cs))) e }

pub fit_not : (cs : List Content) (i : ℕ) (c : Content) (b : Bool) → i < length cs → c ≡ get_or cs i c → Tells c b fits → b ≡ false → FitFrom cs i → AllFit cs false
fit_not cs i c b l is t e h = record { each = λ k f p. sym (h.each k f p ∙ tested cs i c b l is t k f p ∙ ap (λ d. d && list_all (fits k) (map (seen_in k) (drop (i + 1) cs))) e) }

pub fit_all : (cs : List Content) (i : ℕ) → length cs ≤ i → FitFrom cs i → AllFit cs true
fit_all cs i l h = record { each = λ k f p. sym (h.each k f p ∙ ap (λ d. list_all (fits k) (map (seen_in k) d)) (drop_all cs i l)) }

-- ---- contents by a range of indices

-- the contents of a slot
abbrev pub between : ℕ → ℕ → List Content → List Content
between start end cs = take (end - start) (drop start cs)

pub record FitRange (cs : List Content) (start end at : ℕ) : Type 0 where
  pub from : start ≤ at
  pub fit : FitFrom (between start end cs) (at - start)

below : (xs : List Content) (i : ℕ) (c : Content) → slice_get xs i ≡ Some c → (i < length xs) × (c ≡ get_or xs i c)
below [] i c h = none_apart c h
below (x ∷ xs) zero c h = (omega arith, sym (same_some h))
below (x ∷ xs) (suc i) c h = let b = below xs i c h in ((let l = b.0 in omega (arith, l)), b.1)

in_range : (cs : List Content) (start end at : ℕ) (c : Content) → start ≤ at → at < end → slice_get cs at ≡ Some c → slice_get (between start end cs) (at - start) ≡ Some c
in_range cs start end at c l m h = taken_get (drop start cs) (end - start) (at - start) (omega (arith, l, m)) ∙ get_dropped cs start (at - start) ∙ (let e : start + (at - start) ≡ at = omega (arith, l) in ap (slice_get cs) e) ∙ h

pub range_first : (cs : List Content) (start end : ℕ) → FitRange cs start end start
range_first cs start end = record { from = omega arith; fit = (let e : 0 ≡ start - start = omega arith in subst (FitFrom (between start end cs)) e (fit_first (between start end cs))) }

pub range_more : (cs : List Content) (start end at : ℕ) (c : Content) (b : Bool) → at < end → slice_get cs at ≡ Some c → Tells c b fits → b ≡ true → FitRange cs start end at → FitRange cs start end (at + 1)
range_more cs start end at c b m h t e r = let g = below (between start end cs) (at - start) c (in_range cs start end at c r.from m h) in record {
  from = (let l = r.from in omega (arith, l));
  fit = (let i : (at - start) + 1 ≡ (at + 1) - start = (let l = r.from in omega (arith, l)) in subst (FitFrom (between start end cs)) i (fit_more (between start end cs) (at - start) c b g.0 g.1 t e r.fit));
}

pub range_not : (cs : List Content) (start end at : ℕ) (c : Content) (b : Bool) → at < end → slice_get cs at ≡ Some c → Tells c b fits → b ≡ false → FitRange cs start end at → AllFit (between start end cs) false
range_not cs start end at c b m h t e r = let g = below (between start end cs) (at - start) c (in_range cs start end at c r.from m h) in fit_not (between start end cs) (at - start) c b g.0 g.1 t e r.fit

taken_length : (xs : List Content) (n : ℕ) → length (take n xs) ≤ n
taken_length xs zero = omega arith
taken_length [] (suc n) = omega arith
taken_length (x ∷ xs) (suc n) = let l = taken_length xs n in omega (arith, l)

pub range_all : (cs : List Content) (start end at : ℕ) → end ≤ at → FitRange cs start end at → AllFit (between start end cs) true
range_all cs start end at l r = fit_all (between start end cs) (at - start) (let t = taken_length (drop start cs) (end - start) in let f = r.from in omega (arith, t, l, f)) r.fit

-- ---- kinds without sums

no_sum_fits : (k : Accum) → has_no_sum k ≡ true → (h : Holds k) → fits k h ≡ true
no_sum_fits (SumAccum n) e h = absurd (cc e)
no_sum_fits (MinAccum n) e h = refl
no_sum_fits (MaxAccum n) e h = refl
no_sum_fits OrAccum e h = refl
no_sum_fits AndAccum e h = refl
no_sum_fits BitwiseOrAccum e h = refl
no_sum_fits BitwiseAndAccum e h = refl
no_sum_fits AvgAccum e h = absurd (cc e)
no_sum_fits (SetAccum b) e h = refl
no_sum_fits (BagAccum b) e h = refl
no_sum_fits (ListAccum b) e h = refl
no_sum_fits (MapAccum b k) e h = at (no_sum_fits k e) h.0
  where
    at : ((d : Holds k) → fits k d ≡ true) → (qs : List (List Val)) → list_all (λ q. fits k (h.1 q)) qs ≡ true
    at each [] = refl
    at each (q ∷ qs) = ap (λ c. c && list_all (λ r. fits k (h.1 r)) qs) (each (h.1 q)) ∙ at each qs
no_sum_fits (GroupByAccum keys ps) e h = absurd (cc e)
no_sum_fits (HeapAccum b n by) e h = refl

pub without_sums : (k : Accum) (cs : List Content) → has_no_sum k ≡ true → AllFitAs k cs true
without_sums k cs e = record { each = λ f h. sym (at cs) }
  where
    at : (cs : List Content) → list_all (fits k) (map (seen_in k) cs) ≡ true
    at [] = refl
    at (c ∷ cs) = ap (λ b. b && list_all (fits k) (map (seen_in k) cs)) (no_sum_fits k e (seen_in k c)) ∙ at cs

pub of_any : (k : Accum) (cs : List Content) (b : Bool) → AllFit cs b → AllFitAs k cs b
of_any k cs b h = record { each = λ f p. h.each k f p }

pub ruleset kind_laws = (without_sums, of_any)

-- ---- the loop over the slots

all_of_every : {A : Type 0} (P : A → Type 0) (xs : List A) → Every P xs → All P xs
all_of_every P [] h = λ i d l. absurd (omega (arith, l))
all_of_every P (x ∷ xs) h = All-cons P x xs h.0 (all_of_every P xs h.1)

drop_drop : (xs : List Content) (i j : ℕ) → drop (i + j) xs ≡ drop j (drop i xs)
drop_drop xs zero j = let e : 0 + j ≡ j = omega arith in ap (λ (n : ℕ). drop n xs) e
drop_drop [] (suc i) j = let e : suc i + j ≡ suc (i + j) = omega arith in ap (λ (n : ℕ). drop n none) e ∙ nothing j
  where
    none : List Content
    none = []

    nothing : (j : ℕ) → drop (suc (i + j)) none ≡ drop j (drop (suc i) none)
    nothing zero = refl
    nothing (suc j) = refl
drop_drop (x ∷ xs) (suc i) j = let e : suc i + j ≡ suc (i + j) = omega arith in ap (λ (n : ℕ). drop n (x ∷ xs)) e ∙ drop_drop xs i j

take_min : {A : Type 0} (xs : List A) (t m : ℕ) → m ≡ min (length xs) t → take m xs ≡ take t xs
take_min [] zero zero e = refl
take_min [] (suc t) zero e = refl
take_min [] zero (suc m) e = refl
take_min [] (suc t) (suc m) e = refl
take_min (x ∷ xs) zero m e = let z : m ≡ 0 = omega (arith, e) in ap (λ (n : ℕ). take n (x ∷ xs)) z
take_min (x ∷ xs) (suc t) m e = let z : m ≡ suc (min (length xs) t) = omega (arith, e) in ap (λ (n : ℕ). take n (x ∷ xs)) z ∙ ap (λ l. x ∷ l) (take_min xs t (min (length xs) t) refl)

drop_min : {A : Type 0} (xs : List A) (t m : ℕ) → m ≡ min (length xs) t → drop m xs ≡ drop t xs
drop_min [] zero zero e = refl
drop_min [] (suc t) zero e = refl
drop_min [] zero (suc m) e = refl
drop_min [] (suc t) (suc m) e = refl
drop_min (x ∷ xs) zero m e = let z : m ≡ 0 = omega (arith, e) in ap (λ (n : ℕ). drop n (x ∷ xs)) z
drop_min (x ∷ xs) (suc t) m e = let z : m ≡ suc (min (length xs) t) = omega (arith, e) in ap (λ (n : ℕ). drop n (x ∷ xs)) z ∙ drop_min xs t (min (length xs) t) refl

-- the slots from n on, with the remaining contents
abbrev UnfitRest : Accums → ℕ → List Content → ℕ → Type 0
UnfitRest a n rest f = EachSlot (λ k c. IsFed k f c) a.slots.vertices (drop n a.slots.declared) rest × (first_unfit 0 (slots_are a) ≡ first_unfit n (slots_from a.slots.vertices n (drop n a.slots.declared) rest))

-- the same, with the contents given by their start
pub record UnfitFrom (a : Accums) (n start : ℕ) : Type 0 where
  pub within : start ≤ length a.contents
  pub each : (f : ℕ) → AreFed f a → UnfitRest a n (drop start a.contents) f

pub unfit_first : (a : Accums) → UnfitFrom a 0 0
unfit_first a = record { within = omega arith; each = λ f h. (slots_of_targets (λ k c. IsFed k f c) a.slots.vertices a.slots.declared a.contents h.each, refl) }

-- one slot
slot_first : (a : Accums) (n : ℕ) (s : Slot) (rest own : List Content) (b : Bool) → n < length a.slots.declared → s ≡ get_or a.slots.declared n s → own ≡ take (targets_of a.slots.vertices s) rest → AllFitAs (accum_of s.kind) own b → (f : ℕ) → UnfitRest a n rest f
    → EachSlot (λ k c. IsFed k f c) a.slots.vertices (drop (n + 1) a.slots.declared) (drop (targets_of a.slots.vertices s) rest)
    × (first_unfit 0 (slots_are a) ≡ (if b then first_unfit (n + 1) (slots_from a.slots.vertices (n + 1) (drop (n + 1) a.slots.declared) (drop (targets_of a.slots.vertices s) rest)) else Some n))
slot_first a n s rest own b l is e fit f so = let e1 : suc n ≡ n + 1 = omega arith in
    subst (λ (m : ℕ). EachSlot (λ k c. IsFed k f c) a.slots.vertices (drop m a.slots.declared) (drop (targets_of a.slots.vertices s) rest)
    × (first_unfit 0 (slots_are a) ≡ (if b then first_unfit m (slots_from a.slots.vertices m (drop m a.slots.declared) (drop (targets_of a.slots.vertices s) rest)) else Some n))) e1 (
      opened.1,
      so.1 ∙ ap (λ (d : List Slot). first_unfit n (slots_from a.slots.vertices n d rest)) item
          ∙ ap (λ c. if c then first_unfit (suc n) (slots_from a.slots.vertices (suc n) (drop (suc n) a.slots.declared) (drop (targets_of a.slots.vertices s) rest)) else Some n) judged,
    )
  where
    item : drop n a.slots.declared ≡ s ∷ drop (suc n) a.slots.declared
    item = drop_item a.slots.declared n s (get_some a.slots.declared n s l is)

    opened : Every (IsFed (accum_of s.kind) f) (take (targets_of a.slots.vertices s) rest) × EachSlot (λ k c. IsFed k f c) a.slots.vertices (drop (suc n) a.slots.declared) (drop (targets_of a.slots.vertices s) rest)
    opened = subst (λ (d : List Slot). EachSlot (λ k c. IsFed k f c) a.slots.vertices d rest) item so.0

    judged : list_all (fits (accum_of s.kind)) (map (seen_in (accum_of s.kind)) (take (targets_of a.slots.vertices s) rest)) ≡ b
    judged = ap (λ (c : List Content). list_all (fits (accum_of s.kind)) (map (seen_in (accum_of s.kind)) c)) (sym e)
        ∙ sym (fit.each f (subst (All (IsFed (accum_of s.kind) f)) (sym e) (all_of_every (IsFed (accum_of s.kind) f) (take (targets_of a.slots.vertices s) rest) opened.0)))

-- the contents of a slot, as the code slices them
cut : (cs : List Content) (start end t : ℕ) → start ≤ length cs → end ≡ start + min t (length cs - start) → end - start ≡ min (length (drop start cs)) t
cut cs start end t low e = let d = length-drop start cs in omega (arith, d, e, low)

pub unfit_more : (a : Accums) (n start end t : ℕ) (s : Slot) (own : List Content) (b : Bool) → n < length a.slots.declared → s ≡ get_or a.slots.declared n s → t ≡ targets_of a.slots.vertices s → end ≡ start + min t (length a.contents - start)
    → own ≡ take (end - start) (drop start a.contents) → AllFitAs (accum_of s.kind) own b → b ≡ true → UnfitFrom a n start → UnfitFrom a (n + 1) end
unfit_more a n start end t s own b l is e low o fit yes_fit so = record {
  within = omega (arith, low);
  each = λ f h.
      let r = slot_first a n s (drop start a.contents) own b l is (o ∙ take_min (drop start a.contents) t (end - start) (cut a.contents start end t so.within low) ∙ ap (λ (i : ℕ). take i (drop start a.contents)) e) fit f (so.each f h) in
      subst (λ (rest : List Content). UnfitRest a (n + 1) rest f) (sym (behind so.within)) (r.0, r.1 ∙ ap (λ c. if c then first_unfit (n + 1) (slots_from a.slots.vertices (n + 1) (drop (n + 1) a.slots.declared) (drop (targets_of a.slots.vertices s) (drop start a.contents))) else Some n) yes_fit);
}
  where
    behind : start ≤ length a.contents → drop end a.contents ≡ drop (targets_of a.slots.vertices s) (drop start a.contents)
    behind w = (let z : end ≡ start + (end - start) = omega (arith, low, w) in ap (λ (i : ℕ). drop i a.contents) z) ∙ drop_drop a.contents start (end - start)
        ∙ drop_min (drop start a.contents) t (end - start) (cut a.contents start end t w low) ∙ ap (λ (i : ℕ). drop i (drop start a.contents)) e

pub unfit_here : (a : Accums) (n start end t : ℕ) (s : Slot) (own : List Content) (b : Bool) → n < length a.slots.declared → s ≡ get_or a.slots.declared n s → t ≡ targets_of a.slots.vertices s → end ≡ start + min t (length a.contents - start)
    → own ≡ take (end - start) (drop start a.contents) → AllFitAs (accum_of s.kind) own b → b ≡ false → UnfitFrom a n start → (f : ℕ) → AreFed f a → Some n ≡ first_unfit 0 (slots_are a)
unfit_here a n start end t s own b l is e low o fit not_fit so f h =
    let r = slot_first a n s (drop start a.contents) own b l is (o ∙ take_min (drop start a.contents) t (end - start) (cut a.contents start end t so.within low) ∙ ap (λ (i : ℕ). take i (drop start a.contents)) e) fit f (so.each f h) in
    sym (r.1 ∙ ap (λ c. if c then first_unfit (n + 1) (slots_from a.slots.vertices (n + 1) (drop (n + 1) a.slots.declared) (drop (targets_of a.slots.vertices s) (drop start a.contents))) else Some n) not_fit)

pub unfit_none : (a : Accums) (n start : ℕ) → length a.slots.declared ≤ n → UnfitFrom a n start → (f : ℕ) → AreFed f a → None ≡ first_unfit 0 (slots_are a)
unfit_none a n start l so f h = sym ((so.each f h).1 ∙ ap (λ (d : List Slot). first_unfit n (slots_from a.slots.vertices n d (drop start a.contents))) (drop_all a.slots.declared n l))

pub ruleset fit_laws = (range_first, range_more, range_not, range_all)

pub ruleset unfit_laws = (unfit_first, unfit_more, unfit_here, unfit_none)
