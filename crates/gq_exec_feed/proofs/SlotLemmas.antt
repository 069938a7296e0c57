-- SlotLemmas: all slots with their contents, and one more contribution.
use Rattle.std.proofs.Common.{if◌then◌else◌, ◌≡◌, ℕ, zero, suc, ◌+◌, ◌<◌, ◌≤◌, ◌==◌, ◌&&◌, Bool, true, false, List, [], ◌∷◌, ◌++◌, take, drop, map, slice_get, Some, refl, sym, ap, ap₂, ◌∙◌, subst, arith}
use Rattle.gq_value.specs.declared.kind.Slot.{Slot}
use Rattle.gq_value.specs.Accums.{Accum}
use Rattle.gq_value.specs.AccumViews.{accum_of}
use Rattle.gq_accum_laws.specs.Holds.{Holds}
use Rattle.gq_accum_laws.specs.After.{after}
use Rattle.gq_accum_laws.specs.Fits.{IsProper}
use Rattle.gq_accum_laws.specs.Targets.{target_count, target_number}
use Rattle.gq_accum_laws.proofs.KindLaws.{after_cut}
use Rattle.gq_accum_laws.proofs.ProperLaws.{after_none}
use Rattle.gq_nest.specs.declared.content.Content.{Content, out-Content}
use Rattle.gq_nest.specs.Forms.{view}
use Rattle.gq_frame.specs.Targets.{attached_in, targets_of}
use Rattle.gq_rules_meaning.specs.Blocks.{Contribution, inputs_to, contents_after, slots_after}
use Rattle.gq_rules_meaning.specs.States as states
use Rattle.gq_plan_ir.specs.Reference as reference
use Rattle.gq_plan_ir.specs.Reference.{Reference}
use Rattle.gq_frame.specs.Slots.{slots_from}
use Rattle.gq_exec_feed.proofs.PlaceLemmas.{same_some, none_apart, get_taken, taken_get, get_dropped}

-- ---- the contents of all slots, slot by slot

abbrev pub Every : {A : Type 0} → (A → Type 0) → List A → Type 0
Every P [] = Unit {0}
Every P (x ∷ xs) = P x × Every P xs

abbrev pub EachSlot : (Accum → Content → Type 0) → ℕ → List Slot → List Content → Type 0
EachSlot P vertices [] cs = Unit {0}
EachSlot P vertices (s ∷ ss) cs = Every (P (accum_of s.kind)) (take (targets_of vertices s) cs) × EachSlot P vertices ss (drop (targets_of vertices s) cs)

abbrev pub EachTarget : (Accum → Content → Type 0) → ℕ → List Slot → List Content → Type 0
EachTarget P vertices ss cs = (n vertex : ℕ) (s : Slot) (c : Content) → slice_get ss n ≡ Some s → vertex < targets_of vertices s
    → slice_get cs (target_number vertices (attached_in ss) n vertex) ≡ Some c → P (accum_of s.kind) c

every_of : {A : Type 0} (P : A → Type 0) (xs : List A) → ((i : ℕ) (x : A) → slice_get xs i ≡ Some x → P x) → Every P xs
every_of P [] h = tt
every_of P (x ∷ xs) h = (h 0 x refl, every_of P xs (λ i y e. h (suc i) y e))

pub every_at : {A : Type 0} (P : A → Type 0) (xs : List A) → Every P xs → (i : ℕ) (x : A) → slice_get xs i ≡ Some x → P x
every_at P [] h i x e = none_apart x e
every_at P (y ∷ xs) h zero x e = subst P (same_some e) h.0
every_at P (y ∷ xs) h (suc i) x e = every_at P xs h.1 i x e

pub every_map : {A : Type 0} (P Q : A → Type 0) → ((x : A) → P x → Q x) → (xs : List A) → Every P xs → Every Q xs
every_map P Q f [] h = tt
every_map P Q f (x ∷ xs) h = (f x h.0, every_map P Q f xs h.1)

module _ (P : Accum → Content → Type 0) (vertices : ℕ) where
  pub slots_of_targets : (ss : List Slot) (cs : List Content) → EachTarget P vertices ss cs → EachSlot P vertices ss cs
  slots_of_targets [] cs h = tt
  slots_of_targets (s ∷ ss) cs h = (
    every_of (P (accum_of s.kind)) (take (targets_of vertices s) cs) (λ i c e. let r = get_taken cs (targets_of vertices s) i c e in h 0 i s c refl r.0 ((let z : 0 + i ≡ i = omega arith in ap (slice_get cs) z) ∙ r.1)),
    slots_of_targets ss (drop (targets_of vertices s) cs) (λ n v r c e l g. h (suc n) v r c e l
        ((let a : (targets_of vertices s + target_count vertices (take n (attached_in ss))) + v ≡ targets_of vertices s + target_number vertices (attached_in ss) n v = omega arith in ap (slice_get cs) a)
        ∙ sym (get_dropped cs (targets_of vertices s) (target_number vertices (attached_in ss) n v)) ∙ g)),
  )

  pub targets_of_slots : (ss : List Slot) (cs : List Content) → EachSlot P vertices ss cs → EachTarget P vertices ss cs
  targets_of_slots [] cs h n v r c e l g = none_apart r e
  targets_of_slots (s ∷ ss) cs h zero v r c e l g =
      subst (λ (x : Slot). P (accum_of x.kind) c) (same_some e) (every_at (P (accum_of s.kind)) (take (targets_of vertices s) cs) h.0 v c
      (taken_get cs (targets_of vertices s) v (let t = ap (targets_of vertices) (same_some e) in omega (arith, l, t)) ∙ (let z : v ≡ 0 + v = omega arith in ap (slice_get cs) z) ∙ g))
  targets_of_slots (s ∷ ss) cs h (suc n) v r c e l g = targets_of_slots ss (drop (targets_of vertices s) cs) h.1 n v r c e l
      (get_dropped cs (targets_of vertices s) (target_number vertices (attached_in ss) n v)
      ∙ (let a : targets_of vertices s + target_number vertices (attached_in ss) n v ≡ (targets_of vertices s + target_count vertices (take n (attached_in ss))) + v = omega arith in ap (slice_get cs) a) ∙ g)

pub slots_map : (P Q : Accum → Content → Type 0) → ((k : Accum) (c : Content) → P k c → Q k c) → (vertices : ℕ) (ss : List Slot) (cs : List Content) → EachSlot P vertices ss cs → EachSlot Q vertices ss cs
slots_map P Q f vertices [] cs h = tt
slots_map P Q f vertices (s ∷ ss) cs h = (every_map (P (accum_of s.kind)) (Q (accum_of s.kind)) (f (accum_of s.kind)) (take (targets_of vertices s) cs) h.0, slots_map P Q f vertices ss (drop (targets_of vertices s) cs) h.1)

-- ---- contents without an input

abbrev pub Proper : Accum → Content → Type 0
Proper k c = IsProper k (view k (out-Content c))

abbrev pub seen_in : (k : Accum) → Content → Holds k
seen_in k c = view k (out-Content c)

pub contents_same : (k : Accum) (n : ℕ) (xs : List Contribution) (v : ℕ) (cs : List Content) → ((w : ℕ) → v ≤ w → inputs_to n w xs ≡ []) → Every (Proper k) cs → contents_after k n xs v (map (seen_in k) cs) ≡ map (seen_in k) cs
contents_same k n xs v [] none p = refl
contents_same k n xs v (c ∷ cs) none p = ap₂ ◌∷◌ (ap (after k (seen_in k c)) (none v (omega arith)) ∙ after_none k (seen_in k c) p.0) (contents_same k n xs (suc v) cs (λ w l. none w (omega (arith, l))) p.1)

-- a slot of the definitions with other contents
abbrev pub with_contents : (n : ℕ) (s : Slot) → List (Holds (accum_of s.kind)) → states.Slot Reference
with_contents n s l = record { name = reference.Slot n; attached = s.attached; kind = accum_of s.kind; contents = l }

pub slots_same : (vertices n : ℕ) (xs : List Contribution) (ss : List Slot) (cs : List Content) → ((m w : ℕ) → n ≤ m → inputs_to m w xs ≡ []) → EachSlot Proper vertices ss cs → slots_after xs n (slots_from vertices n ss cs) ≡ slots_from vertices n ss cs
slots_same vertices n xs [] cs none p = refl
slots_same vertices n xs (s ∷ ss) cs none p = ap₂ ◌∷◌
    (ap (with_contents n s) (contents_same (accum_of s.kind) n xs 0 (take (targets_of vertices s) cs) (λ w l. none n w (omega arith)) p.0))
    (slots_same vertices (suc n) xs ss (drop (targets_of vertices s) cs) (λ m w l. none m w (omega (arith, l))) p.1)

-- ---- contributions followed by others

inputs_append : (n v : ℕ) (xs ys : List Contribution) → inputs_to n v (xs ++ ys) ≡ inputs_to n v xs ++ inputs_to n v ys
inputs_append n v [] ys = refl
inputs_append n v (x ∷ xs) ys = by ((x.slot == n) && (x.vertex == v)) (inputs_append n v xs ys)
  where
    by : (b : Bool) → inputs_to n v (xs ++ ys) ≡ inputs_to n v xs ++ inputs_to n v ys
        → (if b then x.input ∷ inputs_to n v (xs ++ ys) else inputs_to n v (xs ++ ys)) ≡ (if b then x.input ∷ inputs_to n v xs else inputs_to n v xs) ++ inputs_to n v ys
    by true e = ap (λ l. x.input ∷ l) e
    by false e = e

contents_append : (k : Accum) (n : ℕ) (xs ys : List Contribution) (v : ℕ) (hs : List (Holds k)) → contents_after k n (xs ++ ys) v hs ≡ contents_after k n ys v (contents_after k n xs v hs)
contents_append k n xs ys v [] = refl
contents_append k n xs ys v (h ∷ hs) = ap₂ ◌∷◌ (ap (after k h) (inputs_append n v xs ys) ∙ sym (after_cut k h (inputs_to n v xs) (inputs_to n v ys))) (contents_append k n xs ys (suc v) hs)

pub slots_append : (xs ys : List Contribution) (n : ℕ) (ss : List (states.Slot Reference)) → slots_after (xs ++ ys) n ss ≡ slots_after ys n (slots_after xs n ss)
slots_append xs ys n [] = refl
slots_append xs ys n (s ∷ ss) = ap₂ ◌∷◌ (ap (the_slot s) (contents_append s.kind n xs ys 0 s.contents)) (slots_append xs ys (suc n) ss)
  where
    the_slot : (s : states.Slot Reference) → List (Holds s.kind) → states.Slot Reference
    the_slot s l = record s { contents = l }
