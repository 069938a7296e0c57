-- SlotLemmas: one more slot, after all others.
use Rattle.std.proofs.Common.{◌≡◌, ℕ, zero, suc, ◌+◌, ◌≤◌, Bool, List, [], ◌∷◌, ◌++◌, take, drop, map, length, if◌then◌else◌, refl, sym, ap, ap₂, ◌∙◌, subst, arith}
use Rattle.gq_value.specs.declared.kind.Kind.{Kind}
use Rattle.gq_value.specs.declared.kind.Slot.{Slot}
use Rattle.gq_value.specs.Accums.{Accum}
use Rattle.gq_value.specs.AccumViews.{accum_of}
use Rattle.gq_accum_laws.specs.Holds.{Holds}
use Rattle.gq_accum_laws.specs.Targets.{target_count}
use Rattle.gq_nest.specs.declared.content.Content.{Content}
use Rattle.gq_nest.specs.Shows.{Shows}
use Rattle.gq_frame.specs.declared.accums.Accums.{Accums}
use Rattle.gq_frame.specs.Targets.{attached_in, targets_of}
use Rattle.gq_rules_meaning.specs.States as states
use Rattle.gq_plan_ir.specs.Reference as reference
use Rattle.gq_plan_ir.specs.Reference.{Reference}
use Rattle.gq_eval_operand.specs.Sound.{IsSound}
use Rattle.gq_frame.specs.Slots.{slot_seen, slots_from, slots_are}
use Rattle.gq_exec_feed.proofs.SlotLemmas.{Every, EachSlot, EachTarget, seen_in, slots_of_targets, targets_of_slots}
use Rattle.gq_exec_vars.specs.Begun.{AddsContents, AddsSlot, AreReady}

-- ---- lists

module _ {A : Type 0} where
  take_all : (t : ℕ) (xs : List A) → length xs ≡ t → take t xs ≡ xs
  take_all zero [] h = refl
  take_all (suc t) [] h = refl
  take_all zero (x ∷ xs) h = let no : ⊥ = omega (arith, h) in absurd no
  take_all (suc t) (x ∷ xs) h = ap (λ l. x ∷ l) (take_all t xs (omega (arith, h)))

  take_front : (t : ℕ) (xs ys : List A) → t ≤ length xs → take t (xs ++ ys) ≡ take t xs
  take_front zero xs ys h = refl
  take_front (suc t) [] ys h = let no : ⊥ = omega (arith, h) in absurd no
  take_front (suc t) (x ∷ xs) ys h = ap (λ l. x ∷ l) (take_front t xs ys (omega (arith, h)))

  drop_front : (t : ℕ) (xs ys : List A) → t ≤ length xs → drop t (xs ++ ys) ≡ drop t xs ++ ys
  drop_front zero xs ys h = refl
  drop_front (suc t) [] ys h = let no : ⊥ = omega (arith, h) in absurd no
  drop_front (suc t) (x ∷ xs) ys h = drop_front t xs ys (omega (arith, h))

  drop_rest : (t r : ℕ) (xs : List A) → length xs ≡ t + r → length (drop t xs) ≡ r
  drop_rest zero r xs h = omega (arith, h)
  drop_rest (suc t) r [] h = let no : ⊥ = omega (arith, h) in absurd no
  drop_rest (suc t) r (x ∷ xs) h = drop_rest t r xs (omega (arith, h))

  length_more : (xs ys : List A) → length (xs ++ ys) ≡ length xs + length ys
  length_more [] ys = omega arith
  length_more (x ∷ xs) ys = let e = length_more xs ys in omega (arith, e)

  no_items : (xs : List A) → length xs ≡ 0 → xs ≡ []
  no_items [] h = refl
  no_items (x ∷ xs) h = let no : ⊥ = omega (arith, h) in absurd no

-- ---- one slot more

module _ (vertices : ℕ) (s : Slot) (more : List Content) (many : length more ≡ targets_of vertices s) where
  slots_more : (n m : ℕ) (ss : List Slot) (cs : List Content) → m ≡ n + length ss → length cs ≡ target_count vertices (attached_in ss)
      → slots_from vertices n (ss ++ s ∷ []) (cs ++ more) ≡ slots_from vertices n ss cs ++ slot_seen m s more ∷ []
  slots_more n m [] cs at count = subst (λ l. slots_from vertices n (s ∷ []) (l ++ more) ≡ slot_seen m s more ∷ []) (sym (no_items cs count))
      (ap₂ (λ i l. slot_seen i s l ∷ []) (let e : n ≡ m = omega (arith, at) in e) (take_all (targets_of vertices s) more many))
  slots_more n m (r ∷ ss) cs at count = ap₂ ◌∷◌
      (ap (slot_seen n r) (take_front (targets_of vertices r) cs more (omega (arith, count))))
      (ap (slots_from vertices (suc n) (ss ++ s ∷ [])) (drop_front (targets_of vertices r) cs more (omega (arith, count)))
      ∙ slots_more (suc n) m ss (drop (targets_of vertices r) cs) (omega (arith, at)) (drop_rest (targets_of vertices r) (target_count vertices (attached_in ss)) cs count))

  each_more : (P : Accum → Content → Type 0) (ss : List Slot) (cs : List Content) → length cs ≡ target_count vertices (attached_in ss)
      → Every (P (accum_of s.kind)) more → EachSlot P vertices ss cs → EachSlot P vertices (ss ++ s ∷ []) (cs ++ more)
  each_more P [] cs count h p = (subst (λ l. Every (P (accum_of s.kind)) (take (targets_of vertices s) (l ++ more))) (sym (no_items cs count)) (subst (Every (P (accum_of s.kind))) (sym (take_all (targets_of vertices s) more many)) h), tt)
  each_more P (r ∷ ss) cs count h p = (
    subst (Every (P (accum_of r.kind))) (sym (take_front (targets_of vertices r) cs more (omega (arith, count)))) p.0,
    subst (EachSlot P vertices (ss ++ s ∷ [])) (sym (drop_front (targets_of vertices r) cs more (omega (arith, count))))
        (each_more P ss (drop (targets_of vertices r) cs) (drop_rest (targets_of vertices r) (target_count vertices (attached_in ss)) cs count) h p.1),
  )

  count_more : (ss : List Slot) → target_count vertices (attached_in (ss ++ s ∷ [])) ≡ target_count vertices (attached_in ss) + targets_of vertices s
  count_more [] = omega arith
  count_more (r ∷ ss) = let e = count_more ss in omega (arith, e)

-- ---- the contents as shown

-- each target shows the same
shown_same : (k : Accum) (h : Holds k) (targets : List ℕ) (cs : List Content) → length targets ≡ length cs → Every (λ c. Shows k c h) cs → map (seen_in k) cs ≡ map (λ v. h) targets
shown_same k h [] [] e s = refl
shown_same k h [] (c ∷ cs) e s = let no : ⊥ = omega (arith, e) in absurd no
shown_same k h (v ∷ targets) [] e s = let no : ⊥ = omega (arith, e) in absurd no
shown_same k h (v ∷ targets) (c ∷ cs) e s = ap₂ ◌∷◌ s.0.holds (shown_same k h targets cs (omega (arith, e)) s.1)

-- ---- the code's

module _ (kind_is : Accum) (s : Slot) (h : Holds kind_is) (is : accum_of s.kind ≡ kind_is) where
  -- a slot of the definitions
  abbrev opened_slot : ℕ → List ℕ → states.Slot Reference
  opened_slot n targets = record { name = reference.Slot n; attached = s.attached; kind = kind_is; contents = map (λ v. h) targets }

  slot_is : (n : ℕ) (targets : List ℕ) (cs : List Content) → length targets ≡ length cs → Every (λ c. Shows kind_is c h) cs → slot_seen n s cs ≡ opened_slot n targets
  slot_is n targets cs e shows =
      ap (λ (k : Accum). the_slot k (map (seen_in k) cs)) is ∙ ap (the_slot kind_is) (shown_same kind_is h targets cs e shows)
    where
      the_slot : (k : Accum) → List (Holds k) → states.Slot Reference
      the_slot k l = record { name = reference.Slot n; attached = s.attached; kind = k; contents = l }

-- one slot more, with its contents
pub slot_added : (s : Slot) (h : Holds (accum_of s.kind)) (count : ℕ) (old new : Accums)
    → new.slots.vertices ≡ old.slots.vertices → new.slots.declared ≡ old.slots.declared ++ s ∷ [] → AddsContents (accum_of s.kind) h (if s.attached then old.slots.vertices else 1) old.contents new.contents
    → AreReady count old → AddsSlot (accum_of s.kind) s.attached h old new
slot_added s h count old new vertices declared adds ready = record {
  each = λ targets e.
      ap (λ (n : ℕ). slots_from n 0 new.slots.declared new.contents) vertices
      ∙ ap₂ (λ ss cs. slots_from old.slots.vertices 0 ss cs) declared adds.added
      ∙ slots_more old.slots.vertices s adds.more adds.many 0 (length old.slots.declared) old.slots.declared old.contents (omega arith) ready.contents
      ∙ ap (λ t. slots_are old ++ t ∷ []) (slot_is (accum_of s.kind) s h refl (length old.slots.declared) targets adds.more (e ∙ sym adds.many) adds.shows);
}

pub ready_more : (s : Slot) (h : Holds (accum_of s.kind)) (count : ℕ) (old new : Accums)
    → new.slots.vertices ≡ old.slots.vertices → new.slots.declared ≡ old.slots.declared ++ s ∷ [] → AddsContents (accum_of s.kind) h (if s.attached then old.slots.vertices else 1) old.contents new.contents
    → ((c : Content) → Shows (accum_of s.kind) c h → IsSound (accum_of s.kind) c) → AreReady count old → AreReady count new
ready_more s h count old new vertices declared adds sound ready = record {
  vertices = vertices ∙ ready.vertices;
  contents =
      ap length adds.added ∙ length_more old.contents adds.more
      ∙ ap₂ ◌+◌ ready.contents adds.many
      ∙ sym (ap (λ (n : ℕ). target_count n (attached_in new.slots.declared)) vertices ∙ ap (λ ss. target_count old.slots.vertices (attached_in ss)) declared ∙ count_more old.slots.vertices s adds.more adds.many old.slots.declared);
  sound = record {
    each = subst (λ (n : ℕ). EachTarget IsSound n new.slots.declared new.contents) (sym vertices)
        (subst (λ ss. EachTarget IsSound old.slots.vertices ss new.contents) (sym declared)
        (subst (λ cs. EachTarget IsSound old.slots.vertices (old.slots.declared ++ s ∷ []) cs) (sym adds.added)
        (targets_of_slots IsSound old.slots.vertices (old.slots.declared ++ s ∷ []) (old.contents ++ adds.more)
        (each_more old.slots.vertices s adds.more adds.many IsSound old.slots.declared old.contents ready.contents (every_sound adds.more adds.shows)
        (slots_of_targets IsSound old.slots.vertices old.slots.declared old.contents ready.sound.each)))));
  };
}
  where
    every_sound : (cs : List Content) → Every (λ c. Shows (accum_of s.kind) c h) cs → Every (IsSound (accum_of s.kind)) cs
    every_sound [] p = tt
    every_sound (c ∷ cs) p = (sound c p.0, every_sound cs p.1)

-- ---- as the code pushes it

module _ (kind copy : Kind) (attached : Bool) (h : Holds (accum_of kind)) (count n : ℕ) (old new : Accums) (same : copy ≡ kind) (many : n ≡ (if attached then old.slots.vertices else 1))
    (vertices : new.slots.vertices ≡ old.slots.vertices) (declared : new.slots.declared ≡ old.slots.declared ++ record { kind = copy; attached = attached } ∷ []) (adds : AddsContents (accum_of kind) h n old.contents new.contents) where
  abbrev slot : Slot
  slot = record { kind = kind; attached = attached }

  declared_as : new.slots.declared ≡ old.slots.declared ++ slot ∷ []
  declared_as = declared ∙ ap (λ (k : Kind). old.slots.declared ++ record { kind = k; attached = attached } ∷ []) same

  adds_as : AddsContents (accum_of kind) h (if attached then old.slots.vertices else 1) old.contents new.contents
  adds_as = subst (λ (i : ℕ). AddsContents (accum_of kind) h i old.contents new.contents) many adds

  pub slot_pushed : AreReady count old → AddsSlot (accum_of kind) attached h old new
  slot_pushed ready = slot_added slot h count old new vertices declared_as adds_as ready

  pub ready_pushed : ((c : Content) → Shows (accum_of kind) c h → IsSound (accum_of kind) c) → AreReady count old → AreReady count new
  ready_pushed sound ready = ready_more slot h count old new vertices declared_as adds_as sound ready
