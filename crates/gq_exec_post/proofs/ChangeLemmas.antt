-- ChangeLemmas: accumulators with another content at a target, as the definitions have them.
use Rattle.std.proofs.Common.{◌≡◌, ℕ, zero, suc, ◌+◌, ◌<◌, ◌≤◌, ◌&&◌, Bool, true, List, [], ◌∷◌, take, drop, map, length, set, slice_get, slice_set, Some, refl, sym, ap, ap₂, ◌∙◌, subst, arith}
use Rattle.std.proofs.lemmas.List.{length-map}
use Rattle.gq_value.specs.declared.kind.Input.{Input}
use Rattle.gq_value.specs.declared.kind.Slot.{Slot}
use Rattle.gq_value.specs.declared.value.Value.{Value}
use Rattle.gq_value.specs.Accums as kinds
use Rattle.gq_value.specs.Accums.{Accum}
use Rattle.gq_value.specs.AccumViews.{accum_of, given}
use Rattle.gq_value.specs.Views.{val}
use Rattle.gq_value.specs.Val.{Val}
use Rattle.gq_accum_laws.specs.Holds.{Holds}
use Rattle.gq_accum_laws.specs.Fits.{fits, HasRoom, IsProper}
use Rattle.gq_accum_laws.specs.Reads.{set_to}
use Rattle.gq_accum_laws.specs.Targets.{target_number}
use Rattle.gq_accum_laws.proofs.FedLaws.{fed_law}
use Rattle.gq_nest.specs.declared.content.Content.{Content}
use Rattle.gq_nest.specs.Shows.{Shows}
use Rattle.gq_nest.specs.Tells.{Tells, is_settable}
use Rattle.gq_frame.specs.declared.slots.Slots.{Slots}
use Rattle.gq_frame.specs.declared.accums.Accums.{Accums}
use Rattle.gq_frame.specs.Pages.{AllowsAt, ChangesAt, SetsTo, Takes}
use Rattle.gq_frame.specs.Targets.{attached_in, targets_of, number_of}
use Rattle.gq_rules_meaning.specs.States as states
use Rattle.gq_rules_meaning.specs.Writes.{Making, changed_at, fits_at, passes_at, slot_changed}
use Rattle.gq_plan_ir.specs.Reference.{Reference}
use Rattle.gq_eval_operand.specs.Sound.{HoldsForms, IsSound}
use Rattle.gq_frame.specs.Slots.{AreSound, slot_seen, slots_from, slots_are}
use Rattle.gq_exec_feed.proofs.CopyLemmas.{copied_sound}
use Rattle.gq_exec_feed.proofs.FormLemmas.{forms_after}
use Rattle.gq_exec_feed.proofs.PlaceLemmas.{same_some, none_apart, length_taken, length_dropped, take_set_front, drop_set_front, take_set_behind, drop_set_behind, taken_get, get_dropped}
use Rattle.gq_exec_feed.proofs.SlotLemmas.{Every, EachSlot, EachTarget, seen_in, with_contents, slots_of_targets, targets_of_slots}
use Rattle.gq_exec_post.specs.declared.making.Made.{Made}
use Rattle.gq_exec_post.specs.declared.making.Made.TheVariants as made
use Rattle.gq_exec_post.specs.Changing.{Becomes, CanTake, Changed, ChangesOne, MayChange, MaySuit, fits_after}
use Rattle.gq_exec_post.specs.Judging.{fits_where}
use Rattle.gq_exec_post.specs.Making.{making_of}
use Rattle.gq_exec_post.proofs.JudgingLaws.{still_fits}

-- ---- contents of one slot

module _ (f : Making) (k : Accum) (was now : Content) (e : seen_in k now ≡ f k (seen_in k was)) where
  changed_in : (i : ℕ) (cs : List Content) → slice_get cs i ≡ Some was → map (seen_in k) (set cs i now) ≡ changed_at (f k) i (map (seen_in k) cs)
  changed_in i [] g = none_apart was g
  changed_in zero (c ∷ cs) g = ap (λ h. h ∷ map (seen_in k) cs) (e ∙ ap (λ x. f k (seen_in k x)) (sym (same_some g)))
  changed_in (suc i) (c ∷ cs) g = ap (λ hs. seen_in k c ∷ hs) (changed_in i cs g)

  judged_in : (i : ℕ) (cs : List Content) → slice_get cs i ≡ Some was → passes_at (fits k) i (changed_at (f k) i (map (seen_in k) cs)) ≡ fits k (seen_in k now)
  judged_in i [] g = none_apart was g
  judged_in zero (c ∷ cs) g = ap (λ x. fits k (f k (seen_in k x))) (same_some g) ∙ ap (fits k) (sym e)
  judged_in (suc i) (c ∷ cs) g = judged_in i cs g

every_set : {A : Type 0} (P : A → Type 0) (xs : List A) (i : ℕ) (d : A) → P d → Every P xs → Every P (set xs i d)
every_set P [] i d h p = tt
every_set P (x ∷ xs) zero d h p = (h, p.1)
every_set P (x ∷ xs) (suc i) d h p = (p.0, every_set P xs i d h p.1)

-- ---- all slots

module _ (vertices v : ℕ) (f : Making) (was now : Content) where
  abbrev At : List Slot → ℕ → Slot → Type 0
  At ss j s = (slice_get ss j ≡ Some s) × (v < targets_of vertices s) × (seen_in (accum_of s.kind) now ≡ f (accum_of s.kind) (seen_in (accum_of s.kind) was))

  slots_changed_at : (n j : ℕ) (ss : List Slot) (s : Slot) (cs : List Content) → At ss j s → slice_get cs (target_number vertices (attached_in ss) j v) ≡ Some was
      → slots_from vertices n ss (set cs (target_number vertices (attached_in ss) j v) now) ≡ changed_at (slot_changed f v) j (slots_from vertices n ss cs)
  slots_changed_at n j [] s cs a g = none_apart s a.0
  slots_changed_at n zero (r ∷ ss) s cs a g = let t : 0 + v ≡ v = omega arith in ap₂ ◌∷◌
      (ap (λ l. with_contents n r (map (seen_in (accum_of r.kind)) l)) (ap (λ (i : ℕ). take (targets_of vertices r) (set cs i now)) t ∙ take_set_front cs v (targets_of vertices r) now within)
      ∙ ap (with_contents n r) (changed_in f (accum_of r.kind) was now (subst (λ (x : Slot). seen_in (accum_of x.kind) now ≡ f (accum_of x.kind) (seen_in (accum_of x.kind) was)) (sym is) a.2) v (take (targets_of vertices r) cs)
      (taken_get cs (targets_of vertices r) v within ∙ ap (slice_get cs) (sym t) ∙ g)))
      (ap (slots_from vertices (suc n) ss) (ap (λ (i : ℕ). drop (targets_of vertices r) (set cs i now)) t ∙ drop_set_front cs v (targets_of vertices r) now within))
    where
      is : r ≡ s
      is = same_some a.0

      within : v < targets_of vertices r
      within = subst (λ (x : Slot). v < targets_of vertices x) (sym is) a.1
  slots_changed_at n (suc j) (r ∷ ss) s cs a g = ap₂ ◌∷◌
      (ap (λ l. with_contents n r (map (seen_in (accum_of r.kind)) l)) (take_set_behind cs (targets_of vertices r) behind now (omega (arith, at))))
      (ap (slots_from vertices (suc n) ss) (ap (λ (i : ℕ). drop (targets_of vertices r) (set cs i now)) at ∙ drop_set_behind cs (targets_of vertices r) rest now)
      ∙ slots_changed_at (suc n) j ss s (drop (targets_of vertices r) cs) a (get_dropped cs (targets_of vertices r) rest ∙ ap (slice_get cs) (sym at) ∙ g))
    where
      behind : ℕ
      behind = target_number vertices (attached_in (r ∷ ss)) (suc j) v

      rest : ℕ
      rest = target_number vertices (attached_in ss) j v

      at : behind ≡ targets_of vertices r + rest
      at = omega arith

  -- the slot of the definitions, and whether its change fits
  slot_there : (n j : ℕ) (ss : List Slot) (s : Slot) (cs : List Content) → At ss j s → slice_get cs (target_number vertices (attached_in ss) j v) ≡ Some was
      → (slot : states.Slot Reference) × (slice_get (slots_from vertices n ss cs) j ≡ Some slot) × (fits_at v (slot_changed f v slot) ≡ fits (accum_of s.kind) (seen_in (accum_of s.kind) now))
  slot_there n j [] s cs a g = none_apart s a.0
  slot_there n zero (r ∷ ss) s cs a g = let t : 0 + v ≡ v = omega arith in (
    slot_seen n r (take (targets_of vertices r) cs),
    refl,
    judged_in f (accum_of r.kind) was now (subst (λ (x : Slot). seen_in (accum_of x.kind) now ≡ f (accum_of x.kind) (seen_in (accum_of x.kind) was)) (sym is) a.2) v (take (targets_of vertices r) cs)
        (taken_get cs (targets_of vertices r) v within ∙ ap (slice_get cs) (sym t) ∙ g) ∙ ap (λ (x : Slot). fits (accum_of x.kind) (seen_in (accum_of x.kind) now)) is,
  )
    where
      is : r ≡ s
      is = same_some a.0

      within : v < targets_of vertices r
      within = subst (λ (x : Slot). v < targets_of vertices x) (sym is) a.1
  slot_there n (suc j) (r ∷ ss) s cs a g = slot_there (suc n) j ss s (drop (targets_of vertices r) cs) a (get_dropped cs (targets_of vertices r) rest ∙ ap (slice_get cs) (sym at) ∙ g)
    where
      rest : ℕ
      rest = target_number vertices (attached_in ss) j v

      at : target_number vertices (attached_in (r ∷ ss)) (suc j) v ≡ targets_of vertices r + rest
      at = omega arith

  -- what holds for all contents, if it holds for the new one
  each_changed : (P : Accum → Content → Type 0) (j : ℕ) (ss : List Slot) (s : Slot) (cs : List Content) → At ss j s → P (accum_of s.kind) now → EachSlot P vertices ss cs → EachSlot P vertices ss (set cs (target_number vertices (attached_in ss) j v) now)
  each_changed P j [] s cs a h p = tt
  each_changed P zero (r ∷ ss) s cs a h p = let t : v ≡ 0 + v = omega arith in subst (λ (i : ℕ). EachSlot P vertices (r ∷ ss) (set cs i now)) t (
    subst (Every (P (accum_of r.kind))) (sym (take_set_front cs v (targets_of vertices r) now within)) (every_set (P (accum_of r.kind)) (take (targets_of vertices r) cs) v now (subst (λ (x : Slot). P (accum_of x.kind) now) (sym is) h) p.0),
    subst (EachSlot P vertices ss) (sym (drop_set_front cs v (targets_of vertices r) now within)) p.1,
  )
    where
      is : r ≡ s
      is = same_some a.0

      within : v < targets_of vertices r
      within = subst (λ (x : Slot). v < targets_of vertices x) (sym is) a.1
  each_changed P (suc j) (r ∷ ss) s cs a h p = (
    subst (Every (P (accum_of r.kind))) (sym (take_set_behind cs (targets_of vertices r) behind now (omega (arith, at)))) p.0,
    subst (EachSlot P vertices ss) (sym (ap (λ (i : ℕ). drop (targets_of vertices r) (set cs i now)) at ∙ drop_set_behind cs (targets_of vertices r) rest now)) (each_changed P j ss s (drop (targets_of vertices r) cs) a h p.1),
  )
    where
      behind : ℕ
      behind = target_number vertices (attached_in (r ∷ ss)) (suc j) v

      rest : ℕ
      rest = target_number vertices (attached_in ss) j v

      at : behind ≡ targets_of vertices r + rest
      at = omega arith

-- ---- one content

-- a value that is set is of the content's type
forms_put : (k : Accum) (v : Val) → is_settable k ≡ true → HoldsForms k (set_to k v)
forms_put (kinds.SumAccum n) v e = tt
forms_put (kinds.MinAccum n) v e = tt
forms_put (kinds.MaxAccum n) v e = tt
forms_put kinds.OrAccum v e = tt
forms_put kinds.AndAccum v e = tt
forms_put kinds.BitwiseOrAccum v e = tt
forms_put kinds.BitwiseAndAccum v e = tt
forms_put kinds.AvgAccum v e = tt
forms_put (kinds.SetAccum b) v e = absurd (cc)
forms_put (kinds.BagAccum b) v e = absurd (cc)
forms_put (kinds.ListAccum b) v e = absurd (cc)
forms_put (kinds.MapAccum b k) v e = absurd (cc)
forms_put (kinds.GroupByAccum keys ps) v e = absurd (cc)
forms_put (kinds.HeapAccum b n by) v e = absurd (cc)

forms_made : (k : Accum) (h : Holds k) (m : Made) → MaySuit k m → HoldsForms k h → HoldsForms k (making_of m k h)
forms_made k h (made.Input x) s f = forms_after k h (given x ∷ []) (ap (λ b. b && true) s) f
forms_made k h (made.Value v) s f = forms_put k (val v) s.0

room_of : (k : Accum) (c : Content) → IsSound k c → HasRoom k (seen_in k c)
room_of k c h = (1, omega arith, fed_law.fitting k (seen_in k c) h.shows.proper h.fit)

becomes_shown : (k : Accum) (m : Made) (was now : Content) → IsSound k was → MaySuit k m → Becomes m was now → Shows k now (making_of m k (seen_in k was))
becomes_shown k m was now sound suited becomes = becomes.each k (seen_in k was) sound.shows (room_of k was sound) suited

now_sound : (k : Accum) (m : Made) (was now : Content) → IsSound k was → MaySuit k m → Becomes m was now → fits k (seen_in k now) ≡ true → IsSound k now
now_sound k m was now sound suited becomes fit =
    let shown = becomes_shown k m was now sound suited becomes in
    record {
      shows = record { of_kind = shown.of_kind; holds = refl; proper = subst (IsProper k) (sym shown.holds) shown.proper };
      forms = subst (HoldsForms k) (sym shown.holds) (forms_made k (seen_in k was) m suited sound.forms);
      fit = fit;
    }

-- if the content fitted before, the check of the changed part decides for the whole
judged_whole : (k : Accum) (h : Holds k) (m : Made) → IsProper k h → fits k h ≡ true → fits_after m k (making_of m k h) ≡ fits k (making_of m k h)
judged_whole k h (made.Input x) proper fit = still_fits k h (given x) proper fit
judged_whole k h (made.Value v) proper fit = refl

-- ---- a content that isn't there

changed_past : {A : Type 0} (f : A → A) (i : ℕ) (xs : List A) → length xs ≤ i → changed_at f i xs ≡ xs
changed_past f i [] l = refl
changed_past f zero (x ∷ xs) l = absurd (omega (arith, l))
changed_past f (suc i) (x ∷ xs) l = ap (λ ys. x ∷ ys) (changed_past f i xs (omega (arith, l)))

passes_past : {A : Type 0} (p : A → Bool) (i : ℕ) (xs : List A) → length xs ≤ i → passes_at p i xs ≡ true
passes_past p i [] l = refl
passes_past p zero (x ∷ xs) l = absurd (omega (arith, l))
passes_past p (suc i) (x ∷ xs) l = passes_past p i xs (omega (arith, l))

module _ (vertices v : ℕ) (f : Making) where
  slot_stays : (n : ℕ) (r : Slot) (cs : List Content) → length cs ≤ v → slot_changed f v (slot_seen n r cs) ≡ slot_seen n r cs
  slot_stays n r cs l = ap (with_contents n r) (changed_past (f (accum_of r.kind)) v (map (seen_in (accum_of r.kind)) cs) (let m = length-map cs (seen_in (accum_of r.kind)) in omega (arith, l, m)))

  slot_passes : (n : ℕ) (r : Slot) (cs : List Content) → length cs ≤ v → fits_at v (slot_changed f v (slot_seen n r cs)) ≡ true
  slot_passes n r cs l = ap (fits_at v) (slot_stays n r cs l) ∙ passes_past (fits (accum_of r.kind)) v (map (seen_in (accum_of r.kind)) cs) (let m = length-map cs (seen_in (accum_of r.kind)) in omega (arith, l, m))

  slots_stay : (n j : ℕ) (ss : List Slot) (s : Slot) (cs : List Content) → slice_get ss j ≡ Some s → length cs ≤ target_number vertices (attached_in ss) j v
      → (slot : states.Slot Reference) × (slice_get (slots_from vertices n ss cs) j ≡ Some slot) × (fits_at v (slot_changed f v slot) ≡ true) × (slots_from vertices n ss cs ≡ changed_at (slot_changed f v) j (slots_from vertices n ss cs))
  slots_stay n j [] s cs a l = none_apart s a
  slots_stay n zero (r ∷ ss) s cs a l =
      let short : length (take (targets_of vertices r) cs) ≤ v = let m = length_taken cs (targets_of vertices r) in omega (arith, l, m) in
      (slot_seen n r (take (targets_of vertices r) cs), refl, slot_passes n r (take (targets_of vertices r) cs) short, ap (λ x. x ∷ slots_from vertices (suc n) ss (drop (targets_of vertices r) cs)) (sym (slot_stays n r (take (targets_of vertices r) cs) short)))
  slots_stay n (suc j) (r ∷ ss) s cs a l =
      let rest = slots_stay (suc n) j ss s (drop (targets_of vertices r) cs) a (length_dropped cs (targets_of vertices r) (target_number vertices (attached_in ss) j v) (omega (arith, l, at))) in
      (rest.0, rest.1, rest.2, ap (λ xs. slot_seen n r (take (targets_of vertices r) cs) ∷ xs) rest.3)
    where
      at : target_number vertices (attached_in (r ∷ ss)) (suc j) v ≡ targets_of vertices r + target_number vertices (attached_in ss) j v
      at = omega arith

pub change_stays : (old : Accums) (n v t : ℕ) (m : Made) → AreSound old → t ≡ number_of old.slots n v → MayChange old.slots n v m → length old.contents ≤ t → Changed m old old n v true
change_stays old n v t m sound is may past =
    let s = slots_stay old.slots.vertices v (making_of m) 0 n old.slots.declared may.slot old.contents may.declared (omega (arith, past, is)) in
    record { slot = s.0; stands = s.1; slots = refl; changed = s.3; judged = s.2; sound = λ e. sound }

-- ---- the accumulators

pub can_take : (old : Accums) (n v t : ℕ) (m : Made) → AreSound old → t ≡ number_of old.slots n v → MayChange old.slots n v m → (c : Content) → slice_get old.contents t ≡ Some c → CanTake m c
can_take old n v t (made.Input x) sound is may c g = tt
can_take old n v t (made.Value x) sound is may c g = record {
  kind = accum_of may.slot.kind;
  holds = seen_in (accum_of may.slot.kind) c;
  shows = (sound.each n v may.slot c may.declared may.within (ap (slice_get old.contents) (sym is) ∙ g)).shows;
  settable = may.suited.0;
  takes = may.suited.1;
}

-- a content replaced by another
record PutsOne (m : Made) (old new : Accums) (target : ℕ) (fit : Bool) : Type 0 where
  pub was : Content
  pub now : Content
  pub stood : slice_get old.contents target ≡ Some was
  pub becomes : Becomes m was now
  pub judged : Tells now fit (fits_after m)
  pub slots : new.slots ≡ old.slots
  pub contents : new.contents ≡ slice_set old.contents target now

put_is : (old new : Accums) (n v t : ℕ) (m : Made) (fit : Bool) → AreSound old → t ≡ number_of old.slots n v → MayChange old.slots n v m → PutsOne m old new t fit → Changed m old new n v fit
put_is old new n v t m fit sound is may one = record {
  slot = there.0;
  stands = there.1;
  slots = one.slots;
  changed = ap (λ (q : Slots). slots_from q.vertices 0 q.declared new.contents) one.slots ∙ ap (slots_from old.slots.vertices 0 old.slots.declared) contents
      ∙ slots_changed_at old.slots.vertices v (making_of m) one.was one.now 0 n old.slots.declared may.slot old.contents at stood;
  judged = there.2 ∙ sym fit_is;
  sound = λ e. record {
    each = subst (λ (q : Slots). EachTarget IsSound q.vertices q.declared new.contents) (sym one.slots)
        (subst (EachTarget IsSound old.slots.vertices old.slots.declared) (sym contents)
        (targets_of_slots IsSound old.slots.vertices old.slots.declared (set old.contents (number_of old.slots n v) one.now)
        (each_changed old.slots.vertices v (making_of m) one.was one.now IsSound n old.slots.declared may.slot old.contents at
        (now_sound k m one.was one.now was_sound may.suited one.becomes (sym fit_is ∙ e))
        (slots_of_targets IsSound old.slots.vertices old.slots.declared old.contents sound.each))));
  };
}
  where
    k : Accum
    k = accum_of may.slot.kind

    stood : slice_get old.contents (number_of old.slots n v) ≡ Some one.was
    stood = ap (slice_get old.contents) (sym is) ∙ one.stood

    contents : new.contents ≡ set old.contents (number_of old.slots n v) one.now
    contents = one.contents ∙ ap (λ (i : ℕ). set old.contents i one.now) is

    was_sound : IsSound (accum_of may.slot.kind) one.was
    was_sound = sound.each n v may.slot one.was may.declared may.within stood

    shown : Shows (accum_of may.slot.kind) one.now (making_of m (accum_of may.slot.kind) (seen_in (accum_of may.slot.kind) one.was))
    shown = becomes_shown (accum_of may.slot.kind) m one.was one.now was_sound may.suited one.becomes

    at : (slice_get old.slots.declared n ≡ Some may.slot) × (v < targets_of old.slots.vertices may.slot) × (seen_in (accum_of may.slot.kind) one.now ≡ making_of m (accum_of may.slot.kind) (seen_in (accum_of may.slot.kind) one.was))
    at = (may.declared, may.within, shown.holds)

    fit_is : fit ≡ fits (accum_of may.slot.kind) (seen_in (accum_of may.slot.kind) one.now)
    fit_is = one.judged.each (accum_of may.slot.kind) (seen_in (accum_of may.slot.kind) one.now) (record { of_kind = shown.of_kind; holds = refl; proper = subst (IsProper (accum_of may.slot.kind)) (sym shown.holds) shown.proper })
        ∙ subst (λ (h : Holds (accum_of may.slot.kind)). fits_after m (accum_of may.slot.kind) h ≡ fits (accum_of may.slot.kind) h) (sym shown.holds)
        (judged_whole (accum_of may.slot.kind) (seen_in (accum_of may.slot.kind) one.was) m was_sound.shows.proper was_sound.fit)

    there : (slot : states.Slot Reference) × (slice_get (slots_are old) n ≡ Some slot) × (fits_at v (slot_changed (making_of m) v slot) ≡ fits (accum_of may.slot.kind) (seen_in (accum_of may.slot.kind) one.now))
    there = slot_there old.slots.vertices v (making_of m) one.was one.now 0 n old.slots.declared may.slot old.contents at stood

pub changed_is : (old new : Accums) (n v t : ℕ) (m : Made) (fit : Bool) → AreSound old → t ≡ number_of old.slots n v → MayChange old.slots n v m → ChangesOne m old new t fit → Changed m old new n v fit
changed_is old new n v t m fit sound is may one =
    let h = one.changes in
    let middle : Accums = record { slots = old.slots; contents = h.middle } in
    let copy = copied_sound old middle sound refl h.same in
    let put = put_is middle new n v t m fit copy.1 is may (record { was = h.was; now = h.now; stood = h.stood; becomes = h.becomes; judged = one.judged; slots = one.slots; contents = h.contents }) in
    record {
      slot = put.slot;
      stands = ap (λ l. slice_get l n) (sym copy.0) ∙ put.stands;
      slots = put.slots;
      changed = put.changed ∙ ap (changed_at (slot_changed (making_of m) v) n) copy.0;
      judged = put.judged;
      sound = put.sound;
    }

-- ---- changes by the code

get_set : (cs : List Content) (i : ℕ) (c w : Content) → slice_get cs i ≡ Some c → slice_get (slice_set cs i w) i ≡ Some w
get_set [] i c w g = none_apart c g
get_set (d ∷ cs) zero c w g = refl
get_set (d ∷ cs) (suc i) c w g = get_set cs i c w g

below : (cs : List Content) (i : ℕ) (c : Content) → slice_get cs i ≡ Some c → i < length cs
below [] i c g = none_apart c g
below (d ∷ cs) zero c g = omega arith
below (d ∷ cs) (suc i) c g = let l = below cs i c g in omega (arith, l)

module _ {R : Content → Content → Type 0} {t : ℕ} {old new : List Content} (h : ChangesAt R t old new) where
  now_there : slice_get new t ≡ Some h.now
  now_there = ap (λ cs. slice_get cs t) h.contents ∙ get_set h.middle t h.was h.now h.stood

  pub within_new : t < length new
  within_new = below new t h.now now_there

input_made : (m : Made) (x : Input) (t : ℕ) (old new : List Content) → m ≡ made.Input x → ChangesAt (Takes (given x)) t old new → ChangesAt (Becomes m) t old new
input_made m x t old new e h = subst (λ (n : Made). ChangesAt (Becomes n) t old new) (sym e) (record {
  middle = h.middle;
  same = h.same;
  was = h.was;
  now = h.now;
  stood = h.stood;
  becomes = record { each = λ k d shows room suit. h.becomes.each k d shows room suit };
  contents = h.contents;
})

value_made : (m : Made) (v : Value) (t : ℕ) (old new : List Content) → m ≡ made.Value v → ChangesAt (SetsTo (val v)) t old new → ChangesAt (Becomes m) t old new
value_made m v t old new e h = subst (λ (n : Made). ChangesAt (Becomes n) t old new) (sym e) (record {
  middle = h.middle;
  same = h.same;
  was = h.was;
  now = h.now;
  stood = h.stood;
  becomes = record { each = λ k d shows room suit. h.becomes.each k d shows };
  contents = h.contents;
})

one_made : (m : Made) (old : Accums) (cs : List Content) (t : ℕ) (fit : Bool) (c : Content) → ChangesAt (Becomes m) t old.contents cs → slice_get cs t ≡ Some c → Tells c fit (fits_after m) → ChangesOne m old (record { slots = old.slots; contents = cs }) t fit
one_made m old cs t fit c h g judged = record {
  changes = h;
  judged = subst (λ x. Tells x fit (fits_after m)) (same_some (sym g ∙ now_there h)) judged;
  slots = refl;
}

pub input_put : (m : Made) (x : Input) (old : Accums) (cs : List Content) (t : ℕ) (fit : Bool) (c : Content) → m ≡ made.Input x → ChangesAt (Takes (given x)) t old.contents cs → slice_get cs t ≡ Some c → Tells c fit (λ k h. fits_where k h (given x))
    → ChangesOne m old (record { slots = old.slots; contents = cs }) t fit
input_put m x old cs t fit c e h g judged = one_made m old cs t fit c (input_made m x t old.contents cs e h) g (subst (λ (n : Made). Tells c fit (fits_after n)) (sym e) judged)

pub value_put : (m : Made) (v : Value) (old : Accums) (cs : List Content) (t : ℕ) (fit : Bool) (c : Content) → m ≡ made.Value v → ChangesAt (SetsTo (val v)) t old.contents cs → slice_get cs t ≡ Some c → Tells c fit fits
    → ChangesOne m old (record { slots = old.slots; contents = cs }) t fit
value_put m v old cs t fit c e h g judged = one_made m old cs t fit c (value_made m v t old.contents cs e h) g (subst (λ (n : Made). Tells c fit (fits_after n)) (sym e) judged)

pub allows_put : (m : Made) (v : Value) (t : ℕ) (cs : List Content) → m ≡ made.Value v → ((c : Content) → slice_get cs t ≡ Some c → CanTake m c) → AllowsAt (val v) t cs
allows_put m v t cs e h = λ c g. subst (λ (n : Made). CanTake n c) e (h c g)

pub ruleset change_laws = (can_take, changed_is, change_stays)

pub ruleset put_laws = (input_put, value_put, allows_put, within_new)
