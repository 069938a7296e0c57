-- CopyLemmas: accumulators whose contents show what those of others show.
use Rattle.std.proofs.Common.{◌≡◌, ℕ, zero, suc, List, [], ◌∷◌, take, drop, map, refl, sym, ap, ap₂, ◌∙◌, subst}
use Rattle.gq_value.specs.declared.kind.Slot.{Slot}
use Rattle.gq_value.specs.Accums.{Accum}
use Rattle.gq_value.specs.AccumViews.{accum_of}
use Rattle.gq_accum_laws.specs.Holds.{Holds}
use Rattle.gq_accum_laws.specs.Fits.{Fed, IsProper, fits}
use Rattle.gq_nest.specs.declared.content.Content.{Content}
use Rattle.gq_nest.specs.Shows.{Shows}
use Rattle.gq_frame.specs.declared.slots.Slots.{Slots}
use Rattle.gq_frame.specs.declared.accums.Accums.{Accums}
use Rattle.gq_frame.specs.Targets.{targets_of, ShowTheSame}
use Rattle.gq_eval_operand.specs.Sound.{HoldsForms, IsSound}
use Rattle.gq_frame.specs.Slots.{slots_from, slots_are, AreSound}
use Rattle.gq_exec_feed.specs.Feeding.{IsFed, AreFed}
use Rattle.gq_exec_feed.proofs.FitLemmas.{sound_fed}
use Rattle.gq_exec_feed.proofs.SlotLemmas.{Every, EachSlot, EachTarget, seen_in, with_contents, slots_of_targets, targets_of_slots}

same_taken : (n : ℕ) (cs ds : List Content) → ShowTheSame cs ds → ShowTheSame (take n cs) (take n ds)
same_taken zero cs ds s = tt
same_taken (suc n) [] [] s = tt
same_taken (suc n) [] (d ∷ ds) s = absurd s
same_taken (suc n) (c ∷ cs) [] s = absurd s
same_taken (suc n) (c ∷ cs) (d ∷ ds) s = (s.0, same_taken n cs ds s.1)

same_dropped : (n : ℕ) (cs ds : List Content) → ShowTheSame cs ds → ShowTheSame (drop n cs) (drop n ds)
same_dropped zero cs ds s = s
same_dropped (suc n) [] [] s = tt
same_dropped (suc n) [] (d ∷ ds) s = absurd s
same_dropped (suc n) (c ∷ cs) [] s = absurd s
same_dropped (suc n) (c ∷ cs) (d ∷ ds) s = same_dropped n cs ds s.1

shown_as : (k : Accum) (d : Content) (h : Holds k) → Shows k d h → Shows k d (seen_in k d)
shown_as k d h w = record { of_kind = w.of_kind; holds = refl; proper = subst (IsProper k) (sym w.holds) w.proper }

-- a property of what contents show holds for a content that shows the same
module _ (P : Accum → Content → Type 0) (shows : (k : Accum) (c : Content) → P k c → Shows k c (seen_in k c)) (carries : (k : Accum) (c d : Content) → P k c → Shows k d (seen_in k c) → P k d) where
  same_contents : (k : Accum) (cs ds : List Content) → ShowTheSame cs ds → Every (P k) cs → (map (seen_in k) ds ≡ map (seen_in k) cs) × Every (P k) ds
  same_contents k [] [] s p = (refl, tt)
  same_contents k [] (d ∷ ds) s p = absurd s
  same_contents k (c ∷ cs) [] s p = absurd s
  same_contents k (c ∷ cs) (d ∷ ds) s p =
      let shown = s.0.each k (seen_in k c) (shows k c p.0) in
      let rest = same_contents k cs ds s.1 p.1 in
      (ap₂ ◌∷◌ shown.holds rest.0, (carries k c d p.0 shown, rest.1))

  same_slots : (vertices n : ℕ) (ss : List Slot) (cs ds : List Content) → ShowTheSame cs ds → EachSlot P vertices ss cs → (slots_from vertices n ss ds ≡ slots_from vertices n ss cs) × EachSlot P vertices ss ds
  same_slots vertices n [] cs ds s p = (refl, tt)
  same_slots vertices n (r ∷ ss) cs ds s p =
      let t = targets_of vertices r in
      let first = same_contents (accum_of r.kind) (take t cs) (take t ds) (same_taken t cs ds s) p.0 in
      let rest = same_slots vertices (suc n) ss (drop t cs) (drop t ds) (same_dropped t cs ds s) p.1 in
      (ap₂ ◌∷◌ (ap (with_contents n r) first.0) rest.0, (first.1, rest.1))

  same_accums : (a b : Accums) → EachTarget P a.slots.vertices a.slots.declared a.contents → b.slots ≡ a.slots → ShowTheSame a.contents b.contents
      → (slots_are b ≡ slots_are a) × EachTarget P b.slots.vertices b.slots.declared b.contents
  same_accums a b each e same = (
    ap (λ (q : Slots). slots_from q.vertices 0 q.declared b.contents) e ∙ all.0,
    subst (λ (q : Slots). EachTarget P q.vertices q.declared b.contents) (sym e) (targets_of_slots P a.slots.vertices a.slots.declared b.contents all.1),
  )
    where
      all : (slots_from a.slots.vertices 0 a.slots.declared b.contents ≡ slots_are a) × EachSlot P a.slots.vertices a.slots.declared b.contents
      all = same_slots a.slots.vertices 0 a.slots.declared a.contents b.contents same (slots_of_targets P a.slots.vertices a.slots.declared a.contents each)

fed_carries : (f : ℕ) (k : Accum) (c d : Content) → IsFed k f c → Shows k d (seen_in k c) → IsFed k f d
fed_carries f k c d h w = record {
  shows = shown_as k d (seen_in k c) w;
  forms = subst (HoldsForms k) (sym w.holds) h.forms;
  fed = subst (λ v. Fed k v f) (sym w.holds) h.fed;
}

sound_carries : (k : Accum) (c d : Content) → IsSound k c → Shows k d (seen_in k c) → IsSound k d
sound_carries k c d h w = record {
  shows = shown_as k d (seen_in k c) w;
  forms = subst (HoldsForms k) (sym w.holds) h.forms;
  fit = ap (fits k) w.holds ∙ h.fit;
}

pub copied_fed : (f : ℕ) (a b : Accums) → AreFed f a → b.slots ≡ a.slots → ShowTheSame a.contents b.contents → (slots_are b ≡ slots_are a) × AreFed f b
copied_fed f a b fed e same =
    let s = same_accums (λ k c. IsFed k f c) (λ k c h. h.shows) (fed_carries f) a b fed.each e same in
    (s.0, record { each = s.1 })

pub copied_sound : (a b : Accums) → AreSound a → b.slots ≡ a.slots → ShowTheSame a.contents b.contents → (slots_are b ≡ slots_are a) × AreSound b
copied_sound a b sound e same =
    let s = same_accums IsSound (λ k c h. h.shows) sound_carries a b sound.each e same in
    (s.0, record { each = s.1 })

pub copied : (a b : Accums) → AreSound a → b.slots ≡ a.slots → ShowTheSame a.contents b.contents → (slots_are b ≡ slots_are a) × AreFed 1 b
copied a b sound e same = let s = copied_sound a b sound e same in (s.0, sound_fed b s.1)
