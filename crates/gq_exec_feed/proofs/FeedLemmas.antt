-- FeedLemmas: accumulators after a contribution, and after a batch.
use Rattle.std.proofs.Common.{if◌then◌else◌, ◌≡◌, ◌≢◌, ℕ, zero, suc, ◌+◌, ◌^◌, ◌<◌, ◌≤◌, ◌==◌, ◌&&◌, Bool, true, false, List, [], ◌∷◌, take, drop, length, map, set, get_or, slice_get, slice_set, Option, Some, None, refl, sym, ap, ap₂, ◌∙◌, subst, arith, eq-eqb, ne_eqb}
use Rattle.std.specs.List.{All}
use Rattle.std.proofs.lemmas.List.Elements.{All-head, All-tail}
use Rattle.gq_value.specs.declared.kind.Input.{Input}
use Rattle.gq_value.specs.declared.kind.Slot.{Slot}
use Rattle.gq_value.specs.Accums.{Accum, Given}
use Rattle.gq_value.specs.AccumViews.{accum_of, given}
use Rattle.gq_value.specs.Typed.{suits}
use Rattle.gq_accum_laws.specs.After.{after}
use Rattle.gq_accum_laws.specs.Fits.{Fed, IsProper}
use Rattle.gq_accum_laws.specs.Targets.{target_number}
use Rattle.gq_accum_laws.proofs.ProperLaws.{after_none}
use Rattle.gq_accum_laws.proofs.FedLaws.{fed_law, fed_after}
use Rattle.gq_nest.specs.declared.content.Content.{Content}
use Rattle.gq_nest.specs.Shows.{Shows, TakesInput}
use Rattle.gq_frame.specs.declared.slots.Slots.{Slots}
use Rattle.gq_frame.specs.declared.accums.Accums.{Accums}
use Rattle.gq_frame.specs.Targets.{attached_in, targets_of, number_of}
use Rattle.gq_rules_meaning.specs.Blocks.{Contribution, inputs_to, contents_after, slots_after}
use Rattle.gq_eval_operand.specs.Sound.{HoldsForms}
use Rattle.gq_frame.specs.Slots.{slots_from, slots_are}
use Rattle.gq_exec_feed.specs.Taking.{MayTake, targeted, as_given, AreBatched}
use Rattle.gq_exec_feed.specs.Feeding.{IsFed, AreFed, AreAfter, TakesBatch}
use Rattle.gq_exec_feed.specs.Steps.{TakesOne}
use Rattle.gq_exec_feed.proofs.CopyLemmas.{copied_fed}
use Rattle.gq_exec_feed.proofs.FormLemmas.{forms_after}
use Rattle.gq_exec_feed.proofs.PlaceLemmas.{same_some, none_apart, length_taken, length_dropped, past_end, within_end, take_set_front, drop_set_front, take_set_behind, drop_set_behind, taken_get, get_dropped, get_some, drop_item, drop_all}
use Rattle.gq_exec_feed.proofs.SlotLemmas.{Every, EachSlot, EachTarget, Proper, seen_in, with_contents, every_map, slots_of_targets, targets_of_slots, slots_map, contents_same, slots_same, slots_append}

-- ---- targets of contributions

here : (c : Contribution) (n w : ℕ) → c.slot ≡ n → c.vertex ≡ w → inputs_to n w (c ∷ []) ≡ c.input ∷ []
here c n w e d = ap₂ (λ a b. if a && b then c.input ∷ [] else []) (eq-eqb c.slot n e) (eq-eqb c.vertex w d)

other_vertex : (c : Contribution) (n w : ℕ) → c.vertex ≢ w → inputs_to n w (c ∷ []) ≡ []
other_vertex c n w ne = ap (λ b. if (c.slot == n) && b then c.input ∷ [] else []) (ne_eqb c.vertex w ne) ∙ none (c.slot == n)
  where
    none : (b : Bool) → (if b && false then c.input ∷ [] else []) ≡ []
    none true = refl
    none false = refl

other_slot : (c : Contribution) (n w : ℕ) → c.slot ≢ n → inputs_to n w (c ∷ []) ≡ []
other_slot c n w ne = ap (λ b. if b && (c.vertex == w) then c.input ∷ [] else []) (ne_eqb c.slot n ne)

every_set : {A : Type 0} (P : A → Type 0) (xs : List A) (i : ℕ) (d : A) → P d → Every P xs → Every P (set xs i d)
every_set P [] i d h p = tt
every_set P (x ∷ xs) zero d h p = (h, p.1)
every_set P (x ∷ xs) (suc i) d h p = (p.0, every_set P xs i d h p.1)

-- ---- one content replaced

module _ (vertices f : ℕ) (c : Contribution) (was now : Content) where
  -- the content at the target, by the kind of its slot
  abbrev Becomes : Accum → Type 0
  Becomes k = (seen_in k now ≡ after k (seen_in k was) (c.input ∷ [])) × IsFed k (suc f) now

  own_contents : (k : Accum) (n w i : ℕ) (cs : List Content) → c.slot ≡ n → c.vertex ≡ w + i → slice_get cs i ≡ Some was → Becomes k → Every (Proper k) cs
      → map (seen_in k) (set cs i now) ≡ contents_after k n (c ∷ []) w (map (seen_in k) cs)
  own_contents k n w i [] e d g b p = none_apart was g
  own_contents k n w zero (x ∷ cs) e d g b p = ap₂ ◌∷◌
      (b.0 ∙ ap (λ y. after k (seen_in k y) (c.input ∷ [])) (sym (same_some g)) ∙ ap (after k (seen_in k x)) (sym (here c n w e (omega (arith, d)))))
      (sym (contents_same k n (c ∷ []) (suc w) cs (λ u l. other_vertex c n u (λ q. absurd (omega (arith, q, d, l)))) p.1))
  own_contents k n w (suc i) (x ∷ cs) e d g b p = ap₂ ◌∷◌
      (sym (ap (after k (seen_in k x)) (other_vertex c n w (λ q. absurd (omega (arith, q, d)))) ∙ after_none k (seen_in k x) p.0))
      (own_contents k n (suc w) i cs e (omega (arith, d)) g b p.1)

  abbrev At : List Slot → ℕ → Slot → Type 0
  At ss j s = (slice_get ss j ≡ Some s) × (c.vertex < targets_of vertices s) × Becomes (accum_of s.kind)

  slots_one : (n j : ℕ) (ss : List Slot) (s : Slot) (cs : List Content) → c.slot ≡ n + j → At ss j s → slice_get cs (target_number vertices (attached_in ss) j c.vertex) ≡ Some was → EachSlot Proper vertices ss cs
      → slots_from vertices n ss (set cs (target_number vertices (attached_in ss) j c.vertex) now) ≡ slots_after (c ∷ []) n (slots_from vertices n ss cs)
  slots_one n j [] s cs e a g p = none_apart s a.0
  slots_one n zero (r ∷ ss) s cs e a g p = let t : 0 + c.vertex ≡ c.vertex = omega arith in ap₂ ◌∷◌
      (ap (λ l. with_contents n r (map (seen_in (accum_of r.kind)) l)) (ap (λ (i : ℕ). take (targets_of vertices r) (set cs i now)) t ∙ take_set_front cs c.vertex (targets_of vertices r) now within)
      ∙ ap (with_contents n r) (own_contents (accum_of r.kind) n 0 c.vertex (take (targets_of vertices r) cs) (omega (arith, e)) (omega arith)
      (taken_get cs (targets_of vertices r) c.vertex within ∙ ap (slice_get cs) (sym t) ∙ g) (subst (λ (x : Slot). Becomes (accum_of x.kind)) (sym is) a.2) p.0))
      (ap (slots_from vertices (suc n) ss) (ap (λ (i : ℕ). drop (targets_of vertices r) (set cs i now)) t ∙ drop_set_front cs c.vertex (targets_of vertices r) now within)
      ∙ sym (slots_same vertices (suc n) (c ∷ []) ss (drop (targets_of vertices r) cs) (λ m w l. other_slot c m w (λ q. absurd (omega (arith, q, e, l)))) p.1))
    where
      is : r ≡ s
      is = same_some a.0

      within : c.vertex < targets_of vertices r
      within = subst (λ (x : Slot). c.vertex < targets_of vertices x) (sym is) a.1
  slots_one n (suc j) (r ∷ ss) s cs e a g p = ap₂ ◌∷◌
      (ap (λ l. with_contents n r (map (seen_in (accum_of r.kind)) l)) (take_set_behind cs (targets_of vertices r) behind now (omega (arith, at)))
      ∙ sym (ap (with_contents n r) (contents_same (accum_of r.kind) n (c ∷ []) 0 (take (targets_of vertices r) cs) (λ w l. other_slot c n w (λ q. absurd (omega (arith, q, e)))) p.0)))
      (ap (slots_from vertices (suc n) ss) (ap (λ (i : ℕ). drop (targets_of vertices r) (set cs i now)) at ∙ drop_set_behind cs (targets_of vertices r) rest now)
      ∙ slots_one (suc n) j ss s (drop (targets_of vertices r) cs) (omega (arith, e)) a (get_dropped cs (targets_of vertices r) rest ∙ ap (slice_get cs) (sym at) ∙ g) p.1)
    where
      behind : ℕ
      behind = target_number vertices (attached_in (r ∷ ss)) (suc j) c.vertex

      rest : ℕ
      rest = target_number vertices (attached_in ss) j c.vertex

      at : behind ≡ targets_of vertices r + rest
      at = omega arith

  fed_one : (j : ℕ) (ss : List Slot) (s : Slot) (cs : List Content) → At ss j s → EachSlot (λ k x. IsFed k f x) vertices ss cs
      → EachSlot (λ k x. IsFed k (suc f) x) vertices ss (set cs (target_number vertices (attached_in ss) j c.vertex) now)
  fed_one j [] s cs a p = tt
  fed_one zero (r ∷ ss) s cs a p = let t : c.vertex ≡ 0 + c.vertex = omega arith in subst (λ (i : ℕ). EachSlot (λ k x. IsFed k (suc f) x) vertices (r ∷ ss) (set cs i now)) t (
    subst (Every (IsFed (accum_of r.kind) (suc f))) (sym (take_set_front cs c.vertex (targets_of vertices r) now within))
        (every_set (IsFed (accum_of r.kind) (suc f)) (take (targets_of vertices r) cs) c.vertex now (subst (λ (x : Slot). IsFed (accum_of x.kind) (suc f) now) (sym is) a.2.1) (every_map (IsFed (accum_of r.kind) f) (IsFed (accum_of r.kind) (suc f)) (further (accum_of r.kind)) (take (targets_of vertices r) cs) p.0)),
    subst (EachSlot (λ k x. IsFed k (suc f) x) vertices ss) (sym (drop_set_front cs c.vertex (targets_of vertices r) now within)) (slots_map (λ k x. IsFed k f x) (λ k x. IsFed k (suc f) x) further vertices ss (drop (targets_of vertices r) cs) p.1),
  )
    where
      is : r ≡ s
      is = same_some a.0

      within : c.vertex < targets_of vertices r
      within = subst (λ (x : Slot). c.vertex < targets_of vertices x) (sym is) a.1

      further : (k : Accum) (x : Content) → IsFed k f x → IsFed k (suc f) x
      further k x h = record { shows = h.shows; forms = h.forms; fed = fed_law.more k (seen_in k x) f (suc f) (omega arith) h.fed }
  fed_one (suc j) (r ∷ ss) s cs a p = (
    subst (Every (IsFed (accum_of r.kind) (suc f))) (sym (take_set_behind cs (targets_of vertices r) behind now (omega (arith, at)))) (every_map (IsFed (accum_of r.kind) f) (IsFed (accum_of r.kind) (suc f)) (further (accum_of r.kind)) (take (targets_of vertices r) cs) p.0),
    subst (EachSlot (λ k x. IsFed k (suc f) x) vertices ss) (sym (ap (λ (i : ℕ). drop (targets_of vertices r) (set cs i now)) at ∙ drop_set_behind cs (targets_of vertices r) rest now)) (fed_one j ss s (drop (targets_of vertices r) cs) a p.1),
  )
    where
      behind : ℕ
      behind = target_number vertices (attached_in (r ∷ ss)) (suc j) c.vertex

      rest : ℕ
      rest = target_number vertices (attached_in ss) j c.vertex

      at : behind ≡ targets_of vertices r + rest
      at = omega arith

      further : (k : Accum) (x : Content) → IsFed k f x → IsFed k (suc f) x
      further k x h = record { shows = h.shows; forms = h.forms; fed = fed_law.more k (seen_in k x) f (suc f) (omega arith) h.fed }

-- ---- the accumulators after one contribution

proper_of : (k : Accum) (f : ℕ) (c : Content) → IsFed k f c → Proper k c
proper_of k f c h = h.shows.proper

-- a content after an input
taken : (k : Accum) (f : ℕ) (was now : Content) (y : Given) → IsFed k f was → f < 2 ^ 62 → suits k y ≡ true → TakesInput was y now → (seen_in k now ≡ after k (seen_in k was) (y ∷ [])) × IsFed k (suc f) now
taken k f was now y h few suited takes = (
  shows.holds,
  record {
    shows = record { of_kind = shows.of_kind; holds = refl; proper = subst (IsProper k) (sym shows.holds) shows.proper };
    forms = subst (HoldsForms k) (sym shows.holds) (forms_after k (seen_in k was) (y ∷ []) all h.forms);
    fed = subst (λ v. Fed k v (suc f)) (sym shows.holds) (let e : f + 1 ≡ suc f = omega arith in subst (Fed k (after k (seen_in k was) (y ∷ []))) e (fed_after k (seen_in k was) f (y ∷ []) all h.fed));
  },
)
  where
    shows : Shows k now (after k (seen_in k was) (y ∷ []))
    shows = takes.each k (seen_in k was) h.shows (f, few, h.fed) suited

    all : (suits k y && true) ≡ true
    all = ap (λ b. b && true) suited

-- accumulators with other contents
abbrev with_all : Accums → List Content → Accums
with_all a cs = record { slots = a.slots; contents = cs }

one_put : (f : ℕ) (old new : Accums) (x : Contribution) (t : ℕ) (was now : Content) → AreFed f old → f < 2 ^ 62 → MayTake old.slots x → t ≡ number_of old.slots x.slot x.vertex → slice_get old.contents t ≡ Some was → TakesInput was x.input now
    → new.slots ≡ old.slots → new.contents ≡ slice_set old.contents t now → (slots_are new ≡ slots_after (x ∷ []) 0 (slots_are old)) × AreFed (suc f) new
one_put f old new x t was now fed few may e there takes same_slots put = (shown, fed_then)
  where
    each : EachSlot (λ k c. IsFed k f c) old.slots.vertices old.slots.declared old.contents
    each = slots_of_targets (λ k c. IsFed k f c) old.slots.vertices old.slots.declared old.contents fed.each

    stood : slice_get old.contents (number_of old.slots x.slot x.vertex) ≡ Some was
    stood = ap (slice_get old.contents) (sym e) ∙ there

    becomes : (seen_in (accum_of may.slot.kind) now ≡ after (accum_of may.slot.kind) (seen_in (accum_of may.slot.kind) was) (x.input ∷ [])) × IsFed (accum_of may.slot.kind) (suc f) now
    becomes = taken (accum_of may.slot.kind) f was now x.input (fed.each x.slot x.vertex may.slot was may.declared may.within stood) few may.suited takes

    contents : new.contents ≡ set old.contents (number_of old.slots x.slot x.vertex) now
    contents = put ∙ ap (λ (i : ℕ). set old.contents i now) e

    shown : slots_are new ≡ slots_after (x ∷ []) 0 (slots_are old)
    shown = ap (λ (q : Slots). slots_from q.vertices 0 q.declared new.contents) same_slots ∙ ap (slots_from old.slots.vertices 0 old.slots.declared) contents
        ∙ slots_one old.slots.vertices f x was now 0 x.slot old.slots.declared may.slot old.contents (omega arith) (may.declared, may.within, becomes) stood
        (slots_map (λ k c. IsFed k f c) Proper (λ k c h. proper_of k f c h) old.slots.vertices old.slots.declared old.contents each)

    fed_then : AreFed (suc f) new
    fed_then = record {
      each = subst (λ (q : Slots). EachTarget (λ k c. IsFed k (suc f) c) q.vertices q.declared new.contents) (sym same_slots)
          (subst (EachTarget (λ k c. IsFed k (suc f) c) old.slots.vertices old.slots.declared) (sym contents)
          (targets_of_slots (λ k c. IsFed k (suc f) c) old.slots.vertices old.slots.declared (set old.contents (number_of old.slots x.slot x.vertex) now)
          (fed_one old.slots.vertices f x was now x.slot old.slots.declared may.slot old.contents (may.declared, may.within, becomes) each)));
    }

-- ---- no such target

module _ (c : Contribution) where
  contents_past : (k : Accum) (n w : ℕ) (cs : List Content) → w + length cs ≤ c.vertex → Every (Proper k) cs → map (seen_in k) cs ≡ contents_after k n (c ∷ []) w (map (seen_in k) cs)
  contents_past k n w [] l p = refl
  contents_past k n w (x ∷ cs) l p = ap₂ ◌∷◌
      (sym (ap (after k (seen_in k x)) (other_vertex c n w (λ q. absurd (omega (arith, q, l)))) ∙ after_none k (seen_in k x) p.0))
      (contents_past k n (suc w) cs (omega (arith, l)) p.1)

  slots_past : (vertices n j : ℕ) (ss : List Slot) (s : Slot) (cs : List Content) → c.slot ≡ n + j → slice_get ss j ≡ Some s → length cs ≤ target_number vertices (attached_in ss) j c.vertex → EachSlot Proper vertices ss cs
      → slots_from vertices n ss cs ≡ slots_after (c ∷ []) n (slots_from vertices n ss cs)
  slots_past vertices n j [] s cs e a l p = none_apart s a
  slots_past vertices n zero (r ∷ ss) s cs e a l p = ap₂ ◌∷◌
      (ap (with_contents n r) (contents_past (accum_of r.kind) n 0 (take (targets_of vertices r) cs) (let m = length_taken cs (targets_of vertices r) in omega (arith, l, m)) p.0))
      (sym (slots_same vertices (suc n) (c ∷ []) ss (drop (targets_of vertices r) cs) (λ m w h. other_slot c m w (λ q. absurd (omega (arith, q, e, h)))) p.1))
  slots_past vertices n (suc j) (r ∷ ss) s cs e a l p = ap₂ ◌∷◌
      (sym (ap (with_contents n r) (contents_same (accum_of r.kind) n (c ∷ []) 0 (take (targets_of vertices r) cs) (λ w h. other_slot c n w (λ q. absurd (omega (arith, q, e)))) p.0)))
      (slots_past vertices (suc n) j ss s (drop (targets_of vertices r) cs) (omega (arith, e)) a (length_dropped cs (targets_of vertices r) (target_number vertices (attached_in ss) j c.vertex) (omega (arith, l, at))) p.1)
    where
      at : target_number vertices (attached_in (r ∷ ss)) (suc j) c.vertex ≡ targets_of vertices r + target_number vertices (attached_in ss) j c.vertex
      at = omega arith

none_put : (f : ℕ) (old new : Accums) (x : Contribution) (t : ℕ) → AreFed f old → MayTake old.slots x → t ≡ number_of old.slots x.slot x.vertex → length old.contents ≤ t
    → new.slots ≡ old.slots → new.contents ≡ old.contents → (slots_are new ≡ slots_after (x ∷ []) 0 (slots_are old)) × AreFed (suc f) new
none_put f old new x t fed may e past same_slots stays = (shown, fed_then)
  where
    same : new ≡ old
    same = λ i. record { slots = same_slots i; contents = stays i }

    shown : slots_are new ≡ slots_after (x ∷ []) 0 (slots_are old)
    shown = ap slots_are same ∙ slots_past x old.slots.vertices 0 x.slot old.slots.declared may.slot old.contents (omega arith) may.declared (omega (arith, past, e))
        (slots_map (λ k c. IsFed k f c) Proper (λ k c h. proper_of k f c h) old.slots.vertices old.slots.declared old.contents
        (slots_of_targets (λ k c. IsFed k f c) old.slots.vertices old.slots.declared old.contents fed.each))

    fed_then : AreFed (suc f) new
    fed_then = subst (AreFed (suc f)) (sym same) (record {
      each = λ n v s c d l g. let h = fed.each n v s c d l g in record { shows = h.shows; forms = h.forms; fed = fed_law.more (accum_of s.kind) (seen_in (accum_of s.kind) c) f (suc f) (omega arith) h.fed };
    })

one_after : (f : ℕ) (old mid : Accums) (x : Contribution) (t : ℕ) (y : Given) → AreFed f old → f < 2 ^ 62 → MayTake old.slots x → t ≡ number_of old.slots x.slot x.vertex → y ≡ x.input → TakesOne old mid t y
    → (mid.slots ≡ old.slots) × (slots_are mid ≡ slots_after (x ∷ []) 0 (slots_are old)) × AreFed (suc f) mid
one_after f old mid x t y fed few may e d takes = by (slice_get old.contents t) refl
  where
    by : (o : Option Content) → slice_get old.contents t ≡ o → (mid.slots ≡ old.slots) × (slots_are mid ≡ slots_after (x ∷ []) 0 (slots_are old)) × AreFed (suc f) mid
    by None g = let put = none_put f old mid x t fed may e (past_end old.contents t g) takes.slots (takes.stays (past_end old.contents t g)) in (takes.slots, put.0, put.1)
    by (Some c) g =
        let change = takes.takes (within_end old.contents t c g) in
        let middle = with_all old change.middle in
        let copy = copied_fed f old middle fed refl change.same in
        let put = one_put f middle mid x t change.was change.now copy.1 few may e change.stood (subst (λ z. TakesInput change.was z change.now) d change.becomes) takes.slots change.contents in
        (takes.slots, put.0 ∙ ap (slots_after (x ∷ []) 0) copy.0, put.1)

-- ---- a batch, from its first input to its last

abbrev pub Chain : Accums → List (ℕ × Input) → Accums → Type 0
Chain old [] new = new ≡ old
Chain old (b ∷ bs) new = (mid : Accums) × TakesOne old mid b.0 (given b.1) × Chain mid bs new

pub none_after : (f : ℕ) (old : Accums) → AreFed f old → AreAfter f old old []
none_after f old fed = record {
  slots = refl;
  after = sym (slots_same old.slots.vertices 0 [] old.slots.declared old.contents (λ m w l. refl)
      (slots_map (λ k c. IsFed k f c) Proper (λ k c h. proper_of k f c h) old.slots.vertices old.slots.declared old.contents (slots_of_targets (λ k c. IsFed k f c) old.slots.vertices old.slots.declared old.contents fed.each)));
  fed = let e : f ≡ f + 0 = omega arith in subst (λ (n : ℕ). AreFed n old) e fed;
}

joined : (f : ℕ) (old mid new : Accums) (x : Contribution) (xs : List Contribution) → (mid.slots ≡ old.slots) × (slots_are mid ≡ slots_after (x ∷ []) 0 (slots_are old)) × AreFed (suc f) mid → AreAfter (suc f) mid new xs → AreAfter f old new (x ∷ xs)
joined f old mid new x xs first rest = record {
  slots = rest.slots ∙ first.0;
  after = rest.after ∙ ap (slots_after xs 0) first.1 ∙ sym (slots_append (x ∷ []) xs 0 (slots_are old));
  fed = let e : suc f + length xs ≡ f + suc (length xs) = omega arith in subst (λ (n : ℕ). AreFed n new) e rest.fed;
}

chain_each : (old new : Accums) (bs : List (ℕ × Input)) → Chain old bs new → (f : ℕ) (xs : List Contribution) → AreFed f old → f + length xs < 2 ^ 62 → All (MayTake old.slots) xs → AreBatched old.slots xs bs → AreAfter f old new xs
chain_each old new [] h f [] fed few may batched = subst (λ a. AreAfter f old a []) (sym h) (none_after f old fed)
chain_each old new [] h f (x ∷ xs) fed few may batched = absurd (cc batched)
chain_each old new (b ∷ bs) h f [] fed few may batched = absurd (cc batched)
chain_each old new (b ∷ bs) h f (x ∷ xs) fed few may batched =
    let head : as_given b ≡ targeted old.slots x = cc batched in
    let tail : map as_given bs ≡ map (targeted old.slots) xs = cc batched in
    let first = one_after f old h.0 x b.0 (given b.1) fed (omega (arith, few)) (All-head (MayTake old.slots) x xs may) (ap (λ p. p.0) head) (ap (λ p. p.1) head) h.1 in
    let rest = chain_each h.0 new bs h.2 (suc f) xs first.2 (omega (arith, few)) (subst (λ (q : Slots). All (MayTake q) xs) (sym first.0) (All-tail (MayTake old.slots) x xs may)) (subst (λ (q : Slots). AreBatched q xs bs) (sym first.0) tail) in
    joined f old h.0 new x xs first rest

pub chain_takes : (old new : Accums) (bs : List (ℕ × Input)) → Chain old bs new → TakesBatch old new bs
chain_takes old new bs h = record { each = chain_each old new bs h }

-- ---- the loop

-- the inputs so far, followed by any others
abbrev pub SoFar : Accums → List (ℕ × Input) → ℕ → Accums → Type 0
SoFar old bs i now = (new : Accums) → Chain now (drop i bs) new → Chain old bs new

pub so_far_first : (old : Accums) (bs : List (ℕ × Input)) → SoFar old bs 0 old
so_far_first old bs new h = h

pub so_far_more : (old : Accums) (bs : List (ℕ × Input)) (i : ℕ) (b : ℕ × Input) (was now : Accums) → i < length bs → b ≡ get_or bs i b → TakesOne was now b.0 (given b.1) → SoFar old bs i was → SoFar old bs (i + 1) now
so_far_more old bs i b was now l is takes so new h =
    so new (subst (λ (d : List (ℕ × Input)). Chain was d new) (sym (drop_item bs i b (get_some bs i b l is))) (now, takes, let e : i + 1 ≡ suc i = omega arith in subst (λ (n : ℕ). Chain now (drop n bs) new) e h))

pub so_far_all : (old : Accums) (bs : List (ℕ × Input)) (i : ℕ) (now : Accums) → length bs ≤ i → SoFar old bs i now → TakesBatch old now bs
so_far_all old bs i now l so = chain_takes old now bs (so now (subst (λ (d : List (ℕ × Input)). Chain now d now) (sym (drop_all bs i l)) refl))

pub ruleset so_far_laws = (so_far_first, so_far_more, so_far_all)
