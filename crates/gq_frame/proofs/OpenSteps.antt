-- OpenSteps: contents one by one, for each target of each slot.
use Rattle.std.proofs.Common.{◌≡◌, ℕ, suc, ◌+◌, ◌<◌, ◌≤◌, List, [], ◌∷◌, ◌++◌, take, length, get_or, Some, refl, sym, ap, ◌∙◌, subst, arith, length-append}
use Rattle.std.specs.List.{slice_get}
use Rattle.std.proofs.lemmas.List.{length-map}
use Rattle.std.proofs.Math.Seq.{take-length}
use Rattle.gq_value.specs.declared.kind.Slot.{Slot}
use Rattle.gq_value.specs.Accums.{Accum}
use Rattle.gq_value.specs.AccumViews.{accum_of}
use Rattle.gq_accum_laws.specs.Holds.{Holds}
use Rattle.gq_accum_laws.specs.After.{fresh}
use Rattle.gq_accum_laws.specs.Targets.{target_count}
use Rattle.gq_nest.specs.declared.content.Content.{Content}
use Rattle.gq_nest.specs.Shows.{Shows, ShowsTheSame}
use Rattle.gq_frame.specs.declared.slots.Slots.{Slots}
use Rattle.gq_frame.specs.Targets.{attached_in, targets_of, number_of, ShowsAt, AreOpen, ShowTheSame}
use Rattle.gq_frame.proofs.TargetLemmas.{split, get_front, get_last, get_some, get_below, take_more, count_more}

some_is : {A : Type 0} {a b : A} → Some a ≡ Some b → a ≡ b
some_is h = cc

abbrev pub OpenAt : Slots → List Content → ℕ → ℕ → Slot → Type 0
OpenAt slots cs at v s = ShowsAt cs (number_of slots at v) (accum_of s.kind) (fresh (accum_of s.kind))

-- midway: the targets of i slots are open, and j of the next slot
pub record OpenTo (slots : Slots) (i j : ℕ) (cs : List Content) : Type 0 where
  pub count : length cs ≡ number_of slots i j
  pub done : (at v : ℕ) (s : Slot) → slice_get slots.declared at ≡ Some s → v < targets_of slots.vertices s → at < i → OpenAt slots cs at v s
  pub now : (v : ℕ) (s : Slot) → slice_get slots.declared i ≡ Some s → v < j → OpenAt slots cs i v s

shown_front : (cs : List Content) (c : Content) (t : ℕ) (k : Accum) (h : Holds k) → ShowsAt cs t k h → ShowsAt (cs ++ c ∷ []) t k h
shown_front cs c t k h s = record { content = s.content; stands = get_front cs (c ∷ []) t s.content s.stands; shows = s.shows }

pub open_first : (slots : Slots) (cs : List Content) → cs ≡ [] → OpenTo slots 0 0 cs
open_first slots cs e = record {
  count = ap length e;
  done = λ at v s h l m. absurd (omega (arith, m));
  now = λ v s h l. absurd (omega (arith, l));
}

-- one target more of a slot
pub open_more : (slots : Slots) (i j : ℕ) (s : Slot) (cs cs' : List Content) (c : Content) → i < length slots.declared → s ≡ get_or slots.declared i s → cs' ≡ cs ++ c ∷ [] → Shows (accum_of s.kind) c (fresh (accum_of s.kind)) → OpenTo slots i j cs → OpenTo slots i (j + 1) cs'
open_more slots i j s cs cs' c l is more shows u = subst (OpenTo slots i (j + 1)) (sym more) (record {
  count = let a = length-append cs (c ∷ []) in let b = u.count in omega (arith, a, b);
  done = λ at v r h m n. shown_front cs c (number_of slots at v) (accum_of r.kind) (fresh (accum_of r.kind)) (u.done at v r h m n);
  now = λ v r h m. split v j (omega (arith, m))
      (λ n. shown_front cs c (number_of slots i v) (accum_of r.kind) (fresh (accum_of r.kind)) (u.now v r h n))
      (λ e. last v e r (some_is (sym (get_some slots.declared i s l is) ∙ h)));
})
  where
    last : (v : ℕ) → v ≡ j → (r : Slot) → s ≡ r → OpenAt slots (cs ++ c ∷ []) i v r
    last v e r same = record {
      content = c;
      stands = ap (slice_get (cs ++ c ∷ [])) (ap (number_of slots i) e ∙ sym u.count) ∙ get_last cs c;
      shows = subst (λ (q : Slot). Shows (accum_of q.kind) c (fresh (accum_of q.kind))) same shows;
    }

-- one slot more
pub open_next : (slots : Slots) (i j : ℕ) (s : Slot) (cs : List Content) → i < length slots.declared → s ≡ get_or slots.declared i s → j ≡ targets_of slots.vertices s → OpenTo slots i j cs → OpenTo slots (i + 1) 0 cs
open_next slots i j s cs l is all u = record {
  count = let a = u.count in let b = count_more slots.vertices slots.declared i s (get_some slots.declared i s l is) in
      let e : suc i ≡ i + 1 = omega arith in let f = ap (λ n. target_count slots.vertices (take n (attached_in slots.declared))) e in omega (arith, a, b, f, all);
  done = λ at v r h m n. split at i (omega (arith, n)) (u.done at v r h m)
      (λ e. let g : slice_get slots.declared i ≡ Some r = ap (slice_get slots.declared) (sym e) ∙ h in
      let same : s ≡ r = some_is (sym (get_some slots.declared i s l is) ∙ g) in
      let b : v < j = (let k = ap (targets_of slots.vertices) same in omega (arith, m, all, k)) in
      subst (λ (x : ℕ). OpenAt slots cs x v r) (sym e) (u.now v r g b));
  now = λ v r h m. absurd (omega (arith, m));
}

pub open_all : (slots : Slots) (i : ℕ) (cs : List Content) → length slots.declared ≤ i → i ≤ length slots.declared → OpenTo slots i 0 cs → AreOpen slots cs
open_all slots i cs l m u = record {
  count = let a = u.count in let e : i ≡ length (attached_in slots.declared) = (let n = length-map slots.declared (λ s. s.attached) in omega (arith, l, m, n)) in
      let f = ap (target_count slots.vertices) (ap (λ n. take n (attached_in slots.declared)) e ∙ take-length (attached_in slots.declared)) in omega (arith, a, f);
  each = λ at v s h b. u.done at v s h b (let g = get_below slots.declared at s h in omega (arith, g, l));
}

-- ---- copies

-- a content that is the other
pub shows_itself : (c d : Content) → c ≡ d → ShowsTheSame c d
shows_itself c d e = record { each = λ k h s. subst (λ x. Shows k x h) e s }

pub same_first : (cs : List Content) → cs ≡ [] → ShowTheSame [] cs
same_first cs e = subst (ShowTheSame []) (sym e) tt

pub same_last : (xs ys : List Content) (x y : Content) → ShowsTheSame x y → ShowTheSame xs ys → ShowTheSame (xs ++ x ∷ []) (ys ++ y ∷ [])
same_last [] [] x y h s = (h, tt)
same_last [] (d ∷ ys) x y h s = absurd s
same_last (c ∷ xs) [] x y h s = absurd s
same_last (c ∷ xs) (d ∷ ys) x y h s = (s.0, same_last xs ys x y h s.1)

pub same_more : (xs : List Content) (i : ℕ) (x y : Content) (ys ys' : List Content) → i < length xs → x ≡ get_or xs i x → ShowsTheSame x y → ys' ≡ ys ++ y ∷ [] → ShowTheSame (take i xs) ys → ShowTheSame (take (i + 1) xs) ys'
same_more xs i x y ys ys' l is h more s = subst (ShowTheSame (take (i + 1) xs)) (sym more) (subst (λ t. ShowTheSame t (ys ++ y ∷ [])) (sym (take_more xs i x l is)) (same_last (take i xs) ys x y h s))

pub same_length : (xs ys : List Content) → ShowTheSame xs ys → length ys ≡ length xs
same_length [] [] s = refl
same_length [] (y ∷ ys) s = absurd s
same_length (x ∷ xs) [] s = absurd s
same_length (x ∷ xs) (y ∷ ys) s = ap suc (same_length xs ys s.1)

pub show_the_same : (xs : List Content) (i : ℕ) (ys : List Content) → length xs ≤ i → i ≤ length xs → ShowTheSame (take i xs) ys → ShowTheSame xs ys
show_the_same xs i ys l m s = subst (λ t. ShowTheSame t ys) whole s
  where
    whole : take i xs ≡ xs
    whole = (let e : i ≡ length xs = omega (arith, l, m) in ap (λ n. take n xs) e) ∙ take-length xs
