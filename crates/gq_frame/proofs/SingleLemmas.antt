-- SingleLemmas: contents that are shared one by one, and the list of what they are.
use Rattle.std.proofs.Common.{◌≡◌, ℕ, zero, suc, ◌+◌, ◌<◌, ◌≤◌, true, List, [], ◌∷◌, ◌++◌, take, length, get_or, Some, None, refl, sym, ap, ◌∙◌, subst, arith}
use Rattle.std.specs.List.{slice_get, slice_set}
use Rattle.std.proofs.Math.Seq.{take-length}
use Rattle.gq_accum_laws.specs.Fits.{fits}
use Rattle.gq_nest.specs.declared.content.Content.{Content}
use Rattle.gq_nest.specs.Entries.{every}
use Rattle.gq_nest.specs.Shows.{ShowsTheSame}
use Rattle.gq_nest.specs.Tells.{Tells}
use Rattle.gq_frame.specs.declared.single.Single.{Single}
use Rattle.gq_frame.specs.Targets.{ShowTheSame}
use Rattle.gq_frame.specs.Pages.{AllFit, AreHeld, IsHeld, SealsContents, SharesContent, SharesContents, content_of, each_of}
use Rattle.gq_frame.proofs.OpenSteps.{same_last}
use Rattle.gq_frame.proofs.TargetLemmas.{get_some, take_more}

some_is : {A : Type 0} {a b : A} → Some a ≡ Some b → a ≡ b
some_is h = cc

none_apart : {A P : Type 0} (x : A) → None ≡ Some x → P
none_apart x h = absurd (cc h)

-- ---- the list of contents

pub each_length : (ss : List Single) → length (each_of ss) ≡ length ss
each_length [] = refl
each_length (s ∷ ss) = ap suc (each_length ss)

pub each_get : (ss : List Single) (i : ℕ) (s : Single) → slice_get ss i ≡ Some s → slice_get (each_of ss) i ≡ Some (content_of s)
each_get [] i s g = none_apart s g
each_get (t ∷ ss) zero s g = ap (λ (x : Single). Some (content_of x)) (some_is g)
each_get (t ∷ ss) (suc i) s g = each_get ss i s g

pub each_set : (ss : List Single) (i : ℕ) (s : Single) → each_of (slice_set ss i s) ≡ slice_set (each_of ss) i (content_of s)
each_set [] i s = refl
each_set (t ∷ ss) zero s = refl
each_set (t ∷ ss) (suc i) s = ap (λ cs. content_of t ∷ cs) (each_set ss i s)

pub each_last : (ss : List Single) (s : Single) → each_of (ss ++ s ∷ []) ≡ each_of ss ++ content_of s ∷ []
each_last [] s = refl
each_last (t ∷ ss) s = ap (λ cs. content_of t ∷ cs) (each_last ss s)

pub held_last : (ss : List Single) (s : Single) → AreHeld ss → IsHeld s → AreHeld (ss ++ s ∷ [])
held_last [] s h k = (k, tt)
held_last (t ∷ ss) s h k = (h.0, held_last ss s h.1 k)

pub held_set : (ss : List Single) (i : ℕ) (s t : Single) → slice_get ss i ≡ Some s → (IsHeld s → IsHeld t) → AreHeld ss → AreHeld (slice_set ss i t)
held_set [] i s t g k h = h
held_set (r ∷ ss) zero s t g k h = (k (subst IsHeld (some_is g) h.0), h.1)
held_set (r ∷ ss) (suc i) s t g k h = (h.0, held_set ss i s t g k h.1)

held_at : (ss : List Single) (i : ℕ) (s : Single) → slice_get ss i ≡ Some s → AreHeld ss → IsHeld s
held_at [] i s g h = none_apart s g
held_at (r ∷ ss) zero s g h = subst IsHeld (some_is g) h.0
held_at (r ∷ ss) (suc i) s g h = held_at ss i s g h.1

pub held_one : (ss : List Single) (i : ℕ) (s : Single) → i < length ss → s ≡ get_or ss i s → AreHeld ss → IsHeld s
held_one ss i s l is h = held_at ss i s (get_some ss i s l is) h

each_unchanged : (ss : List Single) (i : ℕ) (s t : Single) → slice_get ss i ≡ Some s → content_of t ≡ content_of s → each_of (slice_set ss i t) ≡ each_of ss
each_unchanged [] i s t g e = refl
each_unchanged (r ∷ ss) zero s t g e = ap (λ c. c ∷ each_of ss) (e ∙ ap content_of (sym (some_is g)))
each_unchanged (r ∷ ss) (suc i) s t g e = ap (λ cs. content_of r ∷ cs) (each_unchanged ss i s t g e)

-- what shows the same still does, after a content in its place is one that shows the same
pub same_put : (xs ys : List Content) (i : ℕ) (c d : Content) → ShowTheSame xs ys → slice_get ys i ≡ Some c → ShowsTheSame c d → ShowTheSame xs (slice_set ys i d)
same_put [] [] i c d s g h = s
same_put [] (y ∷ ys) i c d s g h = absurd s
same_put (x ∷ xs) [] i c d s g h = absurd s
same_put (x ∷ xs) (y ∷ ys) zero c d s g h = let e : y ≡ c = some_is g in
    (let f = subst (λ (z : Content). ShowsTheSame x z) e s.0 in record { each = λ k v shows. h.each k v (f.each k v shows) }, s.1)
same_put (x ∷ xs) (y ∷ ys) (suc i) c d s g h = (s.0, same_put xs ys i c d s.1 g h)

-- ---- copies

pub copy_none : (ss ts : List Single) → ts ≡ [] → SharesContents (take 0 ss) ts
copy_none ss ts e = subst (SharesContents []) (sym e) (record { same = tt; held = λ h. h })

copy_last : (ss ts : List Single) (s t : Single) → SharesContent s t → SharesContents ss ts → SharesContents (ss ++ s ∷ []) (ts ++ t ∷ [])
copy_last ss ts s t h all = record {
  same = subst (λ xs. ShowTheSame xs (each_of (ts ++ t ∷ []))) (sym (each_last ss s))
      (subst (ShowTheSame (each_of ss ++ content_of s ∷ [])) (sym (each_last ts t)) (same_last (each_of ss) (each_of ts) (content_of s) (content_of t) h.same all.same));
  held = λ k. let b = held_split ss s k in held_last ts t (all.held b.0) (h.held b.1);
}
  where
    held_split : (ss : List Single) (s : Single) → AreHeld (ss ++ s ∷ []) → AreHeld ss × IsHeld s
    held_split [] s k = (tt, k.0)
    held_split (r ∷ ss) s k = let b = held_split ss s k.1 in ((k.0, b.0), b.1)

pub copy_more : (ss : List Single) (i : ℕ) (s t : Single) (ts ts' : List Single) → i < length ss → s ≡ get_or ss i s → SharesContent s t → ts' ≡ ts ++ t ∷ [] → SharesContents (take i ss) ts → SharesContents (take (i + 1) ss) ts'
copy_more ss i s t ts ts' l is h more all = subst (SharesContents (take (i + 1) ss)) (sym more) (subst (λ (us : List Single). SharesContents us (ts ++ t ∷ [])) (sym (take_more ss i s l is)) (copy_last (take i ss) ts s t h all))

pub copy_done : (ss : List Single) (i : ℕ) (ts : List Single) → length ss ≤ i → i ≤ length ss → SharesContents (take i ss) ts → SharesContents ss ts
copy_done ss i ts l m s = subst (λ (us : List Single). SharesContents us ts) ((let e : i ≡ length ss = omega (arith, l, m) in ap (λ n. take n ss) e) ∙ take-length ss) s

-- ---- sealed contents

pub sealed_none : (ss : List Single) → SealsContents ss ss
sealed_none ss = record { same = refl; held = λ h. h }

pub sealed_more : (ss ts : List Single) (i : ℕ) (s t : Single) → SealsContents ss ts → slice_get ts i ≡ Some s → content_of t ≡ content_of s → (IsHeld s → IsHeld t) → SealsContents ss (slice_set ts i t)
sealed_more ss ts i s t h g e k = record { same = each_unchanged ts i s t g e ∙ h.same; held = λ all. held_set ts i s t g k (h.held all) }

pub sealed_length : (ss ts : List Single) → SealsContents ss ts → length ts ≡ length ss
sealed_length ss ts h = sym (each_length ts) ∙ ap length h.same ∙ each_length ss

-- ---- whether all fit

pub each_fit : (ss : List Single) → every (λ s. Tells (content_of s) true fits) ss → AllFit (each_of ss)
each_fit [] h = tt
each_fit (s ∷ ss) h = (h.0, each_fit ss h.1)
