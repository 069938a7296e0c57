-- AnswerLaws: answers that continue alike.
use Rattle.std.proofs.Common.{◌≡◌, List, [], ◌∷◌, map, refl, sym, ap, subst}
use mathlib.Core.Path.{fun_ext}
use Rattle.gq_rules_meaning.specs.Answers.{Answer, Gives, Faults, Stuck, ◌>>=◌, blaming, each, through}
use Rattle.gq_plan_ir.specs.Alike.{AnswersAlike}

pub alike_then : {F A B C D : Type 0} (R : A → B → Type 0) (S : C → D → Type 0) (o : Answer F A) (p : Answer F B) (f : A → Answer F C) (g : B → Answer F D)
    → AnswersAlike R o p → ((a : A) (b : B) → R a b → AnswersAlike S (f a) (g b)) → AnswersAlike S (o >>= f) (p >>= g)
alike_then R S (Gives a) (Gives b) f g h k = k a b h
alike_then R S (Faults e) (Faults d) f g h k = h
alike_then R S Stuck Stuck f g h k = tt
alike_then R S o p f g h k = absurd h

-- the given values are the same on both sides
pub alike_same : {F A C D : Type 0} (S : C → D → Type 0) (o p : Answer F A) (f : A → Answer F C) (g : A → Answer F D)
    → p ≡ o → ((a : A) → AnswersAlike S (f a) (g a)) → AnswersAlike S (o >>= f) (p >>= g)
alike_same S o p f g e k = subst (λ p. AnswersAlike S (o >>= f) (p >>= g)) (sym e) ((elim o as (λ (o : Answer _ _). AnswersAlike S (o >>= f) (o >>= g)) [ Gives a ↦ k a | Faults d ↦ refl | Stuck ↦ tt ]))

pub alike_blaming : {E F A B : Type 0} (R : A → B → Type 0) (f : E → F) (o : Answer E A) (p : Answer E B) → AnswersAlike R o p → AnswersAlike R (blaming f o) (blaming f p)
alike_blaming R f (Gives a) (Gives b) h = h
alike_blaming R f (Faults e) (Faults d) h = ap f h
alike_blaming R f Stuck Stuck h = tt
alike_blaming R f o p h = absurd h

-- equal answers, if the given values are equal
pub alike_is : {F A : Type 0} (o p : Answer F A) → AnswersAlike (λ (a b : A). b ≡ a) o p → p ≡ o
alike_is (Gives a) (Gives b) h = ap Gives h
alike_is (Faults e) (Faults d) h = ap Faults (sym h)
alike_is Stuck Stuck h = refl
alike_is o p h = absurd h

-- ---- lists

-- each item under its new name gives the same
pub each_alike : {F A B C : Type 0} (h : A → B) (f : A → Answer F C) (g : B → Answer F C) → ((a : A) → g (h a) ≡ f a) → (as' : List A) → each g (map h as') ≡ each f as'
each_alike h f g k [] = refl
each_alike h f g k (a ∷ as') = rw (k a, each_alike h f g k as')

pub each_same : {F A C : Type 0} (f g : A → Answer F C) → ((a : A) → g a ≡ f a) → (as' : List A) → each g as' ≡ each f as'
each_same f g k as' = ap (λ h. each h as') (fun_ext k)

-- through items, with related states
pub through_alike : {F A B S T : Type 0} (R : S → T → Type 0) (h : A → B) (f : S → A → Answer F S) (g : T → B → Answer F T)
    → ((s : S) (t : T) (a : A) → R s t → AnswersAlike R (f s a) (g t (h a))) → (as' : List A) (s : S) (t : T) → R s t → AnswersAlike R (through f s as') (through g t (map h as'))
through_alike R h f g k [] s t r = r
through_alike R h f g k (a ∷ as') s t r = alike_then R R (f s a) (g t (h a)) _ _ (k s t a r) (λ p q e. through_alike R h f g k as' p q e)

pub through_each : {F A S T : Type 0} (R : S → T → Type 0) (f : S → A → Answer F S) (g : T → A → Answer F T)
    → ((s : S) (t : T) (a : A) → R s t → AnswersAlike R (f s a) (g t a)) → (as' : List A) (s : S) (t : T) → R s t → AnswersAlike R (through f s as') (through g t as')
through_each R f g k [] s t r = r
through_each R f g k (a ∷ as') s t r = alike_then R R (f s a) (g t a) _ _ (k s t a r) (λ p q e. through_each R f g k as' p q e)

-- through renamed items, with the same state
pub through_same : {F A B S : Type 0} (h : A → B) (f : S → A → Answer F S) (g : S → B → Answer F S) → ((s : S) (a : A) → g s (h a) ≡ f s a) → (as' : List A) (s : S) → through g s (map h as') ≡ through f s as'
through_same h f g k [] s = refl
through_same h f g k (a ∷ as') s = simp (k, through_same h f g k as')
