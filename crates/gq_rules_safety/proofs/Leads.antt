-- Leads: rules that give something over some types, and their results over more types.
use Rattle.std.proofs.Common.{◌≡◌, List, [], ◌∷◌, Option, Some, None, Ok, Err, refl, ap, sym, ◌∙◌, subst}
use Rattle.gq_rules_typing.specs.Judging.{TypingFault, Judged, ◌>>=◌, ◌>>◌, or_fault, each_judged, through_judged}

-- if the first gives something, the second gives something related to it by R
pub record Leads {A B : Type 0} (R : A → B → Type 0) (j : Judged A) (k : Judged B) : Type 0 where
  pub leads : (a : A) → j ≡ Ok a → (b : B) × (k ≡ Ok b) × R a b

-- if the first gives something, the second gives the same
abbrev pub Keeps : {A : Type 0} → Judged A → Judged A → Type 0
Keeps {A = A} j k = Leads (λ (a b : A). a ≡ b) j k

pub kept : {A : Type 0} (j : Judged A) → Keeps j j
kept j = record { leads = λ a e. (a, e, refl) }

pub kept_as : {A : Type 0} (j k : Judged A) → j ≡ k → Keeps j k
kept_as j k h = record { leads = λ a e. (a, sym h ∙ e, refl) }

pub or_kept : {A : Type 0} (x : TypingFault) (o p : Option A) → ((a : A) → o ≡ Some a → p ≡ Some a) → Keeps (or_fault x o) (or_fault x p)
or_kept x None p h = record { leads = λ a e. absurd (cc e) }
or_kept x (Some c) p h = record { leads = λ a e. (a, ap (or_fault x) (h c refl) ∙ e, refl) }

-- the value, if there is no fault
pub known : {A : Type 0} (x : TypingFault) (o : Option A) (a : A) → or_fault x o ≡ Ok a → o ≡ Some a
known x None a e = absurd (cc e)
known x (Some c) a e = cc

pub leads_as : {A B : Type 0} (R Q : A → B → Type 0) (j : Judged A) (k : Judged B) → ((a : A) (b : B) → R a b → Q a b) → Leads R j k → Leads Q j k
leads_as R Q j k h l = record { leads = λ a e. let u = l.leads a e in (u.0, u.1, h a u.0 u.2) }

-- a fault leads to anything
pub fails : {A B : Type 0} (R : A → B → Type 0) (x : TypingFault) (k : Judged B) → Leads R (Err x) k
fails R x k = record { leads = λ a e. absurd (cc e) }

pub fails_after : {A B C : Type 0} (R : A → B → Type 0) (j : Judged C) (x : TypingFault) (k : Judged B) → Leads R (j >> Err x) k
fails_after R (Ok c) x k = fails R x k
fails_after R (Err y) x k = fails R y k

-- ---- and then

pub leads_then : {A B C D : Type 0} (R : A → B → Type 0) (Q : C → D → Type 0) (j : Judged A) (k : Judged B) (f : A → Judged C) (g : B → Judged D) → Leads R j k → ((a : A) (b : B) → j ≡ Ok a → R a b → Leads Q (f a) (g b)) → Leads Q (j >>= f) (k >>= g)
leads_then R Q (Ok a) k f g h n = record { leads = λ c e. let u = h.leads a refl in let v = (n a u.0 refl u.2).leads c e in (v.0, ap (λ k. k >>= g) u.1 ∙ v.1, v.2) }
leads_then R Q (Err x) k f g h n = fails Q x (k >>= g)

pub kept_if : {A C D : Type 0} {Q : C → D → Type 0} (j k : Judged A) (f : A → Judged C) (g : A → Judged D) → Keeps j k → ((a : A) → j ≡ Ok a → Leads Q (f a) (g a)) → Leads Q (j >>= f) (k >>= g)
kept_if {A = A} {Q = Q} j k f g h n = leads_then (λ (a b : A). a ≡ b) Q j k f g h (λ a b e same. subst (λ b. Leads Q (f a) (g b)) same (n a e))

pub kept_then : {A C D : Type 0} {Q : C → D → Type 0} (j k : Judged A) (f : A → Judged C) (g : A → Judged D) → Keeps j k → ((a : A) → Leads Q (f a) (g a)) → Leads Q (j >>= f) (k >>= g)
kept_then j k f g h n = kept_if j k f g h (λ a e. n a)

-- and then the same
pub kept_on : {A C : Type 0} (j k : Judged A) (f : A → Judged C) → Keeps j k → Keeps (j >>= f) (k >>= f)
kept_on j k f h = kept_then j k f f h (λ a. kept (f a))

pub leads_and : {A B C D : Type 0} {R : A → B → Type 0} {Q : C → D → Type 0} (j : Judged A) (k : Judged B) (l : Judged C) (m : Judged D) → Leads R j k → Leads Q l m → Leads Q (j >> l) (k >> m)
leads_and {R = R} {Q = Q} (Ok a) k l m h n = record { leads = λ c e. let u = h.leads a refl in let v = n.leads c e in (v.0, ap (λ k. k >> m) u.1 ∙ v.1, v.2) }
leads_and {R = R} {Q = Q} (Err x) k l m h n = fails Q x (k >> m)

-- ---- each one after the other

pub each_kept : {A B : Type 0} (f g : A → Judged B) → ((a : A) → Keeps (f a) (g a)) → (xs : List A) → Keeps (each_judged f xs) (each_judged g xs)
each_kept f g h [] = kept (Ok [])
each_kept f g h (x ∷ xs) = kept_then (f x) (g x) _ _ (h x) (λ b. kept_then (each_judged f xs) (each_judged g xs) _ _ (each_kept f g h xs) (λ bs. kept (Ok (b ∷ bs))))

pub through_kept : {A S : Type 0} (f g : S → A → Judged S) → ((s : S) (a : A) → Keeps (f s a) (g s a)) → (xs : List A) (s : S) → Keeps (through_judged f s xs) (through_judged g s xs)
through_kept f g h [] s = kept (Ok s)
through_kept f g h (x ∷ xs) s = kept_then (f s x) (g s x) _ _ (h s x) (λ t. through_kept f g h xs t)
