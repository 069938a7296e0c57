-- GrowthLemmas: languages that grow with a bound on levels, and their unbounded union.
use Rattle.std.proofs.Common.{◌≡◌, ℕ, zero, suc, ◌+◌, List, [], ◌∷◌, Option, Some, None, inl, inr, ⊎_elim, subst, arith}
use Rattle.gq_grammar.specs.Lexemes.{Lexemes, Terminal}
use Rattle.gq_grammar.specs.Languages.{Language, ◌then◌, Many, Maybe, ◌∣◌, Made}
use Rattle.gq_grammar.specs.Signs.{second, inner, all_of, After, Enclosed, Separated}

-- D k grows with k, and W is their union
pub record Grows {A : Type 0} (D : ℕ → Language A) (W : Language A) : Type 0 where
  pub up : (k : ℕ) (a : A) (x : Lexemes) → D k a x → D (suc k) a x
  pub out : (k : ℕ) (a : A) (x : Lexemes) → D k a x → W a x
  pub of : (a : A) (x : Lexemes) → W a x → (k : ℕ) × D k a x

lift_by : {A : Type 0} (D : ℕ → Language A) → ((k : ℕ) (a : A) (x : Lexemes) → D k a x → D (suc k) a x) → (n k : ℕ) (a : A) (x : Lexemes) → D k a x → D (n + k) a x
lift_by D up zero k a x d = subst (λ m. D m a x) (zero_plus k) d
  where
    zero_plus : (k : ℕ) → k ≡ 0 + k
    zero_plus k = omega arith
lift_by D up (suc n) k a x d = subst (λ m. D m a x) (suc_plus n k) (up (n + k) a x (lift_by D up n k a x d))
  where
    suc_plus : (n k : ℕ) → suc (n + k) ≡ suc n + k
    suc_plus n k = omega arith

lift_swap : {A : Type 0} (D : ℕ → Language A) → ((k : ℕ) (a : A) (x : Lexemes) → D k a x → D (suc k) a x) → (n k : ℕ) (a : A) (x : Lexemes) → D k a x → D (k + n) a x
lift_swap D up n k a x d = subst (λ m. D m a x) (swap n k) (lift_by D up n k a x d)
  where
    swap : (n k : ℕ) → n + k ≡ k + n
    swap n k = omega arith

pub fixed : {A : Type 0} {D : Language A} → Grows (λ _. D) D
fixed = record { up = λ k a x d. d; out = λ k a x d. d; of = λ a x d. (0, d) }

pub then_grows : {A B : Type 0} {D : ℕ → Language A} {W : Language A} {E : ℕ → Language B} {V : Language B} → Grows D W → Grows E V → Grows (λ k. ◌then◌ (D k) (E k)) (◌then◌ W V)
then_grows {D = D} {E = E} f h = record {
  up = λ k p x d. (d.0, d.1, d.2, f.up k p.0 d.0 d.3, h.up k p.1 d.1 d.4);
  out = λ k p x d. (d.0, d.1, d.2, f.out k p.0 d.0 d.3, h.out k p.1 d.1 d.4);
  of = λ p x d. let i = f.of p.0 d.0 d.3 in let j = h.of p.1 d.1 d.4 in
      (i.0 + j.0, (d.0, d.1, d.2, lift_swap D f.up j.0 i.0 p.0 d.0 i.1, lift_by E h.up i.0 j.0 p.1 d.1 j.1));
}

many_up : {A : Type 0} (D E : Language A) → ((a : A) (x : Lexemes) → D a x → E a x) → (items : List A) (x : Lexemes) → Many D items x → Many E items x
many_up D E f [] x d = d
many_up D E f (a ∷ items) x d = (d.0, d.1, d.2, f a d.0 d.3, many_up D E f items d.1 d.4)

many_of : {A : Type 0} (D : ℕ → Language A) (W : Language A) → Grows D W → (items : List A) (x : Lexemes) → Many W items x → (k : ℕ) × Many (D k) items x
many_of D W f [] x d = (0, d)
many_of D W f (a ∷ items) x d =
    let i = f.of a d.0 d.3 in let j = many_of D W f items d.1 d.4 in
    (i.0 + j.0, (d.0, d.1, d.2, lift_swap D f.up j.0 i.0 a d.0 i.1, lift_by (λ k. Many (D k)) (λ k. many_up (D k) (D (suc k)) (f.up k)) i.0 j.0 items d.1 j.1))

pub many_grows : {A : Type 0} {D : ℕ → Language A} {W : Language A} → Grows D W → Grows (λ k. Many (D k)) (Many W)
many_grows {D = D} {W = W} f = record { up = λ k. many_up (D k) (D (suc k)) (f.up k); out = λ k. many_up (D k) W (f.out k); of = many_of D W f }

maybe_up : {A : Type 0} (D E : Language A) → ((a : A) (x : Lexemes) → D a x → E a x) → (o : Option A) (x : Lexemes) → Maybe D o x → Maybe E o x
maybe_up D E f None x d = d
maybe_up D E f (Some a) x d = f a x d

maybe_of : {A : Type 0} (D : ℕ → Language A) (W : Language A) → Grows D W → (o : Option A) (x : Lexemes) → Maybe W o x → (k : ℕ) × Maybe (D k) o x
maybe_of D W f None x d = (0, d)
maybe_of D W f (Some a) x d = f.of a x d

pub maybe_grows : {A : Type 0} {D : ℕ → Language A} {W : Language A} → Grows D W → Grows (λ k. Maybe (D k)) (Maybe W)
maybe_grows {D = D} {W = W} f = record { up = λ k. maybe_up (D k) (D (suc k)) (f.up k); out = λ k. maybe_up (D k) W (f.out k); of = maybe_of D W f }

pub either_grows : {A : Type 0} {D E : ℕ → Language A} {W V : Language A} → Grows D W → Grows E V → Grows (λ k. ◌∣◌ (D k) (E k)) (◌∣◌ W V)
either_grows f h = record {
  up = λ k a x d. ⊎_elim (λ d. inl (f.up k a x d)) (λ d. inr (h.up k a x d)) d;
  out = λ k a x d. ⊎_elim (λ d. inl (f.out k a x d)) (λ d. inr (h.out k a x d)) d;
  of = λ a x d. ⊎_elim (λ d. let i = f.of a x d in (i.0, inl i.1)) (λ d. let i = h.of a x d in (i.0, inr i.1)) d;
}

pub made_grows : {A B : Type 0} {D : ℕ → Language A} {W : Language A} (f : A → B) → Grows D W → Grows (λ k. Made f (D k)) (Made f W)
made_grows f h = record {
  up = λ k b x d. (d.0, h.up k d.0 x d.1, d.2);
  out = λ k b x d. (d.0, h.out k d.0 x d.1, d.2);
  of = λ b x d. let i = h.of d.0 x d.1 in (i.0, (d.0, i.1, d.2));
}

-- ---- common combinations

pub after_grows : {A : Type 0} {D : ℕ → Language A} {V : Language A} (k : Terminal) → Grows D V → Grows (λ n. After k (D n)) (After k V)
unfolding After
after_grows k d = made_grows second (then_grows fixed d)

pub enclosed_grows : {A : Type 0} {D : ℕ → Language A} {V : Language A} → Grows D V → Grows (λ n. Enclosed (D n)) (Enclosed V)
unfolding Enclosed
enclosed_grows d = made_grows inner (then_grows fixed (then_grows d fixed))

pub separated_grows : {A : Type 0} {D : ℕ → Language A} {V : Language A} → Grows D V → Grows (λ n. Separated (D n)) (Separated V)
unfolding Separated
separated_grows d = made_grows all_of (maybe_grows (then_grows d (many_grows (after_grows _ d))))

-- ---- one more level

-- two steps of a family
abbrev step_of : {A : Type 0} → Language A → Language A → ℕ → Language A
step_of D E zero = D
step_of D E (suc n) = E

step_up : {A : Type 0} (D E : Language A) → ((t : A) (x : Lexemes) → D t x → E t x) → (n : ℕ) (t : A) (x : Lexemes) → step_of D E n t x → step_of D E (suc n) t x
step_up D E f zero t x d = f t x d
step_up D E f (suc n) t x d = d

step_out : {A : Type 0} (D E : Language A) → ((t : A) (x : Lexemes) → D t x → E t x) → (n : ℕ) (t : A) (x : Lexemes) → step_of D E n t x → E t x
step_out D E f zero t x d = f t x d
step_out D E f (suc n) t x d = d

pub step_grows : {A : Type 0} (D E : Language A) → ((t : A) (x : Lexemes) → D t x → E t x) → Grows (step_of D E) E
step_grows D E f = record { up = step_up D E f; out = step_out D E f; of = λ t x d. (1, d) }
