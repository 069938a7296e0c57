-- Claims: what is proved of the parser of a language: it is sound and complete, and it reads as far as possible.
-- `whole` is the core: after a value of the language the parser either stops exactly there, or the next lexeme may
-- continue the value and the parser reads at least up to there. So values are unique, and the prefix is the longest.
use Rattle.std.proofs.Common.{◌≡◌, ℕ, suc, ◌<◌, ◌≤◌, List, [], ◌++◌, length, true, Option, Some, None, ◌⊎◌, inl, inr, ⊎_elim, refl, ap, ◌∙◌, arith, append_assoc, length-append}
use Rattle.gq_grammar.specs.Lexemes.{Lexemes, Terminal}
use Rattle.gq_grammar.specs.Languages.{Language}
use Rattle.gq_grammar.specs.Parsers.{Parser}
use Rattle.gq_grammar.proofs.Sets.{Starts, subset, starts_right, starts_wide}

-- the lexemes that were read spell the value
pub record Spelled {A : Type 0} (D : Language A) (l : Lexemes) (a : A) (r : Lexemes) : Type 0 where
  pub text : Lexemes
  pub is : l ≡ text ++ r
  pub derives : D a text

-- the parser reads on into y
pub record Ahead {A : Type 0} (p : Parser A) (l y : Lexemes) : Type 0 where
  pub found : A
  pub eaten : Lexemes
  pub left : Lexemes
  pub is : p l ≡ Some (found, left)
  pub after : y ≡ eaten ++ left

-- it stops at y with the value, unless y begins with a terminal that may continue it
abbrev pub Goes : {A : Type 0} → Parser A → List Terminal → A → Lexemes → Lexemes → Type 0
Goes p cs a l y = (p l ≡ Some (a, y)) ⊎ (Starts cs y × Ahead p l y)

-- D is complete and D' is sound for the parser; each begins with a terminal of fs and may continue with one of cs
pub record Reads {A : Type 0} (n : ℕ) (D D' : Language A) (p : Parser A) (fs cs : List Terminal) : Type 0 where
  pub sound : (l : Lexemes) (a : A) (r : Lexemes) → p l ≡ Some (a, r) → Spelled D' l a r
  pub opens : (l : Lexemes) (a : A) (r : Lexemes) → p l ≡ Some (a, r) → Starts fs l
  pub begins : (a : A) (x : Lexemes) → D a x → Starts fs x
  pub whole : (a : A) (x y : Lexemes) → D a x → length (x ++ y) ≤ n → Goes p cs a (x ++ y) y

-- the same for a language with the empty list, whose parser always finds a value
pub record Takes {A : Type 0} (n : ℕ) (D D' : Language A) (p : Parser A) (fs cs : List Terminal) : Type 0 where
  pub sound : (l : Lexemes) (a : A) (r : Lexemes) → p l ≡ Some (a, r) → Spelled D' l a r
  pub opens : (l : Lexemes) (a : A) (r : Lexemes) → p l ≡ Some (a, r) → (l ≡ r) ⊎ Starts fs l
  pub total : (l : Lexemes) → (a : A) × (r : Lexemes) × (p l ≡ Some (a, r))
  pub begins : (a : A) (x : Lexemes) → D a x → (x ≡ []) ⊎ Starts fs x
  pub whole : (a : A) (x y : Lexemes) → D a x → length (x ++ y) ≤ n → Goes p cs a (x ++ y) y

-- a larger set of terminals
pub widen : {A : Type 0} {n : ℕ} {D D' : Language A} {p : Parser A} {fs cs : List Terminal} (gs hs : List Terminal) → subset fs gs ≡ true → subset cs hs ≡ true → Reads n D D' p fs cs → Reads n D D' p gs hs
widen {fs = fs} {cs = cs} gs hs f c r = record {
  sound = r.sound;
  opens = λ l a m h. starts_wide fs gs f l (r.opens l a m h);
  begins = λ a x d. starts_wide fs gs f x (r.begins a x d);
  whole = λ a x y d le. ⊎_elim (λ exact. inl exact) (λ on. inr (starts_wide cs hs c y on.0, on.1)) (r.whole a x y d le);
}

-- ---- on lists and options

pub some_inj : {X : Type 0} {x y : X} → Some x ≡ Some y → x ≡ y
some_inj h = cc

pub or_cases : {X : Type 0} (o : Option X) → (o ≡ None) ⊎ ((x : X) × (o ≡ Some x))
or_cases None = inl refl
or_cases (Some x) = inr (x, refl)

-- the remaining list is a suffix of the one before
pub cut : (x y u v : Lexemes) → x ≡ u ++ v → x ++ y ≡ u ++ (v ++ y)
cut x y u v e = ap (λ z. z ++ y) e ∙ append_assoc u v y

pub shorter : (n m : ℕ) (x y u v : Lexemes) → n ≤ suc m → length (x ++ y) ≤ n → x ≡ u ++ v → 0 < length u → length (v ++ y) ≤ m
shorter n m x y u v nm le e some = omega (arith, ap length (cut x y u v e), length-append u (v ++ y))

pub no_longer : (n : ℕ) (x y u v : Lexemes) → length (x ++ y) ≤ n → x ≡ u ++ v → length (v ++ y) ≤ n
no_longer n x y u v le e = omega (arith, ap length (cut x y u v e), length-append u (v ++ y))

-- with more terminals that may continue
pub goes_more : {C : Type 0} (p : Parser C) (cs hs : List Terminal) {c : C} {l y : Lexemes} → Goes p hs c l y → Goes p (cs ++ hs) c l y
goes_more p cs hs {c} {l} {y} g = ⊎_elim (λ e. inl e) (λ on. inr (starts_right cs hs y on.0, on.1)) g
