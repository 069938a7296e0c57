-- Reading: the guarantees of a reader of a language: the longest prefix, or that there is none, and at most one tree.
-- The specification considers every other end, before and after, and every other value.
use Rattle.std.specs.Prelude.{◌≡◌, ℕ, ◌-◌, ◌≤◌, take, drop, length}
use Rattle.gq_grammar.specs.Lexemes.{Lexemes}
use Rattle.gq_grammar.specs.Languages.{Language}

-- the lexemes between two places
abbrev pub between : Lexemes → ℕ → ℕ → Lexemes
between all from to = take (to - from) (drop from all)

-- the lexemes from one place to another spell this value, and those up to any later place spell none
pub record IsLongest {A : Type 0} (D : Language A) (all : Lexemes) (at : ℕ) (a : A) (end : ℕ) : Type 0 where
  pub from_le : at ≤ end
  pub to_le : end ≤ length all
  pub derives : D a (between all at end)
  pub longest : (b : A) (to : ℕ) → at ≤ to → to ≤ length all → D b (between all at to) → to ≤ end

-- from this place on, no prefix of the lexemes spells a value
pub record HasNone {A : Type 0} (D : Language A) (all : Lexemes) (at : ℕ) : Type 0 where
  pub none : (b : A) (to : ℕ) → at ≤ to → to ≤ length all → D b (between all at to) → ⊥

-- a list of lexemes spells at most one value
abbrev pub HasOneTree : {A : Type 0} → Language A → Type 0
HasOneTree {A} D = (a b : A) (x : Lexemes) → D a x → D b x → a ≡ b
