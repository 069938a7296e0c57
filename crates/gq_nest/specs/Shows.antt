-- Shows: what a content is to its callers.
-- A content shows what it holds for a kind. Each call says which showing becomes which; the code reads and writes one level.
use Rattle.std.specs.Prelude.{◌≡◌, ℕ, Bool, true, false, List, [], ◌∷◌}
use Rattle.gq_value.specs.Accums.{Accum, Parts, no_part, part_and, Given, One, Keyed}
use Rattle.gq_value.specs.AccumViews.{accum_of}
use Rattle.gq_value.specs.declared.kind.Kind.{Kind}
use Rattle.gq_value.specs.Typed.{suits}
use Rattle.gq_accum_laws.specs.Holds.{Holds, HoldsEach}
use Rattle.gq_accum_laws.specs.After.{fresh, after, merged}
use Rattle.gq_accum_laws.specs.Fits.{HasRoom, IsProper}
use Rattle.gq_nest.specs.declared.content.Content.{Content, Content-F, out-Content}
use Rattle.gq_nest.specs.Entries.{Pairs}
use Rattle.gq_nest.specs.Forms.{view, IsOf}

-- c is a content of the kind, isn't spoiled, and holds this, which inputs can lead to
pub record Shows (k : Accum) (c : Content) (h : Holds k) : Type 0 where
  pub of_kind : IsOf k (out-Content c)
  pub holds : view k (out-Content c) ≡ h
  pub proper : IsProper k h

abbrev pub spoiled_in : Content-F Content → Bool
spoiled_in Content-F.Spoiled = true
spoiled_in l = false

abbrev pub is_spoiled : Content → Bool
is_spoiled c = spoiled_in (out-Content c)

-- a list, or what was one before memory ran out
abbrev pub ListIn : Content-F Content → Type 0
ListIn (Content-F.List items) = Unit {0}
ListIn Content-F.Spoiled = Unit {0}
ListIn l = ⊥

abbrev pub IsList : Content → Type 0
IsList c = ListIn (out-Content c)

-- whether it holds one number, truth or average
abbrev pub plain_in : Content-F Content → Bool
plain_in (Content-F.Scalar s) = true
plain_in l = false

abbrev pub is_plain : Content → Bool
is_plain c = plain_in (out-Content c)

-- one value
abbrev pub is_one : Given → Bool
is_one (One v) = true
is_one (Keyed row xs) = false

-- one more input, which suits the kind, where there is room
pub record TakesInput (old : Content) (x : Given) (new : Content) : Type 0 where
  pub each : (k : Accum) (h : Holds k) → Shows k old h → HasRoom k h → suits k x ≡ true → Shows k new (after k h (x ∷ []))

-- another content of the kind, and as if the inputs that led to it came after those before
pub record TakesContent (old other new : Content) : Type 0 where
  pub each : (k : Accum) (h d : Holds k) → Shows k old h → Shows k other d → HasRoom k h → HasRoom k d → Shows k new (merged k h d)
  pub gathers : (k : Accum) (h : Holds k) (xs : List Given) → Shows k old h → Shows k other (after k (fresh k) xs) → HasRoom k h → HasRoom k (after k (fresh k) xs) → Shows k new (after k h xs)

-- whatever the one shows, the other shows
pub record ShowsTheSame (old new : Content) : Type 0 where
  pub each : (k : Accum) (h : Holds k) → Shows k old h → Shows k new h

-- each part before any input
abbrev pub AreFresh : List (List ℕ × Kind) → List Content → Type 0
AreFresh = Pairs (λ p c. Shows (accum_of p.1) c (fresh (accum_of p.1)))

-- each part shows what is held at its index
abbrev pub ShowEach : (ps : Parts) → List Content → HoldsEach ps → Type 0
ShowEach no_part [] h = Unit {0}
ShowEach (part_and name k ps) (c ∷ cs) h = Shows k c h.0 × ShowEach ps cs h.1
ShowEach _ _ _ = ⊥
