-- Laws: the laws of all contents, whatever their kind.
use Rattle.std.specs.Prelude.{if◌then◌else◌, ◌≡◌, ℕ, ◌+◌, ◌<◌, ◌≤◌, Bool, true, List, [], ◌∷◌, ◌++◌, length, slice_get, Some}
use Rattle.std.specs.List.{list_all}
use Rattle.std.specs.List.Sorted.{IsPermutation}
use Rattle.gq_value.specs.Val.{Val}
use Rattle.gq_value.specs.Order.{place, compare}
use Rattle.gq_value.specs.Accums.{Base, Accum, Given}
use Rattle.gq_value.specs.Typed.{has_no_list, is_of, suits}
use Rattle.gq_accum_laws.specs.Holds.{Holds}
use Rattle.gq_accum_laws.specs.After.{fresh, after, merged}
use Rattle.gq_accum_laws.specs.Fits.{fits, Fed, IsProper}
use Rattle.gq_accum_laws.specs.Targets.{targets, target_count, target_number}

-- a content is the same for every order of the inputs
abbrev pub OrderLaw : Type 0
OrderLaw = (k : Accum) (c : Holds k) (xs ys : List Given) → has_no_list k ≡ true → IsPermutation xs ys → after k c xs ≡ after k c ys

-- the contents of these parts, each fed from the opening, merged into a content one after another
abbrev pub merged_parts : (k : Accum) → Holds k → List (List Given) → Holds k
merged_parts k c [] = c
merged_parts k c (part ∷ parts) = merged_parts k (merged k c (after k (fresh k) part)) parts

abbrev pub joined : List (List Given) → List Given
joined [] = []
joined (part ∷ parts) = part ++ joined parts

-- and for every cutting of the inputs into parts
abbrev pub CutLaw : Type 0
CutLaw = (k : Accum) (c : Holds k) (first : List Given) (parts : List (List Given)) → IsProper k c → merged_parts k (after k c first) parts ≡ after k c (first ++ joined parts)

-- merging: of two in either order, of three in any grouping, of the opening, and of one input's content
pub record MergeLaw : Type 0 where
  pub commutes : (k : Accum) (c d : Holds k) → has_no_list k ≡ true → merged k c d ≡ merged k d c
  pub associates : (k : Accum) (c d e : Holds k) → merged k (merged k c d) e ≡ merged k c (merged k d e)
  pub neutral : (k : Accum) (c : Holds k) → IsProper k c → merged k c (fresh k) ≡ c
  pub one : (k : Accum) (c : Holds k) (x : Given) → IsProper k c → after k c (x ∷ []) ≡ merged k c (after k (fresh k) (x ∷ []))

-- contents that inputs can lead to stay so
pub record ProperLaw : Type 0 where
  pub opening : (k : Accum) → IsProper k (fresh k)
  pub fed : (k : Accum) (c : Holds k) (xs : List Given) → IsProper k c → IsProper k (after k c xs)
  pub joint : (k : Accum) (c d : Holds k) → IsProper k c → IsProper k d → IsProper k (merged k c d)

-- how large contents get: one input's worth if they fit, one more for each input, and the sum of both when merged
pub record FedLaw : Type 0 where
  pub fitting : (k : Accum) (c : Holds k) → IsProper k c → fits k c ≡ true → Fed k c 1
  pub opening : (k : Accum) → Fed k (fresh k) 0
  pub fed : (k : Accum) (c : Holds k) (f : ℕ) (xs : List Given) → list_all (suits k) xs ≡ true → Fed k c f → Fed k (after k c xs) (f + length xs)
  pub joint : (k : Accum) (c d : Holds k) (f g : ℕ) → Fed k c f → Fed k d g → Fed k (merged k c d) (f + g)
  pub more : (k : Accum) (c : Holds k) (f g : ℕ) → f ≤ g → Fed k c f → Fed k c g

-- a target's number is its place in the list of all targets
pub record TargetLaw : Type 0 where
  pub count : (vertices : ℕ) (slots : List Bool) → length (targets vertices slots) ≡ target_count vertices slots
  pub place : (vertices : ℕ) (slots : List Bool) (at v : ℕ) (attached : Bool) → slice_get slots at ≡ Some attached → v < (if attached then vertices else 1)
      → slice_get (targets vertices slots) (target_number vertices slots at v) ≡ Some (at, v)

-- values of one type have the same order in contents as in comparisons
abbrev pub OneTypeLaw : Type 0
OneTypeLaw = (b : Base) (v w : Val) → is_of b v ≡ true → is_of b w ≡ true → place v w ≡ compare v w
