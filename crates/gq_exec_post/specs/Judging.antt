-- Judging: whether a content fits after an input, by the entries that the input changed, as the others fitted before.
use Rattle.std.specs.Prelude.{◌≡◌, ℕ, Bool, true, ◌&&◌, List, map, drop}
use Rattle.gq_value.specs.declared.kind.Input.{Input}
use Rattle.gq_value.specs.Accums.{Accum, MapAccum, GroupByAccum, Parts, no_part, part_and, Given, Keyed, Givens}
use Rattle.gq_value.specs.AccumViews.{given, givens}
use Rattle.gq_accum_laws.specs.Holds.{Holds, HoldsEach}
use Rattle.gq_accum_laws.specs.Inputs.{first, rest}
use Rattle.gq_accum_laws.specs.Fits.{fits}
use Rattle.gq_nest.specs.declared.content.Content.{Content}
use Rattle.gq_nest.specs.Shows.{ShowEach}

abbrev mutual
  -- whether the entries at the input's keys fit; for an input without keys, whether the whole content fits
  pub fits_where : (k : Accum) → Holds k → Given → Bool
  fits_where (MapAccum b k) c (Keyed row xs) = fits_where k (c.1 row) (first xs)
  fits_where (GroupByAccum keys ps) c (Keyed row xs) = fit_where ps (c.1 row) xs
  fits_where k c x = fits k c

  pub fit_where : (ps : Parts) → HoldsEach ps → Givens → Bool
  fit_where no_part cs xs = true
  fit_where (part_and name k ps) cs xs = fits_where k cs.0 (first xs) && fit_where ps cs.1 (rest xs)

-- the input at an index; past the last one it is one value
abbrev pub given_at : List Input → ℕ → Given
given_at xs i = first (givens (map given (drop i xs)))

-- the answer is whether the changed entries fit in each part
pub record EachTellsWhere (xs : List Given) (cs : List Content) (answer : Bool) : Type 0 where
  pub each : (ps : Parts) (h : HoldsEach ps) → ShowEach ps cs h → answer ≡ fit_where ps h (givens xs)
