-- Steps: one input at a time, and the contents of one slot.
use Rattle.std.specs.Prelude.{◌≡◌, ◌<◌, ◌≤◌, ℕ, Bool, true, false, List, length, map}
use Rattle.std.specs.List.{All, list_all}
use Rattle.gq_value.specs.Accums.{Accum, SumAccum, AvgAccum, MapAccum, GroupByAccum, Given}
use Rattle.gq_accum_laws.specs.Fits.{fits}
use Rattle.gq_nest.specs.declared.content.Content.{Content, out-Content}
use Rattle.gq_nest.specs.Forms.{view}
use Rattle.gq_frame.specs.declared.accums.Accums.{Accums}
use Rattle.gq_frame.specs.Pages.{ChangesAt, Takes}
use Rattle.gq_exec_feed.specs.Feeding.{IsFed}

-- the content at a target takes one more input, and the others show the same as before; if there is no such target, none takes it
pub record TakesOne (old new : Accums) (target : ℕ) (x : Given) : Type 0 where
  pub takes : target < length old.contents → ChangesAt (Takes x) target old.contents new.contents
  pub stays : length old.contents ≤ target → new.contents ≡ old.contents
  pub slots : new.slots ≡ old.slots

-- a kind without a sum or an average at any level, whose contents always fit. A group isn't looked into
abbrev pub has_no_sum : Accum → Bool
has_no_sum (SumAccum n) = false
has_no_sum AvgAccum = false
has_no_sum (MapAccum b k) = has_no_sum k
has_no_sum (GroupByAccum keys ps) = false
has_no_sum k = true

-- the answer is whether all contents fit, as contents of a kind
pub record AllFitAs (k : Accum) (cs : List Content) (answer : Bool) : Type 0 where
  pub each : (f : ℕ) → All (IsFed k f) cs → answer ≡ list_all (fits k) (map (λ c. view k (out-Content c)) cs)

-- the answer is whether all contents fit, if they are of one kind
pub record AllFit (cs : List Content) (answer : Bool) : Type 0 where
  pub each : (k : Accum) (f : ℕ) → All (IsFed k f) cs → answer ≡ list_all (fits k) (map (λ c. view k (out-Content c)) cs)
