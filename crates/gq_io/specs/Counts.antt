-- Counts: how often something failed. A count never decreases, and saturates at the maximum of its type.
use Rattle.std.specs.Prelude.{ℕ, ◌+◌, ◌-◌, ◌^◌, ◌≤◌, min}

-- a count that increases by one, up to the maximum
abbrev pub raised : ℕ → ℕ
raised count = min (count + 1) (2 ^ 64 - 1)

-- the count has increased, or is at the maximum of its type
abbrev pub Rose : ℕ → ℕ → Type 0
Rose before now = raised before ≤ now
