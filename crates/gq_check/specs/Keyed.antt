-- Keyed: the keys so far, and what the code keeps beside them.
use Rattle.std.specs.Prelude.{◌≡◌, List, map, reverse}
use Rattle.std.specs.Borrow.{Bor}
use Rattle.std.specs.BTreeSet.{BTreeSet, contains_by}
use Rattle.std.specs.Cmp.Lexicographic.{slice_cmp}
use Rattle.std.specs.List.{list_any}
use Rattle.std.specs.Ordering.{nat_cmp}
use Rattle.std.specs.Str.{bytes_eq}
use Rattle.gq_rules_typing.specs.Statements.{Bytes}

-- borrowed texts, in reverse order
abbrev pub newest_first : List (Bor Bytes) → List Bytes
newest_first keys = reverse (map (λ key. key.now) keys)

-- the set has exactly these keys
abbrev pub IsKnown : List Bytes → BTreeSet (Bor Bytes) → Type 0
IsKnown keys known = (key : Bytes) → contains_by (λ k. slice_cmp nat_cmp key k.now) known ≡ list_any (bytes_eq key) keys
