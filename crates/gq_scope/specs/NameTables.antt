-- NameTables: what a table of names keeps beside them, so that one lookup finds the last entry of a name.
-- A row number is stored plus one, so that 0 is none.
use Rattle.std.specs.Prelude.{ℕ, suc, ◌<◌, ◌≡◌, if◌then◌else◌, List, [], ◌∷◌, length, map, reverse, bytes_eq, unwrap_or}
use Rattle.std.specs.BTreeMap.{BTreeMap, get_by_text}
use Rattle.std.specs.Prelude.{String}
use Rattle.gq_rules_typing.specs.Statements.{Bytes}

-- the names without their values, in reverse order
abbrev pub newest_first : {A : Type 0} → List (Bytes × A) → List Bytes
newest_first rows = map (λ r. r.0) (reverse rows)

-- the last row of a name, given the names in reverse order
abbrev pub last_of : List Bytes → Bytes → ℕ
last_of [] name = 0
last_of (n ∷ ns) name = if bytes_eq n name then suc (length ns) else last_of ns name

-- for each name, the last earlier row with the same name
abbrev pub hidden_by : List Bytes → List ℕ
hidden_by [] = []
hidden_by (n ∷ ns) = last_of ns n ∷ hidden_by ns

-- the row that is stored for a name
abbrev pub row_of : {Y : Type 0} → BTreeMap (String Y) ℕ → Bytes → ℕ
row_of last name = unwrap_or (get_by_text last name) 0

-- the tree has the last row of each name, and `hidden` has the row that each row hides
pub record IsKept {A Y : Type 0} (rows : List (Bytes × A)) (hidden : List ℕ) (last : BTreeMap (String Y) ℕ) : Type 0 where
  pub linked : reverse hidden ≡ hidden_by (newest_first rows)
  pub ended : (name : Bytes) → row_of last name ≡ last_of (newest_first rows) name
  pub few : length rows < 4294967296
