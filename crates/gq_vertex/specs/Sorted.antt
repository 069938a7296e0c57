-- Sorted: the tree of names, which a table uses instead of keys once its keys seem chosen to share a bucket.
use Rattle.std.specs.Prelude.{ℕ, ◌≡◌, ◌==◌, ◌&&◌, if◌then◌else◌, String, List, Option, Some, None, bytes_eq}
use Rattle.std.specs.BTreeMap.{BTreeMap, get, get_by_text}
use Rattle.std.specs.Ordering.{nat_cmp}
use Rattle.std.specs.Global.{Global}

-- numbers by id; the tree has one such map for each type
abbrev pub Ids : Type 0
Ids = BTreeMap (String Global) ℕ

abbrev pub Names : Type 0
Names = BTreeMap ℕ Ids

-- the number of an id, if the type has names
abbrev pub in_type : List ℕ → Option Ids → Option ℕ
in_type id None = None
in_type id (Some ids) = get_by_text ids id

-- the number under a type and an id
abbrev pub number_of : Names → ℕ → List ℕ → Option ℕ
number_of names kind id = in_type id (get nat_cmp names kind)

-- the tree now maps a type and an id to that number, and is unchanged elsewhere
abbrev pub Gives : Names → ℕ → List ℕ → Option ℕ → Names → Type 0
Gives old kind id number new = (k : ℕ) (i : List ℕ)
    → number_of new k i ≡ (if (kind == k) && bytes_eq id i then number else number_of old k i)
