-- Entries: what stands under a key row, in a list of keys with what belongs to each.
-- The keys of a map are values and those of a group are rows, and both are read as key rows. The code has ordered maps.
use Rattle.std.specs.Prelude.{if◌then◌else◌, ◌≡◌, Bool, false, List, [], ◌∷◌, map, Option, Some, None}
use Rattle.std.specs.Ordering.{is_eq}
use Rattle.std.specs.Map.{lookup}
use Rattle.std.specs.Global.{Vec}
use Rattle.gq_value.specs.declared.value.Value.{Value}
use Rattle.gq_value.specs.Val.{Val}
use Rattle.gq_value.specs.Views.{val}
use Rattle.gq_accum_laws.specs.Gather.{put, distinct}
use Rattle.gq_accum_laws.specs.Holds.{row_cmp}

-- a value as a row of one
abbrev pub key_row : Value → List Val
key_row v = val v ∷ []

-- the key row of a group
abbrev pub group_row : Vec Value → List Val
group_row row = map val row.items

-- P holds of each of a list
abbrev pub every : {A : Type 0} → (A → Type 0) → List A → Type 0
every P [] = Unit {0}
every P (x ∷ xs) = P x × every P xs

-- f of the value, or d if there is none
abbrev pub at_or : {A B : Type 0} → (A → B) → B → Option A → B
at_or f d None = d
at_or f d (Some x) = f x

-- two lists have the same length, and R relates the items at each index
abbrev pub Pairs : {X Y : Type 0} → (X → Y → Type 0) → List X → List Y → Type 0
Pairs R [] [] = Unit {0}
Pairs R (x ∷ xs) (y ∷ ys) = R x y × Pairs R xs ys
Pairs R _ _ = ⊥

-- the lists have the same length, and at each index the old item steps to the new one by the item of the middle list
abbrev pub StepsEach : {X Y : Type 0} → (X → Y → X → Type 0) → List X → List Y → List X → Type 0
StepsEach step [] [] [] = Unit {0}
StepsEach step (x ∷ old) (y ∷ ys) (z ∷ new) = step x y z × StepsEach step old ys new
StepsEach step _ _ _ = ⊥

-- whether a key has this row
abbrev pub is_row : {K : Type 0} → (K → List Val) → List Val → K → Bool
is_row row q key = is_eq (row_cmp q (row key))

module _ {K X : Type 0} (row : K → List Val) where
  abbrev pub rows : List (K × X) → List (List Val)
  rows es = map (λ e. row e.0) es

  -- the value at a key row
  abbrev pub under : List Val → List (K × X) → Option X
  under q es = lookup (is_row row q) es

  -- P holds of the value at each key row
  abbrev pub Each : (X → Type 0) → List (K × X) → Type 0
  Each P es = (q : List Val) (x : X) → under q es ≡ Some x → P x

  -- x is now the value at the key row, and the other key rows keep theirs
  pub record Puts (old : List (K × X)) (key : List Val) (x : X) (new : List (K × X)) : Type 0 where
    pub keys : distinct row_cmp (rows new) ≡ put row_cmp false key (distinct row_cmp (rows old))
    pub at : (q : List Val) → under q new ≡ (if is_eq (row_cmp q key) then Some x else under q old)

  -- the value at the key row, or the initial one of a new key row, has made a step
  pub record Changes (begins : X → Type 0) (step : X → X → Type 0) (old : List (K × X)) (key : List Val) (new : List (K × X)) : Type 0 where
    pub was : X
    pub now : X
    pub begun : under key old ≡ None → begins was
    pub found : (x : X) → under key old ≡ Some x → x ≡ was
    pub stepped : step was now
    pub puts : Puts old key now new

  -- the same key rows, with a copy of the value at each
  pub record CopiesEach (copies : X → X → Type 0) (all new : List (K × X)) : Type 0 where
    pub keys : distinct row_cmp (rows new) ≡ distinct row_cmp (rows all)
    pub none : (q : List Val) → under q all ≡ None → under q new ≡ None
    pub some : (q : List Val) (p : X) → under q all ≡ Some p → (c : X) × (under q new ≡ Some c) × copies p c
