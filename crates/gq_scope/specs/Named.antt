-- Named: the visible names, each with its place, and the next place.
use Rattle.std.specs.Prelude.{ℕ, suc, ◌-◌, Bool, false, List, ◌∷◌, length, drop, Option, Some, None}
use Rattle.std.specs.Option.{option_map}
use Rattle.std.specs.Str.{bytes_eq}
use Rattle.gq_rules_typing.specs.Words.{under}
use Rattle.gq_scope.specs.declared.places.NameBinding.{NameBinding}

-- the names are in reverse order: the last one added comes first
pub record Named : Type 0 where
  pub visible : List (List ℕ × NameBinding)
  pub next : ℕ

abbrev pub found_in : List (List ℕ × NameBinding) → List ℕ → Option NameBinding
found_in es x = under bytes_eq x es

abbrev pub seen_at : Named → List ℕ → Option NameBinding
seen_at n x = found_in n.visible x

abbrev pub place_at : Named → List ℕ → Option ℕ
place_at n x = option_map (λ (s : NameBinding). s.place) (seen_at n x)

abbrev pub marked_in : Option NameBinding → Bool
marked_in None = false
marked_in (Some s) = s.marked

abbrev pub is_marked : Named → List ℕ → Bool
is_marked n x = marked_in (seen_at n x)

-- ---- adding and removing names

-- a new name takes the next place
abbrev pub with_name : Named → List ℕ → Bool → Named
with_name n x marked = record { visible = (x, record { place = n.next; marked = marked }) ∷ n.visible; next = suc n.next }

-- only the first names are kept; places aren't reused
abbrev pub kept : ℕ → Named → Named
kept k n = record { visible = drop (length n.visible - k) n.visible; next = n.next }
