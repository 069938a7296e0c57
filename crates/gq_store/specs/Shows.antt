-- Shows: what a copy of a store shows, and the rule that holds of the copy that readers take and of what threads have seen.
use Rattle.std.specs.Prelude.{◌≡◌, ℕ, true, false, List, [], ◌∷◌, ◌++◌, Option, Some, None}
use mathlib.Core.Option.{some}
use mathlib.Core.List.{IsPrefix}
use lib.ListN.{get_elem?}
use Rattle.gq_load_check.specs.declared.insert.Insert.{Insert}
use Rattle.gq_store.specs.declared.view.Shown.{Shown}
use Rattle.gq_store.specs.declared.view.View.{View}

-- a copy takes in an insert, by which its index falls behind; or a seal, at which it brings that up to date
abbrev pub taken : Shown → Option Insert → Shown
taken shown None = record { rows = shown.rows; sealed = true }
taken shown (Some row) = record { rows = shown.rows ++ row ∷ []; sealed = false }

-- what each thread has seen begins the list
abbrev pub AllSeen : List Insert → List View → Type 0
AllSeen rows views = (seat : ℕ) (v : View) → get_elem? views seat ≡ some v → IsPrefix v.seen rows

-- of the copy that readers take: its index is up to date, and what each thread has seen begins its list
pub record Holds (shown : Shown) (views : List View) : Type 0 where
  pub sealed : shown.sealed ≡ true
  pub seen : AllSeen shown.rows views

-- who comes to the copy sees its list, which begins with what was seen before
pub record Looks (v : View) (shown : Shown) (w : View) : Type 0 where
  pub sealed : shown.sealed ≡ true
  pub begins : IsPrefix v.seen shown.rows
  pub all : w.seen ≡ shown.rows
