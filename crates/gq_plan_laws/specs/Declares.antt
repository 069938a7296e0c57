-- Declares: when a scope of typing shows the declarations so far.
use Rattle.std.specs.Prelude.{◌≡◌, Bool, true, List, map, None, is_some}
use Rattle.std.specs.Str.{bytes_eq}
use Rattle.std.specs.List.{list_any}
use Rattle.gq_scope.specs.Named.{Named, seen_at}
use Rattle.gq_rules_typing.specs.Statements.{Bytes}
use Rattle.gq_rules_typing.specs.Sorts.{Sorts}
use Rattle.gq_rules_typing.specs.Scopes.{Scope, entry}
use Rattle.gq_plan_expr.specs.Found.{TupleTypes, globals_of}
use Rattle.gq_plan_laws.specs.Planned.{Heads, setting_of}
use Rattle.gq_plan_laws.specs.Shown.{Shows}

abbrev pub tuple_names : TupleTypes → List Bytes
tuple_names ts = map (λ t. t.0) ts

abbrev pub is_taken : List Bytes → Bytes → Bool
is_taken names x = list_any (λ y. bytes_eq y x) names

-- it has these tuple types, and shows these names in view and these accumulators; the names of tuple types are visible,
-- and a name that isn't visible has no slot
pub record Declares (sorts : Sorts) (n : Named) (h : Heads) (s : Scope Bytes) : Type 0 where
  pub setting : s.setting ≡ setting_of sorts h.tuples
  pub shows : Shows (globals_of sorts h.tuples h.slots) s n
  pub free : (x : Bytes) → entry s x ≡ None → seen_at h.slots x ≡ None
  pub taken : (x : Bytes) → is_taken (tuple_names h.tuples) x ≡ true → is_some (entry s x) ≡ true
