-- Shown: when visible names with their places, and the references found for other names, are those of a scope.
use Rattle.std.specs.Prelude.{◌≡◌, ℕ, Bool, true, false, List, Option, Some, None, bytes_eq}
use Rattle.gq_scope.specs.declared.places.NameBinding.{NameBinding}
use Rattle.gq_scope.specs.Named.{Named, seen_at}
use Rattle.gq_rules_typing.specs.Statements.{Bytes}
use Rattle.gq_rules_typing.specs.Words as words
use Rattle.gq_rules_typing.specs.Words.{Setting, function_named, edge_quoted}
use Rattle.gq_rules_typing.specs.Scopes.{Entry, Variable, SetVariable, Alias, EdgeAlias, Accumulator, TupleName, Scope, entry}
use Rattle.gq_plan_ir.specs.declared.expr.Function.{Function}
use Rattle.gq_plan_expr.specs.Known.{method_at}
use Rattle.gq_plan_expr.specs.Globals.{Globals}

-- a name is in view, marked or not
abbrev pub InView : Option NameBinding → Bool → Type 0
InView o marked = (place : ℕ) × (o ≡ Some (record { place = place; marked = marked }))

-- the binding of a name: variables, sets and aliases have places, and a set is marked; an accumulator has a slot
abbrev pub IsShown : Option ℕ → Option NameBinding → Option Entry → Type 0
IsShown slot o (Some (Variable b)) = InView o false
IsShown slot o (Some (SetVariable types)) = InView o true
IsShown slot o (Some (Alias types)) = InView o false
IsShown slot o (Some (EdgeAlias types)) = InView o false
IsShown slot o (Some (Accumulator k attached)) = (o ≡ None) × ((n : ℕ) × (slot ≡ Some n))
IsShown slot o (Some TupleName) = o ≡ None
IsShown slot o None = o ≡ None

-- the meaning of a name in typing is found for it
pub record FindsWords (g : Globals) (setting : Setting Bytes) : Type 0 where
  pub same : (a b : Bytes) → setting.words.same a b ≡ bytes_eq a b
  pub function : (f : Bytes) (w : words.Function) → function_named setting f ≡ Some w → (h : Function) × (g.function f ≡ Some h)
  pub method : (m : Bytes) → setting.words.method m ≡ method_at m
  pub all_counted : (types : List ℕ) × (g.counted None ≡ Some types)
  pub counted : (e : Bytes) (t : ℕ) → edge_quoted setting.sorts e ≡ Some t → (types : List ℕ) × (g.counted (Some e) ≡ Some types)
  pub vertex_type : (t : Bytes) (n : ℕ) → setting.words.vertex_type t ≡ Some n → g.vertex_type t ≡ Some n
  pub edge_type : (t : Bytes) (n : ℕ) → setting.words.edge_type t ≡ Some n → g.edge_type t ≡ Some n

pub record Shows (g : Globals) (s : Scope Bytes) (n : Named) : Type 0 where
  pub words : FindsWords g s.setting
  pub names : (x : Bytes) → IsShown (g.slot x) (seen_at n x) (entry s x)
