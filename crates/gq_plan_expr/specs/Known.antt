-- Known: what the names of a query resolve to at the position of an expression, and the references that replace them.
use Rattle.std.specs.Prelude.{◌≡◌, ℕ, true, List, Option, Some, None, Ok, bytes_eq}
use Rattle.gq_value.specs.Accums.{Accum}
use Rattle.gq_rules_typing.specs.Statements.{Bytes}
use Rattle.gq_rules_typing.specs.Words as words
use Rattle.gq_rules_typing.specs.Words.{Setting, under, methods, function_named, edge_quoted}
use Rattle.gq_rules_typing.specs.Judging.{Typed}
use Rattle.gq_rules_typing.specs.ExpressionTypes.{Names}
use Rattle.gq_plan_ir.specs.declared.expr.Field.{Field}
use Rattle.gq_plan_ir.specs.declared.expr.Function.{Function}
use Rattle.gq_plan_ir.specs.Reference.{Reference, Place, Slot, TypeName, Does}
use Rattle.gq_plan_ir.specs.ExprView.{field_of, function_of}
use Rattle.gq_plan_ir.specs.Renamed.{Renaming}
use Rattle.gq_plan_ir.specs.Settled.{counted_types, are_counted, is_field, is_function}

-- the method with this name
unfoldable pub method_at : Bytes → Option words.Method
method_at m = under bytes_eq m methods

-- the place of a variable, a set or an alias; the slot of an accumulator; the places of a field; a function or a tuple
-- type; the edge types that `outdegree` counts
pub record Known : Type 0 where
  pub place : Bytes → Option ℕ
  pub slot : Bytes → Option ℕ
  pub field : Bytes → Field
  pub function : Bytes → Option Function
  pub counted : Option Bytes → Option (List ℕ)

-- ---- the references; `type` alone is never looked up, so it replaces a name that isn't found

abbrev pub or_nothing : {A : Type 0} → (A → Reference) → Option A → Reference
or_nothing f None = TypeName
or_nothing f (Some a) = f a

abbrev pub references : Known → Renaming Bytes Reference
references k = record {
  name = λ x. or_nothing Place (k.place x);
  accum = λ a. or_nothing Slot (k.slot a);
  field = λ f. field_of (k.field f);
  method = λ m. or_nothing Does (method_at m);
  function = λ f. or_nothing function_of (k.function f);
}

-- ---- the results are consistent: the tables of a field, the types of a tuple's fields, the types that are counted

pub record IsRight (setting : Setting Reference) (k : Known) : Type 0 where
  pub field : (f : Bytes) → is_field setting (k.field f) ≡ true
  pub function : (f : Bytes) (g : Function) → k.function f ≡ Some g → is_function setting g ≡ true
  pub counted : (e : Option Bytes) (types : List ℕ) → k.counted e ≡ Some types → are_counted types (counted_types setting.sorts e) ≡ true

-- ---- every name that a well typed expression may use is found

pub record KnowsAll (names : Names Bytes) (k : Known) : Type 0 where
  pub named : (x : Bytes) (ty : Typed) → names.named x ≡ Ok ty → (n : ℕ) × (k.place x ≡ Some n)
  pub global : (a : Bytes) (kind : Accum) → names.global a ≡ Ok kind → (n : ℕ) × (k.slot a ≡ Some n)
  pub attached : (a : Bytes) (kind : Accum) → names.attached a ≡ Ok kind → (n : ℕ) × (k.slot a ≡ Some n)
  pub before : (a : Bytes) (kind : Accum) → names.before a ≡ Ok kind → (n : ℕ) × (k.slot a ≡ Some n)
  pub function : (f : Bytes) (g : words.Function) → function_named names.setting f ≡ Some g → (h : Function) × (k.function f ≡ Some h)
  pub method : (m : Bytes) → names.setting.words.method m ≡ method_at m
  pub all_counted : (types : List ℕ) × (k.counted None ≡ Some types)
  pub counted : (e : Bytes) (t : ℕ) → edge_quoted names.setting.sorts e ≡ Some t → (types : List ℕ) × (k.counted (Some e) ≡ Some types)
