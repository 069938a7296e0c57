-- Planned: when the definitions of a plan are those of a query: each sees the declarations before it.
use Rattle.std.specs.Prelude.{◌≡◌, ℕ, Bool, List, [], ◌∷◌, ◌++◌, length, Option, Some, None, Ok}
use Rattle.gq_tree.specs.Tree.{Tree}
use Rattle.gq_value.specs.declared.kind.BaseType.{BaseType}
use Rattle.gq_value.specs.AccumViews.{accum_of}
use Rattle.gq_scope.specs.Named.{Named, seen_at, with_name}
use Rattle.gq_rules_typing.specs.Statements.{Bytes, BaseTree, KindTree, Definition, TupleType, Accums}
use Rattle.gq_rules_typing.specs.Sorts.{Sorts}
use Rattle.gq_rules_typing.specs.Words.{Setting, by_name}
use Rattle.gq_rules_typing.specs.KindTypes.{fields_written, kind_written}
use Rattle.gq_rules_meaning.specs.Queries.{scope_of}
use Rattle.gq_plan_ir.specs.declared.plan.Accum as code
use Rattle.gq_plan_ir.specs.declared.plan.Declared as declared
use Rattle.gq_plan_ir.specs.declared.plan.Definition as definition_code
use Rattle.gq_plan_ir.specs.declared.plan.Definition.TheVariants as definition
use Rattle.gq_plan_expr.specs.Resolved.{◌>>=◌, resolved}
use Rattle.gq_plan_select.specs.Resolved.{if_there, each_resolved}
use Rattle.gq_plan_expr.specs.Globals.{known_in}
use Rattle.gq_plan_stmt.specs.Parts.{resolved_base}
use Rattle.gq_plan_expr.specs.Found.{TupleTypes, plain_fields, plain_tuples, globals_of}

-- the declarations so far: tuple types and accumulators
pub record Heads : Type 0 where
  pub tuples : TupleTypes
  pub slots : Named

abbrev pub setting_of : Sorts → TupleTypes → Setting Bytes
setting_of sorts ts = record { words = by_name sorts; sorts = sorts; tuples = plain_tuples ts }

abbrev pub with_accum : Heads → Bytes → Bool → Heads
with_accum h name attached = record { tuples = h.tuples; slots = with_name h.slots name attached }

abbrev pub with_tuple : Heads → Bytes → List (Bytes × BaseType) → Heads
with_tuple h name fields = record { tuples = h.tuples ++ (name, fields) ∷ []; slots = h.slots }

module _ (sorts : Sorts) (n : Named) where
  -- an accumulator: its slot is the next one, and its opening sees the declarations before it
  pub record AccumPlanned (h : Heads) (a : Bool × Bytes × Option (Tree Bytes)) (b : code.Accum) : Type 0 where
    pub attached : b.attached ≡ a.0
    pub slot : b.slot ≡ h.slots.next
    pub name : b.name ≡ a.1
    pub new : seen_at h.slots a.1 ≡ None
    pub opening : if_there (resolved (known_in (globals_of sorts h.tuples h.slots) n)) a.2 ≡ Some b.opening

  abbrev pub AccumsPlanned : Heads → List (Bool × Bytes × Option (Tree Bytes)) → List code.Accum → Heads → Type 0
  AccumsPlanned h [] [] i = h ≡ i
  AccumsPlanned h (a ∷ rest) (b ∷ others) i = AccumPlanned h a b × AccumsPlanned (with_accum h a.1 a.0) rest others i
  AccumsPlanned h accums others i = ⊥

  -- a tuple type: its number is its place
  pub record TuplePlanned (h : Heads) (fs : List (BaseTree Bytes × Bytes)) (gs : List (declared.Declared × Bytes)) (m : ℕ) (own : List (Bytes × BaseType)) : Type 0 where
    pub number : m ≡ length h.tuples
    pub written : fields_written (scope_of (setting_of sorts h.tuples)) 16 [] fs ≡ Ok (plain_fields own)
    pub fields : each_resolved {A = BaseTree Bytes × Bytes} {B = declared.Declared × Bytes} (λ f. resolved_base (globals_of sorts h.tuples h.slots) f.0 >>= λ b. Some (b, f.1)) fs ≡ Some gs

  abbrev pub DefinitionsPlanned : Heads → List (Definition Bytes (KindTree Bytes)) → List definition_code.Definition → Heads → Type 0
  DefinitionsPlanned h [] [] i = h ≡ i
  DefinitionsPlanned h (TupleType fs x ∷ rest) (definition.Tuple gs m ∷ others) i =
      (fields : List (Bytes × BaseType)) × TuplePlanned h fs gs m fields × DefinitionsPlanned (with_tuple h x fields) rest others i
  DefinitionsPlanned h (Accums k accums ∷ rest) (definition.Accums kind bs ∷ others) i =
      (kind_written (scope_of (setting_of sorts h.tuples)) [] k ≡ Ok (accum_of kind)) × ((j : Heads) × (AccumsPlanned h accums bs j × DefinitionsPlanned j rest others i))
  DefinitionsPlanned h ds es i = ⊥
