-- Declared: the declarations so far in a query, and the reference of each name then.
use Rattle.std.specs.Prelude.{◌≡◌, List, [], ◌∷◌, ◌++◌, Some, slice_get}
use Rattle.gq_scope.specs.declared.places.NameBinding.{NameBinding}
use Rattle.gq_scope.specs.Named.{Named, seen_at}
use Rattle.gq_rules_typing.specs.Statements.{Bytes}
use Rattle.gq_rules_typing.specs.Words.{by_name}
use Rattle.gq_rules_meaning.specs.Calendars.{Calendar}
use Rattle.gq_rules_meaning.specs.Graphs.{Graph}
use Rattle.gq_rules_meaning.specs.StateFits.{AllOf}
use Rattle.gq_plan_ir.specs.Reference.{Reference, Slot}
use Rattle.gq_plan_ir.specs.References.{by_reference}
use Rattle.gq_plan_ir.specs.Plans.{Ground, Declared}
use Rattle.gq_plan_stmt.specs.References.{fixed_in}
use Rattle.gq_plan_expr.specs.Found.{TupleTypes, plain_tuples, globals_of}
use Rattle.gq_plan_laws.specs.Sides.{numbered}

-- a run over a graph, by names and by references; a plan has these names of accumulators
abbrev pub ground_of : Graph → Calendar → List Bytes → Ground Bytes Reference
ground_of g clock accums = record { names = by_name g.sorts; references = by_reference g.sorts accums; graph = g; calendar = clock }

-- accumulators in order of declaration, each with its slot
abbrev pub slotted : Bytes × NameBinding → Bytes × Reference
slotted e = (e.0, Slot e.1.place)

abbrev pub accums_in : List (Bytes × NameBinding) → List (Bytes × Reference)
accums_in [] = []
accums_in (e ∷ es) = accums_in es ++ slotted e ∷ []

abbrev pub accums_of : Named → List (Bytes × Reference)
accums_of slots = accums_in slots.visible

abbrev pub declared_of : (g : Graph) (clock : Calendar) (accums : List Bytes) → TupleTypes → Named → Declared (ground_of g clock accums)
declared_of g clock accums ts slots =
    let f = fixed_in g.sorts accums (globals_of g.sorts ts slots) in
    record { named_tuples = plain_tuples ts; tuples = numbered 0 ts; accums = accums_of slots; nothing = f.nothing; accum = f.accum; field = f.field; method = f.method; function = f.function; vertex_type = f.vertex_type; edge_type = f.edge_type }

-- the slots of accumulators are those of their names, of which each is declared once
pub record SlotsAre (accums : List Bytes) (slots : Named) : Type 0 where
  pub found : AllOf (λ (e : Bytes × NameBinding). seen_at slots e.0 ≡ Some e.1) slots.visible
  pub told : AllOf (λ (e : Bytes × NameBinding). slice_get accums e.1.place ≡ Some e.0) slots.visible
