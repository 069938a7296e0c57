-- Reference: the representation of a name in a plan: places, slots, and types, fields and functions by number.
use Rattle.std.specs.Prelude.{ℕ}
use Rattle.gq_rules_meaning.specs.Words.{Function, Method}
use Rattle.gq_plan_ir.specs.declared.expr.FieldPlaces.{FieldPlaces}

pub data Reference : Type 0 where
  -- a variable, a set or an alias: a place of the frame
  Place : ℕ → Reference
  -- an accumulator: the number of its slot
  Slot : ℕ → Reference
  -- types by their numbers
  VertexType EdgeType TupleType : ℕ → Reference
  -- the name of a type, after a dot
  TypeName : Reference
  -- a field: its place in each type
  FieldAt : FieldPlaces → Reference
  Calls : Function → Reference
  Does : Method → Reference
