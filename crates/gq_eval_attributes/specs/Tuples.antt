-- Tuples: the tuple types of a query, numbered by their places.
use Rattle.std.specs.Prelude.{ℕ, suc, List, [], ◌∷◌, map}
use Rattle.std.specs.List.{zip}
use Rattle.gq_value.specs.AccumViews.{base_of}
use Rattle.gq_rules_typing.specs.Sorts.{Fields}
use Rattle.gq_plan_ir.specs.Reference as reference
use Rattle.gq_plan_ir.specs.Reference.{Reference}
use Rattle.gq_eval_attributes.specs.declared.tuple_type.TupleType.{TupleType}

abbrev pub fields_in : TupleType → Fields
fields_in t = map (λ f. (f.0, base_of f.1)) (zip t.names t.types)

-- the types from a number on
abbrev pub tuples_from : ℕ → List TupleType → List (Reference × Fields)
tuples_from n [] = []
tuples_from n (t ∷ ts) = (reference.TupleType n, fields_in t) ∷ tuples_from (suc n) ts

abbrev pub tuples_are : List TupleType → List (Reference × Fields)
tuples_are ts = tuples_from 0 ts
