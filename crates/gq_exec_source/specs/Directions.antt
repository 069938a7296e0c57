-- Directions: in which directions a step walks the rows of each type, and from which vertices rows lead to marked ones.
use Rattle.std.specs.Prelude.{◌≡◌, ℕ, ◌==◌, ◌≤◌, Bool, true, false, ◌&&◌, ◌||◌, not, min, List, length, Option, Some, None, slice_get}
use Rattle.std.specs.List.{list_any}
use Rattle.std.specs.Option.{is_some}
use Rattle.std.proofs.Math.Bool.{beq}
use Rattle.gq_graph.specs.declared.types.EdgeType.{EdgeType}
use Rattle.gq_graph.specs.declared.rows.EdgeRow.{EdgeRow}
use Rattle.gq_index.specs.Walks.{base_of}
use Rattle.gq_rules_typing.specs.Way.{Way}
use Rattle.gq_rules_typing.specs.Way.TheVariants as way
use Rattle.gq_rules_typing.specs.Patterns as patterns
use Rattle.gq_exec_source.specs.declared.directions.Directions.{Directions}
use Rattle.gq_exec_source.specs.Marks.{is_marked}

-- whether a way has a direction, if forward along the type is that direction, or else the other
abbrev pub goes_so : Way → Bool → Bool
goes_so way.Forward forward = forward
goes_so way.Backward forward = not forward
goes_so way.Both forward = true

-- whether a type and a way have the rows of type k walked from FROM to TO, or back; all missing types count as one
abbrev pub walks_kind : List EdgeType → Bool → ℕ → Way × ℕ → Bool
walks_kind types back k pair = of_type (slice_get types pair.1)
  where
    of_type : Option EdgeType → Bool
    of_type (Some type) = goes_so pair.0 (beq (is_some type.forward) back) && (k == min (base_of type pair.1) (length types))
    of_type None = false

-- the types whose rows a step walks from FROM to TO, and those whose rows it walks back
pub record AreDirections (step : patterns.PathStep) (types : List EdgeType) (d : Directions) : Type 0 where
  pub count : d.types ≡ length types
  pub out : (k : ℕ) → k ≤ length types → is_marked d.out k ≡ list_any (walks_kind types false k) step.edges
  pub back : (k : ℕ) → k ≤ length types → is_marked d.back k ≡ list_any (walks_kind types true k) step.edges

-- whether a row leads from a vertex to a marked one
abbrev pub leads_from : Directions → List ℕ → EdgeRow → ℕ → Bool
leads_from d marks row v =
    ((is_marked d.out (min row.kind d.types) && is_marked marks row.to) && (v == row.from))
    || ((is_marked d.back (min row.kind d.types) && is_marked marks row.from) && (v == row.to))
