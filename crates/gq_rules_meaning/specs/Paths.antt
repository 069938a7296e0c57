-- Paths: the bindings of a path. For each vertex of the set, each step takes every row that can be walked, by edge type
-- and then by row. Here every row is looked at at every step; the code has lists of rows by the vertex that they start from.
use Rattle.std.specs.Prelude.{ℕ, ◌==◌, Bool, true, false, if◌then◌else◌, List, [], ◌∷◌, filter, Option, Some, None}
use Rattle.std.specs.Option.{is_some, unwrap_or}
use Rattle.std.specs.List.{flat_map, list_any}
use Rattle.gq_rules_typing.specs.Way.{Way}
use Rattle.gq_rules_typing.specs.Way.TheVariants as way
use Rattle.gq_graph.specs.declared.types.EdgeType.{EdgeType}
use Rattle.gq_graph.specs.declared.rows.EdgeRow.{EdgeRow}
use Rattle.gq_graph.specs.declared.rows.Candidate.{Candidate}
use Rattle.gq_graph.specs.Candidates.{Sight, numbered, is_target, by_number, alone}
use Rattle.gq_rules_typing.specs.Patterns.{PathStep}

-- the ends of a row as a type has them: a reverse type has them exchanged
abbrev pub ends_under : EdgeType → EdgeRow → ℕ × ℕ
ends_under type row = if is_some type.forward then (row.to, row.from) else (row.from, row.to)

abbrev pub led : ℕ → ℕ → ℕ → Option ℕ
led near far v = if near == v then Some far else None

-- the vertex that a row leads to, walked in a way; a row with both ends at the vertex leads there once
abbrev pub led_to : Way → ℕ × ℕ → ℕ → Option ℕ
led_to way.Forward ends v = led ends.0 ends.1 v
led_to way.Backward ends v = led ends.1 ends.0 v
led_to way.Both ends v = if ends.0 == v then Some ends.1 else led ends.1 ends.0 v

-- the far end, if the row is one of the type: a reverse type has the rows of its forward type
abbrev pub far_end : Way → ℕ × EdgeType → EdgeRow → ℕ → Option ℕ
far_end w type row v = if row.kind == unwrap_or type.1.forward type.0 then led_to w (ends_under type.1 row) v else None

abbrev pub same_way : Way → Way → Bool
same_way way.Forward way.Forward = true
same_way way.Backward way.Backward = true
same_way way.Both way.Both = true
same_way _ _ = false

-- the ways in which a step walks a type, each once
abbrev pub ways_of : PathStep → ℕ → List Way
ways_of step t = filter (λ w. list_any (λ d. if d.1 == t then same_way d.0 w else false) step.edges) (way.Forward ∷ way.Backward ∷ way.Both ∷ [])

-- extends a candidate along one row
abbrev pub along : Sight → PathStep → Candidate → ℕ → ℕ × EdgeType → ℕ × EdgeRow → Way → List Candidate
along sight step c v type row w = reached (far_end w type row.1 v)
  where
    reached : Option ℕ → List Candidate
    reached None = []
    reached (Some far) = if is_target sight.kinds step.targets far then record { source = c.source; edge = Some row.0; kind = Some type.0; target = Some far } ∷ [] else []

-- all that one step leads to
abbrev pub step_from : Sight → PathStep → Candidate → List Candidate
step_from sight step c =
    flat_map (λ type. flat_map (λ row. flat_map (along sight step c (unwrap_or c.target c.source) type row) (ways_of step type.0)) (numbered 0 sight.edges)) (numbered 0 sight.types)

-- step by step
abbrev pub steps_from : Sight → List PathStep → Candidate → List Candidate
steps_from sight [] c = c ∷ []
steps_from sight (step ∷ steps) c = flat_map (steps_from sight steps) (step_from sight step c)

-- each binding as a candidate: its source, its last row with the type, and its end
abbrev pub bindings : Sight → List ℕ → List PathStep → List Candidate
bindings sight set steps = flat_map (λ v. steps_from sight steps (alone v)) (by_number sight set)
