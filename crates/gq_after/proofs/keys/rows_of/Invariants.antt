use Rattle.std.proofs.Common.{◌≡◌, drop, map}
use Rattle.gq_rules_meaning.specs.Answers.{each}
use Rattle.gq_rules_meaning.specs.Tails as plain
use Rattle.gq_rules_calendar.specs.Gregorian.{gregorian}
use Rattle.gq_after.specs.Ranks.{order_of, ranked}
use Rattle.gq_after.specs.Sights.{vertex_look}
use Rattle.gq_after.proofs.EachSteps.{and_more}
use Rattle.gq_after.proofs.keys.rows_of.Given as goal

-- the rows so far, followed by those of the rest of the vertices
abbrev pub invariant-loop-vertex : goal.invariant-loop-vertex
invariant-loop-vertex l =
    each (plain.ranked (vertex_look gregorian l.over l.accums l.end) (order_of l.order)) l.vertices ≡ and_more (map ranked l.rows) (each (plain.ranked (vertex_look gregorian l.over l.accums l.end) (order_of l.order)) (drop l.vertex-index l.vertices))
