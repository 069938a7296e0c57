use Rattle.gq_rules_calendar.specs.Gregorian.{gregorian}
use Rattle.gq_frame.specs.Slots.{slots_are}
use Rattle.gq_eval_context.specs.Looks.{world_over}
use Rattle.gq_output.specs.Vertices.{whole_shown}
use Rattle.gq_output.proofs.EachLemmas.{EachFrom}
use Rattle.gq_output.proofs.seen.out_set.Given as goal

-- the vertices so far, followed by the rest
abbrev pub invariant-loop-vertex : goal.invariant-loop-vertex
invariant-loop-vertex l = EachFrom (whole_shown (world_over gregorian l.over) (slots_are l.over.frame.accums)) l.vertices l.vertex-index l.outs
