use Rattle.std.proofs.Common.{take}
use Rattle.gq_rules_calendar.specs.Gregorian.{gregorian}
use Rattle.gq_exec_contribute.specs.Prepared.{AddsInts, IsPart, sees_in}
use Rattle.gq_exec_contribute.proofs.reading.add_parts.Given as goal

-- the INTs so far are in the row
abbrev pub invariant-loop-part : goal.invariant-loop-part
invariant-loop-part l = AddsInts (IsPart (sees_in gregorian l.over l.leaves l.accums l.c)) (take l.part-index l.parts) l.fn.row l.row
