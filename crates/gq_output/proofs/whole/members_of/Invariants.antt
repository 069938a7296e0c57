use Rattle.gq_rules_calendar.specs.Gregorian.{gregorian}
use Rattle.gq_output.proofs.WholeLemmas.{ItemsFrom}
use Rattle.gq_output.proofs.whole.members_of.Given as goal

-- the members so far, followed by those of the items left
abbrev pub invariant-loop-item : goal.invariant-loop-item
invariant-loop-item l = ItemsFrom gregorian l.over l.items l.item-index l.members
