use Rattle.std.proofs.Common.{◌≡◌, drop}
use Rattle.gq_rules_meaning.specs.Graphs.{number_in}
use Rattle.gq_eval_attributes.proofs.ids.number_in.Given as goal

-- the digits so far, and those that are left
abbrev pub invariant-loop-digit : goal.invariant-loop-digit
invariant-loop-digit l = number_in l.digits 0 ≡ number_in (drop l.digit-index l.digits) l.n
