use Rattle.std.proofs.Common.{◌≡◌, drop}
use Rattle.gq_rules_typing.specs.KindTypes as kinds
use Rattle.gq_exec_vars.proofs.fields.stands_in.Given as goal

abbrev pub invariant-loop-known : goal.invariant-loop-known
invariant-loop-known l = kinds.stands_in l.names l.name ≡ kinds.stands_in (drop l.known-index l.names) l.name
