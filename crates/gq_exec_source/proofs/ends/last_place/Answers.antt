use Rattle.std.proofs.Common.{Some, sym}
use Rattle.gq_exec_source.proofs.StepLemmas.{alias_last}
use Rattle.gq_exec_source.proofs.ends.last_place.Goals as goal

pub returns-in-Some : goal.returns-in-Some
returns-in-Some c = alias_last c.args.steps.now (Some c.in-Some.last.now) (sym c.in-Some.ensures.value)
