use Rattle.std.proofs.Common.{refl}
use Rattle.gq_rules_calendar.specs.Gregorian.{gregorian}
use Rattle.gq_workers.specs.declared.found.MatchBuffer.{MatchBuffer}
use Rattle.gq_workers.specs.Running.{comes}
use Rattle.gq_workers.proofs.FoundLemmas.{passed, filtered}
use Rattle.gq_workers.proofs.candidate.try_candidate.Goals as goal

pub returns-in-Ok-Filtered-clause-tried : goal.returns-in-Ok-Filtered-clause-tried
returns-in-Ok-Filtered-clause-tried c =
    let new : MatchBuffer = record { batches = c.outcome_of.new.into; inputs = c.args.found.now.inputs; room = c.outcome_of.new.room; sources = c.args.found.now.sources; targets = c.args.found.now.targets } in
    filtered c.args.over.now c.args.candidate.now (comes gregorian c.args.over.now c.args.block.now c.args.ends.now c.args.edge c.args.candidate.now) c.args.found.now new (rw c.in-Ok-Filtered.field-0-is at c.in-Ok-Filtered.ensures) refl refl refl

pub returns-in-Ok-Passed-clause-tried : goal.returns-in-Ok-Passed-clause-tried
returns-in-Ok-Passed-clause-tried c =
    let new : MatchBuffer = record { batches = c.outcome_of.new.into; inputs = c.args.found.now.inputs; room = c.outcome_of.new.room; sources = c.mark.new.words; targets = c.mark_end.new.words } in
    passed c.args.over.now c.args.candidate.now (comes gregorian c.args.over.now c.args.block.now c.args.ends.now c.args.edge c.args.candidate.now) c.args.found.now new c.requires.within (rw c.in-Ok-Passed.field-0-is at c.in-Ok-Passed.ensures) c.requires.settled refl
    c.mark.ensures.marks c.mark_end.ensures.marks
