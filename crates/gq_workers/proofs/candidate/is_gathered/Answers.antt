use Rattle.std.proofs.Common.{refl, true, rules}
use Rattle.gq_rules_calendar.specs.Gregorian.{gregorian}
use Rattle.gq_workers.specs.declared.found.MatchBuffer.{MatchBuffer}
use Rattle.gq_workers.proofs.ComesLemmas.{read_gathered}
use Rattle.gq_workers.proofs.candidate.is_gathered.Goals as goal

pub returns : goal.returns
returns c =
    let new : MatchBuffer = record { batches = c.args.found.now.batches; inputs = c.gather.new.into; room = c.args.found.now.room; sources = c.mark.new.words; targets = c.mark_end.new.words } in
    read_gathered gregorian c.args.over.now c.args.work.now.leaves c.args.work.now.block.now c.args.candidate.now c.args.found.now new c.as_slice-acts.result.now true c.in_ok-gather.field-0 c.as_slice-acts.ensures refl (search rules) c.requires.passed c.in_ok-gather.ensures
    c.requires.within c.requires.shaped refl c.mark.ensures.len c.mark_end.ensures.len c.mark.ensures.marks c.mark_end.ensures.marks
