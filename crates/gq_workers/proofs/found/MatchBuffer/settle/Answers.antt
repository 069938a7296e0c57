use Rattle.std.proofs.Common.{refl, rules}
use Rattle.gq_workers.specs.declared.found.MatchBuffer.{MatchBuffer}
use Rattle.gq_workers.proofs.FoundLemmas.{settled}
use Rattle.gq_workers.proofs.found.MatchBuffer.settle.Goals as goal

pub returns-in_ok-add_inputs-clause-kept : goal.returns-in_ok-add_inputs-clause-kept
returns-in_ok-add_inputs-clause-kept c =
    let new : MatchBuffer = record { batches = c.add_inputs.new.into; inputs = c.truncate.new.self; room = c.args.self.now.room; sources = c.args.self.now.sources; targets = c.args.self.now.targets } in
    settled c.args.self.now new c.args.self.now.inputs c.requires refl c.in_ok-add_inputs.ensures (search rules) refl refl
