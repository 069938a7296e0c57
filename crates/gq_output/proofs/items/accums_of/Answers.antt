use Rattle.gq_output.proofs.items.accums_of.Goals as goal

pub returns-clause-sound : goal.returns-clause-sound
returns-clause-sound c = c.over.invariant.accums
