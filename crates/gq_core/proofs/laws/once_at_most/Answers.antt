use Rattle.gq_core.proofs.ReadingLemmas.{drawn_by_one, held_by_one, laid_once}
use Rattle.gq_core.proofs.laws.once_at_most.Goals as goal

pub returns-clause-drawn : goal.returns-clause-drawn
returns-clause-drawn c = drawn_by_one

pub returns-clause-held : goal.returns-clause-held
returns-clause-held c = held_by_one

pub returns-clause-laid : goal.returns-clause-laid
returns-clause-laid c = laid_once
