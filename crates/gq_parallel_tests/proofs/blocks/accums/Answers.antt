use Rattle.std.proofs.Common.{ap}
use Rattle.gq_parallel_tests.proofs.BlockLemmas.{sums_sound}
use Rattle.gq_parallel_tests.proofs.blocks.accums.Goals as goal

pub returns-clause-sound : goal.returns-clause-sound
returns-clause-sound c =
    sums_sound (record { slots = record { declared = c.in_ok-declared.declared; vertices = 3 }; contents = c.in_ok-contents.contents })
    (ap (λ slots. record { declared = slots; vertices = 3 }) c.in_ok-declared.ensures) c.in_ok-contents.ensures
