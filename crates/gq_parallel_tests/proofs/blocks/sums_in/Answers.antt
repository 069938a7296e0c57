use Rattle.gq_parallel_tests.proofs.SetFits.{each_content}
use Rattle.gq_parallel_tests.proofs.blocks.sums_in.Goals as goal

pub three_sums-requires : goal.three_sums-requires
three_sums-requires c = each_content _ _ _ _ 3 c.requires.sums c.in_ok-partials.ensures.contents
