use Rattle.gq_parallel_tests.proofs.SetFits.{each_content}
use Rattle.gq_parallel_tests.proofs.threads.sums_by_two.Goals as goal

pub three_sums-requires : goal.three_sums-requires
three_sums-requires g c = each_content _ _ _ _ 3 c.in_ok-book.ensures.layout c.in_ok-partials.ensures.contents
