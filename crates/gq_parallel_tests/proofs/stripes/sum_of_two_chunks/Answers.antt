use Rattle.gq_parallel_tests.proofs.SumFits.{first_content}
use Rattle.gq_parallel_tests.proofs.stripes.sum_of_two_chunks.Goals as goal

pub sum_at-requires : goal.sum_at-requires
sum_at-requires g c = first_content _ _ _ c.in_ok-book.ensures.layout c.in_ok-close.ensures.contents
