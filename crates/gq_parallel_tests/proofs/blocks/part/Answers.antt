use Rattle.std.proofs.Common.{◌∙◌}
use Rattle.gq_words.specs.Seats as marked
use Rattle.gq_parallel_tests.specs.Blocks.{job_at}
use Rattle.gq_parallel_tests.proofs.SumFits.{on_ok}
use Rattle.gq_parallel_tests.proofs.BlockLemmas.{works_free}
use Rattle.gq_parallel_tests.proofs.blocks.part.Goals as goal

pub work-requires-clause-ends : goal.work-requires-clause-ends
work-requires-clause-ends g c κs within = c.requires.task.ends_are

pub work-requires-clause-candidates : goal.work-requires-clause-candidates
work-requires-clause-candidates g c κs within = c.requires.task.candidates

pub work-requires-clause-stripes : goal.work-requires-clause-stripes
work-requires-clause-stripes g c κs within = c.requires.task.some

pub work-requires-clause-tables : goal.work-requires-clause-tables
work-requires-clause-tables g c κs within = c.requires.task.tables

pub returns : goal.returns
returns g c =
    let t = c.requires.task in let same = c.work.ensures.same in let task = c.args.task.now in
    on_ok c.work.result c.work.ensures.works (λ works. (
      works_free c.args.book.now (job_at c.args.over.now task.block.now task.ends.now task.candidates.now task.shape t.place) c.args.seat.now c.work.new.seat (marked.view_of c.args.word_seat.now) (marked.view_of c.work.new.word_seat)
          c.requires.seat.0 same.0 (works t.place t.is_place),
      same.1.0 ∙ c.requires.word_seat,
      works,
    ))
