use Rattle.std.proofs.Common.{◌≡◌, ◌<◌, ◌++◌, ◌∷◌, [], ℕ, max, length, sym, ap, subst, ◌∙◌, arith}
use Rattle.gq_rules_calendar.specs.Gregorian.{gregorian}
use Rattle.gq_stripe.specs.Seats as stripes
use Rattle.gq_words.specs.Seats as marked
use Rattle.gq_workers.specs.Working.{DoesChunk, parts, task_job}
use Rattle.gq_workers.proofs.JobLemmas.{begins_inside}
use Rattle.gq_workers.proofs.WorkingLemmas.{may_draw, one_more}
use Rattle.gq_workers.proofs.seats.work.Goals as goal

pub do_chunk-requires-clause-inside : goal.do_chunk-requires-clause-inside
do_chunk-requires-clause-inside g c =
    let t = c.requires.tables c.in_ok-leaves.leaves.edge c.in_ok-leaves.ensures.edge in let m = c.max.ensures in
    begins_inside c.max.result (length c.args.candidates.now) c.in-Some-draw.chunk (omega (arith, m))
    (subst (λ (n : ℕ). c.in-Some-draw.chunk < n) (t.chunks ∙ ap (λ (n : ℕ). parts n (length c.args.candidates.now)) (sym c.max.ensures)) c.in-Some-draw.ensures.some.0)

pub loop-preserved : goal.loop-preserved
loop-preserved g c =
    let i = c.loop.invariant in let d = c.draw.ensures.same in let s = c.in_ok-do_chunk.ensures.same in
    let job = task_job gregorian c.args.over.now (record { block = c.args.block; ends = c.args.ends; edge = c.in_ok-leaves.leaves.edge; candidates = c.args.candidates; size = c.max.result }) c.args.shape.now.stripes in
    let does : DoesChunk job c.in-Some-draw.chunk (stripes.view_of c.loop.seat) (stripes.view_of c.do_chunk.new.seat) (marked.view_of c.loop.word_seat) (marked.view_of c.do_chunk.new.word_seat) =
    subst (λ (n : ℕ). DoesChunk (task_job gregorian c.args.over.now (record { block = c.args.block; ends = c.args.ends; edge = c.in_ok-leaves.leaves.edge; candidates = c.args.candidates; size = c.max.result }) n) c.in-Some-draw.chunk
    (stripes.view_of c.loop.seat) (stripes.view_of c.do_chunk.new.seat) (marked.view_of c.loop.word_seat) (marked.view_of c.do_chunk.new.word_seat)) i.4
    (c.in_ok-do_chunk.ensures.does (stripes.view_of c.loop.seat) c.in-Some-draw.ensures.some.1) in (
      may_draw c.args.book.now job c.in-Some-draw.chunk c.loop.seat c.do_chunk.new.seat (stripes.view_of c.loop.seat) (marked.view_of c.loop.word_seat) (marked.view_of c.do_chunk.new.word_seat) i.0.0 i.0.0.plan (s.0.0 ∙ d.0, s.0.1 ∙ d.1) does,
      (s.0.0 ∙ d.0 ∙ i.1.0, s.0.1 ∙ d.1 ∙ i.1.1),
      s.1.0 ∙ i.2,
      (s.1.0 ∙ i.3.0, s.1.1 ∙ i.3.1),
      c.in_ok-do_chunk.ensures.count ∙ i.4,
      (
        i.5.0 ++ c.in-Some-draw.chunk ∷ [],
        one_more job i.5.0 c.in-Some-draw.chunk (stripes.view_of c.args.seat.now) (stripes.view_of c.loop.seat) (stripes.view_of c.do_chunk.new.seat) (marked.view_of c.args.word_seat.now) (marked.view_of c.loop.word_seat) (marked.view_of c.do_chunk.new.word_seat)
            i.5.1 does,
      ),
    )
