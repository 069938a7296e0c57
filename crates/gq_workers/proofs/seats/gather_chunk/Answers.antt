use Rattle.std.proofs.Common.{◌≡◌, ◌*◌, ◌-◌, ℕ, List, [], length, take, drop, refl, sym, ap, subst, ◌∙◌, arith}
use Rattle.std.proofs.lemmas.List.{length-replicate}
use Rattle.gq_graph.specs.declared.rows.Candidate.{Candidate}
use Rattle.gq_rules_calendar.specs.Gregorian.{gregorian}
use Rattle.gq_words.specs.Seats as marked
use Rattle.gq_workers.specs.Working.{Gathers, GathersOne, task_job}
use Rattle.gq_workers.proofs.RunLemmas.{within_at}
use Rattle.gq_workers.proofs.WorkingLemmas.{gathers_none, gathers_next}
use Rattle.gq_workers.proofs.seats.gather_chunk.Goals as goal

pub overflow_mul-start : goal.overflow_mul-start
overflow_mul-start c = let i = c.requires.inside in let n = c.count-count.ensures in let t = c.count-count.type_inv in omega (arith, i, n, t)

pub loop-place-init : goal.loop-place-init
loop-place-init c =
    let job = task_job gregorian c.args.over.now c.args.task.now (length c.args.room.now.batches) in
    let start = c.args.chunk * c.args.task.now.size in
    let none : take (start - start) (drop start c.args.task.now.candidates.now) ≡ [] = ap (λ (k : ℕ). take k (drop start c.args.task.now.candidates.now)) (let z : start - start ≡ 0 = omega arith in z) in (
      c.requires.own,
      (refl, refl),
      ap length c.clear.ensures ∙ length-replicate (length c.args.room.now.batches) [],
      omega arith,
      subst (λ (cs : List Candidate). Gathers job start cs c.clear.new.self (marked.view_of c.args.seat.now) (marked.view_of c.args.seat.now)) (sym none) (gathers_none job start c.clear.new.self (marked.view_of c.args.seat.now) c.clear.ensures),
    )

pub gather_one-requires-clause-within : goal.gather_one-requires-clause-within
gather_one-requires-clause-within c = within_at (length c.args.over.now.vertices) c.loop-place.place c.args.task.now.candidates.now c.near-candidate.result c.requires.within c.near-candidate.ensures.candidate

pub loop-place-preserved : goal.loop-place-preserved
loop-place-preserved c =
    let i = c.loop-place.invariant in let s = c.in_ok-gather_one.ensures.same in
    let job = task_job gregorian c.args.over.now c.args.task.now (length c.args.room.now.batches) in
    let one : GathersOne job c.loop-place.place c.near-candidate.result c.loop-place.room.batches c.gather_one.new.room.batches (marked.view_of c.loop-place.seat) (marked.view_of c.gather_one.new.seat) =
    subst (λ (n : ℕ). GathersOne (task_job gregorian c.args.over.now c.args.task.now n) c.loop-place.place c.near-candidate.result c.loop-place.room.batches c.gather_one.new.room.batches (marked.view_of c.loop-place.seat) (marked.view_of c.gather_one.new.seat)) i.2
    c.in_ok-gather_one.ensures.gathers in (
      s.0 ∙ i.0,
      (s.0 ∙ i.1.0, s.1 ∙ i.1.1),
      c.in_ok-gather_one.ensures.count ∙ i.2,
      (let l = i.3 in omega (arith, l)),
      gathers_next job (c.args.chunk * c.args.task.now.size) c.loop-place.place c.near-candidate.result c.loop-place.room.batches c.gather_one.new.room.batches (marked.view_of c.args.seat.now) (marked.view_of c.loop-place.seat) (marked.view_of c.gather_one.new.seat)
          i.3 c.near-candidate.ensures.candidate i.4 one,
    )
