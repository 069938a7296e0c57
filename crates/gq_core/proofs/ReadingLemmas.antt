-- What the accounts imply: no two workers drew, hold or laid the same thing.
use Rattle.std.proofs.Common.{◌≡◌, ℕ, ◌+◌, ◌<◌, ◌≤◌, ◌≢◌, ◌==◌, nat_lt, min, length, Some, slice_get, arith, lt-ltb, eq-eqb, ne_eqb}
use mathlib.Core.Logic.{dite}
use native.Mathlib.Decide.{ℕ_discrete}
use Rattle.gq_core.specs.declared.job.FeedJob.{FeedJob}
use Rattle.gq_core.specs.declared.worker.Phase.{Phase}
use Rattle.gq_core.specs.declared.worker.Phase.TheVariants.{Idle, Ended, Holds, Waits, Served, Lifted, Laid, Joined}
use Rattle.gq_core.specs.declared.worker.Worker.{Worker}
use Rattle.gq_core.specs.Machine.{Machine, stripe_at}
use Rattle.gq_core.specs.Accounts.{times, put_of, owes_of, ticket_of, laid_of, IsInOrder}
use Rattle.gq_core.proofs.TotalLemmas.{below_one, second_same, second_other, total_two, total_le}

-- a chunk that was laid at a stripe that isn't left yet is owed
laid_owed : (c j : ℕ) (p : Phase) → laid_of c j p ≤ owes_of c j p
laid_owed c j Idle = omega arith
laid_owed c j Ended = omega arith
laid_owed c j (Holds chunk stripe) = omega arith
laid_owed c j (Waits t) = omega arith
laid_owed c j (Served t) = omega arith
laid_owed c j (Lifted t) = omega arith
laid_owed c j (Laid t) = dite (ℕ_discrete j t.stripe)
    (λ (e : j ≡ t.stripe). let a = second_same (c == t.chunk) (j == t.stripe) (eq-eqb j t.stripe e) in let b = second_same (c == t.chunk) (nat_lt t.stripe (j + 1)) (lt-ltb t.stripe (j + 1) (omega arith)) in omega arith)
    (λ (ne : j ≢ t.stripe). let a = second_other (c == t.chunk) (j == t.stripe) (ne_eqb j t.stripe ne) in omega arith)
laid_owed c j Joined = omega arith

module _ (job : FeedJob) (m : Machine) (r : IsInOrder job m) where
  -- no chunk is drawn by two workers
  pub drawn_by_one : (w x : ℕ) (v u : Worker) → x ≢ w → slice_get m.workers w ≡ Some v → slice_get m.workers x ≡ Some u → (c : ℕ) → times c v.draws + times c u.draws ≤ 1
  drawn_by_one w x v u apart at there c =
      let two = total_two (λ v. times c v.draws) m.workers w x v u at there apart in let d = r.accounts.drawn c in let o = below_one c (min m.next (length job.chunks)) in omega arith

  -- no ticket is held by two workers
  pub held_by_one : (w x : ℕ) (v u : Worker) → x ≢ w → slice_get m.workers w ≡ Some v → slice_get m.workers x ≡ Some u → (j n : ℕ) → j < job.stripes → ticket_of j n v.phase + ticket_of j n u.phase ≤ 1
  held_by_one w x v u apart at there j n inside =
      let two = total_two (λ v. ticket_of j n v.phase) m.workers w x v u at there apart in let h = (r.accounts.balanced j inside).held n in let o = below_one n (stripe_at m j).tickets in omega arith

  -- no chunk is in a book twice
  pub laid_once : (j c : ℕ) → j < job.stripes → times c (stripe_at m j).book ≤ 1
  laid_once j c inside =
      let le = total_le (λ v. put_of c j v.puts + laid_of c j v.phase) (λ v. times c v.draws) m.workers
      (λ w v at. let f = (r.accounts.fair w v at).owed c j inside in let l = laid_owed c j v.phase in omega arith) in
      let b = (r.accounts.balanced j inside).booked c in let d = r.accounts.drawn c in let o = below_one c (min m.next (length job.chunks)) in omega arith
