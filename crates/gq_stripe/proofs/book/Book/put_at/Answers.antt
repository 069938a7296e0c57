use Rattle.std.proofs.Common.{ap, sym, subst, refl, ◌∙◌}
use Rattle.gq_stripe.specs.declared.view.View.{View}
use Rattle.gq_stripe.specs.Contents.{FitsBatch}
use Rattle.gq_stripe.proofs.PutLemmas.{can_leave}
use Rattle.gq_stripe.proofs.book.Book.put_at.Goals as goal

pub wait_for-requires-clause-waits : goal.wait_for-requires-clause-waits
wait_for-requires-clause-waits g c = let w = c.ticket-ticket.ensures.waits in (ap (λ (v : View). v.phase) w.1, w.0)
