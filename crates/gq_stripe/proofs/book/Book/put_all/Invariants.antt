use Rattle.std.proofs.Common.{◌≡◌, [], take, true, false}
use Rattle.gq_stripe.specs.Contents.{all_scalar}
use Rattle.gq_stripe.proofs.PutLemmas.{IsPutTo}
use Rattle.gq_stripe.proofs.book.Book.put_all.Given as goal

abbrev pub invariant-loop-j : goal.invariant-loop-j
invariant-loop-j g l = (l.place.table_id ≡ l.initial.place.table_id) × (l.place.id ≡ l.initial.place.id) × (l.place.me.1 ≡ [])
    × IsPutTo l.fn.chunk l.j (take l.j l.batches) l.spoiled l.initial.place.me.0 l.place.me.0 × (all_scalar l.initial.place.me.0.of.layout ≡ true → l.spoiled ≡ false)
