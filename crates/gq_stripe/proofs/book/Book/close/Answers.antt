use Rattle.std.proofs.Common.{ℕ, rules, arith, ap, ap₂, sym, ◌∙◌, ◌*◌, ◌≤◌, mul-le-mul}
use Rattle.gq_stripe.proofs.SeatLemmas.{counts}
use Rattle.gq_stripe.proofs.EndLemmas.{closes_whole, closes_contents}
use Rattle.gq_stripe.proofs.book.Book.close.Goals as goal

pub overflow_mul-wanted : goal.overflow_mul-wanted
overflow_mul-wanted c = let m = mul-le-mul c.args.self.few c.args.self.some.1 in let e = ap (λ (n : ℕ). c.args.self.chunks * n) c.from.ensures in omega (arith, m, e)

pub load-requires : goal.load-requires
load-requires c = (search rules, search rules, counts _ _ _ _)

pub returns-then-fine-clause-whole : goal.returns-then-fine-clause-whole
returns-then-fine-clause-whole c =
    closes_whole _ _ _ _ _ _ (ap (λ m. m.0) c.load.ensures.2.same) c.close_with.ensures.values.2 _ _ (ap₂ (λ (x y : ℕ). x * y) (sym c.args.self.chunks_is) (c.from.ensures ∙ sym c.args.self.stripes_is)) c.args.seat.puts_is c.if-puts-wanted.false

pub returns-then-fine-clause-contents : goal.returns-then-fine-clause-contents
returns-then-fine-clause-contents c =
    closes_contents _ _ _ _ _ _ (ap (λ m. m.0) c.load.ensures.2.same) c.close_with.ensures.values.2 _ _ (ap₂ (λ (x y : ℕ). x * y) (sym c.args.self.chunks_is) (c.from.ensures ∙ sym c.args.self.stripes_is)) c.args.seat.puts_is c.if-puts-wanted.false
    _ _ (sym c.args.self.stripes_is) (c.take_all-taken.ensures c.if-fine.true)
