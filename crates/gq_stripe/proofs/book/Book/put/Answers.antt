use Rattle.std.proofs.Common.{◌+◌, ℕ, arith, ap, ap₂, sym, ◌∙◌, length, length-append}
use Rattle.gq_stripe.specs.declared.view.View.{View}
use Rattle.gq_stripe.proofs.PutLemmas.{puts_long, held_one}
use Rattle.gq_stripe.proofs.book.Book.put.Goals as goal

pub invariant_of-seat : goal.invariant_of-seat
invariant_of-seat g c =
    let s = c.args.seat.now in let p = c.put_all-spoiled.ensures.put in let h = p.1 in let is = h.3 in
    let one = held_one _ _ _ s.phase_is c.requires.holds in let stripes = c.from.ensures in let few = c.args.self.now.some in let less = s.less in record {
      bare = (ap length p.0, ap (λ (v : View). length v.batch) is ∙ s.bare.1, ap (λ (v : View). length v.base) is ∙ s.bare.2);
      phase_is = ap (λ (v : View). v.phase) is;
      stands_is = ap (λ (v : View). v.stands) is ∙ s.stands_is;
      spare_is = ap (λ (v : View). v.spare) is ∙ s.spare_is;
      draws_is = ap (λ (v : View). length v.draws) is ∙ s.draws_is;
      puts_is = ap (λ (v : View). length v.puts) is ∙ (length-append s.place.me.0.puts h.0 ∙ ap₂ (λ (x y : ℕ). x + y) s.puts_is (puts_long _ _ _ _ h.1 ∙ (c.requires.fit.stripes ∙ (c.args.self.now.stripes_is ∙ sym stripes))));
      live = s.live;
      few = s.few;
      chunks = s.chunks;
      less = omega (arith, one, stripes, few, less);
    }
