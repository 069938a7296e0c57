use Rattle.std.proofs.Common.{List, sym, subst, ◌∙◌}
use Rattle.gq_value.specs.declared.kind.Kind.{Kind}
use Rattle.gq_stripe.specs.Opening.{AreOpen}
use Rattle.gq_stripe.proofs.SeatLemmas.{opens}
use Rattle.gq_stripe.proofs.book.Book.open.Goals as goal

pub new-made-requires : goal.new-made-requires
new-made-requires c =
    opens _ _ _ (c.as_slice.ensures.value ∙ c.in_ok-words.ensures) (subst (λ (kinds : List Kind). AreOpen kinds c.args.stripes c.in_ok-slots.slots.items) (sym c.in_ok-duplicate.ensures) c.in_ok-slots.ensures)
    (record { stripes = c.requires.stripes; chunks = c.requires.chunks; seats = c.requires.seats.1 }) c.requires.seats.0
