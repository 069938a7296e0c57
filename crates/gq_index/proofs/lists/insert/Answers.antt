use Rattle.std.proofs.Common.{sym, ap, ◌∙◌}
use Rattle.std.specs.List.{insert}
use Rattle.gq_index.proofs.ListLemmas.{inserted}
use Rattle.gq_index.proofs.lists.insert.Goals as goal

pub returns : goal.returns
returns c = λ count v walks low are.
    let way = c.args.way in let p = c.place_for-place.result in
    inserted count v p c.deref.result.now c.insert.new.self.items way walks low (rw c.deref.ensures.value are) c.place_for-place.ensures.bound
    c.place_for-place.ensures.place (c.in_ok-insert.ensures.items ∙ ap (λ l. insert l p way) (sym c.deref.ensures.value))
