use Rattle.std.proofs.Common.{◌≡◌, ◌-◌, sym, ap, ◌∙◌, arith}
use Rattle.gq_index.specs.Stretches.{walks_along}
use Rattle.gq_index.specs.Walks.{walk_at}
use Rattle.gq_index.proofs.StretchLemmas.{walk_there}
use Rattle.gq_index.proofs.stretches.read.Goals as goal

pub returns : goal.returns
returns c =
    let ss = c.args.stretches.now in let place = c.args.place in
    let same : place - 0 ≡ place = omega arith in
    c.along.ensures
    ∙ sym (walk_there 0 ss c.args.number place c.requires.follow c.requires.there c.requires.low c.requires.high)
    ∙ ap (walk_at (walks_along ss)) same
