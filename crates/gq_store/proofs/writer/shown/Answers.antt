use Rattle.std.proofs.Common.{rules, ◌≡◌, None, refl, ap, ◌∙◌, drop}
use Rattle.gq_store.proofs.ChangeLemmas.{keeps_held, shown_none, shown_rows}
use Rattle.gq_store.proofs.writer.shown.Goals as goal

pub returns-in-Ok-clause-rows : goal.returns-in-Ok-clause-rows
returns-in-Ok-clause-rows g c =
    let none : c.settle.new.held ≡ None = search rules in
    let out = rw c.in-Ok.is at c.show-side.ensures in
    let changes = drop c.settle.new.side.behind c.settle.new.side.log.items in
    shown_rows _ _ _ changes c.settle.new.held c.settle.ensures.same none out.0

pub returns-in-Ok-clause-none : goal.returns-in-Ok-clause-none
returns-in-Ok-clause-none g c =
    let none : c.settle.new.held ≡ None = search rules in
    let out = rw c.in-Ok.is at c.show-side.ensures in
    shown_none _ _ none out.1

pub returns-in-Err-clause-same : goal.returns-in-Err-clause-same
returns-in-Err-clause-same g c =
    let out = rw c.in-Err.is at c.show-side.ensures in
    let changes = drop c.settle.new.side.behind c.settle.new.side.log.items in
    keeps_held _ _ changes _ c.settle.new.held _ (ap (λ s. s.rows) out.0) out.1 refl ∙ c.settle.ensures.same
