use Rattle.std.proofs.Common.{rules, ◌≡◌, None, ap, drop}
use Rattle.gq_store.proofs.ChangeLemmas.{settles, ends_sealed}
use Rattle.gq_store.proofs.writer.settle.Goals as goal

pub returns-in-Ok-clause-same : goal.returns-in-Ok-clause-same
returns-in-Ok-clause-same g c =
    let none : c.stow.new.held ≡ None = search rules in
    let changes = drop c.stow.new.side.behind c.stow.new.side.log.items in
    settles _ c.stow.new.side.desk.shown.value.rows _ changes _ c.stow.new.held c.stow.ensures.same none (ap (λ d. d.shown.value.rows) c.append.ensures.desk) c.in-Ok.ensures.pending

pub returns-in-Ok-clause-sealed : goal.returns-in-Ok-clause-sealed
returns-in-Ok-clause-sealed g c = λ _. ends_sealed _ _ c.in-Ok.ensures.pending
