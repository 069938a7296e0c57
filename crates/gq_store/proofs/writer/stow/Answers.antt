use Rattle.std.proofs.Common.{sym, ap, ◌∙◌}
use Rattle.gq_store.proofs.ChangeLemmas.{stows}
use Rattle.gq_store.proofs.writer.stow.Goals as goal

pub returns-in-Ok-clause-same : goal.returns-in-Ok-clause-same
returns-in-Ok-clause-same g c =
    stows _ _ _ _ _ _ _ (ap (λ d. d.shown.value.rows) c.append.ensures.desk) c.in-Ok.ensures.pending (sym c.take.ensures.value ∙ c.in-Some.is) c.take.ensures.after
