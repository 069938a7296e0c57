use Rattle.std.proofs.Common.{ap, sym, ◌∙◌}
use Rattle.gq_rules_typing.specs.StatementViews.{view_definition}
use Rattle.gq_rules_meaning.specs.Messages.{accum_names}
use Rattle.gq_query_run.proofs.SlotLemmas.{names_in, names_viewed}
use Rattle.gq_query_run.proofs.slot.accums_of.Goals as goal

pub returns-in-Accums : goal.returns-in-Accums
returns-in-Accums c = ap names_in c.as_slice.ensures ∙ names_viewed c.in-Accums.accums ∙ ap (λ d. accum_names (view_definition d)) (sym c.in-Accums.is)
