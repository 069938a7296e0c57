use Rattle.std.proofs.Common.{ap, ◌∙◌, sym, ◌++◌, ◌∷◌, []}
use Rattle.gq_words.proofs.ListLemmas.{take_at}
use Rattle.gq_words.proofs.parts.first_of.Goals as goal

pub loop-i-preserved : goal.loop-i-preserved
loop-i-preserved c = c.in_ok-push.ensures.items ∙ (ap (λ l. l ++ c.word.result ∷ []) c.loop-i.invariant ∙ sym (take_at _ _ _ c.word.ensures))
