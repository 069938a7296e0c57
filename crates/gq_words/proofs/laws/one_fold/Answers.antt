use Rattle.gq_words.proofs.FoldLemmas.{same_feeds}
use Rattle.gq_words.proofs.laws.one_fold.Goals as goal

pub returns : goal.returns
returns c op opening i fs gs same = same_feeds op i opening fs gs (λ f. (same f).0) (λ f. (same f).1)
