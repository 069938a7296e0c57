use Rattle.std.proofs.Common.{rules, arith}
use Rattle.gq_words.proofs.RuleLemmas.{opens}
use Rattle.gq_words.proofs.words.Words.open.Goals as goal

pub of_words-requires : goal.of_words-requires
of_words-requires c = let key = c.in_ok-key.ensures in opens _ _ (omega arith) (omega arith) (search rules)
