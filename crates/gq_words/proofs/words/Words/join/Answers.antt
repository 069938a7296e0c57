use Rattle.std.proofs.Common.{rules}
use Rattle.gq_words.proofs.RuleLemmas.{joins, looks}
use Rattle.gq_words.proofs.words.Words.join.Goals as goal

pub join_seat-requires : goal.join_seat-requires
join_seat-requires c = (search rules, search rules, search rules, search rules, joins _ _ _ _ _ (search rules))

pub load-requires : goal.load-requires
load-requires c = (search rules, search rules, looks _ _ _ _)
