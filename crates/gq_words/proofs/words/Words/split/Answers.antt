use Rattle.std.proofs.Common.{rules, arith, ap}
use Rattle.gq_words.specs.declared.view.View.{View}
use Rattle.gq_words.proofs.RuleLemmas.{counts_one, splits}
use Rattle.gq_words.proofs.words.Words.split.Goals as goal

pub fetch_add-requires : goal.fetch_add-requires
fetch_add-requires c = (search rules, search rules, counts_one _ _ _ _ _ (search rules) (search rules) (search rules))

pub split_seat-made-requires : goal.split_seat-made-requires
split_seat-made-requires c = (search rules, search rules, splits _ _ _ (omega (arith, ap (λ (v : View). v.stands) c.fetch_add.ensures.2.1)))
