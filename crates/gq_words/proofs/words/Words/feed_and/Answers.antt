use Rattle.std.proofs.Common.{rules, arith, ◌<◌, length}
use Rattle.gq_words.specs.declared.fold.Op.TheVariants.{And}
use Rattle.gq_words.specs.Rule.{openings}
use Rattle.gq_words.proofs.ListLemmas.{place_within}
use Rattle.gq_words.proofs.RuleLemmas.{feeds}
use Rattle.gq_words.proofs.words.Words.feed_and.Goals as goal

pub fetch_and-requires : goal.fetch_and-requires
fetch_and-requires c =
    let inside : c.args.i < length (openings c.args.self.now.table.shared.key) = place_within _ _ _ c.requires.op in
    (search rules, omega arith, feeds _ _ _ _ _ And _ (search rules) c.requires.op)
