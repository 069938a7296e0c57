use Rattle.std.proofs.Common.{rules, arith, ◌<◌, length}
use Rattle.gq_words.specs.declared.fold.Op.TheVariants.{Min}
use Rattle.gq_words.specs.Rule.{openings}
use Rattle.gq_words.proofs.ListLemmas.{place_within}
use Rattle.gq_words.proofs.RuleLemmas.{feeds}
use Rattle.gq_words.proofs.words.Words.feed_min.Goals as goal

pub fetch_min-requires : goal.fetch_min-requires
fetch_min-requires c =
    let inside : c.args.i < length (openings c.args.self.now.table.shared.key) = place_within _ _ _ c.requires.op in
    (search rules, omega arith, feeds _ _ _ _ _ Min _ (search rules) c.requires.op)
