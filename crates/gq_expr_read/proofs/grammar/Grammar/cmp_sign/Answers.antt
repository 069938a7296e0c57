use Rattle.gq_expr_read.proofs.ComparisonLemmas.{cmp_found}
use Rattle.gq_expr_read.proofs.grammar.Grammar.cmp_sign.Goals as goal

pub returns : goal.returns
returns g c =
    cmp_found c.args.self.now.source.now c.args.at
    c.stands.result c.stands-2.result c.stands-3.result c.stands-4.result c.stands-5.result c.stands-6.result c.stands-7.result
    c.or.result c.or-2.result c.or-3.result c.or-4.result c.or-5.result c.or-6.result
    c.or.ensures c.or-2.ensures c.or-3.ensures c.or-4.ensures c.or-5.ensures c.or-6.ensures
    c.stands.ensures c.stands-2.ensures c.stands-3.ensures c.stands-4.ensures c.stands-5.ensures c.stands-6.ensures c.stands-7.ensures
