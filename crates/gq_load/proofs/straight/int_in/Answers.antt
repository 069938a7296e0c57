use Rattle.gq_load.proofs.StraightLemmas.{int_value}
use Rattle.gq_load.proofs.straight.int_in.Goals as goal

pub returns-in-Some-clause-reads : goal.returns-in-Some-clause-reads
returns-in-Some-clause-reads c =
    int_value c.args.attribute.now c.args.source c.args.line.now.fields c.in-Some.number c.int.result c.in-Some.is c.int.ensures.field c.int.ensures.key
