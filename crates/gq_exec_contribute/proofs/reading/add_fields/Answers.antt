use Rattle.std.proofs.Common.{refl, rules}
use Rattle.gq_rules_calendar.specs.Gregorian.{gregorian}
use Rattle.gq_exec_contribute.proofs.FedLemmas.{tuple_made}
use Rattle.gq_exec_contribute.proofs.reading.add_fields.Goals as goal

pub returns : goal.returns
returns c = λ t. tuple_made gregorian c.args.over.now c.args.leaves.now c.args.accums.now c.args.c.now c.args.fields.now c.args.number c.args.count c.args.row.now c.add_keys.new.row (search rules) (c.if-not-is_of_ints.ensures refl) c.requires.empty (c.add_keys.ensures t)
