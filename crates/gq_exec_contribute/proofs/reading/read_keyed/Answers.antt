use Rattle.std.proofs.Common.{refl, rules}
use Rattle.gq_rules_calendar.specs.Gregorian.{gregorian}
use Rattle.gq_exec_contribute.specs.Prepared.{sees_in}
use Rattle.gq_exec_contribute.proofs.FedLemmas.{keyed_fed}
use Rattle.gq_exec_contribute.proofs.reading.read_keyed.Goals as goal

pub returns : goal.returns
returns c = λ t. keyed_fed (sees_in gregorian c.args.over.now c.args.leaves.now c.args.accums.now c.args.c.now) c.args.keys.now c.args.parts.now c.args.count c.args.part_count c.none-row.result c.add_keys.new.row c.add_parts.new.row (search rules) (search rules) c.none-row.ensures (c.if-not-add_keys.ensures refl) (c.if-not-add_parts.ensures refl)
