use Rattle.gq_rules_calendar.specs.Gregorian.{gregorian}
use Rattle.gq_output.proofs.WholeLemmas.{print_given, print_stops}
use Rattle.gq_output.proofs.whole.print.Goals as goal

pub returns-in-Ok : goal.returns-in-Ok
returns-in-Ok c = λ s shows. print_given gregorian c.args.over.now c.args.items.now s shows _ c.in-Ok.ensures

pub returns-in-Err : goal.returns-in-Err
returns-in-Err c = λ s shows. print_stops gregorian c.args.over.now c.args.items.now s shows c.in-Err.halt c.in-Err.ensures
