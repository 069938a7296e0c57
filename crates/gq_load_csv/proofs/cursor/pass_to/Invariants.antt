use Rattle.gq_load_csv.specs.Cursors.{Goes}
use Rattle.gq_load_csv.proofs.cursor.pass_to.Given as goal

abbrev pub invariant-loop : goal.invariant-loop
invariant-loop l = Goes l.separator l.fn.cursor l.cursor
