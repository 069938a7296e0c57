use Rattle.gq_load_csv.proofs.CursorLemmas.{goes_further}
use Rattle.gq_load_csv.proofs.cursor.pass_to.Goals as goal

pub returns-then-is_none : goal.returns-then-is_none
returns-then-is_none c = goes_further c.args.separator c.args.cursor.now c.loop.cursor c.next_field.new.cursor c.loop.invariant c.next_field.ensures.goes

pub loop-preserved : goal.loop-preserved
loop-preserved c = goes_further c.args.separator c.args.cursor.now c.loop.cursor c.next_field.new.cursor c.loop.invariant c.next_field.ensures.goes
