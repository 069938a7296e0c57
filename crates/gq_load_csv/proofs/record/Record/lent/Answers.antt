use Rattle.gq_load_csv.proofs.LineLemmas.{said_here}
use Rattle.gq_load_csv.proofs.record.Record.lent.Goals as goal

pub returns-then-self : goal.returns-then-self
returns-then-self c = rw (← c.self.view_is, c.if-self.true) (said_here c.self.inside.pieces.items c.args.number c.piece_at.result (rw c.deref.ensures.value at c.piece_at.ensures))
