use Rattle.std.proofs.Common.{ap, ◌∙◌, Bor, List, ℕ}
use Rattle.std.specs.Option.{option_map}
use Rattle.gq_load_csv.proofs.LineLemmas.{said_at}
use Rattle.gq_load_csv.proofs.record.Record.get.Goals as goal

pub returns-then-self : goal.returns-then-self
returns-then-self c =
    ap (option_map (λ (p : Bor (List ℕ)). p.now)) c.piece_at.ensures ∙ rw (← c.self.view_is, c.if-self.true, c.deref.ensures.value) (said_at c.self.inside.pieces.items c.args.number)
