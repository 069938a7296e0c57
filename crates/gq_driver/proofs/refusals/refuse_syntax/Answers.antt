use Rattle.std.proofs.Common.{◌∙◌, subst}
use Rattle.gq_io.specs.Counts.{Rose}
use Rattle.gq_token.specs.Lines.{line_of}
use Rattle.gq_diagnostics.specs.Messages.{placed_message}
use Rattle.gq_diagnostics.specs.Outcome.{KeepsTo, refused_with}
use Rattle.gq_driver.proofs.refusals.refuse_syntax.Goals as goal

pub returns-in-Ok-clause-keeps : goal.returns-in-Ok-clause-keeps
returns-in-Ok-clause-keeps g c =
    subst (λ what. KeepsTo (refused_with (placed_message (line_of c.args.bytes.now c.args.at) what)) c.refuse_placed.result (g.K.Sink.written c.args.out.now) (g.K.Sink.written c.refuse_placed.new.out) ⊥ (Rose (g.K.Sink.faults c.args.out.now) (g.K.Sink.faults c.refuse_placed.new.out)))
    (c.as_str.ensures ∙ c.in-Ok.ensures) c.refuse_placed.ensures.keeps
