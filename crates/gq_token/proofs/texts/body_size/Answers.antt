use Rattle.std.proofs.Common.{refl, arith}
use Rattle.gq_token.specs.Texts.{closes}
use Rattle.gq_token.proofs.EndLemmas.{text_more, text_more_escape, never_ends}
use Rattle.gq_token.proofs.texts.body_size.Goals as goal

pub loop-at-preserved-in-92 : goal.loop-at-preserved-in-92
loop-at-preserved-in-92 c = text_more_escape c.args.behind.now c.loop-at.at _ c.loop-at.invariant (omega arith) refl c.in-92.is

pub loop-at-preserved : goal.loop-at-preserved
loop-at-preserved c = text_more c.args.behind.now c.loop-at.at _ c.loop-at.invariant (omega arith) refl (λ e. omega arith) (λ e. omega arith)

pub returns-clause-none : goal.returns-clause-none
returns-clause-none c = never_ends closes c.args.behind.now c.loop-at.at c.loop-at.invariant (omega arith) refl
