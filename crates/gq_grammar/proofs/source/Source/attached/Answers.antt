use Rattle.gq_grammar.proofs.PlaceLemmas.{none_left, attached_here, attached_other}
use Rattle.gq_grammar.proofs.source.Source.attached.Goals as goal

pub returns-then-at-self : goal.returns-then-at-self
returns-then-at-self c = none_left c.self.inside.bytes.now c.self.inside.tokens.now c.args.self.now c.args.at c.self.view_is _ _ c.if-at-self.true

pub returns-in-None : goal.returns-in-None
returns-in-None c = attached_other c.self.inside.bytes.now c.self.inside.tokens.now c.args.self.now c.args.at c.self.view_is _ c.requires c.if-at-self.false c.in-None.ensures.none

pub returns-in-Some : goal.returns-in-Some
returns-in-Some c = attached_here c.self.inside.bytes.now c.self.inside.tokens.now c.args.self.now c.args.at c.self.view_is _ c.requires c.if-at-self.false c.in-Some.name.now c.in-Some.ensures.attached.0 c.in-Some.ensures.attached.1
