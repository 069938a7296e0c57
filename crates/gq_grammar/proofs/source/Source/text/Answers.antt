use Rattle.gq_grammar.proofs.PlaceLemmas.{none_left, text_here, text_other}
use Rattle.gq_grammar.proofs.source.Source.text.Goals as goal

pub returns-then-at-self : goal.returns-then-at-self
returns-then-at-self c = none_left c.self.inside.bytes.now c.self.inside.tokens.now c.args.self.now c.args.at c.self.view_is _ _ c.if-at-self.true

pub returns-in-Text : goal.returns-in-Text
returns-in-Text c = text_here c.self.inside.bytes.now c.self.inside.tokens.now c.args.self.now c.args.at c.self.view_is _ c.requires c.if-at-self.false c.in-Text.said c.in-Text.is

pub returns-in_default : goal.returns-in_default
returns-in_default c = text_other c.self.inside.bytes.now c.self.inside.tokens.now c.args.self.now c.args.at c.self.view_is _ c.requires c.if-at-self.false c.in_default.not-Text
