use Rattle.gq_grammar.proofs.PlaceLemmas.{no_sign_left, sign_here, sign_other}
use Rattle.gq_grammar.proofs.source.Source.sign.Goals as goal

pub returns-then-at-self : goal.returns-then-at-self
returns-then-at-self c = no_sign_left c.self.inside.bytes.now c.self.inside.tokens.now c.args.self.now c.args.at c.self.view_is _ c.if-at-self.true

pub returns-then-is_mark : goal.returns-then-is_mark
returns-then-is_mark c = sign_here c.self.inside.bytes.now c.self.inside.tokens.now c.args.self.now c.args.at c.self.view_is _ c.requires c.if-at-self.false c.args.sign.now c.is_mark.result c.is_mark.ensures c.if-is_mark.true

pub returns-else-is_mark : goal.returns-else-is_mark
returns-else-is_mark c = sign_other c.self.inside.bytes.now c.self.inside.tokens.now c.args.self.now c.args.at c.self.view_is _ c.requires c.if-at-self.false c.args.sign.now c.is_mark.result c.is_mark.ensures c.if-is_mark.false
