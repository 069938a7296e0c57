use Rattle.gq_grammar.proofs.PlaceLemmas.{no_sign_left, keyword_here, keyword_other}
use Rattle.gq_grammar.proofs.source.Source.keyword.Goals as goal

pub returns-then-at-self : goal.returns-then-at-self
returns-then-at-self c = no_sign_left c.self.inside.bytes.now c.self.inside.tokens.now c.args.self.now c.args.at c.self.view_is _ c.if-at-self.true

pub returns-then-is_keyword : goal.returns-then-is_keyword
returns-then-is_keyword c = keyword_here c.self.inside.bytes.now c.self.inside.tokens.now c.args.self.now c.args.at c.self.view_is _ c.requires c.if-at-self.false c.args.word.now c.is_keyword.result c.is_keyword.ensures c.if-is_keyword.true

pub returns-else-is_keyword : goal.returns-else-is_keyword
returns-else-is_keyword c = keyword_other c.self.inside.bytes.now c.self.inside.tokens.now c.args.self.now c.args.at c.self.view_is _ c.requires c.if-at-self.false c.args.word.now c.is_keyword.result c.is_keyword.ensures c.if-is_keyword.false
