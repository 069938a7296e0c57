use Rattle.gq_grammar.proofs.PlaceLemmas.{none_left, name_here, name_reserved, name_other}
use Rattle.gq_grammar.proofs.source.Source.name.Goals as goal

pub returns-then-at-self : goal.returns-then-at-self
returns-then-at-self c = none_left c.self.inside.bytes.now c.self.inside.tokens.now c.args.self.now c.args.at c.self.view_is _ _ c.if-at-self.true

pub returns-in-None : goal.returns-in-None
returns-in-None c = name_other c.self.inside.bytes.now c.self.inside.tokens.now c.args.self.now c.args.at c.self.view_is _ c.requires c.if-at-self.false c.in-None.ensures.none

pub returns-then-is_reserved : goal.returns-then-is_reserved
returns-then-is_reserved c =
    name_reserved c.self.inside.bytes.now c.self.inside.tokens.now c.args.self.now c.args.at c.self.view_is _ c.requires c.if-at-self.false c.in-Some.word.now c.in-Some.ensures.word.0 c.in-Some.ensures.word.1
    c.is_reserved.result c.is_reserved.ensures c.if-is_reserved.true

pub returns-else-is_reserved : goal.returns-else-is_reserved
returns-else-is_reserved c =
    name_here c.self.inside.bytes.now c.self.inside.tokens.now c.args.self.now c.args.at c.self.view_is _ c.requires c.if-at-self.false c.in-Some.word.now c.in-Some.ensures.word.0 c.in-Some.ensures.word.1
    c.is_reserved.result c.is_reserved.ensures c.if-is_reserved.false
