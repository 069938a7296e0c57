use Rattle.std.proofs.Common.{◌-◌, take, drop, refl, arith}
use Rattle.gq_grammar.proofs.SeriesLemmas.{joined_none, joined_whole}
use Rattle.gq_grammar.proofs.source.Source.joined.Goals as goal

pub loop-token-init : goal.loop-token-init
loop-token-init c = joined_none c.new-text.result.items c.new-text.ensures.items

pub returns : goal.returns
returns c =
    joined_whole c.self.inside.bytes.now c.self.inside.tokens.now (take (c.args.to - c.args.from) (drop c.args.from c.self.inside.tokens.now)) c.args.self.now c.args.from c.args.to
    c.loop-token.token-index c.loop-token.text.items c.self.view_is refl (omega (arith, c.loop-token-test.false)) c.loop-token.invariant
