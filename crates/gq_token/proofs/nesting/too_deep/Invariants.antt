use Rattle.gq_token.proofs.NestingLemmas.{IsNested}
use Rattle.gq_token.proofs.nesting.too_deep.Given as goal

abbrev pub invariant-loop-token : goal.invariant-loop-token
invariant-loop-token l = IsNested l.bytes l.tokens l.token-index l.depth l.behind_else
