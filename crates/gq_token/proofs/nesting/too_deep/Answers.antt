use Rattle.std.proofs.Common.{◌+◌, Some, ap, sym, subst, arith}
use Rattle.gq_token.proofs.NestingLemmas.{IsNested, nested_more, nested_deep}
use Rattle.gq_token.proofs.PlaceLemmas.{too_deep_unique, never_deep}
use Rattle.gq_token.proofs.nesting.too_deep.Goals as goal

pub returns-then-depth-gt64-clause-some : goal.returns-then-depth-gt64-clause-some
returns-then-depth-gt64-clause-some c =
    let l = c.loop-token in
    let token = c.token-item.result in
    nested_deep c.args.bytes.now c.args.tokens.now l.token-index l.depth l.behind_else l.invariant token token (omega arith) c.token-item.is
    c.depth_with-depth.result c.depth_with-depth.ensures c.if-depth-gt64.true

pub loop-token-preserved : goal.loop-token-preserved
loop-token-preserved c =
    let l = c.loop-token in
    let token = c.token-item.result in
    let more =
    nested_more c.args.bytes.now c.args.tokens.now l.token-index l.depth l.behind_else l.invariant token token (omega arith) c.token-item.is
    c.depth_with-depth.result c.depth_with-depth.ensures (omega arith) in
    subst (IsNested c.args.bytes.now c.args.tokens.now (l.token-index + 1) c.depth_with-depth.result) (sym c.is_keyword-behind_else.ensures) more

pub returns-then-depth-gt64-clause-only : goal.returns-then-depth-gt64-clause-only
returns-then-depth-gt64-clause-only c = λ place deep.
    let l = c.loop-token in
    let token = c.token-item.result in
    let here =
    nested_deep c.args.bytes.now c.args.tokens.now l.token-index l.depth l.behind_else l.invariant token token (omega arith) c.token-item.is
    c.depth_with-depth.result c.depth_with-depth.ensures c.if-depth-gt64.true in
    ap (λ n. Some n) (too_deep_unique c.args.bytes.now c.args.tokens.now token.from place here deep)

pub returns-clause-only : goal.returns-clause-only
returns-clause-only c = λ place deep.
    absurd (never_deep c.args.bytes.now c.args.tokens.now c.loop-token.token-index (omega arith) c.loop-token.invariant.shallow place deep)
