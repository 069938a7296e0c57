use Rattle.std.proofs.Common.{◌≡◌, ◌∙◌, ◌+◌, Some, ap, sym, refl, subst, arith}
use Rattle.std.specs.Str.{IsUtf8}
use Rattle.gq_token.specs.Texts.{said}
use Rattle.gq_token.proofs.TextLemmas.{IsReadTo, read_escape, read_plain, read_whole}
use Rattle.gq_token.proofs.Utf8Lemmas.{said_utf8}
use Rattle.gq_token.proofs.texts.resolved.Goals as goal

pub loop-next-preserved-then-byte-eq92 : goal.loop-next-preserved-then-byte-eq92
loop-next-preserved-then-byte-eq92 c =
    let body = c.args.body.now in
    let read =
    read_escape body c.loop-next.next c.loop-next.bytes.items c.loop-next.invariant c.loop-next-test.true _ c.in-Some.meant refl
    c.if-byte-eq92.true (sym c.escape_of.ensures ∙ c.in-Some.is) in
    subst (IsReadTo body (c.loop-next.next + 2)) (sym c.in_ok-push-in-Some.ensures.items) read

pub loop-next-preserved : goal.loop-next-preserved
loop-next-preserved c =
    let body = c.args.body.now in
    let read = read_plain body c.loop-next.next c.loop-next.bytes.items c.loop-next.invariant c.loop-next-test.true _ refl c.if-byte-eq92.false in
    subst (IsReadTo body (c.loop-next.next + 1)) (sym c.in_ok-push.ensures.items) read

pub unreachable-requires : goal.unreachable-requires
unreachable-requires c =
    let says : said c.args.body.now ≡ Some c.loop-next.bytes.items =
    read_whole c.args.body.now c.loop-next.next c.loop-next.bytes.items c.loop-next.invariant (omega arith) in
    let utf8 : IsUtf8 c.loop-next.bytes.items = said_utf8 c.args.body.now c.loop-next.bytes.items c.requires.utf8 says in
    cc (c.in-Err.ensures.succeeds utf8)

pub returns-clause-text : goal.returns-clause-text
returns-clause-text c =
    read_whole c.args.body.now c.loop-next.next c.loop-next.bytes.items c.loop-next.invariant (omega arith)
    ∙ ap Some (sym (c.from_string.ensures ∙ ap (λ v. v.items) c.in-Ok.ensures.ok))
