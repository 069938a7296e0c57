use Rattle.std.proofs.Common.{◌-◌, ◌+◌, sym, subst, arith}
use Rattle.gq_grammar.proofs.LoopLemmas.{Turns, turns_begin, turns_found, turns_none, turns_over}
use Rattle.gq_parse_common.proofs.ListLemmas.{given, found_some, found_none}
use Rattle.gq_parse_common.proofs.lists.run.Goals as goal

pub loop-turn-init : goal.loop-turn-init
loop-turn-init g c = (c.requires.from, λ p f. subst (λ z. Turns p c.args.source.now c.args.from (c.len-turn-end.result - c.args.from) z c.args.from) (sym c.new-found.ensures.items) (turns_begin p c.args.source.now c.args.from (c.len-turn-end.result - c.args.from) (omega (arith, c.len-turn-end.ensures)) c.requires.from))

pub loop-turn-preserved : goal.loop-turn-preserved
loop-turn-preserved g c =
    let reads = c.requires.reads in (
      (found_some reads.0 c.args.source.now c.loop-turn.at c.item.result c.in_ok-item.field-0 (c.in-Some.item, c.in-Some.next) (given reads.0 reads.1 c.item.ensures c.loop-turn.invariant.0) c.in_ok-item.was c.in-Some.is).2,
      λ p f. subst (λ z. Turns p c.args.source.now c.args.from (c.len-turn-end.result - (c.loop-turn._turn + 1)) z c.in-Some.next) (sym c.in_ok-push-in-Some.ensures.items)
          (turns_found p c.args.source.now c.args.from c.len-turn-end.result c.loop-turn._turn c.loop-turn.found.items c.loop-turn.at c.in-Some.item c.in-Some.next (c.loop-turn.invariant.1 p f) c.loop-turn-test.true
          (found_some p c.args.source.now c.loop-turn.at c.item.result c.in_ok-item.field-0 (c.in-Some.item, c.in-Some.next) (given p f c.item.ensures c.loop-turn.invariant.0) c.in_ok-item.was c.in-Some.is)),
    )

pub returns-in-None : goal.returns-in-None
returns-in-None g c = λ p f.
    turns_none p c.args.source.now c.args.from c.len-turn-end.result c.loop-turn._turn c.loop-turn.found.items c.loop-turn.at (c.loop-turn.invariant.1 p f) c.loop-turn-test.true
    (found_none p c.args.source.now c.loop-turn.at c.item.result c.in_ok-item.field-0 (given p f c.item.ensures c.loop-turn.invariant.0) c.in_ok-item.was c.in-None.is)

pub returns : goal.returns
returns g c = λ p f.
    turns_over p c.args.source.now c.args.from c.len-turn-end.result c.loop-turn._turn c.loop-turn.found.items c.loop-turn.at (c.loop-turn.invariant.1 p f) (omega (arith, c.loop-turn-test.false))
