use Rattle.std.proofs.Common.{IfOk, subst}
use Rattle.gq_grammar.specs.Lexemes.{sign}
use Rattle.gq_grammar.specs.Series.{ended}
use Rattle.gq_parse_select.specs.Bodies.{nested_parser}
use Rattle.gq_parse_query.specs.Items.{Keeps}
use Rattle.gq_parse_query.proofs.ItemLemmas.{kept_next}
use Rattle.gq_parse_query.proofs.blocks.Blocks.more.Goals as goal

pub loop-turn-preserved : goal.loop-turn-preserved
loop-turn-preserved g c =
    kept_next (ended (sign ";") (nested_parser c.args.self.now.levels)) c.args.self.now.source.now c.args.from c.len-turn-end.result c.loop-turn._turn c.loop-turn.found.items c.keep.new.found.items c.loop-turn.at c.next.result c.in-Some.next
    c.loop-turn.invariant c.loop-turn-test.true c.next.ensures
    (subst (λ o. Keeps c.loop-turn.found.items c.keep.new.found.items c.next.result o) c.in-Some.is
    (subst (λ r. IfOk r (Keeps c.loop-turn.found.items c.keep.new.found.items c.next.result)) c.in_ok-keep.was c.keep.ensures))
