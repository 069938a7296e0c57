use Rattle.std.proofs.Common.{◌≤◌, ◌-◌, length}
use Rattle.gq_grammar.specs.Lexemes.{sign}
use Rattle.gq_grammar.specs.Parsers.{Parser, after}
use Rattle.gq_grammar.proofs.LoopLemmas.{Turns}
use Rattle.gq_parse_common.specs.Readers.{Finds}
use Rattle.gq_parse_common.proofs.lists.more_items.Given as goal

-- for any kind of item, what was read, followed by what is read from here on, is the whole
abbrev pub invariant-loop-turn : goal.invariant-loop-turn
invariant-loop-turn g l =
    (l.at ≤ length l.source)
    × ((p : Parser g.row.T.Denot) → Finds p (goal.F-post g l.item) → Turns (after (sign ",") p) l.source l.from (l._turn-end - l._turn) l.found.items l.at)
