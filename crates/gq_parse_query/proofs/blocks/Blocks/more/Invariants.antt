use Rattle.std.proofs.Common.{◌-◌}
use Rattle.gq_grammar.specs.Lexemes.{sign}
use Rattle.gq_grammar.specs.Series.{ended}
use Rattle.gq_parse_select.specs.Bodies.{nested_parser}
use Rattle.gq_grammar.proofs.LoopLemmas.{Turns}
use Rattle.gq_parse_query.proofs.blocks.Blocks.more.Given as goal

-- what was read, followed by what is read from here on, is the whole
abbrev pub invariant-loop-turn : goal.invariant-loop-turn
invariant-loop-turn g l = Turns (ended (sign ";") (nested_parser l.self.levels)) l.self.source.now l.from (l._turn-end - l._turn) l.found.items l.at
