use Rattle.std.proofs.Common.{◌-◌}
use Rattle.gq_grammar.specs.Lexemes.{sign}
use Rattle.gq_grammar.specs.Parsers.{after}
use Rattle.gq_expr_read.specs.Descent.{expr}
use Rattle.gq_grammar.proofs.LoopLemmas.{Turns}
use Rattle.gq_expr_read.proofs.grammar.Grammar.more_arguments.Given as goal

-- what was read, followed by what is read from here on, is the whole
abbrev pub invariant-loop-turn : goal.invariant-loop-turn
invariant-loop-turn g l = Turns (after (sign ",") (expr l.self.levels)) l.self.source.now l.from (l._turn-end - l._turn) l.found.items l.at
