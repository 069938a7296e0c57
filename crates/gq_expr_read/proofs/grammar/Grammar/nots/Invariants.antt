use Rattle.std.proofs.Common.{◌-◌, ◌≤◌}
use Rattle.gq_grammar.specs.Lexemes.{word}
use Rattle.gq_grammar.specs.Parsers.{one}
use Rattle.gq_grammar.proofs.LoopLemmas.{Turns, units}
use Rattle.gq_expr_read.proofs.grammar.Grammar.nots.Given as goal

-- what was read, followed by what is read from here on, is the whole
abbrev pub invariant-loop-turn : goal.invariant-loop-turn
invariant-loop-turn g l = Turns (one (word "NOT")) l.self.source.now l.from (l._turn-end - l._turn) (units l.count) l.at × (l.count ≤ l._turn)
