use Rattle.std.proofs.Common.{◌-◌}
use Rattle.gq_expr_read.specs.Descent.{expr, term}
use Rattle.gq_grammar.proofs.LoopLemmas.{Turns}
use Rattle.gq_expr_read.proofs.grammar.Grammar.terms.Given as goal

-- what was read, followed by what is read from here on, is the whole
abbrev pub invariant-loop-turn : goal.invariant-loop-turn
invariant-loop-turn g l = Turns (term (expr l.self.levels)) l.self.source.now l.from (l._turn-end - l._turn) l.found l.at
