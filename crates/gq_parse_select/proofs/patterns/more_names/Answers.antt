use Rattle.gq_grammar.specs.Lexemes.{Name, sign, spelling}
use Rattle.gq_grammar.specs.Parsers.{token, after}
use Rattle.gq_parse_select.proofs.patterns.more_names.Goals as goal

pub returns : goal.returns
returns c = c.run.ensures (after (sign "|") (token Name spelling)) (λ alloc source at read within h. h.1)

pub run-requires-clause-reads : goal.run-requires-clause-reads
run-requires-clause-reads c = (after (sign "|") (token Name spelling), λ alloc source at read within h. h.1)
