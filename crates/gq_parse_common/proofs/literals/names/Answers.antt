use Rattle.gq_grammar.specs.Lexemes.{Name, spelling}
use Rattle.gq_grammar.specs.Parsers.{token}
use Rattle.gq_parse_common.specs.Literals.{names_parser}
use Rattle.gq_parse_common.proofs.literals.names.Goals as goal

pub returns : goal.returns
unfolding names_parser
returns c = c.list.ensures (token Name spelling) (λ alloc source at read within h. h.1)

pub list-requires-clause-reads : goal.list-requires-clause-reads
list-requires-clause-reads c = (token Name spelling, λ alloc source at read within h. h.1)
