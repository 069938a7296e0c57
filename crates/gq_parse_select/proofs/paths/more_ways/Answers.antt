use Rattle.gq_grammar.specs.Lexemes.{sign}
use Rattle.gq_grammar.specs.Parsers.{after}
use Rattle.gq_parse_select.specs.Selects.{way_parser}
use Rattle.gq_parse_select.proofs.paths.more_ways.Goals as goal

pub returns : goal.returns
returns c = c.run.ensures (after (sign "|") way_parser) (λ alloc source at read within h. h.1)

pub run-requires-clause-reads : goal.run-requires-clause-reads
run-requires-clause-reads c = (after (sign "|") way_parser, λ alloc source at read within h. h.1)
