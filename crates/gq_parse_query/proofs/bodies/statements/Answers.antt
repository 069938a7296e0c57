use Rattle.std.proofs.Common.{IfOk, Some, sym, subst}
use Rattle.gq_grammar.specs.Lexemes.{sign}
use Rattle.gq_grammar.specs.Parsers.{Found, many}
use Rattle.gq_grammar.specs.Series.{ended}
use Rattle.gq_parse_select.specs.Bodies.{statement_parser}
use Rattle.gq_parse_query.proofs.bodies.statements.Goals as goal

pub returns : goal.returns
returns c =
    subst (λ z. Found (many (ended (sign ";") statement_parser)) c.args.source.now c.args.at (Some (z, c.in_ok-statements.at))) (sym c.from_vec.ensures)
    (subst (λ r. IfOk r (λ read. Found (many (ended (sign ";") statement_parser)) c.args.source.now c.args.at (Some (read.0.items, read.1)))) c.in_ok-statements.was
    (c.run.ensures (ended (sign ";") statement_parser) (λ alloc source at read within h. h.1)))

pub run-requires-clause-reads : goal.run-requires-clause-reads
run-requires-clause-reads c = (ended (sign ";") statement_parser, λ alloc source at read within h. h.1)
