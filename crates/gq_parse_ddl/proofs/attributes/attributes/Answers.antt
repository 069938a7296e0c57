use Rattle.std.proofs.Common.{IfOk, Some, sym, subst}
use Rattle.gq_grammar.specs.Lexemes.{sign}
use Rattle.gq_grammar.specs.Parsers.{Found, many, after}
use Rattle.gq_parse_ddl.specs.Schema.{attribute_parser, attributes_parser}
use Rattle.gq_parse_ddl.proofs.attributes.attributes.Goals as goal

pub returns : goal.returns
unfolding attributes_parser
returns c =
    subst (λ z. Found (many (after (sign ",") attribute_parser)) c.args.source.now c.args.at (Some (z, c.in_ok-attributes.at))) (sym c.from_vec.ensures)
    (subst (λ r. IfOk r (λ read. Found (many (after (sign ",") attribute_parser)) c.args.source.now c.args.at (Some (read.0.items, read.1)))) c.in_ok-attributes.was
    (c.run.ensures (after (sign ",") attribute_parser) (λ alloc source at read within h. h.1)))

pub run-requires-clause-reads : goal.run-requires-clause-reads
run-requires-clause-reads c = (after (sign ",") attribute_parser, λ alloc source at read within h. h.1)
