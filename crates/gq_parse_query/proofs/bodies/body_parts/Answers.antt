use Rattle.std.proofs.Common.{IfOk, Some, subst}
use Rattle.gq_grammar.specs.Lexemes.{sign}
use Rattle.gq_grammar.specs.Parsers.{Found, many}
use Rattle.gq_grammar.specs.Series.{ended}
use Rattle.gq_parse_common.specs.Kinds.{definition_parser}
use Rattle.gq_parse_select.specs.Bodies.{body_stmts_parser}
use Rattle.gq_parse_query.proofs.bodies.body_parts.Goals as goal

pub returns : goal.returns
returns c =
    c.paired.ensures (many (ended (sign ";") definition_parser)) body_stmts_parser c.args.source.now c.args.at c.in_ok-definitions.at
    (subst (λ r. IfOk r (λ read. Found (many (ended (sign ";") definition_parser)) c.args.source.now c.args.at (Some read))) c.in_ok-definitions.was c.definitions.ensures) c.body_statements.ensures
