use Rattle.gq_grammar.specs.Bodies.{StmtOf, BodyOf}
use Rattle.gq_parse_common.proofs.ExactReads.{exact}
use Rattle.gq_parse_select.specs.Bodies.{statement_parser, body_parser}
use Rattle.gq_parse_query.proofs.StmtReads.{statement_reads}
use Rattle.gq_parse_query.proofs.BodyReads.{body_reads}
use Rattle.gq_parse_query.proofs.laws.bodies_are_exact.Goals as goal

pub returns-clause-statement : goal.returns-clause-statement
returns-clause-statement c = exact StmtOf statement_parser _ _ statement_reads

pub returns-clause-body : goal.returns-clause-body
returns-clause-body c = exact BodyOf body_parser _ _ body_reads
