use Rattle.gq_grammar.specs.Literals.{LiteralOf, Names, OfGraph}
use Rattle.gq_parse_common.specs.Literals.{literal_parser, names_parser, of_graph_parser}
use Rattle.gq_parse_common.proofs.LiteralReads.{literal_reads, names_reads, of_graph_reads}
use Rattle.gq_parse_common.proofs.ExactReads.{exact}
use Rattle.gq_parse_common.proofs.literal_laws.literals_are_exact.Goals as goal

pub returns-clause-literal : goal.returns-clause-literal
returns-clause-literal c = exact LiteralOf literal_parser _ _ literal_reads

pub returns-clause-names : goal.returns-clause-names
returns-clause-names c = exact Names names_parser _ _ names_reads

pub returns-clause-of_graph : goal.returns-clause-of_graph
returns-clause-of_graph c = exact OfGraph of_graph_parser _ _ of_graph_reads
