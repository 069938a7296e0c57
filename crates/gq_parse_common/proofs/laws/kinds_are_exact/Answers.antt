use Rattle.gq_grammar.specs.Kinds.{BaseOf, Kind, Value, DefinitionOf}
use Rattle.gq_parse_common.proofs.ExactReads.{exact}
use Rattle.gq_parse_common.specs.Kinds.{base_parser, kind_parser, value_parser, definition_parser}
use Rattle.gq_parse_common.proofs.KindReads.{base_reads, kind_reads, value_reads, definition_reads}
use Rattle.gq_parse_common.proofs.laws.kinds_are_exact.Goals as goal

pub returns-clause-base : goal.returns-clause-base
returns-clause-base c = exact BaseOf base_parser _ _ base_reads

pub returns-clause-value : goal.returns-clause-value
returns-clause-value c = exact Value value_parser _ _ value_reads

pub returns-clause-definition : goal.returns-clause-definition
returns-clause-definition c = exact DefinitionOf definition_parser _ _ definition_reads

pub returns-clause-kind : goal.returns-clause-kind
returns-clause-kind c = λ levels. exact (Kind levels) (kind_parser levels) _ _ (kind_reads levels)
