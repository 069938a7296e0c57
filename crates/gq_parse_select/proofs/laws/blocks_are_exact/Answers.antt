use Rattle.gq_grammar.specs.Acts.{ChangeOf, Acts}
use Rattle.gq_grammar.specs.Selects.{SelectOf}
use Rattle.gq_parse_common.proofs.ExactReads.{exact}
use Rattle.gq_parse_select.specs.Acts.{change_parser, acts_parser}
use Rattle.gq_parse_select.specs.Selects.{select_parser}
use Rattle.gq_parse_select.proofs.InputReads.{change_reads}
use Rattle.gq_parse_select.proofs.ActReads.{acts_reads}
use Rattle.gq_parse_select.proofs.SelectReads.{select_reads}
use Rattle.gq_parse_select.proofs.laws.blocks_are_exact.Goals as goal

pub returns-clause-change : goal.returns-clause-change
returns-clause-change c = exact ChangeOf change_parser _ _ change_reads

pub returns-clause-acts : goal.returns-clause-acts
returns-clause-acts c = exact Acts acts_parser _ _ acts_reads

pub returns-clause-select : goal.returns-clause-select
returns-clause-select c = exact SelectOf select_parser _ _ select_reads
