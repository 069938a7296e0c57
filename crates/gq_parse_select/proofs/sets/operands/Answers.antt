use Rattle.gq_parse_select.specs.Bodies.{operand_parser}
use Rattle.gq_parse_select.proofs.sets.operands.Goals as goal

pub returns : goal.returns
returns c = c.run.ensures operand_parser (λ alloc source at read within h. h.1)

pub run-requires-clause-reads : goal.run-requires-clause-reads
run-requires-clause-reads c = (operand_parser, λ alloc source at read within h. h.1)
