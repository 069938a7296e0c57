use Rattle.gq_parse_common.specs.Expression.{expression}
use Rattle.gq_parse_select.proofs.inputs.keys.Goals as goal

pub returns : goal.returns
returns c = c.list.ensures expression (λ alloc source at read within h. h.1)

pub list-requires-clause-reads : goal.list-requires-clause-reads
list-requires-clause-reads c = (expression, λ alloc source at read within h. h.1)
