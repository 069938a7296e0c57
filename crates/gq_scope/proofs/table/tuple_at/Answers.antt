use Rattle.std.proofs.Common.{◌∙◌}
use Rattle.gq_scope.proofs.TupleLemmas.{no_tuple, place_low, tuple_fields}
use Rattle.gq_scope.proofs.table.tuple_at.Goals as goal

pub returns-then-number-tuples : goal.returns-then-number-tuples
returns-then-number-tuples c = no_tuple c.args.names.now c.args.tuples.now c.args.number c.requires c.if-number-tuples.true

pub bounds-names-tuples : goal.bounds-names-tuples
bounds-names-tuples c = place_low c.args.names.now c.args.tuples.now c.args.number c.requires c.if-number-tuples.false

pub returns : goal.returns
returns c = c.fields_of.ensures ∙ tuple_fields c.args.names.now c.args.tuples.now c.args.number c.index-names-tuples.result c.requires c.if-number-tuples.false
