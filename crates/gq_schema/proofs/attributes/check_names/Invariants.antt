use Rattle.std.proofs.Common.{◌≡◌, ◌++◌, take, drop}
use Rattle.gq_schema.specs.Refusals.{attribute_names, twice_after}
use Rattle.gq_schema.proofs.attributes.check_names.Given as goal

abbrev pub invariant-loop-attribute : goal.invariant-loop-attribute
invariant-loop-attribute l = record {
  named : l.table ≡ l.fn.table ++ attribute_names (take l.attribute-index l.attributes);
  rest : twice_after l.fn.table (attribute_names l.attributes) ≡ twice_after l.table (attribute_names (drop l.attribute-index l.attributes));
}
