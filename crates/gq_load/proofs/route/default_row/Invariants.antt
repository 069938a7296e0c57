use Rattle.std.proofs.Common.{◌≡◌, take, map}
use Rattle.gq_load_csv.specs.Fields.{default_of}
use Rattle.gq_load.proofs.route.default_row.Given as goal

abbrev pub invariant-loop-attribute : goal.invariant-loop-attribute
invariant-loop-attribute l = l.row ≡ map default_of (take l.attribute-index l.attributes)
