use Rattle.std.proofs.Common.{◌≡◌, take, drop, map}
use Rattle.std.specs.Option.{option_copied}
use Rattle.gq_load.specs.Columns.{missing_name, columns_of}
use Rattle.gq_load.specs.Routes.{route_of}
use Rattle.gq_load.proofs.route.routes.Given as goal

abbrev pub invariant-loop-into : goal.invariant-loop-into
invariant-loop-into l = record {
  names : missing_name (option_copied l.header) (columns_of l.destinations) ≡ missing_name (option_copied l.header) (columns_of (drop l.into-index l.destinations));
  routes : l.routes.items ≡ map (route_of l.catalog (option_copied l.header)) (take l.into-index l.destinations);
}
