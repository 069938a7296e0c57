-- Names: what the code's types resolve names to, given a graph's catalog and the names in view.
use Rattle.gq_scope.specs.Held.{sorts_in}
use Rattle.gq_plan_expr.specs.declared.names.CatalogNames.{CatalogNames}
use Rattle.gq_plan_expr.specs.declared.names.NameResolver.{NameResolver}
use Rattle.gq_plan_expr.specs.Known.{Known}
use Rattle.gq_plan_expr.specs.Globals.{Globals, Sees, known_in, sees_in}
use Rattle.gq_plan_expr.specs.Found.{globals_of}

-- anywhere in a query
unfoldable pub globals_in : CatalogNames → Globals
globals_in c = globals_of (sorts_in c.scope.now) c.tuples.now c.slots.now

-- at the position of an expression, and of a SELECT
unfoldable pub known_of : NameResolver → Known
known_of n = known_in (globals_in n.globals.now) n.places.now

unfoldable pub sees_of : NameResolver → Sees
sees_of n = sees_in (globals_in n.globals.now) n.places.now
