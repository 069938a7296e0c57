use Rattle.std.proofs.Common.{◌≡◌, ◌<◌, ℕ, List, length, arith, Some, Err, ◌∙◌, ap, subst, ◌++◌, ◌∷◌, []}
use Rattle.std.specs.Prelude.{Option, slice_get}
use Rattle.std.specs.Option.{option_copied}
use Rattle.gq_tree.specs.declared.job.Column.{Column}
use Rattle.gq_load.specs.Columns.{Fields, missing_name, Names}
use Rattle.gq_load.specs.Routes.{route_of}
use Rattle.gq_load.specs.declared.route.Route.{Route}
use Rattle.gq_load.proofs.ListLemmas.{item_at}
use Rattle.gq_load.proofs.ColumnLemmas.{names_here, names_more, mapped_more}
use Rattle.gq_load.proofs.route.routes.Goals as goal

pub returns-in-Err-clause-names : goal.returns-in-Err-clause-names
returns-in-Err-clause-names c =
    let low : c.loop-into.into-index < length c.args.destinations.now = omega arith in
    names_here ℕ ℕ (option_copied c.args.header) c.args.destinations.now c.loop-into.into-index c.into-item.result c.in-Err.fault (item_at _ _ _ low c.into-item.is) c.loop-into.invariant.names
    (subst (λ (columns : List Column). Names {A = ℕ} (missing_name (option_copied c.args.header) columns) (Err c.in-Err.fault)) c.as_slice.ensures c.in-Err.ensures.names)

pub loop-into-preserved : goal.loop-into-preserved
loop-into-preserved c =
    let low : c.loop-into.into-index < length c.args.destinations.now = omega arith in
    let at : slice_get c.args.destinations.now c.loop-into.into-index ≡ Some c.into-item.result = item_at _ _ _ low c.into-item.is in
    let header : Option Fields = option_copied c.args.header in
    let put : c.push.new.self.items ≡ c.loop-into.routes.items ++ c.in-Ok-made_route.route ∷ [] = c.in-Ok-push.ensures.items in
    let is : c.in-Ok-made_route.route ≡ route_of c.args.catalog.now header c.into-item.result = rw (c.in-Ok.ensures.fields, c.as_slice.ensures) at c.in-Ok-made_route.ensures in
    record {
      names = names_more header c.args.destinations.now c.loop-into.into-index c.into-item.result at c.loop-into.invariant.names (rw c.as_slice.ensures at c.in-Ok.ensures.names);
      routes = put ∙ ap (λ (r : Route). c.loop-into.routes.items ++ r ∷ []) is ∙ mapped_more (route_of c.args.catalog.now header) c.args.destinations.now c.loop-into.routes.items c.loop-into.into-index c.into-item.result at c.loop-into.invariant.routes;
    }
