use Rattle.std.proofs.Common.{◌∙◌, sym, ap, subst, map, List}
use Rattle.std.specs.Prelude.{All}
use Rattle.std.specs.Option.{option_copied}
use Rattle.gq_load.specs.declared.route.Route.{Route}
use Rattle.gq_load.specs.Routes.{route_of}
use Rattle.gq_load.specs.Records.{IsThere}
use Rattle.gq_load.specs.Straight.{IsComplete}
use Rattle.gq_load.proofs.LoadLemmas.{all_there}
use Rattle.gq_load.proofs.StraightLemmas.{all_complete}
use Rattle.gq_load.proofs.loading.load_by.Goals as goal

pub load_records-requires-clause-there : goal.load_records-requires-clause-there
load_records-requires-clause-there c =
    subst (λ (rs : List Route). All (IsThere c.args.catalog.now) rs) (sym (c.deref.ensures.value ∙ c.in-Ok.ensures.routes ∙ ap (map (route_of c.args.catalog.now (option_copied c.args.header))) c.as_slice.ensures))
    (all_there c.args.catalog.now (option_copied c.args.header) c.args.line.now.destinations c.requires.fits.destinations)

pub load_records-requires-clause-complete : goal.load_records-requires-clause-complete
load_records-requires-clause-complete c =
    subst (λ (rs : List Route). All (IsComplete c.args.catalog.now) rs) (sym (c.deref.ensures.value ∙ c.in-Ok.ensures.routes ∙ ap (map (route_of c.args.catalog.now (option_copied c.args.header))) c.as_slice.ensures))
    (all_complete c.args.catalog.now (option_copied c.args.header) c.args.line.now.destinations c.requires.fits.destinations)
