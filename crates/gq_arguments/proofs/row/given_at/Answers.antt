use Rattle.std.proofs.Common.{map, Some, ap, sym, ◌∙◌}
use Rattle.std.specs.Prelude.{option_map, slice_get}
use Rattle.serde_json.specs.View.{view}
use Rattle.gq_rules_typing.specs.StatementViews.{view_parameter}
use Rattle.gq_arguments.specs.Given.{view_argument}
use Rattle.gq_arguments.specs.Members.{members_in}
use Rattle.gq_arguments.specs.Rows.{all_given}
use Rattle.gq_arguments.proofs.RowLemmas.{listed_place, named_place}
use Rattle.gq_arguments.proofs.row.given_at.Goals as goal

pub returns-in-Listed : goal.returns-in-Listed
returns-in-Listed c ps is =
    ap (λ a. slice_get (all_given ps a) c.args.place) c.in-Listed.is
    ∙ listed_place ps (map view_argument c.in-Listed.arguments.now) c.args.place (view_parameter c.args.parameter.now) is
    ∙ ap Some (sym c.listed_at.ensures)

pub returns-in-Named : goal.returns-in-Named
returns-in-Named c ps is =
    ap (λ a. slice_get (all_given ps a) c.args.place) c.in-Named.is
    ∙ named_place ps (members_in (option_map (λ m. view m.now) c.in-Named.found)) c.args.place (view_parameter c.args.parameter.now) is
    ∙ ap Some (sym c.named_at.ensures)
