use Rattle.std.proofs.Common.{map, Some, None, ap, sym, ◌∙◌}
use Rattle.std.specs.Prelude.{option_map}
use Rattle.gq_arguments.specs.Holds.{held}
use Rattle.gq_arguments.specs.Given.{view_argument}
use Rattle.gq_arguments.specs.Members.{members_in, members_for}
use Rattle.gq_query_run.specs.Runs.{values_run}
use Rattle.gq_query_run.proofs.run.arguments_of.Goals as goal

pub returns-in-Some : goal.returns-in-Some
returns-in-Some c sorts rows ps =
    ap (λ x. values_run sorts rows ps (option_map (map view_argument) x) (members_for (held c.args.file.now) c.args.tree.now.name))
    (ap Some c.as_slice.ensures ∙ sym c.in-Some.is)

pub returns-in-None : goal.returns-in-None
returns-in-None c sorts rows ps =
    ap (λ x. values_run sorts rows ps None (members_in x)) c.of_query.ensures
    ∙ ap (λ n. values_run sorts rows ps None (members_for (held c.args.file.now) n)) c.as_str.ensures
    ∙ ap (λ x. values_run sorts rows ps (option_map (map view_argument) x) (members_for (held c.args.file.now) c.args.tree.now.name)) (sym c.in-None.is)
