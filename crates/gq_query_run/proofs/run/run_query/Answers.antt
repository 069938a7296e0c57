use Rattle.std.proofs.Common.{ap, sym, subst, ◌∙◌}
use Rattle.std.specs.Prelude.{map, find, option_map}
use Rattle.gq_arguments.specs.Holds.{held}
use Rattle.gq_diagnostics.specs.declared.refusal.Refusal.TheVariants as refusal
use Rattle.gq_rules_calendar.specs.Gregorian.{gregorian}
use Rattle.gq_rules_typing.specs.Statements.{Bytes}
use Rattle.gq_rules_meaning.specs.Sessions.{ran}
use Rattle.gq_arguments.specs.Given.{view_argument}
use Rattle.gq_arguments.specs.Members.{members_for}
use Rattle.gq_arguments.specs.Rows as rows
use Rattle.gq_query_run.specs.Queries.{is_named}
use Rattle.gq_query_run.specs.Runs.{answer_found}
use Rattle.gq_query_run.specs.Sessions.{session_of}
use Rattle.gq_query_run.proofs.AnswerLemmas.{says, says_due}
use Rattle.gq_query_run.proofs.PlaceLemmas.{found_at, found_nowhere, low_there}
use Rattle.gq_query_run.proofs.ReadyLemmas.{all_ready}
use Rattle.gq_query_run.proofs.RunLemmas.{fits_at, found_on, ran_found, ran_unknown}
use Rattle.gq_query_run.proofs.run.run_query.Goals as goal

pub at-query-requires : goal.at-query-requires
at-query-requires g c = low_there (is_named c.as_str-name.result.now) c.args.queries.now c.in-Some.place (sym c.place_of.ensures ∙ c.in-Some.is)

pub run_found-requires-clause-fits : goal.run_found-requires-clause-fits
run_found-requires-clause-fits g c κs within = fits_at c.args.catalog.now c.args.queries.now c.in-Some.place c.at-query.result.now c.requires.fits c.at-query.ensures

pub run_found-requires-clause-runs : goal.run_found-requires-clause-runs
run_found-requires-clause-runs g c κs within =
    found_on c.args.catalog.now c.requires.runs.0 c.args.queries.now c.args.store.now gregorian c.args.runner.now.turns c.args.tree.now (held c.args.file.now) c.at-query.result.now
    (ap (λ n. find (is_named n) c.args.queries.now) (sym c.as_str-name.ensures)
    ∙ sym (found_at (is_named c.as_str-name.result.now) c.args.queries.now c.in-Some.place (sym c.place_of.ensures ∙ c.in-Some.is)) ∙ c.at-query.ensures)
    c.requires.runs.1

pub returns-in-Some-clause-says : goal.returns-in-Some-clause-says
returns-in-Some-clause-says g c in_use =
    let s = session_of c.args.catalog.now in_use c.args.queries.now c.args.store.now in
    let tree = c.args.tree.now in
    let query = c.at-query.result.now in
    says s (ran s gregorian c.args.runner.now.turns tree.name (option_map (map view_argument) tree.arguments) (members_for (held c.args.file.now) tree.name))
    (answer_found c.args.catalog.now c.args.store.now gregorian c.args.runner.now.turns query tree (held c.args.file.now)) c.run_found.result
    (ran_found c.args.catalog.now in_use c.args.queries.now c.args.store.now gregorian c.args.runner.now.turns tree (held c.args.file.now) query
    (ap (λ n. find (is_named n) c.args.queries.now) (sym c.as_str-name.ensures)
    ∙ sym (found_at (is_named c.as_str-name.result.now) c.args.queries.now c.in-Some.place (sym c.place_of.ensures ∙ c.in-Some.is)) ∙ c.at-query.ensures))
    c.run_found.ensures.tells

pub returns-in-Some-clause-ready : goal.returns-in-Some-clause-ready
returns-in-Some-clause-ready g c =
    all_ready g.M.RunsQueries.is_of c.args.catalog.now c.args.queries.now c.args.ready.now.plans c.run_found.new.ready.plans c.in-Some.place c.at-query.result.now
    c.at-query.ensures c.requires.ready c.run_found.ensures.ready c.run_found.ensures.others

pub returns-in-None-clause-says : goal.returns-in-None-clause-says
returns-in-None-clause-says g c in_use =
    let s = session_of c.args.catalog.now in_use c.args.queries.now c.args.store.now in
    let tree = c.args.tree.now in
    let P : Bytes → Type 0 = λ n. rows.Tells (refusal.UnknownName n) c.unknown.result in
    says_due s (ran s gregorian c.args.runner.now.turns tree.name (option_map (map view_argument) tree.arguments) (members_for (held c.args.file.now) tree.name))
    (refusal.UnknownName tree.name) c.unknown.result
    (ran_unknown c.args.catalog.now in_use c.args.queries.now c.args.store.now gregorian c.args.runner.now.turns tree (held c.args.file.now)
    (ap (λ n. find (is_named n) c.args.queries.now) (sym c.as_str-name.ensures)
    ∙ sym (found_nowhere (is_named c.as_str-name.result.now) c.args.queries.now (sym c.place_of.ensures ∙ c.in-None.is))))
    (subst P c.as_str-name.ensures c.unknown.ensures)
