use Rattle.std.proofs.Common.{◌≡◌, ◌∙◌, ap, sym, map, rules, List, ℕ, Bool, false, Option}
use Rattle.std.specs.List.{list_any}
use Rattle.gq_graph.specs.Catalog.{Schema}
use Rattle.gq_tree.specs.declared.query.QueryTree.{QueryTree}
use Rattle.gq_tree.specs.declared.query.Mode.{Mode}
use Rattle.gq_rules_typing.specs.Sorts.{sorts_of}
use Rattle.gq_rules_typing.specs.QueryTypes.{typing_query}
use Rattle.gq_rules_typing.specs.StatementViews.{is_v2, view_parameter, view_definition, view_stmts, view_query}
use Rattle.gq_scope.specs.Held.{Held, graph_in, scope_in}
use Rattle.gq_check_decls.specs.Counts.{accum_count}
use Rattle.gq_check.specs.Rules.{query}
use Rattle.gq_check.proofs.RuleLemmas.{opened, none_yet, query_is}
use Rattle.gq_check.proofs.queries.well_typed.Goals as goal

-- the scope before the first parameter
opens : (schema : Schema) (graph : Option ℕ) (fresh held : Held) (allowed : Bool) (modes lent : List Mode) → fresh ≡ opened schema graph false → held ≡ record fresh { with_paths = allowed }
    → allowed ≡ list_any is_v2 lent → lent ≡ modes → held ≡ opened schema graph (list_any is_v2 modes)
opens schema graph fresh held allowed modes lent new put paths same =
    put ∙ ap (λ (h : Held). record h { with_paths = allowed }) new ∙ ap (opened schema graph) (paths ∙ ap (list_any is_v2) same)

judges : (schema : Schema) (graph : Option ℕ) (q : QueryTree) (held : Held) → held ≡ opened schema graph (list_any is_v2 q.modes)
    → typing_query (sorts_of schema (graph_in schema graph)) (view_query q)
    ≡ query (scope_in held) (map view_parameter q.parameters) (map view_definition q.body.definitions) (view_stmts q.body.statements)
judges schema graph q held is =
    query_is schema graph q
    ∙ ap (λ (h : Held). query (scope_in h) (map view_parameter q.parameters) (map view_definition q.body.definitions) (view_stmts q.body.statements)) (sym is)

pub all_of-requires-clause-none : goal.all_of-requires-clause-none
all_of-requires-clause-none c =
    ap (λ (h : Held). accum_count (scope_in h))
    (opens c.args.catalog.now c.args.graph c.new-scope.result c.allow_paths.new.self c.allows_paths.result c.args.query.now.modes c.as_slice.result.now
    c.new-scope.ensures c.allow_paths.ensures c.allows_paths.ensures c.as_slice.ensures)
    ∙ none_yet c.args.catalog.now c.args.graph (list_any is_v2 c.args.query.now.modes)

pub returns-in_err-all_of : goal.returns-in_err-all_of
returns-in_err-all_of c =
    let whole = judges c.args.catalog.now c.args.graph c.args.query.now c.allow_paths.new.self
    (opens c.args.catalog.now c.args.graph c.new-scope.result c.allow_paths.new.self c.allows_paths.result c.args.query.now.modes c.as_slice.result.now
    c.new-scope.ensures c.allow_paths.ensures c.allows_paths.ensures c.as_slice.ensures)
    in
    rw whole (search rules)

pub returns : goal.returns
returns c =
    let whole = judges c.args.catalog.now c.args.graph c.args.query.now c.allow_paths.new.self
    (opens c.args.catalog.now c.args.graph c.new-scope.result c.allow_paths.new.self c.allows_paths.result c.args.query.now.modes c.as_slice.result.now
    c.new-scope.ensures c.allow_paths.ensures c.allows_paths.ensures c.as_slice.ensures)
    in
    (_, whole ∙ c.in_ok-all_of.ensures)
