-- RuleLemmas: rules on statements and queries, split into the code's functions.
use Rattle.std.proofs.Common.{ℕ, ◌≡◌, Bool, [], map, Option, Ok, Err, refl}
use Rattle.std.specs.List.{list_any}
use Rattle.gq_graph.specs.Catalog.{Schema}
use Rattle.gq_tree.specs.declared.query.QueryTree.{QueryTree}
use Rattle.gq_rules_typing.specs.Statements.{Bytes, Over, Stmts, Foreach}
use Rattle.gq_rules_typing.specs.StatementViews.{is_v2, view_parameter, view_definition, view_stmts, view_query}
use Rattle.gq_rules_typing.specs.Sorts.{sorts_of}
use Rattle.gq_rules_typing.specs.Judging.{Judged, ◌>>=◌, ◌>>◌}
use Rattle.gq_rules_typing.specs.Scopes as typing
use Rattle.gq_rules_typing.specs.SetTypes.{here}
use Rattle.gq_rules_typing.specs.StatementTypes.{typing_stmt, typing_stmts, variable_type}
use Rattle.gq_rules_typing.specs.QueryTypes.{typing_query}
use Rattle.gq_scope.specs.Held.{Held, graph_in, sorts_in, setting_in, scope_in}
use Rattle.gq_check_decls.specs.Counts.{accum_count}
use Rattle.gq_check.specs.Rules.{loop_variable, query}

-- ---- FOREACH

along : {A B C : Type 0} (j : Judged A) (f : A → B) (k : B → Judged C) → (j >>= λ a. k (f a)) ≡ ((j >>= λ a. Ok (f a)) >>= k)
along (Ok a) f k = refl
along (Err e) f k = refl

pub foreach_is : (s : typing.Scope Bytes) (x : Bytes) (over : Over Bytes) (body : Stmts Bytes) → typing_stmt s (Foreach x over body) ≡ (loop_variable s x over >>= λ t. typing_stmts t body >> Ok s)
foreach_is s x over body =
    along (typing.new_name s x >> variable_type (here s) over) (λ b. typing.with_entry x (typing.Variable b) s) (λ t. typing_stmts t body >> Ok s)

pub ruleset foreach_laws = (foreach_is)

-- ---- queries

-- the scope at the start of a query
abbrev pub opened : Schema → Option ℕ → Bool → Held
opened schema graph with_paths = record { schema = schema; graph = graph; names = []; place = typing.InStatement; with_paths = with_paths }

pub none_yet : (schema : Schema) (graph : Option ℕ) (with_paths : Bool) → accum_count (scope_in (opened schema graph with_paths)) ≡ 0
unfolding scope_in setting_in sorts_in
none_yet schema graph with_paths = refl

pub query_is : (schema : Schema) (graph : Option ℕ) (q : QueryTree) → typing_query (sorts_of schema (graph_in schema graph)) (view_query q)
    ≡ query (scope_in (opened schema graph (list_any is_v2 q.modes))) (map view_parameter q.parameters) (map view_definition q.body.definitions) (view_stmts q.body.statements)
unfolding scope_in setting_in sorts_in
query_is schema graph q = refl
