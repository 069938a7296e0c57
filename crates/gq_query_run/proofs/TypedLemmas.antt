-- TypedLemmas: a query that isn't refused is typed for its graph, which exists.
use Rattle.std.proofs.Common.{◌≡◌, ℕ, ◌<◌, Bool, true, false, cond, List, [], length, Option, Some, None, refl, subst}
use Rattle.std.specs.Prelude.{Result, Ok, Err, bytes_eq}
use Rattle.std.specs.Option.{ForSome}
use Rattle.std.proofs.lemmas.List.{length-map}
use Rattle.std.proofs.lemmas.List.Quantifiers.{position-Some}
use Rattle.gq_graph.specs.Catalog.{Schema, graph_names, graph_of}
use Rattle.gq_graph.specs.declared.types.GraphType.{GraphType}
use Rattle.gq_tree.specs.declared.query.QueryTree.{QueryTree}
use Rattle.gq_diagnostics.specs.declared.refusal.Refusal.{Refusal}
use Rattle.gq_diagnostics.specs.declared.refusal.Refusal.TheVariants as refusal
use Rattle.gq_rules_typing.specs.Statements.{Bytes}
use Rattle.gq_rules_typing.specs.StatementViews.{view_query}
use Rattle.gq_rules_typing.specs.Sorts.{sorts_of}
use Rattle.gq_rules_typing.specs.Scopes.{Scope}
use Rattle.gq_rules_typing.specs.Judging.{Judged}
use Rattle.gq_rules_typing.specs.QueryTypes.{typing_query}
use Rattle.gq_rules_meaning.specs.Sessions.{good_modes}
use Rattle.gq_scope.specs.Held.{graph_in}
use Rattle.gq_query_run.specs.Judging.{IsTyped, refusal_in, rules_refusal, or_unknown, on_graph, graph_for, graph_refusal, interpret_refusal}
use Rattle.gq_query_run.specs.Queries.{graph_found, graph_fixed}

same_some : {A : Type 0} (x y : A) → Some x ≡ Some y → x ≡ y
same_some x y e = cc

-- ---- its graph exists

pub graph_low : (schema : Schema) (name : List ℕ) (n : ℕ) → graph_of schema name ≡ Some n → n < length schema.graphs
graph_low schema name n found =
    subst (λ k. n < k) (length-map schema.graphs (λ (g : GraphType). g.name)) (position-Some (bytes_eq name) (graph_names schema.graphs) n [] found).0

-- a graph that isn't refused exists
pub graph_is_there : (schema : Schema) (in_use : Option ℕ) → ForSome in_use (λ graph. graph < length schema.graphs) → (name : Option (List ℕ))
    → ForSome (graph_found (graph_for schema in_use name)) (λ graph. graph < length schema.graphs)
graph_is_there schema in_use there None = there
graph_is_there schema in_use there (Some name) = by (graph_of schema name) refl
  where
    by : (o : Option ℕ) → graph_of schema name ≡ o → ForSome (graph_found (or_unknown name o)) (λ graph. graph < length schema.graphs)
    by None found = λ graph is. absurd (cc is)
    by (Some n) found = λ graph is. subst (λ k. k < length schema.graphs) (same_some n graph is) (graph_low schema name n found)

-- ---- it is typed

rules_typed : (schema : Schema) (graph : Option ℕ) (tree : QueryTree) → rules_refusal schema graph tree ≡ None → IsTyped schema graph tree
rules_typed schema graph tree none = by (typing_query (sorts_of schema (graph_in schema graph)) (view_query tree)) refl none
  where
    by : (r : Judged (Scope Bytes)) → typing_query (sorts_of schema (graph_in schema graph)) (view_query tree) ≡ r → refusal_in r ≡ None → IsTyped schema graph tree
    by (Ok scope) is none = (scope, is)
    by (Err fault) is some = absurd (cc some)

pub graph_typed : (schema : Schema) (in_use : Option ℕ) (tree : QueryTree) → graph_refusal schema in_use tree ≡ None → IsTyped schema (graph_fixed schema in_use tree) tree
graph_typed schema in_use tree none = by (graph_for schema in_use tree.graph) none
  where
    by : (r : Result (Option ℕ) Refusal) → on_graph schema tree r ≡ None → IsTyped schema (graph_found r) tree
    by (Ok graph) none = rules_typed schema graph tree none
    by (Err due) some = absurd (cc some)

-- one that is interpreted
pub interpreted_typed : (schema : Schema) (in_use : Option ℕ) (tree : QueryTree) → interpret_refusal schema in_use tree ≡ None → IsTyped schema (graph_fixed schema in_use tree) tree
interpreted_typed schema in_use tree none = graph_typed schema in_use tree (by (good_modes tree.modes) none)
  where
    by : (b : Bool) → cond b (graph_refusal schema in_use tree) (Some refusal.BadOption) ≡ None → graph_refusal schema in_use tree ≡ None
    by true is = is
    by false some = absurd (cc some)
