use Rattle.std.proofs.Common.{◌∙◌, ap, map, List, ℕ}
use Rattle.gq_graph.specs.Catalog.{name_place}
use Rattle.gq_rules_typing.specs.Statements.{Bytes}
use Rattle.gq_rules_typing.specs.Sorts.{EdgeSort, edge_sort}
use Rattle.gq_rules_typing.specs.Words.{if_own, place_of}
use Rattle.gq_scope.specs.Held.{Held, setting_in, sorts_in}
use Rattle.gq_scope.proofs.WordLemmas.{edge_sorts}
use Rattle.gq_scope.proofs.scope.Scope.edge_type.Goals as goal

pub returns : goal.returns
unfolding setting_in sorts_in
returns c =
    c.own.ensures
    ∙ ap (λ (ns : List ℕ). if_own ns c.edge_type.result) c.own_edges.ensures
    ∙ ap (if_own (sorts_in c.args.self.now).own_edges) (c.edge_type.ensures ∙ ap (λ (ns : List Bytes). name_place ns c.args.name.now) (edge_sorts c.self.inside.catalog.now.edge_types))
    ∙ ap (λ (h : Held). if_own (sorts_in c.args.self.now).own_edges (place_of (map (λ (s : EdgeSort). s.name) (map edge_sort h.schema.edge_types)) c.args.name.now)) c.self.view_is
