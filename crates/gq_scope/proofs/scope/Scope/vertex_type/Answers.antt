use Rattle.std.proofs.Common.{◌∙◌, ap, map, List, ℕ}
use Rattle.gq_graph.specs.Catalog.{name_place}
use Rattle.gq_rules_typing.specs.Statements.{Bytes}
use Rattle.gq_rules_typing.specs.Sorts.{VertexSort, vertex_sort}
use Rattle.gq_rules_typing.specs.Words.{if_own, place_of}
use Rattle.gq_scope.specs.Held.{Held, setting_in, sorts_in}
use Rattle.gq_scope.proofs.WordLemmas.{vertex_sorts}
use Rattle.gq_scope.proofs.scope.Scope.vertex_type.Goals as goal

pub returns : goal.returns
unfolding setting_in sorts_in
returns c =
    c.own.ensures
    ∙ ap (λ (ns : List ℕ). if_own ns c.vertex_type.result) c.own_vertices.ensures
    ∙ ap (if_own (sorts_in c.args.self.now).own_vertices) (c.vertex_type.ensures ∙ ap (λ (ns : List Bytes). name_place ns c.args.name.now) (vertex_sorts c.self.inside.catalog.now.vertex_types))
    ∙ ap (λ (h : Held). if_own (sorts_in c.args.self.now).own_vertices (place_of (map (λ (s : VertexSort). s.name) (map vertex_sort h.schema.vertex_types)) c.args.name.now)) c.self.view_is
