use Rattle.std.proofs.Common.{◌∙◌, ap, sym, ℕ, Option}
use Rattle.gq_graph.specs.declared.types.GraphType.{GraphType}
use Rattle.gq_rules_typing.specs.Sorts.{sorts_of}
use Rattle.gq_scope.specs.Held.{Held, graph_in, sorts_in}
use Rattle.gq_scope.proofs.scope.Scope.own_edges.Goals as goal

pub returns-in-None : goal.returns-in-None
unfolding sorts_in
returns-in-None c =
    ap (λ (g : Option ℕ). (sorts_of c.self.inside.catalog.now (graph_in c.self.inside.catalog.now g)).own_edges) (sym c.in-None.is)
    ∙ ap (λ (h : Held). (sorts_in h).own_edges) c.self.view_is

pub returns-in-Some : goal.returns-in-Some
unfolding sorts_in
returns-in-Some c =
    c.as_slice.ensures
    ∙ ap (λ (o : Option GraphType). (sorts_of c.self.inside.catalog.now o).own_edges) (sym c.graph_at.ensures)
    ∙ ap (λ (g : Option ℕ). (sorts_of c.self.inside.catalog.now (graph_in c.self.inside.catalog.now g)).own_edges) (sym c.in-Some.is)
    ∙ ap (λ (h : Held). (sorts_in h).own_edges) c.self.view_is
