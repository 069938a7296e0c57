use Rattle.std.proofs.Common.{◌≡◌, map, length, subst, List, ℕ}
use Rattle.std.specs.Result.{IfOk}
use Rattle.gq_graph.specs.Catalog.{Schema}
use Rattle.gq_schema.specs.Members as spec
use Rattle.gq_schema.proofs.catalog.Catalog.vertex_marks.Goals as goal

pub returns : goal.returns
returns c =
    subst (λ (s : Schema). IfOk c.listed.result (λ marks. marks.items ≡ spec.vertex_marks s c.args.members.now)) c.self.view_is
    (subst (λ (names : List (List ℕ)). IfOk c.listed.result (λ marks. marks.items ≡ map (spec.is_listed names c.args.members.now) (spec.below (length names))))
    c.self.invariant.vertices_named c.listed.ensures)
