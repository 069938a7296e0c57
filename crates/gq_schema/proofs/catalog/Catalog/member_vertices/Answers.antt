use Rattle.std.proofs.Common.{◌≡◌, subst, List, ℕ}
use Rattle.std.specs.Result.{IfOk}
use Rattle.gq_schema.proofs.MemberLemmas.{vertices_same}
use Rattle.gq_schema.proofs.catalog.Catalog.member_vertices.Goals as goal

pub returns : goal.returns
returns c =
    subst (λ (l : List ℕ). IfOk c.chosen.result (λ numbers. numbers ≡ l)) (vertices_same c.args.self.now c.args.members.now c.args.marks.now c.requires) c.chosen.ensures
