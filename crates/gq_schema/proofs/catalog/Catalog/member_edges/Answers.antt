use Rattle.std.proofs.Common.{◌≡◌, ◌∙◌, subst, List, ℕ}
use Rattle.std.specs.Result.{IfOk}
use Rattle.gq_schema.proofs.MemberLemmas.{edges_same}
use Rattle.gq_schema.proofs.catalog.Catalog.member_edges.Goals as goal

pub returns : goal.returns
returns c =
    subst (λ (l : List ℕ). IfOk c.edges.result (λ numbers. numbers ≡ l))
    (edges_same c.args.self.now c.args.members.now c.deref.result.now (c.deref.ensures.value ∙ c.in_ok-named.ensures)) c.edges.ensures
