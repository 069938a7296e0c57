use Rattle.std.proofs.Common.{◌≡◌, List, length, subst}
use Rattle.std.specs.Prelude.{IfSome}
use Rattle.gq_index.specs.declared.walks.Neighbor.{Neighbor}
use Rattle.gq_index.specs.Ranges.{HoldWalks}
use Rattle.gq_index.proofs.RangeLemmas.{hold_all}
use Rattle.gq_index.proofs.index.Index.built_by.Goals as goal

pub returns-in-Some : goal.returns-in-Some
returns-in-Some g c =
    let types = c.args.types.now in let edges = c.args.edges.now in
    let Whole : List (List Neighbor) → Type 0 = λ lists. (length lists ≡ c.args.vertices) × HoldWalks types edges 0 lists in
    let whole = subst (λ o. IfSome o Whole) c.in-Some.is c.in_ok-packed.ensures in
    hold_all types edges c.args.vertices c.in-Some.packed whole.0 whole.1
