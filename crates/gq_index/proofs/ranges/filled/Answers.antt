use Rattle.std.proofs.Common.{◌≡◌, ◌∙◌, ℕ, ◌++◌, [], List, length, take, replicate, refl, ap}
use Rattle.gq_index.specs.declared.walks.Neighbor.{Neighbor}
use Rattle.gq_index.specs.Lists.{lists_of}
use Rattle.gq_index.specs.Walks.{all_walks}
use Rattle.gq_index.proofs.RangeLemmas.{ranged_first, ranged_last}
use Rattle.gq_index.proofs.ranges.filled.Goals as goal

pub returns : goal.returns
returns c =
    let types = c.args.types.now in let edges = c.args.edges.now in let first = c.args.first in
    let m : ℕ = length c.deref.result.now in
    let empty : lists_of c.widen.new.lists ≡ replicate m [] = c.in_ok-widen.ensures ∙ ap (λ (l : List (List Neighbor)). l ++ replicate m []) c.new-lists.ensures in
    let begun = ranged_first types edges first m (record { first = first; lists = c.widen.new.lists }) refl empty in
    ranged_last types edges first m c.put_walks.new.lists (c.in_ok-put_walks.ensures first m (all_walks types (take 0 edges)) begun)
