use Rattle.std.proofs.Common.{rules, List, ◌≡◌, ◌∙◌, ◌-◌, [], refl, arith, length, map, take, drop, ap, leb, ltb, zero-add}
use Rattle.std.proofs.lemmas.List.FromFn.{get_or-map-range_with_len}
use Rattle.std.proofs.lemmas.List.Sorted.{IsPartitionPoint-from_clause, IsPartitionedBy-leb, IsPartitionedBy-ltb, IsNonDecreasingBy-drop, IsNonDecreasingBy-take}
use Rattle.std.proofs.lemmas.List.{take_all, length-drop}
use Rattle.gq_index.specs.declared.walks.Neighbor.{Neighbor}
use Rattle.gq_index.specs.Walks.{walked, walks_at, walks_from}
use Rattle.gq_index.proofs.DegreeLemmas.{ways_climb}
use Rattle.gq_exec_source.proofs.LookupLemmas.{part_is}
use Rattle.gq_exec_source.proofs.entries.ways_under.Goals as goal

pub returns : goal.returns
returns c = λ sight is here there.
    let v = c.args.vertex in let k = c.args.kind in let n = length sight.kinds in let count = c.partition_point-count.result in
    let ways = c.ways-ways.result.now in let first = c.partition_point-first.result in let rest : List Neighbor = take (length ways - first) (drop first ways) in
    let are : map (walked v) ways ≡ walks_from sight.types sight.edges v =
    c.ways-ways.ensures ∙ ap (λ l. walks_at l v) is ∙ get_or-map-range_with_len (walks_from sight.types sight.edges) 0 n v v [] here (zero-add v) in
    let climb = ways_climb sight.types sight.edges v ways are in
    let below = IsPartitionPoint-from_clause (λ (way : Neighbor). ltb way.kind k) ways first c.partition_point-first.ensures.partitioned
    (IsPartitionedBy-ltb (λ (way : Neighbor). way.kind) ways k climb) (λ a r q k. search rules) in
    let within = IsPartitionPoint-from_clause (λ (way : Neighbor). leb way.kind k) rest count c.partition_point-count.ensures.partitioned
    (IsPartitionedBy-leb (λ (way : Neighbor). way.kind) rest k
    (IsNonDecreasingBy-take (λ (way : Neighbor). way.kind) (length ways - first) (drop first ways) (IsNonDecreasingBy-drop (λ (way : Neighbor). way.kind) first ways climb))) (λ a r q k. search rules) in
    part_is sight.types sight.edges v k first count ways rest (take count rest) are there
    c.partition_point-first.ensures.bound below (take_all (length ways - first) (drop first ways) (omega (arith, length-drop first ways))) c.partition_point-count.ensures.bound within refl
