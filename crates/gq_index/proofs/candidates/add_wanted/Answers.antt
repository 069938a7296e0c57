use Rattle.std.proofs.Common.{◌++◌, List, filter, map, take, subst}
use Rattle.gq_index.specs.declared.walks.Traversal.{Traversal}
use Rattle.gq_index.specs.Runs.{Holds}
use Rattle.gq_index.specs.Segments.{is_wanted}
use Rattle.gq_index.specs.Sights.{vertex_kinds}
use Rattle.gq_index.specs.Walks.{walked}
use Rattle.gq_index.proofs.GatherLemmas.{added_is}
use Rattle.gq_index.proofs.candidates.add_wanted.Goals as goal

pub loop-way-preserved : goal.loop-way-preserved
loop-way-preserved c = λ before h.
    let w = c.args.wanted.now in let i = c.loop-way.way-index in let ways = c.args.ways.now in let v = c.args.source in
    let p = is_wanted w.edges (vertex_kinds c.args.vertices.now) w.targets in
    let P : List Traversal → Type 0 = λ l. Holds c.add_way.new.segments.items c.add_way.new.reached.items l in
    subst P (added_is p v i ways (record { kind = 0; row = 0; target = 0 }) before c.loop-way-test.true)
    (c.in_ok-add_way.ensures (before ++ filter p (map (walked v) (take i ways))) (c.loop-way.invariant before h))
