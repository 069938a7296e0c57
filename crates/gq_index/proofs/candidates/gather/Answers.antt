use Rattle.std.proofs.Common.{List, ℕ, filter, take, ap, subst}
use Rattle.std.specs.List.{flat_map}
use Rattle.gq_index.specs.declared.walks.Traversal.{Traversal}
use Rattle.gq_index.specs.Runs.{Holds}
use Rattle.gq_index.specs.Segments.{is_wanted}
use Rattle.gq_index.specs.Sights.{vertex_kinds}
use Rattle.gq_index.specs.Walks.{walks_at}
use Rattle.gq_index.proofs.GatherLemmas.{gathered_more}
use Rattle.gq_index.proofs.RunLemmas.{holds_none}
use Rattle.gq_index.proofs.candidates.gather.Goals as goal

pub loop-source-init : goal.loop-source-init
loop-source-init c = rw (c.new-segments.ensures.items, c.new-reached.ensures.items) holds_none

pub loop-source-preserved : goal.loop-source-preserved
loop-source-preserved c =
    let w = c.args.wanted.now in let i = c.loop-source.source-index in let sources = c.args.sources.now in
    let p = is_wanted w.edges (vertex_kinds c.args.vertices.now) w.targets in
    let F : ℕ → List Traversal = λ v. filter p (walks_at c.args.index.now v) in
    let P : List Traversal → Type 0 = λ l. Holds c.add_wanted.new.segments.items c.add_wanted.new.reached.items l in
    subst P (gathered_more F sources i _ c.loop-source-test.true (ap (filter p) c.ways.ensures))
    (c.in_ok-add_wanted.ensures (flat_map F (take i sources)) c.loop-source.invariant)
