use Rattle.std.proofs.Common.{ℕ, ◌-◌, ◌<◌, ◌++◌, List, length, get_or, map, filter, ap, sym, subst, ◌∙◌, arith}
use Rattle.gq_index.specs.declared.walks.Traversal.{Traversal}
use Rattle.gq_index.specs.Segments.{is_wanted}
use Rattle.gq_index.specs.Sights.{vertex_kinds}
use Rattle.gq_index.specs.Walks.{walk_at, walked, walks_at}
use Rattle.gq_index.proofs.GatherLemmas.{gathered_more, last_source, wanted_walks}
use Rattle.gq_index.proofs.candidates.found_in_place.Goals as goal

pub loop-source-preserved : goal.loop-source-preserved
loop-source-preserved c =
    let w = c.args.wanted.now in let i = c.loop-source.source-index in let sources = c.args.sources.now in
    let kinds = vertex_kinds c.args.vertices.now in let p = is_wanted w.edges kinds w.targets in
    let v : ℕ = get_or sources i 0 in let walks = c.loop-source.walks in let ways = c.in-Some.ways.now in
    let F : ℕ → List Traversal = λ v. filter p (walks_at c.args.index.now v) in
    let put = c.in_ok-push-in-Some.ensures in
    record {
      all = put ∙ ap (λ l. l ++ map (walked v) ways) c.loop-source.invariant.all
          ∙ gathered_more F sources i (map (walked v) ways) c.loop-source-test.true
          (ap (map (walked v)) c.in-Some.ensures ∙ wanted_walks w.edges kinds w.targets v c.ways.result.now ∙ ap (filter p) c.ways.ensures);
      later = λ j g h.
          let P : List Traversal → Type 0 = λ l. 0 < length l → (walk_at l (length l - 1)).source < get_or sources j 0 in
          subst P (sym put) (last_source walks v (get_or sources j 0) ways (c.requires.rising i j (omega arith) h) (c.loop-source.invariant.later j (omega arith) h));
    }
