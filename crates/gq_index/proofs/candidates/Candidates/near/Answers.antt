use Rattle.std.proofs.Common.{ℕ, ◌<◌, ◌^◌, ◌≡◌, ◌∙◌, Some, arith, subst, sym, ap, length, map}
use Rattle.std.specs.List.{slice_get}
use Rattle.std.proofs.lemmas.List.{length-map, get_or_read}
use Rattle.gq_graph.specs.Candidates.{alone}
use Rattle.gq_index.specs.Segments.{listed, segment_count, of_walk}
use Rattle.gq_index.proofs.CandidateLemmas.{segments_are, walk_found, vertex_found}
use Rattle.gq_index.proofs.candidates.Candidates.near.Goals as goal

pub returns-in-Vertices-clause-candidate : goal.returns-in-Vertices-clause-candidate
returns-in-Vertices-clause-candidate c =
    let vertices = c.in-Vertices.vertices.items in let place = c.args.place in
    let same : c.args.self.now ≡ map alone vertices = sym c.self.view_is ∙ ap listed c.in-Vertices.is in
    let long : length c.args.self.now ≡ length vertices = ap length same ∙ length-map vertices alone in
    ap (λ l. slice_get l place) same ∙ vertex_found vertices place c.index.result.now (omega (arith, long, c.requires.within)) (get_or_read vertices place c.index.result.now (omega (arith, long, c.requires.within)) c.index.ensures 0)
    ∙ ap Some (sym c.vertex_alone.ensures)

pub returns-in-Edges-clause-candidate : goal.returns-in-Edges-clause-candidate
returns-in-Edges-clause-candidate c =
    let walks = c.in-Edges.walks in let place = c.args.place in
    let same : c.args.self.now ≡ map of_walk walks = sym c.self.view_is ∙ ap listed c.in-Edges.is in
    let long : length c.args.self.now ≡ length walks = ap length same ∙ length-map walks of_walk in
    ap (λ l. slice_get l place) same ∙ walk_found walks place c.near.result (omega (arith, long, c.requires.within)) c.near.ensures.exact
    ∙ ap Some (sym c.walked_candidate.ensures)

pub returns-in-InPlace-clause-candidate : goal.returns-in-InPlace-clause-candidate
returns-in-InPlace-clause-candidate c =
    let walks = c.in-InPlace.walks in let place = c.args.place in
    let same : c.args.self.now ≡ map of_walk walks = sym c.self.view_is ∙ ap listed c.in-InPlace.is in
    let long : length c.args.self.now ≡ length walks = ap length same ∙ length-map walks of_walk in
    ap (λ l. slice_get l place) same ∙ walk_found walks place c.near-in-InPlace.result (omega (arith, long, c.requires.within)) c.near-in-InPlace.ensures.exact
    ∙ ap Some (sym c.walked_candidate-in-InPlace.ensures)

pub returns-in-Edges-clause-few : goal.returns-in-Edges-clause-few
returns-in-Edges-clause-few c = λ d h.
    let same = ap segment_count (sym c.self.view_is ∙ ap listed c.in-Edges.is) ∙ segments_are c.in-Edges.walks in
    let P : ℕ → Type 0 = λ n. n < 2 ^ d in
    c.near.ensures.counted d (subst P same h)

pub returns-in-InPlace-clause-few : goal.returns-in-InPlace-clause-few
returns-in-InPlace-clause-few c = λ d h.
    let same = ap segment_count (sym c.self.view_is ∙ ap listed c.in-InPlace.is) ∙ segments_are c.in-InPlace.walks in
    let P : ℕ → Type 0 = λ n. n < 2 ^ d in
    c.near-in-InPlace.ensures.counted d (subst P same h)
