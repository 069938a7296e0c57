-- UpsertFits: rows keep their types while rows of their types are upserted, and while the catalog grows.
use Rattle.std.proofs.Common.{◌≡◌, ℕ, ◌<◌, ◌≤◌, min, Bool, true, false, cond, List, [], ◌∷◌, ◌++◌, length, get_or, take, All, Option, Some, None, refl, ap, sym, ◌∙◌, subst, arith}
use Rattle.std.proofs.lemmas.Bool.{eqb-true}
use Rattle.std.proofs.lemmas.List.{length-take}
use Rattle.std.proofs.lemmas.List.Elements.{All-set, All-push}
use Rattle.std.proofs.lemmas.List.Quantifiers.{position-Some}
use Rattle.std.specs.Prelude.{◌==◌, ◌&&◌}
use Rattle.gq_graph.specs.Catalog.{Schema}
use Rattle.gq_graph.specs.Vertices.{vertex_number, vertex_put, upsert_vertex}
use Rattle.gq_graph.specs.Edges.{edge_number, edge_put, edge_at, no_edge, is_edge}
use Rattle.gq_graph.specs.declared.types.VertexType.{VertexType}
use Rattle.gq_graph.specs.declared.types.EdgeType.{EdgeType}
use Rattle.gq_graph.specs.declared.rows.Naming.{Naming}
use Rattle.gq_graph.specs.declared.rows.VertexRow.{VertexRow}
use Rattle.gq_graph.specs.declared.rows.EdgeRow.{EdgeRow}
use Rattle.gq_index.specs.declared.store.Store.{Store}
use Rattle.gq_load_check.specs.GrowthLaws.{vertex_type_stays, edge_type_stays}
use Rattle.gq_load_check.specs.Targets.{edge_type_at}
use Rattle.gq_insert.specs.Fits.{row_fits}
use Rattle.gq_index.specs.Steps.{Step, Vertex, End, Edge, name_of, has_vertex, edge_between, after, after_all}
use Rattle.gq_rules_store.specs.Stores.{VertexRowFits, EdgeRowFits}
use Rattle.gq_rules_store.specs.Upserts.{StepFits, StepsFit, StoreRowsFit, EmptyLaw, UpsertLaw, RowGrowthLaw}

-- ---- upserts

both : (p q : Bool) → (p && q) ≡ true → p ≡ true
both true q e = refl
both false q e = absurd (cc e)

vertices_fit : (schema : Schema) (rows : List VertexRow) (row : VertexRow) (o : Option ℕ) → VertexRowFits schema row → All (VertexRowFits schema) rows → All (VertexRowFits schema) (vertex_put rows row o)
vertices_fit schema rows row (Some n) fit fits = All-set (VertexRowFits schema) rows n row fit fits
vertices_fit schema rows row None fit fits = All-push (VertexRowFits schema) rows row fits fit

edges_fit : (schema : Schema) (rows : List EdgeRow) (naming : Naming) (edge : EdgeRow) (o : Option ℕ) → edge_number rows naming edge ≡ o → EdgeRowFits schema edge → All (EdgeRowFits schema) rows → All (EdgeRowFits schema) (edge_put rows edge o)
edges_fit schema rows naming edge (Some n) is fit fits =
    let p = position-Some (is_edge naming edge) rows n no_edge is in
    let same : (edge_at rows n).kind ≡ edge.kind = eqb-true (edge_at rows n).kind edge.kind (both ((edge_at rows n).kind == edge.kind) _ p.1) in
    All-set (EdgeRowFits schema) rows n (record (edge_at rows n) { attributes = edge.attributes })
    (record {
      there = let P : ℕ → Type 0 = λ k. k < length schema.edge_types in subst P (sym same) fit.there;
      values = let P : ℕ → Type 0 = λ k. row_fits (edge_type_at schema k).attributes edge.attributes ≡ true in subst P (sym same) fit.values;
    }) fits
edges_fit schema rows naming edge None is fit fits = All-push (EdgeRowFits schema) rows edge fits fit

step_fits : (schema : Schema) (store : Store) (step : Step) → StepFits schema step → StoreRowsFit schema store → StoreRowsFit schema (after store step)
step_fits schema store (Vertex row) fit fits = record { vertices = vertices_fit schema store.vertices row (vertex_number store.vertices row.kind row.id) fit fits.vertices; edges = fits.edges }
step_fits schema store (End row) fit fits = by (has_vertex store (name_of row))
  where
    by : (b : Bool) → StoreRowsFit schema (cond b store (record store { vertices = upsert_vertex store.vertices row }))
    by true = fits
    by false = record { vertices = vertices_fit schema store.vertices row (vertex_number store.vertices row.kind row.id) fit fits.vertices; edges = fits.edges }
step_fits schema store (Edge naming from to attributes) fit fits =
    let edge = edge_between store naming from to attributes in
    record {
      vertices = fits.vertices;
      edges = edges_fit schema store.edges.rows naming edge (edge_number store.edges.rows naming edge) refl (record { there = fit.0; values = fit.1 }) fits.edges;
    }

steps_fit : (schema : Schema) (store : Store) (steps : List Step) → StepsFit schema steps → StoreRowsFit schema store → StoreRowsFit schema (after_all store steps)
steps_fit schema store [] fit fits = fits
steps_fit schema store (step ∷ steps) fit fits = steps_fit schema (after store step) steps fit.1 (step_fits schema store step fit.0 fits)

steps_before : (schema : Schema) (xs ys : List Step) → StepsFit schema (xs ++ ys) → StepsFit schema xs
steps_before schema [] ys fit = tt
steps_before schema (x ∷ xs) ys fit = (fit.0, steps_before schema xs ys fit.1)

pub empty_law : EmptyLaw
empty_law schema = record { vertices = λ k d low. absurd (omega arith); edges = λ k d low. absurd (omega arith) }

pub upsert_law : UpsertLaw
upsert_law schema before later steps fit begun fits =
    subst (StoreRowsFit schema) (sym begun.done.leads) (steps_fit schema before begun.first (steps_before schema begun.first begun.others (subst (StepsFit schema) begun.whole fit)) fits)

-- ---- growth

low_min : (m n : ℕ) → min m n ≡ m → m ≤ n
low_min m n is = omega (arith, is)

more : {A : Type 0} (xs ys : List A) → take (length xs) ys ≡ xs → length xs ≤ length ys
more xs ys begins = low_min (length xs) (length ys) (sym (length-take (length xs) ys) ∙ ap length begins)

pub row_growth_law : RowGrowthLaw
row_growth_law before after store grown fits = record {
  vertices = λ k d low.
      let f = fits.vertices k d low in let row = get_or store.vertices k d in
      record {
        there = omega (arith, f.there, more before.vertex_types after.vertex_types grown.vertex_types);
        values = ap (λ (t : VertexType). row_fits t.attributes row.attributes) (vertex_type_stays before after row.kind grown f.there) ∙ f.values;
      };
  edges = λ k d low.
      let f = fits.edges k d low in let row = get_or store.edges.rows k d in
      record {
        there = omega (arith, f.there, more before.edge_types after.edge_types grown.edge_types);
        values = ap (λ (t : EdgeType). row_fits t.attributes row.attributes) (edge_type_stays before after row.kind grown f.there) ∙ f.values;
      };
}
