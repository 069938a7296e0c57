-- RowLemmas: persons and the edges between them: the rows stay well-formed when one is put.
use Rattle.std.proofs.Common.{◌≡◌, ℕ, zero, suc, ◌<◌, ◌≤◌, List, [], ◌∷◌, ◌++◌, length, slice_get, get_or, Option, Some, None, sym, ap, subst, ◌∙◌, arith}
use Rattle.std.specs.List.{All}
use Rattle.std.specs.Option.{unwrap_or}
use Rattle.std.proofs.lemmas.List.Elements.{All-nil, All-cons, All-head, All-tail, All-append, All-set}
use Rattle.std.proofs.lemmas.Option.{get_or_from_slice_get, slice_get_within}
use Rattle.gq_graph.specs.Catalog.{Schema}
use Rattle.gq_graph.specs.Edges.{EdgeTable, Agrees, edge_at, edge_number, edge_put, edge_with, naming_of, naming_with, no_edge, upsert_edge}
use Rattle.gq_graph.specs.Vertices.{no_vertex, vertex_at}
use Rattle.gq_graph.specs.declared.rows.EdgeRow.{EdgeRow}
use Rattle.gq_graph.specs.declared.rows.Naming.{Naming}
use Rattle.gq_graph.specs.declared.rows.VertexRow.{VertexRow}
use Rattle.gq_graph.specs.declared.types.IdKind.{IdKind}
use Rattle.gq_graph.specs.declared.types.VertexType.{VertexType}
use Rattle.gq_edge.proofs.TableLemmas.{noted_own}
use Rattle.gq_index.specs.Rows.{IsId, HaveAttributes, HaveEnds}
use Rattle.gq_parallel_tests.specs.Blocks.{IsAmong, IsBare, IsPerson}

module _ {A : Type 0} (P : A → Type 0) where
  pub all_at : (xs : List A) (i : ℕ) (x : A) → All P xs → slice_get xs i ≡ Some x → P x
  all_at xs i x all at = subst P (get_or_from_slice_get xs i x x at) (all i x (slice_get_within xs i x at))

  -- also where there is none
  all_or : (xs : List A) (i : ℕ) (d : A) → All P xs → P d → P (get_or xs i d)
  all_or [] i d all own = own
  all_or (x ∷ xs) zero d all own = All-head P x xs all
  all_or (x ∷ xs) (suc i) d all own = all_or xs i d (All-tail P x xs all) own

  pub all_more : (xs : List A) (x : A) → All P xs → P x → All P (xs ++ x ∷ [])
  all_more xs x all own = All-append P xs (x ∷ []) all (All-cons P x [] own (All-nil P))

-- ---- vertices

pub persons_whole : (schema : Schema) (rows : List VertexRow) → All IsBare schema.vertex_types → All IsPerson rows → HaveAttributes schema rows
persons_whole schema rows bare persons = record {
  each = λ v t low is. let none = ap length (all_at IsBare schema.vertex_types (vertex_at rows v).kind t bare is).attributes in omega (arith, none);
  ids = λ v t low is. subst (λ (k : IdKind). IsId k (vertex_at rows v).id) (sym (all_at IsBare schema.vertex_types (vertex_at rows v).kind t bare is).id) (persons v no_vertex low);
}

-- ---- edges

edge_puts : (count : ℕ) (rows : List EdgeRow) (edge : EdgeRow) (n : Option ℕ) → 0 < count → All (IsAmong count) rows → IsAmong count edge → All (IsAmong count) (edge_put rows edge n)
edge_puts count rows edge (Some n) some all own =
    let at = all_or (IsAmong count) rows n no_edge all (record { from = some; to = some }) in
    All-set (IsAmong count) rows n (record (edge_at rows n) { attributes = edge.attributes }) (record { from = at.from; to = at.to }) all
edge_puts count rows edge None some all own = all_more (IsAmong count) rows edge all own

pub edge_among : (count : ℕ) (table : EdgeTable) (naming : Naming) (edge : EdgeRow) → 0 < count → All (IsAmong count) table.rows → IsAmong count edge → All (IsAmong count) (upsert_edge table naming edge).rows
edge_among count table naming edge some all own = edge_puts count table.rows edge (edge_number table.rows naming edge) some all own

-- the edges of the type stay named so
pub stays_named : (old new : EdgeTable) (naming : Naming) (edge : EdgeRow) → new ≡ upsert_edge old naming edge → Agrees old.namings naming → Agrees new.namings naming
stays_named old new naming edge is agrees = λ known h.
    ap (λ n. unwrap_or n naming) (sym h ∙ ap (λ (t : EdgeTable). naming_of t.namings naming.kind) is ∙ noted_own old.namings naming agrees)

pub have_ends : (count : ℕ) (vertices : List VertexRow) (edges : List EdgeRow) → count ≤ length vertices → All (IsAmong count) edges → HaveEnds vertices edges
have_ends count vertices edges enough all = record {
  from = λ r e is. let at = (all_at (IsAmong count) edges r e all is).from in omega (arith, enough, at);
  to = λ r e is. let at = (all_at (IsAmong count) edges r e all is).to in omega (arith, enough, at);
}
