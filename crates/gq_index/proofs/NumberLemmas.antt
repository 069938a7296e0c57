-- NumberLemmas: an existing vertex keeps its number while upserts succeed.
use Rattle.std.proofs.Common.{◌≡◌, ℕ, cond, List, [], ◌∷◌, get_or, set, Bool, true, false, Option, Some, None, refl, sym, ap, ◌∙◌}
use Rattle.gq_graph.specs.declared.rows.VertexRow.{VertexRow}
use Rattle.gq_graph.specs.Vertices.{is_vertex, vertex_number, vertex_put, upsert_vertex, no_vertex}
use Rattle.gq_index.specs.declared.store.Store.{Store}
use Rattle.gq_index.specs.Steps.{Step, Vertex, End, Edge, after, after_all, has_vertex, name_of, Done}
use Rattle.gq_index.proofs.StepLemmas.{number_kept}
use Rattle.gq_vertex.proofs.VertexLemmas.{number_low}
use Rattle.gq_vertex.proofs.SortedLemmas.{position_set}

-- a row replaced by another of the same name
number_set : (rows : List VertexRow) (row : VertexRow) (m kind : ℕ) (id : List ℕ) → vertex_number rows row.kind row.id ≡ Some m → vertex_number (set rows m row) kind id ≡ vertex_number rows kind id
number_set rows row m kind id at =
    let low = number_low rows row.kind m row.id at in
    position_set (is_vertex kind id) rows m row no_vertex (same row (get_or rows m no_vertex) low.1 low.2)
  where
    same : (a b : VertexRow) → b.kind ≡ a.kind → b.id ≡ a.id → is_vertex kind id a ≡ is_vertex kind id b
    same a b k i =
        ap (λ (x : ℕ). is_vertex kind id (record { kind = x; id = a.id; attributes = a.attributes })) (sym k)
        ∙ ap (λ (x : List ℕ). is_vertex kind id (record { kind = b.kind; id = x; attributes = a.attributes })) (sym i)

upserted : (rows : List VertexRow) (row : VertexRow) (kind n : ℕ) (id : List ℕ) → vertex_number rows kind id ≡ Some n → vertex_number (upsert_vertex rows row) kind id ≡ Some n
upserted rows row kind n id is = by (vertex_number rows row.kind row.id) refl
  where
    by : (o : Option ℕ) → vertex_number rows row.kind row.id ≡ o → vertex_number (vertex_put rows row o) kind id ≡ Some n
    by None none = number_kept rows row kind n id is
    by (Some m) at = number_set rows row m kind id at ∙ is

after_one : (store : Store) (step : Step) (kind n : ℕ) (id : List ℕ) → vertex_number store.vertices kind id ≡ Some n → vertex_number (after store step).vertices kind id ≡ Some n
after_one store (Vertex row) kind n id is = upserted store.vertices row kind n id is
after_one store (End row) kind n id is = by (has_vertex store (name_of row))
  where
    by : (b : Bool) → vertex_number (cond b store (record store { vertices = upsert_vertex store.vertices row })).vertices kind id ≡ Some n
    by true = is
    by false = upserted store.vertices row kind n id is
after_one store (Edge naming from to attributes) kind n id is = is

after_many : (store : Store) (steps : List Step) (kind n : ℕ) (id : List ℕ) → vertex_number store.vertices kind id ≡ Some n → vertex_number (after_all store steps).vertices kind id ≡ Some n
after_many store [] kind n id is = is
after_many store (step ∷ steps) kind n id is = after_many (after store step) steps kind n id (after_one store step kind n id is)

pub number_stays : (a b : Store) (steps : List Step) (kind n : ℕ) (id : List ℕ) → Done a steps b → vertex_number a.vertices kind id ≡ Some n → vertex_number b.vertices kind id ≡ Some n
number_stays a b steps kind n id done is = ap (λ (s : Store). vertex_number s.vertices kind id) done.leads ∙ after_many a steps kind n id is
