-- KeptLemmas: an index stays valid while rows and types are added, and upserts only add rows.
use Rattle.std.proofs.Common.{inl, inr, ℕ, ◌+◌, ◌<◌, ◌≤◌, ◌≡◌, Bool, true, false, cond, set, List, [], ◌∷◌, ◌++◌, length, take, map, Option, Some, None, refl, ap, ap₂, sym, ◌∙◌, subst, arith, append-nil, length-append, length-set}
use Rattle.std.specs.Prelude.{Result, Ok, Err}
use Rattle.std.specs.List.{flat_map}
use Rattle.std.specs.Option.{option_to_list}
use Rattle.std.proofs.lemmas.List.{append_assoc, get_or-take, get_or_append_left, get_or-set_same, get_or-set_other, length-take-le, take_all, take-append-le}
use Rattle.std.proofs.lemmas.List.FromFn.{length-map-range_with_len}
use Rattle.std.proofs.lemmas.Bool.{cases_eq}
use Rattle.gq_graph.specs.declared.types.EdgeType.{EdgeType}
use Rattle.gq_graph.specs.declared.rows.EdgeRow.{EdgeRow}
use Rattle.gq_graph.specs.declared.rows.VertexRow.{VertexRow}
use Rattle.gq_graph.specs.declared.rows.StoreFault.{StoreFault}
use Rattle.gq_graph.specs.declared.rows.StoreFault.TheVariants as fault
use Rattle.gq_graph.specs.Candidates.{far_end}
use Rattle.gq_graph.specs.Catalog.{Schema}
use Rattle.gq_graph.specs.Edges.{edge_at, edge_put, edge_number, no_edge}
use Rattle.gq_graph.specs.Vertices.{vertex_put, vertex_number, upsert_vertex}
use Rattle.gq_index.specs.declared.kept.KeptIndex.{KeptIndex}
use Rattle.gq_index.specs.declared.store.Store.{Store}
use Rattle.gq_index.specs.declared.walks.Traversal.{Traversal}
use Rattle.gq_index.specs.Kept.{EndsWithin, AllWithin, IsKept, SameWay, CatalogGrown, StoreGrown}
use Rattle.gq_index.specs.Places.{below}
use Rattle.gq_index.specs.Sights.{type_at}
use Rattle.gq_index.specs.Steps.{Step, Vertex, End, Edge, after, after_all, has_vertex, name_of, edge_between, Done, Puts}
use Rattle.gq_index.specs.Walks.{walks_along, walks_under, walks_from}
use Rattle.gq_index.proofs.PlaceLemmas.{map_below_agree}
use Rattle.gq_index.proofs.WalkLemmas.{flat_map_agree, lt_or_le}

-- ---- the kept index

pub nothing_kept : (kept : KeptIndex) (schema : Schema) (store : Store) → kept.index ≡ [] → kept.edges ≡ 0 → kept.types ≤ length schema.edge_types → IsKept kept schema store
nothing_kept kept schema store empty none few = record {
  types = few;
  edges = omega (arith, none);
  vertices = omega (arith, ap length empty);
  walks = empty ∙ sym (ap (λ (l : List (List Traversal)). map (walks_from (take kept.types schema.edge_types) (take kept.edges store.edges.rows)) (below (length l))) empty);
  whole = λ _ r low. absurd (omega (arith, none, low));
}

pub all_kept : (kept : KeptIndex) (schema : Schema) (store : Store) → kept.types ≡ length schema.edge_types → kept.edges ≡ length store.edges.rows
    → kept.index ≡ map (walks_from schema.edge_types store.edges.rows) (below (length store.vertices))
    → (kept.whole ≡ true → AllWithin (length store.vertices) (length store.edges.rows) store.edges.rows) → IsKept kept schema store
all_kept kept schema store types edges are whole = record {
  types = omega (arith, types);
  edges = omega (arith, edges);
  vertices = omega (arith, long);
  walks = are ∙ sym (ap₂ (λ (ts : List EdgeType) (es : List EdgeRow). map (walks_from ts es) (below (length kept.index))) (take_all kept.types schema.edge_types (omega (arith, types))) (take_all kept.edges store.edges.rows (omega (arith, edges)))
      ∙ ap (λ n. map (walks_from schema.edge_types store.edges.rows) (below n)) long);
  whole = λ yes_whole r low. let within = whole yes_whole r (omega (arith, edges, low)) in record { from = omega (arith, long, within.from); to = omega (arith, long, within.to) };
}
  where
    long : length kept.index ≡ length store.vertices
    long = ap length are ∙ length-map-range_with_len (walks_from schema.edge_types store.edges.rows) 0 (length store.vertices)

-- ---- what walks depend on

far_same : (type : ℕ × EdgeType) (x y : EdgeRow) (v : ℕ) → SameWay x y → far_end type x v ≡ far_end type y v
far_same type x y v same =
    ap (λ kind. far kind x.from x.to) (sym same.kind) ∙ ap (λ from. far y.kind from x.to) (sym same.from) ∙ ap (λ to. far y.kind y.from to) (sym same.to)
  where
    far : ℕ → ℕ → ℕ → Option ℕ
    far kind from to = far_end type (record { kind = kind; from = from; to = to; attributes = [] }) v

walks_same : (types : List EdgeType) (a b : List EdgeRow) (v : ℕ) → length a ≡ length b → ((r : ℕ) → r < length a → SameWay (edge_at a r) (edge_at b r))
    → walks_from types a v ≡ walks_from types b v
walks_same types a b v long same =
    flat_map_agree (walks_under types a v) (walks_under types b v) (length types) (λ e _.
    flat_map_agree (λ r. walks_along types v e r (edge_at a r)) (λ r. walks_along types v e r (edge_at b r)) (length a) (λ r h. along e r (far_same (e, type_at types e) (edge_at a r) (edge_at b r) v (same r h)))
    ∙ ap (λ n. flat_map (λ r. walks_along types v e r (edge_at b r)) (below n)) long)
  where
    along : (e r : ℕ) → far_end (e, type_at types e) (edge_at a r) v ≡ far_end (e, type_at types e) (edge_at b r) v → walks_along types v e r (edge_at a r) ≡ walks_along types v e r (edge_at b r)
    along e r is = ap (λ (o : Option ℕ). map {B = Traversal} (λ far. record { source = v; kind = e; row = r; target = far }) (option_to_list o)) is

-- an index stays valid while types, vertices and edges are added
pub kept_grows : (kept : KeptIndex) (a b : Schema) (s t : Store) → CatalogGrown a b → StoreGrown s t → IsKept kept a s → IsKept kept b t
kept_grows kept a b s t types rows was = record {
  types = omega (arith, was.types, ap length types.types, length-append a.edge_types types.more);
  edges = omega (arith, was.edges, rows.edges);
  vertices = omega (arith, was.vertices, rows.vertices);
  walks = was.walks ∙ map_below_agree (walks_from (take kept.types a.edge_types) (take kept.edges s.edges.rows)) (walks_from (take kept.types b.edge_types) (take kept.edges t.edges.rows)) (length kept.index)
      (λ v _. walks_same (take kept.types a.edge_types) (take kept.edges s.edges.rows) (take kept.edges t.edges.rows) v (short s was.edges ∙ sym (short t (omega (arith, was.edges, rows.edges)))) same
      ∙ ap (λ ts. walks_from ts (take kept.edges t.edges.rows) v) first);
  whole = λ yes_whole r low. let within = was.whole yes_whole r low in let here = rows.same r (omega (arith, low, was.edges)) in
      record { from = omega (arith, within.from, here.from); to = omega (arith, within.to, here.to) };
}
  where
    short : (u : Store) → kept.edges ≤ length u.edges.rows → length (take kept.edges u.edges.rows) ≡ kept.edges
    short u h = length-take-le kept.edges u.edges.rows h

    first : take kept.types a.edge_types ≡ take kept.types b.edge_types
    first = sym (ap (take kept.types) types.types ∙ take-append-le kept.types a.edge_types types.more was.types)

    same : (r : ℕ) → r < length (take kept.edges s.edges.rows) → SameWay (edge_at (take kept.edges s.edges.rows) r) (edge_at (take kept.edges t.edges.rows) r)
    same r h =
        let low : r < kept.edges = omega (arith, h, short s was.edges) in
        let here = rows.same r (omega (arith, low, was.edges)) in
        subst (λ (x : EdgeRow). SameWay x (edge_at (take kept.edges t.edges.rows) r)) (sym (get_or-take kept.edges s.edges.rows r no_edge low))
        (subst (λ (y : EdgeRow). SameWay (edge_at s.edges.rows r) y) (sym (get_or-take kept.edges t.edges.rows r no_edge low)) here)

-- ---- growth, step by step

pub catalog_same : (a : Schema) → CatalogGrown a a
catalog_same a = record { more = []; types = sym (append-nil a.edge_types) }

pub catalog_more : (a b c : Schema) → CatalogGrown a b → CatalogGrown b c → CatalogGrown a c
catalog_more a b c first next = record {
  more = first.more ++ next.more;
  types = next.types ∙ ap (λ l. l ++ next.more) first.types ∙ append_assoc a.edge_types first.more next.more;
}

same_way : (x : EdgeRow) → SameWay x x
same_way x = record { kind = refl; from = refl; to = refl }

pub store_same : (s : Store) → StoreGrown s s
store_same s = record { vertices = omega arith; edges = omega arith; same = λ r _. same_way (edge_at s.edges.rows r) }

pub store_more : (a b c : Store) → StoreGrown a b → StoreGrown b c → StoreGrown a c
store_more a b c first next = record {
  vertices = omega (arith, first.vertices, next.vertices);
  edges = omega (arith, first.edges, next.edges);
  same = λ r h. let x = first.same r h in let y = next.same r (omega (arith, h, first.edges)) in record { kind = y.kind ∙ x.kind; from = y.from ∙ x.from; to = y.to ∙ x.to };
}

put_longer : (rows : List VertexRow) (row : VertexRow) (o : Option ℕ) → length rows ≤ length (vertex_put rows row o)
put_longer rows row (Some n) = omega (arith, length-set rows n row)
put_longer rows row None = omega (arith, length-append rows (row ∷ []))

edge_longer : (rows : List EdgeRow) (edge : EdgeRow) (o : Option ℕ) → length rows ≤ length (edge_put rows edge o)
edge_longer rows edge (Some n) = omega (arith, length-set rows n (record (edge_at rows n) { attributes = edge.attributes }))
edge_longer rows edge None = omega (arith, length-append rows (edge ∷ []))

edge_stays : (rows : List EdgeRow) (edge : EdgeRow) (o : Option ℕ) (r : ℕ) → r < length rows → SameWay (edge_at rows r) (edge_at (edge_put rows edge o) r)
edge_stays rows edge None r h = subst (λ (y : EdgeRow). SameWay (edge_at rows r) y) (sym (get_or_append_left rows (edge ∷ []) no_edge r h)) (same_way (edge_at rows r))
edge_stays rows edge (Some n) r h = elim (cases_eq r n) [
  | inl here ↦ subst (λ (m : ℕ). SameWay (edge_at rows r) (edge_at (set rows m (record (edge_at rows m) { attributes = edge.attributes })) r)) here
      (subst (λ (y : EdgeRow). SameWay (edge_at rows r) y) (sym (get_or-set_same rows r (record (edge_at rows r) { attributes = edge.attributes }) no_edge h)) (record { kind = refl; from = refl; to = refl }))
  | inr other ↦ subst (λ (y : EdgeRow). SameWay (edge_at rows r) y) (sym (get_or-set_other rows n r (record (edge_at rows n) { attributes = edge.attributes }) no_edge other)) (same_way (edge_at rows r))
]

pub vertices_put : (s : Store) (row : VertexRow) → StoreGrown s (record s { vertices = upsert_vertex s.vertices row })
vertices_put s row = record {
  vertices = put_longer s.vertices row (vertex_number s.vertices row.kind row.id);
  edges = omega arith;
  same = λ r _. same_way (edge_at s.edges.rows r);
}

after_grows : (s : Store) (step : Step) → StoreGrown s (after s step)
after_grows s (Vertex row) = vertices_put s row
after_grows s (End row) = chosen (has_vertex s (name_of row))
  where
    chosen : (b : Bool) → StoreGrown s (cond b s (record s { vertices = upsert_vertex s.vertices row }))
    chosen true = store_same s
    chosen false = vertices_put s row
after_grows s (Edge naming from to attributes) =
    let edge = edge_between s naming from to attributes in let o = edge_number s.edges.rows naming edge in
    record { vertices = omega arith; edges = edge_longer s.edges.rows edge o; same = edge_stays s.edges.rows edge o }

-- upserts only add rows
pub steps_grow : (s : Store) (steps : List Step) → StoreGrown s (after_all s steps)
steps_grow s [] = store_same s
steps_grow s (step ∷ steps) = store_more s (after s step) (after_all (after s step) steps) (after_grows s step) (steps_grow (after s step) steps)

done_grows : (old new : Store) (steps : List Step) → Done old steps new → StoreGrown old new
done_grows old new steps done = subst (StoreGrown old) (sym done.leads) (steps_grow old steps)

pub puts_grow : {A : Type 0} (old new : Store) (steps : List Step) (result : Result A StoreFault) → Puts old steps new result → StoreGrown old new
puts_grow old new steps (Ok a) done = done_grows old new steps done
puts_grow old new steps (Err fault.Full) refused = done_grows old new refused.first refused.done
puts_grow old new steps (Err fault.OutOfMemory) begun = done_grows old new begun.first begun.done

-- ---- edges without their attributes

-- the list has the types and ends of all rows
pub record AreEnds (ends rows : List EdgeRow) : Type 0 where
  pub long : length ends ≡ length rows
  pub same : (r : ℕ) → r < length rows → SameWay (edge_at rows r) (edge_at ends r)

pub are_ends : (ends rows : List EdgeRow) → length ends ≡ length rows → ((r : ℕ) → r < length rows → (edge_at ends r).kind ≡ (edge_at rows r).kind)
    → ((r : ℕ) → r < length rows → (edge_at ends r).from ≡ (edge_at rows r).from) → ((r : ℕ) → r < length rows → (edge_at ends r).to ≡ (edge_at rows r).to) → AreEnds ends rows
are_ends ends rows long kinds froms tos = record { long = long; same = λ r h. record { kind = kinds r h; from = froms r h; to = tos r h } }

-- a store with the same vertices and other edges
abbrev pub with_edges : Store → List EdgeRow → Store
with_edges store rows = record store { edges = record store.edges { rows = rows } }

-- walks depend on no attributes
pub ends_walks : (types : List EdgeType) (ends rows : List EdgeRow) (n : ℕ) → AreEnds ends rows → map (walks_from types ends) (below n) ≡ map (walks_from types rows) (below n)
ends_walks types ends rows n are = map_below_agree (walks_from types ends) (walks_from types rows) n (λ v _. sym (walks_same types rows ends v (sym are.long) are.same))

pub ends_kept : (kept : KeptIndex) (schema : Schema) (store : Store) (ends : List EdgeRow) → AreEnds ends store.edges.rows → IsKept kept schema store → IsKept kept schema (with_edges store ends)
ends_kept kept schema store ends are was =
    kept_grows kept schema schema store (with_edges store ends) (catalog_same schema)
    (record { vertices = omega arith; edges = omega (arith, are.long); same = are.same }) was

pub rows_kept : (kept : KeptIndex) (schema : Schema) (store : Store) (ends : List EdgeRow) → AreEnds ends store.edges.rows → IsKept kept schema (with_edges store ends) → IsKept kept schema store
rows_kept kept schema store ends are was =
    kept_grows kept schema schema (with_edges store ends) store (catalog_same schema)
    (record { vertices = omega arith; edges = omega (arith, are.long); same = λ r h. turned (edge_at store.edges.rows r) (edge_at ends r) (are.same r (omega (arith, h, are.long))) }) was
  where
    turned : (x y : EdgeRow) → SameWay x y → SameWay y x
    turned x y same = record { kind = sym same.kind; from = sym same.from; to = sym same.to }

-- ---- ends that exist

pub within_more : (n i : ℕ) (edges : List EdgeRow) (edge : EdgeRow) → AllWithin n i edges → EndsWithin n edge → edge ≡ edge_at edges i → AllWithin n (i + 1) edges
within_more n i edges edge before here is r h = elim (lt_or_le r i) [
  | inl low ↦ before r low
  | inr high ↦ let same : i ≡ r = omega arith in subst (λ (m : ℕ). EndsWithin n (edge_at edges m)) same (subst (EndsWithin n) is here)
]

pub within_wider : (n m i : ℕ) (edges : List EdgeRow) → n ≤ m → AllWithin n i edges → AllWithin m i edges
within_wider n m i edges more before r h = let within = before r h in record { from = omega (arith, within.from); to = omega (arith, within.to) }
