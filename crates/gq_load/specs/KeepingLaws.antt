-- KeepingLaws: a store keeps to its catalog while upserts of its types are put, and while the catalog grows.
use Rattle.std.proofs.Common.{◌≡◌, ℕ, ◌<◌, ◌≤◌, List, [], ◌∷◌, ◌++◌, length, get_or, take, min, All, Option, Some, None, Bool, true, false, cond, eqb, refl, sym, ap, subst, ◌∙◌, arith}
use Rattle.std.specs.Prelude.{is_some, slice_get, unwrap_or, ◌==◌}
use Rattle.std.specs.Option.{option_or}
use Rattle.std.proofs.lemmas.Bool.{eqb-true}
use Rattle.std.proofs.lemmas.List.{length-take, length-append, length-set}
use Rattle.std.proofs.lemmas.List.Elements.{All-set, All-push}
use Rattle.std.proofs.lemmas.List.Folds.{find-append}
use Rattle.std.proofs.lemmas.List.Quantifiers.{position-Some}
use Rattle.std.proofs.lemmas.Option.{get_or_from_slice_get, slice_get_within}
use Rattle.gq_graph.specs.Catalog.{Schema}
use Rattle.gq_graph.specs.declared.types.EdgeType.{EdgeType}
use Rattle.gq_graph.specs.declared.types.VertexType.{VertexType}
use Rattle.gq_graph.specs.declared.rows.Naming.{Naming}
use Rattle.gq_graph.specs.declared.rows.EdgeRow.{EdgeRow}
use Rattle.gq_graph.specs.declared.rows.VertexRow.{VertexRow}
use Rattle.gq_graph.specs.Vertices.{is_vertex, no_vertex, vertex_at, vertex_number, vertex_put, upsert_vertex}
use Rattle.gq_graph.specs.Edges.{is_edge, no_edge, edge_at, edge_number, edge_put, naming_of, naming_with, noted}
use Rattle.gq_value.specs.declared.value.Value.{Value}
use Rattle.gq_index.specs.declared.store.Store.{Store}
use Rattle.gq_load_check.specs.Targets.{no_vertex_type, edge_type_at}
use Rattle.gq_load_check.specs.Fits.{HasGrown}
use Rattle.gq_load_check.specs.GrowthLaws.{vertex_type_stays, edge_type_stays}
use Rattle.gq_index.specs.Ends.{edge_steps}
use Rattle.gq_index.specs.Namings.{AreNamedBy, naming_in}
use Rattle.gq_index.specs.Rows.{IsId, HaveAttributes, HaveEnds}
use Rattle.gq_index.specs.Steps.{Name, Step, Vertex, End, Edge, after, after_all, edge_between, has_vertex, name_of, number_of, Begun}
use Rattle.gq_index.proofs.NamingLemmas.{named_more}
use Rattle.gq_index.proofs.StepLemmas.{number_kept, number_new}
use Rattle.gq_load.specs.Keeping.{no_rows, AreWithin, IsVertexOf, IsAmong, StoreFits, IsOfTypes, AllOfTypes, HasItsEnds, EndsComeFirst, UpsertsFit}

-- ---- namings

same_some : {A : Type 0} (x y : A) → Some x ≡ Some y → x ≡ y
same_some {A} x y e = cc

no_naming : (kind : ℕ) (known : Naming) → naming_of [] kind ≡ Some known → ⊥
no_naming kind known is = cc

within_more : (n : ℕ) (namings : List Naming) (new : Naming) → new.kind < n → AreWithin n namings → AreWithin n (noted namings new)
within_more n namings new low are kind known is = by (is_some (naming_of namings new.kind)) is
  where
    at_end : (o : Option Naming) (b : Bool) → naming_of namings kind ≡ o → eqb new.kind kind ≡ b → option_or o (cond b (Some new) None) ≡ Some known → kind < n
    at_end (Some old) b first same e = are kind old first
    at_end None true first same e = let P : ℕ → Type 0 = λ k. k < n in subst P (eqb-true new.kind kind same) low
    at_end None false first same e = absurd (cc)

    by : (b : Bool) → naming_of (cond b namings (namings ++ new ∷ [])) kind ≡ Some known → kind < n
    by true e = are kind known e
    by false e = at_end (naming_of namings kind) (eqb new.kind kind) refl refl (sym (find-append (λ (x : Naming). x.kind == kind) namings (new ∷ [])) ∙ e)

-- ---- vertices

vertices_put : (schema : Schema) (rows : List VertexRow) (row : VertexRow) (o : Option ℕ) → IsVertexOf schema row → All (IsVertexOf schema) rows → All (IsVertexOf schema) (vertex_put rows row o)
vertices_put schema rows row (Some n) is are = All-set (IsVertexOf schema) rows n row is are
vertices_put schema rows row None is are = All-push (IsVertexOf schema) rows row are is

longer : (rows : List VertexRow) (row : VertexRow) (o : Option ℕ) → length rows ≤ length (vertex_put rows row o)
longer rows row (Some n) = omega (arith, length-set rows n row)
longer rows row None = omega (arith, length-append rows (row ∷ []))

-- the number of an existing vertex is below the number of vertices
number_low : (store : Store) (name : Name) → has_vertex store name ≡ true → number_of store name < length store.vertices
number_low store name there = by (vertex_number store.vertices name.kind name.id) refl there
  where
    by : (o : Option ℕ) → vertex_number store.vertices name.kind name.id ≡ o → is_some o ≡ true → unwrap_or o 0 < length store.vertices
    by None is none = absurd (cc)
    by (Some n) is some = (position-Some (is_vertex name.kind name.id) store.vertices n no_vertex is).0

-- the vertex of an end exists once the end is put
end_is_there : (store : Store) (row : VertexRow) → has_vertex (after store (End row)) (name_of row) ≡ true
end_is_there store row = by (vertex_number store.vertices row.kind row.id) refl
  where
    put : Store
    put = record store { vertices = upsert_vertex store.vertices row }

    by : (o : Option ℕ) → vertex_number store.vertices row.kind row.id ≡ o → has_vertex (cond (is_some o) store put) (name_of row) ≡ true
    by (Some n) is = ap is_some is
    by None is = ap is_some (number_new store.vertices (upsert_vertex store.vertices row) row (unwrap_or (vertex_number store.vertices row.kind row.id) (length store.vertices)) is refl refl)

-- and remains
stays_there : (store : Store) (name : Name) (row : VertexRow) → has_vertex store name ≡ true → has_vertex (after store (End row)) name ≡ true
stays_there store name row there = by (vertex_number store.vertices row.kind row.id) refl
  where
    put : Store
    put = record store { vertices = upsert_vertex store.vertices row }

    kept : (o : Option ℕ) → vertex_number store.vertices name.kind name.id ≡ o → is_some o ≡ true → is_some (vertex_number (store.vertices ++ row ∷ []) name.kind name.id) ≡ true
    kept None is none = absurd (cc)
    kept (Some n) is some = ap is_some (number_kept store.vertices row name.kind n name.id is)

    by : (o : Option ℕ) → vertex_number store.vertices row.kind row.id ≡ o → has_vertex (cond (is_some o) store put) name ≡ true
    by (Some n) is = there
    by None is =
        ap (λ o. is_some (vertex_number (vertex_put store.vertices row o) name.kind name.id)) is
        ∙ kept (vertex_number store.vertices name.kind name.id) refl there

-- ---- edges

among_more : (m n : ℕ) (edges : List EdgeRow) → m ≤ n → All (IsAmong m) edges → All (IsAmong n) edges
among_more m n edges more are k d low = let e = are k d low in record { from = omega (arith, e.from, more); to = omega (arith, e.to, more) }

edges_put : (count : ℕ) (rows : List EdgeRow) (naming : Naming) (edge : EdgeRow) (o : Option ℕ) → edge_number rows naming edge ≡ o → IsAmong count edge → All (IsAmong count) rows
    → All (IsAmong count) (edge_put rows edge o)
edges_put count rows naming edge (Some n) found is are =
    let old = are n no_edge (position-Some (is_edge naming edge) rows n no_edge found).0 in
    All-set (IsAmong count) rows n (record (edge_at rows n) { attributes = edge.attributes }) (record { from = old.from; to = old.to }) are
edges_put count rows naming edge None found is are = All-push (IsAmong count) rows edge are is

-- ---- upserts

pub empty_fits : (schema : Schema) → StoreFits schema no_rows
empty_fits schema = record {
  named = λ kind known is. absurd (no_naming kind known is);
  within = λ kind known is. absurd (no_naming kind known is);
  vertices = λ k d low. absurd (omega arith);
  edges = λ k d low. absurd (omega arith);
}

vertex_fits : (schema : Schema) (store : Store) (row : VertexRow) → IsVertexOf schema row → StoreFits schema store
    → StoreFits schema (record store { vertices = upsert_vertex store.vertices row })
vertex_fits schema store row of fits =
    let found = vertex_number store.vertices row.kind row.id in
    record {
      named = fits.named;
      within = fits.within;
      vertices = vertices_put schema store.vertices row found of fits.vertices;
      edges = among_more (length store.vertices) (length (upsert_vertex store.vertices row)) store.edges.rows (longer store.vertices row found) fits.edges;
    }

step_fits : (schema : Schema) (store : Store) (step : Step) → IsOfTypes schema step → HasItsEnds store step → StoreFits schema store → StoreFits schema (after store step)
step_fits schema store (Vertex row) of ends fits = vertex_fits schema store row of fits
step_fits schema store (End row) of ends fits = by (has_vertex store (name_of row))
  where
    by : (b : Bool) → StoreFits schema (cond b store (record store { vertices = upsert_vertex store.vertices row }))
    by true = fits
    by false = vertex_fits schema store row of fits
step_fits schema store (Edge naming from to attributes) of ends fits =
    let edge = edge_between store naming from to attributes in
    record {
      named =
          let more : AreNamedBy (edge_type_at schema) (noted store.edges.namings (naming_in (edge_type_at schema) naming.kind)) =
          named_more (edge_type_at schema) store.edges.namings naming.kind fits.named in
          subst (λ x. AreNamedBy (edge_type_at schema) (noted store.edges.namings x)) (sym of.1) more;
      within = within_more (length schema.edge_types) store.edges.namings naming of.0 fits.within;
      vertices = fits.vertices;
      edges = edges_put (length store.vertices) store.edges.rows naming edge (edge_number store.edges.rows naming edge) refl
          (record { from = number_low store from ends.0; to = number_low store to ends.1 }) fits.edges;
    }

steps_fit : (schema : Schema) (store : Store) (steps : List Step) → AllOfTypes schema steps → EndsComeFirst store steps → StoreFits schema store → StoreFits schema (after_all store steps)
steps_fit schema store [] of ends fits = fits
steps_fit schema store (step ∷ steps) of ends fits = steps_fit schema (after store step) steps of.1 ends.1 (step_fits schema store step of.0 ends.0 fits)

types_before : (schema : Schema) (xs ys : List Step) → AllOfTypes schema (xs ++ ys) → AllOfTypes schema xs
types_before schema [] ys of = tt
types_before schema (x ∷ xs) ys of = (of.0, types_before schema xs ys of.1)

ends_before : (store : Store) (xs ys : List Step) → EndsComeFirst store (xs ++ ys) → EndsComeFirst store xs
ends_before store [] ys ends = tt
ends_before store (x ∷ xs) ys ends = (ends.0, ends_before (after store x) xs ys ends.1)

types_join : (schema : Schema) (xs ys : List Step) → AllOfTypes schema xs → AllOfTypes schema ys → AllOfTypes schema (xs ++ ys)
types_join schema [] ys first others = others
types_join schema (x ∷ xs) ys first others = (first.0, types_join schema xs ys first.1 others)

ends_join : (store : Store) (xs ys : List Step) → EndsComeFirst store xs → ((s : Store) → EndsComeFirst s ys) → EndsComeFirst store (xs ++ ys)
ends_join store [] ys first others = others store
ends_join store (x ∷ xs) ys first others = (first.0, ends_join (after store x) xs ys first.1 others)

-- no upserts, one of a vertex, an edge with its ends, and concatenated upserts
pub none_fit : (schema : Schema) → UpsertsFit schema []
none_fit schema = record { types = tt; ends = λ store. tt }

pub one_fits : (schema : Schema) (row : VertexRow) → IsVertexOf schema row → UpsertsFit schema (Vertex row ∷ [])
one_fits schema row of = record { types = (of, tt); ends = λ store. (tt, tt) }

pub edge_fits : (schema : Schema) (naming : Naming) (from to : VertexRow) (attributes : List Value) → naming.kind < length schema.edge_types
    → naming ≡ naming_in (edge_type_at schema) naming.kind → IsVertexOf schema from → IsVertexOf schema to → UpsertsFit schema (edge_steps naming from to attributes)
edge_fits schema naming from to attributes low is first second = record {
  types = (first, (second, ((low, is), tt)));
  ends = λ store.
      let one = after store (End from) in
      (tt, (tt, ((stays_there one (name_of from) to (end_is_there store from), end_is_there one to), tt)));
}

pub fit_join : (schema : Schema) (xs ys : List Step) → UpsertsFit schema xs → UpsertsFit schema ys → UpsertsFit schema (xs ++ ys)
fit_join schema xs ys first others = record {
  types = types_join schema xs ys first.types others.types;
  ends = λ store. ends_join store xs ys (first.ends store) others.ends;
}

pub begun_fits : (schema : Schema) (before later : Store) (steps : List Step) → UpsertsFit schema steps → Begun before steps later
    → StoreFits schema before → StoreFits schema later
begun_fits schema before later steps of begun fits =
    let all : UpsertsFit schema (begun.first ++ begun.others) = subst (UpsertsFit schema) begun.whole of in
    subst (StoreFits schema) (sym begun.done.leads)
    (steps_fit schema before begun.first (types_before schema begun.first begun.others all.types) (ends_before before begun.first begun.others (all.ends before)) fits)

-- ---- growth

low_min : (m n : ℕ) → min m n ≡ m → m ≤ n
low_min m n is = omega (arith, is)

grow : {A : Type 0} (xs ys : List A) → take (length xs) ys ≡ xs → length xs ≤ length ys
grow xs ys begins = low_min (length xs) (length ys) (sym (length-take (length xs) ys) ∙ ap length begins)

pub growth_fits : (before after : Schema) (store : Store) → HasGrown before after → StoreFits before store → StoreFits after store
growth_fits before after store grown fits = record {
  named = λ kind known is.
      fits.named kind known is
      ∙ ap (λ (t : EdgeType). naming_with kind t.directed t.discriminators) (sym (edge_type_stays before after kind grown (fits.within kind known is)));
  within = λ kind known is. omega (arith, fits.within kind known is, grow before.edge_types after.edge_types grown.edge_types);
  vertices = λ k d low.
      let f = fits.vertices k d low in let row = get_or store.vertices k d in
      let stays = sym (vertex_type_stays before after row.kind grown f.there) in
      record {
        there = omega (arith, f.there, grow before.vertex_types after.vertex_types grown.vertex_types);
        id = subst (λ (t : VertexType). IsId t.id.kind row.id) stays f.id;
        values = f.values ∙ ap (λ (t : VertexType). length t.attributes) stays;
      };
  edges = fits.edges;
}

-- ---- rows

-- each vertex has its attributes, and an id in stored form
pub attributes_there : (schema : Schema) (store : Store) → StoreFits schema store → HaveAttributes schema store.vertices
attributes_there schema store fits = record {
  each = λ v t low is.
      let own = fits.vertices v no_vertex low in
      omega (arith, own.values, ap (λ (u : VertexType). length u.attributes) (get_or_from_slice_get schema.vertex_types (vertex_at store.vertices v).kind t no_vertex_type is));
  ids = λ v t low is.
      subst (λ (u : VertexType). IsId u.id.kind (vertex_at store.vertices v).id)
      (get_or_from_slice_get schema.vertex_types (vertex_at store.vertices v).kind t no_vertex_type is) (fits.vertices v no_vertex low).id;
}

-- and each edge has its ends
pub rows_join : (schema : Schema) (store : Store) → StoreFits schema store → HaveEnds store.vertices store.edges.rows
rows_join schema store fits = record { from = λ r e is. (among r e is).from; to = λ r e is. (among r e is).to }
  where
    among : (r : ℕ) (e : EdgeRow) → slice_get store.edges.rows r ≡ Some e → IsAmong (length store.vertices) e
    among r e is =
        subst (IsAmong (length store.vertices)) (get_or_from_slice_get store.edges.rows r e no_edge is) (fits.edges r no_edge (slice_get_within store.edges.rows r e is))
