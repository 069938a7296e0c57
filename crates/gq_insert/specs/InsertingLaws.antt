-- InsertingLaws: a row that fits a catalog is put as its type says.
use Rattle.std.proofs.Common.{◌≡◌, ℕ, ◌<◌, List, [], ◌∷◌, length, Option, Some, None, Bool, true, false, Result, Ok, Err, refl, sym, ap, subst, ◌∙◌, arith}
use Rattle.std.specs.Prelude.{◌&&◌}
use Rattle.gq_graph.specs.Catalog.{Schema}
use Rattle.gq_graph.specs.declared.types.Attribute.{Attribute}
use Rattle.gq_graph.specs.declared.types.EdgeType.{EdgeType}
use Rattle.gq_graph.specs.declared.rows.StoreFault.{StoreFault}
use Rattle.gq_graph.specs.declared.rows.StoreFault.TheVariants as fault
use Rattle.gq_value.specs.declared.value.Value.{Value}
use Rattle.gq_graph.specs.Edges.{Agrees, naming_with}
use Rattle.gq_value.specs.Views.{val}
use Rattle.gq_graph.specs.Defaults.{sort_of}
use Rattle.gq_index.specs.declared.store.Store.{Store}
use Rattle.gq_tree.specs.declared.schema.InsertTree.{InsertTree}
use Rattle.gq_load_check.specs.declared.insert.Endpoint.{Endpoint}
use Rattle.gq_load_check.specs.declared.insert.Insert.{Insert}
use Rattle.gq_load_check.specs.declared.insert.Insert.TheVariants as insert
use Rattle.gq_load_check.specs.declared.insert.InsertFault.{InsertFault}
use Rattle.gq_load_check.specs.Targets.{vertex_type_at, edge_type_at}
use Rattle.gq_index.specs.Namings.{naming_in}
use Rattle.gq_index.specs.Kept.{StoreGrown}
use Rattle.gq_index.specs.Rows.{IsId}
use Rattle.gq_index.proofs.KeptLemmas.{puts_grow, store_same}
use Rattle.gq_insert.specs.Fits.{is_value, row_fits, EdgeTypeFits, IsSound, EndFits, InsertFits}
use Rattle.gq_insert.specs.Inserts.{insert_named, insert_refusal}
use Rattle.gq_load.specs.Inserts.{end_row, steps_of_insert, IsNamedAs, PutsAll}
use Rattle.gq_load_csv.specs.Readings.{reading}
use Rattle.gq_load.specs.PutLaws.{done_begun}
use Rattle.gq_load.specs.Keeping.{IsVertexOf, StoreFits, UpsertsFit}
use Rattle.gq_load.specs.KeepingLaws.{begun_fits, one_fits, edge_fits}
use Rattle.gq_insert.specs.Inserting.{named_put, row_inserted, row_put, unless_refused}

-- a row that fits has a value for each attribute
row_long : (attributes : List Attribute) (row : List Value) → row_fits attributes row ≡ true → length attributes ≡ length row
row_long [] [] fits = refl
row_long [] (v ∷ row) fits = absurd (cc)
row_long (a ∷ attributes) [] fits = absurd (cc)
row_long (a ∷ attributes) (v ∷ row) fits =
    let rest = second (is_value (sort_of a.kind) (val v)) (row_fits attributes row) fits in
    omega (arith, row_long attributes row rest)
  where
    second : (p q : Bool) → (p && q) ≡ true → q ≡ true
    second true q h = h
    second false q h = absurd (cc)

-- existing edges of the row's type are named in the same way
pub row_named : (schema : Schema) (store : Store) (row : Insert) → IsSound schema → InsertFits schema row → StoreFits schema store → IsNamedAs store row
row_named schema store (insert.Vertex n id attributes) sound fits kept = tt
row_named schema store (insert.Edge n directed key from to attributes) sound fits kept =
    let t : EdgeType = edge_type_at schema n in
    let whole : EdgeTypeFits schema t = sound.edge_types n _ fits.there in
    let same : naming_in (edge_type_at schema) n ≡ naming_with n directed key = ap (λ b. naming_with n b t.discriminators) (sym fits.directed) ∙ ap (naming_with n directed) (sym fits.key) in
    (omega (arith, fits.key, whole.key, row_long t.attributes attributes fits.row), subst (Agrees store.edges.namings) same (kept.named n))

-- an end that is put has its type
end_fits : (schema : Schema) (n : ℕ) (end : Endpoint) → EndFits schema n end → IsVertexOf schema (end_row end)
end_fits schema n end fits = record {
  there = subst (λ k. k < length schema.vertex_types) (sym fits.kind) fits.there;
  id = subst (λ k. IsId (vertex_type_at schema k).id.kind end.id) (sym fits.kind) fits.id;
  values = sym (row_long (vertex_type_at schema n).attributes end.missing fits.missing) ∙ ap (λ k. length (vertex_type_at schema k).attributes) (sym fits.kind);
}

-- the upserts of a row have types of the catalog, and put each edge after its ends
row_fit : (schema : Schema) (row : Insert) → InsertFits schema row → UpsertsFit schema (steps_of_insert row)
row_fit schema (insert.Vertex n id attributes) fits =
    one_fits schema _ (record { there = fits.there; id = fits.id; values = sym (row_long (vertex_type_at schema n).attributes attributes fits.row) })
row_fit schema (insert.Edge n directed key from to attributes) fits =
    let t : EdgeType = edge_type_at schema n in
    edge_fits schema (naming_with n directed key) (end_row from) (end_row to) attributes fits.there
    (ap (λ b. naming_with n b key) fits.directed ∙ ap (naming_with n t.directed) fits.key)
    (end_fits schema t.from from fits.ends.from) (end_fits schema t.to to fits.ends.to)

-- whatever the answer, the store keeps to the catalog
pub row_keeps : {A : Type 0} (schema : Schema) (before later : Store) (row : Insert) (result : Result A StoreFault) → InsertFits schema row
    → PutsAll before (steps_of_insert row) later result → StoreFits schema before → StoreFits schema later
row_keeps schema before later row (Ok a) fits puts kept =
    begun_fits schema before later (steps_of_insert row) (row_fit schema row fits) (done_begun before later (steps_of_insert row) puts) kept
row_keeps schema before later row (Err fault.Full) fits puts kept = subst (StoreFits schema) (sym puts.0) kept
row_keeps schema before later row (Err fault.OutOfMemory) fits puts kept = subst (StoreFits schema) (sym puts) kept

-- and only grows
pub row_grows : {A : Type 0} (before later : Store) (row : Insert) (result : Result A StoreFault) → PutsAll before (steps_of_insert row) later result → StoreGrown before later
row_grows {A} before later row (Ok a) puts = puts_grow before later (steps_of_insert row) (Ok a) puts
row_grows before later row (Err fault.Full) puts = subst (StoreGrown before) (sym puts.0) (store_same before)
row_grows before later row (Err fault.OutOfMemory) puts = subst (StoreGrown before) (sym puts) (store_same before)

-- a row that no rule refuses is the one that is put
pub row_due : (schema : Schema) (store : Store) (tree : InsertTree) (row : Insert) → insert_refusal reading schema tree ≡ None → insert_named reading schema tree ≡ Some row
    → row_put store row ≡ row_inserted schema store tree
row_due schema store tree row none is =
    ap (named_put store) (sym is) ∙ ap (λ (o : Option InsertFault). unless_refused o (named_put store (insert_named reading schema tree))) (sym none)
