-- StepLemmas: single upserts, and sequences of them.
use Rattle.std.proofs.Common.{◌≡◌, ℕ, ◌+◌, ◌≤◌, cond, List, [], ◌∷◌, ◌++◌, length, Option, Some, None, Bool, true, false, inl, inr, refl, sym, ap, ap₂, subst, ◌∙◌, arith}
use Rattle.std.specs.Prelude.{Err, ◌&&◌, nat_le, is_some, is_none, unwrap_or, bytes_eq, ◌==◌}
use Rattle.std.specs.List.{position_from}
use Rattle.std.proofs.lemmas.Slice.Eq.{bytes_eq-Decides}
use Rattle.std.proofs.lemmas.Bool.{eq-eqb, leb-true, and_from, le-leb, cases_Bool}
use Rattle.std.proofs.lemmas.List.{append_assoc}
use Rattle.std.proofs.lemmas.Iterator.Adapters.{position_from-zero}
use Rattle.gq_graph.specs.declared.rows.VertexRow.{VertexRow}
use Rattle.gq_graph.specs.declared.rows.Naming.{Naming}
use Rattle.gq_value.specs.declared.value.Value.{Value}
use Rattle.gq_graph.specs.Vertices.{is_vertex, vertex_number, upsert_vertex, vertex_put, most_vertices}
use Rattle.gq_graph.specs.Edges.{EdgeTable, edge_with, edge_number, upsert_edge, most_edges}
use Rattle.gq_graph.specs.declared.rows.StoreFault.{StoreFault}
use Rattle.gq_graph.specs.declared.rows.StoreFault.TheVariants as fault
use Rattle.gq_index.specs.declared.store.Store.{Store}
use Rattle.gq_index.specs.Steps.{Name, Step, Vertex, End, Edge, after, after_all, is_refused, AllTaken, edge_between, Done, Refused, Begun, Puts}

-- ---- one upsert

-- no refusal if the name is known or there is room
pub taken : (o : Option ℕ) (most len : ℕ) → ((o ≡ None) × (most ≤ len) → ⊥) → (is_none o && nat_le most len) ≡ false
taken None most len never = elim (cases_Bool (nat_le most len)) [ inl full ↦ absurd (never (refl, leb-true most len full)) | inr room ↦ room ]
taken (Some n) most len never = refl

pub refused : (o : Option ℕ) (most len : ℕ) → (o ≡ None) × (most ≤ len) → (is_none o && nat_le most len) ≡ true
refused o most len full = and_from (is_none o) (nat_le most len) (ap is_none full.0) (le-leb most len full.1)

-- a single upsert
pub done_one : (before later : Store) (step : Step) → is_refused before step ≡ false → later ≡ after before step → Done before (step ∷ []) later
done_one before later step room leads = record { taken = (room, tt); leads = leads }

pub refused_one : (before later : Store) (step : Step) → later ≡ before → is_refused before step ≡ true → Refused before (step ∷ []) later
refused_one before later step same full = record {
  first = [];
  refused = step;
  others = [];
  whole = refl;
  done = record { taken = tt; leads = same };
  full = ap (λ s. is_refused s step) same ∙ full;
}

pub none_begun : (before later : Store) (steps : List Step) → later ≡ before → Begun before steps later
none_begun before later steps same = record { first = []; others = steps; whole = refl; done = record { taken = tt; leads = same } }

-- ---- sequences of upserts

pub after_all-append : (store : Store) (xs ys : List Step) → after_all store (xs ++ ys) ≡ after_all (after_all store xs) ys
after_all-append store [] ys = refl
after_all-append store (x ∷ xs) ys = after_all-append (after store x) xs ys

all_taken : (store : Store) (xs ys : List Step) → AllTaken store xs → AllTaken (after_all store xs) ys → AllTaken store (xs ++ ys)
all_taken store [] ys first others = others
all_taken store (x ∷ xs) ys first others = (first.0, all_taken (after store x) xs ys first.1 others)

pub done_more : (a b c : Store) (xs ys : List Step) → Done a xs b → Done b ys c → Done a (xs ++ ys) c
done_more a b c xs ys first others = record {
  taken = all_taken a xs ys first.taken (subst (λ (s : Store). AllTaken s ys) first.leads others.taken);
  leads = others.leads ∙ ap (λ s. after_all s ys) first.leads ∙ sym (after_all-append a xs ys);
}

pub refused_more : (a b c : Store) (xs ys : List Step) → Done a xs b → Refused b ys c → Refused a (xs ++ ys) c
refused_more a b c xs ys first later = record {
  first = xs ++ later.first;
  refused = later.refused;
  others = later.others;
  whole = ap (λ zs. xs ++ zs) later.whole ∙ sym (append_assoc xs later.first (later.refused ∷ later.others));
  done = done_more a b c xs later.first first later.done;
  full = later.full;
}

pub begun_more : (a b c : Store) (xs ys : List Step) → Done a xs b → Begun b ys c → Begun a (xs ++ ys) c
begun_more a b c xs ys first later = record {
  first = xs ++ later.first;
  others = later.others;
  whole = ap (λ zs. xs ++ zs) later.whole ∙ sym (append_assoc xs later.first later.others);
  done = done_more a b c xs later.first first later.done;
}

-- a refused or partial sequence stays so, whatever would follow
pub refused_before : (a c : Store) (xs ys : List Step) → Refused a xs c → Refused a (xs ++ ys) c
refused_before a c xs ys first = record {
  first = first.first;
  refused = first.refused;
  others = first.others ++ ys;
  whole = ap (λ zs. zs ++ ys) first.whole ∙ append_assoc first.first (first.refused ∷ first.others) ys;
  done = first.done;
  full = first.full;
}

pub begun_before : (a c : Store) (xs ys : List Step) → Begun a xs c → Begun a (xs ++ ys) c
begun_before a c xs ys first = record {
  first = first.first;
  others = first.others ++ ys;
  whole = ap (λ zs. zs ++ ys) first.whole ∙ append_assoc first.first first.others ys;
  done = first.done;
}

-- all upserts succeeded, and memory ran out for the next
pub begun_all : (a c : Store) (xs ys : List Step) → Done a xs c → Begun a (xs ++ ys) c
begun_all a c xs ys first = record { first = xs; others = ys; whole = refl; done = first }

-- ---- numbers of vertices

from_append : {A : Type 0} (p : A → Bool) (k n : ℕ) (xs ys : List A) → position_from p k xs ≡ Some n → position_from p k (xs ++ ys) ≡ Some n
from_append {A} p k n [] ys is = absurd (cc)
from_append {A} p k n (x ∷ xs) ys is = go (p x) is (λ h. from_append p (k + 1) n xs ys h)
  where
    go : (b : Bool) → cond b (Some k) (position_from p (k + 1) xs) ≡ Some n → (position_from p (k + 1) xs ≡ Some n → position_from p (k + 1) (xs ++ ys) ≡ Some n)
        → cond b (Some k) (position_from p (k + 1) (xs ++ ys)) ≡ Some n
    go true h more = h
    go false h more = more h

from_last : {A : Type 0} (p : A → Bool) (k : ℕ) (xs : List A) (y : A) → position_from p k xs ≡ None → p y ≡ true → position_from p k (xs ++ y ∷ []) ≡ Some (k + length xs)
from_last {A} p k [] y isnt is = ap (λ b. cond b (Some k) None) is ∙ ap (λ (i : ℕ). Some i) (omega arith)
from_last {A} p k (x ∷ xs) y isnt is = go (p x) isnt (λ h. from_last p (k + 1) xs y h is)
  where
    go : (b : Bool) → cond b (Some k) (position_from p (k + 1) xs) ≡ None → (position_from p (k + 1) xs ≡ None → position_from p (k + 1) (xs ++ y ∷ []) ≡ Some (k + 1 + length xs))
        → cond b (Some k) (position_from p (k + 1) (xs ++ y ∷ [])) ≡ Some (k + length (x ∷ xs))
    go true h more = absurd (cc)
    go false h more = more h ∙ ap (λ (i : ℕ). Some i) (omega arith)

-- an existing vertex keeps its number when another is appended
pub number_kept : (rows : List VertexRow) (row : VertexRow) (kind n : ℕ) (id : List ℕ) → vertex_number rows kind id ≡ Some n → vertex_number (rows ++ row ∷ []) kind id ≡ Some n
number_kept rows row kind n id is =
    position_from-zero (is_vertex kind id) (rows ++ row ∷ [])
    ∙ from_append (is_vertex kind id) 0 n rows (row ∷ []) (sym (position_from-zero (is_vertex kind id) rows) ∙ is)

number_last : (rows : List VertexRow) (row : VertexRow) → vertex_number rows row.kind row.id ≡ None → vertex_number (rows ++ row ∷ []) row.kind row.id ≡ Some (length rows)
number_last rows row new =
    position_from-zero (is_vertex row.kind row.id) (rows ++ row ∷ [])
    ∙ from_last (is_vertex row.kind row.id) 0 rows row (sym (position_from-zero (is_vertex row.kind row.id) rows) ∙ new)
    (and_from (row.kind == row.kind) (bytes_eq row.id row.id) (eq-eqb row.kind row.kind refl) ((bytes_eq-Decides row.id row.id).1 refl))
    ∙ ap (λ (i : ℕ). Some i) (omega arith)

-- the number of an appended vertex
pub number_new : (rows after_rows : List VertexRow) (row : VertexRow) (n : ℕ) → vertex_number rows row.kind row.id ≡ None
    → after_rows ≡ upsert_vertex rows row → n ≡ unwrap_or (vertex_number rows row.kind row.id) (length rows) → vertex_number after_rows row.kind row.id ≡ Some n
number_new rows after_rows row n new put is =
    ap (λ rs. vertex_number rs row.kind row.id) (put ∙ ap (vertex_put rows row) new) ∙ number_last rows row new
    ∙ ap (λ (i : ℕ). Some i) (sym (is ∙ ap (λ o. unwrap_or o (length rows)) new))

-- ---- the results of the tables

pub vertex_ok : (store : Store) (rows : List VertexRow) (row : VertexRow) → rows ≡ upsert_vertex store.vertices row
    → ((vertex_number store.vertices row.kind row.id ≡ None) × (most_vertices ≤ length store.vertices) → ⊥)
    → Done store (Vertex row ∷ []) (record { vertices = rows; edges = store.edges })
vertex_ok store rows row put never =
    done_one store _ (Vertex row) (taken (vertex_number store.vertices row.kind row.id) most_vertices (length store.vertices) never)
    (ap (λ (rs : List VertexRow). let s : Store = record { vertices = rs; edges = store.edges } in s) put)

pub vertex_err : (A : Type 0) (store : Store) (rows : List VertexRow) (row : VertexRow) (f : StoreFault) → rows ≡ store.vertices
    → (f ≡ fault.Full → (vertex_number store.vertices row.kind row.id ≡ None) × (most_vertices ≤ length store.vertices))
    → Puts {A = A} store (Vertex row ∷ []) (record { vertices = rows; edges = store.edges }) (Err f)
vertex_err A store rows row fault.Full same full =
    refused_one store _ (Vertex row) (ap (λ (rs : List VertexRow). let s : Store = record { vertices = rs; edges = store.edges } in s) same)
    (refused (vertex_number store.vertices row.kind row.id) most_vertices (length store.vertices) (full refl))
vertex_err A store rows row fault.OutOfMemory same full =
    none_begun store _ (Vertex row ∷ []) (ap (λ (rs : List VertexRow). let s : Store = record { vertices = rs; edges = store.edges } in s) same)

pub end_there : (store : Store) (row : VertexRow) (n : ℕ) → vertex_number store.vertices row.kind row.id ≡ Some n → Done store (End row ∷ []) store
end_there store row n is =
    done_one store store (End row) (taken (vertex_number store.vertices row.kind row.id) most_vertices (length store.vertices) (λ full. absurd (some_none (sym is ∙ full.0))))
    (sym (ap (λ (o : Option ℕ). cond (is_some o) store (record store { vertices = upsert_vertex store.vertices row })) is))
  where
    some_none : Some n ≡ None → ⊥
    some_none e = cc

pub end_ok : (store : Store) (rows : List VertexRow) (row : VertexRow) → vertex_number store.vertices row.kind row.id ≡ None → rows ≡ upsert_vertex store.vertices row
    → ((vertex_number store.vertices row.kind row.id ≡ None) × (most_vertices ≤ length store.vertices) → ⊥)
    → Done store (End row ∷ []) (record { vertices = rows; edges = store.edges })
end_ok store rows row new put never =
    done_one store _ (End row) (taken (vertex_number store.vertices row.kind row.id) most_vertices (length store.vertices) never)
    (ap (λ (rs : List VertexRow). let s : Store = record { vertices = rs; edges = store.edges } in s) put
    ∙ sym (ap (λ (o : Option ℕ). cond (is_some o) store (record store { vertices = upsert_vertex store.vertices row })) new))

pub end_err : (A : Type 0) (store : Store) (rows : List VertexRow) (row : VertexRow) (f : StoreFault) → rows ≡ store.vertices
    → (f ≡ fault.Full → (vertex_number store.vertices row.kind row.id ≡ None) × (most_vertices ≤ length store.vertices))
    → Puts {A = A} store (End row ∷ []) (record { vertices = rows; edges = store.edges }) (Err f)
end_err A store rows row fault.Full same full =
    refused_one store _ (End row) (ap (λ (rs : List VertexRow). let s : Store = record { vertices = rs; edges = store.edges } in s) same)
    (refused (vertex_number store.vertices row.kind row.id) most_vertices (length store.vertices) (full refl))
end_err A store rows row fault.OutOfMemory same full =
    none_begun store _ (End row ∷ []) (ap (λ (rs : List VertexRow). let s : Store = record { vertices = rs; edges = store.edges } in s) same)

-- the row of an edge between vertices whose numbers are known
between : (store : Store) (naming : Naming) (from to : Name) (attributes : List Value) (a b : ℕ)
    → vertex_number store.vertices from.kind from.id ≡ Some a → vertex_number store.vertices to.kind to.id ≡ Some b
    → edge_between store naming from to attributes ≡ edge_with naming.kind a b attributes
between store naming from to attributes a b first second =
    ap₂ (λ (i j : ℕ). edge_with naming.kind i j attributes) (ap (λ (o : Option ℕ). unwrap_or o 0) first) (ap (λ (o : Option ℕ). unwrap_or o 0) second)

pub edge_ok : (store : Store) (table : EdgeTable) (naming : Naming) (from to : Name) (attributes : List Value) (a b : ℕ)
    → vertex_number store.vertices from.kind from.id ≡ Some a → vertex_number store.vertices to.kind to.id ≡ Some b
    → table ≡ upsert_edge store.edges naming (edge_with naming.kind a b attributes)
    → ((edge_number store.edges.rows naming (edge_with naming.kind a b attributes) ≡ None) × (most_edges ≤ length store.edges.rows) → ⊥)
    → Done store (Edge naming from to attributes ∷ []) (record { vertices = store.vertices; edges = table })
edge_ok store table naming from to attributes a b first second put never =
    let same = between store naming from to attributes a b first second in
    done_one store _ (Edge naming from to attributes)
    (ap (λ e. is_none (edge_number store.edges.rows naming e) && nat_le most_edges (length store.edges.rows)) same
    ∙ taken (edge_number store.edges.rows naming (edge_with naming.kind a b attributes)) most_edges (length store.edges.rows) never)
    (ap (λ (t : EdgeTable). let s : Store = record { vertices = store.vertices; edges = t } in s) (put ∙ ap (upsert_edge store.edges naming) (sym same)))

pub edge_err : (A : Type 0) (store : Store) (table : EdgeTable) (naming : Naming) (from to : Name) (attributes : List Value) (a b : ℕ) (f : StoreFault)
    → vertex_number store.vertices from.kind from.id ≡ Some a → vertex_number store.vertices to.kind to.id ≡ Some b → table ≡ store.edges
    → (f ≡ fault.Full → (edge_number store.edges.rows naming (edge_with naming.kind a b attributes) ≡ None) × (most_edges ≤ length store.edges.rows))
    → Puts {A = A} store (Edge naming from to attributes ∷ []) (record { vertices = store.vertices; edges = table }) (Err f)
edge_err A store table naming from to attributes a b fault.Full first second same full =
    let is = between store naming from to attributes a b first second in
    refused_one store _ (Edge naming from to attributes) (ap (λ (t : EdgeTable). let s : Store = record { vertices = store.vertices; edges = t } in s) same)
    (ap (λ e. is_none (edge_number store.edges.rows naming e) && nat_le most_edges (length store.edges.rows)) is
    ∙ refused (edge_number store.edges.rows naming (edge_with naming.kind a b attributes)) most_edges (length store.edges.rows) (full refl))
edge_err A store table naming from to attributes a b fault.OutOfMemory first second same full =
    none_begun store _ (Edge naming from to attributes ∷ []) (ap (λ (t : EdgeTable). let s : Store = record { vertices = store.vertices; edges = t } in s) same)

-- ---- refusals before and after other upserts

pub err_before : (A B : Type 0) (a c : Store) (xs ys : List Step) (f : StoreFault) → Puts {A = A} a xs c (Err f) → Puts {A = B} a (xs ++ ys) c (Err f)
err_before A B a c xs ys fault.Full is = refused_before a c xs ys is
err_before A B a c xs ys fault.OutOfMemory is = begun_before a c xs ys is

pub err_more : (A B : Type 0) (a b c : Store) (xs ys : List Step) (f : StoreFault) → Done a xs b → Puts {A = A} b ys c (Err f) → Puts {A = B} a (xs ++ ys) c (Err f)
err_more A B a b c xs ys fault.Full first is = refused_more a b c xs ys first is
err_more A B a b c xs ys fault.OutOfMemory first is = begun_more a b c xs ys first is
