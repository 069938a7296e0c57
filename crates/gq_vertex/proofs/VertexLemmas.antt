-- Rows of vertices by their names.
use Rattle.std.proofs.Common.{inl, inr, ℕ, ◌+◌, ◌<◌, ◌≤◌, ◌≡◌, ◌≢◌, ◌==◌, ◌&&◌, Bool, true, false, List, [], ◌∷◌, ◌++◌, length, get_or, take, map, Option, Some, None, refl, ap, sym, ◌∙◌, subst, arith, eq-eqb}
use Rattle.std.specs.Str.{bytes_eq}
use Rattle.std.proofs.lemmas.Bool.Decides.{nat_tests}
use Rattle.std.proofs.lemmas.Slice.Eq.{bytes_eq-Decides}
use Rattle.std.proofs.lemmas.List.{length-map, get_or-map, get_or_read, get_or_append_left, get_or_push, get_or-take, length-take-le, length_push}
use Rattle.std.proofs.lemmas.List.Quantifiers.{position-Some}
use Rattle.std.proofs.lemmas.Bool.{cases_lt}
use Rattle.gq_graph.specs.declared.rows.VertexRow.{VertexRow}
use Rattle.gq_graph.specs.Vertices.{is_vertex, vertex_number, no_vertex, vertex_at, VerticesApart, most_vertices}
use Rattle.gq_base.specs.Last.{IsLast}
use Rattle.gq_base.proofs.Seeks.{Seeks, Hits, seek_starts, seek_goes, seek_none, seek_found, nowhere}
use Rattle.gq_base.proofs.Seeks.{seek_exact}
use Rattle.gq_vertex.specs.Keyed.{word, vertex_key, IsBytes}
use Rattle.gq_vertex.specs.declared.index.Index.{Index}
use Rattle.gq_vertex.specs.declared.index.Index.TheVariants.{Hashed}
use Rattle.gq_vertex.specs.Named.{row_key, Finds, AreNamed}
use Rattle.gq_vertex.proofs.KeyedLemmas.{exact_same}

and_true : (a b : Bool) → a && b ≡ true → (a ≡ true) × (b ≡ true)
and_true true b is = (refl, is)
and_true false b is = absurd (cc)

is_equal : (a b : ℕ) → (a == b) ≡ true → a ≡ b
is_equal a b h = grind (arith, nat_tests)

-- a row that is the vertex has its type and id
pub named_so : (kind : ℕ) (id : List ℕ) (row : VertexRow) → is_vertex kind id row ≡ true → (row.kind ≡ kind) × (row.id ≡ id)
named_so kind id row is =
    let both = and_true (row.kind == kind) (bytes_eq id row.id) is in
    (is_equal row.kind kind both.0, sym ((bytes_eq-Decides id row.id).0 both.1))

-- a row of that type and id is the vertex
pub is_named : (kind : ℕ) (id : List ℕ) (row : VertexRow) → row.kind ≡ kind → row.id ≡ id → is_vertex kind id row ≡ true
is_named kind id row k i =
    ap (λ b. b && bytes_eq id row.id) (eq-eqb row.kind kind k) ∙ (bytes_eq-Decides id row.id).1 (sym i)

pub hits : (rows : List VertexRow) (keys : List ℕ) (kind : ℕ) (id : List ℕ) → keys ≡ map row_key rows
    → Hits (is_vertex kind id) no_vertex rows keys (vertex_key kind id)
hits rows keys kind id keyed k low is =
    let so = named_so kind id (get_or rows k no_vertex) is in
    ap (λ h. get_or h k 0) keyed ∙ get_or-map row_key rows k no_vertex 0 low
    ∙ ap (λ x. vertex_key x (get_or rows k no_vertex).id) so.0 ∙ ap (vertex_key kind) so.1

-- two rows with one name are one row
pub one_vertex : (rows : List VertexRow) (kind : ℕ) (id : List ℕ) → VerticesApart rows → (i j : ℕ) → i < j → j < length rows
    → is_vertex kind id (get_or rows i no_vertex) ≡ true → is_vertex kind id (get_or rows j no_vertex) ≡ true → ⊥
one_vertex rows kind id apart i j low there a b =
    let first = named_so kind id (get_or rows i no_vertex) a in
    let second = named_so kind id (get_or rows j no_vertex) b in
    apart i j low there (first.0 ∙ sym second.0) (first.1 ∙ sym second.1)

-- the row that a walk found
pub found_there : (rows : List VertexRow) (keys : List ℕ) (kind : ℕ) (id : List ℕ) (hash n : ℕ) (row : VertexRow) (t : Bool)
    → VerticesApart rows → Seeks (is_vertex kind id) no_vertex rows keys hash (Some n) → row ≡ get_or rows n row → t ≡ is_vertex kind id row → t ≡ true
    → Some n ≡ vertex_number rows kind id
found_there rows keys kind id hash n row t apart here read test is =
    sym (seek_found (is_vertex kind id) no_vertex n rows here.0
    (ap (is_vertex kind id) (sym (get_or_read rows n row here.0 read no_vertex)) ∙ sym test ∙ is) (one_vertex rows kind id apart))

-- the number of a vertex is that of a row
pub number_low : (rows : List VertexRow) (kind n : ℕ) (id : List ℕ) → vertex_number rows kind id ≡ Some n
    → (n < length rows) × ((vertex_at rows n).kind ≡ kind) × ((vertex_at rows n).id ≡ id)
number_low rows kind n id is =
    let at = position-Some (is_vertex kind id) rows n no_vertex is in
    let so = named_so kind id (get_or rows n no_vertex) at.1 in (at.0, so.0, so.1)

-- what the walk for a vertex has established
abbrev pub SeeksVertex : List VertexRow → List ℕ → ℕ → List ℕ → Option ℕ → Type 0
SeeksVertex rows keys kind id next = Seeks (is_vertex kind id) no_vertex rows keys (vertex_key kind id) next

pub vertex_starts : (rows : List VertexRow) (keys : List ℕ) (kind : ℕ) (id : List ℕ) (hash : ℕ) (next : Option ℕ) → AreNamed rows (Hashed keys)
    → hash ≡ vertex_key kind id → IsLast keys hash (length keys) next → SeeksVertex rows keys kind id next
vertex_starts rows keys kind id hash next named is last =
    seek_starts (is_vertex kind id) no_vertex rows keys (vertex_key kind id) next (ap length named.finds ∙ length-map rows row_key)
    (hits rows keys kind id named.finds) (subst (λ h. IsLast keys h (length keys) next) is last)

-- the last row of an exact key is the vertex
pub vertex_exact : (rows : List VertexRow) (keys : List ℕ) (kind : ℕ) (id : List ℕ) (key : ℕ) (next : Option ℕ) → AreNamed rows (Hashed keys) → IsBytes id
    → word id < 9223372036854775808 → key ≡ vertex_key kind id → IsLast keys key (length keys) next → next ≡ vertex_number rows kind id
vertex_exact rows keys kind id key next named bytes low is last =
    seek_exact (is_vertex kind id) no_vertex rows keys (vertex_key kind id) next (ap length named.finds ∙ length-map rows row_key)
    (hits rows keys kind id named.finds)
    (λ k under at.
    let there : vertex_key (vertex_at rows k).kind (vertex_at rows k).id ≡ vertex_key kind id =
    sym (ap (λ h. get_or h k 0) named.finds ∙ get_or-map row_key rows k no_vertex 0 under) ∙ at in
    let same = exact_same (vertex_at rows k).kind kind (vertex_at rows k).id id (named.bytes k under) bytes low there in
    is_named kind id (vertex_at rows k) same.0 same.1)
    (one_vertex rows kind id named.apart)
    (subst (λ h. IsLast keys h (length keys) next) is last)

pub vertex_goes : (rows : List VertexRow) (keys : List ℕ) (kind n : ℕ) (id : List ℕ) (old next : Option ℕ) (row : VertexRow) (t : Bool) → AreNamed rows (Hashed keys)
    → SeeksVertex rows keys kind id old → old ≡ Some n → row ≡ get_or rows n row → t ≡ is_vertex kind id row → t ≡ false
    → IsLast keys (get_or keys n 0) n next → SeeksVertex rows keys kind id next
vertex_goes rows keys kind n id old next row t named here at read test miss last =
    let this = subst (SeeksVertex rows keys kind id) at here in
    seek_goes (is_vertex kind id) no_vertex rows keys (vertex_key kind id) n next (hits rows keys kind id named.finds) this
    (ap (is_vertex kind id) (sym (get_or_read rows n row this.0 read no_vertex)) ∙ sym test ∙ miss) last

pub vertex_found : (rows : List VertexRow) (keys : List ℕ) (kind n : ℕ) (id : List ℕ) (old : Option ℕ) (row : VertexRow) (t : Bool) → AreNamed rows (Hashed keys)
    → SeeksVertex rows keys kind id old → old ≡ Some n → row ≡ get_or rows n row → t ≡ is_vertex kind id row → t ≡ true
    → Some n ≡ vertex_number rows kind id
vertex_found rows keys kind n id old row t named here at read test is =
    found_there rows keys kind id (vertex_key kind id) n row t named.apart (subst (SeeksVertex rows keys kind id) at here) read test is

pub vertex_missing : (rows : List VertexRow) (keys : List ℕ) (kind : ℕ) (id : List ℕ) (old : Option ℕ)
    → SeeksVertex rows keys kind id old → old ≡ None → None ≡ vertex_number rows kind id
vertex_missing rows keys kind id old here at =
    sym (seek_none (is_vertex kind id) no_vertex rows (subst (SeeksVertex rows keys kind id) at here))

-- only the first rows
pub named_cut : (n : ℕ) (rows : List VertexRow) (index new : Index) → n ≤ length rows → AreNamed rows index → Finds (take n rows) new → AreNamed (take n rows) new
named_cut n rows index new low named finds =
    let count : length (take n rows) ≡ n = length-take-le n rows low in
    record {
      finds = finds;
      bytes = λ k under. subst (λ (r : VertexRow). IsBytes r.id) (sym (get_or-take n rows k no_vertex (omega (arith, under, count)))) (named.bytes k (omega (arith, under, low, count)));
      apart = λ i j before there kinds ids.
          let under : j < n = omega (arith, count) in
          named.apart i j before (omega (arith, count))
          (ap (λ (r : VertexRow). r.kind) (sym (get_or-take n rows i no_vertex (omega arith))) ∙ kinds ∙ ap (λ (r : VertexRow). r.kind) (get_or-take n rows j no_vertex under))
          (ap (λ (r : VertexRow). r.id) (sym (get_or-take n rows i no_vertex (omega arith))) ∙ ids ∙ ap (λ (r : VertexRow). r.id) (get_or-take n rows j no_vertex under));
      few = omega (arith, count, named.few);
    }

-- if a vertex has no number, no row is that vertex
pub not_there : (rows : List VertexRow) (kind : ℕ) (id : List ℕ) (i : ℕ) → vertex_number rows kind id ≡ None → i < length rows
    → (vertex_at rows i).kind ≡ kind → (vertex_at rows i).id ≢ id
not_there rows kind id i none low k same =
    nowhere (is_vertex kind id) no_vertex rows i none low (is_named kind id (vertex_at rows i) k same)

-- one row added, with a new name
pub named_added : (rows : List VertexRow) (index new : Index) (row : VertexRow) → vertex_number rows row.kind row.id ≡ None → length rows < most_vertices
    → IsBytes row.id → AreNamed rows index → Finds (rows ++ row ∷ []) new → AreNamed (rows ++ row ∷ []) new
named_added rows index new row none room bytes named finds = record {
  finds = finds;
  bytes = λ k low. elim (cases_lt k (length rows)) [
    | inl under ↦ subst (λ (r : VertexRow). IsBytes r.id) (sym (get_or_append_left rows (row ∷ []) no_vertex k under)) (named.bytes k under)
    | inr over ↦
        let last : k ≡ length rows = omega (arith, length_push rows row) in
        subst (λ (r : VertexRow). IsBytes r.id) (sym (ap (λ n. get_or (rows ++ row ∷ []) n no_vertex) last ∙ get_or_push rows row no_vertex (length rows) refl)) bytes
  ];
  apart = λ i j before there kinds ids.
      let last : get_or (rows ++ row ∷ []) (length rows) no_vertex ≡ row = get_or_push rows row no_vertex (length rows) refl in
      let short : j < length rows + 1 = omega (arith, length_push rows row) in
      let first : i < length rows = omega arith in
      let front : get_or (rows ++ row ∷ []) i no_vertex ≡ get_or rows i no_vertex = get_or_append_left rows (row ∷ []) no_vertex i first in
      elim (cases_lt j (length rows)) [
        | inl low ↦
            let back : get_or (rows ++ row ∷ []) j no_vertex ≡ get_or rows j no_vertex = get_or_append_left rows (row ∷ []) no_vertex j low in
            named.apart i j before low
            (ap (λ (r : VertexRow). r.kind) (sym front) ∙ kinds ∙ ap (λ (r : VertexRow). r.kind) back)
            (ap (λ (r : VertexRow). r.id) (sym front) ∙ ids ∙ ap (λ (r : VertexRow). r.id) back)
        | inr over ↦
            let j_is : j ≡ length rows = omega arith in
            let back : get_or (rows ++ row ∷ []) j no_vertex ≡ row = ap (λ n. get_or (rows ++ row ∷ []) n no_vertex) j_is ∙ last in
            not_there rows row.kind row.id i none first
            (ap (λ (r : VertexRow). r.kind) (sym front) ∙ kinds ∙ ap (λ (r : VertexRow). r.kind) back)
            (ap (λ (r : VertexRow). r.id) (sym front) ∙ ids ∙ ap (λ (r : VertexRow). r.id) back)
      ];
  few = omega (arith, length_push rows row);
}
