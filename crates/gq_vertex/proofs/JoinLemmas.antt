-- JoinLemmas: rows as vertices without attributes, with their attributes in a second list.
use Rattle.std.proofs.Common.{ℕ, zero, suc, ◌+◌, ◌<◌, ◌≡◌, true, false, cond, List, [], ◌∷◌, ◌++◌, length, get_or, set, take, Some, None, refl, ap, sym, ◌∙◌, arith}
use Rattle.std.specs.Prelude.{Result, Ok, Err, OnOk, OnErr, is_ok}
use Rattle.std.specs.Option.{unwrap_or}
use Rattle.std.specs.List.{position_from}
use Rattle.std.proofs.lemmas.Iterator.Adapters.{position_from-zero}
use Rattle.gq_graph.specs.declared.rows.VertexRow.{VertexRow}
use Rattle.gq_graph.specs.Vertices.{is_vertex, vertex_number, vertex_put, upsert_vertex, vertex_at}
use Rattle.gq_value.specs.declared.value.Value.{Value}
use Rattle.gq_vertex.specs.Joined.{joined, head_of}
use Rattle.gq_vertex.proofs.VertexLemmas.{number_low}

-- a vertex with its attributes replaced
abbrev pub with : VertexRow → List Value → VertexRow
with head row = record head { attributes = row }

pub length_joined : (heads : List VertexRow) (rows : List (List Value)) → length heads ≡ length rows → length (joined heads rows) ≡ length heads
length_joined [] rows long = refl
length_joined (h ∷ heads) [] long = absurd (omega (arith, long))
length_joined (h ∷ heads) (r ∷ rows) long = ap suc (length_joined heads rows (omega (arith, long)))

pub joined_at : (heads : List VertexRow) (rows : List (List Value)) (k : ℕ) → length heads ≡ length rows → k < length heads
    → vertex_at (joined heads rows) k ≡ with (vertex_at heads k) (get_or rows k [])
joined_at [] rows k long low = absurd (omega arith)
joined_at (h ∷ heads) [] k long low = absurd (omega (arith, long))
joined_at (h ∷ heads) (r ∷ rows) zero long low = refl
joined_at (h ∷ heads) (r ∷ rows) (suc k) long low = joined_at heads rows k (omega (arith, long)) (omega (arith, low))

joined_push : (heads : List VertexRow) (rows : List (List Value)) (h : VertexRow) (r : List Value) → length heads ≡ length rows
    → joined (heads ++ h ∷ []) (rows ++ r ∷ []) ≡ joined heads rows ++ with h r ∷ []
joined_push [] [] h r long = refl
joined_push [] (s ∷ rows) h r long = absurd (omega (arith, long))
joined_push (f ∷ heads) [] h r long = absurd (omega (arith, long))
joined_push (f ∷ heads) (s ∷ rows) h r long = ap (λ l. with f s ∷ l) (joined_push heads rows h r (omega (arith, long)))

joined_set : (heads : List VertexRow) (rows : List (List Value)) (n : ℕ) (r : List Value) → length heads ≡ length rows → n < length heads
    → joined heads (set rows n r) ≡ set (joined heads rows) n (with (vertex_at heads n) r)
joined_set [] rows n r long low = absurd (omega arith)
joined_set (h ∷ heads) [] n r long low = absurd (omega (arith, long))
joined_set (h ∷ heads) (s ∷ rows) zero r long low = refl
joined_set (h ∷ heads) (s ∷ rows) (suc n) r long low = ap (λ l. with h s ∷ l) (joined_set heads rows n r (omega (arith, long)) (omega (arith, low)))

joined_take : (n : ℕ) (heads : List VertexRow) (rows : List (List Value)) → length heads ≡ length rows → joined (take n heads) (take n rows) ≡ take n (joined heads rows)
joined_take zero heads rows long = refl
joined_take (suc n) [] rows long = refl
joined_take (suc n) (h ∷ heads) [] long = absurd (omega (arith, long))
joined_take (suc n) (h ∷ heads) (r ∷ rows) long = ap (λ l. with h r ∷ l) (joined_take n heads rows (omega (arith, long)))

-- a name is looked up in the vertices without attributes
number_joined : (heads : List VertexRow) (rows : List (List Value)) (kind : ℕ) (id : List ℕ) → length heads ≡ length rows
    → vertex_number (joined heads rows) kind id ≡ vertex_number heads kind id
number_joined heads rows kind id long =
    position_from-zero (is_vertex kind id) (joined heads rows) ∙ by 0 heads rows long ∙ sym (position_from-zero (is_vertex kind id) heads)
  where
    by : (i : ℕ) (hs : List VertexRow) (rs : List (List Value)) → length hs ≡ length rs → position_from (is_vertex kind id) i (joined hs rs) ≡ position_from (is_vertex kind id) i hs
    by i [] rs long = refl
    by i (h ∷ hs) [] long = absurd (omega (arith, long))
    by i (h ∷ hs) (r ∷ rs) long = ap (λ o. cond (is_vertex kind id h) (Some i) o) (by (i + 1) hs rs (omega (arith, long)))

-- ---- the rows of the table

pub view_long : (heads : List VertexRow) (rows : List (List Value)) (all : List VertexRow) → joined heads rows ≡ all → length heads ≡ length rows → length heads ≡ length all
view_long heads rows all view long = sym (length_joined heads rows long) ∙ ap length view

pub view_at : (heads : List VertexRow) (rows : List (List Value)) (all : List VertexRow) (k : ℕ) → joined heads rows ≡ all → length heads ≡ length rows → k < length all
    → with (vertex_at heads k) (get_or rows k []) ≡ vertex_at all k
view_at heads rows all k view long low =
    sym (joined_at heads rows k long (omega (arith, low, view_long heads rows all view long))) ∙ ap (λ l. vertex_at l k) view

pub view_number : (heads : List VertexRow) (rows : List (List Value)) (all : List VertexRow) (kind : ℕ) (id : List ℕ) → joined heads rows ≡ all → length heads ≡ length rows
    → vertex_number heads kind id ≡ vertex_number all kind id
view_number heads rows all kind id view long = sym (number_joined heads rows kind id long) ∙ ap (λ l. vertex_number l kind id) view

-- an upsert of an existing name
pub replaced_is : (heads : List VertexRow) (rows now : List (List Value)) (all : List VertexRow) (kind n : ℕ) (id : List ℕ) (row : List Value) → joined heads rows ≡ all → length heads ≡ length rows
    → vertex_number heads kind id ≡ Some n → now ≡ set rows n row
    → (n ≡ unwrap_or (vertex_number all kind id) (length all)) × (joined heads now ≡ upsert_vertex all (record { kind = kind; id = id; attributes = row }))
replaced_is heads rows now all kind n id row view long found done =
    let low = number_low heads kind n id found in
    let number : vertex_number all kind id ≡ Some n = sym (view_number heads rows all kind id view long) ∙ found in
    let named = low in
    let whole : with (vertex_at heads n) row ≡ record { kind = kind; id = id; attributes = row } =
    ap (λ k. made k (vertex_at heads n).id) named.1 ∙ ap (λ i. made kind i) named.2 in (
      sym (ap (λ o. unwrap_or o (length all)) number),
      ap (joined heads) done ∙ joined_set heads rows n row long low.0 ∙ ap (set (joined heads rows) n) whole ∙ ap (λ l. set l n (made kind id)) view
          ∙ sym (ap (vertex_put all (made kind id)) number),
    )
  where
    made : ℕ → List ℕ → VertexRow
    made k i = record { kind = k; id = i; attributes = row }

-- an upsert of a new name
pub added_is : (heads after : List VertexRow) (rows now : List (List Value)) (all : List VertexRow) (kind : ℕ) (id : List ℕ) (row : List Value) → joined heads rows ≡ all → length heads ≡ length rows
    → vertex_number heads kind id ≡ None → after ≡ heads ++ head_of kind id ∷ [] → now ≡ rows ++ row ∷ []
    → (length heads ≡ unwrap_or (vertex_number all kind id) (length all)) × (joined after now ≡ upsert_vertex all (record { kind = kind; id = id; attributes = row }))
added_is heads after rows now all kind id row view long none more moved =
    let number : vertex_number all kind id ≡ None = sym (view_number heads rows all kind id view long) ∙ none in (
      view_long heads rows all view long ∙ sym (ap (λ o. unwrap_or o (length all)) number),
      ap (λ l. joined l now) more ∙ ap (joined (heads ++ head_of kind id ∷ [])) moved ∙ joined_push heads rows (head_of kind id) row long
          ∙ ap (λ l. l ++ made ∷ []) view ∙ sym (ap (vertex_put all made) number),
    )
  where
    made : VertexRow
    made = record { kind = kind; id = id; attributes = row }

pub cut_is : (n : ℕ) (heads after : List VertexRow) (rows now : List (List Value)) (all : List VertexRow) → joined heads rows ≡ all → length heads ≡ length rows
    → after ≡ take n heads → now ≡ take n rows → joined after now ≡ take n all
cut_is n heads after rows now all view long a b =
    ap (λ l. joined l now) a ∙ ap (joined (take n heads)) b ∙ joined_take n heads rows long ∙ ap (take n) view

-- ---- results of tests

pub when_ok : {T E P : Type 0} (r : Result T E) → OnOk r P → is_ok r ≡ true → P
when_ok (Ok x) h is = h
when_ok (Err e) h is = absurd (cc)

pub when_err : {T E P : Type 0} (r : Result T E) → OnErr r P → is_ok r ≡ false → P
when_err (Ok x) h is = absurd (cc)
when_err (Err e) h is = h
