-- The tree of names: the effect of a change, and what it finds after a row is added or removed.
use Rattle.std.proofs.Common.{ℕ, ◌+◌, ◌<◌, ◌≡◌, ◌==◌, ◌&&◌, Bool, true, false, cond, List, [], ◌∷◌, ◌++◌, length, take, set, get_or, Option, Some, None, OnOk, Result, Ok, Err, refl, ap, sym, ◌∙◌, subst, arith, length-set}
use Rattle.std.specs.Str.{bytes_eq}
use Rattle.std.specs.Option.{option_or}
use Rattle.std.specs.List.{position, position_from, position_or_len}
use Rattle.std.specs.Map.{lookup}
use Rattle.std.specs.BTreeMap.{get, get_by_text, is_at, Updates, UpdatesBy, IsEmpty}
use Rattle.std.specs.Ordering.{nat_cmp}
use Rattle.std.specs.Cmp.{unsigned_tied}
use Rattle.std.specs.Cmp.Lexicographic.{slice_cmp}
use Rattle.std.specs.Prelude.{String, string_bytes, nat_lt}
use Rattle.std.specs.String.{string_cmp}
use Rattle.std.specs.Global.{Global}
use Rattle.std.proofs.lemmas.Map.Text.{btree_map_updates_text}
use Rattle.std.proofs.lemmas.Bool.Decides.{nat_tests}
use Rattle.std.proofs.lemmas.Iterator.Adapters.{position_from-zero}
use Rattle.std.proofs.lemmas.List.{take_more, get_or-take, get_or_read, length-take-le}
use Rattle.std.proofs.lemmas.List.Folds.{position_or_len-set}
use Rattle.std.proofs.lemmas.Slice.Eq.{bytes_eq-Decides}
use Rattle.gq_base.proofs.Seeks.{seek_none}
use Rattle.gq_graph.specs.declared.rows.VertexRow.{VertexRow}
use Rattle.gq_graph.specs.Vertices.{is_vertex, vertex_number, no_vertex, vertex_at, VerticesApart}
use Rattle.gq_vertex.specs.Named.{IsSorted}
use Rattle.gq_vertex.specs.Sorted.{Ids, Names, in_type, number_of, Gives}

missed : (b : Bool) → (b ≡ true → ⊥) → b ≡ false
missed true not = absurd (not refl)
missed false not = refl

and_true : (a b : Bool) → a && b ≡ true → (a ≡ true) × (b ≡ true)
and_true true b is = (refl, is)
and_true false b is = absurd (cc)

is_equal : (a b : ℕ) → (a == b) ≡ true → a ≡ b
is_equal a b h = grind (arith, nat_tests)

-- the test of two texts for equality is symmetric
turned : (a b : List ℕ) → bytes_eq a b ≡ bytes_eq b a
turned a b = by (bytes_eq a b) refl
  where
    by : (t : Bool) → bytes_eq a b ≡ t → t ≡ bytes_eq b a
    by true is = sym ((bytes_eq-Decides b a).1 (sym ((bytes_eq-Decides a b).0 is)))
    by false is = sym (missed (bytes_eq b a) (λ hit. let own : bytes_eq a b ≡ true = (bytes_eq-Decides a b).1 (sym ((bytes_eq-Decides b a).0 hit)) in absurd (cc (own, is))))

-- after the ids of one type changed
reached : (old new : Names) (kind : ℕ) (ids : Ids) → UpdatesBy nat_cmp (nat_cmp kind) old new (Some ids) → (k : ℕ) (i : List ℕ)
    → number_of new k i ≡ cond (kind == k) (get_by_text ids i) (number_of old k i)
reached old new kind ids h k i =
    ap (in_type i) (h.0 k) ∙ ap (λ t. in_type i (cond t (Some ids) (get nat_cmp old k))) (unsigned_tied kind k) ∙ by (kind == k)
  where
    by : (t : Bool) → in_type i (cond t (Some ids) (get nat_cmp old k)) ≡ cond t (get_by_text ids i) (number_of old k i)
    by true = refl
    by false = refl

pub given : (old new : Names) (kind : ℕ) (id : List ℕ) (number : Option ℕ) (ids : Ids) → UpdatesBy nat_cmp (nat_cmp kind) old new (Some ids)
    → ((i : List ℕ) → get_by_text ids i ≡ cond (bytes_eq id i) number (number_of old kind i)) → Gives old kind id number new
given old new kind id number ids h inner = λ k i. reached old new kind ids h k i ∙ by k i (kind == k) refl
  where
    by : (k : ℕ) (i : List ℕ) (t : Bool) → (kind == k) ≡ t → cond t (get_by_text ids i) (number_of old k i) ≡ cond (t && bytes_eq id i) number (number_of old k i)
    by k i true is = inner i ∙ ap (λ n. cond (bytes_eq id i) number (number_of old n i)) (is_equal kind k is)
    by k i false is = refl

-- one more id of a type that has ids
pub put_there : (old new : Names) (kind : ℕ) (id : List ℕ) (key : String Global) (number : ℕ) (was ids : Ids) → string_bytes key ≡ id
    → Some was ≡ get nat_cmp old kind → UpdatesBy nat_cmp (nat_cmp kind) old new (Some ids) → Updates string_cmp was ids key (Some number)
    → Gives old kind id (Some number) new
put_there old new kind id key number was ids is found h u =
    given old new kind id (Some number) ids h (λ i.
    btree_map_updates_text (string_bytes key) was ids (Some number) u i
    ∙ ap (λ b. cond (bytes_eq b i) (Some number) (get_by_text was i)) is ∙ ap (λ o. cond (bytes_eq id i) (Some number) (in_type i o)) found)

-- the first id of a type
pub put_first : (old new : Names) (kind : ℕ) (id : List ℕ) (key : String Global) (number : ℕ) (was ids : Ids) → string_bytes key ≡ id
    → None ≡ get nat_cmp old kind → IsEmpty was → UpdatesBy nat_cmp (nat_cmp kind) old new (Some ids) → Updates string_cmp was ids key (Some number)
    → Gives old kind id (Some number) new
put_first old new kind id key number was ids is none empty h u =
    given old new kind id (Some number) ids h (λ i.
    btree_map_updates_text (string_bytes key) was ids (Some number) u i
    ∙ ap (λ b. cond (bytes_eq b i) (Some number) (get_by_text was i)) is
    ∙ ap (λ es. cond (bytes_eq id i) (Some number) (lookup (is_at (λ k. slice_cmp nat_cmp i (string_bytes k))) es)) empty
    ∙ ap (λ o. cond (bytes_eq id i) (Some number) (in_type i o)) none)

pub on_ok : {T E P Q : Type 0} (r : Result T E) → OnOk r P → (P → Q) → OnOk r Q
on_ok (Ok x) h f = f h
on_ok (Err e) h f = h

-- the first row that passes, after a row is appended
position_push : {X : Type 0} (p : X → Bool) (xs : List X) (y : X) → (p y ≡ true → position p xs ≡ None)
    → position p (xs ++ y ∷ []) ≡ cond (p y) (Some (length xs)) (position p xs)
position_push p xs y new = position_from-zero p (xs ++ y ∷ []) ∙ more 0 xs ∙ by (p y) refl
  where
    at_last : (o : Option ℕ) (n : ℕ) → o ≡ None → option_or o (Some n) ≡ Some n
    at_last None n is = refl
    at_last (Some m) n is = absurd (cc)

    nothing : (o : Option ℕ) → option_or o None ≡ o
    nothing None = refl
    nothing (Some m) = refl

    more : (i : ℕ) (zs : List _) → position_from p i (zs ++ y ∷ []) ≡ option_or (position_from p i zs) (cond (p y) (Some (i + length zs)) None)
    more i [] = let e : i ≡ i + 0 = omega arith in ap (λ n. cond (p y) (Some n) None) e
    more i (z ∷ zs) = let e : i + 1 + length zs ≡ i + length (z ∷ zs) = omega arith in
        ap (λ o. cond (p z) (Some i) o) (more (i + 1) zs ∙ ap (λ n. option_or (position_from p (i + 1) zs) (cond (p y) (Some n) None)) e)
        ∙ first (p z) (position_from p (i + 1) zs) (cond (p y) (Some (i + length (z ∷ zs))) None)
      where
        first : (t : Bool) (o r : Option ℕ) → cond t (Some i) (option_or o r) ≡ option_or (cond t (Some i) o) r
        first true o r = refl
        first false o r = refl

    by : (t : Bool) → p y ≡ t → option_or (position_from p 0 xs) (cond t (Some (0 + length xs)) None) ≡ cond t (Some (length xs)) (position p xs)
    by true is = let e : 0 + length xs ≡ length xs = omega arith in
        at_last (position_from p 0 xs) (0 + length xs) (sym (position_from-zero p xs) ∙ new is) ∙ ap Some e
    by false is = nothing (position_from p 0 xs) ∙ sym (position_from-zero p xs)

-- and after a row is replaced by one that passes the same test
pub position_set : {X : Type 0} (p : X → Bool) (xs : List X) (n : ℕ) (y d : X) → p y ≡ p (get_or xs n d) → position p (set xs n y) ≡ position p xs
position_set p xs n y d same =
    ap (λ m. cond (nat_lt m (length (set xs n y))) (Some m) None) (position_or_len-set p xs n y d same)
    ∙ ap (λ m. cond (nat_lt (position_or_len p xs) m) (Some (position_or_len p xs)) None) (length-set xs n y)

named_so : (kind : ℕ) (id : List ℕ) (row : VertexRow) → is_vertex kind id row ≡ true → (row.kind ≡ kind) × (row.id ≡ id)
named_so kind id row is =
    let both = and_true (row.kind == kind) (bytes_eq id row.id) is in
    (is_equal row.kind kind both.0, sym ((bytes_eq-Decides id row.id).0 both.1))

test_is : (kind : ℕ) (id : List ℕ) (row : VertexRow) → ((row.kind == kind) && bytes_eq row.id id) ≡ is_vertex kind id row
test_is kind id row = ap (λ t. (row.kind == kind) && t) (turned row.id id)

-- a name that no row has
absent : (rows : List VertexRow) (row : VertexRow) (kind : ℕ) (id : List ℕ) → vertex_number rows row.kind row.id ≡ None → is_vertex kind id row ≡ true
    → vertex_number rows kind id ≡ None
absent rows row kind id none is =
    let so = named_so kind id row is in
    sym (ap (λ k. vertex_number rows k row.id) so.0 ∙ ap (vertex_number rows kind) so.1) ∙ none

-- the name of a row isn't that of an earlier row
fresh : (rows : List VertexRow) (n : ℕ) → VerticesApart rows → n < length rows → vertex_number (take n rows) (vertex_at rows n).kind (vertex_at rows n).id ≡ None
fresh rows n apart low =
    let row = vertex_at rows n in let count : length (take n rows) ≡ n = length-take-le n rows (omega (arith, low)) in
    seek_none (is_vertex row.kind row.id) no_vertex (take n rows) (λ k under.
    missed (is_vertex row.kind row.id (get_or (take n rows) k no_vertex)) (λ is.
    let before : k < n = omega (arith, under, count) in
    let so = named_so row.kind row.id (vertex_at rows k) (ap (is_vertex row.kind row.id) (sym (get_or-take n rows k no_vertex before)) ∙ is) in
    apart k n before low so.0 so.1))

-- no rows
pub sorted_none : (names : Names) → IsEmpty names → IsSorted [] names
sorted_none names empty = λ kind id. ap (λ es. in_type id (lookup (is_at (nat_cmp kind)) es)) empty

-- one row added
pub sorted_push : (rows : List VertexRow) (row : VertexRow) (n : ℕ) (old new : Names) → vertex_number rows row.kind row.id ≡ None → n ≡ length rows
    → IsSorted rows old → Gives old row.kind row.id (Some n) new → IsSorted (rows ++ row ∷ []) new
sorted_push rows row n old new none at sorted gives = λ kind id.
    gives kind id ∙ ap (λ t. cond t (Some n) (number_of old kind id)) (test_is kind id row)
    ∙ ap (λ o. cond (is_vertex kind id row) (Some n) o) (sorted kind id)
    ∙ ap (λ m. cond (is_vertex kind id row) (Some m) (vertex_number rows kind id)) at
    ∙ sym (position_push (is_vertex kind id) rows row (absent rows row kind id none))

pub sorted_next : (rows : List VertexRow) (n : ℕ) (row : VertexRow) (old new : Names) → VerticesApart rows → n < length rows → row ≡ get_or rows n row
    → IsSorted (take n rows) old → Gives old row.kind row.id (Some n) new → IsSorted (take (n + 1) rows) new
sorted_next rows n row old new apart low read sorted gives =
    subst (λ l. IsSorted l new) (sym (take_more rows n no_vertex low))
    (sorted_push (take n rows) (vertex_at rows n) n old new (fresh rows n apart low) (sym (length-take-le n rows (omega (arith, low)))) sorted
    (subst (λ (r : VertexRow). Gives old r.kind r.id (Some n) new) (get_or_read rows n row low read no_vertex) gives))

-- the last row removed
pub sorted_pop : (rows : List VertexRow) (n : ℕ) (row : VertexRow) (old new : Names) → VerticesApart rows → n < length rows → row ≡ get_or rows n row
    → IsSorted (take (n + 1) rows) old → Gives old row.kind row.id None new → IsSorted (take n rows) new
sorted_pop rows n row old new apart low read sorted gives = λ kind id.
    let last = vertex_at rows n in let t = is_vertex kind id last in let front = take n rows in
    let none = absent front last kind id (fresh rows n apart low) in
    subst (λ (r : VertexRow). Gives old r.kind r.id None new) (get_or_read rows n row low read no_vertex) gives kind id ∙ ap (λ b. cond b None (number_of old kind id)) (test_is kind id last)
    ∙ ap (λ o. cond t None o)
    (sorted kind id ∙ ap (λ l. vertex_number l kind id) (take_more rows n no_vertex low) ∙ position_push (is_vertex kind id) front last none)
    ∙ by t (vertex_number front kind id) none
  where
    by : (t : Bool) (o : Option ℕ) → (t ≡ true → o ≡ None) → cond t None (cond t (Some (length (take n rows))) o) ≡ o
    by true o none = sym (none refl)
    by false o none = refl
