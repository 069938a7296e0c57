-- The tree of names: what it finds, and its contents after a row is added.
use Rattle.std.proofs.Common.{ℕ, zero, suc, ◌+◌, ◌<◌, ◌≡◌, Bool, true, false, cond, List, [], ◌∷◌, ◌++◌, length, take, get_or, map, Option, Some, None, Ordering, Less, Equal, Greater, OnOk, Result, Ok, Err, refl, ap, sym, ◌∙◌, subst, arith}
use Rattle.std.specs.Option.{option_or}
use Rattle.std.specs.List.{position, position_from, find}
use Rattle.std.specs.Map.{lookup}
use Rattle.std.specs.BTreeMap.{get, is_at, Updates, IsEmpty}
use Rattle.std.specs.Ordering.{is_eq, nat_cmp, ordering_then, on}
use Rattle.std.specs.Cmp.Lexicographic.{slice_cmp}
use Rattle.std.specs.Cmp.Derive.Mapped.{lex_map}
use Rattle.std.proofs.lemmas.Bool.Decides.{nat_tests}
use Rattle.std.proofs.lemmas.Iterator.Adapters.{position_from-zero}
use Rattle.std.proofs.lemmas.List.{take_more, get_or-take, length-take-le}
use Rattle.gq_base.proofs.Seeks.{seek_none}
use Rattle.gq_value.specs.Val.{Val, Vertex, UInt}
use Rattle.gq_value.specs.Views.{val}
use Rattle.gq_value.specs.Order.{place}
use Rattle.gq_value.specs.OrderLaws.{place_same}
use Rattle.gq_graph.specs.declared.rows.Naming.{Naming}
use Rattle.gq_edge.specs.Hashed.{row_hash}
use Rattle.gq_edge.specs.Sorted.{Name, Names, IsHashed, name_cmp, is_name, AreSorted}
use Rattle.gq_edge.proofs.EdgeNames.{EdgeName, name_same, place_own}

missed : (b : Bool) → (b ≡ true → ⊥) → b ≡ false
missed true not = absurd (not refl)
missed false not = refl

pub map_push : {A B : Type 0} (f : A → B) (xs : List A) (y : A) → map f (xs ++ y ∷ []) ≡ map f xs ++ f y ∷ []
map_push f [] y = refl
map_push f (x ∷ xs) y = ap (λ l. f x ∷ l) (map_push f xs y)

pub on_ok : {T E P Q : Type 0} (r : Result T E) → OnOk r P → (P → Q) → OnOk r Q
on_ok (Ok x) h f = f h
on_ok (Err e) h f = h

-- rows of values that compare as equal are equal
then_equal : (o p : Ordering) → is_eq (ordering_then o p) ≡ true → (o ≡ Equal) × (is_eq p ≡ true)
then_equal Less p is = absurd (cc)
then_equal Equal p is = (refl, is)
then_equal Greater p is = absurd (cc)

pub held : (xs ys : List Val) → is_eq (slice_cmp place xs ys) ≡ true → xs ≡ ys
held [] [] is = refl
held [] (y ∷ ys) is = absurd (cc)
held (x ∷ xs) [] is = absurd (cc)
held (x ∷ xs) (y ∷ ys) is =
    let parts = then_equal (place x y) (slice_cmp place xs ys) is in
    ap (λ v. v ∷ xs) (place_same x y parts.0) ∙ ap (λ vs. y ∷ vs) (held xs ys parts.1)

pub itself : (xs : List Val) → is_eq (slice_cmp place xs xs) ≡ true
itself [] = refl
itself (x ∷ xs) = ap (λ o. is_eq (ordering_then o (slice_cmp place xs xs))) (place_own x) ∙ itself xs

-- an edge's name as a row of values, and back
abbrev pub row_of : EdgeName → List Val
row_of n = Vertex n.first ∷ Vertex n.second ∷ UInt n.kind ∷ n.values

pub row_back : (a b : EdgeName) → row_of a ≡ row_of b → a ≡ b
row_back a b is =
    let first : a.first ≡ b.first = cc in let second : a.second ≡ b.second = cc in let kind : a.kind ≡ b.kind = cc in
    let values : a.values ≡ b.values = cc in name_same kind first second values

-- a row of values that was built value by value
pub built : (e o t u w rest all : List Val) (a b c x y z : Val) → e ≡ [] → o ≡ e ++ a ∷ [] → t ≡ o ++ b ∷ [] → u ≡ t ++ c ∷ [] → w ≡ u ++ rest
    → a ≡ x → b ≡ y → c ≡ z → rest ≡ all → w ≡ x ∷ y ∷ z ∷ all
built e o t u w rest all a b c x y z none one two three four first second third last =
    let made : w ≡ a ∷ b ∷ c ∷ rest = four ∙ ap (λ l. l ++ rest) (three ∙ ap (λ l. l ++ c ∷ []) (two ∙ ap (λ l. l ++ b ∷ []) (one ∙ ap (λ l. l ++ a ∷ []) none))) in
    made ∙ ap (λ v. v ∷ b ∷ c ∷ rest) first ∙ ap (λ v. x ∷ v ∷ c ∷ rest) second ∙ ap (λ v. x ∷ y ∷ v ∷ rest) third ∙ ap (λ l. x ∷ y ∷ z ∷ l) last

-- the first that passes, after one more is appended
position_push : {X : Type 0} (p : X → Bool) (xs : List X) (y : X) → (p y ≡ true → position p xs ≡ None)
    → position p (xs ++ y ∷ []) ≡ cond (p y) (Some (length xs)) (position p xs)
position_push p xs y new = position_from-zero p (xs ++ y ∷ []) ∙ more 0 xs ∙ by (p y) refl
  where
    at_last : (o : Option ℕ) (n : ℕ) → o ≡ None → option_or o (Some n) ≡ Some n
    at_last None n is = refl
    at_last (Some m) n is = absurd (cc)

    nothing : (o : Option ℕ) → option_or o None ≡ o
    nothing None = refl
    nothing (Some m) = refl

    more : (i : ℕ) (zs : List _) → position_from p i (zs ++ y ∷ []) ≡ option_or (position_from p i zs) (cond (p y) (Some (i + length zs)) None)
    more i [] = let e : i ≡ i + 0 = omega arith in ap (λ n. cond (p y) (Some n) None) e
    more i (z ∷ zs) = let e : i + 1 + length zs ≡ i + length (z ∷ zs) = omega arith in
        ap (λ o. cond (p z) (Some i) o) (more (i + 1) zs ∙ ap (λ n. option_or (position_from p (i + 1) zs) (cond (p y) (Some n) None)) e)
        ∙ first (p z) (position_from p (i + 1) zs) (cond (p y) (Some (i + length (z ∷ zs))) None)
      where
        first : (t : Bool) (o r : Option ℕ) → cond t (Some i) (option_or o r) ≡ option_or (cond t (Some i) o) r
        first true o r = refl
        first false o r = refl

    by : (t : Bool) → p y ≡ t → option_or (position_from p 0 xs) (cond t (Some (0 + length xs)) None) ≡ cond t (Some (length xs)) (position p xs)
    by true is = let e : 0 + length xs ≡ length xs = omega arith in
        at_last (position_from p 0 xs) (0 + length xs) (sym (position_from-zero p xs) ∙ new is) ∙ ap Some e
    by false is = nothing (position_from p 0 xs) ∙ sym (position_from-zero p xs)

-- the first whose image passes a test is the first that passes the other test
pub position_map : {X Y : Type 0} (p : Y → Bool) (f : X → Y) (q : X → Bool) (xs : List X) (d : X) → ((k : ℕ) → k < length xs → p (f (get_or xs k d)) ≡ q (get_or xs k d))
    → position p (map f xs) ≡ position q xs
position_map p f q xs d same = position_from-zero p (map f xs) ∙ by 0 xs same ∙ sym (position_from-zero q xs)
  where
    by : (i : ℕ) (zs : List _) → ((k : ℕ) → k < length zs → p (f (get_or zs k d)) ≡ q (get_or zs k d)) → position_from p i (map f zs) ≡ position_from q i zs
    by i [] same = refl
    by i (z ∷ zs) same =
        ap (λ t. cond t (Some i) (position_from p (i + 1) (map f zs))) (same 0 (omega arith))
        ∙ ap (λ o. cond (q z) (Some i) o) (by (i + 1) zs (λ k low. same (suc k) (omega (arith, low))))

-- a hash before a row doesn't change whether two names are the same
hash_first : (o p : Ordering) → (is_eq p ≡ true → o ≡ Equal) → is_eq (ordering_then o p) ≡ is_eq p
hash_first Equal p same = refl
hash_first Less p same = sym (missed (is_eq p) (λ hit. let e : Less ≡ Equal = same hit in absurd (cc)))
hash_first Greater p same = sym (missed (is_eq p) (λ hit. let e : Greater ≡ Equal = same hit in absurd (cc)))

nat_own : (n : ℕ) → nat_cmp n n ≡ Equal
nat_own n = grind (arith, nat_tests)

-- whether a query is at a name depends on the rows alone
at_name : (key name : Name) (row : List Val) → IsHashed key → IsHashed name → map val key.1.items ≡ row → is_at (name_cmp key) name ≡ is_name name row
at_name key name row own other is =
    let rows : is_eq (slice_cmp (on val place) key.1.items name.1.items) ≡ is_eq (slice_cmp place (map val key.1.items) (map val name.1.items)) =
    ap is_eq (sym (lex_map val place key.1.items name.1.items)) in
    hash_first (nat_cmp key.0 name.0) (slice_cmp (on val place) key.1.items name.1.items) (λ hit.
    let same : key.0 ≡ name.0 = own ∙ ap row_hash (held (map val key.1.items) (map val name.1.items) (sym rows ∙ hit)) ∙ sym other in
    ap (nat_cmp key.0) (sym same) ∙ nat_own key.0)
    ∙ rows ∙ ap (λ r. is_eq (slice_cmp place r (map val name.1.items))) is

-- no names
pub sorted_none : (tree : Names) → IsEmpty tree → AreSorted [] (Some tree)
sorted_none tree empty = λ name own. ap (lookup (is_at (name_cmp name))) empty

-- one more name, which is new
pub sorted_push : (names : List (List Val)) (row : List Val) (n : ℕ) (key : Name) (old new : Names)
    → ((k : ℕ) → k < length names → get_or names k [] ≡ row → ⊥) → n ≡ length names → IsHashed key → map val key.1.items ≡ row
    → AreSorted names (Some old) → Updates name_cmp old new key (Some n) → AreSorted (names ++ row ∷ []) (Some new)
sorted_push names row n key old new fresh at hashed is sorted updates = λ name own.
    updates.0 name ∙ ap (λ t. cond t (Some n) (get name_cmp old name)) (at_name key name row hashed own is)
    ∙ ap (λ o. cond (is_name name row) (Some n) o) (sorted name own)
    ∙ ap (λ m. cond (is_name name row) (Some m) (position (is_name name) names)) at
    ∙ sym (position_push (is_name name) names row (λ hit.
    seek_none (is_name name) [] names (λ k low. missed (is_name name (get_or names k [])) (λ other.
    fresh k low (held (get_or names k []) (map val name.1.items) other ∙ sym (held row (map val name.1.items) hit))))))

-- one more of the rows that exist
pub sorted_next : (names : List (List Val)) (n : ℕ) (key : Name) (old new : Names)
    → ((i j : ℕ) → i < j → j < length names → get_or names i [] ≡ get_or names j [] → ⊥) → n < length names → IsHashed key → map val key.1.items ≡ get_or names n []
    → AreSorted (take n names) (Some old) → Updates name_cmp old new key (Some n) → AreSorted (take (n + 1) names) (Some new)
sorted_next names n key old new apart low hashed is sorted updates =
    let count : length (take n names) ≡ n = length-take-le n names (omega (arith, low)) in
    subst (λ l. AreSorted l (Some new)) (sym (take_more names n [] low))
    (sorted_push (take n names) (get_or names n []) n key old new
    (λ k under same. let before : k < n = omega (arith, under, count) in apart k n before low (sym (get_or-take n names k [] before) ∙ same)) (sym count) hashed is sorted updates)

-- the naming of a type is the first one of that type
pub find_first : (p : Naming → Bool) (xs : List Naming) (i : ℕ) (d : Naming) → i < length xs → find p (take i xs) ≡ None → p (get_or xs i d) ≡ true
    → find p xs ≡ Some (get_or xs i d)
find_first p [] i d low none is = absurd (omega arith)
find_first p (x ∷ xs) zero d low none is = ap (λ t. cond t (Some x) (find p xs)) is
find_first p (x ∷ xs) (suc i) d low none is =
    let first = head_missed (p x) (find p (take i xs)) none in
    ap (λ t. cond t (Some x) (find p xs)) first.0 ∙ find_first p xs i d (omega (arith, low)) first.1 is
  where
    head_missed : (t : Bool) (r : Option Naming) → cond t (Some x) r ≡ None → (t ≡ false) × (r ≡ None)
    head_missed true r is = absurd (cc)
    head_missed false r is = (refl, is)
