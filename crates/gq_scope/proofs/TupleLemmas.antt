-- Tuple types among the names: their places, and cutting of names.
use Rattle.std.proofs.Common.{ℕ, zero, suc, ◌+◌, ◌-◌, ◌<◌, ◌≤◌, ◌≡◌, Bool, true, false, cond, List, [], ◌∷◌, ◌++◌, length, get_or, take, drop, map, Option, Some, None, refl, ap, sym, ◌∙◌, subst, arith, below_more}
use Rattle.std.specs.Str.{bytes_eq}
use Rattle.std.specs.Option.{option_map, is_some}
use Rattle.std.specs.List.{slice_get, cons_option, position, position_or_len}
use Rattle.std.proofs.lemmas.Option.{slice_get-get_or, slice_get_past}
use Rattle.std.proofs.lemmas.List.Sums.{position_or_len_is}
use Rattle.std.proofs.Math.Seq.{take-append_seam, take-length}
use Rattle.std.proofs.lemmas.Bool.{lt-ltb}
use Rattle.std.proofs.Math.Dec.{ltb}
use Rattle.gq_base.proofs.Seeks.{seek_none}
use Rattle.std.proofs.lemmas.List.{take_more, get_or_default, length-take-le, length-append, length-drop}
use Rattle.std.proofs.lemmas.List.Elements.{filter_map-append}
use Rattle.gq_value.specs.declared.kind.BaseType.{BaseType}
use Rattle.gq_rules_typing.specs.Statements.{Bytes}
use Rattle.gq_scope.specs.declared.entry.Entry.{Entry}
use Rattle.gq_scope.specs.Kept.{nothing, name_at, noted, tuple_in, is_tuple, named_tuple, tuple_types, tuple_places}

-- ---- one name more

noted_push : (o : Option (List (Bytes × BaseType))) (n : ℕ) (ns ms : List ℕ) → noted o n (ns ++ ms) ≡ noted o n ns ++ ms
noted_push None n ns ms = refl
noted_push (Some a) n ns ms = refl

pub places_push : (n : ℕ) (xs : List (Bytes × Entry)) (e : Bytes × Entry) → tuple_places n (xs ++ e ∷ []) ≡ tuple_places n xs ++ noted (tuple_in e.1) (n + length xs) []
places_push n [] e = ap (λ m. noted (tuple_in e.1) m []) (let same : n ≡ n + 0 = omega arith in same)
places_push n (x ∷ xs) e =
    ap (noted (tuple_in x.1) n) (places_push (suc n) xs e ∙ ap (λ m. tuple_places (suc n) xs ++ noted (tuple_in e.1) m []) (let same : suc n + length xs ≡ n + suc (length xs) = omega arith in same))
    ∙ noted_push (tuple_in x.1) n (tuple_places (suc n) xs) (noted (tuple_in e.1) (n + suc (length xs)) [])

-- ---- their number

count_step : (o : Option (List (Bytes × BaseType))) (name : Bytes) (n : ℕ) (ns : List ℕ) (ts : List (Bytes × List (Bytes × BaseType)))
    → length ns ≡ length ts → length (noted o n ns) ≡ length (cons_option (option_map (λ fields. (name, fields)) o) ts)
count_step None name n ns ts is = is
count_step (Some a) name n ns ts is = ap suc is

pub places_count : (n : ℕ) (xs : List (Bytes × Entry)) → length (tuple_places n xs) ≡ length (tuple_types xs)
places_count n [] = refl
places_count n (x ∷ xs) = count_step (tuple_in x.1) x.0 n (tuple_places (suc n) xs) (tuple_types xs) (places_count (suc n) xs)

pub types_few : (xs : List (Bytes × Entry)) → length (tuple_types xs) ≤ length xs
types_few [] = omega arith
types_few (x ∷ xs) = step (named_tuple x) (types_few xs)
  where
    step : (o : Option (Bytes × List (Bytes × BaseType))) → length (tuple_types xs) ≤ length xs → length (cons_option o (tuple_types xs)) ≤ suc (length xs)
    step None few = omega arith
    step (Some a) few = omega arith

one_count : (name : Bytes) (o : Option (List (Bytes × BaseType))) → List (Bytes × List (Bytes × BaseType))
one_count name o = cons_option (option_map (λ fields. (name, fields)) o) []

one_counted : (name : Bytes) (o : Option (List (Bytes × BaseType))) → length (one_count name o) ≡ cond (is_some o) 1 0
unfolding one_count
one_counted name None = refl
one_counted name (Some a) = refl

-- the count after one more name
pub counted : (xs : List (Bytes × Entry)) (i : ℕ) (row : Bytes × Entry) (b : Bool) → i < length xs → row ≡ get_or xs i row → b ≡ is_tuple row.1
    → length (tuple_types (take (i + 1) xs)) ≡ length (tuple_types (take i xs)) + cond b 1 0
unfolding one_count
counted xs i row b low read is =
    ap (λ (l : List (Bytes × Entry)). length (tuple_types l)) (take_more xs i row low)
    ∙ ap (λ (r : Bytes × Entry). length (tuple_types (take i xs ++ r ∷ []))) (sym read)
    ∙ ap length (filter_map-append named_tuple (take i xs) (row ∷ []))
    ∙ length-append (tuple_types (take i xs)) (tuple_types (row ∷ []))
    ∙ ap (λ n. length (tuple_types (take i xs)) + n) (one_counted row.0 (tuple_in row.1) ∙ ap (λ c. cond c 1 0) (sym is))

pub count_fits : (xs : List (Bytes × Entry)) (i n : ℕ) → i < length xs → n ≡ length (tuple_types (take i xs)) → n ≤ i
count_fits xs i n low is = let short : length (take i xs) ≡ i = length-take-le i xs (omega arith) in omega (arith, types_few (take i xs))

-- ---- cutting of names

places_split : (n k : ℕ) (xs : List (Bytes × Entry)) → tuple_places n xs ≡ tuple_places n (take k xs) ++ tuple_places (n + k) (drop k xs)
places_split n k [] = step k
  where
    step : (j : ℕ) → [] ≡ tuple_places n (take j []) ++ tuple_places (n + j) (drop j [])
    step zero = refl
    step (suc j) = refl
places_split n zero (x ∷ xs) = ap (λ m. tuple_places m (x ∷ xs)) (let same : n ≡ n + 0 = omega arith in same)
places_split n (suc k) (x ∷ xs) =
    ap (noted (tuple_in x.1) n) (places_split (suc n) k xs ∙ ap (λ m. tuple_places (suc n) (take k xs) ++ tuple_places m (drop k xs)) (let same : suc n + k ≡ n + suc k = omega arith in same))
    ∙ noted_push (tuple_in x.1) n (tuple_places (suc n) (take k xs)) (tuple_places (n + suc k) (drop k xs))

-- the places that remain
pub places_cut : (k kept : ℕ) (xs : List (Bytes × Entry)) (tuples : List ℕ) → tuples ≡ tuple_places 0 xs
    → kept ≡ length tuples - length (tuple_types (drop k xs)) → take kept tuples ≡ tuple_places 0 (take k xs)
places_cut k kept xs tuples are count =
    let front = tuple_places 0 (take k xs) in
    let back = tuple_places (0 + k) (drop k xs) in
    let both : tuples ≡ front ++ back = are ∙ places_split 0 k xs in
    let gone : length back ≡ length (tuple_types (drop k xs)) = places_count (0 + k) (drop k xs) in
    let all : length tuples ≡ length front + length back = ap length both ∙ length-append front back in
    let this : kept ≡ length front = omega (arith, count, gone, all) in
    ap (λ n. take n tuples) this ∙ ap (take (length front)) both ∙ take-append_seam front back

-- no more places are removed than there were
pub places_gone : (k : ℕ) (xs : List (Bytes × Entry)) (tuples : List ℕ) → tuples ≡ tuple_places 0 xs → length (tuple_types (drop k xs)) ≤ length tuples
places_gone k xs tuples are =
    let front = tuple_places 0 (take k xs) in
    let back = tuple_places (0 + k) (drop k xs) in
    let all : length tuples ≡ length front + length back = ap length (are ∙ places_split 0 k xs) ∙ length-append front back in
    omega (arith, all, places_count (0 + k) (drop k xs))

-- ---- by number

-- the tuple type whose name is at a place
abbrev pub IsTupleAt : ℕ → List (Bytes × Entry) → ℕ → Option (Bytes × List (Bytes × BaseType)) → Type 0
IsTupleAt n xs p t = (n ≤ p) × (p < n + length xs) × (t ≡ named_tuple (name_at xs (p - n)))

step_at : (o : Option (List (Bytes × BaseType))) (n i : ℕ) (x : Bytes × Entry) (xs : List (Bytes × Entry)) → tuple_in x.1 ≡ o
    → ((j : ℕ) → j < length (tuple_places (suc n) xs) → IsTupleAt (suc n) xs (get_or (tuple_places (suc n) xs) j 0) (slice_get (tuple_types xs) j))
    → i < length (noted o n (tuple_places (suc n) xs))
    → IsTupleAt n (x ∷ xs) (get_or (noted o n (tuple_places (suc n) xs)) i 0) (slice_get (cons_option (option_map (λ fields. (x.0, fields)) o) (tuple_types xs)) i)
step_at None n i x xs is rest low =
    let p = get_or (tuple_places (suc n) xs) i 0 in
    let there = rest i low in
    let same : p - n ≡ suc (p - suc n) = omega (arith, there.0) in
    (omega (arith, there.0), omega (arith, there.1), there.2 ∙ ap (λ m. named_tuple (name_at (x ∷ xs) m)) (sym same))
step_at (Some a) n zero x xs is rest low = (
  omega arith,
  omega arith,
  ap (option_map (λ fields. (x.0, fields))) (sym is) ∙ ap (λ m. named_tuple (name_at (x ∷ xs) m)) (let same : 0 ≡ n - n = omega arith in same),
)
step_at (Some a) n (suc i) x xs is rest low =
    let p = get_or (tuple_places (suc n) xs) i 0 in
    let there = rest i (omega arith) in
    let same : p - n ≡ suc (p - suc n) = omega (arith, there.0) in
    (omega (arith, there.0), omega (arith, there.1), there.2 ∙ ap (λ m. named_tuple (name_at (x ∷ xs) m)) (sym same))

tuple_stands : (n : ℕ) (xs : List (Bytes × Entry)) (i : ℕ) → i < length (tuple_places n xs) → IsTupleAt n xs (get_or (tuple_places n xs) i 0) (slice_get (tuple_types xs) i)
tuple_stands n [] i low = absurd (omega arith)
tuple_stands n (x ∷ xs) i low = step_at (tuple_in x.1) n i x xs refl (tuple_stands (suc n) xs) low

stands : (xs : List (Bytes × Entry)) (tuples : List ℕ) (i : ℕ) → tuples ≡ tuple_places 0 xs → i < length tuples → IsTupleAt 0 xs (get_or tuples i 0) (slice_get (tuple_types xs) i)
stands xs tuples i are low = subst (λ l. IsTupleAt 0 xs (get_or l i 0) (slice_get (tuple_types xs) i)) (sym are) (tuple_stands 0 xs i (subst (λ (l : List ℕ). i < length l) are low))

pub place_low : (xs : List (Bytes × Entry)) (tuples : List ℕ) (i : ℕ) → tuples ≡ tuple_places 0 xs → i < length tuples → get_or tuples i 0 < length xs
place_low xs tuples i are low = omega (arith, (stands xs tuples i are low).1)

-- the entry at the place of the tuple type with a number
at_place : (xs : List (Bytes × Entry)) (tuples : List ℕ) (i : ℕ) (row : Bytes × Entry) → tuples ≡ tuple_places 0 xs → i < length tuples
    → slice_get (tuple_types xs) i ≡ named_tuple (get_or xs (get_or tuples i 0) row)
at_place xs tuples i row are low =
    let there = stands xs tuples i are low in
    let same : get_or tuples i 0 - 0 ≡ get_or tuples i 0 = omega arith in
    there.2 ∙ ap (λ m. named_tuple (name_at xs m)) same ∙ ap named_tuple (get_or_default xs (get_or tuples i 0) nothing row (place_low xs tuples i are low))

pub tuple_fields : (xs : List (Bytes × Entry)) (tuples : List ℕ) (i : ℕ) (row : Bytes × Entry) → tuples ≡ tuple_places 0 xs → i < length tuples
    → tuple_in (get_or xs (get_or tuples i 0) row).1 ≡ option_map (λ t. t.1) (slice_get (tuple_types xs) i)
tuple_fields xs tuples i row are low =
    fields (get_or xs (get_or tuples i 0) row).0 (tuple_in (get_or xs (get_or tuples i 0) row).1) ∙ ap (option_map (λ t. t.1)) (sym (at_place xs tuples i row are low))
  where
    fields : (name : Bytes) (o : Option (List (Bytes × BaseType))) → o ≡ option_map (λ (t : Bytes × List (Bytes × BaseType)). t.1) (option_map (λ fs. (name, fs)) o)
    fields name None = refl
    fields name (Some a) = refl

pub no_tuple : (xs : List (Bytes × Entry)) (tuples : List ℕ) (i : ℕ) → tuples ≡ tuple_places 0 xs → length tuples ≤ i → None ≡ option_map (λ t. t.1) (slice_get (tuple_types xs) i)
no_tuple xs tuples i are over =
    ap (option_map (λ t. t.1)) (sym (slice_get_past (tuple_types xs) i (omega (arith, over, ap length are, places_count 0 xs))))

-- ---- by name

-- none of the first i tuple types has the name
abbrev pub Misses : List (Bytes × Entry) → Bytes → ℕ → Type 0
Misses xs name n = (k : ℕ) → k < n → bytes_eq (get_or (tuple_types xs) k ([], [])).0 name ≡ false

same_name : (name : Bytes) (o : Option (List (Bytes × BaseType))) (t : Bytes × List (Bytes × BaseType)) → Some t ≡ option_map (λ fs. (name, fs)) o → t.0 ≡ name
same_name name None t e = absurd (cc)
same_name name (Some a) t e = ap (λ (s : Bytes × List (Bytes × BaseType)). s.0) (let inner : t ≡ (name, a) = cc in inner)

-- the name of the tuple type with a number, by what was read at its place
named_at : (xs : List (Bytes × Entry)) (tuples : List ℕ) (i : ℕ) (row : Bytes × Entry) → tuples ≡ tuple_places 0 xs → i < length tuples
    → (get_or (tuple_types xs) i ([], [])).0 ≡ (get_or xs (get_or tuples i 0) row).0
named_at xs tuples i row are low =
    let short : i < length (tuple_types xs) = omega (arith, low, ap length are, places_count 0 xs) in
    let at = get_or xs (get_or tuples i 0) row in
    same_name at.0 (tuple_in at.1) (get_or (tuple_types xs) i ([], [])) (sym (slice_get-get_or (tuple_types xs) i ([], []) short) ∙ at_place xs tuples i row are low)

pub misses_more : (xs : List (Bytes × Entry)) (tuples : List ℕ) (name : Bytes) (i : ℕ) (row : Bytes × Entry) (t : Bool) → tuples ≡ tuple_places 0 xs → i < length tuples
    → t ≡ bytes_eq (get_or xs (get_or tuples i 0) row).0 name → t ≡ false → Misses xs name i → Misses xs name (i + 1)
misses_more xs tuples name i row t are low test miss before =
    below_more _ _ before (ap (λ n. bytes_eq n name) (named_at xs tuples i row are low) ∙ sym test ∙ miss)

pub tuple_found : (xs : List (Bytes × Entry)) (tuples : List ℕ) (name : Bytes) (i : ℕ) (row : Bytes × Entry) (t : Bool) → tuples ≡ tuple_places 0 xs → i < length tuples
    → t ≡ bytes_eq (get_or xs (get_or tuples i 0) row).0 name → t ≡ true → Misses xs name i → Some i ≡ position (λ t. bytes_eq t.0 name) (tuple_types xs)
tuple_found xs tuples name i row t are low test hit before =
    let short : i < length (tuple_types xs) = omega (arith, low, ap length are, places_count 0 xs) in
    let at : position_or_len (λ t. bytes_eq t.0 name) (tuple_types xs) ≡ i =
    position_or_len_is (λ t. bytes_eq t.0 name) (tuple_types xs) i ([], []) (omega arith) before
    (λ _. ap (λ n. bytes_eq n name) (named_at xs tuples i row are low) ∙ sym test ∙ hit)
    in
    sym (ap (λ m. cond (ltb m (length (tuple_types xs))) (Some m) None) at ∙ ap (λ b. cond b (Some i) None) (lt-ltb i (length (tuple_types xs)) short))

pub tuple_missing : (xs : List (Bytes × Entry)) (tuples : List ℕ) (name : Bytes) (n : ℕ) → tuples ≡ tuple_places 0 xs → length tuples ≤ n
    → Misses xs name n → None ≡ position (λ t. bytes_eq t.0 name) (tuple_types xs)
tuple_missing xs tuples name n are all before =
    sym (seek_none (λ t. bytes_eq t.0 name) ([], []) (tuple_types xs) (λ k low. before k (omega (arith, low, all, ap length are, places_count 0 xs))))

-- there are no more tuple types than names
pub tuples_few : (xs : List (Bytes × Entry)) (tuples : List ℕ) → tuples ≡ tuple_places 0 xs → length tuples ≤ length xs
tuples_few xs tuples are = omega (arith, ap length are, places_count 0 xs, types_few xs)

-- the n-th, with its fields as the rules of typing have them
pub typed_at : {A B : Type 0} (f : A → B) (ts : List (Bytes × A)) (n : ℕ)
    → option_map f (option_map (λ (t : Bytes × A). t.1) (slice_get ts n)) ≡ option_map (λ (t : Bytes × B). t.1) (slice_get (map {A = Bytes × A} {B = Bytes × B} (λ t. (t.0, f t.1)) ts) n)
typed_at f [] n = refl
typed_at f (t ∷ ts) zero = refl
typed_at f (t ∷ ts) (suc n) = typed_at f ts n

-- how many tuple types there are from a place on
pub gone_count : (k count : ℕ) (xs ys : List (Bytes × Entry)) → ys ≡ xs → count ≡ length (tuple_types (take (length ys - k) (drop k ys))) → count ≡ length (tuple_types (drop k xs))
gone_count k count xs ys same is =
    is ∙ ap (λ (l : List (Bytes × Entry)). length (tuple_types (take (length l - k) (drop k l)))) same
    ∙ ap (λ (l : List (Bytes × Entry)). length (tuple_types l)) (ap (λ n. take n (drop k xs)) (sym (length-drop k xs)) ∙ take-length (drop k xs))
