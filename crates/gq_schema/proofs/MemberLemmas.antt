-- Marks of members, and the list of the numbers that are marked.
use Rattle.std.proofs.Common.{inl, inr, ℕ, zero, suc, ◌+◌, ◌<◌, ◌≡◌, ◌≢◌, ◌⊎◌, ◌==◌, ◌||◌, Bool, true, false, cond, List, [], ◌∷◌, ◌++◌, length, get_or, set, take, map, filter, Option, Some, None, refl, ap, sym, ◌∙◌, arith, eq-eqb, length-set, replicate, drop, drop-cons, add-one, not, ◌≤◌, ◌&&◌, is_some}
use Rattle.std.specs.Option.{option_map_or}
use Rattle.std.specs.List.{find}
use Rattle.std.proofs.lemmas.Bool.{cases_lt}
use Rattle.std.proofs.Math.ListN.{get_or-eq_default}
use Rattle.std.specs.Str.{bytes_eq}
use Rattle.std.specs.List.{range_with_len, list_any}
use Rattle.std.proofs.lemmas.Bool.{ne_eqb}
use Rattle.std.proofs.lemmas.Bool.Decides.{eqb_tells}
use Rattle.std.proofs.lemmas.List.{length-map, ext_get_or, get_or-set_same, get_or-set_other}
use Rattle.std.proofs.lemmas.List.Elements.{filter-append}
use Rattle.std.proofs.lemmas.List.Folds.{list_any_more}
use Rattle.std.proofs.lemmas.List.FromFn.{length-range_with_len, get_or-map-range_with_len, get_or-range_with_len}
use Rattle.std.proofs.lemmas.List.Quantifiers.{position-Some}
use Rattle.gq_graph.specs.Catalog.{Schema, name_place, vertex_names, edge_names, vertex_type_of, edge_type_of}
use Rattle.gq_graph.specs.declared.types.VertexType.{VertexType}
use Rattle.gq_graph.specs.declared.types.EdgeType.{EdgeType}
use Rattle.gq_schema.specs.Members.{below, is_number, is_listed, marked_by, edge_type_at, has_vertex, names_edge, has_edge, has_ends, fits, misfit, vertex_marks, edge_marks, is_marked, is_pair_marked, has_ends_marked, fits_marked, has_edge_marked}

range_more : (a n : ℕ) → range_with_len a (n + 1) ≡ range_with_len a n ++ (a + n) ∷ []
range_more a zero = ap (λ k. k ∷ []) (let e : a ≡ a + 0 = omega arith in e)
range_more a (suc n) =
    let e : suc n + 1 ≡ suc (n + 1) = omega arith in let f : suc a + n ≡ a + suc n = omega arith in
    let g : range_with_len a (suc (n + 1)) ≡ a ∷ range_with_len (suc a) (n + 1) = unroll a (n + 1) in
    ap (range_with_len a) e ∙ g ∙ ap (λ l. a ∷ l) (range_more (suc a) n) ∙ ap (λ k. a ∷ (range_with_len (suc a) n ++ k ∷ [])) f
    ∙ ap (λ l. l ++ (a + suc n) ∷ []) (sym (unroll a n))
  where
    unroll : (a n : ℕ) → range_with_len a (suc n) ≡ a ∷ range_with_len (suc a) n
    unroll a n = ap (λ k. a ∷ range_with_len k n) (let e : a + 1 ≡ suc a = omega arith in e)

pub below_more : (n : ℕ) → below (n + 1) ≡ below n ++ n ∷ []
below_more n = range_more 0 n ∙ ap (λ k. below n ++ k ∷ []) (let e : 0 + n ≡ n = omega arith in e)

pub chosen_more : (p : ℕ → Bool) (n : ℕ) → filter p (below (n + 1)) ≡ filter p (below n) ++ cond (p n) (n ∷ []) []
chosen_more p n = ap (filter p) (below_more n) ∙ filter-append p (below n) (n ∷ [])

-- the place of a name is below the number of names
pub place_low : (names : List (List ℕ)) (name : List ℕ) (k : ℕ) → name_place names name ≡ Some k → k < length names
place_low names name k is = (position-Some (bytes_eq name) names k [] is).0

or_false : (b : Bool) → (b || false) ≡ b
or_false true = refl
or_false false = refl

or_true : (b : Bool) → (b || true) ≡ true
or_true true = refl
or_true false = refl

mark_at : (f : ℕ → Bool) (n j : ℕ) → j < n → get_or (map f (below n)) j false ≡ f j
mark_at f n j low = get_or-map-range_with_len f 0 n j j false low (omega arith)

pub marks_long : (f : ℕ → Bool) (n : ℕ) → length (map f (below n)) ≡ n
marks_long f n = length-map (below n) f ∙ length-range_with_len 0 n

-- one more member that is among the names: its mark is set
pub marked : (names members : List (List ℕ)) (member : List ℕ) (i k : ℕ) (marks : List Bool) → i < length members → member ≡ get_or members i member
    → name_place names member ≡ Some k → marks ≡ map (is_listed names (take i members)) (below (length names))
    → set marks k true ≡ map (is_listed names (take (i + 1) members)) (below (length names))
marked names members member i k marks low read place are =
    let n = length names in let old = is_listed names (take i members) in let new = is_listed names (take (i + 1) members) in
    let long : length marks ≡ n = ap length are ∙ marks_long old n in
    let step : (j : ℕ) → new j ≡ (old j || (k == j)) = λ j.
    list_any_more (λ m. is_number (name_place names m) j) members i member low
    ∙ ap (λ m. old j || is_number (name_place names m) j) (sym read) ∙ ap (λ o. old j || is_number o j) place in
    ext_get_or false (set marks k true) (map new (below n)) (length-set marks k true ∙ long ∙ sym (marks_long new n)) (λ j under.
    let short : j < n = omega (arith, length-set marks k true, long) in
    elim (eqb_tells k j) [
      | inl h ↦
          ap (λ x. get_or (set marks k true) x false) (sym h.1) ∙ get_or-set_same marks k true false (omega (arith, long, h.1))
          ∙ sym (mark_at new n j short ∙ step j ∙ ap (λ b. old j || b) h.0 ∙ or_true (old j))
      | inr h ↦
          get_or-set_other marks k j true false (λ is. h.1 (sym is)) ∙ ap (λ l. get_or l j false) are ∙ mark_at old n j short
          ∙ sym (mark_at new n j short ∙ step j ∙ ap (λ b. old j || b) h.0 ∙ or_false (old j))
    ])

-- one more member that isn't among the names: the marks stay
pub unmarked : (names members : List (List ℕ)) (member : List ℕ) (i : ℕ) (marks : List Bool) → i < length members → member ≡ get_or members i member
    → name_place names member ≡ None → marks ≡ map (is_listed names (take i members)) (below (length names))
    → marks ≡ map (is_listed names (take (i + 1) members)) (below (length names))
unmarked names members member i marks low read place are =
    let n = length names in let old = is_listed names (take i members) in let new = is_listed names (take (i + 1) members) in
    are ∙ map_agree old new (below n) (λ j.
    sym (list_any_more (λ m. is_number (name_place names m) j) members i member low
    ∙ ap (λ m. old j || is_number (name_place names m) j) (sym read) ∙ ap (λ o. old j || is_number o j) place ∙ or_false (old j)))
  where
    map_agree : (f g : ℕ → Bool) (xs : List ℕ) → ((k : ℕ) → f k ≡ g k) → map f xs ≡ map g xs
    map_agree f g [] same = refl
    map_agree f g (x ∷ xs) same = ap (λ b. b ∷ map f xs) (same x) ∙ ap (λ l. g x ∷ l) (map_agree f g xs same)

-- without members no mark is set
pub none_listed : (names : List (List ℕ)) (xs : List ℕ) → map (is_listed names []) xs ≡ replicate (length xs) false
none_listed names [] = refl
none_listed names (x ∷ xs) = ap (λ l. false ∷ l) (none_listed names xs)

-- one more member, whether it is among the names or not
pub marked_on : (names members : List (List ℕ)) (member : List ℕ) (i : ℕ) (marks after : List Bool) → i < length members → member ≡ get_or members i member
    → after ≡ marked_by marks (name_place names member) → marks ≡ map (is_listed names (take i members)) (below (length names))
    → after ≡ map (is_listed names (take (i + 1) members)) (below (length names))
marked_on names members member i marks after low read is are = is ∙ by (name_place names member) refl
  where
    by : (o : Option ℕ) → name_place names member ≡ o → marked_by marks o ≡ map (is_listed names (take (i + 1) members)) (below (length names))
    by None place = unmarked names members member i marks low read place are
    by (Some k) place = marked names members member i k marks low read place are

-- a mark says whether a name is a member; past the end of the marks there are no members
none_of : (names members : List (List ℕ)) (j : ℕ) → length names ≤ j → is_listed names members j ≡ false
none_of names [] j past = refl
none_of names (m ∷ members) j past = ap (λ b. b || is_listed names members j) (here (name_place names m) refl) ∙ none_of names members j past
  where
    here : (o : Option ℕ) → name_place names m ≡ o → is_number o j ≡ false
    here None is = refl
    here (Some k) is = ne_eqb k j (λ same. let low = place_low names m k is in absurd (omega (arith, same, low)))

pub mark_is : (names members : List (List ℕ)) (j : ℕ) → is_marked (map (is_listed names members) (below (length names))) j ≡ is_listed names members j
mark_is names members j = elim (cases_lt j (length names)) [
  | inl low ↦ mark_at (is_listed names members) (length names) j low
  | inr past ↦
      get_or-eq_default (map (is_listed names members) (below (length names))) false (omega (arith, marks_long (is_listed names members) (length names)))
      ∙ sym (none_of names members j past)
]

ends_same : (schema : Schema) (members : List (List ℕ)) (k : ℕ) → has_ends_marked schema (vertex_marks schema members) k ≡ has_ends schema members k
ends_same schema members k =
    ap (λ b. b && is_marked (vertex_marks schema members) (edge_type_at schema k).to) (mark_is (vertex_names schema.vertex_types) members (edge_type_at schema k).from)
    ∙ ap (λ b. has_vertex schema members (edge_type_at schema k).from && b) (mark_is (vertex_names schema.vertex_types) members (edge_type_at schema k).to)

pub fits_same : (schema : Schema) (members : List (List ℕ)) (member : List ℕ) → fits_marked schema (vertex_marks schema members) member ≡ fits schema members member
fits_same schema members member = ap (λ b. is_some (vertex_type_of schema member) || b) (by (edge_type_of schema member))
  where
    by : (o : Option ℕ) → option_map_or (has_ends_marked schema (vertex_marks schema members)) o false ≡ option_map_or (has_ends schema members) o false
    by None = refl
    by (Some k) = ends_same schema members k

pair_same : (schema : Schema) (members : List (List ℕ)) (o : Option ℕ) → is_pair_marked (edge_marks schema members) o ≡ option_map_or (names_edge schema members) o false
pair_same schema members None = refl
pair_same schema members (Some k) = mark_is (edge_names schema.edge_types) members k

edge_same : (schema : Schema) (members : List (List ℕ)) (k : ℕ) → has_edge_marked schema (edge_marks schema members) k ≡ has_edge schema members k
edge_same schema members k =
    ap (λ b. b || (is_pair_marked (edge_marks schema members) (edge_type_at schema k).forward || is_pair_marked (edge_marks schema members) (edge_type_at schema k).reverse))
    (mark_is (edge_names schema.edge_types) members k)
    ∙ ap (λ b. names_edge schema members k || (b || is_pair_marked (edge_marks schema members) (edge_type_at schema k).reverse)) (pair_same schema members (edge_type_at schema k).forward)
    ∙ ap (λ b. names_edge schema members k || (option_map_or (names_edge schema members) (edge_type_at schema k).forward false || b)) (pair_same schema members (edge_type_at schema k).reverse)

filter_agree : (p q : ℕ → Bool) (xs : List ℕ) → ((k : ℕ) → p k ≡ q k) → filter p xs ≡ filter q xs
filter_agree p q [] same = refl
filter_agree p q (x ∷ xs) same = ap (λ b. cond b (x ∷ filter p xs) (filter p xs)) (same x) ∙ ap (λ l. cond (q x) (x ∷ l) l) (filter_agree p q xs same)

pub vertices_same : (schema : Schema) (members : List (List ℕ)) (marks : List Bool) → marks ≡ vertex_marks schema members
    → filter (is_marked marks) (below (length marks)) ≡ filter (has_vertex schema members) (below (length schema.vertex_types))
vertices_same schema members marks are =
    ap (λ l. filter (is_marked l) (below (length l))) are
    ∙ ap (λ n. filter (is_marked (vertex_marks schema members)) (below n))
    (marks_long (has_vertex schema members) (length (vertex_names schema.vertex_types)) ∙ length-map schema.vertex_types (λ (t : VertexType). t.name))
    ∙ filter_agree (is_marked (vertex_marks schema members)) (has_vertex schema members) (below (length schema.vertex_types)) (λ k. mark_is (vertex_names schema.vertex_types) members k)

pub edges_same : (schema : Schema) (members : List (List ℕ)) (marks : List Bool) → marks ≡ edge_marks schema members
    → filter (has_edge_marked schema marks) (below (length schema.edge_types)) ≡ filter (has_edge schema members) (below (length schema.edge_types))
edges_same schema members marks are =
    ap (λ l. filter (has_edge_marked schema l) (below (length schema.edge_types))) are
    ∙ filter_agree (has_edge_marked schema (edge_marks schema members)) (has_edge schema members) (below (length schema.edge_types)) (λ k. edge_same schema members k)

next : (xs : List (List ℕ)) (i : ℕ) (x : List ℕ) → i < length xs → x ≡ get_or xs i x → drop i xs ≡ x ∷ drop (i + 1) xs
next xs i x low read = drop-cons xs i x low ∙ ap (λ y. y ∷ drop (suc i) xs) (sym read) ∙ ap (λ n. x ∷ drop n xs) (sym (add-one i))

pub member_next : (schema : Schema) (xs : List (List ℕ)) (marks : List Bool) (i : ℕ) (x : List ℕ) (t : Bool) (due : Option (List ℕ)) → marks ≡ vertex_marks schema xs
    → due ≡ find (λ m. not (fits schema xs m)) (drop i xs) → i < length xs → x ≡ get_or xs i x → t ≡ fits_marked schema marks x → t ≡ true
    → due ≡ find (λ m. not (fits schema xs m)) (drop (i + 1) xs)
member_next schema xs marks i x t due are rest low read test good =
    let is : fits schema xs x ≡ true = sym (fits_same schema xs x) ∙ ap (λ l. fits_marked schema l x) (sym are) ∙ sym test ∙ good in
    rest ∙ ap (find (λ m. not (fits schema xs m))) (next xs i x low read)
    ∙ ap (λ b. cond (not b) (Some x) (find (λ m. not (fits schema xs m)) (drop (i + 1) xs))) is

pub member_found : (schema : Schema) (xs : List (List ℕ)) (marks : List Bool) (i : ℕ) (x : List ℕ) (t : Bool) (due : Option (List ℕ)) → marks ≡ vertex_marks schema xs
    → due ≡ find (λ m. not (fits schema xs m)) (drop i xs) → i < length xs → x ≡ get_or xs i x → t ≡ fits_marked schema marks x → t ≡ false
    → due ≡ Some x
member_found schema xs marks i x t due are rest low read test bad =
    let is : fits schema xs x ≡ false = sym (fits_same schema xs x) ∙ ap (λ l. fits_marked schema l x) (sym are) ∙ sym test ∙ bad in
    rest ∙ ap (find (λ m. not (fits schema xs m))) (next xs i x low read)
    ∙ ap (λ b. cond (not b) (Some x) (find (λ m. not (fits schema xs m)) (drop (i + 1) xs))) is
