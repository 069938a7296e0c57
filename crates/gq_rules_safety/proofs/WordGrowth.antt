-- WordGrowth: once a catalog has grown, names denote what they denoted before, and existing fields keep their types.
use Rattle.std.proofs.Common.{◌≡◌, ℕ, zero, suc, ◌+◌, ◌<◌, ◌≤◌, Bool, true, false, List, [], ◌∷◌, ◌++◌, length, take, drop, arith, Option, Some, None, Ok, refl, ap, ap₂, sym, ◌∙◌, subst, eq-eqb}
use Rattle.std.proofs.lemmas.Bool.{eqb-true, ltb-true}
use Rattle.std.proofs.lemmas.Bool.Decides.{nat_tests}
use Rattle.std.proofs.lemmas.List.{take-append-drop, map-append, length-map}
use Rattle.std.specs.Prelude.{◌==◌, ◌&&◌, ◌||◌, if◌then◌else◌, map, nat_lt, position, slice_get, bytes_eq}
use Rattle.std.specs.List.{list_all, position_or_len}
use Rattle.std.specs.Option.{option_map}
use mathlib.Core.Path.{fun_ext}
use Rattle.gq_value.specs.Accums.{Base}
use Rattle.gq_graph.specs.Candidates.{among}
use Rattle.gq_graph.specs.Catalog.{Schema}
use Rattle.gq_graph.specs.declared.types.GraphType.{GraphType}
use Rattle.gq_graph.specs.declared.types.VertexType.{VertexType}
use Rattle.gq_graph.specs.declared.types.EdgeType.{EdgeType}
use Rattle.gq_load_check.specs.Fits.{HasGrown}
use Rattle.gq_rules_typing.specs.Statements.{Bytes, Query}
use Rattle.gq_rules_typing.specs.Sorts.{Fields, VertexSort, EdgeSort, Sorts, names_of, bases_of, vertex_fields, edge_fields, vertex_sort, edge_sort, sorts_of}
use Rattle.gq_rules_typing.specs.Words.{Words, Owner, OfVertexType, OfEdgeType, place_of, if_own, by_name, edge_quoted}
use Rattle.gq_rules_typing.specs.FieldTypes.{at_place}
use Rattle.gq_rules_typing.specs.Scopes.{Scope}
use Rattle.gq_rules_typing.specs.KindTypes.{kind_written}
use Rattle.gq_rules_typing.specs.QueryTypes.{typing_over, typing_query}
use Rattle.gq_rules_safety.specs.Growing.{SeesTypes, over, GrowthLaw}
use Rattle.gq_rules_safety.proofs.ScopeGrowth.{ok_same}
use Rattle.gq_rules_safety.proofs.ExpressionGrowth.{SortsGrow, wider}
use Rattle.gq_rules_safety.proofs.QueryGrowth.{query_grown}

-- ---- places in longer lists

some_left : (n : ℕ) → nat_lt 0 (suc n) ≡ true
some_left n = grind (arith, nat_tests)

shifted : (n m : ℕ) (b : Bool) → nat_lt n m ≡ b → nat_lt (1 + n) (suc m) ≡ b
shifted n m true h = grind (arith, nat_tests)
shifted n m false h = grind (arith, nat_tests)

one_more : (n : ℕ) → 1 + n ≡ suc n
one_more n = omega arith

pub position_here : {A : Type 0} (p : A → Bool) (x : A) (xs : List A) → p x ≡ true → position p (x ∷ xs) ≡ Some 0
position_here p x xs e = let z = some_left (length xs) in cc

pub position_behind : {A : Type 0} (p : A → Bool) (x : A) (xs : List A) → p x ≡ false → position p (x ∷ xs) ≡ option_map suc (position p xs)
position_behind p x xs e = go (nat_lt (position_or_len p xs) (length xs)) refl
  where
    go : (b : Bool) → nat_lt (position_or_len p xs) (length xs) ≡ b → position p (x ∷ xs) ≡ option_map suc (position p xs)
    go true f = let z = shifted (position_or_len p xs) (length xs) true f in let w = one_more (position_or_len p xs) in cc
    go false f = let z = shifted (position_or_len p xs) (length xs) false f in cc

-- the first place in a longer list is the one of the shorter, or comes after it
data Stays {A : Type 0} (p : A → Bool) (xs ys : List A) : Type 0 where
  AsBefore : position p (xs ++ ys) ≡ position p xs → Stays p xs ys
  Nowhere : position p xs ≡ None → position p (xs ++ ys) ≡ None → Stays p xs ys
  Later : (n : ℕ) → position p xs ≡ None → position p (xs ++ ys) ≡ Some n → length xs ≤ n → Stays p xs ys

stays : {A : Type 0} (p : A → Bool) (xs ys : List A) → Stays p xs ys
stays p [] ys = go (position p ys) refl
  where
    go : (o : Option ℕ) → position p ys ≡ o → Stays p [] ys
    go None e = Nowhere refl e
    go (Some n) e = Later n refl e (omega arith)
stays p (x ∷ xs) ys = go (p x) refl (stays p xs ys)
  where
    go : (b : Bool) → p x ≡ b → Stays p xs ys → Stays p (x ∷ xs) ys
    go true f s = AsBefore (position_here p x (xs ++ ys) f ∙ sym (position_here p x xs f))
    go false f (AsBefore e) = AsBefore (position_behind p x (xs ++ ys) f ∙ ap (option_map suc) e ∙ sym (position_behind p x xs f))
    go false f (Nowhere d e) = Nowhere (position_behind p x xs f ∙ ap (option_map suc) d) (position_behind p x (xs ++ ys) f ∙ ap (option_map suc) e)
    go false f (Later n d e low) = Later (suc n) (position_behind p x xs f ∙ ap (option_map suc) d) (position_behind p x (xs ++ ys) f ∙ ap (option_map suc) e) (omega (arith, low))

pub low_of : (m : ℕ) (ns : List ℕ) (t : ℕ) → list_all (λ n. nat_lt n m) ns ≡ true → among ns t ≡ true → t < m
low_of m [] t h e = absurd (cc e)
low_of m (n ∷ ns) t h e = go (n == t) refl (nat_lt n m) refl h e (low_of m ns t)
  where
    go : (b : Bool) → (n == t) ≡ b → (c : Bool) → nat_lt n m ≡ c → (c && list_all (λ n. nat_lt n m) ns) ≡ true → (b || among ns t) ≡ true → (list_all (λ n. nat_lt n m) ns ≡ true → among ns t ≡ true → t < m) → t < m
    go b f false g h e rest = absurd (cc h)
    go true f true g h e rest = let P : ℕ → Type 0 = λ n. n < m in subst P (eqb-true n t f) (ltb-true n m g)
    go false f true g h e rest = rest h e

-- a name of the graph denotes the number that it denoted before
own_stays : (own : List ℕ) (xs ys : List Bytes) (x : Bytes) → list_all (λ n. nat_lt n (length xs)) own ≡ true → if_own own (place_of (xs ++ ys) x) ≡ if_own own (place_of xs x)
own_stays own xs ys x low = go (stays (bytes_eq x) xs ys)
  where
    behind : (n : ℕ) → length xs ≤ n → (b : Bool) → among own n ≡ b → (if b then Some n else None) ≡ None
    behind n most true e = let l = low_of (length xs) own n low e in absurd (omega (arith, l, most))
    behind n most false e = refl

    go : Stays (bytes_eq x) xs ys → if_own own (place_of (xs ++ ys) x) ≡ if_own own (place_of xs x)
    go (AsBefore e) = ap (if_own own) e
    go (Nowhere d e) = ap (if_own own) (e ∙ sym d)
    go (Later n d e most) = ap (if_own own) e ∙ behind n most (among own n) refl ∙ sym (ap (if_own own) d)

pub early : {A : Type 0} (xs ys : List A) (n : ℕ) → n < length xs → slice_get (xs ++ ys) n ≡ slice_get xs n
early [] ys n low = absurd (omega (arith, low))
early (x ∷ xs) ys zero low = refl
early (x ∷ xs) ys (suc n) low = early xs ys n (omega (arith, low))

still_there : {A : Type 0} (xs ys : List A) (n : ℕ) (z : A) → slice_get xs n ≡ Some z → slice_get (xs ++ ys) n ≡ Some z
still_there [] ys n z e = absurd (cc e)
still_there (x ∷ xs) ys zero z e = e
still_there (x ∷ xs) ys (suc n) z e = still_there xs ys n z e

begins : {A B : Type 0} (f : A → B) (xs ys : List A) → take (length xs) ys ≡ xs → map f ys ≡ map f xs ++ map f (drop (length xs) ys)
begins f xs ys e = ap (map f) (sym (take-append-drop (length xs) ys) ∙ ap (λ zs. zs ++ drop (length xs) ys) e) ∙ map-append f xs (drop (length xs) ys)

-- ---- fields

no_field : (o : Option ℕ) (c : Base) → at_place [] o ≡ Some c → ⊥
no_field None c e = cc e
no_field (Some n) c e = cc e

abbrev of_vertex : Option VertexSort → Fields
of_vertex None = []
of_vertex (Some s) = s.fields

abbrev of_edge : Option EdgeSort → Fields
of_edge None = []
of_edge (Some s) = s.fields

module _ (words : Words Bytes) (owner : Owner) (f : Bytes) (c : Base) where
  abbrev base_in : Fields → Option Base
  base_in fields = at_place (bases_of fields) (words.field owner (names_of fields) f)

  vertex_stays : (xs ys : List VertexSort) (t : ℕ) → base_in (of_vertex (slice_get xs t)) ≡ Some c → base_in (of_vertex (slice_get (xs ++ ys) t)) ≡ Some c
  vertex_stays xs ys t e = go (slice_get xs t) refl
    where
      go : (o : Option VertexSort) → slice_get xs t ≡ o → base_in (of_vertex (slice_get (xs ++ ys) t)) ≡ Some c
      go None d = absurd (no_field (words.field owner [] f) c (sym (ap (λ o. base_in (of_vertex o)) d) ∙ e))
      go (Some s) d = ap (λ o. base_in (of_vertex o)) (still_there xs ys t s d ∙ sym d) ∙ e

  edge_stays : (xs ys : List EdgeSort) (t : ℕ) → base_in (of_edge (slice_get xs t)) ≡ Some c → base_in (of_edge (slice_get (xs ++ ys) t)) ≡ Some c
  edge_stays xs ys t e = go (slice_get xs t) refl
    where
      go : (o : Option EdgeSort) → slice_get xs t ≡ o → base_in (of_edge (slice_get (xs ++ ys) t)) ≡ Some c
      go None d = absurd (no_field (words.field owner [] f) c (sym (ap (λ o. base_in (of_edge o)) d) ∙ e))
      go (Some s) d = ap (λ o. base_in (of_edge o)) (still_there xs ys t s d ∙ sym d) ∙ e

-- ---- more types

module _ (a : Sorts) (vertices : List VertexSort) (edges : List EdgeSort)
    (low_vertices : list_all (λ t. nat_lt t (length a.vertices)) a.own_vertices ≡ true) (low_edges : list_all (λ t. nat_lt t (length a.edges)) a.own_edges ≡ true) where
  abbrev more : Sorts
  more = wider a (a.vertices ++ vertices) (a.edges ++ edges)

  vertex_word : (x : Bytes) → (by_name more).vertex_type x ≡ (by_name a).vertex_type x
  vertex_word x =
      ap (λ names. if_own a.own_vertices (place_of names x)) (map-append (λ (s : VertexSort). s.name) a.vertices vertices)
      ∙ own_stays a.own_vertices (map (λ (s : VertexSort). s.name) a.vertices) (map (λ (s : VertexSort). s.name) vertices) x
      (subst (λ n. list_all (λ t. nat_lt t n) a.own_vertices ≡ true) (sym (length-map a.vertices (λ (s : VertexSort). s.name))) low_vertices)

  edge_word : (x : Bytes) → edge_quoted more x ≡ edge_quoted a x
  edge_word x =
      ap (λ names. if_own a.own_edges (place_of names x)) (map-append (λ (s : EdgeSort). s.name) a.edges edges)
      ∙ own_stays a.own_edges (map (λ (s : EdgeSort). s.name) a.edges) (map (λ (s : EdgeSort). s.name) edges) x
      (subst (λ n. list_all (λ t. nat_lt t n) a.own_edges ≡ true) (sym (length-map a.edges (λ (s : EdgeSort). s.name))) low_edges)

  words_stay : by_name a ≡ by_name more
  words_stay = ap₂ (λ v e. record (by_name a) { vertex_type = v; edge_type = e }) (fun_ext (λ x. sym (vertex_word x))) (fun_ext (λ x. sym (edge_word x)))

  own_known : (o : Option ℕ) (t : ℕ) → if_own a.own_edges o ≡ Some t → among a.own_edges t ≡ true
  own_known None t e = absurd (cc e)
  own_known (Some n) t e = go (among a.own_edges n) refl e
    where
      go : (b : Bool) → among a.own_edges n ≡ b → (if b then Some n else None) ≡ Some t → among a.own_edges t ≡ true
      go true f e = let P : ℕ → Type 0 = λ z. among a.own_edges z ≡ true in let same : n ≡ t = cc in subst P same f
      go false f e = absurd (cc e)

  sorts_grow : SortsGrow (by_name a) a (a.vertices ++ vertices) (a.edges ++ edges)
  sorts_grow = record {
    vertex = λ t f c e. vertex_stays (by_name a) (OfVertexType t) f c a.vertices vertices t e;
    edge = λ t f c e. edge_stays (by_name a) (OfEdgeType t) f c a.edges edges t e;
    quoted = edge_word;
    own = λ t o. early a.edges edges t (low_of (length a.edges) a.own_edges t low_edges o);
    word = λ x t e. own_known _ t e;
  }

  typed_more : (q : Query Bytes) (t : Scope Bytes) → typing_query a q ≡ Ok t → typing_query more q ≡ Ok (over more t)
  typed_more q t e =
      let u = (query_grown (by_name a) a (a.vertices ++ vertices) (a.edges ++ edges) sorts_grow q.with_paths q refl).leads t e in
      let P : Words Bytes → Type 0 = λ w. typing_over kind_written (record { words = w; sorts = more; tuples = [] }) q ≡ Ok (record { setting = record { words = w; sorts = more; tuples = u.2.0 }; names = u.2.1; with_paths = q.with_paths }) in
      subst P words_stay (u.1 ∙ ap Ok u.2.3) ∙ ap (λ z. Ok (over more z)) (sym u.2.2)

pub growth_law : GrowthLaw
growth_law before after own grown sees q t e =
    subst (λ sorts. typing_query sorts q ≡ Ok (over sorts t))
    (ap₂ (wider (sorts_of before own)) (sym (begins vertex_sort before.vertex_types after.vertex_types grown.vertex_types)) (sym (begins edge_sort before.edge_types after.edge_types grown.edge_types)))
    (typed_more (sorts_of before own) (map vertex_sort (drop (length before.vertex_types) after.vertex_types)) (map edge_sort (drop (length before.edge_types) after.edge_types))
    (subst (λ n. list_all (λ t. nat_lt t n) (sorts_of before own).own_vertices ≡ true) (sym (length-map before.vertex_types vertex_sort)) sees.vertices)
    (subst (λ n. list_all (λ t. nat_lt t n) (sorts_of before own).own_edges ≡ true) (sym (length-map before.edge_types edge_sort)) sees.edges)
    q t e)
