-- CatalogFits: declarations that aren't refused leave a catalog whole.
use Rattle.std.proofs.Common.{◌≡◌, ℕ, zero, suc, ◌+◌, ◌<◌, ◌≤◌, ◌⊎◌, inl, inr, Bool, true, false, not, cond, List, [], ◌∷◌, ◌++◌, length, get_or, map, filter, Option, Some, None, refl, ap, ap₂, sym, ◌∙◌, subst, arith, eq-eqb, is_some, length-append}
use Rattle.std.proofs.lemmas.Bool.{eqb-true, lt-ltb, cases_lt}
use Rattle.std.proofs.lemmas.List.{map-append, get_or-append-add, get_or_append_left, length_push}
use Rattle.std.proofs.lemmas.List.Elements.{All-push}
use Rattle.std.proofs.lemmas.List.Folds.{list_any-append}
use Rattle.std.proofs.lemmas.Option.{slice_get_within, get_or_from_slice_get}
use Rattle.std.proofs.lemmas.Slice.Eq.{bytes_eq-Decides}
use Rattle.std.specs.Prelude.{◌==◌, ◌&&◌, ◌||◌, nat_lt, position, bytes_eq, find, slice_index_or}
use Rattle.std.specs.List.{list_any, list_all, range_with_len}
use Rattle.std.specs.Option.{option_map, option_or, option_map_or}
use Rattle.gq_graph.specs.Candidates.{among}
use Rattle.gq_graph.specs.Catalog.{Schema, name_place, vertex_names, edge_names, vertex_type_of, edge_type_of, with_edge_types, edge_types_of, end_of, with_graph}
use Rattle.gq_graph.specs.Defaults.{settled}
use Rattle.gq_graph.specs.declared.types.Attribute.{Attribute}
use Rattle.gq_graph.specs.declared.types.VertexType.{VertexType}
use Rattle.gq_graph.specs.declared.types.EdgeType.{EdgeType}
use Rattle.gq_graph.specs.declared.types.GraphType.{GraphType}
use Rattle.gq_load_check.specs.Targets.{edge_type_at, no_edge_type}
use Rattle.gq_schema.specs.declared.fault.SchemaFault.{SchemaFault}
use Rattle.gq_schema.specs.declared.fault.SchemaFault.TheVariants as fault
use Rattle.gq_schema.specs.Members.{below, is_number, is_listed, has_vertex, names_edge, has_edge, has_ends, fits, misfit, graph_with}
use Rattle.gq_schema.specs.Refusals.{is_type, taken, reverse_taken, graph_taken, member_refusal}
use Rattle.gq_insert.specs.Fits.{IsSound}
use Rattle.gq_rules_safety.proofs.WordGrowth.{low_of, position_here, position_behind}
use Rattle.gq_rules_safety.proofs.SafetyLaws.{low_more}
use Rattle.gq_rules_store.specs.Stores.{OwnFits, Exchanges, IsWhole}
use Rattle.gq_rules_store.specs.Catalogs.{NoTypesLaw, VertexTypeLaw, EdgeTypeLaw, GraphTypeLaw, SeesLaw}

-- ---- truths

both : (p q : Bool) → (p && q) ≡ true → (p ≡ true) × (q ≡ true)
both true q e = (refl, e)
both false q e = absurd (cc e)

neither : (p q : Bool) → (p || q) ≡ false → (p ≡ false) × (q ≡ false)
neither true q e = absurd (cc e)
neither false q e = (refl, e)

either : (p q : Bool) → (p || q) ≡ true → (p ≡ true) ⊎ (q ≡ true)
either true q e = inl refl
either false q e = inr e

or_true : (q : Bool) → (q || true) ≡ true
or_true true = refl
or_true false = refl

both_none : {A : Type 0} (a b : Option A) → option_or a b ≡ None → (a ≡ None) × (b ≡ None)
both_none None b none = (refl, none)
both_none (Some x) b none = absurd (cc none)

no_fault : (q : Bool) (f : SchemaFault) → cond q (Some f) None ≡ None → q ≡ false
no_fault true f none = absurd (cc none)
no_fault false f none = refl

-- ---- numbers

range_low : (a n m : ℕ) → a + n ≤ m → list_all (λ t. nat_lt t m) (range_with_len a n) ≡ true
range_low a zero m low = refl
range_low a (suc n) m low = ap₂ (λ p q. p && q) (lt-ltb a m (omega (arith, low))) (range_low (a + 1) n m (omega (arith, low)))

range_has : (a n t : ℕ) → a ≤ t → t < a + n → among (range_with_len a n) t ≡ true
range_has a zero t from low = absurd (omega (arith, from, low))
range_has a (suc n) t from low = elim (cases_lt a t) [
  | inl less ↦ ap (λ q. (a == t) || q) (range_has (a + 1) n t (omega (arith, less)) (omega (arith, low))) ∙ or_true (a == t)
  | inr least ↦ let same : a ≡ t = omega (arith, least, from) in ap (λ q. q || among (range_with_len (a + 1) n) t) (eq-eqb a t same)
]

below_has : (n t : ℕ) → t < n → among (below n) t ≡ true
below_has n t low = range_has 0 n t (omega arith) (omega (arith, low))

filter_low : (p : ℕ → Bool) (m : ℕ) (ns : List ℕ) → list_all (λ t. nat_lt t m) ns ≡ true → list_all (λ t. nat_lt t m) (filter p ns) ≡ true
filter_low p m [] low = refl
filter_low p m (n ∷ ns) low = let u = both (nat_lt n m) _ low in go (p n) (filter_low p m ns u.1) u.0
  where
    go : (q : Bool) → list_all (λ t. nat_lt t m) (filter p ns) ≡ true → nat_lt n m ≡ true → list_all (λ t. nat_lt t m) (cond q (n ∷ filter p ns) (filter p ns)) ≡ true
    go true rest one = ap₂ (λ p q. p && q) one rest
    go false rest one = rest

filter_has : (p : ℕ → Bool) (ns : List ℕ) (t : ℕ) → among ns t ≡ true → p t ≡ true → among (filter p ns) t ≡ true
filter_has p [] t e h = absurd (cc e)
filter_has p (n ∷ ns) t e h = go (p n) refl (n == t) refl e (λ k. filter_has p ns t k h)
  where
    go : (q : Bool) → p n ≡ q → (r : Bool) → (n == t) ≡ r → (r || among ns t) ≡ true → (among ns t ≡ true → among (filter p ns) t ≡ true) → among (cond q (n ∷ filter p ns) (filter p ns)) t ≡ true
    go true f true g e rest = ap (λ r. r || among (filter p ns) t) g
    go true f false g e rest = ap (λ q. (n == t) || q) (rest e) ∙ or_true (n == t)
    go false f true g e rest = let u = sym f ∙ ap p (eqb-true n t g) ∙ h in absurd (cc u)
    go false f false g e rest = rest e

filter_passes : (p : ℕ → Bool) (ns : List ℕ) (t : ℕ) → among (filter p ns) t ≡ true → p t ≡ true
filter_passes p [] t e = absurd (cc e)
filter_passes p (n ∷ ns) t e = go (p n) refl e (filter_passes p ns t)
  where
    go : (q : Bool) → p n ≡ q → among (cond q (n ∷ filter p ns) (filter p ns)) t ≡ true → (among (filter p ns) t ≡ true → p t ≡ true) → p t ≡ true
    go true f e rest = elim (either (n == t) (among (filter p ns) t) e) [
      | inl same ↦ sym (ap p (eqb-true n t same)) ∙ f
      | inr other ↦ rest other
    ]
    go false f e rest = rest e

-- ---- names

some_map : (o : Option ℕ) → is_some (option_map suc o) ≡ is_some o
some_map None = refl
some_map (Some n) = refl

placed : {A : Type 0} (p : A → Bool) (xs : List A) → is_some (position p xs) ≡ list_any p xs
placed p [] = refl
placed p (x ∷ xs) = go (p x) refl (placed p xs)
  where
    go : (b : Bool) → p x ≡ b → is_some (position p xs) ≡ list_any p xs → is_some (position p (x ∷ xs)) ≡ list_any p (x ∷ xs)
    go true f rest = ap is_some (position_here p x xs f) ∙ sym (ap (λ b. b || list_any p xs) f)
    go false f rest = ap is_some (position_behind p x xs f) ∙ some_map (position p xs) ∙ rest ∙ sym (ap (λ b. b || list_any p xs) f)

stands_in : (names more : List (List ℕ)) (name : List ℕ) → is_some (name_place (names ++ more) name) ≡ (is_some (name_place names name) || list_any (bytes_eq name) more)
stands_in names more name = placed (bytes_eq name) (names ++ more) ∙ list_any-append (bytes_eq name) names more ∙ ap (λ b. b || list_any (bytes_eq name) more) (sym (placed (bytes_eq name) names))

vertex_stands : (schema : Schema) (type : VertexType) (name : List ℕ) → is_some (name_place (vertex_names (schema.vertex_types ++ type ∷ [])) name) ≡ (is_some (vertex_type_of schema name) || list_any (bytes_eq name) (type.name ∷ []))
vertex_stands schema type name = ap (λ names. is_some (name_place names name)) (map-append (λ (t : VertexType). t.name) schema.vertex_types (type ∷ [])) ∙ stands_in (vertex_names schema.vertex_types) (type.name ∷ []) name

edge_stands : (schema : Schema) (types : List EdgeType) (name : List ℕ) → is_some (name_place (edge_names (schema.edge_types ++ types)) name) ≡ (is_some (edge_type_of schema name) || list_any (bytes_eq name) (edge_names types))
edge_stands schema types name = ap (λ names. is_some (name_place names name)) (map-append (λ (t : EdgeType). t.name) schema.edge_types types) ∙ stands_in (edge_names schema.edge_types) (edge_names types) name

-- a name that a type has isn't one that no type has
free_name : (schema : Schema) (x other : List ℕ) → is_type schema x ≡ false → is_some (vertex_type_of schema other) ≡ true → bytes_eq other x ≡ false
free_name schema x other free stands = go (bytes_eq other x) refl
  where
    go : (b : Bool) → bytes_eq other x ≡ b → bytes_eq other x ≡ false
    go true e =
        let same : other ≡ x = (bytes_eq-Decides other x).0 e in
        let u = sym (subst (λ n. is_some (vertex_type_of schema n) ≡ true) same stands) ∙ (neither (is_some (vertex_type_of schema x)) (is_some (edge_type_of schema x)) free).0 in absurd (cc u)
    go false e = e

-- ---- no types, and one vertex type more

pub no_types_law : NoTypesLaw
no_types_law = record {
  pairs = record { forward = λ t u low e. absurd (omega (arith, low)); reverse = λ t u low e. absurd (omega (arith, low)) };
  apart = λ name e. refl;
  graphs = λ k d low. absurd (omega arith);
}

pub vertex_type_law : VertexTypeLaw
vertex_type_law schema name id attributes none whole = record {
  pairs = record {
    forward = λ t u low e. let x = whole.pairs.forward t u low e in record { there = x.there; from = x.from; to = x.to; attributes = x.attributes };
    reverse = λ t u low e. let x = whole.pairs.reverse t u low e in record { there = x.there; from = x.from; to = x.to; attributes = x.attributes };
  };
  apart = λ other e. apart other (sym (vertex_stands schema type other) ∙ e);
  graphs = λ k d low.
      let x = whole.graphs k d low in
      record { vertices = low_more (length schema.vertex_types) _ _ longer x.vertices; edges = x.edges; ends = x.ends };
}
  where
    type : VertexType
    type = record { name = name; id = id; attributes = map settled attributes }

    longer : length schema.vertex_types ≤ length (schema.vertex_types ++ type ∷ [])
    longer = let l = length_push schema.vertex_types type in omega (arith, l)

    free : is_type schema name ≡ false
    free = no_fault (is_type schema name) (fault.NameTaken name) (both_none (taken schema name) _ none).0

    apart : (other : List ℕ) → (is_some (vertex_type_of schema other) || list_any (bytes_eq other) (name ∷ [])) ≡ true → is_some (edge_type_of schema other) ≡ false
    apart other e = elim (either (is_some (vertex_type_of schema other)) _ e) [
      | inl old ↦ whole.apart other old
      | inr new ↦ elim (either (bytes_eq other name) false new) [
        | inl same ↦ ap (λ n. is_some (edge_type_of schema n)) ((bytes_eq-Decides other name).0 same) ∙ (neither (is_some (vertex_type_of schema name)) (is_some (edge_type_of schema name)) free).1
        | inr none ↦ absurd (cc none)
      ]
    ]

-- ---- more edge types

module _ (schema : Schema) (types : List EdgeType) where
  abbrev later : Schema
  later = with_edge_types schema types

  longer : length schema.edge_types ≤ length later.edge_types
  longer = let l = length-append schema.edge_types types in omega (arith, l)

  at_old : (t : ℕ) → t < length schema.edge_types → edge_type_at later t ≡ edge_type_at schema t
  at_old t low = get_or_append_left schema.edge_types types no_edge_type t low

  at_new : (t j : ℕ) → t ≡ length schema.edge_types + j → edge_type_at later t ≡ slice_index_or types j no_edge_type
  at_new t j is = ap (edge_type_at later) is ∙ get_or-append-add schema.edge_types types j no_edge_type

  exchanges_still : (t u : ℕ) → t < length schema.edge_types → Exchanges schema t u → Exchanges later t u
  exchanges_still t u low x =
      let a = at_old t low in let b = at_old u x.there in
      record {
        there = omega (arith, x.there, longer);
        from = ap (λ (e : EdgeType). e.from) b ∙ x.from ∙ sym (ap (λ (e : EdgeType). e.to) a);
        to = ap (λ (e : EdgeType). e.to) b ∙ x.to ∙ sym (ap (λ (e : EdgeType). e.from) a);
        attributes = ap (λ (e : EdgeType). e.attributes) b ∙ x.attributes ∙ sym (ap (λ (e : EdgeType). e.attributes) a);
      }

  own_still : (g : GraphType) → OwnFits schema g → OwnFits later g
  own_still g x = record {
    vertices = x.vertices;
    edges = low_more (length schema.edge_types) (length later.edge_types) g.edges longer x.edges;
    ends = λ t o low.
        let l = low_of (length schema.edge_types) g.edges t x.edges o in
        subst (λ (e : EdgeType). (among g.vertices e.from && among g.vertices e.to) ≡ true) (sym (at_old t l)) (x.ends t o l);
  }

-- a number from n on, if the bound leaves one such number, or two
the_first : (t n m : ℕ) → n ≤ t → t < m → m ≡ n + 1 → t ≡ n + 0
the_first t n m least low is = omega (arith, least, low, is)

first_or_second : (t n m : ℕ) → n ≤ t → t < m → m ≡ n + 2 → (t ≡ n + 0) ⊎ (t ≡ n + 1)
first_or_second t n m least low is = elim (cases_lt n t) [
  | inl less ↦ inr (omega (arith, less, low, is))
  | inr most ↦ inl (omega (arith, most, least))
]

module _ (schema : Schema) (name : List ℕ) (directed : Bool) (from to : List ℕ) (key rest : List Attribute) where
  abbrev made : Option (List ℕ) → List EdgeType
  made reverse = edge_types_of (length schema.edge_types) name directed (end_of schema from) (end_of schema to) reverse (length key) (key ++ rest)

  some_same : (m n : ℕ) → Some m ≡ Some n → m ≡ n
  some_same m n e = cc

  -- which of the new types a number is
  one_long : length (schema.edge_types ++ made None) ≡ length schema.edge_types + 1
  one_long = length-append schema.edge_types (made None)

  two_long : (r : List ℕ) → length (schema.edge_types ++ made (Some r)) ≡ length schema.edge_types + 2
  two_long r = length-append schema.edge_types (made (Some r))

  place_one : (t : ℕ) → length schema.edge_types ≤ t → t < length (schema.edge_types ++ made None) → t ≡ length schema.edge_types + 0
  place_one t least low = the_first t (length schema.edge_types) _ least low one_long

  place_two : (r : List ℕ) (t : ℕ) → length schema.edge_types ≤ t → t < length (schema.edge_types ++ made (Some r)) → (t ≡ length schema.edge_types + 0) ⊎ (t ≡ length schema.edge_types + 1)
  place_two r t least low = first_or_second t (length schema.edge_types) _ least low (two_long r)

  backs : (r : List ℕ) (t u : ℕ) → t ≡ length schema.edge_types + 1 → u ≡ length schema.edge_types + 0 → Exchanges (later schema (made (Some r))) t u
  backs r t u is at =
      let a = at_new schema (made (Some r)) t 1 is in let b = at_new schema (made (Some r)) u 0 at in let l = two_long r in
      record {
        there = omega (arith, at, l);
        from = ap (λ (e : EdgeType). e.from) b ∙ sym (ap (λ (e : EdgeType). e.to) a);
        to = ap (λ (e : EdgeType). e.to) b ∙ sym (ap (λ (e : EdgeType). e.from) a);
        attributes = ap (λ (e : EdgeType). e.attributes) b ∙ sym (ap (λ (e : EdgeType). e.attributes) a);
      }

  forths : (r : List ℕ) (t u : ℕ) → t ≡ length schema.edge_types + 0 → u ≡ length schema.edge_types + 1 → Exchanges (later schema (made (Some r))) t u
  forths r t u is at =
      let a = at_new schema (made (Some r)) t 0 is in let b = at_new schema (made (Some r)) u 1 at in let l = two_long r in
      record {
        there = omega (arith, at, l);
        from = ap (λ (e : EdgeType). e.from) b ∙ sym (ap (λ (e : EdgeType). e.to) a);
        to = ap (λ (e : EdgeType). e.to) b ∙ sym (ap (λ (e : EdgeType). e.from) a);
        attributes = ap (λ (e : EdgeType). e.attributes) b ∙ sym (ap (λ (e : EdgeType). e.attributes) a);
      }

  new_forward : (o : Option (List ℕ)) (t u : ℕ) → length schema.edge_types ≤ t → t < length (schema.edge_types ++ made o) → (edge_type_at (later schema (made o)) t).forward ≡ Some u → Exchanges (later schema (made o)) t u
  new_forward None t u least low e = let z = sym (ap (λ (e : EdgeType). e.forward) (at_new schema (made None) t 0 (place_one t least low))) ∙ e in absurd (cc z)
  new_forward (Some r) t u least low e = elim (place_two r t least low) [
    | inl is ↦ let z = sym (ap (λ (e : EdgeType). e.forward) (at_new schema (made (Some r)) t 0 is)) ∙ e in absurd (cc z)
    | inr is ↦
        let z = sym (ap (λ (e : EdgeType). e.forward) (at_new schema (made (Some r)) t 1 is)) ∙ e in
        let same : length schema.edge_types ≡ u = some_same (length schema.edge_types) u z in
        backs r t u is (omega (arith, same))
  ]

  new_reverse : (o : Option (List ℕ)) (t u : ℕ) → length schema.edge_types ≤ t → t < length (schema.edge_types ++ made o) → (edge_type_at (later schema (made o)) t).reverse ≡ Some u → Exchanges (later schema (made o)) t u
  new_reverse None t u least low e = let z = sym (ap (λ (e : EdgeType). e.reverse) (at_new schema (made None) t 0 (place_one t least low))) ∙ e in absurd (cc z)
  new_reverse (Some r) t u least low e = elim (place_two r t least low) [
    | inl is ↦
        let z = sym (ap (λ (e : EdgeType). e.reverse) (at_new schema (made (Some r)) t 0 is)) ∙ e in
        let same : length schema.edge_types + 1 ≡ u = some_same (length schema.edge_types + 1) u z in
        forths r t u is (sym same)
    | inr is ↦ let z = sym (ap (λ (e : EdgeType). e.reverse) (at_new schema (made (Some r)) t 1 is)) ∙ e in absurd (cc z)
  ]

  new_names : (o : Option (List ℕ)) (other : List ℕ) → is_type schema name ≡ false → reverse_taken schema name o ≡ None → is_some (vertex_type_of schema other) ≡ true → list_any (bytes_eq other) (edge_names (made o)) ≡ false
  new_names None other free none stands = ap (λ b. b || false) (free_name schema name other free stands)
  new_names (Some r) other free none stands =
      let away = (neither (bytes_eq r name) (is_type schema r) (no_fault (bytes_eq r name || is_type schema r) (fault.NameTaken r) none)).1 in
      ap₂ (λ p q. p || (q || false)) (free_name schema name other free stands) (free_name schema r other away stands)

pub edge_type_law : EdgeTypeLaw
edge_type_law schema name directed from to reverse key rest none whole =
    let types : List EdgeType = made schema name directed from to key rest reverse in
    let one = both_none (taken schema name) _ none in
    let two = both_none (reverse_taken schema name reverse) _ one.1 in
    let free : is_type schema name ≡ false = no_fault (is_type schema name) (fault.NameTaken name) one.0 in
    record {
      pairs = record {
        forward = λ t u low e. elim (cases_lt t (length schema.edge_types)) [
          | inl less ↦ exchanges_still schema types t u less (whole.pairs.forward t u less (sym (ap (λ (e : EdgeType). e.forward) (at_old schema types t less)) ∙ e))
          | inr least ↦ new_forward schema name directed from to key rest reverse t u least low e
        ];
        reverse = λ t u low e. elim (cases_lt t (length schema.edge_types)) [
          | inl less ↦ exchanges_still schema types t u less (whole.pairs.reverse t u less (sym (ap (λ (e : EdgeType). e.reverse) (at_old schema types t less)) ∙ e))
          | inr least ↦ new_reverse schema name directed from to key rest reverse t u least low e
        ];
      };
      apart = λ other e. edge_stands schema types other ∙ ap₂ (λ p q. p || q) (whole.apart other e) (new_names schema name directed from to key rest reverse other free two.0 e);
      graphs = λ k d low. own_still schema types (get_or schema.graphs k d) (whole.graphs k d low);
    }

-- ---- one graph more

module _ (schema : Schema) (sound : IsSound schema) (whole : IsWhole schema) where
  abbrev own : GraphType → Type 0
  own = OwnFits schema

  all_types : (name : List ℕ) → OwnFits schema (graph_with schema name None)
  all_types name = record {
    vertices = range_low 0 (length schema.vertex_types) (length schema.vertex_types) (omega arith);
    edges = range_low 0 (length schema.edge_types) (length schema.edge_types) (omega arith);
    ends = λ t o low.
        let x = sound.edge_types t no_edge_type low in
        ap₂ (λ p q. p && q) (below_has (length schema.vertex_types) (edge_type_at schema t).from x.from) (below_has (length schema.vertex_types) (edge_type_at schema t).to x.to);
  }

  module _ (members : List (List ℕ)) (good : misfit schema members ≡ None) where
    option_or_false : (f : ℕ → Bool) (o : Option ℕ) (k : ℕ) → o ≡ Some k → option_map_or f o false ≡ f k
    option_or_false f o k e = ap (λ o. option_map_or f o false) e

    -- a member that names an edge type has its ends among the members
    member_ends : (member : List ℕ) (k : ℕ) → fits schema members member ≡ true → edge_type_of schema member ≡ Some k → has_ends schema members k ≡ true
    member_ends member k fit is = elim (either (is_some (vertex_type_of schema member)) _ fit) [
      | inl vertex ↦ let u = sym (ap is_some is) ∙ whole.apart member vertex in absurd (cc u)
      | inr ends ↦ sym (option_or_false (has_ends schema members) (edge_type_of schema member) k is) ∙ ends
    ]

    number_is : (o : Option ℕ) (k : ℕ) → is_number o k ≡ true → o ≡ Some k
    number_is None k e = absurd (cc e)
    number_is (Some n) k e = ap Some (eqb-true n k e)

    fit_head : (m : List ℕ) (r : Option (List ℕ)) → cond (not (fits schema members m)) (Some m) r ≡ None → (fits schema members m ≡ true) × (r ≡ None)
    fit_head m r e = go (fits schema members m) refl e
      where
        go : (b : Bool) → fits schema members m ≡ b → cond (not b) (Some m) r ≡ None → (fits schema members m ≡ true) × (r ≡ None)
        go true f e = (f, e)
        go false f e = absurd (cc e)

    named_ends : (ms : List (List ℕ)) (k : ℕ) → find (λ member. not (fits schema members member)) ms ≡ None → is_listed (edge_names schema.edge_types) ms k ≡ true → has_ends schema members k ≡ true
    named_ends [] k none e = absurd (cc e)
    named_ends (m ∷ ms) k none e =
        let u = fit_head m _ none in
        elim (either (is_number (edge_type_of schema m) k) _ e) [
          | inl this ↦ member_ends m k u.0 (number_is (edge_type_of schema m) k this)
          | inr later ↦ named_ends ms k u.1 later
        ]

    edge_named : (k : ℕ) → names_edge schema members k ≡ true → has_ends schema members k ≡ true
    edge_named k e = named_ends members k good e

    swapped : (t u : ℕ) → Exchanges schema t u → has_ends schema members u ≡ true → has_ends schema members t ≡ true
    swapped t u x e =
        let w = both (has_vertex schema members (edge_type_at schema u).from) _ e in
        ap₂ (λ p q. p && q) (ap (has_vertex schema members) (sym x.to) ∙ w.1) (ap (has_vertex schema members) (sym x.from) ∙ w.0)

    paired : (t : ℕ) (o : Option ℕ) → ((u : ℕ) → o ≡ Some u → Exchanges schema t u) → option_map_or (names_edge schema members) o false ≡ true → has_ends schema members t ≡ true
    paired t None x e = absurd (cc e)
    paired t (Some u) x e = swapped t u (x u refl) (edge_named u e)

    edge_ends : (t : ℕ) → t < length schema.edge_types → has_edge schema members t ≡ true → has_ends schema members t ≡ true
    edge_ends t low e = elim (either (names_edge schema members t) _ e) [
      | inl named ↦ edge_named t named
      | inr other ↦ elim (either (option_map_or (names_edge schema members) (edge_type_at schema t).forward false) _ other) [
        | inl forward ↦ paired t (edge_type_at schema t).forward (λ u is. whole.pairs.forward t u low is) forward
        | inr reverse ↦ paired t (edge_type_at schema t).reverse (λ u is. whole.pairs.reverse t u low is) reverse
      ]
    ]

    some_types : (name : List ℕ) → OwnFits schema (graph_with schema name (Some members))
    some_types name = record {
      vertices = filter_low (has_vertex schema members) (length schema.vertex_types) (below (length schema.vertex_types)) (range_low 0 (length schema.vertex_types) (length schema.vertex_types) (omega arith));
      edges = filter_low (has_edge schema members) (length schema.edge_types) (below (length schema.edge_types)) (range_low 0 (length schema.edge_types) (length schema.edge_types) (omega arith));
      ends = λ t o low.
          let x = sound.edge_types t no_edge_type low in
          let w = both (has_vertex schema members (edge_type_at schema t).from) _ (edge_ends t low (filter_passes (has_edge schema members) (below (length schema.edge_types)) t o)) in
          ap₂ (λ p q. p && q)
          (filter_has (has_vertex schema members) (below (length schema.vertex_types)) (edge_type_at schema t).from (below_has (length schema.vertex_types) (edge_type_at schema t).from x.from) w.0)
          (filter_has (has_vertex schema members) (below (length schema.vertex_types)) (edge_type_at schema t).to (below_has (length schema.vertex_types) (edge_type_at schema t).to x.to) w.1);
    }

  no_misfit : (o : Option (List ℕ)) → option_map fault.NoSuchType o ≡ None → o ≡ None
  no_misfit None e = refl
  no_misfit (Some x) e = absurd (cc e)

  graph_fits : (name : List ℕ) (members : Option (List (List ℕ))) → member_refusal schema members ≡ None → OwnFits schema (graph_with schema name members)
  graph_fits name None none = all_types name
  graph_fits name (Some members) none = some_types members (no_misfit (misfit schema members) none) name

own_in : (schema : Schema) (graph g : GraphType) → OwnFits schema g → OwnFits (with_graph schema graph) g
own_in schema graph g x = record { vertices = x.vertices; edges = x.edges; ends = x.ends }

pub graph_type_law : GraphTypeLaw
graph_type_law schema name members none sound whole = record {
  pairs = record {
    forward = λ t u low e. let x = whole.pairs.forward t u low e in record { there = x.there; from = x.from; to = x.to; attributes = x.attributes };
    reverse = λ t u low e. let x = whole.pairs.reverse t u low e in record { there = x.there; from = x.from; to = x.to; attributes = x.attributes };
  };
  apart = whole.apart;
  graphs = λ k d low.
      own_in schema graph (get_or (schema.graphs ++ graph ∷ []) k d)
      (All-push (OwnFits schema) schema.graphs graph whole.graphs (graph_fits schema sound whole name members (both_none (graph_taken schema name) (member_refusal schema members) none).1) k d low);
}
  where
    graph : GraphType
    graph = graph_with schema name members

-- ---- graphs of a whole catalog

pub sees_law : SeesLaw
sees_law schema n None whole is = (record { vertices = refl; edges = refl }, λ g e. absurd (cc e))
sees_law schema n (Some graph) whole is =
    let fit : OwnFits schema graph = subst (OwnFits schema) (get_or_from_slice_get schema.graphs n graph graph is) (whole.graphs n graph (slice_get_within schema.graphs n graph is)) in
    (record { vertices = fit.vertices; edges = fit.edges }, λ g e. subst (OwnFits schema) (same_graph graph g e) fit)
  where
    same_graph : (a b : GraphType) → Some a ≡ Some b → a ≡ b
    same_graph a b e = cc
