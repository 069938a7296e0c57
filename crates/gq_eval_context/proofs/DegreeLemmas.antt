-- DegreeLemmas: how many edges can be walked, in the cases of the code.
use Rattle.std.proofs.Common.{◌≡◌, ℕ, suc, ◌+◌, ◌*◌, ◌<◌, ◌≤◌, ◌==◌, Bool, true, false, List, [], ◌∷◌, map, drop, length, get_or, Option, Some, None, pos, refl, sym, ap, ◌∙◌, arith, filter}
use Rattle.std.specs.List.{slice_get, list_any}
use Rattle.std.specs.Prelude.{if◌then◌else◌}
use Rattle.std.specs.Option.{option_map, is_some, unwrap_or}
use Rattle.std.proofs.lemmas.List.{drop_more, drop_all, length-map}
use Rattle.std.proofs.lemmas.Bool.Decides.{nat_tests}
use Rattle.gq_graph.specs.Catalog.{edge_names, edge_type_of, most_types}
use Rattle.gq_graph.specs.Candidates.{Sight, led_to, far_end, degree}
use Rattle.gq_graph.specs.Edges.{most_edges}
use Rattle.gq_graph.specs.declared.types.EdgeType.{EdgeType}
use Rattle.gq_graph.specs.declared.rows.EdgeRow.{EdgeRow}
use Rattle.gq_graph.specs.declared.rows.VertexRow.{VertexRow}
use Rattle.gq_index.specs.declared.store.Graph as code
use Rattle.gq_index.specs.declared.walks.Traversal.{Traversal}
use Rattle.gq_index.specs.Sights.{sight_of}
use Rattle.gq_index.specs.Walks.{adjacency}
use Rattle.gq_index.specs.Rows.{HaveEnds}
use Rattle.gq_rules_typing.specs.Sorts.{EdgeSort, edge_sort}
use Rattle.gq_rules_typing.specs.Words.{place_of, if_own, edge_quoted}
use Rattle.gq_rules_meaning.specs.Calls.{sum, degree_of}
use Rattle.gq_eval_attributes.specs.Worlds.{graph_is}

-- ---- of one type

abbrev seen : code.Graph → Sight
seen g = sight_of g.catalog.now g.store.now.vertices g.store.now.edges

abbrev by_type : Sight → ℕ → ℕ → Option EdgeType → ℕ
by_type sight v k None = 0
by_type sight v k (Some t) = degree sight (k, t) v

-- the entries of the index
abbrev IndexTells : List (List Traversal) → ℕ → ℕ → ℕ → Type 0
IndexTells index v k r = (sight : Sight) → (type : EdgeType) → index ≡ adjacency sight → v < length sight.kinds → slice_get sight.types k ≡ Some type → r ≡ degree sight (k, type) v

of_type : (g : code.Graph) (own : List ℕ) (v k : ℕ) (o : Option EdgeType) → slice_get g.catalog.now.edge_types k ≡ o → by_type (seen g) v k o ≡ degree_of (graph_is g own own) v k
of_type g own v k o e = ap (by_type (seen g) v k) (sym e)

pub no_type : (g : code.Graph) (own : List ℕ) (v k : ℕ) → slice_get g.catalog.now.edge_types k ≡ None → 0 ≡ degree_of (graph_is g own own) v k
no_type g own v k e = of_type g own v k None e

there : (g : code.Graph) (v k r : ℕ) (t : EdgeType) → IndexTells g.index.now v k r → g.index.now ≡ adjacency (seen g) → v < length g.store.now.vertices → slice_get g.catalog.now.edge_types k ≡ Some t → r ≡ degree (seen g) (k, t) v
there g v k r t h i l e = h (seen g) t i (let m = length-map g.store.now.vertices (λ (row : VertexRow). row.kind) in omega (arith, m, l)) e

pub vertex_there : (g : code.Graph) (own : List ℕ) (v k r : ℕ) (t : EdgeType) → IndexTells g.index.now v k r → g.index.now ≡ adjacency (sight_of g.catalog.now g.store.now.vertices g.store.now.edges) → v < length g.store.now.vertices → slice_get g.catalog.now.edge_types k ≡ Some t → r ≡ degree_of (graph_is g own own) v k
vertex_there g own v k r t h i l e = there g v k r t h i l e ∙ of_type g own v k (Some t) e

filter_within : {A : Type 0} (p : A → Bool) (xs : List A) → length (filter p xs) ≤ length xs
filter_within p [] = omega arith
filter_within p (x ∷ xs) = go (p x) refl (filter_within p xs)
  where
    go : (b : Bool) → p x ≡ b → length (filter p xs) ≤ length xs → length (filter p (x ∷ xs)) ≤ length (x ∷ xs)
    go true e r = let f : length (filter p (x ∷ xs)) ≡ length (x ∷ filter p xs) = ap (λ b. length (if b then x ∷ filter p xs else filter p xs)) e in omega (arith, r, f)
    go false e r = let f : length (filter p (x ∷ xs)) ≡ length (filter p xs) = ap (λ b. length (if b then x ∷ filter p xs else filter p xs)) e in omega (arith, r, f)

pub few_edges : (g : code.Graph) (v k r : ℕ) (t : EdgeType) → IndexTells g.index.now v k r → g.index.now ≡ adjacency (sight_of g.catalog.now g.store.now.vertices g.store.now.edges) → v < length g.store.now.vertices → slice_get g.catalog.now.edge_types k ≡ Some t → length g.store.now.edges.rows ≤ most_edges → r ≤ most_edges
few_edges g v k r t h i l e m = let d = there g v k r t h i l e in let w = filter_within (λ edge. is_some (far_end (k, t) edge v)) g.store.now.edges.rows in omega (arith, d, w, m)

-- ---- a vertex that isn't there

apart : (a v n : ℕ) → a < n → n ≤ v → (a == v) ≡ false
apart a v n h l = grind (arith, nat_tests)

leads_nowhere : (t : EdgeType) (e : EdgeRow) (v n : ℕ) → e.from < n → e.to < n → n ≤ v → led_to t e v ≡ None
leads_nowhere t e v n f h l = go (is_some t.forward) t.directed (apart e.from v n f l) (apart e.to v n h l)
  where
    back : Bool → Option ℕ
    back b = if b then Some e.from else None

    chosen : Bool → Bool → Bool → Bool → Option ℕ
    chosen reverse directed from to = if reverse then back to else (if from then Some e.to else (if directed then None else back to))

    go : (reverse directed : Bool) → (e.from == v) ≡ false → (e.to == v) ≡ false → chosen reverse directed (e.from == v) (e.to == v) ≡ None
    go true directed p q = ap back q
    go false true p q = ap (λ b. chosen false true b (e.to == v)) p
    go false false p q = ap (λ b. chosen false false b (e.to == v)) p ∙ ap back q

no_far_end : (k : ℕ) (t : EdgeType) (e : EdgeRow) (v n : ℕ) → e.from < n → e.to < n → n ≤ v → is_some (far_end (k, t) e v) ≡ false
no_far_end k t e v n f h l = go (e.kind == unwrap_or t.forward k)
  where
    go : (b : Bool) → is_some (if b then led_to t e v else None) ≡ false
    go true = ap is_some (leads_nowhere t e v n f h l)
    go false = refl

none_left : (k : ℕ) (t : EdgeType) (v n : ℕ) (es : List EdgeRow) → ((r : ℕ) (e : EdgeRow) → slice_get es r ≡ Some e → e.from < n) → ((r : ℕ) (e : EdgeRow) → slice_get es r ≡ Some e → e.to < n) → n ≤ v → length (filter (λ edge. is_some (far_end (k, t) edge v)) es) ≡ 0
none_left k t v n [] f h l = refl
none_left k t v n (e ∷ es) f h l =
    ap (λ b. length (if b then e ∷ filter (λ edge. is_some (far_end (k, t) edge v)) es else filter (λ edge. is_some (far_end (k, t) edge v)) es)) (no_far_end k t e v n (f 0 e refl) (h 0 e refl) l)
    ∙ none_left k t v n es (λ r. f (suc r)) (λ r. h (suc r)) l

pub vertex_gone : (g : code.Graph) (own : List ℕ) (v k : ℕ) (t : EdgeType) → HaveEnds g.store.now.vertices g.store.now.edges.rows → length g.store.now.vertices ≤ v → slice_get g.catalog.now.edge_types k ≡ Some t → 0 ≡ degree_of (graph_is g own own) v k
vertex_gone g own v k t ends l e = sym (none_left k t v (length g.store.now.vertices) g.store.now.edges.rows ends.from ends.to l) ∙ of_type g own v k (Some t) e

pub ruleset walked_laws = (no_type, vertex_there, few_edges, vertex_gone)

-- ---- of several types

-- the count so far, and that of the remaining types
pub record Counted (g : code.Graph) (own : List ℕ) (v i total : ℕ) : Type 0 where
  pub all : total + sum (map (degree_of (graph_is g own own) v) (drop i own)) ≡ sum (map (degree_of (graph_is g own own) v) own)
  pub few : total ≤ i * most_edges

pub counted_first : (g : code.Graph) (own : List ℕ) (v : ℕ) → Counted g own v 0 0
counted_first g own v = record { all = omega arith; few = omega arith }

pub counted_more : (g : code.Graph) (own : List ℕ) (v i total k n more : ℕ) → Counted g own v i total → i < length own → k ≡ get_or own i 0 → n ≡ degree_of (graph_is g own own) v k → n ≤ most_edges → more ≡ total + n → Counted g own v (i + 1) more
counted_more g own v i total k n more c l at is few added = record {
  all = let a = c.all in let d : sum (map (degree_of (graph_is g own own) v) (drop i own)) ≡ degree_of (graph_is g own own) v k + sum (map (degree_of (graph_is g own own) v) (drop (i + 1) own)) = ap (λ ks. sum (map (degree_of (graph_is g own own) v) ks)) (drop_more own i 0 l ∙ ap (λ k. k ∷ drop (i + 1) own) (sym at)) in
      omega (arith, a, d, is, added);
  few = let f = c.few in omega (arith, f, few, added);
}

pub counted_all : (g : code.Graph) (own : List ℕ) (v i total : ℕ) → Counted g own v i total → length own ≤ i → pos total ≡ pos (sum (map (degree_of (graph_is g own own) v) own))
counted_all g own v i total c l = ap pos (let a = c.all in let d = ap (λ ks. sum (map (degree_of (graph_is g own own) v) ks)) (drop_all i own l) in omega (arith, a, d))

pub counted_few : (g : code.Graph) (own : List ℕ) (v i total : ℕ) → Counted g own v i total → i ≤ length own → length own ≤ most_types → total ≤ most_types * most_edges
counted_few g own v i total c l m = let f = c.few in omega (arith, f, l, m)

pub ruleset sum_laws = (counted_first, counted_more, counted_all, counted_few)

-- ---- of the type of a name

names_are : (types : List EdgeType) → map (λ (s : EdgeSort). s.name) (map edge_sort types) ≡ edge_names types
names_are [] = refl
names_are (t ∷ ts) = ap (λ ns. t.name ∷ ns) (names_are ts)

quoted_is : (g : code.Graph) (own e : List ℕ) → edge_quoted (graph_is g own own).sorts e ≡ if_own own (edge_type_of g.catalog.now e)
quoted_is g own e = ap (λ ns. if_own own (place_of ns e)) (names_are g.catalog.now.edge_types)

pub no_name : (g : code.Graph) (own : List ℕ) (v : ℕ) (e : List ℕ) → None ≡ edge_type_of g.catalog.now e → option_map pos (option_map (degree_of (graph_is g own own) v) (edge_quoted (graph_is g own own).sorts e)) ≡ None
no_name g own v e h = ap (λ o. option_map pos (option_map (degree_of (graph_is g own own) v) o)) (quoted_is g own e ∙ ap (if_own own) (sym h))

pub own_name : (g : code.Graph) (own : List ℕ) (v : ℕ) (e : List ℕ) (k n : ℕ) → Some k ≡ edge_type_of g.catalog.now e → list_any (λ m. m == k) own ≡ true → n ≡ degree_of (graph_is g own own) v k → option_map pos (option_map (degree_of (graph_is g own own) v) (edge_quoted (graph_is g own own).sorts e)) ≡ Some (pos n)
own_name g own v e k n h a is =
    ap (λ o. option_map pos (option_map (degree_of (graph_is g own own) v) o)) (quoted_is g own e ∙ ap (if_own own) (sym h) ∙ ap (λ b. if b then Some k else None) a)
    ∙ ap (λ n. Some (pos n)) (sym is)

pub other_name : (g : code.Graph) (own : List ℕ) (v : ℕ) (e : List ℕ) (k : ℕ) → Some k ≡ edge_type_of g.catalog.now e → list_any (λ m. m == k) own ≡ false → option_map pos (option_map (degree_of (graph_is g own own) v) (edge_quoted (graph_is g own own).sorts e)) ≡ None
other_name g own v e k h a = ap (λ o. option_map pos (option_map (degree_of (graph_is g own own) v) o)) (quoted_is g own e ∙ ap (if_own own) (sym h) ∙ ap (λ b. if b then Some k else None) a)

pub ruleset name_laws = (no_name, own_name, other_name)
