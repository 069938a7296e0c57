-- ExpressionGrowth: an expression that is typed over some types has the same type over more of them.
use Rattle.std.proofs.Common.{◌≡◌, ℕ, Bool, true, false, List, [], ◌∷◌, Option, Some, None, Ok, Err, refl, ap, sym, ◌∙◌}
use Rattle.std.specs.Prelude.{if◌then◌else◌, map, slice_get}
use Rattle.gq_tree.specs.Tree as trees
use Rattle.gq_tree.specs.Tree.{Tree, Behind, Trees, Parts, Factors, Terms, Number, Text, Truth, Global, Name, Call, Post, Neg, Mul, Sum, Cmp, Not, And, Or, Field, Attached, Before, no_tree, tree, no_part, part, no_factor, factor, no_term, term}
use Rattle.gq_value.specs.Accums.{Base, INT, STRING, VERTEX, VERTEX_OF, Accum}
use Rattle.gq_graph.specs.Candidates.{among}
use Rattle.gq_rules_typing.specs.Selecting.{Input, Plain, Keys, Inputs, no_input, input_and, Change, Adds, Puts}
use Rattle.gq_rules_typing.specs.Statements.{Bytes}
use Rattle.gq_rules_typing.specs.Sorts.{Fields, VertexSort, EdgeSort, Sorts, names_of, bases_of, vertex_fields, edge_fields}
use Rattle.gq_rules_typing.specs.Words.{Words, Setting, OfVertexType, OfEdgeType, Method, Outdegree, edge_quoted, function_named}
use Rattle.gq_rules_typing.specs.Judging.{Typed, Of, AliasOf, EdgeOf, MemberOf, Mismatch, NoAttribute, UnknownName, Judged, ◌>>=◌, ◌>>◌, unless, or_fault, each_judged}
use Rattle.gq_rules_typing.specs.Types.{as_base, alone, calculated, stands_for_vertex}
use Rattle.gq_rules_typing.specs.FieldTypes.{at_place, agreed, one_base, of_vertices, of_edges, field_type, has_type_name, behind_dot}
use Rattle.gq_rules_typing.specs.CallTypes.{outdegree_type, method_type, function_type}
use Rattle.gq_rules_typing.specs.ExpressionTypes.{Names, typing, typing_all, typing_parts, typing_part, typing_factors, typing_terms, typing_bools, before_dot, operated, both_bool, summed, base_type, condition, number, converting}
use Rattle.gq_rules_typing.specs.ActTypes.{typing_input, typing_inputs, kinds_of}
use Rattle.gq_rules_safety.proofs.Leads.{Leads, Keeps, kept, kept_as, or_kept, fails, kept_then, kept_on, leads_and}

-- more vertex and edge types, of the same graph
abbrev pub wider : Sorts → List VertexSort → List EdgeSort → Sorts
wider a vertices edges = record a { vertices = vertices; edges = edges }

-- the type of a field of a vertex type's number, of an edge type's
abbrev vertex_field : {N : Type 0} → Words N → Sorts → ℕ → N → Option Base
vertex_field words a t f = at_place (bases_of (vertex_fields a t)) (words.field (OfVertexType t) (names_of (vertex_fields a t)) f)

abbrev edge_field : {N : Type 0} → Words N → Sorts → ℕ → N → Option Base
edge_field words a t f = at_place (bases_of (edge_fields a t)) (words.field (OfEdgeType t) (names_of (edge_fields a t)) f)

-- existing fields keep their types, and the graph's edge types stay as they are
pub record SortsGrow {N : Type 0} (words : Words N) (a : Sorts) (vertices : List VertexSort) (edges : List EdgeSort) : Type 0 where
  pub vertex : (t : ℕ) (f : N) (c : Base) → vertex_field words a t f ≡ Some c → vertex_field words (wider a vertices edges) t f ≡ Some c
  pub edge : (t : ℕ) (f : N) (c : Base) → edge_field words a t f ≡ Some c → edge_field words (wider a vertices edges) t f ≡ Some c
  pub quoted : (e : Bytes) → edge_quoted (wider a vertices edges) e ≡ edge_quoted a e
  pub own : (t : ℕ) → among a.own_edges t ≡ true → slice_get edges t ≡ slice_get a.edges t
  pub word : (x : N) (t : ℕ) → words.edge_type x ≡ Some t → among a.own_edges t ≡ true

-- ---- one type of all

agreed_some : (o p : Option Base) (c : Base) → agreed o p ≡ Some c → ((d : Base) × (o ≡ Some d)) × ((e : Base) × (p ≡ Some e))
agreed_some None p c h = absurd (cc h)
agreed_some (Some d) None c h = absurd (cc h)
agreed_some (Some d) (Some e) c h = ((d, refl), (e, refl))

one_kept : (f g : ℕ → Option Base) → ((t : ℕ) (c : Base) → f t ≡ Some c → g t ≡ Some c) → (types : List ℕ) (c : Base) → one_base (map f types) ≡ Some c → one_base (map g types) ≡ Some c
one_kept f g h [] c e = absurd (cc e)
one_kept f g h (t ∷ []) c e = h t c e
one_kept f g h (t ∷ u ∷ rest) c e =
    let w = agreed_some (f t) (one_base (map f (u ∷ rest))) c e in
    ap (λ o. agreed o (one_base (map g (u ∷ rest)))) (h t w.0.0 w.0.1)
    ∙ ap (agreed (Some w.0.0)) (one_kept f g h (u ∷ rest) w.1.0 w.1.1)
    ∙ sym (ap (λ o. agreed o (one_base (map f (u ∷ rest)))) w.0.1 ∙ ap (agreed (Some w.0.0)) w.1.1)
    ∙ e

module _ {N : Type 0} (words : Words N) (a : Sorts) (vertices : List VertexSort) (edges : List EdgeSort) (h : SortsGrow words a vertices edges) (tuples : List (N × Fields)) where
  abbrev pub b : Sorts
  b = wider a vertices edges

  abbrev pub at₁ : Setting N
  at₁ = record { words = words; sorts = a; tuples = tuples }

  abbrev pub at₂ : Setting N
  at₂ = record { words = words; sorts = b; tuples = tuples }

  -- ---- fields

  vertices_kept : (types : List ℕ) (f : N) → Keeps (of_vertices at₁ types f) (of_vertices at₂ types f)
  vertices_kept types f =
      kept_on (or_fault (NoAttribute (words.said f)) (one_base (map (λ t. vertex_field words a t f) types))) (or_fault (NoAttribute (words.said f)) (one_base (map (λ t. vertex_field words b t f) types))) (λ c. Ok (Of c))
      (or_kept (NoAttribute (words.said f)) (one_base (map (λ t. vertex_field words a t f) types)) (one_base (map (λ t. vertex_field words b t f) types))
      (λ c e. one_kept (λ t. vertex_field words a t f) (λ t. vertex_field words b t f) (λ t d k. h.vertex t f d k) types c e))

  edges_kept : (types : List ℕ) (f : N) → Keeps (of_edges at₁ types f) (of_edges at₂ types f)
  edges_kept types f =
      kept_on (or_fault (NoAttribute (words.said f)) (one_base (map (λ t. edge_field words a t f) types))) (or_fault (NoAttribute (words.said f)) (one_base (map (λ t. edge_field words b t f) types))) (λ c. Ok (Of c))
      (or_kept (NoAttribute (words.said f)) (one_base (map (λ t. edge_field words a t f) types)) (one_base (map (λ t. edge_field words b t f) types))
      (λ c e. one_kept (λ t. edge_field words a t f) (λ t. edge_field words b t f) (λ t d k. h.edge t f d k) types c e))

  field_kept : (x : Typed) (f : N) → Keeps (field_type at₁ x f) (field_type at₂ x f)
  field_kept (AliasOf types) f = vertices_kept types f
  field_kept (MemberOf types) f = vertices_kept types f
  field_kept (Of (VERTEX_OF t)) f = vertices_kept (t ∷ []) f
  field_kept (Of VERTEX) f = vertices_kept a.own_vertices f
  field_kept (EdgeOf types) f = edges_kept types f
  field_kept x f = kept (field_type at₁ x f)

  dot_kept : (x : Typed) (f : N) → Keeps (behind_dot at₁ x f) (behind_dot at₂ x f)
  dot_kept x f = go (words.is_type f)
    where
      go : (q : Bool) → Keeps (if q then (unless Mismatch (has_type_name x) >> Ok (Of STRING)) else field_type at₁ x f) (if q then (unless Mismatch (has_type_name x) >> Ok (Of STRING)) else field_type at₂ x f)
      go true = kept (unless Mismatch (has_type_name x) >> Ok (Of STRING))
      go false = field_kept x f

  -- ---- methods

  outdegree_same : (x : Typed) (ts : Trees N) → outdegree_type a x ts ≡ outdegree_type b x ts
  outdegree_same x no_tree = refl
  outdegree_same x (tree (Text e) no_tree) = ap (λ o. unless Mismatch (stands_for_vertex x) >> or_fault (UnknownName e) o >> Ok (Of INT)) (sym (h.quoted e))
  outdegree_same x ts = refl

  method_same : (m : Method) (x : Typed) (ts : Trees N) (bs : List Base) → method_type a m x ts bs ≡ method_type b m x ts bs
  method_same Outdegree x ts bs = outdegree_same x ts
  method_same m x ts bs = refl

  module _ (names : Names N) where
    abbrev pub n₁ : Names N
    n₁ = record names { setting = at₁ }

    abbrev pub n₂ : Names N
    n₂ = record names { setting = at₂ }

    before_kept : (t : Tree N) → Keeps (typing n₁ t) (typing n₂ t) → Keeps (before_dot n₁ t (typing n₁ t)) (before_dot n₂ t (typing n₂ t))
    before_kept (Name x) e = kept (names.named x)
    before_kept t e = e

    -- ---- expressions

    mutual
      pub tree_kept : (t : Tree N) → Keeps (typing n₁ t) (typing n₂ t)
      tree_kept (Number n) = kept (typing n₁ (Number n))
      tree_kept (Text s) = kept (typing n₁ (Text s))
      tree_kept (Truth q) = kept (typing n₁ (Truth q))
      tree_kept (Global x) = kept (typing n₁ (Global x))
      tree_kept (Name x) = kept (typing n₁ (Name x))
      tree_kept (Call f ts) = kept_on (typing_all n₁ ts) (typing_all n₂ ts) (λ xs. or_fault (UnknownName (words.said f)) (function_named at₁ f) >>= λ g. each_judged as_base xs >>= function_type g ts) (trees_kept ts)
      tree_kept (Post t ps) = kept_then (before_dot n₁ t (typing n₁ t)) (before_dot n₂ t (typing n₂ t)) _ _ (before_kept t (tree_kept t)) (λ x. parts_kept ps x)
      tree_kept (Neg n t) = kept_on (typing n₁ t >>= as_base) (typing n₂ t >>= as_base) _ (kept_on (typing n₁ t) (typing n₂ t) as_base (tree_kept t))
      tree_kept (Mul t fs) = kept_then (typing n₁ t) (typing n₂ t) _ _ (tree_kept t) (λ x. factors_kept fs x)
      tree_kept (Sum t ts) = kept_then (typing n₁ t) (typing n₂ t) _ _ (tree_kept t) (λ x. terms_kept ts x)
      tree_kept (Cmp s c t) = kept_then (typing n₁ s) (typing n₂ s) _ _ (tree_kept s) (λ x. kept_on (typing n₁ t) (typing n₂ t) _ (tree_kept t))
      tree_kept (Not n t) = kept_on (typing n₁ t >>= as_base) (typing n₂ t >>= as_base) _ (kept_on (typing n₁ t) (typing n₂ t) as_base (tree_kept t))
      tree_kept (And t ts) = kept_then (typing n₁ t) (typing n₂ t) _ _ (tree_kept t) (λ x. bools_kept ts x)
      tree_kept (Or t ts) = kept_then (typing n₁ t) (typing n₂ t) _ _ (tree_kept t) (λ x. bools_kept ts x)

      pub trees_kept : (ts : Trees N) → Keeps (typing_all n₁ ts) (typing_all n₂ ts)
      trees_kept no_tree = kept (Ok [])
      trees_kept (tree t ts) = kept_then (typing n₁ t) (typing n₂ t) _ _ (tree_kept t) (λ x. kept_on (typing_all n₁ ts) (typing_all n₂ ts) _ (trees_kept ts))

      parts_kept : (ps : Parts N) (x : Typed) → Keeps (typing_parts n₁ x ps) (typing_parts n₂ x ps)
      parts_kept no_part x = kept (alone x)
      parts_kept (part p ps) x = kept_then (typing_part n₁ x p) (typing_part n₂ x p) _ _ (part_kept p x) (λ y. parts_kept ps y)

      part_kept : (p : Behind N) (x : Typed) → Keeps (typing_part n₁ x p) (typing_part n₂ x p)
      part_kept (Field f) x = dot_kept x f
      part_kept (trees.Method m ts) x =
          kept_then (typing_all n₁ ts) (typing_all n₂ ts) _ _ (trees_kept ts) (λ ys. kept_then (or_fault (UnknownName (words.said m)) (words.method m)) _ _ _ (kept (or_fault (UnknownName (words.said m)) (words.method m)))
          (λ f. kept_then (each_judged as_base ys) _ _ _ (kept (each_judged as_base ys)) (λ bs. kept_as (method_type a f x ts bs) (method_type b f x ts bs) (method_same f x ts bs))))
      part_kept (Attached y) x = kept (typing_part n₁ x (Attached y))
      part_kept (Before y) x = kept (typing_part n₁ x (Before y))

      factors_kept : (fs : Factors N) (x : Typed) → Keeps (typing_factors n₁ x fs) (typing_factors n₂ x fs)
      factors_kept no_factor x = kept (Ok x)
      factors_kept (factor c t rest) x =
          kept_then (typing n₁ t >>= operated calculated x) (typing n₂ t >>= operated calculated x) _ _ (kept_on (typing n₁ t) (typing n₂ t) (operated calculated x) (tree_kept t)) (λ y. factors_kept rest y)

      terms_kept : (ts : Terms N) (x : Typed) → Keeps (typing_terms n₁ x ts) (typing_terms n₂ x ts)
      terms_kept no_term x = kept (Ok x)
      terms_kept (term c t rest) x =
          kept_then (typing n₁ t >>= operated (summed c) x) (typing n₂ t >>= operated (summed c) x) _ _ (kept_on (typing n₁ t) (typing n₂ t) (operated (summed c) x) (tree_kept t)) (λ y. terms_kept rest y)

      bools_kept : (ts : Trees N) (x : Typed) → Keeps (typing_bools n₁ x ts) (typing_bools n₂ x ts)
      bools_kept no_tree x = kept (typing_bools n₁ x no_tree)
      bools_kept (tree t ts) x =
          kept_then (typing n₁ t >>= operated both_bool x) (typing n₂ t >>= operated both_bool x) _ _ (kept_on (typing n₁ t) (typing n₂ t) (operated both_bool x) (tree_kept t)) (λ y. bools_kept ts y)

    -- ---- the types that a place requires

    pub base_kept : (t : Tree N) → Keeps (base_type n₁ t) (base_type n₂ t)
    base_kept t = kept_on (typing n₁ t) (typing n₂ t) as_base (tree_kept t)

    pub condition_kept : (t : Tree N) → Keeps (condition n₁ t) (condition n₂ t)
    condition_kept t = kept_on (base_type n₁ t) (base_type n₂ t) _ (base_kept t)

    pub number_kept : (t : Tree N) → Keeps (number n₁ t) (number n₂ t)
    number_kept t = kept_on (base_type n₁ t) (base_type n₂ t) _ (base_kept t)

    pub converting_kept : (c : Base) (t : Tree N) → Keeps (converting n₁ c t) (converting n₂ c t)
    converting_kept c t = kept_on (base_type n₁ t) (base_type n₂ t) _ (base_kept t)

    -- ---- inputs

    mutual
      pub input_kept : (k : Option Accum) (x : Input N) → Keeps (typing_input n₁ k x) (typing_input n₂ k x)
      input_kept k (Plain t) = kept_on (base_type n₁ t) (base_type n₂ t) _ (base_kept t)
      input_kept k (Keys ts xs) =
          kept_then (typing_all n₁ ts) (typing_all n₂ ts) _ _ (trees_kept ts)
          (λ types. kept_on (typing_inputs n₁ (kinds_of k) xs >> each_judged as_base types) (typing_inputs n₂ (kinds_of k) xs >> each_judged as_base types) _
          (leads_and (typing_inputs n₁ (kinds_of k) xs) (typing_inputs n₂ (kinds_of k) xs) (each_judged as_base types) (each_judged as_base types) (inputs_kept (kinds_of k) xs) (kept (each_judged as_base types))))

      inputs_kept : (ks : List Accum) (xs : Inputs N) → Keeps (typing_inputs n₁ ks xs) (typing_inputs n₂ ks xs)
      inputs_kept ks no_input = kept (Ok true)
      inputs_kept [] (input_and x xs) = leads_and (typing_input n₁ None x) (typing_input n₂ None x) (typing_inputs n₁ [] xs) (typing_inputs n₂ [] xs) (input_kept None x) (inputs_kept [] xs)
      inputs_kept (k ∷ ks) (input_and x xs) = leads_and (typing_input n₁ (Some k) x) (typing_input n₂ (Some k) x) (typing_inputs n₁ ks xs) (typing_inputs n₂ ks xs) (input_kept (Some k) x) (inputs_kept ks xs)
