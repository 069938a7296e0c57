-- SortLemmas: edge types by number, the vertex types that they lead to, and which types are the graph's.
use Rattle.std.proofs.Common.{if◌then◌else◌, ℕ, zero, suc, ◌+◌, ◌<◌, ◌≤◌, ◌≡◌, ◌==◌, Bool, true, false, List, [], ◌∷◌, ◌++◌, length, get_or, map, drop, Option, Some, None, refl, ap, sym, ◌∙◌, arith}
use Rattle.std.specs.List.{filter_map, flat_map, cons_option, list_any}
use Rattle.std.specs.Option.{option_to_list}
use Rattle.std.proofs.lemmas.List.{append-nil, append_assoc, drop_more, drop_all}
use Rattle.gq_tree.specs.declared.select.Way.{Way}
use Rattle.gq_graph.specs.Catalog.{Schema}
use Rattle.gq_rules_typing.specs.Patterns.{way_of}
use Rattle.gq_plan_ir.specs.declared.plan.Plan.{Plan}
use Rattle.gq_plan_ir.specs.Reference as reference
use Rattle.gq_plan_ir.specs.Reference.{Reference}
use Rattle.gq_exec_source.specs.Seen.{own_of, setting_for}

-- ---- ways that are named

pub no_way : (schema : Schema) (p : Plan) (w : Way) (t : ℕ) → list_any (λ m. m == t) p.edges ≡ false → way_of (setting_for schema p) (w, reference.EdgeType t) ≡ None
no_way schema p w t e = rw e refl

pub one_way : (schema : Schema) (p : Plan) (w : Way) (t : ℕ) → list_any (λ m. m == t) p.edges ≡ true → way_of (setting_for schema p) (w, reference.EdgeType t) ≡ Some (w, t)
one_way schema p w t e = rw e refl

pub ruleset named_way_laws = (no_way, one_way, append-nil)

-- one way more that is named, or none
pub named_more : {A B : Type 0} (E : B → List ℕ) (W : A → Option B) (w : A) (ws : List A)
    → flat_map E (filter_map W (w ∷ ws)) ≡ flat_map E (option_to_list (W w)) ++ flat_map E (filter_map W ws)
named_more {B = B} E W w ws = step (W w)
  where
    step : (o : Option B) → flat_map E (cons_option o (filter_map W ws)) ≡ flat_map E (option_to_list o) ++ flat_map E (filter_map W ws)
    step None = refl
    step (Some b) = ap (λ l. l ++ flat_map E (filter_map W ws)) (sym (append-nil (E b)))

-- ---- types that are named, one after the other

module _ {A B : Type 0} (W : A → Option B) where
  at_place : (xs : List A) (i : ℕ) (x : A) → i < length xs → x ≡ get_or xs i x → drop i xs ≡ x ∷ drop (i + 1) xs
  at_place xs i x n is = drop_more xs i x n ∙ ap (λ y. y ∷ drop (i + 1) xs) (sym is)

  pub left_out : (xs : List A) (i : ℕ) (x : A) (done : List B) → filter_map W xs ≡ done ++ filter_map W (drop i xs) → i < length xs → x ≡ get_or xs i x → W x ≡ None
      → filter_map W xs ≡ done ++ filter_map W (drop (i + 1) xs)
  left_out xs i x done h n is e = h ∙ ap (λ ys. done ++ filter_map W ys) (at_place xs i x n is) ∙ ap (λ o. done ++ cons_option o (filter_map W (drop (i + 1) xs))) e

  pub taken_in : (xs : List A) (i : ℕ) (x : A) (done new : List B) (y : B) → filter_map W xs ≡ done ++ filter_map W (drop i xs) → i < length xs → x ≡ get_or xs i x → W x ≡ Some y → new ≡ done ++ y ∷ []
      → filter_map W xs ≡ new ++ filter_map W (drop (i + 1) xs)
  taken_in xs i x done new y h n is e w =
      h ∙ ap (λ ys. done ++ filter_map W ys) (at_place xs i x n is) ∙ ap (λ o. done ++ cons_option o (filter_map W (drop (i + 1) xs))) e
      ∙ sym (append_assoc done (y ∷ []) (filter_map W (drop (i + 1) xs))) ∙ ap (λ l. l ++ filter_map W (drop (i + 1) xs)) (sym w)

  pub no_more : (xs : List A) (i : ℕ) (done : List B) → filter_map W xs ≡ done ++ filter_map W (drop i xs) → length xs ≤ i → done ≡ filter_map W xs
  no_more xs i done h l = sym (h ∙ ap (λ ys. done ++ filter_map W ys) (drop_all i xs l) ∙ append-nil done)

pub mapped_filter : {A B C : Type 0} (W : B → Option C) (f : A → B) (xs : List A) → filter_map W (map f xs) ≡ filter_map (λ x. W (f x)) xs
mapped_filter W f [] = refl
mapped_filter W f (x ∷ xs) = ap (cons_option (W (f x))) (mapped_filter W f xs)

pub edges_named : (schema : Schema) (p : Plan) (ts : List ℕ) → filter_map (own_of p.edges) ts ≡ filter_map (setting_for schema p).words.edge_type (map reference.EdgeType ts)
edges_named schema p ts = sym (mapped_filter (setting_for schema p).words.edge_type reference.EdgeType ts)

pub vertices_named : (schema : Schema) (p : Plan) (ts : List ℕ) → filter_map (own_of p.vertices) ts ≡ filter_map (setting_for schema p).words.vertex_type (map reference.VertexType ts)
vertices_named schema p ts = sym (mapped_filter (setting_for schema p).words.vertex_type reference.VertexType ts)

pub own_there : (own : List ℕ) (t : ℕ) → list_any (λ m. m == t) own ≡ true → own_of own t ≡ Some t
own_there own t e = rw e refl

pub own_missing : (own : List ℕ) (t : ℕ) → list_any (λ m. m == t) own ≡ false → own_of own t ≡ None
own_missing own t e = rw e refl

-- ---- those of a list that are the graph's

module _ (own : List ℕ) where
  pub own_left_out : (xs : List ℕ) (i x : ℕ) (done : List ℕ) → filter_map (own_of own) xs ≡ done ++ filter_map (own_of own) (drop i xs) → i < length xs → x ≡ get_or xs i x → list_any (λ m. m == x) own ≡ false
      → filter_map (own_of own) xs ≡ done ++ filter_map (own_of own) (drop (i + 1) xs)
  own_left_out xs i x done h n is e = left_out (own_of own) xs i x done h n is (own_missing own x e)

  pub own_taken : (xs : List ℕ) (i x : ℕ) (done new : List ℕ) → filter_map (own_of own) xs ≡ done ++ filter_map (own_of own) (drop i xs) → i < length xs → x ≡ get_or xs i x → list_any (λ m. m == x) own ≡ true → new ≡ done ++ x ∷ []
      → filter_map (own_of own) xs ≡ new ++ filter_map (own_of own) (drop (i + 1) xs)
  own_taken xs i x done new h n is e w = taken_in (own_of own) xs i x done new x h n is (own_there own x e) w

  pub own_all : (xs : List ℕ) (i : ℕ) (done : List ℕ) → filter_map (own_of own) xs ≡ done ++ filter_map (own_of own) (drop i xs) → length xs ≤ i → done ≡ filter_map (own_of own) xs
  own_all xs i done h l = no_more (own_of own) xs i done h l

pub ruleset own_laws = (own_left_out, own_taken, own_all)

pub ruleset own_type_laws = (own_there, own_missing)
