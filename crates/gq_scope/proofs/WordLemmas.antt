-- The types of the catalog by name and by number, as the rules of typing have them; and tuple types by name.
use Rattle.std.proofs.Common.{ℕ, ◌+◌, ◌≡◌, Bool, cond, List, [], ◌∷◌, map, Some, refl, ap, sym, ◌∙◌}
use Rattle.std.specs.List.{position, position_from}
use Rattle.std.proofs.lemmas.Iterator.Adapters.{position_from-zero}
use Rattle.gq_graph.specs.Catalog.{vertex_names, edge_names}
use Rattle.gq_graph.specs.declared.types.VertexType.{VertexType}
use Rattle.gq_graph.specs.declared.types.EdgeType.{EdgeType}
use Rattle.gq_rules_typing.specs.Statements.{Bytes}
use Rattle.gq_rules_typing.specs.Sorts.{VertexSort, EdgeSort, vertex_sort, edge_sort}

pub vertex_sorts : (ts : List VertexType) → vertex_names ts ≡ map (λ (s : VertexSort). s.name) (map vertex_sort ts)
vertex_sorts [] = refl
vertex_sorts (t ∷ ts) = ap (λ ns. t.name ∷ ns) (vertex_sorts ts)

pub edge_sorts : (ts : List EdgeType) → edge_names ts ≡ map (λ (s : EdgeSort). s.name) (map edge_sort ts)
edge_sorts [] = refl
edge_sorts (t ∷ ts) = ap (λ ns. t.name ∷ ns) (edge_sorts ts)

named_from : {A B : Type 0} (f : A → B) (p : Bytes → Bool) (n : ℕ) (ts : List (Bytes × A))
    → position_from (λ (t : Bytes × A). p t.0) n ts ≡ position_from (λ (t : Bytes × B). p t.0) n (map {A = Bytes × A} {B = Bytes × B} (λ t. (t.0, f t.1)) ts)
named_from f p n [] = refl
named_from f p n (t ∷ ts) = ap (cond (p t.0) (Some n)) (named_from f p (n + 1) ts)

-- the place of a name doesn't depend on the values
pub named_place : {A B : Type 0} (f : A → B) (p : Bytes → Bool) (ts : List (Bytes × A))
    → position (λ (t : Bytes × A). p t.0) ts ≡ position (λ (t : Bytes × B). p t.0) (map {A = Bytes × A} {B = Bytes × B} (λ t. (t.0, f t.1)) ts)
named_place {A = A} {B = B} f p ts =
    position_from-zero (λ (t : Bytes × A). p t.0) ts ∙ named_from f p 0 ts
    ∙ sym (position_from-zero (λ (t : Bytes × B). p t.0) (map {A = Bytes × A} {B = Bytes × B} (λ t. (t.0, f t.1)) ts))
