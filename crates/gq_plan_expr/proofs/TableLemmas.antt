-- TableLemmas: the table of vertex types, built by number; and the field names of a tuple type.
use Rattle.std.proofs.Common.{◌≡◌, ◌+◌, ◌<◌, ◌≤◌, ℕ, suc, List, [], ◌∷◌, ◌++◌, length, get_or, map, drop, Option, Some, refl, sym, ap, ◌∙◌, add-one}
use Rattle.std.specs.Prelude.{slice_get}
use Rattle.std.proofs.lemmas.List.{drop_all}
use Rattle.std.proofs.lemmas.Option.{get_or_from_slice_get, slice_get_within}
use Rattle.std.proofs.Math.Seq.{drop-cons}
use Rattle.gq_graph.specs.declared.types.VertexType.{VertexType}
use Rattle.gq_rules_typing.specs.Statements.{Bytes}
use Rattle.gq_value.specs.declared.kind.BaseType.{BaseType}
use Rattle.gq_rules_typing.specs.Sorts.{vertex_sort, names_of}
use Rattle.gq_rules_typing.specs.Words.{place_of}
use Rattle.gq_plan_expr.specs.Found.{TupleTypes, plain_fields, in_vertex, in_tuple}
use Rattle.gq_plan_expr.proofs.RowLemmas.{row_one, row_all, left_at}

from_place : {A : Type 0} (xs : List A) (i : ℕ) (x : A) → slice_get xs i ≡ Some x → drop i xs ≡ x ∷ drop (i + 1) xs
from_place xs i x is =
    let low = slice_get_within xs i x is in
    drop-cons xs i x low ∙ ap (λ y. y ∷ drop (suc i) xs) (get_or_from_slice_get xs i x x is) ∙ ap (λ (n : ℕ). x ∷ drop n xs) (sym (add-one i))

abbrev pub places_in : Bytes → List VertexType → List (Option ℕ)
places_in f types = map (in_vertex f) (map vertex_sort types)

pub vertex_next : (f : Bytes) (types : List VertexType) (n : ℕ) (t : VertexType) (done all : List (Option ℕ)) → slice_get types n ≡ Some t → all ≡ done ++ places_in f (drop n types)
    → all ≡ (done ++ in_vertex f (vertex_sort t) ∷ []) ++ places_in f (drop (n + 1) types)
vertex_next f types n t done all at so_far =
    so_far ∙ (ap (λ ts. done ++ places_in f ts) (from_place types n t at) ∙ row_one done (in_vertex f (vertex_sort t)) (places_in f (drop (n + 1) types)))

pub vertices_end : (f : Bytes) (types : List VertexType) (n : ℕ) (done all : List (Option ℕ)) → length types ≤ n → all ≡ done ++ places_in f (drop n types) → all ≡ done
vertices_end f types n done all end so_far = so_far ∙ (ap (λ ts. done ++ places_in f ts) (drop_all n types end) ∙ row_all done)

pub ruleset table_laws = (vertex_next, vertices_end)

-- ---- the field names of a tuple type

names_plain : (fields : List (Bytes × BaseType)) → map (λ (f : Bytes × BaseType). f.0) fields ≡ names_of (plain_fields fields)
names_plain [] = refl
names_plain (f ∷ fields) = ap (λ l. f.0 ∷ l) (names_plain fields)

-- a tuple type's index is that among the names
pub tuple_next : (f : Bytes) (ts : TupleTypes) (n : ℕ) (t : Bytes × List (Bytes × BaseType)) (place : Option ℕ) (done all : List (Option ℕ)) → n < length ts → t ≡ get_or ts n t
    → place ≡ place_of (map (λ (g : Bytes × BaseType). g.0) t.1) f → all ≡ done ++ map (in_tuple f) (drop n ts) → all ≡ (done ++ place ∷ []) ++ map (in_tuple f) (drop (n + 1) ts)
tuple_next f ts n t place done all low is at so_far =
    so_far ∙ (ap (λ l. done ++ map (in_tuple f) l) (left_at ts n t low is) ∙ (row_one done (in_tuple f t) (map (in_tuple f) (drop (n + 1) ts))
    ∙ ap (λ (o : Option ℕ). (done ++ o ∷ []) ++ map (in_tuple f) (drop (n + 1) ts)) (sym (at ∙ ap (λ names. place_of names f) (names_plain t.1)))))
