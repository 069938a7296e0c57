-- Rows built value by value, and an edge's row.
use Rattle.std.proofs.Common.{ℕ, suc, ℤ, ◌+◌, ◌-◌, ◌<◌, ◌≤◌, ◌≡◌, List, [], ◌∷◌, ◌++◌, length, get_or, take, drop, Option, Some, None, refl, ap, ◌∙◌, sym, arith, add-one, drop-cons}
use Rattle.std.proofs.lemmas.List.{take_all}
use Rattle.gq_tree.specs.declared.schema.Literal.{Literal}
use Rattle.gq_graph.specs.declared.types.Attribute.{Attribute}
use Rattle.gq_value.specs.declared.value.Value.{Value}
use Rattle.gq_graph.specs.Catalog.{Schema}
use Rattle.gq_load_check.specs.declared.job.Target.{Target}
use Rattle.gq_load_check.specs.declared.job.Target.TheVariants as targets
use Rattle.gq_load_check.specs.Targets.{edge_type_at}
use Rattle.gq_insert.specs.Inserts.{attribute_value, value_and, row_of, end_of, both, edge_with, insert_of}

-- the values of a row, appended to earlier ones
abbrev pub behind : List Value → Option (List Value) → Option (List Value)
behind before None = None
behind before (Some row) = Some (before ++ row)

next : {A : Type 0} (xs : List A) (i : ℕ) (x : A) → i < length xs → x ≡ get_or xs i x → drop i xs ≡ x ∷ drop (i + 1) xs
next xs i x low read = drop-cons xs i x low ∙ ap (λ y. y ∷ drop (suc i) xs) (sym read) ∙ ap (λ n. x ∷ drop n xs) (sym (add-one i))

seam : {A : Type 0} (l : List A) (x : A) (xs : List A) → (l ++ x ∷ []) ++ xs ≡ l ++ x ∷ xs
seam [] x xs = refl
seam (y ∷ l) x xs = ap (λ r. y ∷ r) (seam l x xs)

behind_and : (row : List Value) (v : Value) (rest : Option (List Value)) → behind row (value_and (Some v) rest) ≡ behind (row ++ v ∷ []) rest
behind_and row v None = refl
behind_and row v (Some rest) = ap Some (sym (seam row v rest))

pub row_step : (read : List ℕ → Option ℤ) (attributes : List Attribute) (values : List (Option Literal)) (row : List Value) (i : ℕ) (a : Attribute) (l : Option Literal) (v : Value)
    (whole : Option (List Value)) → i < length attributes → i < length values → a ≡ get_or attributes i a → l ≡ get_or values i l → attribute_value read a l ≡ Some v
    → whole ≡ behind row (row_of read (drop i attributes) (drop i values))
    → whole ≡ behind (row ++ v ∷ []) (row_of read (drop (i + 1) attributes) (drop (i + 1) values))
row_step read attributes values row i a l v whole low less first second is before =
    before
    ∙ ap (λ xs. behind row (row_of read xs (drop i values))) (next attributes i a low first)
    ∙ ap (λ ys. behind row (row_of read (a ∷ drop (i + 1) attributes) ys)) (next values i l less second)
    ∙ ap (λ o. behind row (value_and o (row_of read (drop (i + 1) attributes) (drop (i + 1) values)))) is
    ∙ behind_and row v (row_of read (drop (i + 1) attributes) (drop (i + 1) values))

-- the row of an edge type with at least two values
pub edge_is : (read : List ℕ → Option ℤ) (schema : Schema) (n : ℕ) (t : Target) (values : List (Option Literal)) (x y : Option Literal) → t ≡ targets.Edge n
    → 2 ≤ length values → x ≡ get_or values 0 x → y ≡ get_or values 1 y
    → edge_with schema n (both (end_of schema (edge_type_at schema n).from x) (end_of schema (edge_type_at schema n).to y))
    (row_of read (edge_type_at schema n).attributes (take (length values - 2) (drop 2 values)))
    ≡ insert_of read schema t values
edge_is read schema n t [] x y is long first second = absurd (omega (arith, long))
edge_is read schema n t (v ∷ []) x y is long first second = absurd (omega (arith, long))
edge_is read schema n t (v ∷ w ∷ values) x y is long first second =
    let rest = take (length (v ∷ w ∷ values) - 2) values in
    ap (λ z. edge_with schema n (both (end_of schema (edge_type_at schema n).from z) (end_of schema (edge_type_at schema n).to y))
    (row_of read (edge_type_at schema n).attributes rest)) first
    ∙ ap (λ z. edge_with schema n (both (end_of schema (edge_type_at schema n).from v) (end_of schema (edge_type_at schema n).to z))
    (row_of read (edge_type_at schema n).attributes rest)) second
    ∙ ap (λ l. edge_with schema n (both (end_of schema (edge_type_at schema n).from v) (end_of schema (edge_type_at schema n).to w))
    (row_of read (edge_type_at schema n).attributes l)) (take_all (length (v ∷ w ∷ values) - 2) values (omega arith))
    ∙ ap (λ k. insert_of read schema k (v ∷ w ∷ values)) (sym is)
