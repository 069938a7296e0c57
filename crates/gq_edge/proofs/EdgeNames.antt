-- The name of an edge as one value: two edges have the same name exactly if their types, their ends in order, and the
-- values of their discriminators are the same.
use Rattle.std.proofs.Common.{ℕ, ◌+◌, ◌*◌, ◌%◌, ◌<◌, ◌≡◌, ◌==◌, nat_lt, nat_le, cond, ◌&&◌, ◌||◌, not, Bool, true, false, List, [], ◌∷◌, take, map, refl, ap, sym, ◌∙◌, arith, eq-eqb}
use Rattle.std.specs.declared.cmp.Ordering.{Ordering}
use Rattle.std.specs.declared.cmp.Ordering.TheVariants.{Less, Equal, Greater}
use Rattle.std.specs.Ordering.{is_eq, ordering_reverse}
use Rattle.std.proofs.lemmas.Bool.Decides.{nat_tests}
use Rattle.gq_value.specs.declared.value.Value.{Value}
use Rattle.gq_graph.specs.declared.rows.EdgeRow.{EdgeRow}
use Rattle.gq_graph.specs.declared.rows.Naming.{Naming}
use Rattle.gq_value.specs.Val.{Val}
use Rattle.gq_value.specs.Views.{val}
use Rattle.gq_value.specs.Order.{place}
use Rattle.gq_value.specs.OrderLaws.{place_same, place_total}
use Rattle.gq_graph.specs.Edges.{same_value, same_values, same_ends, is_edge}
use Rattle.gq_base.specs.Hash.{mixed}
use Rattle.gq_edge.specs.Keyed.{first_end, second_end, values_hash, tag_of, edge_tag, edge_key, HasEnds}

pub record EdgeName : Type 0 where
  pub kind : ℕ
  pub first : ℕ
  pub second : ℕ
  pub values : List Val

abbrev name : ℕ → ℕ → ℕ → List Val → EdgeName
name kind first second values = record { kind = kind; first = first; second = second; values = values }

abbrev pub name_of : Naming → EdgeRow → EdgeName
name_of naming edge =
    name edge.kind (first_end naming.directed edge.from edge.to) (second_end naming.directed edge.from edge.to) (map val (take naming.key edge.attributes))

pub name_same : {k m f g s t : ℕ} {v w : List Val} → k ≡ m → f ≡ g → s ≡ t → v ≡ w → name k f s v ≡ name m g t w
name_same {k} {m} {f} {g} {s} {t} {v} {w} a b c d =
    ap (λ x. name x f s v) a ∙ ap (λ x. name m x s v) b ∙ ap (λ x. name m g x v) c ∙ ap (λ x. name m g t x) d

both : (a b : Bool) → (a && b) ≡ true → (a ≡ true) × (b ≡ true)
both true b is = (refl, is)
both false b is = absurd (cc)

equal_is : (o : Ordering) → is_eq o ≡ true → o ≡ Equal
equal_is Less is = absurd (cc)
equal_is Equal is = refl
equal_is Greater is = absurd (cc)

own_reverse : (o : Ordering) → o ≡ ordering_reverse o → o ≡ Equal
own_reverse Less is = absurd (cc)
own_reverse Equal is = refl
own_reverse Greater is = absurd (cc)

pub place_own : (a : Val) → place a a ≡ Equal
place_own a = own_reverse (place a a) (place_total.antisymm a a)

values_held : (xs ys : List Value) → same_values xs ys ≡ true → map val xs ≡ map val ys
values_held [] [] is = refl
values_held [] (y ∷ ys) is = absurd (cc)
values_held (x ∷ xs) [] is = absurd (cc)
values_held (x ∷ xs) (y ∷ ys) is =
    let parts = both (same_value x y) (same_values xs ys) is in
    ap (λ v. v ∷ map val xs) (place_same (val x) (val y) (equal_is (place (val x) (val y)) parts.0)) ∙ ap (λ vs. val y ∷ vs) (values_held xs ys parts.1)

values_same : (xs ys : List Value) → map val xs ≡ map val ys → same_values xs ys ≡ true
values_same [] [] is = refl
values_same [] (y ∷ ys) is = absurd (cc)
values_same (x ∷ xs) [] is = absurd (cc)
values_same (x ∷ xs) (y ∷ ys) is =
    let head : val x ≡ val y = cc in let tail : map val xs ≡ map val ys = cc in
    ap (λ v. is_eq (place (val x) v) && same_values xs ys) (sym head) ∙ ap (λ o. is_eq o && same_values xs ys) (place_own (val x)) ∙ values_same xs ys tail

abbrev same_ends_of : Bool → ℕ → ℕ → ℕ → ℕ → Bool
same_ends_of directed from to a b = ((a == from) && (b == to)) || (not directed && ((a == to) && (b == from)))

ends_first : (directed : Bool) (from to a b : ℕ) → same_ends_of directed from to a b ≡ true → first_end directed from to ≡ first_end directed a b
ends_first true from to a b is = grind (arith, nat_tests)
ends_first false from to a b is = grind (arith, nat_tests)

ends_second : (directed : Bool) (from to a b : ℕ) → same_ends_of directed from to a b ≡ true → second_end directed from to ≡ second_end directed a b
ends_second true from to a b is = grind (arith, nat_tests)
ends_second false from to a b is = grind (arith, nat_tests)

ends_same : (directed : Bool) (from to a b : ℕ) → first_end directed from to ≡ first_end directed a b → second_end directed from to ≡ second_end directed a b
    → same_ends_of directed from to a b ≡ true
ends_same true from to a b first second = grind (arith, nat_tests)
ends_same false from to a b first second = grind (arith, nat_tests)

is_equal : (a b : ℕ) → (a == b) ≡ true → a ≡ b
is_equal a b h = grind (arith, nat_tests)

-- an edge that passes the test has the name
pub named_so : (naming : Naming) (a b : EdgeRow) → is_edge naming a b ≡ true → name_of naming a ≡ name_of naming b
named_so naming a b is =
    let p = both (b.kind == a.kind) (same_ends naming.directed a b && same_values (take naming.key a.attributes) (take naming.key b.attributes)) is in
    let q = both (same_ends naming.directed a b) (same_values (take naming.key a.attributes) (take naming.key b.attributes)) p.1 in
    name_same (sym (is_equal b.kind a.kind p.0)) (ends_first naming.directed a.from a.to b.from b.to q.0) (ends_second naming.directed a.from a.to b.from b.to q.0)
    (values_held (take naming.key a.attributes) (take naming.key b.attributes) q.1)

-- an edge of the name passes the test
pub is_named : (naming : Naming) (a b : EdgeRow) → name_of naming a ≡ name_of naming b → is_edge naming a b ≡ true
is_named naming a b same =
    let kind = eq-eqb b.kind a.kind (sym (ap (λ (n : EdgeName). n.kind) same)) in
    let ends = ends_same naming.directed a.from a.to b.from b.to (ap (λ (n : EdgeName). n.first) same) (ap (λ (n : EdgeName). n.second) same) in
    let values = values_same (take naming.key a.attributes) (take naming.key b.attributes) (ap (λ (n : EdgeName). n.values) same) in
    ap (λ t. t && (same_ends naming.directed a b && same_values (take naming.key a.attributes) (take naming.key b.attributes))) kind
    ∙ ap (λ t. t && same_values (take naming.key a.attributes) (take naming.key b.attributes)) ends ∙ values

-- the key of an edge, computed from its name
abbrev name_key : Naming → EdgeName → ℕ
name_key naming n = tag_of naming.key n.kind n.values * 18446744073709551616 + (n.first * 4294967296 + n.second)

pub same_key : (naming : Naming) (a b : EdgeRow) → name_of naming a ≡ name_of naming b → edge_key naming a ≡ edge_key naming b
same_key naming a b same = ap (name_key naming) same

by_test : (t : Bool) (x y : ℕ) (P : ℕ → Type 0) → (t ≡ true → P x) → (t ≡ false → P y) → P (cond t x y)
by_test true x y P one other = one refl
by_test false x y P one other = other refl

-- a tag that isn't a hash is the type, and those edges are named by their ends alone
exact_tag : (key kind : ℕ) (values : List Val) → tag_of key kind values < 2147483648 → (key ≡ 0) × (tag_of key kind values ≡ kind)
exact_tag key kind values =
    by_test ((key == 0) && nat_lt kind 2147483648) kind (2147483648 + values_hash (mixed 0 kind) values % 2147483648)
    (λ t. t < 2147483648 → (key ≡ 0) × (t ≡ kind))
    (λ is low. (is_equal key 0 (both (key == 0) (nat_lt kind 2147483648) is).0, refl)) (λ is low. absurd (omega (arith, low)))

first_low : (directed : Bool) (a b : ℕ) → a < 4294967296 → b < 4294967296 → first_end directed a b < 4294967296
first_low directed a b one other = by_test (directed || nat_le a b) a b (λ x. x < 4294967296) (λ _. one) (λ _. other)

second_low : (directed : Bool) (a b : ℕ) → a < 4294967296 → b < 4294967296 → second_end directed a b < 4294967296
second_low directed a b one other = by_test (directed || nat_le a b) b a (λ x. x < 4294967296) (λ _. other) (λ _. one)

parts_same : (t u f g s r : ℕ) → f < 4294967296 → g < 4294967296 → s < 4294967296 → r < 4294967296
    → t * 18446744073709551616 + (f * 4294967296 + s) ≡ u * 18446744073709551616 + (g * 4294967296 + r) → (t ≡ u) × ((f ≡ g) × (s ≡ r))
parts_same t u f g s r a b c d is = (omega arith, (omega arith, omega arith))

-- the type of an edge whose key is the whole name
pub exact_kind : (naming other : Naming) (edge row : EdgeRow) → HasEnds edge → HasEnds row → edge_tag naming edge < 2147483648
    → edge_key other row ≡ edge_key naming edge → row.kind ≡ edge.kind
exact_kind naming other edge row ends theirs low is =
    let parts = parts_of naming other edge row ends theirs is in
    let mine = exact_tag naming.key edge.kind (map val (take naming.key edge.attributes)) low in
    let its = exact_tag other.key row.kind (map val (take other.key row.attributes)) (omega (arith, parts.0, low)) in
    sym its.1 ∙ parts.0 ∙ mine.1
  where
    parts_of : (naming other : Naming) (edge row : EdgeRow) → HasEnds edge → HasEnds row → edge_key other row ≡ edge_key naming edge
        → (edge_tag other row ≡ edge_tag naming edge)
        × ((first_end other.directed row.from row.to ≡ first_end naming.directed edge.from edge.to)
        × (second_end other.directed row.from row.to ≡ second_end naming.directed edge.from edge.to))
    parts_of naming other edge row ends theirs is =
        parts_same (edge_tag other row) (edge_tag naming edge) (first_end other.directed row.from row.to) (first_end naming.directed edge.from edge.to)
        (second_end other.directed row.from row.to) (second_end naming.directed edge.from edge.to)
        (first_low other.directed row.from row.to theirs.0 theirs.1) (first_low naming.directed edge.from edge.to ends.0 ends.1)
        (second_low other.directed row.from row.to theirs.0 theirs.1) (second_low naming.directed edge.from edge.to ends.0 ends.1) is

-- and the row has the name
pub exact_name : (naming : Naming) (edge row : EdgeRow) → HasEnds edge → HasEnds row → edge_tag naming edge < 2147483648
    → edge_key naming row ≡ edge_key naming edge → name_of naming edge ≡ name_of naming row
exact_name naming edge row ends theirs low is =
    let parts = parts_same (edge_tag naming row) (edge_tag naming edge) (first_end naming.directed row.from row.to) (first_end naming.directed edge.from edge.to)
    (second_end naming.directed row.from row.to) (second_end naming.directed edge.from edge.to)
    (first_low naming.directed row.from row.to theirs.0 theirs.1) (first_low naming.directed edge.from edge.to ends.0 ends.1)
    (second_low naming.directed row.from row.to theirs.0 theirs.1) (second_low naming.directed edge.from edge.to ends.0 ends.1) is in
    let none : naming.key ≡ 0 = (exact_tag naming.key edge.kind (map val (take naming.key edge.attributes)) low).0 in
    name_same (sym (exact_kind naming naming edge row ends theirs low is)) (sym parts.1.0) (sym parts.1.1)
    (ap (λ n. map val (take n edge.attributes)) none ∙ sym (ap (λ n. map val (take n row.attributes)) none))
