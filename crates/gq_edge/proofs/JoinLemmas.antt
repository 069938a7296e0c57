-- JoinLemmas: rows as edges without attributes, with their attributes in a second list.
use Rattle.std.proofs.Common.{ℕ, zero, suc, ◌<◌, ◌≡◌, List, [], ◌∷◌, ◌++◌, length, get_or, set, refl, ap, sym, ◌∙◌, arith}
use Rattle.std.specs.Prelude.{true, false, Result, Ok, Err, OnOk, OnErr, is_ok}
use Rattle.gq_graph.specs.declared.rows.EdgeRow.{EdgeRow}
use Rattle.gq_graph.specs.Edges.{edge_at}
use Rattle.gq_value.specs.declared.value.Value.{Value}
use Rattle.gq_edge.specs.Joined.{joined}

-- an edge with its attributes replaced
abbrev pub with : EdgeRow → List Value → EdgeRow
with edge row = record edge { attributes = row }

pub length_joined : (edges : List EdgeRow) (rows : List (List Value)) → length edges ≡ length rows → length (joined edges rows) ≡ length edges
length_joined [] rows long = refl
length_joined (e ∷ edges) [] long = absurd (omega (arith, long))
length_joined (e ∷ edges) (r ∷ rows) long = ap suc (length_joined edges rows (omega (arith, long)))

pub joined_at : (edges : List EdgeRow) (rows : List (List Value)) (k : ℕ) → length edges ≡ length rows → k < length edges
    → edge_at (joined edges rows) k ≡ with (edge_at edges k) (get_or rows k [])
joined_at [] rows k long low = absurd (omega arith)
joined_at (e ∷ edges) [] k long low = absurd (omega (arith, long))
joined_at (e ∷ edges) (r ∷ rows) zero long low = refl
joined_at (e ∷ edges) (r ∷ rows) (suc k) long low = joined_at edges rows k (omega (arith, long)) (omega (arith, low))

joined_push : (edges : List EdgeRow) (rows : List (List Value)) (e : EdgeRow) (r : List Value) → length edges ≡ length rows
    → joined (edges ++ e ∷ []) (rows ++ r ∷ []) ≡ joined edges rows ++ with e r ∷ []
joined_push [] [] e r long = refl
joined_push [] (s ∷ rows) e r long = absurd (omega (arith, long))
joined_push (f ∷ edges) [] e r long = absurd (omega (arith, long))
joined_push (f ∷ edges) (s ∷ rows) e r long = ap (λ l. with f s ∷ l) (joined_push edges rows e r (omega (arith, long)))

joined_set : (edges : List EdgeRow) (rows : List (List Value)) (n : ℕ) (r : List Value) → length edges ≡ length rows → n < length edges
    → joined edges (set rows n r) ≡ set (joined edges rows) n (with (edge_at (joined edges rows) n) r)
joined_set [] rows n r long low = absurd (omega arith)
joined_set (e ∷ edges) [] n r long low = absurd (omega (arith, long))
joined_set (e ∷ edges) (s ∷ rows) zero r long low = refl
joined_set (e ∷ edges) (s ∷ rows) (suc n) r long low = ap (λ l. with e s ∷ l) (joined_set edges rows n r (omega (arith, long)) (omega (arith, low)))

-- ---- the rows of the table

pub view_long : (edges : List EdgeRow) (rows : List (List Value)) (all : List EdgeRow) → joined edges rows ≡ all → length edges ≡ length rows → length edges ≡ length all
view_long edges rows all view long = sym (length_joined edges rows long) ∙ ap length view

pub view_at : (edges : List EdgeRow) (rows : List (List Value)) (all : List EdgeRow) (k : ℕ) → joined edges rows ≡ all → length edges ≡ length rows → k < length all
    → with (edge_at edges k) (get_or rows k []) ≡ edge_at all k
view_at edges rows all k view long low =
    sym (joined_at edges rows k long (omega (arith, low, view_long edges rows all view long))) ∙ ap (λ l. edge_at l k) view

pub pushed_is : (edges after : List EdgeRow) (rows now : List (List Value)) (all : List EdgeRow) (edge : EdgeRow) → joined edges rows ≡ all → length edges ≡ length rows
    → after ≡ edges ++ with edge [] ∷ [] → now ≡ rows ++ edge.attributes ∷ [] → joined after now ≡ all ++ edge ∷ []
pushed_is edges after rows now all edge view long more moved =
    ap (λ l. joined l now) more ∙ ap (joined (edges ++ with edge [] ∷ [])) moved ∙ joined_push edges rows (with edge []) edge.attributes long ∙ ap (λ l. l ++ edge ∷ []) view

pub set_is : (edges : List EdgeRow) (rows now : List (List Value)) (all : List EdgeRow) (n : ℕ) (row : List Value) → joined edges rows ≡ all → length edges ≡ length rows
    → n < length all → now ≡ set rows n row → joined edges now ≡ set all n (with (edge_at all n) row)
set_is edges rows now all n row view long low done =
    ap (joined edges) done ∙ joined_set edges rows n row long (omega (arith, low, view_long edges rows all view long))
    ∙ ap (λ l. set l n (with (edge_at l n) row)) view

-- a row built from the parts of another
pub built : (here : EdgeRow) (kind from to : ℕ) (row own : List Value) {read : EdgeRow} → read ≡ here → kind ≡ read.kind → from ≡ read.from → to ≡ read.to → row ≡ own
    → ◌≡◌ {A = EdgeRow} (record { kind = kind; from = from; to = to; attributes = row }) (with here own)
built here kind from to row own {read} is k f t r =
    ap (λ x. made x from to row) k ∙ ap (λ x. made read.kind x to row) f ∙ ap (λ x. made read.kind read.from x row) t ∙ ap (made read.kind read.from read.to) r
    ∙ ap (λ (e : EdgeRow). with e own) is
  where
    made : ℕ → ℕ → ℕ → List Value → EdgeRow
    made a b c d = record { kind = a; from = b; to = c; attributes = d }

-- ---- results of tests

pub when_ok : {T E P : Type 0} (r : Result T E) → OnOk r P → is_ok r ≡ true → P
when_ok (Ok x) h is = h
when_ok (Err e) h is = absurd (cc)

pub when_err : {T E P : Type 0} (r : Result T E) → OnErr r P → is_ok r ≡ false → P
when_err (Ok x) h is = absurd (cc)
when_err (Err e) h is = h
