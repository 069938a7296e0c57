-- InputLemmas: the parts of a kind, and inputs that are typed from left to right.
use Rattle.std.proofs.Common.{ℕ, zero, suc, ◌+◌, ◌<◌, ◌≤◌, ◌≡◌, List, [], ◌∷◌, ◌++◌, length, get_or, drop, map, Option, Some, None, Ok, Err, refl, ap, sym, ◌∙◌, arith}
use Rattle.std.specs.List.{slice_get}
use Rattle.std.proofs.lemmas.List.{append_assoc, append-nil, drop_more}
use Rattle.gq_tree.specs.declared.select.InputTree.{InputTree}
use Rattle.gq_rules_typing.specs.SelectViews.{view_input}
use Rattle.gq_check_select.specs.Trees.{view_inputs}
use Rattle.gq_value.specs.Accums.{Accum}
use Rattle.gq_value.specs.AccumViews.{parts_of, accum_of}
use Rattle.gq_value.specs.declared.kind.Kind.{Kind}
use Rattle.gq_rules_typing.specs.Statements.{Bytes}
use Rattle.gq_rules_typing.specs.Selecting.{Input, Inputs, input_and}
use Rattle.gq_rules_typing.specs.Judging.{Judged, ◌>>=◌, ◌>>◌}
use Rattle.gq_rules_typing.specs.Kinds.{kinds_in}
use Rattle.gq_rules_typing.specs.ExpressionTypes.{Names}
use Rattle.gq_rules_typing.specs.ActTypes.{typing_input, typing_inputs}

-- ---- lists from left to right

-- the earlier results, with those of the rest
abbrev pub after : {A : Type 0} → List A → Judged (List A) → Judged (List A)
after done j = j >>= λ rest. Ok (done ++ rest)

pub after_none : {A : Type 0} (j : Judged (List A)) → j ≡ after [] j
after_none (Ok rest) = refl
after_none (Err e) = refl

pub after_one : {A : Type 0} (done : List A) (a : A) (j : Judged (List A)) → after done (j >>= λ rest. Ok (a ∷ rest)) ≡ after (done ++ a ∷ []) j
after_one done a (Ok rest) = ap Ok (sym (append_assoc done (a ∷ []) rest))
after_one done a (Err e) = refl

pub after_all : {A : Type 0} (done : List A) → after done (Ok []) ≡ Ok done
after_all done = ap Ok (append-nil done)

pub ruleset all_laws = (after_none, after_one, after_all)

-- ---- the parts of a group

abbrev part_pairs : List (Bytes × Kind) → List (Bytes × Accum)
part_pairs ps = map (λ p. (p.0, accum_of p.1)) ps

kinds_are : (ps : List (Bytes × Kind)) → kinds_in (parts_of (part_pairs ps)) ≡ map (λ (p : Bytes × Kind). accum_of p.1) ps
kinds_are [] = refl
kinds_are (p ∷ ps) = ap (λ ks. accum_of p.1 ∷ ks) (kinds_are ps)

pub parts_count : (ps : List (Bytes × Kind)) → length (kinds_in (parts_of (part_pairs ps))) ≡ length ps
parts_count [] = refl
parts_count (p ∷ ps) = ap suc (parts_count ps)

pub part_there : (ps : List (Bytes × Kind)) (i : ℕ) (p : Bytes × Kind) → slice_get ps i ≡ Some p → slice_get (kinds_in (parts_of (part_pairs ps))) i ≡ Some (accum_of p.1)
part_there [] i p at = let e : None ≡ Some p = at in absurd (cc)
part_there (q ∷ ps) zero p at = ap (λ o. o) (let e : q ≡ p = cc in ap (λ (r : Bytes × Kind). Some (accum_of r.1)) e)
part_there (q ∷ ps) (suc i) p at = part_there ps i p at

pub part_past : (ps : List (Bytes × Kind)) (i : ℕ) → length ps ≤ i → slice_get (kinds_in (parts_of (part_pairs ps))) i ≡ None
part_past [] i low = refl
part_past (q ∷ ps) zero low = absurd (omega arith)
part_past (q ∷ ps) (suc i) low = part_past ps i (omega arith)

-- ---- inputs

no_kinds : (n : ℕ) → drop {A = Accum} n [] ≡ []
no_kinds zero = refl
no_kinds (suc n) = refl

-- one more input, with the kind at its place
inputs_step : {N : Type 0} (names : Names N) (ks : List Accum) (i : ℕ) (x : Input N) (xs : Inputs N)
    → typing_inputs names (drop i ks) (input_and x xs) ≡ (typing_input names (slice_get ks i) x >> typing_inputs names (drop (i + 1) ks) xs)
inputs_step names [] i x xs =
    ap (λ (ks : List Accum). typing_inputs names ks (input_and x xs)) (no_kinds i)
    ∙ ap (λ (o : Option Accum). typing_input names o x >> typing_inputs names [] xs) (sym (nothing i))
    ∙ ap (λ (ks : List Accum). typing_input names (slice_get {X = Accum} [] i) x >> typing_inputs names ks xs) (sym (no_kinds (i + 1)))
  where
    nothing : (n : ℕ) → slice_get {X = Accum} [] n ≡ None
    nothing zero = refl
    nothing (suc n) = refl
inputs_step names (k ∷ ks) zero x xs = refl
inputs_step names (k ∷ ks) (suc i) x xs =
    inputs_step names ks i x xs
    ∙ ap (λ n. typing_input names (slice_get ks i) x >> typing_inputs names (drop n (k ∷ ks)) xs) (let e : suc (i + 1) ≡ suc i + 1 = omega arith in e)

-- the same for the code's list
pub parts_more : (names : Names Bytes) (ks : List Accum) (xs : List InputTree) (i : ℕ) (x : InputTree) → i < length xs → x ≡ get_or xs i x
    → typing_inputs names (drop i ks) (view_inputs (drop i xs)) ≡ (typing_input names (slice_get ks i) (view_input x) >> typing_inputs names (drop (i + 1) ks) (view_inputs (drop (i + 1) xs)))
parts_more names ks xs i x low at =
    ap (λ (l : List InputTree). typing_inputs names (drop i ks) (view_inputs l)) (drop_more xs i x low)
    ∙ ap (λ (y : InputTree). typing_inputs names (drop i ks) (input_and (view_input y) (view_inputs (drop (i + 1) xs)))) (sym at)
    ∙ inputs_step names ks i (view_input x) (view_inputs (drop (i + 1) xs))
