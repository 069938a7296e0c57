-- RuleLemmas: rules on pairs and lists of types, in the order of the code's loops.
use Rattle.std.proofs.Common.{ℕ, zero, suc, ◌+◌, ◌<◌, ◌≤◌, ◌≡◌, ◌==◌, Bool, true, false, ◌&&◌, cond, List, [], ◌∷◌, length, get_or, drop, map, Option, Some, None, refl, ap, sym, ◌∙◌, subst, arith}
use Rattle.std.specs.List.{slice_get}
use Rattle.std.proofs.lemmas.List.{drop_more, get_or-map}
use Rattle.std.proofs.lemmas.Option.{slice_get-get_or, slice_get_within, get_or_from_slice_get}
use Rattle.gq_value.specs.Accums.{Base, INT, UINT, BOOL, STRING, DATETIME, VERTEX, VERTEX_OF, TUPLE, Bases, no_base, base_and}
use Rattle.gq_value.specs.AccumViews.{bases}
use Rattle.gq_rules_typing.specs.Types.{same_base, same_bases, converts, convert_all, vertex_base}
use Rattle.gq_scope.specs.Parts.{form_of}

-- two types, the first of which is VERTEX or neither a vertex nor a tuple, are the same if their forms are
pub same_form : (b c : Base) → form_of b < 6 → same_base b c ≡ (form_of b == form_of c)
same_form (VERTEX_OF t) c low = absurd (omega arith)
same_form (TUPLE n ts) c low = absurd (omega arith)
same_form INT INT low = refl
same_form UINT UINT low = refl
same_form BOOL BOOL low = refl
same_form STRING STRING low = refl
same_form DATETIME DATETIME low = refl
same_form VERTEX VERTEX low = refl
same_form _ _ low = refl

-- ---- lists of types, from a place on

abbrev pub same_rest : List Base → List Base → ℕ → Bool
same_rest bs cs i = same_bases (bases (drop i bs)) (bases (drop i cs))

abbrev pub convert_rest : List Base → List Base → ℕ → Bool
convert_rest bs cs i = convert_all (drop i bs) (drop i cs)

split : (bs : List Base) (i : ℕ) (b : Base) → slice_get bs i ≡ Some b → drop i bs ≡ b ∷ drop (i + 1) bs
split bs i b at = drop_more bs i b (slice_get_within bs i b at) ∙ ap (λ x. x ∷ drop (i + 1) bs) (get_or_from_slice_get bs i b b at)

same_one : (bs cs : List Base) (i : ℕ) (b c : Base) → slice_get bs i ≡ Some b → slice_get cs i ≡ Some c → same_rest bs cs i ≡ (same_base b c && same_rest bs cs (i + 1))
same_one bs cs i b c at there =
    ap (λ (l : List Base). same_bases (bases l) (bases (drop i cs))) (split bs i b at) ∙ ap (λ (l : List Base). same_bases (base_and b (bases (drop (i + 1) bs))) (bases l)) (split cs i c there)

pub same_goes : (bs cs : List Base) (i : ℕ) (b c : Base) (t : Bool) → slice_get bs i ≡ Some b → slice_get cs i ≡ Some c → t ≡ same_base b c → t ≡ true
    → same_rest bs cs i ≡ same_rest bs cs 0 → same_rest bs cs (i + 1) ≡ same_rest bs cs 0
same_goes bs cs i b c t at there test is before = sym (same_one bs cs i b c at there ∙ ap (λ s. s && same_rest bs cs (i + 1)) (sym test ∙ is)) ∙ before

pub same_stops : (bs cs : List Base) (i : ℕ) (b c : Base) (t : Bool) → slice_get bs i ≡ Some b → slice_get cs i ≡ Some c → t ≡ same_base b c → t ≡ false
    → same_rest bs cs i ≡ same_rest bs cs 0 → false ≡ same_rest bs cs 0
same_stops bs cs i b c t at there test is before = sym (same_one bs cs i b c at there ∙ ap (λ s. s && same_rest bs cs (i + 1)) (sym test ∙ is)) ∙ before

over : (bs : List Base) (i : ℕ) → length bs ≤ i → drop i bs ≡ []
over [] zero low = refl
over [] (suc i) low = refl
over (b ∷ bs) zero low = absurd (omega arith)
over (b ∷ bs) (suc i) low = over bs i (omega arith)

pub same_ends : (bs cs : List Base) (i : ℕ) → length bs ≡ length cs → length bs ≤ i → same_rest bs cs i ≡ same_rest bs cs 0 → true ≡ same_rest bs cs 0
same_ends bs cs i long low before =
    sym (ap (λ (l : List Base). same_bases (bases l) (bases (drop i cs))) (over bs i low) ∙ ap (λ (l : List Base). same_bases no_base (bases l)) (over cs i (omega (arith, long)))) ∙ before

false_both : (b : Bool) → (b && false) ≡ false
false_both true = refl
false_both false = refl

pub same_short : (bs cs : List Base) → (length bs ≡ length cs → ⊥) → false ≡ same_bases (bases bs) (bases cs)
same_short [] [] not = absurd (not refl)
same_short [] (c ∷ cs) not = refl
same_short (b ∷ bs) [] not = refl
same_short (b ∷ bs) (c ∷ cs) not = sym (ap (λ s. same_base b c && s) (sym (same_short bs cs (λ e. not (ap suc e)))) ∙ false_both (same_base b c))

-- ---- conversions

convert_one : (bs cs : List Base) (i : ℕ) (b c : Base) → slice_get bs i ≡ Some b → slice_get cs i ≡ Some c → convert_rest bs cs i ≡ (converts b c && convert_rest bs cs (i + 1))
convert_one bs cs i b c at there =
    ap (λ (l : List Base). convert_all l (drop i cs)) (split bs i b at) ∙ ap (λ (l : List Base). convert_all (b ∷ drop (i + 1) bs) l) (split cs i c there)

pub convert_goes : (bs cs : List Base) (i : ℕ) (b c : Base) (t : Bool) → slice_get bs i ≡ Some b → slice_get cs i ≡ Some c → t ≡ converts b c → t ≡ true
    → convert_rest bs cs i ≡ convert_rest bs cs 0 → convert_rest bs cs (i + 1) ≡ convert_rest bs cs 0
convert_goes bs cs i b c t at there test is before = sym (convert_one bs cs i b c at there ∙ ap (λ s. s && convert_rest bs cs (i + 1)) (sym test ∙ is)) ∙ before

pub convert_stops : (bs cs : List Base) (i : ℕ) (b c : Base) (t : Bool) → slice_get bs i ≡ Some b → slice_get cs i ≡ Some c → t ≡ converts b c → t ≡ false
    → convert_rest bs cs i ≡ convert_rest bs cs 0 → false ≡ convert_rest bs cs 0
convert_stops bs cs i b c t at there test is before = sym (convert_one bs cs i b c at there ∙ ap (λ s. s && convert_rest bs cs (i + 1)) (sym test ∙ is)) ∙ before

pub convert_ends : (bs cs : List Base) (i : ℕ) → length bs ≡ length cs → length bs ≤ i → convert_rest bs cs i ≡ convert_rest bs cs 0 → true ≡ convert_rest bs cs 0
convert_ends bs cs i long low before =
    sym (ap (λ (l : List Base). convert_all l (drop i cs)) (over bs i low) ∙ ap (λ (l : List Base). convert_all [] l) (over cs i (omega (arith, long)))) ∙ before

pub convert_short : (bs cs : List Base) → (length bs ≡ length cs → ⊥) → false ≡ convert_all bs cs
convert_short [] [] not = absurd (not refl)
convert_short [] (c ∷ cs) not = refl
convert_short (b ∷ bs) [] not = refl
convert_short (b ∷ bs) (c ∷ cs) not = sym (ap (λ s. converts b c && s) (sym (convert_short bs cs (λ e. not (ap suc e)))) ∙ false_both (converts b c))

-- ---- a vertex of one type, or of several

pub one_vertex : (ts : List ℕ) → length ts ≡ 1 → VERTEX_OF (get_or ts 0 0) ≡ vertex_base ts
one_vertex [] is = absurd (omega arith)
one_vertex (t ∷ []) is = refl
one_vertex (t ∷ u ∷ ts) is = absurd (omega arith)

pub any_vertex : (ts : List ℕ) → (length ts ≡ 1 → ⊥) → VERTEX ≡ vertex_base ts
any_vertex [] not = refl
any_vertex (t ∷ []) not = absurd (not refl)
any_vertex (t ∷ u ∷ ts) not = refl
