-- Accumulators by number.
use Rattle.std.proofs.Common.{ℕ, zero, suc, ◌+◌, ◌-◌, ◌≡◌, ◌<◌, ◌≤◌, List, [], ◌∷◌, ◌++◌, length, map, drop, get_or, Some, refl, ap, sym, ◌∙◌, arith, add-one, drop-cons}
use Rattle.std.proofs.lemmas.List.{drop_all}
use Rattle.std.specs.Prelude.{slice_get}
use Rattle.gq_tree.specs.declared.kind.AccumTree.{AccumTree}
use Rattle.gq_tree.specs.declared.kind.DefinitionTree.{DefinitionTree}
use Rattle.gq_rules_typing.specs.Statements.{Bytes}
use Rattle.gq_rules_typing.specs.StatementViews.{view_accum, view_definition}
use Rattle.gq_rules_meaning.specs.Messages.{accum_names, slot_names, name_at}

some_inj : {A : Type 0} (x y : A) → Some x ≡ Some y → x ≡ y
some_inj {A} x y e = cc

-- after these names
skipped : (names more : List Bytes) (n : ℕ) → length names ≤ n → name_at (names ++ more) n ≡ name_at more (n - length names)
skipped [] more n low = let same : n ≡ n - 0 = omega arith in ap (name_at more) same
skipped (x ∷ names) more zero low = absurd (omega (arith, low))
skipped (x ∷ names) more (suc n) low =
    let same : n - length names ≡ suc n - length (x ∷ names) = omega arith in
    skipped names more n (omega (arith, low)) ∙ ap (name_at more) same

-- among these names
among : (names more : List Bytes) (n : ℕ) (x : Bytes) → slice_get names n ≡ Some x → name_at (names ++ more) n ≡ x
among [] more n x is = absurd (cc)
among (y ∷ names) more zero x is = some_inj y x is
among (y ∷ names) more (suc n) x is = among names more n x is

abbrev pub names_in : List AccumTree → List Bytes
names_in accums = map (λ (a : AccumTree). a.name) accums

-- as gq_rules_typing represents them
pub names_viewed : (accums : List AccumTree) → names_in accums ≡ map (λ a. a.1) (map view_accum accums)
names_viewed [] = refl
names_viewed (a ∷ accums) = ap (λ names. a.name ∷ names) (names_viewed accums)

names_length : (accums : List AccumTree) → length (names_in accums) ≡ length accums
names_length [] = refl
names_length (a ∷ accums) = ap suc (names_length accums)

name_in : (accums : List AccumTree) (n : ℕ) (a : AccumTree) → n < length accums → a ≡ get_or accums n a → slice_get (names_in accums) n ≡ Some a.name
name_in [] n a low is = absurd (omega (arith, low))
name_in (b ∷ accums) zero a low is = ap (λ (x : AccumTree). Some x.name) (sym is)
name_in (b ∷ accums) (suc n) a low is = name_in accums n a (omega (arith, low)) is

-- the names from the declaration at a place on
abbrev pub names_from : List DefinitionTree → ℕ → List Bytes
names_from ds i = slot_names (map view_definition (drop i ds))

at : (ds : List DefinitionTree) (i : ℕ) (d : DefinitionTree) (accums : List AccumTree) → i < length ds → d ≡ get_or ds i d → names_in accums ≡ accum_names (view_definition d)
    → names_from ds i ≡ names_in accums ++ names_from ds (i + 1)
at ds i d accums low is names =
    ap (λ xs. slot_names (map view_definition xs)) (drop-cons ds i d low ∙ ap (λ y. y ∷ drop (suc i) ds) (sym is) ∙ ap (λ n. d ∷ drop n ds) (sym (add-one i)))
    ∙ ap (λ ns. ns ++ names_from ds (i + 1)) (sym names)

-- after the accumulators of a declaration
pub behind_accums : (ds : List DefinitionTree) (i : ℕ) (d : DefinitionTree) (accums : List AccumTree) (n : ℕ) (whole : Bytes) → i < length ds → d ≡ get_or ds i d → names_in accums ≡ accum_names (view_definition d)
    → length accums ≤ n → whole ≡ name_at (names_from ds i) n → whole ≡ name_at (names_from ds (i + 1)) (n - length accums)
behind_accums ds i d accums n whole low is names most so_far =
    so_far ∙ ap (λ ns. name_at ns n) (at ds i d accums low is names)
    ∙ skipped (names_in accums) (names_from ds (i + 1)) n (omega (arith, most, names_length accums))
    ∙ ap (λ m. name_at (names_from ds (i + 1)) (n - m)) (names_length accums)

-- among them
pub among_accums : (ds : List DefinitionTree) (i : ℕ) (d : DefinitionTree) (accums : List AccumTree) (a : AccumTree) (n : ℕ) (whole : Bytes) → i < length ds → d ≡ get_or ds i d → names_in accums ≡ accum_names (view_definition d)
    → n < length accums → a ≡ get_or accums n a → whole ≡ name_at (names_from ds i) n → a.name ≡ whole
among_accums ds i d accums a n whole low is names there found so_far =
    sym (so_far ∙ ap (λ ns. name_at ns n) (at ds i d accums low is names)
    ∙ among (names_in accums) (names_from ds (i + 1)) n a.name (name_in accums n a there found))

-- after all declarations
pub at_end : (ds : List DefinitionTree) (i n : ℕ) (whole : Bytes) → length ds ≤ i → whole ≡ name_at (names_from ds i) n → [] ≡ whole
at_end ds i n whole most so_far = sym (so_far ∙ ap (λ xs. name_at (slot_names (map view_definition xs)) n) (drop_all i ds most))
