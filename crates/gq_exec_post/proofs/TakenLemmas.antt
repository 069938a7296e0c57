-- TakenLemmas: inputs that were read, and the kinds that take them.
use Rattle.std.proofs.Common.{◌≡◌, ℕ, ◌+◌, ◌-◌, ◌<◌, ◌≤◌, Bool, List, [], ◌∷◌, map, take, drop, length, get_or, refl, sym, ap, ap₂, subst, ◌∙◌}
use Rattle.std.specs.Prelude.{ℤ}
use Rattle.std.specs.List.{All}
use Rattle.std.specs.Int.{w64}
use Rattle.std.specs.Int.RustNames.{FitsSigned}
use Rattle.std.proofs.lemmas.List.{length-drop, length-take-le, take_all}
use Rattle.std.proofs.lemmas.List.Elements.{All-drop, All-more, All-nil, All-take}
use Rattle.gq_value.specs.Val.{Int, Truth, Tuple, vals_of}
use Rattle.gq_value.specs.Views.{val}
use Rattle.gq_value.specs.ViewLaws.{val-Int, val-Bool, val-Tuple}
use Rattle.gq_value.specs.Accums.{One, Keyed, given_and}
use Rattle.gq_value.specs.AccumViews.{given, givens}
use Rattle.gq_value.specs.Typed.{suits}
use Rattle.gq_value.specs.declared.value.Value.TheVariants as value
use Rattle.gq_value.proofs.AccumLemmas.{given-One, given-Keyed}
use Rattle.gq_exec_contribute.specs.declared.cells.Taken.{Taken}
use Rattle.gq_exec_contribute.specs.declared.cells.Taken.TheVariants as taken
use Rattle.gq_exec_contribute.specs.Prepared.{parts_given}
use Rattle.gq_exec_contribute.specs.Scalars.{one_int}
use Rattle.gq_exec_post.specs.Waiting.{AllFit, TakesEach, keyed_of, one_truth, tuple_of}

-- ---- one value

given_int : (x : ℤ) → given (one_int x) ≡ One (Int x)
given_int x = given-One (value.Int x) ∙ ap One (val-Int x)

given_truth : (b : Bool) → given (one_truth b) ≡ One (Truth b)
given_truth b = given-One (value.Bool b) ∙ ap One (val-Bool b)

vals_int : (xs : List ℤ) → map val (map value.Int xs) ≡ map Int xs
vals_int [] = refl
vals_int (x ∷ xs) = ap₂ ◌∷◌ (val-Int x) (vals_int xs)

given_tuple : (xs : List ℤ) → given (tuple_of xs) ≡ One (Tuple (vals_of (map Int xs)))
given_tuple xs = given-One (value.Tuple (map value.Int xs)) ∙ ap One (val-Tuple (map value.Int xs) ∙ ap (λ l. Tuple (vals_of l)) (vals_int xs))

pub int_taken : (x : ℤ) → FitsSigned w64 x → TakesEach taken.Int (one_int x)
int_taken x fits = record { each = λ k takes. ap (suits k) (given_int x) ∙ takes.suited x fits }

pub element_taken : (x : ℤ) → FitsSigned w64 x → TakesEach taken.Element (one_int x)
element_taken x fits = record { each = λ k takes. ap (suits k) (given_int x) ∙ takes.suited x fits }

pub truth_taken : (b : Bool) → TakesEach taken.Truth (one_truth b)
truth_taken b = record { each = λ k takes. ap (suits k) (given_truth b) ∙ takes.suited b }

pub ruleset one_laws = (int_taken, element_taken, truth_taken)

pub tuple_taken : (t : Taken) (n : ℕ) (xs : List ℤ) → t ≡ taken.Tuple n → length xs ≡ n → AllFit xs → TakesEach t (tuple_of xs)
tuple_taken t n xs e long fits = subst (λ (t : Taken). TakesEach t (tuple_of xs)) (sym e) (record { each = λ k takes. ap (suits k) (given_tuple xs) ∙ takes.suited xs long fits.all })

-- ---- keys and parts

parts_shown : (ys : List ℤ) → givens (map given (map one_int ys)) ≡ parts_given ys
parts_shown [] = refl
parts_shown (y ∷ ys) = ap₂ given_and (given_int y) (parts_shown ys)

given_keyed : (n : ℕ) (xs : List ℤ) → given (keyed_of n xs) ≡ Keyed (map Int (take n xs)) (parts_given (drop n xs))
given_keyed n xs = given-Keyed (map value.Int (take n xs)) (map one_int (drop n xs)) ∙ ap₂ Keyed (vals_int (take n xs)) (parts_shown (drop n xs))

pub keyed_taken : (t : Taken) (count n m : ℕ) (xs : List ℤ) → t ≡ taken.Keyed n m → count ≡ n → count ≤ length xs → length xs - count ≡ m → AllFit xs → TakesEach t (keyed_of count xs)
keyed_taken t count n m xs e same enough rest fits = subst (λ (t : Taken). TakesEach t (keyed_of count xs)) (sym e) (record {
  each = λ k takes.
      ap (suits k) (given_keyed count xs)
      ∙ takes.suited (take count xs) (drop count xs) (length-take-le count xs enough ∙ same) (length-drop count xs ∙ rest) (All-take (FitsSigned w64) count xs fits.all) (All-drop (FitsSigned w64) count xs fits.all);
})

-- ---- each has 64 bits

-- the first i INTs have
pub record FitTo (xs : List ℤ) (i : ℕ) : Type 0 where
  pub all : All (FitsSigned w64) (take i xs)

take_none : {A : Type 0} (xs : List A) → take 0 xs ≡ []
take_none [] = refl
take_none (x ∷ xs) = refl

pub fit_first : (xs : List ℤ) → FitTo xs 0
fit_first xs = record { all = subst (All (FitsSigned w64)) (sym (take_none xs)) (All-nil (FitsSigned w64)) }

pub fit_next : (xs : List ℤ) (i : ℕ) (d : ℤ) → i < length xs → FitsSigned w64 (get_or xs i d) → FitTo xs i → FitTo xs (i + 1)
fit_next xs i d n fits so = record { all = All-more (FitsSigned w64) xs i d n so.all fits }

pub fit_all : (xs : List ℤ) (i : ℕ) → length xs ≤ i → FitTo xs i → AllFit xs
fit_all xs i l so = record { all = subst (All (FitsSigned w64)) (take_all i xs l) so.all }

pub ruleset fit_laws = (fit_first, fit_all)
