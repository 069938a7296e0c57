-- ArithmeticLemmas: sums and products of INTs, operand after operand.
use Rattle.std.proofs.Common.{◌≡◌, ℕ, zero, suc, ◌+◌, ◌<◌, ◌≤◌, Bool, false, if◌then◌else◌, List, [], ◌∷◌, drop, length, get_or, Option, Some, None, Err, refl, sym, ap, ap₂, subst, ◌∙◌, arith}
use Rattle.std.specs.Prelude.{ℤ, pos, negsuc, ◌+ℤ◌, ◌-ℤ◌, ◌*ℤ◌, int_div, IfSome}
use Rattle.std.specs.Int.{w64, CanDivide, IsNonZero}
use Rattle.std.specs.Int.RustNames.{FitsSigned}
use Rattle.std.specs.Option.{SomeIff}
use Rattle.std.proofs.lemmas.List.{drop_all, drop_more}
use Rattle.gq_tree.specs.Tree as tree
use Rattle.gq_tree.specs.Tree.{Tree, Terms, Factors}
use Rattle.gq_tree.specs.declared.expr.AddSign.{AddSign}
use Rattle.gq_tree.specs.declared.expr.AddSign.TheVariants as sign
use Rattle.gq_tree.specs.declared.expr.MulSign.{MulSign}
use Rattle.gq_tree.specs.declared.expr.MulSign.TheVariants as times
use Rattle.gq_value.specs.declared.kind.Number.TheVariants as number
use Rattle.gq_value.specs.declared.value.Wrong.TheVariants.{Zero}
use Rattle.gq_value.specs.Arithmetic.{in_type, is_zero}
use Rattle.gq_value.specs.Val.{Int}
use Rattle.gq_value.proofs.ArithmeticLemmas.{kept_int}
use Rattle.gq_rules_meaning.specs.Answers.{Gives, Faults, Stuck, ◌>>=◌, of_result}
use Rattle.gq_rules_meaning.specs.Expressions.{Look, meaning, meaning_factors, meaning_terms, product, summed}
use Rattle.gq_rules_meaning.specs.Meanings.{Meant, Outcome, numbered, value_of_meant}
use Rattle.gq_plan_ir.specs.declared.expr.Expr.{Expr}
use Rattle.gq_plan_ir.specs.declared.expr.Expr.TheVariants as expr
use Rattle.gq_plan_ir.specs.ExprView.{view, view_factors, view_terms}
use Rattle.gq_plan_ir.specs.Reference.{Reference}
use Rattle.gq_plan_ir.proofs.ViewLaws.{view-Mul, view-Sum}
use Rattle.gq_eval_builtins.proofs.RunLemmas.{factor_goes, term_goes}
use Rattle.gq_exec_contribute.specs.Prepared.{AreFactors, AreTerms, IsInt, int_meant}

-- ---- one operation

in_int : (w z : ℤ) → FitsSigned w64 w → z ≡ w → (of_result (in_type number.Int w) >>= numbered) ≡ Gives (int_meant z)
in_int w z f e = ap (λ r. of_result r >>= numbered) (kept_int w f) ∙ ap (λ z. Gives (int_meant z)) (sym e)

pub plus_is : (s : AddSign) (x y : ℤ) (r : Option ℤ) → s ≡ sign.Plus → SomeIff r (FitsSigned w64 (x +ℤ y)) (x +ℤ y) → IfSome r (λ z. summed s (Int x) (Int y) ≡ Gives (int_meant z))
plus_is s x y None e h = tt
plus_is s x y (Some z) e h = ap (λ s. summed s (Int x) (Int y)) e ∙ in_int (x +ℤ y) z h.0 h.1

pub minus_is : (s : AddSign) (x y : ℤ) (r : Option ℤ) → s ≡ sign.Minus → SomeIff r (FitsSigned w64 (x -ℤ y)) (x -ℤ y) → IfSome r (λ z. summed s (Int x) (Int y) ≡ Gives (int_meant z))
minus_is s x y None e h = tt
minus_is s x y (Some z) e h = ap (λ s. summed s (Int x) (Int y)) e ∙ in_int (x -ℤ y) z h.0 h.1

pub ruleset sum_laws = (plus_is, minus_is)

pub times_is : (s : MulSign) (x y : ℤ) (r : Option ℤ) → s ≡ times.Times → SomeIff r (FitsSigned w64 (x *ℤ y)) (x *ℤ y) → IfSome r (λ z. product s (Int x) (Int y) ≡ Gives (int_meant z))
times_is s x y None e h = tt
times_is s x y (Some z) e h = ap (λ s. product s (Int x) (Int y)) e ∙ in_int (x *ℤ y) z h.0 h.1

not_zero : (y : ℤ) → IsNonZero w64 y → is_zero y ≡ false
not_zero (pos zero) h = absurd (omega (arith, h))
not_zero (pos (suc n)) h = refl
not_zero (negsuc n) h = refl

pub over_is : (s : MulSign) (x y : ℤ) (r : Option ℤ) → s ≡ times.Over → SomeIff r (CanDivide w64 x y) (int_div x y) → IfSome r (λ z. product s (Int x) (Int y) ≡ Gives (int_meant z))
over_is s x y None e h = tt
over_is s x y (Some z) e h =
    ap (λ s. product s (Int x) (Int y)) e
    ∙ ap (λ (b : Bool). of_result (if b then Err Zero else in_type number.Int (int_div x y)) >>= numbered) (not_zero y h.0.0)
    ∙ in_int (int_div x y) z h.0.1 h.1

pub ruleset product_laws = (times_is, over_is)

-- ---- operands in order

-- the value of the terms so far, followed by the remaining ones
pub record TermsTo (look : Look Reference) (x : ℤ) (terms : List (AddSign × Expr)) (i : ℕ) (y : ℤ) : Type 0 where
  pub goes : meaning_terms look (int_meant x) (view_terms terms) ≡ meaning_terms look (int_meant y) (view_terms (drop i terms))

pub record FactorsTo (look : Look Reference) (x : ℤ) (factors : List (MulSign × Expr)) (i : ℕ) (y : ℤ) : Type 0 where
  pub goes : meaning_factors look (int_meant x) (view_factors factors) ≡ meaning_factors look (int_meant y) (view_factors (drop i factors))

drop_none : {A : Type 0} (xs : List A) → xs ≡ drop 0 xs
drop_none [] = refl
drop_none (x ∷ xs) = refl

pub terms_first : (look : Look Reference) (x : ℤ) (terms : List (AddSign × Expr)) → TermsTo look x terms 0 x
terms_first look x terms = record { goes = ap (λ l. meaning_terms look (int_meant x) (view_terms l)) (drop_none terms) }

pub factors_first : (look : Look Reference) (x : ℤ) (factors : List (MulSign × Expr)) → FactorsTo look x factors 0 x
factors_first look x factors = record { goes = ap (λ l. meaning_factors look (int_meant x) (view_factors l)) (drop_none factors) }

pub terms_next : (look : Look Reference) (x y v z : ℤ) (terms : List (AddSign × Expr)) (i : ℕ) (t : AddSign × Expr) → TermsTo look x terms i y → i < length terms → t ≡ get_or terms i t → IsInt look (view t.1) v → summed t.0 (Int y) (Int v) ≡ Gives (int_meant z) → TermsTo look x terms (i + 1) z
terms_next look x y v z terms i t so n is read done = record {
  goes = so.goes ∙ ap (λ l. meaning_terms look (int_meant y) (view_terms l)) (drop_more terms i t n ∙ ap (λ e. e ∷ drop (i + 1) terms) (sym is))
      ∙ term_goes look (int_meant y) t.0 (view t.1) (view_terms (drop (i + 1) terms)) (int_meant z) (ap (λ o. o >>= summed t.0 (Int y)) read ∙ done);
}

pub factors_next : (look : Look Reference) (x y v z : ℤ) (factors : List (MulSign × Expr)) (i : ℕ) (t : MulSign × Expr) → FactorsTo look x factors i y → i < length factors → t ≡ get_or factors i t → IsInt look (view t.1) v → product t.0 (Int y) (Int v) ≡ Gives (int_meant z) → FactorsTo look x factors (i + 1) z
factors_next look x y v z factors i t so n is read done = record {
  goes = so.goes ∙ ap (λ l. meaning_factors look (int_meant y) (view_factors l)) (drop_more factors i t n ∙ ap (λ e. e ∷ drop (i + 1) factors) (sym is))
      ∙ factor_goes look (int_meant y) t.0 (view t.1) (view_factors (drop (i + 1) factors)) (int_meant z) (ap (λ o. o >>= product t.0 (Int y)) read ∙ done);
}

pub terms_end : (look : Look Reference) (x y : ℤ) (terms : List (AddSign × Expr)) (i : ℕ) → TermsTo look x terms i y → length terms ≤ i → AreTerms look x terms y
terms_end look x y terms i so l = record { sum = ap (λ o. o >>= value_of_meant) (so.goes ∙ ap (λ l. meaning_terms look (int_meant y) (view_terms l)) (drop_all i terms l)) }

pub factors_end : (look : Look Reference) (x y : ℤ) (factors : List (MulSign × Expr)) (i : ℕ) → FactorsTo look x factors i y → length factors ≤ i → AreFactors look x factors y
factors_end look x y factors i so l = record { product = ap (λ o. o >>= value_of_meant) (so.goes ∙ ap (λ l. meaning_factors look (int_meant y) (view_factors l)) (drop_all i factors l)) }

pub ruleset chain_laws = (terms_first, factors_first, terms_next, factors_next, terms_end, factors_end)

-- ---- a whole sum, and a whole product

-- the remaining terms depend on the value only
same_terms : (look : Look Reference) (m n : Meant) (ts : Terms Reference) → value_of_meant m ≡ value_of_meant n → (meaning_terms look m ts >>= value_of_meant) ≡ (meaning_terms look n ts >>= value_of_meant)
same_terms look m n tree.no_term e = e
same_terms look m n (tree.term s t ts) e = ap (λ o. (o >>= λ v. meaning look t >>= value_of_meant >>= summed s v >>= λ n. meaning_terms look n ts) >>= value_of_meant) e

same_factors : (look : Look Reference) (m n : Meant) (fs : Factors Reference) → value_of_meant m ≡ value_of_meant n → (meaning_factors look m fs >>= value_of_meant) ≡ (meaning_factors look n fs >>= value_of_meant)
same_factors look m n tree.no_factor e = e
same_factors look m n (tree.factor s t fs) e = ap (λ o. (o >>= λ v. meaning look t >>= value_of_meant >>= product s v >>= λ n. meaning_factors look n fs) >>= value_of_meant) e

sum_of : (look : Look Reference) (t : Tree Reference) (ts : Terms Reference) (x z : ℤ) → IsInt look t x → (meaning_terms look (int_meant x) ts >>= value_of_meant) ≡ Gives (Int z) → IsInt look (tree.Sum t ts) z
sum_of look t ts x z is sum = go (meaning look t) is
  where
    go : (o : Outcome) → (o >>= value_of_meant) ≡ Gives (Int x) → ((o >>= λ m. meaning_terms look m ts) >>= value_of_meant) ≡ Gives (Int z)
    go (Gives m) e = same_terms look m (int_meant x) ts e ∙ sum
    go (Faults w) e = absurd (cc e)
    go Stuck e = absurd (cc e)

product_of : (look : Look Reference) (t : Tree Reference) (fs : Factors Reference) (x z : ℤ) → IsInt look t x → (meaning_factors look (int_meant x) fs >>= value_of_meant) ≡ Gives (Int z) → IsInt look (tree.Mul t fs) z
product_of look t fs x z is product = go (meaning look t) is
  where
    go : (o : Outcome) → (o >>= value_of_meant) ≡ Gives (Int x) → ((o >>= λ m. meaning_factors look m fs) >>= value_of_meant) ≡ Gives (Int z)
    go (Gives m) e = same_factors look m (int_meant x) fs e ∙ product
    go (Faults w) e = absurd (cc e)
    go Stuck e = absurd (cc e)

pub whole_sum : (look : Look Reference) (e a g : Expr) (ts us : List (AddSign × Expr)) (x : ℤ) (r : Option ℤ) → e ≡ expr.Sum a ts → g ≡ a → us ≡ ts → IsInt look (view g) x → IfSome r (AreTerms look x us) → IfSome r (IsInt look (view e))
whole_sum look e a g ts us x None is s t read done = tt
whole_sum look e a g ts us x (Some z) is s t read done =
    subst (λ (u : Tree Reference). IsInt look u z) (sym (ap view is ∙ view-Sum a ts ∙ ap₂ (λ f l. tree.Sum (view f) (view_terms l)) (sym s) (sym t))) (sum_of look (view g) (view_terms us) x z read done.sum)

pub whole_product : (look : Look Reference) (e a g : Expr) (fs us : List (MulSign × Expr)) (x : ℤ) (r : Option ℤ) → e ≡ expr.Mul a fs → g ≡ a → us ≡ fs → IsInt look (view g) x → IfSome r (AreFactors look x us) → IfSome r (IsInt look (view e))
whole_product look e a g fs us x None is s t read done = tt
whole_product look e a g fs us x (Some z) is s t read done =
    subst (λ (u : Tree Reference). IsInt look u z) (sym (ap view is ∙ view-Mul a fs ∙ ap₂ (λ f l. tree.Mul (view f) (view_factors l)) (sym s) (sym t))) (product_of look (view g) (view_factors us) x z read done.product)
