-- BeforeLemmas: searching expressions for `v.@a'`, and what those without one mean.
use Rattle.std.proofs.Common.{◌≡◌, ℕ, zero, suc, ◌+◌, ◌<◌, ◌≤◌, Bool, true, false, ◌||◌, List, [], ◌∷◌, drop, length, get_or, Option, Some, None, refl, sym, ap, ap₂, ◌∙◌, arith}
use mathlib.Core.Path.{fun_ext}
use Rattle.std.proofs.lemmas.List.{drop_more, drop_all}
use Rattle.gq_tree.specs.Tree.{Tree, Behind, Trees, Parts, Factors, Terms, Number, Text, Truth, Global, Name, Call, Post, Neg, Mul, Sum, Cmp, Not, And, Or, Field, Method, Attached, Before, no_tree, tree, no_part, part, no_factor, factor, no_term, term}
use Rattle.gq_tree.specs.declared.expr.AddSign.{AddSign}
use Rattle.gq_tree.specs.declared.expr.MulSign.{MulSign}
use Rattle.gq_value.specs.declared.value.Wrong.{Wrong}
use Rattle.gq_value.specs.Val.{Val}
use Rattle.gq_value.specs.Accums.{Base}
use Rattle.gq_rules_typing.specs.Words.{function_named}
use Rattle.gq_rules_meaning.specs.Answers.{Answer, Gives, ◌>>=◌, found}
use Rattle.gq_rules_meaning.specs.Calls.{method_wants, method_of, function_wants, function_of}
use Rattle.gq_rules_meaning.specs.Expressions.{Look, setting, wanted, minus, nots, product, summed, compared, meaning, arguments, meaning_parts, meaning_part, meaning_factors, meaning_terms, meaning_all, meaning_any}
use Rattle.gq_rules_meaning.specs.Meanings.{Meant, Outcome, value_of_meant, as_truth, truly}
use Rattle.gq_plan_ir.specs.declared.expr.Expr.{Expr}
use Rattle.gq_plan_ir.specs.declared.expr.Behind as code
use Rattle.gq_plan_ir.specs.ExprView.{view, views, view_behind, view_parts, view_factors, view_terms, quoted}
use Rattle.gq_after.specs.Before.{before_in, before_in_trees, before_in_parts, before_in_part, before_in_factors, before_in_terms, before_in_keys}
use Rattle.gq_after.specs.Ranks.{order_of}

-- ---- a search of a list, item by item

abbrev Steps : {A : Type 0} → (List A → Bool) → (A → Bool) → Type 0
Steps {A} f g = (x : A) (xs : List A) → f (x ∷ xs) ≡ (g x || f xs)

-- none of the first i items has one
abbrev pub LeftTo : {A : Type 0} → (List A → Bool) → List A → ℕ → Type 0
LeftTo f xs i = f xs ≡ f (drop i xs)

here : {A : Type 0} (f : List A → Bool) (g : A → Bool) → Steps f g → (xs : List A) (i : ℕ) (x : A) → LeftTo f xs i → i < length xs → x ≡ get_or xs i x → f xs ≡ (g x || f (drop (i + 1) xs))
here f g s xs i x inv n is = inv ∙ ap f (drop_more xs i x n ∙ ap (λ y. y ∷ drop (i + 1) xs) (sym is)) ∙ s x (drop (i + 1) xs)

-- the result for an item is b
there : {A : Type 0} (f : List A → Bool) (g : A → Bool) → Steps f g → (xs : List A) (i : ℕ) (x : A) (b : Bool) → LeftTo f xs i → i < length xs → x ≡ get_or xs i x → b ≡ g x → b ≡ true → true ≡ f xs
there f g s xs i x b inv n is e t = sym (here f g s xs i x inv n is ∙ ap (λ b. b || f (drop (i + 1) xs)) (sym e ∙ t))

next : {A : Type 0} (f : List A → Bool) (g : A → Bool) → Steps f g → (xs : List A) (i : ℕ) (x : A) (b : Bool) → LeftTo f xs i → i < length xs → x ≡ get_or xs i x → b ≡ g x → b ≡ false → LeftTo f xs (i + 1)
next f g s xs i x b inv n is e t = here f g s xs i x inv n is ∙ ap (λ b. b || f (drop (i + 1) xs)) (sym e ∙ t)

last : {A : Type 0} (f : List A → Bool) → f [] ≡ false → (xs : List A) (i : ℕ) → LeftTo f xs i → length xs ≤ i → false ≡ f xs
last f z xs i inv l = sym (inv ∙ ap f (drop_all i xs l) ∙ z)

-- ---- expressions

abbrev pub AnyTo : List Expr → ℕ → Type 0
AnyTo = LeftTo (λ ts. before_in_trees (views ts))

pub any_there : (ts : List Expr) (i : ℕ) (t : Expr) (b : Bool) → AnyTo ts i → i < length ts → t ≡ get_or ts i t → b ≡ before_in (view t) → b ≡ true → true ≡ before_in_trees (views ts)
any_there = there (λ ts. before_in_trees (views ts)) (λ t. before_in (view t)) (λ t ts. refl)

pub any_next : (ts : List Expr) (i : ℕ) (t : Expr) (b : Bool) → AnyTo ts i → i < length ts → t ≡ get_or ts i t → b ≡ before_in (view t) → b ≡ false → AnyTo ts (i + 1)
any_next = next (λ ts. before_in_trees (views ts)) (λ t. before_in (view t)) (λ t ts. refl)

pub any_last : (ts : List Expr) (i : ℕ) → AnyTo ts i → length ts ≤ i → false ≡ before_in_trees (views ts)
any_last = last (λ ts. before_in_trees (views ts)) refl

pub ruleset any_laws = (any_there, any_next, any_last)

-- ---- parts after dots

abbrev pub PartsTo : List code.Behind → ℕ → Type 0
PartsTo = LeftTo (λ ps. before_in_parts (view_parts ps))

pub parts_there : (ps : List code.Behind) (i : ℕ) (p : code.Behind) (b : Bool) → PartsTo ps i → i < length ps → p ≡ get_or ps i p → b ≡ before_in_part (view_behind p) → b ≡ true → true ≡ before_in_parts (view_parts ps)
parts_there = there (λ ps. before_in_parts (view_parts ps)) (λ p. before_in_part (view_behind p)) (λ p ps. refl)

pub parts_next : (ps : List code.Behind) (i : ℕ) (p : code.Behind) (b : Bool) → PartsTo ps i → i < length ps → p ≡ get_or ps i p → b ≡ before_in_part (view_behind p) → b ≡ false → PartsTo ps (i + 1)
parts_next = next (λ ps. before_in_parts (view_parts ps)) (λ p. before_in_part (view_behind p)) (λ p ps. refl)

pub parts_last : (ps : List code.Behind) (i : ℕ) → PartsTo ps i → length ps ≤ i → false ≡ before_in_parts (view_parts ps)
parts_last = last (λ ps. before_in_parts (view_parts ps)) refl

pub ruleset parts_laws = (parts_there, parts_next, parts_last)

-- the edge type of `outdegree` is a text
pub degree_has : (e : Option (List ℕ)) → before_in_trees (quoted e) ≡ false
degree_has None = refl
degree_has (Some e) = refl

-- ---- factors and terms

abbrev pub FactorsTo : List (MulSign × Expr) → ℕ → Type 0
FactorsTo = LeftTo (λ fs. before_in_factors (view_factors fs))

pub factors_there : (fs : List (MulSign × Expr)) (i : ℕ) (f : MulSign × Expr) (b : Bool) → FactorsTo fs i → i < length fs → f ≡ get_or fs i f → b ≡ before_in (view f.1) → b ≡ true → true ≡ before_in_factors (view_factors fs)
factors_there = there (λ fs. before_in_factors (view_factors fs)) (λ f. before_in (view f.1)) (λ f fs. refl)

pub factors_next : (fs : List (MulSign × Expr)) (i : ℕ) (f : MulSign × Expr) (b : Bool) → FactorsTo fs i → i < length fs → f ≡ get_or fs i f → b ≡ before_in (view f.1) → b ≡ false → FactorsTo fs (i + 1)
factors_next = next (λ fs. before_in_factors (view_factors fs)) (λ f. before_in (view f.1)) (λ f fs. refl)

pub factors_last : (fs : List (MulSign × Expr)) (i : ℕ) → FactorsTo fs i → length fs ≤ i → false ≡ before_in_factors (view_factors fs)
factors_last = last (λ fs. before_in_factors (view_factors fs)) refl

pub ruleset factors_laws = (factors_there, factors_next, factors_last)

abbrev pub TermsTo : List (AddSign × Expr) → ℕ → Type 0
TermsTo = LeftTo (λ ts. before_in_terms (view_terms ts))

pub terms_there : (ts : List (AddSign × Expr)) (i : ℕ) (t : AddSign × Expr) (b : Bool) → TermsTo ts i → i < length ts → t ≡ get_or ts i t → b ≡ before_in (view t.1) → b ≡ true → true ≡ before_in_terms (view_terms ts)
terms_there = there (λ ts. before_in_terms (view_terms ts)) (λ t. before_in (view t.1)) (λ t ts. refl)

pub terms_next : (ts : List (AddSign × Expr)) (i : ℕ) (t : AddSign × Expr) (b : Bool) → TermsTo ts i → i < length ts → t ≡ get_or ts i t → b ≡ before_in (view t.1) → b ≡ false → TermsTo ts (i + 1)
terms_next = next (λ ts. before_in_terms (view_terms ts)) (λ t. before_in (view t.1)) (λ t ts. refl)

pub terms_last : (ts : List (AddSign × Expr)) (i : ℕ) → TermsTo ts i → length ts ≤ i → false ≡ before_in_terms (view_terms ts)
terms_last = last (λ ts. before_in_terms (view_terms ts)) refl

pub ruleset terms_laws = (terms_there, terms_next, terms_last)

-- ---- the values of ORDER BY

first_lacks : (a b : Bool) → (a || b) ≡ false → a ≡ false
first_lacks true b h = h
first_lacks false b h = refl

others_lack : (a b : Bool) → (a || b) ≡ false → b ≡ false
others_lack true b h = absurd (cc h)
others_lack false b h = h

abbrev pub KeysTo : List (Expr × Bool) → ℕ → Type 0
KeysTo = LeftTo (λ ks. before_in_keys (order_of ks))

pub keys_there : (ks : List (Expr × Bool)) (i : ℕ) (k : Expr × Bool) (b : Bool) → KeysTo ks i → i < length ks → k ≡ get_or ks i k → b ≡ before_in (view k.0) → b ≡ true → true ≡ before_in_keys (order_of ks)
keys_there = there (λ ks. before_in_keys (order_of ks)) (λ k. before_in (view k.0)) (λ k ks. refl)

pub keys_next : (ks : List (Expr × Bool)) (i : ℕ) (k : Expr × Bool) (b : Bool) → KeysTo ks i → i < length ks → k ≡ get_or ks i k → b ≡ before_in (view k.0) → b ≡ false → KeysTo ks (i + 1)
keys_next = next (λ ks. before_in_keys (order_of ks)) (λ k. before_in (view k.0)) (λ k ks. refl)

pub keys_last : (ks : List (Expr × Bool)) (i : ℕ) → KeysTo ks i → length ks ≤ i → false ≡ before_in_keys (order_of ks)
keys_last = last (λ ks. before_in_keys (order_of ks)) refl

pub ruleset keys_laws = (keys_there, keys_next, keys_last)

-- if none has one, the one at a place has none
key_lacks : (ks : List (Expr × Bool)) (i : ℕ) (k : Expr × Bool) → before_in_keys (order_of ks) ≡ false → i < length ks → k ≡ get_or ks i k → before_in (view k.0) ≡ false
key_lacks [] i k h n is = absurd (omega (arith, n))
key_lacks (k' ∷ ks) zero k h n is = ap (λ (x : Expr × Bool). before_in (view x.0)) is ∙ first_lacks _ _ h
key_lacks (k' ∷ ks) (suc i) k h n is = key_lacks ks i k (others_lack _ _ h) (omega (arith, n)) is

pub keys_lack : (ks : List (Expr × Bool)) (i : ℕ) (k : Expr × Bool) (b : Bool) → b ≡ before_in_keys (order_of ks) → i < length ks → k ≡ get_or ks i k → b ≡ false → before_in (view k.0) ≡ false
keys_lack ks i k b has n is lacks = key_lacks ks i k (sym has ∙ lacks) n is

-- ---- an expression without one means the same, whatever the accumulators from before the block are

module _ {N : Type 0} (look : Look N) (before : N → ℕ → Outcome) where
  abbrev other : Look N
  other = record look { before = before }

  mutual
    pub same_meaning : (t : Tree N) → before_in t ≡ false → meaning look t ≡ meaning other t
    same_meaning (Number n) h = refl
    same_meaning (Text s) h = refl
    same_meaning (Truth b) h = refl
    same_meaning (Global a) h = refl
    same_meaning (Name x) h = refl
    same_meaning (Call f ts) h = ap (λ (given : List (Option Base) → Answer Wrong (List Val)). found (function_named (setting look.world) f) >>= λ g. given (function_wants g) >>= function_of look.world.calendar g) (fun_ext (λ wants. same_arguments wants ts h))
    same_meaning (Post t ps) h = ap₂ (λ (m : Outcome) (f : Meant → Outcome). m >>= f) (same_meaning t (first_lacks _ _ h)) (fun_ext (λ m. same_parts m ps (others_lack _ _ h)))
    same_meaning (Neg n t) h = ap (λ (m : Outcome). m >>= value_of_meant >>= minus n) (same_meaning t h)
    same_meaning (Mul t fs) h = ap₂ (λ (m : Outcome) (f : Meant → Outcome). m >>= f) (same_meaning t (first_lacks _ _ h)) (fun_ext (λ m. same_factors m fs (others_lack _ _ h)))
    same_meaning (Sum t ts) h = ap₂ (λ (m : Outcome) (f : Meant → Outcome). m >>= f) (same_meaning t (first_lacks _ _ h)) (fun_ext (λ m. same_terms m ts (others_lack _ _ h)))
    same_meaning (Cmp s sign t) h = ap₂ (λ (m n : Outcome). m >>= value_of_meant >>= λ v. n >>= value_of_meant >>= compared sign v) (same_meaning s (first_lacks _ _ h)) (same_meaning t (others_lack _ _ h))
    same_meaning (Not n t) h = ap (λ (m : Outcome). m >>= value_of_meant >>= as_truth >>= λ b. truly (nots n b)) (same_meaning t h)
    same_meaning (And t ts) h = ap₂ (λ (m : Outcome) (f : Meant → Outcome). m >>= f) (same_meaning t (first_lacks _ _ h)) (fun_ext (λ m. same_all m ts (others_lack _ _ h)))
    same_meaning (Or t ts) h = ap₂ (λ (m : Outcome) (f : Meant → Outcome). m >>= f) (same_meaning t (first_lacks _ _ h)) (fun_ext (λ m. same_any m ts (others_lack _ _ h)))

    same_arguments : (wants : List (Option Base)) (ts : Trees N) → before_in_trees ts ≡ false → arguments look wants ts ≡ arguments other wants ts
    same_arguments wants no_tree h = refl
    same_arguments [] (tree t ts) h = refl
    same_arguments (want ∷ wants) (tree t ts) h = ap₂ (λ (m : Outcome) (rest : Answer Wrong (List Val)). m >>= value_of_meant >>= wanted want >>= λ v. rest >>= λ vs. Gives (v ∷ vs)) (same_meaning t (first_lacks _ _ h)) (same_arguments wants ts (others_lack _ _ h))

    same_parts : (m : Meant) (ps : Parts N) → before_in_parts ps ≡ false → meaning_parts look m ps ≡ meaning_parts other m ps
    same_parts m no_part h = refl
    same_parts m (part p ps) h = ap₂ (λ (n : Outcome) (f : Meant → Outcome). n >>= f) (same_part m p (first_lacks _ _ h)) (fun_ext (λ n. same_parts n ps (others_lack _ _ h)))

    same_part : (m : Meant) (p : Behind N) → before_in_part p ≡ false → meaning_part look m p ≡ meaning_part other m p
    same_part m (Field f) h = refl
    same_part m (Method x ts) h = ap (λ (given : List (Option Base) → Answer Wrong (List Val)). found (look.world.words.method x) >>= λ f. given (method_wants f m) >>= method_of look.world.graph f m) (fun_ext (λ wants. same_arguments wants ts h))
    same_part m (Attached a) h = refl
    same_part m (Before a) h = absurd (cc h)

    same_factors : (m : Meant) (fs : Factors N) → before_in_factors fs ≡ false → meaning_factors look m fs ≡ meaning_factors other m fs
    same_factors m no_factor h = refl
    same_factors m (factor sign t rest) h = ap₂ (λ (o : Outcome) (f : Meant → Outcome). value_of_meant m >>= λ v. o >>= value_of_meant >>= product sign v >>= f) (same_meaning t (first_lacks _ _ h)) (fun_ext (λ n. same_factors n rest (others_lack _ _ h)))

    same_terms : (m : Meant) (ts : Terms N) → before_in_terms ts ≡ false → meaning_terms look m ts ≡ meaning_terms other m ts
    same_terms m no_term h = refl
    same_terms m (term sign t rest) h = ap₂ (λ (o : Outcome) (f : Meant → Outcome). value_of_meant m >>= λ v. o >>= value_of_meant >>= summed sign v >>= f) (same_meaning t (first_lacks _ _ h)) (fun_ext (λ n. same_terms n rest (others_lack _ _ h)))

    same_all : (m : Meant) (ts : Trees N) → before_in_trees ts ≡ false → meaning_all look m ts ≡ meaning_all other m ts
    same_all m no_tree h = refl
    same_all m (tree t ts) h = ap₂ (λ (o : Outcome) (f : Meant → Outcome). value_of_meant m >>= as_truth >>= elim [ true ↦ o >>= f | false ↦ truly false ]) (same_meaning t (first_lacks _ _ h)) (fun_ext (λ n. same_all n ts (others_lack _ _ h)))

    same_any : (m : Meant) (ts : Trees N) → before_in_trees ts ≡ false → meaning_any look m ts ≡ meaning_any other m ts
    same_any m no_tree h = refl
    same_any m (tree t ts) h = ap₂ (λ (o : Outcome) (f : Meant → Outcome). value_of_meant m >>= as_truth >>= elim [ true ↦ truly true | false ↦ o >>= f ]) (same_meaning t (first_lacks _ _ h)) (fun_ext (λ n. same_any n ts (others_lack _ _ h)))
