-- NamingLemmas: searching a list for a name, item by item.
use Rattle.std.proofs.Common.{◌≡◌, ℕ, ◌+◌, ◌<◌, ◌≤◌, Bool, true, false, ◌||◌, List, [], ◌∷◌, map, drop, length, get_or, Option, Some, None, refl, sym, ap, ap₂, ◌∙◌}
use Rattle.std.specs.Option.{option_map}
use Rattle.std.proofs.lemmas.List.{drop_more, drop_all}
use Rattle.gq_tree.specs.Tree.{Tree}
use Rattle.gq_tree.specs.declared.expr.AddSign.{AddSign}
use Rattle.gq_tree.specs.declared.expr.MulSign.{MulSign}
use Rattle.gq_rules_typing.specs.SelectViews.{inputs_of, choices_of}
use Rattle.gq_rules_typing.specs.Selecting as plain
use Rattle.gq_rules_typing.specs.Mentions.{in_tree, in_trees, in_parts, in_part, in_factors, in_terms, in_input, in_inputs, in_act, in_acts, in_choices}
use Rattle.gq_plan_ir.specs.declared.expr.Expr.{Expr}
use Rattle.gq_plan_ir.specs.declared.expr.Behind.{Behind}
use Rattle.gq_plan_ir.specs.declared.block.Feed.{Feed}
use Rattle.gq_plan_ir.specs.declared.block.Act.{Act}
use Rattle.gq_plan_ir.specs.declared.block.Act.TheVariants as act
use Rattle.gq_plan_ir.specs.ExprView.{view, views, view_behind, view_parts, view_factors, view_terms, quoted}
use Rattle.gq_plan_ir.specs.BlockView.{view_feed, view_act, view_acts}
use Rattle.gq_plan_ir.specs.Reference.{Reference}
use Rattle.gq_plan_ir.proofs.ViewLaws.{view_act-If}
use Rattle.gq_exec_post.specs.Naming.{is_place}

-- ---- any list

-- a search of a list, from its first item to the rest
abbrev Steps : {A : Type 0} → (List A → Bool) → (A → Bool) → Type 0
Steps {A} f g = (x : A) (xs : List A) → f (x ∷ xs) ≡ (g x || f xs)

-- none of the first i items names the place
abbrev pub LeftTo : {A : Type 0} → (List A → Bool) → List A → ℕ → Type 0
LeftTo f xs i = f xs ≡ f (drop i xs)

here : {A : Type 0} (f : List A → Bool) (g : A → Bool) → Steps f g → (xs : List A) (i : ℕ) (x : A) → LeftTo f xs i → i < length xs → x ≡ get_or xs i x → f xs ≡ (g x || f (drop (i + 1) xs))
here f g s xs i x inv n is = inv ∙ ap f (drop_more xs i x n ∙ ap (λ y. y ∷ drop (i + 1) xs) (sym is)) ∙ s x (drop (i + 1) xs)

-- the result for an item is b
found : {A : Type 0} (f : List A → Bool) (g : A → Bool) → Steps f g → (xs : List A) (i : ℕ) (x : A) (b : Bool) → LeftTo f xs i → i < length xs → x ≡ get_or xs i x → b ≡ g x → b ≡ true → true ≡ f xs
found f g s xs i x b inv n is e t = sym (here f g s xs i x inv n is ∙ ap (λ b. b || f (drop (i + 1) xs)) (sym e ∙ t))

next : {A : Type 0} (f : List A → Bool) (g : A → Bool) → Steps f g → (xs : List A) (i : ℕ) (x : A) (b : Bool) → LeftTo f xs i → i < length xs → x ≡ get_or xs i x → b ≡ g x → b ≡ false → LeftTo f xs (i + 1)
next f g s xs i x b inv n is e t = here f g s xs i x inv n is ∙ ap (λ b. b || f (drop (i + 1) xs)) (sym e ∙ t)

last : {A : Type 0} (f : List A → Bool) → f [] ≡ false → (xs : List A) (i : ℕ) → LeftTo f xs i → length xs ≤ i → false ≡ f xs
last f z xs i inv l = sym (inv ∙ ap f (drop_all i xs l) ∙ z)

-- ---- expressions

abbrev pub AnyTo : ℕ → List Expr → ℕ → Type 0
AnyTo p = LeftTo (λ ts. in_trees (is_place p) (views ts))

pub any_found : (p : ℕ) (ts : List Expr) (i : ℕ) (t : Expr) (b : Bool) → AnyTo p ts i → i < length ts → t ≡ get_or ts i t → b ≡ in_tree (is_place p) (view t) → b ≡ true → true ≡ in_trees (is_place p) (views ts)
any_found p = found (λ ts. in_trees (is_place p) (views ts)) (λ t. in_tree (is_place p) (view t)) (λ t ts. refl)

pub any_next : (p : ℕ) (ts : List Expr) (i : ℕ) (t : Expr) (b : Bool) → AnyTo p ts i → i < length ts → t ≡ get_or ts i t → b ≡ in_tree (is_place p) (view t) → b ≡ false → AnyTo p ts (i + 1)
any_next p = next (λ ts. in_trees (is_place p) (views ts)) (λ t. in_tree (is_place p) (view t)) (λ t ts. refl)

pub any_last : (p : ℕ) (ts : List Expr) (i : ℕ) → AnyTo p ts i → length ts ≤ i → false ≡ in_trees (is_place p) (views ts)
any_last p = last (λ ts. in_trees (is_place p) (views ts)) refl

pub ruleset any_laws = (any_found, any_next, any_last)

-- ---- parts after dots

abbrev pub PartsTo : ℕ → List Behind → ℕ → Type 0
PartsTo p = LeftTo (λ ts. in_parts (is_place p) (view_parts ts))

pub parts_found : (p : ℕ) (ts : List Behind) (i : ℕ) (t : Behind) (b : Bool) → PartsTo p ts i → i < length ts → t ≡ get_or ts i t → b ≡ in_part (is_place p) (view_behind t) → b ≡ true → true ≡ in_parts (is_place p) (view_parts ts)
parts_found p = found (λ ts. in_parts (is_place p) (view_parts ts)) (λ t. in_part (is_place p) (view_behind t)) (λ t ts. refl)

pub parts_next : (p : ℕ) (ts : List Behind) (i : ℕ) (t : Behind) (b : Bool) → PartsTo p ts i → i < length ts → t ≡ get_or ts i t → b ≡ in_part (is_place p) (view_behind t) → b ≡ false → PartsTo p ts (i + 1)
parts_next p = next (λ ts. in_parts (is_place p) (view_parts ts)) (λ t. in_part (is_place p) (view_behind t)) (λ t ts. refl)

pub parts_last : (p : ℕ) (ts : List Behind) (i : ℕ) → PartsTo p ts i → length ts ≤ i → false ≡ in_parts (is_place p) (view_parts ts)
parts_last p = last (λ ts. in_parts (is_place p) (view_parts ts)) refl

pub ruleset parts_laws = (parts_found, parts_next, parts_last)

-- the edge type of `outdegree` is a text
pub degree_names : (p : ℕ) (e : Option (List ℕ)) → in_trees (is_place p) (quoted e) ≡ false
degree_names p None = refl
degree_names p (Some e) = refl

-- ---- factors and terms

abbrev pub FactorsTo : ℕ → List (MulSign × Expr) → ℕ → Type 0
FactorsTo p = LeftTo (λ ts. in_factors (is_place p) (view_factors ts))

pub factors_found : (p : ℕ) (ts : List (MulSign × Expr)) (i : ℕ) (t : MulSign × Expr) (b : Bool) → FactorsTo p ts i → i < length ts → t ≡ get_or ts i t → b ≡ in_tree (is_place p) (view t.1) → b ≡ true → true ≡ in_factors (is_place p) (view_factors ts)
factors_found p = found (λ ts. in_factors (is_place p) (view_factors ts)) (λ t. in_tree (is_place p) (view t.1)) (λ t ts. refl)

pub factors_next : (p : ℕ) (ts : List (MulSign × Expr)) (i : ℕ) (t : MulSign × Expr) (b : Bool) → FactorsTo p ts i → i < length ts → t ≡ get_or ts i t → b ≡ in_tree (is_place p) (view t.1) → b ≡ false → FactorsTo p ts (i + 1)
factors_next p = next (λ ts. in_factors (is_place p) (view_factors ts)) (λ t. in_tree (is_place p) (view t.1)) (λ t ts. refl)

pub factors_last : (p : ℕ) (ts : List (MulSign × Expr)) (i : ℕ) → FactorsTo p ts i → length ts ≤ i → false ≡ in_factors (is_place p) (view_factors ts)
factors_last p = last (λ ts. in_factors (is_place p) (view_factors ts)) refl

pub ruleset factors_laws = (factors_found, factors_next, factors_last)

abbrev pub TermsTo : ℕ → List (AddSign × Expr) → ℕ → Type 0
TermsTo p = LeftTo (λ ts. in_terms (is_place p) (view_terms ts))

pub terms_found : (p : ℕ) (ts : List (AddSign × Expr)) (i : ℕ) (t : AddSign × Expr) (b : Bool) → TermsTo p ts i → i < length ts → t ≡ get_or ts i t → b ≡ in_tree (is_place p) (view t.1) → b ≡ true → true ≡ in_terms (is_place p) (view_terms ts)
terms_found p = found (λ ts. in_terms (is_place p) (view_terms ts)) (λ t. in_tree (is_place p) (view t.1)) (λ t ts. refl)

pub terms_next : (p : ℕ) (ts : List (AddSign × Expr)) (i : ℕ) (t : AddSign × Expr) (b : Bool) → TermsTo p ts i → i < length ts → t ≡ get_or ts i t → b ≡ in_tree (is_place p) (view t.1) → b ≡ false → TermsTo p ts (i + 1)
terms_next p = next (λ ts. in_terms (is_place p) (view_terms ts)) (λ t. in_tree (is_place p) (view t.1)) (λ t ts. refl)

pub terms_last : (p : ℕ) (ts : List (AddSign × Expr)) (i : ℕ) → TermsTo p ts i → length ts ≤ i → false ≡ in_terms (is_place p) (view_terms ts)
terms_last p = last (λ ts. in_terms (is_place p) (view_terms ts)) refl

pub ruleset terms_laws = (terms_found, terms_next, terms_last)

-- ---- inputs

abbrev pub FeedsTo : ℕ → List Feed → ℕ → Type 0
FeedsTo p = LeftTo (λ ts. in_inputs (is_place p) (inputs_of (map view_feed ts)))

pub feeds_found : (p : ℕ) (ts : List Feed) (i : ℕ) (t : Feed) (b : Bool) → FeedsTo p ts i → i < length ts → t ≡ get_or ts i t → b ≡ in_input (is_place p) (view_feed t) → b ≡ true → true ≡ in_inputs (is_place p) (inputs_of (map view_feed ts))
feeds_found p = found (λ ts. in_inputs (is_place p) (inputs_of (map view_feed ts))) (λ t. in_input (is_place p) (view_feed t)) (λ t ts. refl)

pub feeds_next : (p : ℕ) (ts : List Feed) (i : ℕ) (t : Feed) (b : Bool) → FeedsTo p ts i → i < length ts → t ≡ get_or ts i t → b ≡ in_input (is_place p) (view_feed t) → b ≡ false → FeedsTo p ts (i + 1)
feeds_next p = next (λ ts. in_inputs (is_place p) (inputs_of (map view_feed ts))) (λ t. in_input (is_place p) (view_feed t)) (λ t ts. refl)

pub feeds_last : (p : ℕ) (ts : List Feed) (i : ℕ) → FeedsTo p ts i → length ts ≤ i → false ≡ in_inputs (is_place p) (inputs_of (map view_feed ts))
feeds_last p = last (λ ts. in_inputs (is_place p) (inputs_of (map view_feed ts))) refl

pub ruleset feeds_laws = (feeds_found, feeds_next, feeds_last)

-- ---- acts

abbrev pub ActsTo : ℕ → List Act → ℕ → Type 0
ActsTo p = LeftTo (λ ts. in_acts (is_place p) (view_acts ts))

pub acts_found : (p : ℕ) (ts : List Act) (i : ℕ) (t : Act) (b : Bool) → ActsTo p ts i → i < length ts → t ≡ get_or ts i t → b ≡ in_act (is_place p) (view_act t) → b ≡ true → true ≡ in_acts (is_place p) (view_acts ts)
acts_found p = found (λ ts. in_acts (is_place p) (view_acts ts)) (λ t. in_act (is_place p) (view_act t)) (λ t ts. refl)

pub acts_next : (p : ℕ) (ts : List Act) (i : ℕ) (t : Act) (b : Bool) → ActsTo p ts i → i < length ts → t ≡ get_or ts i t → b ≡ in_act (is_place p) (view_act t) → b ≡ false → ActsTo p ts (i + 1)
acts_next p = next (λ ts. in_acts (is_place p) (view_acts ts)) (λ t. in_act (is_place p) (view_act t)) (λ t ts. refl)

pub acts_last : (p : ℕ) (ts : List Act) (i : ℕ) → ActsTo p ts i → length ts ≤ i → false ≡ in_acts (is_place p) (view_acts ts)
acts_last p = last (λ ts. in_acts (is_place p) (view_acts ts)) refl

pub ruleset acts_laws = (acts_found, acts_next, acts_last)

-- ---- IF

-- IF and each ELSE IF, and the statements of ELSE
abbrev pub in_branches : ℕ → Option (List Act) → List (Expr × List Act) → Bool
in_branches p others bs = in_choices (is_place p) (choices_of (map (λ b. (view b.0, map view_act b.1)) bs) (option_map (map view_act) others))

abbrev pub BranchesTo : ℕ → Option (List Act) → List (Expr × List Act) → ℕ → Type 0
BranchesTo p others = LeftTo (in_branches p others)

or_assoc3 : (a b c : Bool) → (a || (b || c)) ≡ ((a || b) || c)
or_assoc3 true b c = refl
or_assoc3 false b c = refl

abbrev in_branch : ℕ → Expr × List Act → Bool
in_branch p b = in_tree (is_place p) (view b.0) || in_acts (is_place p) (view_acts b.1)

branch_steps : (p : ℕ) (others : Option (List Act)) → Steps (in_branches p others) (in_branch p)
branch_steps p others b bs = or_assoc3 (in_tree (is_place p) (view b.0)) (in_acts (is_place p) (view_acts b.1)) (in_branches p others bs)

same_branches : (bs : List (Expr × List Act)) → map {A = Expr × List (plain.Act Reference)} {B = Tree Reference × List (plain.Act Reference)} (λ b. (view b.0, b.1)) (map {A = Expr × List Act} {B = Expr × List (plain.Act Reference)} (λ b. (b.0, map view_act b.1)) bs)
    ≡ map {A = Expr × List Act} {B = Tree Reference × List (plain.Act Reference)} (λ b. (view b.0, map view_act b.1)) bs
same_branches [] = refl
same_branches (b ∷ bs) = ap (λ cs. (view b.0, map view_act b.1) ∷ cs) (same_branches bs)

if_is : (p : ℕ) (a : Act) (bs items : List (Expr × List Act)) (others : Option (List Act)) → a ≡ act.If bs others → items ≡ bs → in_act (is_place p) (view_act a) ≡ in_branches p others items
if_is p a bs items others is e =
    ap (λ a. in_act (is_place p) (view_act a)) is ∙ ap (in_act (is_place p)) (view_act-If bs others)
    ∙ ap (λ cs. in_choices (is_place p) (choices_of cs (option_map (map view_act) others))) (same_branches bs)
    ∙ ap (in_branches p others) (sym e)

or_true : (a : Bool) → (a || true) ≡ true
or_true true = refl
or_true false = refl

-- the results for a condition and for its statements are q and r
both : (p : ℕ) (b : Expr × List Act) (q r : Bool) → q ≡ in_tree (is_place p) (view b.0) → r ≡ in_acts (is_place p) (view_acts b.1) → (q || r) ≡ in_branch p b
both p b q r c a = ap₂ (λ x y. x || y) c a

pub choice_next : (p : ℕ) (others : Option (List Act)) (bs : List (Expr × List Act)) (i : ℕ) (b : Expr × List Act) (q r : Bool) → BranchesTo p others bs i → i < length bs → b ≡ get_or bs i b
    → q ≡ in_tree (is_place p) (view b.0) → r ≡ in_acts (is_place p) (view_acts b.1) → (q || r) ≡ false → BranchesTo p others bs (i + 1)
choice_next p others bs i b q r inv n is c a e = next (in_branches p others) (in_branch p) (branch_steps p others) bs i b (q || r) inv n is (both p b q r c a) e

module _ (p : ℕ) (a : Act) (bs items : List (Expr × List Act)) (others : Option (List Act)) (is : a ≡ act.If bs others) (lent : items ≡ bs) (i : ℕ) (inv : BranchesTo p others items i) where
  pub choice_found : (b : Expr × List Act) (q : Bool) → i < length items → b ≡ get_or items i b → q ≡ in_branch p b → q ≡ true → true ≡ in_act (is_place p) (view_act a)
  choice_found b q n at e t = found (in_branches p others) (in_branch p) (branch_steps p others) items i b q inv n at e t ∙ sym (if_is p a bs items others is lent)

  -- a condition that names the place, or statements that do
  pub choice_by_condition : (b : Expr × List Act) (q : Bool) → i < length items → b ≡ get_or items i b → q ≡ in_tree (is_place p) (view b.0) → q ≡ true → true ≡ in_act (is_place p) (view_act a)
  choice_by_condition b q n at e t = choice_found b true n at (ap (λ c. c || in_acts (is_place p) (view_acts b.1)) (sym t ∙ e)) refl

  pub choice_by_acts : (b : Expr × List Act) (passed : List Act) (r : Bool) → i < length items → b ≡ get_or items i b → passed ≡ b.1 → r ≡ in_acts (is_place p) (view_acts passed) → r ≡ true → true ≡ in_act (is_place p) (view_act a)
  choice_by_acts b passed r n at same e t = choice_found b (in_branch p b) n at refl
      (ap (λ x. in_tree (is_place p) (view b.0) || x) (sym (e ∙ ap (λ acts. in_acts (is_place p) (view_acts acts)) same) ∙ t) ∙ or_true (in_tree (is_place p) (view b.0)))

  left : (o : Option (List Act)) → length items ≤ i → others ≡ o → in_act (is_place p) (view_act a) ≡ in_branches p o []
  left o l e = if_is p a bs items others is lent ∙ inv ∙ ap (in_branches p others) (drop_all i items l) ∙ ap (λ o. in_branches p o []) e

  pub choice_last : (acts passed : List Act) (r : Bool) → length items ≤ i → others ≡ Some acts → passed ≡ acts → r ≡ in_acts (is_place p) (view_acts passed) → r ≡ in_act (is_place p) (view_act a)
  choice_last acts passed r l some same e = e ∙ ap (λ acts. in_acts (is_place p) (view_acts acts)) same ∙ sym (left (Some acts) l some)

  pub choice_none : length items ≤ i → others ≡ None → false ≡ in_act (is_place p) (view_act a)
  choice_none l none = sym (left None l none)
