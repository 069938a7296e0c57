-- NamelessLemmas: without a name to search for none is found.
use Rattle.std.proofs.Common.{◌≡◌, ℕ, Bool, false, ◌||◌, Option, None, refl, sym, ap, ◌∙◌}
use Rattle.std.specs.Option.{option_map}
use Rattle.gq_tree.specs.Tree.{Tree, Behind, Trees, Parts, Factors, Terms, Number, Text, Truth, Global, Name, Call, Post, Neg, Mul, Sum, Cmp, Not, And, Or, Field, Method, Attached, Before, no_tree, tree, no_part, part, no_factor, factor, no_term, term}
use Rattle.gq_rules_typing.specs.Selecting.{Input, Plain, Keys, Inputs, no_input, input_and, Change, Adds, Puts, Act, AtAlias, AtGlobal, Choose, Acts, no_act, act_and, Choices, otherwise, when}
use Rattle.gq_rules_typing.specs.Mentions.{in_tree, in_trees, in_parts, in_part, in_factors, in_terms, in_input, in_inputs, in_change, in_act, in_acts, in_choices}
use Rattle.gq_rules_typing.specs.Patterns.{is_alias}
use Rattle.gq_plan_ir.specs.Reference.{Reference, Place}
use Rattle.gq_plan_ir.specs.References.{same}

neither : (a b : Bool) → a ≡ false → b ≡ false → (a || b) ≡ false
neither a b e g = ap (λ x. x || b) e ∙ g

module _ {N : Type 0} (is : N → Bool) (h : (x : N) → is x ≡ false) where
  mutual
    tree_none : (t : Tree N) → in_tree is t ≡ false
    tree_none (Name x) = h x
    tree_none (Call f ts) = trees_none ts
    tree_none (Post t ps) = neither _ _ (tree_none t) (parts_none ps)
    tree_none (Neg n t) = tree_none t
    tree_none (Mul t fs) = neither _ _ (tree_none t) (factors_none fs)
    tree_none (Sum t ts) = neither _ _ (tree_none t) (terms_none ts)
    tree_none (Cmp t sign u) = neither _ _ (tree_none t) (tree_none u)
    tree_none (Not n t) = tree_none t
    tree_none (And t ts) = neither _ _ (tree_none t) (trees_none ts)
    tree_none (Or t ts) = neither _ _ (tree_none t) (trees_none ts)
    tree_none (Number n) = refl
    tree_none (Text t) = refl
    tree_none (Truth b) = refl
    tree_none (Global a) = refl

    trees_none : (ts : Trees N) → in_trees is ts ≡ false
    trees_none no_tree = refl
    trees_none (tree t ts) = neither _ _ (tree_none t) (trees_none ts)

    parts_none : (ps : Parts N) → in_parts is ps ≡ false
    parts_none no_part = refl
    parts_none (part p ps) = neither _ _ (part_none p) (parts_none ps)

    part_none : (p : Behind N) → in_part is p ≡ false
    part_none (Method m ts) = trees_none ts
    part_none (Field f) = refl
    part_none (Attached a) = refl
    part_none (Before a) = refl

    factors_none : (fs : Factors N) → in_factors is fs ≡ false
    factors_none no_factor = refl
    factors_none (factor sign t fs) = neither _ _ (tree_none t) (factors_none fs)

    terms_none : (ts : Terms N) → in_terms is ts ≡ false
    terms_none no_term = refl
    terms_none (term sign t ts) = neither _ _ (tree_none t) (terms_none ts)

  mutual
    input_none : (x : Input N) → in_input is x ≡ false
    input_none (Plain t) = tree_none t
    input_none (Keys ts xs) = neither _ _ (trees_none ts) (inputs_none xs)

    inputs_none : (xs : Inputs N) → in_inputs is xs ≡ false
    inputs_none no_input = refl
    inputs_none (input_and x xs) = neither _ _ (input_none x) (inputs_none xs)

  change_none : (change : Change N) → in_change is change ≡ false
  change_none (Adds x) = input_none x
  change_none (Puts t) = tree_none t

  mutual
    act_none : (a : Act N) → in_act is a ≡ false
    act_none (AtAlias v a change) = neither _ _ (h v) (change_none change)
    act_none (AtGlobal a change) = change_none change
    act_none (Choose choices) = choices_none choices

    acts_none : (acts : Acts N) → in_acts is acts ≡ false
    acts_none no_act = refl
    acts_none (act_and a acts) = neither _ _ (act_none a) (acts_none acts)

    choices_none : (choices : Choices N) → in_choices is choices ≡ false
    choices_none (otherwise acts) = acts_none acts
    choices_none (when t acts rest) = neither _ _ (tree_none t) (neither _ _ (acts_none acts) (choices_none rest))

-- no statement names an end without an alias
pub none_named : (alias : Option ℕ) (a : Act Reference) → alias ≡ None → false ≡ in_act (is_alias same (option_map Place alias)) a
none_named alias a e = sym (ap (λ (o : Option ℕ). in_act (is_alias same (option_map Place o)) a) e ∙ act_none (is_alias same None) (λ x. refl) a)
