-- MentionLaws: an act names under other names what it names.
use Rattle.std.proofs.Common.{◌≡◌, Bool, refl, ap, ◌∙◌}
use Rattle.std.specs.Prelude.{◌||◌}
use Rattle.gq_tree.specs.Tree.{Tree, Behind, Trees, Parts, Factors, Terms, Name, Call, Post, Neg, Mul, Sum, Cmp, Not, And, Or, Method, no_tree, tree, no_part, part, no_factor, factor, no_term, term}
use Rattle.gq_rules_typing.specs.Selecting.{Input, Plain, Keys, Inputs, no_input, input_and, Change, Adds, Puts, Act, AtAlias, AtGlobal, Choose, Acts, no_act, act_and, Choices, otherwise, when}
use Rattle.gq_rules_typing.specs.Mentions.{in_tree, in_trees, in_parts, in_part, in_factors, in_terms, in_input, in_inputs, in_change, in_act, in_acts, in_choices}
use Rattle.gq_plan_ir.specs.Renamed.{Renaming, renamed, renamed_part, renamed_trees, renamed_parts, renamed_factors, renamed_terms}
use Rattle.gq_plan_ir.specs.RenamedBlocks.{renamed_input, renamed_inputs, renamed_change, renamed_act, renamed_acts, renamed_choices}

or_same : (a b c d : Bool) → a ≡ b → c ≡ d → (a || c) ≡ (b || d)
or_same a b c d e g = ap (λ x. x || c) e ∙ ap (λ x. b || x) g

module _ {M N : Type 0} (r : Renaming M N) (old : M → Bool) (new : N → Bool) (h : (x : M) → new (r.name x) ≡ old x) where
  mutual
    pub tree_names : (t : Tree M) → in_tree new (renamed r t) ≡ in_tree old t
    tree_names (Name x) = h x
    tree_names (Call f ts) = trees_name ts
    tree_names (Post t ps) = or_same _ _ _ _ (tree_names t) (parts_name ps)
    tree_names (Neg n t) = tree_names t
    tree_names (Mul t fs) = or_same _ _ _ _ (tree_names t) (factors_name fs)
    tree_names (Sum t ts) = or_same _ _ _ _ (tree_names t) (terms_name ts)
    tree_names (Cmp t sign u) = or_same _ _ _ _ (tree_names t) (tree_names u)
    tree_names (Not n t) = tree_names t
    tree_names (And t ts) = or_same _ _ _ _ (tree_names t) (trees_name ts)
    tree_names (Or t ts) = or_same _ _ _ _ (tree_names t) (trees_name ts)
    tree_names t = refl

    trees_name : (ts : Trees M) → in_trees new (renamed_trees r ts) ≡ in_trees old ts
    trees_name no_tree = refl
    trees_name (tree t ts) = or_same _ _ _ _ (tree_names t) (trees_name ts)

    parts_name : (ps : Parts M) → in_parts new (renamed_parts r ps) ≡ in_parts old ps
    parts_name no_part = refl
    parts_name (part p ps) = or_same _ _ _ _ (part_names p) (parts_name ps)

    part_names : (p : Behind M) → in_part new (renamed_part r p) ≡ in_part old p
    part_names (Method m ts) = trees_name ts
    part_names p = refl

    factors_name : (fs : Factors M) → in_factors new (renamed_factors r fs) ≡ in_factors old fs
    factors_name no_factor = refl
    factors_name (factor sign t fs) = or_same _ _ _ _ (tree_names t) (factors_name fs)

    terms_name : (ts : Terms M) → in_terms new (renamed_terms r ts) ≡ in_terms old ts
    terms_name no_term = refl
    terms_name (term sign t ts) = or_same _ _ _ _ (tree_names t) (terms_name ts)

  mutual
    input_names : (x : Input M) → in_input new (renamed_input r x) ≡ in_input old x
    input_names (Plain t) = tree_names t
    input_names (Keys ts xs) = or_same _ _ _ _ (trees_name ts) (inputs_name xs)

    inputs_name : (xs : Inputs M) → in_inputs new (renamed_inputs r xs) ≡ in_inputs old xs
    inputs_name no_input = refl
    inputs_name (input_and x xs) = or_same _ _ _ _ (input_names x) (inputs_name xs)

  change_names : (change : Change M) → in_change new (renamed_change r change) ≡ in_change old change
  change_names (Adds x) = input_names x
  change_names (Puts t) = tree_names t

  mutual
    pub act_names : (a : Act M) → in_act new (renamed_act r a) ≡ in_act old a
    act_names (AtAlias v a change) = or_same _ _ _ _ (h v) (change_names change)
    act_names (AtGlobal a change) = change_names change
    act_names (Choose choices) = choices_name choices

    acts_name : (acts : Acts M) → in_acts new (renamed_acts r acts) ≡ in_acts old acts
    acts_name no_act = refl
    acts_name (act_and a acts) = or_same _ _ _ _ (act_names a) (acts_name acts)

    choices_name : (choices : Choices M) → in_choices new (renamed_choices r choices) ≡ in_choices old choices
    choices_name (otherwise acts) = acts_name acts
    choices_name (when t acts rest) = or_same _ _ _ _ (tree_names t) (or_same _ _ _ _ (acts_name acts) (choices_name rest))
