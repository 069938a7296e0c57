-- Mentions: whether an act names an alias, also within its expressions. A name after a dot doesn't name an alias.
use Rattle.std.specs.Prelude.{Bool, false, ◌||◌}
use Rattle.gq_tree.specs.Tree.{Tree, Behind, Trees, Parts, Factors, Terms, Name, Call, Post, Neg, Mul, Sum, Cmp, Not, And, Or, Method, no_tree, tree, no_part, part, no_factor, factor, no_term, term}
use Rattle.gq_rules_typing.specs.Selecting.{Input, Plain, Keys, Inputs, no_input, input_and, Change, Adds, Puts, Act, AtAlias, AtGlobal, Choose, Acts, no_act, act_and, Choices, otherwise, when}

abbrev mutual
  pub in_tree : {N : Type 0} → (N → Bool) → Tree N → Bool
  in_tree is (Name x) = is x
  in_tree is (Call f ts) = in_trees is ts
  in_tree is (Post t ps) = in_tree is t || in_parts is ps
  in_tree is (Neg n t) = in_tree is t
  in_tree is (Mul t fs) = in_tree is t || in_factors is fs
  in_tree is (Sum t ts) = in_tree is t || in_terms is ts
  in_tree is (Cmp s sign t) = in_tree is s || in_tree is t
  in_tree is (Not n t) = in_tree is t
  in_tree is (And t ts) = in_tree is t || in_trees is ts
  in_tree is (Or t ts) = in_tree is t || in_trees is ts
  in_tree is _ = false

  pub in_trees : {N : Type 0} → (N → Bool) → Trees N → Bool
  in_trees is no_tree = false
  in_trees is (tree t ts) = in_tree is t || in_trees is ts

  pub in_parts : {N : Type 0} → (N → Bool) → Parts N → Bool
  in_parts is no_part = false
  in_parts is (part p ps) = in_part is p || in_parts is ps

  pub in_part : {N : Type 0} → (N → Bool) → Behind N → Bool
  in_part is (Method m ts) = in_trees is ts
  in_part is _ = false

  pub in_factors : {N : Type 0} → (N → Bool) → Factors N → Bool
  in_factors is no_factor = false
  in_factors is (factor sign t rest) = in_tree is t || in_factors is rest

  pub in_terms : {N : Type 0} → (N → Bool) → Terms N → Bool
  in_terms is no_term = false
  in_terms is (term sign t rest) = in_tree is t || in_terms is rest

abbrev mutual
  pub in_input : {N : Type 0} → (N → Bool) → Input N → Bool
  in_input is (Plain t) = in_tree is t
  in_input is (Keys ts xs) = in_trees is ts || in_inputs is xs

  pub in_inputs : {N : Type 0} → (N → Bool) → Inputs N → Bool
  in_inputs is no_input = false
  in_inputs is (input_and x xs) = in_input is x || in_inputs is xs

abbrev pub in_change : {N : Type 0} → (N → Bool) → Change N → Bool
in_change is (Adds x) = in_input is x
in_change is (Puts t) = in_tree is t

abbrev mutual
  pub in_act : {N : Type 0} → (N → Bool) → Act N → Bool
  in_act is (AtAlias v a change) = is v || in_change is change
  in_act is (AtGlobal a change) = in_change is change
  in_act is (Choose choices) = in_choices is choices

  pub in_acts : {N : Type 0} → (N → Bool) → Acts N → Bool
  in_acts is no_act = false
  in_acts is (act_and a acts) = in_act is a || in_acts is acts

  pub in_choices : {N : Type 0} → (N → Bool) → Choices N → Bool
  in_choices is (otherwise acts) = in_acts is acts
  in_choices is (when t acts rest) = in_tree is t || (in_acts is acts || in_choices is rest)
