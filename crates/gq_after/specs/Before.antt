-- Before: whether an expression reads an accumulator as it was before the block, as `v.@a'`.
use Rattle.std.specs.Prelude.{Bool, true, false, ◌||◌, List, [], ◌∷◌}
use Rattle.gq_tree.specs.Tree.{Tree, Behind, Trees, Parts, Factors, Terms, Call, Post, Neg, Mul, Sum, Cmp, Not, And, Or, Method, Before, no_tree, tree, no_part, part, no_factor, factor, no_term, term}

abbrev mutual
  pub before_in : {N : Type 0} → Tree N → Bool
  before_in (Call f ts) = before_in_trees ts
  before_in (Post t ps) = before_in t || before_in_parts ps
  before_in (Neg n t) = before_in t
  before_in (Mul t fs) = before_in t || before_in_factors fs
  before_in (Sum t ts) = before_in t || before_in_terms ts
  before_in (Cmp s sign t) = before_in s || before_in t
  before_in (Not n t) = before_in t
  before_in (And t ts) = before_in t || before_in_trees ts
  before_in (Or t ts) = before_in t || before_in_trees ts
  before_in _ = false

  pub before_in_trees : {N : Type 0} → Trees N → Bool
  before_in_trees no_tree = false
  before_in_trees (tree t ts) = before_in t || before_in_trees ts

  pub before_in_parts : {N : Type 0} → Parts N → Bool
  before_in_parts no_part = false
  before_in_parts (part p ps) = before_in_part p || before_in_parts ps

  pub before_in_part : {N : Type 0} → Behind N → Bool
  before_in_part (Before a) = true
  before_in_part (Method m ts) = before_in_trees ts
  before_in_part _ = false

  pub before_in_factors : {N : Type 0} → Factors N → Bool
  before_in_factors no_factor = false
  before_in_factors (factor sign t rest) = before_in t || before_in_factors rest

  pub before_in_terms : {N : Type 0} → Terms N → Bool
  before_in_terms no_term = false
  before_in_terms (term sign t rest) = before_in t || before_in_terms rest

-- whether one of the values of ORDER BY does
abbrev pub before_in_keys : {N : Type 0} → List (Tree N × Bool) → Bool
before_in_keys [] = false
before_in_keys (key ∷ order) = before_in key.0 || before_in_keys order
