-- ChainLemmas: a chain of one item is that item, and a longer one is a tree.
use Rattle.std.proofs.Common.{◌≡◌, ℕ, zero, suc, List, [], ◌∷◌, length, refl, arith}
use Rattle.gq_tree.specs.declared.expr.Node.{Node}
use Rattle.gq_tree.specs.declared.expr.Node.TheVariants as node
use Rattle.gq_tree.specs.declared.expr.Part.{Part}
use Rattle.gq_tree.specs.declared.expr.AddSign.{AddSign}
use Rattle.gq_tree.specs.declared.expr.MulSign.{MulSign}
use Rattle.gq_grammar.specs.Shapes.{post_at, neg_at, mul_at, sum_at, not_at, and_at, or_at}

-- a tree that is built from a first part and others, if there are others
module _ {A : Type 0} (at : Node → List A → Node) (tree : Node → List A → Node)
    (one : (first : Node) → first ≡ at first [])
    (more : (first : Node) (item : A) (items : List A) → tree first (item ∷ items) ≡ at first (item ∷ items)) where
  alone : (first : Node) (items : List A) → length items ≡ 0 → first ≡ at first items
  alone first [] h = one first
  alone first (item ∷ items) h = absurd (omega arith)

  several : (first : Node) (items : List A) → (length items ≡ 0 → ⊥) → tree first items ≡ at first items
  several first [] h = absurd (h refl)
  several first (item ∷ items) h = more first item items

pub post_one : (first : Node) (parts : List Part) → length parts ≡ 0 → first ≡ post_at first parts
post_one = alone post_at (λ first parts. node.Post first parts) (λ first. refl) (λ first part parts. refl)

pub post_more : (first : Node) (parts : List Part) → (length parts ≡ 0 → ⊥) → node.Post first parts ≡ post_at first parts
post_more = several post_at (λ first parts. node.Post first parts) (λ first. refl) (λ first part parts. refl)

pub mul_one : (first : Node) (others : List (MulSign × Node)) → length others ≡ 0 → first ≡ mul_at first others
mul_one = alone mul_at (λ first others. node.Mul first others) (λ first. refl) (λ first other others. refl)

pub mul_more : (first : Node) (others : List (MulSign × Node)) → (length others ≡ 0 → ⊥) → node.Mul first others ≡ mul_at first others
mul_more = several mul_at (λ first others. node.Mul first others) (λ first. refl) (λ first other others. refl)

pub sum_one : (first : Node) (others : List (AddSign × Node)) → length others ≡ 0 → first ≡ sum_at first others
sum_one = alone sum_at (λ first others. node.Sum first others) (λ first. refl) (λ first other others. refl)

pub sum_more : (first : Node) (others : List (AddSign × Node)) → (length others ≡ 0 → ⊥) → node.Sum first others ≡ sum_at first others
sum_more = several sum_at (λ first others. node.Sum first others) (λ first. refl) (λ first other others. refl)

pub and_one : (first : Node) (others : List Node) → length others ≡ 0 → first ≡ and_at first others
and_one = alone and_at (λ first others. node.And first others) (λ first. refl) (λ first other others. refl)

pub and_more : (first : Node) (others : List Node) → (length others ≡ 0 → ⊥) → node.And first others ≡ and_at first others
and_more = several and_at (λ first others. node.And first others) (λ first. refl) (λ first other others. refl)

pub or_one : (first : Node) (others : List Node) → length others ≡ 0 → first ≡ or_at first others
or_one = alone or_at (λ first others. node.Or first others) (λ first. refl) (λ first other others. refl)

pub or_more : (first : Node) (others : List Node) → (length others ≡ 0 → ⊥) → node.Or first others ≡ or_at first others
or_more = several or_at (λ first others. node.Or first others) (λ first. refl) (λ first other others. refl)

pub neg_one : (n : ℕ) (operand : Node) → n ≡ 0 → operand ≡ neg_at n operand
neg_one zero operand h = refl
neg_one (suc n) operand h = absurd (omega arith)

pub neg_more : (n : ℕ) (operand : Node) → (n ≡ 0 → ⊥) → node.Neg n operand ≡ neg_at n operand
neg_more zero operand h = absurd (h refl)
neg_more (suc n) operand h = refl

pub not_one : (n : ℕ) (operand : Node) → n ≡ 0 → operand ≡ not_at n operand
not_one zero operand h = refl
not_one (suc n) operand h = absurd (omega arith)

pub not_more : (n : ℕ) (operand : Node) → (n ≡ 0 → ⊥) → node.Not n operand ≡ not_at n operand
not_more zero operand h = absurd (h refl)
not_more (suc n) operand h = refl

pub ruleset chains = (post_one, post_more, mul_one, mul_more, sum_one, sum_more, and_one, and_more, or_one, or_more, neg_one, neg_more, not_one, not_more)
