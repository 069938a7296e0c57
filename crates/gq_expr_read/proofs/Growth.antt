-- Growth: the grammar without its bound on levels. An expression derives exactly if its production does over
-- expressions that derive.
use Rattle.std.proofs.Common.{ℕ, zero, suc}
use Rattle.gq_tree.specs.declared.expr.Node.{Node}
use Rattle.gq_grammar.specs.Shapes.{named, part_of, post_of, neg_of, mul_of, sum_of, cmp_of, not_of, and_of, or_of}
use Rattle.gq_grammar.specs.Expressions as g
use Rattle.gq_grammar.specs.Expressions.{Nested, Derives}
use Rattle.gq_grammar.specs.Lexemes.{Lexemes, sign, word}
use Rattle.gq_grammar.specs.Languages.{Language}
use Rattle.gq_grammar.proofs.GrowthLemmas.{Grows, fixed, then_grows, many_grows, maybe_grows, either_grows, made_grows, after_grows, enclosed_grows, separated_grows, step_grows}

module _ {E : ℕ → Language Node} {W : Language Node} (e : Grows E W) where
  named_grows : Grows (λ n. g.Named (E n)) (g.Named W)
  unfolding g.Named
  named_grows = then_grows fixed (maybe_grows (enclosed_grows (separated_grows e)))

  prim_grows : Grows (λ n. g.Prim (E n)) (g.Prim W)
  unfolding g.Prim
  prim_grows = either_grows (either_grows fixed (made_grows named named_grows)) (enclosed_grows e)

  part_grows : Grows (λ n. g.PartOf (E n)) (g.PartOf W)
  unfolding g.PartOf
  part_grows = after_grows (sign ".") (either_grows (made_grows part_of named_grows) fixed)

  post_grows : Grows (λ n. g.Post (E n)) (g.Post W)
  unfolding g.Post
  post_grows = made_grows post_of (then_grows prim_grows (many_grows part_grows))

  neg_grows : Grows (λ n. g.Neg (E n)) (g.Neg W)
  unfolding g.Neg
  neg_grows = made_grows neg_of (then_grows fixed post_grows)

  mul_grows : Grows (λ n. g.Mul (E n)) (g.Mul W)
  unfolding g.Mul
  mul_grows = made_grows mul_of (then_grows neg_grows (many_grows (then_grows fixed neg_grows)))

  sum_grows : Grows (λ n. g.Sum (E n)) (g.Sum W)
  unfolding g.Sum
  sum_grows = made_grows sum_of (then_grows mul_grows (many_grows (then_grows fixed mul_grows)))

  cmp_grows : Grows (λ n. g.Cmp (E n)) (g.Cmp W)
  unfolding g.Cmp
  cmp_grows = made_grows cmp_of (then_grows sum_grows (maybe_grows (then_grows fixed sum_grows)))

  not_grows : Grows (λ n. g.Not (E n)) (g.Not W)
  unfolding g.Not
  not_grows = made_grows not_of (then_grows fixed cmp_grows)

  and_grows : Grows (λ n. g.And (E n)) (g.And W)
  unfolding g.And
  and_grows = made_grows and_of (then_grows not_grows (many_grows (after_grows (word "AND") not_grows)))

  expr_grows : Grows (λ n. g.Expr (E n)) (g.Expr W)
  unfolding g.Expr
  expr_grows = made_grows or_of (then_grows and_grows (many_grows (after_grows (word "OR") and_grows)))

-- ---- the recursion

nested_up : (k : ℕ) (t : Node) (x : Lexemes) → Nested k t x → Nested (suc k) t x
unfolding Nested
nested_up zero t x d = absurd d
nested_up (suc k) t x d = (expr_grows (step_grows (Nested k) (Nested (suc k)) (nested_up k))).up 0 t x d

nested_grows : Grows Nested Derives
unfolding Derives
nested_grows = record { up = nested_up; out = λ k t x d. (k, d); of = λ t x d. d }

pub into : (t : Node) (x : Lexemes) → g.Expr Derives t x → Derives t x
unfolding Nested Derives
into t x d = let i = (expr_grows nested_grows).of t x d in (suc i.0, i.1)

opened : (k : ℕ) (t : Node) (x : Lexemes) → Nested k t x → g.Expr Derives t x
unfolding Nested
opened zero t x d = absurd d
opened (suc k) t x d = (expr_grows nested_grows).out k t x d

pub out_of : (t : Node) (x : Lexemes) → Derives t x → g.Expr Derives t x
unfolding Derives
out_of t x d = opened d.0 t x d.1
