-- MisfitSteps: calls with too few or too many arguments, as the code finds them.
use Rattle.std.proofs.Common.{◌≡◌, ℕ, ◌<◌, ◌≤◌, List, [], ◌∷◌, length, Some, None, Result, refl, sym, ap, subst, ◌∙◌, arith}
use Rattle.gq_tree.specs.Tree.{Call, Method}
use Rattle.gq_value.specs.Accums.{Base, INT}
use Rattle.gq_rules_typing.specs.Words.{Function, DatetimeDiff, DatetimeAdd, Contains}
use Rattle.gq_plan_ir.specs.declared.expr.Expr.{Expr}
use Rattle.gq_plan_ir.specs.Reference.{Reference, Calls, Does}
use Rattle.gq_plan_ir.specs.ExprView.{views}
use Rattle.gq_rules_meaning.specs.Meanings.{Meant, Outcome}
use Rattle.gq_rules_meaning.specs.Expressions.{Look, meaning, meaning_part}
use Rattle.gq_eval_operand.specs.declared.seen.Seen.{Seen}
use Rattle.gq_eval_operand.specs.declared.halt.Halt.{Halt}
use Rattle.gq_eval_operand.specs.Meant.{meant, Tells}
use Rattle.gq_eval_builtins.specs.Elements.{contained_in}
use Rattle.gq_eval_builtins.specs.Steps.{IsSingle, spoiled}
use Rattle.gq_eval_builtins.proofs.ListSteps.{Knows}
use Rattle.gq_eval_builtins.proofs.MisfitLemmas.{not_one, not_two, not_three, not_one_contained}

so_told : (o p : Outcome) (r : Result Seen Halt) → o ≡ p → Tells meant p r → Tells meant o r
so_told o p r e t = subst (λ o. Tells meant o r) (sym e) t

module _ (look : Look Reference) (es : List Expr) (r : Result Seen Halt) where
  pub one_lacks : (f : Reference) (g : Function) → Knows look → IsSingle f g → length es < 1 → Tells meant (spoiled look (None ∷ []) (views es)) r → Tells meant (meaning look (Call f (views es))) r
  one_lacks f g k s l t = so_told _ _ r (not_one look f g es k s (λ m. omega (arith, l, m))) t

  pub one_exceeds : (f : Reference) (g : Function) → Knows look → IsSingle f g → 2 ≤ length es → Tells meant (spoiled look (None ∷ []) (views es)) r → Tells meant (meaning look (Call f (views es))) r
  one_exceeds f g k s l t = so_told _ _ r (not_one look f g es k s (λ m. omega (arith, l, m))) t

  pub two_lack : Knows look → length es < 1 → Tells meant (spoiled look (None ∷ None ∷ []) (views es)) r → Tells meant (meaning look (Call (Calls DatetimeDiff) (views es))) r
  two_lack k l t = so_told _ _ r (not_two look es k (λ m. omega (arith, l, m))) t

  pub two_lack_one : Knows look → length es < 2 → Tells meant (spoiled look (None ∷ None ∷ []) (views es)) r → Tells meant (meaning look (Call (Calls DatetimeDiff) (views es))) r
  two_lack_one k l t = so_told _ _ r (not_two look es k (λ m. omega (arith, l, m))) t

  pub two_exceed : Knows look → 3 ≤ length es → Tells meant (spoiled look (None ∷ None ∷ []) (views es)) r → Tells meant (meaning look (Call (Calls DatetimeDiff) (views es))) r
  two_exceed k l t = so_told _ _ r (not_two look es k (λ m. omega (arith, l, m))) t

  pub three_lack : Knows look → length es < 1 → Tells meant (spoiled look (None ∷ Some INT ∷ None ∷ []) (views es)) r → Tells meant (meaning look (Call (Calls DatetimeAdd) (views es))) r
  three_lack k l t = so_told _ _ r (not_three look es k (λ m. omega (arith, l, m))) t

  pub three_lack_two : Knows look → length es < 2 → Tells meant (spoiled look (None ∷ Some INT ∷ None ∷ []) (views es)) r → Tells meant (meaning look (Call (Calls DatetimeAdd) (views es))) r
  three_lack_two k l t = so_told _ _ r (not_three look es k (λ m. omega (arith, l, m))) t

  pub three_lack_one : Knows look → length es < 3 → Tells meant (spoiled look (None ∷ Some INT ∷ None ∷ []) (views es)) r → Tells meant (meaning look (Call (Calls DatetimeAdd) (views es))) r
  three_lack_one k l t = so_told _ _ r (not_three look es k (λ m. omega (arith, l, m))) t

  pub three_exceed : Knows look → 4 ≤ length es → Tells meant (spoiled look (None ∷ Some INT ∷ None ∷ []) (views es)) r → Tells meant (meaning look (Call (Calls DatetimeAdd) (views es))) r
  three_exceed k l t = so_told _ _ r (not_three look es k (λ m. omega (arith, l, m))) t

  pub contained_lacks : (m : Meant) (b : Base) → look.world.words.method (Does Contains) ≡ Some Contains → contained_in m ≡ Some b → length es < 1 → Tells meant (spoiled look (Some b ∷ []) (views es)) r
      → Tells meant (meaning_part look m (Method (Does Contains) (views es))) r
  contained_lacks m b k c l t = so_told _ _ r (not_one_contained look m b es k c (λ n. omega (arith, l, n))) t

  pub contained_exceeds : (m : Meant) (b : Base) → look.world.words.method (Does Contains) ≡ Some Contains → contained_in m ≡ Some b → 2 ≤ length es → Tells meant (spoiled look (Some b ∷ []) (views es)) r
      → Tells meant (meaning_part look m (Method (Does Contains) (views es))) r
  contained_exceeds m b k c l t = so_told _ _ r (not_one_contained look m b es k c (λ n. omega (arith, l, n))) t

  -- INT, as the code names it
  pub int_wanted : (b : Base) → b ≡ INT → Tells meant (spoiled look (None ∷ Some b ∷ None ∷ []) (views es)) r → Tells meant (spoiled look (None ∷ Some INT ∷ None ∷ []) (views es)) r
  int_wanted b e t = subst (λ b. Tells meant (spoiled look (None ∷ Some b ∷ None ∷ []) (views es)) r) e t

pub ruleset contained_misfits = (contained_lacks, contained_exceeds)
