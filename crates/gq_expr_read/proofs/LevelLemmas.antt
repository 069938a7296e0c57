-- LevelLemmas: one more level of nesting.
use Rattle.std.proofs.Common.{◌≡◌, ℕ, suc, ◌-◌, ◌<◌, Option, Some, None, Result, Ok, Err, IfOk, ap, subst, arith}
use Rattle.gq_tree.specs.declared.expr.Node.{Node}
use Rattle.gq_grammar.specs.Lexemes.{Lexemes}
use Rattle.gq_grammar.specs.Parsers.{Found}
use Rattle.gq_expr_read.specs.Descent.{expr, disjunction}

pub no_levels : (n : ℕ) (l : Lexemes) → n ≡ 0 → expr n l ≡ None
unfolding expr
no_levels n l e = ap (λ n. expr n l) e

deeper : (n : ℕ) (all : Lexemes) (at : ℕ) (o : Option (Node × ℕ)) → Found (disjunction (expr n)) all at o → Found (expr (suc n)) all at o
unfolding expr
deeper n all at None h = h
deeper n all at (Some x) h = h

pub level : {E : Type 0} (n : ℕ) (all : Lexemes) (at : ℕ) (r : Result (Option (Node × ℕ)) E) → 0 < n → IfOk r (Found (disjunction (expr (n - 1))) all at) → IfOk r (Found (expr n) all at)
level n all at (Err e) some h = h
level n all at (Ok o) some h =
    let e : suc (n - 1) ≡ n = omega arith in
    subst (λ m. Found (expr m) all at o) e (deeper (n - 1) all at o h)
