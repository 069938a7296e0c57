-- LevelLemmas: one more level of statements, and enough levels for the lexemes that remain.
use Rattle.std.proofs.Common.{◌≡◌, ℕ, suc, ◌-◌, ◌<◌, length, drop, Option, Some, None, Result, Ok, Err, IfOk, ap, subst, arith, length-drop}
use Rattle.gq_tree.specs.declared.body.Stmt.{Stmt}
use Rattle.gq_grammar.specs.Lexemes.{Lexemes}
use Rattle.gq_grammar.specs.Parsers.{Found}
use Rattle.gq_parse_select.specs.Bodies.{nested_parser, stmt_in_parser, statement_parser}

pub no_levels : (n : ℕ) (l : Lexemes) → n ≡ 0 → nested_parser n l ≡ None
unfolding nested_parser
no_levels n l e = ap (λ n. nested_parser n l) e

deeper : (n : ℕ) (all : Lexemes) (at : ℕ) (o : Option (Stmt × ℕ)) → Found (stmt_in_parser (nested_parser n)) all at o → Found (nested_parser (suc n)) all at o
unfolding nested_parser
deeper n all at None h = h
deeper n all at (Some x) h = h

pub level : {E : Type 0} (n : ℕ) (all : Lexemes) (at : ℕ) (r : Result (Option (Stmt × ℕ)) E) → 0 < n → IfOk r (Found (stmt_in_parser (nested_parser (n - 1))) all at) → IfOk r (Found (nested_parser n) all at)
level n all at (Err e) some h = h
level n all at (Ok o) some h =
    let e : suc (n - 1) ≡ n = omega arith in
    subst (λ m. Found (nested_parser m) all at o) e (deeper (n - 1) all at o h)

-- as many levels as there are lexemes left
left : (all : Lexemes) (at n : ℕ) → n ≡ length all → n - at ≡ length (drop at all)
left all at n e = omega (arith, length-drop at all, e)

enough : (all : Lexemes) (at n : ℕ) (o : Option (Stmt × ℕ)) → n ≡ length all → Found (nested_parser (n - at)) all at o → Found statement_parser all at o
unfolding statement_parser
enough all at n None e f = subst (λ m. nested_parser m (drop at all) ≡ None) (left all at n e) f
enough all at n (Some x) e f = (subst (λ m. nested_parser m (drop at all) ≡ Some (x.0, drop x.1 all)) (left all at n e) f.0, f.1, f.2)

pub statement_result : {E : Type 0} (all : Lexemes) (at n : ℕ) (r : Result (Option (Stmt × ℕ)) E) → n ≡ length all → IfOk r (Found (nested_parser (n - at)) all at) → IfOk r (Found statement_parser all at)
statement_result all at n (Err e) is h = h
statement_result all at n (Ok o) is h = enough all at n o is h
