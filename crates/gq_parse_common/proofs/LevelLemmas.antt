-- LevelLemmas: one more level of kinds.
use Rattle.std.proofs.Common.{◌≡◌, ℕ, suc, ◌-◌, ◌<◌, Option, Some, None, Result, Ok, Err, IfOk, ap, subst, arith}
use Rattle.gq_tree.specs.declared.kind.KindTree.{KindTree}
use Rattle.gq_grammar.specs.Lexemes.{Lexemes}
use Rattle.gq_grammar.specs.Parsers.{Found}
use Rattle.gq_parse_common.specs.Kinds.{kind_parser, kind_in_parser}

pub no_levels : (n : ℕ) (l : Lexemes) → n ≡ 0 → kind_parser n l ≡ None
unfolding kind_parser
no_levels n l e = ap (λ n. kind_parser n l) e

deeper : (n : ℕ) (all : Lexemes) (at : ℕ) (o : Option (KindTree × ℕ)) → Found (kind_in_parser (kind_parser n)) all at o → Found (kind_parser (suc n)) all at o
unfolding kind_parser
deeper n all at None h = h
deeper n all at (Some x) h = h

pub level : {E : Type 0} (n : ℕ) (all : Lexemes) (at : ℕ) (r : Result (Option (KindTree × ℕ)) E) → 0 < n → IfOk r (Found (kind_in_parser (kind_parser (n - 1))) all at) → IfOk r (Found (kind_parser n) all at)
level n all at (Err e) some h = h
level n all at (Ok o) some h =
    let e : suc (n - 1) ≡ n = omega arith in
    subst (λ m. Found (kind_parser m) all at o) e (deeper (n - 1) all at o h)
