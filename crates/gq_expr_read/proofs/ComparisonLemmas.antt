-- ComparisonLemmas: the first of the seven comparison signs that is at a place.
use Rattle.std.proofs.Common.{◌≡◌, ℕ, Option}
use Rattle.std.specs.Option.{option_or}
use Rattle.gq_tree.specs.declared.expr.CmpSign.{CmpSign}
use Rattle.gq_tree.specs.declared.expr.CmpSign.TheVariants as compare
use Rattle.gq_grammar.specs.Lexemes.{Lexemes, sign}
use Rattle.gq_grammar.specs.Parsers.{Parser, ◌or◌, stands, Found}
use Rattle.gq_grammar.proofs.LoopLemmas.{either_found}
use Rattle.gq_expr_read.specs.Descent.{cmp_sign}

module _ (all : Lexemes) (at : ℕ) where
  pub cmp_found : (r1 r2 r3 r4 r5 r6 r7 o1 o2 o3 o4 o5 o6 : Option (CmpSign × ℕ))
      → o1 ≡ option_or r1 r2 → o2 ≡ option_or o1 r3 → o3 ≡ option_or o2 r4 → o4 ≡ option_or o3 r5 → o5 ≡ option_or o4 r6 → o6 ≡ option_or o5 r7
      → Found (stands compare.Equal (sign "==")) all at r1 → Found (stands compare.NotEqual (sign "!=")) all at r2
      → Found (stands compare.NotEqual (sign "<>")) all at r3 → Found (stands compare.Less (sign "<")) all at r4
      → Found (stands compare.LessOrEqual (sign "<=")) all at r5 → Found (stands compare.Greater (sign ">")) all at r6
      → Found (stands compare.GreaterOrEqual (sign ">=")) all at r7 → Found cmp_sign all at o6
  unfolding cmp_sign
  cmp_found r1 r2 r3 r4 r5 r6 r7 o1 o2 o3 o4 o5 o6 e1 e2 e3 e4 e5 e6 f1 f2 f3 f4 f5 f6 f7 =
      let p1 : Parser CmpSign = stands compare.Equal (sign "==") in
      let p2 : Parser CmpSign = p1 or stands compare.NotEqual (sign "!=") in
      let p3 : Parser CmpSign = p2 or stands compare.NotEqual (sign "<>") in
      let p4 : Parser CmpSign = p3 or stands compare.Less (sign "<") in
      let p5 : Parser CmpSign = p4 or stands compare.LessOrEqual (sign "<=") in
      let p6 : Parser CmpSign = p5 or stands compare.Greater (sign ">") in
      let g2 = either_found p1 (stands compare.NotEqual (sign "!=")) all at r1 r2 o1 e1 f1 f2 in
      let g3 = either_found p2 (stands compare.NotEqual (sign "<>")) all at o1 r3 o2 e2 g2 f3 in
      let g4 = either_found p3 (stands compare.Less (sign "<")) all at o2 r4 o3 e3 g3 f4 in
      let g5 = either_found p4 (stands compare.LessOrEqual (sign "<=")) all at o3 r5 o4 e4 g4 f5 in
      let g6 = either_found p5 (stands compare.Greater (sign ">")) all at o4 r6 o5 e5 g5 f6 in
      either_found p6 (stands compare.GreaterOrEqual (sign ">=")) all at o5 r7 o6 e6 g6 f7
