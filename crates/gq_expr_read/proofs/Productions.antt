-- Productions: each production is read as the grammar says, so the reader finds the longest expression.
use Rattle.std.proofs.Common.{◌≡◌, ℕ, zero, suc, ◌-◌, ◌≤◌, List, [], ◌∷◌, ◌++◌, length, Some, None, true, false, refl, subst, arith}
use Rattle.gq_tree.specs.declared.expr.Node.{Node}
use Rattle.gq_tree.specs.declared.expr.Node.TheVariants as node
use Rattle.gq_tree.specs.declared.expr.AddSign.TheVariants as add
use Rattle.gq_tree.specs.declared.expr.MulSign.TheVariants as mul
use Rattle.gq_tree.specs.declared.expr.CmpSign.TheVariants as cmp
use Rattle.gq_grammar.specs.Shapes.{named, part_of, attached_of, post_of, neg_of, mul_of, sum_of, cmp_of, not_of, and_of, or_of}
use Rattle.gq_grammar.specs.Expressions as g
use Rattle.gq_grammar.specs.Expressions.{Nested, Derives}
use Rattle.gq_grammar.specs.Lexemes.{Lexemes, Terminal, Name, Number, Text, Global, Attached, sign, word, spelling, number, said}
use Rattle.gq_grammar.specs.Reserved.{is_reserved}
use Rattle.gq_grammar.specs.Languages.{Language, ◌then◌}
use Rattle.gq_grammar.specs.Parsers.{Parser, Found}
use Rattle.gq_grammar.specs.Reading.{IsLongest, HasNone, HasOneTree}
use Rattle.gq_grammar.proofs.Sets.{Starts}
use Rattle.gq_grammar.proofs.Claims.{Reads, widen}
use Rattle.gq_grammar.proofs.TokenLemmas.{token_reads}
use Rattle.gq_grammar.proofs.ThenLemmas.{then_reads, tail_reads, lead_reads}
use Rattle.gq_grammar.proofs.MadeLemmas.{made_reads, either_reads, maybe_takes}
use Rattle.gq_grammar.proofs.ManyLemmas.{many_takes}
use Rattle.gq_grammar.proofs.SignLemmas.{one_reads, stands_reads, after_reads, enclosed_reads, enclosed_takes, separated_takes}
use Rattle.gq_grammar.proofs.WholeLemmas as whole
use Rattle.gq_expr_read.specs.Descent as d

-- ---- with which lexemes a production begins and may continue

abbrev prim_firsts : List Terminal
prim_firsts = Number ∷ Text ∷ word "TRUE" ∷ word "FALSE" ∷ Global ∷ Name ∷ sign "(" ∷ []

abbrev neg_firsts : List Terminal
neg_firsts = sign "-" ∷ prim_firsts

abbrev pub firsts : List Terminal
firsts = word "NOT" ∷ neg_firsts

abbrev post_goes : List Terminal
post_goes = sign "(" ∷ sign "." ∷ sign "'" ∷ []

abbrev mul_signs : List Terminal
mul_signs = sign "*" ∷ sign "/" ∷ sign "%" ∷ []

abbrev mul_goes : List Terminal
mul_goes = mul_signs ++ post_goes

abbrev add_signs : List Terminal
add_signs = sign "+" ∷ sign "-" ∷ []

abbrev sum_goes : List Terminal
sum_goes = add_signs ++ mul_goes

abbrev cmp_signs : List Terminal
cmp_signs = sign "==" ∷ sign "!=" ∷ sign "<>" ∷ sign "<" ∷ sign "<=" ∷ sign ">" ∷ sign ">=" ∷ []

abbrev cmp_goes : List Terminal
cmp_goes = cmp_signs ++ sum_goes

abbrev and_goes : List Terminal
and_goes = word "AND" ∷ cmp_goes

abbrev pub goes : List Terminal
goes = word "OR" ∷ and_goes

no_tokens : (x y : Lexemes) → length (x ++ y) ≤ zero → Starts firsts x → ⊥
no_tokens [] y le s = s
no_tokens (t ∷ x) y le s = omega (arith, le)

-- ---- operators, which contain no expression

module _ (n : ℕ) where
  mul_sign_reads : Reads n g.MulOp g.MulOp d.mul_sign mul_signs []
  unfolding g.MulOp d.mul_sign
  mul_sign_reads =
      either_reads (either_reads (stands_reads n mul.Times (sign "*")) (stands_reads n mul.Over (sign "/")) refl) (stands_reads n mul.Modulo (sign "%")) refl

  add_sign_reads : Reads n g.AddOp g.AddOp d.add_sign add_signs []
  unfolding g.AddOp d.add_sign
  add_sign_reads = either_reads (stands_reads n add.Plus (sign "+")) (stands_reads n add.Minus (sign "-")) refl

  cmp_sign_reads : Reads n g.CmpOp g.CmpOp d.cmp_sign cmp_signs []
  unfolding g.CmpOp d.cmp_sign
  cmp_sign_reads =
      either_reads
      (either_reads
      (either_reads
      (either_reads
      (either_reads
      (either_reads (stands_reads n cmp.Equal (sign "==")) (stands_reads n cmp.NotEqual (sign "!=")) refl)
      (stands_reads n cmp.NotEqual (sign "<>")) refl)
      (stands_reads n cmp.Less (sign "<")) refl)
      (stands_reads n cmp.LessOrEqual (sign "<=")) refl)
      (stands_reads n cmp.Greater (sign ">")) refl)
      (stands_reads n cmp.GreaterOrEqual (sign ">=")) refl

  attached_reads : Reads n g.OfVertex g.OfVertex d.attached (Attached ∷ []) (sign "'" ∷ [])
  unfolding g.OfVertex d.attached
  attached_reads = made_reads attached_of (tail_reads (token_reads n Attached spelling) (maybe_takes (one_reads n (sign "'"))) refl)

-- ---- productions, over expressions one level of nesting deeper, which have one token less

module _ (n m : ℕ) (nm : n ≤ suc m) (E E' : Language Node) (e : Parser Node) (r : Reads m E E' e firsts goes) where
  named_reads : Reads n (g.Named E) (g.Named E') (d.name_and_arguments e) (Name ∷ []) (sign "(" ∷ [])
  unfolding g.Named d.name_and_arguments
  named_reads = tail_reads (token_reads n Name spelling) (maybe_takes (enclosed_takes (separated_takes r refl) nm refl)) refl

  prim_reads : Reads n (g.Prim E) (g.Prim E') (d.prim e) prim_firsts (sign "(" ∷ [])
  unfolding g.Prim d.prim is_reserved
  prim_reads =
      either_reads
      (either_reads
      (either_reads
      (either_reads
      (either_reads
      (either_reads (made_reads node.Number (token_reads n Number number)) (made_reads node.Text (token_reads n Text said)) refl)
      (stands_reads n (node.Truth true) (word "TRUE")) refl)
      (stands_reads n (node.Truth false) (word "FALSE")) refl)
      (made_reads node.Global (token_reads n Global spelling)) refl)
      (made_reads named named_reads) refl)
      (enclosed_reads r nm refl) refl

  part_reads : Reads n (g.PartOf E) (g.PartOf E') (d.part e) (sign "." ∷ []) (sign "(" ∷ sign "'" ∷ [])
  unfolding g.PartOf d.part
  part_reads = after_reads (sign ".") (either_reads (made_reads part_of named_reads) (attached_reads n) refl)

  post_reads : Reads n (g.Post E) (g.Post E') (d.post e) prim_firsts post_goes
  unfolding g.Post d.post
  post_reads = widen prim_firsts post_goes refl refl (made_reads post_of (tail_reads prim_reads (many_takes part_reads refl) refl))

  neg_reads : Reads n (g.Neg E) (g.Neg E') (d.neg e) neg_firsts post_goes
  unfolding g.Neg d.neg
  neg_reads = made_reads neg_of (lead_reads (many_takes (one_reads n (sign "-")) refl) post_reads refl)

  factor_reads : Reads n (g.MulOp then (g.Neg E)) (g.MulOp then (g.Neg E')) (d.factor e) mul_signs post_goes
  unfolding d.factor
  factor_reads = then_reads (mul_sign_reads n) neg_reads (omega arith) refl

  mul_reads : Reads n (g.Mul E) (g.Mul E') (d.mul e) neg_firsts mul_goes
  unfolding g.Mul d.mul
  mul_reads = widen neg_firsts mul_goes refl refl (made_reads mul_of (tail_reads neg_reads (many_takes factor_reads refl) refl))

  term_reads : Reads n (g.AddOp then (g.Mul E)) (g.AddOp then (g.Mul E')) (d.term e) add_signs mul_goes
  unfolding d.term
  term_reads = then_reads (add_sign_reads n) mul_reads (omega arith) refl

  sum_reads : Reads n (g.Sum E) (g.Sum E') (d.sum e) neg_firsts sum_goes
  unfolding g.Sum d.sum
  sum_reads = widen neg_firsts sum_goes refl refl (made_reads sum_of (tail_reads mul_reads (many_takes term_reads refl) refl))

  compared_reads : Reads n (g.CmpOp then (g.Sum E)) (g.CmpOp then (g.Sum E')) (d.compared e) cmp_signs sum_goes
  unfolding d.compared
  compared_reads = then_reads (cmp_sign_reads n) sum_reads (omega arith) refl

  cmp_reads : Reads n (g.Cmp E) (g.Cmp E') (d.cmp e) neg_firsts cmp_goes
  unfolding g.Cmp d.cmp
  cmp_reads = widen neg_firsts cmp_goes refl refl (made_reads cmp_of (tail_reads sum_reads (maybe_takes compared_reads) refl))

  not_reads : Reads n (g.Not E) (g.Not E') (d.negation e) firsts cmp_goes
  unfolding g.Not d.negation is_reserved
  not_reads = made_reads not_of (lead_reads (many_takes (one_reads n (word "NOT")) refl) cmp_reads refl)

  and_reads : Reads n (g.And E) (g.And E') (d.conjunction e) firsts and_goes
  unfolding g.And d.conjunction
  and_reads = widen firsts and_goes refl refl (made_reads and_of (tail_reads not_reads (many_takes (after_reads (word "AND") not_reads) refl) refl))

  or_reads : Reads n (g.Expr E) (g.Expr E') (d.disjunction e) firsts goes
  unfolding g.Expr d.disjunction
  or_reads = widen firsts goes refl refl (made_reads or_of (tail_reads and_reads (many_takes (after_reads (word "OR") and_reads) refl) refl))

-- ---- the recursion: what is read is spelled, by a reader that may use up to n levels; what is spelled in k levels is
-- read, in at most n tokens

nested_begins : (k : ℕ) (r : Reads zero (Nested k) (Nested zero) (d.expr zero) firsts goes) (t : Node) (x : Lexemes) → Nested (suc k) t x → Starts firsts x
unfolding Nested
nested_begins k r t x s = (or_reads zero zero (omega arith) (Nested k) (Nested zero) (d.expr zero) r).begins t x s

nested_reads : (n k : ℕ) → Reads n (Nested k) (Nested n) (d.expr n) firsts goes
unfolding Nested d.expr
nested_reads zero zero = record {
  sound = λ l t r h. cc;
  opens = λ l t r h. cc;
  begins = λ t x s. absurd s;
  whole = λ t x y s le. absurd s;
}
nested_reads zero (suc k) = record {
  sound = λ l t r h. cc;
  opens = λ l t r h. cc;
  begins = nested_begins k (nested_reads zero k);
  whole = λ t x y s le. absurd (no_tokens x y le (nested_begins k (nested_reads zero k) t x s));
}
nested_reads (suc n) zero =
    let w = or_reads (suc n) n (omega arith) (Nested zero) (Nested n) (d.expr n) (nested_reads n zero) in
    record { sound = w.sound; opens = w.opens; begins = λ t x s. absurd s; whole = λ t x y s le. absurd s }
nested_reads (suc n) (suc k) =
    let w = or_reads (suc n) n (omega arith) (Nested k) (Nested n) (d.expr n) (nested_reads n k) in
    record { sound = w.sound; opens = w.opens; begins = w.begins; whole = w.whole }

-- expressions of any nesting
pub expr_reads : (n : ℕ) → Reads n Derives Derives (d.expr n) firsts goes
unfolding Derives
expr_reads n = record {
  sound = λ l t r h. let s = (nested_reads n zero).sound l t r h in record { text = s.text; is = s.is; derives = (n, s.derives) };
  opens = (nested_reads n zero).opens;
  begins = λ t x s. (nested_reads n s.0).begins t x s.1;
  whole = λ t x y s le. (nested_reads n s.0).whole t x y s.1 le;
}

pub one_tree : HasOneTree Derives
one_tree = whole.one_value expr_reads

-- the same at a source's lexemes
pub longest_of : (all source : Lexemes) (count at : ℕ) (t : Node) (end : ℕ) → source ≡ all → length all ≡ count → Found (d.expr (count - at)) source at (Some (t, end)) → IsLongest Derives all at t end
longest_of all source count at t end e n f =
    whole.longest (expr_reads (count - at)) all at t end (omega (arith, n)) (subst (λ s. Found (d.expr (count - at)) s at (Some (t, end))) e f)

pub none_of : (all source : Lexemes) (count at : ℕ) → source ≡ all → length all ≡ count → Found (d.expr (count - at)) source at None → HasNone Derives all at
none_of all source count at e n f =
    whole.none (expr_reads (count - at)) all at (omega (arith, n)) (subst (λ s. Found {A = Node} (d.expr (count - at)) s at None) e f)
