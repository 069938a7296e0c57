-- Missing: if a part finds nothing, the whole finds nothing; and no expression is found at a parenthesis that isn't
-- closed after an expression.
use Rattle.std.proofs.Common.{◌≡◌, ℕ, zero, suc, List, [], ◌∷◌, length, true, false, Some, None, refl, ap, ◌∙◌}
use Rattle.gq_tree.specs.declared.expr.Node.{Node}
use Rattle.gq_tree.specs.declared.expr.Node.TheVariants as node
use Rattle.gq_grammar.specs.Shapes.{named, post_of, neg_of, mul_of, sum_of, cmp_of, not_of, and_of, or_of}
use Rattle.gq_grammar.specs.Lexemes.{Lexemes, Terminal, Name, Number, Text, Global, sign, word, spelling, number, said}
use Rattle.gq_grammar.specs.Reserved.{is_reserved}
use Rattle.gq_grammar.specs.Parsers.{Parser, token, and_then, both, made, or_else, ◌or◌, maybe, many_after, many_from, many, one, stands, after, enclosed, separated}
use Rattle.gq_grammar.proofs.Sets.{Starts}
use Rattle.gq_grammar.proofs.TokenLemmas.{token_reads}
use Rattle.gq_grammar.proofs.MadeLemmas.{made_reads}
use Rattle.gq_grammar.proofs.ManyLemmas.{many_from-zero, many_from-suc, many_is}
use Rattle.gq_grammar.proofs.SignLemmas.{one_reads, stands_reads}
use Rattle.gq_grammar.proofs.ExactLemmas.{opens_none}
use Rattle.gq_expr_read.specs.Descent as d

pub none_both : {A B : Type 0} (p : Parser A) (q : Parser B) (l : Lexemes) → p l ≡ None → both p q l ≡ None
none_both p q l e = ap (λ o. and_then o (λ a r. and_then (q r) (λ b s. Some ((a, b), s)))) e

pub none_second : {A B : Type 0} (p : Parser A) (q : Parser B) (l : Lexemes) (a : A) (r : Lexemes) → p l ≡ Some (a, r) → q r ≡ None → both p q l ≡ None
none_second p q l a r e f = ap (λ o. and_then o (λ a r. and_then (q r) (λ b s. Some ((a, b), s)))) e ∙ ap (λ o. and_then o (λ b s. Some ((a, b), s))) f

pub none_made : {A B : Type 0} (f : A → B) (p : Parser A) (l : Lexemes) → p l ≡ None → made f p l ≡ None
none_made f p l e = ap (λ o. and_then o (λ a r. Some (f a, r))) e

pub none_or : {A : Type 0} (p q : Parser A) (l : Lexemes) → p l ≡ None → q l ≡ None → (p or q) l ≡ None
none_or p q l e f = ap (λ o. or_else o (q l)) e ∙ f

no_items : {A : Type 0} (p : Parser A) (n : ℕ) (l : Lexemes) → p l ≡ None → many_from p n [] l ≡ Some ([], l)
no_items p zero l e = many_from-zero p [] l
no_items p (suc n) l e = many_from-suc p n [] l ∙ ap (λ o. many_after o [] l (many_from p n)) e

-- no items, and then nothing
none_lead : {A B : Type 0} (p : Parser A) (q : Parser B) (l : Lexemes) → p l ≡ None → q l ≡ None → both (many p) q l ≡ None
none_lead p q l e f = none_second (many p) q l [] l (many_is p l ∙ no_items p (length l) l e) f

abbrev paren : List Terminal
paren = sign "(" ∷ []

-- ---- at a parenthesis that isn't closed after an expression, each production finds nothing

module _ (e : Parser Node) (l : Lexemes) (s : Starts paren l) (held : enclosed e l ≡ None) where
  prim_none : d.prim e l ≡ None
  unfolding d.prim d.name_and_arguments is_reserved
  prim_none =
      let numbers : Parser Node = made node.Number (token Number number) or made node.Text (token Text said) in
      let trues : Parser Node = stands (node.Truth true) (word "TRUE") in
      let falses : Parser Node = stands (node.Truth false) (word "FALSE") in
      let globals : Parser Node = made node.Global (token Global spelling) in
      let names : Parser Node = made named (d.name_and_arguments e) in
      none_or (numbers or trues or falses or globals or names) (enclosed e) l
      (none_or (numbers or trues or falses or globals) names l
      (none_or (numbers or trues or falses) globals l
      (none_or (numbers or trues) falses l
      (none_or numbers trues l
      (none_or (made node.Number (token Number number)) (made node.Text (token Text said)) l
      (opens_none paren (made_reads node.Number (token_reads 0 Number number)) refl l s)
      (opens_none paren (made_reads node.Text (token_reads 0 Text said)) refl l s))
      (opens_none paren (stands_reads 0 (node.Truth true) (word "TRUE")) refl l s))
      (opens_none paren (stands_reads 0 (node.Truth false) (word "FALSE")) refl l s))
      (opens_none paren (made_reads node.Global (token_reads 0 Global spelling)) refl l s))
      (none_made named (d.name_and_arguments e) l (none_both (token Name spelling) (maybe (enclosed (separated e))) l (opens_none paren (token_reads 0 Name spelling) refl l s))))
      held

  post_none : d.post e l ≡ None
  unfolding d.post
  post_none = none_made post_of (both (d.prim e) (many (d.part e))) l (none_both (d.prim e) (many (d.part e)) l prim_none)

  neg_none : d.neg e l ≡ None
  unfolding d.neg
  neg_none = none_made neg_of (both (many (one (sign "-"))) (d.post e)) l (none_lead (one (sign "-")) (d.post e) l (opens_none paren (one_reads 0 (sign "-")) refl l s) post_none)

  mul_none : d.mul e l ≡ None
  unfolding d.mul
  mul_none = none_made mul_of (both (d.neg e) (many (d.factor e))) l (none_both (d.neg e) (many (d.factor e)) l neg_none)

  sum_none : d.sum e l ≡ None
  unfolding d.sum
  sum_none = none_made sum_of (both (d.mul e) (many (d.term e))) l (none_both (d.mul e) (many (d.term e)) l mul_none)

  cmp_none : d.cmp e l ≡ None
  unfolding d.cmp
  cmp_none = none_made cmp_of (both (d.sum e) (maybe (d.compared e))) l (none_both (d.sum e) (maybe (d.compared e)) l sum_none)

  negation_none : d.negation e l ≡ None
  unfolding d.negation is_reserved
  negation_none = none_made not_of (both (many (one (word "NOT"))) (d.cmp e)) l (none_lead (one (word "NOT")) (d.cmp e) l (opens_none paren (one_reads 0 (word "NOT")) refl l s) cmp_none)

  conjunction_none : d.conjunction e l ≡ None
  unfolding d.conjunction
  conjunction_none = none_made and_of (both (d.negation e) (many (after (word "AND") (d.negation e)))) l (none_both (d.negation e) (many (after (word "AND") (d.negation e))) l negation_none)

  disjunction_none : d.disjunction e l ≡ None
  unfolding d.disjunction
  disjunction_none = none_made or_of (both (d.conjunction e) (many (after (word "OR") (d.conjunction e)))) l (none_both (d.conjunction e) (many (after (word "OR") (d.conjunction e))) l conjunction_none)

-- no expression of one more level is found
pub expression_none : (n : ℕ) (l : Lexemes) → Starts (sign "(" ∷ []) l → enclosed (d.expr n) l ≡ None → d.expr (suc n) l ≡ None
unfolding d.expr
expression_none n l s held = disjunction_none (d.expr n) l s held
