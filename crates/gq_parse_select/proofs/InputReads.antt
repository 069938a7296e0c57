-- InputReads: inputs and changes are read as the grammar says, a lemma for each production.
use Rattle.std.proofs.Common.{◌≡◌, ℕ, zero, suc, ◌≤◌, List, [], ◌∷◌, ◌++◌, length, Some, None, ◌⊎◌, inl, inr, ⊎_elim, refl, sym, ap, ◌∙◌, subst, arith}
use Rattle.gq_tree.specs.declared.expr.Node.{Node}
use Rattle.gq_tree.specs.declared.select.InputTree.{InputTree}
use Rattle.gq_tree.specs.declared.select.InputTree.TheVariants as input
use Rattle.gq_tree.specs.declared.select.ChangeTree.TheVariants as change
use Rattle.gq_grammar.specs.Expressions.{Derives}
use Rattle.gq_grammar.specs.Acts.{keyed_of}
use Rattle.gq_grammar.specs.Acts as g
use Rattle.gq_grammar.specs.Lexemes.{Lexemes, Terminal, sign}
use Rattle.gq_grammar.specs.Languages.{Language}
use Rattle.gq_grammar.specs.Signs.{second, inner, One}
use Rattle.gq_grammar.specs.Series.{chain, one_and_all}
use Rattle.gq_grammar.specs.Parsers.{Parser, both, many, one, after, enclosed}
use Rattle.gq_grammar.proofs.Sets.{Starts, starts_left, starts_right}
use Rattle.gq_grammar.proofs.Claims.{Goes, Reads, widen, or_cases}
use Rattle.gq_grammar.proofs.ThenLemmas.{then_reads, both_some}
use Rattle.gq_grammar.proofs.MadeLemmas.{made_reads, made_some, either_reads}
use Rattle.gq_grammar.proofs.ManyLemmas.{many_takes}
use Rattle.gq_grammar.proofs.SignLemmas.{one_reads, after_reads, enclosed_reads}
use Rattle.gq_grammar.proofs.SeriesLemmas.{chain_reads}
use Rattle.gq_grammar.proofs.ExactLemmas.{opens_none, apart_reads}
use Rattle.gq_expr_read.specs.Descent.{expr}
use Rattle.gq_expr_read.proofs.Productions.{firsts, goes, expr_reads}
use Rattle.gq_parse_common.specs.Expression.{expression}
use Rattle.gq_parse_common.proofs.Steps.{more, goes_as, expression_reads}
use Rattle.gq_parse_common.proofs.KindReads.{value_reads}
use Rattle.gq_parse_select.specs.Acts as d
use Rattle.gq_parse_select.proofs.Missing.{none_made, none_second, expression_none}

-- the terminals that may continue a list of expressions
abbrev pub list_goes : List Terminal
list_goes = sign "," ∷ goes

-- ---- where keys are found, there is no expression

-- after the first key comes a comma or an arrow
abbrev arrows : List Terminal
arrows = sign "," ∷ sign "->" ∷ []

-- a parenthesis, a first expression, and then a comma or an arrow
record Keyed (l : Lexemes) : Type 0 where
  rest : Lexemes
  opens : one (sign "(") l ≡ Some (tt, rest)
  key : Node
  behind : Lexemes
  found : expression rest ≡ Some (key, behind)
  on : Starts arrows behind

after_opens : {A : Type 0} (k : Terminal) (q : Parser A) (l : Lexemes) (a : A) (r : Lexemes) → after k q l ≡ Some (a, r) → Starts (k ∷ []) l
unfolding after
after_opens k q l a r h =
    let w = made_some second (both (one k) q l) a r h in
    let z = both_some (one k) q l w.0 r w.1 in
    (one_reads 0 k).opens l w.0.0 z.0 z.1

first_key : (l : Lexemes) (keys : List Node) (r : Lexemes) → chain (sign ",") expression l ≡ Some (keys, r) → (a : Node) × (m : Lexemes) × (expression l ≡ Some (a, m)) × ((m ≡ r) ⊎ Starts (sign "," ∷ []) m)
unfolding chain
first_key l keys r h =
    let w = made_some one_and_all (both expression (many (after (sign ",") expression)) l) keys r h in
    let z = both_some expression (many (after (sign ",") expression)) l w.0 r w.1 in
    (w.0.0, z.0, z.1, (many_takes (after_reads (sign ",") (expression_reads 0)) refl).opens z.0 w.0.1 r z.2)

arrow_next : (m r : Lexemes) → Starts (sign "->" ∷ []) r → (m ≡ r) ⊎ Starts (sign "," ∷ []) m → Starts arrows m
arrow_next m r s (inl e) = starts_right (sign "," ∷ []) (sign "->" ∷ []) m (subst (Starts (sign "->" ∷ [])) (sym e) s)
arrow_next m r s (inr c) = starts_left (sign "," ∷ []) (sign "->" ∷ []) m c

keyed_is : (i : Parser InputTree) (l : Lexemes) (t : InputTree) (r : Lexemes) → d.keyed_input_parser i l ≡ Some (t, r) → Keyed l
unfolding d.keyed_input_parser d.inputs_parser enclosed
keyed_is i l t r h =
    let keys = chain (sign ",") expression in
    let within = both keys (after (sign "->") (chain (sign ",") i)) in
    let a = made_some keyed_of (enclosed within l) t r h in
    let b = made_some inner (both (one (sign "(")) (both within (one (sign ")"))) l) a.0 r a.1 in
    let c = both_some (one (sign "(")) (both within (one (sign ")"))) l b.0 r b.1 in
    let e = both_some within (one (sign ")")) c.0 b.0.1 r c.2 in
    let f = both_some keys (after (sign "->") (chain (sign ",") i)) c.0 b.0.1.0 e.0 e.1 in
    let k = first_key c.0 b.0.1.0.0 f.0 f.1 in
    record {
      rest = c.0;
      opens = c.1;
      key = k.0;
      behind = k.1;
      found = k.2;
      on = arrow_next k.1 f.0 (after_opens (sign "->") (chain (sign ",") i) f.0 b.0.1.0.1 e.0 f.2) k.3;
    }

not_found : {A : Type 0} (p : Parser A) (cs : List Terminal) (a : A) (l y : Lexemes) → Goes p cs a l y → p l ≡ None → ⊥
not_found p cs a l y g e = ⊎_elim (λ exact. some_none (sym exact ∙ e)) (λ on. some_none (sym on.1.is ∙ e)) g
  where
    some_none : {X : Type 0} {x : X} → Some x ≡ None → ⊥
    some_none h = cc

keyed_held : (l : Lexemes) (k : Keyed l) → enclosed (expr (length k.rest)) l ≡ None
unfolding enclosed expression
keyed_held l k =
    none_made inner (both (one (sign "(")) (both (expr (length k.rest)) (one (sign ")")))) l
    (none_second (one (sign "(")) (both (expr (length k.rest)) (one (sign ")"))) l tt k.rest k.opens
    (none_second (expr (length k.rest)) (one (sign ")")) k.rest k.key k.behind k.found
    (opens_none arrows (one_reads 0 (sign ")")) refl k.behind k.on)))

one_longer : (l : Lexemes) (k : Keyed l) → length l ≡ suc (length k.rest)
unfolding One
one_longer l k =
    let s = (one_reads 0 (sign "(")).sound l tt k.rest k.opens in
    ap length (s.is ∙ ap (λ z. z ++ k.rest) s.derives.1)

no_expression : (a : Node) (x y : Lexemes) → Derives a x → Keyed (x ++ y) → ⊥
no_expression a x y s k =
    not_found (expr (suc (length k.rest))) goes a (x ++ y) y
    ((expr_reads (suc (length k.rest))).whole a x y s (omega (arith, one_longer (x ++ y) k)))
    (expression_none (length k.rest) (x ++ y) ((one_reads 0 (sign "(")).opens (x ++ y) tt k.rest k.opens) (keyed_held (x ++ y) k))

keyed_free : (i : Parser InputTree) (a : Node) (x y : Lexemes) → Derives a x → d.keyed_input_parser i (x ++ y) ≡ None
keyed_free i a x y s = ⊎_elim
    (λ none. none)
    (λ some. absurd (no_expression a x y s (keyed_is i (x ++ y) some.0.0 some.0.1 some.1)))
    (or_cases (d.keyed_input_parser i (x ++ y)))

-- ---- inputs, over inputs one level deeper, which have one token less

module _ (n m : ℕ) (nm : n ≤ suc m) (I I' : Language InputTree) (i : Parser InputTree) (r : Reads m I I' i firsts goes) where
  keyed_input_reads : Reads n (g.KeyedInput I) (g.KeyedInput I') (d.keyed_input_parser i) (sign "(" ∷ []) []
  unfolding g.KeyedInput d.keyed_input_parser g.Inputs d.inputs_parser
  keyed_input_reads =
      made_reads keyed_of (enclosed_reads (then_reads (chain_reads (sign ",") (expression_reads m) refl) (after_reads (sign "->") (chain_reads (sign ",") r refl)) (more m) refl) nm refl)

  input_in_reads : Reads n (g.InputIn I) (g.InputIn I') (d.input_in_parser i) firsts goes
  unfolding g.InputIn d.input_in_parser
  input_in_reads = widen firsts goes refl refl (apart_reads keyed_input_reads (made_reads input.One (expression_reads n)) (λ a x y s le. keyed_free i s.0 x y s.1))

-- ---- the recursion: what is read is derived in n levels; what is derived in k levels is read, in at most n tokens

pub no_tokens : (fs : List Terminal) (x y : Lexemes) → length (x ++ y) ≤ zero → Starts fs x → ⊥
no_tokens fs [] y le s = s
no_tokens fs (t ∷ x) y le s = omega (arith, le)

nested_begins : (k : ℕ) (r : Reads zero (g.NestedInput k) (g.NestedInput zero) (d.nested_input_parser zero) firsts goes) (t : InputTree) (x : Lexemes) → g.NestedInput (suc k) t x → Starts firsts x
unfolding g.NestedInput
nested_begins k r t x s = (input_in_reads zero zero (omega arith) (g.NestedInput k) (g.NestedInput zero) (d.nested_input_parser zero) r).begins t x s

nested_reads : (n k : ℕ) → Reads n (g.NestedInput k) (g.NestedInput n) (d.nested_input_parser n) firsts goes
unfolding g.NestedInput d.nested_input_parser
nested_reads zero zero = record {
  sound = λ l t r h. cc;
  opens = λ l t r h. cc;
  begins = λ t x s. absurd s;
  whole = λ t x y s le. absurd s;
}
nested_reads zero (suc k) = record {
  sound = λ l t r h. cc;
  opens = λ l t r h. cc;
  begins = nested_begins k (nested_reads zero k);
  whole = λ t x y s le. absurd (no_tokens firsts x y le (nested_begins k (nested_reads zero k) t x s));
}
nested_reads (suc n) zero =
    let w = input_in_reads (suc n) n (omega arith) (g.NestedInput zero) (g.NestedInput n) (d.nested_input_parser n) (nested_reads n zero) in
    record { sound = w.sound; opens = w.opens; begins = λ t x s. absurd s; whole = λ t x y s le. absurd s }
nested_reads (suc n) (suc k) =
    let w = input_in_reads (suc n) n (omega arith) (g.NestedInput k) (g.NestedInput n) (d.nested_input_parser n) (nested_reads n k) in
    record { sound = w.sound; opens = w.opens; begins = w.begins; whole = w.whole }

levels_reads : (n : ℕ) → Reads n g.Input g.Input (d.nested_input_parser n) firsts goes
unfolding g.Input
levels_reads n = record {
  sound = λ l t r h. let s = (nested_reads n zero).sound l t r h in record { text = s.text; is = s.is; derives = (n, s.derives) };
  opens = (nested_reads n zero).opens;
  begins = λ t x s. (nested_reads n s.0).begins t x s.1;
  whole = λ t x y s le. (nested_reads n s.0).whole t x y s.1 le;
}

input_at : (l : Lexemes) → d.input_parser l ≡ d.nested_input_parser (length l) l
unfolding d.input_parser
input_at l = refl

pub input_reads : (n : ℕ) → Reads n g.Input g.Input d.input_parser firsts goes
unfolding d.input_parser
input_reads n = record {
  sound = λ l t r h. (levels_reads (length l)).sound l t r h;
  opens = λ l t r h. (levels_reads (length l)).opens l t r h;
  begins = λ t x s. (levels_reads n).begins t x s;
  whole = λ t x y s le. goes_as (d.nested_input_parser (length (x ++ y))) d.input_parser goes t (x ++ y) y (input_at (x ++ y)) ((levels_reads (length (x ++ y))).whole t x y s (omega arith));
}

-- ---- changes

pub change_reads : (n : ℕ) → Reads n g.ChangeOf g.ChangeOf d.change_parser (sign "+=" ∷ sign "=" ∷ []) goes
unfolding g.ChangeOf d.change_parser
change_reads n =
    widen (sign "+=" ∷ sign "=" ∷ []) goes refl refl (either_reads (made_reads change.Feed (after_reads (sign "+=") (input_reads n))) (made_reads change.Set (value_reads n)) refl)
