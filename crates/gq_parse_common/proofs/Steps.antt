-- Steps: expressions in productions, and what follows a first lexeme.
use Rattle.std.proofs.Common.{◌≡◌, ℕ, suc, ◌≤◌, List, [], ◌∷◌, ◌++◌, length, true, Option, Some, None, Result, Ok, Err, IfOk, inl, inr, ⊎_elim, refl, sym, ap, ◌∙◌, subst, arith, append_assoc, length-drop, drop, ◌-◌}
use Rattle.gq_tree.specs.declared.expr.Node.{Node}
use Rattle.gq_grammar.specs.Expressions.{Derives}
use Rattle.gq_grammar.specs.Lexemes.{Lexeme, Lexemes, Terminal}
use Rattle.gq_grammar.specs.Languages.{Language, Maybe}
use Rattle.gq_grammar.specs.Signs.{second, One, After}
use Rattle.gq_grammar.specs.Series.{Ended}
use Rattle.gq_grammar.specs.Parsers.{Parser, Found, after}
use Rattle.gq_grammar.proofs.Sets.{disjoint, starts_on}
use Rattle.gq_grammar.proofs.Claims.{Goes, Reads}
use Rattle.gq_grammar.proofs.ExactLemmas.{opens_none, after_none}
use Rattle.gq_grammar.proofs.ThenLemmas.{then_reads}
use Rattle.gq_grammar.proofs.MadeLemmas.{made_reads}
use Rattle.gq_grammar.proofs.SignLemmas.{one_reads}
use Rattle.gq_expr_read.specs.Descent.{expr}
use Rattle.gq_expr_read.proofs.Productions.{firsts, goes, expr_reads}
use Rattle.gq_parse_common.specs.Expression.{expression}

pub more : (n : ℕ) → n ≤ suc n
more n = omega arith

-- after one lexeme there is one less
pub after_more : {A : Type 0} {n m : ℕ} {D D' : Language A} {p : Parser A} {fs cs : List Terminal} (k : Terminal) → n ≤ suc m → Reads m D D' p fs cs → Reads n (After k D) (After k D') (after k p) (k ∷ []) cs
unfolding After after
after_more {n = n} k nm r = made_reads second (then_reads (one_reads n k) r nm refl)

-- what holds of a parser at a list holds of one that finds the same there
pub goes_as : {A : Type 0} (p q : Parser A) (cs : List Terminal) (a : A) (l y : Lexemes) → q l ≡ p l → Goes p cs a l y → Goes q cs a l y
goes_as p q cs a l y e g = ⊎_elim
    (λ exact. inl (e ∙ exact))
    (λ on. inr (on.0, record { found = on.1.found; eaten = on.1.eaten; left = on.1.left; is = e ∙ on.1.is; after = on.1.after }))
    g

expression_at : (l : Lexemes) → expression l ≡ expr (length l) l
unfolding expression
expression_at l = refl

pub expression_reads : (n : ℕ) → Reads n Derives Derives expression firsts goes
unfolding expression
expression_reads n = record {
  sound = λ l t r h. (expr_reads (length l)).sound l t r h;
  opens = λ l t r h. (expr_reads (length l)).opens l t r h;
  begins = λ t x d. (expr_reads n).begins t x d;
  whole = λ t x y d le. goes_as (expr (length (x ++ y))) expression goes t (x ++ y) y (expression_at (x ++ y)) ((expr_reads (length (x ++ y))).whole t x y d (omega arith));
}

-- an expression that was found with enough levels
pub expression_found : (all : Lexemes) (at : ℕ) (o : Option (Node × ℕ)) → Found (expr (length all - at)) all at o → Found expression all at o
unfolding expression
expression_found all at None f = subst (λ n. expr n (drop at all) ≡ None) (fits all at) f
  where
    fits : (all : Lexemes) (at : ℕ) → length all - at ≡ length (drop at all)
    fits all at = omega (arith, length-drop at all)
expression_found all at (Some x) f = (subst (λ n. expr n (drop at all) ≡ Some (x.0, drop x.1 all)) (fits all at) f.0, f.1, f.2)
  where
    fits : (all : Lexemes) (at : ℕ) → length all - at ≡ length (drop at all)
    fits all at = omega (arith, length-drop at all)

-- ---- what follows a first lexeme

pub behind_first : {A : Type 0} (k : Terminal) (D : Language A) (a : A) (x : Lexemes) → After k D a x → (t : Lexeme) × (v : Lexemes) × (x ≡ t ∷ v) × D a v
unfolding After One
behind_first k D a x s =
    let d = s.1 in
    (d.3.0, d.1, d.2 ∙ ap (λ z. z ++ d.1) d.3.1, subst (λ b. D b d.1) (sym s.2) d.4)

-- if another lexeme follows the first, nothing is found
pub after_apart : {A B : Type 0} {n m : ℕ} {D D' : Language A} {E E' : Language B} {p : Parser A} {q : Parser B} {fs cs hs : List Terminal} (k j : Terminal) (gs : List Terminal) → Reads n D D' p fs cs → Reads m E E' q gs hs → disjoint fs gs ≡ true → (b : B) (x y : Lexemes) → After j E b x → after k p (x ++ y) ≡ None
after_apart {E = E} {p = p} k j gs r g apart b x y s =
    let w = behind_first j E b x s in
    ap (λ z. after k p (z ++ y)) w.2 ∙ after_none k p w.0 (w.1 ++ y) (opens_none gs r apart (w.1 ++ y) (starts_on gs w.1 y (g.begins b w.1 w.3)))

ended_at : {A B : Type 0} {n : ℕ} {D D' : Language A} {p : Parser A} {fs cs : List Terminal} (k : Terminal) (E : Language B) → Reads n D D' p fs cs → disjoint fs (k ∷ []) ≡ true → ((b : B) (x y : Lexemes) → E b x → p (x ++ y) ≡ None) → (o : Option B) (u v y : Lexemes) → Maybe E o u → One k tt v → p ((u ++ v) ++ y) ≡ None
ended_at {n = n} {p = p} k E r apart free None u v y none end =
    ap (λ z. p ((z ++ v) ++ y)) none ∙ opens_none (k ∷ []) r apart (v ++ y) (starts_on (k ∷ []) v y ((one_reads n k).begins tt v end))
ended_at {p = p} k E r apart free (Some b) u v y some end = ap p (append_assoc u v y) ∙ free b u (v ++ y) some

-- nothing is found at the start of E, or at the end
pub end_none : {A B : Type 0} {n : ℕ} {D D' : Language A} {p : Parser A} {fs cs : List Terminal} (k : Terminal) (E : Language B) → Reads n D D' p fs cs → disjoint fs (k ∷ []) ≡ true → ((b : B) (x y : Lexemes) → E b x → p (x ++ y) ≡ None) → (o : Option B) (x y : Lexemes) → Ended k (Maybe E) o x → p (x ++ y) ≡ None
unfolding Ended
end_none {p = p} k E r apart free o x y s = ap (λ z. p (z ++ y)) s.1.2 ∙ ended_at k E r apart free s.0.0 s.1.0 s.1.1 y s.1.3 s.1.4

pub expression_result : {E : Type 0} (all : Lexemes) (at n : ℕ) (r : Result (Option (Node × ℕ)) E) → n ≡ length all → IfOk r (Found (expr (n - at)) all at) → IfOk r (Found expression all at)
expression_result all at n (Err e) is h = h
expression_result all at n (Ok o) is h = expression_found all at o (subst (λ n. Found (expr (n - at)) all at o) is h)
