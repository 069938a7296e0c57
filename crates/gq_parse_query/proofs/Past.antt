-- Past: a name followed by what can't continue an expression is read further than the expression that is just this
-- name.
use Rattle.std.proofs.Common.{◌≡◌, ℕ, zero, suc, List, [], ◌∷◌, ◌++◌, length, Bool, true, false, Option, Some, None, inl, inr, ⊎_elim, refl, sym, ap, ◌∙◌, subst, arith, append-nil}
use Rattle.gq_tree.specs.declared.expr.Node.{Node}
use Rattle.gq_grammar.specs.Shapes.{named, post_of, neg_of, mul_of, sum_of, cmp_of, not_of, and_of, or_of}
use Rattle.gq_grammar.specs.Expressions.{Named, Prim, PartOf, Post, Neg, MulOp, Mul, AddOp, Sum, CmpOp, Cmp, Not, And, Expr, Nested, Derives}
use Rattle.gq_grammar.specs.Lexemes.{Lexeme, Lexemes, Terminal, Name, is_of, word, sign, spelling}
use Rattle.gq_grammar.specs.Languages.{Language, ◌then◌, Many, Maybe, Made}
use Rattle.gq_grammar.specs.Signs.{One, After}
use Rattle.gq_grammar.specs.Parsers.{Parser, token_at, token, both, made}
use Rattle.gq_grammar.proofs.Sets.{Starts, disjoint, clash}
use Rattle.gq_grammar.proofs.Claims.{Goes, Reads, some_inj}
use Rattle.gq_grammar.proofs.ThenLemmas.{both_some}
use Rattle.gq_grammar.proofs.MadeLemmas.{made_some}
use Rattle.gq_grammar.proofs.WholeLemmas.{exactly}
use Rattle.gq_expr_read.proofs.Productions.{goes}
use Rattle.gq_parse_common.specs.Expression.{expression}
use Rattle.gq_parse_common.proofs.Steps.{expression_reads}

-- ---- a single name is an expression

alone : {A B C : Type 0} (f : A × List B → C) (D : Language A) (E : Language B) (x : Lexemes) → (a : A) × D a x → (c : C) × Made f (D then Many E) c x
alone f D E x w = (f (w.0, []), ((w.0, []), (x, [], sym (append-nil x), w.1, refl), refl))

unmarked : {A B C : Type 0} (f : List B × A → C) (D : Language A) (E : Language B) (x : Lexemes) → (a : A) × D a x → (c : C) × Made f (Many E then D) c x
unmarked f D E x w = (f ([], w.0), (([], w.0), ([], x, refl, refl, w.1), refl))

uncompared : {A B C : Type 0} (f : A × Option B → C) (D : Language A) (E : Language B) (x : Lexemes) → (a : A) × D a x → (c : C) × Made f (D then Maybe E) c x
uncompared f D E x w = (f (w.0, None), ((w.0, None), (x, [], sym (append-nil x), w.1, refl), refl))

name_alone : (t : Lexeme) → is_of Name t ≡ true → (a : Node) × Derives a (t ∷ [])
unfolding Derives Nested Expr And Not Cmp Sum Mul Neg Post Prim Named
name_alone t h =
    let E : Language Node = Nested zero in
    let x : Lexemes = t ∷ [] in
    let prim : (a : Node) × Prim E a x = (named (t.text, None), inl (inr ((t.text, None), (x, [], refl, (t, refl, h, refl), refl), refl))) in
    let post : (a : Node) × Post E a x = alone post_of (Prim E) (PartOf E) x prim in
    let neg : (a : Node) × Neg E a x = unmarked neg_of (Post E) (One (sign "-")) x post in
    let mul : (a : Node) × Mul E a x = alone mul_of (Neg E) (MulOp then Neg E) x neg in
    let sum : (a : Node) × Sum E a x = alone sum_of (Mul E) (AddOp then Mul E) x mul in
    let cmp : (a : Node) × Cmp E a x = uncompared cmp_of (Sum E) (CmpOp then Sum E) x sum in
    let negated : (a : Node) × Not E a x = unmarked not_of (Cmp E) (One (word "NOT")) x cmp in
    let both_of : (a : Node) × And E a x = alone and_of (Not E) (After (word "AND") (Not E)) x negated in
    let whole : (a : Node) × Expr E a x = alone or_of (And E) (After (word "OR") (And E)) x both_of in
    (whole.0, (suc zero, whole.1))

-- so an expression that begins with a name may continue as expressions do
pub ends_at_name : (gs : List Terminal) → disjoint goes gs ≡ true → (a : Node) (t : Lexeme) (v : Lexemes) → is_of Name t ≡ true → Derives a (t ∷ v) → Starts gs v → ⊥
ends_at_name gs apart a t v h d s =
    let n : ℕ = length ((t ∷ v) ++ []) in
    let w : (a : Node) × Derives a (t ∷ []) = name_alone t h in
    let all : expression (t ∷ v) ≡ Some (a, []) = subst (λ z. expression z ≡ Some (a, [])) (append-nil (t ∷ v)) (exactly (expression_reads n) a (t ∷ v) d (omega arith)) in
    let g : Goes expression goes w.0 (t ∷ v) v = (expression_reads (length (t ∷ v))).whole w.0 (t ∷ []) v w.1 (omega arith) in
    ⊎_elim
    (λ exact. let i : ◌≡◌ {A = Node × Lexemes} (w.0, v) (a, []) = some_inj (sym exact ∙ all) in subst (Starts gs) (ap (λ z. z.1) i) s)
    (λ on. clash goes gs apart v on.0 s)
    g

-- ---- a name, and what q reads after it

token_true : (t : Lexeme) (l : Lexemes) (b : Bool) (c : List ℕ) (m : Lexemes) → token_at spelling t l b ≡ Some (c, m) → (b ≡ true) × (l ≡ m)
token_true t l true c m h = let i : ◌≡◌ {A = List ℕ × Lexemes} (spelling t, l) (c, m) = some_inj h in (refl, ap (λ z. z.1) i)
token_true t l false c m h = cc

name_first : (t : Lexeme) (l : Lexemes) (c : List ℕ) (m : Lexemes) → token Name spelling (t ∷ l) ≡ Some (c, m) → (is_of Name t ≡ true) × (l ≡ m)
unfolding token
name_first t l c m h = token_true t l (is_of Name t) c m h

behind_name : {B C : Type 0} (f : List ℕ × B → C) (q : Parser B) (t : Lexeme) (l : Lexemes) (b : C) (r : Lexemes) → made f (both (token Name spelling) q) (t ∷ l) ≡ Some (b, r)
    → (c : B) × (is_of Name t ≡ true) × (q l ≡ Some (c, r))
behind_name f q t l b r h =
    let w = made_some f (both (token Name spelling) q (t ∷ l)) b r h in
    let p = both_some (token Name spelling) q (t ∷ l) w.0 r w.1 in
    let k = name_first t l w.0.0 p.0 p.1 in
    (w.0.1, k.0, subst (λ z. q z ≡ Some (w.0.1, r)) (sym k.1) p.2)

-- if D can't continue after a first name with what q begins with, q begins where D ends
pub past_name : {A B C : Type 0} {n m : ℕ} {D D' : Language A} {E E' : Language B} {p : Parser A} {q : Parser B} {fs cs hs : List Terminal} (gs : List Terminal) (f : List ℕ × B → C) → Reads n D D' p fs cs → Reads m E E' q gs hs
    → ((a : A) (t : Lexeme) (v : Lexemes) → is_of Name t ≡ true → D a (t ∷ v) → Starts gs v → ⊥)
    → (a : A) (x y : Lexemes) (b : C) (r : Lexemes) → D a x → made f (both (token Name spelling) q) (x ++ y) ≡ Some (b, r) → Starts gs y × ((z : Lexemes) × (y ≡ z ++ r))
past_name {fs = fs} gs f d g ends a [] y b r h e = absurd (d.begins a [] h)
past_name {q = q} gs f d g ends a (t ∷ []) y b r h e =
    let w = behind_name f q t y b r e in
    let s = g.sound y w.0 r w.2 in
    (g.opens y w.0 r w.2, (s.text, s.is))
past_name {q = q} gs f d g ends a (t ∷ u ∷ v) y b r h e =
    let w = behind_name f q t (u ∷ (v ++ y)) b r e in
    absurd (ends a t (u ∷ v) w.1 h (g.opens (u ∷ (v ++ y)) w.0 r w.2))
