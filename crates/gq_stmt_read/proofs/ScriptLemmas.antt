-- ScriptLemmas: a script consists of at most one list of statements, or fails at one statement.
use Rattle.std.proofs.Common.{◌≡◌, ℕ, suc, ◌+◌, ◌<◌, List, [], ◌∷◌, length, drop, get_or, Bool, true, false, Some, refl, sym, ap, ◌∙◌, subst, arith, length-drop}
use Rattle.std.specs.Prelude.{slice_get}
use Rattle.std.proofs.lemmas.List.{get_or-drop}
use Rattle.std.proofs.lemmas.Option.{slice_get_within}
use Rattle.gq_token.specs.declared.token.Token.{Token}
use Rattle.gq_grammar.specs.Lexemes.{Lexeme, Lexemes, lexeme_of, lexemes_of, sign, is_of}
use Rattle.gq_grammar.specs.Languages.{Language}
use Rattle.gq_grammar.specs.Reserved.{is_reserved}
use Rattle.gq_grammar.specs.Reading.{between, IsLongest, HasNone, HasOneTree}
use Rattle.gq_grammar.proofs.Sets.{Starts, clash, starts_on}
use Rattle.gq_tree.specs.declared.statement.Statement.{Statement}
use Rattle.gq_tree.specs.declared.statement.Placed.{Placed}
use Rattle.gq_grammar.specs.Scripts.{StatementOf}
use Rattle.gq_grammar.specs.Cutting.{IsSemicolon, AreSemicolons, IsNext, Cuts, IsScript, FailsAt}
use Rattle.gq_stmt_read.proofs.StatementReads.{firsts}
use Rattle.gq_stmt_read.proofs.PlaceLemmas.{parted, head_starts, as_many, at_place, semicolon_at}

some_inj : {X : Type 0} {x y : X} → Some x ≡ Some y → x ≡ y
some_inj h = cc

false_of : (b : Bool) → (b ≡ true → ⊥) → b ≡ false
false_of true h = absurd (h refl)
false_of false h = refl

true_false : (b : Bool) → b ≡ true → b ≡ false → ⊥
true_false true h e = cc
true_false false h e = cc

-- the longest prefix has one end and one tree
longest_alike : {A : Type 0} (D : Language A) (all : Lexemes) (at : ℕ) (a b : A) (end to : ℕ) → HasOneTree D → IsLongest D all at a end → IsLongest D all at b to → (a ≡ b) × (end ≡ to)
longest_alike D all at a b end to one x y =
    let e : to ≡ end = omega (arith, x.longest b to y.from_le y.to_le y.derives, y.longest a end x.from_le x.to_le x.derives) in
    (one a b (between all at end) x.derives (subst (λ n. D b (between all at n)) e y.derives), sym e)

placed_alike : (p q : Placed) → p.statement ≡ q.statement → p.from ≡ q.from → p ≡ q
placed_alike p q e f =
    let one : Statement → Placed = λ s. record { statement = s; from = p.from } in
    let two : ℕ → Placed = λ n. record { statement = q.statement; from = n } in
    ap one e ∙ ap two f

-- what begins a statement isn't `;`
starts_apart : (l : Lexemes) (d : Lexeme) → 0 < length l → Starts firsts l → is_of (sign ";") (get_or l 0 d) ≡ true → ⊥
unfolding is_reserved
starts_apart l d some s h = clash firsts (sign ";" ∷ []) refl l s (head_starts (sign ";") l d some h)

-- every statement begins with one of these words
pub record Known : Type 0 where
  pub begins : (s : Statement) (x : Lexemes) → StatementOf s x → Starts firsts x
  pub one : HasOneTree StatementOf

module _ (bytes : List ℕ) (tokens : List Token) where
  -- from a place on, the first token that isn't `;`
  record IsFirst (at start : ℕ) (t : Token) : Type 0 where
    pub apart : AreSemicolons bytes tokens at start
    pub stands : slice_get tokens start ≡ Some t
    pub other : is_of (sign ";") (lexeme_of bytes t) ≡ false

  not_before : (at s r : ℕ) (t : Token) → IsFirst at s t → AreSemicolons bytes tokens at r → s < r → ⊥
  not_before at s r t f a lt =
      true_false (is_of (sign ";") (lexeme_of bytes t))
      (subst IsSemicolon (at_place bytes tokens s t (lexeme_of bytes t) f.stands) (semicolon_at bytes tokens at r s (lexeme_of bytes t) a f.apart.from_le lt))
      f.other

  first_alike : (at s r : ℕ) (t u : Token) → IsFirst at s t → IsFirst at r u → s ≡ r
  first_alike at s r t u f g =
      let x : s < r → ⊥ = not_before at s r t f g.apart in
      let y : r < s → ⊥ = not_before at r s u g f.apart in
      omega (arith, x, y)

  -- not all remaining tokens are `;`
  first_within : (at s : ℕ) (t : Token) → IsFirst at s t → AreSemicolons bytes tokens at (length tokens) → ⊥
  first_within at s t f a = not_before at s (length tokens) t f a (slice_get_within tokens s t f.stands)

  -- a place from which nothing is read, after lone `;`
  record Stops (at : ℕ) : Type 0 where
    pub start : ℕ
    pub token : Token
    pub first : IsFirst at start token
    pub none : HasNone StatementOf (lexemes_of bytes tokens) start

  module _ (known : Known) where
    -- a statement begins with the first token that isn't `;`
    next_first : (at : ℕ) (p : Placed) (n : ℕ) (x : IsNext bytes tokens at p n) → IsFirst at x.start x.place.0
    next_first at p n x =
        let all = lexemes_of bytes tokens in
        let t = x.place.0 in
        let d = lexeme_of bytes t in
        let lt : x.start < length all = omega (arith, slice_get_within tokens x.start t x.place.1, as_many bytes tokens) in
        let z : x.start + 0 ≡ x.start = omega arith in
        let head : get_or (drop x.start all) 0 d ≡ d = get_or-drop x.start all 0 d ∙ ap (λ i. get_or all i d) z ∙ at_place bytes tokens x.start t d x.place.1 in
        let starts : Starts firsts (drop x.start all) =
        subst (Starts firsts) (sym (parted all x.start n x.longest.from_le)) (starts_on firsts (between all x.start n) (drop n all) (known.begins p.statement (between all x.start n) x.longest.derives)) in
        record {
          apart = x.apart;
          stands = x.place.1;
          other = false_of (is_of (sign ";") d) (λ h. starts_apart (drop x.start all) d (omega (arith, length-drop x.start all)) starts (ap (is_of (sign ";")) head ∙ h));
        }

    next_alike : (at : ℕ) (p q : Placed) (n m : ℕ) → IsNext bytes tokens at p n → IsNext bytes tokens at q m → (p ≡ q) × (n ≡ m)
    next_alike at p q n m x y =
        let e : y.start ≡ x.start = first_alike at y.start x.start y.place.0 x.place.0 (next_first at q m y) (next_first at p n x) in
        let l = longest_alike StatementOf (lexemes_of bytes tokens) x.start p.statement q.statement n m known.one x.longest (subst (λ i. IsLongest StatementOf (lexemes_of bytes tokens) i q.statement m) e y.longest) in
        let t : x.place.0 ≡ y.place.0 = some_inj (sym x.place.1 ∙ ap (slice_get tokens) (sym e) ∙ y.place.1) in
        (placed_alike p q l.0 (x.place.2 ∙ ap (λ t. t.from) t ∙ sym y.place.2), l.1)

    -- at a statement, reading doesn't stop
    next_goes : (at : ℕ) (p : Placed) (n : ℕ) → IsNext bytes tokens at p n → Stops at → ⊥
    next_goes at p n x s =
        let e : x.start ≡ s.start = first_alike at x.start s.start x.place.0 s.token (next_first at p n x) s.first in
        let l = subst (λ i. IsLongest StatementOf (lexemes_of bytes tokens) i p.statement n) e x.longest in
        s.none.none p.statement n l.from_le l.to_le l.derives

    next_there : (at : ℕ) (p : Placed) (n : ℕ) → IsNext bytes tokens at p n → AreSemicolons bytes tokens at (length tokens) → ⊥
    next_there at p n x a = first_within at x.start x.place.0 (next_first at p n x) a

    whole_alike : (xs ys : List Placed) (at e f : ℕ) → Cuts bytes tokens at xs e → AreSemicolons bytes tokens e (length tokens) → Cuts bytes tokens at ys f → AreSemicolons bytes tokens f (length tokens) → xs ≡ ys
    whole_alike [] [] at e f c a d b = refl
    whole_alike [] (y ∷ ys) at e f c a d b = absurd (next_there at y d.0 d.1 (subst (λ i. AreSemicolons bytes tokens i (length tokens)) (sym c) a))
    whole_alike (x ∷ xs) [] at e f c a d b = absurd (next_there at x c.0 c.1 (subst (λ i. AreSemicolons bytes tokens i (length tokens)) (sym d) b))
    whole_alike (x ∷ xs) (y ∷ ys) at e f c a d b =
        let w = next_alike at x y c.0 d.0 c.1 d.1 in
        let rest = whole_alike xs ys c.0 e f c.2 a (subst (λ i. Cuts bytes tokens i ys f) (sym w.1) d.2) b in
        ap (λ z. z ∷ xs) w.0 ∙ ap (λ z. y ∷ z) rest

    stops_alike : (xs ys : List Placed) (at e f : ℕ) → Cuts bytes tokens at xs e → Stops e → Cuts bytes tokens at ys f → Stops f → (length xs ≡ length ys) × (e ≡ f)
    stops_alike [] [] at e f c a d b = (refl, sym c ∙ d)
    stops_alike [] (y ∷ ys) at e f c a d b = absurd (next_goes at y d.0 d.1 (subst Stops (sym c) a))
    stops_alike (x ∷ xs) [] at e f c a d b = absurd (next_goes at x c.0 c.1 (subst Stops (sym d) b))
    stops_alike (x ∷ xs) (y ∷ ys) at e f c a d b =
        let w = next_alike at x y c.0 d.0 c.1 d.1 in
        let rest = stops_alike xs ys c.0 e f c.2 a (subst (λ i. Cuts bytes tokens i ys f) (sym w.1) d.2) b in
        (ap suc rest.0, rest.1)

    whole_apart : (xs ys : List Placed) (at e f : ℕ) → Cuts bytes tokens at xs e → AreSemicolons bytes tokens e (length tokens) → Cuts bytes tokens at ys f → Stops f → ⊥
    whole_apart [] [] at e f c a d b = first_within e b.start b.token (subst (λ i. IsFirst i b.start b.token) (sym d ∙ c) b.first) a
    whole_apart [] (y ∷ ys) at e f c a d b = next_there at y d.0 d.1 (subst (λ i. AreSemicolons bytes tokens i (length tokens)) (sym c) a)
    whole_apart (x ∷ xs) [] at e f c a d b = next_goes at x c.0 c.1 (subst Stops (sym d) b)
    whole_apart (x ∷ xs) (y ∷ ys) at e f c a d b =
        let w = next_alike at x y c.0 d.0 c.1 d.1 in
        whole_apart xs ys c.0 e f c.2 a (subst (λ i. Cuts bytes tokens i ys f) (sym w.1) d.2) b

    -- ---- scripts

    abbrev stops_of : (number at : ℕ) (x : FailsAt bytes tokens number at) → Stops x.end
    stops_of number at x =
        record { start = x.start; token = x.token; first = record { apart = x.apart; stands = x.stands; other = x.other }; none = x.none }

    pub script_alike : (xs ys : List Placed) → IsScript bytes tokens xs → IsScript bytes tokens ys → xs ≡ ys
    script_alike xs ys x y = whole_alike xs ys 0 x.end y.end x.cuts x.rest y.cuts y.rest

    pub fault_alike : (number at other place : ℕ) → FailsAt bytes tokens number at → FailsAt bytes tokens other place → (number ≡ other) × (at ≡ place)
    fault_alike number at other place x y =
        let w = stops_alike x.statements y.statements 0 x.end y.end x.cuts (stops_of number at x) y.cuts (stops_of other place y) in
        let f : IsFirst x.end y.start y.token = subst (λ i. IsFirst i y.start y.token) (sym w.1) (stops_of other place y).first in
        let s : x.start ≡ y.start = first_alike x.end x.start y.start x.token y.token (stops_of number at x).first f in
        let t : x.token ≡ y.token = some_inj (sym x.stands ∙ ap (slice_get tokens) s ∙ y.stands) in
        (x.counted ∙ ap suc w.0 ∙ sym y.counted, x.place ∙ ap (λ t. t.from) t ∙ sym y.place)

    pub script_apart : (xs : List Placed) (number at : ℕ) → IsScript bytes tokens xs → FailsAt bytes tokens number at → ⊥
    script_apart xs number at x y = whole_apart xs y.statements 0 x.end y.end x.cuts x.rest y.cuts (stops_of number at y)
