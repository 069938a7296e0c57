-- SignLemmas: the common combinations of grammars are read as the grammar says.
use Rattle.std.proofs.Common.{◌≡◌, ℕ, suc, ◌≤◌, List, [], ◌∷◌, ◌++◌, true, refl, arith}
use Rattle.std.specs.Prelude.{codes}
use Rattle.gq_grammar.specs.Lexemes.{Terminal, Sign, nothing}
use Rattle.gq_grammar.specs.Languages.{Language}
use Rattle.gq_grammar.specs.Signs.{second, inner, all_of, always, One, Stands, After, Enclosed, Separated}
use Rattle.gq_grammar.specs.Parsers.{Parser, one, stands, after, enclosed, separated}
use Rattle.gq_grammar.proofs.Sets.{disjoint}
use Rattle.gq_grammar.proofs.Claims.{Reads, Takes}
use Rattle.gq_grammar.proofs.TokenLemmas.{token_reads}
use Rattle.gq_grammar.proofs.ThenLemmas.{then_reads, tail_reads, lead_reads}
use Rattle.gq_grammar.proofs.MadeLemmas.{made_reads, made_takes, maybe_takes}
use Rattle.gq_grammar.proofs.ManyLemmas.{many_takes}

pub one_reads : (n : ℕ) (k : Terminal) → Reads n (One k) (One k) (one k) (k ∷ []) []
unfolding One one
one_reads n k = token_reads n k nothing

pub stands_reads : {A : Type 0} (n : ℕ) (a : A) (k : Terminal) → Reads n (Stands a k) (Stands a k) (stands a k) (k ∷ []) []
unfolding Stands stands
stands_reads n a k = made_reads (always a) (one_reads n k)

-- after its first lexeme
pub after_reads : {A : Type 0} {n : ℕ} {D D' : Language A} {p : Parser A} {fs cs : List Terminal} (k : Terminal) → Reads n D D' p fs cs → Reads n (After k D) (After k D') (after k p) (k ∷ []) cs
unfolding After after
after_reads {n = n} k r = made_reads second (then_reads (one_reads n k) r (omega arith) refl)

-- in parentheses; what is within has one lexeme less
pub enclosed_reads : {A : Type 0} {n m : ℕ} {D D' : Language A} {p : Parser A} {fs cs : List Terminal} → Reads m D D' p fs cs → n ≤ suc m → disjoint cs (Sign (codes ")") ∷ []) ≡ true → Reads n (Enclosed D) (Enclosed D') (enclosed p) (Sign (codes "(") ∷ []) []
unfolding Enclosed enclosed
enclosed_reads {n = n} {m = m} r nm apart =
    made_reads inner (then_reads (one_reads n (Sign (codes "("))) (then_reads r (one_reads m (Sign (codes ")"))) (omega arith) apart) nm refl)

-- the same for what may be empty
pub enclosed_takes : {A : Type 0} {n m : ℕ} {D D' : Language A} {p : Parser A} {fs cs : List Terminal} → Takes m D D' p fs cs → n ≤ suc m → disjoint cs (Sign (codes ")") ∷ []) ≡ true → Reads n (Enclosed D) (Enclosed D') (enclosed p) (Sign (codes "(") ∷ []) []
unfolding Enclosed enclosed
enclosed_takes {n = n} {m = m} r nm apart =
    made_reads inner (then_reads (one_reads n (Sign (codes "("))) (lead_reads r (one_reads m (Sign (codes ")"))) apart) nm refl)

-- separated by commas, after which it doesn't continue
pub separated_takes : {A : Type 0} {n : ℕ} {D D' : Language A} {p : Parser A} {fs cs : List Terminal} → Reads n D D' p fs cs → disjoint cs (Sign (codes ",") ∷ []) ≡ true → Takes n (Separated D) (Separated D') (separated p) fs (fs ++ (cs ++ ((Sign (codes ",") ∷ []) ++ cs)))
unfolding Separated separated
separated_takes r apart = made_takes all_of (maybe_takes (tail_reads r (many_takes (after_reads (Sign (codes ",")) r) apart) apart))
