-- Steps: a step without a fault, and the item at an index.
use Rattle.std.proofs.Common.{◌≡◌, ℕ, ◌+◌, ◌<◌, List, ◌∷◌, drop, length, get_or, Result, sym, ap, subst, ◌∙◌}
use Rattle.std.proofs.lemmas.List.{drop_more}
use Rattle.gq_rules_meaning.specs.Answers.{Answer, Gives, ◌>>=◌}
use Rattle.gq_rules_meaning.specs.Blocks.{BlockFault}
use Rattle.gq_eval_context.specs.declared.after.BlockFault as code
use Rattle.gq_eval_context.specs.Answered.{Answered}

pub at_place : {A : Type 0} (xs : List A) (i : ℕ) (x : A) → i < length xs → x ≡ get_or xs i x → drop i xs ≡ x ∷ drop (i + 1) xs
at_place xs i x n is = drop_more xs i x n ∙ ap (λ y. y ∷ drop (i + 1) xs) (sym is)

-- a step without a fault, and the next one
pub goes_on : {A B C D : Type 0} (f : A → Answer BlockFault B) (view : C → A) (c : C) (o : Answer BlockFault A) (see : D → B) (r : Result D code.BlockFault) → o ≡ Gives (view c) → Answered see (f (view c)) r → Answered see (o >>= f) r
goes_on f view c o see r e h = subst (λ o. Answered see (o >>= f) r) (sym e) h
