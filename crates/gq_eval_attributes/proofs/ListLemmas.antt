-- ListLemmas: the item at a place of a list.
use Rattle.std.proofs.Common.{◌≡◌, ℕ, zero, suc, ◌<◌, List, [], ◌∷◌, length, Some, None, refl, ap, ◌∙◌, arith}
use Rattle.std.specs.List.{slice_get}
use Rattle.std.specs.Prelude.{slice_index_or}
use Rattle.gq_value.specs.Val.{Val}
use Rattle.gq_value.specs.Accums.{Base}
use Rattle.gq_rules_meaning.specs.Answers.{Gives, Stuck, ◌>>=◌, found}
use Rattle.gq_rules_meaning.specs.Meanings.{Is}
use Rattle.gq_rules_meaning.specs.States.{value_at}

pub item_there : {A : Type 0} (xs : List A) (i : ℕ) (d : A) → i < length xs → slice_get xs i ≡ Some (slice_index_or xs i d)
item_there [] i d h = absurd (omega (arith, h))
item_there (x ∷ xs) zero d h = refl
item_there (x ∷ xs) (suc i) d h = item_there xs i d (omega (arith, h))

-- the value at a place, in the cases of the code
pub value_there : (bs : List Base) (vs : List Val) (i : ℕ) (b : Base) (v : Val) → slice_get bs i ≡ Some b → slice_get vs i ≡ Some v → value_at bs vs (Some i) ≡ Gives (Is b v)
value_there bs vs i b v e f = ap (λ o. found o >>= λ c. found (slice_get vs i) >>= λ w. Gives (Is c w)) e ∙ ap (λ o. found o >>= λ w. Gives (Is b w)) f

pub no_base_there : (bs : List Base) (vs : List Val) (i : ℕ) → slice_get bs i ≡ None → value_at bs vs (Some i) ≡ Stuck
no_base_there bs vs i e = ap (λ o. found o >>= λ c. found (slice_get vs i) >>= λ w. Gives (Is c w)) e

pub no_value_there : (bs : List Base) (vs : List Val) (i : ℕ) (b : Base) → slice_get bs i ≡ Some b → slice_get vs i ≡ None → value_at bs vs (Some i) ≡ Stuck
no_value_there bs vs i b e f = ap (λ o. found o >>= λ c. found (slice_get vs i) >>= λ w. Gives (Is c w)) e ∙ ap (λ o. found o >>= λ w. Gives (Is b w)) f
