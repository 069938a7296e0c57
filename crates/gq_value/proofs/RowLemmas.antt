-- RowLemmas: where a loop over two rows ends.
use Rattle.std.proofs.Common.{◌≡◌, ℕ, zero, suc, ◌<◌, ◌≤◌, Bool, List, [], ◌∷◌, drop, length, Less, refl, sym, ◌∙◌, arith}
use Rattle.gq_value.specs.declared.value.Value.{Value}
use Rattle.gq_value.specs.Views.{vals}
use Rattle.gq_value.specs.Order.{order_rows, empty_cmp}

empty_short : (b : List Value) (i : ℕ) → i < length b → empty_cmp (vals (drop i b)) ≡ Less
empty_short [] i k = absurd (omega (arith, k))
empty_short (y ∷ b) zero k = refl
empty_short (y ∷ b) (suc i) k = empty_short b i (omega (arith, k))

-- the loop ends at the end of a
rows_short : (strict : Bool) (a b : List Value) (i : ℕ) → length a ≤ i → i < length b → order_rows strict (vals (drop i a)) (vals (drop i b)) ≡ Less
rows_short strict [] b zero h k = empty_short b zero k
rows_short strict [] b (suc i) h k = empty_short b (suc i) k
rows_short strict (x ∷ a) b zero h k = absurd (omega (arith, h))
rows_short strict (x ∷ a) [] (suc i) h k = absurd (omega (arith, k))
rows_short strict (x ∷ a) (y ∷ b) (suc i) h k = rows_short strict a b i (omega (arith, h)) (omega (arith, k))

pub rows_end : (strict : Bool) (a b : List Value) (i : ℕ) → order_rows strict (vals a) (vals b) ≡ order_rows strict (vals (drop i a)) (vals (drop i b)) → length a ≤ i → i ≤ length a → length a < length b → Less ≡ order_rows strict (vals a) (vals b)
rows_end strict a b i e h k l = sym (e ∙ rows_short strict a b i h (omega (arith, h, k, l)))
