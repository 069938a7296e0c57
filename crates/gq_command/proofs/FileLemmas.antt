-- Files that are written sequentially: a header, and then the lines of one number after another.
use Rattle.std.proofs.Common.{◌≡◌, ℕ, zero, suc, ◌+◌, ◌≤◌, List, [], ◌∷◌, ◌++◌, ap, sym, ◌∙◌, arith, append_assoc, add-one}
use Rattle.std.proofs.lemmas.List.{flat_map_more}
use Rattle.std.specs.List.{flat_map, range_with_len}

-- a range of numbers, extended by one
range-more : (a n next : ℕ) → a + n ≡ next → range_with_len a (suc n) ≡ range_with_len a n ++ next ∷ []
range-more a zero next at = let same : a ≡ next = omega arith in ap (λ k. k ∷ []) same
range-more a (suc n) next at = ap (λ l. a ∷ l) (range-more (a + 1) n next (omega arith))

-- the same for the numbers below one
below-more : (i : ℕ) → range_with_len 0 (i + 1) ≡ range_with_len 0 i ++ i ∷ []
below-more i = rw add-one (range-more 0 i i (omega arith))

-- the lines of one more number
pub one_more : (line : ℕ → List ℕ) (head before after : List ℕ) (i : ℕ) → before ≡ head ++ flat_map line (range_with_len 0 i) → after ≡ before ++ line i → after ≡ head ++ flat_map line (range_with_len 0 (i + 1))
one_more line head before after i so_far written =
    written
    ∙ ap (λ l. l ++ line i) so_far
    ∙ flat_map_more line head (range_with_len 0 i) i
    ∙ ap (λ l. head ++ flat_map line l) (sym (below-more i))

-- the lines of all numbers
pub all_lines : (line : ℕ → List ℕ) (head file : List ℕ) (i n : ℕ) → i ≤ n → n ≤ i → file ≡ head ++ flat_map line (range_with_len 0 i) → file ≡ head ++ flat_map line (range_with_len 0 n)
all_lines line head file i n most least so_far =
    let same : i ≡ n = omega arith in
    so_far ∙ ap (λ k. head ++ flat_map line (range_with_len 0 k)) same

-- two parts that are written one after the other
pub two_parts : (old a b first second : List ℕ) → first ≡ old ++ a → second ≡ first ++ b → second ≡ old ++ (a ++ b)
two_parts old a b first second at_first at_second = at_second ∙ ap (λ l. l ++ b) at_first ∙ append_assoc old a b

-- three parts that are written one after another
pub three_parts : (head middle tail first second third : List ℕ) → first ≡ head → second ≡ first ++ middle → third ≡ second ++ tail → third ≡ head ++ (middle ++ tail)
three_parts head middle tail first second third a b c = c ∙ ap (λ l. l ++ tail) (b ∙ ap (λ l. l ++ middle) a) ∙ append_assoc head middle tail
