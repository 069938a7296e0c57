-- Fold: the value of a word after inputs: the greatest, the least, all bits or the common bits. Here all inputs ever
-- fed are one list. The code stores only the words.
use Rattle.std.specs.Prelude.{◌≡◌, ℕ, ◌≤◌, ◌==◌, min, max, bit_and, bit_or, List, map, filter, fold, All, Contains}
use Rattle.std.specs.Int.{bit_at}
use Rattle.gq_words.specs.declared.fold.Op.{Op}
use Rattle.gq_words.specs.declared.fold.Op.TheVariants.{Max, Min, Or, And}

-- the word after one input
abbrev pub applied : Op → ℕ → ℕ → ℕ
applied Max w x = max w x
applied Min w x = min w x
applied Or w x = bit_or w x
applied And w x = bit_and w x

-- a word's place, and an input that is fed to it
abbrev pub Feed : Type 0
Feed = ℕ × ℕ

-- the inputs to the word at this place
abbrev pub inputs_to : ℕ → List Feed → List ℕ
inputs_to i feeds = map (λ f. f.1) (filter (λ f. f.0 == i) feeds)

-- the value of the word at this place, with this initial value, after all these feeds
abbrev pub folded : Op → ℕ → ℕ → List Feed → ℕ
folded op opening i feeds = fold (applied op) opening (inputs_to i feeds)

-- the number is the greatest of these
abbrev pub IsGreatest : ℕ → List ℕ → Type 0
IsGreatest n ns = All (λ m. m ≤ n) ns × Contains ns n

-- the number is the least of these
abbrev pub IsLeast : ℕ → List ℕ → Type 0
IsLeast n ns = All (λ m. n ≤ m) ns × Contains ns n

-- the number has the bit of this weight, 2^k
abbrev pub HasBit : ℕ → ℕ → Type 0
HasBit k n = bit_at n k ≡ 1
