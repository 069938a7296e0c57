-- The first field that equals the name.
use Rattle.std.proofs.Common.{◌≡◌, ℕ, ◌+◌, ◌<◌, ◌≤◌, cond, List, [], length, drop, Some, None, Bool, true, false, sym, ap, ◌∙◌}
use Rattle.std.specs.Prelude.{slice_get, position}
use Rattle.std.specs.List.{position_from}
use Rattle.std.proofs.lemmas.Option.{slice_get-get_or}
use Rattle.std.proofs.lemmas.Iterator.Adapters.{position_from-zero}
use Rattle.csv.specs.Records.{field_at}
use Rattle.csv.proofs.RecordFacts.{field-get, field-there}
use Rattle.gq_load.proofs.ListLemmas.{from_place, at_end}

pub field_found : (fields : List (List ℕ)) (n : ℕ) (field : List ℕ) → n < length fields → Some field ≡ field_at fields n → slice_get fields n ≡ Some field
field_found fields n field low is = slice_get-get_or fields n [] low ∙ ap (λ (f : List ℕ). Some f) (field-get fields n field (sym is))

pub field_there : (fields : List (List ℕ)) (n : ℕ) → n < length fields → None ≡ field_at fields n → ⊥
field_there fields n low none = field-there fields n low (sym none)

pub place_hit : (p : List ℕ → Bool) (xs : List (List ℕ)) (n : ℕ) (x : List ℕ) → slice_get xs n ≡ Some x → p x ≡ true
    → position_from p 0 xs ≡ position_from p n (drop n xs) → Some n ≡ position p xs
place_hit p xs n x at is so_far =
    sym (position_from-zero p xs ∙ so_far ∙ ap (position_from p n) (from_place xs n x at) ∙ ap (λ b. cond b (Some n) (position_from p (n + 1) (drop (n + 1) xs))) is)

pub place_miss : (p : List ℕ → Bool) (xs : List (List ℕ)) (n : ℕ) (x : List ℕ) → slice_get xs n ≡ Some x → p x ≡ false
    → position_from p 0 xs ≡ position_from p n (drop n xs) → position_from p 0 xs ≡ position_from p (n + 1) (drop (n + 1) xs)
place_miss p xs n x at isnt so_far =
    so_far ∙ ap (position_from p n) (from_place xs n x at) ∙ ap (λ b. cond b (Some n) (position_from p (n + 1) (drop (n + 1) xs))) isnt

pub place_end : (p : List ℕ → Bool) (xs : List (List ℕ)) (n : ℕ) → length xs ≤ n → position_from p 0 xs ≡ position_from p n (drop n xs) → None ≡ position p xs
place_end p xs n high so_far = sym (position_from-zero p xs ∙ so_far ∙ ap (position_from p n) (at_end xs n high))
