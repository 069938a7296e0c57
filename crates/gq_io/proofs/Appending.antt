-- Appending one piece after another.
use Rattle.std.proofs.Common.{◌≡◌, ℕ, zero, suc, ◌+◌, List, [], ◌∷◌, ◌++◌, take, drop, length, length-drop, ◌-◌, Option, Some, None, refl, ap, ◌∙◌, arith, append_assoc}
use Rattle.std.specs.Prelude.{option_map}
use Rattle.std.proofs.lemmas.List.{take_all}
use Rattle.gq_io.specs.Sink.{Appends}

-- a prefix, followed by a prefix of the rest, is a longer prefix
pub take_then : {X : Type 0} (xs : List X) (a n : ℕ) → take a xs ++ take n (drop a xs) ≡ take (a + n) xs
take_then xs zero n = let same : 0 + n ≡ n = omega arith in rw same refl
take_then [] (suc a) zero = let same : suc a + 0 ≡ suc a = omega arith in rw same refl
take_then [] (suc a) (suc n) = let same : suc a + suc n ≡ suc (a + suc n) = omega arith in rw same refl
take_then (x ∷ xs) (suc a) n = let same : suc a + n ≡ suc (a + n) = omega arith in rw same (ap (λ l. x ∷ l) (take_then xs a n))

-- the same if the rest was cut out as a slice
pub slice_then : (xs : List ℕ) (a n : ℕ) → take a xs ++ take n (take (length xs - a) (drop a xs)) ≡ take (a + n) xs
slice_then xs a n = ap (λ l. take a xs ++ take n l) (take_all _ _ (omega (arith, length-drop a xs))) ∙ take_then xs a n

-- two appends, one after the other
pub appends_then : (old mid new : Option (List ℕ)) (first after : List ℕ) → Appends old mid first → Appends mid new after → Appends old new (first ++ after)
appends_then None mid new first after a b = b ∙ ap (option_map (λ written. written ++ after)) a
appends_then (Some w) mid new first after a b = b ∙ ap (option_map (λ written. written ++ after)) a ∙ ap (λ l. Some l) (append_assoc w first after)
