-- Texts separated by commas, and one more text appended to them.
use Rattle.std.proofs.Common.{◌≡◌, ℕ, zero, suc, ◌+◌, ◌<◌, ◌≤◌, List, [], ◌∷◌, ◌++◌, length, take, map, get_or, refl, ap, sym, ◌∙◌, arith, append_assoc, length-take}
use Rattle.std.proofs.lemmas.List.{map_more, take_all}
use Rattle.std.proofs.lemmas.Bool.{ne_eqb}
use Rattle.gq_json.specs.Json.{listed, comma_before, quoted, member_text}

-- a nonempty list of texts, and one more
listed-append : (x : List ℕ) (xs : List (List ℕ)) (y : List ℕ) → listed ((x ∷ xs) ++ y ∷ []) ≡ listed (x ∷ xs) ++ 44 ∷ y
listed-append x [] y = refl
listed-append x (z ∷ zs) y = ap (λ l. x ++ 44 ∷ l) (listed-append z zs y) ∙ sym (append_assoc x (44 ∷ listed (z ∷ zs)) (44 ∷ y))

-- the same for the texts of items
listed-append_text : {X : Type 0} (f : X → List ℕ) (xs : List X) (y : List ℕ) → 0 < length xs → listed (map f xs ++ y ∷ []) ≡ listed (map f xs) ++ 44 ∷ y
listed-append_text f [] y some = absurd (omega arith)
listed-append_text f (x ∷ xs) y some = listed-append (f x) (map f xs) y

-- every place but the first has a comma before it
comma_further : (i : ℕ) → comma_before (suc i) ≡ 44 ∷ []
comma_further i = simp (ne_eqb (suc i) 0 (λ is. omega arith))

-- the first i texts, and the comma before the next one
listed-next : {X : Type 0} (f : X → List ℕ) (xs : List X) (i : ℕ) (d : X) → i < length xs → listed (map f (take (i + 1) xs)) ≡ (listed (map f (take i xs)) ++ comma_before i) ++ f (get_or xs i d)
listed-next f xs zero d below = ap listed (map_more f xs zero d below)
listed-next f xs (suc i) d below =
    ap listed (map_more f xs (suc i) d below)
    ∙ listed-append_text f (take (suc i) xs) (f (get_or xs (suc i) d)) (omega (arith, length-take (suc i) xs))
    ∙ sym (append_assoc (listed (map f (take (suc i) xs))) (44 ∷ []) (f (get_or xs (suc i) d)))
    ∙ ap (λ comma. (listed (map f (take (suc i) xs)) ++ comma) ++ f (get_or xs (suc i) d)) (sym (comma_further i))

-- what is written after a head, once a comma and the next text are appended
pub one_more : {X : Type 0} (f : X → List ℕ) (xs : List X) (i : ℕ) (x : X) (head before comma after : List ℕ) → i < length xs → x ≡ get_or xs i x → before ≡ head ++ listed (map f (take i xs)) → comma ≡ before ++ comma_before i → after ≡ comma ++ f x → after ≡ head ++ listed (map f (take (i + 1) xs))
one_more f xs i x head before comma after below is so_far at_comma at_end =
    at_end
    ∙ ap (λ l. l ++ f x) (at_comma ∙ ap (λ l. l ++ comma_before i) so_far ∙ append_assoc head (listed (map f (take i xs))) (comma_before i))
    ∙ append_assoc head (listed (map f (take i xs)) ++ comma_before i) (f x)
    ∙ ap (λ y. head ++ ((listed (map f (take i xs)) ++ comma_before i) ++ f y)) is
    ∙ ap (λ l. head ++ l) (sym (listed-next f xs i x below))

-- what is written for a member: its name, its colon and its value
pub one_member : (name value before named after : List ℕ) → named ≡ before ++ (quoted name ++ 58 ∷ []) → after ≡ named ++ value → after ≡ before ++ member_text (name, value)
one_member name value before named after at_name at_end =
    at_end ∙ ap (λ l. l ++ value) at_name ∙ append_assoc before (quoted name ++ 58 ∷ []) value ∙ ap (λ l. before ++ l) (append_assoc (quoted name) (58 ∷ []) value)

-- all texts in brackets, appended to the old contents
pub closed : {X : Type 0} (f : X → List ℕ) (xs : List X) (i : ℕ) (old first last before after : List ℕ) → length xs ≤ i → before ≡ (old ++ first) ++ listed (map f (take i xs)) → after ≡ before ++ last → after ≡ old ++ (first ++ (listed (map f xs) ++ last))
closed f xs i old first last before after end so_far at_end =
    at_end
    ∙ ap (λ l. l ++ last) (so_far ∙ ap (λ ys. (old ++ first) ++ listed (map f ys)) (take_all i xs end) ∙ append_assoc old first (listed (map f xs)))
    ∙ append_assoc old (first ++ listed (map f xs)) last
    ∙ ap (λ l. old ++ l) (append_assoc first (listed (map f xs)) last)

-- three parts, written one after another
pub three_parts : (head middle tail first second third : List ℕ) → first ≡ head → second ≡ first ++ middle → third ≡ second ++ tail → third ≡ head ++ (middle ++ tail)
three_parts head middle tail first second third a b c = c ∙ ap (λ l. l ++ tail) (b ∙ ap (λ l. l ++ middle) a) ∙ append_assoc head middle tail

-- mapping twice is mapping the composition
pub map-map : {X Y Z : Type 0} (f : Y → Z) (g : X → Y) (xs : List X) → map f (map g xs) ≡ map (λ x. f (g x)) xs
map-map f g [] = refl
map-map f g (x ∷ xs) = ap (λ l. f (g x) ∷ l) (map-map f g xs)
