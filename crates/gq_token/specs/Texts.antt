-- Texts: the value of a quoted text, where it closes, and its first bad escape. These definitions are over the bytes
-- after the opening quote.
use Rattle.std.specs.Prelude.{ℕ, ◌+◌, Bool, false, ◌||◌, ◌==◌, List, [], ◌∷◌, Option, Some, None, option_map, if◌then◌else◌}

-- the byte that a backslash and this byte mean: `\"` `\\` `\n` `\t` `\r`
abbrev pub escape_of : ℕ → Option ℕ
escape_of c =
    if c == 34 || c == 92 then Some c
    else (if c == 110 then Some 10
    else (if c == 116 then Some 9
    else (if c == 114 then Some 13
    else None)))

-- the bytes end with their closing quote: the first quote that isn't part of an escape
abbrev pub closes : List ℕ → Bool
closes [] = false
closes (c ∷ []) = c == 34
closes (c ∷ d ∷ cs) = if c == 34 then false else (if c == 92 then closes cs else closes (d ∷ cs))

-- one byte of a text before the others, if both exist
abbrev pub byte_then : Option ℕ → Option (List ℕ) → Option (List ℕ)
byte_then (Some c) (Some cs) = Some (c ∷ cs)
byte_then _ _ = None

-- the value of the bytes up to the closing quote, with which they end, if each escape is known
abbrev pub said : List ℕ → Option (List ℕ)
said [] = None
said (c ∷ []) = if c == 34 then Some [] else None
said (c ∷ d ∷ cs) = if c == 34 then None else (if c == 92 then byte_then (escape_of d) (said cs) else byte_then (Some c) (said (d ∷ cs)))

-- the place of the backslash of an escape, if it is unknown, or else that of a later one
abbrev pub at_escape : Option ℕ → Option ℕ → Option ℕ
at_escape (Some byte) later = option_map (λ n. n + 2) later
at_escape None later = Some 0

-- the place of the first backslash that doesn't begin an escape
abbrev pub bad_escape : List ℕ → Option ℕ
bad_escape [] = None
bad_escape (c ∷ []) = None
bad_escape (c ∷ d ∷ cs) = if c == 92 then at_escape (escape_of d) (bad_escape cs) else option_map (λ n. n + 1) (bad_escape (d ∷ cs))
