-- Cut: how a script is cut into gaps and tokens, from the left, each the longest prefix of the rest that spells one.
-- The specification considers all prefixes, also longer ones. The code scans byte by byte.
use Rattle.std.specs.Prelude.{◌≡◌, ℕ, ◌+◌, ◌-◌, ◌<◌, ◌≤◌, true, List, [], ◌∷◌, length, take, drop, Option, Some, None, IsSome, codes, nat_eq}
use Rattle.std.specs.List.{starts_with}
use Rattle.std.specs.Str.{IsUtf8}
use Rattle.gq_token.specs.declared.token.Token.{Token}
use Rattle.gq_token.specs.Spelling.{Item, Gap, TokenOf, spelled, Fits}

-- the text is the longest prefix of the bytes that spells an item
pub record IsLongest (bytes text : List ℕ) : Type 0 where
  pub prefix : take (length text) bytes ≡ text
  pub is_item : IsSome (spelled text)
  pub longest : (n : ℕ) → length text < n → n ≤ length bytes → spelled (take n bytes) ≡ None

-- the next item of the bytes: a number fits 64 bits, and `/*` begins a gap, not the symbol `/`
pub record IsNext (bytes text : List ℕ) : Type 0 where
  pub is_longest : IsLongest bytes text
  pub fits : (item : Item) → spelled text ≡ Some item → Fits item
  pub comment : starts_with nat_eq bytes (codes "/*") ≡ true → spelled text ≡ Some Gap

-- these items are cut from the bytes, one after another, and the rest remains
abbrev pub Cuts : List ℕ → List (List ℕ) → List ℕ → Type 0
Cuts bytes [] rest = bytes ≡ rest
Cuts bytes (text ∷ texts) rest = IsNext bytes text × Cuts (drop (length text) bytes) texts rest

-- a token prepended to others, if the text between these places is one
abbrev pub placed : Option Item → ℕ → ℕ → List Token → List Token
placed (Some (TokenOf shape)) from to tokens = record { shape = shape; from = from; to = to } ∷ tokens
placed (Some Gap) from to tokens = tokens
placed None from to tokens = tokens

-- the tokens among these items, the first of which begins at this place
abbrev pub tokens_of : ℕ → List (List ℕ) → List Token
tokens_of at [] = []
tokens_of at (text ∷ texts) = placed (spelled text) at (at + length text) (tokens_of (at + length text) texts)

-- the bytes are UTF-8 and are cut completely, and these are the tokens of the cut
pub record HasTokens (bytes : List ℕ) (tokens : List Token) : Type 0 where
  pub utf8 : IsUtf8 bytes
  pub texts : List (List ℕ)
  pub cuts : Cuts bytes texts []
  pub are_tokens : tokens ≡ tokens_of 0 texts

-- the bytes of a token
abbrev pub text_of : List ℕ → Token → List ℕ
text_of bytes token = take (token.to - token.from) (drop token.from bytes)

-- the token is within the bytes and is spelled there
pub record IsSpelledIn (bytes : List ℕ) (token : Token) : Type 0 where
  pub ordered : token.from < token.to
  pub within : token.to ≤ length bytes
  pub spells : spelled (text_of bytes token) ≡ Some (TokenOf token.shape)
