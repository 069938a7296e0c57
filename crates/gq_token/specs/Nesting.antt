-- Nesting: how deeply the blocks, brackets and parentheses of a script nest.
use Rattle.std.specs.Prelude.{◌≡◌, ℕ, ◌+◌, ◌-◌, ◌≤◌, Bool, false, not, ◌&&◌, ◌||◌, List, [], ◌∷◌, ◌++◌, length, take, fold, Option, Some, None, codes, if◌then◌else◌}
use Rattle.gq_token.specs.declared.token.Token.{Token}
use Rattle.gq_token.specs.Kinds.{is_keyword, is_mark}

-- there is a previous token, and it is the word ELSE
abbrev pub is_behind_else : List ℕ → Option Token → Bool
is_behind_else bytes None = false
is_behind_else bytes (Some before) = is_keyword bytes (codes "ELSE") before

-- a token that begins a level, given whether it follows ELSE
abbrev pub opens : List ℕ → Bool → Token → Bool
opens bytes behind_else token =
    is_mark bytes (codes "(") token || is_mark bytes (codes "[") token || is_mark bytes (codes "{") token
    || (is_keyword bytes (codes "IF") token && not behind_else)
    || is_keyword bytes (codes "WHILE") token || is_keyword bytes (codes "FOREACH") token

-- a token that ends a level
abbrev pub shuts : List ℕ → Token → Bool
shuts bytes token =
    is_mark bytes (codes ")") token || is_mark bytes (codes "]") token || is_mark bytes (codes "}") token
    || is_keyword bytes (codes "END") token

-- the depth after a token, given whether it follows ELSE
abbrev pub depth_with : List ℕ → Bool → ℕ → Token → ℕ
depth_with bytes behind_else depth token = if opens bytes behind_else token then depth + 1 else (if shuts bytes token then depth - 1 else depth)

-- how many levels are open, and the last token
pub record Level : Type 0 where
  pub depth : ℕ
  pub last : Option Token

-- the level after one more token
abbrev pub level_with : List ℕ → Level → Token → Level
level_with bytes level token = record {
  depth = depth_with bytes (is_behind_else bytes level.last) level.depth token;
  last = Some token;
}

-- the level after these tokens
abbrev pub level_of : List ℕ → List Token → Level
level_of bytes tokens = fold (level_with bytes) (record { depth = 0; last = None }) tokens

-- the depth after these tokens
abbrev pub depth_of : List ℕ → List Token → ℕ
depth_of bytes tokens = (level_of bytes tokens).depth

-- a token that begins at this place is the first one that raises the depth to 65
pub record IsTooDeepAt (bytes : List ℕ) (tokens : List Token) (place : ℕ) : Type 0 where
  pub before : List Token
  pub token : Token
  pub behind : List Token
  pub whole : tokens ≡ before ++ token ∷ behind
  pub is_place : place ≡ token.from
  pub raises : depth_of bytes (before ++ token ∷ []) ≡ 65
  pub first : (n : ℕ) → n ≤ length before → depth_of bytes (take n before) ≤ 64

-- the depth stays below 65
abbrev pub IsShallow : List ℕ → List Token → Type 0
IsShallow bytes tokens = (n : ℕ) → depth_of bytes (take n tokens) ≤ 64
