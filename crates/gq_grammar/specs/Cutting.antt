-- Cutting: how a script is cut into statements, from the left, each the longest prefix of the rest that is one.
-- A lone `;` is skipped. The specification considers all prefixes, also longer ones. The code reads one statement
-- after another.
use Rattle.std.specs.Prelude.{◌≡◌, ℕ, suc, ◌≤◌, ◌<◌, true, false, List, [], ◌∷◌, length, slice_get, Some, All}
use Rattle.gq_token.specs.declared.token.Token.{Token}
use Rattle.gq_grammar.specs.Lexemes.{Lexeme, Lexemes, lexeme_of, lexemes_of, sign, is_of}
use Rattle.gq_grammar.specs.Reading.{between, IsLongest, HasNone}
use Rattle.gq_tree.specs.declared.statement.Placed.{Placed}
use Rattle.gq_grammar.specs.Scripts.{StatementOf}

-- the lexeme is a `;`
abbrev pub IsSemicolon : Lexeme → Type 0
IsSemicolon t = is_of (sign ";") t ≡ true

module _ (bytes : List ℕ) (tokens : List Token) where
  -- the token with this number begins at this byte
  abbrev pub BeginsAt : ℕ → ℕ → Type 0
  BeginsAt i at = (t : Token) × (slice_get tokens i ≡ Some t) × (at ≡ t.from)

  -- there are only lone `;` from one token up to another
  pub record AreSemicolons (from to : ℕ) : Type 0 where
    pub from_le : from ≤ to
    pub to_le : to ≤ length tokens
    pub all : All IsSemicolon (between (lexemes_of bytes tokens) from to)

  -- after any lone `;`, the next statement from token `at` on is this one, and what follows it begins at `next`
  pub record IsNext (at : ℕ) (placed : Placed) (next : ℕ) : Type 0 where
    pub start : ℕ
    pub apart : AreSemicolons at start
    pub longest : IsLongest StatementOf (lexemes_of bytes tokens) start placed.statement next
    pub place : BeginsAt start placed.from

  -- these statements are cut from token `at` on, one after another, and the rest begins at token `to`
  abbrev pub Cuts : ℕ → List Placed → ℕ → Type 0
  Cuts at [] to = at ≡ to
  Cuts at (s ∷ others) to = (next : ℕ) × IsNext at s next × Cuts next others to

  -- the script consists of these statements
  pub record IsScript (statements : List Placed) : Type 0 where
    pub end : ℕ
    pub cuts : Cuts 0 statements end
    pub rest : AreSemicolons end (length tokens)

  -- statement `number`, counted from 1, can't be read, and its first token begins at this byte: the statements before
  -- it are cut, and no prefix of the rest is a statement
  pub record FailsAt (number at : ℕ) : Type 0 where
    pub statements : List Placed
    pub end : ℕ
    pub cuts : Cuts 0 statements end
    pub start : ℕ
    pub apart : AreSemicolons end start
    pub token : Token
    pub stands : slice_get tokens start ≡ Some token
    pub other : is_of (sign ";") (lexeme_of bytes token) ≡ false
    pub none : HasNone StatementOf (lexemes_of bytes tokens) start
    pub counted : number ≡ suc (length statements)
    pub place : at ≡ token.from
