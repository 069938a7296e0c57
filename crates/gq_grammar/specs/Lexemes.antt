-- Lexemes: what a grammar sees of tokens, and the terminals, each of which matches single lexemes.
-- A grammar never sees bytes or places; the code keeps the tokens and inspects one when it is asked for a terminal.
use Rattle.std.specs.Prelude.{ℕ, Bool, true, false, not, ◌&&◌, List, [], map, codes}
use Prim.Native.String.{String}
use Rattle.std.specs.Str.{bytes_eq, str_eq_ignore_ascii_case}
use Rattle.gq_token.specs.declared.token.Token.{Token}
use Rattle.gq_token.specs.declared.token.TokenKind.{TokenKind}
use Rattle.gq_token.specs.declared.token.TokenKind.TheVariants as shape
use Rattle.gq_token.specs.Kinds.{is_word_shape, is_symbol_shape}
use Rattle.gq_token.specs.Cut.{text_of}
use Rattle.gq_grammar.specs.Reserved.{is_reserved}

-- a token without its place: its shape and its bytes
pub record Lexeme : Type 0 where
  pub shape : TokenKind
  pub text : List ℕ

abbrev pub Lexemes : Type 0
Lexemes = List Lexeme

-- a token of the script's bytes, as a lexeme
unfoldable pub lexeme_of : List ℕ → Token → Lexeme
lexeme_of bytes token = record { shape = token.shape; text = text_of bytes token }

-- the tokens of the script's bytes, as lexemes
abbrev pub lexemes_of : List ℕ → List Token → Lexemes
lexemes_of bytes tokens = map (lexeme_of bytes) tokens

-- a test of a single lexeme: a certain symbol, a certain word, a name, or any lexeme of a shape
pub data Terminal : Type 0 where
  Sign : List ℕ → Terminal
  Keyword : List ℕ → Terminal
  Name : Terminal
  Number : Terminal
  Text : Terminal
  Global : Terminal
  Attached : Terminal

-- a symbol and a word, as a grammar writes them
abbrev pub sign : String → Terminal
sign s = Sign (codes s)

abbrev pub word : String → Terminal
word s = Keyword (codes s)

abbrev pub is_global_shape : TokenKind → Bool
is_global_shape shape.Global = true
is_global_shape _ = false

abbrev pub is_attached_shape : TokenKind → Bool
is_attached_shape shape.Attached = true
is_attached_shape _ = false

abbrev pub is_number_shape : TokenKind → Bool
is_number_shape (shape.Number n) = true
is_number_shape _ = false

abbrev pub is_text_shape : TokenKind → Bool
is_text_shape (shape.Text said) = true
is_text_shape _ = false

-- the lexeme matches the terminal. Letter case doesn't matter in a word, and a name is a word that isn't reserved
unfoldable pub is_of : Terminal → Lexeme → Bool
is_of (Sign sign) t = is_symbol_shape t.shape && bytes_eq t.text sign
is_of (Keyword word) t = is_word_shape t.shape && str_eq_ignore_ascii_case t.text word
is_of Name t = is_word_shape t.shape && not (is_reserved t.text)
is_of Number t = is_number_shape t.shape
is_of Text t = is_text_shape t.shape
is_of Global t = is_global_shape t.shape
is_of Attached t = is_attached_shape t.shape

-- the value of a lexeme: nothing, its bytes, its number, or the value of its text
abbrev pub nothing : Lexeme → Unit {0}
nothing t = tt

abbrev pub spelling : Lexeme → List ℕ
spelling t = t.text

abbrev pub number_in : TokenKind → ℕ
number_in (shape.Number n) = n
number_in _ = 0

abbrev pub number : Lexeme → ℕ
number t = number_in t.shape

abbrev pub text_in : TokenKind → List ℕ
text_in (shape.Text said) = said
text_in _ = []

abbrev pub said : Lexeme → List ℕ
said t = text_in t.shape
