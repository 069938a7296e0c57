-- Kinds: which kind of token a shape is, and which keyword or symbol a token is.
use Rattle.std.specs.Prelude.{ℕ, Bool, true, false, ◌&&◌, List}
use Rattle.std.specs.Str.{bytes_eq, str_eq_ignore_ascii_case}
use Rattle.gq_token.specs.declared.token.Token.{Token}
use Rattle.gq_token.specs.declared.token.TokenKind.{TokenKind}
use Rattle.gq_token.specs.declared.token.TokenKind.TheVariants.{Word, Global, Attached, Number, Text, Symbol}
use Rattle.gq_token.specs.Cut.{text_of}

-- a word
abbrev pub is_word_shape : TokenKind → Bool
is_word_shape Word = true
is_word_shape Global = false
is_word_shape Attached = false
is_word_shape (Number n) = false
is_word_shape (Text said) = false
is_word_shape Symbol = false

-- a symbol
abbrev pub is_symbol_shape : TokenKind → Bool
is_symbol_shape Word = false
is_symbol_shape Global = false
is_symbol_shape Attached = false
is_symbol_shape (Number n) = false
is_symbol_shape (Text said) = false
is_symbol_shape Symbol = true

-- the token is this word, in any letter case
abbrev pub is_keyword : List ℕ → List ℕ → Token → Bool
is_keyword bytes word token = is_word_shape token.shape && str_eq_ignore_ascii_case (text_of bytes token) word

-- the token is this symbol
abbrev pub is_mark : List ℕ → List ℕ → Token → Bool
is_mark bytes mark token = is_symbol_shape token.shape && bytes_eq (text_of bytes token) mark
