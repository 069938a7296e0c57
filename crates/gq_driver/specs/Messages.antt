-- Messages: the refusal message of a script that can't be parsed. It begins with the line number of the fault.
use Rattle.std.specs.Prelude.{ℕ, List, [], ◌++◌, codes}
use Rattle.std.specs.Fmt.{decimal}
use Rattle.gq_token.specs.declared.fault.LexFault.{LexFault}
use Rattle.gq_token.specs.declared.fault.LexFault.TheVariants as lex
use Rattle.gq_token.specs.Lines.{line_of}
use Rattle.gq_diagnostics.specs.Messages.{placed_message}
use Rattle.gq_stmt_read.specs.declared.fault.ScriptFault.{ScriptFault}
use Rattle.gq_stmt_read.specs.declared.fault.ScriptFault.TheVariants as script

-- a message about a byte of the script
abbrev pub message_at : List ℕ → List ℕ → ℕ → List ℕ
message_at bytes what at = placed_message (line_of bytes at) (what ++ codes " at byte " ++ decimal at)

-- the name of a fault of the script's tokens
abbrev pub name_of : LexFault → List ℕ
name_of (lex.NotUtf8 at) = codes "not UTF-8"
name_of (lex.BadToken at) = codes "bad token"
name_of (lex.OpenComment at) = codes "open comment"
name_of (lex.OpenText at) = codes "open text"
name_of (lex.TooBig at) = codes "number too big"
name_of lex.OutOfMemory = []

-- the message for a statement that can't be parsed, by its number
abbrev pub syntax_message : ℕ → List ℕ
syntax_message number = codes "syntax error in statement " ++ decimal number

-- the message for a script that can't be parsed
abbrev pub fault_message : List ℕ → ScriptFault → List ℕ
fault_message bytes (script.Syntax number at) = placed_message (line_of bytes at) (syntax_message number)
fault_message bytes (script.TooDeep at) = message_at bytes (codes "nested too deep") at
fault_message bytes script.OutOfMemory = []
