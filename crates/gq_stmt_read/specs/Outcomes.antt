-- Outcomes: the statements that a script is read as, and why it isn't read.
use Rattle.std.specs.Prelude.{ℕ, List}
use Rattle.gq_token.specs.declared.token.Token.{Token}
use Rattle.gq_token.specs.Nesting.{IsTooDeepAt, IsShallow}
use Rattle.gq_tree.specs.declared.statement.Placed.{Placed}
use Rattle.gq_grammar.specs.Cutting.{IsScript, FailsAt}
use Rattle.gq_stmt_read.specs.declared.fault.ScriptFault.{ScriptFault}
use Rattle.gq_stmt_read.specs.declared.fault.ScriptFault.TheVariants.{Syntax, TooDeep, OutOfMemory}

-- the script doesn't nest too deeply, and consists of these statements
abbrev pub IsRead : List ℕ → List Token → List Placed → Type 0
IsRead bytes tokens statements = IsShallow bytes tokens × IsScript bytes tokens statements

-- the script nests too deeply, or else one of its statements can't be read; OutOfMemory isn't a fault of the script
abbrev pub HasFault : List ℕ → List Token → ScriptFault → Type 0
HasFault bytes tokens (Syntax number at) = IsShallow bytes tokens × FailsAt bytes tokens number at
HasFault bytes tokens (TooDeep at) = IsTooDeepAt bytes tokens at
HasFault bytes tokens OutOfMemory = ⊥

-- a statement can't be read, however deeply the script nests; OutOfMemory may occur at any time
abbrev pub IsSyntaxFault : List ℕ → List Token → ScriptFault → Type 0
IsSyntaxFault bytes tokens (Syntax number at) = FailsAt bytes tokens number at
IsSyntaxFault bytes tokens (TooDeep at) = ⊥
IsSyntaxFault bytes tokens OutOfMemory = Unit {0}
