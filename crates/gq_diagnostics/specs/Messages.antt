-- Messages: the message of a refusal, and the line that it prints.
use Rattle.std.specs.Prelude.{ℕ, List, ◌++◌, codes}
use Rattle.std.specs.Fmt.{decimal}
use Rattle.gq_json.specs.Json.{error_text}
use Rattle.gq_diagnostics.specs.declared.refusal.Refusal.{Refusal}
use Rattle.gq_diagnostics.specs.declared.refusal.Refusal.TheVariants.{NameTaken, NoSuchType, AttributeTwice, BadDefault, TooMany, GraphExists, UnknownName, BadOption, WrongCount, NotAllowed, NoPath, MissingFile, TooLarge, NoColumn, StoreFull, Mismatch, NoAttribute, OrderDependent, WiderSet, TwoAliases, BadAccumulator, NameTwice, NotInstalled, WrongArguments, BadArgument, OutOfRange, ZeroDivisor, SumOutOfRange, LoopBound, PathBound}

-- the message
abbrev pub message_of : Refusal → List ℕ
message_of (NameTaken x) = codes "name taken " ++ x
message_of (NoSuchType x) = codes "no such type " ++ x
message_of (AttributeTwice x) = codes "attribute twice " ++ x
message_of (BadDefault x) = codes "bad default " ++ x
message_of TooMany = codes "too many"
message_of (GraphExists x) = codes "graph exists " ++ x
message_of (UnknownName x) = codes "unknown name " ++ x
message_of BadOption = codes "bad option"
message_of (WrongCount x) = codes "wrong number of values " ++ x
message_of NotAllowed = codes "not allowed here"
message_of (NoPath x) = codes "no path for " ++ x
message_of (MissingFile x) = codes "missing file " ++ x
message_of (TooLarge x) = codes "file too large " ++ x
message_of (NoColumn x) = codes "no column " ++ x
message_of StoreFull = codes "store full"
message_of Mismatch = codes "type mismatch"
message_of (NoAttribute x) = codes "no attribute " ++ x
message_of (OrderDependent x) = codes "order dependent " ++ x
message_of (WiderSet x) = codes "wider set " ++ x
message_of TwoAliases = codes "two aliases"
message_of (BadAccumulator x) = codes "bad accumulator " ++ x
message_of (NameTwice x) = codes "name twice " ++ x
message_of (NotInstalled x) = codes "not installed " ++ x
message_of WrongArguments = codes "wrong number of arguments"
message_of (BadArgument x) = codes "bad argument " ++ x
message_of OutOfRange = codes "number out of range"
message_of ZeroDivisor = codes "division by zero"
message_of (SumOutOfRange x) = codes "sum out of range in " ++ x
message_of (LoopBound n) = codes "loop bound " ++ decimal n ++ codes " reached"
message_of PathBound = codes "more than 4194304 paths"

-- a message with the number of its script line in front
abbrev pub placed_message : ℕ → List ℕ → List ℕ
placed_message line message = codes "line " ++ decimal line ++ codes ": " ++ message

-- the line that a refused statement prints, with the script line on which it begins
abbrev pub refusal_text : ℕ → List ℕ → List ℕ
refusal_text line message = error_text (placed_message line message)
