-- Arguments: the object of the file of arguments, by its bytes.
use Rattle.std.specs.Prelude.{ℕ, List, Option, option_and_then}
use Rattle.serde_json.specs.Data.{Data}
use Rattle.serde_json.specs.Read.{read}

-- the result of parsing the file with `serde_json`; None if no file is named
abbrev pub object_of : Option (List ℕ) → Option Data
object_of file = option_and_then read file
