-- Objects: which bytes are a file of arguments, and its value for a parameter of a query.
use Rattle.std.specs.Prelude.{◌≡◌, ℕ, List, Option, Some, option_and_then}
use Rattle.std.specs.Prelude.{IsUtf8}
use Rattle.serde_json.specs.Data.{Data, object, Members}
use Rattle.serde_json.specs.Read.{read}
use Rattle.serde_json.specs.Find.{get}

-- the bytes are a JSON object with these members, as `serde_json` parses it
pub record IsObject (bytes : List ℕ) (members : Members) : Type 0 where
  pub utf8 : IsUtf8 bytes
  pub reads : read bytes ≡ Some (object members)

-- the value under a parameter's name in the object under the query's name
abbrev pub member_of : Option Data → List ℕ → List ℕ → Option Data
member_of args query parameter = option_and_then (get parameter) (option_and_then (get query) args)
