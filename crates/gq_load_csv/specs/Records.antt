-- Records: the records of a file, each as the bytes of its fields.
-- The csv library defines how bytes are split into records. The code reads one record at a time.
use Rattle.std.specs.Prelude.{ℕ, List, Option, is_some, unwrap_or}
use Rattle.csv.specs.declared.parser.Config.{Config}
use Rattle.csv.specs.Reading.{default_config, records, strip_bom}

-- fields are split at the separator. Quotes are special only if a quote is given. A line feed, a carriage return, or
-- both end a record, and an empty line isn't a record
abbrev pub config_of : ℕ → Option ℕ → Config
config_of separator quote = record default_config { delimiter = separator; quote = unwrap_or quote 34; quoting = is_some quote }

-- all records of a file; a byte order mark at its very beginning is dropped
abbrev pub records_of : ℕ → Option ℕ → List ℕ → List (List (List ℕ))
records_of separator quote bytes = records (config_of separator quote) (strip_bom bytes)
