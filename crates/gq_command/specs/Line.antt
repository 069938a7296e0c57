-- Line: the command line, as a command of `clap`: six options with one value each, and one positional.
--
-- The code builds this command, and `clap` determines which words are accepted and what they match.
use Rattle.std.specs.Prelude.{List, [], ◌∷◌, Option, Some, None, codes, true}
use Rattle.clap.specs.Words.{App, Row, Rule, Text, Kinds, new_app, new_rule, with_rule, fault_of, matches_of}

-- an option with one value
abbrev pub option : Text → Rule
option name = record (new_rule name) { long = Some name }

-- a command without a help flag, which is given the words after the program's name
abbrev pub bare : App
bare = record (new_app (codes "gsql")) { top = record ((new_app (codes "gsql")).top) { no_binary_name = true; disable_help_flag = true } }

-- the command
abbrev pub gsql : App
gsql = with_rule (with_rule (with_rule (with_rule (with_rule (with_rule (with_rule bare
    (option (codes "workers"))) (option (codes "chunk"))) (option (codes "stripes"))) (option (codes "turns")))
    (option (codes "args"))) (option (codes "sample"))) (new_rule (codes "script"))

-- these rows, unless there is a fault
abbrev pub unless_faulty : Kinds → List Row → Option (List Row)
unless_faulty [] rows = Some rows
unless_faulty (kind ∷ kinds) rows = None

-- what `clap` matches of the words, or None if it refuses them
unfoldable pub matched : List Text → Option (List Row)
matched words = unless_faulty (fault_of gsql words) (matches_of gsql words)
