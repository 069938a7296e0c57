-- Holds: the JSON object that arguments hold.
use Rattle.std.specs.Prelude.{Option, option_map}
use Rattle.serde_json.specs.Data.{Data}
use Rattle.serde_json.specs.View.{view}
use Rattle.gq_arguments.specs.declared.args.Args.{Args}

-- the object of the file, if there is one
abbrev pub held : Args → Option Data
held args = option_map view args.object
