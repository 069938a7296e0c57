-- What `clap` refuses, and what it accepts.
use Rattle.std.proofs.Common.{◌≡◌, List, [], ◌∷◌, Option, Some, None, inl, inr, refl, ap, sym, ◌∙◌}
use Rattle.std.specs.Prelude.{option_and_then, ◌⊎◌}
use Rattle.clap.specs.Words.{Row, Text, Kinds, IsAmong, fault_of, matches_of}
use Rattle.clap.specs.declared.error.kind.ErrorKind.{ErrorKind}
use Rattle.clap.specs.declared.error.kind.ErrorKind.TheVariants.{OutOfMemory}
use Rattle.gq_command.specs.Line.{gsql, unless_faulty, matched}
use Rattle.gq_command.specs.Words.{command_from, command_of}
use Rattle.gq_command.specs.declared.command.Command.{Command}

-- words with a fault match nothing
faulty : (kind : ErrorKind) (kinds : Kinds) (rows : List Row) → IsAmong kind kinds → unless_faulty kinds rows ≡ None
faulty kind [] rows among = absurd among
faulty kind (first ∷ others) rows among = refl

-- words that are refused match nothing
pub refused : (words : List Text) (kind : ErrorKind) → IsAmong kind (fault_of gsql words) → matched words ≡ None
unfolding matched
refused words kind among = faulty kind (fault_of gsql words) (matches_of gsql words) among

-- words that are accepted match these rows
pub taken : (words : List Text) (rows : List Row) → fault_of gsql words ≡ [] → rows ≡ matches_of gsql words → matched words ≡ Some rows
unfolding matched
taken words rows no_fault same = ap (λ kinds. unless_faulty kinds (matches_of gsql words)) no_fault ∙ ap Some (sym same)

-- an error that isn't OutOfMemory refuses the words
pub refusal : (words : List Text) (kind : ErrorKind) → (kind ≡ OutOfMemory) ⊎ IsAmong kind (fault_of gsql words) → (kind ≡ OutOfMemory → ⊥) → matched words ≡ None
refusal words kind (inl memory) other = absurd (other memory)
refusal words kind (inr among) other = refused words kind among

-- words that match nothing give no command
pub nothing : (words : List Text) → matched words ≡ None → command_of words ≡ None
unfolding command_of
nothing words none = ap (λ rows. option_and_then command_from rows) none

-- words that match rows give the command of the rows
pub asked : (words : List Text) (rows : List Row) (command : Option Command) → matched words ≡ Some rows → command ≡ command_from rows → command_of words ≡ command
unfolding command_of
asked words rows command some is = ap (λ found. option_and_then command_from found) some ∙ sym is
