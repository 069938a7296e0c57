-- Answers: when the line of a statement, or its refusal, is that of the definitions; and when its query isn't stuck.
use Rattle.std.specs.Prelude.{◌≡◌, ◌≢◌, ℕ, List, [], ◌∷◌, Result, Ok, Err, Vec}
use Rattle.std.specs.declared.alloc.Global.{Global}
use Rattle.gq_diagnostics.specs.declared.refusal.StatementFault.{StatementFault}
use Rattle.gq_diagnostics.specs.declared.refusal.StatementFault.TheVariants.{Refused, ReadFault, OutOfMemory}
use Rattle.gq_diagnostics.specs.Messages.{message_of}
use Rattle.gq_rules_typing.specs.Statements.{Bytes}
use Rattle.gq_rules_meaning.specs.Outs.{Out}
use Rattle.gq_rules_meaning.specs.Lines.{query_line}
use Rattle.gq_rules_meaning.specs.Sessions as sessions
use Rattle.gq_rules_meaning.specs.Sessions.{Session, Effect}

-- an object for each PRINT
abbrev pub Objects : Type 0
Objects = List (List (Bytes × Out))

-- the line is that of the output, and a refusal has the message; OutOfMemory may occur at any time
abbrev pub Tells : Result Objects Bytes → Result (Vec ℕ Global) StatementFault → Type 0
Tells meant (Ok line) = (objects : Objects) × (meant ≡ Ok objects) × (line.items ≡ query_line objects)
Tells meant (Err (Refused refusal)) = meant ≡ Err (message_of refusal)
Tells meant (Err ReadFault) = ⊥
Tells meant (Err OutOfMemory) = Unit {0}

-- the same for the effect of a statement on a session that it doesn't change
abbrev pub Says : Session → Effect → Result (Vec ℕ Global) StatementFault → Type 0
Says s effect (Ok line) = effect ≡ sessions.Becomes s (line.items ∷ [])
Says s effect (Err (Refused refusal)) = effect ≡ sessions.Refused (message_of refusal)
Says s effect (Err ReadFault) = ⊥
Says s effect (Err OutOfMemory) = Unit {0}

-- the query of the statement isn't stuck: only for one that is do the definitions have a refusal without a message
abbrev pub NotStuck : Effect → Type 0
NotStuck effect = effect ≢ sessions.Refused []
