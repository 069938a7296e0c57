-- Answers: how a call that changes a state keeps to its meaning: the state after it, or its refusal.
use Rattle.std.specs.Prelude.{◌≡◌, Result, Ok, Err}
use Rattle.gq_diagnostics.specs.declared.refusal.Refusal.{Refusal}
use Rattle.gq_diagnostics.specs.declared.refusal.StatementFault.{StatementFault}
use Rattle.gq_diagnostics.specs.declared.refusal.StatementFault.TheVariants.{Refused, ReadFault, OutOfMemory}

-- a call that doesn't return Ok has the expected refusal, or memory ran out; it reads no file, and leaves the state
-- unchanged
abbrev pub Denies : {S : Type 0} → Result S Refusal → S → S → StatementFault → Type 0
Denies meant old new (Refused refusal) = (meant ≡ Err refusal) × (new ≡ old)
Denies meant old new ReadFault = ⊥
Denies meant old new OutOfMemory = new ≡ old

-- the state becomes the expected one, or the call denies it
abbrev pub Answers : {S R : Type 0} → Result S Refusal → S → S → Result R StatementFault → Type 0
Answers meant old new (Ok r) = meant ≡ Ok new
Answers meant old new (Err fault) = Denies meant old new fault
