-- Runs: what the statements of a script print, one after another, by the effect of each of them.
use Rattle.std.specs.Prelude.{◌≡◌, ℕ, List, [], ◌∷◌}
use Rattle.gq_token.specs.Lines.{line_of}
use Rattle.gq_tree.specs.declared.statement.Placed.{Placed}
use Rattle.gq_diagnostics.specs.Messages.{refusal_text}
use Rattle.gq_diagnostics.specs.Outcome.{Outcome, done, ended_by, lines_then}
use Rattle.gq_io.specs.Known.{Known}
use Rattle.gq_diagnostics.specs.Effects.{Effect, Becomes, Refused}
use Rattle.gq_session.specs.Statements.{State, Does}

-- the outcome after a statement that begins on this line: its refusal is the last line, or its lines come before those
-- of the rest
abbrev pub Follows : ℕ → Effect State → (State → Outcome → Type 0) → Outcome → Type 0
Follows line (Refused message) Rest outcome = outcome ≡ ended_by (refusal_text line message)
Follows line (Becomes t lines) Rest outcome = (others : Outcome) × Rest t others × (outcome ≡ lines_then lines others)

module _ (bytes : List ℕ) (known : Known) where
  -- from a state, these statements of the script with these bytes have this output and status
  abbrev pub Runs : State → List Placed → Outcome → Type 0
  Runs s [] outcome = outcome ≡ done
  Runs s (p ∷ others) outcome =
      (effect : Effect State) × Does known s p.statement effect
      × Follows (line_of bytes p.from) effect (λ t. Runs t others) outcome
