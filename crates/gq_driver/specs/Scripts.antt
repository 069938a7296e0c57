-- Scripts: the meaning of a script's bytes: its lines and status, given the turns per query and what is known of files.
use Rattle.std.specs.Prelude.{◌≡◌, ◌⊎◌, List, ℕ, Option, Some, None, codes}
use Rattle.serde_json.specs.Data.{Members}
use Rattle.gq_token.specs.declared.token.Token.{Token}
use Rattle.gq_token.specs.declared.fault.LexFault.{LexFault}
use Rattle.gq_token.specs.Cut.{HasTokens}
use Rattle.gq_token.specs.Faults as lex
use Rattle.gq_token.specs.Nesting.{IsShallow}
use Rattle.gq_tree.specs.declared.statement.Placed.{Placed}
use Rattle.gq_grammar.specs.Cutting.{IsScript}
use Rattle.gq_stmt_read.specs.declared.fault.ScriptFault.{ScriptFault}
use Rattle.gq_stmt_read.specs.Outcomes.{HasFault}
use Rattle.gq_arguments.specs.Objects.{IsObject}
use Rattle.gq_diagnostics.specs.Outcome.{Outcome, refused_with}
use Rattle.gq_io.specs.Known.{Known}
use Rattle.gq_session.specs.Runs.{Runs}
use Rattle.gq_session.specs.Statements.{opening}
use Rattle.gq_driver.specs.Messages.{message_at, name_of, fault_message}

module _ (bytes : List ℕ) (known : Known) (turns : ℕ) where
  -- the meaning of the statements of the script, run in order from a new session, with this file of arguments, if one
  -- is named
  abbrev pub StatementsMean : Option (List ℕ) → List Placed → Outcome → Type 0
  StatementsMean arguments statements outcome = Runs bytes known (opening arguments turns) statements outcome

  -- the same, if the bytes of the file, if one is named, have to be a JSON object
  abbrev pub ArgumentsMean : Option (List ℕ) → List Placed → Outcome → Type 0
  ArgumentsMean None statements outcome = StatementsMean None statements outcome
  ArgumentsMean (Some file) statements outcome =
      ((members : Members) × IsObject file members × StatementsMean (Some file) statements outcome)
      ⊎ (((members : Members) → IsObject file members → ⊥) × (outcome ≡ refused_with (codes "arguments unreadable")))

  -- the meaning of the tokens of the script
  abbrev pub TokensMean : Option (List ℕ) → List Token → Outcome → Type 0
  TokensMean arguments tokens outcome =
      ((fault : ScriptFault) × HasFault bytes tokens fault × (outcome ≡ refused_with (fault_message bytes fault)))
      ⊎ ((statements : List Placed) × IsShallow bytes tokens × IsScript bytes tokens statements × ArgumentsMean arguments statements outcome)

  -- the meaning of the script
  abbrev pub ScriptMeans : Option (List ℕ) → Outcome → Type 0
  ScriptMeans arguments outcome =
      ((fault : LexFault) × lex.HasFault bytes fault × (outcome ≡ refused_with (message_at bytes (name_of fault) (lex.place_of fault))))
      ⊎ ((tokens : List Token) × HasTokens bytes tokens × TokensMean arguments tokens outcome)
