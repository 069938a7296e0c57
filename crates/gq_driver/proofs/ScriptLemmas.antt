-- If the listing of the files is given, a script means at most one outcome, and a call that keeps to one keeps to its
-- meaning.
use Rattle.std.proofs.Common.{◌≡◌, ℕ, List, [], Option, Some, inl, inr, ap, ◌∙◌, subst, codes}
use Rattle.serde_json.specs.Data.{Members}
use Rattle.gq_token.specs.declared.token.Token.{Token}
use Rattle.gq_token.specs.declared.fault.LexFault.{LexFault}
use Rattle.gq_token.specs.Cut.{HasTokens}
use Rattle.gq_token.specs.Faults as lex
use Rattle.gq_tree.specs.declared.statement.Placed.{Placed}
use Rattle.gq_stmt_read.specs.declared.fault.ScriptFault.{ScriptFault}
use Rattle.gq_stmt_read.specs.Outcomes.{IsRead, HasFault}
use Rattle.gq_arguments.specs.Objects.{IsObject}
use Rattle.gq_diagnostics.specs.declared.status.Status.{Status}
use Rattle.gq_diagnostics.specs.Outcome.{Outcome, KeepsTo, refused_with}
use Rattle.gq_diagnostics.proofs.OutcomeLemmas.{keeps_same}
use Rattle.gq_io.specs.Known.{Known}
use Rattle.gq_driver.specs.Messages.{message_at, name_of, fault_message}
use Rattle.gq_driver.specs.Scripts.{StatementsMean, ArgumentsMean, TokensMean, ScriptMeans}

module _ (bytes : List ℕ) (known : Known) (turns : ℕ) (status : Status) (old new : Option (List ℕ)) (A B : Type 0) where
  -- the call keeps to this outcome
  abbrev pub Keeps : Outcome → Type 0
  Keeps outcome = KeepsTo outcome status old new A B

  keeps_refusal : (message : List ℕ) (outcome : Outcome) → Keeps (refused_with message) → outcome ≡ refused_with message → Keeps outcome
  keeps_refusal message outcome keeps same = keeps_same (refused_with message) outcome status old new A B same keeps

  -- ---- arguments

  module _ (file : List ℕ) (statements : List Placed) where
    pub keeps_arguments : (members : Members) → IsObject file members → ((outcome : Outcome) → StatementsMean bytes known turns (Some file) statements outcome → Keeps outcome)
        → (outcome : Outcome) → ArgumentsMean bytes known turns (Some file) statements outcome → Keeps outcome
    keeps_arguments members is keeps outcome (inl (others, are, mean)) = keeps outcome mean
    keeps_arguments members is keeps outcome (inr (none, same)) = absurd (none members is)

    pub keeps_unreadable : ((members : Members) → IsObject file members → ⊥) → Keeps (refused_with (codes "arguments unreadable"))
        → (outcome : Outcome) → ArgumentsMean bytes known turns (Some file) statements outcome → Keeps outcome
    keeps_unreadable none keeps outcome (inl (members, is, mean)) = absurd (none members is)
    keeps_unreadable none keeps outcome (inr (nothing, same)) = keeps_refusal (codes "arguments unreadable") outcome keeps same

  -- ---- tokens

  module _ (arguments : Option (List ℕ)) (tokens : List Token) where
    pub keeps_statements : (statements : List Placed) → ((others : List Placed) → IsRead bytes tokens others → others ≡ statements)
        → ((fault : ScriptFault) → HasFault bytes tokens fault → ⊥)
        → ((outcome : Outcome) → ArgumentsMean bytes known turns arguments statements outcome → Keeps outcome)
        → (outcome : Outcome) → TokensMean bytes known turns arguments tokens outcome → Keeps outcome
    keeps_statements statements only none keeps outcome (inl (fault, has, same)) = absurd (none fault has)
    keeps_statements statements only none keeps outcome (inr (others, deep, is, mean)) =
        keeps outcome (subst (λ ps. ArgumentsMean bytes known turns arguments ps outcome) (only others (deep, is)) mean)

    pub keeps_fault : (fault : ScriptFault) → ((other : ScriptFault) → HasFault bytes tokens other → other ≡ fault)
        → ((statements : List Placed) → IsRead bytes tokens statements → ⊥) → Keeps (refused_with (fault_message bytes fault))
        → (outcome : Outcome) → TokensMean bytes known turns arguments tokens outcome → Keeps outcome
    keeps_fault fault only none keeps outcome (inl (other, has, same)) =
        keeps_refusal (fault_message bytes fault) outcome keeps (same ∙ ap (λ f. refused_with (fault_message bytes f)) (only other has))
    keeps_fault fault only none keeps outcome (inr (statements, shallow, is, mean)) = absurd (none statements (shallow, is))

  -- ---- whole scripts

  module _ (arguments : Option (List ℕ)) where
    pub keeps_cut : (fault : LexFault) → ((other : LexFault) → lex.HasFault bytes other → other ≡ fault) → ((tokens : List Token) → HasTokens bytes tokens → ⊥)
        → Keeps (refused_with (message_at bytes (name_of fault) (lex.place_of fault))) → (outcome : Outcome) → ScriptMeans bytes known turns arguments outcome → Keeps outcome
    keeps_cut fault only none keeps outcome (inl (other, has, same)) =
        keeps_refusal (message_at bytes (name_of fault) (lex.place_of fault)) outcome keeps
        (same ∙ ap (λ f. refused_with (message_at bytes (name_of f) (lex.place_of f))) (only other has))
    keeps_cut fault only none keeps outcome (inr (tokens, has, mean)) = absurd (none tokens has)

    pub keeps_tokens : (tokens : List Token) → ((others : List Token) → HasTokens bytes others → others ≡ tokens) → ((fault : LexFault) → lex.HasFault bytes fault → ⊥)
        → ((outcome : Outcome) → TokensMean bytes known turns arguments tokens outcome → Keeps outcome)
        → (outcome : Outcome) → ScriptMeans bytes known turns arguments outcome → Keeps outcome
    keeps_tokens tokens only none keeps outcome (inl (fault, has, same)) = absurd (none fault has)
    keeps_tokens tokens only none keeps outcome (inr (others, has, mean)) =
        keeps outcome (subst (λ ts. TokensMean bytes known turns arguments ts outcome) (only others has) mean)
