-- MeaningLemmas: if the listing of the files is given, a command line means exactly one outcome.
use Rattle.std.proofs.Common.{◌≡◌, ℕ, ◌⊎◌, inl, inr, List, ◌++◌, length, Option, Some, None, refl, ap, sym, ◌∙◌, subst, arith, codes}
use Rattle.serde_json.specs.Data.{Members}
use Rattle.gq_io.specs.Listing.{Listing, named}
use Rattle.gq_io.specs.Known.{Told, Answer, Absent, TooLong, Bytes, answer_of}
use Rattle.gq_token.specs.declared.token.Token.{Token}
use Rattle.gq_token.specs.declared.fault.LexFault.{LexFault}
use Rattle.gq_token.specs.Cut.{HasTokens}
use Rattle.gq_token.specs.Faults as lex
use Rattle.gq_token.specs.Nesting.{IsTooDeepAt, IsShallow}
use Rattle.gq_token.proofs.CutLemmas.{tokens_unique}
use Rattle.gq_token.proofs.LawLemmas.{one_fault_at_most, no_fault_beside}
use Rattle.gq_token.proofs.PlaceLemmas.{too_deep_unique, never_deep}
use Rattle.gq_tree.specs.declared.statement.Placed.{Placed}
use Rattle.gq_grammar.specs.Cutting.{IsScript, FailsAt}
use Rattle.gq_stmt_read.specs.declared.fault.ScriptFault.{ScriptFault}
use Rattle.gq_stmt_read.specs.declared.fault.ScriptFault.TheVariants.{Syntax, TooDeep, OutOfMemory}
use Rattle.gq_stmt_read.specs.Outcomes.{IsRead, HasFault}
use Rattle.gq_arguments.specs.Objects.{IsObject}
use Rattle.gq_diagnostics.specs.Outcome.{Outcome, refused_with, usage}
use Rattle.gq_session.specs.Statements.{opening}
use Rattle.gq_session.proofs.SafeLemmas.{opening_law}
use Rattle.gq_command.specs.Script.{script_text}
use Rattle.gq_command.specs.declared.command.Command.{Command}
use Rattle.gq_command.specs.declared.command.Task.{Task}
use Rattle.gq_command.specs.declared.command.Task.TheVariants.{Script, Sample}
use Rattle.gq_command.specs.Words.{command_of}
use Rattle.gq_driver.specs.Messages.{message_at, name_of, fault_message}
use Rattle.gq_driver.specs.Scripts.{StatementsMean, ArgumentsMean, TokensMean, ScriptMeans}
use Rattle.gq_driver.specs.CommandLine.{GoesOn, Asks, sample_files, BytesMean, TaskMeans, CommandMeans, Means}
use Rattle.gq_driver.proofs.SomeTokens.{tokens_or_fault}
use Rattle.gq_driver.proofs.SomeNesting.{shallow_or_deep}
use Rattle.gq_driver.proofs.SomeStatements.{script_or_fault}
use Rattle.gq_driver.proofs.SomeArguments.{object_or_none}
use Rattle.gq_driver.proofs.SomeEffects.{some_runs, one_run}
use Rattle.gq_driver.proofs.WrittenLemmas.{AreWritten, script_written}

-- ---- how tokens are parsed

-- tokens consist of at most one list of statements, or fail at only one place: what `one_script` of `gq_stmt_read`
-- promises
pub record HasOneScript : Type 0 where
  pub one : (bytes : List ℕ) (tokens : List Token) (statements others : List Placed) → IsScript bytes tokens statements → IsScript bytes tokens others → statements ≡ others
  pub one_fault : (bytes : List ℕ) (tokens : List Token) (number at other place : ℕ) → FailsAt bytes tokens number at → FailsAt bytes tokens other place → (number ≡ other) × (at ≡ place)
  pub apart : (bytes : List ℕ) (tokens : List Token) (statements : List Placed) (number at : ℕ) → IsScript bytes tokens statements → FailsAt bytes tokens number at → ⊥

module _ (bytes : List ℕ) (tokens : List Token) where
  -- there are statements, or there is a fault
  some_reading : ((fault : ScriptFault) × HasFault bytes tokens fault) ⊎ ((statements : List Placed) × IsRead bytes tokens statements)
  some_reading = by (shallow_or_deep bytes tokens)
    where
      shallow : IsShallow bytes tokens → ((number : ℕ) × (at : ℕ) × FailsAt bytes tokens number at) ⊎ ((statements : List Placed) × IsScript bytes tokens statements)
          → ((fault : ScriptFault) × HasFault bytes tokens fault) ⊎ ((statements : List Placed) × IsRead bytes tokens statements)
      shallow low (inl (number, at, fails)) = inl (Syntax number at, (low, fails))
      shallow low (inr (statements, is)) = inr (statements, (low, is))

      by : ((at : ℕ) × IsTooDeepAt bytes tokens at) ⊎ IsShallow bytes tokens
          → ((fault : ScriptFault) × HasFault bytes tokens fault) ⊎ ((statements : List Placed) × IsRead bytes tokens statements)
      by (inl (at, deep)) = inl (TooDeep at, deep)
      by (inr low) = shallow low (script_or_fault bytes tokens)

  -- a script that is shallow isn't too deep anywhere
  not_both : IsShallow bytes tokens → (at : ℕ) → IsTooDeepAt bytes tokens at → ⊥
  not_both low at deep = never_deep bytes tokens (length tokens) (omega arith) (λ n within. low n) at deep

  module _ (only : HasOneScript) where
    one_fault : (e f : ScriptFault) → HasFault bytes tokens e → HasFault bytes tokens f → e ≡ f
    one_fault (Syntax number at) (Syntax other place) (low, fails) (shallow, as_well) =
        let same = only.one_fault bytes tokens number at other place fails as_well in ap (λ n. Syntax n at) same.0 ∙ ap (λ n. Syntax other n) same.1
    one_fault (Syntax number at) (TooDeep place) (low, fails) deep = absurd (not_both low place deep)
    one_fault (TooDeep at) (Syntax number place) deep (low, fails) = absurd (not_both low at deep)
    one_fault (TooDeep at) (TooDeep place) deep as_well = ap TooDeep (too_deep_unique bytes tokens at place deep as_well)
    one_fault OutOfMemory f never has = absurd never
    one_fault (Syntax number at) OutOfMemory has never = absurd never
    one_fault (TooDeep at) OutOfMemory has never = absurd never

    no_script_beside : (fault : ScriptFault) (statements : List Placed) → HasFault bytes tokens fault → IsRead bytes tokens statements → ⊥
    no_script_beside (Syntax number at) statements (low, fails) (shallow, is) = only.apart bytes tokens statements number at is fails
    no_script_beside (TooDeep at) statements deep (low, is) = not_both low at deep
    no_script_beside OutOfMemory statements never is = never

-- ---- scripts

module _ (bytes : List ℕ) (pairs : Listing) (turns : ℕ) where
  abbrev Statements : Option (List ℕ) → List Placed → Outcome → Type 0
  Statements arguments statements outcome = StatementsMean bytes (Told pairs) turns arguments statements outcome

  some_statements : (arguments : Option (List ℕ)) (statements : List Placed) → AreWritten statements → (o : Outcome) × Statements arguments statements o
  some_statements arguments statements written = some_runs bytes pairs (opening arguments turns) (opening_law arguments turns) statements written

  one_meaning : (arguments : Option (List ℕ)) (statements : List Placed) (o p : Outcome) → Statements arguments statements o → Statements arguments statements p → o ≡ p
  one_meaning arguments statements o p a b = one_run bytes pairs (opening arguments turns) statements o p a b

  -- ---- arguments

  abbrev Arguments : Option (List ℕ) → List Placed → Outcome → Type 0
  Arguments arguments statements outcome = ArgumentsMean bytes (Told pairs) turns arguments statements outcome

  some_arguments : (arguments : Option (List ℕ)) (statements : List Placed) → AreWritten statements → (o : Outcome) × Arguments arguments statements o
  some_arguments None statements written = some_statements None statements written
  some_arguments (Some file) statements written = by (object_or_none file)
    where
      by : ((members : Members) × IsObject file members) ⊎ ((members : Members) → IsObject file members → ⊥) → (o : Outcome) × Arguments (Some file) statements o
      by (inl (members, is)) = let means = some_statements (Some file) statements written in (means.0, inl (members, is, means.1))
      by (inr none) = (refused_with (codes "arguments unreadable"), inr (none, refl))

  one_arguments : (arguments : Option (List ℕ)) (statements : List Placed) (o p : Outcome) → Arguments arguments statements o → Arguments arguments statements p → o ≡ p
  one_arguments None statements o p a b = one_meaning None statements o p a b
  one_arguments (Some file) statements o p (inl (found, is, means)) (inl (others, are, mean)) = one_meaning (Some file) statements o p means mean
  one_arguments (Some file) statements o p (inl (found, is, means)) (inr (none, same)) = absurd (none found is)
  one_arguments (Some file) statements o p (inr (none, same)) (inl (found, is, means)) = absurd (none found is)
  one_arguments (Some file) statements o p (inr (none, same)) (inr (nothing, other)) = same ∙ sym other

  -- ---- tokens

  abbrev Tokens : Option (List ℕ) → List Token → Outcome → Type 0
  Tokens arguments tokens outcome = TokensMean bytes (Told pairs) turns arguments tokens outcome

  some_tokens : (arguments : Option (List ℕ)) (tokens : List Token) → (o : Outcome) × Tokens arguments tokens o
  some_tokens arguments tokens = by (some_reading bytes tokens)
    where
      by : ((fault : ScriptFault) × HasFault bytes tokens fault) ⊎ ((statements : List Placed) × IsRead bytes tokens statements) → (o : Outcome) × Tokens arguments tokens o
      by (inl (fault, has)) = (refused_with (fault_message bytes fault), inl (fault, has, refl))
      by (inr (statements, (low, is))) = let means = some_arguments arguments statements (script_written bytes tokens statements is) in (means.0, inr (statements, low, is, means.1))

  one_tokens : HasOneScript → (arguments : Option (List ℕ)) (tokens : List Token) (o p : Outcome) → Tokens arguments tokens o → Tokens arguments tokens p → o ≡ p
  one_tokens only arguments tokens o p (inl (e, has, same)) (inl (f, might, other)) =
      same ∙ ap (λ x. refused_with (fault_message bytes x)) (one_fault bytes tokens only e f has might) ∙ sym other
  one_tokens only arguments tokens o p (inl (e, has, same)) (inr (statements, low, is, means)) = absurd (no_script_beside bytes tokens only e statements has (low, is))
  one_tokens only arguments tokens o p (inr (statements, low, is, means)) (inl (e, has, same)) = absurd (no_script_beside bytes tokens only e statements has (low, is))
  one_tokens only arguments tokens o p (inr (statements, low, is, means)) (inr (others, shallow, are, mean)) =
      one_arguments arguments statements o p means
      (subst (λ ps. Arguments arguments ps p) (only.one bytes tokens others statements are is) mean)

  -- ---- whole scripts

  abbrev Script_means : Option (List ℕ) → Outcome → Type 0
  Script_means arguments outcome = ScriptMeans bytes (Told pairs) turns arguments outcome

  pub some_script : (arguments : Option (List ℕ)) → (o : Outcome) × Script_means arguments o
  some_script arguments = by (tokens_or_fault bytes)
    where
      by : ((fault : LexFault) × lex.HasFault bytes fault) ⊎ ((tokens : List Token) × HasTokens bytes tokens) → (o : Outcome) × Script_means arguments o
      by (inl (fault, has)) = (refused_with (message_at bytes (name_of fault) (lex.place_of fault)), inl (fault, has, refl))
      by (inr (tokens, has)) = let means = some_tokens arguments tokens in (means.0, inr (tokens, has, means.1))

  pub one_script : HasOneScript → (arguments : Option (List ℕ)) (o p : Outcome) → Script_means arguments o → Script_means arguments p → o ≡ p
  one_script only arguments o p (inl (e, has, same)) (inl (f, might, other)) =
      same ∙ ap (λ x. refused_with (message_at bytes (name_of x) (lex.place_of x))) (one_fault_at_most bytes e f has might) ∙ sym other
  one_script only arguments o p (inl (e, has, same)) (inr (tokens, might, means)) = absurd (no_fault_beside bytes e tokens has might)
  one_script only arguments o p (inr (tokens, might, means)) (inl (e, has, same)) = absurd (no_fault_beside bytes e tokens has might)
  one_script only arguments o p (inr (tokens, has, means)) (inr (others, might, mean)) =
      one_tokens only arguments tokens o p means (subst (λ ts. Tokens arguments ts p) (tokens_unique bytes others tokens might has) mean)

-- ---- command lines

module _ (pairs : Listing) where
  -- a file of the listing has exactly one answer
  module _ (name : List ℕ) (Rest : List ℕ → Outcome → Type 0) where
    some_answer : ((bytes : List ℕ) → (o : Outcome) × Rest bytes o) → (answer : Answer) → (o : Outcome) × GoesOn name Rest answer o
    some_answer rest Absent = (refused_with (codes "missing file " ++ name), refl)
    some_answer rest TooLong = (refused_with (codes "file too large " ++ name), refl)
    some_answer rest (Bytes bytes) = rest bytes

    some_file : ((bytes : List ℕ) → (o : Outcome) × Rest bytes o) → (o : Outcome) × Asks (Told pairs) name Rest o
    some_file rest =
        let answer = answer_of (named name pairs) in
        let on = some_answer rest answer in
        (on.0, (answer, refl, on.1))

    one_answer : ((bytes : List ℕ) (o p : Outcome) → Rest bytes o → Rest bytes p → o ≡ p) → (answer : Answer) (o p : Outcome) → GoesOn name Rest answer o → GoesOn name Rest answer p → o ≡ p
    one_answer rest Absent o p a b = a ∙ sym b
    one_answer rest TooLong o p a b = a ∙ sym b
    one_answer rest (Bytes bytes) o p a b = rest bytes o p a b

    one_file : ((bytes : List ℕ) (o p : Outcome) → Rest bytes o → Rest bytes p → o ≡ p) → (o p : Outcome) → Asks (Told pairs) name Rest o → Asks (Told pairs) name Rest p → o ≡ p
    one_file rest o p (answer, may, on) (other, might, goes) =
        one_answer rest answer o p on (subst (λ a. GoesOn name Rest a p) (might ∙ sym may) goes)

  some_bytes : (turns : ℕ) (arguments : Option (List ℕ)) (bytes : List ℕ) → (o : Outcome) × BytesMean (Told pairs) turns arguments bytes o
  some_bytes turns None bytes = some_script bytes pairs turns None
  some_bytes turns (Some path) bytes = some_file path (λ file. ScriptMeans bytes (Told pairs) turns (Some file)) (λ file. some_script bytes pairs turns (Some file))

  one_bytes : HasOneScript → (turns : ℕ) (arguments : Option (List ℕ)) (bytes : List ℕ) (o p : Outcome) → BytesMean (Told pairs) turns arguments bytes o → BytesMean (Told pairs) turns arguments bytes p → o ≡ p
  one_bytes only turns None bytes o p a b = one_script bytes pairs turns only None o p a b
  one_bytes only turns (Some path) bytes o p a b =
      one_file path (λ file. ScriptMeans bytes (Told pairs) turns (Some file)) (λ file x y. one_script bytes pairs turns only (Some file) x y) o p a b

  some_task : (turns : ℕ) (task : Task) → (o : Outcome) × TaskMeans (Told pairs) turns task o
  some_task turns (Script path arguments) = some_file path (BytesMean (Told pairs) turns arguments) (some_bytes turns arguments)
  some_task turns (Sample people) = some_script script_text (sample_files people) turns None

  one_task : HasOneScript → (turns : ℕ) (task : Task) (o p : Outcome) → TaskMeans (Told pairs) turns task o → TaskMeans (Told pairs) turns task p → o ≡ p
  one_task only turns (Script path arguments) o p a b = one_file path (BytesMean (Told pairs) turns arguments) (one_bytes only turns arguments) o p a b
  one_task only turns (Sample people) o p a b = one_script script_text (sample_files people) turns only None o p a b

  some_command : (command : Option Command) → (o : Outcome) × CommandMeans (Told pairs) command o
  some_command None = (usage, refl)
  some_command (Some command) = some_task command.turns command.task

  one_command : HasOneScript → (command : Option Command) (o p : Outcome) → CommandMeans (Told pairs) command o → CommandMeans (Told pairs) command p → o ≡ p
  one_command only None o p a b = a ∙ sym b
  one_command only (Some command) o p a b = one_task only command.turns command.task o p a b

-- a command line means an outcome
pub some_outcome : (pairs : Listing) (words : List (List ℕ)) → (outcome : Outcome) × Means (Told pairs) words outcome
some_outcome pairs words = some_command pairs (command_of words)

-- and no other
pub one_outcome : HasOneScript → (pairs : Listing) (words : List (List ℕ)) (o p : Outcome) → Means (Told pairs) words o → Means (Told pairs) words p → o ≡ p
one_outcome only pairs words o p a b = one_command pairs only (command_of words) o p a b
