-- The answers of RUN QUERY and INTERPRET QUERY, by what was read of the session.
use Rattle.std.proofs.Common.{◌≡◌, ℕ, List, [], map, Option, Some, None, Result, Ok, Err, IfOk, sym, ap, subst, ◌∙◌}
use Rattle.std.specs.Prelude.{Vec, option_map}
use Rattle.std.specs.declared.alloc.Global.{Global}
use Rattle.serde_json.specs.Data.{Data}
use Rattle.gq_tree.specs.declared.query.QueryTree.{QueryTree}
use Rattle.gq_tree.specs.declared.query.RunTree.{RunTree}
use Rattle.gq_diagnostics.specs.declared.refusal.Refusal.{Refusal}
use Rattle.gq_diagnostics.specs.declared.refusal.StatementFault.{StatementFault}
use Rattle.gq_diagnostics.specs.declared.refusal.StatementFault.TheVariants as fault
use Rattle.gq_diagnostics.specs.Messages.{message_of}
use Rattle.gq_rules_typing.specs.StatementViews.{view_query}
use Rattle.gq_rules_meaning.specs.Sessions as sessions
use Rattle.gq_rules_meaning.specs.Sessions.{ran, interpreted}
use Rattle.gq_rules_calendar.specs.Gregorian.{gregorian}
use Rattle.gq_arguments.specs.Given.{view_argument}
use Rattle.gq_arguments.specs.Members.{members_for}
use Rattle.gq_query_run.specs.Kept.{Kept}
use Rattle.gq_query_run.specs.Answers.{NotStuck, Says}
use Rattle.gq_query_run.specs.Sessions.{session_of}
use Rattle.gq_diagnostics.specs.Effects.{Effect, Becomes, Refused, lines_of}
use Rattle.gq_session.specs.Arguments.{object_of}
use Rattle.gq_session.specs.Statements.{State, Prints, HasWords, session_in, effect_in, query_ran, query_interpreted}
use Rattle.gq_session.proofs.SessionLemmas.{IsLine}
use Rattle.gq_session.specs.Safe.{IsSafe}
use Rattle.gq_session.proofs.SafeLemmas.{run_law, interpret_law}
use Rattle.gq_session.proofs.WordLemmas.{words, says}

-- ---- answers

-- the line of a call, or its fault, is that of the statement
prints_line : (s : State) (t : sessions.Session) (effect : sessions.Effect) (answer : Result (Vec ℕ Global) StatementFault) (r : Result (Option (Vec ℕ Global)) StatementFault)
    → IsLine answer r → Says t effect answer → Prints s (effect_in s effect) r
prints_line s t effect answer (Ok (Some line)) is says =
    let P : Result (Vec ℕ Global) StatementFault → Type 0 = λ a. Says t effect a in
    ap (effect_in s) (subst P is says)
prints_line s t effect answer (Ok None) is says = absurd is
prints_line s t effect answer (Err (fault.Refused refusal)) is says =
    let P : Result (Vec ℕ Global) StatementFault → Type 0 = λ a. Says t effect a in
    ap (effect_in s) (subst P is says)
prints_line s t effect answer (Err fault.ReadFault) is says =
    let P : Result (Vec ℕ Global) StatementFault → Type 0 = λ a. Says t effect a in
    subst P is says
prints_line s t effect answer (Err fault.OutOfMemory) is says = tt

pub prints_done : (s t : State) (effect : Effect State) (r : Result (Option (Vec ℕ Global)) StatementFault) → t ≡ s → Prints s effect r
    → IfOk r (λ line. (Becomes t (lines_of line) ≡ effect) × HasWords (Becomes t (lines_of line)))
prints_done s t effect (Ok line) same prints = (ap (λ (u : State). Becomes u (lines_of line)) same ∙ sym prints, tt)
prints_done s t effect (Err f) same prints = tt

pub prints_refused : (s : State) (effect : Effect State) (r : Result (Option (Vec ℕ Global)) StatementFault) (refusal : Refusal) → r ≡ Err (fault.Refused refusal) → Prints s effect r
    → (Refused (message_of refusal) ≡ effect) × HasWords (Refused (message_of refusal))
prints_refused s effect r refusal is prints =
    let P : Result (Option (Vec ℕ Global)) StatementFault → Type 0 = λ a. Prints s effect a in
    (sym (subst P is prints), words (message_of refusal) (says refusal))

pub prints_no_read_fault : {A : Type 0} (s : State) (effect : Effect State) (r : Result (Option (Vec ℕ Global)) StatementFault) → r ≡ Err fault.ReadFault → Prints s effect r → A
prints_no_read_fault s effect r is prints =
    let P : Result (Option (Vec ℕ Global)) StatementFault → Type 0 = λ a. Prints s effect a in
    absurd (subst P is prints)

-- ---- a safe session

same_words : (message other : List ℕ) → ◌≡◌ {A = sessions.Effect} (sessions.Refused message) (sessions.Refused other) → message ≡ other
same_words message other is = cc

-- a query whose effect has words isn't stuck
not_stuck : (s : State) (e : sessions.Effect) → HasWords (effect_in s e) → NotStuck e
not_stuck s (sessions.Becomes t lines) words stuck = absurd (cc stuck)
not_stuck s (sessions.Refused message) words stuck = words (same_words message [] stuck)

module _ (s : State) (safe : IsSafe s) where
  -- RUN QUERY isn't stuck, and neither is INTERPRET QUERY without parameters
  pub run_on : (tree : RunTree) (file : Option Data) → file ≡ object_of s.file
      → (in_use : Option ℕ) × NotStuck (ran (session_of s.schema in_use s.queries s.store) gregorian s.turns tree.name (option_map (map view_argument) tree.arguments) (members_for file tree.name))
  run_on tree file read =
      let Over : Option Data → Type 0 = λ d. NotStuck (ran (session_in s) gregorian s.turns tree.name (option_map (map view_argument) tree.arguments) (members_for d tree.name)) in
      (s.in_use, subst Over (sym read) (not_stuck s (ran (session_in s) gregorian s.turns tree.name (option_map (map view_argument) tree.arguments) (members_for (object_of s.file) tree.name)) (run_law s tree safe)))

  pub interpret_on : (tree : QueryTree) → tree.parameters ≡ []
      → (queries : List Kept) × NotStuck (interpreted (session_of s.schema s.in_use queries s.store) gregorian s.turns tree.graph tree.modes (view_query tree))
  interpret_on tree bare = (s.queries, not_stuck s (interpreted (session_in s) gregorian s.turns tree.graph tree.modes (view_query tree)) (interpret_law s tree safe bare))

-- ---- RUN QUERY

module _ (s v : State) (same : v ≡ s) (tree : RunTree) (r : Result (Option (Vec ℕ Global)) StatementFault) where
  abbrev ran_over : List Kept → Option Data → sessions.Effect
  ran_over queries file = ran (session_of v.schema v.in_use queries v.store) gregorian v.turns tree.name (option_map (map view_argument) tree.arguments) (members_for file tree.name)

  pub ran_says : (queries : List Kept) (file : Option Data) (answer : Result (Vec ℕ Global) StatementFault) → queries ≡ v.queries → file ≡ object_of v.file
      → IsLine answer r → Says (session_of v.schema v.in_use queries v.store) (ran_over queries file) answer → Prints s (query_ran s tree) r
  ran_says queries file answer lent read line says =
      let P : State → Type 0 = λ u. Prints u (query_ran u tree) r in
      let Q : List Kept → Type 0 = λ qs. Says (session_of v.schema v.in_use qs v.store) (ran_over qs file) answer in
      let F : Option Data → Type 0 = λ d. Says (session_in v) (ran_over v.queries d) answer in
      subst P same (prints_line v (session_in v) (ran_over v.queries (object_of v.file)) answer r line (subst F read (subst Q lent says)))

-- ---- INTERPRET QUERY

pub interpreted_says : (s v : State) → v ≡ s → (tree : QueryTree) (r : Result (Option (Vec ℕ Global)) StatementFault) (answer : Result (Vec ℕ Global) StatementFault) → IsLine answer r
    → Says (session_in v) (interpreted (session_in v) gregorian v.turns tree.graph tree.modes (view_query tree)) answer → Prints s (query_interpreted s tree) r
interpreted_says s v same tree r answer line says =
    let P : State → Type 0 = λ u. Prints u (query_interpreted u tree) r in
    subst P same (prints_line v (session_in v) (interpreted (session_in v) gregorian v.turns tree.graph tree.modes (view_query tree)) answer r line says)
