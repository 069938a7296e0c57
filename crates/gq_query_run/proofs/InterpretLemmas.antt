-- INTERPRET QUERY: modes, graph and rules.
use Rattle.std.proofs.Common.{ℕ, ◌≡◌, ◌≢◌, Bool, true, false, not, cond, List, [], ◌++◌, Option, Some, None, refl, ap, ◌∙◌}
use Rattle.std.specs.Prelude.{Result, Ok, Err, codes, slice_get}
use Rattle.gq_graph.specs.Catalog.{Schema, graph_of}
use Rattle.gq_graph.specs.declared.types.GraphType.{GraphType}
use Rattle.gq_index.specs.declared.store.Store.{Store}
use Rattle.gq_tree.specs.declared.query.QueryTree.{QueryTree}
use Rattle.gq_diagnostics.specs.declared.refusal.Refusal.{Refusal}
use Rattle.gq_diagnostics.specs.declared.refusal.Refusal.TheVariants as refusal
use Rattle.gq_diagnostics.specs.Messages.{message_of}
use Rattle.gq_scope.specs.Held.{graph_in}
use Rattle.gq_rules_typing.specs.Statements.{Bytes}
use Rattle.gq_rules_typing.specs.StatementViews.{view_query}
use Rattle.gq_rules_typing.specs.Sorts.{sorts_of}
use Rattle.gq_rules_typing.specs.Scopes.{Scope}
use Rattle.gq_rules_typing.specs.QueryTypes.{typing_query}
use Rattle.gq_rules_typing.specs.Judging.{TypingFault, Mismatch, NotAllowedHere, TwoAliases, TooMany, UnknownName, NoAttribute, OrderDependent, WiderSet, BadKind, NameTwice, Judged}
use Rattle.gq_rules_meaning.specs.Answers.{Stuck}
use Rattle.gq_rules_meaning.specs.Calendars.{Calendar}
use Rattle.gq_rules_meaning.specs.Messages.{typing_message, answer_of_query, answer_of_run, slot_names}
use Rattle.gq_rules_meaning.specs.Queries.{run_query}
use Rattle.gq_rules_meaning.specs.Sessions as meaning
use Rattle.gq_rules_meaning.specs.Sessions.{Session, Effect, Refused, of_answer, good_modes, interpreted}
use Rattle.gq_query_run.specs.Kept.{Kept}
use Rattle.gq_query_run.specs.Judging.{refusal_of, refusal_in, rules_refusal, on_graph, or_unknown, graph_for, graph_refusal, interpret_refusal}
use Rattle.gq_query_run.specs.Queries.{graph_found, graph_fixed}
use Rattle.gq_query_run.specs.Answers.{Objects, NotStuck}
use Rattle.gq_query_run.specs.Runs.{answer_over}
use Rattle.gq_query_run.specs.Sessions.{graph_read, session_of}

-- the message of a typing fault is that of its refusal
message_is : (fault : TypingFault) → typing_message fault ≡ message_of (refusal_of fault)
message_is Mismatch = refl
message_is NotAllowedHere = refl
message_is TwoAliases = refl
message_is TooMany = refl
message_is (UnknownName x) = refl
message_is (NoAttribute x) = refl
message_is (OrderDependent x) = refl
message_is (WiderSet x) = refl
message_is (BadKind x) = refl
message_is (NameTwice x) = refl

-- the refusal that is due, or the answer of the run
abbrev unless : Session → Option Refusal → Result Objects Bytes → Effect
unless s (Some due) meant = Refused (message_of due)
unless s None meant = of_answer s meant

abbrev of_judged : Result Objects Bytes → Judged (Scope Bytes) → Result Objects Bytes
of_judged meant (Err fault) = Err (typing_message fault)
of_judged meant (Ok scope) = meant

abbrev of_graph : (Option GraphType → Effect) → Result (Option GraphType) Bytes → Effect
of_graph effect (Err message) = Refused message
of_graph effect (Ok own) = effect own

abbrev found_graph : Schema → Bytes → Option ℕ → Result (Option GraphType) Bytes
found_graph schema name None = Err (codes "unknown name " ++ name)
found_graph schema name (Some n) = Ok (slice_get schema.graphs n)

module _ (schema : Schema) (in_use : Option ℕ) (queries : List Kept) (store : Store) (clock : Calendar) (turns : ℕ) (tree : QueryTree) where
  abbrev here : Session
  here = session_of schema in_use queries store

  abbrev answer : Option ℕ → Result Objects Bytes
  answer graph = answer_over (graph_read schema graph store) clock turns (view_query tree) []

  by_rules : (meant : Result Objects Bytes) (judged : Judged (Scope Bytes)) → of_answer here (of_judged meant judged) ≡ unless here (refusal_in judged) meant
  by_rules meant (Ok scope) = refl
  by_rules meant (Err fault) = ap Refused (message_is fault)

  -- for the graph with a number, or for none
  on_number : (graph : Option ℕ) → of_answer here (answer_of_query (graph_read schema graph store) clock (view_query tree) [] turns) ≡ unless here (rules_refusal schema graph tree) (answer graph)
  on_number graph = by_rules (answer graph) (typing_query (sorts_of schema (graph_in schema graph)) (view_query tree))

  abbrev effect : Option GraphType → Effect
  effect own = of_answer here (answer_of_query (meaning.graph_in here own) clock (view_query tree) [] turns)

  abbrev due_in : Option Bytes → Option Refusal
  due_in name = on_graph schema tree (graph_for schema in_use name)

  abbrev graph_in_use : Option ℕ → Option GraphType
  graph_in_use None = None
  graph_in_use (Some n) = slice_get schema.graphs n

  in_use_is : (n : Option ℕ) → graph_in_use n ≡ graph_in schema n
  in_use_is None = refl
  in_use_is (Some n) = refl

  by_number : (name : Bytes) (o : Option ℕ) → of_graph effect (found_graph schema name o) ≡ unless here (on_graph schema tree (or_unknown name o)) (answer (graph_found (or_unknown name o)))
  by_number name None = refl
  by_number name (Some n) = on_number (Some n)

  by_graph : (name : Option Bytes) → of_graph effect (meaning.graph_for here name) ≡ unless here (due_in name) (answer (graph_found (graph_for schema in_use name)))
  by_graph None = ap effect (in_use_is in_use) ∙ on_number in_use
  by_graph (Some name) = by_number name (graph_of schema name)

  by_modes : (b : Bool) (e : Effect) (due : Option Refusal) (meant : Result Objects Bytes) → e ≡ unless here due meant
      → cond (not b) (Refused (codes "bad option")) e ≡ unless here (cond b due (Some refusal.BadOption)) meant
  by_modes true e due meant is = is
  by_modes false e due meant is = refl

  interpreted_is : interpreted here clock turns tree.graph tree.modes (view_query tree) ≡ unless here (interpret_refusal schema in_use tree) (answer (graph_fixed schema in_use tree))
  interpreted_is = by_modes (good_modes tree.modes) (of_graph effect (meaning.graph_for here tree.graph)) (graph_refusal schema in_use tree) (answer (graph_fixed schema in_use tree)) (by_graph tree.graph)

  -- a query that is refused
  pub interpreted_due : (due : Refusal) → interpret_refusal schema in_use tree ≡ Some due → interpreted here clock turns tree.graph tree.modes (view_query tree) ≡ Refused (message_of due)
  interpreted_due due is = interpreted_is ∙ ap (λ o. unless here o (answer (graph_fixed schema in_use tree))) is

  -- one that runs
  pub interpreted_runs : interpret_refusal schema in_use tree ≡ None → interpreted here clock turns tree.graph tree.modes (view_query tree) ≡ of_answer here (answer (graph_fixed schema in_use tree))
  interpreted_runs is = interpreted_is ∙ ap (λ o. unless here o (answer (graph_fixed schema in_use tree))) is

  -- the run of one that isn't stuck
  pub interpreted_on : interpret_refusal schema in_use tree ≡ None → NotStuck (interpreted here clock turns tree.graph tree.modes (view_query tree))
      → run_query (graph_read schema (graph_fixed schema in_use tree) store) clock (view_query tree) [] turns ≢ Stuck
  interpreted_on is runs stuck = runs (interpreted_runs is ∙ ap (λ a. of_answer here (answer_of_run (slot_names (view_query tree).definitions) turns a)) stuck)
