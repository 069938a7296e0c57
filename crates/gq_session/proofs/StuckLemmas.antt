-- StuckLemmas: no query of a safe session is stuck.
use Rattle.std.proofs.Common.{◌≡◌, ◌≢◌, ℕ, Bool, true, false, cond, List, [], map, Option, Some, None, refl, sym, subst}
use Rattle.std.specs.Prelude.{Result, Ok, Err, find, option_map, slice_get}
use Rattle.std.specs.Option.{ForSome}
use Rattle.serde_json.specs.Data.{Data}
use Rattle.gq_value.specs.Val.{Val}
use Rattle.gq_graph.specs.Catalog.{Schema}
use Rattle.gq_tree.specs.declared.query.QueryTree.{QueryTree}
use Rattle.gq_tree.specs.declared.query.ParameterTree.{ParameterTree}
use Rattle.gq_tree.specs.declared.query.RunTree.{RunTree}
use Rattle.gq_diagnostics.specs.declared.refusal.Refusal.{Refusal}
use Rattle.gq_diagnostics.specs.declared.refusal.Refusal.TheVariants as refusal
use Rattle.gq_diagnostics.specs.Messages.{message_of}
use Rattle.gq_ddl.specs.FittingLaws.{all_found}
use Rattle.gq_rules_typing.specs.Statements.{Bytes, Parameter}
use Rattle.gq_rules_typing.specs.StatementViews.{view_parameter, view_query}
use Rattle.gq_rules_typing.specs.Sorts.{sorts_of}
use Rattle.gq_rules_meaning.specs.Answers.{Answer, Gives, Faults, Stuck}
use Rattle.gq_rules_meaning.specs.Arguments.{Argument, Member, Values, AllValues, BadArgument, in_order, by_members, values_of, wrong_number}
use Rattle.gq_rules_meaning.specs.Fitting.{Safe}
use Rattle.gq_rules_meaning.specs.Messages.{fault_message, answer_of_run, slot_names}
use Rattle.gq_rules_meaning.specs.Queries.{world_of, run_query}
use Rattle.gq_rules_meaning.specs.Sessions as sessions
use Rattle.gq_rules_meaning.specs.Sessions.{of_answer}
use Rattle.gq_rules_meaning.specs.Statements.{Fault}
use Rattle.gq_rules_calendar.specs.Gregorian.{gregorian}
use Rattle.gq_rules_calendar.proofs.GregorianLaws.{gregorian_is}
use Rattle.gq_rules_safety.specs.Laws.{ArgumentsFit}
use Rattle.gq_rules_safety.specs.Growing.{SeesTypes}
use Rattle.gq_rules_safety.specs.Safety.{IsStoreOf}
use Rattle.gq_rules_safety.proofs.SafetyLaws.{safety_law}
use Rattle.gq_rules_store.specs.Stores.{OwnFits, IsWhole}
use Rattle.gq_rules_store.proofs.CatalogFits.{sees_law}
use Rattle.gq_rules_store.proofs.ClockFits.{calendar_law}
use Rattle.gq_rules_store.proofs.StoreFits.{store_law}
use Rattle.gq_rules_store.proofs.ValueFits.{order_law, member_law}
use Rattle.gq_scope.specs.Held.{graph_in}
use Rattle.gq_arguments.specs.Given.{view_argument}
use Rattle.gq_arguments.specs.Members.{members_for}
use Rattle.gq_query_run.specs.Kept.{Kept}
use Rattle.gq_query_run.specs.Answers.{Objects}
use Rattle.gq_query_run.specs.Judging.{IsTyped, interpret_refusal}
use Rattle.gq_query_run.specs.Queries.{QueryFits, is_named, graph_fixed}
use Rattle.gq_query_run.specs.Runs.{answer_over, answer_given, answer_installed, answer_found, of_values, values_run}
use Rattle.gq_query_run.specs.Sessions.{graph_read, session_of}
use Rattle.gq_query_run.proofs.RunLemmas.{ran_found, ran_unknown}
use Rattle.gq_query_run.proofs.TypedLemmas.{interpreted_typed}
use Rattle.gq_query_run.proofs.InterpretLemmas.{interpreted_due, interpreted_runs}
use Rattle.gq_session.specs.Arguments.{object_of}
use Rattle.gq_session.specs.Statements.{State, HasWords, effect_in, query_ran, query_interpreted}
use Rattle.gq_session.specs.Safe.{IsSafe}
use Rattle.gq_session.proofs.WordLemmas.{words, says, fault_says}

-- ---- answers

-- the result of a query, or a refusal that has words
abbrev pub Speaks : Result Objects Bytes → Type 0
Speaks (Ok objects) = Unit {0}
Speaks (Err message) = message ≢ []

safe_speaks : (names : List Bytes) (turns : ℕ) (a : Answer Fault Objects) → Safe (λ (printed : Objects). Unit {0}) a → Speaks (answer_of_run names turns a)
safe_speaks names turns (Gives objects) safe = tt
safe_speaks names turns (Faults f) safe = words (fault_message names turns f) (fault_says names turns f)
safe_speaks names turns Stuck never = absurd never

refusal_speaks : (r : Refusal) → Speaks (Err (message_of r))
refusal_speaks r = words (message_of r) (says r)

has_words : (s : State) (here : sessions.Session) (r : Result Objects Bytes) → Speaks r → HasWords (effect_in s (of_answer here r))
has_words s here (Ok objects) speaks = tt
has_words s here (Err message) speaks = speaks

-- ---- graphs

-- the types that a query for a graph of the catalog, or for none, sees
pub sees : (schema : Schema) → IsWhole schema → (g : Option ℕ) → SeesTypes schema (graph_in schema g) × ForSome (graph_in schema g) (OwnFits schema)
sees schema whole None = (record { vertices = refl; edges = refl }, λ own is. absurd (cc is))
sees schema whole (Some n) = sees_law schema n (slice_get schema.graphs n) whole refl

module _ (s : State) (safe : IsSafe s) where
  -- ---- runs

  is_store : (g : Option ℕ) → IsStoreOf s.schema (graph_in s.schema g) s.store.vertices s.store.edges.rows gregorian
  is_store g = store_law s.schema (graph_in s.schema g) s.store.vertices s.store.edges.rows gregorian safe.whole.pairs (sees s.schema safe.whole g).1 safe.rows (calendar_law gregorian gregorian_is)

  -- a typed query over arguments of its parameters' types
  over_speaks : (g : Option ℕ) (tree : QueryTree) → IsTyped s.schema g tree → (vs : List Val)
      → ArgumentsFit (world_of (graph_read s.schema g s.store) gregorian) (view_query tree).parameters vs
      → Speaks (answer_over (graph_read s.schema g s.store) gregorian s.turns (view_query tree) vs)
  over_speaks g tree (scope, typed) vs fit =
      safe_speaks (slot_names (view_query tree).definitions) s.turns (run_query (graph_read s.schema g s.store) gregorian (view_query tree) vs s.turns)
      ((safety_law s.schema (graph_in s.schema g) (view_query tree) scope typed).today s.store.vertices s.store.edges.rows gregorian (is_store g) vs fit s.turns)

  -- ---- RUN QUERY

  module _ (q : Kept) (fits : QueryFits s.schema q) where
    abbrev given : Result (List Val) Refusal → Result Objects Bytes
    given values = answer_given (graph_read s.schema q.graph s.store) gregorian s.turns (view_query q.tree) values

    abbrev parameters : List (Parameter Bytes)
    parameters = map view_parameter q.tree.parameters

    by_values : (w : Values) → ((vs : List Val) → w ≡ AllValues vs → ArgumentsFit (world_of (graph_read s.schema q.graph s.store) gregorian) parameters vs) → Speaks (given (of_values w))
    by_values (AllValues vs) fit = over_speaks q.graph q.tree fits.typed vs (fit vs refl)
    by_values (BadArgument x) fit = refusal_speaks (refusal.BadArgument x)

    by_count : (b : Bool) (values : Result (List Val) Refusal) → Speaks (given values) → Speaks (given (cond b (Err refusal.WrongArguments) values))
    by_count true values speaks = refusal_speaks refusal.WrongArguments
    by_count false values speaks = speaks

    values_speak : (arguments : Option (List Argument)) (members : List (Bytes × Member))
        → Speaks (given (values_run (sorts_of s.schema (graph_in s.schema q.graph)) s.store.vertices parameters arguments members))
    values_speak None members =
        by_values (values_of (sorts_of s.schema (graph_in s.schema q.graph)) s.store.vertices parameters (by_members parameters members))
        (λ vs is. member_law s.schema (graph_in s.schema q.graph) s.store.vertices s.store.edges.rows gregorian parameters members vs is)
    values_speak (Some arguments) members =
        let w = values_of (sorts_of s.schema (graph_in s.schema q.graph)) s.store.vertices parameters (in_order parameters arguments) in
        by_count (wrong_number parameters arguments) (of_values w)
        (by_values w (λ vs is. order_law s.schema (graph_in s.schema q.graph) s.store.vertices s.store.edges.rows gregorian parameters arguments vs is))

    found_speaks : (tree : RunTree) (file : Option Data) → Speaks (answer_found s.schema s.store gregorian s.turns q tree file)
    found_speaks tree file = by q.installed
      where
        by : (b : Bool) → Speaks (cond b (answer_installed s.schema s.store gregorian s.turns q tree file) (Err (message_of (refusal.NotInstalled tree.name))))
        by true = values_speak (option_map (map view_argument) tree.arguments) (members_for file tree.name)
        by false = refusal_speaks (refusal.NotInstalled tree.name)

  abbrev here : sessions.Session
  here = session_of s.schema s.in_use s.queries s.store

  pub ran_has_words : (tree : RunTree) → HasWords (query_ran s tree)
  ran_has_words tree = by (find (is_named tree.name) s.queries) refl
    where
      file : Option Data
      file = object_of s.file

      by : (o : Option Kept) → find (is_named tree.name) s.queries ≡ o → HasWords (query_ran s tree)
      by None is =
          subst (λ e. HasWords (effect_in s e)) (sym (ran_unknown s.schema s.in_use s.queries s.store gregorian s.turns tree file is)) (refusal_speaks (refusal.UnknownName tree.name))
      by (Some q) is =
          let fits = all_found (QueryFits s.schema) (is_named tree.name) s.queries q safe.queries is in
          subst (λ e. HasWords (effect_in s e)) (sym (ran_found s.schema s.in_use s.queries s.store gregorian s.turns tree file q is))
          (has_words s here (answer_found s.schema s.store gregorian s.turns q tree file) (found_speaks q fits tree file))

  -- ---- INTERPRET QUERY

  none_fit : (g : Option ℕ) (ps : List ParameterTree) → ps ≡ [] → ArgumentsFit (world_of (graph_read s.schema g s.store) gregorian) (map view_parameter ps) []
  none_fit g ps none = subst (λ l. ArgumentsFit (world_of (graph_read s.schema g s.store) gregorian) (map view_parameter l) []) (sym none) tt

  pub interpreted_has_words : (tree : QueryTree) → tree.parameters ≡ [] → HasWords (query_interpreted s tree)
  interpreted_has_words tree bare = by (interpret_refusal s.schema s.in_use tree) refl
    where
      by : (o : Option Refusal) → interpret_refusal s.schema s.in_use tree ≡ o → HasWords (query_interpreted s tree)
      by (Some due) is =
          subst (λ e. HasWords (effect_in s e)) (sym (interpreted_due s.schema s.in_use s.queries s.store gregorian s.turns tree due is)) (refusal_speaks due)
      by None is =
          let graph = graph_fixed s.schema s.in_use tree in
          subst (λ e. HasWords (effect_in s e)) (sym (interpreted_runs s.schema s.in_use s.queries s.store gregorian s.turns tree is))
          (has_words s here (answer_over (graph_read s.schema graph s.store) gregorian s.turns (view_query tree) [])
          (over_speaks graph tree (interpreted_typed s.schema s.in_use tree is) [] (none_fit graph tree.parameters bare)))
