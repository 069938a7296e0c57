-- RUN QUERY: the query with a name, and its values.
use Rattle.std.proofs.Common.{ℕ, ◌≡◌, ◌≢◌, All, Bool, true, false, cond, List, [], ◌∷◌, ◌++◌, map, Option, Some, None, bytes_eq, refl, ap, sym, subst, ◌∙◌}
use Rattle.std.specs.Prelude.{Vec, Result, Err, codes, find, slice_get, option_map, if◌then◌else◌}
use Rattle.std.specs.Bool.{one_answer, Decides}
use Rattle.std.proofs.lemmas.Option.{get_or_from_slice_get, slice_get_within}
use Rattle.std.proofs.lemmas.Slice.Eq.{bytes_eq-Decides}
use Rattle.serde_json.specs.Data.{Data}
use Rattle.gq_graph.specs.Catalog.{Schema}
use Rattle.gq_value.specs.Val.{Val}
use Rattle.gq_graph.specs.declared.rows.VertexRow.{VertexRow}
use Rattle.gq_index.specs.declared.store.Store.{Store}
use Rattle.gq_tree.specs.declared.query.QueryTree.{QueryTree}
use Rattle.gq_tree.specs.declared.query.RunTree.{RunTree}
use Rattle.gq_diagnostics.specs.declared.refusal.Refusal.{Refusal}
use Rattle.gq_diagnostics.specs.declared.refusal.Refusal.TheVariants as refusal
use Rattle.gq_diagnostics.specs.Messages.{message_of}
use Rattle.gq_scope.specs.Held.{graph_in}
use Rattle.gq_rules_typing.specs.Statements.{Bytes, Parameter}
use Rattle.gq_rules_typing.specs.StatementViews.{view_parameter, view_query}
use Rattle.gq_rules_typing.specs.Sorts.{Sorts, sorts_of}
use Rattle.gq_rules_meaning.specs.Calendars.{Calendar}
use Rattle.gq_rules_meaning.specs.Messages.{slot_names, answer_of_run}
use Rattle.gq_rules_meaning.specs.Queries.{run_query}
use Rattle.gq_rules_meaning.specs.Sessions as meaning
use Rattle.gq_rules_meaning.specs.Sessions.{Session, Stored, Effect, Refused, of_answer, run_stored, stored_named, ran}
use Rattle.gq_rules_meaning.specs.Arguments.{Argument, Member, Values, AllValues, BadArgument, wrong_number, in_order, by_members, values_of}
use Rattle.gq_arguments.specs.Given.{view_argument}
use Rattle.gq_arguments.specs.Members.{members_for}
use Rattle.gq_arguments.specs.Rows as rows
use Rattle.gq_arguments.specs.declared.row.Arguments.{Arguments}
use Rattle.gq_query_run.specs.Kept.{Kept}
use Rattle.gq_query_run.specs.Queries.{QueryFits, is_named}
use Rattle.std.specs.declared.alloc.Global.{Global}
use Rattle.gq_diagnostics.specs.declared.refusal.StatementFault.{StatementFault}
use Rattle.gq_query_run.specs.Answers.{Objects, NotStuck, Tells}
use Rattle.gq_query_run.specs.Runs.{answer_given, answer_installed, answer_found, values_run, of_values}
use Rattle.gq_query_run.specs.Sessions.{graph_read, session_of, stored_of}

-- ---- the query with a name

turned : (xs ys : Bytes) → bytes_eq xs ys ≡ bytes_eq ys xs
turned xs ys =
    let other : Decides (bytes_eq ys xs) (xs ≡ ys) = ((λ yes. sym ((bytes_eq-Decides ys xs).0 yes)), (λ same. (bytes_eq-Decides ys xs).1 (sym same))) in
    one_answer (bytes_eq xs ys) (bytes_eq ys xs) (bytes_eq-Decides xs ys) other

mapped : {A B : Type 0} (f : A → B) (b : Bool) (x : A) (o : Option A) (p : Option B) → p ≡ option_map f o → cond b (Some (f x)) p ≡ option_map f (cond b (Some x) o)
mapped f true x o p is = refl
mapped f false x o p is = is

found_stored : (schema : Schema) (name : Bytes) (queries : List Kept) → find (λ (q : Stored). bytes_eq name q.name) (map (stored_of schema) queries) ≡ option_map (stored_of schema) (find (is_named name) queries)
found_stored schema name [] = refl
found_stored schema name (q ∷ qs) =
    ap (λ b. cond b (Some (stored_of schema q)) (find (λ (p : Stored). bytes_eq name p.name) (map (stored_of schema) qs))) (turned name q.name)
    ∙ mapped (stored_of schema) (bytes_eq q.name name) q (find (is_named name) qs) (find (λ (p : Stored). bytes_eq name p.name) (map (stored_of schema) qs)) (found_stored schema name qs)

-- ---- its values

abbrev over_values : Session → Calendar → ℕ → Stored → Values → Effect
over_values s clock turns q (BadArgument x) = Refused (codes "bad argument " ++ x)
over_values s clock turns q (AllValues vs) = of_answer s (answer_of_run (slot_names q.query.definitions) turns (run_query (meaning.graph_in s q.graph) clock q.query vs turns))

abbrev of_found : Session → Calendar → ℕ → Bytes → Option (List Argument) → List (Bytes × Member) → Option Stored → Effect
of_found s clock turns name arguments members None = Refused (codes "unknown name " ++ name)
of_found s clock turns name arguments members (Some q) = if q.installed then run_stored s clock turns arguments members q else Refused (codes "not installed " ++ name)

module _ (schema : Schema) (in_use : Option ℕ) (queries : List Kept) (store : Store) (clock : Calendar) (turns : ℕ) where
  abbrev here : Session
  here = session_of schema in_use queries store

  abbrev answer : Kept → Result (List Val) Refusal → Result Objects Bytes
  answer q values = answer_given (graph_read schema q.graph store) clock turns (view_query q.tree) values

  by_values : (q : Kept) (w : Values) → over_values here clock turns (stored_of schema q) w ≡ of_answer here (answer q (of_values w))
  by_values q (AllValues vs) = refl
  by_values q (BadArgument x) = refl

  by_count : (q : Kept) (b : Bool) (e : Effect) (values : Result (List Val) Refusal) → e ≡ of_answer here (answer q values)
      → cond b (Refused (codes "wrong number of arguments")) e ≡ of_answer here (answer q (cond b (Err refusal.WrongArguments) values))
  by_count q true e values is = refl
  by_count q false e values is = is

  by_installed : (b : Bool) (name : Bytes) (e : Effect) (meant : Result Objects Bytes) → e ≡ of_answer here meant
      → cond b e (Refused (codes "not installed " ++ name)) ≡ of_answer here (cond b meant (Err (message_of (refusal.NotInstalled name))))
  by_installed true name e meant is = is
  by_installed false name e meant is = refl

  run_is : (q : Kept) (arguments : Option (List Argument)) (members : List (Bytes × Member)) → run_stored here clock turns arguments members (stored_of schema q)
      ≡ of_answer here (answer q (values_run (sorts_of schema (graph_in schema q.graph)) store.vertices (map view_parameter q.tree.parameters) arguments members))
  run_is q None members = by_values q (values_of (sorts_of schema (graph_in schema q.graph)) store.vertices (map view_parameter q.tree.parameters) (by_members (map view_parameter q.tree.parameters) members))
  run_is q (Some arguments) members =
      let w = values_of (sorts_of schema (graph_in schema q.graph)) store.vertices (map view_parameter q.tree.parameters) (in_order (map view_parameter q.tree.parameters) arguments) in
      by_count q (wrong_number (map view_parameter q.tree.parameters) arguments) (over_values here clock turns (stored_of schema q) w) (of_values w) (by_values q w)

  named_is : (name : Bytes) (o : Option Kept) → find (is_named name) queries ≡ o → stored_named here name ≡ option_map (stored_of schema) o
  named_is name o is = found_stored schema name queries ∙ ap (option_map (stored_of schema)) is

  -- a query that is found
  pub ran_found : (tree : RunTree) (file : Option Data) (q : Kept) → find (is_named tree.name) queries ≡ Some q
      → ran here clock turns tree.name (option_map (map view_argument) tree.arguments) (members_for file tree.name) ≡ of_answer here (answer_found schema store clock turns q tree file)
  ran_found tree file q is =
      ap (of_found here clock turns tree.name (option_map (map view_argument) tree.arguments) (members_for file tree.name)) (named_is tree.name (Some q) is)
      ∙ by_installed q.installed tree.name (run_stored here clock turns (option_map (map view_argument) tree.arguments) (members_for file tree.name) (stored_of schema q))
      (answer_installed schema store clock turns q tree file) (run_is q (option_map (map view_argument) tree.arguments) (members_for file tree.name))

  -- there is no query with the name
  pub ran_unknown : (tree : RunTree) (file : Option Data) → find (is_named tree.name) queries ≡ None
      → ran here clock turns tree.name (option_map (map view_argument) tree.arguments) (members_for file tree.name) ≡ Refused (message_of (refusal.UnknownName tree.name))
  ran_unknown tree file is = ap (of_found here clock turns tree.name (option_map (map view_argument) tree.arguments) (members_for file tree.name)) (named_is tree.name None is)

  -- the answer of one that isn't stuck
  pub found_on : (tree : RunTree) (file : Option Data) (q : Kept) → find (is_named tree.name) queries ≡ Some q
      → NotStuck (ran here clock turns tree.name (option_map (map view_argument) tree.arguments) (members_for file tree.name))
      → answer_found schema store clock turns q tree file ≢ Err []
  found_on tree file q is runs stuck = runs (ran_found tree file q is ∙ ap (of_answer here) stuck)

-- the query at a place fits the catalog
pub fits_at : (schema : Schema) (queries : List Kept) (place : ℕ) (q : Kept) → All (QueryFits schema) queries → slice_get queries place ≡ Some q → QueryFits schema q
fits_at schema queries place q fit at = subst (QueryFits schema) (get_or_from_slice_get queries place q q at) (fit place q (slice_get_within queries place q at))

-- ---- a query of the session

module _ (schema : Schema) (store : Store) (clock : Calendar) (turns : ℕ) (q : Kept) (tree : RunTree) (file : Option Data) where
  -- its tree and its graph, as read from it
  pub installed_tells : (graph : Option ℕ) (query : QueryTree) (arguments : Arguments) (r : Result (Vec ℕ Global) StatementFault)
      → graph ≡ q.graph → query ≡ q.tree → q.installed ≡ true
      → ((sorts : Sorts) (vertices : List VertexRow) (ps : List (Parameter Bytes)) → rows.values_given sorts vertices ps arguments ≡ values_run sorts vertices ps (option_map (map view_argument) tree.arguments) (members_for file tree.name))
      → Tells (answer_given (graph_read schema graph store) clock turns (view_query query) (rows.values_given (sorts_of schema (graph_in schema graph)) store.vertices (map view_parameter query.parameters) arguments)) r
      → Tells (answer_found schema store clock turns q tree file) r
  installed_tells graph query arguments r graph_is query_is installed values_are tells =
      let On : Option ℕ → QueryTree → Type 0 = λ g t. Tells (answer_given (graph_read schema g store) clock turns (view_query t) (rows.values_given (sorts_of schema (graph_in schema g)) store.vertices (map view_parameter t.parameters) arguments)) r in
      let ForGraph : Option ℕ → Type 0 = λ g. On g query in
      let ForTree : QueryTree → Type 0 = λ t. On q.graph t in
      let Over : Result (List Val) Refusal → Type 0 = λ values. Tells (answer_given (graph_read schema q.graph store) clock turns (view_query q.tree) values) r in
      let If : Bool → Type 0 = λ b. Tells (cond b (answer_installed schema store clock turns q tree file) (Err (message_of (refusal.NotInstalled tree.name)))) r in
      subst If (sym installed)
      (subst Over (values_are (sorts_of schema (graph_in schema q.graph)) store.vertices (map view_parameter q.tree.parameters))
      (subst ForTree query_is (subst ForGraph graph_is tells)))

  -- an answer over its arguments that isn't that of a stuck one
  pub installed_on : (arguments : Arguments) → q.installed ≡ true
      → ((sorts : Sorts) (vertices : List VertexRow) (ps : List (Parameter Bytes)) → rows.values_given sorts vertices ps arguments ≡ values_run sorts vertices ps (option_map (map view_argument) tree.arguments) (members_for file tree.name))
      → answer_found schema store clock turns q tree file ≢ Err []
      → answer_given (graph_read schema q.graph store) clock turns (view_query q.tree) (rows.values_given (sorts_of schema (graph_in schema q.graph)) store.vertices (map view_parameter q.tree.parameters) arguments) ≢ Err []
  installed_on arguments installed values_are runs stuck =
      runs (ap (λ b. cond b (answer_installed schema store clock turns q tree file) (Err (message_of (refusal.NotInstalled tree.name)))) installed
      ∙ ap (answer_given (graph_read schema q.graph store) clock turns (view_query q.tree)) (sym (values_are (sorts_of schema (graph_in schema q.graph)) store.vertices (map view_parameter q.tree.parameters)))
      ∙ stuck)

  pub not_installed : q.installed ≡ false → answer_found schema store clock turns q tree file ≡ Err (message_of (refusal.NotInstalled tree.name))
  not_installed is = ap (λ b. cond b (answer_installed schema store clock turns q tree file) (Err (message_of (refusal.NotInstalled tree.name)))) is
