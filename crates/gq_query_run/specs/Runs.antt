-- Runs: when the answer of a runner is that of gq_rules_meaning, and what a run over arguments prints.
use Rattle.std.specs.Prelude.{◌≡◌, ℕ, if◌then◌else◌, List, map, Option, Some, None, option_map, Result, Ok, Err}
use Rattle.gq_value.specs.Val.{Val}
use Rattle.gq_json.specs.declared.out.Printed.{Printed}
use Rattle.gq_diagnostics.specs.declared.refusal.Refusal.{Refusal}
use Rattle.gq_diagnostics.specs.Messages.{message_of}
use Rattle.gq_rules_typing.specs.Statements.{Bytes, Parameter, Query}
use Rattle.gq_rules_meaning.specs.Answers.{Answer, Gives, Faults}
use Rattle.gq_rules_meaning.specs.Answers as answers
use Rattle.gq_rules_meaning.specs.Built.{built_print}
use Rattle.gq_rules_meaning.specs.Calendars.{Calendar}
use Rattle.gq_rules_meaning.specs.Graphs.{Graph}
use Rattle.gq_rules_meaning.specs.Messages.{answer_of_run, slot_names}
use Rattle.gq_rules_meaning.specs.Queries.{run_query}
use Rattle.gq_rules_meaning.specs.Statements as meaning
use Rattle.gq_graph.specs.Catalog.{Schema}
use Rattle.gq_graph.specs.declared.rows.VertexRow.{VertexRow}
use Rattle.gq_index.specs.declared.store.Store.{Store}
use Rattle.serde_json.specs.Data.{Data}
use Rattle.gq_tree.specs.declared.query.RunTree.{RunTree}
use Rattle.gq_diagnostics.specs.declared.refusal.Refusal.TheVariants as refusal
use Rattle.gq_scope.specs.Held.{graph_in}
use Rattle.gq_rules_typing.specs.Sorts.{Sorts, sorts_of}
use Rattle.gq_rules_typing.specs.StatementViews.{view_parameter, view_query}
use Rattle.gq_rules_meaning.specs.Arguments.{Argument, Member, Values, AllValues, BadArgument, wrong_number, in_order, by_members, values_of}
use Rattle.gq_arguments.specs.Given.{view_argument}
use Rattle.gq_arguments.specs.Members.{members_for}
use Rattle.gq_query_run.specs.Kept.{Kept}
use Rattle.gq_query_run.specs.Sessions.{graph_read}
use Rattle.gq_query_run.specs.declared.runner.QueryFault.{QueryFault}
use Rattle.gq_query_run.specs.declared.runner.QueryFault.TheVariants.{Wrong, SumRange, LoopBound, PathBound, Stuck, OutOfMemory}
use Rattle.gq_query_run.specs.Answers.{Objects}

-- the output is that of the query, or the fault is the query's; OutOfMemory may occur at any time
abbrev pub Runs : Answer meaning.Fault Objects → Result (List Printed) QueryFault → Type 0
Runs answer (Ok printed) = (objects : Objects) × (answer ≡ Gives objects) × (map (λ (p : Printed). p.members) printed ≡ map built_print objects)
Runs answer (Err (Wrong w)) = answer ≡ Faults (meaning.Evaluation w)
Runs answer (Err (SumRange slot)) = answer ≡ Faults (meaning.SumOutOfRange slot)
Runs answer (Err LoopBound) = answer ≡ Faults meaning.LoopBound
Runs answer (Err PathBound) = answer ≡ Faults meaning.PathBound
Runs answer (Err Stuck) = answer ≡ answers.Stuck
Runs answer (Err OutOfMemory) = Unit {0}

-- a query over a graph and these values of its parameters
abbrev pub answer_over : Graph → Calendar → ℕ → Query Bytes → List Val → Result Objects Bytes
answer_over g clock turns q vs = answer_of_run (slot_names q.definitions) turns (run_query g clock q vs turns)

-- the same, if the values may be refused
abbrev pub answer_given : Graph → Calendar → ℕ → Query Bytes → Result (List Val) Refusal → Result Objects Bytes
answer_given g clock turns q (Ok vs) = answer_over g clock turns q vs
answer_given g clock turns q (Err due) = Err (message_of due)

abbrev pub of_values : Values → Result (List Val) Refusal
of_values (AllValues vs) = Ok vs
of_values (BadArgument x) = Err (refusal.BadArgument x)

-- the values of all parameters: arguments in parentheses, whose number is checked too, or else the members of the file
abbrev pub values_run : Sorts → List VertexRow → List (Parameter Bytes) → Option (List Argument) → List (Bytes × Member) → Result (List Val) Refusal
values_run sorts rows ps None members = of_values (values_of sorts rows ps (by_members ps members))
values_run sorts rows ps (Some arguments) members =
    if wrong_number ps arguments then Err refusal.WrongArguments else of_values (values_of sorts rows ps (in_order ps arguments))

-- a query of a session, by name and with these arguments, or with the members of the file
abbrev pub answer_installed : Schema → Store → Calendar → ℕ → Kept → RunTree → Option Data → Result Objects Bytes
answer_installed schema store clock turns q tree file =
    answer_given (graph_read schema q.graph store) clock turns (view_query q.tree)
    (values_run (sorts_of schema (graph_in schema q.graph)) store.vertices (map view_parameter q.tree.parameters) (option_map (map view_argument) tree.arguments) (members_for file tree.name))

abbrev pub answer_found : Schema → Store → Calendar → ℕ → Kept → RunTree → Option Data → Result Objects Bytes
answer_found schema store clock turns q tree file =
    if q.installed then answer_installed schema store clock turns q tree file else Err (message_of (refusal.NotInstalled tree.name))
