-- Judging: why a query is refused for its modes, its graph or its rules, and when an answer is that refusal.
use Rattle.std.specs.Prelude.{◌≡◌, ℕ, if◌then◌else◌, List, Option, Some, None, Result, Ok, Err}
use Rattle.gq_graph.specs.Catalog.{Schema, graph_of}
use Rattle.gq_tree.specs.declared.query.QueryTree.{QueryTree}
use Rattle.gq_diagnostics.specs.declared.refusal.Refusal.{Refusal}
use Rattle.gq_diagnostics.specs.declared.refusal.Refusal.TheVariants as refusal
use Rattle.gq_diagnostics.specs.declared.refusal.StatementFault.{StatementFault}
use Rattle.gq_diagnostics.specs.declared.refusal.StatementFault.TheVariants.{Refused, ReadFault, OutOfMemory}
use Rattle.gq_rules_typing.specs.Judging as typing
use Rattle.gq_rules_typing.specs.Scopes.{Scope}
use Rattle.gq_rules_typing.specs.Sorts.{sorts_of}
use Rattle.gq_rules_typing.specs.Statements.{Bytes}
use Rattle.gq_rules_typing.specs.StatementViews.{view_query}
use Rattle.gq_rules_typing.specs.QueryTypes.{typing_query}
use Rattle.gq_scope.specs.Held.{graph_in}
use Rattle.gq_rules_meaning.specs.Sessions.{good_modes}

-- ---- the rules on queries

-- the refusal of a statement for a fault of typing
abbrev pub refusal_of : typing.TypingFault → Refusal
refusal_of typing.Mismatch = refusal.Mismatch
refusal_of (typing.UnknownName name) = refusal.UnknownName name
refusal_of (typing.NoAttribute name) = refusal.NoAttribute name
refusal_of typing.NotAllowedHere = refusal.NotAllowed
refusal_of (typing.OrderDependent name) = refusal.OrderDependent name
refusal_of (typing.WiderSet name) = refusal.WiderSet name
refusal_of typing.TwoAliases = refusal.TwoAliases
refusal_of (typing.BadKind name) = refusal.BadAccumulator name
refusal_of (typing.NameTwice name) = refusal.NameTwice name
refusal_of typing.TooMany = refusal.TooMany

abbrev pub refusal_in : {A : Type 0} → typing.Judged A → Option Refusal
refusal_in (Ok a) = None
refusal_in (Err fault) = Some (refusal_of fault)

-- the first rule that a query violates that sees the types of this graph, or None
abbrev pub rules_refusal : Schema → Option ℕ → QueryTree → Option Refusal
rules_refusal schema graph tree = refusal_in (typing_query (sorts_of schema (graph_in schema graph)) (view_query tree))

-- a query that sees the types of this graph is typed
abbrev pub IsTyped : Schema → Option ℕ → QueryTree → Type 0
IsTyped schema graph tree = (scope : Scope Bytes) × (typing_query (sorts_of schema (graph_in schema graph)) (view_query tree) ≡ Ok scope)

-- ---- graphs and modes

abbrev pub or_unknown : List ℕ → Option ℕ → Result (Option ℕ) Refusal
or_unknown name (Some graph) = Ok (Some graph)
or_unknown name None = Err (refusal.UnknownName name)

-- the graph that is named, else the one in use, else none
abbrev pub graph_for : Schema → Option ℕ → Option (List ℕ) → Result (Option ℕ) Refusal
graph_for schema in_use None = Ok in_use
graph_for schema in_use (Some name) = or_unknown name (graph_of schema name)

abbrev pub on_graph : Schema → QueryTree → Result (Option ℕ) Refusal → Option Refusal
on_graph schema tree (Ok graph) = rules_refusal schema graph tree
on_graph schema tree (Err due) = Some due

-- its graph exists, and no rule fails
abbrev pub graph_refusal : Schema → Option ℕ → QueryTree → Option Refusal
graph_refusal schema in_use tree = on_graph schema tree (graph_for schema in_use tree.graph)

-- INTERPRET QUERY, with the graph in use: its modes are valid, its graph exists, and no rule fails
abbrev pub interpret_refusal : Schema → Option ℕ → QueryTree → Option Refusal
interpret_refusal schema in_use tree = if good_modes tree.modes then graph_refusal schema in_use tree else Some refusal.BadOption

-- ---- answers

-- nothing is refused, or the refusal that is due is returned; OutOfMemory may occur at any time
abbrev pub Judges : Option Refusal → Result (Unit {0}) StatementFault → Type 0
Judges due (Ok done) = due ≡ None
Judges due (Err (Refused found)) = due ≡ Some found
Judges due (Err ReadFault) = ⊥
Judges due (Err OutOfMemory) = Unit {0}

-- the refusal that is due, or OutOfMemory for its name
abbrev pub Tells : Refusal → StatementFault → Type 0
Tells due (Refused found) = found ≡ due
Tells due ReadFault = ⊥
Tells due OutOfMemory = Unit {0}
