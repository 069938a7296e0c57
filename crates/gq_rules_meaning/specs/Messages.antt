-- Messages: the message of a fault, and the line that a query prints.
use Rattle.std.specs.Prelude.{ℕ, List, [], ◌++◌, map, Option, Some, None, Result, Ok, Err, codes, slice_get}
use Rattle.std.specs.List.{flat_map}
use Rattle.std.specs.Fmt.{decimal}
use Rattle.gq_value.specs.declared.value.Wrong.{Wrong}
use Rattle.gq_value.specs.declared.value.Wrong.TheVariants as wrong
use Rattle.gq_value.specs.Val.{Val}
use Rattle.gq_json.specs.Json.{error_text}
use Rattle.gq_rules_typing.specs.Statements.{Bytes, Definition, TupleType, Accums, Query}
use Rattle.gq_rules_typing.specs.Judging.{TypingFault, Mismatch, NotAllowedHere, TwoAliases, TooMany, UnknownName, NoAttribute, OrderDependent, WiderSet, BadKind, NameTwice, Judged}
use Rattle.gq_rules_typing.specs.Scopes.{Scope}
use Rattle.gq_rules_typing.specs.QueryTypes.{typing_query}
use Rattle.gq_rules_meaning.specs.Answers.{Answer, Gives, Faults, Stuck}
use Rattle.gq_rules_meaning.specs.Calendars.{Calendar}
use Rattle.gq_rules_meaning.specs.Graphs.{Graph}
use Rattle.gq_rules_meaning.specs.Outs.{Out}
use Rattle.gq_rules_meaning.specs.Lines.{query_line}
use Rattle.gq_rules_meaning.specs.Statements.{Fault, Evaluation, SumOutOfRange, LoopBound, PathBound}
use Rattle.gq_rules_meaning.specs.Queries.{run_query}

-- ---- faults of typing

abbrev pub typing_message : TypingFault → Bytes
typing_message Mismatch = codes "type mismatch"
typing_message NotAllowedHere = codes "not allowed here"
typing_message TwoAliases = codes "two aliases"
typing_message TooMany = codes "too many"
typing_message (UnknownName x) = codes "unknown name " ++ x
typing_message (NoAttribute x) = codes "no attribute " ++ x
typing_message (OrderDependent x) = codes "order dependent " ++ x
typing_message (WiderSet x) = codes "wider set " ++ x
typing_message (BadKind x) = codes "bad accumulator " ++ x
typing_message (NameTwice x) = codes "name twice " ++ x

-- ---- faults of a run

abbrev pub accum_names : {N K : Type 0} → Definition N K → List N
accum_names (TupleType fs x) = []
accum_names (Accums k accums) = map (λ a. a.1) accums

-- the names of a query's accumulators, in order of declaration
abbrev pub slot_names : {N K : Type 0} → List (Definition N K) → List N
slot_names ds = flat_map accum_names ds

abbrev pub wrong_message : Wrong → Bytes
wrong_message wrong.Range = codes "number out of range"
wrong_message wrong.Zero = codes "division by zero"

abbrev pub name_at : List Bytes → ℕ → Bytes
name_at names n = or_nothing (slice_get names n)
  where
    or_nothing : Option Bytes → Bytes
    or_nothing None = []
    or_nothing (Some name) = name

-- over accumulators of these names, with a bound on loop iterations
abbrev pub fault_message : List Bytes → ℕ → Fault → Bytes
fault_message names turns (Evaluation w) = wrong_message w
fault_message names turns (SumOutOfRange n) = codes "sum out of range in " ++ name_at names n
fault_message names turns LoopBound = codes "loop bound " ++ (decimal turns ++ codes " reached")
fault_message names turns PathBound = codes "more than 4194304 paths"

-- ---- the result of a query: its output, or why it is refused. A query that is accepted is never stuck

abbrev pub answer_of_run : List Bytes → ℕ → Answer Fault (List (List (Bytes × Out))) → Result (List (List (Bytes × Out))) Bytes
answer_of_run names turns (Gives objects) = Ok objects
answer_of_run names turns (Faults fault) = Err (fault_message names turns fault)
answer_of_run names turns Stuck = Err []

-- a query over a graph, with arguments and a bound on loop iterations
abbrev pub answer_of_query : Graph → Calendar → Query Bytes → List Val → ℕ → Result (List (List (Bytes × Out))) Bytes
answer_of_query g clock q arguments turns = of_judged (typing_query g.sorts q)
  where
    of_judged : Judged (Scope Bytes) → Result (List (List (Bytes × Out))) Bytes
    of_judged (Err fault) = Err (typing_message fault)
    of_judged (Ok scope) = answer_of_run (slot_names q.definitions) turns (run_query g clock q arguments turns)

-- a refusal gives the line of the script where its statement begins
abbrev pub refusal_line : ℕ → Bytes → Bytes
refusal_line line message = error_text (codes "line " ++ (decimal line ++ (codes ": " ++ message)))

-- the output of the statement
abbrev pub line_of_answer : ℕ → Result (List (List (Bytes × Out))) Bytes → Bytes
line_of_answer line (Ok objects) = query_line objects
line_of_answer line (Err message) = refusal_line line message
