-- Calls: the results of functions and methods for their arguments.
use Rattle.std.specs.Prelude.{ℕ, ◌+◌, true, false, if◌then◌else◌, List, [], ◌∷◌, map, length, ℤ, ◌-ℤ◌, Option, Some, None, codes, slice_get}
use Rattle.std.specs.Fmt.{decimal, signed_decimal}
use Rattle.gq_value.specs.declared.value.Wrong.{Wrong}
use Rattle.gq_graph.specs.declared.types.EdgeType.{EdgeType}
use Rattle.gq_value.specs.Val.{Val, Int, UInt, Truth, Text, Tuple, vals_of}
use Rattle.gq_value.specs.Arithmetic.{absolute}
use Rattle.gq_value.specs.Accums.{Base, INT, TUPLE}
use Rattle.gq_value.specs.AccumViews.{bases}
use Rattle.gq_graph.specs.Candidates.{degree}
use Rattle.gq_rules_typing.specs.Statements.{Bytes}
use Rattle.gq_rules_typing.specs.Words.{Function, Makes, Abs, ToString, ToDatetime, EpochToDatetime, DatetimeToEpoch, DatetimeDiff, DatetimeAdd, PartOf, Method, Size, Contains, ContainsKey, Get, Outdegree, edge_quoted, unit_named}
use Rattle.gq_rules_typing.specs.Kinds.{contained_type, key_types}
use Rattle.gq_rules_meaning.specs.Answers.{Answer, Gives, Stuck, ◌>>=◌, found, of_result}
use Rattle.gq_rules_meaning.specs.Calendars.{Calendar}
use Rattle.gq_rules_meaning.specs.Graphs.{Graph}
use Rattle.gq_rules_meaning.specs.Meanings.{Meant, Is, IsContent, IsSet, IsMember, Outcome, vertex_of_meant, as_number, as_int, as_time, as_bytes, numbered, said, truly, counted, if_in_calendar, at_time}
use Rattle.gq_rules_meaning.specs.Collections.{size_of, has_element, has_row, got}

-- ---- methods

abbrev pub one_wanted : Option Base → List (Option Base)
one_wanted None = []
one_wanted (Some b) = Some b ∷ []

-- the types to which a method's arguments are converted; None leaves an argument unchanged
abbrev pub method_wants : Method → Meant → List (Option Base)
method_wants Contains (IsContent k c) = one_wanted (contained_type k)
method_wants ContainsKey (IsContent k c) = map Some (key_types k)
method_wants Get (IsContent k c) = map Some (key_types k)
method_wants Outdegree m = None ∷ []
method_wants _ m = []

abbrev pub sum : List ℕ → ℕ
sum [] = 0
sum (n ∷ ns) = n + sum ns

-- how many edges can be walked from a vertex under a type, by its number
abbrev pub degree_of : Graph → ℕ → ℕ → ℕ
degree_of g v t = of_type (slice_get g.sight.types t)
  where
    of_type : Option EdgeType → ℕ
    of_type None = 0
    of_type (Some e) = degree g.sight (t, e) v

abbrev pub method_of : Graph → Method → Meant → List Val → Outcome
method_of g Size (IsContent k c) [] = found (size_of k c) >>= counted
method_of g Size (IsSet vs) [] = counted (length vs)
method_of g Size (IsMember vs b v) [] = counted (length vs)
method_of g Contains (IsContent k c) (v ∷ []) = found (has_element k c v) >>= truly
method_of g ContainsKey (IsContent k c) row = found (has_row k c row) >>= truly
method_of g Get (IsContent k c) row = found (got k c row)
method_of g Outdegree m [] = vertex_of_meant m >>= λ v. counted (sum (map (degree_of g v) g.sorts.own_edges))
method_of g Outdegree m (Text e ∷ []) = vertex_of_meant m >>= λ v. found (edge_quoted g.sorts e) >>= λ t. counted (degree_of g v t)
method_of g _ m vs = Stuck

-- ---- functions

abbrev pub function_wants : Function → List (Option Base)
function_wants (Makes n fields) = map Some fields
function_wants DatetimeDiff = None ∷ None ∷ []
function_wants DatetimeAdd = None ∷ Some INT ∷ None ∷ []
function_wants f = None ∷ []

-- numbers in decimal
abbrev pub text_of : Val → Answer Wrong Bytes
text_of (Text s) = Gives s
text_of (Truth true) = Gives (codes "true")
text_of (Truth false) = Gives (codes "false")
text_of (Int x) = Gives (signed_decimal x)
text_of (UInt n) = Gives (decimal n)
text_of _ = Stuck

abbrev pub function_of : Calendar → Function → List Val → Outcome
function_of clock (Makes n fields) vs = Gives (Is (TUPLE n (bases fields)) (Tuple (vals_of vs)))
function_of clock Abs (v ∷ []) = as_number v >>= λ x. of_result (absolute v) >>= numbered
function_of clock ToString (v ∷ []) = text_of v >>= said
function_of clock ToDatetime (v ∷ []) = as_bytes v >>= λ s. at_time (clock.read s)
function_of clock EpochToDatetime (v ∷ []) = as_number v >>= λ x. at_time (if_in_calendar x)
function_of clock DatetimeToEpoch (v ∷ []) = as_time v >>= λ x. numbered (Int x)
function_of clock DatetimeDiff (v ∷ w ∷ []) = as_time v >>= λ x. as_time w >>= λ y. numbered (Int (x -ℤ y))
function_of clock DatetimeAdd (v ∷ w ∷ u ∷ []) = as_time v >>= λ x. as_int w >>= λ n. as_bytes u >>= λ s. found (unit_named s) >>= λ unit. at_time (clock.add unit n x)
function_of clock (PartOf part) (v ∷ []) = as_time v >>= λ x. numbered (Int (clock.part part x))
function_of clock f vs = Stuck
