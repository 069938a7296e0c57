-- Calls: the functions and methods of the code, and the rules on their arguments by their number.
use Rattle.std.specs.Prelude.{ℕ, Bool, true, false, ◌&&◌, List, [], ◌∷◌, map, Option, Some, None, Ok, Err}
use Rattle.gq_tree.specs.Tree.{Trees, no_tree, tree}
use Rattle.gq_scope.specs.Parts.{text_in}
use Rattle.gq_value.specs.Accums.{Base, INT, BOOL, STRING, DATETIME, TUPLE}
use Rattle.gq_value.specs.AccumViews.{base_of, bases}
use Rattle.gq_rules_typing.specs.Statements.{Bytes}
use Rattle.gq_rules_typing.specs.Sorts.{Sorts}
use Rattle.gq_rules_typing.specs.Words as words
use Rattle.gq_rules_typing.specs.Words.{edge_quoted, unit_named}
use Rattle.gq_rules_typing.specs.Builtins.{builtin_is}
use Rattle.gq_rules_typing.specs.Judging.{Typed, Of, Mismatch, UnknownName, Judged, ◌>>=◌, ◌>>◌, unless, or_fault}
use Rattle.gq_rules_typing.specs.Types.{is_number, stands_for_vertex, convert_all}
use Rattle.gq_rules_typing.specs.CallTypes.{has_text}
use Rattle.gq_type.specs.declared.calls.CheckedMethod.{CheckedMethod}
use Rattle.gq_type.specs.declared.calls.CheckedMethod.TheVariants as method
use Rattle.gq_type.specs.declared.calls.CheckedFunction.{CheckedFunction}
use Rattle.gq_type.specs.declared.calls.CheckedFunction.TheVariants as function

abbrev pub method_is : CheckedMethod → words.Method
method_is method.Size = words.Size
method_is method.Contains = words.Contains
method_is method.ContainsKey = words.ContainsKey
method_is method.Get = words.Get
method_is method.Outdegree = words.Outdegree

abbrev pub function_is : CheckedFunction → words.Function
function_is (function.Makes n fields) = words.Makes n (map (λ f. base_of f.1) fields.now)
function_is (function.Own builtin) = builtin_is builtin

-- the single type, if there is just one
abbrev pub only : {A : Type 0} → List A → Option A
only [] = None
only (a ∷ []) = Some a
only (a ∷ b ∷ rest) = None

-- ---- degrees

abbrev pub degree_of_all : Typed → Judged Typed
degree_of_all x = unless Mismatch (stands_for_vertex x) >> Ok (Of INT)

-- for the edge type that a text literal names; anything else is a mismatch
abbrev pub degree_of : Sorts → Typed → Option Bytes → Judged Typed
degree_of sorts x None = Err Mismatch
degree_of sorts x (Some e) = unless Mismatch (stands_for_vertex x) >> or_fault (UnknownName e) (edge_quoted sorts e) >> Ok (Of INT)

-- ---- arguments by their number

abbrev pub one : List Base → Judged Base
one bs = or_fault Mismatch (only bs)

-- exactly two arguments, and exactly three
abbrev pub pair : {A : Type 0} → List A → Option (A × A)
pair (a ∷ b ∷ []) = Some (a, b)
pair _ = None

abbrev pub triple : {A : Type 0} → List A → Option (A × A × A)
triple (a ∷ b ∷ c ∷ []) = Some (a, b, c)
triple _ = None

abbrev pub is_time : Base → Bool
is_time DATETIME = true
is_time _ = false

abbrev pub is_text : Base → Bool
is_text STRING = true
is_text _ = false

-- ---- functions

abbrev pub made : ℕ → List Base → List Base → Judged Typed
made n fields bs = unless Mismatch (convert_all bs fields) >> Ok (Of (TUPLE n (bases fields)))

abbrev pub absolute : List Base → Judged Typed
absolute bs = one bs >>= λ b. unless Mismatch (is_number b) >> Ok (Of b)

abbrev pub said : List Base → Judged Typed
said bs = one bs >>= λ b. unless Mismatch (has_text b) >> Ok (Of STRING)

abbrev pub time_of_text : List Base → Judged Typed
time_of_text bs = one bs >>= λ b. unless Mismatch (is_text b) >> Ok (Of DATETIME)

abbrev pub time_of_number : List Base → Judged Typed
time_of_number bs = one bs >>= λ b. unless Mismatch (is_number b) >> Ok (Of DATETIME)

abbrev pub number_of_time : List Base → Judged Typed
number_of_time bs = one bs >>= λ b. unless Mismatch (is_time b) >> Ok (Of INT)

abbrev pub difference : List Base → Judged Typed
difference bs = or_fault Mismatch (pair bs) >>= λ p. unless Mismatch (is_time p.0 && is_time p.1) >> Ok (Of INT)

-- the third argument, if there are three and it is a text literal
abbrev pub third_text : {N : Type 0} → Trees N → Option Bytes
third_text (tree x (tree n (tree t no_tree))) = text_in t
third_text ts = None

abbrev pub unit_of : Option Bytes → Judged Typed
unit_of None = Err Mismatch
unit_of (Some u) = or_fault (UnknownName u) (unit_named u) >> Ok (Of DATETIME)

abbrev pub later : {N : Type 0} → Trees N → List Base → Judged Typed
later ts bs = or_fault Mismatch (triple bs) >>= λ p. unless Mismatch (is_time p.0 && is_text p.2) >> unless Mismatch (is_number p.1) >> unit_of (third_text ts)
