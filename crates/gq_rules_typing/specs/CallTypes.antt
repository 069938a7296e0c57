-- CallTypes: the types of functions and methods, once their arguments have types.
use Rattle.std.specs.Prelude.{Bool, true, false, ◌&&◌, ◌==◌, List, [], ◌∷◌, length, Option, Some, Ok, Err}
use Rattle.gq_tree.specs.Tree.{Text, Trees, no_tree, tree}
use Rattle.gq_tree.specs.Accums.{Base, INT, BOOL, STRING, DATETIME, TUPLE, MapAccum, GroupByAccum}
use Rattle.gq_tree.specs.AccumViews.{bases}
use Rattle.gq_rules_typing.specs.Sorts.{Sorts}
use Rattle.gq_rules_typing.specs.Words.{Function, Makes, Abs, ToString, ToDatetime, EpochToDatetime, DatetimeToEpoch, DatetimeDiff, DatetimeAdd, PartOf, Method, Size, Contains, ContainsKey, Get, Outdegree, edge_quoted, unit_named}
use Rattle.gq_rules_typing.specs.Judging.{Typed, Of, Whole, GroupRow, SetOf, MemberOf, Mismatch, UnknownName, Judged, ◌>>◌, unless, or_fault}
use Rattle.gq_rules_typing.specs.Types.{is_number, converts, convert_all, stands_for_vertex}
use Rattle.gq_rules_typing.specs.Kinds.{read_type, key_types, contained_type}

-- ---- methods

-- collections and sets have a size
abbrev pub has_size : Typed → Bool
has_size (Whole k) = true
has_size (SetOf types) = true
has_size (MemberOf types) = true
has_size _ = false

abbrev pub converts_to : List Base → Option Base → Bool
converts_to (b ∷ []) (Some c) = converts b c
converts_to _ _ = false

-- a Set, Bag or List, and one argument that converts to its element type
abbrev pub may_contain : Typed → List Base → Bool
may_contain (Whole k) bs = converts_to bs (contained_type k)
may_contain _ bs = false

-- a Map or a GroupBy, and arguments that convert to all its keys; a group gives a row
abbrev pub got_type : Typed → List Base → Judged Typed
got_type (Whole (MapAccum b k)) bs = unless Mismatch (convert_all bs (b ∷ [])) >> Ok (read_type k)
got_type (Whole (GroupByAccum keys ps)) bs = unless Mismatch (convert_all bs (key_types (GroupByAccum keys ps))) >> Ok (GroupRow ps)
got_type _ bs = Err Mismatch

-- of all edge types of the graph, or of one that is named by a text
abbrev pub outdegree_type : {N : Type 0} → Sorts → Typed → Trees N → Judged Typed
outdegree_type sorts x no_tree = unless Mismatch (stands_for_vertex x) >> Ok (Of INT)
outdegree_type sorts x (tree (Text e) no_tree) = unless Mismatch (stands_for_vertex x) >> or_fault (UnknownName e) (edge_quoted sorts e) >> Ok (Of INT)
outdegree_type sorts x _ = Err Mismatch

-- the type of a method of x for arguments of these types
abbrev pub method_type : {N : Type 0} → Sorts → Method → Typed → Trees N → List Base → Judged Typed
method_type sorts Size x ts bs = unless Mismatch (has_size x && (length bs == 0)) >> Ok (Of INT)
method_type sorts Contains x ts bs = unless Mismatch (may_contain x bs) >> Ok (Of BOOL)
method_type sorts ContainsKey x ts bs = got_type x bs >> Ok (Of BOOL)
method_type sorts Get x ts bs = got_type x bs
method_type sorts Outdegree x ts bs = outdegree_type sorts x ts

-- ---- functions

abbrev pub has_text : Base → Bool
has_text STRING = true
has_text BOOL = true
has_text b = is_number b

-- the unit is a text in quotes that names one
abbrev pub unit_known : {N : Type 0} → Trees N → Judged Typed
unit_known (tree x (tree n (tree (Text u) no_tree))) = or_fault (UnknownName u) (unit_named u) >> Ok (Of DATETIME)
unit_known _ = Err Mismatch

-- the type of a function for arguments of these types
abbrev pub function_type : {N : Type 0} → Function → Trees N → List Base → Judged Typed
function_type (Makes n fields) ts bs = unless Mismatch (convert_all bs fields) >> Ok (Of (TUPLE n (bases fields)))
function_type Abs ts (b ∷ []) = unless Mismatch (is_number b) >> Ok (Of b)
function_type ToString ts (b ∷ []) = unless Mismatch (has_text b) >> Ok (Of STRING)
function_type ToDatetime ts (STRING ∷ []) = Ok (Of DATETIME)
function_type EpochToDatetime ts (b ∷ []) = unless Mismatch (is_number b) >> Ok (Of DATETIME)
function_type DatetimeToEpoch ts (DATETIME ∷ []) = Ok (Of INT)
function_type DatetimeDiff ts (DATETIME ∷ DATETIME ∷ []) = Ok (Of INT)
function_type DatetimeAdd ts (DATETIME ∷ b ∷ STRING ∷ []) = unless Mismatch (is_number b) >> unit_known ts
function_type (PartOf part) ts (DATETIME ∷ []) = Ok (Of INT)
function_type f ts bs = Err Mismatch
