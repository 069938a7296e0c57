-- Scopes: the names that are visible, and the names that an expression may use at a place.
use Rattle.std.specs.Prelude.{ℕ, Bool, true, false, not, if◌then◌else◌, List, ◌∷◌, Option, Some, is_some, Ok, Err}
use Rattle.gq_tree.specs.Accums.{Base, INT, UINT, BOOL, STRING, VERTEX, VERTEX_OF, Accum}
use Rattle.gq_rules_typing.specs.Statements.{BaseTree, Ints, UInts, Bools, Strings, AnyVertex, VertexOf}
use Rattle.gq_rules_typing.specs.Words.{Setting, under}
use Rattle.gq_rules_typing.specs.Judging.{Typed, Of, AliasOf, EdgeOf, SetOf, MemberOf, TypingFault, NotAllowedHere, UnknownName, NameTwice, Judged, ◌>>=◌, ◌>>◌, unless, or_fault}
use Rattle.gq_rules_typing.specs.ExpressionTypes.{Names}

-- an entry of a name: a variable of a type; a set variable, a vertex alias, an edge alias with their types; an
-- accumulator of a kind, with true for an attached one; a tuple type
pub data Entry : Type 0 where
  Variable : Base → Entry
  SetVariable Alias EdgeAlias : List ℕ → Entry
  Accumulator : Accum → Bool → Entry
  TupleName : Entry

-- the place of an expression; a selection has its set, HAVING and ORDER BY have the selected alias
pub data Place (N : Type 0) : Type 0 where
  InStatement InBlock InPost InLimit InOpening : Place N
  InSelection InTail : N → Place N

-- the names, of which the last one comes first; with_paths is SYNTAX v2
pub record Scope (N : Type 0) : Type 0 where
  pub setting : Setting N
  pub names : List (N × Entry)
  pub with_paths : Bool

abbrev pub entry : {N : Type 0} → Scope N → N → Option Entry
entry s x = under s.setting.words.same x s.names

abbrev pub said : {N : Type 0} → Scope N → N → List ℕ
said s x = s.setting.words.said x

abbrev pub unknown : {N : Type 0} → Scope N → N → TypingFault
unknown s x = UnknownName (said s x)

abbrev pub with_entry : {N : Type 0} → N → Entry → Scope N → Scope N
with_entry x e s = record s { names = (x, e) ∷ s.names }

-- a new name isn't visible already
abbrev pub new_name : {N : Type 0} → Scope N → N → Judged Bool
new_name s x = unless (NameTwice (said s x)) (not (is_some (entry s x)))

-- ---- the names that an expression may use

-- HAVING and ORDER BY name only the selected alias, LIMIT none
abbrev pub alias_at : {N : Type 0} → Scope N → Place N → N → List ℕ → Judged Typed
alias_at s (InTail selected) x types = unless NotAllowedHere (s.setting.words.same selected x) >> Ok (AliasOf types)
alias_at s InLimit x types = Err NotAllowedHere
alias_at s place x types = Ok (AliasOf types)

-- POST-ACCUM, HAVING, ORDER BY, LIMIT and openings name no edge
abbrev pub edge_at : {N : Type 0} → Place N → List ℕ → Judged Typed
edge_at InBlock types = Ok (EdgeOf types)
edge_at InStatement types = Ok (EdgeOf types)
edge_at (InSelection set) types = Ok (EdgeOf types)
edge_at place types = Err NotAllowedHere

-- within `S[..]` S is also each vertex of the set
abbrev pub set_at : {N : Type 0} → Scope N → Place N → N → List ℕ → Typed
set_at s (InSelection set) x types = if s.setting.words.same set x then MemberOf types else SetOf types
set_at s place x types = SetOf types

abbrev pub name_at : {N : Type 0} → Scope N → Place N → N → Option Entry → Judged Typed
name_at s place x (Some (Variable b)) = Ok (Of b)
name_at s place x (Some (SetVariable types)) = Ok (set_at s place x types)
name_at s place x (Some (Alias types)) = alias_at s place x types
name_at s place x (Some (EdgeAlias types)) = edge_at place types
name_at s place x _ = Err (unknown s x)

abbrev pub same_flag : Bool → Bool → Bool
same_flag true b = b
same_flag false b = not b

-- the kind of a declared accumulator; the flag is true for an attached one
abbrev pub declared_kind : {N : Type 0} → Scope N → Bool → N → Judged Accum
declared_kind s attached a = of_entry (entry s a)
  where
    of_entry : Option Entry → Judged Accum
    of_entry (Some (Accumulator k flag)) = unless (unknown s a) (same_flag attached flag) >> Ok k
    of_entry _ = Err (unknown s a)

-- an opening names no accumulator
abbrev pub global_at : {N : Type 0} → Place N → Accum → Judged Accum
global_at InOpening k = Err NotAllowedHere
global_at place k = Ok k

-- `v.@a'` occurs only in POST-ACCUM
abbrev pub before_at : {N : Type 0} → Place N → Accum → Judged Accum
before_at InPost k = Ok k
before_at place k = Err NotAllowedHere

abbrev pub names_at : {N : Type 0} → Scope N → Place N → Names N
names_at s place = record {
  named = λ x. name_at s place x (entry s x);
  global = λ a. declared_kind s false a >>= global_at place;
  attached = λ a. declared_kind s true a;
  before = λ a. declared_kind s true a >>= before_at place;
  setting = s.setting;
}

-- ---- types as written

abbrev pub vertex_type : {N : Type 0} → Scope N → N → Judged ℕ
vertex_type s t = or_fault (unknown s t) (s.setting.words.vertex_type t)

abbrev pub edge_type : {N : Type 0} → Scope N → N → Judged ℕ
edge_type s t = or_fault (unknown s t) (s.setting.words.edge_type t)

abbrev pub base_written : {N : Type 0} → Scope N → BaseTree N → Judged Base
base_written s Ints = Ok INT
base_written s UInts = Ok UINT
base_written s Bools = Ok BOOL
base_written s Strings = Ok STRING
base_written s AnyVertex = Ok VERTEX
base_written s (VertexOf t) = vertex_type s t >>= λ n. Ok (VERTEX_OF n)
