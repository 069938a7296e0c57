-- Types: the rules on types alone: conversions, and the operand and result types of operators.
use Rattle.std.specs.Prelude.{ℕ, ◌==◌, Bool, true, false, ◌&&◌, ◌||◌, List, [], ◌∷◌, Ok, Err}
use Rattle.gq_tree.specs.declared.expr.CmpSign.{CmpSign}
use Rattle.gq_tree.specs.declared.expr.CmpSign.TheVariants as cmp
use Rattle.gq_tree.specs.Accums.{Base, INT, UINT, BOOL, STRING, DATETIME, VERTEX, VERTEX_OF, TUPLE, Bases, no_base, base_and}
use Rattle.gq_rules_typing.specs.Judging.{Typed, Of, Average, GroupRow, AliasOf, EdgeOf, SetOf, MemberOf, Mismatch, NotAllowedHere, Judged, ◌>>◌, unless}

abbrev mutual
  pub same_base : Base → Base → Bool
  same_base INT INT = true
  same_base UINT UINT = true
  same_base BOOL BOOL = true
  same_base STRING STRING = true
  same_base DATETIME DATETIME = true
  same_base VERTEX VERTEX = true
  same_base (VERTEX_OF t) (VERTEX_OF u) = t == u
  same_base (TUPLE n bs) (TUPLE m cs) = (n == m) && same_bases bs cs
  same_base _ _ = false

  pub same_bases : Bases → Bases → Bool
  same_bases no_base no_base = true
  same_bases (base_and b bs) (base_and c cs) = same_base b c && same_bases bs cs
  same_bases _ _ = false

abbrev pub is_number : Base → Bool
is_number INT = true
is_number UINT = true
is_number _ = false

abbrev pub is_bool : Base → Bool
is_bool BOOL = true
is_bool _ = false

abbrev pub is_vertex : Base → Bool
is_vertex VERTEX = true
is_vertex (VERTEX_OF t) = true
is_vertex _ = false

-- a type converts to itself, INT and UINT to each other, and VERTEX<T> to VERTEX
abbrev pub converts : Base → Base → Bool
converts (VERTEX_OF t) VERTEX = true
converts b c = same_base b c || (is_number b && is_number c)

-- one after the other, and equally many of both
abbrev pub convert_all : List Base → List Base → Bool
convert_all [] [] = true
convert_all (b ∷ bs) (c ∷ cs) = converts b c && convert_all bs cs
convert_all _ _ = false

-- a vertex of one type, or of several
abbrev pub vertex_base : List ℕ → Base
vertex_base (t ∷ []) = VERTEX_OF t
vertex_base ts = VERTEX

-- ---- what the type of an expression allows

-- the type of an expression that is a value of a base type
abbrev pub as_base : Typed → Judged Base
as_base (Of b) = Ok b
as_base (AliasOf types) = Ok (vertex_base types)
as_base _ = Err Mismatch

-- a value that has an exact number: averages too
abbrev pub is_numeric : Typed → Bool
is_numeric (Of b) = is_number b
is_numeric Average = true
is_numeric _ = false

abbrev pub stands_for_vertex : Typed → Bool
stands_for_vertex (Of b) = is_vertex b
stands_for_vertex (AliasOf types) = true
stands_for_vertex (MemberOf types) = true
stands_for_vertex _ = false

-- v of `v.@a`: a vertex alias, or the set of an `S[..]`
abbrev pub has_accums : Typed → Bool
has_accums (AliasOf types) = true
has_accums (MemberOf types) = true
has_accums _ = false

-- an edge alias alone isn't allowed, nor is a set alone
abbrev pub alone : Typed → Judged Typed
alone (EdgeOf types) = Err NotAllowedHere
alone (SetOf types) = Err NotAllowedHere
alone (MemberOf types) = Err NotAllowedHere
alone t = Ok t

-- a whole group row isn't printed: a part's name has to follow
abbrev pub printable : Typed → Judged Typed
printable (GroupRow ps) = Err Mismatch
printable t = Ok t

-- ---- operators

-- two UINT give UINT, other numbers INT
abbrev pub number_of_both : Base → Base → Base
number_of_both UINT UINT = UINT
number_of_both _ _ = INT

-- two numbers
abbrev pub calculated : Base → Base → Judged Typed
calculated b c = unless Mismatch (is_number b && is_number c) >> Ok (Of (number_of_both b c))

-- two numbers or, with `+`, two texts
abbrev pub added : Base → Base → Judged Typed
added STRING STRING = Ok (Of STRING)
added b c = calculated b c

abbrev pub is_equality : CmpSign → Bool
is_equality cmp.Equal = true
is_equality cmp.NotEqual = true
is_equality _ = false

-- STRING and DATETIME by every sign; BOOL and vertices only by `==` and `!=`
abbrev pub comparable_bases : CmpSign → Base → Base → Bool
comparable_bases sign STRING STRING = true
comparable_bases sign DATETIME DATETIME = true
comparable_bases sign BOOL BOOL = is_equality sign
comparable_bases sign b c = is_equality sign && (is_vertex b && is_vertex c)

abbrev pub both_comparable : CmpSign → Judged Base → Judged Base → Bool
both_comparable sign (Ok b) (Ok c) = comparable_bases sign b c
both_comparable sign _ _ = false

-- numbers and averages by every sign, and what base types allow
abbrev pub comparable : CmpSign → Typed → Typed → Bool
comparable sign x y = (is_numeric x && is_numeric y) || both_comparable sign (as_base x) (as_base y)
