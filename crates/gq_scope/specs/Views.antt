-- Views: the meaning of the code's types and faults, and when a result is the one that a rule gives.
use Rattle.std.specs.Prelude.{ℕ, ◌≡◌, ◌≢◌, Bool, true, List, map, Option, Some, None, Result, Ok, Err}
use Rattle.std.specs.Borrow.{Bor}
use Rattle.gq_value.specs.Accums as plain
use Rattle.gq_value.specs.AccumViews.{bases, base_of, parts_of, accum_of}
use Rattle.gq_value.specs.declared.kind.BaseType.{BaseType}
use Rattle.gq_value.specs.declared.kind.Kind.{Kind}
use Rattle.gq_rules_typing.specs.Statements.{Bytes}
use Rattle.gq_rules_typing.specs.Judging as judging
use Rattle.gq_rules_typing.specs.Judging.{◌>>=◌, ◌>>◌, or_fault}
use Rattle.gq_rules_typing.specs.Kinds.{read_type}
use Rattle.gq_rules_typing.specs.FieldTypes.{has_type_name}
use Rattle.gq_rules_typing.specs.Types.{as_base, comparable}
use Rattle.gq_tree.specs.declared.expr.CmpSign.{CmpSign}
use Rattle.gq_scope.specs.declared.typed.TupleFieldTypes.{TupleFieldTypes}
use Rattle.gq_scope.specs.declared.typed.TupleFieldTypes.TheVariants as types
use Rattle.gq_scope.specs.declared.typed.Base.{Base}
use Rattle.gq_scope.specs.declared.typed.Base.TheVariants as base
use Rattle.gq_scope.specs.declared.typed.Typed.{Typed}
use Rattle.gq_scope.specs.declared.typed.Typed.TheVariants as typed
use Rattle.gq_scope.specs.declared.fault.TypeFault.{TypeFault}
use Rattle.gq_scope.specs.declared.fault.TypeFault.TheVariants as fault

-- types in order
abbrev pub types_are : TupleFieldTypes → List plain.Base
types_are (types.Bare ts) = map base_of ts.now
types_are (types.Named fields) = map (λ f. base_of f.1) fields.now

abbrev pub base_is : Base → plain.Base
base_is base.Int = plain.INT
base_is base.UInt = plain.UINT
base_is base.Bool = plain.BOOL
base_is base.Text = plain.STRING
base_is base.Time = plain.DATETIME
base_is base.AnyVertex = plain.VERTEX
base_is (base.VertexOf t) = plain.VERTEX_OF t
base_is (base.Tuple n ts) = plain.TUPLE n (bases (types_are ts))

-- the parts of a group
abbrev pub parts_are : List (Bytes × Kind) → plain.Parts
parts_are ps = parts_of (map (λ p. (p.0, accum_of p.1)) ps)

abbrev pub typed_is : Typed → judging.Typed
typed_is (typed.Of b) = judging.Of (base_is b)
typed_is typed.Average = judging.Average
typed_is (typed.Whole k) = judging.Whole (accum_of k.now)
typed_is (typed.GroupRow ps) = judging.GroupRow (parts_are ps.now)
typed_is (typed.AliasOf ts) = judging.AliasOf ts.now
typed_is (typed.EdgeOf ts) = judging.EdgeOf ts.now
typed_is (typed.SetOf ts) = judging.SetOf ts.now
typed_is (typed.MemberOf ts) = judging.MemberOf ts.now

-- the meaning of a fault; OutOfMemory is left open and may occur at any time
abbrev pub fault_is : TypeFault → judging.TypingFault
fault_is fault.Mismatch = judging.Mismatch
fault_is (fault.UnknownName name) = judging.UnknownName name
fault_is (fault.NoAttribute name) = judging.NoAttribute name
fault_is fault.NotAllowedHere = judging.NotAllowedHere
fault_is fault.OutOfMemory = judging.TooMany

-- a result is what a rule gives, or its fault, except for OutOfMemory
abbrev pub Judges : {A B : Type 0} → (B → A) → judging.Judged A → Result B TypeFault → Type 0
Judges view j (Ok b) = j ≡ Ok (view b)
Judges view j (Err e) = e ≢ fault.OutOfMemory → j ≡ Err (fault_is e)

-- a type, or type mismatch
abbrev pub IsValue : judging.Judged plain.Base → Option Base → Type 0
IsValue j None = j ≡ Err judging.Mismatch
IsValue j (Some b) = j ≡ Ok (base_is b)

-- type mismatch, if a test fails
abbrev pub matched : Bool → judging.Judged Bool
matched test = judging.unless judging.Mismatch test

-- not allowed here, if a test fails
abbrev pub allowed : Bool → judging.Judged Bool
allowed test = judging.unless judging.NotAllowedHere test

-- a rule on a value, applied to the type of an expression
abbrev pub on_value : (plain.Base → judging.Judged judging.Typed) → judging.Typed → judging.Judged judging.Typed
on_value rule x = as_base x >>= rule

-- a comparison
abbrev pub compared : CmpSign → judging.Typed → judging.Typed → judging.Judged judging.Typed
compared sign x y = matched (comparable sign x y) >> Ok (judging.Of plain.BOOL)

-- a borrowed kind
abbrev pub kind_is : Bor Kind → plain.Accum
kind_is k = accum_of k.now

-- the type that reading a group's part gives, if the part exists
abbrev pub part_read : Bytes → Option plain.Accum → judging.Judged judging.Typed
part_read name k = or_fault (judging.NoAttribute name) k >>= λ kind. Ok (read_type kind)

-- `x.type`
abbrev pub type_name : judging.Typed → judging.Judged judging.Typed
type_name x = matched (has_type_name x) >> Ok (judging.Of plain.STRING)
