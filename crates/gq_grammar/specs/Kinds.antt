-- Kinds: the grammar of types, of accumulator kinds, and of the definitions before the statements of a body.
use Rattle.std.specs.Prelude.{◌≡◌, ℕ, zero, suc, List, [], ◌∷◌, Option, Some, None, Bool, true, false}
use Rattle.gq_tree.specs.declared.expr.Node.{Node}
use Rattle.gq_tree.specs.declared.query.BaseTree.{BaseTree}
use Rattle.gq_tree.specs.declared.query.BaseTree.TheVariants as base
use Rattle.gq_tree.specs.declared.kind.Elem.{Elem}
use Rattle.gq_tree.specs.declared.kind.Elem.TheVariants as elem
use Rattle.gq_tree.specs.declared.kind.Plain.{Plain}
use Rattle.gq_tree.specs.declared.kind.Plain.TheVariants as plain
use Rattle.gq_tree.specs.declared.kind.Bits.{Bits}
use Rattle.gq_tree.specs.declared.kind.Bits.TheVariants as bits
use Rattle.gq_tree.specs.declared.kind.EntryTree.{EntryTree}
use Rattle.gq_tree.specs.declared.kind.EntryTree.TheVariants as held
use Rattle.gq_tree.specs.declared.kind.KindTree.{KindTree}
use Rattle.gq_tree.specs.declared.kind.KindTree.TheVariants as kind
use Rattle.gq_tree.specs.declared.kind.AccumTree.{AccumTree}
use Rattle.gq_tree.specs.declared.kind.DefinitionTree.{DefinitionTree}
use Rattle.gq_tree.specs.declared.kind.DefinitionTree.TheVariants as definition
use Rattle.gq_grammar.specs.Lexemes.{Lexemes, Terminal, Name, Number, Text, Global, Attached, sign, word, spelling, number, said}
use Rattle.gq_grammar.specs.Languages.{Language, Token, ◌then◌, Many, Maybe, ◌∣◌, Made}
use Rattle.gq_grammar.specs.Signs.{One, Stands, After, Enclosed, Separated}
use Rattle.gq_grammar.specs.Series.{Chain, Ended, Kept}
use Rattle.gq_grammar.specs.Expressions.{Derives}

-- ---- types

abbrev pub vertex_type : Unit {0} × Option (List ℕ) → BaseTree
vertex_type p = vertex_type_at p.1
  where
    vertex_type_at : Option (List ℕ) → BaseTree
    vertex_type_at None = base.AnyVertex
    vertex_type_at (Some name) = base.VertexOf name

-- "<" Name ">"
unfoldable pub AngledName : Language (List ℕ)
AngledName = After (sign "<") (Ended (sign ">") (Token Name spelling))

-- Base = INT | UINT | BOOL | STRING | VERTEX [ "<" Name ">" ]
unfoldable pub BaseOf : Language BaseTree
BaseOf =
    Stands base.Int (word "INT") ∣ Stands base.UInt (word "UINT") ∣ Stands base.Bool (word "BOOL") ∣ Stands base.Text (word "STRING")
    ∣ Made vertex_type (One (word "VERTEX") then Maybe AngledName)

-- Elem = Base | Name
unfoldable pub ElemOf : Language Elem
ElemOf = Made elem.Base BaseOf ∣ Made elem.Tuple (Token Name spelling)

-- "<" Elem ">"
unfoldable pub AngledElem : Language Elem
AngledElem = After (sign "<") (Ended (sign ">") ElemOf)

-- Base Name
unfoldable pub FieldOf : Language (BaseTree × List ℕ)
FieldOf = BaseOf then Token Name spelling

-- ---- kinds

-- SumAccum | MinAccum | MaxAccum | SetAccum | BagAccum | ListAccum
unfoldable pub PlainOf : Language Plain
PlainOf =
    Stands plain.Sum (word "SumAccum") ∣ Stands plain.Min (word "MinAccum") ∣ Stands plain.Max (word "MaxAccum")
    ∣ Stands plain.Set (word "SetAccum") ∣ Stands plain.Bag (word "BagAccum") ∣ Stands plain.List (word "ListAccum")

-- OrAccum | AndAccum | BitwiseOrAccum | BitwiseAndAccum
unfoldable pub BitsOf : Language Bits
BitsOf =
    Stands bits.Or (word "OrAccum") ∣ Stands bits.And (word "AndAccum") ∣ Stands bits.BitwiseOr (word "BitwiseOrAccum")
    ∣ Stands bits.BitwiseAnd (word "BitwiseAndAccum")

abbrev pub plain_of : Plain × Elem → KindTree
plain_of p = kind.Plain p.0 p.1

abbrev pub bits_of : Bits × Option Elem → KindTree
bits_of p = kind.Bits p.0 p.1

-- ( SumAccum | .. ) "<" Elem ">" | ( OrAccum | .. ) [ "<" Elem ">" ] | AvgAccum
unfoldable pub FlatKind : Language KindTree
FlatKind = Made plain_of (PlainOf then AngledElem) ∣ Made bits_of (BitsOf then Maybe AngledElem) ∣ Stands kind.Avg (word "AvgAccum")

-- ascending if neither is given
abbrev pub descends : Option Bool → Bool
descends None = false
descends (Some b) = b

-- ASC | DESC
unfoldable pub Direction : Language Bool
Direction = Stands false (word "ASC") ∣ Stands true (word "DESC")

abbrev pub ordered : {A : Type 0} → A × Option Bool → A × Bool
ordered p = (p.0, descends p.1)

-- Name [ ASC | DESC ]
unfoldable pub OrderField : Language (List ℕ × Bool)
OrderField = Made ordered (Token Name spelling then Maybe Direction)

-- "(" Number "," Name [ ASC | DESC ] { "," Name [ ASC | DESC ] } ")"
unfoldable pub HeapOrder : Language (ℕ × List (List ℕ × Bool))
HeapOrder = Enclosed (Token Number number then After (sign ",") (Chain (sign ",") OrderField))

abbrev pub heap_of : List ℕ × (ℕ × List (List ℕ × Bool)) → KindTree
heap_of p = kind.Heap p.0 p.1.0 p.1.1

-- HeapAccum "<" Name ">" "(" Number "," Name [ ASC | DESC ] { "," Name [ ASC | DESC ] } ")"
unfoldable pub HeapKind : Language KindTree
HeapKind = Made heap_of (After (word "HeapAccum") (AngledName then HeapOrder))

-- K is the production Kind one level deeper

-- Elem | Kind
unfoldable pub HeldOf : Language KindTree → Language EntryTree
HeldOf K = Made held.Elem ElemOf ∣ Made held.Kind K

abbrev pub map_of : Elem × EntryTree → KindTree
map_of p = kind.Map p.0 p.1

-- MapAccum "<" Elem "," ( Elem | Kind ) ">"
unfoldable pub MapKind : Language KindTree → Language KindTree
MapKind K = Made map_of (After (word "MapAccum") (After (sign "<") (Ended (sign ">") (ElemOf then After (sign ",") (HeldOf K)))))

-- Kind Name
unfoldable pub GroupPart : Language KindTree → Language (KindTree × List ℕ)
GroupPart K = K then Token Name spelling

-- "," Kind Name { "," Kind Name }
unfoldable pub GroupParts : Language KindTree → Language (List (KindTree × List ℕ))
GroupParts K = After (sign ",") (Chain (sign ",") (GroupPart K))

-- { "," Base Name } "," Kind Name { "," Kind Name }
unfoldable pub GroupRest : Language KindTree → Language (List (BaseTree × List ℕ) × List (KindTree × List ℕ))
GroupRest K = Many (After (sign ",") FieldOf) then GroupParts K

abbrev pub group_of : (BaseTree × List ℕ) × (List (BaseTree × List ℕ) × List (KindTree × List ℕ)) → KindTree
group_of p = kind.Group (p.0 ∷ p.1.0) p.1.1

-- GroupByAccum "<" Base Name { "," Base Name } "," Kind Name { "," Kind Name } ">"
unfoldable pub GroupKind : Language KindTree → Language KindTree
GroupKind K = Made group_of (After (word "GroupByAccum") (After (sign "<") (Ended (sign ">") (FieldOf then GroupRest K))))

-- Kind
unfoldable pub KindIn : Language KindTree → Language KindTree
KindIn K = FlatKind ∣ HeapKind ∣ MapKind K ∣ GroupKind K

-- Kind, with a bounded number of levels
unfoldable pub Kind : ℕ → Language KindTree
Kind zero t x = ⊥
Kind (suc n) t x = KindIn (Kind n) t x

-- ---- the definitions before the statements of a body

-- "=" Expr
unfoldable pub Value : Language Node
Value = After (sign "=") Derives

abbrev pub with_name : Bool → List ℕ → Bool × List ℕ
with_name b name = (b, name)

-- Acc = Global | Attached
unfoldable pub AccumName : Language (Bool × List ℕ)
AccumName = Made (with_name false) (Token Global spelling) ∣ Made (with_name true) (Token Attached spelling)

abbrev pub accum_of : (Bool × List ℕ) × Option Node → AccumTree
accum_of p = record { attached = p.0.0; name = p.0.1; opening = p.1 }

-- Acc [ "=" Expr ]
unfoldable pub AccumOf : Language AccumTree
AccumOf = Made accum_of (AccumName then Maybe Value)

abbrev pub tuple_of : List (BaseTree × List ℕ) × List ℕ → DefinitionTree
tuple_of p = definition.Tuple p.0 p.1

-- TYPEDEF TUPLE "<" Base Name { "," Base Name } ">" Name
unfoldable pub TupleOf : Language DefinitionTree
TupleOf =
    Made tuple_of
    (After (word "TYPEDEF") (After (word "TUPLE") (After (sign "<") (Ended (sign ">") (Chain (sign ",") FieldOf) then Token Name spelling))))

abbrev pub accums_of : KindTree × List AccumTree → DefinitionTree
accums_of p = definition.Accums p.0 p.1

-- Def = TYPEDEF TUPLE "<" Base Name { "," Base Name } ">" Name | Kind(8) Acc [ "=" Expr ] { "," Acc [ "=" Expr ] }
unfoldable pub DefinitionOf : Language DefinitionTree
DefinitionOf = TupleOf ∣ Made accums_of (Kind 8 then Chain (sign ",") AccumOf)
