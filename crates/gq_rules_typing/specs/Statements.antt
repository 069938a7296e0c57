-- Statements: statements, declarations and queries as plain data. N is the representation of a name.
use Rattle.std.specs.Prelude.{ℕ, Bool, List, Option}
use Rattle.gq_tree.specs.Tree.{Tree}
use Rattle.gq_tree.specs.declared.kind.Plain.{Plain}
use Rattle.gq_tree.specs.declared.kind.Bits.{Bits}
use Rattle.gq_tree.specs.declared.body.SetOp.{SetOp}
use Rattle.gq_rules_typing.specs.Selecting.{Change, Select}

-- a name, a text or a key, as its bytes
abbrev pub Bytes : Type 0
Bytes = List ℕ

-- ---- types as written

pub data BaseTree (N : Type 0) : Type 0 where
  Ints UInts Bools Strings AnyVertex : BaseTree N
  VertexOf : N → BaseTree N

-- a base type, or a tuple type's name
pub data Elem (N : Type 0) : Type 0 where
  OfBase : BaseTree N → Elem N
  OfTuple : N → Elem N

mutual
  pub data KindTree (N : Type 0) : Type 0 where
    OverElem : Plain → Elem N → KindTree N
    OverBits : Bits → Option (Elem N) → KindTree N
    Averaged : KindTree N
    -- to an accumulator, or to a type, which means the sum over it
    MapTo : Elem N → KindTree N → KindTree N
    MapToElem : Elem N → Elem N → KindTree N
    Grouped : List (BaseTree N × Bytes) → PartTrees N → KindTree N
    -- the tuple type, the capacity, and the fields to order by; true descends
    Heap : N → ℕ → List (Bytes × Bool) → KindTree N

  pub data PartTrees (N : Type 0) : Type 0 where
    no_part_tree : PartTrees N
    part_tree_and : KindTree N → Bytes → PartTrees N → PartTrees N

-- ---- vertex sets

-- the members of a written set: `T.*`, ANY, a variable, the content of a global accumulator
pub data Seed (N : Type 0) : Type 0 where
  AllOf : N → Seed N
  AllVertices : Seed N
  OneVertex : N → Seed N
  ContentOf : N → Seed N

pub data SetTerm (N : Type 0) : Type 0 where
  SetNamed : N → SetTerm N
  Seeds : List (Seed N) → SetTerm N

-- `(ANY)` and `(T)` after a set variable's name
pub data SetTypes (N : Type 0) : Type 0 where
  AnyType : SetTypes N
  TypeOf : N → SetTypes N

-- the right side of `name =`
pub data Right (N : Type 0) : Type 0 where
  Selects : Select N → Right N
  Sets : SetTerm N → List (SetOp × SetTerm N) → Right N
  Expression : Tree N → Right N

-- ---- printing

-- an expression with its key
pub record Item (N : Type 0) : Type 0 where
  pub tree : Tree N
  pub key : Bytes

-- `e AS k`, and `S[e AS k, ..] AS k`
pub data Printed (N : Type 0) : Type 0 where
  Whole : Item N → Printed N
  Selection : N → List (Item N) → Bytes → Printed N

-- ---- statements

-- what FOREACH iterates over: a collection, or both ends of a range
pub data Over (N : Type 0) : Type 0 where
  Elements : Tree N → Over N
  Range : Tree N → Tree N → Over N

mutual
  pub data Stmt (N : Type 0) : Type 0 where
    Local : BaseTree N → List (N × Option (Tree N)) → Stmt N
    Assign : N → Option (SetTypes N) → Right N → Stmt N
    ChangeGlobal : N → Change N → Stmt N
    If : Branches N → Stmt N
    While : Tree N → Option (Tree N) → Stmts N → Stmt N
    Foreach : N → Over N → Stmts N → Stmt N
    Print : List (Printed N) → Stmt N

  pub data Stmts (N : Type 0) : Type 0 where
    no_stmt : Stmts N
    stmt_and : Stmt N → Stmts N → Stmts N

  -- IF and each ELSE IF with its condition, and the statements after ELSE
  pub data Branches (N : Type 0) : Type 0 where
    else_ : Stmts N → Branches N
    if_ : Tree N → Stmts N → Branches N → Branches N

-- ---- queries; K represents the kind of an accumulator: a tree in a query, the kind itself in a plan

-- accumulators have a flag that is true for attached ones, a name with its `@` or `@@`, and an opening
pub data Definition (N K : Type 0) : Type 0 where
  TupleType : List (BaseTree N × Bytes) → N → Definition N K
  Accums : K → List (Bool × N × Option (Tree N)) → Definition N K

pub data Literal : Type 0 where
  Signed : Bool → ℕ → Literal
  Quoted : Bytes → Literal
  Truthful : Bool → Literal

pub record Parameter (N : Type 0) : Type 0 where
  pub base : BaseTree N
  pub name : N
  pub default : Option Literal

-- with_paths is SYNTAX v2
pub record QueryOver (N K : Type 0) : Type 0 where
  pub parameters : List (Parameter N)
  pub with_paths : Bool
  pub definitions : List (Definition N K)
  pub statements : Stmts N

abbrev pub Query : Type 0 → Type 0
Query N = QueryOver N (KindTree N)
