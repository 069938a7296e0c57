-- Tree: expressions as plain data, on which the definitions of types and of meaning match.
-- N is the representation of a name: its bytes in a query, and what it was resolved to in a plan.
use Rattle.std.specs.Prelude.{ℕ, Bool, List}
use Rattle.gq_tree.specs.declared.expr.AddSign.{AddSign}
use Rattle.gq_tree.specs.declared.expr.MulSign.{MulSign}
use Rattle.gq_tree.specs.declared.expr.CmpSign.{CmpSign}

mutual
  pub data Tree (N : Type 0) : Type 0 where
    Number : ℕ → Tree N
    Text : List ℕ → Tree N
    Truth : Bool → Tree N
    Global : N → Tree N
    Name : N → Tree N
    Call : N → Trees N → Tree N
    Post : Tree N → Parts N → Tree N
    Neg : ℕ → Tree N → Tree N
    Mul : Tree N → Factors N → Tree N
    Sum : Tree N → Terms N → Tree N
    Cmp : Tree N → CmpSign → Tree N → Tree N
    Not : ℕ → Tree N → Tree N
    And : Tree N → Trees N → Tree N
    Or : Tree N → Trees N → Tree N

  -- the part after a dot
  pub data Behind (N : Type 0) : Type 0 where
    Field : N → Behind N
    Method : N → Trees N → Behind N
    Attached : N → Behind N
    Before : N → Behind N

  -- lists
  pub data Trees (N : Type 0) : Type 0 where
    no_tree : Trees N
    tree : Tree N → Trees N → Trees N

  pub data Parts (N : Type 0) : Type 0 where
    no_part : Parts N
    part : Behind N → Parts N → Parts N

  pub data Factors (N : Type 0) : Type 0 where
    no_factor : Factors N
    factor : MulSign → Tree N → Factors N → Factors N

  pub data Terms (N : Type 0) : Type 0 where
    no_term : Terms N
    term : AddSign → Tree N → Terms N → Terms N
