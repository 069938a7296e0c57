-- Selecting: inputs, acts, patterns and SELECT as plain data, on which the definitions of types and of meaning match.
-- N is the representation of a name: its bytes in a query, and what it was resolved to in a plan.
use Rattle.std.specs.Prelude.{Bool, List, Option}
use Rattle.gq_tree.specs.Tree.{Tree, Trees}
use Rattle.gq_tree.specs.declared.select.Way.{Way}

mutual
  -- an input of `+=`: a value, or keys with an input for each part
  pub data Input (N : Type 0) : Type 0 where
    Plain : Tree N → Input N
    Keys : Trees N → Inputs N → Input N

  pub data Inputs (N : Type 0) : Type 0 where
    no_input : Inputs N
    input_and : Input N → Inputs N → Inputs N

-- `+=` and `=`
pub data Change (N : Type 0) : Type 0 where
  Adds : Input N → Change N
  Puts : Tree N → Change N

mutual
  -- a change of an accumulator at an alias, of a global one, or IF
  pub data Act (N : Type 0) : Type 0 where
    AtAlias : N → N → Change N → Act N
    AtGlobal : N → Change N → Act N
    Choose : Choices N → Act N

  pub data Acts (N : Type 0) : Type 0 where
    no_act : Acts N
    act_and : Act N → Acts N → Acts N

  -- IF and each ELSE IF with its condition, and the acts after ELSE
  pub data Choices (N : Type 0) : Type 0 where
    otherwise : Acts N → Choices N
    when : Tree N → Acts N → Choices N → Choices N

-- the types at a place of a pattern: ANY, `_` and nothing are every type
pub data Types (N : Type 0) : Type 0 where
  Every : Types N
  These : List N → Types N

-- one hop
pub record Hop (N : Type 0) : Type 0 where
  pub edges : Types N
  pub edge_alias : Option N
  pub targets : Types N
  pub target_alias : Option N

-- a step of a path: the edge types with their ways, and where they lead
pub record Step (N : Type 0) : Type 0 where
  pub ways : List (Way × N)
  pub edge_alias : Option N
  pub targets : Types N
  pub target_alias : Option N

-- the pattern after the source: nothing, a hop, or a path
pub data Walk (N : Type 0) : Type 0 where
  Nowhere : Walk N
  OneHop : Hop N → Walk N
  Path : List (Step N) → Walk N

-- SELECT; without ACCUM and POST-ACCUM there are no acts, and without ORDER BY no keys. True means descending
pub record Select (N : Type 0) : Type 0 where
  pub selected : N
  pub source : N
  pub alias : Option N
  pub walk : Walk N
  pub filter : Option (Tree N)
  pub accum : Acts N
  pub post : Acts N
  pub having : Option (Tree N)
  pub order : List (Tree N × Bool)
  pub limit : Option (Tree N)
