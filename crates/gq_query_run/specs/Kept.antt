-- Kept: the data that a session stores of a query.
use Rattle.std.specs.Prelude.{ℕ, Bool, List, Option}
use Rattle.gq_tree.specs.declared.query.QueryTree.{QueryTree}

-- its name, its tree as it was created, the graph that was fixed then, by number, and whether it was installed since
pub record Kept : Type 0 where
  pub name : List ℕ
  pub tree : QueryTree
  pub graph : Option ℕ
  pub installed : Bool
