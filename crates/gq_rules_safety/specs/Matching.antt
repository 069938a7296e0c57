-- Matching: when a state matches its scope: it fits, and it holds no name that the scope doesn't have.
use Rattle.std.specs.Prelude.{◌≡◌, ℕ, Bool, true, false, Option, None, Some}
use Rattle.gq_graph.specs.Candidates.{among}
use Rattle.gq_rules_typing.specs.Scopes.{Entry, Accumulator, TupleName, Scope, entry}
use Rattle.gq_rules_meaning.specs.Expressions.{World}
use Rattle.gq_rules_meaning.specs.States.{State, thing_named}
use Rattle.gq_rules_meaning.specs.StateFits.{StateFits}

-- names that are the same are equal, and a type that a name denotes is one of the graph
pub record WordsFit {N : Type 0} (world : World N) : Type 0 where
  pub same : (x y : N) → world.words.same x y ≡ true → x ≡ y
  pub vertex_type : (x : N) (t : ℕ) → world.words.vertex_type x ≡ Some t → among world.graph.sorts.own_vertices t ≡ true
  pub edge_type : (x : N) (t : ℕ) → world.words.edge_type x ≡ Some t → among world.graph.sorts.own_edges t ≡ true

-- whether a state holds something under a name: accumulators are stored elsewhere, and tuple types hold nothing
abbrev pub has_thing : Option Entry → Bool
has_thing None = false
has_thing (Some (Accumulator k attached)) = false
has_thing (Some TupleName) = false
has_thing (Some e) = true

-- a state with only the names of its scope: a name that is assigned when it isn't visible is a new one
pub record StateIs {N : Type 0} (world : World N) (s : Scope N) (state : State N) : Type 0 where
  pub fits : StateFits world s state
  pub alone : (x : N) → has_thing (entry s x) ≡ false → thing_named world state.names x ≡ None
