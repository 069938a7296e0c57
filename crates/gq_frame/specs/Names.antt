-- Names: what a place of the frame has, in the terms of the definitions. Aliases take precedence over variables and sets.
use Rattle.std.specs.Prelude.{ℕ, ◌==◌, List, map, Option, Some, None, slice_get}
use Rattle.std.specs.Option.{option_or, option_map}
use Rattle.gq_value.specs.Views.{val}
use Rattle.gq_value.specs.AccumViews.{base_of}
use Rattle.gq_eval_operand.specs.Words.{under}
use Rattle.gq_eval_operand.specs.Answers.{Gives, Stuck, ◌>>=◌, found}
use Rattle.gq_eval_operand.specs.Meanings.{Outcome}
use Rattle.gq_eval_operand.specs.States as states
use Rattle.gq_eval_operand.specs.States.{Variable, SetOf, EdgeRow, Member, a_vertex, meant}
use Rattle.gq_eval_operand.specs.Reference.{Reference, Place}
use Rattle.gq_frame.specs.declared.frame.Alias.{Alias}
use Rattle.gq_frame.specs.declared.frame.Bound.{Bound}
use Rattle.gq_frame.specs.declared.frame.Bound.TheVariants as bound
use Rattle.gq_frame.specs.declared.frame.Thing.{Thing}
use Rattle.gq_frame.specs.declared.frame.Thing.TheVariants as thing

-- ---- aliases

-- what an alias refers to, after its types: a vertex, an edge with the type under which it was walked, or within `S[..]` the
-- set and the current vertex
pub data Placed : Type 0 where
  AVertex : List ℕ → ℕ → Placed
  AnEdge : ℕ → ℕ → Placed
  AMember : List ℕ → List ℕ → ℕ → Placed

abbrev pub placed_of : Bound → Placed
placed_of (bound.Vertex types v) = AVertex types.now v
placed_of (bound.Edge r t) = AnEdge r t
placed_of (bound.Member types vs v) = AMember types.now vs.now v

abbrev pub thing_of : Placed → states.Thing
thing_of (AVertex types v) = a_vertex types v
thing_of (AnEdge r t) = EdgeRow r t
thing_of (AMember types vs v) = Member types vs v

-- an alias with its place
abbrev pub alias_of : Alias → ℕ × Placed
alias_of a = (a.place, placed_of a.is)

-- the same as names
abbrev pub alias_named : ℕ × Placed → Reference × states.Thing
alias_named a = (Place a.0, thing_of a.1)

abbrev pub aliases_named : List (ℕ × Placed) → List (Reference × states.Thing)
aliases_named aliases = map alias_named aliases

-- ---- places

-- a value or a set, with its types
abbrev pub thing_is : Thing → states.Thing
thing_is (thing.Value b v) = Variable (base_of b) (val v)
thing_is (thing.Set types vs) = SetOf types vs

-- what a place has
abbrev pub held_thing : Option (Option Thing) → Option states.Thing
held_thing (Some (Some thing)) = Some (thing_is thing)
held_thing _ = None

-- the variable or the set at a place
abbrev pub thing_in : List (Option Thing) → ℕ → Option states.Thing
thing_in things n = held_thing (slice_get things n)

-- variables and sets alone have places
abbrev pub thing_for : List (Option Thing) → Reference → Option states.Thing
thing_for things (Place n) = thing_in things n
thing_for things r = None

-- with aliases before them
abbrev pub thing_at : List (ℕ × Placed) → List (Option Thing) → ℕ → Option states.Thing
thing_at aliases things n = option_or (option_map thing_of (under ◌==◌ n aliases)) (thing_in things n)

abbrev pub thing_meant : Option states.Thing → Outcome
thing_meant o = found o >>= λ thing. Gives (meant thing)

abbrev pub named_in : (ℕ → Option states.Thing) → Reference → Outcome
named_in things (Place n) = thing_meant (things n)
named_in things r = Stuck
