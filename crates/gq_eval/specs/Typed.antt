-- Typed: when an expression is well typed in its context, and which values and contents have a type.
use Rattle.std.specs.Prelude.{◌≡◌, true, Ok}
use Rattle.gq_tree.specs.Tree.{Tree}
use Rattle.gq_value.specs.Val.{Val, Vertex, Fraction}
use Rattle.gq_value.specs.Accums.{Accum}
use Rattle.gq_accum_laws.specs.Holds.{Holds}
use Rattle.gq_nest.specs.declared.content.Content.{Content}
use Rattle.gq_nest.specs.Shows.{Shows}
use Rattle.gq_rules_typing.specs.Judging.{Typed, Of, Average, AliasOf, Whole}
use Rattle.gq_rules_typing.specs.ExpressionTypes.{Names, typing}
use Rattle.gq_rules_meaning.specs.Answers.{Gives, Stuck, ◌>>=◌}
use Rattle.gq_rules_meaning.specs.Expressions.{World, Look, meaning}
use Rattle.gq_rules_meaning.specs.Fitting.{is_value, is_vertex_of, HoldsValues}
use Rattle.gq_rules_meaning.specs.Laws.{LookFits}
use Rattle.gq_rules_meaning.specs.Meanings.{Meant, IsContent, Outcome}

-- an expression has a type, for names that the context fits
pub record IsTyped {N : Type 0} (look : Look N) (t : Tree N) : Type 0 where
  pub names : Names N
  pub fits : LookFits names look
  pub type : Typed
  pub typed : typing names t ≡ Ok type

-- ---- values

-- a type of values: a base type or an average; an alias is a vertex
abbrev pub IsOfValues : Typed → Type 0
IsOfValues (Of b) = Unit {0}
IsOfValues Average = Unit {0}
IsOfValues (AliasOf types) = Unit {0}
IsOfValues _ = ⊥

-- a value has a type: a vertex exists, and a time lies in the calendar
abbrev pub HasType : {N : Type 0} → World N → Typed → Val → Type 0
HasType world (Of b) v = is_value world b v ≡ true
HasType world Average (Fraction sum count) = Unit {0}
HasType world (AliasOf types) (Vertex v) = is_vertex_of world.graph types v ≡ true
HasType world _ _ = ⊥

-- ---- collections

-- a whole collection; anything else is none
abbrev pub whole_of_meant : Meant → Outcome
whole_of_meant (IsContent k c) = Gives (IsContent k c)
whole_of_meant _ = Stuck

-- the whole collection that an expression means
abbrev pub whole_meaning : {N : Type 0} → Look N → Tree N → Outcome
whole_meaning look t = meaning look t >>= whole_of_meant

-- the content shows the collection that is meant
pub record IsContentOf (o : Outcome) (c : Content) : Type 0 where
  pub kind : Accum
  pub holds : Holds kind
  pub meant : o ≡ Gives (IsContent kind holds)
  pub shows : Shows kind c holds

-- it shows a content of a kind, with values of its types
pub record HoldsTyped {N : Type 0} (world : World N) (k : Accum) (c : Content) : Type 0 where
  pub holds : Holds k
  pub shows : Shows k c holds
  pub values : HoldsValues world k holds

-- a content has a type
abbrev pub HasContent : {N : Type 0} → World N → Typed → Content → Type 0
HasContent world (Whole k) c = HoldsTyped world k c
HasContent world _ c = ⊥
