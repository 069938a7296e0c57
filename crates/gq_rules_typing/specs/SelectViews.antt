-- SelectViews: the code's trees of inputs, acts and SELECT as plain data.
use Rattle.std.specs.Prelude.{Bool, List, [], ◌∷◌, map, Option, Some, None}
use Rattle.std.specs.Option.{option_map}
use Rattle.gq_tree.specs.Tree.{Tree}
use Rattle.gq_tree.specs.View.{Named, view, views}
use Rattle.gq_tree.specs.declared.expr.Node.{Node}
use Rattle.gq_tree.specs.declared.select.InputTree.{InputTree, InputTree-F, fold-InputTree}
use Rattle.gq_tree.specs.declared.select.ChangeTree.{ChangeTree}
use Rattle.gq_tree.specs.declared.select.ChangeTree.TheVariants as change
use Rattle.gq_tree.specs.declared.select.ActTree.{ActTree, ActTree-F, fold-ActTree}
use Rattle.gq_tree.specs.declared.select.TypesTree.{TypesTree}
use Rattle.gq_tree.specs.declared.select.TypesTree.TheVariants as types
use Rattle.gq_tree.specs.declared.select.HopTree.{HopTree}
use Rattle.gq_tree.specs.declared.select.StepTree.{StepTree}
use Rattle.gq_tree.specs.declared.select.PatternTree.{PatternTree}
use Rattle.gq_tree.specs.declared.select.PatternTree.TheVariants as walk
use Rattle.gq_tree.specs.declared.select.SelectTree.{SelectTree}
use Rattle.gq_rules_typing.specs.Selecting as plain

-- ---- inputs

abbrev pub inputs_of : {N : Type 0} → List (plain.Input N) → plain.Inputs N
inputs_of [] = plain.no_input
inputs_of (x ∷ xs) = plain.input_and x (inputs_of xs)

abbrev pub input_step : InputTree-F (plain.Input Named) → plain.Input Named
input_step (InputTree-F.One t) = plain.Plain (view t)
input_step (InputTree-F.Keyed keys xs) = plain.Keys (views keys) (inputs_of xs)

unfoldable pub view_input : InputTree → plain.Input Named
view_input = fold-InputTree (plain.Input Named) input_step

abbrev pub view_change : ChangeTree → plain.Change Named
view_change (change.Feed x) = plain.Adds (view_input x)
view_change (change.Set t) = plain.Puts (view t)

-- ---- acts

abbrev pub acts_of : {N : Type 0} → List (plain.Act N) → plain.Acts N
acts_of [] = plain.no_act
acts_of (a ∷ rest) = plain.act_and a (acts_of rest)

-- without ELSE there are no acts
abbrev pub acts_or_none : {N : Type 0} → Option (List (plain.Act N)) → plain.Acts N
acts_or_none None = plain.no_act
acts_or_none (Some acts) = acts_of acts

abbrev pub choices_of : {N : Type 0} → List (Tree N × List (plain.Act N)) → Option (List (plain.Act N)) → plain.Choices N
choices_of [] others = plain.otherwise (acts_or_none others)
choices_of (c ∷ cs) others = plain.when c.0 (acts_of c.1) (choices_of cs others)

abbrev pub act_step : ActTree-F (plain.Act Named) → plain.Act Named
act_step (ActTree-F.Attached v a c) = plain.AtAlias v a (view_change c)
act_step (ActTree-F.Global a c) = plain.AtGlobal a (view_change c)
act_step (ActTree-F.If branches others) = plain.Choose (choices_of (map (λ b. (view b.0, b.1)) branches) others)

unfoldable pub view_act : ActTree → plain.Act Named
view_act = fold-ActTree (plain.Act Named) act_step

abbrev pub view_acts : List ActTree → plain.Acts Named
view_acts acts = acts_of (map view_act acts)

-- ---- patterns

abbrev pub view_types : TypesTree → plain.Types Named
view_types types.Any = plain.Every
view_types (types.Named names) = plain.These names

-- types that are left out mean every type
abbrev pub view_types_if : Option TypesTree → plain.Types Named
view_types_if None = plain.Every
view_types_if (Some t) = view_types t

abbrev pub view_hop : HopTree → plain.Hop Named
view_hop h = record { edges = view_types_if h.edges; edge_alias = h.edge_alias; targets = view_types_if h.targets; target_alias = h.target_alias }

abbrev pub view_step : StepTree → plain.Step Named
view_step s = record { ways = s.ways; edge_alias = s.edge_alias; targets = view_types s.targets; target_alias = s.target_alias }

abbrev pub view_walk : Option PatternTree → plain.Walk Named
view_walk None = plain.Nowhere
view_walk (Some (walk.Hop h)) = plain.OneHop (view_hop h)
view_walk (Some (walk.Path steps)) = plain.Path (map view_step steps)

-- ---- SELECT

abbrev pub view_acts_if : Option (List ActTree) → plain.Acts Named
view_acts_if None = plain.no_act
view_acts_if (Some acts) = view_acts acts

abbrev pub view_order : Option (List (Node × Bool)) → List (Tree Named × Bool)
view_order None = []
view_order (Some keys) = map (λ key. (view key.0, key.1)) keys

abbrev pub view_select : SelectTree → plain.Select Named
view_select q = record {
  selected = q.selected;
  source = q.source;
  alias = q.alias;
  walk = view_walk q.walk;
  filter = option_map view q.filter;
  accum = view_acts_if q.accum;
  post = view_acts_if q.post;
  having = option_map view q.having;
  order = view_order q.order;
  limit = option_map view q.limit;
}
