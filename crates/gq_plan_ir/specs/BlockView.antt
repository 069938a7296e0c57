-- BlockView: the blocks of a plan as plain data.
use Rattle.std.specs.Prelude.{ℕ, List, map}
use Rattle.std.specs.Option.{option_map}
use Rattle.gq_rules_meaning.specs.Selecting as plain
use Rattle.gq_rules_meaning.specs.SelectViews.{inputs_of, acts_of, choices_of}
use Rattle.gq_plan_ir.specs.declared.block.Feed.{Feed, Feed-F, fold-Feed}
use Rattle.gq_plan_ir.specs.declared.block.Change.{Change}
use Rattle.gq_plan_ir.specs.declared.block.Change.TheVariants as change
use Rattle.gq_plan_ir.specs.declared.block.Act.{Act, Act-F, fold-Act}
use Rattle.gq_plan_ir.specs.declared.block.Types.{Types}
use Rattle.gq_plan_ir.specs.declared.block.Types.TheVariants as types
use Rattle.gq_plan_ir.specs.declared.block.Hop.{Hop}
use Rattle.gq_plan_ir.specs.declared.block.PathStep.{PathStep}
use Rattle.gq_plan_ir.specs.declared.block.Walk.{Walk}
use Rattle.gq_plan_ir.specs.declared.block.Walk.TheVariants as walk
use Rattle.gq_plan_ir.specs.declared.block.SelectSource.{SelectSource}
use Rattle.gq_plan_ir.specs.declared.block.SelectSource.TheVariants as source
use Rattle.gq_plan_ir.specs.declared.block.Block.{Block}
use Rattle.gq_plan_ir.specs.Reference.{Reference, Place, Slot, VertexType, EdgeType}
use Rattle.gq_plan_ir.specs.ExprView.{view, views}

-- ---- inputs

abbrev pub feed_step : Feed-F (plain.Input Reference) → plain.Input Reference
feed_step (Feed-F.One t) = plain.Plain (view t)
feed_step (Feed-F.Keyed keys xs) = plain.Keys (views keys) (inputs_of xs)

unfoldable pub view_feed : Feed → plain.Input Reference
view_feed = fold-Feed (plain.Input Reference) feed_step

abbrev pub view_change : Change → plain.Change Reference
view_change (change.Feed x) = plain.Adds (view_feed x)
view_change (change.Set t) = plain.Puts (view t)

-- ---- acts

abbrev pub act_step : Act-F (plain.Act Reference) → plain.Act Reference
act_step (Act-F.Attached v a c) = plain.AtAlias (Place v) (Slot a) (view_change c)
act_step (Act-F.Global a c) = plain.AtGlobal (Slot a) (view_change c)
act_step (Act-F.If branches others) = plain.Choose (choices_of (map (λ b. (view b.0, b.1)) branches) others)

unfoldable pub view_act : Act → plain.Act Reference
view_act = fold-Act (plain.Act Reference) act_step

abbrev pub view_acts : List Act → plain.Acts Reference
view_acts acts = acts_of (map view_act acts)

-- ---- patterns

-- edge types, or vertex types, by their numbers
abbrev pub view_types : (ℕ → Reference) → Types → plain.Types Reference
view_types reference types.Every = plain.Every
view_types reference (types.These ts) = plain.These (map reference ts)

abbrev pub view_hop : Hop → plain.Hop Reference
view_hop h = record { edges = view_types EdgeType h.edges; edge_alias = option_map Place h.edge_alias; targets = view_types VertexType h.targets; target_alias = option_map Place h.target_alias }

abbrev pub view_path_step : PathStep → plain.Step Reference
view_path_step s = record { ways = map (λ w. (w.0, EdgeType w.1)) s.ways; edge_alias = option_map Place s.edge_alias; targets = view_types VertexType s.targets; target_alias = option_map Place s.target_alias }

abbrev pub view_walk : Walk → plain.Walk Reference
view_walk walk.Nowhere = plain.Nowhere
view_walk (walk.Hop h) = plain.OneHop (view_hop h)
view_walk (walk.Path steps) = plain.Path (map view_path_step steps)

-- ---- SELECT

abbrev pub view_source : SelectSource → Reference
view_source (source.Set place) = Place place
view_source (source.Type t) = VertexType t

abbrev pub view_block : Block → plain.Select Reference
view_block q = record {
  selected = Place q.selected;
  source = view_source q.source;
  alias = option_map Place q.alias;
  walk = view_walk q.walk;
  filter = option_map view q.filter;
  accum = view_acts q.accum;
  post = view_acts q.post;
  having = option_map view q.having;
  order = map (λ key. (view key.0, key.1)) q.order;
  limit = option_map view q.limit;
}
