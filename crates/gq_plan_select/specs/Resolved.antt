-- Resolved: the acts and SELECTs of a plan, from those with names; None if something isn't found.
use Rattle.std.specs.Prelude.{ℕ, Bool, if◌then◌else◌, List, [], ◌∷◌, map, Option, Some, None}
use Rattle.std.specs.Option.{option_map}
use Rattle.gq_tree.specs.View.{view}
use Rattle.gq_tree.specs.declared.expr.Node.{Node}
use Rattle.gq_tree.specs.declared.select.InputTree as code
use Rattle.gq_tree.specs.declared.select.ActTree as code_act
use Rattle.gq_tree.specs.declared.select.StepTree.{StepTree}
use Rattle.gq_rules_typing.specs.SelectViews.{inputs_of, choices_of, view_input, view_act, view_step}
use Rattle.gq_tree.specs.Tree.{Tree}
use Rattle.gq_tree.specs.declared.select.Way.{Way}
use Rattle.gq_rules_typing.specs.Statements.{Bytes}
use Rattle.gq_rules_typing.specs.Selecting as plain
use Rattle.gq_rules_typing.specs.Selecting.{Input, Inputs, no_input, input_and, Acts, no_act, act_and, Choices, otherwise, when, Select}
use Rattle.gq_plan_ir.specs.declared.expr.Expr.{Expr}
use Rattle.gq_plan_ir.specs.declared.block.Feed.{Feed}
use Rattle.gq_plan_ir.specs.declared.block.Feed.TheVariants as feed
use Rattle.gq_plan_ir.specs.declared.block.Change.{Change}
use Rattle.gq_plan_ir.specs.declared.block.Change.TheVariants as change
use Rattle.gq_plan_ir.specs.declared.block.Act.{Act}
use Rattle.gq_plan_ir.specs.declared.block.Act.TheVariants as act
use Rattle.gq_plan_ir.specs.declared.block.Types.{Types}
use Rattle.gq_plan_ir.specs.declared.block.Types.TheVariants as types
use Rattle.gq_plan_ir.specs.declared.block.Hop.{Hop}
use Rattle.gq_plan_ir.specs.declared.block.PathStep.{PathStep}
use Rattle.gq_plan_ir.specs.declared.block.Walk.{Walk}
use Rattle.gq_plan_ir.specs.declared.block.Walk.TheVariants as walk
use Rattle.gq_plan_ir.specs.declared.block.SelectSource.{SelectSource}
use Rattle.gq_plan_ir.specs.declared.block.SelectSource.TheVariants as source
use Rattle.gq_plan_ir.specs.declared.block.Block.{Block}
use Rattle.gq_plan_expr.specs.Known.{Known}
use Rattle.gq_plan_expr.specs.Resolved.{◌>>=◌, resolved, resolved_all}
use Rattle.gq_plan_select.specs.declared.selects.Walked.{Walked}
use Rattle.gq_plan_select.specs.declared.selects.Clauses.{Clauses}
use Rattle.gq_plan_select.specs.declared.selects.Tail.{Tail}
use Rattle.gq_plan_expr.specs.Globals.{Sees}

-- ---- optional parts, and lists

-- a part that is left out stays left out
abbrev pub if_there : {A B : Type 0} → (A → Option B) → Option A → Option (Option B)
if_there f None = Some None
if_there f (Some a) = f a >>= λ b. Some (Some b)

abbrev pub each_resolved : {A B : Type 0} → (A → Option B) → List A → Option (List B)
each_resolved f [] = Some []
each_resolved f (a ∷ rest) = f a >>= λ b. each_resolved f rest >>= λ bs. Some (b ∷ bs)

-- ---- the code's lists as plain data

abbrev pub view_keys : List (Node × Bool) → List (Tree Bytes × Bool)
view_keys keys = map (λ key. (view key.0, key.1)) keys

abbrev pub view_inputs : List code.InputTree → Inputs Bytes
view_inputs trees = inputs_of (map view_input trees)

abbrev pub view_steps : List StepTree → List (plain.Step Bytes)
view_steps trees = map view_step trees

-- IF and each ELSE IF, and the acts after ELSE
abbrev pub view_choices : List (Node × List code_act.ActTree) → Option (List code_act.ActTree) → Choices Bytes
view_choices branches others = choices_of (map {A = Node × List (plain.Act Bytes)} (λ b. (view b.0, b.1)) (map {A = Node × List code_act.ActTree} (λ b. (b.0, map view_act b.1)) branches)) (option_map (map view_act) others)

-- ---- inputs

abbrev mutual
  pub resolved_input : Known → Input Bytes → Option Feed
  resolved_input k (plain.Plain t) = resolved k t >>= λ e. Some (feed.One e)
  resolved_input k (plain.Keys ts xs) = resolved_all k ts >>= λ es. resolved_inputs k xs >>= λ fs. Some (feed.Keyed es fs)

  pub resolved_inputs : Known → Inputs Bytes → Option (List Feed)
  resolved_inputs k no_input = Some []
  resolved_inputs k (input_and x xs) = resolved_input k x >>= λ f. resolved_inputs k xs >>= λ fs. Some (f ∷ fs)

abbrev pub resolved_change : Known → plain.Change Bytes → Option Change
resolved_change k (plain.Adds x) = resolved_input k x >>= λ f. Some (change.Feed f)
resolved_change k (plain.Puts t) = resolved k t >>= λ e. Some (change.Set e)

-- ---- acts; ELSE without acts is the same as no ELSE

-- IF and each ELSE IF with its condition, and the acts after ELSE
abbrev pub Branches : Type 0
Branches = List (Expr × List Act) × Option (List Act)

abbrev pub else_of : Acts Bytes → Option (List Act) → Option (Option (List Act))
else_of no_act o = Some None
else_of (act_and a rest) o = o >>= λ acts. Some (Some acts)

abbrev pub if_of : Branches → Act
if_of b = act.If b.0 b.1

abbrev pub branch_and : Expr → List Act → Branches → Branches
branch_and e acts b = ((e, acts) ∷ b.0, b.1)

abbrev mutual
  pub resolved_act : Known → plain.Act Bytes → Option Act
  resolved_act k (plain.AtAlias v a c) = k.place v >>= λ n. k.slot a >>= λ m. resolved_change k c >>= λ d. Some (act.Attached n m d)
  resolved_act k (plain.AtGlobal a c) = k.slot a >>= λ m. resolved_change k c >>= λ d. Some (act.Global m d)
  resolved_act k (plain.Choose choices) = resolved_choices k choices >>= λ b. Some (if_of b)

  pub resolved_acts : Known → Acts Bytes → Option (List Act)
  resolved_acts k no_act = Some []
  resolved_acts k (act_and a rest) = resolved_act k a >>= λ b. resolved_acts k rest >>= λ bs. Some (b ∷ bs)

  pub resolved_choices : Known → Choices Bytes → Option Branches
  resolved_choices k (otherwise acts) = else_of acts (resolved_acts k acts) >>= λ others. Some ([], others)
  resolved_choices k (when t acts rest) = resolved k t >>= λ e. resolved_acts k acts >>= λ bs. resolved_choices k rest >>= λ b. Some (branch_and e bs b)

-- ---- patterns

abbrev pub resolved_types : (Bytes → Option ℕ) → plain.Types Bytes → Option Types
resolved_types f plain.Every = Some types.Every
resolved_types f (plain.These names) = each_resolved f names >>= λ ns. Some (types.These ns)

abbrev pub resolved_hop : Known → Sees → plain.Hop Bytes → Option Hop
resolved_hop k s h =
    resolved_types s.edge_type h.edges >>= λ edges. if_there k.place h.edge_alias >>= λ edge_alias.
    resolved_types s.vertex_type h.targets >>= λ targets. if_there k.place h.target_alias >>= λ target_alias.
    Some (record { edges = edges; edge_alias = edge_alias; targets = targets; target_alias = target_alias })

-- an edge type with the direction in which it is walked
abbrev pub resolved_way : Sees → Way × Bytes → Option (Way × ℕ)
resolved_way s w = s.edge_type w.1 >>= λ t. Some (w.0, t)

abbrev pub resolved_step : Known → Sees → plain.Step Bytes → Option PathStep
resolved_step k s h =
    each_resolved (resolved_way s) h.ways >>= λ ways. if_there k.place h.edge_alias >>= λ edge_alias.
    resolved_types s.vertex_type h.targets >>= λ targets. if_there k.place h.target_alias >>= λ target_alias.
    Some (record { ways = ways; edge_alias = edge_alias; targets = targets; target_alias = target_alias })

abbrev pub resolved_walk : Known → Sees → plain.Walk Bytes → Option Walk
resolved_walk k s plain.Nowhere = Some walk.Nowhere
resolved_walk k s (plain.OneHop h) = resolved_hop k s h >>= λ hop. Some (walk.Hop hop)
resolved_walk k s (plain.Path steps) = each_resolved (resolved_step k s) steps >>= λ path. Some (walk.Path path)

-- ---- SELECT

-- from a set variable, or all vertices of a type
abbrev pub resolved_source : Known → Sees → Bytes → Option SelectSource
resolved_source k s x = if s.is_set x then (k.place x >>= λ n. Some (source.Set n)) else (s.vertex_type x >>= λ t. Some (source.Type t))

-- a key of ORDER BY, and whether it is descending
abbrev pub resolved_key : Known → Tree Bytes × Bool → Option (Expr × Bool)
resolved_key k key = resolved k key.0 >>= λ e. Some (e, key.1)

-- the source and the pattern of a SELECT, and its aliases
abbrev pub resolved_from : Known → Sees → Select Bytes → Option Walked
resolved_from k s q =
    k.place q.selected >>= λ selected. resolved_source k s q.source >>= λ from. if_there k.place q.alias >>= λ alias. resolved_walk k s q.walk >>= λ way.
    Some (record { selected = selected; source = from; alias = alias; walk = way })

-- WHERE, ACCUM and POST-ACCUM
abbrev pub resolved_clauses : Known → Select Bytes → Option Clauses
resolved_clauses k q =
    if_there (resolved k) q.filter >>= λ filter. resolved_acts k q.accum >>= λ accum. resolved_acts k q.post >>= λ post.
    Some (record { filter = filter; accum = accum; post = post })

-- HAVING, ORDER BY and LIMIT
abbrev pub resolved_tail : Known → Select Bytes → Option Tail
resolved_tail k q =
    if_there (resolved k) q.having >>= λ having. each_resolved (resolved_key k) q.order >>= λ order. if_there (resolved k) q.limit >>= λ limit.
    Some (record { having = having; order = order; limit = limit })

abbrev pub block_of : Walked → Clauses → Tail → Block
block_of w c t = record {
  selected = w.selected;
  source = w.source;
  alias = w.alias;
  walk = w.walk;
  filter = c.filter;
  accum = c.accum;
  post = c.post;
  having = t.having;
  order = t.order;
  limit = t.limit;
}

abbrev pub resolved_select : Known → Sees → Select Bytes → Option Block
resolved_select k s q = resolved_from k s q >>= λ w. resolved_clauses k q >>= λ c. resolved_tail k q >>= λ t. Some (block_of w c t)
