-- Parts: the parts of a plan's statements that bring no name into view, from those with names; None if something isn't
-- found.
use Rattle.std.specs.Prelude.{Bool, true, false, List, map, Option, Some, None}
use Rattle.std.specs.Option.{unwrap_or}
use Rattle.gq_tree.specs.Tree.{Tree, Name}
use Rattle.gq_tree.specs.declared.body.SetOp.{SetOp}
use Rattle.gq_tree.specs.declared.expr.Node.{Node}
use Rattle.gq_tree.specs.declared.body.SeedTree as code
use Rattle.gq_tree.specs.declared.body.SetTermTree as term_code
use Rattle.gq_tree.specs.declared.body.Label.{Label}
use Rattle.gq_tree.specs.declared.body.ItemTree as item_code
use Rattle.gq_tree.specs.declared.select.StepTree.{StepTree}
use Rattle.gq_rules_typing.specs.Selecting.{Step}
use Rattle.gq_rules_typing.specs.SelectViews.{view_step}
use Rattle.gq_rules_typing.specs.StatementViews.{view_seed, view_term, view_labelled, view_item}
use Rattle.gq_scope.specs.Named.{Named, place_at, is_marked}
use Rattle.gq_rules_typing.specs.Statements as plain
use Rattle.gq_rules_typing.specs.Statements.{Bytes}
use Rattle.gq_plan_ir.specs.declared.expr.Expr.{Expr}
use Rattle.gq_plan_ir.specs.declared.plan.Declared.{Declared}
use Rattle.gq_plan_ir.specs.declared.plan.Declared.TheVariants as declared
use Rattle.gq_plan_ir.specs.declared.step.Seed.{Seed}
use Rattle.gq_plan_ir.specs.declared.step.Seed.TheVariants as seed
use Rattle.gq_plan_ir.specs.declared.step.SetTerm.{SetTerm}
use Rattle.gq_plan_ir.specs.declared.step.SetTerm.TheVariants as term
use Rattle.gq_plan_ir.specs.declared.step.Sets.{Sets}
use Rattle.gq_plan_ir.specs.declared.step.SetTypes.{SetTypes}
use Rattle.gq_plan_ir.specs.declared.step.SetTypes.TheVariants as set_types
use Rattle.gq_plan_ir.specs.declared.step.Over.{Over}
use Rattle.gq_plan_ir.specs.declared.step.Over.TheVariants as over
use Rattle.gq_plan_ir.specs.declared.step.PrintItem.{PrintItem}
use Rattle.gq_plan_ir.specs.declared.step.PrintItem.TheVariants as item
use Rattle.gq_plan_expr.specs.Known.{Known}
use Rattle.gq_plan_expr.specs.Resolved.{◌>>=◌, resolved}
use Rattle.gq_plan_select.specs.Resolved.{each_resolved}
use Rattle.gq_plan_expr.specs.Globals.{Globals}

-- ---- the code's lists as plain data

abbrev pub view_seeds : List code.SeedTree → List (plain.Seed Bytes)
view_seeds trees = map view_seed trees

abbrev pub view_operands : List (SetOp × term_code.SetTermTree) → List (SetOp × plain.SetTerm Bytes)
view_operands trees = map (λ s. (s.0, view_term s.1)) trees

abbrev pub view_columns : List (Node × Label) → List (plain.Item Bytes)
view_columns trees = map view_labelled trees

abbrev pub view_items : List item_code.ItemTree → List (plain.Printed Bytes)
view_items trees = map view_item trees

abbrev pub view_path : List StepTree → List (Step Bytes)
view_path trees = map view_step trees

-- without AS the key of a selection is the name of its set
abbrev pub selection_key : Bytes → Option Bytes → Bytes
selection_key set name = unwrap_or name set

-- the aliases of a last step
abbrev pub last_edge : Option (Step Bytes) → Option Bytes
last_edge None = None
last_edge (Some s) = s.edge_alias

abbrev pub last_target : Option (Step Bytes) → Option Bytes
last_target None = None
last_target (Some s) = s.target_alias

-- ---- types

-- the type of a declaration
abbrev pub resolved_base : Globals → plain.BaseTree Bytes → Option Declared
resolved_base g plain.Ints = Some declared.Int
resolved_base g plain.UInts = Some declared.UInt
resolved_base g plain.Bools = Some declared.Bool
resolved_base g plain.Strings = Some declared.Text
resolved_base g plain.AnyVertex = Some declared.AnyVertex
resolved_base g (plain.VertexOf t) = g.vertex_type t >>= λ n. Some (declared.VertexOf n)

-- ---- sets

abbrev pub resolved_seed : Globals → Named → plain.Seed Bytes → Option Seed
resolved_seed g n (plain.AllOf t) = g.vertex_type t >>= λ m. Some (seed.Type m)
resolved_seed g n plain.AllVertices = Some seed.Every
resolved_seed g n (plain.OneVertex x) = place_at n x >>= λ m. Some (seed.Name m)
resolved_seed g n (plain.ContentOf a) = g.slot a >>= λ m. Some (seed.Global m)

abbrev pub resolved_term : Globals → Named → plain.SetTerm Bytes → Option SetTerm
resolved_term g n (plain.SetNamed x) = place_at n x >>= λ m. Some (term.Name m)
resolved_term g n (plain.Seeds seeds) = each_resolved (resolved_seed g n) seeds >>= λ ss. Some (term.Seeds ss)

abbrev pub resolved_operand : Globals → Named → SetOp × plain.SetTerm Bytes → Option (SetOp × SetTerm)
resolved_operand g n t = resolved_term g n t.1 >>= λ u. Some (t.0, u)

abbrev pub resolved_sets : Globals → Named → plain.SetTerm Bytes → List (SetOp × plain.SetTerm Bytes) → Option Sets
resolved_sets g n t rest = resolved_term g n t >>= λ first. each_resolved (resolved_operand g n) rest >>= λ others. Some (record { first = first; others = others })

abbrev pub resolved_set_types : Globals → plain.SetTypes Bytes → Option SetTypes
resolved_set_types g plain.AnyType = Some set_types.Every
resolved_set_types g (plain.TypeOf t) = g.vertex_type t >>= λ n. Some (set_types.Of n)

-- whether a right side is a set: a SELECT, a set expression, or only a set's name
abbrev pub is_set_name : Named → Tree Bytes → Bool
is_set_name n (Name y) = is_marked n y
is_set_name n t = false

abbrev pub is_set_right : Named → plain.Right Bytes → Bool
is_set_right n (plain.Selects q) = true
is_set_right n (plain.Sets t rest) = true
is_set_right n (plain.Expression t) = is_set_name n t

-- ---- what FOREACH iterates over, and what is printed

abbrev pub resolved_over : Known → plain.Over Bytes → Option Over
resolved_over k (plain.Elements t) = resolved k t >>= λ e. Some (over.Elements e)
resolved_over k (plain.Range s t) = resolved k s >>= λ a. resolved k t >>= λ b. Some (over.Range a b)

abbrev pub resolved_keyed : Known → plain.Item Bytes → Option (Expr × Bytes)
resolved_keyed k i = resolved k i.tree >>= λ e. Some (e, i.key)

abbrev pub resolved_item : Known → plain.Printed Bytes → Option PrintItem
resolved_item k (plain.Whole i) = resolved k i.tree >>= λ e. Some (item.Value e i.key)
resolved_item k (plain.Selection x items key) = k.place x >>= λ n. each_resolved (resolved_keyed k) items >>= λ columns. Some (item.Columns n columns key)
