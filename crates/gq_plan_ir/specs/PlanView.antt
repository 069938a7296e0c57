-- PlanView: the statements of a plan, and a whole plan, as plain data.
use Rattle.std.specs.Prelude.{ℕ, Bool, List, [], ◌∷◌, map, Option, Some, None}
use Rattle.std.specs.Option.{option_map}
use Rattle.std.specs.List.{flat_map}
use Rattle.gq_rules_meaning.specs.Tree.{Tree}
use Rattle.gq_value.specs.Accums.{Accum}
use Rattle.gq_value.specs.AccumViews.{accum_of}
use Rattle.gq_rules_meaning.specs.TypingStatements as plain
use Rattle.gq_rules_meaning.specs.TypingStatements.{Bytes}
use Rattle.gq_rules_meaning.specs.StatementViews.{stmts_of, branches_of}
use Rattle.gq_plan_ir.specs.declared.step.Seed.{Seed}
use Rattle.gq_plan_ir.specs.declared.step.Seed.TheVariants as seed
use Rattle.gq_plan_ir.specs.declared.step.SetTerm.{SetTerm}
use Rattle.gq_plan_ir.specs.declared.step.SetTerm.TheVariants as term
use Rattle.gq_plan_ir.specs.declared.step.SetTypes.{SetTypes}
use Rattle.gq_plan_ir.specs.declared.step.SetTypes.TheVariants as set_types
use Rattle.gq_plan_ir.specs.declared.step.Right.{Right}
use Rattle.gq_plan_ir.specs.declared.step.Right.TheVariants as right
use Rattle.gq_plan_ir.specs.declared.step.Over.{Over}
use Rattle.gq_plan_ir.specs.declared.step.Over.TheVariants as over
use Rattle.gq_plan_ir.specs.declared.step.PrintItem.{PrintItem}
use Rattle.gq_plan_ir.specs.declared.step.PrintItem.TheVariants as item
use Rattle.gq_plan_ir.specs.declared.step.Step.{Step, Step-F, fold-Step}
use Rattle.gq_plan_ir.specs.declared.plan.Declared.{Declared}
use Rattle.gq_plan_ir.specs.declared.plan.Declared.TheVariants as declared
use Rattle.gq_plan_ir.specs.declared.plan.Parameter.{Parameter}
use Rattle.gq_plan_ir.specs.declared.plan.Accum as code
use Rattle.gq_plan_ir.specs.declared.plan.Definition.{Definition}
use Rattle.gq_plan_ir.specs.declared.plan.Definition.TheVariants as definition
use Rattle.gq_plan_ir.specs.declared.plan.Plan.{Plan}
use Rattle.gq_plan_ir.specs.declared.expr.Expr.{Expr}
use Rattle.gq_plan_ir.specs.Reference.{Reference, Place, Slot, VertexType, TupleType}
use Rattle.gq_plan_ir.specs.ExprView.{view}
use Rattle.gq_plan_ir.specs.BlockView.{view_change, view_block}

-- ---- types

abbrev pub view_declared : Declared → plain.BaseTree Reference
view_declared declared.Int = plain.Ints
view_declared declared.UInt = plain.UInts
view_declared declared.Bool = plain.Bools
view_declared declared.Text = plain.Strings
view_declared declared.AnyVertex = plain.AnyVertex
view_declared (declared.VertexOf t) = plain.VertexOf (VertexType t)

-- ---- assignments and items

abbrev pub view_seed : Seed → plain.Seed Reference
view_seed (seed.Type t) = plain.AllOf (VertexType t)
view_seed seed.Every = plain.AllVertices
view_seed (seed.Name place) = plain.OneVertex (Place place)
view_seed (seed.Global slot) = plain.ContentOf (Slot slot)

abbrev pub view_term : SetTerm → plain.SetTerm Reference
view_term (term.Name place) = plain.SetNamed (Place place)
view_term (term.Seeds seeds) = plain.Seeds (map view_seed seeds)

abbrev pub view_set_types : SetTypes → plain.SetTypes Reference
view_set_types set_types.Every = plain.AnyType
view_set_types (set_types.Of t) = plain.TypeOf (VertexType t)

abbrev pub view_right : Right → plain.Right Reference
view_right (right.Select q) = plain.Selects (view_block q)
view_right (right.Sets sets) = plain.Sets (view_term sets.first) (map (λ s. (s.0, view_term s.1)) sets.others)
view_right (right.Value t) = plain.Expression (view t)

abbrev pub view_over : Over → plain.Over Reference
view_over (over.Elements t) = plain.Elements (view t)
view_over (over.Range s t) = plain.Range (view s) (view t)

abbrev pub view_keyed : Expr × Bytes → plain.Item Reference
view_keyed i = record { tree = view i.0; key = i.1 }

abbrev pub view_item : PrintItem → plain.Printed Reference
view_item (item.Value t key) = plain.Whole (view_keyed (t, key))
view_item (item.Columns set columns key) = plain.Selection (Place set) (map view_keyed columns) key

-- ---- statements

abbrev pub view_locals : List (ℕ × Option Expr) → List (Reference × Option (Tree Reference))
view_locals xs = map (λ x. (Place x.0, option_map view x.1)) xs

abbrev pub step_step : Step-F (plain.Stmt Reference) → plain.Stmt Reference
step_step (Step-F.Local b xs) = plain.Local (view_declared b) (view_locals xs)
step_step (Step-F.Assign place types r) = plain.Assign (Place place) (option_map view_set_types types) (view_right r)
step_step (Step-F.Global slot c) = plain.ChangeGlobal (Slot slot) (view_change c)
step_step (Step-F.If branches others) = plain.If (branches_of (map (λ b. (view b.0, b.1)) branches) others)
step_step (Step-F.While t limit body) = plain.While (view t) (option_map view limit) (stmts_of body)
step_step (Step-F.Foreach place o body) = plain.Foreach (Place place) (view_over o) (stmts_of body)
step_step (Step-F.Print items) = plain.Print (map view_item items)

unfoldable pub view_step : Step → plain.Stmt Reference
view_step = fold-Step (plain.Stmt Reference) step_step

abbrev pub view_steps : List Step → plain.Stmts Reference
view_steps steps = stmts_of (map view_step steps)

-- ---- plans

abbrev pub view_accum : code.Accum → Bool × Reference × Option (Tree Reference)
view_accum a = (a.attached, Slot a.slot, option_map view a.opening)

abbrev pub view_definition : Definition → plain.Definition Reference Accum
view_definition (definition.Tuple fields n) = plain.TupleType (map (λ f. (view_declared f.0, f.1)) fields) (TupleType n)
view_definition (definition.Accums kind accums) = plain.Accums (accum_of kind) (map view_accum accums)

-- the names of the accumulators, in order of declaration
abbrev pub names_in : Definition → List Bytes
names_in (definition.Tuple fields n) = []
names_in (definition.Accums kind accums) = map (λ (a : code.Accum). a.name) accums

abbrev pub accum_names : Plan → List Bytes
accum_names p = flat_map names_in p.definitions

abbrev pub view_parameter : Parameter → plain.Parameter Reference
view_parameter p = record { base = view_declared p.base; name = Place p.place; default = None }

abbrev pub view_plan : Plan → plain.QueryOver Reference Accum
view_plan p = record {
  parameters = map view_parameter p.parameters;
  with_paths = p.with_paths;
  definitions = map view_definition p.definitions;
  statements = view_steps p.steps;
}
