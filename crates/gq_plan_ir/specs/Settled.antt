-- Settled: the data stored in a plan follow from it: a field's place from its name, the types of a tuple's fields from
-- the tuple type's number, the edge types that `outdegree` counts from its argument. And tuple types and slots are
-- numbered in order of declaration.
use Rattle.std.specs.Prelude.{ℕ, ◌==◌, Bool, true, false, ◌&&◌, List, [], ◌∷◌, ◌++◌, map, length, Option, Some, None}
use Rattle.std.specs.List.{list_all, range_with_len}
use Rattle.gq_rules_meaning.specs.AddSign.{AddSign}
use Rattle.gq_rules_meaning.specs.MulSign.{MulSign}
use Rattle.gq_value.specs.AccumViews.{base_of, bases}
use Rattle.gq_rules_meaning.specs.Sorts.{Sorts, bases_of, names_of, vertex_fields, edge_fields}
use Rattle.gq_rules_meaning.specs.Types.{same_bases}
use Rattle.gq_rules_meaning.specs.Words.{Owner, OfVertexType, OfEdgeType, OfTupleType, Setting, edge_quoted, place_of}
use Rattle.gq_rules_meaning.specs.FieldTypes.{tuple_fields}
use Rattle.gq_plan_ir.specs.declared.expr.Expr.{Expr, Expr-F, fold-Expr}
use Rattle.gq_plan_ir.specs.declared.expr.Behind.{Behind-F}
use Rattle.gq_plan_ir.specs.declared.expr.Field.{Field}
use Rattle.gq_plan_ir.specs.declared.expr.Field.TheVariants as field
use Rattle.gq_plan_ir.specs.declared.expr.FieldPlaces.{FieldPlaces}
use Rattle.gq_plan_ir.specs.declared.expr.Function.{Function}
use Rattle.gq_plan_ir.specs.declared.expr.Function.TheVariants as function
use Rattle.gq_plan_ir.specs.declared.block.Feed.{Feed, Feed-F, fold-Feed}
use Rattle.gq_plan_ir.specs.declared.block.Change.{Change}
use Rattle.gq_plan_ir.specs.declared.block.Change.TheVariants as change
use Rattle.gq_plan_ir.specs.declared.block.Act.{Act, Act-F, fold-Act}
use Rattle.gq_plan_ir.specs.declared.block.Block.{Block}
use Rattle.gq_plan_ir.specs.declared.step.Right.{Right}
use Rattle.gq_plan_ir.specs.declared.step.Right.TheVariants as right
use Rattle.gq_plan_ir.specs.declared.step.Over.{Over}
use Rattle.gq_plan_ir.specs.declared.step.Over.TheVariants as over
use Rattle.gq_plan_ir.specs.declared.step.PrintItem.{PrintItem}
use Rattle.gq_plan_ir.specs.declared.step.PrintItem.TheVariants as item
use Rattle.gq_plan_ir.specs.declared.step.Step.{Step, Step-F, fold-Step}
use Rattle.gq_plan_ir.specs.declared.plan.Accum as code
use Rattle.gq_plan_ir.specs.declared.plan.Definition.{Definition}
use Rattle.gq_plan_ir.specs.declared.plan.Definition.TheVariants as definition
use Rattle.gq_plan_ir.specs.declared.plan.Plan.{Plan}
use Rattle.gq_plan_ir.specs.Reference.{Reference}
use Rattle.gq_plan_ir.specs.References.{place_in}

abbrev pub all : List Bool → Bool
all bs = list_all (λ b. b) bs

abbrev pub all_in : {A : Type 0} → (A → Bool) → Option A → Bool
all_in test None = true
all_in test (Some a) = test a

abbrev pub same_place : Option ℕ → Option ℕ → Bool
same_place None None = true
same_place (Some n) (Some m) = n == m
same_place p q = false

abbrev pub same_numbers : List ℕ → List ℕ → Bool
same_numbers [] [] = true
same_numbers (n ∷ ns) (m ∷ ms) = (n == m) && same_numbers ns ms
same_numbers ns ms = false

-- empty parentheses mean every edge type of the graph
abbrev pub counted_types : Sorts → Option (List ℕ) → Option (List ℕ)
counted_types sorts None = Some sorts.own_edges
counted_types sorts (Some e) = one (edge_quoted sorts e)
  where
    one : Option ℕ → Option (List ℕ)
    one None = None
    one (Some t) = Some (t ∷ [])

abbrev pub are_counted : List ℕ → Option (List ℕ) → Bool
are_counted types None = false
are_counted types (Some ts) = same_numbers types ts

-- numbers from 0 on, in order
abbrev pub counts : List ℕ → Bool
counts ns = same_numbers ns (range_with_len 0 (length ns))

abbrev pub tuple_numbers : List Definition → List ℕ
tuple_numbers [] = []
tuple_numbers (definition.Tuple fields n ∷ ds) = n ∷ tuple_numbers ds
tuple_numbers (definition.Accums kind accums ∷ ds) = tuple_numbers ds

abbrev pub slot_numbers : List Definition → List ℕ
slot_numbers [] = []
slot_numbers (definition.Tuple fields n ∷ ds) = slot_numbers ds
slot_numbers (definition.Accums kind accums ∷ ds) = map (λ (a : code.Accum). a.slot) accums ++ slot_numbers ds

module _ (setting : Setting Reference) where
  -- the tables of a field agree with its name for each type of the graph and each tuple type
  abbrev pub is_field : Field → Bool
  is_field field.Type = true
  is_field (field.Named c) =
      list_all (λ t. stands c (OfVertexType t) (names_of (vertex_fields setting.sorts t))) setting.sorts.own_vertices
      && (list_all (λ t. stands c (OfEdgeType t) (names_of (edge_fields setting.sorts t))) setting.sorts.own_edges
      && list_all (λ t. stands c (OfTupleType t) (names_of (tuple_fields setting t))) (range_with_len 0 (length setting.tuples)))
    where
      stands : FieldPlaces → Owner → List (List ℕ) → Bool
      stands c owner names = same_place (place_in c owner names) (place_of names c.name)

  abbrev pub is_function : Function → Bool
  is_function (function.Tuple n fields) = same_bases (bases (map base_of fields)) (bases (bases_of (tuple_fields setting n)))
  is_function f = true

  -- ---- one layer, given the judgements of what is within

  abbrev pub expr_step : Expr-F Bool Bool → Bool
  expr_step (Expr-F.Call f arguments) = is_function f && all arguments
  expr_step (Expr-F.Post first parts) = first && all parts
  expr_step (Expr-F.Neg n t) = t
  expr_step (Expr-F.Mul first factors) = first && all (map {A = MulSign × Bool} (λ f. f.1) factors)
  expr_step (Expr-F.Sum first terms) = first && all (map {A = AddSign × Bool} (λ t. t.1) terms)
  expr_step (Expr-F.Cmp a sign b) = a && b
  expr_step (Expr-F.Not n t) = t
  expr_step (Expr-F.And first others) = first && all others
  expr_step (Expr-F.Or first others) = first && all others
  expr_step e = true

  abbrev pub behind_step : Behind-F Bool Bool → Bool
  behind_step (Behind-F.Field f) = is_field f
  behind_step (Behind-F.Method m arguments) = all arguments
  behind_step (Behind-F.Degree e types) = are_counted types (counted_types setting.sorts e)
  behind_step p = true

  unfoldable pub is_settled : Expr → Bool
  is_settled = fold-Expr Bool Bool behind_step expr_step

  -- ---- blocks

  abbrev pub feed_step : Feed-F Bool → Bool
  feed_step (Feed-F.One t) = is_settled t
  feed_step (Feed-F.Keyed keys xs) = list_all is_settled keys && all xs

  unfoldable pub is_settled_feed : Feed → Bool
  is_settled_feed = fold-Feed Bool feed_step

  abbrev pub is_settled_change : Change → Bool
  is_settled_change (change.Feed x) = is_settled_feed x
  is_settled_change (change.Set t) = is_settled t

  abbrev pub act_step : Act-F Bool → Bool
  act_step (Act-F.Attached v a c) = is_settled_change c
  act_step (Act-F.Global a c) = is_settled_change c
  act_step (Act-F.If branches others) = list_all (λ (b : Expr × List Bool). is_settled b.0 && all b.1) branches && all_in all others

  unfoldable pub is_settled_act : Act → Bool
  is_settled_act = fold-Act Bool act_step

  abbrev pub is_settled_block : Block → Bool
  is_settled_block q =
      all_in is_settled q.filter && (list_all is_settled_act q.accum && (list_all is_settled_act q.post && (all_in is_settled q.having
      && (list_all (λ (key : Expr × Bool). is_settled key.0) q.order && all_in is_settled q.limit))))

  -- ---- statements

  abbrev pub is_settled_right : Right → Bool
  is_settled_right (right.Select q) = is_settled_block q
  is_settled_right (right.Sets sets) = true
  is_settled_right (right.Value t) = is_settled t

  abbrev pub is_settled_over : Over → Bool
  is_settled_over (over.Elements t) = is_settled t
  is_settled_over (over.Range s t) = is_settled s && is_settled t

  abbrev pub is_settled_item : PrintItem → Bool
  is_settled_item (item.Value t key) = is_settled t
  is_settled_item (item.Columns set columns key) = list_all (λ (c : Expr × List ℕ). is_settled c.0) columns

  abbrev pub step_step : Step-F Bool → Bool
  step_step (Step-F.Local b xs) = list_all (λ (x : ℕ × Option Expr). all_in is_settled x.1) xs
  step_step (Step-F.Assign place types r) = is_settled_right r
  step_step (Step-F.Global slot c) = is_settled_change c
  step_step (Step-F.If branches others) = list_all (λ (b : Expr × List Bool). is_settled b.0 && all b.1) branches && all_in all others
  step_step (Step-F.While t limit body) = is_settled t && (all_in is_settled limit && all body)
  step_step (Step-F.Foreach place o body) = is_settled_over o && all body
  step_step (Step-F.Print items) = list_all is_settled_item items

  unfoldable pub is_settled_step : Step → Bool
  is_settled_step = fold-Step Bool step_step

  -- ---- plans

  abbrev pub is_settled_accum : code.Accum → Bool
  is_settled_accum a = all_in is_settled a.opening

  abbrev pub is_settled_definition : Definition → Bool
  is_settled_definition (definition.Tuple fields n) = true
  is_settled_definition (definition.Accums kind accums) = list_all is_settled_accum accums

  abbrev pub is_settled_plan : Plan → Bool
  is_settled_plan p =
      list_all is_settled_definition p.definitions && (list_all is_settled_step p.steps
      && (counts (tuple_numbers p.definitions) && counts (slot_numbers p.definitions)))
