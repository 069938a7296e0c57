-- StatementViews: the code's trees of statements, declarations and queries as plain data.
use Rattle.std.specs.Prelude.{Bool, false, List, [], ◌∷◌, map, Option, Some, None, codes}
use Rattle.std.specs.Option.{option_map, unwrap_or}
use Rattle.std.specs.List.{list_any}
use Rattle.std.specs.Str.{str_eq_ignore_ascii_case}
use Rattle.gq_tree.specs.Tree.{Tree}
use Rattle.gq_tree.specs.View.{Named, view}
use Rattle.gq_tree.specs.declared.expr.Node.{Node}
use Rattle.gq_tree.specs.declared.query.BaseTree.{BaseTree}
use Rattle.gq_tree.specs.declared.query.BaseTree.TheVariants as base
use Rattle.gq_tree.specs.declared.query.ParameterTree.{ParameterTree}
use Rattle.gq_tree.specs.declared.query.Mode.{Mode}
use Rattle.gq_tree.specs.declared.query.Mode.TheVariants as mode
use Rattle.gq_tree.specs.declared.query.QueryTree.{QueryTree}
use Rattle.gq_tree.specs.declared.schema.Literal.{Literal}
use Rattle.gq_tree.specs.declared.schema.Literal.TheVariants as literal
use Rattle.gq_tree.specs.declared.kind.Elem.{Elem}
use Rattle.gq_tree.specs.declared.kind.Elem.TheVariants as elem
use Rattle.gq_tree.specs.declared.kind.EntryTree.{EntryTree-F}
use Rattle.gq_tree.specs.declared.kind.KindTree.{KindTree, KindTree-F, fold-KindTree}
use Rattle.gq_tree.specs.declared.kind.AccumTree.{AccumTree}
use Rattle.gq_tree.specs.declared.kind.DefinitionTree.{DefinitionTree}
use Rattle.gq_tree.specs.declared.kind.DefinitionTree.TheVariants as definition
use Rattle.gq_tree.specs.declared.body.SeedTree.{SeedTree}
use Rattle.gq_tree.specs.declared.body.SeedTree.TheVariants as seed
use Rattle.gq_tree.specs.declared.body.SetTermTree.{SetTermTree}
use Rattle.gq_tree.specs.declared.body.SetTermTree.TheVariants as term
use Rattle.gq_tree.specs.declared.body.SetTypesTree.{SetTypesTree}
use Rattle.gq_tree.specs.declared.body.SetTypesTree.TheVariants as set_types
use Rattle.gq_tree.specs.declared.body.RightTree.{RightTree}
use Rattle.gq_tree.specs.declared.body.RightTree.TheVariants as right
use Rattle.gq_tree.specs.declared.body.OverTree.{OverTree}
use Rattle.gq_tree.specs.declared.body.OverTree.TheVariants as over
use Rattle.gq_tree.specs.declared.body.Label.{Label}
use Rattle.gq_tree.specs.declared.body.Label.TheVariants as label
use Rattle.gq_tree.specs.declared.body.ItemTree.{ItemTree}
use Rattle.gq_tree.specs.declared.body.ItemTree.TheVariants as item
use Rattle.gq_tree.specs.declared.body.Stmt.{Stmt, Stmt-F, fold-Stmt}
use Rattle.gq_rules_typing.specs.SelectViews.{view_change, view_select}
use Rattle.gq_rules_typing.specs.Statements as plain
use Rattle.gq_rules_typing.specs.Statements.{Bytes}

-- ---- types and kinds

abbrev pub view_base : BaseTree → plain.BaseTree Named
view_base base.Int = plain.Ints
view_base base.UInt = plain.UInts
view_base base.Bool = plain.Bools
view_base base.Text = plain.Strings
view_base base.AnyVertex = plain.AnyVertex
view_base (base.VertexOf name) = plain.VertexOf name

abbrev pub view_elem : Elem → plain.Elem Named
view_elem (elem.Base b) = plain.OfBase (view_base b)
view_elem (elem.Tuple name) = plain.OfTuple name

-- the content of a map: an element, or a kind
pub data HeldView : Type 0 where
  AnElem : plain.Elem Named → HeldView
  AKind : plain.KindTree Named → HeldView

abbrev pub held_step : EntryTree-F HeldView (plain.KindTree Named) → HeldView
held_step (EntryTree-F.Elem e) = AnElem (view_elem e)
held_step (EntryTree-F.Kind k) = AKind k

abbrev pub map_to : Elem → HeldView → plain.KindTree Named
map_to key (AnElem e) = plain.MapToElem (view_elem key) e
map_to key (AKind k) = plain.MapTo (view_elem key) k

abbrev pub part_trees : {N : Type 0} → List (plain.KindTree N × Bytes) → plain.PartTrees N
part_trees [] = plain.no_part_tree
part_trees (p ∷ ps) = plain.part_tree_and p.0 p.1 (part_trees ps)

abbrev pub view_fields : List (BaseTree × Bytes) → List (plain.BaseTree Named × Bytes)
view_fields fields = map (λ f. (view_base f.0, f.1)) fields

abbrev pub kind_step : KindTree-F HeldView (plain.KindTree Named) → plain.KindTree Named
kind_step (KindTree-F.Plain k e) = plain.OverElem k (view_elem e)
kind_step (KindTree-F.Bits k e) = plain.OverBits k (option_map view_elem e)
kind_step KindTree-F.Avg = plain.Averaged
kind_step (KindTree-F.Map key held) = map_to key held
kind_step (KindTree-F.Group keys parts) = plain.Grouped (view_fields keys) (part_trees parts)
kind_step (KindTree-F.Heap tuple capacity order) = plain.Heap tuple capacity order

unfoldable pub view_kind : KindTree → plain.KindTree Named
view_kind = fold-KindTree HeldView (plain.KindTree Named) held_step kind_step

-- ---- assignments and items

abbrev pub view_seed : SeedTree → plain.Seed Named
view_seed (seed.Type name) = plain.AllOf name
view_seed seed.Any = plain.AllVertices
view_seed (seed.Name name) = plain.OneVertex name
view_seed (seed.Global name) = plain.ContentOf name

abbrev pub view_term : SetTermTree → plain.SetTerm Named
view_term (term.Name name) = plain.SetNamed name
view_term (term.Seeds seeds) = plain.Seeds (map view_seed seeds)

abbrev pub view_set_types : SetTypesTree → plain.SetTypes Named
view_set_types set_types.Any = plain.AnyType
view_set_types (set_types.Of name) = plain.TypeOf name

abbrev pub view_right : RightTree → plain.Right Named
view_right (right.Select q) = plain.Selects (view_select q)
view_right (right.Sets sets) = plain.Sets (view_term sets.first) (map (λ s. (s.0, view_term s.1)) sets.others)
view_right (right.Value t) = plain.Expression (view t)

abbrev pub view_over : OverTree → plain.Over Named
view_over (over.Elements t) = plain.Elements (view t)
view_over (over.Range s t) = plain.Range (view s) (view t)

abbrev pub key_of : Label → Bytes
key_of (label.Named name) = name
key_of (label.Spelled spelling) = spelling

abbrev pub view_labelled : Node × Label → plain.Item Named
view_labelled i = record { tree = view i.0; key = key_of i.1 }

-- without AS a selection is keyed by its set
abbrev pub view_item : ItemTree → plain.Printed Named
view_item (item.Value t l) = plain.Whole (view_labelled (t, l))
view_item (item.Columns set columns name) = plain.Selection set (map view_labelled columns) (unwrap_or name set)

-- ---- statements

abbrev pub stmts_of : {N : Type 0} → List (plain.Stmt N) → plain.Stmts N
stmts_of [] = plain.no_stmt
stmts_of (s ∷ rest) = plain.stmt_and s (stmts_of rest)

abbrev pub stmts_or_none : {N : Type 0} → Option (List (plain.Stmt N)) → plain.Stmts N
stmts_or_none None = plain.no_stmt
stmts_or_none (Some stmts) = stmts_of stmts

abbrev pub branches_of : {N : Type 0} → List (Tree N × List (plain.Stmt N)) → Option (List (plain.Stmt N)) → plain.Branches N
branches_of [] others = plain.else_ (stmts_or_none others)
branches_of (b ∷ bs) others = plain.if_ b.0 (stmts_of b.1) (branches_of bs others)

abbrev pub view_locals : List (Bytes × Option Node) → List (Named × Option (Tree Named))
view_locals xs = map (λ x. (x.0, option_map view x.1)) xs

abbrev pub stmt_step : Stmt-F (plain.Stmt Named) → plain.Stmt Named
stmt_step (Stmt-F.Local b xs) = plain.Local (view_base b) (view_locals xs)
stmt_step (Stmt-F.Assign name types r) = plain.Assign name (option_map view_set_types types) (view_right r)
stmt_step (Stmt-F.Global name c) = plain.ChangeGlobal name (view_change c)
stmt_step (Stmt-F.If branches others) = plain.If (branches_of (map (λ b. (view b.0, b.1)) branches) others)
stmt_step (Stmt-F.While t limit body) = plain.While (view t) (option_map view limit) (stmts_of body)
stmt_step (Stmt-F.Foreach name o body) = plain.Foreach name (view_over o) (stmts_of body)
stmt_step (Stmt-F.Print items) = plain.Print (map view_item items)

unfoldable pub view_stmt : Stmt → plain.Stmt Named
view_stmt = fold-Stmt (plain.Stmt Named) stmt_step

abbrev pub view_stmts : List Stmt → plain.Stmts Named
view_stmts stmts = stmts_of (map view_stmt stmts)

-- ---- queries

abbrev pub view_accum : AccumTree → Bool × Named × Option (Tree Named)
view_accum a = (a.attached, a.name, option_map view a.opening)

abbrev pub view_definition : DefinitionTree → plain.Definition Named (plain.KindTree Named)
view_definition (definition.Tuple fields name) = plain.TupleType (view_fields fields) name
view_definition (definition.Accums kind accums) = plain.Accums (view_kind kind) (map view_accum accums)

abbrev pub view_literal : Literal → plain.Literal
view_literal (literal.Number minus n) = plain.Signed minus n
view_literal (literal.Text said) = plain.Quoted said
view_literal (literal.Truth b) = plain.Truthful b

abbrev pub view_parameter : ParameterTree → plain.Parameter Named
view_parameter p = record { base = view_base p.base; name = p.name; default = option_map view_literal p.default }

-- SYNTAX v2, in any case
abbrev pub is_v2 : Mode → Bool
is_v2 (mode.Api text) = false
is_v2 (mode.Syntax name) = str_eq_ignore_ascii_case name (codes "v2")

abbrev pub view_query : QueryTree → plain.Query Named
view_query q = record {
  parameters = map view_parameter q.parameters;
  with_paths = list_any is_v2 q.modes;
  definitions = map view_definition q.body.definitions;
  statements = view_stmts q.body.statements;
}
