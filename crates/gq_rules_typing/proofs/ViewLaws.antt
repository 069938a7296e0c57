-- ViewLaws: the equations of the views of statements, one for each variant.
use Rattle.std.proofs.Common.{◌≡◌, ℕ, Bool, List, map, Option, None, Some, sym, ap, ◌∙◌}
use Rattle.std.specs.Option.{option_map}
use Rattle.gq_tree.specs.View.{Named, view, views}
use Rattle.gq_tree.specs.declared.expr.Node.{Node}
use Rattle.gq_tree.specs.declared.query.BaseTree.{BaseTree}
use Rattle.gq_tree.specs.declared.select.InputTree.{InputTree, InputTree-F, fold-roll-InputTree}
use Rattle.gq_tree.specs.declared.select.InputTree.TheVariants as input
use Rattle.gq_tree.specs.declared.select.ChangeTree.{ChangeTree}
use Rattle.gq_tree.specs.declared.select.ActTree.{ActTree, ActTree-F, fold-roll-ActTree}
use Rattle.gq_tree.specs.declared.select.ActTree.TheVariants as act
use Rattle.gq_tree.specs.declared.kind.Plain.{Plain}
use Rattle.gq_tree.specs.declared.kind.Bits.{Bits}
use Rattle.gq_tree.specs.declared.kind.Elem.{Elem}
use Rattle.gq_tree.specs.declared.kind.EntryTree.{EntryTree, EntryTree-F, fold-EntryTree, fold-roll-EntryTree}
use Rattle.gq_tree.specs.declared.kind.EntryTree.TheVariants as held
use Rattle.gq_tree.specs.declared.kind.KindTree.{KindTree, KindTree-F, fold-roll-KindTree}
use Rattle.gq_tree.specs.declared.kind.KindTree.TheVariants as kind
use Rattle.gq_tree.specs.declared.body.SetTypesTree.{SetTypesTree}
use Rattle.gq_tree.specs.declared.body.RightTree.{RightTree}
use Rattle.gq_tree.specs.declared.body.OverTree.{OverTree}
use Rattle.gq_tree.specs.declared.body.ItemTree.{ItemTree}
use Rattle.gq_tree.specs.declared.body.Stmt.{Stmt, Stmt-F, fold-roll-Stmt}
use Rattle.gq_tree.specs.declared.body.Stmt.TheVariants as stmt
use Rattle.gq_rules_typing.specs.Selecting as plain
use Rattle.gq_rules_typing.specs.Statements as plain_stmt
use Rattle.gq_rules_typing.specs.SelectViews.{inputs_of, input_step, view_input, view_change, act_step, view_act, choices_of}
use Rattle.gq_rules_typing.specs.StatementViews.{HeldView, AnElem, AKind, held_step, kind_step, view_base, view_elem, map_to, part_trees, view_fields, view_kind, view_set_types, view_right, view_over, view_item, stmt_step, view_stmt, view_stmts, view_locals, branches_of}

pub view_input-One : (t : Node) → view_input (input.One t) ≡ plain.Plain (view t)
unfolding view_input
view_input-One t = ap view_input (sym (input.rolls-One t)) ∙ fold-roll-InputTree (plain.Input Named) input_step (InputTree-F.One t)

pub view_input-Keyed : (keys : List Node) (xs : List InputTree) → view_input (input.Keyed keys xs) ≡ plain.Keys (views keys) (inputs_of (map view_input xs))
unfolding view_input
view_input-Keyed keys xs = ap view_input (sym (input.rolls-Keyed keys xs)) ∙ fold-roll-InputTree (plain.Input Named) input_step (InputTree-F.Keyed keys xs)

pub view_act-Attached : (v : List ℕ) (a : List ℕ) (c : ChangeTree) → view_act (act.Attached v a c) ≡ plain.AtAlias v a (view_change c)
unfolding view_act
view_act-Attached v a c = ap view_act (sym (act.rolls-Attached v a c)) ∙ fold-roll-ActTree (plain.Act Named) act_step (ActTree-F.Attached v a c)

pub view_act-Global : (a : List ℕ) (c : ChangeTree) → view_act (act.Global a c) ≡ plain.AtGlobal a (view_change c)
unfolding view_act
view_act-Global a c = ap view_act (sym (act.rolls-Global a c)) ∙ fold-roll-ActTree (plain.Act Named) act_step (ActTree-F.Global a c)

-- IF, given the views of its branches
abbrev pub view_choices : List (Node × List ActTree) → Option (List ActTree) → plain.Choices Named
view_choices branches others = choices_of (map {A = Node × List (plain.Act Named)} (λ b. (view b.0, b.1)) (map {A = Node × List ActTree} (λ b. (b.0, map view_act b.1)) branches)) (option_map (map view_act) others)

pub view_act-If : (branches : List (Node × List ActTree)) (others : Option (List ActTree)) → view_act (act.If branches others) ≡ plain.Choose (view_choices branches others)
unfolding view_act
view_act-If branches None = ap view_act (sym (act.rolls-If branches None)) ∙ fold-roll-ActTree (plain.Act Named) act_step (ActTree-F.If branches None)
view_act-If branches (Some xs) = ap view_act (sym (act.rolls-If branches (Some xs))) ∙ fold-roll-ActTree (plain.Act Named) act_step (ActTree-F.If branches (Some xs))

-- the content of a map
unfoldable pub view_held : EntryTree → HeldView
view_held = fold-EntryTree HeldView (plain_stmt.KindTree Named) held_step kind_step

pub view_held-Elem : (e : Elem) → view_held (held.Elem e) ≡ AnElem (view_elem e)
unfolding view_kind view_held
view_held-Elem e = ap view_held (sym (held.rolls-Elem e)) ∙ fold-roll-EntryTree HeldView (plain_stmt.KindTree Named) held_step kind_step (EntryTree-F.Elem e)

pub view_held-Kind : (k : KindTree) → view_held (held.Kind k) ≡ AKind (view_kind k)
unfolding view_kind view_held
view_held-Kind k = ap view_held (sym (held.rolls-Kind k)) ∙ fold-roll-EntryTree HeldView (plain_stmt.KindTree Named) held_step kind_step (EntryTree-F.Kind k)

pub view_kind-Plain : (k : Plain) (e : Elem) → view_kind (kind.Plain k e) ≡ plain_stmt.OverElem k (view_elem e)
unfolding view_kind view_held
view_kind-Plain k e = ap view_kind (sym (kind.rolls-Plain k e)) ∙ fold-roll-KindTree HeldView (plain_stmt.KindTree Named) held_step kind_step (KindTree-F.Plain k e)

pub view_kind-Bits : (k : Bits) (e : Option Elem) → view_kind (kind.Bits k e) ≡ plain_stmt.OverBits k (option_map view_elem e)
unfolding view_kind view_held
view_kind-Bits k e = ap view_kind (sym (kind.rolls-Bits k e)) ∙ fold-roll-KindTree HeldView (plain_stmt.KindTree Named) held_step kind_step (KindTree-F.Bits k e)

pub view_kind-Avg : view_kind kind.Avg ≡ plain_stmt.Averaged
unfolding view_kind view_held
view_kind-Avg = ap view_kind (sym kind.rolls-Avg) ∙ fold-roll-KindTree HeldView (plain_stmt.KindTree Named) held_step kind_step KindTree-F.Avg

pub view_kind-Map : (key : Elem) (h : EntryTree) → view_kind (kind.Map key h) ≡ map_to key (view_held h)
unfolding view_kind view_held
view_kind-Map key h = ap view_kind (sym (kind.rolls-Map key h)) ∙ fold-roll-KindTree HeldView (plain_stmt.KindTree Named) held_step kind_step (KindTree-F.Map key h)

pub view_kind-Group : (keys : List (BaseTree × List ℕ)) (parts : List (KindTree × List ℕ)) → view_kind (kind.Group keys parts) ≡ plain_stmt.Grouped (view_fields keys) (part_trees (map (λ p. (view_kind p.0, p.1)) parts))
unfolding view_kind view_held
view_kind-Group keys parts = ap view_kind (sym (kind.rolls-Group keys parts)) ∙ fold-roll-KindTree HeldView (plain_stmt.KindTree Named) held_step kind_step (KindTree-F.Group keys parts)

pub view_kind-Heap : (t : List ℕ) (n : ℕ) (order : List (List ℕ × Bool)) → view_kind (kind.Heap t n order) ≡ plain_stmt.Heap t n order
unfolding view_kind view_held
view_kind-Heap t n order = ap view_kind (sym (kind.rolls-Heap t n order)) ∙ fold-roll-KindTree HeldView (plain_stmt.KindTree Named) held_step kind_step (KindTree-F.Heap t n order)

pub view_stmt-Local : (b : BaseTree) (xs : List (List ℕ × Option Node)) → view_stmt (stmt.Local b xs) ≡ plain_stmt.Local (view_base b) (view_locals xs)
unfolding view_stmt
view_stmt-Local b xs = ap view_stmt (sym (stmt.rolls-Local b xs)) ∙ fold-roll-Stmt (plain_stmt.Stmt Named) stmt_step (Stmt-F.Local b xs)

pub view_stmt-Assign : (x : List ℕ) (types : Option SetTypesTree) (r : RightTree) → view_stmt (stmt.Assign x types r) ≡ plain_stmt.Assign x (option_map view_set_types types) (view_right r)
unfolding view_stmt
view_stmt-Assign x types r = ap view_stmt (sym (stmt.rolls-Assign x types r)) ∙ fold-roll-Stmt (plain_stmt.Stmt Named) stmt_step (Stmt-F.Assign x types r)

pub view_stmt-Global : (a : List ℕ) (c : ChangeTree) → view_stmt (stmt.Global a c) ≡ plain_stmt.ChangeGlobal a (view_change c)
unfolding view_stmt
view_stmt-Global a c = ap view_stmt (sym (stmt.rolls-Global a c)) ∙ fold-roll-Stmt (plain_stmt.Stmt Named) stmt_step (Stmt-F.Global a c)

-- IF, given the views of its branches
abbrev pub view_branches : List (Node × List Stmt) → Option (List Stmt) → plain_stmt.Branches Named
view_branches branches others = branches_of (map {A = Node × List (plain_stmt.Stmt Named)} (λ b. (view b.0, b.1)) (map {A = Node × List Stmt} (λ b. (b.0, map view_stmt b.1)) branches)) (option_map (map view_stmt) others)

pub view_stmt-If : (branches : List (Node × List Stmt)) (others : Option (List Stmt)) → view_stmt (stmt.If branches others) ≡ plain_stmt.If (view_branches branches others)
unfolding view_stmt
view_stmt-If branches None = ap view_stmt (sym (stmt.rolls-If branches None)) ∙ fold-roll-Stmt (plain_stmt.Stmt Named) stmt_step (Stmt-F.If branches None)
view_stmt-If branches (Some xs) = ap view_stmt (sym (stmt.rolls-If branches (Some xs))) ∙ fold-roll-Stmt (plain_stmt.Stmt Named) stmt_step (Stmt-F.If branches (Some xs))

pub view_stmt-While : (t : Node) (limit : Option Node) (body : List Stmt) → view_stmt (stmt.While t limit body) ≡ plain_stmt.While (view t) (option_map view limit) (view_stmts body)
unfolding view_stmt
view_stmt-While t limit body = ap view_stmt (sym (stmt.rolls-While t limit body)) ∙ fold-roll-Stmt (plain_stmt.Stmt Named) stmt_step (Stmt-F.While t limit body)

pub view_stmt-Foreach : (x : List ℕ) (o : OverTree) (body : List Stmt) → view_stmt (stmt.Foreach x o body) ≡ plain_stmt.Foreach x (view_over o) (view_stmts body)
unfolding view_stmt
view_stmt-Foreach x o body = ap view_stmt (sym (stmt.rolls-Foreach x o body)) ∙ fold-roll-Stmt (plain_stmt.Stmt Named) stmt_step (Stmt-F.Foreach x o body)

pub view_stmt-Print : (items : List ItemTree) → view_stmt (stmt.Print items) ≡ plain_stmt.Print (map view_item items)
unfolding view_stmt
view_stmt-Print items = ap view_stmt (sym (stmt.rolls-Print items)) ∙ fold-roll-Stmt (plain_stmt.Stmt Named) stmt_step (Stmt-F.Print items)

pub ruleset statement_laws = (view_input-One, view_input-Keyed, view_act-Attached, view_act-Global, view_act-If, view_held-Elem, view_held-Kind, view_kind-Plain, view_kind-Bits, view_kind-Avg, view_kind-Map, view_kind-Group, view_kind-Heap, view_stmt-Local, view_stmt-Assign, view_stmt-Global, view_stmt-If, view_stmt-While, view_stmt-Foreach, view_stmt-Print)
