-- ViewLemmas: the equations of the view, one for each variant.
use Rattle.std.proofs.Common.{◌≡◌, ℕ, Bool, List, sym, ap, ◌∙◌}
use Rattle.gq_tree.specs.declared.expr.AddSign.{AddSign}
use Rattle.gq_tree.specs.declared.expr.MulSign.{MulSign}
use Rattle.gq_tree.specs.declared.expr.CmpSign.{CmpSign}
use Rattle.gq_tree.specs.declared.expr.Node.{Node, Node-F, fold-roll-Node}
use Rattle.gq_tree.specs.declared.expr.Node.TheVariants as node
use Rattle.gq_tree.specs.declared.expr.Part.{Part, Part-F, fold-roll-Part}
use Rattle.gq_tree.specs.declared.expr.Part.TheVariants as part
use Rattle.gq_tree.specs.Tree.{Tree, Behind, Number, Text, Truth, Global, Name, Call, Post, Neg, Mul, Sum, Cmp, Not, And, Or, Field, Method, Attached, Before}
use Rattle.gq_tree.specs.View.{Named, node_step, part_step, view, view_part, views, view_parts, view_factors, view_terms}

pub view-Number : (n : ℕ) → view (node.Number n) ≡ Number n
unfolding view view_part
view-Number n = ap view (sym (node.rolls-Number n)) ∙ fold-roll-Node (Tree Named) (Behind Named) node_step part_step (Node-F.Number n)

pub view-Text : (said : List ℕ) → view (node.Text said) ≡ Text said
unfolding view view_part
view-Text said = ap view (sym (node.rolls-Text said)) ∙ fold-roll-Node (Tree Named) (Behind Named) node_step part_step (Node-F.Text said)

pub view-Truth : (b : Bool) → view (node.Truth b) ≡ Truth b
unfolding view view_part
view-Truth b = ap view (sym (node.rolls-Truth b)) ∙ fold-roll-Node (Tree Named) (Behind Named) node_step part_step (Node-F.Truth b)

pub view-Global : (name : Named) → view (node.Global name) ≡ Global name
unfolding view view_part
view-Global name = ap view (sym (node.rolls-Global name)) ∙ fold-roll-Node (Tree Named) (Behind Named) node_step part_step (Node-F.Global name)

pub view-Name : (name : Named) → view (node.Name name) ≡ Name name
unfolding view view_part
view-Name name = ap view (sym (node.rolls-Name name)) ∙ fold-roll-Node (Tree Named) (Behind Named) node_step part_step (Node-F.Name name)

pub view-Call : (name : Named) (arguments : List Node) → view (node.Call name arguments) ≡ Call name (views arguments)
unfolding view view_part
view-Call name arguments = ap view (sym (node.rolls-Call name arguments)) ∙ fold-roll-Node (Tree Named) (Behind Named) node_step part_step (Node-F.Call name arguments)

pub view-Post : (first : Node) (parts : List Part) → view (node.Post first parts) ≡ Post (view first) (view_parts parts)
unfolding view view_part
view-Post first parts = ap view (sym (node.rolls-Post first parts)) ∙ fold-roll-Node (Tree Named) (Behind Named) node_step part_step (Node-F.Post first parts)

pub view-Neg : (n : ℕ) (t : Node) → view (node.Neg n t) ≡ Neg n (view t)
unfolding view view_part
view-Neg n t = ap view (sym (node.rolls-Neg n t)) ∙ fold-roll-Node (Tree Named) (Behind Named) node_step part_step (Node-F.Neg n t)

pub view-Mul : (first : Node) (factors : List (MulSign × Node)) → view (node.Mul first factors) ≡ Mul (view first) (view_factors factors)
unfolding view view_part
view-Mul first factors = ap view (sym (node.rolls-Mul first factors)) ∙ fold-roll-Node (Tree Named) (Behind Named) node_step part_step (Node-F.Mul first factors)

pub view-Sum : (first : Node) (terms : List (AddSign × Node)) → view (node.Sum first terms) ≡ Sum (view first) (view_terms terms)
unfolding view view_part
view-Sum first terms = ap view (sym (node.rolls-Sum first terms)) ∙ fold-roll-Node (Tree Named) (Behind Named) node_step part_step (Node-F.Sum first terms)

pub view-Cmp : (a : Node) (s : CmpSign) (b : Node) → view (node.Cmp a s b) ≡ Cmp (view a) s (view b)
unfolding view view_part
view-Cmp a s b = ap view (sym (node.rolls-Cmp a s b)) ∙ fold-roll-Node (Tree Named) (Behind Named) node_step part_step (Node-F.Cmp a s b)

pub view-Not : (n : ℕ) (t : Node) → view (node.Not n t) ≡ Not n (view t)
unfolding view view_part
view-Not n t = ap view (sym (node.rolls-Not n t)) ∙ fold-roll-Node (Tree Named) (Behind Named) node_step part_step (Node-F.Not n t)

pub view-And : (first : Node) (others : List Node) → view (node.And first others) ≡ And (view first) (views others)
unfolding view view_part
view-And first others = ap view (sym (node.rolls-And first others)) ∙ fold-roll-Node (Tree Named) (Behind Named) node_step part_step (Node-F.And first others)

pub view-Or : (first : Node) (others : List Node) → view (node.Or first others) ≡ Or (view first) (views others)
unfolding view view_part
view-Or first others = ap view (sym (node.rolls-Or first others)) ∙ fold-roll-Node (Tree Named) (Behind Named) node_step part_step (Node-F.Or first others)

pub view_part-Field : (name : Named) → view_part (part.Field name) ≡ Field name
unfolding view view_part
view_part-Field name = ap view_part (sym (part.rolls-Field name)) ∙ fold-roll-Part (Tree Named) (Behind Named) node_step part_step (Part-F.Field name)

pub view_part-Method : (name : Named) (arguments : List Node) → view_part (part.Method name arguments) ≡ Method name (views arguments)
unfolding view view_part
view_part-Method name arguments = ap view_part (sym (part.rolls-Method name arguments)) ∙ fold-roll-Part (Tree Named) (Behind Named) node_step part_step (Part-F.Method name arguments)

pub view_part-Attached : (name : Named) → view_part (part.Attached name) ≡ Attached name
unfolding view view_part
view_part-Attached name = ap view_part (sym (part.rolls-Attached name)) ∙ fold-roll-Part (Tree Named) (Behind Named) node_step part_step (Part-F.Attached name)

pub view_part-Before : (name : Named) → view_part (part.Before name) ≡ Before name
unfolding view view_part
view_part-Before name = ap view_part (sym (part.rolls-Before name)) ∙ fold-roll-Part (Tree Named) (Behind Named) node_step part_step (Part-F.Before name)

pub ruleset view_laws = (view-Number, view-Text, view-Truth, view-Global, view-Name, view-Call, view-Post, view-Neg, view-Mul, view-Sum, view-Cmp, view-Not, view-And, view-Or, view_part-Field, view_part-Method, view_part-Attached, view_part-Before)
