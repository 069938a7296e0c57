-- TreeLemmas: the meaning of an input and of an act of each variant.
use Rattle.std.proofs.Common.{◌≡◌, suc, List, [], ◌∷◌, length, refl, map, Option, None, Some, sym, ap, ◌∙◌}
use Rattle.std.proofs.lemmas.Simd.{map-map}
use Rattle.gq_tree.specs.Tree.{Tree}
use Rattle.gq_tree.specs.View.{Named, view, views}
use Rattle.gq_tree.specs.declared.expr.Node.{Node}
use Rattle.gq_tree.specs.declared.select.InputTree.{InputTree, InputTree-F, fold-roll-InputTree}
use Rattle.gq_tree.specs.declared.select.InputTree.TheVariants as input
use Rattle.gq_tree.specs.declared.select.ChangeTree.{ChangeTree}
use Rattle.gq_tree.specs.declared.select.ActTree.{ActTree, ActTree-F, fold-roll-ActTree}
use Rattle.gq_tree.specs.declared.select.ActTree.TheVariants as act
use Rattle.gq_rules_typing.specs.Selecting as plain
use Rattle.gq_rules_typing.specs.ActTypes.{input_count}
use Rattle.gq_rules_typing.specs.SelectViews.{input_step, view_input, view_change, choices_of, act_step, view_act}
use Rattle.gq_check_select.specs.Trees.{view_inputs, view_choices}

pub view_input-One : (t : Node) → view_input (input.One t) ≡ plain.Plain (view t)
unfolding view_input
view_input-One t = ap view_input (sym (input.rolls-One t)) ∙ fold-roll-InputTree (plain.Input Named) input_step (InputTree-F.One t)

pub view_input-Keyed : (keys : List Node) (xs : List InputTree) → view_input (input.Keyed keys xs) ≡ plain.Keys (views keys) (view_inputs xs)
unfolding view_input
view_input-Keyed keys xs = ap view_input (sym (input.rolls-Keyed keys xs)) ∙ fold-roll-InputTree (plain.Input Named) input_step (InputTree-F.Keyed keys xs)

pub count_is : (xs : List InputTree) → input_count (view_inputs xs) ≡ length xs
count_is [] = refl
count_is (x ∷ xs) = ap suc (count_is xs)

pub ruleset input_laws = (view_input-One, view_input-Keyed, count_is)

pub view_act-Attached : (v a : Named) (c : ChangeTree) → view_act (act.Attached v a c) ≡ plain.AtAlias v a (view_change c)
unfolding view_act
view_act-Attached v a c = ap view_act (sym (act.rolls-Attached v a c)) ∙ fold-roll-ActTree (plain.Act Named) act_step (ActTree-F.Attached v a c)

pub view_act-Global : (a : Named) (c : ChangeTree) → view_act (act.Global a c) ≡ plain.AtGlobal a (view_change c)
unfolding view_act
view_act-Global a c = ap view_act (sym (act.rolls-Global a c)) ∙ fold-roll-ActTree (plain.Act Named) act_step (ActTree-F.Global a c)

-- the branches, with their inner acts viewed
viewed_twice : (branches : List (Node × List ActTree)) (others : Option (List (plain.Act Named)))
    → choices_of (map {A = Node × List (plain.Act Named)} {B = Tree Named × List (plain.Act Named)} (λ b. (view b.0, b.1)) (map {A = Node × List ActTree} {B = Node × List (plain.Act Named)} (λ b. (b.0, map view_act b.1)) branches)) others
    ≡ choices_of (map {A = Node × List ActTree} {B = Tree Named × List (plain.Act Named)} (λ b. (view b.0, map view_act b.1)) branches) others
viewed_twice branches others =
    ap (λ (bs : List (Tree Named × List (plain.Act Named))). choices_of bs others)
    (map-map {A = Node × List ActTree} {B = Node × List (plain.Act Named)} {C = Tree Named × List (plain.Act Named)} (λ b. (view b.0, b.1)) (λ b. (b.0, map view_act b.1)) branches)

pub view_act-If : (branches : List (Node × List ActTree)) (others : Option (List ActTree)) → view_act (act.If branches others) ≡ plain.Choose (view_choices branches others)
unfolding view_act
view_act-If branches None =
    ap view_act (sym (act.rolls-If branches None)) ∙ fold-roll-ActTree (plain.Act Named) act_step (ActTree-F.If branches None) ∙ ap plain.Choose (viewed_twice branches None)
view_act-If branches (Some xs) =
    ap view_act (sym (act.rolls-If branches (Some xs))) ∙ fold-roll-ActTree (plain.Act Named) act_step (ActTree-F.If branches (Some xs))
    ∙ ap plain.Choose (viewed_twice branches (Some (map view_act xs)))

pub ruleset act_laws = (view_act-Attached, view_act-Global, view_act-If)
