use Rattle.std.proofs.Common.{rules, List, ℕ, Bool, map, ap, ◌∙◌}
use Rattle.gq_value.specs.declared.kind.BaseType.{BaseType}
use Rattle.gq_value.specs.declared.kind.Kind.{Kind}
use Rattle.gq_value.specs.Accums.{Keyed}
use Rattle.gq_value.specs.AccumViews.{accum_of, base_of, given, givens, parts_of}
use Rattle.gq_value.specs.Views.{val}
use Rattle.gq_value.specs.Typed.{row_is_of, suits, suit}
use Rattle.gq_value.proofs.AccumLemmas.{accum_of-Group}
use Rattle.gq_exec_feed.proofs.SuitLemmas.{one_none, parts_uneven, group_suits, then_both, else_both}
use Rattle.gq_exec_feed.proofs.inputs.+inputs.Goals as goal

pub keyed_suits-returns-then-keys_are_of : goal.keyed_suits-returns-then-keys_are_of
keyed_suits-returns-then-keys_are_of t c =
    let whole : Bool = suits (accum_of c.args.kind.now) (Keyed (map val c.args.keys.now) (givens (map given c.args.parts.now))) in
    let keys : Bool = row_is_of (map (λ (k : List ℕ × BaseType). base_of k.1) c.in-Group.shape.keys) (map val c.args.keys.now) in
    let parts : Bool = suit (parts_of (map (λ (p : List ℕ × Kind). (p.0, accum_of p.1)) c.in-Group.shape.parts)) (givens (map given c.args.parts.now)) in
    then_both whole keys parts c.keys_are_of.result c.parts_suit.result
    (group_suits c.in-Group.shape.keys c.in-Group.shape.parts (accum_of c.args.kind.now) (map val c.args.keys.now) (givens (map given c.args.parts.now)) (ap accum_of c.in-Group.is ∙ accum_of-Group c.in-Group.shape))
    (search rules) (c.parts_suit.ensures ∙ ap (λ (l : List (List ℕ × Kind)). suit (parts_of (map (λ (p : List ℕ × Kind). (p.0, accum_of p.1)) l)) (givens (map given c.args.parts.now))) c.as_slice-then-keys_are_of.ensures) (search rules)

pub keyed_suits-returns-else-keys_are_of : goal.keyed_suits-returns-else-keys_are_of
keyed_suits-returns-else-keys_are_of t c =
    let whole : Bool = suits (accum_of c.args.kind.now) (Keyed (map val c.args.keys.now) (givens (map given c.args.parts.now))) in
    let keys : Bool = row_is_of (map (λ (k : List ℕ × BaseType). base_of k.1) c.in-Group.shape.keys) (map val c.args.keys.now) in
    let parts : Bool = suit (parts_of (map (λ (p : List ℕ × Kind). (p.0, accum_of p.1)) c.in-Group.shape.parts)) (givens (map given c.args.parts.now)) in
    else_both whole keys parts c.keys_are_of.result
    (group_suits c.in-Group.shape.keys c.in-Group.shape.parts (accum_of c.args.kind.now) (map val c.args.keys.now) (givens (map given c.args.parts.now)) (ap accum_of c.in-Group.is ∙ accum_of-Group c.in-Group.shape))
    (search rules) (search rules)

pub one_suits-returns-in-empty-2 : goal.one_suits-returns-in-empty-2
one_suits-returns-in-empty-2 t c = one_none (accum_of c.args.kind.now) c.args.inputs.now c.in-empty.len_at_least

pub parts_suit-returns-then-inputs-parts : goal.parts_suit-returns-then-inputs-parts
parts_suit-returns-then-inputs-parts t c = parts_uneven c.args.parts.now c.args.inputs.now c.if-inputs-parts.true
