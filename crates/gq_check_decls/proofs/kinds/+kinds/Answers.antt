use Rattle.std.proofs.Common.{◌≡◌, ◌∙◌, ap, sym, subst, map, drop, List, [], ◌∷◌, ◌++◌, ℕ, ◌+◌, ◌-◌, Ok, true, rules}
use Rattle.std.proofs.lemmas.List.{drop_more, at_drop_all}
use Rattle.gq_value.specs.AccumViews.{accum_of}
use Rattle.gq_value.specs.Accums.{Accum, Parts}
use Rattle.gq_value.specs.declared.kind.Kind.{Kind}
use Rattle.gq_value.specs.declared.kind.BaseType.{BaseType}
use Rattle.gq_tree.specs.declared.query.BaseTree.{BaseTree}
use Rattle.gq_tree.specs.declared.kind.KindTree.TheVariants as kind
use Rattle.gq_tree.specs.declared.kind.KindTree.{KindTree}
use Rattle.gq_rules_typing.specs.Statements.{Bytes}
use Rattle.gq_rules_typing.specs.Statements as plain
use Rattle.gq_rules_typing.specs.Sorts.{names_of}
use Rattle.gq_rules_typing.specs.Judging.{Judged, ◌>>=◌}
use Rattle.gq_rules_typing.specs.Scopes.{Scope}
use Rattle.gq_rules_typing.proofs.ViewLaws.{view_kind-Group}
use Rattle.gq_check_from.specs.Faults.{Judges}
use Rattle.gq_check_decls.specs.Written.{group}
use Rattle.gq_rules_typing.specs.KindTypes.{part_name, level_left, kind_within, parts_within, fields_written}
use Rattle.gq_rules_typing.specs.StatementViews.{view_kind, view_fields, part_trees}
use Rattle.gq_scope.specs.Held.{fields_of, scope_in}
use Rattle.gq_check_decls.proofs.KindLemmas.{parts_after, parts_goes, parts_all, group_rule}
use Rattle.gq_check_decls.proofs.kinds.+kinds.Goals as goal

abbrev views : List (KindTree × Bytes) → plain.PartTrees Bytes
views ts = part_trees (map {A = KindTree × Bytes} {B = plain.KindTree Bytes × Bytes} (λ p. (view_kind p.0, p.1)) ts)

abbrev names : List (Bytes × Kind) → List Bytes
names ps = map (λ (p : Bytes × Kind). p.0) ps

abbrev done : List (Bytes × Kind) → List (Bytes × Accum)
done ps = map {A = Bytes × Kind} {B = Bytes × Accum} (λ p. (p.0, accum_of p.1)) ps

pub parts_within-loop-tree-preserved : goal.parts_within-loop-tree-preserved
parts_within-loop-tree-preserved t c =
    let s = scope_in c.args.scope.now in
    let a = c.args.name.now in
    let keys = names_of (fields_of c.args.keys.now) in
    let trees = c.args.trees.now in
    let i = c.loop-tree.tree-index in
    let item = c.tree-item.result in
    let parts = c.loop-tree.parts in
    let kind = c.in_ok-kind.kind in
    let all : Judged Parts = parts_within c.args.levels s a keys [] (views trees) in
    let here : drop i trees ≡ item ∷ drop (i + 1) trees =
    drop_more trees i item c.loop-tree-test.true ∙ ap (λ (x : KindTree × Bytes). x ∷ drop (i + 1) trees) (sym c.tree-item.is)
    in
    let before = c.loop-tree.invariant ∙ ap (λ (ts : List (KindTree × Bytes)). parts_after (done parts) (parts_within c.args.levels s a keys (names parts) (views ts))) here in
    let named : part_name keys (names parts) item.1 ≡ Ok (names parts ++ item.1 ∷ []) =
    subst (λ (ps : List (Bytes × Kind)). part_name keys (names ps) item.1 ≡ Ok (names ps ++ item.1 ∷ [])) c.as_slice.ensures
    (subst (λ (n : Bytes). part_name keys (names c.as_slice.result.now) n ≡ Ok (names c.as_slice.result.now ++ n ∷ [])) c.as_str.ensures c.in_ok-part_name.ensures)
    in
    subst (λ (ps : List (Bytes × Kind)). all ≡ parts_after (done ps) (parts_within c.args.levels s a keys (names ps) (views (drop (i + 1) trees))))
    (sym (c.in_ok-push.ensures.ok ∙ ap (λ (n : Bytes). parts ++ (n, kind) ∷ []) (c.in_ok-of.ensures ∙ c.as_str-in-loop-tree.ensures)))
    (parts_goes c.args.levels s a keys parts kind (view_kind item.0) item.1 (views (drop (i + 1) trees)) all c.in_ok-kind.ensures named before)

pub parts_within-returns : goal.parts_within-returns
parts_within-returns t c =
    let s = scope_in c.args.scope.now in
    let keys = names_of (fields_of c.args.keys.now) in
    let parts = c.loop-tree.parts in
    c.loop-tree.invariant
    ∙ at_drop_all (λ (ts : List (KindTree × Bytes)). parts_after (done parts) (parts_within c.args.levels s c.args.name.now keys (names parts) (views ts))) c.args.trees.now c.loop-tree.tree-index c.loop-tree-test.false
    ∙ parts_all (done parts)

-- a group, given its keys and its parts
group_whole : (n m : ℕ) (s : Scope Bytes) (a : Bytes) (tree : KindTree) (key_trees keys_lent : List (BaseTree × Bytes)) (trees lent : List (KindTree × Bytes)) (keys held : List (Bytes × BaseType))
    → tree ≡ kind.Group key_trees trees → level_left n ≡ Ok true → m ≡ n - 1 → keys_lent ≡ key_trees → fields_written s 8 [] (view_fields keys_lent) ≡ Ok (fields_of keys)
    → lent ≡ trees → held ≡ keys
    → kind_within n s a (view_kind tree) ≡ (parts_within m s a (names_of (fields_of held)) [] (views lent) >>= λ qs. group a (fields_of keys) qs)
group_whole n m s a tree key_trees keys_lent trees lent keys held is left below lent_keys are lent_trees held_keys =
    ap (λ (t : KindTree). kind_within n s a (view_kind t)) is ∙ ap (kind_within n s a) (view_kind-Group key_trees trees)
    ∙ group_rule n m s a (view_fields key_trees) (views trees) (fields_of keys) left below
    (ap (λ (ks : List (BaseTree × Bytes)). fields_written s 8 [] (view_fields ks)) (sym lent_keys) ∙ are)
    ∙ ap (λ (ts : List (KindTree × Bytes)). parts_within m s a (names_of (fields_of keys)) [] (views ts) >>= λ qs. group a (fields_of keys) qs) (sym lent_trees)
    ∙ ap (λ (ks : List (Bytes × BaseType)). parts_within m s a (names_of (fields_of ks)) [] (views lent) >>= λ qs. group a (fields_of keys) qs) (sym held_keys)

pub kind_within-returns-in_err-parts-in-Group : goal.kind_within-returns-in_err-parts-in-Group
kind_within-returns-in_err-parts-in-Group t c =
    let whole = group_whole c.args.levels c.in_ok-below.below (scope_in c.args.scope.now) c.args.name.now c.args.tree.now c.in-Group.key_trees c.as_slice.result.now
    c.in-Group.trees c.as_slice-in-Group.result.now c.in_ok-keys-in-Group.keys c.as_slice-in-Group-2.result.now
    c.in-Group.is c.in_ok-below.ensures.judged c.in_ok-below.ensures.below c.as_slice.ensures c.in_ok-keys-in-Group.ensures c.as_slice-in-Group.ensures c.as_slice-in-Group-2.ensures
    in
    rw whole (search rules)

pub kind_within-returns-in_ok-parts-in-Group : goal.kind_within-returns-in_ok-parts-in-Group
kind_within-returns-in_ok-parts-in-Group t c =
    let whole = group_whole c.args.levels c.in_ok-below.below (scope_in c.args.scope.now) c.args.name.now c.args.tree.now c.in-Group.key_trees c.as_slice.result.now
    c.in-Group.trees c.as_slice-in-Group.result.now c.in_ok-keys-in-Group.keys c.as_slice-in-Group-2.result.now
    c.in-Group.is c.in_ok-below.ensures.judged c.in_ok-below.ensures.below c.as_slice.ensures c.in_ok-keys-in-Group.ensures c.as_slice-in-Group.ensures c.as_slice-in-Group-2.ensures
    in
    subst (λ (j : Judged Accum). Judges accum_of j c.group.result)
    (sym (whole ∙ ap (λ (j : Judged Parts). j >>= λ qs. group c.args.name.now (fields_of c.in_ok-keys-in-Group.keys) qs) c.in_ok-parts-in-Group.ensures))
    c.group.ensures
