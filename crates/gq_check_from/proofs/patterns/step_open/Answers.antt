use Rattle.std.proofs.Common.{◌≡◌, ◌∙◌, ap, sym, subst, List, ℕ}
use Rattle.std.specs.Prelude.{IfOk}
use Rattle.std.specs.List.{flat_map, filter_map}
use Rattle.gq_tree.specs.declared.select.Way.{Way}
use Rattle.gq_rules_typing.specs.Statements.{Bytes}
use Rattle.gq_rules_typing.specs.Patterns.{ends_of, or_all, way_of}
use Rattle.gq_scope.specs.Held.{setting_in}
use Rattle.gq_check_from.proofs.SortLemmas.{setting_sorts}
use Rattle.gq_check_from.proofs.patterns.step_open.Goals as goal

pub returns : goal.returns
returns c =
    let h = c.args.scope.now in
    let sorts = (setting_in h).sorts in
    let far = c.in_ok-far.ensures ∙ ap (λ (ws : List (Way × Bytes)). flat_map (ends_of sorts) (filter_map (way_of (setting_in h)) ws)) c.as_slice.ensures in
    let own = c.own_vertices.ensures ∙ ap (λ s. s.own_vertices) (sym (setting_sorts h)) in
    subst (λ (l : List ℕ). IfOk c.or_all.result (λ k. k ≡ l)) (ap (λ (ns : List ℕ). or_all ns c.in_ok-far.far.items) own ∙ ap (or_all sorts.own_vertices) far) c.or_all.ensures
