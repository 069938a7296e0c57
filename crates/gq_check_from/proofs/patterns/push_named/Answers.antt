use Rattle.std.proofs.Common.{◌≡◌, ◌∙◌, ◌++◌, Some, ap, sym, subst, OnOk}
use Rattle.std.specs.List.{flat_map}
use Rattle.std.specs.Option.{option_to_list}
use Rattle.std.proofs.lemmas.List.{append-nil}
use Rattle.gq_rules_typing.specs.Patterns.{ends_of}
use Rattle.gq_scope.specs.Held.{setting_in}
use Rattle.gq_check_from.proofs.SortLemmas.{ends_here, one_way}
use Rattle.gq_check_from.proofs.patterns.push_named.Goals as goal

pub returns-in-Some : goal.returns-in-Some
returns-in-Some c =
    let setting = setting_in c.args.scope.now in let way = c.args.way in let t = c.in-Some.t in
    let leads = ends_here c.args.scope.now c.catalog.result.now (way, t) c.catalog.ensures
    ∙ sym (append-nil (ends_of setting.sorts (way, t)))
    ∙ ap (λ o. flat_map (ends_of setting.sorts) (option_to_list o)) (sym (one_way setting way c.args.name.now t (sym c.edge_type.ensures ∙ c.in-Some.is))) in
    subst (λ l. OnOk c.push_ends.result (c.push_ends.new.ends.items ≡ c.args.far.now.items ++ l)) leads c.push_ends.ensures
