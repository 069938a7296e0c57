use Rattle.std.proofs.Common.{◌≡◌, ◌∙◌, ◌++◌, ◌∷◌, [], ap, sym, subst}
use Rattle.std.specs.BTreeMap.{get_by_text}
use Rattle.std.specs.Option.{option_to_list, IsSome}
use Rattle.gq_scope.specs.NameTables.{IsKept}
use Rattle.gq_scope.proofs.NameTableLemmas.{kept_pop, kept_there}
use Rattle.gq_scope.proofs.names.drop_last.Goals as goal

pub restore-requires : goal.restore-requires
restore-requires g c =
    let row = c.in-Some-Some.row in let before = c.in-Some-Some.before in
    let rows_are : c.args.rows.now.items ≡ c.pop.new.self.items ++ row ∷ [] = c.pop.ensures.items ∙ ap (λ o. c.pop.new.self.items ++ option_to_list o) c.in-Some-Some.is-0 in
    let hidden_are : c.args.hidden.now.items ≡ c.pop-2.new.self.items ++ before ∷ [] = c.pop-2.ensures.items ∙ ap (λ o. c.pop-2.new.self.items ++ option_to_list o) c.in-Some-Some.is-1 in
    subst (λ name. IsSome (get_by_text c.args.last.now name)) (sym c.as_str.ensures)
    (kept_there c.pop.new.self.items c.pop-2.new.self.items c.args.last.now row before c.args.last.now (rw (sym rows_are, sym hidden_are) c.requires))

pub returns-in-Some-Some-clause-kept : goal.returns-in-Some-Some-clause-kept
returns-in-Some-Some-clause-kept g c =
    let row = c.in-Some-Some.row in let before = c.in-Some-Some.before in
    let rows_are : c.args.rows.now.items ≡ c.pop.new.self.items ++ row ∷ [] = c.pop.ensures.items ∙ ap (λ o. c.pop.new.self.items ++ option_to_list o) c.in-Some-Some.is-0 in
    let hidden_are : c.args.hidden.now.items ≡ c.pop-2.new.self.items ++ before ∷ [] = c.pop-2.ensures.items ∙ ap (λ o. c.pop-2.new.self.items ++ option_to_list o) c.in-Some-Some.is-1 in
    kept_pop c.pop.new.self.items c.pop-2.new.self.items c.restore.new.last row before c.args.last.now (rw (sym rows_are, sym hidden_are) c.requires)
    (rw (sym c.as_str.ensures) c.restore.ensures)
