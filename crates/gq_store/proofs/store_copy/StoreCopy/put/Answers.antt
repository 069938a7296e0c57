use Rattle.std.specs.Arc.{arc_value}
use Rattle.std.proofs.Common.{rules, ◌≡◌, List, [], ◌∷◌, ◌++◌, false, ap, ◌∙◌}
use Rattle.gq_load_check.specs.declared.insert.Insert.{Insert}
use Rattle.gq_store.specs.Histories.{IsOneLonger}
use Rattle.gq_store.proofs.CopyLemmas.{copy_puts, may_put}
use Rattle.gq_store.proofs.EntryLemmas.{entry_next, shown_as}
use Rattle.gq_store.proofs.store_copy.StoreCopy.put.Goals as goal

pub insert-requires : goal.insert-requires
insert-requires g c =
    may_put g.N.StoreName.base g.N.StoreName.schema (arc_value c.self.inside.catalog) c.self.inside.store c.self.inside.index c.self.inside.sealed c.self.inside.rows c.self.invariant
    c.entry.inside.row c.entry.invariant.fits

pub invariant_of-self : goal.invariant_of-self
invariant_of-self g c =
    let next : IsOneLonger c.self.inside.rows c.entry.inside.after = search rules in
    let more : c.again.result ≡ c.self.inside.rows ++ c.entry.inside.row ∷ [] =
    c.again.ensures ∙ entry_next g.N.StoreName.schema c.self.inside.rows c.entry.inside.after c.entry.inside.row next c.entry.invariant in
    copy_puts g.N.StoreName.base g.N.StoreName.schema (arc_value c.self.inside.catalog) c.self.inside.store c.self.inside.index c.self.inside.sealed c.self.inside.rows c.self.invariant
    c.insert.new.store c.entry.inside.row c.again.result c.entry.invariant.fits (c.in-Ok.ensures {u = tt}) more

pub returns-in-Ok : goal.returns-in-Ok
returns-in-Ok g c =
    let next : IsOneLonger c.self.inside.rows c.entry.inside.after = search rules in
    ap (λ (l : List Insert). shown_as l false)
    (c.again.ensures ∙ entry_next g.N.StoreName.schema c.self.inside.rows c.entry.inside.after c.entry.inside.row next c.entry.invariant
    ∙ λ i. (c.self.view_is i).rows ++ c.entry.view_is i ∷ [])
