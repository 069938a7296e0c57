use Rattle.std.proofs.Common.{◌≡◌, ◌∙◌, ◌+◌, ◌-◌, suc, ap, sym, arith, reverse, Some}
use Rattle.std.specs.Str.{bytes_eq}
use Rattle.gq_rules_typing.specs.Words.{under}
use Rattle.gq_scope.specs.NameTables.{row_of}
use Rattle.gq_scope.proofs.NameTableLemmas.{row_low, none_found, row_found}
use Rattle.gq_scope.proofs.names.NameTable.find.Goals as goal

pub index-requires : goal.index-requires
index-requires g c =
    omega (
      arith,
      c.in_default,
      c.last_row.ensures,
      c.self.inside.rows.ok.0,
      row_low c.self.inside.rows.items c.self.inside.hidden.items c.self.inside.last c.args.name.now c.self.invariant,
    )

pub returns-in-0 : goal.returns-in-0
returns-in-0 g c =
    none_found c.self.inside.rows.items c.self.inside.hidden.items c.self.inside.last c.args.name.now c.self.invariant (sym c.last_row.ensures ∙ c.in-0.is)
    ∙ ap (λ rs. under bytes_eq c.args.name.now (reverse rs)) c.self.view_is

pub returns-in_default : goal.returns-in_default
returns-in_default g c =
    let row_is : c.last_row.result ≡ suc (c.last_row.result - 1) = omega (arith, c.in_default) in
    ap (λ r. Some r.1) c.index.ensures
    ∙ row_found c.self.inside.rows.items c.self.inside.hidden.items c.self.inside.last c.args.name.now (c.last_row.result - 1) c.index.result.now c.self.invariant
    (sym c.last_row.ensures ∙ row_is)
    ∙ ap (λ rs. under bytes_eq c.args.name.now (reverse rs)) c.self.view_is
