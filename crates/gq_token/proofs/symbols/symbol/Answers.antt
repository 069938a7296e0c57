use Rattle.std.proofs.Common.{◌∙◌, refl, sym, ap, arith, inl, get_or}
use Rattle.gq_token.specs.Class.{symbol_size}
use Rattle.gq_token.proofs.SymbolLemmas.{symbol_item, no_symbol_item}
use Rattle.gq_token.proofs.symbols.symbol.Goals as goal

pub returns-in-0-clause-fault : goal.returns-in-0-clause-fault
returns-in-0-clause-fault c =
    let size = ap (symbol_size (get_or c.args.rest.now 0 0)) (sym c.byte_at.ensures) ∙ sym c.symbol_size.ensures ∙ c.in-0.is in
    (0, inl (no_symbol_item c.args.rest.now c.requires.some c.requires.other size, refl), omega arith)

pub returns-in_default-clause-item : goal.returns-in_default-clause-item
returns-in_default-clause-item c =
    let size = ap (symbol_size (get_or c.args.rest.now 0 0)) (sym c.byte_at.ensures) ∙ sym c.symbol_size.ensures in
    symbol_item c.args.rest.now c.symbol_size.result c.requires.some c.requires.other size (λ e. omega arith)
