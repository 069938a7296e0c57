use Rattle.std.proofs.Common.{◌≡◌, ℕ, List, Some, take, arith, sym, subst}
use Rattle.gq_graph.specs.declared.types.IdKind.TheVariants as id
use Rattle.gq_load_csv.specs.Digits.{IsShort}
use Rattle.gq_load_csv.specs.Fields.{id_in}
use Rattle.gq_load_csv.proofs.DigitLemmas.{own_short, text_short}
use Rattle.gq_load_csv.proofs.CursorLemmas.{digits_inner, own_int, own_uint}
use Rattle.gq_load_csv.proofs.cursor.number_id.Goals as goal

pub end_field-requires-clause-inner : goal.end_field-requires-clause-inner
end_field-requires-clause-inner c = digits_inner c.args.separator _ c.requires.apart c.run_at-run.ensures.digits

pub from_utf8_unchecked-requires : goal.from_utf8_unchecked-requires
from_utf8_unchecked-requires c = text_short (take c.run_at-run.result.size c.args.cursor.now.rest.now) c.run_at-run.result.number (c.run_at-run.ensures.short (omega arith))

pub returns-clause-int : goal.returns-clause-int
returns-clause-int c =
    let field : List ℕ = take c.run_at-run.result.size c.args.cursor.now.rest.now in
    let short : IsShort field c.run_at-run.result.number = c.run_at-run.ensures.short (omega arith) in
    subst (λ (t : List ℕ). id_in id.Int t ≡ Some t) (sym c.from_utf8_unchecked.ensures)
    (own_int field (own_short field c.run_at-run.result.number short (sym c.if-has_leading_zero.ensures)))

pub returns-clause-uint : goal.returns-clause-uint
returns-clause-uint c =
    let field : List ℕ = take c.run_at-run.result.size c.args.cursor.now.rest.now in
    let short : IsShort field c.run_at-run.result.number = c.run_at-run.ensures.short (omega arith) in
    subst (λ (t : List ℕ). id_in id.UInt t ≡ Some t) (sym c.from_utf8_unchecked.ensures)
    (own_uint field (own_short field c.run_at-run.result.number short (sym c.if-has_leading_zero.ensures)))
