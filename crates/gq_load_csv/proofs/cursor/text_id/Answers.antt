use Rattle.std.proofs.Common.{◌≡◌, ◌<◌, ℕ, List, Some, length, take, arith, refl, sym, subst}
use Rattle.std.proofs.lemmas.List.{length-take-le}
use Rattle.std.proofs.lemmas.Str.{IsUtf8-from_ascii}
use Rattle.gq_graph.specs.declared.types.IdKind.TheVariants as id
use Rattle.gq_load_csv.specs.Fields.{id_in}
use Rattle.gq_load_csv.proofs.TextLemmas as texts
use Rattle.gq_load_csv.proofs.CursorLemmas.{ascii_from}
use Rattle.gq_load_csv.proofs.cursor.text_id.Goals as goal

pub from_utf8_unchecked-requires : goal.from_utf8_unchecked-requires
from_utf8_unchecked-requires c = IsUtf8-from_ascii _ (ascii_from _ (c.field_size-size.ensures.ascii refl))

pub returns-clause-text : goal.returns-clause-text
returns-clause-text c =
    let field : List ℕ = take c.field_size-size.result c.args.cursor.now.rest.now in
    let size = length-take-le c.field_size-size.result c.args.cursor.now.rest.now c.field_size-size.ensures.within in
    let some : 0 < length field = omega (arith, size) in
    subst (λ (t : List ℕ). id_in id.Text t ≡ Some t) (sym c.from_utf8_unchecked.ensures) (texts.text_id field some (IsUtf8-from_ascii _ (ascii_from _ (c.field_size-size.ensures.ascii refl))))
