-- Fields of digits only: they are INTs and ids without any conversion.
use Rattle.std.proofs.Common.{◌≡◌, ℕ, ◌<◌, List, length, false, ℤ, pos, Option, Some, None, sym, ap, ◌∙◌, arith, IfSome, Bor}
use Rattle.std.specs.Prelude.{◌==◌}
use Rattle.std.specs.Option.{option_map}
use Rattle.std.specs.Fmt.{decimal, signed_decimal}
use Rattle.std.proofs.lemmas.Bool.Decides.{nat_tests}
use Rattle.gq_graph.specs.declared.types.Attribute.{Attribute}
use Rattle.gq_graph.specs.declared.types.IdKind.TheVariants as id
use Rattle.gq_graph.specs.Defaults.{INT, sort_of}
use Rattle.gq_value.specs.declared.value.Value.TheVariants as value
use Rattle.gq_load_csv.specs.Digits.{IsShort, IsOwn}
use Rattle.gq_load_csv.specs.Fields.{field_value, key_value, value_in, id_in}
use Rattle.gq_load_csv.specs.Texts.{int_in, uint_in}
use Rattle.gq_load_csv.proofs.BlankLemmas.{trimmed_short}
use Rattle.gq_load_csv.proofs.DigitLemmas.{int_short}

-- ---- INTs

value_short : (read : List ℕ → Option ℤ) (field : List ℕ) (n : ℕ) → IsShort field n → value_in read INT field ≡ Some (value.Int (pos n))
value_short read field n is = ap (λ t. option_map value.Int (int_in t)) (trimmed_short field n is) ∙ ap (option_map value.Int) (int_short field n is)

not_none : (k : ℕ) → 0 < k → (k == 0) ≡ false
not_none k some = grind (arith, nat_tests)

pub field_short : (read : List ℕ → Option ℤ) (attribute : Attribute) (field : List ℕ) (n : ℕ) → sort_of attribute.kind ≡ INT → IsShort field n → field_value read attribute field ≡ Some (value.Int (pos n))
field_short read attribute field n int is = rw (int, trimmed_short field n is, not_none (length field) is.numeral.0) (ap (option_map value.Int) (int_short field n is))

pub key_short : (read : List ℕ → Option ℤ) (attribute : Attribute) (field : List ℕ) (n : ℕ) → sort_of attribute.kind ≡ INT → IsShort field n → key_value read attribute field ≡ Some (value.Int (pos n))
key_short read attribute field n int is = rw (int, not_none (length field) is.numeral.0) (value_short read field n is)

-- ---- ids

pub own_int_id : (field : List ℕ) (o : Option (Bor (List ℕ))) → IfSome o (λ own. (own.now ≡ field) × IsOwn field) → IfSome o (λ own. id_in id.Int field ≡ Some own.now)
own_int_id field None is = tt
own_int_id field (Some own) is = ap (λ t. option_map signed_decimal (int_in t)) is.1.whole ∙ is.1.int ∙ ap (λ t. Some t) (sym is.0)

pub own_uint_id : (field : List ℕ) (o : Option (Bor (List ℕ))) → IfSome o (λ own. (own.now ≡ field) × IsOwn field) → IfSome o (λ own. id_in id.UInt field ≡ Some own.now)
own_uint_id field None is = tt
own_uint_id field (Some own) is = ap (λ t. option_map decimal (uint_in t)) is.1.whole ∙ is.1.uint ∙ ap (λ t. Some t) (sym is.0)
