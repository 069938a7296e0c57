-- Defaults: which defaults an attribute may have, and how they are stored: a number is converted to the type.
use Rattle.std.specs.Prelude.{ℕ, ℤ, pos, negsuc, Bool, true, false, nat_lt}
use Rattle.std.specs.Option.{option_map, option_map_or}
use Rattle.gq_value.specs.declared.kind.BaseType.{BaseType, BaseType-F, fold-BaseType}
use Rattle.gq_graph.specs.declared.types.Attribute.{Attribute}
use Rattle.gq_value.specs.declared.value.Value.{Value}
use Rattle.gq_value.specs.declared.value.Value.TheVariants as value
use Rattle.gq_value.specs.Val.{Val, Int, UInt, Truth, Text}
use Rattle.gq_value.specs.Views.{val}

-- the types that an attribute may have, and one for all others
pub data Sort : Type 0 where
  INT : Sort
  UINT : Sort
  BOOL : Sort
  STRING : Sort
  DATETIME : Sort
  OTHER : Sort

abbrev pub sort_step : BaseType-F Sort → Sort
sort_step BaseType-F.Int = INT
sort_step BaseType-F.UInt = UINT
sort_step BaseType-F.Bool = BOOL
sort_step BaseType-F.Text = STRING
sort_step BaseType-F.AnyVertex = OTHER
sort_step (BaseType-F.VertexOf n) = OTHER
sort_step (BaseType-F.Tuple n fields) = OTHER
sort_step BaseType-F.Time = DATETIME

-- the type of an attribute
unfoldable pub sort_of : BaseType → Sort
sort_of = fold-BaseType Sort sort_step

abbrev pub is_plain_sort : Sort → Bool
is_plain_sort OTHER = false
is_plain_sort _ = true

-- whether an attribute may have that type
abbrev pub is_plain : Attribute → Bool
is_plain attribute = is_plain_sort (sort_of attribute.kind)

-- the seconds of a DATETIME are those of the years 0 to 9999
abbrev pub is_time : ℤ → Bool
is_time (pos n) = nat_lt n 253402300800
is_time (negsuc n) = nat_lt n 62167219200

abbrev pub is_non_negative : ℤ → Bool
is_non_negative (pos n) = true
is_non_negative (negsuc n) = false

-- whether a value is one of the type, or a number that is converted to it
abbrev pub suits : Val → Sort → Bool
suits (Int z) INT = true
suits (Int z) UINT = is_non_negative z
suits (Int z) DATETIME = is_time z
suits (Int z) _ = false
suits (UInt n) INT = nat_lt n 9223372036854775808
suits (UInt n) UINT = true
suits (UInt n) _ = false
suits (Truth b) BOOL = true
suits (Truth b) _ = false
suits (Text bytes) STRING = true
suits (Text bytes) _ = false
suits _ _ = false

abbrev pub magnitude : ℤ → ℕ
magnitude (pos n) = n
magnitude (negsuc n) = 0

-- the value as one of the type, if it suits
abbrev pub converted_from : Val → Sort → Value → Value
converted_from (UInt n) INT v = value.Int (pos n)
converted_from (UInt n) _ v = v
converted_from (Int z) UINT v = value.UInt (magnitude z)
converted_from (Int z) _ v = v
converted_from _ _ v = v

abbrev pub converted : Sort → Value → Value
converted sort v = converted_from (val v) sort v

-- whether an attribute's default, if it has one, suits its type
abbrev pub has_good_default : Attribute → Bool
has_good_default attribute = option_map_or (λ v. suits (val v) (sort_of attribute.kind)) attribute.default true

-- the attribute as it is stored, with its default converted
abbrev pub settled : Attribute → Attribute
settled attribute = record attribute { default = option_map (converted (sort_of attribute.kind)) attribute.default }
