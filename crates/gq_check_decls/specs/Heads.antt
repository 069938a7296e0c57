-- Heads: the rules of gq_rules_typing on tuple types and accumulators, split into the code's functions.
use Rattle.std.specs.Prelude.{ℕ, Bool, List, [], ◌∷◌, Option, nat_lt, Ok}
use Rattle.gq_value.specs.Accums.{Base}
use Rattle.gq_tree.specs.Tree.{Tree}
use Rattle.gq_rules_typing.specs.Statements.{Bytes, BaseTree, KindTree}
use Rattle.gq_rules_typing.specs.Judging.{Judged, TooMany, BadKind, ◌>>=◌, ◌>>◌, or_fault, unless, through_judged}
use Rattle.gq_rules_typing.specs.Scopes.{Scope, new_name}
use Rattle.gq_rules_typing.specs.KindTypes.{fields_written, kind_written}
use Rattle.gq_rules_typing.specs.QueryTypes.{with_tuple, typing_accum}

abbrev pub tuple_type : Scope Bytes → List (BaseTree Bytes × Bytes) → Bytes → Judged (Scope Bytes)
tuple_type s fs x = fields_written s 16 [] fs >>= λ fields. new_name s x >> Ok (with_tuple x fields s)

-- the name in a bad kind
abbrev pub first_name : List (Bool × Bytes × Option (Tree Bytes)) → Bytes
first_name [] = []
first_name (a ∷ rest) = a.1

abbrev pub accums : Scope Bytes → KindTree Bytes → List (Bool × Bytes × Option (Tree Bytes)) → Judged (Scope Bytes)
accums s k trees = kind_written s (first_name trees) k >>= λ kind. through_judged (typing_accum kind) s trees

-- at most 256 accumulators
abbrev pub few : ℕ → Judged Bool
few n = unless TooMany (nat_lt n 256)

-- the type of value that `=` sets
abbrev pub settable : Bytes → Option Base → Judged Base
settable a o = or_fault (BadKind a) o
