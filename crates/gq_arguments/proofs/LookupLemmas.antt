-- Vertices by type and id.
use Rattle.std.proofs.Common.{ℕ, zero, suc, ◌≡◌, ◌∷◌, Bool, true, false, cond, codes, List, Option, Some, None, refl, ap, sym, ◌∙◌, arith}
use Rattle.std.proofs.lemmas.Bool.{lt-ltb}
use Rattle.std.proofs.lemmas.Fmt.{decimal_digit}
use Rattle.std.specs.Fmt.{decimal, signed_decimal}
use Rattle.gq_value.specs.Val.{Val}
use Rattle.gq_graph.specs.Vertices.{vertex_number}
use Rattle.gq_graph.specs.declared.rows.VertexRow.{VertexRow}
use Rattle.gq_rules_typing.specs.Statements.{Bytes}
use Rattle.gq_rules_typing.specs.Sorts.{Sorts}
use Rattle.gq_rules_typing.specs.Words.{by_name}
use Rattle.gq_tree.specs.Signed.{signed}
use Rattle.gq_rules_meaning.specs.Arguments.{a_vertex, vertex_in, number_id}

abbrev of_type : List VertexRow → Bytes → Option ℕ → Option Val
of_type rows id None = None
of_type rows id (Some t) = a_vertex (vertex_number rows t id)

by_type : (sorts : Sorts) (rows : List VertexRow) (type id : Bytes) (o : Option ℕ) → o ≡ (by_name sorts).vertex_type type → of_type rows id o ≡ vertex_in sorts rows type id
by_type sorts rows type id o is = ap (of_type rows id) is

pub no_type : (sorts : Sorts) (rows : List VertexRow) (type id : Bytes) → None ≡ (by_name sorts).vertex_type type → None ≡ vertex_in sorts rows type id
no_type sorts rows type id is = by_type sorts rows type id None is

pub number_of : (sorts : Sorts) (rows : List VertexRow) (type id : Bytes) (t : ℕ) (o : Option ℕ) → Some t ≡ (by_name sorts).vertex_type type → o ≡ vertex_number rows t id
    → a_vertex o ≡ vertex_in sorts rows type id
number_of sorts rows type id t o is number = ap a_vertex number ∙ by_type sorts rows type id (Some t) is

-- a number with its sign, as an id
pub id_of_number : (minus : Bool) (n : ℕ) → signed_decimal (signed minus n) ≡ number_id minus n
id_of_number false n = refl
id_of_number true zero = decimal_digit 0 (omega arith)
id_of_number true (suc n) = sym (ap (λ b. cond b (45 ∷ decimal (suc n)) (codes "0")) (lt-ltb 0 (suc n) (omega arith)))
