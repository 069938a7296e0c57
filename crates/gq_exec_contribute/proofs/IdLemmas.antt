-- IdLemmas: the id of a vertex, read as the INT that it shows.
use Rattle.std.proofs.Common.{◌≡◌, ℕ, ℤ, ◌<◌, true, List, length, Option, Some, None, Ok, refl, sym, ap, ◌∙◌}
use Rattle.std.specs.Prelude.{IfSome, slice_get}
use Rattle.std.specs.Option.{option_flatten}
use Rattle.gq_value.specs.Val.{Int}
use Rattle.gq_value.specs.Accums.{INT}
use Rattle.gq_value.specs.ViewLaws.{val-Int}
use Rattle.gq_value.specs.declared.value.Value.TheVariants as value
use Rattle.gq_graph.specs.Vertices.{vertex_at}
use Rattle.gq_graph.specs.declared.types.VertexType.{VertexType}
use Rattle.gq_graph.specs.declared.types.IdKind.TheVariants as id_kind
use Rattle.gq_index.specs.declared.store.Graph as code
use Rattle.gq_rules_typing.specs.Sorts.{id_base, names_of, vertex_sort}
use Rattle.gq_rules_meaning.specs.Answers.{Gives}
use Rattle.gq_rules_meaning.specs.Graphs.{id_value, integer_in}
use Rattle.gq_rules_meaning.specs.Meanings.{Is}
use Rattle.gq_rules_meaning.specs.States as states
use Rattle.gq_plan_ir.specs.ExprView.{field_of}
use Rattle.gq_plan_ir.specs.declared.expr.Field.TheVariants as field
use Rattle.gq_plan_ir.specs.declared.expr.FieldPlaces.{FieldPlaces}
use Rattle.gq_eval_operand.specs.declared.seen.Seen.{Seen}
use Rattle.gq_eval_operand.specs.declared.seen.Seen.TheVariants as seen
use Rattle.gq_eval_operand.specs.declared.seen.Sort.TheVariants as sort
use Rattle.gq_eval_operand.specs.declared.seen.Operand.TheVariants as operand
use Rattle.gq_eval_attributes.specs.Attributes.{id_shown}
use Rattle.gq_eval_attributes.specs.Reads.{IsReadInt}
use Rattle.gq_eval_attributes.proofs.ReadLemmas.{in_the_table}
use Rattle.gq_eval_attributes.proofs.VertexLemmas.{first_value, vertex_at_place}
use Rattle.gq_exec_contribute.proofs.NameLemmas.{field_seen, none_read}

-- an INT as a value
abbrev int_seen : ℤ → Seen
int_seen x = seen.Value sort.Int (operand.Made (value.Int x))

shown_is : (t : VertexType) (id : List ℕ) (x : ℤ) → t.id.kind ≡ id_kind.Int → integer_in id ≡ x → id_shown t.id id ≡ Gives (Is INT (Int x))
shown_is t id x kind is = ap (λ k. Gives (Is (id_base k) (id_value k id))) kind ∙ ap (λ z. Gives (Is INT (Int z))) is

-- the id of a vertex whose type shows INT ids
pub id_read : (g : code.Graph) (c : FieldPlaces) (v k : ℕ) (t : VertexType) (id : List ℕ) (r : Option ℤ) → v < length g.store.now.vertices → k ≡ (vertex_at g.store.now.vertices v).kind → slice_get g.catalog.now.vertex_types k ≡ Some t
    → Some 0 ≡ option_flatten (slice_get c.vertices k) → t.id.shown ≡ true → t.id.kind ≡ id_kind.Int → id ≡ (vertex_at g.store.now.vertices v).id → IfSome r (λ x. integer_in id ≡ x)
    → IsReadInt g (λ world. states.vertex_field world (field_of (field.Named c)) v) r
id_read g c v k t id None there kind typed first shown int same is = none_read g (λ world. states.vertex_field world (field_of (field.Named c)) v)
id_read g c v k t id (Some x) there kind typed first shown int same is =
    field_seen g (λ world. states.vertex_field world (field_of (field.Named c)) v) (int_seen x) (Some x)
    (vertex_at_place g c v k 0 t (Ok (int_seen x)) there kind typed (sym (in_the_table c.vertices k 0 (names_of (vertex_sort t).fields) c.name first))
    (first_value t (vertex_at g.store.now.vertices v) 0 id (Ok (int_seen x)) shown refl same (shown_is t id x int is ∙ ap (λ w. Gives (Is INT w)) (sym (val-Int x)))))
    (ap Gives (val-Int x))

pub ruleset id_laws = (id_read, none_read)
