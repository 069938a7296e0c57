-- KeyLemmas: ids of vertices and texts of keys.
use Rattle.std.proofs.Common.{◌≡◌, ℕ, ◌<◌, ◌≤◌, ℤ, true, false, List, [], map, length, Option, Some, None, refl, sym, ap, ◌∙◌}
use Rattle.std.specs.List.{slice_get}
use Rattle.std.specs.Option.{option_map, unwrap_or}
use Rattle.std.specs.Fmt.{decimal, signed_decimal}
use Rattle.std.specs.Prelude.{codes}
use Rattle.std.proofs.lemmas.Option.{slice_get-map, slice_get_past}
use Rattle.gq_value.specs.Val.{Val, Vals, Int, UInt, Truth, Text, Vertex, Tuple, Fraction}
use Rattle.gq_graph.specs.Vertices.{vertex_at, no_vertex}
use Rattle.gq_graph.specs.declared.rows.VertexRow.{VertexRow}
use Rattle.gq_rules_typing.specs.Statements.{Bytes}
use Rattle.gq_rules_meaning.specs.Calendars.{Calendar}
use Rattle.gq_rules_meaning.specs.Graphs.{Graph}
use Rattle.gq_rules_meaning.specs.Outs.{id_of, key_text}
use Rattle.gq_eval_attributes.proofs.ListLemmas.{item_there}
use Rattle.gq_eval_context.specs.Viewed.{Over}
use Rattle.gq_eval_context.specs.Looks.{world_over}

pub row_there : (rows : List VertexRow) (v : ℕ) → v < length rows → slice_get rows v ≡ Some (vertex_at rows v)
row_there rows v h = item_there rows v no_vertex h

module _ (rows : List VertexRow) (v : ℕ) (id : Bytes) where
  pub id_there : v < length rows → id ≡ (vertex_at rows v).id → id ≡ unwrap_or (slice_get (map (λ (r : VertexRow). r.id) rows) v) []
  id_there h e = e ∙ sym (ap (λ o. unwrap_or o []) (slice_get-map (λ (r : VertexRow). r.id) rows v ∙ ap (option_map (λ (r : VertexRow). r.id)) (row_there rows v h)))

  pub id_missing : length rows ≤ v → id ≡ codes "" → id ≡ unwrap_or (slice_get (map (λ (r : VertexRow). r.id) rows) v) []
  id_missing h e = e ∙ sym (ap (λ o. unwrap_or o []) (slice_get-map (λ (r : VertexRow). r.id) rows v ∙ ap (option_map (λ (r : VertexRow). r.id)) (slice_get_past rows v h)))

pub ruleset among_laws = (id_there, id_missing)

pub id_shown : (clock : Calendar) (s : Over) (v : ℕ) (id : Bytes) → id ≡ unwrap_or (slice_get (map (λ (r : VertexRow). r.id) s.vertices) v) [] → id ≡ id_of (world_over clock s).graph v
id_shown clock s v id e = e ∙ by (slice_get (map (λ (r : VertexRow). r.id) s.vertices) v)
  where
    id_or_none : Option Bytes → Bytes
    id_or_none None = []
    id_or_none (Some id) = id

    by : (o : Option Bytes) → unwrap_or o [] ≡ id_or_none o
    by None = refl
    by (Some id) = refl

pub ruleset id_laws = (id_shown)

-- ---- texts of keys

module _ (g : Graph) (v : Val) (s : Bytes) where
  pub int_key : (x : ℤ) → v ≡ Int x → s ≡ signed_decimal x → s ≡ key_text g v
  int_key x e h = h ∙ sym (ap (key_text g) e)

  pub uint_key : (n : ℕ) → v ≡ UInt n → s ≡ decimal n → s ≡ key_text g v
  uint_key n e h = h ∙ sym (ap (key_text g) e)

  pub true_key : v ≡ Truth true → s ≡ codes "true" → s ≡ key_text g v
  true_key e h = h ∙ sym (ap (key_text g) e)

  pub false_key : v ≡ Truth false → s ≡ codes "false" → s ≡ key_text g v
  false_key e h = h ∙ sym (ap (key_text g) e)

  pub text_key : (t : Bytes) → v ≡ Text t → s ≡ t → s ≡ key_text g v
  text_key t e h = h ∙ sym (ap (key_text g) e)

  pub vertex_key : (n : ℕ) → v ≡ Vertex n → s ≡ id_of g n → s ≡ key_text g v
  vertex_key n e h = h ∙ sym (ap (key_text g) e)

  pub tuple_key : (vs : Vals) → v ≡ Tuple vs → s ≡ codes "" → s ≡ key_text g v
  tuple_key vs e h = h ∙ sym (ap (key_text g) e)

  pub fraction_key : (x : ℤ) (n : ℕ) → v ≡ Fraction x n → s ≡ codes "" → s ≡ key_text g v
  fraction_key x n e h = h ∙ sym (ap (key_text g) e)

pub ruleset key_laws = (int_key, uint_key, true_key, false_key, text_key, vertex_key, tuple_key, fraction_key)
