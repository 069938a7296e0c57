-- EndLemmas: the ends of a block are those that the definitions speak of.
use Rattle.std.proofs.Common.{◌≡◌, ℕ, List, [], Option, Some, None, refl, sym, ap, ◌∙◌}
use Rattle.std.specs.Option.{option_map, option_to_list}
use Rattle.gq_graph.specs.Catalog.{Schema}
use Rattle.gq_graph.specs.declared.rows.VertexRow.{VertexRow}
use Rattle.gq_graph.specs.declared.rows.EdgeRow.{EdgeRow}
use Rattle.gq_rules_typing.specs.Selecting as plain
use Rattle.gq_rules_typing.specs.Statements.{Bytes}
use Rattle.gq_rules_typing.specs.Sorts.{Fields}
use Rattle.gq_rules_typing.specs.Words.{under, if_own}
use Rattle.gq_rules_typing.specs.Patterns.{end_types, target_alias}
use Rattle.gq_rules_meaning.specs.Calendars.{Calendar}
use Rattle.gq_rules_meaning.specs.Graphs.{graph_of}
use Rattle.gq_rules_meaning.specs.Expressions.{World, setting}
use Rattle.gq_rules_meaning.specs.Sources.{source_of}
use Rattle.gq_rules_meaning.specs.States as states
use Rattle.gq_plan_ir.specs.declared.block.Block.{Block}
use Rattle.gq_plan_ir.specs.declared.block.SelectSource.{SelectSource}
use Rattle.gq_plan_ir.specs.declared.block.SelectSource.TheVariants as source
use Rattle.gq_plan_ir.specs.declared.plan.Plan.{Plan}
use Rattle.gq_plan_ir.specs.Belonging.{world_of}
use Rattle.gq_plan_ir.specs.BlockView.{view_source, view_walk}
use Rattle.gq_plan_ir.specs.Reference.{Reference, Place, VertexType}
use Rattle.gq_plan_ir.specs.References.{same}
use Rattle.gq_frame.specs.declared.frame.Thing.{Thing}
use Rattle.gq_frame.specs.Names.{thing_for, thing_in}
use Rattle.gq_exec_source.specs.declared.ends.Ends.{Ends}
use Rattle.gq_exec_source.specs.Ends.{HasEnds}
use Rattle.gq_exec_source.specs.Seen.{set_types, setting_for, types_from}

module _ (schema : Schema) (p : Plan) (accums : List Bytes) (tuples : List (Reference × Fields)) (vertices : List VertexRow) (edges : List EdgeRow) (clock : Calendar) where
  abbrev world : World Reference
  world = world_of accums tuples (graph_of schema (Some (record { name = []; vertices = p.vertices; edges = p.edges })) vertices edges) clock

  walk_ends : (w : plain.Walk Reference) → end_types (setting_for schema p) w ≡ end_types (setting world) w
  walk_ends w = refl

  set_is : (names : List (Reference × states.Thing)) (place : ℕ) (o : Option states.Thing) → under same (Place place) names ≡ o → set_types o ≡ (source_of world names (Place place)).0
  set_is names place o e = ap set_types (sym e) ∙ go (under same (Place place) names) refl
    where
      go : (q : Option states.Thing) → under same (Place place) names ≡ q → set_types (under same (Place place) names) ≡ (source_of world names (Place place)).0
      go None h = rw h refl
      go (Some (states.Variable b v)) h = rw h refl
      go (Some (states.SetOf types vs)) h = rw h refl
      go (Some (states.EdgeRow r t)) h = rw h refl
      go (Some (states.Member types vs v)) h = rw h refl

  type_is : (names : List (Reference × states.Thing)) (t : ℕ) → under same (VertexType t) names ≡ None → types_from p [] (source.Type t) ≡ (source_of world names (VertexType t)).0
  type_is names t h = rw h (go (if_own p.vertices (Some t)) refl)
    where
      go : (o : Option ℕ) → if_own p.vertices (Some t) ≡ o → option_to_list (if_own p.vertices (Some t)) ≡ (source_of world [] (VertexType t)).0
      go None e = rw e refl
      go (Some u) e = rw e refl

  from_is : (things : List (Option Thing)) (names : List (Reference × states.Thing)) → ((x : Reference) → under same x names ≡ thing_for things x) → (s : SelectSource) → types_from p things s ≡ (source_of world names (view_source s)).0
  from_is things names alike (source.Set place) = set_is names place (thing_in things place) (alike (Place place))
  from_is things names alike (source.Type t) = type_is names t (alike (VertexType t))

pub ends_are : (schema : Schema) (p : Plan) (things : List (Option Thing)) (block : Block) (e : Ends) → e.source.alias ≡ block.alias → e.source.types ≡ types_from p things block.source
    → option_map Place e.target.alias ≡ target_alias (view_walk block.walk) → e.target.types ≡ end_types (setting_for schema p) (view_walk block.walk) → HasEnds schema p things block e
ends_are schema p things block e a t b u = record {
  each = λ accums tuples vertices edges clock names alike. record {
    source = ap (option_map Place) a;
    source_types = t ∙ from_is schema p accums tuples vertices edges clock things names alike block.source;
    target = b;
    target_types = u ∙ walk_ends schema p accums tuples vertices edges clock (view_walk block.walk);
  };
}

pub ruleset end_laws = (ends_are)
