-- StepLemmas: the last step of a path, and the types that hops and steps lead to.
use Rattle.std.proofs.Common.{◌≡◌, ℕ, suc, ◌-◌, List, [], ◌∷◌, map, length, Option, Some, None, Result, refl, ap, ap₂, sym, subst, ◌∙◌, arith}
use Rattle.std.specs.Prelude.{IfOk}
use Rattle.std.specs.List.{filter_map, flat_map}
use Rattle.std.specs.List.{slice_get}
use Rattle.std.specs.Option.{option_map, option_to_list}
use Rattle.gq_rules_typing.specs.Selecting as plain
use Rattle.gq_rules_typing.specs.Sorts.{sorts_of}
use Rattle.gq_rules_typing.specs.Patterns.{last_step, target_alias}
use Rattle.gq_tree.specs.declared.select.Way.{Way}
use Rattle.gq_graph.specs.Catalog.{Schema}
use Rattle.gq_rules_typing.specs.Patterns.{by_number, edge_types, ends_of, hop_step, or_all, path_step, way_of}
use Rattle.gq_plan_ir.specs.declared.block.Hop.{Hop}
use Rattle.gq_plan_ir.specs.declared.block.SelectSource.{SelectSource}
use Rattle.gq_plan_ir.specs.declared.block.SelectSource.TheVariants as source
use Rattle.gq_plan_ir.specs.declared.block.Types.{Types}
use Rattle.gq_plan_ir.specs.declared.block.Types.TheVariants as types
use Rattle.gq_plan_ir.specs.declared.plan.Plan.{Plan}
use Rattle.gq_plan_ir.specs.declared.block.PathStep.{PathStep}
use Rattle.gq_plan_ir.specs.BlockView.{view_hop, view_path_step, view_types}
use Rattle.gq_plan_ir.specs.Reference as reference
use Rattle.gq_plan_ir.specs.Reference.{Reference, Place}
use Rattle.gq_frame.specs.declared.frame.Thing.{Thing}
use Rattle.gq_exec_source.specs.Seen.{own_of, setting_for, sorts_for, types_from}
use Rattle.gq_check_from.specs.Walks.{own_ways}
use Rattle.gq_exec_source.proofs.SortLemmas.{edges_named, vertices_named}

pub last_is : (steps : List PathStep) → last_step (map view_path_step steps) ≡ option_map view_path_step (slice_get steps (length steps - 1))
last_is [] = refl
last_is (s ∷ []) = refl
last_is (s ∷ t ∷ rest) = last_is (t ∷ rest) ∙ ap (λ n. option_map view_path_step (slice_get (s ∷ t ∷ rest) n)) (let e : suc (length (t ∷ rest) - 1) ≡ length (s ∷ t ∷ rest) - 1 = omega arith in e)

-- the alias of a step that may be there
abbrev pub alias_in : Option (plain.Step Reference) → Option Reference
alias_in None = None
alias_in (Some s) = s.target_alias

alias_is : (o : Option (plain.Step Reference)) (steps : List (plain.Step Reference)) → last_step steps ≡ o → target_alias (plain.Path steps) ≡ alias_in o
alias_is o steps e = go (last_step steps) refl ∙ ap alias_in e
  where
    go : (p : Option (plain.Step Reference)) → last_step steps ≡ p → target_alias (plain.Path steps) ≡ alias_in (last_step steps)
    go None h = cc
    go (Some s) h = cc

pub alias_last : (steps : List PathStep) (o : Option PathStep) → slice_get steps (length steps - 1) ≡ o → alias_in (option_map view_path_step o) ≡ target_alias (plain.Path (map view_path_step steps))
alias_last steps o e = sym (alias_is (option_map view_path_step o) (map view_path_step steps) (last_is steps ∙ ap (option_map view_path_step) e))

-- ---- types that are named

module _ (schema : Schema) (p : Plan) where
  pub these_edges : (t : Types) (ts own slice items l : List ℕ) → t ≡ types.These ts → own ≡ p.edges → slice ≡ ts → l ≡ items → items ≡ filter_map (own_of own) slice
      → l ≡ edge_types (setting_for schema p) (view_types reference.EdgeType t)
  these_edges t ts own slice items l e o s a b =
      a ∙ b ∙ ap₂ (λ own ts. filter_map (own_of own) ts) o s ∙ edges_named schema p ts ∙ ap (λ t. edge_types (setting_for schema p) (view_types reference.EdgeType t)) (sym e)

  pub these_vertices : {E : Type 0} (own ts items : List ℕ) (r : Result (List ℕ) E) → own ≡ p.vertices → items ≡ filter_map (own_of own) ts → IfOk r (λ l. l ≡ by_number items)
      → IfOk r (λ l. l ≡ by_number (filter_map (setting_for schema p).words.vertex_type (map reference.VertexType ts)))
  these_vertices own ts items r o b h =
      subst (λ (ns : List ℕ). IfOk r (λ l. l ≡ by_number ns)) (b ∙ ap (λ own. filter_map (own_of own) ts) o ∙ vertices_named schema p ts) h

  -- ---- the types that a step leads to

  pub step_open : {E : Type 0} (step : PathStep) (ways : List (Way × ℕ)) (far own : List ℕ) (r : Result (List ℕ) E) → step.targets ≡ types.Every → ways ≡ step.ways
      → far ≡ flat_map (ends_of (sorts_for schema p)) (filter_map (way_of (setting_for schema p)) (map (λ w. (w.0, reference.EdgeType w.1)) ways)) → own ≡ p.vertices → IfOk r (λ l. l ≡ or_all own far)
      → IfOk r (λ l. l ≡ (path_step (setting_for schema p) (view_path_step step)).targets)
  step_open step ways far own r e w f o h = subst (λ (ns : List ℕ). IfOk r (λ l. l ≡ ns)) (
      ap (λ (ns : List ℕ). or_all ns far) o ∙ ap (or_all p.vertices) (f ∙ ap (λ (ws : List (Way × ℕ)). flat_map (ends_of (sorts_for schema p)) (filter_map (way_of (setting_for schema p)) (map (λ w. (w.0, reference.EdgeType w.1)) ws))) w)
      ∙ ap (λ (t : Types). (path_step (setting_for schema p) (view_path_step (record step { targets = t }))).targets) (sym e)) h

  pub step_named : {E : Type 0} (step : PathStep) (ts slice : List ℕ) (r : Result (List ℕ) E) → step.targets ≡ types.These ts → slice ≡ ts
      → IfOk r (λ l. l ≡ by_number (filter_map (setting_for schema p).words.vertex_type (map reference.VertexType slice)))
      → IfOk r (λ l. l ≡ (path_step (setting_for schema p) (view_path_step step)).targets)
  step_named step ts slice r e s h = subst (λ (ns : List ℕ). IfOk r (λ l. l ≡ ns)) (
      ap (λ (ns : List ℕ). by_number (filter_map (setting_for schema p).words.vertex_type (map reference.VertexType ns))) s
      ∙ ap (λ (t : Types). (path_step (setting_for schema p) (view_path_step (record step { targets = t }))).targets) (sym e)) h

  -- ---- the types that a hop leads to

  pub hop_open : {E : Type 0} (hop : Hop) (edges slice far own : List ℕ) (r : Result (List ℕ) E) → hop.targets ≡ types.Every → edges ≡ edge_types (setting_for schema p) (view_types reference.EdgeType hop.edges) → slice ≡ edges
      → far ≡ flat_map (ends_of (sorts_of schema None)) (own_ways (sorts_of schema None) slice) → own ≡ p.vertices → IfOk r (λ l. l ≡ or_all own far)
      → IfOk r (λ l. l ≡ (hop_step (setting_for schema p) (view_hop hop)).targets)
  hop_open hop edges slice far own r e g s f o h = subst (λ (ns : List ℕ). IfOk r (λ l. l ≡ ns)) (
      ap (λ (ns : List ℕ). or_all ns far) o ∙ ap (or_all p.vertices) (f ∙ ap (λ (ts : List ℕ). flat_map (ends_of (sorts_for schema p)) (own_ways (sorts_for schema p) ts)) (s ∙ g))
      ∙ ap (λ (t : Types). (hop_step (setting_for schema p) (view_hop (record hop { targets = t }))).targets) (sym e)) h

  pub hop_named : {E : Type 0} (hop : Hop) (ts slice : List ℕ) (r : Result (List ℕ) E) → hop.targets ≡ types.These ts → slice ≡ ts
      → IfOk r (λ l. l ≡ by_number (filter_map (setting_for schema p).words.vertex_type (map reference.VertexType slice)))
      → IfOk r (λ l. l ≡ (hop_step (setting_for schema p) (view_hop hop)).targets)
  hop_named hop ts slice r e s h = subst (λ (ns : List ℕ). IfOk r (λ l. l ≡ ns)) (
      ap (λ (ns : List ℕ). by_number (filter_map (setting_for schema p).words.vertex_type (map reference.VertexType ns))) s
      ∙ ap (λ (t : Types). (hop_step (setting_for schema p) (view_hop (record hop { targets = t }))).targets) (sym e)) h

pub ruleset named_laws = (these_edges, these_vertices)

pub ruleset far_laws = (step_open, step_named, hop_open, hop_named)

-- ---- the type that a SELECT begins from

pub type_from : {E : Type 0} (p : Plan) (things : List (Option Thing)) (s : SelectSource) (t : ℕ) (own : List ℕ) (r : Result (List ℕ) E) → s ≡ source.Type t → own ≡ p.vertices → IfOk r (λ l. l ≡ option_to_list (own_of own t))
    → IfOk r (λ l. l ≡ types_from p things s)
type_from p things s t own r e o h = subst (λ (ns : List ℕ). IfOk r (λ l. l ≡ ns)) (ap (λ own. option_to_list (own_of own t)) o ∙ ap (types_from p things) (sym e)) h

pub ruleset source_laws = (type_from)
