-- AliasLemmas: the aliases of a candidate, and the names that they bring into view.
use Rattle.std.proofs.Common.{◌≡◌, ℕ, List, ◌++◌, Option, Some, None, refl, ap, ap₂, ◌∙◌, append_assoc}
use Rattle.std.specs.Option.{option_map, option_to_list}
use Rattle.std.proofs.lemmas.List.{map-append}
use Rattle.gq_graph.specs.declared.rows.Candidate.{Candidate}
use Rattle.gq_rules_meaning.specs.States.{Thing, a_vertex}
use Rattle.gq_rules_meaning.specs.Sources.{From, named_as, edge_thing, target_thing, with_candidate}
use Rattle.gq_plan_ir.specs.Reference.{Reference, Place}
use Rattle.gq_frame.specs.Names.{Placed, AVertex, alias_named, aliases_named}
use Rattle.gq_exec_source.specs.declared.ends.Ends.{Ends}
use Rattle.gq_exec_source.specs.Ends.{AreEnds, end_things}
use Rattle.gq_exec_contribute.specs.Aliases.{target_bound, edge_bound, bound_to}

-- ---- the names in view

named_vertex : (a : Option ℕ) (types : List ℕ) (v : ℕ) (names : List (Reference × Thing)) → aliases_named (option_to_list (option_map (λ place. (place, AVertex types v)) a)) ++ names ≡ named_as (option_map Place a) (Some (a_vertex types v)) names
named_vertex None types v names = refl
named_vertex (Some place) types v names = refl

named_target : (a : Option ℕ) (types : List ℕ) (v : Option ℕ) (names : List (Reference × Thing)) → aliases_named (option_to_list (target_bound (record { alias = a; types = types }) v)) ++ names ≡ named_as (option_map Place a) (target_thing types v) names
named_target None types None names = refl
named_target (Some place) types None names = refl
named_target a types (Some v) names = named_vertex a types v names

named_edge : (place r t : Option ℕ) (names : List (Reference × Thing)) → aliases_named (option_to_list (edge_bound place r t)) ++ names ≡ named_as (option_map Place place) (edge_thing r t) names
named_edge None r t names = refl
named_edge (Some place) None t names = refl
named_edge (Some place) (Some r) None names = refl
named_edge (Some place) (Some r) (Some t) names = refl

appended : (xs ys : List (ℕ × Placed)) (names : List (Reference × Thing)) → aliases_named (xs ++ ys) ++ names ≡ aliases_named xs ++ (aliases_named ys ++ names)
appended xs ys names = ap (λ l. l ++ names) (map-append alias_named xs ys) ∙ append_assoc (aliases_named xs) (aliases_named ys) names

pub named_all : (ends : Ends) (edge : Option ℕ) (f : From Reference) (c : Candidate) (names : List (Reference × Thing)) → AreEnds ends f → option_map Place edge ≡ f.edge → aliases_named (bound_to ends edge c) ++ names ≡ with_candidate f c names
named_all ends edge f c names are e =
    let target = option_to_list (target_bound ends.target c.target) in let middle = option_to_list (edge_bound edge c.edge c.kind) in let source = option_to_list (end_things ends.source c.source) in
    appended target (middle ++ source) names ∙ ap (λ l. aliases_named target ++ l) (appended middle source names)
    ∙ named_target ends.target.alias ends.target.types c.target (aliases_named middle ++ (aliases_named source ++ names))
    ∙ ap (named_as (option_map Place ends.target.alias) (target_thing ends.target.types c.target)) (named_edge edge c.edge c.kind (aliases_named source ++ names)
    ∙ ap (named_as (option_map Place edge) (edge_thing c.edge c.kind)) (named_vertex ends.source.alias ends.source.types c.source names))
    ∙ ap₂ (λ a ts. named_as a (target_thing ts c.target) (named_as (option_map Place edge) (edge_thing c.edge c.kind) (named_as (option_map Place ends.source.alias) (Some (a_vertex ends.source.types c.source)) names))) are.target are.target_types
    ∙ ap (λ a. named_as f.target (target_thing f.target_types c.target) (named_as a (edge_thing c.edge c.kind) (named_as (option_map Place ends.source.alias) (Some (a_vertex ends.source.types c.source)) names))) e
    ∙ ap₂ (λ a ts. named_as f.target (target_thing f.target_types c.target) (named_as f.edge (edge_thing c.edge c.kind) (named_as a (Some (a_vertex ts c.source)) names))) are.source are.source_types
