-- WithinLemmas: a property of each existing vertex that is preserved along rows to existing vertices holds of all
-- bindings.
use Rattle.std.proofs.Common.{ℕ, ◌<◌, ◌≡◌, true, false, cond, List, [], ◌∷◌, length, Option, Some, None, refl, sym, ap, ◌∙◌, subst}
use Rattle.std.specs.List.{flat_map, All}
use Rattle.std.proofs.lemmas.List.Elements.{All-nil, All-cons}
use Rattle.gq_graph.specs.declared.types.EdgeType.{EdgeType}
use Rattle.gq_graph.specs.declared.rows.EdgeRow.{EdgeRow}
use Rattle.gq_graph.specs.declared.rows.Candidate.{Candidate}
use Rattle.gq_graph.specs.Candidates.{Sight, numbered, among, is_target, alone}
use Rattle.gq_index.specs.Places.{below}
use Rattle.gq_index.proofs.WalkLemmas.{flat_map_filter, All-flat_map, all_below}
use Rattle.gq_index.proofs.SightLemmas.{by_number_below}
use Rattle.gq_rules_typing.specs.Way.{Way}
use Rattle.gq_rules_typing.specs.Patterns.{PathStep}
use Rattle.gq_rules_meaning.specs.Paths.{far_end, ways_of, along, step_from, steps_from, bindings}
use Rattle.gq_exec_source.proofs.HopLemmas.{target_low}

module _ (sight : Sight) (P : Candidate → Type 0)
    (goes : (c : Candidate) (r e far : ℕ) → P c → far < length sight.kinds → P (record { source = c.source; edge = Some r; kind = Some e; target = Some far })) where
  any : {A : Type 0} (xs : List A) → All (λ _. Unit {0}) xs
  any xs = λ k d h. tt

  all_along : (step : PathStep) (c : Candidate) (v : ℕ) (type : ℕ × EdgeType) (row : ℕ × EdgeRow) (w : Way) → P c → All P (along sight step c v type row w)
  all_along step c v type row w has = go (far_end w type row.1 v) refl
    where
      go : (far : Option ℕ) → far_end w type row.1 v ≡ far → All P (along sight step c v type row w)
      go None is = rw (is, along) (All-nil P)
      go (Some x) is =
          let b : Candidate = record { source = c.source; edge = Some row.0; kind = Some type.0; target = Some x } in
          rw (is, along) (elim (is_target sight.kinds step.targets x) as (λ t. is_target sight.kinds step.targets x ≡ t → All P (cond t (b ∷ []) [])) [
            | true ↦ λ yes. All-cons P b [] (goes c row.0 type.0 x has (target_low sight.kinds step.targets x yes)) (All-nil P)
            | false ↦ λ _. All-nil P
          ] refl)

  all_step : (step : PathStep) (c : Candidate) → P c → All P (step_from sight step c)
  all_step step c has =
      All-flat_map P (λ _. Unit {0}) _
      (λ type _. All-flat_map P (λ _. Unit {0}) _
      (λ row _. All-flat_map P (λ _. Unit {0}) (along sight step c _ type row) (λ w _. all_along step c _ type row w has) (ways_of step type.0) (any (ways_of step type.0)))
      (numbered 0 sight.edges) (any (numbered 0 sight.edges)))
      (numbered 0 sight.types) (any (numbered 0 sight.types))

  all_steps : (steps : List PathStep) (c : Candidate) → P c → All P (steps_from sight steps c)
  all_steps [] c has = All-cons P c [] has (All-nil P)
  all_steps (step ∷ steps) c has = All-flat_map P P (steps_from sight steps) (all_steps steps) (step_from sight step c) (all_step step c has)

  pub bindings_all : (set : List ℕ) (steps : List PathStep) → ((v : ℕ) → v < length sight.kinds → P (alone v)) → All P (bindings sight set steps)
  bindings_all set steps begins =
      let S : ℕ → List Candidate = λ v. steps_from sight steps (alone v) in
      let n : ℕ = length sight.kinds in
      let at : (v : ℕ) → v < n → All P (cond (among set v) (S v) []) =
      λ v low. elim (among set v) as (λ t. All P (cond t (S v) [])) [ true ↦ all_steps steps (alone v) (begins v low) | false ↦ All-nil P ] in
      subst (All P) (sym (ap (flat_map S) (by_number_below sight set) ∙ flat_map_filter S (among set) (below n)))
      (All-flat_map P (λ v. v < n) (λ v. cond (among set v) (S v) []) at (below n) (all_below n))
