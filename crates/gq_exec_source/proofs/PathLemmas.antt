-- PathLemmas: the steps of a path as walked, and its bindings as the candidates of a block.
use Rattle.std.proofs.Common.{◌≡◌, ℕ, ◌+◌, ◌<◌, ◌≤◌, ◌==◌, Bool, true, false, List, [], ◌∷◌, ◌++◌, map, length, get_or, take, drop, Option, Some, None, refl, ap, ap₂, sym, ◌∙◌, subst, arith}
use Rattle.std.specs.Prelude.{nat_le, Result, Ok, Err, IfOk}
use Rattle.std.specs.List.{All, filter_map, cons_option, list_any}
use Rattle.std.proofs.lemmas.List.{map-append, take_more, take_all, length-map}
use Rattle.std.proofs.lemmas.Bool.Decides.{nat_tests}
use Rattle.gq_tree.specs.declared.select.Way.{Way}
use Rattle.gq_graph.specs.Catalog.{Schema}
use Rattle.gq_graph.specs.Candidates.{Sight}
use Rattle.gq_graph.specs.declared.rows.Candidate.{Candidate}
use Rattle.gq_graph.specs.declared.rows.VertexRow.{VertexRow}
use Rattle.gq_index.specs.Sights.{sight_of}
use Rattle.gq_rules_typing.specs.Selecting as plain
use Rattle.gq_rules_typing.specs.Patterns as patterns
use Rattle.gq_rules_typing.specs.Patterns.{path_step, way_of}
use Rattle.gq_rules_meaning.specs.Calendars.{Calendar}
use Rattle.gq_rules_meaning.specs.Paths.{bindings}
use Rattle.gq_rules_meaning.specs.Sources as sources
use Rattle.gq_rules_meaning.specs.Sources.{within_bound}
use Rattle.gq_plan_ir.specs.declared.block.Block.{Block}
use Rattle.gq_plan_ir.specs.declared.block.Walk.TheVariants as walk
use Rattle.gq_plan_ir.specs.declared.block.PathStep.{PathStep}
use Rattle.gq_plan_ir.specs.declared.plan.Plan.{Plan}
use Rattle.gq_plan_ir.specs.BlockView.{view_path_step, view_walk}
use Rattle.gq_plan_ir.specs.Reference as reference
use Rattle.gq_plan_ir.specs.Reference.{Reference}
use Rattle.gq_eval_context.specs.Viewed.{Over}
use Rattle.gq_eval_context.specs.Looks.{world_over}
use Rattle.gq_exec_source.specs.declared.path_types.PathStep as walked
use Rattle.gq_exec_source.specs.Ways.{step_of}
use Rattle.gq_exec_source.proofs.WithinLemmas.{bindings_all}
use Rattle.gq_exec_source.specs.Seen.{own_way_of, setting_for}
use Rattle.gq_exec_source.specs.Starts.{IsWithin, AreFrom}
use Rattle.gq_exec_source.proofs.SortLemmas.{left_out, taken_in, no_more, no_way, one_way}

own_way_there : (own : List ℕ) (w : Way × ℕ) → list_any (λ m. m == w.1) own ≡ true → own_way_of own w ≡ Some w
own_way_there own w e = rw e refl

own_way_missing : (own : List ℕ) (w : Way × ℕ) → list_any (λ m. m == w.1) own ≡ false → own_way_of own w ≡ None
own_way_missing own w e = rw e refl

module _ (own : List ℕ) where
  pub way_left_out : (xs : List (Way × ℕ)) (i : ℕ) (x : Way × ℕ) (done : List (Way × ℕ)) → filter_map (own_way_of own) xs ≡ done ++ filter_map (own_way_of own) (drop i xs) → i < length xs → x ≡ get_or xs i x → list_any (λ m. m == x.1) own ≡ false
      → filter_map (own_way_of own) xs ≡ done ++ filter_map (own_way_of own) (drop (i + 1) xs)
  way_left_out xs i x done h n is e = left_out (own_way_of own) xs i x done h n is (own_way_missing own x e)

  pub way_taken : (xs : List (Way × ℕ)) (i : ℕ) (x : Way × ℕ) (done new : List (Way × ℕ)) → filter_map (own_way_of own) xs ≡ done ++ filter_map (own_way_of own) (drop i xs) → i < length xs → x ≡ get_or xs i x → list_any (λ m. m == x.1) own ≡ true → new ≡ done ++ x ∷ []
      → filter_map (own_way_of own) xs ≡ new ++ filter_map (own_way_of own) (drop (i + 1) xs)
  way_taken xs i x done new h n is e w = taken_in (own_way_of own) xs i x done new x h n is (own_way_there own x e) w

  pub way_all : (xs : List (Way × ℕ)) (i : ℕ) (done : List (Way × ℕ)) → filter_map (own_way_of own) xs ≡ done ++ filter_map (own_way_of own) (drop i xs) → length xs ≤ i → done ≡ filter_map (own_way_of own) xs
  way_all xs i done h l = no_more (own_way_of own) xs i done h l

pub ruleset way_laws = (way_left_out, way_taken, way_all)

module _ (schema : Schema) (p : Plan) where
  way_same : (w : Way × ℕ) → own_way_of p.edges w ≡ way_of (setting_for schema p) (w.0, reference.EdgeType w.1)
  way_same w = by (list_any (λ m. m == w.1) p.edges) refl
    where
      by : (b : Bool) → list_any (λ m. m == w.1) p.edges ≡ b → own_way_of p.edges w ≡ way_of (setting_for schema p) (w.0, reference.EdgeType w.1)
      by true e = own_way_there p.edges w e ∙ sym (one_way schema p w.0 w.1 e)
      by false e = own_way_missing p.edges w e ∙ sym (no_way schema p w.0 w.1 e)

  ways_same : (ws : List (Way × ℕ)) → filter_map (own_way_of p.edges) ws ≡ filter_map (way_of (setting_for schema p)) (map (λ w. (w.0, reference.EdgeType w.1)) ws)
  ways_same [] = refl
  ways_same (w ∷ ws) = ap₂ (λ (o : Option (Way × ℕ)) (l : List (Way × ℕ)). cons_option o l) (way_same w) (ways_same ws)

  -- a step, from its ways and the types that it leads to
  pub step_is : (step : PathStep) (own : List ℕ) (ways edges listed : List (Way × ℕ)) (targets : List ℕ) → own ≡ p.edges → ways ≡ step.ways
      → edges ≡ filter_map (own_way_of own) ways → listed ≡ edges → targets ≡ (path_step (setting_for schema p) (view_path_step step)).targets
      → step_of (record { edges = listed; targets = targets }) ≡ path_step (setting_for schema p) (view_path_step step)
  step_is step own ways edges listed targets o w e l t =
      ap₂ (λ (es : List (Way × ℕ)) (ts : List ℕ). record { edges = es; targets = ts })
      (l ∙ e ∙ ap₂ (λ own ws. filter_map (own_way_of own) ws) o w ∙ ways_same step.ways) t

  -- one step more
  pub steps_more : (steps : List PathStep) (i : ℕ) (x : PathStep) (done new : List walked.PathStep) (s : walked.PathStep) → i < length steps → x ≡ get_or steps i x
      → map step_of done ≡ map (λ x. path_step (setting_for schema p) (view_path_step x)) (take i steps) → step_of s ≡ path_step (setting_for schema p) (view_path_step x)
      → new ≡ done ++ s ∷ [] → map step_of new ≡ map (λ x. path_step (setting_for schema p) (view_path_step x)) (take (i + 1) steps)
  steps_more steps i x done new s n is h e w =
      let f : PathStep → patterns.PathStep = λ x. path_step (setting_for schema p) (view_path_step x) in
      ap (map step_of) w ∙ map-append step_of done (s ∷ [])
      ∙ ap₂ (λ (a : List patterns.PathStep) (b : patterns.PathStep). a ++ b ∷ []) h (e ∙ ap f is)
      ∙ sym (ap (map f) (take_more steps i x n) ∙ map-append f (take i steps) (get_or steps i x ∷ []))

  pub steps_all : (steps : List PathStep) (i : ℕ) (done : List walked.PathStep) → length steps ≤ i
      → map step_of done ≡ map (λ x. path_step (setting_for schema p) (view_path_step x)) (take i steps)
      → map step_of done ≡ map (path_step (setting_for schema p)) (map view_path_step steps)
  steps_all steps i done l h =
      h ∙ ap (map (λ x. path_step (setting_for schema p) (view_path_step x))) (take_all i steps l) ∙ twice steps
    where
      twice : (xs : List PathStep) → map (λ x. path_step (setting_for schema p) (view_path_step x)) xs ≡ map (path_step (setting_for schema p)) (map view_path_step xs)
      twice [] = refl
      twice (x ∷ xs) = ap (λ l. path_step (setting_for schema p) (view_path_step x) ∷ l) (twice xs)

-- ---- the bound

low_enough : (n m : ℕ) → n ≤ m → nat_le n m ≡ true
low_enough n m h = grind (arith, nat_tests)

within_few : (w : plain.Walk Reference) (cs : List Candidate) → length cs ≤ 4194304 → within_bound w cs ≡ true
within_few plain.Nowhere cs h = refl
within_few (plain.OneHop hop) cs h = refl
within_few (plain.Path steps) cs h = low_enough (length cs) 4194304 h

-- ---- the bindings as candidates

within_rows : (o : Over) (set : List ℕ) (steps : List patterns.PathStep) → All (IsWithin (length o.vertices)) (bindings (sight_of o.schema o.vertices o.edges) set steps)
within_rows o set steps =
    let sight : Sight = sight_of o.schema o.vertices o.edges in
    subst (λ (n : ℕ). All (IsWithin n) (bindings sight set steps)) (length-map o.vertices (λ (row : VertexRow). row.kind))
    (bindings_all sight (IsWithin (length sight.kinds)) (λ c r e far has low. record { source = has.source; target = low }) set steps (λ v low. record { source = low; target = tt }))

-- the bindings of a block's path
abbrev pub bindings_over : Over → List ℕ → List PathStep → List Candidate
bindings_over o set steps = bindings (sight_of o.schema o.vertices o.edges) set (map (path_step (setting_for o.schema o.plan)) (map view_path_step steps))

same : (o : Over) (set : List ℕ) (steps : List PathStep) (clock : Calendar) → bindings_over o set steps ≡ sources.candidates_of (world_over clock o) set (view_walk (walk.Path steps))
same o set steps clock = refl

pub from_path : {E : Type 0} (o : Over) (block : Block) (set : List ℕ) (steps : List PathStep) (result : Result (List Candidate) E) → block.walk ≡ walk.Path steps
    → IfOk result (λ cs. cs ≡ bindings_over o set steps) → IfOk result (λ cs. length cs ≤ 4194304) → IfOk result (AreFrom o block set)
from_path o block set steps (Ok cs) e is few = record {
  each = λ clock s shows. is ∙ same o set steps clock ∙ ap (λ w. sources.candidates_of (world_over clock o) set (view_walk w)) (sym e);
  within = subst (All (IsWithin (length o.vertices))) (sym is) (within_rows o set (map (path_step (setting_for o.schema o.plan)) (map view_path_step steps)));
  bounded = within_few (view_walk block.walk) cs few;
}
from_path o block set steps (Err x) e is few = tt
