-- Drafts, one by one.
use Rattle.std.proofs.Common.{◌≡◌, ℕ, zero, suc, ◌+◌, ◌<◌, ◌≤◌, List, [], ◌∷◌, ◌++◌, length, take, drop, set, Option, Some, None, false, inl, inr, refl, sym, ap, ap₂, subst, ◌∙◌, arith}
use Rattle.std.specs.Prelude.{slice_get, option_and_then, Err}
use Rattle.std.proofs.lemmas.Bool.{cases_lt}
use Rattle.std.proofs.lemmas.List.{append_assoc, append-nil, length-take}
use Rattle.gq_graph.specs.Catalog.{Schema}
use Rattle.gq_index.specs.declared.store.Store.{Store}
use Rattle.gq_graph.specs.declared.rows.StoreFault.{StoreFault}
use Rattle.gq_graph.specs.declared.rows.StoreFault.TheVariants as fault
use Rattle.gq_index.specs.Steps.{Step, Done, Puts}
use Rattle.gq_index.proofs.StepLemmas.{done_more, err_more, err_before}
use Rattle.gq_load.specs.Records.{Loaded, judged, judged_as}
use Rattle.gq_load.specs.declared.route.Route.{Route}
use Rattle.gq_load.specs.declared.draft.Draft.{Draft}
use Rattle.gq_load.specs.Columns.{Fields}
use Rattle.gq_load.specs.Rows.{steps_along, steps_of, and_steps, is_short}
use Rattle.gq_load.specs.Drafts.{drafted, all_drafted, IsSized}
use Rattle.gq_load.proofs.ListLemmas.{from_place, to_place, at_end, take_all, get_written, get_other, same_some}
use Rattle.gq_load.proofs.RowLemmas.{Reading}

drafted_last : (schema : Schema) (routes : List Route) (drafts : List Draft) (route : Route) (draft : Draft) → length routes ≡ length drafts
    → all_drafted schema (routes ++ route ∷ []) (drafts ++ draft ∷ []) ≡ all_drafted schema routes drafts ++ drafted schema route draft
drafted_last schema [] [] route draft same = append-nil (drafted schema route draft)
drafted_last schema [] (d ∷ ds) route draft same = absurd (omega arith)
drafted_last schema (r ∷ rs) [] route draft same = absurd (omega arith)
drafted_last schema (r ∷ rs) (d ∷ ds) route draft same =
    ap (λ steps. drafted schema r d ++ steps) (drafted_last schema rs ds route draft (omega arith)) ∙ sym (append_assoc (drafted schema r d) (all_drafted schema rs ds) (drafted schema route draft))

and_more : (a b : List Step) (o : Option (List Step)) → and_steps a (and_steps b o) ≡ and_steps (a ++ b) o
and_more a b None = refl
and_more a b (Some more) = ap (λ (s : List Step). Some s) (sym (append_assoc a b more))

-- the steps of the drafts of the routes up to a place
abbrev pub drafted_to : Schema → List Route → List Draft → ℕ → List Step
drafted_to schema routes drafts i = all_drafted schema (take i routes) (take i drafts)

pub drafted_more : (schema : Schema) (routes : List Route) (drafts now : List Draft) (i : ℕ) (route : Route) (draft : Draft) → slice_get routes i ≡ Some route
    → length drafts ≡ length routes → take (i + 1) now ≡ take i drafts ++ draft ∷ []
    → drafted_to schema routes now (i + 1) ≡ drafted_to schema routes drafts i ++ drafted schema route draft
drafted_more schema routes drafts now i route draft at same next =
    ap₂ (all_drafted schema) (to_place routes i route at) next
    ∙ drafted_last schema (take i routes) (take i drafts) route draft (omega (arith, length-take i routes, length-take i drafts))

-- the steps of the routes from a place on
pub steps_here : (read : Reading) (schema : Schema) (routes : List Route) (fields : Fields) (i : ℕ) (route : Route) → slice_get routes i ≡ Some route
    → steps_of read schema (drop i routes) fields ≡ option_and_then (λ steps. and_steps steps (steps_of read schema (drop (i + 1) routes) fields)) (steps_along read schema route fields)
steps_here read schema routes fields i route at = ap (λ rs. steps_of read schema rs fields) (from_place routes i route at)

pub steps_more : (whole : Option (List Step)) (read : Reading) (schema : Schema) (routes : List Route) (drafts now : List Draft) (fields : Fields) (i : ℕ) (route : Route) (draft : Draft)
    → slice_get routes i ≡ Some route → length drafts ≡ length routes → take (i + 1) now ≡ take i drafts ++ draft ∷ []
    → steps_along read schema route fields ≡ Some (drafted schema route draft)
    → whole ≡ and_steps (drafted_to schema routes drafts i) (steps_of read schema (drop i routes) fields)
    → whole ≡ and_steps (drafted_to schema routes now (i + 1)) (steps_of read schema (drop (i + 1) routes) fields)
steps_more whole read schema routes drafts now fields i route draft at same next is so_far =
    so_far
    ∙ ap (and_steps (drafted_to schema routes drafts i)) (steps_here read schema routes fields i route at ∙ ap (λ (o : Option (List Step)). option_and_then (λ steps. and_steps steps (steps_of read schema (drop (i + 1) routes) fields)) o) is)
    ∙ and_more (drafted_to schema routes drafts i) (drafted schema route draft) (steps_of read schema (drop (i + 1) routes) fields)
    ∙ ap (λ (s : List Step). and_steps s (steps_of read schema (drop (i + 1) routes) fields)) (sym (drafted_more schema routes drafts now i route draft at same next))

pub steps_none : (whole : Option (List Step)) (read : Reading) (schema : Schema) (routes : List Route) (done : List Step) (fields : Fields) (i : ℕ) (route : Route)
    → slice_get routes i ≡ Some route → steps_along read schema route fields ≡ None
    → whole ≡ and_steps done (steps_of read schema (drop i routes) fields) → whole ≡ None
steps_none whole read schema routes done fields i route at isnt so_far =
    so_far ∙ ap (and_steps done) (steps_here read schema routes fields i route at ∙ ap (λ (o : Option (List Step)). option_and_then (λ steps. and_steps steps (steps_of read schema (drop (i + 1) routes) fields)) o) isnt)

pub steps_end : (whole : Option (List Step)) (read : Reading) (schema : Schema) (routes : List Route) (drafts : List Draft) (fields : Fields) (i : ℕ)
    → length routes ≤ i → length drafts ≡ length routes → whole ≡ and_steps (drafted_to schema routes drafts i) (steps_of read schema (drop i routes) fields)
    → whole ≡ Some (all_drafted schema routes drafts)
steps_end whole read schema routes drafts fields i high same so_far =
    so_far ∙ ap (λ rs. and_steps (drafted_to schema routes drafts i) (steps_of read schema rs fields)) (at_end routes i high)
    ∙ ap (λ (s : List Step). Some s) (append-nil (drafted_to schema routes drafts i) ∙ ap₂ (all_drafted schema) (take_all i routes high) (take_all i drafts (omega arith)))

-- if each draft up to a place is sized and the next one is, so are all up to the next place
pub sized_more : (schema : Schema) (routes : List Route) (drafts : List Draft) (i : ℕ) (route : Route) (draft : Draft)
    → slice_get routes i ≡ Some route → i < length drafts → IsSized schema route draft
    → ((k : ℕ) (r : Route) (d : Draft) → k < i → slice_get routes k ≡ Some r → slice_get drafts k ≡ Some d → IsSized schema r d)
    → (k : ℕ) (r : Route) (d : Draft) → k < i + 1 → slice_get routes k ≡ Some r → slice_get (set drafts i draft) k ≡ Some d → IsSized schema r d
sized_more schema routes drafts i route draft at low own sized k r d below at_r at_d = elim (cases_lt k i) [
  | inl less ↦ sized k r d less at_r (sym (get_other drafts i k draft less) ∙ at_d)
  | inr high ↦
      let same : k ≡ i = omega arith in
      let is_r : route ≡ r = same_some route r (sym at ∙ ap (slice_get routes) (sym same) ∙ at_r) in
      let is_d : draft ≡ d = same_some draft d (sym (get_written drafts i draft low) ∙ ap (slice_get (set drafts i draft)) (sym same) ∙ at_d) in
      subst (λ (x : Draft). IsSized schema r x) is_d (subst (λ (x : Route). IsSized schema x draft) is_r own)
]

-- ---- drafts that are put

drafted_split : (schema : Schema) (i : ℕ) (routes : List Route) (drafts : List Draft) → length drafts ≡ length routes
    → all_drafted schema routes drafts ≡ all_drafted schema (take i routes) (take i drafts) ++ all_drafted schema (drop i routes) (drop i drafts)
drafted_split schema zero routes drafts same = refl
drafted_split schema (suc i) [] [] same = refl
drafted_split schema (suc i) [] (d ∷ ds) same = absurd (omega arith)
drafted_split schema (suc i) (r ∷ rs) [] same = absurd (omega arith)
drafted_split schema (suc i) (r ∷ rs) (d ∷ ds) same =
    ap (λ steps. drafted schema r d ++ steps) (drafted_split schema i rs ds (omega arith))
    ∙ sym (append_assoc (drafted schema r d) (all_drafted schema (take i rs) (take i ds)) (all_drafted schema (drop i rs) (drop i ds)))

pub put_more : (schema : Schema) (a b c : Store) (routes : List Route) (drafts : List Draft) (i : ℕ) (route : Route) (draft : Draft)
    → slice_get routes i ≡ Some route → slice_get drafts i ≡ Some draft → length drafts ≡ length routes
    → Done a (drafted_to schema routes drafts i) b → Done b (drafted schema route draft) c → Done a (drafted_to schema routes drafts (i + 1)) c
put_more schema a b c routes drafts i route draft at_r at_d same first next =
    subst (λ (s : List Step). Done a s c) (sym (drafted_more schema routes drafts drafts i route draft at_r same (to_place drafts i draft at_d)))
    (done_more a b c (drafted_to schema routes drafts i) (drafted schema route draft) first next)

pub put_stops : (A B : Type 0) (schema : Schema) (a b c : Store) (routes : List Route) (drafts : List Draft) (i : ℕ) (route : Route) (draft : Draft) (f : StoreFault)
    → slice_get routes i ≡ Some route → slice_get drafts i ≡ Some draft → length drafts ≡ length routes
    → Done a (drafted_to schema routes drafts i) b → Puts {A = A} b (drafted schema route draft) c (Err f) → Puts {A = B} a (all_drafted schema routes drafts) c (Err f)
put_stops A B schema a b c routes drafts i route draft f at_r at_d same first next =
    subst (λ (s : List Step). Puts {A = B} a s c (Err f))
    (ap (λ (s : List Step). s ++ all_drafted schema (drop (i + 1) routes) (drop (i + 1) drafts)) (sym (drafted_more schema routes drafts drafts i route draft at_r same (to_place drafts i draft at_d)))
    ∙ sym (drafted_split schema (i + 1) routes drafts same))
    (err_before A B a c (drafted_to schema routes drafts i ++ drafted schema route draft) (all_drafted schema (drop (i + 1) routes) (drop (i + 1) drafts)) f
    (err_more A A a b c (drafted_to schema routes drafts i) (drafted schema route draft) f first next))

-- ---- records

pub judged_loaded : (read : Reading) (schema : Schema) (routes : List Route) (fields : Fields) (steps : List Step) → is_short routes fields ≡ false
    → steps_of read schema routes fields ≡ Some steps → judged read schema routes fields ≡ Loaded steps
judged_loaded read schema routes fields steps long is = rw long (ap judged_as is)

pub err_as : (A B : Type 0) (a c : Store) (xs ys : List Step) (f : StoreFault) → ys ≡ xs → Puts {A = A} a xs c (Err f) → Puts {A = B} a ys c (Err f)
err_as A B a c xs ys fault.Full same is = rw same is
err_as A B a c xs ys fault.OutOfMemory same is = rw same is
