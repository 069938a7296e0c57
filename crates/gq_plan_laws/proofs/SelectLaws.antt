-- SelectLaws: a SELECT by references gives what the one by names gives.
use Rattle.std.proofs.Common.{◌≡◌, ℕ, List, [], ◌∷◌, map, Option, Some, None, refl, ap, ◌∙◌, suc, Bool, true, false, ◌++◌, zero, sym, subst}
use Rattle.std.specs.Prelude.{filter_map, if◌then◌else◌}
use Rattle.std.specs.Option.{option_map}
use Rattle.std.specs.List.{cons_option, list_all}
use Rattle.gq_tree.specs.declared.select.Way.{Way}
use Rattle.gq_graph.specs.declared.rows.Candidate.{Candidate}
use Rattle.gq_graph.specs.declared.rows.Pattern.{Pattern}
use Rattle.gq_graph.specs.Candidates.{candidates}
use Rattle.gq_rules_typing.specs.Selecting.{Types, Every, These, Hop, Step, Walk, Nowhere, OneHop, Path, Change, Adds, Puts, Act, AtAlias, AtGlobal, Choose, Acts, no_act, act_and, Choices, otherwise, when, Select}
use Rattle.gq_rules_typing.specs.Patterns.{PathStep, by_number, edge_types, own_way, target_types, step_with, hop_step, way_of, path_step, last_step, of_last, edge_alias, target_alias, end_types, is_alias}
use Rattle.gq_rules_meaning.specs.Expressions.{setting, Look, truth_of, value_of}
use Rattle.gq_rules_meaning.specs.Paths.{bindings}
use Rattle.gq_rules_meaning.specs.Sources.{hop_pattern, candidates_of, within_bound, From, source_of, from, named_as, edge_thing, target_thing, with_candidate, with_vertex, selects_target}
use Rattle.gq_plan_ir.specs.Naming.{naming_by, named_by, Visible, View, visible_at, set_flag, is_set_at, reference_at, AreDistinct, source_at}
use Rattle.gq_plan_ir.specs.RenamedBlocks.{renamed_types, renamed_hop, renamed_step, renamed_walk, renamed_change, renamed_act, renamed_acts, renamed_choices, renamed_select}
use Rattle.gq_plan_ir.specs.Alike.{Sides, old_world, new_world, WordsAlike, AnswersAlike, new_slot, new_slots, AccumIs, SlotsAlike, NamesAlike}
use Rattle.gq_value.specs.Accums.{Given}
use Rattle.gq_accum_laws.specs.Fits.{fits}
use Rattle.gq_rules_meaning.specs.Answers.{Answer, Gives, ◌>>=◌, blaming, found, each}
use Rattle.gq_rules_meaning.specs.Meanings.{vertex_of_meant}
use Rattle.gq_rules_meaning.specs.States.{Thing, Slot, State, slot_named, sight, a_vertex, SetOf}
use Rattle.gq_rules_meaning.specs.Blocks.{AtPlace, Contribution, vertex_named, contributed, contributions, of_act, of_choices, Match, match_of, matches, contents_after, slots_after, first_unfit, unless_unfit, fed_together, After, after_matches, accumulated, BlockFault}
use Rattle.gq_rules_meaning.specs.StateFits.{AllOf}
use Rattle.gq_plan_ir.specs.Renamed.{Renaming, SeesAlike, renamed}
use Rattle.gq_plan_ir.proofs.RenamedLaws.{then_same}
use Rattle.gq_plan_laws.proofs.AnswerLaws.{alike_then, alike_same, alike_blaming, through_alike, through_each, each_alike, each_same}
use Rattle.gq_plan_laws.proofs.NameLaws.{Told, LooksAlike, looks_new, AllTold, all_told, looks, found_set, not_visible}
use Rattle.gq_plan_laws.proofs.SightLaws.{slot_number_alike, slot_alike, sees_alike, truth_alike, passes_alike, input_alike, made_alike, value_alike, number_alike}
use Rattle.gq_rules_meaning.specs.Writes.{Wrongly, Making, changed_at, slot_changed, fits_at, if_fit, slots_changed}
use Rattle.gq_rules_meaning.specs.Posts.{for_target, same_end, before_phases, phases, Written, Post, at_vertex, post_acts, post_act, post_choices, matched, post_of, phase, posted}
use Rattle.gq_plan_laws.proofs.MentionLaws.{act_names}
use mathlib.Core.Path.{fun_ext}
use Rattle.std.specs.declared.cmp.Ordering.{Ordering}
use Rattle.std.specs.Ordering.{nat_cmp, ordering_then, ordering_reverse}
use Rattle.gq_tree.specs.Tree.{Tree}
use Rattle.gq_value.specs.Val.{Val}
use Rattle.gq_value.specs.Order.{compare}
use Rattle.gq_accum_laws.specs.Gather.{sorted}
use Rattle.gq_rules_meaning.specs.Graphs.{vertex_count}
use Rattle.gq_rules_meaning.specs.Tails.{Ranked, selected_look, passing, ranked, by_keys, in_order, at_most, cut, tail, Selected, select}
use Rattle.gq_rules_typing.specs.Words.{under}
use Rattle.gq_rules_meaning.specs.Statements.{is_set}
use Rattle.gq_plan_ir.specs.StandsFor.{with_alias, AliasIsNew, with_source, with_edge, with_aliases, SelectStands}
use Rattle.gq_plan_expr.proofs.PlanLaws.{some_inj}

-- ---- by references a walk takes the same edge types to the same vertex types

pub filter_map_alike : {A B C : Type 0} (h : A → B) (f : A → Option C) (g : B → Option C) → ((a : A) → g (h a) ≡ f a) → (as' : List A) → filter_map g (map h as') ≡ filter_map f as'
filter_map_alike h f g k [] = refl
filter_map_alike h f g k (a ∷ as') = ap (λ o. cons_option o (filter_map g (map h as'))) (k a) ∙ ap (cons_option (f a)) (filter_map_alike h f g k as')

pub map_alike : {A B C : Type 0} (h : A → B) (f : A → C) (g : B → C) → ((a : A) → g (h a) ≡ f a) → (as' : List A) → map g (map h as') ≡ map f as'
map_alike h f g k [] = refl
map_alike h f g k (a ∷ as') = ap (λ c. c ∷ map g (map h as')) (k a) ∙ ap (λ cs. f a ∷ cs) (map_alike h f g k as')

abbrev a_step : List (Way × ℕ) → List ℕ → PathStep
a_step edges targets = record { edges = edges; targets = targets }

abbrev a_pattern : List ℕ → List ℕ → Pattern
a_pattern edges targets = record { edges = edges; targets = targets }

module _ {M N : Type 0} (s : Sides M N) (w : WordsAlike s) (f source : M → N) where
  -- ---- types

  pub edges_alike : (ts : Types M) → edge_types (setting (new_world s)) (renamed_types s.fixed.edge_type ts) ≡ edge_types (setting (old_world s)) ts
  edges_alike Every = refl
  edges_alike (These ns) = filter_map_alike s.fixed.edge_type s.fixed.names.edge_type s.fixed.references.edge_type w.edge_type ns

  targets_alike : (edges : List (Way × ℕ)) (ts : Types M) → target_types (setting (new_world s)) edges (renamed_types s.fixed.vertex_type ts) ≡ target_types (setting (old_world s)) edges ts
  targets_alike edges Every = refl
  targets_alike edges (These ns) = ap by_number (filter_map_alike s.fixed.vertex_type s.fixed.names.vertex_type s.fixed.references.vertex_type w.vertex_type ns)

  with_alike : (edges : List (Way × ℕ)) (ts : Types M) → step_with (setting (new_world s)) edges (renamed_types s.fixed.vertex_type ts) ≡ step_with (setting (old_world s)) edges ts
  with_alike edges ts = ap (a_step edges) (targets_alike edges ts)

  hop_alike : (h : Hop M) → hop_step (setting (new_world s)) (renamed_hop (naming_by s.fixed f source) h) ≡ hop_step (setting (old_world s)) h
  hop_alike h =
      ap (λ ts. step_with (setting (new_world s)) (map (λ t. (own_way s.graph.sorts t, t)) ts) (renamed_types s.fixed.vertex_type h.targets)) (edges_alike h.edges)
      ∙ with_alike (map (λ t. (own_way s.graph.sorts t, t)) (edge_types (setting (old_world s)) h.edges)) h.targets

  abbrev new_way : Way × M → Way × N
  new_way d = (d.0, s.fixed.edge_type d.1)

  way_alike : (d : Way × M) → way_of (setting (new_world s)) (new_way d) ≡ way_of (setting (old_world s)) d
  way_alike d = ap with_way (w.edge_type d.1)
    where
      with_way : Option ℕ → Option (Way × ℕ)
      with_way None = None
      with_way (Some t) = Some (d.0, t)

  step_alike : (t : Step M) → path_step (setting (new_world s)) (renamed_step (naming_by s.fixed f source) t) ≡ path_step (setting (old_world s)) t
  step_alike t =
      ap (λ es. step_with (setting (new_world s)) es (renamed_types s.fixed.vertex_type t.targets)) (filter_map_alike new_way (way_of (setting (old_world s))) (way_of (setting (new_world s))) way_alike t.ways)
      ∙ with_alike (filter_map (way_of (setting (old_world s))) t.ways) t.targets

  -- ---- aliases and ends

  last_alike : (steps : List (Step M)) → last_step (map (renamed_step (naming_by s.fixed f source)) steps) ≡ option_map (renamed_step (naming_by s.fixed f source)) (last_step steps)
  last_alike (t ∷ u ∷ rest) = last_alike (u ∷ rest)
  last_alike steps = refl

  pub edge_alias_alike : (walk : Walk M) → edge_alias (renamed_walk (naming_by s.fixed f source) walk) ≡ option_map f (edge_alias walk)
  edge_alias_alike (Path steps) = ap of_step (last_alike steps) ∙ go (last_step steps)
    where
      of_step : {N : Type 0} → Option (Step N) → Option N
      of_step None = None
      of_step (Some t) = t.edge_alias

      go : (o : Option (Step M)) → of_step (option_map (renamed_step (naming_by s.fixed f source)) o) ≡ option_map f (of_step o)
      go None = refl
      go (Some t) = refl
  edge_alias_alike walk = refl

  pub target_alias_alike : (walk : Walk M) → target_alias (renamed_walk (naming_by s.fixed f source) walk) ≡ option_map f (target_alias walk)
  target_alias_alike (Path steps) = ap of_step (last_alike steps) ∙ go (last_step steps)
    where
      of_step : {N : Type 0} → Option (Step N) → Option N
      of_step None = None
      of_step (Some t) = t.target_alias

      go : (o : Option (Step M)) → of_step (option_map (renamed_step (naming_by s.fixed f source)) o) ≡ option_map f (of_step o)
      go None = refl
      go (Some t) = refl
  target_alias_alike walk = refl

  pub ends_alike : (walk : Walk M) → end_types (setting (new_world s)) (renamed_walk (naming_by s.fixed f source) walk) ≡ end_types (setting (old_world s)) walk
  ends_alike Nowhere = refl
  ends_alike (OneHop h) = ap (λ (t : PathStep). t.targets) (hop_alike h)
  ends_alike (Path steps) = ap (of_last (λ t. (path_step (setting (new_world s)) t).targets)) (last_alike steps) ∙ go (last_step steps)
    where
      go : (o : Option (Step M)) → of_last (λ t. (path_step (setting (new_world s)) t).targets) (option_map (renamed_step (naming_by s.fixed f source)) o) ≡ of_last (λ t. (path_step (setting (old_world s)) t).targets) o
      go None = refl
      go (Some t) = ap (λ (t : PathStep). t.targets) (step_alike t)

  -- ---- candidates

  pattern_alike : (h : Hop M) → hop_pattern (setting (new_world s)) (renamed_hop (naming_by s.fixed f source) h) ≡ hop_pattern (setting (old_world s)) h
  pattern_alike h = ap (λ es. a_pattern es (hop_step (setting (new_world s)) (renamed_hop (naming_by s.fixed f source) h)).targets) (edges_alike h.edges) ∙ ap (λ (t : PathStep). a_pattern (edge_types (setting (old_world s)) h.edges) t.targets) (hop_alike h)

  pub candidates_alike : (start : List ℕ) (walk : Walk M) → candidates_of (new_world s) start (renamed_walk (naming_by s.fixed f source) walk) ≡ candidates_of (old_world s) start walk
  candidates_alike start Nowhere = refl
  candidates_alike start (OneHop h) = ap (λ p. candidates s.graph.sight start (Some p)) (pattern_alike h)
  candidates_alike start (Path steps) = ap (bindings s.graph.sight start) (map_alike (renamed_step (naming_by s.fixed f source)) (path_step (setting (old_world s))) (path_step (setting (new_world s))) step_alike steps)

  pub bound_alike : (walk : Walk M) (cs : List Candidate) → within_bound (renamed_walk (naming_by s.fixed f source) walk) cs ≡ within_bound walk cs
  bound_alike Nowhere cs = refl
  bound_alike walk cs = refl

-- ---- by references a block has the same candidates and the same matches, and feeds accumulators the same

-- an option mapped to another form continues as it did
pub found_map : {F A B C : Type 0} (h : A → B) (f : A → Answer F C) (g : B → Answer F C) (o : Option A) (p : Option B) → p ≡ option_map h o → ((a : A) → g (h a) ≡ f a) → (found p >>= g) ≡ (found o >>= f)
found_map {F = F} {A = A} h f g o p e k = ap (λ p. found {F = F} p >>= g) e ∙ elim o as (λ (o : Option A). (found {F = F} (option_map h o) >>= g) ≡ (found {F = F} o >>= f)) [ None ↦ refl | Some a ↦ k a ]

module _ {M N : Type 0} (s : Sides M N) (w : WordsAlike s) (f : M → N) where
  -- ---- the source of a SELECT, and its candidates

  abbrev pub ToldIf : Option M → Type 0
  ToldIf None = Unit {0}
  ToldIf (Some x) = Told s w f (f x) x

  -- the aliases under other names
  abbrev pub renamed_from : From M → From N
  renamed_from m = record { source = option_map f m.source; source_types = m.source_types; start = m.start; edge = option_map f m.edge; target = option_map f m.target; target_types = m.target_types }

  abbrev pub SourceAlike : (M → N) → M → List (M × Thing) → List (N × Thing) → Type 0
  SourceAlike source n as' bs = source_of (new_world s) bs (source n) ≡ source_of (old_world s) as' n

  pub from_alike : (source : M → N) (q : Select M) (as' : List (M × Thing)) (bs : List (N × Thing)) → SourceAlike source q.source as' bs
      → from (new_world s) bs (renamed_select (naming_by s.fixed f source) q) ≡ renamed_from (from (old_world s) as' q)
  from_alike source q as' bs h = simp (h, edge_alias_alike s w f source q.walk, target_alias_alike s w f source q.walk, ends_alike s w f source q.walk)

  named_looks : (as' : List (M × Thing)) (bs : List (N × Thing)) (x : Option M) (t : Option Thing) → ToldIf x → LooksAlike s w f as' bs → LooksAlike s w f (named_as x t as') (named_as (option_map f x) t bs)
  named_looks as' bs (Some x) (Some t) h k = looks_new s w f as' bs x (f x) t h k
  named_looks as' bs x t h k = k

  -- all aliases are looked for as their names are
  pub record AliasesTold (m : From M) : Type 0 where
    pub source : ToldIf m.source
    pub edge : ToldIf m.edge
    pub target : ToldIf m.target

  candidate_looks : (m : From M) (c : Candidate) (as' : List (M × Thing)) (bs : List (N × Thing)) → AliasesTold m → LooksAlike s w f as' bs → LooksAlike s w f (with_candidate m c as') (with_candidate (renamed_from m) c bs)
  candidate_looks m c as' bs t k =
      named_looks _ _ m.target (target_thing m.target_types c.target) t.target
      (named_looks _ _ m.edge (edge_thing c.edge c.kind) t.edge
      (named_looks _ _ m.source (Some (a_vertex m.source_types c.source)) t.source k))

  pub vertex_looks : (m : From M) (end : Bool) (v : ℕ) (as' : List (M × Thing)) (bs : List (N × Thing)) → AliasesTold m → LooksAlike s w f as' bs → LooksAlike s w f (with_vertex m end v as') (with_vertex (renamed_from m) end v bs)
  vertex_looks m true v as' bs t k = named_looks as' bs m.target (Some (a_vertex m.target_types v)) t.target k
  vertex_looks m false v as' bs t k = named_looks as' bs m.source (Some (a_vertex m.source_types v)) t.source k

  -- ---- the contributions of one match

  abbrev pub new_state : List (N × Thing) → State M → State N
  new_state bs old = record { names = bs; slots = new_slots s old.slots }

  module _ (as' : List (M × Thing)) (bs : List (N × Thing)) (k : LooksAlike s w f as' bs) where
    abbrev pub old_look : List (Slot M) → List (Slot M) → Look M
    old_look slots before = sight (old_world s) as' slots before

    abbrev pub new_look : List (Slot M) → List (Slot M) → Look N
    new_look slots before = sight (new_world s) bs (new_slots s slots) (new_slots s before)

    pub seen_alike : (slots before : List (Slot M)) → AllOf (AccumIs s) slots → AllOf (AccumIs s) before → SeesAlike (named_by s.fixed f) (old_look slots before) (new_look slots before)
    seen_alike slots before h b = sees_alike s w f as' bs slots before k h b

    named_vertex_alike : (slots before : List (Slot M)) → AllOf (AccumIs s) slots → AllOf (AccumIs s) before → (v : M) → vertex_named (new_look slots before) (f v) ≡ vertex_named (old_look slots before) v
    named_vertex_alike slots before h b v = ap (λ o. o >>= vertex_of_meant) ((seen_alike slots before h b).named v)

    pub contributed_alike : (slots before : List (Slot M)) → AllOf (AccumIs s) slots → AllOf (AccumIs s) before → (a : M) (v : ℕ) (change : Change M)
        → contributed (new_look slots before) (new_slots s slots) (s.fixed.accum a) v (renamed_change (named_by s.fixed f) change) ≡ contributed (old_look slots before) slots a v change
    contributed_alike slots before h b a v (Puts t) = refl
    contributed_alike slots before h b a v (Adds x) =
        then_same _ _ _ _ (ap found (slot_number_alike s w a slots h)) (λ n. found_map (new_slot s) _ _ (slot_named (old_world s) slots a) _ (slot_alike s w a slots h)
        (λ t. ap (λ o. o >>= λ y. Gives (given n y)) (input_alike (named_by s.fixed f) (old_look slots before) (new_look slots before) (seen_alike slots before h b) t.kind x)))
      where
        given : ℕ → Given → List Contribution
        given n y = record { slot = n; vertex = v; input = y } ∷ []

    module _ (slots : List (Slot M)) (h : AllOf (AccumIs s) slots) where
      abbrev r : Renaming M N
      r = named_by s.fixed f

      mutual
        pub contributions_alike : (acts : Acts M) → contributions (new_look slots slots) (new_slots s slots) (renamed_acts r acts) ≡ contributions (old_look slots slots) slots acts
        contributions_alike no_act = refl
        contributions_alike (act_and a acts) = then_same _ _ _ _ (act_gives a) (λ xs. ap (λ o. o >>= λ ys. Gives (xs ++ ys)) (contributions_alike acts))

        act_gives : (a : Act M) → of_act (new_look slots slots) (new_slots s slots) (renamed_act r a) ≡ of_act (old_look slots slots) slots a
        act_gives (AtAlias v a change) = then_same _ _ _ _ (named_vertex_alike slots slots h h v) (λ n. contributed_alike slots slots h h a n change)
        act_gives (AtGlobal a change) = contributed_alike slots slots h h a 0 change
        act_gives (Choose choices) = choices_give choices

        choices_give : (choices : Choices M) → of_choices (new_look slots slots) (new_slots s slots) (renamed_choices r choices) ≡ of_choices (old_look slots slots) slots choices
        choices_give (otherwise acts) = contributions_alike acts
        choices_give (when t acts rest) =
            then_same _ _ _ _ (truth_alike r (old_look slots slots) (new_look slots slots) (seen_alike slots slots h h) t) (elim [ true ↦ contributions_alike acts | false ↦ choices_give rest ])

      pub match_alike : (source : M → N) (q : Select M) (c : Candidate) → match_of (renamed_select (naming_by s.fixed f source) q) (new_slots s slots) c (new_look slots slots) ≡ match_of q slots c (old_look slots slots)
      match_alike source q c =
          then_same _ _ _ _ (passes_alike r (old_look slots slots) (new_look slots slots) (seen_alike slots slots h h) q.filter)
          (elim [ true ↦ ap (λ o. o >>= λ xs. Gives (a_match xs)) (contributions_alike q.accum) | false ↦ refl ])
        where
          a_match : List Contribution → List Match
          a_match xs = record { candidate = c; gives = xs } ∷ []

  -- ---- matches

  matches_alike : (source : M → N) (q : Select M) (m : From M) (old : State M) (bs : List (N × Thing)) → AliasesTold m → LooksAlike s w f old.names bs → AllOf (AccumIs s) old.slots → (n : ℕ) (cs : List Candidate)
      → matches (new_world s) (new_state bs old) (renamed_select (naming_by s.fixed f source) q) (renamed_from m) n cs ≡ matches (old_world s) old q m n cs
  matches_alike source q m old bs t k h n [] = refl
  matches_alike source q m old bs t k h n (c ∷ cs) =
      then_same _ _ _ _ (ap (blaming (AtPlace n)) (match_alike (with_candidate m c old.names) (with_candidate (renamed_from m) c bs) (candidate_looks m c old.names bs t k) old.slots h source q c))
      (λ ms. ap (λ o. o >>= λ rest. Gives (ms ++ rest)) (matches_alike source q m old bs t k h (suc n) cs))

  -- ---- all contributions together

  pub slots_after_alike : (xs : List Contribution) (n : ℕ) (slots : List (Slot M)) → slots_after xs n (new_slots s slots) ≡ new_slots s (slots_after xs n slots)
  slots_after_alike xs n [] = refl
  slots_after_alike xs n (t ∷ slots) = ap (λ ts. new_slot s (record t { contents = contents_after t.kind n xs 0 t.contents }) ∷ ts) (slots_after_alike xs (suc n) slots)

  pub slots_after_are : (xs : List Contribution) (n : ℕ) (slots : List (Slot M)) → AllOf (AccumIs s) slots → AllOf (AccumIs s) (slots_after xs n slots)
  slots_after_are xs n [] h = tt
  slots_after_are xs n (t ∷ slots) h = (record { same = h.0.same; said = h.0.said }, slots_after_are xs (suc n) slots h.1)

  unfit_alike : (n : ℕ) (slots : List (Slot M)) → first_unfit n (new_slots s slots) ≡ first_unfit n slots
  unfit_alike n [] = refl
  unfit_alike n (t ∷ slots) = ap (λ o. if list_all (fits t.kind) t.contents then o else Some n) (unfit_alike (suc n) slots)

  pub fed_alike : (xs : List Contribution) (slots : List (Slot M)) → AllOf (AccumIs s) slots → AnswersAlike (SlotsAlike s) (fed_together xs slots) (fed_together xs (new_slots s slots))
  fed_alike xs slots h = rw (slots_after_alike xs 0 slots, unfit_alike 0 (slots_after xs 0 slots)) (go (first_unfit 0 (slots_after xs 0 slots)))
    where
      go : (o : Option ℕ) → AnswersAlike (SlotsAlike s) (unless_unfit o (slots_after xs 0 slots)) (unless_unfit o (new_slots s (slots_after xs 0 slots)))
      go None = record { is = refl; accums = slots_after_are xs 0 slots h }
      go (Some n) = refl

  -- ---- the block

  -- the same vertices, and accumulators that hold the same
  pub record AfterAlike (old : After M) (new : After N) : Type 0 where
    pub slots : SlotsAlike s old.slots new.slots
    pub sources : new.sources ≡ old.sources
    pub targets : new.targets ≡ old.targets

  after_alike : (slots : List (Slot M)) → AllOf (AccumIs s) slots → (ms : List Match) → AnswersAlike AfterAlike (after_matches slots ms) (after_matches (new_slots s slots) ms)
  after_alike slots h ms = alike_then (SlotsAlike s) AfterAlike _ _ _ _ (fed_alike _ slots h) (λ ts us e. record { slots = e; sources = refl; targets = refl })

  pub accumulated_alike : (source : M → N) (q : Select M) (old : State M) (bs : List (N × Thing)) → AliasesTold (from (old_world s) old.names q) → SourceAlike source q.source old.names bs → LooksAlike s w f old.names bs → AllOf (AccumIs s) old.slots
      → AnswersAlike AfterAlike (accumulated (old_world s) old q) (accumulated (new_world s) (new_state bs old) (renamed_select (naming_by s.fixed f source) q))
  accumulated_alike source q old bs t e k h = alike_same AfterAlike _ _ _ _ all_matches (after_alike old.slots h)
    where
      p : Select N
      p = renamed_select (naming_by s.fixed f source) q

      m : From M
      m = from (old_world s) old.names q

      all_matches : matches (new_world s) (new_state bs old) p (from (new_world s) bs p) 0 (candidates_of (new_world s) (from (new_world s) bs p).start p.walk) ≡ matches (old_world s) old q m 0 (candidates_of (old_world s) m.start q.walk)
      all_matches =
          ap (λ (z : From N). matches (new_world s) (new_state bs old) p z 0 (candidates_of (new_world s) z.start p.walk)) (from_alike source q old.names bs e)
          ∙ rw (candidates_alike s w f source m.start q.walk) (matches_alike source q m old bs t k h 0 (candidates_of (old_world s) m.start q.walk))

  -- ---- a change of an accumulator by its reference is one by its name

  changed_alike : (g : Making) (v n : ℕ) (slots : List (Slot M)) → changed_at (slot_changed g v) n (new_slots s slots) ≡ new_slots s (changed_at (slot_changed g v) n slots)
  changed_alike g v n [] = refl
  changed_alike g v (suc n) (t ∷ slots) = ap (λ ts. new_slot s t ∷ ts) (changed_alike g v n slots)
  changed_alike g v n slots = refl

  changed_are : (g : Making) (v n : ℕ) (slots : List (Slot M)) → AllOf (AccumIs s) slots → AllOf (AccumIs s) (changed_at (slot_changed g v) n slots)
  changed_are g v n [] h = tt
  changed_are g v zero (t ∷ slots) h = (record { same = h.0.same; said = h.0.said }, h.1)
  changed_are g v (suc n) (t ∷ slots) h = (h.0, changed_are g v n slots h.1)

  -- an option mapped to another form continues alike
  found_alike : {F A B C D : Type 0} (R : C → D → Type 0) (h : A → B) (f : A → Answer F C) (g : B → Answer F D) (o : Option A) (p : Option B) → p ≡ option_map h o → ((a : A) → AnswersAlike R (f a) (g (h a))) → AnswersAlike R (found o >>= f) (found p >>= g)
  found_alike {F = F} {A = A} R h f g o p e k = subst (λ p. AnswersAlike R (found o >>= f) (found {F = F} p >>= g)) (sym e) (go o)
    where
      go : (o : Option A) → AnswersAlike R (found {F = F} o >>= f) (found {F = F} (option_map h o) >>= g)
      go None = tt
      go (Some a) = k a

  module _ (as' : List (M × Thing)) (bs : List (N × Thing)) (k : LooksAlike s w f as' bs) where
    pub slots_changed_alike : (slots before : List (Slot M)) → AllOf (AccumIs s) slots → AllOf (AccumIs s) before → (a : M) (v : ℕ) (change : Change M)
        → AnswersAlike (SlotsAlike s) (slots_changed (old_look as' bs k slots before) slots a v change) (slots_changed (new_look as' bs k slots before) (new_slots s slots) (s.fixed.accum a) v (renamed_change (named_by s.fixed f) change))
    slots_changed_alike slots before h b a v change =
        alike_same (SlotsAlike s) _ _ _ _ (ap found (slot_number_alike s w a slots h)) (λ n. found_alike (SlotsAlike s) (new_slot s) _ _ (slot_named (old_world s) slots a) _ (slot_alike s w a slots h)
        (λ t. alike_same (SlotsAlike s) _ _ _ _ (ap (blaming Wrongly) (made_alike (named_by s.fixed f) (old_look as' bs k slots before) (new_look as' bs k slots before) (seen_alike as' bs k slots before h b) t.kind change))
        (λ g. fit n t g (fits_at v (slot_changed g v t)))))
      where
        fit : (n : ℕ) (t : Slot M) (g : Making) (q : Bool) → AnswersAlike (SlotsAlike s) (if_fit n q (changed_at (slot_changed g v) n slots)) (if_fit n q (changed_at (slot_changed g v) n (new_slots s slots)))
        fit n t g true = record { is = changed_alike g v n slots; accums = changed_are g v n slots h }
        fit n t g false = refl

  -- ---- POST-ACCUM by references has the same phases and does the same in each

  -- ---- which end a statement is for

  pub alias_alike : (x : Option M) → ToldIf x → (y : M) → is_alias s.fixed.references.same (option_map f x) (f y) ≡ is_alias s.fixed.names.same x y
  alias_alike None h y = refl
  alias_alike (Some x) h y = h y

  pub selects_alike : (source : M → N) (q : Select M) → ToldIf (target_alias q.walk) → selects_target (new_world s) (renamed_select (naming_by s.fixed f source) q) ≡ selects_target (old_world s) q
  selects_alike source q h = ap (λ o. is_alias s.fixed.references.same o (f q.selected)) (target_alias_alike s w f source q.walk) ∙ alias_alike (target_alias q.walk) h q.selected

  module _ (source : M → N) (q : Select M) (m : From M) (t : AliasesTold m) (ends : ToldIf (target_alias q.walk)) where
    for_alike : (a : Act M) → for_target (new_world s) (renamed_select (naming_by s.fixed f source) q) (renamed_from m) (renamed_act (named_by s.fixed f) a) ≡ for_target (old_world s) q m a
    for_alike a =
        simp (
          act_names (named_by s.fixed f) (is_alias s.fixed.names.same m.target) (is_alias s.fixed.references.same (option_map f m.target)) (alias_alike m.target t.target) a,
          act_names (named_by s.fixed f) (is_alias s.fixed.names.same m.source) (is_alias s.fixed.references.same (option_map f m.source)) (alias_alike m.source t.source) a,
          selects_alike source q ends,
        )

  -- a phase under other names
  abbrev pub new_phase : Bool × Acts M → Bool × Acts N
  new_phase p = (p.0, renamed_acts (named_by s.fixed f) p.1)

  before_alike : (end : Bool) (a : Act M) (ps : List (Bool × Acts M)) → before_phases end (renamed_act (named_by s.fixed f) a) (map new_phase ps) ≡ map new_phase (before_phases end a ps)
  before_alike end a [] = refl
  before_alike end a (p ∷ ps) = go (same_end end p.0)
    where
      go : (b : Bool) → (if b then (end, act_and (renamed_act (named_by s.fixed f) a) (renamed_acts (named_by s.fixed f) p.1)) ∷ map new_phase ps else (end, act_and (renamed_act (named_by s.fixed f) a) no_act) ∷ new_phase p ∷ map new_phase ps)
          ≡ map new_phase (if b then (end, act_and a p.1) ∷ ps else (end, act_and a no_act) ∷ p ∷ ps)
      go true = refl
      go false = refl

  phases_alike : (old : Act M → Bool) (new : Act N → Bool) → ((a : Act M) → new (renamed_act (named_by s.fixed f) a) ≡ old a) → (acts : Acts M) → phases new (renamed_acts (named_by s.fixed f) acts) ≡ map new_phase (phases old acts)
  phases_alike old new h no_act = refl
  phases_alike old new h (act_and a acts) = rw (h a, phases_alike old new h acts) (before_alike (old a) a (phases old acts))

  -- ---- one vertex of a phase

  -- the vertex's own writes, and the same inputs to global accumulators
  pub record WrittenAlike (old : Written M) (new : Written N) : Type 0 where
    pub slots : SlotsAlike s old.slots new.slots
    pub to_globals : new.to_globals ≡ old.to_globals

  abbrev old_post : List (M × Thing) → List (Slot M) → ℕ → Post M
  old_post names before v = record { world = old_world s; names = names; before = before; vertex = v }

  abbrev new_post : List (N × Thing) → List (Slot M) → ℕ → Post N
  new_post names before v = record { world = new_world s; names = names; before = new_slots s before; vertex = v }

  module _ (as' : List (M × Thing)) (bs : List (N × Thing)) (k : LooksAlike s w f as' bs) (before : List (Slot M)) (b : AllOf (AccumIs s) before) (v : ℕ) where
    abbrev old_written : List (Slot M) → List Contribution → Written M
    old_written slots xs = record { slots = slots; to_globals = xs }

    abbrev new_written : List (Slot M) → List Contribution → Written N
    new_written slots xs = record { slots = new_slots s slots; to_globals = xs }

    -- a write is one of slots and inputs
    from_written : (P : Written N → Type 0) (old : Written M) (new : Written N) → WrittenAlike old new → P (new_written old.slots old.to_globals) → P new
    from_written P old new h p = subst (λ ts. P (record { slots = ts; to_globals = new.to_globals })) (sym h.slots.is) (subst (λ xs. P (record { slots = new_slots s old.slots; to_globals = xs })) (sym h.to_globals) p)

    abbrev ActAlike : Act M → Type 0
    ActAlike a = (slots : List (Slot M)) (xs : List Contribution) → AllOf (AccumIs s) slots → AnswersAlike WrittenAlike (post_act (old_post as' before v) a (old_written slots xs)) (post_act (new_post bs before v) (renamed_act (named_by s.fixed f) a) (new_written slots xs))

    write_alike : (x a : M) (change : Change M) → ActAlike (AtAlias x a change)
    write_alike x a change slots xs h =
        alike_then (SlotsAlike s) WrittenAlike _ _ _ _ (alike_blaming (SlotsAlike s) (at_vertex v) _ _ (slots_changed_alike as' bs k slots before h b a v change)) (λ ts us e. record { slots = e; to_globals = refl })

    feed_alike : (a : M) (change : Change M) → ActAlike (AtGlobal a change)
    feed_alike a change slots xs h =
        alike_same WrittenAlike _ _ _ _ (ap (blaming (AtPlace v)) (contributed_alike as' bs k slots before h b a 0 change)) (λ ys. record { slots = record { is = refl; accums = h }; to_globals = refl })

    truth_same : (slots : List (Slot M)) → AllOf (AccumIs s) slots → (t : _) → blaming (AtPlace v) (truth_of (new_look as' bs k slots before) (renamed (named_by s.fixed f) t)) ≡ blaming (AtPlace v) (truth_of (old_look as' bs k slots before) t)
    truth_same slots h t = ap (blaming (AtPlace v)) (truth_alike (named_by s.fixed f) (old_look as' bs k slots before) (new_look as' bs k slots before) (seen_alike as' bs k slots before h b) t)

    abbrev ActsAlike : Acts M → Type 0
    ActsAlike acts = (slots : List (Slot M)) (xs : List Contribution) → AllOf (AccumIs s) slots → AnswersAlike WrittenAlike (post_acts (old_post as' before v) acts (old_written slots xs)) (post_acts (new_post bs before v) (renamed_acts (named_by s.fixed f) acts) (new_written slots xs))

    next_with : (acts : Acts M) → ActsAlike acts → (old : Written M) (new : Written N) → WrittenAlike old new → AnswersAlike WrittenAlike (post_acts (old_post as' before v) acts old) (post_acts (new_post bs before v) (renamed_acts (named_by s.fixed f) acts) new)
    next_with acts r old new e = from_written (λ new. AnswersAlike WrittenAlike (post_acts (old_post as' before v) acts old) (post_acts (new_post bs before v) (renamed_acts (named_by s.fixed f) acts) new)) old new e (r old.slots old.to_globals e.slots.accums)

    mutual
      acts_alike : (acts : Acts M) → ActsAlike acts
      acts_alike no_act slots xs h = record { slots = record { is = refl; accums = h }; to_globals = refl }
      acts_alike (act_and a acts) slots xs h = alike_then WrittenAlike WrittenAlike _ _ _ _ (act_alike a slots xs h) (λ old new e. next_with acts (acts_alike acts) old new e)

      act_alike : (a : Act M) → ActAlike a
      act_alike (AtAlias x a change) slots xs h = write_alike x a change slots xs h
      act_alike (AtGlobal a change) slots xs h = feed_alike a change slots xs h
      act_alike (Choose choices) slots xs h = choices_alike choices slots xs h

      choices_alike : (choices : Choices M) (slots : List (Slot M)) (xs : List Contribution) → AllOf (AccumIs s) slots → AnswersAlike WrittenAlike (post_choices (old_post as' before v) choices (old_written slots xs)) (post_choices (new_post bs before v) (renamed_choices (named_by s.fixed f) choices) (new_written slots xs))
      choices_alike (otherwise acts) slots xs h = acts_alike acts slots xs h
      choices_alike (when t acts rest) slots xs h = alike_same WrittenAlike _ _ _ _ (truth_same slots h t) (elim [ true ↦ acts_alike acts slots xs h | false ↦ choices_alike rest slots xs h ])

    pub written_alike : (acts : Acts M) (old : Written M) (new : Written N) → WrittenAlike old new → AnswersAlike WrittenAlike (post_acts (old_post as' before v) acts old) (post_acts (new_post bs before v) (renamed_acts (named_by s.fixed f) acts) new)
    written_alike acts old new e = next_with acts (acts_alike acts) old new e

  -- ---- all phases

  pub matched_alike : (end : Bool) (a : After M) (b : After N) → AfterAlike a b → matched b end ≡ matched a end
  matched_alike true a b e = e.targets
  matched_alike false a b e = e.sources

  module _ (m : From M) (t : AliasesTold m) (old : State M) (bs : List (N × Thing)) (k : LooksAlike s w f old.names bs) (h : AllOf (AccumIs s) old.slots) where
    vertex_alike : (p : Bool × Acts M) (v : ℕ) (x : Written M) (y : Written N) → WrittenAlike x y
        → AnswersAlike WrittenAlike (post_acts (post_of (old_world s) old m p.0 v) p.1 x) (post_acts (post_of (new_world s) (new_state bs old) (renamed_from m) p.0 v) (renamed_acts (named_by s.fixed f) p.1) y)
    vertex_alike p v x y e = written_alike (with_vertex m p.0 v old.names) (with_vertex (renamed_from m) p.0 v bs) (vertex_looks m p.0 v old.names bs t k) old.slots h v p.1 x y e

    phase_alike : (a : After M) (b : After N) (p : Bool × Acts M) → AfterAlike a b → AnswersAlike (AfterAlike) (phase (old_world s) old m a p) (phase (new_world s) (new_state bs old) (renamed_from m) b (new_phase p))
    phase_alike a b p e =
        rw (matched_alike p.0 a b e) (alike_then WrittenAlike (AfterAlike) _ _ _ _
        (through_each WrittenAlike _ _ (λ x y v g. vertex_alike p v x y g) (matched a p.0) _ _ (record { slots = e.slots; to_globals = refl }))
        (λ x y g. rw (g.to_globals, g.slots.is) (alike_then (SlotsAlike s) (AfterAlike) _ _ _ _ (fed_alike x.to_globals x.slots g.slots.accums)
        (λ ts us i. record { slots = i; sources = e.sources; targets = e.targets }))))

  pub posted_alike : (source : M → N) (q : Select M) (old : State M) (bs : List (N × Thing)) → AliasesTold (from (old_world s) old.names q) → SourceAlike source q.source old.names bs → LooksAlike s w f old.names bs → AllOf (AccumIs s) old.slots → ToldIf (target_alias q.walk)
      → (a : After M) (b : After N) → AfterAlike a b → AnswersAlike (AfterAlike) (posted (old_world s) old q a) (posted (new_world s) (new_state bs old) (renamed_select (naming_by s.fixed f source) q) b)
  posted_alike source q old bs t e k h ends a b g =
      rw (from_alike source q old.names bs e, phases_alike (for_target (old_world s) q m) (for_target (new_world s) p (renamed_from m)) (for_alike source q m t ends) q.post)
      (through_alike (AfterAlike) new_phase _ _ (λ x y z i. phase_alike m t old bs k h x y z i) (phases (for_target (old_world s) q m) q.post) a b g)
    where
      p : Select N
      p = renamed_select (naming_by s.fixed f source) q

      m : From M
      m = from (old_world s) old.names q

-- ---- HAVING, ORDER BY and LIMIT by references, and a whole SELECT

module _ {M N : Type 0} (r : Renaming M N) where
  abbrev pub new_key : Tree M × Bool → Tree N × Bool
  new_key key = (renamed r key.0, key.1)

  keys_alike : (order : List (Tree M × Bool)) (vs ws : List Val) → by_keys (map new_key order) vs ws ≡ by_keys order vs ws
  keys_alike (key ∷ order) (v ∷ vs) (x ∷ ws) = ap (ordering_then (if key.1 then ordering_reverse (compare v x) else compare v x)) (keys_alike order vs ws)
  keys_alike order vs ws = refl

  order_alike : (order : List (Tree M × Bool)) (a b : Ranked) → in_order (map new_key order) a b ≡ in_order order a b
  order_alike order a b = ap (λ o. ordering_then o (nat_cmp a.vertex b.vertex)) (keys_alike order a.keys b.keys)

  passing_alike : (old : ℕ → Look M) (new : ℕ → Look N) → ((v : ℕ) → SeesAlike r (old v) (new v)) → (t : Option (Tree M)) (vs : List ℕ) → passing new (option_map (renamed r) t) vs ≡ passing old t vs
  passing_alike old new h t [] = refl
  passing_alike old new h t (v ∷ vs) = then_same _ _ _ _ (ap (blaming (AtPlace v)) (passes_alike r (old v) (new v) (h v) t)) (λ b. ap (λ o. o >>= λ rest. Gives (if b then v ∷ rest else rest)) (passing_alike old new h t vs))

  abbrev a_rank : ℕ → List Val → Ranked
  a_rank v ks = record { vertex = v; keys = ks }

  ranked_alike : (old : ℕ → Look M) (new : ℕ → Look N) → ((v : ℕ) → SeesAlike r (old v) (new v)) → (order : List (Tree M × Bool)) (v : ℕ) → ranked new (map new_key order) v ≡ ranked old order v
  ranked_alike old new h order v =
      ap (λ o. blaming (AtPlace v) o >>= λ ks. Gives (a_rank v ks)) (each_alike new_key (λ key. value_of (old v) key.0) (λ key. value_of (new v) key.0) (λ key. value_alike r (old v) (new v) (h v) key.0) order)

module _ {M N : Type 0} (s : Sides M N) (w : WordsAlike s) (f source : M → N) (q : Select M) (old : State M) (bs : List (N × Thing))
    (t : AliasesTold s w f (from (old_world s) old.names q)) (e : SourceAlike s w f source q.source old.names bs) (k : LooksAlike s w f old.names bs) (h : AllOf (AccumIs s) old.slots) (ends : ToldIf s w f (target_alias q.walk)) where
  abbrev p : Select N
  p = renamed_select (naming_by s.fixed f source) q

  abbrev renaming : Renaming M N
  renaming = named_by s.fixed f

  -- the selected vertex is seen alike
  selected_alike : (slots : List (Slot M)) → AllOf (AccumIs s) slots → (v : ℕ) → SeesAlike renaming (selected_look (old_world s) old q slots v) (selected_look (new_world s) (new_state s w f bs old) p (new_slots s slots) v)
  selected_alike slots b v =
      rw (from_alike s w f source q old.names bs e, selects_alike s w f source q ends)
      (seen_alike s w f (with_vertex (from (old_world s) old.names q) (selects_target (old_world s) q) v old.names) (with_vertex (renamed_from s w f (from (old_world s) old.names q)) (selects_target (old_world s) q) v bs)
      (vertex_looks s w f (from (old_world s) old.names q) (selects_target (old_world s) q) v old.names bs t k) slots slots b b)

  cut_alike : (slots : List (Slot M)) → AllOf (AccumIs s) slots → (vs : List ℕ) → cut (new_world s) (new_look s w f old.names bs k slots slots) p.limit vs ≡ cut (old_world s) (old_look s w f old.names bs k slots slots) q.limit vs
  cut_alike slots b vs = go q.limit
    where
      go : (limit : Option (Tree M)) → cut (new_world s) (new_look s w f old.names bs k slots slots) (option_map (renamed renaming) limit) vs ≡ cut (old_world s) (old_look s w f old.names bs k slots slots) limit vs
      go None = refl
      go (Some x) = ap (λ o. blaming (AtPlace (vertex_count s.graph)) o >>= λ n. Gives (at_most n vs)) (number_alike renaming (old_look s w f old.names bs k slots slots) (new_look s w f old.names bs k slots slots) (seen_alike s w f old.names bs k slots slots b b) x)

  abbrev tail_old : List (Slot M) → List ℕ → Answer BlockFault (List ℕ)
  tail_old slots vs = passing (selected_look (old_world s) old q slots) q.having vs >>= λ us. each (ranked (selected_look (old_world s) old q slots) q.order) us >>= λ rs. cut (old_world s) (old_look s w f old.names bs k slots slots) q.limit (map (λ (x : Ranked). x.vertex) (sorted (in_order q.order) rs))

  abbrev tail_new : List (Slot N) → List ℕ → Answer BlockFault (List ℕ)
  tail_new slots vs = passing (selected_look (new_world s) (new_state s w f bs old) p slots) p.having vs >>= λ us. each (ranked (selected_look (new_world s) (new_state s w f bs old) p slots) p.order) us >>= λ rs. cut (new_world s) (sight (new_world s) bs slots slots) p.limit (map (λ (x : Ranked). x.vertex) (sorted (in_order p.order) rs))

  tails_alike : (slots : List (Slot M)) → AllOf (AccumIs s) slots → (vs : List ℕ) → tail_new (new_slots s slots) vs ≡ tail_old slots vs
  tails_alike slots b vs =
      then_same _ _ _ _ (passing_alike renaming (selected_look (old_world s) old q slots) (selected_look (new_world s) (new_state s w f bs old) p (new_slots s slots)) (selected_alike slots b) q.having vs)
      (λ us. then_same _ _ _ _ (each_same _ _ (λ v. ranked_alike renaming (selected_look (old_world s) old q slots) (selected_look (new_world s) (new_state s w f bs old) p (new_slots s slots)) (selected_alike slots b) q.order v) us)
      (λ rs. ap (λ (c : Ranked → Ranked → Ordering). cut (new_world s) (new_look s w f old.names bs k slots slots) p.limit (map (λ (x : Ranked). x.vertex) (sorted c rs))) (fun_ext (λ a. fun_ext (λ b. order_alike renaming q.order a b)))
      ∙ cut_alike slots b (map (λ (x : Ranked). x.vertex) (sorted (in_order q.order) rs))))

  -- the same vertices, and accumulators that hold the same
  pub record SelectedAlike (a : Selected M) (b : Selected N) : Type 0 where
    pub slots : SlotsAlike s a.slots b.slots
    pub vertices : b.vertices ≡ a.vertices

  tail_alike : (a : After M) (b : After N) → AfterAlike s w f a b → tail (new_world s) (new_state s w f bs old) p b ≡ tail (old_world s) old q a
  tail_alike a b g = rw (selects_alike s w f source q ends, matched_alike s w f (selects_target (old_world s) q) a b g, g.slots.is) (tails_alike a.slots g.slots.accums (matched a (selects_target (old_world s) q)))

  pub select_alike : AnswersAlike SelectedAlike (select (old_world s) old q) (select (new_world s) (new_state s w f bs old) p)
  select_alike =
      alike_then (AfterAlike s w f) SelectedAlike _ _ _ _
      (alike_then (AfterAlike s w f) (AfterAlike s w f) _ _ _ _ (accumulated_alike s w f source q old bs t e k h) (λ a b g. posted_alike s w f source q old bs t e k h ends a b g))
      (λ a b g. alike_same SelectedAlike _ _ _ _ (tail_alike a b g) (λ vs. record { slots = g.slots; vertices = refl }))

-- ---- a SELECT whose aliases have references of their own gives what the one by names gives

module _ {M N : Type 0} (s : Sides M N) (w : WordsAlike s) where
  abbrev same : M → M → Bool
  same = s.fixed.names.same

  abbrev like : N → N → Bool
  like = s.fixed.references.same

  -- ---- aliases

  pub alias_distinct : (view : View M N) (x : Option M) (r : Option N) → AreDistinct s.fixed view → AliasIsNew s.fixed view x r → AreDistinct s.fixed (with_alias s.fixed view x r)
  alias_distinct view None None d n = d
  alias_distinct view (Some x) (Some r) d n = (n, d)
  alias_distinct view x r d n = absurd n

  without_alias : (f : M → N) (view : View M N) (x : Option M) (r : Option N) → AliasIsNew s.fixed view x r → AllTold s w f (with_alias s.fixed view x r) → AllTold s w f view
  without_alias f view None None n t = t
  without_alias f view (Some x) (Some r) n t = t.1
  without_alias f view x r n t = absurd n

  alias_told : (f : M → N) (view : View M N) (x : Option M) (r : Option N) → r ≡ option_map f x → AliasIsNew s.fixed view x r → AllTold s w f (with_alias s.fixed view x r) → ToldIf s w f x
  alias_told f view None None e n t = tt
  alias_told f view (Some x) (Some r) e n t = subst (λ z. Told s w f z x) (some_inj e) t.0
  alias_told f view x r e n t = absurd n

  -- an alias isn't a set, and hides none
  alias_no_set : (view : View M N) (x : Option M) (r : Option N) → AliasIsNew s.fixed view x r → (n : M) → is_set_at s.fixed (with_alias s.fixed view x r) n ≡ is_set_at s.fixed view n
  alias_no_set view None None a n = refl
  alias_no_set view (Some x) (Some r) a n = go (same x n) refl
    where
      v : Visible M N
      v = record { name = x; reference = r; is_set = false }

      go : (q : Bool) → same x n ≡ q → set_flag s.fixed (if same x n then Some v else visible_at s.fixed view n) ≡ is_set_at s.fixed view n
      go true e =
          ap (λ q. set_flag s.fixed (if q then Some v else visible_at s.fixed view n)) e
          ∙ sym (ap (set_flag s.fixed) (not_visible s w view n (subst (λ z. AllOf (λ (u : Visible M N). same u.name z ≡ false) view) (w.same x n e) a.name)))
      go false e = ap (λ q. set_flag s.fixed (if q then Some v else visible_at s.fixed view n)) e
  alias_no_set view x r a n = absurd a

  -- ---- the source of a SELECT

  -- a vertex type isn't a name
  type_unseen : (n : M) (bs : List (N × Thing)) → under like (s.fixed.vertex_type n) bs ≡ None
  type_unseen n [] = refl
  type_unseen n (b ∷ bs) = ap (λ q. if q then Some b.1 else under like (s.fixed.vertex_type n) bs) (w.no_variable b.0 n) ∙ type_unseen n bs

  source_alike : (f : M → N) (view : View M N) (as' : List (M × Thing)) (bs : List (N × Thing)) (n : M) → LooksAlike s w f as' bs → (q : Bool) → is_set (under same n as') ≡ q
      → source_of (new_world s) bs (if q then f n else s.fixed.vertex_type n) ≡ source_of (old_world s) as' n
  source_alike f view as' bs n k q e = go q (under same n as') refl e
    where
      go : (q : Bool) (o : Option Thing) → under same n as' ≡ o → is_set o ≡ q → source_of (new_world s) bs (if q then f n else s.fixed.vertex_type n) ≡ source_of (old_world s) as' n
      go true (Some (SetOf types vs)) i e = rw (k n ∙ i, i, source_of)
      go false (Some (SetOf types vs)) i e = cc
      go true o i e = cc
      go false o i e = rw (type_unseen n bs, i, w.vertex_type n, source_of)

  -- ---- the conditions of a SELECT

  pub record SelectSeen (view : View M N) (q : Select M) (p : Select N) (as' : List (M × Thing)) (bs : List (N × Thing)) : Type 0 where
    pub looks : LooksAlike s w (reference_at s.fixed (with_aliases s.fixed view q p)) as' bs
    pub source : SourceAlike s w (reference_at s.fixed (with_aliases s.fixed view q p)) (source_at s.fixed (with_aliases s.fixed view q p)) q.source as' bs
    pub aliases : AliasesTold s w (reference_at s.fixed (with_aliases s.fixed view q p)) (from (old_world s) as' q)
    pub target : ToldIf s w (reference_at s.fixed (with_aliases s.fixed view q p)) (target_alias q.walk)

  pub select_seen : (view : View M N) (q : Select M) (p : Select N) (as' : List (M × Thing)) (bs : List (N × Thing)) → AreDistinct s.fixed view → SelectStands s.fixed view q p → NamesAlike s view as' bs → SelectSeen view q p as' bs
  select_seen view q p as' bs d h n = record {
    looks = saw;
    source = subst (λ b. source_of (new_world s) bs (if b then f q.source else s.fixed.vertex_type q.source) ≡ source_of (old_world s) as' q.source) (sym flag) (source_alike f view as' bs q.source saw (is_set (under same q.source as')) refl);
    aliases = record {
      source = alias_told f view q.alias p.alias (ap (λ (z : Select N). z.alias) h.is) h.source told_source;
      edge = alias_told f (with_source s.fixed view q p) (edge_alias q.walk) (edge_alias p.walk) (ap (λ (z : Select N). edge_alias z.walk) h.is ∙ edge_alias_alike s w f (source_at s.fixed all) q.walk) h.edge told_edge;
      target = told_target;
    };
    target = told_target;
  }
    where
      all : View M N
      all = with_aliases s.fixed view q p

      f : M → N
      f = reference_at s.fixed all

      distinct : AreDistinct s.fixed all
      distinct = alias_distinct (with_edge s.fixed view q p) (target_alias q.walk) (target_alias p.walk)
          (alias_distinct (with_source s.fixed view q p) (edge_alias q.walk) (edge_alias p.walk) (alias_distinct view q.alias p.alias d h.source) h.edge) h.target

      told_all : AllTold s w f all
      told_all = all_told s w all distinct

      told_edge : AllTold s w f (with_edge s.fixed view q p)
      told_edge = without_alias f (with_edge s.fixed view q p) (target_alias q.walk) (target_alias p.walk) h.target told_all

      told_source : AllTold s w f (with_source s.fixed view q p)
      told_source = without_alias f (with_source s.fixed view q p) (edge_alias q.walk) (edge_alias p.walk) h.edge told_edge

      told_view : AllTold s w f view
      told_view = without_alias f view q.alias p.alias h.source told_source

      told_target : ToldIf s w f (target_alias q.walk)
      told_target = alias_told f (with_edge s.fixed view q p) (target_alias q.walk) (target_alias p.walk) (ap (λ (z : Select N). target_alias z.walk) h.is ∙ target_alias_alike s w f (source_at s.fixed all) q.walk) h.target told_all

      saw : LooksAlike s w f as' bs
      saw = looks s w f view as' bs told_view n

      flag : is_set_at s.fixed all q.source ≡ is_set (under same q.source as')
      flag =
          alias_no_set (with_edge s.fixed view q p) (target_alias q.walk) (target_alias p.walk) h.target q.source
          ∙ alias_no_set (with_source s.fixed view q p) (edge_alias q.walk) (edge_alias p.walk) h.edge q.source
          ∙ alias_no_set view q.alias p.alias h.source q.source
          ∙ found_set s w view as' bs n q.source
