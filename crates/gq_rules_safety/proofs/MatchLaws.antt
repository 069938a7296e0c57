-- MatchLaws: the matches of a typed SELECT are never stuck; accumulators fit after them, and matched vertices have
-- their types.
use Rattle.std.proofs.Common.{◌≡◌, ℕ, suc, Bool, true, false, List, [], ◌∷◌, map, Option, Some, None, Ok, refl}
use Rattle.std.specs.Prelude.{filter_map}
use Rattle.std.specs.List.{list_all, flat_map, cons_option}
use Rattle.std.specs.Ordering.{nat_cmp}
use Rattle.gq_tree.specs.Tree.{Tree}
use Rattle.gq_graph.specs.declared.rows.Candidate.{Candidate}
use Rattle.gq_rules_typing.specs.Selecting.{Select}
use Rattle.gq_rules_typing.specs.ExpressionTypes.{condition}
use Rattle.gq_rules_typing.specs.Scopes.{Entry, Alias, EdgeAlias, InBlock, Scope, names_at}
use Rattle.gq_rules_typing.specs.ActTypes.{typing_acts}
use Rattle.gq_rules_typing.specs.SelectTypes.{optional}
use Rattle.gq_rules_meaning.specs.Answers.{blaming}
use Rattle.gq_rules_meaning.specs.Expressions.{World, Look}
use Rattle.gq_rules_meaning.specs.States.{Thing, State, a_vertex}
use Rattle.gq_rules_meaning.specs.Sources.{From, with_candidate, edge_thing, target_thing}
use Rattle.gq_rules_meaning.specs.Blocks.{AtPlace, contributions, Match, passes, match_of, look_at, matches, fed_together, After, after_matches}
use Rattle.gq_rules_meaning.specs.Fitting.{Safe, is_vertex_of}
use Rattle.gq_rules_meaning.specs.StateFits.{ThingFits, AllOf, no_repeats}
use Rattle.gq_rules_meaning.specs.Laws.{LookFits, Contributes}
use Rattle.gq_rules_meaning.proofs.AnswerLaws.{safe_then, safe_blaming, after_ok, both_ok}
use Rattle.gq_rules_meaning.proofs.AfterLaws.{distinct_all}
use Rattle.gq_rules_meaning.proofs.LookLaws.{look_fits}
use Rattle.gq_rules_meaning.proofs.ContributionLaws.{contributions_safe}
use Rattle.gq_rules_safety.specs.Matching.{WordsFit, StateIs}
use Rattle.gq_rules_safety.proofs.NameLaws.{appended_all}
use Rattle.gq_rules_safety.proofs.ValueLaws.{condition_safe}
use Rattle.gq_rules_safety.proofs.OrderLaws.{distinct_once}
use Rattle.gq_rules_safety.proofs.SlotLaws.{Keeps}
use Rattle.gq_rules_safety.proofs.FedLaws.{fed_safe}
use Rattle.gq_rules_safety.proofs.SightLaws.{StandsFor, Aliases, with_source, with_edge, with_target, state_of, alias_is}

module _ {N : Type 0} (world : World N) (words : WordsFit world) where
  -- the aliases of a SELECT that begins so
  abbrev pub aliases : From N → List ℕ → Aliases world words
  aliases f edges = record { source = f.source; sources = f.source_types; edge = f.edge; edges = edges; target = f.target; targets = f.target_types }

  -- the parts of a candidate are of the types of its aliases
  pub record CandidateFits (f : From N) (edges : List ℕ) (c : Candidate) : Type 0 where
    pub source : is_vertex_of world.graph f.source_types c.source ≡ true
    pub edge : StandsFor world words f.edge (EdgeAlias edges) (edge_thing c.edge c.kind)
    pub target : StandsFor world words f.target (Alias f.target_types) (target_thing f.target_types c.target)
    pub targets : (v : ℕ) → c.target ≡ Some v → is_vertex_of world.graph f.target_types v ≡ true

  pub stands : (o : Option N) (e : Entry) (thing : Option Thing) → ThingFits world e thing → StandsFor world words o e thing
  stands None e thing h = tt
  stands (Some x) e thing h = h

  module _ (s : Scope N) (state : State N) (h : StateIs world s state) (f : From N) (edges : List ℕ) where
    abbrev inside : Scope N
    inside = with_target world words s (aliases f edges)

    pub candidate_is : (c : Candidate) → CandidateFits f edges c → StateIs world inside (state_of (with_candidate f c state.names) state.slots)
    candidate_is c k =
        alias_is world words f.target (Alias f.target_types) (target_thing f.target_types c.target) (with_edge world words s (aliases f edges)) _ state.slots tt
        (alias_is world words f.edge (EdgeAlias edges) (edge_thing c.edge c.kind) (with_source world words s (aliases f edges)) _ state.slots tt
        (alias_is world words f.source (Alias f.source_types) (Some (a_vertex f.source_types c.source)) s state.names state.slots tt h (stands f.source (Alias f.source_types) (Some (a_vertex f.source_types c.source)) (refl, k.source))) k.edge) k.target

    abbrev pub MatchFits : Match → Type 0
    MatchFits m = AllOf (Contributes world state.slots) m.gives × CandidateFits f edges m.candidate

    passes_safe : (look : Look N) (t : Option (Tree N)) (q : Bool) → LookFits (names_at inside InBlock) look → optional (condition (names_at inside InBlock)) t ≡ Ok q → Safe (λ (b : Bool). Unit {0}) (passes look t)
    passes_safe look None q fits e = tt
    passes_safe look (Some t) q fits e = let u = after_ok (condition (names_at inside InBlock) t) (Ok true) q e in condition_safe (names_at inside InBlock) look fits t u.0.0 u.0.1

    match_safe : (q : Select N) (r : Bool) (n : ℕ) (c : Candidate) → optional (condition (names_at inside InBlock)) q.filter ≡ Ok r → typing_acts inside false 0 q.accum ≡ Ok n → CandidateFits f edges c → Safe (AllOf MatchFits) (match_of q state.slots c (look_at world state f c))
    match_safe q r n c e d k =
        let i = candidate_is c k in
        safe_then (λ (b : Bool). Unit {0}) (AllOf MatchFits) (passes (look_at world state f c) q.filter) _
        (passes_safe (look_at world state f c) q.filter r (look_fits world inside InBlock (with_candidate f c state.names) state.slots state.slots refl i.fits i.fits) e)
        (elim [
          | true ↦ λ u. safe_then (AllOf (Contributes world state.slots)) (AllOf MatchFits) (contributions (look_at world state f c) state.slots q.accum) _ (contributions_safe world inside (with_candidate f c state.names) state.slots i.fits q.accum 0 n d) (λ xs g. ((g, k), tt))
          | false ↦ λ u. tt
        ])

    pub matches_safe : (q : Select N) (r : Bool) (n : ℕ) → optional (condition (names_at inside InBlock)) q.filter ≡ Ok r → typing_acts inside false 0 q.accum ≡ Ok n → (m : ℕ) (cs : List Candidate) → AllOf (CandidateFits f edges) cs → Safe (AllOf MatchFits) (matches world state q f m cs)
    matches_safe q r n e d m [] k = tt
    matches_safe q r n e d m (c ∷ cs) k =
        safe_then (AllOf MatchFits) (AllOf MatchFits) (blaming (AtPlace m) (match_of q state.slots c (look_at world state f c))) _
        (safe_blaming (AllOf MatchFits) (AtPlace m) (match_of q state.slots c (look_at world state f c)) (match_safe q r n c e d k.0))
        (λ xs g. safe_then (AllOf MatchFits) (AllOf MatchFits) (matches world state q f (suc m) cs) _ (matches_safe q r n e d (suc m) cs k.1) (λ ys u. appended_all MatchFits xs ys g u))

    -- ---- after all matches

    pub record AfterFits (a : After N) : Type 0 where
      pub slots : Keeps world state.slots a.slots
      pub sources : list_all (is_vertex_of world.graph f.source_types) a.sources ≡ true
      pub targets : list_all (is_vertex_of world.graph f.target_types) a.targets ≡ true
      pub sources_once : no_repeats a.sources ≡ true
      pub targets_once : no_repeats a.targets ≡ true

    given_all : (ms : List Match) → AllOf MatchFits ms → AllOf (Contributes world state.slots) (flat_map (λ (m : Match). m.gives) ms)
    given_all [] k = tt
    given_all (m ∷ ms) k = appended_all (Contributes world state.slots) m.gives (flat_map (λ (m : Match). m.gives) ms) k.0.0 (given_all ms k.1)

    sources_all : (ms : List Match) → AllOf MatchFits ms → list_all (is_vertex_of world.graph f.source_types) (map (λ (m : Match). m.candidate.source) ms) ≡ true
    sources_all [] k = refl
    sources_all (m ∷ ms) k = both_ok (is_vertex_of world.graph f.source_types m.candidate.source) _ k.0.1.source (sources_all ms k.1)

    targets_all : (ms : List Match) → AllOf MatchFits ms → list_all (is_vertex_of world.graph f.target_types) (filter_map (λ (m : Match). m.candidate.target) ms) ≡ true
    targets_all [] k = refl
    targets_all (m ∷ ms) k = go m.candidate.target k.0.1.targets (targets_all ms k.1)
      where
        go : (o : Option ℕ) → ((v : ℕ) → o ≡ Some v → is_vertex_of world.graph f.target_types v ≡ true) → list_all (is_vertex_of world.graph f.target_types) (filter_map (λ (m : Match). m.candidate.target) ms) ≡ true
            → list_all (is_vertex_of world.graph f.target_types) (cons_option o (filter_map (λ (m : Match). m.candidate.target) ms)) ≡ true
        go None g rest = rest
        go (Some v) g rest = both_ok (is_vertex_of world.graph f.target_types v) _ (g v refl) rest

    pub after_safe : (ms : List Match) → AllOf MatchFits ms → Safe AfterFits (after_matches state.slots ms)
    after_safe ms k =
        safe_then (Keeps world state.slots) AfterFits (fed_together (flat_map (λ (m : Match). m.gives) ms) state.slots) _ (fed_safe world (flat_map (λ (m : Match). m.gives) ms) state.slots (given_all ms k))
        (λ fed g. record {
          slots = g;
          sources = distinct_all (is_vertex_of world.graph f.source_types) nat_cmp (map (λ (m : Match). m.candidate.source) ms) (sources_all ms k);
          targets = distinct_all (is_vertex_of world.graph f.target_types) nat_cmp (filter_map (λ (m : Match). m.candidate.target) ms) (targets_all ms k);
          sources_once = distinct_once (map (λ (m : Match). m.candidate.source) ms);
          targets_once = distinct_once (filter_map (λ (m : Match). m.candidate.target) ms);
        })
