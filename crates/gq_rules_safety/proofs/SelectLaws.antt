-- SelectLaws: a typed SELECT is never stuck, and gives vertices of the types that typing gives.
use Rattle.std.proofs.Common.{◌≡◌, ℕ, Bool, true, false, List, [], Option, Some, None, Ok, Err, refl, ap, sym, ◌∙◌, subst}
use Rattle.std.specs.Prelude.{◌||◌}
use Rattle.std.specs.List.{list_all}
use Rattle.gq_rules_typing.specs.Selecting.{Select}
use Rattle.gq_rules_typing.specs.Statements.{Bytes}
use Rattle.gq_rules_typing.specs.Judging.{Typed, Judged, ◌>>◌, unless, each_judged, NotAllowedHere}
use Rattle.gq_rules_typing.specs.ExpressionTypes.{condition, number}
use Rattle.gq_rules_typing.specs.Patterns.{edge_alias, target_alias, end_types, is_alias}
use Rattle.gq_rules_typing.specs.Scopes.{Entry, Alias, EdgeAlias, InBlock, InTail, InLimit, Scope, entry, unknown, name_at, alias_at, names_at}
use Rattle.gq_rules_typing.specs.ActTypes.{typing_acts, typing_post}
use Rattle.gq_rules_typing.specs.SelectTypes.{with_alias, source_types, typing_walk, optional, sort_key, selected_types}
use Rattle.gq_rules_meaning.specs.Answers.{Answer, Gives, Faults}
use Rattle.gq_rules_meaning.specs.Answers as answers
use Rattle.gq_rules_meaning.specs.Expressions.{World, setting}
use Rattle.gq_rules_meaning.specs.States.{State, sight}
use Rattle.gq_rules_meaning.specs.Sources.{From, from, candidates_of, selects_target, types_at, with_vertex}
use Rattle.gq_rules_meaning.specs.Sources as sources
use Rattle.gq_rules_meaning.specs.Blocks.{matches, After, after_matches, accumulated}
use Rattle.gq_rules_meaning.specs.Posts.{matched, posted}
use Rattle.gq_rules_meaning.specs.Tails.{selected_look, tail, select}
use Rattle.gq_rules_meaning.specs.Fitting.{Safe, is_vertex_of}
use Rattle.gq_rules_meaning.specs.StateFits.{AllOf, no_repeats}
use Rattle.gq_rules_meaning.proofs.AnswerLaws.{safe_then, then_ok, after_ok, checked, unless_ok, ok_inj}
use Rattle.gq_rules_safety.specs.Matching.{WordsFit, StateIs}
use Rattle.gq_rules_safety.specs.Laws.{SelectedFits, SelectLaw, StatementLaw}
use Rattle.gq_rules_safety.proofs.SlotLaws.{keeps_names}
use Rattle.gq_rules_safety.proofs.SightLaws.{adds, alias_known, with_target, target_setting, SeenAs, seen_as, as_target, as_edge, as_source, as_before, barring, Covered, the_alias, before_it, one_vertex_fits}
use Rattle.gq_rules_safety.proofs.MatchLaws.{aliases, CandidateFits, MatchFits, AfterFits, matches_safe, after_safe}
use Rattle.gq_rules_safety.proofs.PostLaws.{posts_safe}
use Rattle.gq_rules_safety.proofs.TailLaws.{tail_safe}
use Rattle.gq_rules_safety.proofs.WalkLaws.{source_fits, walk_known}
use Rattle.gq_rules_safety.proofs.CandidateLaws.{all_candidates}
use Rattle.gq_rules_safety.proofs.AssignLaws.{statement_law}

either_is : (p q : Bool) → p ≡ false → q ≡ false → (p || q) ≡ true → ⊥
either_is p q h g k = absurd (cc k)

module _ {N : Type 0} (world : World N) (words : WordsFit world) (s : Scope N) (state : State N) (h : StateIs world s state) (q : Select N) (edges : List ℕ) where
  abbrev f : From N
  f = from world state.names q

  abbrev inside : Scope N
  inside = with_target world words s (aliases world words f edges)

  abbrev same : N → N → Bool
  same = world.words.same

  setting_is : inside.setting ≡ setting world
  setting_is = target_setting world words s (aliases world words f edges) ∙ h.fits.setting

  seen : (x : N) → SeenAs world words s (aliases world words f edges) x
  seen x = seen_as world words s (aliases world words f edges) x h.fits.setting

  -- ---- the selected vertex

  pub selected_known : (types : List ℕ) → selected_types inside f.source f.target q.selected ≡ Ok types → types_at f (selects_target world q) ≡ types
  selected_known types e =
      let u = after_ok (unless (unknown inside q.selected) (is_alias inside.setting.words.same f.source q.selected || is_alias inside.setting.words.same f.target q.selected)) (of_entry (entry inside q.selected)) types e in
      let w : (is_alias same f.source q.selected || is_alias same f.target q.selected) ≡ true =
      subst (λ z. (is_alias z.words.same f.source q.selected || is_alias z.words.same f.target q.selected) ≡ true) setting_is (unless_ok (unknown inside q.selected) _ u.0.0 u.0.1) in
      go (seen q.selected) w u.1
    where
      of_entry : Option Entry → Judged (List ℕ)
      of_entry (Some (Alias types)) = Ok types
      of_entry _ = Err (unknown inside q.selected)

      go : SeenAs world words s (aliases world words f edges) q.selected → (is_alias same f.source q.selected || is_alias same f.target q.selected) ≡ true → of_entry (entry inside q.selected) ≡ Ok types → types_at f (selects_target world q) ≡ types
      go (as_target p d) w e = ap (types_at f) p ∙ ok_inj (sym (ap of_entry d) ∙ e)
      go (as_edge p d) w e = let c = sym (ap of_entry d) ∙ e in absurd (cc c)
      go (as_source p r d) w e = ap (types_at f) p ∙ ok_inj (sym (ap of_entry d) ∙ e)
      go (as_before p r d) w e = absurd (either_is (is_alias same f.source q.selected) (is_alias same f.target q.selected) r p w)

  -- ---- the names in HAVING and ORDER BY

  tail_same : (x : N) (types : List ℕ) (ty : Typed) → alias_at inside (InTail q.selected) x types ≡ Ok ty → q.selected ≡ x
  tail_same x types ty e = words.same q.selected x (subst (λ z. z.words.same q.selected x ≡ true) setting_is (checked NotAllowedHere (inside.setting.words.same q.selected x) _ ty e).0)

  tail_covers : (x : N) (ty : Typed) → false ≡ false → name_at inside (InTail q.selected) x (entry inside x) ≡ Ok ty → Covered world words s (aliases world words f edges) (sources.alias_at f (selects_target world q)) (types_at f (selects_target world q)) x
  tail_covers x ty b e = go (seen x)
    where
      go : SeenAs world words s (aliases world words f edges) x → Covered world words s (aliases world words f edges) (sources.alias_at f (selects_target world q)) (types_at f (selects_target world q)) x
      go (as_target p d) =
          let u = tail_same x f.target_types ty (sym (ap (name_at inside (InTail q.selected) x) d) ∙ e) in
          let t : selects_target world q ≡ true = subst (λ z. is_alias same f.target z ≡ true) (sym u) p in
          subst (λ b. Covered world words s (aliases world words f edges) (sources.alias_at f b) (types_at f b) x) (sym t) (the_alias p d)
      go (as_edge p d) = let c = sym (ap (name_at inside (InTail q.selected) x) d) ∙ e in absurd (cc c)
      go (as_source p r d) =
          let u = tail_same x f.source_types ty (sym (ap (name_at inside (InTail q.selected) x) d) ∙ e) in
          let t : selects_target world q ≡ false = subst (λ z. is_alias same f.target z ≡ false) (sym u) p in
          subst (λ b. Covered world words s (aliases world words f edges) (sources.alias_at f b) (types_at f b) x) (sym t) (the_alias r d)
      go (as_before p r d) = before_it (neither (selects_target world q)) d
        where
          neither : (b : Bool) → is_alias same (sources.alias_at f b) x ≡ false
          neither true = p
          neither false = r

  limit_covers : (x : N) (ty : Typed) → false ≡ false → name_at inside InLimit x (entry inside x) ≡ Ok ty → Covered world words s (aliases world words f edges) None [] x
  limit_covers x ty b e = go (seen x)
    where
      go : SeenAs world words s (aliases world words f edges) x → Covered world words s (aliases world words f edges) None [] x
      go (as_target p d) = let c = sym (ap (name_at inside InLimit x) d) ∙ e in absurd (cc c)
      go (as_edge p d) = let c = sym (ap (name_at inside InLimit x) d) ∙ e in absurd (cc c)
      go (as_source p r d) = let c = sym (ap (name_at inside InLimit x) d) ∙ e in absurd (cc c)
      go (as_before p r d) = before_it refl d

  abbrev Fits : After N → Type 0
  Fits = AfterFits world words s state h f edges

  abbrev nothing_barred : N → Bool
  nothing_barred x = false

  abbrev end : Bool
  end = selects_target world q

  matched_fit : (a : After N) → Fits a → (b : Bool) → (list_all (is_vertex_of world.graph (types_at f b)) (matched a b) ≡ true) × (no_repeats (matched a b) ≡ true)
  matched_fit a k true = (k.targets, k.targets_once)
  matched_fit a k false = (k.sources, k.sources_once)

  pub tail_left : (a : After N) → Fits a → (having : Bool) (order : List Bool) (limit : Bool) → optional (condition (names_at inside (InTail q.selected))) q.having ≡ Ok having → each_judged (sort_key (names_at inside (InTail q.selected))) q.order ≡ Ok order
      → optional (number (names_at inside InLimit)) q.limit ≡ Ok limit → Safe (λ vs. (list_all (is_vertex_of world.graph (types_at f end)) vs ≡ true) × (no_repeats vs ≡ true)) (tail world state q a)
  tail_left a k having order limit e d l =
      let n = keeps_names world s state.names state.slots a.slots k.slots h.fits in
      let m = matched_fit a k end in
      tail_safe world (is_vertex_of world.graph (types_at f end)) (barring world words nothing_barred inside (InTail q.selected)) (barring world words nothing_barred inside InLimit) (selected_look world state q a.slots)
      (λ v p. one_vertex_fits world words s (aliases world words f edges) (InTail q.selected) nothing_barred (sources.alias_at f end) (types_at f end) v state.names a.slots a.slots h.fits.setting refl n n (λ y r. p) tail_covers)
      (sight world state.names a.slots a.slots)
      (one_vertex_fits world words s (aliases world words f edges) InLimit nothing_barred None [] 0 state.names a.slots a.slots h.fits.setting refl n n (λ y r. absurd (cc r)) limit_covers)
      q having order limit e d l (matched a end) m.0 m.1

  -- ---- all parts

  pub parts_safe : (types : List ℕ) (filter : Bool) (acts posts : ℕ) (having : Bool) (order : List Bool) (limit : Bool) → AllOf (CandidateFits world words f edges) (candidates_of world f.start q.walk) → types_at f end ≡ types
      → optional (condition (names_at inside InBlock)) q.filter ≡ Ok filter → typing_acts inside false 0 q.accum ≡ Ok acts → typing_post inside f.source f.target 0 q.post ≡ Ok posts
      → optional (condition (names_at inside (InTail q.selected))) q.having ≡ Ok having → each_judged (sort_key (names_at inside (InTail q.selected))) q.order ≡ Ok order → optional (number (names_at inside InLimit)) q.limit ≡ Ok limit
      → Safe (SelectedFits world s state types) (select world state q)
  parts_safe types filter acts posts having order limit cs t e a p g o l =
      safe_then Fits (SelectedFits world s state types) (answers.◌>>=◌ (accumulated world state q) (posted world state q)) _
      (safe_then Fits Fits (accumulated world state q) (posted world state q)
      (safe_then (AllOf (MatchFits world words s state h f edges)) Fits (matches world state q f 0 (candidates_of world f.start q.walk)) (after_matches state.slots) (matches_safe world words s state h f edges q filter acts e a 0 (candidates_of world f.start q.walk) cs) (λ ms k. after_safe world words s state h f edges ms k))
      (λ b k. posts_safe world words s state h f edges q posts p b k))
      (λ b k. safe_then (λ vs. (list_all (is_vertex_of world.graph (types_at f end)) vs ≡ true) × (no_repeats vs ≡ true)) (SelectedFits world s state types) (tail world state q b) _ (tail_left b k having order limit g o l)
      (λ vs n. record { slots = keeps_names world s state.names state.slots b.slots k.slots h.fits; vertices = subst (λ ts. list_all (is_vertex_of world.graph ts) vs ≡ true) t n.0; once = n.1 }))

pub select_law : (N : Type 0) → SelectLaw N
select_law N world words s state h q types e =
    let src = then_ok (source_types s q.source) _ types e in
    let one = then_ok (with_alias q.alias (Alias src.0) s) _ types src.2 in
    let two = then_ok (typing_walk one.0 (end_types s.setting q.walk) q.walk) _ types one.2 in
    let chosen = then_ok (selected_types two.0 q.alias (target_alias q.walk) q.selected) _ types two.2 in
    let l = after_ok (optional (condition (names_at two.0 InBlock)) q.filter >> typing_acts two.0 false 0 q.accum >> typing_post two.0 q.alias (target_alias q.walk) 0 q.post >> optional (condition (names_at two.0 (InTail q.selected))) q.having >> each_judged (sort_key (names_at two.0 (InTail q.selected))) q.order >> optional (number (names_at two.0 InLimit)) q.limit) (Ok chosen.0) types chosen.2 in
    let o = after_ok (optional (condition (names_at two.0 InBlock)) q.filter >> typing_acts two.0 false 0 q.accum >> typing_post two.0 q.alias (target_alias q.walk) 0 q.post >> optional (condition (names_at two.0 (InTail q.selected))) q.having >> each_judged (sort_key (names_at two.0 (InTail q.selected))) q.order) (optional (number (names_at two.0 InLimit)) q.limit) l.0.0 l.0.1 in
    let g = after_ok (optional (condition (names_at two.0 InBlock)) q.filter >> typing_acts two.0 false 0 q.accum >> typing_post two.0 q.alias (target_alias q.walk) 0 q.post >> optional (condition (names_at two.0 (InTail q.selected))) q.having) (each_judged (sort_key (names_at two.0 (InTail q.selected))) q.order) o.0.0 o.0.1 in
    let p = after_ok (optional (condition (names_at two.0 InBlock)) q.filter >> typing_acts two.0 false 0 q.accum >> typing_post two.0 q.alias (target_alias q.walk) 0 q.post) (optional (condition (names_at two.0 (InTail q.selected))) q.having) g.0.0 g.0.1 in
    let a = after_ok (optional (condition (names_at two.0 InBlock)) q.filter >> typing_acts two.0 false 0 q.accum) (typing_post two.0 q.alias (target_alias q.walk) 0 q.post) p.0.0 p.0.1 in
    let b = after_ok (optional (condition (names_at two.0 InBlock)) q.filter) (typing_acts two.0 false 0 q.accum) a.0.0 a.0.1 in
    let fits = source_fits world words s state q.source src.0 h src.1 in
    let first = alias_known q.alias (Alias src.0) s one.0 one.1 in
    let z : one.0.setting ≡ setting world = subst (λ t. t.setting ≡ setting world) first.0 (set_alias q.alias (Alias src.0) s h.fits.setting) in
    let walk = walk_known world words q.walk (end_types s.setting q.walk) one.0 two.0 z two.1 in
    let f = from world state.names q in
    let ends : end_types s.setting q.walk ≡ f.target_types = ap (λ z. end_types z q.walk) h.fits.setting in
    let into : two.0 ≡ with_target world words s (aliases world words f walk.0) =
    sym walk.1 ∙ ap (λ ts. adds (target_alias q.walk) (Alias ts) (adds (edge_alias q.walk) (EdgeAlias walk.0) one.0)) ends
    ∙ ap (λ t. adds (target_alias q.walk) (Alias f.target_types) (adds (edge_alias q.walk) (EdgeAlias walk.0) t)) (sym first.0 ∙ ap (λ ts. adds q.alias (Alias ts) s) (sym fits.0)) in
    let cs = all_candidates world words h.fits.store.graph f f.start (subst (λ ts. list_all (is_vertex_of world.graph ts) f.start ≡ true) (sym fits.0) fits.1) q.walk walk.0 refl refl refl walk.2 in
    let t : types_at f (selects_target world q) ≡ types = selected_known world words s state h q walk.0 chosen.0 (subst (λ r. selected_types r q.alias (target_alias q.walk) q.selected ≡ Ok chosen.0) into chosen.1) ∙ ok_inj l.1 in (
      t,
      parts_safe world words s state h q walk.0 types b.0.0 a.0.0 p.0.0 g.0.0 o.0.0 l.0.0 cs t
          (subst (λ r. optional (condition (names_at r InBlock)) q.filter ≡ Ok b.0.0) into b.0.1)
          (subst (λ r. typing_acts r false 0 q.accum ≡ Ok a.0.0) into b.1)
          (subst (λ r. typing_post r q.alias (target_alias q.walk) 0 q.post ≡ Ok p.0.0) into a.1)
          (subst (λ r. optional (condition (names_at r (InTail q.selected))) q.having ≡ Ok g.0.0) into p.1)
          (subst (λ r. each_judged (sort_key (names_at r (InTail q.selected))) q.order ≡ Ok o.0.0) into g.1)
          (subst (λ r. optional (number (names_at r InLimit)) q.limit ≡ Ok l.0.0) into o.1),
    )
  where
    set_alias : (o : Option N) (e : Entry) (s : Scope N) → s.setting ≡ setting world → (adds o e s).setting ≡ setting world
    set_alias None e s z = z
    set_alias (Some x) e s z = z

pub select_law_by_name : SelectLaw Bytes
select_law_by_name = select_law Bytes

pub statement_law_by_name : StatementLaw Bytes
statement_law_by_name = statement_law Bytes (select_law Bytes)
