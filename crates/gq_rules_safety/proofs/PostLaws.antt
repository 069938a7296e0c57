-- PostLaws: a typed POST-ACCUM is never stuck, and accumulators fit after it.
use Rattle.std.proofs.Common.{◌≡◌, ℕ, zero, suc, Bool, true, false, List, [], ◌∷◌, Some, Ok, refl, ap, sym, ◌∙◌, subst}
use Rattle.std.specs.Prelude.{not, ◌&&◌, if◌then◌else◌, slice_get}
use Rattle.std.specs.List.{list_all}
use Rattle.gq_value.specs.Accums.{Accum}
use Rattle.gq_rules_typing.specs.Selecting.{Change, Adds, Puts, Act, AtAlias, AtGlobal, Choose, Acts, no_act, act_and, Choices, otherwise, when, Select}
use Rattle.gq_rules_typing.specs.Judging.{Typed, ◌>>◌, unless, TwoAliases}
use Rattle.gq_rules_typing.specs.ExpressionTypes.{Names, condition}
use Rattle.gq_rules_typing.specs.Patterns.{is_alias}
use Rattle.gq_rules_typing.specs.Mentions.{in_tree, in_act, in_acts, in_choices}
use Rattle.gq_rules_typing.specs.Scopes.{InPost, Scope, entry, name_at, declared_kind, names_at}
use Rattle.gq_rules_typing.specs.ActTypes.{vertex_alias, typing_written, typing_fed, typing_at, typing_global, one_more, typing_acts, typing_act, typing_choices, names_one, typing_post}
use Rattle.gq_rules_meaning.specs.Answers.{blaming, through}
use Rattle.gq_rules_meaning.specs.Expressions.{World, truth_of}
use Rattle.gq_rules_meaning.specs.States.{Slot, State, slot_number, slot_named}
use Rattle.gq_rules_meaning.specs.Sources.{From, selects_target, alias_at, types_at}
use Rattle.gq_rules_meaning.specs.Blocks.{AtPlace, Contribution, input_of, After, contributed, fed_together}
use Rattle.gq_rules_meaning.specs.Writes.{slots_changed}
use Rattle.gq_rules_meaning.specs.Posts.{for_target, same_end, before_phases, phases, Written, Post, post_look, at_vertex, write, feed, post_acts, post_act, post_choices, matched, post_of, phase}
use Rattle.gq_rules_meaning.specs.Fitting.{Safe, is_vertex_of}
use Rattle.gq_rules_meaning.specs.StateFits.{InputFits, AccumFits, AllOf}
use Rattle.gq_rules_meaning.specs.Laws.{LookFits, Contributes}
use Rattle.gq_rules_meaning.proofs.AnswerLaws.{safe_then, safe_found, safe_blaming, then_ok, after_ok, unless_ok, some_inj, and_ok}
use Rattle.gq_rules_meaning.proofs.InputLaws.{input_safe}
use Rattle.gq_rules_meaning.proofs.LookLaws.{declared_entry}
use Rattle.gq_rules_safety.specs.Matching.{WordsFit, StateIs}
use Rattle.gq_rules_safety.proofs.NameLaws.{appended_all, all_with}
use Rattle.gq_rules_safety.proofs.ValueLaws.{condition_safe}
use Rattle.gq_rules_safety.proofs.SlotLaws.{SlotKeeps, Keeps, keeps_then, keeps_accum, keeps_names, kept_slot, numbered}
use Rattle.gq_rules_safety.proofs.WriteLaws.{typed_change, change_safe}
use Rattle.gq_rules_safety.proofs.FedLaws.{fed_safe}
use Rattle.gq_rules_safety.proofs.SightLaws.{with_target, target_setting, seen_as, as_target, as_edge, as_source, as_before, SeenAs, accum_before, barring, Covered, the_alias, before_it, one_vertex_fits}
use Rattle.gq_rules_safety.proofs.MatchLaws.{aliases, AfterFits}
use Rattle.gq_rules_safety.proofs.MentionLaws.{or_split, condition_same, change_same}

module _ {N : Type 0} (world : World N) where
  -- inputs to accumulators that keep their kinds
  contributes_back : (ss ts : List (Slot N)) (x : Contribution) → Keeps world ss ts → Contributes world ts x → Contributes world ss x
  contributes_back ss ts x h g s e = let t = kept_slot world x.slot ss ts h s e in subst (λ k. InputFits world k x.input) t.2.kind (g t.0 t.1)

  slot_before : (n : ℕ) (ss ts : List (Slot N)) → Keeps world ss ts → (t : Slot N) → slice_get ts n ≡ Some t → (s : Slot N) × (slice_get ss n ≡ Some s) × SlotKeeps world s t
  slot_before n [] [] h t e = cc
  slot_before zero (s ∷ ss) (r ∷ ts) h t e = (s, refl, subst (SlotKeeps world s) (some_inj e) h.0)
  slot_before (suc n) (s ∷ ss) (r ∷ ts) h t e = slot_before n ss ts h.1 t e
  slot_before n [] (t ∷ ts) h r e = absurd h
  slot_before n (s ∷ ss) [] h t e = absurd h

  contributes_on : (ss ts : List (Slot N)) (x : Contribution) → Keeps world ss ts → Contributes world ss x → Contributes world ts x
  contributes_on ss ts x h g t e = let s = slot_before x.slot ss ts h t e in subst (λ k. InputFits world k x.input) (sym s.2.kind) (g s.0 s.1)

module _ {N : Type 0} (world : World N) (words : WordsFit world) (s : Scope N) (state : State N) (h : StateIs world s state) (f : From N) (edges : List ℕ) where
  abbrev inside : Scope N
  inside = with_target world words s (aliases world words f edges)

  abbrev same : N → N → Bool
  same = world.words.same

  -- the names of the other end are barred
  abbrev bars : Bool → N → Bool
  bars end x = is_alias same (alias_at f (not end)) x

  covers : (end : Bool) (x : N) (ty : Typed) → bars end x ≡ false → name_at inside InPost x (entry inside x) ≡ Ok ty → Covered world words s (aliases world words f edges) (alias_at f end) (types_at f end) x
  covers end x ty b e = go end b (seen_as world words s (aliases world words f edges) x h.fits.setting)
    where
      go : (end : Bool) → bars end x ≡ false → SeenAs world words s (aliases world words f edges) x → Covered world words s (aliases world words f edges) (alias_at f end) (types_at f end) x
      go true b (as_target p d) = the_alias p d
      go false b (as_target p d) = let c : true ≡ false = sym p ∙ b in absurd (cc c)
      go end b (as_edge p d) = let c = sym (ap (name_at inside InPost x) d) ∙ e in absurd (cc c)
      go true b (as_source p q d) = let c : true ≡ false = sym q ∙ b in absurd (cc c)
      go false b (as_source p q d) = the_alias q d
      go true b (as_before p q d) = before_it p d
      go false b (as_before p q d) = before_it q d

  -- ---- one vertex of a phase

  module _ (end : Bool) (v : ℕ) (vertex : is_vertex_of world.graph (types_at f end) v ≡ true) where
    abbrev post : Post N
    post = post_of world state f end v

    abbrev names : Names N
    names = barring world words (bars end) inside InPost

    -- accumulators still fit, and inputs to global ones are those that they take
    pub record Holding (w : Written N) : Type 0 where
      pub slots : Keeps world state.slots w.slots
      pub inputs : AllOf (Contributes world state.slots) w.to_globals

    sees : (w : Written N) → Holding w → LookFits names (post_look post w)
    sees w g =
        one_vertex_fits world words s (aliases world words f edges) InPost (bars end) (alias_at f end) (types_at f end) v state.names w.slots state.slots h.fits.setting refl
        (keeps_names world s state.names state.slots w.slots g.slots h.fits) h.fits (λ y e. vertex) (covers end)

    accum_is : (a : N) (k : Accum) (attached : Bool) (w : Written N) → declared_kind inside attached a ≡ Ok k → Holding w → AccumFits world w.slots a k attached
    accum_is a k attached w d g =
        keeps_accum world state.slots w.slots g.slots a k attached (h.fits.accum a k attached (declared_entry world s attached a k (accum_before world words s (aliases world words f edges) a k attached h.fits.setting d)))

    write_safe : (a : N) (k : Accum) (c : Change N) (q : Bool) (w : Written N) → declared_kind inside true a ≡ Ok k → typed_change names k c ≡ Ok q → Holding w → Safe Holding (write post a c w)
    write_safe a k c q w d e g =
        safe_then (Keeps world w.slots) Holding (blaming (at_vertex v) (slots_changed (post_look post w) w.slots a v c)) _
        (safe_blaming (Keeps world w.slots) (at_vertex v) (slots_changed (post_look post w) w.slots a v c) (change_safe names (post_look post w) (sees w g) w.slots a k true v c q (accum_is a k true w d g) e))
        (λ slots k. record { slots = keeps_then world state.slots w.slots slots g.slots k; inputs = g.inputs })

    fed_in : (a : N) (k : Accum) (c : Change N) (q : Bool) (w : Written N) → declared_kind inside false a ≡ Ok k → typing_fed inside k c ≡ Ok q → typed_change names k c ≡ Ok q → Holding w → Safe (AllOf (Contributes world state.slots)) (contributed (post_look post w) w.slots a 0 c)
    fed_in a k (Puts x) q w d t e g = cc
    fed_in a k (Adds x) q w d t e g =
        let accum = accum_is a k false w d g in
        let n = numbered world w.slots a accum.slot accum.found in
        safe_found _ (slot_number world w.slots a) n.0 _ n.1 (safe_found _ (slot_named world w.slots a) accum.slot _ accum.found
        (safe_then (InputFits world accum.slot.kind) (AllOf (Contributes world state.slots)) (input_of (post_look post w) accum.slot.kind x) _
        (subst (λ j. Safe (InputFits world j) (input_of (post_look post w) j x)) (sym accum.fit.kind) (input_safe names (post_look post w) (sees w g) k x q e))
        (λ y i. (contributes_back world state.slots w.slots (record { slot = n.0; vertex = 0; input = y }) g.slots (λ slot r. subst (λ z. InputFits world z.kind y) (some_inj (sym n.2 ∙ r)) i), tt))))

    feed_safe : (a : N) (k : Accum) (c : Change N) (q : Bool) (w : Written N) → declared_kind inside false a ≡ Ok k → typing_fed inside k c ≡ Ok q → typed_change names k c ≡ Ok q → Holding w → Safe Holding (feed post a c w)
    feed_safe a k c q w d t e g =
        safe_then (AllOf (Contributes world state.slots)) Holding (blaming (AtPlace v) (contributed (post_look post w) w.slots a 0 c)) _
        (safe_blaming (AllOf (Contributes world state.slots)) (AtPlace v) (contributed (post_look post w) w.slots a 0 c) (fed_in a k c q w d t e g))
        (λ xs i. record { slots = g.slots; inputs = appended_all (Contributes world state.slots) w.to_globals xs g.inputs i })

    written_change : (k : Accum) (c : Change N) (q : Bool) → typing_written inside k c ≡ Ok q → typed_change (names_at inside InPost) k c ≡ Ok q
    written_change k (Adds x) q e = e
    written_change k (Puts t) q e = e

    fed_change : (k : Accum) (c : Change N) (q : Bool) → typing_fed inside k c ≡ Ok q → typed_change (names_at inside InPost) k c ≡ Ok q
    fed_change k (Adds x) q e = e
    fed_change k (Puts t) q e = cc

    mutual
      pub acts_safe : (acts : Acts N) (n m : ℕ) → typing_acts inside true n acts ≡ Ok m → in_acts (bars end) acts ≡ false → (w : Written N) → Holding w → Safe Holding (post_acts post acts w)
      acts_safe no_act n m e b w g = g
      acts_safe (act_and a acts) n m e b w g =
          let i = then_ok (one_more n) _ m e in let j = then_ok (typing_act inside true i.0 a) _ m i.2 in let u = or_split (in_act (bars end) a) _ b in
          safe_then Holding Holding (post_act post a w) (post_acts post acts) (act_safe a i.0 j.0 j.1 u.0 w g) (λ x k. acts_safe acts j.0 m j.2 u.1 x k)

      pub act_safe : (a : Act N) (n m : ℕ) → typing_act inside true n a ≡ Ok m → in_act (bars end) a ≡ false → (w : Written N) → Holding w → Safe Holding (post_act post a w)
      act_safe (AtAlias x a c) n m e b w g =
          let u = after_ok (typing_at inside true x a c) _ m e in let k = then_ok (vertex_alias inside x >> declared_kind inside true a) _ u.0.0 u.0.1 in let d = after_ok (vertex_alias inside x) (declared_kind inside true a) k.0 k.1 in
          let r = or_split (bars end x) _ b in
          write_safe a k.0 c u.0.0 w d.1 (change_same world words (bars end) inside InPost k.0 c r.1 ∙ written_change k.0 c u.0.0 k.2) g
      act_safe (AtGlobal a c) n m e b w g =
          let u = after_ok (typing_global inside true a c) _ m e in let k = then_ok (declared_kind inside false a) _ u.0.0 u.0.1 in
          feed_safe a k.0 c u.0.0 w k.1 k.2 (change_same world words (bars end) inside InPost k.0 c b ∙ fed_change k.0 c u.0.0 k.2) g
      act_safe (Choose choices) n m e b w g = choices_safe choices n m e b w g

      choices_safe : (choices : Choices N) (n m : ℕ) → typing_choices inside true n choices ≡ Ok m → in_choices (bars end) choices ≡ false → (w : Written N) → Holding w → Safe Holding (post_choices post choices w)
      choices_safe (otherwise acts) n m e b w g = acts_safe acts n m e b w g
      choices_safe (when t acts rest) n m e b w g =
          let i = then_ok (condition (names_at inside InPost) t >> typing_acts inside true n acts) _ m e in let u = after_ok (condition (names_at inside InPost) t) (typing_acts inside true n acts) i.0 i.1 in
          let r = or_split (in_tree (bars end) t) _ b in let l = or_split (in_acts (bars end) acts) _ r.1 in
          safe_then (λ (b : Bool). Unit {0}) Holding (blaming (AtPlace v) (truth_of (post_look post w) t)) _
          (safe_blaming (λ (b : Bool). Unit {0}) (AtPlace v) (truth_of (post_look post w) t) (condition_safe names (post_look post w) (sees w g) t u.0.0 (condition_same world words (bars end) inside InPost t r.0 ∙ u.0.1)))
          (elim [ true ↦ λ k. acts_safe acts n i.0 u.1 l.0 w g | false ↦ λ k. choices_safe rest i.0 m i.2 l.1 w g ])

  -- ---- phases

  -- statements that are typed and name only one end
  abbrev PhaseFits : Bool → Acts N → Type 0
  PhaseFits end no_act = Unit {0}
  PhaseFits end (act_and a acts) = ((n : ℕ) × (m : ℕ) × (typing_act inside true n a ≡ Ok m) × (in_act (bars end) a ≡ false)) × PhaseFits end acts

  phase_acts : (end : Bool) (v : ℕ) (vertex : is_vertex_of world.graph (types_at f end) v ≡ true) (acts : Acts N) → PhaseFits end acts → (w : Written N) → Holding end v vertex w → Safe (Holding end v vertex) (post_acts (post_of world state f end v) acts w)
  phase_acts end v vertex no_act k w g = g
  phase_acts end v vertex (act_and a acts) k w g =
      safe_then (Holding end v vertex) (Holding end v vertex) (post_act (post_of world state f end v) a w) (post_acts (post_of world state f end v) acts) (act_safe end v vertex a k.0.0 k.0.1 k.0.2 k.0.3 w g) (λ x i. phase_acts end v vertex acts k.1 x i)

  -- accumulators still fit, and inputs to global ones are those that they take
  pub record Kept (w : Written N) : Type 0 where
    pub slots : Keeps world state.slots w.slots
    pub inputs : AllOf (Contributes world state.slots) w.to_globals

  vertices_safe : (end : Bool) (acts : Acts N) → PhaseFits end acts → (vs : List ℕ) → list_all (is_vertex_of world.graph (types_at f end)) vs ≡ true → (w : Written N) → Kept w → Safe Kept (through (λ w v. post_acts (post_of world state f end v) acts w) w vs)
  vertices_safe end acts k [] t w g = g
  vertices_safe end acts k (v ∷ vs) t w g =
      let u = and_ok (is_vertex_of world.graph (types_at f end) v) _ t in
      safe_then (Holding end v u.0) Kept (post_acts (post_of world state f end v) acts w) _ (phase_acts end v u.0 acts k w (record { slots = g.slots; inputs = g.inputs }))
      (λ x i. vertices_safe end acts k vs u.1 x (record { slots = i.slots; inputs = i.inputs }))

  abbrev Fits : After N → Type 0
  Fits = AfterFits world words s state h f edges

  matched_fit : (a : After N) → Fits a → (end : Bool) → list_all (is_vertex_of world.graph (types_at f end)) (matched a end) ≡ true
  matched_fit a k true = k.targets
  matched_fit a k false = k.sources

  phase_safe : (a : After N) (p : Bool × Acts N) → PhaseFits p.0 p.1 → Fits a → Safe Fits (phase world state f a p)
  phase_safe a p k g =
      safe_then Kept Fits (through (λ w v. post_acts (post_of world state f p.0 v) p.1 w) (record { slots = a.slots; to_globals = [] }) (matched a p.0)) _
      (vertices_safe p.0 p.1 k (matched a p.0) (matched_fit a g p.0) (record { slots = a.slots; to_globals = [] }) (record { slots = g.slots; inputs = tt }))
      (λ w i. safe_then (Keeps world w.slots) Fits (fed_together w.to_globals w.slots) _
      (fed_safe world w.to_globals w.slots (all_with (Contributes world state.slots) (Contributes world w.slots) w.to_globals (λ x c. contributes_on world state.slots w.slots x i.slots c) i.inputs))
      (λ slots l. record { slots = keeps_then world state.slots w.slots slots i.slots l; sources = g.sources; targets = g.targets; sources_once = g.sources_once; targets_once = g.targets_once }))

  all_phases : (ps : List (Bool × Acts N)) → AllOf (λ p. PhaseFits p.0 p.1) ps → (a : After N) → Fits a → Safe Fits (through (phase world state f) a ps)
  all_phases [] k a g = g
  all_phases (p ∷ ps) k a g = safe_then Fits Fits (phase world state f a p) _ (phase_safe a p k.0 g) (λ b i. all_phases ps k.1 b i)

  -- ---- which end

  end_same : (end b : Bool) → same_end end b ≡ true → b ≡ end
  end_same true true e = refl
  end_same false false e = refl
  end_same true false e = cc
  end_same false true e = cc

  more_phases : (end : Bool) (a : Act N) (ps : List (Bool × Acts N)) → ((n : ℕ) × (m : ℕ) × (typing_act inside true n a ≡ Ok m) × (in_act (bars end) a ≡ false)) → AllOf (λ p. PhaseFits p.0 p.1) ps → AllOf (λ p. PhaseFits p.0 p.1) (before_phases end a ps)
  more_phases end a [] k g = ((k, tt), tt)
  more_phases end a (p ∷ ps) k g = go (same_end end p.0) refl
    where
      go : (b : Bool) → same_end end p.0 ≡ b → AllOf (λ p. PhaseFits p.0 p.1) (if b then (end, act_and a p.1) ∷ ps else (end, act_and a no_act) ∷ p ∷ ps)
      go true e = ((k, subst (λ b. PhaseFits b p.1) (end_same end p.0 e) g.0), g.1)
      go false e = ((k, tt), g)

  -- a statement names no alias of the other end
  other_end : (q : Select N) (a : Act N) → names_one inside f.source f.target a ≡ true → in_act (bars (for_target world q f a)) a ≡ false
  other_end q a e = go (in_act (is_alias same f.target) a) refl (in_act (is_alias same f.source) a) refl (subst (λ z. not (in_act (is_alias z.words.same f.source) a && in_act (is_alias z.words.same f.target) a) ≡ true) (target_setting world words s (aliases world words f edges) ∙ h.fits.setting) e)
    where
      chosen : (b : Bool) → in_act (is_alias same f.target) a ≡ false → in_act (is_alias same f.source) a ≡ false → in_act (bars b) a ≡ false
      chosen true t r = r
      chosen false t r = t

      go : (t : Bool) → in_act (is_alias same f.target) a ≡ t → (r : Bool) → in_act (is_alias same f.source) a ≡ r → not (in_act (is_alias same f.source) a && in_act (is_alias same f.target) a) ≡ true
          → in_act (bars (if t then true else (if r then false else selects_target world q))) a ≡ false
      go true d true c n = let u : not (true && true) ≡ true = subst (λ b. not (b && true) ≡ true) c (subst (λ b. not (in_act (is_alias same f.source) a && b) ≡ true) d n) in absurd (cc u)
      go true d false c n = c
      go false d true c n = d
      go false d false c n = chosen (selects_target world q) d c

  phases_fit : (q : Select N) (acts : Acts N) (n m : ℕ) → typing_post inside f.source f.target n acts ≡ Ok m → AllOf (λ p. PhaseFits p.0 p.1) (phases (for_target world q f) acts)
  phases_fit q no_act n m e = tt
  phases_fit q (act_and a acts) n m e =
      let i = then_ok (one_more n) _ m e in let j = then_ok (typing_act inside true i.0 a) _ m i.2 in let u = after_ok (unless TwoAliases (names_one inside f.source f.target a)) (typing_post inside f.source f.target j.0 acts) m j.2 in
      more_phases (for_target world q f a) a (phases (for_target world q f) acts) (i.0, j.0, j.1, other_end q a (unless_ok TwoAliases (names_one inside f.source f.target a) u.0.0 u.0.1)) (phases_fit q acts j.0 m u.1)

  pub posts_safe : (q : Select N) (m : ℕ) → typing_post inside f.source f.target 0 q.post ≡ Ok m → (a : After N) → Fits a → Safe Fits (through (phase world state f) a (phases (for_target world q f) q.post))
  posts_safe q m e a g = all_phases (phases (for_target world q f) q.post) (phases_fit q q.post 0 m e) a g
