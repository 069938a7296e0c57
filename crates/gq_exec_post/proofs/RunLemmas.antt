-- RunLemmas: one phase, and all of them.
use Rattle.std.proofs.Common.{◌≡◌, ℕ, zero, suc, Bool, true, false, cond, List, [], ◌∷◌, take, drop, map, length, get_or, ◌-◌, ◌≤◌, Result, Ok, Err, refl, sym, ap, ap₂, subst, ◌∙◌}
use Rattle.std.specs.List.{All}
use Rattle.std.proofs.lemmas.List.{drop_more, take_rest}
use Rattle.std.proofs.lemmas.List.Elements.{All-nil}
use Rattle.gq_rules_typing.specs.Selecting.{Act, Acts, act_and}
use Rattle.gq_rules_typing.specs.SelectViews.{acts_of}
use Rattle.gq_rules_meaning.specs.Answers.{Answer, Gives, Faults, Stuck, ◌>>=◌, through}
use Rattle.gq_rules_meaning.specs.Blocks as blocks
use Rattle.gq_rules_meaning.specs.Blocks.{fed_together}
use Rattle.gq_rules_meaning.specs.Calendars.{Calendar}
use Rattle.gq_rules_meaning.specs.Posts.{Post, Written, before_phases, matched, phases, post_acts}
use Rattle.gq_rules_meaning.specs.States as states
use Rattle.gq_plan_ir.specs.declared.block.Act as act
use Rattle.gq_plan_ir.specs.BlockView.{view_act, view_acts}
use Rattle.gq_plan_ir.specs.Reference.{Reference}
use Rattle.gq_frame.specs.declared.accums.Accums.{Accums}
use Rattle.gq_frame.specs.Slots.{slots_are}
use Rattle.gq_eval_context.specs.Viewed.{Over}
use Rattle.gq_eval_context.specs.declared.after.After.{After}
use Rattle.gq_eval_context.specs.declared.after.BlockFault as code
use Rattle.gq_eval_context.specs.Answered.{Answered, EndsAs, after_is}
use Rattle.gq_exec_source.specs.declared.ends.End.{End}
use Rattle.gq_exec_source.specs.declared.ends.Ends.{Ends}
use Rattle.gq_exec_source.specs.Ends.{end_at, end_things}
use Rattle.gq_exec_post.specs.declared.writing.Writing.{Writing}
use Rattle.gq_exec_post.specs.Phases.{KeepsAll, RunsAt, RunsPhase, RunsPhases, phase_of, phases_of, run_length, slots_at, to_target}
use Rattle.gq_exec_post.specs.Sights.{GoesSo, SeesSo, one_alias}
use Rattle.gq_exec_post.specs.Waiting.{IsTaken, batch_of, contribution_of, waiting_are}
use Rattle.gq_exec_post.specs.Writing.{AreTaken, KeepsTo, written}
use Rattle.gq_eval_context.proofs.FaultLemmas.{ends_with}
use Rattle.gq_exec_post.proofs.Steps.{goes_on}
use Rattle.gq_exec_post.proofs.ActLemmas.{keeps_on}
use Rattle.gq_exec_post.proofs.PhaseLemmas.{phases_begin}

-- ---- the vertices, and the waiting inputs

module _ (clock : Calendar) (o : Over) (end : End) (acts : Acts Reference) (vs : List ℕ) (opened : Writing) (none : batch_of opened.waiting ≡ []) where
  begins : (q : ℕ → Post Reference) → slots_at q acts vs (slots_are opened.accums) ≡ (through (λ w v. post_acts (q v) acts w) (written opened) vs >>= λ w. fed_together w.to_globals w.slots)
  begins q = ap (λ xs. through (λ w v. post_acts (q v) acts w) (record { slots = slots_are opened.accums; to_globals = xs }) vs >>= λ w. fed_together w.to_globals w.slots) (sym (ap (map (contribution_of opened.accums.slots)) none))

  pub at_stops : (e : code.BlockFault) → GoesSo clock o end acts vs opened (Err e) → RunsAt clock o end acts vs opened.accums (Err e)
  at_stops e g = record { each = λ q h. subst (λ o. EndsAs o e) (sym (begins q)) (ends_with (through (λ w v. post_acts (q v) acts w) (written opened) vs) (λ w. fed_together w.to_globals w.slots) e (g.each q h)) }

  pub at_ends : (w : Writing) (r : Result Accums code.BlockFault) → GoesSo clock o end acts vs opened (Ok w) → Answered slots_are (fed_together (waiting_are w.accums.slots w.waiting) (slots_are w.accums)) r → RunsAt clock o end acts vs opened.accums r
  at_ends w r g f = record { each = λ q h. subst (λ o. Answered slots_are o r) (sym (begins q ∙ ap (λ o. o >>= λ w. fed_together w.to_globals w.slots) (g.each q h))) f }

pub opened_taken : (w : Writing) → batch_of w.waiting ≡ [] → AreTaken w
opened_taken w e = record { each = subst (All (IsTaken w.accums.slots)) (sym e) (All-nil (IsTaken w.accums.slots)) }

pub ruleset at_laws = (at_stops, at_ends, keeps_on, opened_taken)

-- ---- a phase for an end

abbrev put_slots : blocks.After Reference → Answer blocks.BlockFault (List (states.Slot Reference)) → Answer blocks.BlockFault (blocks.After Reference)
put_slots a o = o >>= λ slots. Gives (record a { slots = slots })

joined : (a : blocks.After Reference) (p : Answer blocks.BlockFault (Written Reference)) → (p >>= λ w. fed_together w.to_globals w.slots >>= λ slots. Gives (record a { slots = slots })) ≡ put_slots a (p >>= λ w. fed_together w.to_globals w.slots)
joined a (Gives w) = refl
joined a (Faults e) = refl
joined a Stuck = refl

pub matched_is : (a : After) (b : Bool) (vs ss ts : List ℕ) → vs ≡ cond b ts ss → ss ≡ a.sources → ts ≡ a.targets → vs ≡ matched (after_is a) b
matched_is a true vs ss ts e s t = e ∙ t
matched_is a false vs ss ts e s t = e ∙ s

module _ (clock : Calendar) (o : Over) (ends : Ends) (b : Bool) (acts : Acts Reference) (after : After) (end : End) (at_end : end ≡ end_at ends b) (vs : List ℕ) (lent : vs ≡ matched (after_is after) b) where
  in_two : (q : ℕ → Post Reference) → phase_of q b acts (after_is after) ≡ put_slots (after_is after) (slots_at q acts vs (slots_are after.accums))
  in_two q = joined (after_is after) (through (λ w v. post_acts (q v) acts w) (record { slots = slots_are after.accums; to_globals = [] }) (matched (after_is after) b)) ∙ ap (λ vs. put_slots (after_is after) (slots_at q acts vs (slots_are after.accums))) (sym lent)

  sees : (q : ℕ → Post Reference) → ((v : ℕ) → SeesSo clock o (one_alias (end_things (end_at ends b) v)) v (q v)) → (v : ℕ) → SeesSo clock o (one_alias (end_things end v)) v (q v)
  sees q h v = subst (λ (e : End). SeesSo clock o (one_alias (end_things e v)) v (q v)) (sym at_end) (h v)

  pub phase_stops : (e : code.BlockFault) → RunsAt clock o end acts vs after.accums (Err e) → RunsPhase clock o ends b acts after (Err e)
  phase_stops e r = record { each = λ q h. subst (λ o. EndsAs o e) (sym (in_two q)) (ends_with (slots_at q acts vs (slots_are after.accums)) (λ slots. Gives (record (after_is after) { slots = slots })) e (r.each q (sees q h))) }

  pub phase_ends : (new : Accums) → RunsAt clock o end acts vs after.accums (Ok new) → RunsPhase clock o ends b acts after (Ok (record after { accums = new }))
  phase_ends new r = record { each = λ q h. in_two q ∙ ap (put_slots (after_is after)) (r.each q (sees q h)) }

pub phase_keeps : (old : After) (new : Accums) → KeepsTo old.accums new → KeepsAll old (record old { accums = new })
phase_keeps old new k = record { accums = k; sources = refl; targets = refl }

pub ruleset phase_laws = (phase_keeps)

-- ---- all phases

take_map : {A B : Type 0} (f : A → B) (n : ℕ) (xs : List A) → take n (map f xs) ≡ map f (take n xs)
take_map f zero [] = refl
take_map f zero (x ∷ xs) = refl
take_map f (suc n) [] = refl
take_map f (suc n) (x ∷ xs) = ap (λ ys. f x ∷ ys) (take_map f n xs)

drop_map : {A B : Type 0} (f : A → B) (n : ℕ) (xs : List A) → drop n (map f xs) ≡ map f (drop n xs)
drop_map f zero [] = refl
drop_map f zero (x ∷ xs) = refl
drop_map f (suc n) [] = refl
drop_map f (suc n) (x ∷ xs) = drop_map f n xs

module _ (f : Act Reference → Bool) (a : act.Act) (others : List act.Act) (b : Bool) (n : ℕ) (is : b ≡ f (view_act a)) (count : n ≡ run_length f b (map view_act others)) where
  phases_first : phases f (view_acts (a ∷ others)) ≡ (b, view_acts (take (suc n) (a ∷ others))) ∷ phases f (view_acts (drop (suc n) (a ∷ others)))
  phases_first =
      ap (λ c. before_phases c (view_act a) (phases f (view_acts others))) (sym is)
      ∙ phases_begin f b (view_act a) (map view_act others)
      ∙ ap (λ n. (b, act_and (view_act a) (acts_of (take n (map view_act others)))) ∷ phases f (acts_of (drop n (map view_act others)))) (sym count)
      ∙ ap₂ (λ xs ys. (b, act_and (view_act a) (acts_of xs)) ∷ phases f (acts_of ys)) (take_map view_act n others) (drop_map view_act n others)

-- the code's slices up to the next phase and from it on are front and back
module _ (clock : Calendar) (o : Over) (ends : Ends) (selects : Bool) (acts : List act.Act) (a : act.Act) (others : List act.Act) (b : Bool) (n m : ℕ) (all : acts ≡ a ∷ others) (is : b ≡ to_target ends selects (view_act a))
    (count : n ≡ run_length (to_target ends selects) b (map view_act others)) (next : m ≡ suc n) (after : After) (front : List act.Act) (cut : front ≡ take m acts) where
  first_then : (q : Bool → ℕ → Post Reference) → phases_of q (to_target ends selects) (view_acts acts) (after_is after)
      ≡ (phase_of (q b) b (view_acts front) (after_is after) >>= phases_of q (to_target ends selects) (view_acts (drop m acts)))
  first_then q =
      ap (λ acts. phases_of q (to_target ends selects) (view_acts acts) (after_is after)) all
      ∙ ap (through (λ a p. phase_of (q p.0) p.0 p.1 a) (after_is after)) (phases_first (to_target ends selects) a others b n is count)
      ∙ ap₂ (λ m acts. phase_of (q b) b (view_acts (take m acts)) (after_is after) >>= phases_of q (to_target ends selects) (view_acts (drop m acts))) (sym next) (sym all)
      ∙ ap (λ front. phase_of (q b) b (view_acts front) (after_is after) >>= phases_of q (to_target ends selects) (view_acts (drop m acts))) (sym cut)

  pub phases_stop : (e : code.BlockFault) → RunsPhase clock o ends b (view_acts front) after (Err e) → RunsPhases clock o ends selects (view_acts acts) after (Err e)
  phases_stop e r = record { each = λ q h. subst (λ o. EndsAs o e) (sym (first_then q)) (ends_with (phase_of (q b) b (view_acts front) (after_is after)) (phases_of q (to_target ends selects) (view_acts (drop m acts))) e (r.each (q b) (h b))) }

  pub phases_go : (mid : After) (back : List act.Act) (r : Result After code.BlockFault) → back ≡ drop m acts → RunsPhase clock o ends b (view_acts front) after (Ok mid) → RunsPhases clock o ends selects (view_acts back) mid r → RunsPhases clock o ends selects (view_acts acts) after r
  phases_go mid back r left first rest = record {
    each = λ q h. subst (λ o. Answered after_is o r) (sym (first_then q))
        (goes_on (phases_of q (to_target ends selects) (view_acts (drop m acts))) after_is mid (phase_of (q b) b (view_acts front) (after_is after)) after_is r (first.each (q b) (h b))
        (subst (λ acts. Answered after_is (phases_of q (to_target ends selects) (view_acts acts) (after_is mid)) r) left (rest.each q h)));
  }

-- the first statement and the others, as a slice's pattern names them
pub first_and_others : (acts : List act.Act) (a : act.Act) → 1 ≤ length acts → a ≡ get_or acts 0 a → acts ≡ a ∷ take (length acts - 1) (drop 1 acts)
first_and_others acts a some is = drop_more acts 0 a some ∙ ap (λ b. b ∷ drop 1 acts) (sym is) ∙ ap (λ bs. a ∷ bs) (sym (take_rest acts 1))

pub phases_none : (clock : Calendar) (o : Over) (ends : Ends) (selects : Bool) (acts : List act.Act) (after : After) → acts ≡ [] → RunsPhases clock o ends selects (view_acts acts) after (Ok after)
phases_none clock o ends selects acts after e = record { each = λ q h. ap (λ acts. phases_of q (to_target ends selects) (view_acts acts) (after_is after)) e }

pub keeps_all : (a b c : After) → KeepsAll a b → KeepsAll b c → KeepsAll a c
keeps_all a b c h k = record { accums = keeps_on a.accums b.accums c.accums h.accums k.accums; sources = k.sources ∙ h.sources; targets = k.targets ∙ h.targets }

pub ruleset phases_laws = (keeps_all, phases_none)
