-- ControlLemmas: statement after statement, bodies and their turns.
use Rattle.std.proofs.Common.{◌≡◌, ℕ, suc, ◌+◌, ◌-◌, ◌<◌, ◌≤◌, Bool, List, ◌∷◌, map, drop, length, get_or, Some, Result, Ok, Err, refl, sym, ap, subst, ◌∙◌, arith}
use Rattle.std.specs.List.{slice_get}
use Rattle.std.specs.Prelude.{IsErrAnd}
use Rattle.std.proofs.lemmas.Result.{err_from_is_err_and}
use Rattle.std.proofs.lemmas.List.{drop_more, drop_all}
use Rattle.gq_json.specs.declared.out.Printed.{Printed}
use Rattle.gq_value.specs.declared.kind.BaseType.{BaseType}
use Rattle.gq_value.specs.declared.value.Value.{Value}
use Rattle.gq_value.specs.Accums.{Base}
use Rattle.gq_value.specs.AccumViews.{base_of}
use Rattle.gq_value.specs.Views.{val}
use Rattle.gq_rules_typing.specs.Statements as plain
use Rattle.gq_rules_meaning.specs.Answers.{Answer, Gives, Faults, ◌>>=◌}
use Rattle.gq_rules_meaning.specs.Expressions.{World}
use Rattle.gq_rules_meaning.specs.States as states
use Rattle.gq_rules_meaning.specs.States.{State, Variable, with_new, without_new}
use Rattle.gq_rules_meaning.specs.Statements.{Fault, LoopBound}
use Rattle.gq_rules_meaning.specs.Runs as runs
use Rattle.gq_rules_meaning.specs.Runs.{Body, with_state, inner, enter, run, run_all, run_branches, condition_of}
use Rattle.gq_plan_ir.specs.declared.step.Step.{Step}
use Rattle.gq_plan_ir.specs.Reference.{Reference, Place}
use Rattle.gq_plan_ir.specs.PlanView.{view_step, view_steps}
use Rattle.gq_frame.specs.declared.accums.Accums.{Accums}
use Rattle.gq_frame.specs.Slots.{AreSound}
use Rattle.gq_frame.specs.declared.live.Live.{Live}
use Rattle.gq_frame.specs.Lives.{Lives, without}
use Rattle.gq_exec_control.specs.declared.running.Running.{Running}
use Rattle.gq_exec_control.specs.declared.running.RunFault.{RunFault}
use Rattle.gq_exec_control.specs.declared.running.RunFault.TheVariants as fault
use Rattle.gq_exec_control.specs.Standing.{Stands, Ends, Leads, Does, Goes, Tests, TakesTurn, HasNoTurn}
use Rattle.gq_exec_control.proofs.FaultLemmas.{ends_bind, ends_same, leads_same}
use Rattle.gq_flow.specs.Bodies.{named_body}

-- ---- faults

-- what a `?` returns
pub does_returned : (body : Body Reference) (old new : Running) (e : RunFault) (r : Result (Unit {0}) RunFault) → IsErrAnd r (λ y. y ≡ e) → Does body old new (Err e) → Does body old new r
does_returned body old new e r h d =
    let p = err_from_is_err_and r h in
    subst (Does body old new) (sym (p.1 ∙ ap Err p.2)) d

pub no_memory : (body : Body Reference) (old new : Running) → Does body old new (Err fault.OutOfMemory)
no_memory body old new = record { each = λ q s. tt }

pub tests_are : (condition : runs.Running Reference → Answer Fault Bool) (r : Running) (b v : Bool) → b ≡ v → Tests condition r (Ok b) → Tests condition r (Ok v)
tests_are condition r b v e t = subst (λ x. Tests condition r (Ok x)) e t

pub body_of : (world : World Reference) (items steps : List Step) (old new : Running) (result : Result (Unit {0}) RunFault) → items ≡ steps
    → Does (inner (run_all world (view_steps items))) old new result → Does (inner (run_all world (view_steps steps))) old new result
body_of world items steps old new result e d = subst (λ xs. Does (inner (run_all world (view_steps xs))) old new result) e d

-- ---- one part after the other

pub goes_none : (whole : Body Reference) (r : Running) → Goes whole whole r r
goes_none whole r = record { each = λ q s. (q, refl, s) }

pub goes_more : (whole rest a next : Body Reference) (old mid new : Running) → Goes whole rest old mid → ((p : runs.Running Reference) → rest p ≡ (a p >>= next)) → Does a mid new (Ok tt) → Goes whole next old new
goes_more whole rest a next old mid new g is d = record {
  each = λ q s.
      let h = g.each q s in
      let l = d.each h.0 h.2 in
      (l.0, h.1 ∙ is h.0 ∙ ap (λ o. o >>= next) l.1, l.2);
}

pub goes_stops : (whole rest a next : Body Reference) (old mid new other : Running) (e : RunFault) → Goes whole rest old mid → ((p : runs.Running Reference) → rest p ≡ (a p >>= next)) → Does a mid new (Err e) → Does whole old other (Err e)
goes_stops whole rest a next old mid new other e g is d = record {
  each = λ q s.
      let h = g.each q s in
      ends_same (whole q) (a h.0 >>= next) e (h.1 ∙ is h.0) (ends_bind (a h.0) next e (d.each h.0 h.2));
}

pub goes_all : (whole rest : Body Reference) (old now : Running) → Goes whole rest old now → ((p : runs.Running Reference) → rest p ≡ Gives p) → Does whole old now (Ok tt)
goes_all whole rest old now g is = record {
  each = λ q s.
      let h = g.each q s in
      (h.0, h.1 ∙ is h.0, h.2);
}

-- the rest is one body followed by others
pub goes_on : (whole rest a : Body Reference) (old mid new : Running) (result : Result (Unit {0}) RunFault) → Goes whole rest old mid → ((p : runs.Running Reference) → Stands mid p → rest p ≡ a p) → Does a mid new result → Does whole old new result
goes_on whole rest a old mid new result g is d = record {
  each = λ q s.
      let h = g.each q s in
      leads_same (Stands new) (whole q) (a h.0) result (h.1 ∙ is h.0 h.2) (d.each h.0 h.2);
}

pub goes_to : (whole rest next : Body Reference) (old now : Running) → Goes whole rest old now → ((p : runs.Running Reference) → Stands now p → rest p ≡ next p) → Goes whole next old now
goes_to whole rest next old now g is = record {
  each = λ q s.
      let h = g.each q s in
      (h.0, h.1 ∙ is h.0 h.2, h.2);
}

pub goes_halts : (whole rest : Body Reference) (old mid new : Running) (e : RunFault) → Goes whole rest old mid → ((p : runs.Running Reference) → Stands mid p → Ends (rest p) e) → Does whole old new (Err e)
goes_halts whole rest old mid new e g is = record {
  each = λ q s.
      let h = g.each q s in
      ends_same (whole q) (rest h.0) e h.1 (is h.0 h.2);
}

-- ---- statements

step_at : (world : World Reference) (steps : List Step) (i : ℕ) (x : Step) → i < length steps → x ≡ get_or steps i x
    → (p : runs.Running Reference) → run_all world (view_steps (drop i steps)) p ≡ (run world (view_step x) p >>= run_all world (view_steps (drop (i + 1) steps)))
step_at world steps i x l e p = ap (λ xs. run_all world (view_steps xs) p) (drop_more steps i x l ∙ ap (λ y. y ∷ drop (i + 1) steps) (sym e))

pub step_done : (world : World Reference) (steps : List Step) (i : ℕ) (x : Step) (old mid new : Running) → i < length steps → x ≡ get_or steps i x
    → Goes (run_all world (view_steps steps)) (run_all world (view_steps (drop i steps))) old mid → Does (run world (view_step x)) mid new (Ok tt)
    → Goes (run_all world (view_steps steps)) (run_all world (view_steps (drop (i + 1) steps))) old new
step_done world steps i x old mid new l e g d =
    goes_more (run_all world (view_steps steps)) (run_all world (view_steps (drop i steps))) (run world (view_step x)) (run_all world (view_steps (drop (i + 1) steps))) old mid new g (step_at world steps i x l e) d

pub step_stops : (world : World Reference) (steps : List Step) (i : ℕ) (x : Step) (old mid new : Running) (e : RunFault) → i < length steps → x ≡ get_or steps i x
    → Goes (run_all world (view_steps steps)) (run_all world (view_steps (drop i steps))) old mid → Does (run world (view_step x)) mid new (Err e)
    → Does (run_all world (view_steps steps)) old new (Err e)
step_stops world steps i x old mid new e l is g d =
    goes_stops (run_all world (view_steps steps)) (run_all world (view_steps (drop i steps))) (run world (view_step x)) (run_all world (view_steps (drop (i + 1) steps))) old mid new new e g (step_at world steps i x l is) d

pub steps_done : (world : World Reference) (steps : List Step) (i : ℕ) (old now : Running) → length steps ≤ i
    → Goes (run_all world (view_steps steps)) (run_all world (view_steps (drop i steps))) old now → Does (run_all world (view_steps steps)) old now (Ok tt)
steps_done world steps i old now l g =
    goes_all (run_all world (view_steps steps)) (run_all world (view_steps (drop i steps))) old now g (λ p. ap (λ xs. run_all world (view_steps xs) p) (drop_all i steps l))

-- ---- bodies whose names end

-- the names of a body go out of scope again
pub record Leaves (mark : ℕ) (old mid new : Running) : Type 0 where
  pub marked : (s : State Reference) → Lives old.live s → mark ≡ length s.names
  pub left : (s : State Reference) → Lives mid.live s → Lives new.live (without (length s.names - mark) s)
  pub accums : new.live.frame.accums ≡ mid.live.frame.accums
  pub turns : new.turns ≡ mid.turns
  pub printed : new.printed ≡ mid.printed

pub body_done : (body : Body Reference) (mark : ℕ) (old mid new : Running) → Does body old mid (Ok tt) → Leaves mark old mid new → Does (inner body) old new (Ok tt)
body_done body mark old mid new d v = record {
  each = λ q s.
      let l = d.each q s in (
        with_state (without_new q.state l.0.state) l.0,
        ap (λ o. o >>= λ t. Gives (with_state (without_new q.state t.state) t)) l.1,
        record {
          lives = subst (λ m. Lives new.live (without (length l.0.state.names - m) l.0.state)) (v.marked q.state s.lives) (v.left l.0.state l.2.lives);
          turns = v.turns ∙ l.2.turns;
          printed = ap (map (λ (p : Printed). p.members)) v.printed ∙ l.2.printed;
          sound = subst AreSound (sym v.accums) l.2.sound;
        },
      );
}

pub body_stops : (body : Body Reference) (old mid new : Running) (e : RunFault) → Does body old mid (Err e) → Does (inner body) old new (Err e)
body_stops body old mid new e d = record { each = λ q s. ends_bind (body q) (λ t. Gives (with_state (without_new q.state t.state) t)) e (d.each q s) }

-- without a statement no name is added
nothing_left : (s : State Reference) → without_new s s ≡ s
nothing_left s = ap (λ n. record s { names = drop n s.names }) (let e : length s.names - length s.names ≡ 0 = omega arith in e)

pub nothing_done : (world : World Reference) (r : Running) → Does (inner (run_all world plain.no_stmt)) r r (Ok tt)
nothing_done world r = record {
  each = λ q s. (q, ap (λ t. Gives (with_state t q)) (nothing_left q.state), s);
}

-- ---- turns

enter_none : (body : Body Reference) (q : runs.Running Reference) → q.turns ≡ 0 → enter body q ≡ Faults LoopBound
enter_none body q e = ap (λ n. enter body (record { state = q.state; turns = n; printed = q.printed })) e

enter_some : (body : Body Reference) (q : runs.Running Reference) (n : ℕ) → q.turns ≡ suc n → enter body q ≡ inner body (record q { turns = n })
enter_some body q n e = ap (λ n. enter body (record { state = q.state; turns = n; printed = q.printed })) e

pub no_turn : (body : Body Reference) (old new : Running) → HasNoTurn old new → Does (enter body) old new (Err fault.LoopBound)
no_turn body old new e = record { each = λ q s. enter_none body q (sym s.turns ∙ e.turns) }

turn_stands : (old mid : Running) (q : runs.Running Reference) → TakesTurn old mid → Stands old q → Stands mid (record q { turns = mid.turns })
turn_stands old mid q t s = record {
  lives = subst (λ l. Lives l q.state) (sym t.live) s.lives;
  turns = refl;
  printed = ap (map (λ (p : Printed). p.members)) t.printed ∙ s.printed;
  sound = subst (λ (l : Live). AreSound l.frame.accums) (sym t.live) s.sound;
}

pub turn_taken : (body : Body Reference) (old mid new : Running) (result : Result (Unit {0}) RunFault) → TakesTurn old mid → Does (inner body) mid new result → Does (enter body) old new result
turn_taken body old mid new result t d = record {
  each = λ q s.
      let n : q.turns ≡ suc mid.turns = omega (arith, s.turns, t.turns) in
      leads_same (Stands new) (enter body q) (inner body (record q { turns = mid.turns })) result (enter_some body q mid.turns n) (d.each (record q { turns = mid.turns }) (turn_stands old mid q t s));
}

-- ---- a body with its own variable

pub named_done : (place : ℕ) (base : BaseType) (b : Base) (value : Value) (body : Body Reference) (old mid new : Running) (result : Result (Unit {0}) RunFault) → base_of base ≡ b
    → ((s : State Reference) → Lives old.live s → Lives mid.live (with_new (Place place) (Variable (base_of base) (val value)) s))
    → mid.live.frame.accums ≡ old.live.frame.accums → mid.turns ≡ old.turns → mid.printed ≡ old.printed
    → Does body mid new result → Does (named_body (Place place) (b, val value) body) old new result
named_done place base b value body old mid new result e lives accums turns printed d = record {
  each = λ q s. d.each (with_state (with_new (Place place) (Variable b (val value)) q.state) q) (record {
    lives = subst (λ c. Lives mid.live (with_new (Place place) (Variable c (val value)) q.state)) e (lives q.state s.lives);
    turns = turns ∙ s.turns;
    printed = ap (map (λ (p : Printed). p.members)) printed ∙ s.printed;
    sound = subst AreSound (sym accums) s.sound;
  });
}

-- ---- no content is spoiled

pub sound_same : (a b : Accums) → a ≡ b → AreSound b → AreSound a
sound_same a b e h = subst AreSound (sym e) h

pub sound_turn : (old new : Running) → TakesTurn old new → AreSound old.live.frame.accums → AreSound new.live.frame.accums
sound_turn old new t h = subst (λ (l : Live). AreSound l.frame.accums) (sym t.live) h

pub ruleset sound_laws = (sound_same, sound_turn)
