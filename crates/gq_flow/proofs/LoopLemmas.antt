-- LoopLemmas: branches, iterations and values.
use Rattle.std.proofs.Common.{◌≡◌, ℕ, zero, suc, ◌+◌, ◌-◌, ◌<◌, ◌≤◌, Bool, true, false, List, [], ◌∷◌, drop, length, get_or, Option, Some, None, Result, Ok, Err, refl, sym, ap, subst, ◌∙◌, arith}
use Rattle.std.specs.List.{slice_get}
use Rattle.std.specs.Option.{option_map}
use Rattle.std.proofs.lemmas.List.{drop_more, drop_all}
use Rattle.gq_tree.specs.Tree.{Tree}
use Rattle.gq_value.specs.Accums.{Base}
use Rattle.gq_value.specs.Val.{Val}
use Rattle.gq_rules_typing.specs.Statements as plain
use Rattle.gq_rules_meaning.specs.Answers.{Answer, Gives, ◌>>=◌, blaming}
use Rattle.gq_rules_meaning.specs.Expressions.{World}
use Rattle.gq_rules_meaning.specs.Statements.{Fault, Evaluation, gone_over}
use Rattle.gq_rules_meaning.specs.States.{seen}
use Rattle.gq_rules_meaning.specs.Runs as runs
use Rattle.gq_rules_meaning.specs.Runs.{Body, inner, enter, run, run_all, condition_of, rounds, is_reached, one_less, limit_of, for_each}
use Rattle.gq_plan_ir.specs.declared.expr.Expr.{Expr}
use Rattle.gq_plan_ir.specs.declared.step.Over.{Over}
use Rattle.gq_plan_ir.specs.declared.step.Step.{Step}
use Rattle.gq_plan_ir.specs.declared.step.Step.TheVariants as steps
use Rattle.gq_plan_ir.specs.Reference.{Reference, Place}
use Rattle.gq_plan_ir.specs.ExprView.{view}
use Rattle.gq_plan_ir.specs.PlanView.{view_over, view_step, view_steps}
use Rattle.gq_plan_ir.proofs.ViewLaws.{view_step-If, view_step-While, view_step-Foreach}
use Rattle.gq_exec_control.specs.declared.running.Running.{Running}
use Rattle.gq_exec_control.specs.declared.running.RunFault.{RunFault}
use Rattle.gq_exec_control.specs.declared.running.Rounds.{Rounds}
use Rattle.gq_exec_control.specs.Values.{base_in, values_of}
use Rattle.gq_exec_control.specs.Standing.{Stands, Ends, Does, Goes, Tests, Limits, GoesOver}
use Rattle.gq_flow.specs.Bodies.{branches_from, while_of, goes_round, foreach_of, with_value, values_from}
use Rattle.gq_exec_control.proofs.FaultLemmas.{ends_bind, ends_same, leads_same}
use Rattle.gq_flow.proofs.ControlLemmas.{goes_more, goes_stops, goes_all, goes_on, goes_to, goes_halts, nothing_done}

-- ---- IF

branch_at : (world : World Reference) (bs : List (Expr × List Step)) (others : Option (List Step)) (i : ℕ) (b : Expr × List Step) → i < length bs → b ≡ get_or bs i b
    → drop i bs ≡ b ∷ drop (i + 1) bs
branch_at world bs others i b l e = drop_more bs i b l ∙ ap (λ y. y ∷ drop (i + 1) bs) (sym e)

taken : (world : World Reference) (b : Expr × List Step) (bs : List (Expr × List Step)) (others : Option (List Step)) (p : runs.Running Reference) → condition_of world (view b.0) p ≡ Gives true
    → branches_from world (b ∷ bs) others p ≡ inner (run_all world (view_steps b.1)) p
taken world b bs others p e = ap (λ (o : Answer Fault Bool). o >>= elim [ true ↦ inner (run_all world (view_steps b.1)) p | false ↦ branches_from world bs others p ]) e

passed : (world : World Reference) (b : Expr × List Step) (bs : List (Expr × List Step)) (others : Option (List Step)) (p : runs.Running Reference) → condition_of world (view b.0) p ≡ Gives false
    → branches_from world (b ∷ bs) others p ≡ branches_from world bs others p
passed world b bs others p e = ap (λ (o : Answer Fault Bool). o >>= elim [ true ↦ inner (run_all world (view_steps b.1)) p | false ↦ branches_from world bs others p ]) e

pub branch_taken : (world : World Reference) (whole : Body Reference) (bs : List (Expr × List Step)) (others : Option (List Step)) (i : ℕ) (b : Expr × List Step) (old mid new : Running) (result : Result (Unit {0}) RunFault)
    → i < length bs → b ≡ get_or bs i b → Goes whole (branches_from world (drop i bs) others) old mid
    → Tests (condition_of world (view b.0)) mid (Ok true) → Does (inner (run_all world (view_steps b.1))) mid new result
    → Does whole old new result
branch_taken world whole bs others i b old mid new result l e g t d =
    goes_on whole (branches_from world (drop i bs) others) (inner (run_all world (view_steps b.1))) old mid new result g
    (λ p s. ap (λ xs. branches_from world xs others p) (branch_at world bs others i b l e) ∙ taken world b (drop (i + 1) bs) others p (t.each p s)) d

pub branch_passed : (world : World Reference) (whole : Body Reference) (bs : List (Expr × List Step)) (others : Option (List Step)) (i : ℕ) (b : Expr × List Step) (old mid : Running)
    → i < length bs → b ≡ get_or bs i b → Goes whole (branches_from world (drop i bs) others) old mid
    → Tests (condition_of world (view b.0)) mid (Ok false) → Goes whole (branches_from world (drop (i + 1) bs) others) old mid
branch_passed world whole bs others i b old mid l e g t =
    goes_to whole (branches_from world (drop i bs) others) (branches_from world (drop (i + 1) bs) others) old mid g
    (λ p s. ap (λ xs. branches_from world xs others p) (branch_at world bs others i b l e) ∙ passed world b (drop (i + 1) bs) others p (t.each p s))

pub branch_halts : (world : World Reference) (whole : Body Reference) (bs : List (Expr × List Step)) (others : Option (List Step)) (i : ℕ) (b : Expr × List Step) (old mid new : Running) (e : RunFault)
    → i < length bs → b ≡ get_or bs i b → Goes whole (branches_from world (drop i bs) others) old mid
    → Tests (condition_of world (view b.0)) mid (Err e) → Does whole old new (Err e)
branch_halts world whole bs others i b old mid new e l is g t =
    goes_halts whole (branches_from world (drop i bs) others) old mid new e g
    (λ p s. subst (λ xs. Ends (branches_from world xs others p) e) (sym (branch_at world bs others i b l is))
    (ends_bind (condition_of world (view b.0) p) (elim [ true ↦ inner (run_all world (view_steps b.1)) p | false ↦ branches_from world (drop (i + 1) bs) others p ]) e (t.each p s)))

-- no condition holds: the statements after ELSE run
pub else_done : (world : World Reference) (whole : Body Reference) (bs : List (Expr × List Step)) (steps : List Step) (i : ℕ) (old mid new : Running) (result : Result (Unit {0}) RunFault)
    → length bs ≤ i → Goes whole (branches_from world (drop i bs) (Some steps)) old mid → Does (inner (run_all world (view_steps steps))) mid new result
    → Does whole old new result
else_done world whole bs steps i old mid new result l g d =
    goes_on whole (branches_from world (drop i bs) (Some steps)) (inner (run_all world (view_steps steps))) old mid new result g (λ p s. ap (λ xs. branches_from world xs (Some steps) p) (drop_all i bs l)) d

pub else_none : (world : World Reference) (whole : Body Reference) (bs : List (Expr × List Step)) (i : ℕ) (old mid : Running)
    → length bs ≤ i → Goes whole (branches_from world (drop i bs) None) old mid → Does whole old mid (Ok tt)
else_none world whole bs i old mid l g =
    goes_on whole (branches_from world (drop i bs) None) (inner (run_all world plain.no_stmt)) old mid mid (Ok tt) g (λ p s. ap (λ xs. branches_from world xs None p) (drop_all i bs l)) (nothing_done world mid)

-- ---- WHILE

-- a run has come from old to now, and at most `left` iterations may follow
pub record Rounding (whole : Body Reference) (left : Option ℕ) (condition : runs.Running Reference → Answer Fault Bool) (body : Body Reference) (old now : Running) : Type 0 where
  pub each : (q : runs.Running Reference) → Stands old q → (m : ℕ) × (p : runs.Running Reference) × (p.turns ≤ m) × (whole q ≡ rounds (suc m) left condition body p) × Stands now p

pub rounds_begin : (most : Option ℕ) (condition : runs.Running Reference → Answer Fault Bool) (body : Body Reference) (r : Running) → Rounding (goes_round most condition body) most condition body r r
rounds_begin most condition body r = record { each = λ q s. (q.turns, q, omega arith, refl, s) }

by_condition : (condition : runs.Running Reference → Answer Fault Bool) (body : Body Reference) (m : ℕ) (left : Option ℕ) (p : runs.Running Reference) → Bool → Answer Fault (runs.Running Reference)
by_condition condition body m left p true = enter body p >>= rounds m (one_less left) condition body
by_condition condition body m left p false = Gives p

round_over : (condition : runs.Running Reference → Answer Fault Bool) (body : Body Reference) (m : ℕ) (left : Option ℕ) (p : runs.Running Reference) → is_reached left ≡ true → rounds (suc m) left condition body p ≡ Gives p
round_over condition body m (Some zero) p e = refl
round_over condition body m (Some (suc n)) p e = cc
round_over condition body m None p e = cc

round_true : (condition : runs.Running Reference → Answer Fault Bool) (body : Body Reference) (m : ℕ) (left : Option ℕ) (p : runs.Running Reference) → is_reached left ≡ false → condition p ≡ Gives true
    → rounds (suc m) left condition body p ≡ (enter body p >>= rounds m (one_less left) condition body)
round_true condition body m (Some zero) p e h = cc
round_true condition body m (Some (suc n)) p e h = ap (λ (o : Answer Fault Bool). o >>= elim [ true ↦ enter body p >>= rounds m (one_less (Some (suc n))) condition body | false ↦ Gives p ]) h
round_true condition body m None p e h = ap (λ (o : Answer Fault Bool). o >>= elim [ true ↦ enter body p >>= rounds m (one_less None) condition body | false ↦ Gives p ]) h

round_false : (condition : runs.Running Reference → Answer Fault Bool) (body : Body Reference) (m : ℕ) (left : Option ℕ) (p : runs.Running Reference) → is_reached left ≡ false → condition p ≡ Gives false → rounds (suc m) left condition body p ≡ Gives p
round_false condition body m (Some zero) p e h = cc
round_false condition body m (Some (suc n)) p e h = ap (λ (o : Answer Fault Bool). o >>= elim [ true ↦ enter body p >>= rounds m (one_less (Some (suc n))) condition body | false ↦ Gives p ]) h
round_false condition body m None p e h = ap (λ (o : Answer Fault Bool). o >>= elim [ true ↦ enter body p >>= rounds m (one_less None) condition body | false ↦ Gives p ]) h

round_halts : (condition : runs.Running Reference → Answer Fault Bool) (body : Body Reference) (m : ℕ) (left : Option ℕ) (p : runs.Running Reference) (e : RunFault) → is_reached left ≡ false → Ends (condition p) e → Ends (rounds (suc m) left condition body p) e
round_halts condition body m (Some zero) p e n h = absurd (let f : ⊥ = cc in f)
round_halts condition body m (Some (suc n)) p e _ h = ends_bind (condition p) (elim [ true ↦ enter body p >>= rounds m (one_less (Some (suc n))) condition body | false ↦ Gives p ]) e h
round_halts condition body m None p e _ h = ends_bind (condition p) (elim [ true ↦ enter body p >>= rounds m (one_less None) condition body | false ↦ Gives p ]) e h

pub limit_ends : (whole : Body Reference) (left : Option ℕ) (condition : runs.Running Reference → Answer Fault Bool) (body : Body Reference) (old now : Running)
    → Rounding whole left condition body old now → is_reached left ≡ true → Does whole old now (Ok tt)
limit_ends whole left condition body old now g e = record {
  each = λ q s. let h = g.each q s in (h.1, h.3 ∙ round_over condition body h.0 left h.1 e, h.4);
}

pub condition_ends : (whole : Body Reference) (left : Option ℕ) (condition : runs.Running Reference → Answer Fault Bool) (body : Body Reference) (old now : Running)
    → Rounding whole left condition body old now → is_reached left ≡ false → Tests condition now (Ok false) → Does whole old now (Ok tt)
condition_ends whole left condition body old now g e t = record {
  each = λ q s. let h = g.each q s in (h.1, h.3 ∙ round_false condition body h.0 left h.1 e (t.each h.1 h.4), h.4);
}

pub condition_halts : (whole : Body Reference) (left : Option ℕ) (condition : runs.Running Reference → Answer Fault Bool) (body : Body Reference) (old now new : Running) (e : RunFault)
    → Rounding whole left condition body old now → is_reached left ≡ false → Tests condition now (Err e) → Does whole old new (Err e)
condition_halts whole left condition body old now new e g n t = record {
  each = λ q s. let h = g.each q s in ends_same (whole q) (rounds (suc h.0) left condition body h.1) e h.3 (round_halts condition body h.0 left h.1 e n (t.each h.1 h.4));
}

pub round_stops : (whole : Body Reference) (left : Option ℕ) (condition : runs.Running Reference → Answer Fault Bool) (body : Body Reference) (old now mid new : Running) (e : RunFault)
    → Rounding whole left condition body old now → is_reached left ≡ false → Tests condition now (Ok true) → Does (enter body) now mid (Err e) → Does whole old new (Err e)
round_stops whole left condition body old now mid new e g n t d = record {
  each = λ q s.
      let h = g.each q s in
      ends_same (whole q) (enter body h.1 >>= rounds h.0 (one_less left) condition body) e (h.3 ∙ round_true condition body h.0 left h.1 n (t.each h.1 h.4))
      (ends_bind (enter body h.1) (rounds h.0 (one_less left) condition body) e (d.each h.1 h.4));
}

pub round_done : (whole : Body Reference) (left less : Option ℕ) (condition : runs.Running Reference → Answer Fault Bool) (body : Body Reference) (old now new : Running)
    → Rounding whole left condition body old now → is_reached left ≡ false → Tests condition now (Ok true) → Does (enter body) now new (Ok tt) → new.turns < now.turns → less ≡ one_less left
    → Rounding whole less condition body old new
round_done whole left less condition body old now new g n t d fewer is = record {
  each = λ q s.
      let h = g.each q s in
      let l = d.each h.1 h.4 in
      let few : l.0.turns ≤ h.0 - 1 = omega (arith, h.2, h.4.turns, l.2.turns, fewer) in
      let one : h.0 ≡ suc (h.0 - 1) = omega (arith, h.2, h.4.turns, fewer) in (
        h.0 - 1,
        l.0,
        few,
        h.3 ∙ round_true condition body h.0 left h.1 n (t.each h.1 h.4) ∙ ap (λ o. o >>= rounds h.0 (one_less left) condition body) l.1
            ∙ ap (λ k. rounds k (one_less left) condition body l.0) one ∙ ap (λ x. rounds (suc (h.0 - 1)) x condition body l.0) (sym is),
        l.2,
      );
}

-- the limit is read once, before the first iteration
pub while_limited : (world : World Reference) (t limit : Tree Reference) (body : Body Reference) (most : ℕ) (old new : Running) (result : Result (Unit {0}) RunFault)
    → Limits world limit old (Ok most) → Does (goes_round (Some most) (condition_of world t) body) old new result → Does (while_of world t (Some limit) body) old new result
while_limited world t limit body most old new result l d = record {
  each = λ q s. leads_same (Stands new) (while_of world t (Some limit) body q) (goes_round (Some most) (condition_of world t) body q) result
      (ap (λ o. o >>= λ l. rounds (suc q.turns) l (condition_of world t) body q) (l.each q s)) (d.each q s);
}

pub while_halts : (world : World Reference) (t limit : Tree Reference) (body : Body Reference) (old new : Running) (e : RunFault)
    → Limits world limit old (Err e) → Does (while_of world t (Some limit) body) old new (Err e)
while_halts world t limit body old new e l = record {
  each = λ q s. ends_bind (blaming Evaluation (limit_of world q.state (Some limit))) (λ l. rounds (suc q.turns) l (condition_of world t) body q) e (l.each q s);
}

-- ---- FOREACH

value_at : (vs : List Val) (i : ℕ) (v : Val) → slice_get vs i ≡ Some v → drop i vs ≡ v ∷ drop (i + 1) vs
value_at [] i v e = cc
value_at (w ∷ vs) zero v e = ap (λ u. u ∷ vs) (let f : w ≡ v = cc in f) ∙ ap (λ us. v ∷ us) (let f : vs ≡ drop (0 + 1) (w ∷ vs) = refl in f)
value_at (w ∷ vs) (suc i) v e = value_at vs i v e ∙ ap (λ n. v ∷ drop n (w ∷ vs)) (let f : suc (i + 1) ≡ suc i + 1 = omega arith in f)

value_past : (vs : List Val) (i : ℕ) → slice_get vs i ≡ None → drop i vs ≡ []
value_past [] zero e = refl
value_past [] (suc i) e = refl
value_past (w ∷ vs) zero e = cc
value_past (w ∷ vs) (suc i) e = value_past vs i e

pub value_done : (x : Reference) (body : Body Reference) (b : Base) (vs : List Val) (i : ℕ) (v : Val) (old mid new : Running) → slice_get vs i ≡ Some v
    → Goes (values_from x body b vs) (values_from x body b (drop i vs)) old mid → Does (with_value x body (b, v)) mid new (Ok tt) → Goes (values_from x body b vs) (values_from x body b (drop (i + 1) vs)) old new
value_done x body b vs i v old mid new e g d =
    goes_more (values_from x body b vs) (values_from x body b (drop i vs)) (with_value x body (b, v)) (values_from x body b (drop (i + 1) vs)) old mid new g
    (λ p. ap (λ us. values_from x body b us p) (value_at vs i v e)) d

pub value_stops : (x : Reference) (body : Body Reference) (b : Base) (vs : List Val) (i : ℕ) (v : Val) (old mid new : Running) (f : RunFault) → slice_get vs i ≡ Some v
    → Goes (values_from x body b vs) (values_from x body b (drop i vs)) old mid → Does (with_value x body (b, v)) mid new (Err f) → Does (values_from x body b vs) old new (Err f)
value_stops x body b vs i v old mid new f e g d =
    goes_stops (values_from x body b vs) (values_from x body b (drop i vs)) (with_value x body (b, v)) (values_from x body b (drop (i + 1) vs)) old mid new new f g
    (λ p. ap (λ us. values_from x body b us p) (value_at vs i v e)) d

pub values_done : (x : Reference) (body : Body Reference) (b : Base) (vs : List Val) (i : ℕ) (old now : Running) → slice_get vs i ≡ None
    → Goes (values_from x body b vs) (values_from x body b (drop i vs)) old now → Does (values_from x body b vs) old now (Ok tt)
values_done x body b vs i old now e g =
    goes_all (values_from x body b vs) (values_from x body b (drop i vs)) old now g (λ p. ap (λ us. values_from x body b us p) (value_past vs i e))

pub foreach_halts : (world : World Reference) (place : ℕ) (over : plain.Over Reference) (body : Body Reference) (old new : Running) (e : RunFault)
    → GoesOver world over old (Err e) → Does (foreach_of world (Place place) over body) old new (Err e)
foreach_halts world place over body old new e h = record {
  each = λ q s. ends_bind (blaming Evaluation (gone_over (seen world q.state) over)) (λ vs. for_each (Place place) body vs q) e (h.each q s);
}

pub foreach_does : (world : World Reference) (place : ℕ) (over : plain.Over Reference) (body : Body Reference) (rs : Rounds) (old new : Running) (result : Result (Unit {0}) RunFault)
    → GoesOver world over old (Ok rs) → Does (values_from (Place place) body (base_in rs) (values_of rs)) old new result → Does (foreach_of world (Place place) over body) old new result
foreach_does world place over body rs old new result h d = record {
  each = λ q s.
      leads_same (Stands new) (foreach_of world (Place place) over body q) (values_from (Place place) body (base_in rs) (values_of rs) q) result
      (ap (λ o. o >>= λ vs. for_each (Place place) body vs q) (h.each q s)) (d.each q s);
}

-- ---- one statement

pub while_unlimited : (world : World Reference) (t : Tree Reference) (limit : Option Expr) (body : Body Reference) (old new : Running) (result : Result (Unit {0}) RunFault)
    → limit ≡ None → Does (goes_round None (condition_of world t) body) old new result → Does (while_of world t (option_map view limit) body) old new result
while_unlimited world t limit body old new result e d = subst (λ o. Does (while_of world t (option_map view o) body) old new result) (sym e) (record { each = λ q s. d.each q s })

pub while_limited_at : (world : World Reference) (t : Tree Reference) (limit : Option Expr) (l : Expr) (body : Body Reference) (most : ℕ) (old new : Running) (result : Result (Unit {0}) RunFault)
    → limit ≡ Some l → Limits world (view l) old (Ok most) → Does (goes_round (Some most) (condition_of world t) body) old new result → Does (while_of world t (option_map view limit) body) old new result
while_limited_at world t limit l body most old new result e h d =
    subst (λ o. Does (while_of world t (option_map view o) body) old new result) (sym e) (while_limited world t (view l) body most old new result h d)

pub while_halts_at : (world : World Reference) (t : Tree Reference) (limit : Option Expr) (l : Expr) (body : Body Reference) (old new : Running) (e : RunFault)
    → limit ≡ Some l → Limits world (view l) old (Err e) → Does (while_of world t (option_map view limit) body) old new (Err e)
while_halts_at world t limit l body old new e is h =
    subst (λ o. Does (while_of world t (option_map view o) body) old new (Err e)) (sym is) (while_halts world t (view l) body old new e h)

pub if_begins : (world : World Reference) (step : Step) (bs items : List (Expr × List Step)) (others : Option (List Step)) (r : Running)
    → step ≡ steps.If bs others → items ≡ bs → Goes (run world (view_step step)) (branches_from world items others) r r
if_begins world step bs items others r e i = record {
  each = λ q s. (q, ap (λ t. run world t q) (ap view_step e ∙ view_step-If bs others) ∙ ap (λ xs. branches_from world xs others q) (sym i), s);
}

pub while_step : (world : World Reference) (step : Step) (t : Expr) (limit : Option Expr) (body items : List Step) (old new : Running) (result : Result (Unit {0}) RunFault)
    → step ≡ steps.While t limit body → items ≡ body → Does (while_of world (view t) (option_map view limit) (run_all world (view_steps items))) old new result → Does (run world (view_step step)) old new result
while_step world step t limit body items old new result e i d =
    subst (λ x. Does (run world x) old new result) (sym (ap view_step e ∙ view_step-While t limit body))
    (subst (λ xs. Does (while_of world (view t) (option_map view limit) (run_all world (view_steps xs))) old new result) i d)

pub foreach_step : (world : World Reference) (step : Step) (place : ℕ) (over : Over) (body items : List Step) (old new : Running) (result : Result (Unit {0}) RunFault)
    → step ≡ steps.Foreach place over body → items ≡ body → Does (foreach_of world (Place place) (view_over over) (run_all world (view_steps items))) old new result → Does (run world (view_step step)) old new result
foreach_step world step place over body items old new result e i d =
    subst (λ x. Does (run world x) old new result) (sym (ap view_step e ∙ view_step-Foreach place over body))
    (subst (λ xs. Does (foreach_of world (Place place) (view_over over) (run_all world (view_steps xs))) old new result) i d)
