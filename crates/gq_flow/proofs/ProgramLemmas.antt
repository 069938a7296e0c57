-- ProgramLemmas: single statements, as the definitions run them.
use Rattle.std.proofs.Common.{◌≡◌, ◌⊎◌, inl, inr, ℕ, Bool, List, Option, Some, Result, Ok, Err, OnOk, refl, sym, ap, subst, ◌∙◌}
use Rattle.gq_tree.specs.Tree.{Tree}
use Rattle.gq_rules_typing.specs.Selecting as selecting
use Rattle.gq_rules_typing.specs.Statements as plain
use Rattle.gq_rules_typing.specs.Statements.{BaseTree, SetTypes, Right}
use Rattle.gq_rules_meaning.specs.Answers.{Gives, blaming, through}
use Rattle.gq_rules_meaning.specs.Expressions.{World, truth_of}
use Rattle.gq_rules_meaning.specs.States.{seen}
use Rattle.gq_rules_meaning.specs.Statements.{Evaluation, of_write, base_of_tree, gone_over, with_local, assigned}
use Rattle.gq_rules_meaning.specs.Writes.{slots_changed}
use Rattle.gq_rules_meaning.specs.Runs.{with_state, run, condition_of, limit_of}
use Rattle.gq_plan_ir.specs.declared.block.Change.{Change}
use Rattle.gq_plan_ir.specs.declared.expr.Expr.{Expr}
use Rattle.gq_plan_ir.specs.declared.plan.Declared.{Declared}
use Rattle.gq_plan_ir.specs.declared.step.Over.{Over}
use Rattle.gq_plan_ir.specs.declared.step.PrintItem.{PrintItem}
use Rattle.gq_plan_ir.specs.declared.step.Right as code_right
use Rattle.gq_plan_ir.specs.declared.step.SetTypes as code_types
use Rattle.gq_plan_ir.specs.declared.step.Step.{Step}
use Rattle.gq_plan_ir.specs.declared.step.Step.TheVariants as steps
use Rattle.gq_plan_ir.specs.PlanView.{view_step}
use Rattle.gq_plan_ir.proofs.ViewLaws.{view_step-Assign, view_step-Foreach, view_step-Global, view_step-If, view_step-Local, view_step-Print, view_step-While}
use Rattle.gq_plan_ir.specs.Reference.{Reference, Slot}
use Rattle.gq_eval_operand.specs.Meant.{itself}
use Rattle.gq_frame.specs.declared.accums.Accums.{Accums}
use Rattle.gq_frame.specs.Slots.{AreSound}
use Rattle.gq_exec_control.specs.declared.running.Running.{Running}
use Rattle.gq_exec_control.specs.declared.running.RunFault.{RunFault}
use Rattle.gq_exec_control.specs.declared.running.Rounds.{Rounds}
use Rattle.gq_exec_control.specs.Standing.{Does, GoesOver, Limits, Tests}
use Rattle.gq_exec_control.specs.Changes.{Becomes, Reads}
use Rattle.gq_exec_control.proofs.ContextLemmas.{becomes_does, shows_of}
use Rattle.gq_exec_control.proofs.Steps.{joined}
use Rattle.gq_exec_control.specs.Locals.{declared_all}
use Rattle.gq_exec_control.specs.Values.{rounds_in}
use Rattle.gq_flow.specs.Steps.{IsSimple, global_so}

-- ---- statements without a body

module _ (step : Step) where
  pub not_if : (branches : List (Expr × List Step)) (others : Option (List Step)) → step ≡ steps.If branches others → IsSimple (view_step step) → ⊥
  not_if branches others e simple = subst IsSimple (ap view_step e ∙ view_step-If branches others) simple

  pub not_while : (condition : Expr) (limit : Option Expr) (body : List Step) → step ≡ steps.While condition limit body → IsSimple (view_step step) → ⊥
  not_while condition limit body e simple = subst IsSimple (ap view_step e ∙ view_step-While condition limit body) simple

  pub not_foreach : (place : ℕ) (over : Over) (body : List Step) → step ≡ steps.Foreach place over body → IsSimple (view_step step) → ⊥
  not_foreach place over body e simple = subst IsSimple (ap view_step e ∙ view_step-Foreach place over body) simple

  simple_local : (declared : Declared) (locals : List (ℕ × Option Expr)) → step ≡ steps.Local declared locals → IsSimple (view_step step)
  simple_local declared locals e = subst IsSimple (sym (ap view_step e ∙ view_step-Local declared locals)) tt

  simple_assign : (place : ℕ) (types : Option code_types.SetTypes) (right : code_right.Right) → step ≡ steps.Assign place types right → IsSimple (view_step step)
  simple_assign place types right e = subst IsSimple (sym (ap view_step e ∙ view_step-Assign place types right)) tt

  simple_global : (slot : ℕ) (change : Change) → step ≡ steps.Global slot change → IsSimple (view_step step)
  simple_global slot change e = subst IsSimple (sym (ap view_step e ∙ view_step-Global slot change)) tt

  simple_print : (items : List PrintItem) → step ≡ steps.Print items → IsSimple (view_step step)
  simple_print items e = subst IsSimple (sym (ap view_step e ∙ view_step-Print items)) tt

  pub simple_declared : ((declared : Declared) × (locals : List (ℕ × Option Expr)) × (step ≡ steps.Local declared locals))
      ⊎ ((place : ℕ) × (types : Option code_types.SetTypes) × (right : code_right.Right) × (step ≡ steps.Assign place types right)) → IsSimple (view_step step)
  simple_declared (inl h) = simple_local h.0 h.1 h.2
  simple_declared (inr h) = simple_assign h.0 h.1 h.2 h.3

  pub simple_changed : ((slot : ℕ) × (change : Change) × (step ≡ steps.Global slot change)) ⊎ ((items : List PrintItem) × (step ≡ steps.Print items)) → IsSimple (view_step step)
  simple_changed (inl h) = simple_global h.0 h.1 h.2
  simple_changed (inr h) = simple_print h.0 h.1

pub ruleset simple_laws = (not_if, not_while, not_foreach)

-- ---- statements

stated : (world : World Reference) (step : Step) (stmt : plain.Stmt Reference) (old new : Running) (r : Result (Unit {0}) RunFault) → view_step step ≡ stmt → Does (run world stmt) old new r → Does (run world (view_step step)) old new r
stated world step stmt old new r e d = subst (λ s. Does (run world s) old new r) (sym e) d

sound_on : (r : Result (Unit {0}) RunFault) (a : Accums) → OnOk r (AreSound a) → r ≡ Ok tt → AreSound a
sound_on (Ok u) a h e = h
sound_on (Err x) a h e = absurd (let no : ⊥ = cc in no)

module _ (world : World Reference) (step : Step) (old new : Running) (r : Result (Unit {0}) RunFault) (turns : new.turns ≡ old.turns) (printed : new.printed ≡ old.printed) where
  pub local_does : (base : BaseTree Reference) (xs : List (Reference × Option (Tree Reference))) → view_step step ≡ plain.Local base xs → new.live.frame.accums ≡ old.live.frame.accums → AreSound old.live.frame.accums
      → Becomes (declared_all world base xs) old.live new.live r → Does (run world (view_step step)) old new r
  local_does base xs e accums sound d =
      stated world step (plain.Local base xs) old new r e
      (becomes_does (declared_all world base xs) (run world (plain.Local base xs)) old new r
      (λ q. sym (joined (blaming Evaluation (base_of_tree world base)) (λ b. blaming Evaluation (through (with_local world b) q.state xs)) (λ s. Gives (with_state s q))))
      turns printed (λ ok. subst AreSound (sym accums) sound) d)

  pub assign_does : (x : Reference) (types : Option (SetTypes Reference)) (right : Right Reference) → view_step step ≡ plain.Assign x types right → OnOk r (AreSound new.live.frame.accums)
      → Becomes (λ s. assigned world s x types right) old.live new.live r → Does (run world (view_step step)) old new r
  assign_does x types right e sound d =
      stated world step (plain.Assign x types right) old new r e
      (becomes_does (λ s. assigned world s x types right) (run world (plain.Assign x types right)) old new r (λ q. refl) turns printed (sound_on r new.live.frame.accums sound) d)

  pub global_does : (n : ℕ) (change : selecting.Change Reference) → view_step step ≡ plain.ChangeGlobal (Slot n) change → OnOk r (AreSound new.live.frame.accums)
      → Becomes (global_so world n change) old.live new.live r → Does (run world (view_step step)) old new r
  global_does n change e sound d =
      stated world step (plain.ChangeGlobal (Slot n) change) old new r e
      (becomes_does (global_so world n change) (run world (plain.ChangeGlobal (Slot n) change)) old new r
      (λ q. sym (joined (blaming of_write (slots_changed (seen world q.state) q.state.slots (Slot n) 0 change)) (λ slots. Gives (record (q.state) { slots = slots })) (λ s. Gives (with_state s q))))
      turns printed (sound_on r new.live.frame.accums sound) d)

pub print_does : (world : World Reference) (step : Step) (old new : Running) (r : Result (Unit {0}) RunFault) (items : List (plain.Printed Reference)) → view_step step ≡ plain.Print items
    → Does (run world (plain.Print items)) old new r → Does (run world (view_step step)) old new r
print_does world step old new r items e d = stated world step (plain.Print items) old new r e d

-- ---- what is read

pub truth_tests : (world : World Reference) (t : Tree Reference) (r : Running) (result : Result Bool RunFault)
    → Reads (itself {A = Bool}) (λ s. blaming Evaluation (truth_of (seen world s) t)) r.live.frame result → Tests (condition_of world t) r result
truth_tests world t r result d = record { each = λ q s. d.each q.state (shows_of r.live q.state s.lives) }

pub limit_limits : (world : World Reference) (t : Tree Reference) (r : Running) (result : Result ℕ RunFault)
    → Reads Some (λ s. blaming Evaluation (limit_of world s (Some t))) r.live.frame result → Limits world t r result
limit_limits world t r result d = record { each = λ q s. d.each q.state (shows_of r.live q.state s.lives) }

pub rounds_go : (world : World Reference) (over : plain.Over Reference) (r : Running) (result : Result Rounds RunFault)
    → Reads rounds_in (λ s. blaming Evaluation (gone_over (seen world s) over)) r.live.frame result → GoesOver world over r result
rounds_go world over r result d = record { each = λ q s. d.each q.state (shows_of r.live q.state s.lives) }
