-- QueryLemmas: the run of a plan, from its initial values to its output.
use Rattle.std.proofs.Common.{◌≡◌, ℕ, List, [], map, Result, Ok, Err, refl, sym, ap, subst, ◌∙◌}
use Rattle.gq_index.specs.declared.store.Graph as code
use Rattle.gq_json.specs.declared.out.Printed.{Printed}
use Rattle.gq_value.specs.Val.{Val}
use Rattle.gq_rules_meaning.specs.Answers.{Answer, Gives, ◌>>=◌, blaming}
use Rattle.gq_rules_meaning.specs.Calendars.{Calendar}
use Rattle.gq_rules_meaning.specs.Queries.{Defining, run_plan, with_tuples}
use Rattle.gq_rules_meaning.specs.Runs as runs
use Rattle.gq_rules_meaning.specs.Runs.{run_all}
use Rattle.gq_rules_meaning.specs.Statements.{Fault, Evaluation}
use Rattle.gq_plan_ir.specs.declared.plan.Plan.{Plan}
use Rattle.gq_plan_ir.specs.declared.step.Step.{Step}
use Rattle.gq_plan_ir.specs.PlanView.{view_plan, view_steps}
use Rattle.gq_plan_ir.specs.Reference.{Reference}
use Rattle.gq_eval_operand.specs.declared.halt.Halt.{Halt}
use Rattle.gq_eval_attributes.specs.declared.tuple_type.TupleType.{TupleType}
use Rattle.gq_eval_attributes.specs.Tuples.{tuples_are}
use Rattle.gq_frame.specs.Slots.{AreSound}
use Rattle.gq_frame.specs.declared.live.Live.{Live}
use Rattle.gq_exec_control.specs.declared.running.Running.{Running}
use Rattle.gq_exec_control.specs.declared.running.RunFault.{RunFault}
use Rattle.gq_exec_control.specs.Standing.{Does, Ends, Stands as standing}
use Rattle.gq_exec_control.proofs.FaultLemmas.{ends_bind, ends_same}
use Rattle.gq_exec_vars.specs.declared.opening.Opened.{Opened}
use Rattle.gq_exec_vars.specs.Begun.{Begins, Stands, begins}
use Rattle.gq_exec_control.specs.Contexts.{Basis, world_on}
use Rattle.gq_exec_control.specs.Faults.{fault_of}
use Rattle.gq_exec_control.proofs.ContextLemmas.{ends_told}
use Rattle.gq_flow.specs.Plans.{Objects, Prints, RunsFrom, plan_world, printed_from}

-- ---- the initial values

pub query_stops : (clock : Calendar) (g : code.Graph) (plan : Plan) (arguments : List Val) (turns : ℕ) (h : Halt) (e : RunFault) → e ≡ fault_of h → Begins (begins clock g plan arguments) (Err h)
    → Prints (run_plan (plan_world clock g plan) (view_plan plan) arguments turns) (Err e)
query_stops clock g plan arguments turns h e is b =
    subst (Ends (run_plan (plan_world clock g plan) (view_plan plan) arguments turns)) (sym is)
    (ends_bind (blaming Evaluation (begins clock g plan arguments)) (printed_from clock g plan turns) (fault_of h) (ends_told (begins clock g plan arguments) h b))

prints_same : (o p : Answer Fault Objects) (r : Result (List Printed) RunFault) → o ≡ p → Prints p r → Prints o r
prints_same o p (Ok printed) e d = (d.0, e ∙ d.1, d.2)
prints_same o p (Err x) e d = ends_same o p x e d

pub query_runs : (clock : Calendar) (g : code.Graph) (plan : Plan) (arguments : List Val) (turns : ℕ) (opened : Opened) (r : Result (List Printed) RunFault) → Begins (begins clock g plan arguments) (Ok opened)
    → RunsFrom clock g plan opened turns r → Prints (run_plan (plan_world clock g plan) (view_plan plan) arguments turns) r
query_runs clock g plan arguments turns opened r b d =
    prints_same (run_plan (plan_world clock g plan) (view_plan plan) arguments turns) (printed_from clock g plan turns b.0) r
    (ap (λ o. blaming Evaluation o >>= printed_from clock g plan turns) b.1) (d.each b.0 b.2)

-- ---- the statements

-- the read-only context of the run
abbrev pub basis_of : code.Graph → Plan → List TupleType → Basis
basis_of g plan tuples = record { schema = g.catalog.now; vertices = g.store.now.vertices; edges = g.store.now.edges; plan = plan; tuples = tuples }

-- the start of the run
abbrev pub begun : Live → ℕ → List Printed → Running
begun live turns first = record { live = live; turns = turns; printed = first }

module _ (clock : Calendar) (g : code.Graph) (plan : Plan) (opened : Opened) (turns : ℕ) (sound : AreSound opened.live.frame.accums) (tuples : List TupleType) (steps : List Step) (same_tuples : tuples ≡ opened.tuples) (same_steps : steps ≡ plan.steps) (first : List Printed) (none : first ≡ []) where
  begins_so : (d : Defining Reference) → Stands opened d → standing (begun opened.live turns first) (record { state = d.state; turns = turns; printed = [] })
  begins_so d s = record { lives = s.lives; turns = refl; printed = ap (map (λ (p : Printed). p.members)) none; sound = sound }

  from_is : (d : Defining Reference) → Stands opened d
      → printed_from clock g plan turns d ≡ (run_all (world_on clock (basis_of g plan tuples)) (view_steps steps) (record { state = d.state; turns = turns; printed = [] }) >>= λ r. Gives r.printed)
  from_is d s =
      ap (λ ts. run_all (with_tuples ts (plan_world clock g plan)) (view_steps plan.steps) (record { state = d.state; turns = turns; printed = [] }) >>= λ r. Gives r.printed) (s.tuples ∙ ap tuples_are (sym same_tuples))
      ∙ ap (λ xs. run_all (world_on clock (basis_of g plan tuples)) (view_steps xs) (record { state = d.state; turns = turns; printed = [] }) >>= λ r. Gives r.printed) (sym same_steps)

  pub steps_stop : (new : Running) (e : RunFault) → Does (run_all (world_on clock (basis_of g plan tuples)) (view_steps steps)) (begun opened.live turns first) new (Err e) → RunsFrom clock g plan opened turns (Err e)
  steps_stop new e d = record {
    each = λ x s.
        let q : runs.Running Reference = record { state = x.state; turns = turns; printed = [] } in
        ends_same (printed_from clock g plan turns x) (run_all (world_on clock (basis_of g plan tuples)) (view_steps steps) q >>= λ r. Gives r.printed) e (from_is x s)
        (ends_bind (run_all (world_on clock (basis_of g plan tuples)) (view_steps steps) q) (λ r. Gives r.printed) e (d.each q (begins_so x s)));
  }

  pub steps_end : (new : Running) (printed : List Printed) → printed ≡ new.printed → Does (run_all (world_on clock (basis_of g plan tuples)) (view_steps steps)) (begun opened.live turns first) new (Ok tt)
      → RunsFrom clock g plan opened turns (Ok printed)
  steps_end new printed is d = record {
    each = λ x s.
        let q : runs.Running Reference = record { state = x.state; turns = turns; printed = [] } in
        let l = d.each q (begins_so x s) in
        (l.0.printed, from_is x s ∙ ap (λ o. o >>= λ r. Gives r.printed) l.1, ap (map (λ (p : Printed). p.members)) is ∙ l.2.printed);
  }
