-- Plans: when the run of a plan prints what the definitions say.
use Rattle.std.specs.Prelude.{◌≡◌, ℕ, List, [], map, Result, Ok, Err}
use Rattle.gq_json.specs.declared.out.Printed.{Printed}
use Rattle.gq_index.specs.declared.store.Graph as code
use Rattle.gq_rules_typing.specs.Statements.{Bytes}
use Rattle.gq_rules_meaning.specs.Answers.{Answer, Gives, ◌>>=◌}
use Rattle.gq_rules_meaning.specs.Built.{built_print}
use Rattle.gq_rules_meaning.specs.Calendars.{Calendar}
use Rattle.gq_rules_meaning.specs.Expressions.{World}
use Rattle.gq_rules_meaning.specs.Outs.{Out}
use Rattle.gq_rules_meaning.specs.Queries.{Defining, with_tuples}
use Rattle.gq_rules_meaning.specs.Runs.{run_all}
use Rattle.gq_rules_meaning.specs.Statements.{Fault}
use Rattle.gq_plan_ir.specs.declared.plan.Plan.{Plan}
use Rattle.gq_plan_ir.specs.Belonging.{world_of}
use Rattle.gq_plan_ir.specs.PlanView.{accum_names, view_steps}
use Rattle.gq_plan_ir.specs.Reference.{Reference}
use Rattle.gq_eval_attributes.specs.Worlds.{graph_is}
use Rattle.gq_exec_control.specs.declared.running.RunFault.{RunFault}
use Rattle.gq_exec_control.specs.Standing.{Ends}
use Rattle.gq_exec_vars.specs.declared.opening.Opened.{Opened}
use Rattle.gq_exec_vars.specs.Begun.{Stands}

-- an object for each PRINT
abbrev pub Objects : Type 0
Objects = List (List (Bytes × Out))

-- the world in which a plan of a graph begins: no tuple type is declared yet
abbrev pub plan_world : Calendar → code.Graph → Plan → World Reference
plan_world clock g plan = world_of (accum_names plan) [] (graph_is g plan.vertices plan.edges) clock

-- the answer is what is printed, or the fault that ends the run; OutOfMemory may occur at any time
abbrev pub Prints : Answer Fault Objects → Result (List Printed) RunFault → Type 0
Prints o (Ok printed) = (objects : Objects) × (o ≡ Gives objects) × (map (λ (p : Printed). p.members) printed ≡ map built_print objects)
Prints o (Err e) = Ends o e

-- ---- from the initial values of a plan

-- its statements, over the tuple types and the state given
abbrev pub printed_from : Calendar → code.Graph → Plan → ℕ → Defining Reference → Answer Fault Objects
printed_from clock g plan turns d = run_all (with_tuples d.tuples (plan_world clock g plan)) (view_steps plan.steps) (record { state = d.state; turns = turns; printed = [] }) >>= λ r. Gives r.printed

pub record RunsFrom (clock : Calendar) (g : code.Graph) (plan : Plan) (opened : Opened) (turns : ℕ) (result : Result (List Printed) RunFault) : Type 0 where
  pub each : (d : Defining Reference) → Stands opened d → Prints (printed_from clock g plan turns d) result
