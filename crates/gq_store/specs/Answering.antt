-- Answering: the answer to a reader's query.
use Rattle.std.specs.Prelude.{◌≡◌, ℕ, List, Result, length}
use mathlib.Core.List.{IsPrefix}
use Rattle.gq_value.specs.Val.{Val}
use Rattle.gq_json.specs.declared.out.Printed.{Printed}
use Rattle.gq_graph.specs.Catalog.{Schema}
use Rattle.gq_index.specs.declared.store.Store.{Store}
use Rattle.gq_load_check.specs.declared.insert.Insert.{Insert}
use Rattle.gq_rules_calendar.specs.Gregorian.{gregorian}
use Rattle.gq_plan_ir.specs.declared.plan.Plan.{Plan}
use Rattle.gq_query_run.specs.declared.runner.QueryFault.{QueryFault}
use Rattle.gq_query_run.specs.Runs.{Runs}
use Rattle.gq_engine.specs.Engines.{plan_over}
use Rattle.gq_store.specs.Copies.{store_after}
use Rattle.gq_store.specs.declared.answer.Answer.{Answer}

-- what a plan gives over the base after inserts
abbrev pub RanOver : Store → Schema → Plan → List Val → ℕ → List Insert → Result (List Printed) QueryFault → Type 0
RanOver base catalog plan arguments turns rows run = Runs (plan_over catalog (store_after base rows) gregorian plan arguments turns) run

-- the answer, and the inserts that the store had, which begin with what the reader was told of
pub record IsAnswered (base : Store) (catalog : Schema) (plan : Plan) (arguments : List Val) (turns : ℕ) (heard shown : List Insert) (answered : Answer × List Insert) : Type 0 where
  pub rows : answered.1 ≡ shown
  pub told : IsPrefix heard shown
  pub upto : answered.0.upto ≡ length shown
  pub run : RanOver base catalog plan arguments turns shown answered.0.run
