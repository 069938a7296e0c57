-- Laws: when a plan is made of a query, and the law that it then represents it.
use Rattle.std.specs.Prelude.{◌≡◌, List, [], ◌∷◌, Some}
use Rattle.gq_scope.specs.Named.{Named}
use Rattle.gq_rules_typing.specs.Statements.{Bytes, KindTree, Parameter, QueryOver}
use Rattle.gq_rules_typing.specs.Sorts.{Sorts}
use Rattle.gq_rules_meaning.specs.Calendars.{Calendar}
use Rattle.gq_rules_meaning.specs.Graphs.{Graph}
use Rattle.gq_rules_meaning.specs.Queries.{kind_of}
use Rattle.gq_plan_ir.specs.declared.plan.Parameter as code
use Rattle.gq_plan_ir.specs.declared.plan.Plan.{Plan}
use Rattle.gq_plan_ir.specs.PlanView.{view_plan, accum_names}
use Rattle.gq_plan_ir.specs.Plans.{QueryStands}
use Rattle.gq_plan_stmt.specs.Steps.{new_name, resolved_stmts}
use Rattle.gq_plan_stmt.specs.Parts.{resolved_base}
use Rattle.gq_plan_expr.specs.Found.{globals_of}
use Rattle.gq_plan_laws.specs.Declared.{ground_of}
use Rattle.gq_plan_laws.specs.Planned.{Heads, DefinitionsPlanned}

abbrev pub no_names : Named
no_names = record { visible = []; next = 0 }

abbrev pub no_heads : Heads
no_heads = record { tuples = []; slots = no_names }

-- parameters take places from the last one on, so that the first one is the last that came into view
abbrev pub ParametersPlanned : Sorts → List (Parameter Bytes) → List code.Parameter → Named → Type 0
ParametersPlanned sorts [] [] n = n ≡ no_names
ParametersPlanned sorts (p ∷ ps) (q ∷ qs) n =
    (resolved_base (globals_of sorts [] no_names) p.base ≡ Some q.base) × ((m : Named) × (ParametersPlanned sorts ps qs m × (new_name m p.name ≡ Some (n, q.place))))
ParametersPlanned sorts ps qs n = ⊥

-- a plan is made of a query for these types
pub record IsPlanned (sorts : Sorts) (q : QueryOver Bytes (KindTree Bytes)) (p : Plan) : Type 0 where
  pub names : Named
  pub heads : Heads
  pub behind : Named
  pub with_paths : p.with_paths ≡ q.with_paths
  pub parameters : ParametersPlanned sorts q.parameters p.parameters names
  pub definitions : DefinitionsPlanned sorts names no_heads q.definitions p.definitions heads
  pub statements : resolved_stmts (globals_of sorts heads.tuples heads.slots) names q.statements ≡ Some (behind, p.steps)
  pub vertices : p.vertices ≡ sorts.own_vertices
  pub edges : p.edges ≡ sorts.own_edges

-- it represents the query over every graph of these types, so that it prints what the query prints
abbrev pub PlanLaw : Type 0
PlanLaw = (g : Graph) (clock : Calendar) (q : QueryOver Bytes (KindTree Bytes)) (p : Plan) → IsPlanned g.sorts q p → QueryStands (ground_of g clock (accum_names p)) kind_of q (view_plan p)
