-- PrintLaws: a plan that is made of a query prints what the query prints.
use Rattle.std.proofs.Common.{◌≡◌, ℕ, false, List, [], Option, Some, None, Ok, refl, sym, ap, ◌∙◌, subst}
use Rattle.std.specs.Prelude.{is_some}
use Rattle.gq_value.specs.Val.{Val}
use Rattle.gq_graph.specs.Catalog.{Schema}
use Rattle.gq_graph.specs.declared.types.GraphType.{GraphType}
use Rattle.gq_graph.specs.declared.rows.VertexRow.{VertexRow}
use Rattle.gq_graph.specs.declared.rows.EdgeRow.{EdgeRow}
use Rattle.gq_rules_typing.specs.Statements.{Bytes, Query, KindTree}
use Rattle.gq_rules_typing.specs.Sorts.{Sorts, sorts_of}
use Rattle.gq_rules_meaning.specs.Answers.{Answer}
use Rattle.gq_rules_meaning.specs.Calendars.{Calendar}
use Rattle.gq_rules_meaning.specs.Graphs.{Graph, graph_of}
use Rattle.gq_rules_meaning.specs.Outs.{Out}
use Rattle.gq_rules_meaning.specs.Statements.{Fault}
use Rattle.gq_rules_meaning.specs.Queries.{kind_of, run_plan, run_query}
use Rattle.gq_rules_meaning.specs.Fitting.{Safe}
use Rattle.gq_rules_safety.proofs.KindLaws.{query_law as never_stuck}
use Rattle.gq_plan_ir.specs.declared.plan.Parameter as code
use Rattle.gq_plan_ir.specs.declared.plan.Definition as definition_code
use Rattle.gq_plan_ir.specs.declared.plan.Plan.{Plan}
use Rattle.gq_plan_ir.specs.Belonging.{world_of}
use Rattle.gq_plan_ir.specs.PlanView.{view_plan, accum_names}
use Rattle.gq_plan_ir.specs.Reference.{Reference}
use Rattle.gq_plan_laws.proofs.QueryLaws.{query_law}
use Rattle.gq_scope.specs.Named.{Named}
use Rattle.gq_rules_typing.specs.Judging.{through_judged}
use Rattle.gq_rules_typing.specs.Scopes.{InStatement, Scope, entry}
use Rattle.gq_rules_typing.specs.KindTypes.{kind_written}
use Rattle.gq_rules_typing.specs.StatementTypes.{typing_stmts}
use Rattle.gq_rules_typing.specs.QueryTypes.{typing_parameter, typing_definition, typing_query}
use Rattle.gq_rules_meaning.proofs.AnswerLaws.{then_ok}
use Rattle.gq_scope.specs.Kept.{tuple_types}
use Rattle.gq_scope.specs.Held.{Held, graph_in, sorts_in, setting_in, scope_in}
use Rattle.gq_plan_stmt.specs.Steps.{resolved_stmts}
use Rattle.gq_plan_expr.specs.Found.{TupleTypes, globals_of}
use Rattle.gq_plan_laws.specs.Declared.{ground_of}
use Rattle.gq_plan_laws.specs.Planned.{Heads, setting_of, DefinitionsPlanned}
use Rattle.gq_plan_laws.specs.PlannedLaws.{ParametersPlanned, IsPlanned, no_names, no_heads}
use Rattle.gq_plan_laws.specs.Declares.{Declares}
use Rattle.gq_plan_laws.proofs.PlannedQueryLaws.{plan_law}
use Rattle.gq_plan.specs.Heading.{IsScoped, heads_of}
use Rattle.gq_plan.specs.Prints.{graph_for, PrintsAs, PrintLaw}
use Rattle.gq_plan.specs.Safe.{NeverStuck, SafeLaw}
use Rattle.gq_plan.specs.Unplanned.{NotTyped, NoParameters, NoDefinitions}
use Rattle.gq_plan.proofs.ParameterLemmas.{parameters_same}
use Rattle.gq_plan_laws.proofs.ParameterHas.{parameters_have, parameters_shown}
use Rattle.gq_plan_laws.proofs.DeclareLaws.{definitions_behind}
use Rattle.gq_plan_laws.proofs.StepHas.{statements_law}

-- with these vertex and edge types in place of those of the query's graph
abbrev with_own : Graph → List ℕ → List ℕ → Graph
with_own g vertices edges = record g { sorts = record (g.sorts) { own_vertices = vertices; own_edges = edges } }

module _ (schema : Schema) (own : Option GraphType) (q : Query Bytes) (p : Plan) (planned : IsPlanned (sorts_of schema own) q p) where
  graph_is : (vertices : List VertexRow) (edges : List EdgeRow) → graph_for schema p vertices edges ≡ graph_of schema own vertices edges
  graph_is vertices edges =
      ap (λ l. with_own (graph_of schema own vertices edges) l p.edges) planned.vertices
      ∙ ap (λ l. with_own (graph_of schema own vertices edges) (sorts_of schema own).own_vertices l) planned.edges

  runs : (vertices : List VertexRow) (edges : List EdgeRow) (clock : Calendar) (arguments : List Val) (turns : ℕ)
      → run_plan (world_of (accum_names p) [] (graph_of schema own vertices edges) clock) (view_plan p) arguments turns ≡ run_query (graph_of schema own vertices edges) clock q arguments turns
  runs vertices edges clock arguments turns =
      let g = graph_of schema own vertices edges in
      query_law {M = Bytes} {N = Reference} {K = KindTree Bytes} (ground_of g clock (accum_names p)) kind_of q (view_plan p) (plan_law g clock q p planned) arguments turns

  prints_as : PrintsAs schema own q p
  prints_as = record {
    same_graph = graph_is;
    same = λ vertices edges clock arguments turns.
        ap (λ g. run_plan (world_of (accum_names p) [] g clock) (view_plan p) arguments turns) (graph_is vertices edges) ∙ runs vertices edges clock arguments turns;
  }

pub print_law : PrintLaw
print_law schema own q p planned = prints_as schema own q p planned

-- ---- never stuck

pub safe_law : SafeLaw
safe_law schema own q p planned = record {
  safe = λ t typed vertices edges clock store arguments fit turns.
      let prints = prints_as schema own q p planned in
      subst (λ (o : Answer Fault (List (List (Bytes × Out)))). Safe (λ (printed : List (List (Bytes × Out))). Unit {0}) o) (sym (prints.same vertices edges clock arguments turns))
      (never_stuck (graph_of schema own vertices edges) clock store q t typed arguments fit turns);
}

-- ---- a scope without declarations

pub sorts_are : (s : Held) (schema : Schema) (graph : Option ℕ) → s.schema ≡ schema → s.graph ≡ graph → sorts_in s ≡ sorts_of schema (graph_in schema graph)
unfolding sorts_in
sorts_are s schema graph e h = ap (λ z. sorts_of z (graph_in z s.graph)) e ∙ ap (λ g. sorts_of schema (graph_in schema g)) h

-- ---- the parts of a plan, in order

pub plan_made : (s t : Held) (q : Query Bytes) (p : Plan) (names behind : Named) (before tuples : TupleTypes) (first slots : Named)
    → before ≡ [] → first ≡ no_names → IsScoped (sorts_in s) tuples t → p.with_paths ≡ q.with_paths → ParametersPlanned (sorts_in s) q.parameters p.parameters names
    → DefinitionsPlanned (sorts_in s) names (heads_of before first) q.definitions p.definitions (heads_of tuples slots)
    → resolved_stmts (globals_of (sorts_in t) tuples slots) names q.statements ≡ Some (behind, p.steps)
    → p.vertices ≡ (sorts_in s).own_vertices → p.edges ≡ (sorts_in s).own_edges → IsPlanned (sorts_in s) q p
plan_made s t q p names behind before tuples first slots none nothing scoped with_paths parameters definitions statements vertices edges = record {
  names = names;
  heads = heads_of tuples slots;
  behind = behind;
  with_paths = with_paths;
  parameters = parameters;
  definitions =
      subst (λ (l : TupleTypes). DefinitionsPlanned (sorts_in s) names (heads_of l no_names) q.definitions p.definitions (heads_of tuples slots)) none
      (subst (λ m. DefinitionsPlanned (sorts_in s) names (heads_of before m) q.definitions p.definitions (heads_of tuples slots)) nothing definitions);
  statements = subst (λ z. resolved_stmts (globals_of z tuples slots) names q.statements ≡ Some (behind, p.steps)) scoped.sorts_are statements;
  vertices = vertices;
  edges = edges;
}

-- ---- no plan

-- a typed query whose parameters are planned: scopes of typing before and after its definitions
record Passes (sorts : Sorts) (q : Query Bytes) (names : Named) (h : Heads) (t : Scope Bytes) : Type 0 where
  before : Scope Bytes
  behind : Scope Bytes
  declares : Declares sorts names h before
  definitions : through_judged (typing_definition kind_written) before q.definitions ≡ Ok behind
  statements : typing_stmts behind q.statements ≡ Ok t

passes : (sorts : Sorts) (q : Query Bytes) (parameters : List code.Parameter) (names : Named) (before : TupleTypes) (first : Named) (t : Scope Bytes) → before ≡ [] → first ≡ no_names → ParametersPlanned sorts q.parameters parameters names
    → typing_query sorts q ≡ Ok t → Passes sorts q names (heads_of before first) t
passes sorts q parameters names before first t none nothing planned typed =
    let start : Scope Bytes = record { setting = setting_of sorts []; names = []; with_paths = q.with_paths } in
    let u = then_ok (through_judged typing_parameter start q.parameters) _ t typed in
    let v = then_ok (through_judged (typing_definition kind_written) u.0 q.definitions) _ t u.2 in
    let ps = parameters_have sorts q.parameters start u.0 refl u.1 in
    let same : ps.names ≡ names = parameters_same sorts q.parameters ps.planned parameters ps.names names ps.are planned in
    let shown : Declares sorts ps.names no_heads u.0 = record { setting = ps.setting; shows = parameters_shown sorts q.parameters start u.0 refl (λ x. refl) ps; free = λ x i. refl; taken = λ x i. absurd (cc i) } in
    record {
      before = u.0;
      behind = v.0;
      declares =
          subst (λ l. Declares sorts names (heads_of l first) u.0) (sym none)
          (subst (λ m. Declares sorts names (heads_of [] m) u.0) (sym nothing) (subst (λ m. Declares sorts m no_heads u.0) same shown));
      definitions = v.1;
      statements = v.2;
    }

pub lacks_parameters : (sorts : Sorts) (q : Query Bytes) → NoParameters sorts q.parameters → NotTyped sorts q
lacks_parameters sorts q never = record {
  none = λ t typed.
      let start : Scope Bytes = record { setting = setting_of sorts []; names = []; with_paths = q.with_paths } in
      let u = then_ok (through_judged typing_parameter start q.parameters) _ t typed in
      let ps = parameters_have sorts q.parameters start u.0 refl u.1 in
      never.none ps.planned ps.names ps.are;
}

pub lacks_definitions : (s : Held) (q : Query Bytes) (parameters : List code.Parameter) (names : Named) (before : TupleTypes) (first : Named) → before ≡ [] → first ≡ no_names → ParametersPlanned (sorts_in s) q.parameters parameters names
    → NoDefinitions (sorts_in s) names (heads_of before first) q.definitions → NotTyped (sorts_in s) q
lacks_definitions s q parameters names before first none nothing planned never = record {
  none = λ t typed. let p = passes (sorts_in s) q parameters names before first t none nothing planned typed in never.none p.before p.behind p.declares p.definitions;
}

pub lacks_statements : (s t : Held) (q : Query Bytes) (parameters : List code.Parameter) (names : Named) (definitions : List definition_code.Definition) (before tuples : TupleTypes) (first slots : Named)
    → before ≡ [] → first ≡ no_names → IsScoped (sorts_in s) tuples t → ParametersPlanned (sorts_in s) q.parameters parameters names
    → DefinitionsPlanned (sorts_in s) names (heads_of before first) q.definitions definitions (heads_of tuples slots)
    → resolved_stmts (globals_of (sorts_in t) tuples slots) names q.statements ≡ None → NotTyped (sorts_in s) q
lacks_statements s t q parameters names definitions before tuples first slots none nothing scoped planned declared lacks = record {
  none = λ z typed.
      let p = passes (sorts_in s) q parameters names before first z none nothing planned typed in
      let d = definitions_behind (sorts_in s) names q.definitions p.before p.behind (heads_of before first) (heads_of tuples slots) definitions p.declares p.definitions declared in
      let has = (statements_law (globals_of (sorts_in s) tuples slots) p.behind names d.shows q.statements z p.statements).is in
      let none' : resolved_stmts (globals_of (sorts_in s) tuples slots) names q.statements ≡ None = subst (λ w. resolved_stmts (globals_of w tuples slots) names q.statements ≡ None) scoped.sorts_are lacks in
      cc (none', has);
}

-- a new scope has no visible name
none_new : (s : Held) (schema : Schema) (graph : Option ℕ) → s ≡ record { schema = schema; graph = graph; names = []; place = InStatement; with_paths = false } → (x : Bytes) → is_some (entry (scope_in s) x) ≡ false
unfolding scope_in setting_in
none_new s schema graph is x = ap (λ (h : Held). is_some (entry (scope_in h) x)) is

-- a new scope sees the types of the graph, and no tuple type
pub scope_new : (s : Held) (schema : Schema) (graph : Option ℕ) → s ≡ record { schema = schema; graph = graph; names = []; place = InStatement; with_paths = false } → IsScoped (sorts_in s) [] s
scope_new s schema graph is = record { sorts_are = refl; tuples_are = ap (λ (h : Held). tuple_types h.names) is; free = λ x h. none_new s schema graph is x }

pub sorts_new : (s : Held) (schema : Schema) (graph : Option ℕ) → s ≡ record { schema = schema; graph = graph; names = []; place = InStatement; with_paths = false }
    → sorts_in s ≡ sorts_of schema (graph_in schema graph)
sorts_new s schema graph is = sorts_are s schema graph (ap (λ (h : Held). h.schema) is) (ap (λ (h : Held). h.graph) is)

pub planned_new : (s : Held) (schema : Schema) (graph : Option ℕ) (q : Query Bytes) (p : Plan) → s ≡ record { schema = schema; graph = graph; names = []; place = InStatement; with_paths = false }
    → IsPlanned (sorts_in s) q p → IsPlanned (sorts_of schema (graph_in schema graph)) q p
planned_new s schema graph q p is planned = subst (λ z. IsPlanned z q p) (sorts_new s schema graph is) planned

pub prints_new : (s : Held) (schema : Schema) (graph : Option ℕ) (q : Query Bytes) (p : Plan) → s ≡ record { schema = schema; graph = graph; names = []; place = InStatement; with_paths = false }
    → IsPlanned (sorts_in s) q p → PrintsAs schema (graph_in schema graph) q p
prints_new s schema graph q p is planned = print_law schema (graph_in schema graph) q p (planned_new s schema graph q p is planned)

pub safe_new : (s : Held) (schema : Schema) (graph : Option ℕ) (q : Query Bytes) (p : Plan) → s ≡ record { schema = schema; graph = graph; names = []; place = InStatement; with_paths = false }
    → IsPlanned (sorts_in s) q p → NeverStuck schema (graph_in schema graph) q p
safe_new s schema graph q p is planned = safe_law schema (graph_in schema graph) q p (planned_new s schema graph q p is planned)

pub not_typed_new : (s : Held) (schema : Schema) (graph : Option ℕ) (q : Query Bytes) → s ≡ record { schema = schema; graph = graph; names = []; place = InStatement; with_paths = false }
    → NotTyped (sorts_in s) q → NotTyped (sorts_of schema (graph_in schema graph)) q
not_typed_new s schema graph q is never = subst (λ z. NotTyped z q) (sorts_new s schema graph is) never

pub ruleset plan_laws = (plan_made, scope_new, planned_new, prints_new, safe_new, not_typed_new)
