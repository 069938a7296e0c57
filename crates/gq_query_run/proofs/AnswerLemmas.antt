-- Lines and refusals, by what the definitions say.
use Rattle.std.proofs.Common.{ℕ, ◌≡◌, ◌≢◌, List, [], ◌∷◌, map, Option, Some, ap, sym, subst, ◌∙◌}
use Rattle.std.specs.Prelude.{Result, Ok, Err, Vec}
use Rattle.std.specs.declared.alloc.Global.{Global}
use Rattle.gq_value.specs.Val.{Val}
use Rattle.gq_json.specs.declared.out.Printed.{Printed}
use Rattle.gq_json.specs.Json.{line_text}
use Rattle.gq_diagnostics.specs.declared.refusal.Refusal.{Refusal}
use Rattle.gq_diagnostics.specs.declared.refusal.StatementFault.{StatementFault}
use Rattle.gq_diagnostics.specs.declared.refusal.StatementFault.TheVariants.{Refused, ReadFault, OutOfMemory}
use Rattle.gq_diagnostics.specs.Messages.{message_of}
use Rattle.gq_rules_typing.specs.Statements.{Bytes, Query}
use Rattle.gq_rules_meaning.specs.Answers.{Answer, Stuck}
use Rattle.gq_rules_meaning.specs.Built.{built_print}
use Rattle.gq_rules_meaning.specs.Calendars.{Calendar}
use Rattle.gq_rules_meaning.specs.Graphs.{Graph}
use Rattle.gq_rules_meaning.specs.Lines.{query_line}
use Rattle.gq_rules_meaning.specs.Messages.{answer_of_run, slot_names}
use Rattle.gq_rules_meaning.specs.Queries.{run_query}
use Rattle.gq_rules_meaning.specs.Statements.{Fault}
use Rattle.gq_rules_meaning.specs.Sessions as sessions
use Rattle.gq_rules_meaning.specs.Sessions.{Session, Effect, of_answer}
use Rattle.gq_rules_meaning.proofs.LineLaws.{line_law}
use Rattle.gq_arguments.specs.Rows as rows
use Rattle.gq_query_run.specs.Judging.{Judges}
use Rattle.gq_query_run.specs.Answers.{Objects, Tells, Says}
use Rattle.gq_query_run.specs.Runs.{Runs, answer_given}
use Rattle.gq_query_run.specs.declared.runner.QueryFault.{QueryFault}
use Rattle.gq_query_run.specs.declared.runner.QueryFault.TheVariants as query_fault

-- the line of gq_json is that of the output
pub line_is : (line : List ℕ) (printed : List Printed) (objects : Objects) → line ≡ line_text (map (λ (p : Printed). p.members) printed)
    → map (λ (p : Printed). p.members) printed ≡ map built_print objects → line ≡ query_line objects
line_is line printed objects is same = is ∙ ap line_text same ∙ line_law objects

-- a refusal that is due
pub told : (meant : Result Objects Bytes) (due : Refusal) (f : StatementFault) → meant ≡ Err (message_of due) → rows.Tells due f → Tells meant (Err f)
told meant due (Refused found) is same = is ∙ ap (λ (r : Refusal). Err (message_of r)) (sym same)
told meant due ReadFault is same = same
told meant due OutOfMemory is same = tt

-- no values
pub denied : (g : Graph) (clock : Calendar) (turns : ℕ) (q : Query Bytes) (meant : Result (List Val) Refusal) (f : StatementFault) → rows.Gives meant (Err f) → Tells (answer_given g clock turns q meant) (Err f)
denied g clock turns q meant (Refused found) is = ap (answer_given g clock turns q) is
denied g clock turns q meant ReadFault is = is
denied g clock turns q meant OutOfMemory is = tt

-- over values that aren't refused, a query whose answer isn't that of a stuck one isn't stuck
pub given_runs : (g : Graph) (clock : Calendar) (turns : ℕ) (q : Query Bytes) (meant : Result (List Val) Refusal) (vs : List Val) → meant ≡ Ok vs
    → answer_given g clock turns q meant ≢ Err [] → run_query g clock q vs turns ≢ Stuck
given_runs g clock turns q meant vs is runs stuck = runs (ap (answer_given g clock turns q) is ∙ ap (answer_of_run (slot_names q.definitions) turns) stuck)

-- a runner that says that the query is stuck is right
pub stuck_runs : (answer : Answer Fault Objects) (f : QueryFault) → f ≡ query_fault.Stuck → Runs answer (Err f) → answer ≡ Stuck
stuck_runs answer f is runs = let P : QueryFault → Type 0 = λ e. Runs answer (Err e) in subst P is runs

-- the answer of the definitions, as an effect on a session
pub says : (s : Session) (effect : Effect) (meant : Result Objects Bytes) (answer : Result (Vec ℕ Global) StatementFault) → effect ≡ of_answer s meant → Tells meant answer → Says s effect answer
says s effect meant (Ok line) is tells = is ∙ ap (of_answer s) tells.1 ∙ ap (λ text. sessions.Becomes s (text ∷ [])) (sym tells.2)
says s effect meant (Err (Refused found)) is tells = is ∙ ap (of_answer s) tells
says s effect meant (Err ReadFault) is tells = tells
says s effect meant (Err OutOfMemory) is tells = tt

-- a refusal that is due, as an effect on a session
pub says_due : (s : Session) (effect : Effect) (due : Refusal) (f : StatementFault) → effect ≡ sessions.Refused (message_of due) → rows.Tells due f → Says s effect (Err f)
says_due s effect due (Refused found) is same = is ∙ ap (λ (r : Refusal). sessions.Refused (message_of r)) (sym same)
says_due s effect due ReadFault is same = same
says_due s effect due OutOfMemory is same = tt

-- a refusal by the judging of a query, as an effect on a session
pub says_judged : (s : Session) (effect : Effect) (due : Option Refusal) (f : StatementFault) → ((r : Refusal) → due ≡ Some r → effect ≡ sessions.Refused (message_of r)) → Judges due (Err f) → Says s effect (Err f)
says_judged s effect due (Refused found) refused is = refused found is
says_judged s effect due ReadFault refused is = is
says_judged s effect due OutOfMemory refused is = tt
