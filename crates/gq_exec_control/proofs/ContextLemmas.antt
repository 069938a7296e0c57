-- ContextLemmas: from what the code reads to the states of the definitions.
use Rattle.std.proofs.Common.{◌≡◌, map, reverse, Result, Ok, Err, refl, sym, ap, subst, ◌∙◌}
use Rattle.std.specs.Prelude.{IsErrAnd}
use Rattle.std.proofs.lemmas.Result.{err_from_is_err_and}
use Rattle.gq_json.specs.declared.out.Printed.{Printed}
use Rattle.gq_value.specs.declared.value.Wrong.{Wrong}
use Rattle.gq_rules_meaning.specs.Answers.{Answer, Gives, ◌>>=◌, blaming}
use Rattle.gq_rules_meaning.specs.Calendars.{Calendar}
use Rattle.gq_rules_meaning.specs.Expressions.{Look}
use Rattle.gq_rules_meaning.specs.States.{State, seen}
use Rattle.gq_rules_meaning.specs.Statements.{Evaluation}
use Rattle.gq_rules_meaning.specs.Runs as runs
use Rattle.gq_rules_meaning.specs.Runs.{Body, with_state}
use Rattle.gq_plan_ir.specs.Reference.{Reference}
use Rattle.gq_eval_operand.specs.declared.halt.Halt.{Halt}
use Rattle.gq_eval_operand.specs.declared.halt.Halt.TheVariants as halt
use Rattle.gq_eval_operand.specs.Meant.{Halts, Tells}
use Rattle.gq_frame.specs.declared.frame.Frame.{Frame}
use Rattle.gq_frame.specs.Shows.{Shows}
use Rattle.gq_frame.specs.Slots.{AreSound}
use Rattle.gq_eval_context.specs.LookLaws.{look_shows}
use Rattle.gq_frame.specs.declared.live.Live.{Live}
use Rattle.gq_frame.specs.Lives.{Lives}
use Rattle.gq_frame.proofs.LookupLemmas.{alike_now}
use Rattle.gq_exec_control.specs.declared.running.Running.{Running}
use Rattle.gq_exec_control.specs.declared.running.RunFault.{RunFault}
use Rattle.gq_exec_control.specs.declared.running.RunFault.TheVariants as fault
use Rattle.gq_exec_control.specs.Standing.{Ends, Does, Says}
use Rattle.gq_exec_control.proofs.FaultLemmas.{ends_bind, ends_same, leads_same}
use Rattle.gq_exec_control.specs.Contexts.{Basis, over_of, world_on, look_on}
use Rattle.gq_exec_control.specs.Faults.{fault_of, faults_of}
use Rattle.gq_exec_control.specs.Changes.{Change, Becomes, Reads}

-- ---- what is shown

pub shows_of : (live : Live) (s : State Reference) → Lives live s → Shows live.frame s
shows_of live s l = record { names = (alike_now live.frame.things (reverse live.undo.items) s.names l.names).each; slots = l.slots }

pub look_there : (clock : Calendar) (b : Basis) (f : Frame) (s : State Reference) → Shows f s → look_on clock b f ≡ seen (world_on clock b) s
look_there clock b f s shows = look_shows clock (over_of b f) s shows

-- ---- what is read

pub ends_told : {A : Type 0} (o : Answer Wrong A) (h : Halt) → Halts o h → Ends (blaming Evaluation o) (fault_of h)
ends_told o (halt.Wrong w) e = ap (blaming Evaluation) e
ends_told o halt.Stuck e = ap (blaming Evaluation) e
ends_told o halt.OutOfMemory e = tt

pub says_told : {A B : Type 0} (view : B → A) (o : Answer Wrong A) (told : Result B Halt) → Tells view o told → Says view (blaming Evaluation o) (faults_of told)
says_told view o (Ok b) e = ap (blaming Evaluation) e
says_told view o (Err h) e = ends_told o h e

-- a result of the code's view is the result of reading the state
pub reads_on : {A B : Type 0} (clock : Calendar) (b : Basis) (f : Frame) (view : B → A) (read : Look Reference → Answer Wrong A) (told : Result B Halt) (result : Result B RunFault)
    → Tells view (read (look_on clock b f)) told → result ≡ faults_of told → Reads view (λ s. blaming Evaluation (read (seen (world_on clock b) s))) f result
reads_on clock b f view read told result t e = record {
  each = λ s shows.
      subst (Says view (blaming Evaluation (read (seen (world_on clock b) s)))) (sym e)
      (subst (λ look. Says view (blaming Evaluation (read look)) (faults_of told)) (look_there clock b f s shows) (says_told view (read (look_on clock b f)) told t));
}

-- ---- changes

pub no_memory : (does : Change) (old new : Live) → Becomes does old new (Err fault.OutOfMemory)
no_memory does old new = record { each = λ s l. tt }

pub becomes_returned : (does : Change) (old new : Live) (e : RunFault) (r : Result (Unit {0}) RunFault) → IsErrAnd r (λ y. y ≡ e) → Becomes does old new (Err e) → Becomes does old new r
becomes_returned does old new e r h d =
    let p = err_from_is_err_and r h in
    subst (Becomes does old new) (sym (p.1 ∙ ap Err p.2)) d

-- equal changes have the same results
pub becomes_same : (does other : Change) (old new : Live) (r : Result (Unit {0}) RunFault) → ((s : State Reference) → Lives old s → does s ≡ other s) → Becomes other old new r → Becomes does old new r
becomes_same does other old new r same d = record { each = λ s l. leads_same (Lives new) (does s) (other s) r (same s l) (d.each s l) }

-- a change of the state is a change of the run by a statement's body
pub becomes_does : (does : Change) (body : Body Reference) (old new : Running) (r : Result (Unit {0}) RunFault)
    → ((q : runs.Running Reference) → body q ≡ (does q.state >>= λ s. Gives (with_state s q)))
    → new.turns ≡ old.turns → new.printed ≡ old.printed → (r ≡ Ok tt → AreSound new.live.frame.accums)
    → Becomes does old.live new.live r → Does body old new r
becomes_does does body old new (Ok u) is turns printed sound d = record {
  each = λ q s.
      let l = d.each q.state s.lives in
      (with_state l.0 q, is q ∙ ap (λ o. o >>= λ s. Gives (with_state s q)) l.1, record { lives = l.2; turns = turns ∙ s.turns; printed = ap (map (λ (p : Printed). p.members)) printed ∙ s.printed; sound = sound refl });
}
becomes_does does body old new (Err e) is turns printed sound d = record {
  each = λ q s. ends_same (body q) (does q.state >>= λ s. Gives (with_state s q)) e (is q) (ends_bind (does q.state) (λ s. Gives (with_state s q)) e (d.each q.state s.lives));
}
