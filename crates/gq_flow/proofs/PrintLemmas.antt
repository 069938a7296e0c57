-- PrintLemmas: one more object is printed.
use Rattle.std.proofs.Common.{◌≡◌, List, [], ◌∷◌, ◌++◌, map, Result, Ok, Err, sym, ap, ap₂, subst, ◌∙◌}
use Rattle.std.proofs.lemmas.List.{map-append}
use Rattle.gq_json.specs.declared.out.Printed.{Printed}
use Rattle.gq_value.specs.declared.value.Wrong.{Wrong}
use Rattle.gq_rules_typing.specs.Statements as plain
use Rattle.gq_rules_typing.specs.Statements.{Bytes}
use Rattle.gq_rules_meaning.specs.Answers.{Answer, Gives, ◌>>=◌, blaming}
use Rattle.gq_rules_meaning.specs.Built.{built_print}
use Rattle.gq_rules_meaning.specs.Calendars.{Calendar}
use Rattle.gq_rules_meaning.specs.Expressions.{World}
use Rattle.gq_rules_meaning.specs.Outs.{Out}
use Rattle.gq_rules_meaning.specs.States.{State}
use Rattle.gq_rules_meaning.specs.Statements.{Evaluation}
use Rattle.gq_rules_meaning.specs.Runs.{run}
use Rattle.gq_plan_ir.specs.Reference.{Reference}
use Rattle.gq_eval_operand.specs.declared.halt.Halt.{Halt}
use Rattle.gq_frame.specs.declared.frame.Frame.{Frame}
use Rattle.gq_frame.specs.Shows.{Shows}
use Rattle.gq_eval_context.specs.Viewed.{Over}
use Rattle.gq_eval_context.specs.Looks.{world_over}
use Rattle.gq_frame.specs.Slots.{AreSound}
use Rattle.gq_frame.specs.declared.live.Live.{Live}
use Rattle.gq_frame.specs.Lives.{Lives}
use Rattle.gq_exec_control.specs.declared.running.Running.{Running}
use Rattle.gq_exec_control.specs.declared.running.RunFault.{RunFault}
use Rattle.gq_exec_control.specs.Standing.{Does}
use Rattle.gq_exec_control.proofs.FaultLemmas.{ends_bind}
use Rattle.gq_output.specs.Prints.{Prints}
use Rattle.gq_exec_control.specs.Faults.{faults_of}
use Rattle.gq_exec_control.specs.Contexts.{Basis, over_of, world_on}
use Rattle.gq_exec_control.proofs.ContextLemmas.{ends_told, shows_of}
use Rattle.gq_flow.specs.Steps.{PrintsOn, PrintsOne, PrintsSo, members_of}

-- the object that one PRINT prints over a frame
pub prints_over : (clock : Calendar) (b : Basis) (f : Frame) (items : List (plain.Printed Reference)) (told : Result Printed Halt) (o : Over) → o ≡ over_of b f
    → ((s : State Reference) → Shows o.frame s → Prints (members_of (world_over clock o) s items) told) → PrintsOn (world_on clock b) items f told
prints_over clock b f items told o e h = subst (λ (x : Over). PrintsOn (world_over clock x) items x.frame told) e (record { each = h })

told_one : (o : Answer Wrong (List (Bytes × Out))) (told : Result Printed Halt) → Prints o told → PrintsSo (blaming Evaluation o) (faults_of told)
told_one o (Ok p) t = (t.members, ap (blaming Evaluation) t.gives, t.built)
told_one o (Err h) t = ends_told o h t

pub one_printed : (world : World Reference) (items : List (plain.Printed Reference)) (f : Frame) (told : Result Printed Halt) (r : Result Printed RunFault) → r ≡ faults_of told → PrintsOn world items f told → PrintsOne world items f r
one_printed world items f told r e p = record { each = λ s shows. subst (PrintsSo (blaming Evaluation (members_of world s items))) (sym e) (told_one (members_of world s items) told (p.each s shows)) }

module _ (world : World Reference) (items : List (plain.Printed Reference)) (old new : Running) where
  pub print_stops : (e : RunFault) → PrintsOne world items old.live.frame (Err e) → Does (run world (plain.Print items)) old new (Err e)
  print_stops e p = record {
    each = λ q s.
        ends_bind (blaming Evaluation (members_of world q.state items)) (λ ms. Gives (record q { printed = q.printed ++ ms ∷ [] })) e (p.each q.state (shows_of old.live q.state s.lives));
  }

  pub print_done : (object : Printed) → PrintsOne world items old.live.frame (Ok object) → new.live ≡ old.live → new.turns ≡ old.turns → new.printed ≡ old.printed ++ object ∷ [] → Does (run world (plain.Print items)) old new (Ok tt)
  print_done object p live turns printed = record {
    each = λ q s.
        let m = p.each q.state (shows_of old.live q.state s.lives) in (
          record q { printed = q.printed ++ m.0 ∷ [] },
          ap (λ o. o >>= λ ms. Gives (record q { printed = q.printed ++ ms ∷ [] })) m.1,
          record {
            lives = subst (λ l. Lives l q.state) (sym live) s.lives;
            turns = turns ∙ s.turns;
            printed =
                ap (map (λ (p : Printed). p.members)) printed ∙ map-append (λ (p : Printed). p.members) old.printed (object ∷ [])
                ∙ ap₂ (λ xs x. xs ++ x ∷ []) s.printed m.2 ∙ sym (map-append built_print q.printed (m.0 ∷ []));
            sound = subst (λ (l : Live). AreSound l.frame.accums) (sym live) s.sound;
          },
        );
  }
