-- WholeLemmas: items one after the other, and the whole PRINT.
use Rattle.std.proofs.Common.{◌≡◌, ℕ, ◌+◌, ◌<◌, ◌≤◌, List, [], ◌∷◌, ◌++◌, map, length, get_or, refl, sym, ap, subst, ◌∙◌}
use Rattle.std.specs.Prelude.{Ok, Err}
use Rattle.gq_value.specs.declared.value.Wrong.{Wrong}
use Rattle.gq_json.specs.declared.out.Out as json
use Rattle.gq_json.specs.declared.out.Printed.{Printed}
use Rattle.gq_rules_typing.specs.Statements.{Bytes}
use Rattle.gq_rules_meaning.specs.Answers.{Answer, Gives, Faults, Stuck, ◌>>=◌, each}
use Rattle.gq_rules_meaning.specs.Built.{built_print}
use Rattle.gq_rules_meaning.specs.Calendars.{Calendar}
use Rattle.gq_rules_meaning.specs.Outs.{Out}
use Rattle.gq_rules_meaning.specs.Printing.{printed}
use Rattle.gq_rules_meaning.specs.States.{State}
use Rattle.gq_plan_ir.specs.declared.step.PrintItem.{PrintItem}
use Rattle.gq_plan_ir.specs.PlanView.{view_item}
use Rattle.gq_plan_ir.specs.Reference.{Reference}
use Rattle.gq_eval_operand.specs.declared.halt.Halt.{Halt}
use Rattle.gq_eval_operand.specs.declared.halt.Halt.TheVariants as halt
use Rattle.gq_eval_operand.specs.Meant.{Halts}
use Rattle.gq_frame.specs.Shows.{Shows}
use Rattle.gq_eval_context.specs.Viewed.{Over}
use Rattle.gq_eval_context.specs.Looks.{world_over}
use Rattle.gq_output.proofs.EachLemmas.{EachFrom, each_first}
use Rattle.gq_output.specs.Items.{value_at, key_in, keyed_shown}
use Rattle.gq_output.specs.Prints.{IsPrinted, Prints}
use Rattle.gq_output.proofs.EachSteps.{keyed_next, keyed_stops, keyed_all}
use Rattle.gq_output.proofs.StateLemmas.{all_printed}

module _ (clock : Calendar) (s : Over) where
  abbrev pub ItemsFrom : List PrintItem → ℕ → List (Bytes × json.Out) → Type 0
  ItemsFrom items i done = EachFrom (keyed_shown clock s) items i done

  pub items_first : (items : List PrintItem) → ItemsFrom items 0 []
  items_first items = each_first (keyed_shown clock s) items

  pub items_next : (items : List PrintItem) (i : ℕ) (x : PrintItem) (done new : List (Bytes × json.Out)) (key : Bytes) (o : json.Out) → ItemsFrom items i done → i < length items → x ≡ get_or items i x
      → value_at clock s x ≡ Gives o → key ≡ key_in x → new ≡ done ++ (key, o) ∷ [] → ItemsFrom items (i + 1) new
  items_next items i x done new key o inv l e h k is = keyed_next (value_at clock s) key_in items i x done new o inv l e h (is ∙ ap (λ k. done ++ (k, o) ∷ []) k)

  pub items_stop : (items : List PrintItem) (i : ℕ) (x : PrintItem) (done : List (Bytes × json.Out)) (h : Halt) → ItemsFrom items i done → i < length items → x ≡ get_or items i x → Halts (value_at clock s x) h → Halts (each (keyed_shown clock s) items) h
  items_stop items i x done h inv l e g = keyed_stops (value_at clock s) key_in items i x done h inv l e g

  pub items_all : (items : List PrintItem) (i : ℕ) (done : List (Bytes × json.Out)) → ItemsFrom items i done → length items ≤ i → each (keyed_shown clock s) items ≡ Gives done
  items_all items i done inv l = keyed_all (value_at clock s) key_in items i done inv l

pub ruleset member_laws = (items_first, items_next, items_stop, items_all)

-- ---- with the state

given_back : (o : Answer Wrong (List (Bytes × Out))) (p : Printed) → (o >>= λ ms. Gives (built_print ms)) ≡ Gives p.members → IsPrinted o p
given_back (Gives ms) p e = record { members = ms; gives = refl; built = sym (cc e) }
given_back (Faults w) p e = absurd (cc e)
given_back Stuck p e = absurd (cc e)

faults_back : (o : Answer Wrong (List (Bytes × Out))) (w : Wrong) → (o >>= λ ms. Gives (built_print ms)) ≡ Faults w → o ≡ Faults w
faults_back (Gives ms) w e = absurd (cc e)
faults_back (Faults v) w e = cc e
faults_back Stuck w e = absurd (cc e)

stuck_back : (o : Answer Wrong (List (Bytes × Out))) → (o >>= λ ms. Gives (built_print ms)) ≡ Stuck → o ≡ Stuck
stuck_back (Gives ms) e = absurd (cc e)
stuck_back (Faults v) e = absurd (cc e)
stuck_back Stuck e = refl

halts_back : (o : Answer Wrong (List (Bytes × Out))) (h : Halt) → Halts (o >>= λ ms. Gives (built_print ms)) h → Halts o h
halts_back o (halt.Wrong w) e = faults_back o w e
halts_back o halt.Stuck e = stuck_back o e
halts_back o halt.OutOfMemory e = tt

module _ (clock : Calendar) (s : Over) (items : List PrintItem) (state : State Reference) (shows : Shows s.frame state) where
  pub print_given : (p : Printed) → each (keyed_shown clock s) items ≡ Gives p.members → Prints (each (printed (world_over clock s) state) (map view_item items)) (Ok p)
  print_given p h = given_back (each (printed (world_over clock s) state) (map view_item items)) p (all_printed clock s state shows items ∙ h)

  pub print_stops : (h : Halt) → Halts (each (keyed_shown clock s) items) h → Prints (each (printed (world_over clock s) state) (map view_item items)) (Err h)
  print_stops h e = halts_back (each (printed (world_over clock s) state) (map view_item items)) h (subst (λ o. Halts o h) (sym (all_printed clock s state shows items)) e)

pub ruleset print_laws = (print_given, print_stops)
