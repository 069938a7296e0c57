-- CallSteps: the results of calls, from those of their arguments.
use Rattle.std.proofs.Common.{◌≡◌, ℕ, List, [], ◌∷◌, map, Some, None, Result, refl, sym, ap, subst, ◌∙◌}
use Rattle.gq_tree.specs.Tree.{Tree, Trees, Call, no_tree, tree}
use Rattle.gq_value.specs.declared.value.Wrong.{Wrong}
use Rattle.gq_value.specs.Val.{Val, Tuple, vals_of}
use Rattle.gq_value.specs.Accums.{Base, TUPLE}
use Rattle.gq_value.specs.AccumViews.{bases}
use Rattle.gq_rules_typing.specs.Words.{Function, Makes, Abs, ToString, ToDatetime, EpochToDatetime, DatetimeToEpoch, DatetimeDiff, DatetimeAdd, PartOf, PartOfTime, function_named}
use Rattle.gq_plan_ir.specs.Reference.{Reference, Calls}
use Rattle.gq_rules_meaning.specs.Answers.{Answer, Gives, Faults, Stuck, ◌>>=◌, found}
use Rattle.gq_rules_meaning.specs.Calendars.{IsCalendar}
use Rattle.gq_rules_meaning.specs.Meanings.{Is}
use Rattle.gq_rules_meaning.specs.Calls.{function_wants, function_of}
use Rattle.gq_rules_meaning.specs.Expressions.{Look, setting, meaning, arguments, value_of}
use Rattle.gq_eval_operand.specs.declared.seen.Seen.{Seen}
use Rattle.gq_eval_operand.specs.declared.halt.Halt.{Halt}
use Rattle.gq_eval_operand.specs.Meant.{meant, Halts, Tells}
use Rattle.gq_eval_builtins.specs.Clock.{ByClock}
use Rattle.gq_eval_builtins.proofs.TimeLemmas.{stops}
use Rattle.gq_eval_builtins.specs.Steps.{IsSingle, int_value}
use Rattle.gq_eval_builtins.proofs.RunLemmas.{goes}

pub called_is : {N : Type 0} (look : Look N) (f : N) (ts : Trees N) (g : Function) → function_named (setting look.world) f ≡ Some g → meaning look (Call f ts) ≡ (arguments look (function_wants g) ts >>= function_of look.world.calendar g)
called_is look f ts g e = ap (λ o. found {F = Wrong} o >>= λ g. arguments look (function_wants g) ts >>= function_of look.world.calendar g) e

pub called_stops : {N : Type 0} (look : Look N) (f : N) (ts : Trees N) (g : Function) (h : Halt) → function_named (setting look.world) f ≡ Some g → Halts (arguments look (function_wants g) ts) h → Halts (meaning look (Call f ts)) h
called_stops look f ts g h e p = subst (λ o. Halts o h) (sym (called_is look f ts g e)) (stops (arguments look (function_wants g) ts) _ h p)

pub called_goes : {N : Type 0} (look : Look N) (f : N) (ts : Trees N) (g : Function) (vs : List Val) (r : Result Seen Halt) → function_named (setting look.world) f ≡ Some g → arguments look (function_wants g) ts ≡ Gives vs
    → IsCalendar look.world.calendar → ByClock (λ clock. function_of clock g vs) r → Tells meant (meaning look (Call f ts)) r
called_goes look f ts g vs r e a is p = subst (λ o. Tells meant o r) (sym (called_is look f ts g e)) (goes meant (arguments look (function_wants g) ts) (function_of look.world.calendar g) vs r a (p.each look.world.calendar is))

-- ---- tuples

pub made_stuck : {N : Type 0} (look : Look N) (f : N) (ts : Trees N) → function_named (setting look.world) f ≡ None → meaning look (Call f ts) ≡ Stuck
made_stuck look f ts e = ap (λ o. found {F = Wrong} o >>= λ g. arguments look (function_wants g) ts >>= function_of look.world.calendar g) e

pub made_stops : {N : Type 0} (look : Look N) (f : N) (ts : Trees N) (n : ℕ) (bs : List Base) (h : Halt) → function_named (setting look.world) f ≡ Some (Makes n bs) → Halts (arguments look (map Some bs) ts) h → Halts (meaning look (Call f ts)) h
made_stops look f ts n bs h e p = called_stops look f ts (Makes n bs) h e p

pub made_goes : {N : Type 0} (look : Look N) (f : N) (ts : Trees N) (n : ℕ) (bs : List Base) (vs : List Val) → function_named (setting look.world) f ≡ Some (Makes n bs) → arguments look (map Some bs) ts ≡ Gives vs
    → meaning look (Call f ts) ≡ Gives (Is (TUPLE n (bases bs)) (Tuple (vals_of vs)))
made_goes look f ts n bs vs e a = called_is look f ts (Makes n bs) e ∙ ap (λ o. o >>= function_of look.world.calendar (Makes n bs)) a

pub ruleset made_laws = (made_stuck, made_stops, made_goes)

-- ---- one argument

one_is : {N : Type 0} (look : Look N) (t : Tree N) → arguments look (None ∷ []) (tree t no_tree) ≡ (value_of look t >>= λ v. Gives (v ∷ []))
one_is look t = go (value_of look t)
  where
    go : (o : Answer Wrong Val) → (o >>= (λ v. Gives v) >>= λ v. Gives (v ∷ [])) ≡ (o >>= λ v. Gives (v ∷ []))
    go (Gives v) = refl
    go (Faults w) = refl
    go Stuck = refl

pub single_stops : (look : Look Reference) (f : Reference) (g : Function) (t : Tree Reference) (h : Halt) → IsSingle f g → function_named (setting look.world) (Calls g) ≡ Some g → Halts (value_of look t) h → Halts (meaning look (Call f (tree t no_tree))) h
single_stops look f g t h s e p = called_stops look f (tree t no_tree) g h (ap (function_named (setting look.world)) s.calls ∙ e)
    (subst (λ ws. Halts (arguments look ws (tree t no_tree)) h) (sym s.wants) (subst (λ o. Halts o h) (sym (one_is look t)) (stops (value_of look t) _ h p)))

pub single_goes : (look : Look Reference) (f : Reference) (g : Function) (t : Tree Reference) (v : Val) (r : Result Seen Halt) → IsSingle f g → function_named (setting look.world) (Calls g) ≡ Some g → IsCalendar look.world.calendar → value_of look t ≡ Gives v
    → ByClock (λ clock. function_of clock g (v ∷ [])) r → Tells meant (meaning look (Call f (tree t no_tree))) r
single_goes look f g t v r s e is a p = called_goes look f (tree t no_tree) g (v ∷ []) r (ap (function_named (setting look.world)) s.calls ∙ e)
    (ap (λ ws. arguments look ws (tree t no_tree)) s.wants ∙ one_is look t ∙ ap (λ o. o >>= λ v. Gives (v ∷ [])) a) is p

pub single_abs : IsSingle (Calls Abs) Abs
single_abs = record { own = tt; wants = refl; calls = refl }

pub single_text : IsSingle (Calls ToString) ToString
single_text = record { own = tt; wants = refl; calls = refl }

pub single_time : IsSingle (Calls ToDatetime) ToDatetime
single_time = record { own = tt; wants = refl; calls = refl }

pub single_epoch : IsSingle (Calls EpochToDatetime) EpochToDatetime
single_epoch = record { own = tt; wants = refl; calls = refl }

pub single_seconds : IsSingle (Calls DatetimeToEpoch) DatetimeToEpoch
single_seconds = record { own = tt; wants = refl; calls = refl }

pub single_part : (p : PartOfTime) → IsSingle (Calls (PartOf p)) (PartOf p)
single_part p = record { own = tt; wants = refl; calls = refl }

pub ruleset is_single_laws = (single_abs, single_text, single_time, single_epoch, single_seconds, single_part)

-- ---- two and three arguments

two_is : {N : Type 0} (look : Look N) (s t : Tree N) → arguments look (None ∷ None ∷ []) (tree s (tree t no_tree)) ≡ (value_of look s >>= λ v. value_of look t >>= λ w. Gives (v ∷ w ∷ []))
two_is look s t = go (value_of look s) (value_of look t)
  where
    go : (o p : Answer Wrong Val) → (o >>= (λ v. Gives v) >>= λ v. (p >>= (λ w. Gives w) >>= λ w. Gives (w ∷ [])) >>= λ vs. Gives (v ∷ vs)) ≡ (o >>= λ v. p >>= λ w. Gives (v ∷ w ∷ []))
    go (Gives v) (Gives w) = refl
    go (Gives v) (Faults w) = refl
    go (Gives v) Stuck = refl
    go (Faults w) p = refl
    go Stuck p = refl

pub diff_first : (look : Look Reference) (s t : Tree Reference) (h : Halt) → function_named (setting look.world) (Calls DatetimeDiff) ≡ Some DatetimeDiff → Halts (value_of look s) h → Halts (meaning look (Call (Calls DatetimeDiff) (tree s (tree t no_tree)))) h
diff_first look s t h e p = called_stops look (Calls DatetimeDiff) (tree s (tree t no_tree)) DatetimeDiff h e (subst (λ o. Halts o h) (sym (two_is look s t)) (stops (value_of look s) _ h p))

pub diff_second : (look : Look Reference) (s t : Tree Reference) (v : Val) (h : Halt) → function_named (setting look.world) (Calls DatetimeDiff) ≡ Some DatetimeDiff → value_of look s ≡ Gives v → Halts (value_of look t) h → Halts (meaning look (Call (Calls DatetimeDiff) (tree s (tree t no_tree)))) h
diff_second look s t v h e a p = called_stops look (Calls DatetimeDiff) (tree s (tree t no_tree)) DatetimeDiff h e (subst (λ o. Halts o h) (sym (two_is look s t)) (subst (λ o. Halts (o >>= λ v. value_of look t >>= λ w. Gives (v ∷ w ∷ [])) h) (sym a) (stops (value_of look t) _ h p)))

pub diff_goes : (look : Look Reference) (s t : Tree Reference) (v w : Val) (r : Result Seen Halt) → function_named (setting look.world) (Calls DatetimeDiff) ≡ Some DatetimeDiff → IsCalendar look.world.calendar → value_of look s ≡ Gives v → value_of look t ≡ Gives w
    → ByClock (λ clock. function_of clock DatetimeDiff (v ∷ w ∷ [])) r → Tells meant (meaning look (Call (Calls DatetimeDiff) (tree s (tree t no_tree)))) r
diff_goes look s t v w r e is a b p = called_goes look (Calls DatetimeDiff) (tree s (tree t no_tree)) DatetimeDiff (v ∷ w ∷ []) r e
    (two_is look s t ∙ ap (λ o. o >>= λ v. value_of look t >>= λ w. Gives (v ∷ w ∷ [])) a ∙ ap (λ o. o >>= λ w. Gives (v ∷ w ∷ [])) b) is p

three_is : {N : Type 0} (look : Look N) (s t u : Tree N) → arguments look (function_wants DatetimeAdd) (tree s (tree t (tree u no_tree))) ≡ (value_of look s >>= λ v. int_value look t >>= λ w. value_of look u >>= λ x. Gives (v ∷ w ∷ x ∷ []))
three_is look s t u = go (value_of look s) (int_value look t) (value_of look u)
  where
    go : (o p q : Answer Wrong Val) → (o >>= (λ v. Gives v) >>= λ v. (p >>= λ w. (q >>= (λ x. Gives x) >>= λ x. Gives (x ∷ [])) >>= λ vs. Gives (w ∷ vs)) >>= λ vs. Gives (v ∷ vs)) ≡ (o >>= λ v. p >>= λ w. q >>= λ x. Gives (v ∷ w ∷ x ∷ []))
    go (Gives v) (Gives w) (Gives x) = refl
    go (Gives v) (Gives w) (Faults x) = refl
    go (Gives v) (Gives w) Stuck = refl
    go (Gives v) (Faults w) q = refl
    go (Gives v) Stuck q = refl
    go (Faults w) p q = refl
    go Stuck p q = refl

pub add_first : (look : Look Reference) (s t u : Tree Reference) (h : Halt) → function_named (setting look.world) (Calls DatetimeAdd) ≡ Some DatetimeAdd → Halts (value_of look s) h → Halts (meaning look (Call (Calls DatetimeAdd) (tree s (tree t (tree u no_tree))))) h
add_first look s t u h e p = called_stops look (Calls DatetimeAdd) (tree s (tree t (tree u no_tree))) DatetimeAdd h e (subst (λ o. Halts o h) (sym (three_is look s t u)) (stops (value_of look s) _ h p))

pub add_second : (look : Look Reference) (s t u : Tree Reference) (v : Val) (h : Halt) → function_named (setting look.world) (Calls DatetimeAdd) ≡ Some DatetimeAdd → value_of look s ≡ Gives v → Halts (int_value look t) h → Halts (meaning look (Call (Calls DatetimeAdd) (tree s (tree t (tree u no_tree))))) h
add_second look s t u v h e a p = called_stops look (Calls DatetimeAdd) (tree s (tree t (tree u no_tree))) DatetimeAdd h e (subst (λ o. Halts o h) (sym (three_is look s t u))
    (subst (λ o. Halts (o >>= λ v. int_value look t >>= λ w. value_of look u >>= λ x. Gives (v ∷ w ∷ x ∷ [])) h) (sym a) (stops (int_value look t) _ h p)))

pub add_third : (look : Look Reference) (s t u : Tree Reference) (v w : Val) (h : Halt) → function_named (setting look.world) (Calls DatetimeAdd) ≡ Some DatetimeAdd → value_of look s ≡ Gives v → int_value look t ≡ Gives w → Halts (value_of look u) h
    → Halts (meaning look (Call (Calls DatetimeAdd) (tree s (tree t (tree u no_tree))))) h
add_third look s t u v w h e a b p = called_stops look (Calls DatetimeAdd) (tree s (tree t (tree u no_tree))) DatetimeAdd h e (subst (λ o. Halts o h) (sym (three_is look s t u))
    (subst (λ o. Halts (o >>= λ v. int_value look t >>= λ w. value_of look u >>= λ x. Gives (v ∷ w ∷ x ∷ [])) h) (sym a)
    (subst (λ o. Halts (o >>= λ w. value_of look u >>= λ x. Gives (v ∷ w ∷ x ∷ [])) h) (sym b) (stops (value_of look u) _ h p))))

pub add_goes : (look : Look Reference) (s t u : Tree Reference) (v w x : Val) (r : Result Seen Halt) → function_named (setting look.world) (Calls DatetimeAdd) ≡ Some DatetimeAdd → IsCalendar look.world.calendar
    → value_of look s ≡ Gives v → int_value look t ≡ Gives w → value_of look u ≡ Gives x
    → ByClock (λ clock. function_of clock DatetimeAdd (v ∷ w ∷ x ∷ [])) r → Tells meant (meaning look (Call (Calls DatetimeAdd) (tree s (tree t (tree u no_tree))))) r
add_goes look s t u v w x r e is a b d p = called_goes look (Calls DatetimeAdd) (tree s (tree t (tree u no_tree))) DatetimeAdd (v ∷ w ∷ x ∷ []) r e
    (three_is look s t u ∙ ap (λ o. o >>= λ v. int_value look t >>= λ w. value_of look u >>= λ x. Gives (v ∷ w ∷ x ∷ [])) a ∙ ap (λ o. o >>= λ w. value_of look u >>= λ x. Gives (v ∷ w ∷ x ∷ [])) b
    ∙ ap (λ o. o >>= λ x. Gives (v ∷ w ∷ x ∷ [])) d) is p

pub ruleset single_laws = (single_stops, single_goes)

pub ruleset difference_laws = (diff_first, diff_second, diff_goes)

pub ruleset later_laws = (add_first, add_second, add_third, add_goes)
