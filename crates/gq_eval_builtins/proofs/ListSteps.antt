-- ListSteps: lists of one, two and three arguments, as the code finds them.
use Rattle.std.proofs.Common.{◌≡◌, ℕ, ◌<◌, ◌≤◌, ◌+◌, Bool, true, false, List, [], ◌∷◌, ◌++◌, drop, map, length, get_or, Result, Some, None, refl, sym, ap, subst, ◌∙◌, arith}
use Rattle.std.specs.List.{slice_get}
use Rattle.std.proofs.lemmas.List.{drop_more}
use Rattle.gq_tree.specs.Tree.{Call, Method, tree}
use Rattle.gq_value.specs.declared.value.Value.{Value}
use Rattle.gq_value.specs.Val.{Val}
use Rattle.gq_value.specs.Views.{val}
use Rattle.gq_value.specs.Accums.{Base}
use Rattle.gq_rules_typing.specs.Words.{Function, DatetimeDiff, DatetimeAdd, Size, Contains, function_named}
use Rattle.gq_plan_ir.specs.declared.expr.Expr.{Expr}
use Rattle.gq_plan_ir.specs.Reference.{Reference, Calls, Does}
use Rattle.gq_plan_ir.specs.ExprView.{view, views}
use Rattle.gq_rules_meaning.specs.Answers.{Gives, Stuck}
use Rattle.gq_rules_meaning.specs.Calendars.{IsCalendar}
use Rattle.gq_rules_meaning.specs.Meanings.{Meant, converted_to}
use Rattle.gq_rules_meaning.specs.Calls.{function_of}
use Rattle.gq_rules_meaning.specs.Expressions.{Look, setting, meaning, value_of, truth_of, arguments, meaning_part, meaning_all, meaning_any}
use Rattle.gq_eval_operand.specs.declared.seen.Seen.{Seen}
use Rattle.gq_eval_operand.specs.declared.halt.Halt.{Halt}
use Rattle.gq_eval_operand.specs.Meant.{meant, Halts, Tells}
use Rattle.gq_eval_operand.specs.Sound.{IsOwn}
use Rattle.gq_eval_builtins.specs.Clock.{ByClock}
use Rattle.gq_eval_builtins.specs.Elements.{size_meant, contains_meant, contained_in}
use Rattle.gq_eval_builtins.specs.Steps.{IsSingle, int_value, true_meant}
use Rattle.gq_eval_builtins.proofs.RunLemmas.{and_stops, or_stops, all_next, any_next, after, row_stuck, row_value_stops, row_converted_stops, row_next}
use Rattle.gq_eval_builtins.proofs.CallSteps.{single_stops, single_goes, diff_first, diff_second, diff_goes, add_first, add_second, add_third, add_goes}
use Rattle.gq_eval_builtins.proofs.MethodSteps.{size_goes, size_stuck, contains_first, contains_second, contains_goes}

-- ---- lists

pub one_list : {A : Type 0} (xs : List A) (x : A) → 1 ≤ length xs → length xs < 2 → x ≡ get_or xs 0 x → xs ≡ x ∷ []
one_list [] x m n h = absurd (omega (arith, m))
one_list (y ∷ []) x m n h = ap (λ z. z ∷ []) (sym h)
one_list (y ∷ z ∷ zs) x m n h = absurd (omega (arith, n))

pub two_list : {A : Type 0} (xs : List A) (x y : A) → 2 ≤ length xs → length xs < 3 → x ≡ get_or xs 0 x → y ≡ get_or xs 1 y → xs ≡ x ∷ y ∷ []
two_list [] x y m n h g = absurd (omega (arith, m))
two_list (a ∷ []) x y m n h g = absurd (omega (arith, m))
two_list (a ∷ b ∷ []) x y m n h g = ap (λ z. z ∷ b ∷ []) (sym h) ∙ ap (λ z. x ∷ z ∷ []) (sym g)
two_list (a ∷ b ∷ c ∷ zs) x y m n h g = absurd (omega (arith, n))

pub three_list : {A : Type 0} (xs : List A) (x y z : A) → 3 ≤ length xs → length xs < 4 → x ≡ get_or xs 0 x → y ≡ get_or xs 1 y → z ≡ get_or xs 2 z → xs ≡ x ∷ y ∷ z ∷ []
three_list [] x y z m n h g f = absurd (omega (arith, m))
three_list (a ∷ []) x y z m n h g f = absurd (omega (arith, m))
three_list (a ∷ b ∷ []) x y z m n h g f = absurd (omega (arith, m))
three_list (a ∷ b ∷ c ∷ []) x y z m n h g f = ap (λ u. u ∷ b ∷ c ∷ []) (sym h) ∙ ap (λ u. x ∷ u ∷ c ∷ []) (sym g) ∙ ap (λ u. x ∷ y ∷ u ∷ []) (sym f)
three_list (a ∷ b ∷ c ∷ d ∷ zs) x y z m n h g f = absurd (omega (arith, n))

pub none_list : {A : Type 0} (xs : List A) → length xs < 1 → xs ≡ []
none_list [] n = refl
none_list (x ∷ xs) n = absurd (omega (arith, n))

-- properties of a look: its words denote themselves, and it has a calendar
abbrev pub Knows : Look Reference → Type 0
Knows look = (f : Function) → IsOwn f → function_named (setting look.world) (Calls f) ≡ Some f

-- ---- functions

pub one_stops : (look : Look Reference) (f : Reference) (g : Function) (es : List Expr) (e : Expr) (h : Halt) → Knows look → IsSingle f g → es ≡ e ∷ [] → Halts (value_of look (view e)) h → Halts (meaning look (Call f (views es))) h
one_stops look f g es e h k s l p = subst (λ es. Halts (meaning look (Call f (views es))) h) (sym l) (single_stops look f g (view e) h s (k g s.own) p)

pub one_goes : (look : Look Reference) (f : Reference) (g : Function) (es : List Expr) (e : Expr) (v : Val) (r : Result Seen Halt) → Knows look → IsCalendar look.world.calendar → IsSingle f g → es ≡ e ∷ [] → value_of look (view e) ≡ Gives v
    → ByClock (λ clock. function_of clock g (v ∷ [])) r → Tells meant (meaning look (Call f (views es))) r
one_goes look f g es e v r k is s l a p = subst (λ es. Tells meant (meaning look (Call f (views es))) r) (sym l) (single_goes look f g (view e) v r s (k g s.own) is a p)

pub two_first : (look : Look Reference) (es : List Expr) (a b : Expr) (h : Halt) → Knows look → es ≡ a ∷ b ∷ [] → Halts (value_of look (view a)) h → Halts (meaning look (Call (Calls DatetimeDiff) (views es))) h
two_first look es a b h k l p = subst (λ es. Halts (meaning look (Call (Calls DatetimeDiff) (views es))) h) (sym l) (diff_first look (view a) (view b) h (k DatetimeDiff tt) p)

pub two_second : (look : Look Reference) (es : List Expr) (a b : Expr) (v : Val) (h : Halt) → Knows look → es ≡ a ∷ b ∷ [] → value_of look (view a) ≡ Gives v → Halts (value_of look (view b)) h → Halts (meaning look (Call (Calls DatetimeDiff) (views es))) h
two_second look es a b v h k l x p = subst (λ es. Halts (meaning look (Call (Calls DatetimeDiff) (views es))) h) (sym l) (diff_second look (view a) (view b) v h (k DatetimeDiff tt) x p)

pub two_goes : (look : Look Reference) (es : List Expr) (a b : Expr) (v w : Val) (r : Result Seen Halt) → Knows look → IsCalendar look.world.calendar → es ≡ a ∷ b ∷ [] → value_of look (view a) ≡ Gives v → value_of look (view b) ≡ Gives w
    → ByClock (λ clock. function_of clock DatetimeDiff (v ∷ w ∷ [])) r → Tells meant (meaning look (Call (Calls DatetimeDiff) (views es))) r
two_goes look es a b v w r k is l x y p = subst (λ es. Tells meant (meaning look (Call (Calls DatetimeDiff) (views es))) r) (sym l) (diff_goes look (view a) (view b) v w r (k DatetimeDiff tt) is x y p)

pub three_first : (look : Look Reference) (es : List Expr) (a b d : Expr) (h : Halt) → Knows look → es ≡ a ∷ b ∷ d ∷ [] → Halts (value_of look (view a)) h → Halts (meaning look (Call (Calls DatetimeAdd) (views es))) h
three_first look es a b d h k l p = subst (λ es. Halts (meaning look (Call (Calls DatetimeAdd) (views es))) h) (sym l) (add_first look (view a) (view b) (view d) h (k DatetimeAdd tt) p)

pub three_second : (look : Look Reference) (es : List Expr) (a b d : Expr) (v : Val) (h : Halt) → Knows look → es ≡ a ∷ b ∷ d ∷ [] → value_of look (view a) ≡ Gives v → Halts (int_value look (view b)) h → Halts (meaning look (Call (Calls DatetimeAdd) (views es))) h
three_second look es a b d v h k l x p = subst (λ es. Halts (meaning look (Call (Calls DatetimeAdd) (views es))) h) (sym l) (add_second look (view a) (view b) (view d) v h (k DatetimeAdd tt) x p)

pub three_third : (look : Look Reference) (es : List Expr) (a b d : Expr) (v w : Val) (h : Halt) → Knows look → es ≡ a ∷ b ∷ d ∷ [] → value_of look (view a) ≡ Gives v → int_value look (view b) ≡ Gives w → Halts (value_of look (view d)) h
    → Halts (meaning look (Call (Calls DatetimeAdd) (views es))) h
three_third look es a b d v w h k l x y p = subst (λ es. Halts (meaning look (Call (Calls DatetimeAdd) (views es))) h) (sym l) (add_third look (view a) (view b) (view d) v w h (k DatetimeAdd tt) x y p)

pub three_goes : (look : Look Reference) (es : List Expr) (a b d : Expr) (v w u : Val) (r : Result Seen Halt) → Knows look → IsCalendar look.world.calendar → es ≡ a ∷ b ∷ d ∷ []
    → value_of look (view a) ≡ Gives v → int_value look (view b) ≡ Gives w → value_of look (view d) ≡ Gives u
    → ByClock (λ clock. function_of clock DatetimeAdd (v ∷ w ∷ u ∷ [])) r → Tells meant (meaning look (Call (Calls DatetimeAdd) (views es))) r
three_goes look es a b d v w u r k is l x y z p = subst (λ es. Tells meant (meaning look (Call (Calls DatetimeAdd) (views es))) r) (sym l) (add_goes look (view a) (view b) (view d) v w u r (k DatetimeAdd tt) is x y z p)

-- ---- methods

some_size : (look : Look Reference) (m : Meant) (es : List Expr) → look.world.words.method (Does Size) ≡ Some Size → 1 ≤ length es → meaning_part look m (Method (Does Size) (views es)) ≡ Stuck
some_size look m [] k n = absurd (omega (arith, n))
some_size look m (e ∷ es) k n = size_stuck look m (view e) (views es) k

pub size_of_some : (look : Look Reference) (m : Meant) (es : List Expr) → look.world.words.method (Does Size) ≡ Some Size → 1 ≤ length es → meaning_part look m (Method (Does Size) (views es)) ≡ Stuck
size_of_some look m es k n = some_size look m es k n

pub size_of_none : (look : Look Reference) (m : Meant) (es : List Expr) (r : Result Seen Halt) → look.world.words.method (Does Size) ≡ Some Size → length es < 1 → Tells meant (size_meant m) r → Tells meant (meaning_part look m (Method (Does Size) (views es))) r
size_of_none look m es r k n p = subst (λ es. Tells meant (meaning_part look m (Method (Does Size) (views es))) r) (sym (none_list es n)) (size_goes look m r k p)

pub contains_one_first : (look : Look Reference) (m : Meant) (b : Base) (es : List Expr) (e : Expr) (h : Halt) → look.world.words.method (Does Contains) ≡ Some Contains → contained_in m ≡ Some b → es ≡ e ∷ [] → Halts (value_of look (view e)) h
    → Halts (meaning_part look m (Method (Does Contains) (views es))) h
contains_one_first look m b es e h k n l p = subst (λ es. Halts (meaning_part look m (Method (Does Contains) (views es))) h) (sym l) (contains_first look m b (view e) h k n p)

pub contains_one_second : (look : Look Reference) (m : Meant) (b : Base) (es : List Expr) (e : Expr) (v : Val) (h : Halt) → look.world.words.method (Does Contains) ≡ Some Contains → contained_in m ≡ Some b → es ≡ e ∷ [] → value_of look (view e) ≡ Gives v → Halts (converted_to b v) h
    → Halts (meaning_part look m (Method (Does Contains) (views es))) h
contains_one_second look m b es e v h k n l a p = subst (λ es. Halts (meaning_part look m (Method (Does Contains) (views es))) h) (sym l) (contains_second look m b (view e) v h k n a p)

pub contains_one_goes : (look : Look Reference) (m : Meant) (b : Base) (es : List Expr) (e : Expr) (v u : Val) (r : Result Seen Halt) → look.world.words.method (Does Contains) ≡ Some Contains → contained_in m ≡ Some b → es ≡ e ∷ [] → value_of look (view e) ≡ Gives v → converted_to b v ≡ Gives u
    → Tells meant (contains_meant m u) r → Tells meant (meaning_part look m (Method (Does Contains) (views es))) r
contains_one_goes look m b es e v u r k n l a d p = subst (λ es. Tells meant (meaning_part look m (Method (Does Contains) (views es))) r) (sym l) (contains_goes look m b (view e) v u r k n a d p)

-- ---- as the code finds them: by lengths and places

pub one_found_stops : (look : Look Reference) (f : Reference) (g : Function) (es : List Expr) (e : Expr) (h : Halt) → Knows look → IsSingle f g → 1 ≤ length es → length es < 2 → e ≡ get_or es 0 e → Halts (value_of look (view e)) h
    → Halts (meaning look (Call f (views es))) h
one_found_stops look f g es e h k s m n i p = one_stops look f g es e h k s (one_list es e m n i) p

pub one_found_goes : (look : Look Reference) (f : Reference) (g : Function) (es : List Expr) (e : Expr) (v : Val) (r : Result Seen Halt) → Knows look → IsCalendar look.world.calendar → IsSingle f g → 1 ≤ length es → length es < 2 → e ≡ get_or es 0 e
    → value_of look (view e) ≡ Gives v → ByClock (λ clock. function_of clock g (v ∷ [])) r → Tells meant (meaning look (Call f (views es))) r
one_found_goes look f g es e v r k is s m n i a p = one_goes look f g es e v r k is s (one_list es e m n i) a p

pub two_found_first : (look : Look Reference) (es : List Expr) (a b : Expr) (h : Halt) → Knows look → 2 ≤ length es → length es < 3 → a ≡ get_or es 0 a → b ≡ get_or es 1 b → Halts (value_of look (view a)) h → Halts (meaning look (Call (Calls DatetimeDiff) (views es))) h
two_found_first look es a b h k m n i j p = two_first look es a b h k (two_list es a b m n i j) p

pub two_found_second : (look : Look Reference) (es : List Expr) (a b : Expr) (v : Val) (h : Halt) → Knows look → 2 ≤ length es → length es < 3 → a ≡ get_or es 0 a → b ≡ get_or es 1 b → value_of look (view a) ≡ Gives v → Halts (value_of look (view b)) h
    → Halts (meaning look (Call (Calls DatetimeDiff) (views es))) h
two_found_second look es a b v h k m n i j x p = two_second look es a b v h k (two_list es a b m n i j) x p

pub two_found_goes : (look : Look Reference) (es : List Expr) (a b : Expr) (v w : Val) (r : Result Seen Halt) → Knows look → IsCalendar look.world.calendar → 2 ≤ length es → length es < 3 → a ≡ get_or es 0 a → b ≡ get_or es 1 b
    → value_of look (view a) ≡ Gives v → value_of look (view b) ≡ Gives w → ByClock (λ clock. function_of clock DatetimeDiff (v ∷ w ∷ [])) r → Tells meant (meaning look (Call (Calls DatetimeDiff) (views es))) r
two_found_goes look es a b v w r k is m n i j x y p = two_goes look es a b v w r k is (two_list es a b m n i j) x y p

-- three arguments, and no more
pub record IsThree (es : List Expr) (a b d : Expr) : Type 0 where
  pub list : es ≡ a ∷ b ∷ d ∷ []

pub three_found : (es : List Expr) (a b d : Expr) → 3 ≤ length es → length es < 4 → a ≡ get_or es 0 a → b ≡ get_or es 1 b → d ≡ get_or es 2 d → IsThree es a b d
three_found es a b d m n i j l = record { list = three_list es a b d m n i j l }

pub three_found_first : (look : Look Reference) (es : List Expr) (a b d : Expr) (h : Halt) → Knows look → IsThree es a b d → Halts (value_of look (view a)) h → Halts (meaning look (Call (Calls DatetimeAdd) (views es))) h
three_found_first look es a b d h k l p = three_first look es a b d h k l.list p

pub three_found_second : (look : Look Reference) (es : List Expr) (a b d : Expr) (v : Val) (h : Halt) → Knows look → IsThree es a b d → value_of look (view a) ≡ Gives v → Halts (int_value look (view b)) h → Halts (meaning look (Call (Calls DatetimeAdd) (views es))) h
three_found_second look es a b d v h k l x p = three_second look es a b d v h k l.list x p

pub three_found_third : (look : Look Reference) (es : List Expr) (a b d : Expr) (v w : Val) (h : Halt) → Knows look → IsThree es a b d → value_of look (view a) ≡ Gives v → int_value look (view b) ≡ Gives w → Halts (value_of look (view d)) h
    → Halts (meaning look (Call (Calls DatetimeAdd) (views es))) h
three_found_third look es a b d v w h k l x y p = three_third look es a b d v w h k l.list x y p

pub three_found_goes : (look : Look Reference) (es : List Expr) (a b d : Expr) (v w u : Val) (r : Result Seen Halt) → Knows look → IsCalendar look.world.calendar → IsThree es a b d
    → value_of look (view a) ≡ Gives v → int_value look (view b) ≡ Gives w → value_of look (view d) ≡ Gives u
    → ByClock (λ clock. function_of clock DatetimeAdd (v ∷ w ∷ u ∷ [])) r → Tells meant (meaning look (Call (Calls DatetimeAdd) (views es))) r
three_found_goes look es a b d v w u r k is l x y z p = three_goes look es a b d v w u r k is l.list x y z p

pub contains_found_first : (look : Look Reference) (m : Meant) (b : Base) (es : List Expr) (e : Expr) (h : Halt) → look.world.words.method (Does Contains) ≡ Some Contains → contained_in m ≡ Some b → 1 ≤ length es → length es < 2 → e ≡ get_or es 0 e
    → Halts (value_of look (view e)) h → Halts (meaning_part look m (Method (Does Contains) (views es))) h
contains_found_first look m b es e h k c n o i p = contains_one_first look m b es e h k c (one_list es e n o i) p

pub contains_found_second : (look : Look Reference) (m : Meant) (b : Base) (es : List Expr) (e : Expr) (v : Val) (h : Halt) → look.world.words.method (Does Contains) ≡ Some Contains → contained_in m ≡ Some b → 1 ≤ length es → length es < 2 → e ≡ get_or es 0 e
    → value_of look (view e) ≡ Gives v → Halts (converted_to b v) h → Halts (meaning_part look m (Method (Does Contains) (views es))) h
contains_found_second look m b es e v h k c n o i a p = contains_one_second look m b es e v h k c (one_list es e n o i) a p

pub contains_found_goes : (look : Look Reference) (m : Meant) (b : Base) (es : List Expr) (e : Expr) (v u : Val) (r : Result Seen Halt) → look.world.words.method (Does Contains) ≡ Some Contains → contained_in m ≡ Some b → 1 ≤ length es → length es < 2 → e ≡ get_or es 0 e
    → value_of look (view e) ≡ Gives v → converted_to b v ≡ Gives u → Tells meant (contains_meant m u) r → Tells meant (meaning_part look m (Method (Does Contains) (views es))) r
contains_found_goes look m b es e v u r k c n o i a d p = contains_one_goes look m b es e v u r k c (one_list es e n o i) a d p

-- ---- AND and OR, at a place of the list of operands

pub at_place : (es : List Expr) (i : ℕ) (e : Expr) → i < length es → e ≡ get_or es i e → drop i es ≡ e ∷ drop (i + 1) es
at_place es i e n is = drop_more es i e n ∙ ap (λ x. x ∷ drop (i + 1) es) (sym is)

all_here : (look : Look Reference) (b d : Bool) (es : List Expr) (i : ℕ) (e : Expr) → meaning_all look (true_meant b) (views es) ≡ meaning_all look (true_meant d) (views (drop i es)) → d ≡ true → i < length es → e ≡ get_or es i e
    → meaning_all look (true_meant b) (views es) ≡ meaning_all look (true_meant true) (tree (view e) (views (drop (i + 1) es)))
all_here look b d es i e inv t n is = inv ∙ ap (λ xs. meaning_all look (true_meant d) (views xs)) (at_place es i e n is) ∙ ap (λ d. meaning_all look (true_meant d) (tree (view e) (views (drop (i + 1) es)))) t

any_here : (look : Look Reference) (b d : Bool) (es : List Expr) (i : ℕ) (e : Expr) → meaning_any look (true_meant b) (views es) ≡ meaning_any look (true_meant d) (views (drop i es)) → d ≡ false → i < length es → e ≡ get_or es i e
    → meaning_any look (true_meant b) (views es) ≡ meaning_any look (true_meant false) (tree (view e) (views (drop (i + 1) es)))
any_here look b d es i e inv t n is = inv ∙ ap (λ xs. meaning_any look (true_meant d) (views xs)) (at_place es i e n is) ∙ ap (λ d. meaning_any look (true_meant d) (tree (view e) (views (drop (i + 1) es)))) t

pub all_stops_at : (look : Look Reference) (b d : Bool) (es : List Expr) (i : ℕ) (e : Expr) (h : Halt) → meaning_all look (true_meant b) (views es) ≡ meaning_all look (true_meant d) (views (drop i es)) → d ≡ true → i < length es → e ≡ get_or es i e
    → Halts (truth_of look (view e)) h → Halts (meaning_all look (true_meant b) (views es)) h
all_stops_at look b d es i e h inv t n is p = subst (λ o. Halts o h) (sym (all_here look b d es i e inv t n is)) (and_stops look (view e) (views (drop (i + 1) es)) h p)

pub any_stops_at : (look : Look Reference) (b d : Bool) (es : List Expr) (i : ℕ) (e : Expr) (h : Halt) → meaning_any look (true_meant b) (views es) ≡ meaning_any look (true_meant d) (views (drop i es)) → d ≡ false → i < length es → e ≡ get_or es i e
    → Halts (truth_of look (view e)) h → Halts (meaning_any look (true_meant b) (views es)) h
any_stops_at look b d es i e h inv t n is p = subst (λ o. Halts o h) (sym (any_here look b d es i e inv t n is)) (or_stops look (view e) (views (drop (i + 1) es)) h p)

pub all_goes_at : (look : Look Reference) (b d f : Bool) (es : List Expr) (i : ℕ) (e : Expr) → meaning_all look (true_meant b) (views es) ≡ meaning_all look (true_meant d) (views (drop i es)) → d ≡ true → i < length es → e ≡ get_or es i e
    → truth_of look (view e) ≡ Gives f → meaning_all look (true_meant b) (views es) ≡ meaning_all look (true_meant f) (views (drop (i + 1) es))
all_goes_at look b d f es i e inv t n is p = all_here look b d es i e inv t n is ∙ all_next look (view e) (views (drop (i + 1) es)) f p

pub any_goes_at : (look : Look Reference) (b d f : Bool) (es : List Expr) (i : ℕ) (e : Expr) → meaning_any look (true_meant b) (views es) ≡ meaning_any look (true_meant d) (views (drop i es)) → d ≡ false → i < length es → e ≡ get_or es i e
    → truth_of look (view e) ≡ Gives f → meaning_any look (true_meant b) (views es) ≡ meaning_any look (true_meant f) (views (drop (i + 1) es))
any_goes_at look b d f es i e inv t n is p = any_here look b d es i e inv t n is ∙ any_next look (view e) (views (drop (i + 1) es)) f p

pub ruleset truth_at = (all_stops_at, any_stops_at, all_goes_at, any_goes_at)

-- ---- rows, at a place of the list of arguments

-- the arguments converted so far, and the remaining ones
abbrev pub RowAt : Look Reference → List Base → List Expr → ℕ → List Val → Type 0
RowAt look ws es i done = arguments look (map Some ws) (views es) ≡ after look done (arguments look (map Some (drop i ws)) (views (drop i es)))

row_here : (look : Look Reference) (ws : List Base) (es : List Expr) (i : ℕ) (e : Expr) (done : List Val) → RowAt look ws es i done → i < length es → e ≡ get_or es i e
    → arguments look (map Some ws) (views es) ≡ after look done (arguments look (map Some (drop i ws)) (tree (view e) (views (drop (i + 1) es))))
row_here look ws es i e done inv n is = inv ∙ ap (λ xs. after look done (arguments look (map Some (drop i ws)) (views xs))) (at_place es i e n is)

pub row_at_stuck : (look : Look Reference) (ws : List Base) (es : List Expr) (i : ℕ) (e : Expr) (done : List Val) → RowAt look ws es i done → i < length es → e ≡ get_or es i e → slice_get ws i ≡ None → arguments look (map Some ws) (views es) ≡ Stuck
row_at_stuck look ws es i e done inv n is s = row_here look ws es i e done inv n is ∙ row_stuck look ws i (view e) (views (drop (i + 1) es)) done s

pub row_at_stops : (look : Look Reference) (ws : List Base) (es : List Expr) (i : ℕ) (e : Expr) (done : List Val) (b : Base) (h : Halt) → RowAt look ws es i done → i < length es → e ≡ get_or es i e → slice_get ws i ≡ Some b
    → Halts (value_of look (view e)) h → Halts (arguments look (map Some ws) (views es)) h
row_at_stops look ws es i e done b h inv n is s p = subst (λ o. Halts o h) (sym (row_here look ws es i e done inv n is)) (row_value_stops look ws i b (view e) (views (drop (i + 1) es)) done h s p)

pub row_at_converted : (look : Look Reference) (ws : List Base) (es : List Expr) (i : ℕ) (e : Expr) (done : List Val) (b : Base) (v : Val) (h : Halt) → RowAt look ws es i done → i < length es → e ≡ get_or es i e → slice_get ws i ≡ Some b
    → value_of look (view e) ≡ Gives v → Halts (converted_to b v) h → Halts (arguments look (map Some ws) (views es)) h
row_at_converted look ws es i e done b v h inv n is s a p = subst (λ o. Halts o h) (sym (row_here look ws es i e done inv n is)) (row_converted_stops look ws i b (view e) (views (drop (i + 1) es)) done v h s a p)

pub row_at_next : (look : Look Reference) (ws : List Base) (es : List Expr) (i : ℕ) (e : Expr) (done : List Val) (b : Base) (v u : Val) → RowAt look ws es i done → i < length es → e ≡ get_or es i e → slice_get ws i ≡ Some b
    → value_of look (view e) ≡ Gives v → converted_to b v ≡ Gives u → RowAt look ws es (i + 1) (done ++ u ∷ [])
row_at_next look ws es i e done b v u inv n is s a d = row_here look ws es i e done inv n is ∙ row_next look ws i b (view e) (views (drop (i + 1) es)) done v u s a d

mapped : (row : List Value) (x : Value) → map val (row ++ x ∷ []) ≡ map val row ++ val x ∷ []
mapped [] x = refl
mapped (y ∷ ys) x = ap (λ z. val y ∷ z) (mapped ys x)

pub row_pushed : (look : Look Reference) (ws : List Base) (es : List Expr) (i : ℕ) (e : Expr) (row new : List Value) (x : Value) (b : Base) (v u : Val) → RowAt look ws es i (map val row) → i < length es → e ≡ get_or es i e → slice_get ws i ≡ Some b
    → value_of look (view e) ≡ Gives v → converted_to b v ≡ Gives u → val x ≡ u → new ≡ row ++ x ∷ [] → RowAt look ws es (i + 1) (map val new)
row_pushed look ws es i e row new x b v u inv n is s a d q w = subst (λ vs. RowAt look ws es (i + 1) vs) (sym (ap (map val) w ∙ mapped row x ∙ ap (λ z. map val row ++ z ∷ []) q)) (row_at_next look ws es i e (map val row) b v u inv n is s a d)

pub ruleset row_at = (row_at_stuck, row_at_stops, row_at_converted, row_pushed)

pub ruleset size_found = (size_of_some, size_of_none)

pub ruleset one_found = (one_found_stops, one_found_goes)

pub ruleset two_found = (two_found_first, two_found_second, two_found_goes)

pub ruleset three_laws = (three_found, three_found_first, three_found_second, three_found_third, three_found_goes)

pub ruleset contains_found = (contains_found_first, contains_found_second, contains_found_goes)
