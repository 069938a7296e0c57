-- MisfitLemmas: calls with a wrong number of arguments have no result.
use Rattle.std.proofs.Common.{◌≡◌, ℕ, suc, ◌<◌, ◌≤◌, ◌+◌, List, [], ◌∷◌, drop, map, length, get_or, Option, Some, None, refl, sym, ap, subst, ◌∙◌, arith}
use Rattle.std.proofs.lemmas.List.{drop_more, drop_all}
use Rattle.std.proofs.lemmas.Option.{slice_get_within, get_or_from_slice_get}
use Rattle.std.specs.List.{slice_get}
use Rattle.std.specs.Borrow.{Bor}
use Rattle.std.specs.Prelude.{zero}
use Rattle.gq_tree.specs.Tree.{Call, Method, Tree, Trees, no_tree, tree}
use Rattle.gq_value.specs.declared.kind.BaseType.{BaseType}
use Rattle.gq_value.specs.declared.value.Wrong.{Wrong}
use Rattle.gq_value.specs.Val.{Val}
use Rattle.gq_value.specs.Accums.{Base, INT}
use Rattle.gq_rules_typing.specs.Words.{Function, Makes, Abs, ToString, ToDatetime, EpochToDatetime, DatetimeToEpoch, DatetimeDiff, DatetimeAdd, PartOf, Contains, function_named}
use Rattle.gq_plan_ir.specs.declared.expr.Expr.{Expr}
use Rattle.gq_plan_ir.specs.Reference.{Reference, Calls, Does}
use Rattle.gq_plan_ir.specs.ExprView.{view, views}
use Rattle.gq_rules_meaning.specs.Answers.{Answer, Gives, Faults, Stuck, ◌>>=◌}
use Rattle.gq_rules_meaning.specs.Calendars.{Calendar}
use Rattle.gq_rules_meaning.specs.Graphs.{Graph}
use Rattle.gq_rules_meaning.specs.Meanings.{Meant, Is, IsAverage, IsContent, IsRow, IsEdge, IsSet, IsMember, Outcome, value_of_meant}
use Rattle.gq_rules_meaning.specs.Calls.{function_wants, function_of, method_wants, method_of, one_wanted}
use Rattle.gq_rules_meaning.specs.Expressions.{Look, setting, meaning, value_of, arguments, wanted, meaning_part}
use Rattle.gq_eval_operand.specs.declared.halt.Halt.{Halt}
use Rattle.gq_eval_operand.specs.Meant.{Halts}
use Rattle.gq_eval_operand.specs.Sound.{IsOwn}
use Rattle.gq_eval_builtins.specs.Elements.{contained_in}
use Rattle.gq_eval_builtins.specs.Steps.{IsSingle, spoiled, want_is, wanted_value}
use Rattle.gq_eval_builtins.proofs.TimeLemmas.{stops}
use Rattle.gq_eval_builtins.proofs.CallSteps.{called_is}
use Rattle.gq_eval_builtins.proofs.ListSteps.{Knows, at_place}
use Rattle.gq_eval_builtins.proofs.MethodSteps.{method_is}

-- ---- what has no result for as many arguments, spoils the call

spoils : (look : Look Reference) (f : List Val → Outcome) (ws : List (Option Base)) (es : List Expr) → ((vs : List Val) → length vs ≡ length es → f vs ≡ Stuck) → (arguments look ws (views es) >>= f) ≡ spoiled look ws (views es)
spoils look f ws [] h = h [] refl
spoils look f [] (e ∷ es) h = refl
spoils look f (w ∷ ws) (e ∷ es) h = go (meaning look (view e) >>= value_of_meant >>= wanted w) (arguments look ws (views es)) (λ v. spoils look (λ vs. f (v ∷ vs)) ws es (λ vs l. h (v ∷ vs) (ap suc l)))
  where
    inner : (v : Val) (o : Answer Wrong (List Val)) → (o >>= λ vs. f (v ∷ vs)) ≡ (o >>= λ vs. Stuck) → ((o >>= λ vs. Gives (v ∷ vs)) >>= f) ≡ ((o >>= λ vs. Gives (v ∷ vs)) >>= λ vs. Stuck)
    inner v (Gives vs) e = e
    inner v (Faults x) e = e
    inner v Stuck e = e

    go : (o : Answer Wrong Val) (p : Answer Wrong (List Val)) → ((v : Val) → (p >>= λ vs. f (v ∷ vs)) ≡ (p >>= λ vs. Stuck))
        → ((o >>= λ v. p >>= λ vs. Gives (v ∷ vs)) >>= f) ≡ ((o >>= λ v. p >>= λ vs. Gives (v ∷ vs)) >>= λ vs. Stuck)
    go (Gives v) p e = inner v p (e v)
    go (Faults x) p e = refl
    go Stuck p e = refl

call_spoils : (look : Look Reference) (g : Function) (es : List Expr) → Knows look → IsOwn g → ((vs : List Val) → length vs ≡ length es → function_of look.world.calendar g vs ≡ Stuck)
    → meaning look (Call (Calls g) (views es)) ≡ spoiled look (function_wants g) (views es)
call_spoils look g es k own h = called_is look (Calls g) (views es) g (k g own) ∙ spoils look (function_of look.world.calendar g) (function_wants g) es h

-- ---- functions

one_only : (clock : Calendar) (g : Function) (vs : List Val) → IsOwn g → function_wants g ≡ None ∷ [] → (length vs ≡ 1 → ⊥) → function_of clock g vs ≡ Stuck
one_only clock g (v ∷ []) own w n = absurd (n refl)
one_only clock (Makes n bs) [] own w l = absurd own
one_only clock (Makes n bs) (v ∷ u ∷ vs) own w l = absurd own
one_only clock Abs [] own w l = refl
one_only clock Abs (v ∷ u ∷ vs) own w l = refl
one_only clock ToString [] own w l = refl
one_only clock ToString (v ∷ u ∷ vs) own w l = refl
one_only clock ToDatetime [] own w l = refl
one_only clock ToDatetime (v ∷ u ∷ vs) own w l = refl
one_only clock EpochToDatetime [] own w l = refl
one_only clock EpochToDatetime (v ∷ u ∷ vs) own w l = refl
one_only clock DatetimeToEpoch [] own w l = refl
one_only clock DatetimeToEpoch (v ∷ u ∷ vs) own w l = refl
one_only clock DatetimeDiff [] own w l = absurd (cc w)
one_only clock DatetimeDiff (v ∷ u ∷ vs) own w l = absurd (cc w)
one_only clock DatetimeAdd [] own w l = absurd (cc w)
one_only clock DatetimeAdd (v ∷ u ∷ vs) own w l = absurd (cc w)
one_only clock (PartOf p) [] own w l = refl
one_only clock (PartOf p) (v ∷ u ∷ vs) own w l = refl

two_only : (clock : Calendar) (vs : List Val) → (length vs ≡ 2 → ⊥) → function_of clock DatetimeDiff vs ≡ Stuck
two_only clock [] n = refl
two_only clock (v ∷ []) n = refl
two_only clock (v ∷ u ∷ []) n = absurd (n refl)
two_only clock (v ∷ u ∷ w ∷ vs) n = refl

three_only : (clock : Calendar) (vs : List Val) → (length vs ≡ 3 → ⊥) → function_of clock DatetimeAdd vs ≡ Stuck
three_only clock [] n = refl
three_only clock (v ∷ []) n = refl
three_only clock (v ∷ u ∷ []) n = refl
three_only clock (v ∷ u ∷ w ∷ []) n = absurd (n refl)
three_only clock (v ∷ u ∷ w ∷ x ∷ vs) n = refl

pub not_one : (look : Look Reference) (f : Reference) (g : Function) (es : List Expr) → Knows look → IsSingle f g → (length es ≡ 1 → ⊥) → meaning look (Call f (views es)) ≡ spoiled look (None ∷ []) (views es)
not_one look f g es k s n = ap (λ f. meaning look (Call f (views es))) s.calls ∙ call_spoils look g es k s.own (λ vs l. one_only look.world.calendar g vs s.own s.wants (λ m. n (sym l ∙ m))) ∙ ap (λ ws. spoiled look ws (views es)) s.wants

pub not_two : (look : Look Reference) (es : List Expr) → Knows look → (length es ≡ 2 → ⊥) → meaning look (Call (Calls DatetimeDiff) (views es)) ≡ spoiled look (None ∷ None ∷ []) (views es)
not_two look es k n = call_spoils look DatetimeDiff es k tt (λ vs l. two_only look.world.calendar vs (λ m. n (sym l ∙ m)))

pub not_three : (look : Look Reference) (es : List Expr) → Knows look → (length es ≡ 3 → ⊥) → meaning look (Call (Calls DatetimeAdd) (views es)) ≡ spoiled look (None ∷ Some INT ∷ None ∷ []) (views es)
not_three look es k n = call_spoils look DatetimeAdd es k tt (λ vs l. three_only look.world.calendar vs (λ m. n (sym l ∙ m)))

-- ---- contains

contains_only : (g : Graph) (m : Meant) (vs : List Val) → (length vs ≡ 1 → ⊥) → method_of g Contains m vs ≡ Stuck
contains_only g m (v ∷ []) n = absurd (n refl)
contains_only g (IsContent k c) [] n = refl
contains_only g (IsContent k c) (v ∷ w ∷ vs) n = refl
contains_only g (Is b x) [] n = refl
contains_only g (Is b x) (v ∷ w ∷ vs) n = refl
contains_only g (IsAverage x) [] n = refl
contains_only g (IsAverage x) (v ∷ w ∷ vs) n = refl
contains_only g (IsRow ps cs) [] n = refl
contains_only g (IsRow ps cs) (v ∷ w ∷ vs) n = refl
contains_only g (IsEdge r t) [] n = refl
contains_only g (IsEdge r t) (v ∷ w ∷ vs) n = refl
contains_only g (IsSet xs) [] n = refl
contains_only g (IsSet xs) (v ∷ w ∷ vs) n = refl
contains_only g (IsMember xs b x) [] n = refl
contains_only g (IsMember xs b x) (v ∷ w ∷ vs) n = refl

contains_wants : (m : Meant) (b : Base) → contained_in m ≡ Some b → method_wants Contains m ≡ Some b ∷ []
contains_wants (IsContent k c) b e = ap one_wanted e
contains_wants (Is d v) b e = absurd (cc)
contains_wants (IsAverage v) b e = absurd (cc)
contains_wants (IsRow ps cs) b e = absurd (cc)
contains_wants (IsEdge r s) b e = absurd (cc)
contains_wants (IsSet vs) b e = absurd (cc)
contains_wants (IsMember vs d v) b e = absurd (cc)

pub not_one_contained : (look : Look Reference) (m : Meant) (b : Base) (es : List Expr) → look.world.words.method (Does Contains) ≡ Some Contains → contained_in m ≡ Some b → (length es ≡ 1 → ⊥)
    → meaning_part look m (Method (Does Contains) (views es)) ≡ spoiled look (Some b ∷ []) (views es)
not_one_contained look m b es k c n = method_is look Contains m (views es) k
    ∙ spoils look (method_of look.world.graph Contains m) (method_wants Contains m) es (λ vs l. contains_only look.world.graph m vs (λ x. n (sym l ∙ x)))
    ∙ ap (λ ws. spoiled look ws (views es)) (contains_wants m b c)

-- ---- argument by argument

-- the same call, from a place on
abbrev pub SpoiledAt : Look Reference → List (Option (Bor BaseType)) → List Expr → ℕ → Type 0
SpoiledAt look ws es i = spoiled look (map want_is ws) (views es) ≡ spoiled look (map want_is (drop i ws)) (views (drop i es))

spoiled_here : (look : Look Reference) (ws : List (Option (Bor BaseType))) (es : List Expr) (i : ℕ) (e : Expr) → SpoiledAt look ws es i → i < length es → e ≡ get_or es i e
    → spoiled look (map want_is ws) (views es) ≡ spoiled look (map want_is (drop i ws)) (tree (view e) (views (drop (i + 1) es)))
spoiled_here look ws es i e inv n is = inv ∙ ap (λ xs. spoiled look (map want_is (drop i ws)) (views xs)) (at_place es i e n is)

none_left : {A : Type 0} (ws : List A) (i : ℕ) → slice_get ws i ≡ None → drop i ws ≡ []
none_left [] zero e = refl
none_left [] (suc i) e = refl
none_left (w ∷ ws) zero e = absurd (cc)
none_left (w ∷ ws) (suc i) e = none_left ws i e

one_left : {A : Type 0} (ws : List A) (i : ℕ) (w : A) → slice_get ws i ≡ Some w → drop i ws ≡ w ∷ drop (i + 1) ws
one_left ws i w e = drop_more ws i w (slice_get_within ws i w e) ∙ ap (λ x. x ∷ drop (i + 1) ws) (get_or_from_slice_get ws i w w e)

pub spoiled_past : (look : Look Reference) (ws : List (Option (Bor BaseType))) (es : List Expr) (i : ℕ) (e : Expr) → SpoiledAt look ws es i → i < length es → e ≡ get_or es i e → slice_get ws i ≡ None
    → spoiled look (map want_is ws) (views es) ≡ Stuck
spoiled_past look ws es i e inv n is past = spoiled_here look ws es i e inv n is ∙ ap (λ ws. spoiled look (map want_is ws) (tree (view e) (views (drop (i + 1) es)))) (none_left ws i past)

spoiled_one : (look : Look Reference) (ws : List (Option (Bor BaseType))) (es : List Expr) (i : ℕ) (e : Expr) (w : Option (Bor BaseType)) → SpoiledAt look ws es i → i < length es → e ≡ get_or es i e → slice_get ws i ≡ Some w
    → spoiled look (map want_is ws) (views es) ≡ (wanted_value look (want_is w) (view e) >>= λ v. spoiled look (map want_is (drop (i + 1) ws)) (views (drop (i + 1) es)))
spoiled_one look ws es i e w inv n is at = spoiled_here look ws es i e inv n is ∙ ap (λ ws. spoiled look (map want_is ws) (tree (view e) (views (drop (i + 1) es)))) (one_left ws i w at)
    ∙ go (wanted_value look (want_is w) (view e)) (arguments look (map want_is (drop (i + 1) ws)) (views (drop (i + 1) es)))
  where
    inner : (v : Val) (o : Answer Wrong (List Val)) → ◌≡◌ {A = Outcome} ((o >>= λ vs. Gives (v ∷ vs)) >>= λ vs. Stuck) (o >>= λ vs. Stuck)
    inner v (Gives vs) = refl
    inner v (Faults x) = refl
    inner v Stuck = refl

    go : (o : Answer Wrong Val) (p : Answer Wrong (List Val)) → ◌≡◌ {A = Outcome} ((o >>= λ v. p >>= λ vs. Gives (v ∷ vs)) >>= λ vs. Stuck) (o >>= λ v. p >>= λ vs. Stuck)
    go (Gives v) p = inner v p
    go (Faults x) p = refl
    go Stuck p = refl

pub spoiled_stops : (look : Look Reference) (ws : List (Option (Bor BaseType))) (es : List Expr) (i : ℕ) (e : Expr) (w : Option (Bor BaseType)) (h : Halt) → SpoiledAt look ws es i → i < length es → e ≡ get_or es i e → slice_get ws i ≡ Some w
    → Halts (wanted_value look (want_is w) (view e)) h → Halts (spoiled look (map want_is ws) (views es)) h
spoiled_stops look ws es i e w h inv n is at p = subst (λ o. Halts o h) (sym (spoiled_one look ws es i e w inv n is at)) (stops (wanted_value look (want_is w) (view e)) _ h p)

pub spoiled_next : (look : Look Reference) (ws : List (Option (Bor BaseType))) (es : List Expr) (i : ℕ) (e : Expr) (w : Option (Bor BaseType)) (v : Val) → SpoiledAt look ws es i → i < length es → e ≡ get_or es i e → slice_get ws i ≡ Some w
    → wanted_value look (want_is w) (view e) ≡ Gives v → SpoiledAt look ws es (i + 1)
spoiled_next look ws es i e w v inv n is at p = spoiled_one look ws es i e w inv n is at ∙ ap (λ o. o >>= λ v. spoiled look (map want_is (drop (i + 1) ws)) (views (drop (i + 1) es))) p

pub spoiled_all : (look : Look Reference) (ws : List (Option (Bor BaseType))) (es : List Expr) (i : ℕ) → SpoiledAt look ws es i → length es ≤ i → spoiled look (map want_is ws) (views es) ≡ Stuck
spoiled_all look ws es i inv l = inv ∙ ap (λ xs. spoiled look (map want_is (drop i ws)) (views xs)) (drop_all i es l)

pub ruleset spoiled_laws = (spoiled_past, spoiled_stops, spoiled_next, spoiled_all)

pub ruleset misfits = (not_one, not_two, not_three, not_one_contained)
