-- ActPlaceLemmas: what an expression may name, at the scope's own place.
use Rattle.std.proofs.Common.{ℕ, ◌+◌, ◌<◌, ◌≡◌, true, List, length, get_or, drop, Option, Ok, Err, refl, ap, sym, ◌∙◌}
use Rattle.std.proofs.lemmas.List.{drop_more}
use Rattle.gq_value.specs.Accums.{Accum}
use Rattle.gq_tree.specs.declared.select.ActTree.{ActTree}
use Rattle.gq_rules_typing.specs.Statements.{Bytes}
use Rattle.gq_rules_typing.specs.Selecting as plain
use Rattle.gq_rules_typing.specs.SelectViews.{view_act, view_acts}
use Rattle.gq_rules_typing.specs.Judging.{Judged, ◌>>=◌, ◌>>◌}
use Rattle.gq_rules_typing.specs.ActTypes.{one_more, typing_act, typing_post, typing_written}
use Rattle.gq_rules_typing.specs.ExpressionTypes.{Names}
use Rattle.gq_rules_typing.specs.Scopes as typing
use Rattle.gq_rules_typing.specs.Scopes.{names_at}
use Rattle.gq_scope.specs.Held.{Held, scope_in, setting_in, names_in}
use Rattle.gq_check_select.specs.Trees.{change_written, names_one, post_act}

pub names_here : (h : Held) → names_in h ≡ names_at (scope_in h) h.place
unfolding names_in
names_here h = refl

pub ruleset place_laws = (names_here)

-- a change in POST-ACCUM, at the scope's own place
pub change_is : (h : Held) (k : Accum) (change : plain.Change Bytes) → h.place ≡ typing.InPost → change_written (names_in h) k change ≡ typing_written (scope_in h) k change
change_is h k change is = ap (λ (names : Names Bytes). change_written names k change) (names_here h ∙ ap (names_at (scope_in h)) is) ∙ by change
  where
    by : (change : plain.Change Bytes) → change_written (names_at (scope_in h) typing.InPost) k change ≡ typing_written (scope_in h) k change
    by (plain.Adds x) = refl
    by (plain.Puts t) = refl

pub ruleset written_laws = (change_is)

-- one more statement of POST-ACCUM, over byte names
one_alias : (h : Held) (source target : Option Bytes) (n : ℕ) (a : plain.Act Bytes) (rest : plain.Acts Bytes)
    → typing_post (scope_in h) source target n (plain.act_and a rest)
    ≡ (one_more n >>= λ m. typing_act (scope_in h) true m a >>= λ k. names_one source target a >> typing_post (scope_in h) source target k rest)
unfolding scope_in setting_in
one_alias h source target n a rest = refl

regrouped : {A B C D : Type 0} (j : Judged A) (f : A → Judged B) (g : Judged C) (k : B → Judged D)
    → (j >>= λ a. f a >>= λ b. g >> k b) ≡ ((j >>= λ a. f a >>= λ b. g >> Ok b) >>= k)
regrouped {B = B} {C = C} (Ok a) f g k = inner (f a)
  where
    last : (b : B) (i : Judged C) → (i >> k b) ≡ (i >> Ok b >>= k)
    last b (Ok c) = refl
    last b (Err e) = refl

    inner : (i : Judged B) → (i >>= λ b. g >> k b) ≡ ((i >>= λ b. g >> Ok b) >>= k)
    inner (Ok b) = last b g
    inner (Err e) = refl
regrouped (Err e) f g k = refl

pub post_more : (h : Held) (source target : Option Bytes) (n : ℕ) (list : List ActTree) (i : ℕ) (a : ActTree) → i < length list → a ≡ get_or list i a
    → typing_post (scope_in h) source target n (view_acts (drop i list))
    ≡ (post_act (scope_in h) source target n (view_act a) >>= λ k. typing_post (scope_in h) source target k (view_acts (drop (i + 1) list)))
post_more h source target n list i a low at =
    ap (λ (l : List ActTree). typing_post (scope_in h) source target n (view_acts l)) (drop_more list i a low)
    ∙ ap (λ (b : ActTree). typing_post (scope_in h) source target n (plain.act_and (view_act b) (view_acts (drop (i + 1) list)))) (sym at)
    ∙ one_alias h source target n (view_act a) (view_acts (drop (i + 1) list))
    ∙ regrouped (one_more n) (λ m. typing_act (scope_in h) true m (view_act a)) (names_one source target (view_act a))
    (λ k. typing_post (scope_in h) source target k (view_acts (drop (i + 1) list)))
