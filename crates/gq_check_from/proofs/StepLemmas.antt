-- StepLemmas: rules on lists of names and of steps, and on walks, in the order of the code's loops.
use Rattle.std.proofs.Common.{inl, inr, eq-eqb, false, ℕ, zero, suc, ◌+◌, ◌<◌, ◌≤◌, ◌==◌, ◌≡◌, length, get_or, drop, map, arith, List, [], ◌∷◌, ◌++◌, true, not, refl, ap, sym, ◌∙◌, Ok, Err}
use Rattle.std.proofs.lemmas.List.{append_assoc, append-nil, drop_more}
use Rattle.std.proofs.lemmas.Bool.{cases_eq}
use Rattle.std.proofs.lemmas.Bool.Decides.{nat_tests}
use Rattle.gq_tree.specs.declared.select.StepTree.{StepTree}
use Rattle.gq_rules_typing.specs.SelectViews.{view_step}
use Rattle.gq_rules_typing.specs.Statements.{Bytes}
use Rattle.gq_rules_typing.specs.Selecting.{Hop, Step}
use Rattle.gq_rules_typing.specs.Judging.{Judged, ◌>>=◌, ◌>>◌, unless, NotAllowedHere, each_judged}
use Rattle.gq_rules_typing.specs.Scopes.{Alias, EdgeAlias, Scope, vertex_type, edge_type}
use Rattle.gq_rules_typing.specs.Patterns.{edge_types}
use Rattle.gq_rules_typing.specs.SelectTypes.{with_alias, all_known, way_known, nameless, is_end, typing_hop, typing_steps}
use Rattle.gq_check_from.specs.Walks.{passes, known_targets, hop_within, step_within}

-- ---- lists, from left to right

-- the earlier results, with those of the rest
abbrev pub after : {A : Type 0} → List A → Judged (List A) → Judged (List A)
after done j = j >>= λ rest. Ok (done ++ rest)

pub after_none : {A : Type 0} (j : Judged (List A)) → j ≡ after [] j
after_none (Ok rest) = refl
after_none (Err e) = refl

pub after_one : {A : Type 0} (done : List A) (a : A) (j : Judged (List A)) → after done (j >>= λ rest. Ok (a ∷ rest)) ≡ after (done ++ a ∷ []) j
after_one done a (Ok rest) = ap Ok (sym (append_assoc done (a ∷ []) rest))
after_one done a (Err e) = refl

pub after_all : {A : Type 0} (done : List A) → after done (Ok []) ≡ Ok done
after_all done = ap Ok (append-nil done)

pub ruleset all_laws = (after_none, after_one, after_all)

-- ---- walks

-- the result of a rule is irrelevant if the next one doesn't read it
passed : {A B : Type 0} (j : Judged A) (k : Judged B) → (j >> k) ≡ (passes j >> k)
passed (Ok a) k = refl
passed (Err e) k = refl

passed_behind : {A B C : Type 0} (i : Judged A) (j : Judged B) (k : Judged C) → (i >> j >> k) ≡ (i >> passes j >> k)
passed_behind (Ok a) j k = passed j k
passed_behind (Err e) j k = refl

-- the same, given a scope
then_same : {A B : Type 0} (j : Judged A) (f g : A → Judged B) → ((a : A) → f a ≡ g a) → (j >>= f) ≡ (j >>= g)
then_same (Ok a) f g same = same a
then_same (Err e) f g same = refl

pub hop_is : (s : Scope Bytes) (ends : List ℕ) (h : Hop Bytes) → typing_hop s ends h ≡ hop_within s ends h
hop_is s ends h =
    then_same (unless NotAllowedHere (not s.with_paths) >> all_known (edge_type s) h.edges >> with_alias h.edge_alias (EdgeAlias (edge_types s.setting h.edges)) s)
    (λ s₁. all_known (vertex_type s₁) h.targets >> with_alias h.target_alias (Alias ends) s₁)
    (λ s₁. known_targets s₁ h.targets >> with_alias h.target_alias (Alias ends) s₁)
    (λ s₁. passed (all_known (vertex_type s₁) h.targets) (with_alias h.target_alias (Alias ends) s₁))
    ∙ ap (λ j. j >>= λ s₁. known_targets s₁ h.targets >> with_alias h.target_alias (Alias ends) s₁)
    (passed_behind (unless NotAllowedHere (not s.with_paths)) (all_known (edge_type s) h.edges) (with_alias h.edge_alias (EdgeAlias (edge_types s.setting h.edges)) s))

bind_bind : {A B C : Type 0} (j : Judged A) (f : A → Judged B) (g : B → Judged C) → (j >>= f >>= g) ≡ (j >>= λ a. f a >>= g)
bind_bind (Ok a) f g = refl
bind_bind (Err e) f g = refl

-- one more step
steps_more : (s : Scope Bytes) (ends : List ℕ) (step : Step Bytes) (rest : List (Step Bytes))
    → typing_steps s ends (step ∷ rest) ≡ (step_within s ends (is_end rest) step >>= λ s₂. typing_steps s₂ ends rest)
steps_more s ends step rest =
    then_same (each_judged (way_known s) step.ways)
    (λ edges. nameless (is_end rest) step.edge_alias >> with_alias step.edge_alias (EdgeAlias edges) s >>= λ s₁. all_known (vertex_type s₁) step.targets >> nameless (is_end rest) step.target_alias >> with_alias step.target_alias (Alias ends) s₁ >>= λ s₂. typing_steps s₂ ends rest)
    (λ edges. nameless (is_end rest) step.edge_alias >> with_alias step.edge_alias (EdgeAlias edges) s >>= λ s₁. known_targets s₁ step.targets >> nameless (is_end rest) step.target_alias >> with_alias step.target_alias (Alias ends) s₁ >>= λ s₂. typing_steps s₂ ends rest)
    (λ edges. then_same (nameless (is_end rest) step.edge_alias >> with_alias step.edge_alias (EdgeAlias edges) s)
    (λ s₁. all_known (vertex_type s₁) step.targets >> nameless (is_end rest) step.target_alias >> with_alias step.target_alias (Alias ends) s₁ >>= λ s₂. typing_steps s₂ ends rest)
    (λ s₁. known_targets s₁ step.targets >> nameless (is_end rest) step.target_alias >> with_alias step.target_alias (Alias ends) s₁ >>= λ s₂. typing_steps s₂ ends rest)
    (λ s₁. ap (λ j. j >> with_alias step.target_alias (Alias ends) s₁ >>= λ s₂. typing_steps s₂ ends rest) (passed (all_known (vertex_type s₁) step.targets) (nameless (is_end rest) step.target_alias))))
    ∙ sym (bind_bind (each_judged (way_known s) step.ways)
    (λ edges. nameless (is_end rest) step.edge_alias >> with_alias step.edge_alias (EdgeAlias edges) s >>= λ s₁. known_targets s₁ step.targets >> nameless (is_end rest) step.target_alias >> with_alias step.target_alias (Alias ends) s₁)
    (λ s₂. typing_steps s₂ ends rest)
    ∙ then_same (each_judged (way_known s) step.ways)
    (λ edges. (nameless (is_end rest) step.edge_alias >> with_alias step.edge_alias (EdgeAlias edges) s >>= λ s₁. known_targets s₁ step.targets >> nameless (is_end rest) step.target_alias >> with_alias step.target_alias (Alias ends) s₁) >>= λ s₂. typing_steps s₂ ends rest)
    (λ edges. nameless (is_end rest) step.edge_alias >> with_alias step.edge_alias (EdgeAlias edges) s >>= λ s₁. known_targets s₁ step.targets >> nameless (is_end rest) step.target_alias >> with_alias step.target_alias (Alias ends) s₁ >>= λ s₂. typing_steps s₂ ends rest)
    (λ edges. bind_bind (nameless (is_end rest) step.edge_alias >> with_alias step.edge_alias (EdgeAlias edges) s)
    (λ s₁. known_targets s₁ step.targets >> nameless (is_end rest) step.target_alias >> with_alias step.target_alias (Alias ends) s₁)
    (λ s₂. typing_steps s₂ ends rest)))

at_end : (list : List StepTree) (n : ℕ) → length list ≤ n → is_end (map view_step (drop n list)) ≡ true
at_end [] zero low = refl
at_end [] (suc n) low = refl
at_end (x ∷ list) zero low = absurd (omega arith)
at_end (x ∷ list) (suc n) low = at_end list n (omega arith)

before_end : (list : List StepTree) (n : ℕ) → n < length list → is_end (map view_step (drop n list)) ≡ false
before_end [] n low = absurd (omega arith)
before_end (x ∷ list) zero low = refl
before_end (x ∷ list) (suc n) low = before_end list n (omega arith)

last_at : (list : List StepTree) (i : ℕ) → i < length list → is_end (map view_step (drop (i + 1) list)) ≡ (i + 1 == length list)
last_at list i low = elim (cases_eq (i + 1) (length list)) [
  | inl e ↦ at_end list (i + 1) (omega arith) ∙ sym (eq-eqb (i + 1) (length list) e)
  | inr other ↦ before_end list (i + 1) (omega arith) ∙ sym (apart (i + 1) (length list) other)
]
  where
    apart : (n m : ℕ) → (n ≡ m → ⊥) → (n == m) ≡ false
    apart n m other = grind (arith, nat_tests)

-- the same for the code's list
pub steps_at : (s : Scope Bytes) (ends : List ℕ) (list : List StepTree) (i : ℕ) (x : StepTree) → i < length list → x ≡ get_or list i x
    → typing_steps s ends (map view_step (drop i list)) ≡ (step_within s ends (i + 1 == length list) (view_step x) >>= λ s₂. typing_steps s₂ ends (map view_step (drop (i + 1) list)))
steps_at s ends list i x low at =
    ap (λ (l : List StepTree). typing_steps s ends (map view_step l)) (drop_more list i x low)
    ∙ ap (λ (y : StepTree). typing_steps s ends (view_step y ∷ map view_step (drop (i + 1) list))) (sym at)
    ∙ steps_more s ends (view_step x) (map view_step (drop (i + 1) list))
    ∙ ap (λ b. step_within s ends b (view_step x) >>= λ s₂. typing_steps s₂ ends (map view_step (drop (i + 1) list))) (last_at list i low)
