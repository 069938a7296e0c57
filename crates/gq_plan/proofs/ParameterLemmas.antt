-- ParameterLemmas: parameters, which are planned in reverse order.
use Rattle.std.proofs.Common.{◌≡◌, ◌+◌, ◌<◌, ◌≤◌, ℕ, zero, suc, List, [], ◌∷◌, ◌++◌, length, get_or, drop, map, reverse, Some, None, arith, sym, ap, subst, ◌∙◌}
use Rattle.std.proofs.lemmas.List.{drop_all, reverse-append}
use Rattle.gq_tree.specs.declared.query.ParameterTree.{ParameterTree}
use Rattle.gq_scope.specs.Named.{Named}
use Rattle.gq_rules_typing.specs.Sorts.{Sorts}
use Rattle.gq_rules_typing.specs.Statements as plain
use Rattle.gq_rules_typing.specs.Statements.{Bytes}
use Rattle.gq_rules_typing.specs.StatementViews.{view_base, view_parameter}
use Rattle.gq_plan_ir.specs.declared.plan.Parameter as code
use Rattle.gq_plan_ir.specs.declared.plan.Declared.{Declared}
use Rattle.gq_plan_stmt.specs.Parts.{resolved_base}
use Rattle.gq_plan_stmt.specs.Steps.{new_name}
use Rattle.gq_plan_expr.specs.Found.{globals_of}
use Rattle.gq_plan_laws.specs.PlannedLaws.{no_names, ParametersPlanned}
use Rattle.gq_rules_meaning.proofs.AnswerLaws.{some_inj}
use Rattle.gq_plan.specs.Unplanned.{NoParameters}
use Rattle.gq_plan.proofs.PlaceLemmas.{left_at}

-- the parameters from the nth on are planned, the last one first, and are in view
pub record PlannedFrom (sorts : Sorts) (trees : List ParameterTree) (n : ℕ) (done : List code.Parameter) (m : Named) : Type 0 where
  pub few : n ≤ length trees
  pub planned : ParametersPlanned sorts (map view_parameter (drop n trees)) (reverse done) m

pub from_end : (sorts : Sorts) (trees : List ParameterTree) (n : ℕ) (m : Named) → n ≡ length trees → m ≡ no_names → PlannedFrom sorts trees n [] m
from_end sorts trees n m end none = record {
  few = subst (λ k. n ≤ k) end (omega_le n);
  planned = subst (λ l. ParametersPlanned sorts (map view_parameter l) [] m) (sym (drop_all n trees (subst (λ k. k ≤ n) end (omega_le n)))) none;
}
  where
    omega_le : (k : ℕ) → k ≤ k
    omega_le k = omega arith

pub one_before : (sorts : Sorts) (trees : List ParameterTree) (n k : ℕ) (done : List code.Parameter) (m i : Named) (t : ParameterTree) (b : Declared) (place : ℕ)
    → n ≡ k + 1 → k < length trees → t ≡ get_or trees k t → PlannedFrom sorts trees n done m
    → resolved_base (globals_of sorts [] no_names) (view_base t.base) ≡ Some b → new_name m t.name ≡ Some (i, place)
    → PlannedFrom sorts trees k (done ++ record { base = b; place = place } ∷ []) i
one_before sorts trees n k done m i t b place next low is from base new = record {
  few = omega_weak k (length trees) low;
  planned =
      subst (λ (l : List code.Parameter). ParametersPlanned sorts (map view_parameter (drop k trees)) l i) (sym (reverse-append done (record { base = b; place = place } ∷ [])))
      (subst (λ l. ParametersPlanned sorts (map view_parameter l) (record { base = b; place = place } ∷ reverse done) i) (sym (left_at trees k t low is))
      (base, (m, (subst (λ j. ParametersPlanned sorts (map view_parameter (drop j trees)) (reverse done) m) next from.planned, new))));
}
  where
    omega_weak : (a c : ℕ) → a < c → a ≤ c
    omega_weak a c h = omega (arith, h)

pub all_planned : (sorts : Sorts) (trees : List ParameterTree) (n : ℕ) (done list : List code.Parameter) (m : Named) → n ≤ 0 → PlannedFrom sorts trees n done m → list ≡ reverse done
    → ParametersPlanned sorts (map view_parameter trees) list m
all_planned sorts trees n done list m low from is =
    subst (λ l. ParametersPlanned sorts (map view_parameter trees) l m) (sym is) (subst (λ k. ParametersPlanned sorts (map view_parameter (drop k trees)) (reverse done) m) (zero_is n low) from.planned)
  where
    zero_is : (k : ℕ) → k ≤ 0 → k ≡ 0
    zero_is k h = omega (arith, h)

-- ---- parameters that aren't planned

-- the names in view follow from the parameters
pub parameters_same : (sorts : Sorts) (ps : List (plain.Parameter Bytes)) (qs rs : List code.Parameter) (n m : Named) → ParametersPlanned sorts ps qs n → ParametersPlanned sorts ps rs m → n ≡ m
parameters_same sorts [] [] [] n m h k = h ∙ sym k
parameters_same sorts [] [] (r ∷ rs) n m h k = absurd k
parameters_same sorts [] (q ∷ qs) rs n m h k = absurd h
parameters_same sorts (p ∷ ps) [] rs n m h k = absurd h
parameters_same sorts (p ∷ ps) (q ∷ qs) [] n m h k = absurd k
parameters_same sorts (p ∷ ps) (q ∷ qs) (r ∷ rs) n m h k =
    let same : h.1.0 ≡ k.1.0 = parameters_same sorts ps qs rs h.1.0 k.1.0 h.1.1.0 k.1.1.0 in
    let at : new_name h.1.0 p.name ≡ new_name k.1.0 p.name = ap (λ i. new_name i p.name) same in
    ap (λ (b : Named × ℕ). b.0) (some_inj (sym h.1.1.1 ∙ (at ∙ k.1.1.1)))

no_more : (sorts : Sorts) (p : plain.Parameter Bytes) (ps : List (plain.Parameter Bytes)) → NoParameters sorts ps → NoParameters sorts (p ∷ ps)
no_more sorts p ps never = record { none = go }
  where
    go : (qs : List code.Parameter) (n : Named) → ParametersPlanned sorts (p ∷ ps) qs n → ⊥
    go [] n h = h
    go (q ∷ qs) n h = never.none qs h.1.0 h.1.1.0

none_from : (sorts : Sorts) (k : ℕ) (trees : List ParameterTree) → NoParameters sorts (map view_parameter (drop k trees)) → NoParameters sorts (map view_parameter trees)
none_from sorts zero trees never = never
none_from sorts (suc k) [] never = never
none_from sorts (suc k) (t ∷ trees) never = no_more sorts (view_parameter t) (map view_parameter trees) (none_from sorts k trees never)

pub base_lacks : (sorts : Sorts) (trees : List ParameterTree) (k : ℕ) (t : ParameterTree) → k < length trees → t ≡ get_or trees k t
    → resolved_base (globals_of sorts [] no_names) (view_base t.base) ≡ None → NoParameters sorts (map view_parameter trees)
base_lacks sorts trees k t low is lacks =
    none_from sorts k trees (subst (λ l. NoParameters sorts (map view_parameter l)) (sym (left_at trees k t low is)) (record { none = go }))
  where
    go : (qs : List code.Parameter) (n : Named) → ParametersPlanned sorts (view_parameter t ∷ map view_parameter (drop (k + 1) trees)) qs n → ⊥
    go [] n h = h
    go (q ∷ qs) n h = cc (lacks, h.0)

pub name_taken : (sorts : Sorts) (trees : List ParameterTree) (n k : ℕ) (done : List code.Parameter) (m : Named) (t : ParameterTree)
    → n ≡ k + 1 → k < length trees → t ≡ get_or trees k t → PlannedFrom sorts trees n done m → new_name m t.name ≡ None → NoParameters sorts (map view_parameter trees)
name_taken sorts trees n k done m t next low is from taken =
    none_from sorts k trees (subst (λ l. NoParameters sorts (map view_parameter l)) (sym (left_at trees k t low is)) (record { none = go }))
  where
    go : (qs : List code.Parameter) (i : Named) → ParametersPlanned sorts (view_parameter t ∷ map view_parameter (drop (k + 1) trees)) qs i → ⊥
    go [] i h = h
    go (q ∷ qs) i h =
        let same : h.1.0 ≡ m =
        parameters_same sorts (map view_parameter (drop (k + 1) trees)) qs (reverse done) h.1.0 m h.1.1.0 (subst (λ j. ParametersPlanned sorts (map view_parameter (drop j trees)) (reverse done) m) next from.planned) in
        let at : new_name h.1.0 t.name ≡ None = ap (λ j. new_name j t.name) same ∙ taken in
        cc (at, h.1.1.1)

pub ruleset parameter_laws = (from_end, one_before, all_planned, base_lacks, name_taken)
