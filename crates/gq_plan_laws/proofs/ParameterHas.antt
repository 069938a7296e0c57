-- ParameterHas: parameters that have a plan, from the last one on.
use Rattle.std.proofs.Common.{◌≡◌, ℕ, Bool, true, false, List, [], ◌∷◌, Option, Some, None, Ok, refl, sym, ap, subst, ◌∙◌}
use Rattle.std.specs.Prelude.{if◌then◌else◌, bytes_eq}
use Rattle.gq_value.specs.Accums.{Base}
use Rattle.gq_scope.specs.declared.places.NameBinding.{NameBinding}
use Rattle.gq_scope.specs.Named.{Named, seen_at, with_name}
use Rattle.gq_rules_typing.specs.Statements.{Bytes, Parameter}
use Rattle.gq_rules_typing.specs.Sorts.{Sorts}
use Rattle.gq_rules_typing.specs.Judging.{Mismatch, ◌>>◌, unless, through_judged}
use Rattle.gq_rules_typing.specs.Scopes.{Entry, Variable, Scope, entry, with_entry, new_name, base_written}
use Rattle.gq_rules_typing.specs.QueryTypes.{good_default, typing_parameter}
use Rattle.gq_rules_meaning.proofs.AnswerLaws.{then_ok, after_ok, ok_inj}
use Rattle.gq_plan_ir.specs.declared.plan.Parameter as code
use Rattle.gq_plan_stmt.specs.Steps.{when_new}
use Rattle.gq_plan_expr.specs.Found.{globals_of}
use Rattle.gq_plan_laws.specs.Planned.{setting_of}
use Rattle.gq_plan_laws.specs.PlannedLaws.{no_names, ParametersPlanned}
use Rattle.gq_plan_laws.specs.Shown.{InView, IsShown, Shows}
use Rattle.gq_plan_laws.proofs.HasLemmas.{same_bytes, same_itself, entry_none, written_has, words_in}

-- a name after parameters, by whether it is one of them
abbrev Told : Option NameBinding → Option Entry → Option Entry → Bool → Type 0
Told o before behind true = InView o false × (((b : Base) × (behind ≡ Some (Variable b))) × (before ≡ None))
Told o before behind false = (o ≡ None) × (behind ≡ before)

abbrev IsTold : Option NameBinding → Option Entry → Option Entry → Type 0
IsTold o before behind = (b : Bool) × Told o before behind b

-- one parameter before the others
told_more : (q r : Bool) → q ≡ r → (p : ℕ) (o : Option NameBinding) (before behind : Option Entry) (b : Base) → (q ≡ true → before ≡ None) → IsTold o (if r then Some (Variable b) else before) behind
    → IsTold (if q then Some (record { place = p; marked = false }) else o) before behind
told_more true true e p o before behind b new (true, h) = let i = h.1.1 in absurd (cc i)
told_more true true e p o before behind b new (false, h) = (true, ((p, refl), ((b, h.1), new refl)))
told_more false false e p o before behind b new h = h
told_more q r e p o before behind b new h = absurd (cc e)

-- the name of a parameter isn't taken by a later one
told_none : (o : Option NameBinding) (before behind : Option Entry) (b : Base) → before ≡ Some (Variable b) → IsTold o before behind → o ≡ None
told_none o before behind b e (true, h) = let i = h.1.1 in absurd (cc (e, i))
told_none o before behind b e (false, h) = h.0

pub record ParametersHave (sorts : Sorts) (ps : List (Parameter Bytes)) (s t : Scope Bytes) : Type 0 where
  pub planned : List code.Parameter
  pub names : Named
  pub are : ParametersPlanned sorts ps planned names
  pub setting : t.setting ≡ s.setting
  pub told : (x : Bytes) → IsTold (seen_at names x) (entry s x) (entry t x)

pub parameters_have : (sorts : Sorts) (ps : List (Parameter Bytes)) (s t : Scope Bytes) → s.setting ≡ setting_of sorts [] → through_judged typing_parameter s ps ≡ Ok t → ParametersHave sorts ps s t
parameters_have sorts [] s t z h =
    subst (λ t. ParametersHave sorts [] s t) (ok_inj h) (record { planned = []; names = no_names; are = refl; setting = refl; told = λ x. (false, (refl, refl)) })
parameters_have sorts (p ∷ ps) s t z h =
    let u = then_ok (typing_parameter s p) _ t h in
    let a = then_ok (base_written s p.base) _ u.0 u.1 in
    let c = after_ok (new_name s p.name >> unless Mismatch (good_default a.0 p.default)) (Ok (with_entry p.name (Variable a.0) s)) u.0 a.2 in
    let d = after_ok (new_name s p.name) (unless Mismatch (good_default a.0 p.default)) c.0.0 c.0.1 in
    let new : entry s p.name ≡ None = entry_none s p.name d.0.0 d.0.1 in
    let r = parameters_have sorts ps (with_entry p.name (Variable a.0) s) t z (subst (λ w. through_judged typing_parameter w ps ≡ Ok t) (sym (ok_inj c.1)) u.2) in
    let base = written_has (globals_of sorts [] no_names) s (words_in sorts [] no_names s z) p.base a.0 a.1 in
    let same : (x : Bytes) → bytes_eq p.name x ≡ s.setting.words.same p.name x = λ x. ap (λ w. w.words.same p.name x) (sym z) in
    let first : entry (with_entry p.name (Variable a.0) s) p.name ≡ Some (Variable a.0) = ap (λ (q : Bool). if q then Some (Variable a.0) else entry s p.name) (sym (same p.name) ∙ same_itself p.name) in
    let free : seen_at r.names p.name ≡ None = told_none (seen_at r.names p.name) _ (entry t p.name) a.0 first (r.told p.name) in
    record {
      planned = record { base = base.0; place = r.names.next } ∷ r.planned;
      names = with_name r.names p.name false;
      are = (base.1, (r.names, (r.are, ap (λ o. when_new o (with_name r.names p.name false, r.names.next)) free)));
      setting = r.setting;
      told = λ x.
          told_more (bytes_eq p.name x) (s.setting.words.same p.name x) (same x) r.names.next (seen_at r.names x) (entry s x) (entry t x) a.0 (λ q. subst (λ y. entry s y ≡ None) (same_bytes p.name x q) new) (r.told x);
    }

-- if nothing was visible before, as much is shown
pub told_shown : (slot : Option ℕ) (o : Option NameBinding) (e : Option Entry) → IsTold o None e → IsShown slot o e
told_shown slot o e (true, h) = subst (IsShown slot o) (sym h.1.0.1) h.0
told_shown slot o e (false, h) = subst (IsShown slot o) (sym h.1) h.0

pub parameters_shown : (sorts : Sorts) (ps : List (Parameter Bytes)) (s t : Scope Bytes) → s.setting ≡ setting_of sorts [] → ((x : Bytes) → entry s x ≡ None) → (p : ParametersHave sorts ps s t) → Shows (globals_of sorts [] no_names) t p.names
parameters_shown sorts ps s t z none p = record {
  words = words_in sorts [] no_names t (p.setting ∙ z);
  names = λ x. told_shown None (seen_at p.names x) (entry t x) (subst (λ o. IsTold (seen_at p.names x) o (entry t x)) (none x) (p.told x));
}
