-- TypedLaws: a well typed expression has a plan.
use Rattle.std.proofs.Common.{◌≡◌, List, [], ◌∷◌, Option, Some, None, Ok, refl, sym, ap, ◌∙◌}
use Rattle.gq_tree.specs.declared.expr.AddSign.{AddSign}
use Rattle.gq_tree.specs.declared.expr.MulSign.{MulSign}
use Rattle.gq_tree.specs.Tree.{Tree, Behind, Trees, Parts, Factors, Terms, Number, Text, Truth, Global, Name, Call, Post, Neg, Mul, Sum, Cmp, Not, And, Or, Field, Method, Attached, Before, no_tree, tree, no_part, part, no_factor, factor, no_term, term}
use Rattle.gq_value.specs.Accums.{Base}
use Rattle.gq_rules_typing.specs.Statements.{Bytes}
use Rattle.gq_rules_typing.specs.Words as words
use Rattle.gq_rules_typing.specs.Words.{function_named, edge_quoted}
use Rattle.gq_rules_typing.specs.Judging.{Typed, Mismatch, NotAllowedHere, UnknownName, ◌>>=◌, ◌>>◌, unless, or_fault, each_judged}
use Rattle.gq_rules_typing.specs.Types.{as_base, alone, stands_for_vertex, has_accums, calculated}
use Rattle.gq_rules_typing.specs.CallTypes.{outdegree_type, method_type}
use Rattle.gq_rules_typing.specs.ExpressionTypes.{Names, before_dot, summed, both_bool, operated, negated, a_bool, typing, typing_all, typing_parts, typing_part, typing_factors, typing_terms, typing_bools}
use Rattle.gq_rules_meaning.proofs.AnswerLaws.{then_ok, after_ok, or_fault_ok}
use Rattle.gq_plan_ir.specs.declared.expr.Expr.{Expr}
use Rattle.gq_plan_ir.specs.declared.expr.Expr.TheVariants as expr
use Rattle.gq_plan_ir.specs.declared.expr.Behind.TheVariants as behind
use Rattle.gq_plan_ir.specs.declared.expr.Method.TheVariants as method
use Rattle.gq_plan_expr.specs.Known.{Known, KnowsAll}
use Rattle.gq_plan_expr.specs.Resolved as plans
use Rattle.gq_plan_expr.specs.Resolved.{degree, called, resolved, resolved_part, resolved_all, resolved_parts, resolved_factors, resolved_terms}
use Rattle.gq_plan_expr.specs.Laws.{TypedLaw}

-- there is a value
abbrev Has : {A : Type 0} → Option A → Type 0
Has {A = A} o = (a : A) × (o ≡ Some a)

with_one : {A B : Type 0} (o : Option A) (f : A → B) → Has o → Has (plans.◌>>=◌ o (λ a. Some (f a)))
with_one o f h = (f h.0, ap (λ o. plans.◌>>=◌ o (λ a. Some (f a))) h.1)

with_both : {A B C : Type 0} (o : Option A) (p : Option B) (f : A → B → C) → Has o → Has p → Has (plans.◌>>=◌ o (λ a. plans.◌>>=◌ p (λ b. Some (f a b))))
with_both o p f h g = (f h.0 g.0, ap (λ o. plans.◌>>=◌ o (λ a. plans.◌>>=◌ p (λ b. Some (f a b)))) h.1 ∙ ap (λ p. plans.◌>>=◌ p (λ b. Some (f h.0 b))) g.1)

module _ (names : Names Bytes) (k : Known) (knows : KnowsAll names k) where
  -- before a dot a name may also be an edge or a set
  dot_has : (t : Tree Bytes) → ((ty : Typed) → typing names t ≡ Ok ty → Has (resolved k t)) → (ty : Typed) → before_dot names t (typing names t) ≡ Ok ty → Has (resolved k t)
  dot_has (Name x) f ty h = with_one (k.place x) expr.Name (knows.named x ty h)
  dot_has (Number n) f ty h = f ty h
  dot_has (Text s) f ty h = f ty h
  dot_has (Truth b) f ty h = f ty h
  dot_has (Global a) f ty h = f ty h
  dot_has (Call g ts) f ty h = f ty h
  dot_has (Post t ps) f ty h = f ty h
  dot_has (Neg n t) f ty h = f ty h
  dot_has (Mul t fs) f ty h = f ty h
  dot_has (Sum t ts) f ty h = f ty h
  dot_has (Cmp s sign t) f ty h = f ty h
  dot_has (Not n t) f ty h = f ty h
  dot_has (And t ts) f ty h = f ty h
  dot_has (Or t ts) f ty h = f ty h

  degree_has : (x : Typed) (ts : Trees Bytes) (ty : Typed) → outdegree_type names.setting.sorts x ts ≡ Ok ty → Has (degree k ts)
  degree_has x no_tree ty h = with_one (k.counted None) (behind.Degree None) knows.all_counted
  degree_has x (tree (Text e) no_tree) ty h =
      let u = after_ok (unless Mismatch (stands_for_vertex x) >> or_fault (UnknownName e) (edge_quoted names.setting.sorts e)) _ ty h in
      let v = after_ok (unless Mismatch (stands_for_vertex x)) (or_fault (UnknownName e) (edge_quoted names.setting.sorts e)) u.0.0 u.0.1 in
      with_one (k.counted (Some e)) (behind.Degree (Some e)) (knows.counted e u.0.0 (or_fault_ok (UnknownName e) (edge_quoted names.setting.sorts e) u.0.0 v.1))
  degree_has x ts ty h = cc

  called_has : (x : Typed) (ts : Trees Bytes) (bs : List Base) (w : words.Method) (ty : Typed) → Has (resolved_all k ts) → method_type names.setting.sorts w x ts bs ≡ Ok ty → Has (called k ts (resolved_all k ts) w)
  called_has x ts bs words.Size ty h g = with_one (resolved_all k ts) (behind.Method method.Size) h
  called_has x ts bs words.Contains ty h g = with_one (resolved_all k ts) (behind.Method method.Contains) h
  called_has x ts bs words.ContainsKey ty h g = with_one (resolved_all k ts) (behind.Method method.ContainsKey) h
  called_has x ts bs words.Get ty h g = with_one (resolved_all k ts) (behind.Method method.Get) h
  called_has x ts bs words.Outdegree ty h g = degree_has x ts ty g

  mutual
    pub has : (t : Tree Bytes) (ty : Typed) → typing names t ≡ Ok ty → Has (resolved k t)
    has (Number n) ty h = (expr.Number n, refl)
    has (Text s) ty h = (expr.Text s, refl)
    has (Truth b) ty h = (expr.Truth b, refl)
    has (Global a) ty h = let u = then_ok (names.global a) _ ty h in with_one (k.slot a) expr.Global (knows.global a u.0 u.1)
    has (Name x) ty h = let u = then_ok (names.named x) alone ty h in with_one (k.place x) expr.Name (knows.named x u.0 u.1)
    has (Call f ts) ty h =
        let u = then_ok (typing_all names ts) _ ty h in
        let v = then_ok (or_fault (UnknownName (names.setting.words.said f)) (function_named names.setting f)) _ ty u.2 in
        with_both (k.function f) (resolved_all k ts) expr.Call (knows.function f v.0 (or_fault_ok _ (function_named names.setting f) v.0 v.1)) (all_have ts u.0 u.1)
    has (Post t ps) ty h =
        let u = then_ok (before_dot names t (typing names t)) _ ty h in with_both (resolved k t) (resolved_parts k ps) expr.Post (dot_has t (has t) u.0 u.1) (parts_have ps u.0 ty u.2)
    has (Neg n t) ty h =
        let u = then_ok (typing names t >>= as_base) (negated n) ty h in let v = then_ok (typing names t) as_base u.0 u.1 in with_one (resolved k t) (expr.Neg n) (has t v.0 v.1)
    has (Mul t fs) ty h = let u = then_ok (typing names t) _ ty h in with_both (resolved k t) (resolved_factors k fs) expr.Mul (has t u.0 u.1) (factors_have fs u.0 ty u.2)
    has (Sum t ts) ty h = let u = then_ok (typing names t) _ ty h in with_both (resolved k t) (resolved_terms k ts) expr.Sum (has t u.0 u.1) (terms_have ts u.0 ty u.2)
    has (Cmp s sign t) ty h =
        let u = then_ok (typing names s) _ ty h in let v = then_ok (typing names t) _ ty u.2 in with_both (resolved k s) (resolved k t) (λ a b. expr.Cmp a sign b) (has s u.0 u.1) (has t v.0 v.1)
    has (Not n t) ty h =
        let u = then_ok (typing names t >>= as_base) a_bool ty h in let v = then_ok (typing names t) as_base u.0 u.1 in with_one (resolved k t) (expr.Not n) (has t v.0 v.1)
    has (And t ts) ty h = let u = then_ok (typing names t) _ ty h in with_both (resolved k t) (resolved_all k ts) expr.And (has t u.0 u.1) (bools_have ts u.0 ty u.2)
    has (Or t ts) ty h = let u = then_ok (typing names t) _ ty h in with_both (resolved k t) (resolved_all k ts) expr.Or (has t u.0 u.1) (bools_have ts u.0 ty u.2)

    all_have : (ts : Trees Bytes) (xs : List Typed) → typing_all names ts ≡ Ok xs → Has (resolved_all k ts)
    all_have no_tree xs h = ([], refl)
    all_have (tree t ts) xs h =
        let u = then_ok (typing names t) _ xs h in let v = then_ok (typing_all names ts) _ xs u.2 in with_both (resolved k t) (resolved_all k ts) (λ e es. e ∷ es) (has t u.0 u.1) (all_have ts v.0 v.1)

    parts_have : (ps : Parts Bytes) (x ty : Typed) → typing_parts names x ps ≡ Ok ty → Has (resolved_parts k ps)
    parts_have no_part x ty h = ([], refl)
    parts_have (part p ps) x ty h = let u = then_ok (typing_part names x p) _ ty h in with_both (resolved_part k p) (resolved_parts k ps) (λ b bs. b ∷ bs) (part_has p x u.0 u.1) (parts_have ps u.0 ty u.2)

    part_has : (p : Behind Bytes) (x ty : Typed) → typing_part names x p ≡ Ok ty → Has (resolved_part k p)
    part_has (Field f) x ty h = (behind.Field (k.field f), refl)
    part_has (Method m ts) x ty h =
        let u = then_ok (typing_all names ts) _ ty h in
        let v = then_ok (or_fault (UnknownName (names.setting.words.said m)) (names.setting.words.method m)) _ ty u.2 in
        let b = then_ok (each_judged as_base u.0) (method_type names.setting.sorts v.0 x ts) ty v.2 in
        let c = called_has x ts b.0 v.0 ty (all_have ts u.0 u.1) b.2 in
        (c.0, ap (λ o. plans.◌>>=◌ o (called k ts (resolved_all k ts))) (sym (knows.method m) ∙ or_fault_ok _ (names.setting.words.method m) v.0 v.1) ∙ c.1)
    part_has (Attached a) x ty h =
        let u = then_ok (unless NotAllowedHere (has_accums x) >> names.attached a) _ ty h in
        let v = after_ok (unless NotAllowedHere (has_accums x)) (names.attached a) u.0 u.1 in with_one (k.slot a) behind.Attached (knows.attached a u.0 v.1)
    part_has (Before a) x ty h =
        let u = then_ok (unless NotAllowedHere (has_accums x) >> names.before a) _ ty h in
        let v = after_ok (unless NotAllowedHere (has_accums x)) (names.before a) u.0 u.1 in with_one (k.slot a) behind.Before (knows.before a u.0 v.1)

    factors_have : (fs : Factors Bytes) (x ty : Typed) → typing_factors names x fs ≡ Ok ty → Has (resolved_factors k fs)
    factors_have no_factor x ty h = ([], refl)
    factors_have (factor sign t fs) x ty h =
        let u = then_ok (typing names t >>= operated calculated x) _ ty h in let v = then_ok (typing names t) (operated calculated x) u.0 u.1 in
        with_both (resolved k t) (resolved_factors k fs) (one_more sign) (has t v.0 v.1) (factors_have fs u.0 ty u.2)
      where
        one_more : MulSign → Expr → List (MulSign × Expr) → List (MulSign × Expr)
        one_more sign e gs = (sign, e) ∷ gs

    terms_have : (ts : Terms Bytes) (x ty : Typed) → typing_terms names x ts ≡ Ok ty → Has (resolved_terms k ts)
    terms_have no_term x ty h = ([], refl)
    terms_have (term sign t ts) x ty h =
        let u = then_ok (typing names t >>= operated (summed sign) x) _ ty h in let v = then_ok (typing names t) (operated (summed sign) x) u.0 u.1 in
        with_both (resolved k t) (resolved_terms k ts) (one_more sign) (has t v.0 v.1) (terms_have ts u.0 ty u.2)
      where
        one_more : AddSign → Expr → List (AddSign × Expr) → List (AddSign × Expr)
        one_more sign e us = (sign, e) ∷ us

    bools_have : (ts : Trees Bytes) (x ty : Typed) → typing_bools names x ts ≡ Ok ty → Has (resolved_all k ts)
    bools_have no_tree x ty h = ([], refl)
    bools_have (tree t ts) x ty h =
        let u = then_ok (typing names t >>= operated both_bool x) _ ty h in let v = then_ok (typing names t) (operated both_bool x) u.0 u.1 in
        with_both (resolved k t) (resolved_all k ts) (λ e es. e ∷ es) (has t v.0 v.1) (bools_have ts u.0 ty u.2)

pub typed_law : TypedLaw
typed_law names k knows t ty h = has names k knows t ty h
