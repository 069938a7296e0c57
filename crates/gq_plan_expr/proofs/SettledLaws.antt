-- SettledLaws: the precomputed data in the expression of a plan is consistent with what it was derived from.
use Rattle.std.proofs.Common.{◌≡◌, ℕ, Bool, true, List, map, Option, Some, None, refl, sym, ap, ◌∙◌}
use Rattle.std.specs.Prelude.{◌&&◌}
use Rattle.gq_tree.specs.declared.expr.AddSign.{AddSign}
use Rattle.gq_tree.specs.declared.expr.MulSign.{MulSign}
use Rattle.gq_tree.specs.declared.expr.CmpSign.{CmpSign}
use Rattle.gq_tree.specs.Tree.{Tree, Behind, Trees, Parts, Factors, Terms, Number, Text, Truth, Global, Name, Call, Post, Neg, Mul, Sum, Cmp, Not, And, Or, Field, Method, Attached, Before, no_tree, tree, no_part, part, no_factor, factor, no_term, term}
use Rattle.gq_rules_typing.specs.Statements.{Bytes}
use Rattle.gq_rules_typing.specs.Words as words
use Rattle.gq_rules_typing.specs.Words.{Setting}
use Rattle.gq_plan_ir.specs.declared.expr.Expr.{Expr, Expr-F, fold-roll-Expr}
use Rattle.gq_plan_ir.specs.declared.expr.Expr.TheVariants as expr
use Rattle.gq_plan_ir.specs.declared.expr.Behind.{Behind-F, fold-Behind, fold-roll-Behind}
use Rattle.gq_plan_ir.specs.declared.expr.Behind as code
use Rattle.gq_plan_ir.specs.declared.expr.Behind.TheVariants as behind
use Rattle.gq_plan_ir.specs.declared.expr.Field as code_field
use Rattle.gq_plan_ir.specs.declared.expr.Method as code_method
use Rattle.gq_plan_ir.specs.declared.expr.Method.TheVariants as method
use Rattle.gq_plan_ir.specs.declared.expr.Function as code_function
use Rattle.gq_plan_ir.specs.Reference.{Reference}
use Rattle.gq_plan_ir.specs.Settled.{all, counted_types, are_counted, is_field, is_function, expr_step, behind_step, is_settled}
use Rattle.gq_plan_expr.specs.Known.{Known, method_at, IsRight}
use Rattle.gq_plan_expr.specs.Resolved.{degree, called, resolved, resolved_part, resolved_all, resolved_parts, resolved_factors, resolved_terms}
use Rattle.gq_plan_expr.specs.Laws.{SettledLaw}
use Rattle.gq_plan_expr.proofs.PlanLaws.{then_some, some_inj}

both : (a b : Bool) → a ≡ true → b ≡ true → (a && b) ≡ true
both a b h g = cc

module _ (setting : Setting Reference) where
  unfoldable behind_settled : code.Behind → Bool
  behind_settled = fold-Behind Bool Bool (behind_step setting) (expr_step setting)

  abbrev settled_all : List Expr → Bool
  settled_all es = all (map (is_settled setting) es)

  abbrev settled_behinds : List code.Behind → Bool
  settled_behinds bs = all (map behind_settled bs)

  abbrev settled_factors : List (MulSign × Expr) → Bool
  settled_factors fs = all (map {A = MulSign × Bool} (λ f. f.1) (map {A = MulSign × Expr} (λ f. (f.0, is_settled setting f.1)) fs))

  abbrev settled_terms : List (AddSign × Expr) → Bool
  settled_terms ts = all (map {A = AddSign × Bool} (λ t. t.1) (map {A = AddSign × Expr} (λ t. (t.0, is_settled setting t.1)) ts))

  -- ---- one equation for each variant

  settled-Number : (n : ℕ) → is_settled setting (expr.Number n) ≡ true
  unfolding is_settled behind_settled
  settled-Number n = ap (is_settled setting) (sym (expr.rolls-Number n)) ∙ fold-roll-Expr Bool Bool (behind_step setting) (expr_step setting) (Expr-F.Number n)

  settled-Text : (s : Bytes) → is_settled setting (expr.Text s) ≡ true
  unfolding is_settled behind_settled
  settled-Text s = ap (is_settled setting) (sym (expr.rolls-Text s)) ∙ fold-roll-Expr Bool Bool (behind_step setting) (expr_step setting) (Expr-F.Text s)

  settled-Truth : (b : Bool) → is_settled setting (expr.Truth b) ≡ true
  unfolding is_settled behind_settled
  settled-Truth b = ap (is_settled setting) (sym (expr.rolls-Truth b)) ∙ fold-roll-Expr Bool Bool (behind_step setting) (expr_step setting) (Expr-F.Truth b)

  settled-Global : (n : ℕ) → is_settled setting (expr.Global n) ≡ true
  unfolding is_settled behind_settled
  settled-Global n = ap (is_settled setting) (sym (expr.rolls-Global n)) ∙ fold-roll-Expr Bool Bool (behind_step setting) (expr_step setting) (Expr-F.Global n)

  settled-Name : (n : ℕ) → is_settled setting (expr.Name n) ≡ true
  unfolding is_settled behind_settled
  settled-Name n = ap (is_settled setting) (sym (expr.rolls-Name n)) ∙ fold-roll-Expr Bool Bool (behind_step setting) (expr_step setting) (Expr-F.Name n)

  settled-Call : (f : code_function.Function) (es : List Expr) → is_settled setting (expr.Call f es) ≡ (is_function setting f && settled_all es)
  unfolding is_settled behind_settled
  settled-Call f es = ap (is_settled setting) (sym (expr.rolls-Call f es)) ∙ fold-roll-Expr Bool Bool (behind_step setting) (expr_step setting) (Expr-F.Call f es)

  settled-Post : (e : Expr) (bs : List code.Behind) → is_settled setting (expr.Post e bs) ≡ (is_settled setting e && settled_behinds bs)
  unfolding is_settled behind_settled
  settled-Post e bs = ap (is_settled setting) (sym (expr.rolls-Post e bs)) ∙ fold-roll-Expr Bool Bool (behind_step setting) (expr_step setting) (Expr-F.Post e bs)

  settled-Neg : (n : ℕ) (e : Expr) → is_settled setting (expr.Neg n e) ≡ is_settled setting e
  unfolding is_settled behind_settled
  settled-Neg n e = ap (is_settled setting) (sym (expr.rolls-Neg n e)) ∙ fold-roll-Expr Bool Bool (behind_step setting) (expr_step setting) (Expr-F.Neg n e)

  settled-Mul : (e : Expr) (fs : List (MulSign × Expr)) → is_settled setting (expr.Mul e fs) ≡ (is_settled setting e && settled_factors fs)
  unfolding is_settled behind_settled
  settled-Mul e fs = ap (is_settled setting) (sym (expr.rolls-Mul e fs)) ∙ fold-roll-Expr Bool Bool (behind_step setting) (expr_step setting) (Expr-F.Mul e fs)

  settled-Sum : (e : Expr) (ts : List (AddSign × Expr)) → is_settled setting (expr.Sum e ts) ≡ (is_settled setting e && settled_terms ts)
  unfolding is_settled behind_settled
  settled-Sum e ts = ap (is_settled setting) (sym (expr.rolls-Sum e ts)) ∙ fold-roll-Expr Bool Bool (behind_step setting) (expr_step setting) (Expr-F.Sum e ts)

  settled-Cmp : (a : Expr) (s : CmpSign) (b : Expr) → is_settled setting (expr.Cmp a s b) ≡ (is_settled setting a && is_settled setting b)
  unfolding is_settled behind_settled
  settled-Cmp a s b = ap (is_settled setting) (sym (expr.rolls-Cmp a s b)) ∙ fold-roll-Expr Bool Bool (behind_step setting) (expr_step setting) (Expr-F.Cmp a s b)

  settled-Not : (n : ℕ) (e : Expr) → is_settled setting (expr.Not n e) ≡ is_settled setting e
  unfolding is_settled behind_settled
  settled-Not n e = ap (is_settled setting) (sym (expr.rolls-Not n e)) ∙ fold-roll-Expr Bool Bool (behind_step setting) (expr_step setting) (Expr-F.Not n e)

  settled-And : (e : Expr) (es : List Expr) → is_settled setting (expr.And e es) ≡ (is_settled setting e && settled_all es)
  unfolding is_settled behind_settled
  settled-And e es = ap (is_settled setting) (sym (expr.rolls-And e es)) ∙ fold-roll-Expr Bool Bool (behind_step setting) (expr_step setting) (Expr-F.And e es)

  settled-Or : (e : Expr) (es : List Expr) → is_settled setting (expr.Or e es) ≡ (is_settled setting e && settled_all es)
  unfolding is_settled behind_settled
  settled-Or e es = ap (is_settled setting) (sym (expr.rolls-Or e es)) ∙ fold-roll-Expr Bool Bool (behind_step setting) (expr_step setting) (Expr-F.Or e es)

  behind_settled-Field : (f : code_field.Field) → behind_settled (behind.Field f) ≡ is_field setting f
  unfolding is_settled behind_settled
  behind_settled-Field f = ap (behind_settled) (sym (behind.rolls-Field f)) ∙ fold-roll-Behind Bool Bool (behind_step setting) (expr_step setting) (Behind-F.Field f)

  behind_settled-Method : (m : code_method.Method) (es : List Expr) → behind_settled (behind.Method m es) ≡ settled_all es
  unfolding is_settled behind_settled
  behind_settled-Method m es = ap (behind_settled) (sym (behind.rolls-Method m es)) ∙ fold-roll-Behind Bool Bool (behind_step setting) (expr_step setting) (Behind-F.Method m es)

  behind_settled-Degree : (e : Option Bytes) (types : List ℕ) → behind_settled (behind.Degree e types) ≡ are_counted types (counted_types setting.sorts e)
  unfolding is_settled behind_settled
  behind_settled-Degree e types = ap (behind_settled) (sym (behind.rolls-Degree e types)) ∙ fold-roll-Behind Bool Bool (behind_step setting) (expr_step setting) (Behind-F.Degree e types)

  behind_settled-Attached : (n : ℕ) → behind_settled (behind.Attached n) ≡ true
  unfolding is_settled behind_settled
  behind_settled-Attached n = ap (behind_settled) (sym (behind.rolls-Attached n)) ∙ fold-roll-Behind Bool Bool (behind_step setting) (expr_step setting) (Behind-F.Attached n)

  behind_settled-Before : (n : ℕ) → behind_settled (behind.Before n) ≡ true
  unfolding is_settled behind_settled
  behind_settled-Before n = ap (behind_settled) (sym (behind.rolls-Before n)) ∙ fold-roll-Behind Bool Bool (behind_step setting) (expr_step setting) (Behind-F.Before n)

  -- ---- what is planned

  module _ (k : Known) (right : IsRight setting k) where
    by_settled : (e d : Expr) (b : Bool) → ◌≡◌ {A = Option Expr} (Some d) (Some e) → is_settled setting d ≡ b → b ≡ true → is_settled setting e ≡ true
    by_settled e d b h g t = ap (is_settled setting) (sym (some_inj h)) ∙ g ∙ t

    by_behind : (b c : code.Behind) (q : Bool) → ◌≡◌ {A = Option code.Behind} (Some c) (Some b) → behind_settled c ≡ q → q ≡ true → behind_settled b ≡ true
    by_behind b c q h g t = ap behind_settled (sym (some_inj h)) ∙ g ∙ t

    degree_planned : (ts : Trees Bytes) (b : code.Behind) → degree k ts ≡ Some b → behind_settled b ≡ true
    degree_planned no_tree b h = let u = then_some (k.counted None) _ b h in by_behind b (behind.Degree None u.0) _ u.2 (behind_settled-Degree None u.0) (right.counted None u.0 u.1)
    degree_planned (tree t (tree u ts)) b h = cc
    degree_planned (tree (Text s) no_tree) b h = let u = then_some (k.counted (Some s)) _ b h in by_behind b (behind.Degree (Some s) u.0) _ u.2 (behind_settled-Degree (Some s) u.0) (right.counted (Some s) u.0 u.1)
    degree_planned (tree t no_tree) b h = cc

    called_planned : (ts : Trees Bytes) → ((es : List Expr) → resolved_all k ts ≡ Some es → settled_all es ≡ true) → (w : words.Method) (b : code.Behind) → called k ts (resolved_all k ts) w ≡ Some b → behind_settled b ≡ true
    called_planned ts all words.Size b h = let u = then_some (resolved_all k ts) _ b h in by_behind b (behind.Method method.Size u.0) _ u.2 (behind_settled-Method method.Size u.0) (all u.0 u.1)
    called_planned ts all words.Contains b h = let u = then_some (resolved_all k ts) _ b h in by_behind b (behind.Method method.Contains u.0) _ u.2 (behind_settled-Method method.Contains u.0) (all u.0 u.1)
    called_planned ts all words.ContainsKey b h = let u = then_some (resolved_all k ts) _ b h in by_behind b (behind.Method method.ContainsKey u.0) _ u.2 (behind_settled-Method method.ContainsKey u.0) (all u.0 u.1)
    called_planned ts all words.Get b h = let u = then_some (resolved_all k ts) _ b h in by_behind b (behind.Method method.Get u.0) _ u.2 (behind_settled-Method method.Get u.0) (all u.0 u.1)
    called_planned ts all words.Outdegree b h = degree_planned ts b h

    mutual
      pub planned : (t : Tree Bytes) (e : Expr) → resolved k t ≡ Some e → is_settled setting e ≡ true
      planned (Number n) e h = by_settled e (expr.Number n) true h (settled-Number n) refl
      planned (Text s) e h = by_settled e (expr.Text s) true h (settled-Text s) refl
      planned (Truth b) e h = by_settled e (expr.Truth b) true h (settled-Truth b) refl
      planned (Global a) e h = let u = then_some (k.slot a) _ e h in by_settled e (expr.Global u.0) true u.2 (settled-Global u.0) refl
      planned (Name x) e h = let u = then_some (k.place x) _ e h in by_settled e (expr.Name u.0) true u.2 (settled-Name u.0) refl
      planned (Call f ts) e h =
          let u = then_some (k.function f) _ e h in
          let v = then_some (resolved_all k ts) _ e u.2 in
          by_settled e (expr.Call u.0 v.0) _ v.2 (settled-Call u.0 v.0) (both _ _ (right.function f u.0 u.1) (all_planned ts v.0 v.1))
      planned (Post t ps) e h =
          let u = then_some (resolved k t) _ e h in
          let v = then_some (resolved_parts k ps) _ e u.2 in
          by_settled e (expr.Post u.0 v.0) _ v.2 (settled-Post u.0 v.0) (both _ _ (planned t u.0 u.1) (parts_planned ps v.0 v.1))
      planned (Neg n t) e h = let u = then_some (resolved k t) _ e h in by_settled e (expr.Neg n u.0) _ u.2 (settled-Neg n u.0) (planned t u.0 u.1)
      planned (Mul t fs) e h =
          let u = then_some (resolved k t) _ e h in
          let v = then_some (resolved_factors k fs) _ e u.2 in
          by_settled e (expr.Mul u.0 v.0) _ v.2 (settled-Mul u.0 v.0) (both _ _ (planned t u.0 u.1) (factors_planned fs v.0 v.1))
      planned (Sum t ts) e h =
          let u = then_some (resolved k t) _ e h in
          let v = then_some (resolved_terms k ts) _ e u.2 in
          by_settled e (expr.Sum u.0 v.0) _ v.2 (settled-Sum u.0 v.0) (both _ _ (planned t u.0 u.1) (terms_planned ts v.0 v.1))
      planned (Cmp s sign t) e h =
          let u = then_some (resolved k s) _ e h in
          let v = then_some (resolved k t) _ e u.2 in
          by_settled e (expr.Cmp u.0 sign v.0) _ v.2 (settled-Cmp u.0 sign v.0) (both _ _ (planned s u.0 u.1) (planned t v.0 v.1))
      planned (Not n t) e h = let u = then_some (resolved k t) _ e h in by_settled e (expr.Not n u.0) _ u.2 (settled-Not n u.0) (planned t u.0 u.1)
      planned (And t ts) e h =
          let u = then_some (resolved k t) _ e h in
          let v = then_some (resolved_all k ts) _ e u.2 in
          by_settled e (expr.And u.0 v.0) _ v.2 (settled-And u.0 v.0) (both _ _ (planned t u.0 u.1) (all_planned ts v.0 v.1))
      planned (Or t ts) e h =
          let u = then_some (resolved k t) _ e h in
          let v = then_some (resolved_all k ts) _ e u.2 in
          by_settled e (expr.Or u.0 v.0) _ v.2 (settled-Or u.0 v.0) (both _ _ (planned t u.0 u.1) (all_planned ts v.0 v.1))

      all_planned : (ts : Trees Bytes) (es : List Expr) → resolved_all k ts ≡ Some es → settled_all es ≡ true
      all_planned no_tree es h = ap settled_all (sym (some_inj h))
      all_planned (tree t ts) es h =
          let u = then_some (resolved k t) _ es h in
          let v = then_some (resolved_all k ts) _ es u.2 in
          ap settled_all (sym (some_inj v.2)) ∙ both _ _ (planned t u.0 u.1) (all_planned ts v.0 v.1)

      parts_planned : (ps : Parts Bytes) (bs : List code.Behind) → resolved_parts k ps ≡ Some bs → settled_behinds bs ≡ true
      parts_planned no_part bs h = ap settled_behinds (sym (some_inj h))
      parts_planned (part p ps) bs h =
          let u = then_some (resolved_part k p) _ bs h in
          let v = then_some (resolved_parts k ps) _ bs u.2 in
          ap settled_behinds (sym (some_inj v.2)) ∙ both _ _ (part_planned p u.0 u.1) (parts_planned ps v.0 v.1)

      part_planned : (p : Behind Bytes) (b : code.Behind) → resolved_part k p ≡ Some b → behind_settled b ≡ true
      part_planned (Field f) b h = by_behind b (behind.Field (k.field f)) _ h (behind_settled-Field (k.field f)) (right.field f)
      part_planned (Method m ts) b h = let u = then_some (method_at m) _ b h in called_planned ts (all_planned ts) u.0 b u.2
      part_planned (Attached a) b h = let u = then_some (k.slot a) _ b h in by_behind b (behind.Attached u.0) true u.2 (behind_settled-Attached u.0) refl
      part_planned (Before a) b h = let u = then_some (k.slot a) _ b h in by_behind b (behind.Before u.0) true u.2 (behind_settled-Before u.0) refl

      factors_planned : (fs : Factors Bytes) (gs : List (MulSign × Expr)) → resolved_factors k fs ≡ Some gs → settled_factors gs ≡ true
      factors_planned no_factor gs h = ap settled_factors (sym (some_inj h))
      factors_planned (factor sign t fs) gs h =
          let u = then_some (resolved k t) _ gs h in
          let v = then_some (resolved_factors k fs) _ gs u.2 in
          ap settled_factors (sym (some_inj v.2)) ∙ both _ _ (planned t u.0 u.1) (factors_planned fs v.0 v.1)

      terms_planned : (ts : Terms Bytes) (us : List (AddSign × Expr)) → resolved_terms k ts ≡ Some us → settled_terms us ≡ true
      terms_planned no_term us h = ap settled_terms (sym (some_inj h))
      terms_planned (term sign t ts) us h =
          let u = then_some (resolved k t) _ us h in
          let v = then_some (resolved_terms k ts) _ us u.2 in
          ap settled_terms (sym (some_inj v.2)) ∙ both _ _ (planned t u.0 u.1) (terms_planned ts v.0 v.1)

pub settled_law : SettledLaw
settled_law setting k right t e h = planned setting k right t e h
