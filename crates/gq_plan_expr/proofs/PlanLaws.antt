-- PlanLaws: the expression of a plan is the query's with references in place of names.
use Rattle.std.proofs.Common.{◌≡◌, List, Option, Some, None, refl, sym, ap, ◌∙◌}
use Rattle.gq_tree.specs.declared.expr.AddSign.{AddSign}
use Rattle.gq_tree.specs.declared.expr.MulSign.{MulSign}
use Rattle.gq_tree.specs.Tree.{Tree, Behind, Trees, Parts, Factors, Terms, Number, Text, Truth, Global, Name, Call, Post, Neg, Mul, Sum, Cmp, Not, And, Or, Field, Method, Attached, Before, no_tree, tree, no_part, part, no_factor, factor, no_term, term}
use Rattle.gq_rules_typing.specs.Statements.{Bytes}
use Rattle.gq_rules_typing.specs.Words as words
use Rattle.gq_plan_ir.specs.declared.expr.Expr.{Expr}
use Rattle.gq_plan_ir.specs.declared.expr.Expr.TheVariants as expr
use Rattle.gq_plan_ir.specs.declared.expr.Behind as code
use Rattle.gq_plan_ir.specs.declared.expr.Behind.TheVariants as behind
use Rattle.gq_plan_ir.specs.declared.expr.Method as code_method
use Rattle.gq_plan_ir.specs.declared.expr.Method.TheVariants as method
use Rattle.gq_plan_ir.specs.Reference.{Reference, Place, Slot, Does}
use Rattle.gq_plan_ir.specs.ExprView.{method_of, function_of, view, view_behind, views, view_parts, view_factors, view_terms}
use Rattle.gq_plan_ir.specs.Renamed.{Renaming, renamed, renamed_part, renamed_trees, renamed_parts, renamed_factors, renamed_terms}
use Rattle.gq_plan_ir.proofs.ViewLaws.{view-Number, view-Text, view-Truth, view-Global, view-Name, view-Call, view-Post, view-Neg, view-Mul, view-Sum, view-Cmp, view-Not, view-And, view-Or, view_behind-Field, view_behind-Method, view_behind-Degree, view_behind-Attached, view_behind-Before}
use Rattle.gq_plan_expr.specs.Known.{Known, method_at, or_nothing, references}
use Rattle.gq_plan_expr.specs.Resolved.{◌>>=◌, degree, called, resolved, resolved_part, resolved_all, resolved_parts, resolved_factors, resolved_terms}
use Rattle.gq_plan_expr.specs.Laws.{PlanLaw}

pub then_some : {A B : Type 0} (o : Option A) (f : A → Option B) (b : B) → (o >>= f) ≡ Some b → (a : A) × (o ≡ Some a) × (f a ≡ Some b)
then_some (Some a) f b h = (a, refl, h)
then_some None f b h = cc

pub some_inj : {A : Type 0} {a b : A} → ◌≡◌ {A = Option A} (Some a) (Some b) → a ≡ b
some_inj h = cc

module _ (k : Known) where
  abbrev r : Renaming Bytes Reference
  r = references k

  -- the view of an expression, from those of its parts
  by_view : (e d : Expr) (t : Tree Reference) → ◌≡◌ {A = Option Expr} (Some d) (Some e) → view d ≡ t → view e ≡ t
  by_view e d t h g = ap view (sym (some_inj h)) ∙ g

  by_behind : (b c : code.Behind) (p : Behind Reference) → ◌≡◌ {A = Option code.Behind} (Some c) (Some b) → view_behind c ≡ p → view_behind b ≡ p
  by_behind b c p h g = ap view_behind (sym (some_inj h)) ∙ g

  two : {A B C : Type 0} (f : A → B → C) (a c : A) (b d : B) → a ≡ c → b ≡ d → f a b ≡ f c d
  two f a c b d e g = ap (λ x. f x b) e ∙ ap (f c) g

  -- a method of collections
  method_planned : (m : Bytes) (w : code_method.Method) (es : List Expr) (ts : Trees Bytes) (b : code.Behind) → method_at m ≡ Some (method_of w) → views es ≡ renamed_trees r ts
      → ◌≡◌ {A = Option code.Behind} (Some (behind.Method w es)) (Some b) → view_behind b ≡ renamed_part r (Method m ts)
  method_planned m w es ts b e g h =
      by_behind b (behind.Method w es) (renamed_part r (Method m ts)) h (view_behind-Method w es ∙ two Method (Does (method_of w)) (r.method m) (views es) (renamed_trees r ts) (ap (or_nothing Does) (sym e)) g)

  degree_planned : (m : Bytes) (ts : Trees Bytes) (b : code.Behind) → method_at m ≡ Some words.Outdegree → degree k ts ≡ Some b → view_behind b ≡ renamed_part r (Method m ts)
  degree_planned m no_tree b e h =
      let u = then_some (k.counted None) _ b h in
      by_behind b (behind.Degree None u.0) (renamed_part r (Method m no_tree)) u.2 (view_behind-Degree None u.0 ∙ ap (λ d. Method d no_tree) (ap (or_nothing Does) (sym e)))
  degree_planned m (tree t (tree u ts)) b e h = cc
  degree_planned m (tree (Text s) no_tree) b e h =
      let u = then_some (k.counted (Some s)) _ b h in
      by_behind b (behind.Degree (Some s) u.0) (renamed_part r (Method m (tree (Text s) no_tree))) u.2 (view_behind-Degree (Some s) u.0 ∙ ap (λ d. Method d (tree (Text s) no_tree)) (ap (or_nothing Does) (sym e)))
  degree_planned m (tree t no_tree) b e h = cc

  called_planned : (m : Bytes) (ts : Trees Bytes) → ((es : List Expr) → resolved_all k ts ≡ Some es → views es ≡ renamed_trees r ts) → (w : words.Method) (b : code.Behind) → method_at m ≡ Some w → called k ts (resolved_all k ts) w ≡ Some b → view_behind b ≡ renamed_part r (Method m ts)
  called_planned m ts all words.Size b e h = let u = then_some (resolved_all k ts) _ b h in method_planned m method.Size u.0 ts b e (all u.0 u.1) u.2
  called_planned m ts all words.Contains b e h = let u = then_some (resolved_all k ts) _ b h in method_planned m method.Contains u.0 ts b e (all u.0 u.1) u.2
  called_planned m ts all words.ContainsKey b e h = let u = then_some (resolved_all k ts) _ b h in method_planned m method.ContainsKey u.0 ts b e (all u.0 u.1) u.2
  called_planned m ts all words.Get b e h = let u = then_some (resolved_all k ts) _ b h in method_planned m method.Get u.0 ts b e (all u.0 u.1) u.2
  called_planned m ts all words.Outdegree b e h = degree_planned m ts b e h

  mutual
    pub planned : (t : Tree Bytes) (e : Expr) → resolved k t ≡ Some e → view e ≡ renamed r t
    planned (Number n) e h = by_view e (expr.Number n) (Number n) h (view-Number n)
    planned (Text s) e h = by_view e (expr.Text s) (Text s) h (view-Text s)
    planned (Truth b) e h = by_view e (expr.Truth b) (Truth b) h (view-Truth b)
    planned (Global a) e h =
        let u = then_some (k.slot a) _ e h in
        by_view e (expr.Global u.0) (renamed r (Global a)) u.2 (view-Global u.0 ∙ ap (λ o. Global (or_nothing Slot o)) (sym u.1))
    planned (Name x) e h =
        let u = then_some (k.place x) _ e h in
        by_view e (expr.Name u.0) (renamed r (Name x)) u.2 (view-Name u.0 ∙ ap (λ o. Name (or_nothing Place o)) (sym u.1))
    planned (Call f ts) e h =
        let u = then_some (k.function f) _ e h in
        let v = then_some (resolved_all k ts) _ e u.2 in
        by_view e (expr.Call u.0 v.0) (renamed r (Call f ts)) v.2 (view-Call u.0 v.0 ∙ two Call (function_of u.0) (r.function f) (views v.0) (renamed_trees r ts) (ap (or_nothing function_of) (sym u.1)) (all_planned ts v.0 v.1))
    planned (Post t ps) e h =
        let u = then_some (resolved k t) _ e h in
        let v = then_some (resolved_parts k ps) _ e u.2 in
        by_view e (expr.Post u.0 v.0) (renamed r (Post t ps)) v.2 (view-Post u.0 v.0 ∙ two Post (view u.0) (renamed r t) (view_parts v.0) (renamed_parts r ps) (planned t u.0 u.1) (parts_planned ps v.0 v.1))
    planned (Neg n t) e h =
        let u = then_some (resolved k t) _ e h in by_view e (expr.Neg n u.0) (renamed r (Neg n t)) u.2 (view-Neg n u.0 ∙ ap (Neg n) (planned t u.0 u.1))
    planned (Mul t fs) e h =
        let u = then_some (resolved k t) _ e h in
        let v = then_some (resolved_factors k fs) _ e u.2 in
        by_view e (expr.Mul u.0 v.0) (renamed r (Mul t fs)) v.2 (view-Mul u.0 v.0 ∙ two Mul (view u.0) (renamed r t) (view_factors v.0) (renamed_factors r fs) (planned t u.0 u.1) (factors_planned fs v.0 v.1))
    planned (Sum t ts) e h =
        let u = then_some (resolved k t) _ e h in
        let v = then_some (resolved_terms k ts) _ e u.2 in
        by_view e (expr.Sum u.0 v.0) (renamed r (Sum t ts)) v.2 (view-Sum u.0 v.0 ∙ two Sum (view u.0) (renamed r t) (view_terms v.0) (renamed_terms r ts) (planned t u.0 u.1) (terms_planned ts v.0 v.1))
    planned (Cmp s sign t) e h =
        let u = then_some (resolved k s) _ e h in
        let v = then_some (resolved k t) _ e u.2 in
        by_view e (expr.Cmp u.0 sign v.0) (renamed r (Cmp s sign t)) v.2 (view-Cmp u.0 sign v.0 ∙ two (λ a b. Cmp a sign b) (view u.0) (renamed r s) (view v.0) (renamed r t) (planned s u.0 u.1) (planned t v.0 v.1))
    planned (Not n t) e h =
        let u = then_some (resolved k t) _ e h in by_view e (expr.Not n u.0) (renamed r (Not n t)) u.2 (view-Not n u.0 ∙ ap (Not n) (planned t u.0 u.1))
    planned (And t ts) e h =
        let u = then_some (resolved k t) _ e h in
        let v = then_some (resolved_all k ts) _ e u.2 in
        by_view e (expr.And u.0 v.0) (renamed r (And t ts)) v.2 (view-And u.0 v.0 ∙ two And (view u.0) (renamed r t) (views v.0) (renamed_trees r ts) (planned t u.0 u.1) (all_planned ts v.0 v.1))
    planned (Or t ts) e h =
        let u = then_some (resolved k t) _ e h in
        let v = then_some (resolved_all k ts) _ e u.2 in
        by_view e (expr.Or u.0 v.0) (renamed r (Or t ts)) v.2 (view-Or u.0 v.0 ∙ two Or (view u.0) (renamed r t) (views v.0) (renamed_trees r ts) (planned t u.0 u.1) (all_planned ts v.0 v.1))

    all_planned : (ts : Trees Bytes) (es : List Expr) → resolved_all k ts ≡ Some es → views es ≡ renamed_trees r ts
    all_planned no_tree es h = ap views (sym (some_inj h))
    all_planned (tree t ts) es h =
        let u = then_some (resolved k t) _ es h in
        let v = then_some (resolved_all k ts) _ es u.2 in
        ap views (sym (some_inj v.2)) ∙ two tree (view u.0) (renamed r t) (views v.0) (renamed_trees r ts) (planned t u.0 u.1) (all_planned ts v.0 v.1)

    parts_planned : (ps : Parts Bytes) (bs : List code.Behind) → resolved_parts k ps ≡ Some bs → view_parts bs ≡ renamed_parts r ps
    parts_planned no_part bs h = ap view_parts (sym (some_inj h))
    parts_planned (part p ps) bs h =
        let u = then_some (resolved_part k p) _ bs h in
        let v = then_some (resolved_parts k ps) _ bs u.2 in
        ap view_parts (sym (some_inj v.2)) ∙ two part (view_behind u.0) (renamed_part r p) (view_parts v.0) (renamed_parts r ps) (part_planned p u.0 u.1) (parts_planned ps v.0 v.1)

    part_planned : (p : Behind Bytes) (b : code.Behind) → resolved_part k p ≡ Some b → view_behind b ≡ renamed_part r p
    part_planned (Field f) b h = by_behind b (behind.Field (k.field f)) (renamed_part r (Field f)) h (view_behind-Field (k.field f))
    part_planned (Method m ts) b h = let u = then_some (method_at m) _ b h in called_planned m ts (all_planned ts) u.0 b u.1 u.2
    part_planned (Attached a) b h =
        let u = then_some (k.slot a) _ b h in by_behind b (behind.Attached u.0) (renamed_part r (Attached a)) u.2 (view_behind-Attached u.0 ∙ ap (λ o. Attached (or_nothing Slot o)) (sym u.1))
    part_planned (Before a) b h =
        let u = then_some (k.slot a) _ b h in by_behind b (behind.Before u.0) (renamed_part r (Before a)) u.2 (view_behind-Before u.0 ∙ ap (λ o. Before (or_nothing Slot o)) (sym u.1))

    factors_planned : (fs : Factors Bytes) (gs : List (MulSign × Expr)) → resolved_factors k fs ≡ Some gs → view_factors gs ≡ renamed_factors r fs
    factors_planned no_factor gs h = ap view_factors (sym (some_inj h))
    factors_planned (factor sign t fs) gs h =
        let u = then_some (resolved k t) _ gs h in
        let v = then_some (resolved_factors k fs) _ gs u.2 in
        ap view_factors (sym (some_inj v.2)) ∙ two (factor sign) (view u.0) (renamed r t) (view_factors v.0) (renamed_factors r fs) (planned t u.0 u.1) (factors_planned fs v.0 v.1)

    terms_planned : (ts : Terms Bytes) (us : List (AddSign × Expr)) → resolved_terms k ts ≡ Some us → view_terms us ≡ renamed_terms r ts
    terms_planned no_term us h = ap view_terms (sym (some_inj h))
    terms_planned (term sign t ts) us h =
        let u = then_some (resolved k t) _ us h in
        let v = then_some (resolved_terms k ts) _ us u.2 in
        ap view_terms (sym (some_inj v.2)) ∙ two (term sign) (view u.0) (renamed r t) (view_terms v.0) (renamed_terms r ts) (planned t u.0 u.1) (terms_planned ts v.0 v.1)

pub plan_law : PlanLaw
plan_law k t e h = planned k t e h
