-- Resolved: the expression of a plan, from the expression with names; None if something isn't found.
use Rattle.std.specs.Prelude.{◌≡◌, ◌≢◌, ℕ, List, [], ◌∷◌, Option, Some, None, Result, Ok, Err}
use Rattle.gq_tree.specs.declared.expr.AddSign.{AddSign}
use Rattle.gq_tree.specs.declared.expr.MulSign.{MulSign}
use Rattle.gq_tree.specs.declared.expr.CmpSign.{CmpSign}
use Rattle.gq_tree.specs.Tree.{Tree, Behind, Trees, Parts, Factors, Terms, Number, Text, Truth, Global, Name, Call, Post, Neg, Mul, Sum, Cmp, Not, And, Or, Field, Method, Attached, Before, no_tree, tree, no_part, part, no_factor, factor, no_term, term}
use Rattle.gq_rules_typing.specs.Words as words
use Rattle.gq_scope.specs.Parts.{text_in}
use Rattle.gq_plan_ir.specs.declared.expr.Expr.{Expr}
use Rattle.gq_plan_ir.specs.declared.expr.Expr.TheVariants as expr
use Rattle.gq_plan_ir.specs.declared.expr.Behind as code
use Rattle.gq_plan_ir.specs.declared.expr.Behind.TheVariants as behind
use Rattle.gq_plan_ir.specs.declared.expr.Method.TheVariants as method
use Rattle.gq_plan_expr.specs.declared.fault.PlanFault.{PlanFault}
use Rattle.gq_plan_expr.specs.declared.fault.PlanFault.TheVariants as fault
use Rattle.gq_plan_expr.specs.Known.{Known, method_at}

infixl 10 ◌>>=◌
-- continues with the value, if there is one
abbrev pub ◌>>=◌ : {A B : Type 0} → Option A → (A → Option B) → Option B
None >>= f = None
(Some a) >>= f = f a

-- `outdegree` of all edge types, or of the one that a text names
abbrev pub degree_of_all : Known → Option code.Behind
degree_of_all k = k.counted None >>= λ types. Some (behind.Degree None types)

abbrev pub degree_of : Known → Option (List ℕ) → Option code.Behind
degree_of k None = None
degree_of k (Some e) = k.counted (Some e) >>= λ types. Some (behind.Degree (Some e) types)

abbrev pub degree : Known → Trees (List ℕ) → Option code.Behind
degree k no_tree = degree_of_all k
degree k (tree t no_tree) = degree_of k (text_in t)
degree k (tree t (tree u ts)) = None

-- a method with its arguments, after they are resolved
abbrev pub called : Known → Trees (List ℕ) → Option (List Expr) → words.Method → Option code.Behind
called k ts es words.Size = es >>= λ arguments. Some (behind.Method method.Size arguments)
called k ts es words.Contains = es >>= λ arguments. Some (behind.Method method.Contains arguments)
called k ts es words.ContainsKey = es >>= λ arguments. Some (behind.Method method.ContainsKey arguments)
called k ts es words.Get = es >>= λ arguments. Some (behind.Method method.Get arguments)
called k ts es words.Outdegree = degree k ts

-- ---- what follows a first operand, after it is resolved

abbrev pub posted : Expr → Option (List code.Behind) → Option Expr
posted e bs = bs >>= λ parts. Some (expr.Post e parts)

abbrev pub multiplied : Expr → Option (List (MulSign × Expr)) → Option Expr
multiplied e gs = gs >>= λ factors. Some (expr.Mul e factors)

abbrev pub added : Expr → Option (List (AddSign × Expr)) → Option Expr
added e us = us >>= λ terms. Some (expr.Sum e terms)

abbrev pub compared : Expr → CmpSign → Option Expr → Option Expr
compared a sign b = b >>= λ right. Some (expr.Cmp a sign right)

abbrev pub all_of : Expr → Option (List Expr) → Option Expr
all_of e es = es >>= λ others. Some (expr.And e others)

abbrev pub any_of : Expr → Option (List Expr) → Option Expr
any_of e es = es >>= λ others. Some (expr.Or e others)

-- ---- expressions

abbrev mutual
  pub resolved : Known → Tree (List ℕ) → Option Expr
  resolved k (Number n) = Some (expr.Number n)
  resolved k (Text s) = Some (expr.Text s)
  resolved k (Truth b) = Some (expr.Truth b)
  resolved k (Global a) = k.slot a >>= λ n. Some (expr.Global n)
  resolved k (Name x) = k.place x >>= λ n. Some (expr.Name n)
  resolved k (Call f ts) = k.function f >>= λ g. resolved_all k ts >>= λ es. Some (expr.Call g es)
  resolved k (Post t ps) = resolved k t >>= λ e. posted e (resolved_parts k ps)
  resolved k (Neg n t) = resolved k t >>= λ e. Some (expr.Neg n e)
  resolved k (Mul t fs) = resolved k t >>= λ e. multiplied e (resolved_factors k fs)
  resolved k (Sum t ts) = resolved k t >>= λ e. added e (resolved_terms k ts)
  resolved k (Cmp s sign t) = resolved k s >>= λ a. compared a sign (resolved k t)
  resolved k (Not n t) = resolved k t >>= λ e. Some (expr.Not n e)
  resolved k (And t ts) = resolved k t >>= λ e. all_of e (resolved_all k ts)
  resolved k (Or t ts) = resolved k t >>= λ e. any_of e (resolved_all k ts)

  pub resolved_part : Known → Behind (List ℕ) → Option code.Behind
  resolved_part k (Field f) = Some (behind.Field (k.field f))
  resolved_part k (Method m ts) = method_at m >>= called k ts (resolved_all k ts)
  resolved_part k (Attached a) = k.slot a >>= λ n. Some (behind.Attached n)
  resolved_part k (Before a) = k.slot a >>= λ n. Some (behind.Before n)

  pub resolved_all : Known → Trees (List ℕ) → Option (List Expr)
  resolved_all k no_tree = Some []
  resolved_all k (tree t ts) = resolved k t >>= λ e. resolved_all k ts >>= λ es. Some (e ∷ es)

  pub resolved_parts : Known → Parts (List ℕ) → Option (List code.Behind)
  resolved_parts k no_part = Some []
  resolved_parts k (part p ps) = resolved_part k p >>= λ b. resolved_parts k ps >>= λ bs. Some (b ∷ bs)

  pub resolved_factors : Known → Factors (List ℕ) → Option (List (MulSign × Expr))
  resolved_factors k no_factor = Some []
  resolved_factors k (factor sign t fs) = resolved k t >>= λ e. resolved_factors k fs >>= λ gs. Some ((sign, e) ∷ gs)

  pub resolved_terms : Known → Terms (List ℕ) → Option (List (AddSign × Expr))
  resolved_terms k no_term = Some []
  resolved_terms k (term sign t ts) = resolved k t >>= λ e. resolved_terms k ts >>= λ us. Some ((sign, e) ∷ us)

-- the answer is what is resolved, or Unknown if nothing is; OutOfMemory may occur at any time
abbrev pub Answers : {A : Type 0} → Option A → Result A PlanFault → Type 0
Answers o (Ok a) = o ≡ Some a
Answers o (Err e) = e ≢ fault.OutOfMemory → o ≡ None
