-- LimitLemmas: how often a body may run under LIMIT.
use Rattle.std.proofs.Common.{◌≡◌, ℕ, ℤ, Option, Some, Result, Ok, Err, sym, ap, subst, ◌∙◌}
use Rattle.gq_tree.specs.Tree.{Tree}
use Rattle.gq_value.specs.declared.value.Wrong.{Wrong}
use Rattle.gq_value.specs.Val.{Val}
use Rattle.gq_rules_meaning.specs.Answers.{Answer, Gives, ◌>>=◌}
use Rattle.gq_rules_meaning.specs.Expressions.{Look, value_of, number_of}
use Rattle.gq_rules_meaning.specs.Meanings.{as_number}
use Rattle.gq_rules_meaning.specs.Runs.{count_of}
use Rattle.gq_eval_operand.specs.declared.halt.Halt.{Halt}
use Rattle.gq_eval_operand.specs.Meant.{Halts, Tells, itself}
use Rattle.gq_eval_context.specs.Limits.{most_of}
use Rattle.gq_exec_control.proofs.Steps.{halts_bind, joined, tells_same}

module _ {N : Type 0} (look : Look N) (t : Tree N) where
  is : most_of (number_of look t) ≡ (value_of look t >>= λ v. most_of (as_number v))
  is = joined (value_of look t) as_number (λ n. Gives (count_of n))

  pub limit_stops : (h : Halt) → Halts (value_of look t) h → Halts (most_of (number_of look t)) h
  limit_stops h e = subst (λ o. Halts o h) (sym is) (halts_bind (value_of look t) (λ v. most_of (as_number v)) h e)

  pub limit_goes : (v : Val) (r : Result ℕ Halt) → value_of look t ≡ Gives v → Tells itself (most_of (as_number v)) r → Tells itself (most_of (number_of look t)) r
  limit_goes v r e d = subst (λ o. Tells itself o r) (sym (is ∙ ap (λ o. o >>= λ v. most_of (as_number v)) e)) d

pub ruleset limit_laws = (limit_stops, limit_goes)

-- ---- the limit as an option

abbrev pub some_of : Answer Wrong ℤ → Answer Wrong (Option ℕ)
some_of o = o >>= λ n. Gives (Some (count_of n))

there : (o : Answer Wrong ℕ) (r : Result ℕ Halt) → Tells itself o r → Tells Some (o >>= λ n. Gives (Some n)) r
there o (Ok n) e = ap (λ o. o >>= λ n. Gives (Some n)) e
there o (Err h) e = halts_bind o (λ n. Gives (Some n)) h e

pub tells_some : (o : Answer Wrong ℤ) (r : Result ℕ Halt) → Tells itself (most_of o) r → Tells Some (some_of o) r
tells_some o r e = tells_same Some (some_of o) (most_of o >>= λ n. Gives (Some n)) r (sym (joined o (λ n. Gives (count_of n)) (λ n. Gives (Some n)))) (there (most_of o) r e)
