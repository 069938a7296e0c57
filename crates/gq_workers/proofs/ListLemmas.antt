-- ListLemmas: lists of numbers in order, each once, and no others.
use Rattle.std.proofs.Common.{ℕ, ◌<◌, cond, Bool, true, false, List, [], ◌∷◌, ◌++◌, Option, Some, None, refl, sym, subst, append-nil}
use Rattle.std.specs.Prelude.{nat_eq}
use Rattle.std.specs.List.{All, AllByRecursion, IsDistinct}
use Rattle.std.proofs.lemmas.List.Elements.{All-nil, All-cons, All-from_recursion, recursion_from_All}
use Rattle.std.specs.declared.cmp.Ordering.{Ordering}
use Rattle.std.specs.declared.cmp.Ordering.TheVariants.{Less, Equal, Greater}
use Rattle.std.specs.Ordering.{nat_cmp}
use Rattle.gq_graph.specs.Candidates.{among}
use Rattle.gq_accum_laws.specs.Gather.{choose, put}
use Rattle.gq_rules_typing.specs.Patterns.{by_number}
use Rattle.gq_index.specs.Places.{passing}
use Rattle.gq_index.proofs.OrderLemmas.{distinct_push, none_distinct}
use Rattle.gq_index.proofs.PlaceLemmas.{nat_up, passing_zero, passing_more}
use Rattle.gq_exec_source.proofs.MarkLemmas.{numbered, fresh}
use Rattle.gq_exec_source.proofs.SetLemmas.{none_above}
use Rattle.gq_rules_meaning.specs.Blocks.{Match}
use Rattle.gq_exec_source.specs.Starts.{IsBelow, IsWithin}
use Rattle.gq_workers.specs.Running.{sources_of, targets_of}

distinct_passing : (p : ℕ → Bool) (n : ℕ) → IsDistinct nat_eq (passing p n)
distinct_passing p = nat_up (λ n. IsDistinct nat_eq (passing p n)) (subst (IsDistinct nat_eq) (sym (passing_zero p)) none_distinct)
    (λ n before. subst (IsDistinct nat_eq) (sym (passing_more p n)) (step n (p n) before))
  where
    step : (n : ℕ) (b : Bool) → IsDistinct nat_eq (passing p n) → IsDistinct nat_eq (passing p n ++ cond b (n ∷ []) [])
    step n true before = distinct_push (passing p n) n before (fresh p n (passing p n) refl)
    step n false before = subst (IsDistinct nat_eq) (sym (append-nil (passing p n))) before

pub once : (xs : List ℕ) (n : ℕ) → All (λ v. v < n) xs → IsDistinct nat_eq (by_number xs)
once xs n h = subst (IsDistinct nat_eq) (sym (numbered xs n (none_above xs n h))) (distinct_passing (among xs) n)

put_below : (x n : ℕ) (ys : List ℕ) → x < n → AllByRecursion (λ v. v < n) ys → AllByRecursion (λ v. v < n) (put nat_cmp false x ys)
put_below x n [] h r = (h, tt)
put_below x n (y ∷ ys) h r = by (nat_cmp x y) (put_below x n ys h r.1)
  where
    by : (o : Ordering) → AllByRecursion (λ v. v < n) (put nat_cmp false x ys) → AllByRecursion (λ v. v < n) (choose o (x ∷ y ∷ ys) (y ∷ ys) (y ∷ put nat_cmp false x ys))
    by Less q = (h, r)
    by Equal q = r
    by Greater q = (r.0, q)

ordered_below : (xs : List ℕ) (n : ℕ) → AllByRecursion (λ v. v < n) xs → AllByRecursion (λ v. v < n) (by_number xs)
ordered_below [] n r = tt
ordered_below (x ∷ xs) n r = put_below x n (by_number xs) r.0 (ordered_below xs n r.1)

pub below : (xs : List ℕ) (n : ℕ) → All (λ v. v < n) xs → All (λ v. v < n) (by_number xs)
below xs n h = All-from_recursion (λ v. v < n) (by_number xs) (ordered_below xs n (recursion_from_All (λ v. v < n) xs h))

-- ---- the ends of matches

sources_under : (n : ℕ) (ms : List Match) → AllByRecursion (λ (m : Match). IsWithin n m.candidate) ms → All (λ v. v < n) (sources_of ms)
sources_under n [] r = All-nil (λ v. v < n)
sources_under n (m ∷ ms) r = All-cons (λ v. v < n) m.candidate.source (sources_of ms) r.0.source (sources_under n ms r.1)

targets_under : (n : ℕ) (ms : List Match) → AllByRecursion (λ (m : Match). IsWithin n m.candidate) ms → All (λ v. v < n) (targets_of ms)
targets_under n [] r = All-nil (λ v. v < n)
targets_under n (m ∷ ms) r = by m.candidate.target r.0.target (targets_under n ms r.1)
  where
    by : (t : Option ℕ) → IsBelow n t → All (λ v. v < n) (targets_of ms) → All (λ v. v < n) (Rattle.std.specs.List.cons_option t (targets_of ms))
    by None b q = q
    by (Some v) b q = All-cons (λ v. v < n) v (targets_of ms) b q

pub sources_below : (n : ℕ) (ms : List Match) → All (λ (m : Match). IsWithin n m.candidate) ms → All (λ v. v < n) (sources_of ms)
sources_below n ms h = sources_under n ms (recursion_from_All (λ (m : Match). IsWithin n m.candidate) ms h)

pub targets_below : (n : ℕ) (ms : List Match) → All (λ (m : Match). IsWithin n m.candidate) ms → All (λ v. v < n) (targets_of ms)
targets_below n ms h = targets_under n ms (recursion_from_All (λ (m : Match). IsWithin n m.candidate) ms h)
