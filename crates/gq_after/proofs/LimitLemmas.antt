-- LimitLemmas: LIMIT, and prefixes of a list.
use Rattle.std.proofs.Common.{◌≡◌, ℕ, zero, suc, ◌+◌, ◌<◌, ℤ, pos, negsuc, false, ◌||◌, List, [], ◌∷◌, ◌++◌, take, min, length, get_or, Some, None, Result, inl, inr, refl, sym, ap, ap₂, subst, ◌∙◌, arith, nat_eq}
use Rattle.std.specs.List.{AllByRecursion, IsDistinct}
use Rattle.std.proofs.lemmas.Map.Keys.{IsDistinct-head, IsDistinct-tail}
use Rattle.std.proofs.lemmas.List.{take_all, take_more}
use Rattle.std.proofs.lemmas.Bool.{cases_lt}
use Rattle.gq_tree.specs.Tree.{Tree}
use Rattle.gq_value.specs.declared.value.Wrong.{Wrong}
use Rattle.gq_graph.specs.Candidates.{among}
use Rattle.gq_value.specs.Val.{Val}
use Rattle.gq_rules_meaning.specs.Answers.{Answer, Gives, Faults, Stuck, ◌>>=◌, blaming}
use Rattle.gq_rules_meaning.specs.Blocks.{BlockFault, AtPlace}
use Rattle.gq_rules_meaning.specs.Graphs.{vertex_count}
use Rattle.gq_rules_meaning.specs.Expressions.{World, Look, value_of, number_of}
use Rattle.gq_rules_meaning.specs.Meanings.{as_number}
use Rattle.gq_rules_meaning.specs.Runs.{count_of}
use Rattle.gq_rules_meaning.specs.Tails.{at_most, cut}
use Rattle.gq_eval_operand.specs.declared.halt.Halt.{Halt}
use Rattle.gq_eval_operand.specs.declared.halt.Halt.TheVariants as halt
use Rattle.gq_eval_operand.specs.Meant.{Halts, Tells, itself}
use Rattle.gq_eval_context.specs.Answered.{EndsAs}
use Rattle.gq_eval_context.specs.Faults.{fault_at}
use Rattle.gq_eval_context.specs.Limits.{most_of}
use Rattle.gq_after.specs.Sights.{first_of}
use Rattle.gq_after.proofs.EachSteps.{stops}

-- ---- the number

most_is : (x : ℤ) (vs : List ℕ) → at_most x vs ≡ take (count_of x) vs
most_is (pos n) vs = refl
most_is (negsuc n) vs = refl

cut_by : Answer BlockFault ℤ → List ℕ → Answer BlockFault (List ℕ)
cut_by o vs = o >>= λ n. Gives (at_most n vs)

module _ {N : Type 0} (world : World N) (look : Look N) (t : Tree N) where
  goes : (p : ℕ) (o : Answer Wrong ℤ) (n : ℕ) (vs : List ℕ) → most_of o ≡ Gives n → (blaming (AtPlace p) o >>= λ n. Gives (at_most n vs)) ≡ Gives (take n vs)
  goes p (Gives x) n vs e = ap Gives (most_is x vs ∙ ap (λ m. take m vs) (let f : count_of x ≡ n = cc in f))
  goes p (Faults w) n vs e = absurd (cc)
  goes p Stuck n vs e = absurd (cc)

  pub limit_goes : (n : ℕ) (vs : List ℕ) → (most_of (number_of look t)) ≡ Gives n → cut world look (Some t) vs ≡ Gives (first_of (Some n) vs)
  limit_goes n vs e = goes (vertex_count world.graph) (number_of look t) n vs e

  ends : (p : ℕ) (o : Answer Wrong ℤ) (h : Halt) (vs : List ℕ) → Halts (most_of o) h → EndsAs (blaming (AtPlace p) o >>= λ n. Gives (at_most n vs)) (fault_at p h)
  ends p (Gives x) (halt.Wrong w) vs e = absurd (cc)
  ends p (Faults u) (halt.Wrong w) vs e = ap (λ (q : Answer Wrong ℕ). blaming (AtPlace p) q >>= λ n. Gives (at_most (pos n) vs)) e
  ends p Stuck (halt.Wrong w) vs e = absurd (cc)
  ends p (Gives x) halt.Stuck vs e = absurd (cc)
  ends p (Faults u) halt.Stuck vs e = absurd (cc)
  ends p Stuck halt.Stuck vs e = refl
  ends p o halt.OutOfMemory vs e = tt

  pub limit_stops : (h : Halt) (vs : List ℕ) → Halts (most_of (number_of look t)) h → EndsAs (cut world look (Some t) vs) (fault_at (vertex_count world.graph) h)
  limit_stops h vs e = ends (vertex_count world.graph) (number_of look t) h vs e

  joined : (o : Answer Wrong Val) → most_of (o >>= as_number) ≡ (o >>= λ v. most_of (as_number v))
  joined (Gives v) = refl
  joined (Faults w) = refl
  joined Stuck = refl

  pub count_stops : (h : Halt) → Halts (value_of look t) h → Halts (most_of (number_of look t)) h
  count_stops h e = subst (λ o. Halts o h) (sym (joined (value_of look t))) (stops (value_of look t) _ h e)

  pub count_goes : (v : Val) (r : Result ℕ Halt) → value_of look t ≡ Gives v → Tells itself (most_of (as_number v)) r → Tells itself (most_of (number_of look t)) r
  count_goes v r e d = subst (λ o. Tells itself o r) (sym (joined (value_of look t) ∙ ap (λ o. o >>= λ v. most_of (as_number v)) e)) d

pub ruleset limit_laws = (limit_goes, limit_stops)

pub ruleset count_laws = (count_stops, count_goes)

-- ---- prefixes of a list

every_at : (P : ℕ → Type 0) (xs : List ℕ) (i : ℕ) → i < length xs → AllByRecursion P xs → P (get_or xs i 0)
every_at P [] i l h = let no : ⊥ = omega arith in absurd no
every_at P (x ∷ xs) zero l h = h.0
every_at P (x ∷ xs) (suc i) l h = every_at P xs i (omega arith) h.1

-- in a list without duplicates an item isn't among those before it
pub taken_apart : (vs : List ℕ) (i : ℕ) → IsDistinct nat_eq vs → i < length vs → among (take i vs) (get_or vs i 0) ≡ false
taken_apart [] i d l = let no : ⊥ = omega arith in absurd no
taken_apart (x ∷ xs) zero d l = refl
taken_apart (x ∷ xs) (suc j) d l =
    ap₂ ◌||◌ (every_at (λ y. nat_eq x y ≡ false) xs j (omega arith) (IsDistinct-head nat_eq x xs d)) (taken_apart xs j (IsDistinct-tail nat_eq x xs d) (omega arith))

pub first_none : (vs : List ℕ) (n : ℕ) → n ≡ length vs → take n vs ≡ first_of None vs
first_none vs n e = take_all n vs (omega (arith, e))

pub first_some : (vs : List ℕ) (most n : ℕ) → n ≡ min (length vs) most → take n vs ≡ first_of (Some most) vs
first_some vs most n e = ap (λ k. take k vs) e ∙ elim (cases_lt most (length vs)) [
  | inl h ↦ ap (λ k. take k vs) (let e : min (length vs) most ≡ most = omega arith in e)
  | inr h ↦ take_all (min (length vs) most) vs (omega arith) ∙ sym (take_all most vs h)
]

-- one more vertex
pub vertex_apart : (vs : List ℕ) (i : ℕ) (list : List ℕ) → IsDistinct nat_eq vs → i < length vs → list ≡ take i vs → among list (get_or vs i 0) ≡ false
vertex_apart vs i list d n e = ap (λ ws. among ws (get_or vs i 0)) e ∙ taken_apart vs i d n

pub vertex_listed : (vs : List ℕ) (i v : ℕ) (list new : List ℕ) → i < length vs → v ≡ get_or vs i v → list ≡ take i vs → new ≡ list ++ v ∷ [] → new ≡ take (i + 1) vs
vertex_listed vs i v list new n is e w = w ∙ ap₂ (λ ws x. ws ++ x ∷ []) e is ∙ sym (take_more vs i v n)

pub ruleset first_laws = (first_none, first_some)

pub ruleset list_laws = (vertex_listed)
