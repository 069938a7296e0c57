-- PassLemmas: HAVING, one vertex after the other.
use Rattle.std.proofs.Common.{if◌then◌else◌, ◌≡◌, ℕ, ◌+◌, ◌<◌, ◌≤◌, Bool, true, false, List, [], ◌∷◌, ◌++◌, drop, length, get_or, Option, None, refl, sym, ap, subst, ◌∙◌}
use Rattle.gq_tree.specs.Tree.{Tree}
use Rattle.gq_rules_meaning.specs.Answers.{Answer, Gives, Faults, Stuck, ◌>>=◌, blaming}
use Rattle.gq_rules_meaning.specs.Blocks.{BlockFault, AtPlace, passes}
use Rattle.gq_rules_meaning.specs.Expressions.{Look}
use Rattle.gq_rules_meaning.specs.Tails.{passing}
use Rattle.gq_eval_operand.specs.declared.halt.Halt.{Halt}
use Rattle.gq_eval_operand.specs.Meant.{Halts}
use Rattle.gq_eval_context.specs.Answered.{EndsAs}
use Rattle.gq_eval_context.specs.Faults.{fault_at}
use Rattle.gq_eval_context.proofs.FaultLemmas.{stops_at}
use Rattle.gq_after.proofs.EachSteps.{and_more, none_before, one_before, at_place, nothing_left}

module _ {N : Type 0} (look : ℕ → Look N) (t : Option (Tree N)) where
  abbrev pub PassAt : List ℕ → ℕ → List ℕ → Type 0
  PassAt vs i kept = passing look t vs ≡ and_more kept (passing look t (drop i vs))

  with_one : ℕ → Answer BlockFault (List ℕ) → Bool → Answer BlockFault (List ℕ)
  with_one v o b = o >>= λ rest. Gives (if b then v ∷ rest else rest)

  pub pass_first : (vs : List ℕ) → PassAt vs 0 []
  pass_first vs = none_before (passing look t vs)

  here : (vs : List ℕ) (i v : ℕ) (kept : List ℕ) → PassAt vs i kept → i < length vs → v ≡ get_or vs i v
      → passing look t vs ≡ and_more kept (blaming (AtPlace v) (passes (look v) t) >>= λ b. passing look t (drop (i + 1) vs) >>= λ rest. Gives (if b then v ∷ rest else rest))
  here vs i v kept h n is = h ∙ ap (λ ys. and_more kept (passing look t ys)) (at_place vs i v n is)

  next : (vs : List ℕ) (i v : ℕ) (kept : List ℕ) (b : Bool) → PassAt vs i kept → i < length vs → v ≡ get_or vs i v → passes (look v) t ≡ Gives b
      → passing look t vs ≡ and_more kept (passing look t (drop (i + 1) vs) >>= λ rest. Gives (if b then v ∷ rest else rest))
  next vs i v kept b h n is e = here vs i v kept h n is ∙ ap (λ o. and_more kept (blaming (AtPlace v) o >>= λ b. passing look t (drop (i + 1) vs) >>= λ rest. Gives (if b then v ∷ rest else rest))) e

  dropped : (o : Answer BlockFault (List ℕ)) (kept : List ℕ) → and_more kept (o >>= λ rest. Gives rest) ≡ and_more kept o
  dropped (Gives rest) kept = refl
  dropped (Faults w) kept = refl
  dropped Stuck kept = refl

  pub pass_dropped : (vs : List ℕ) (i v : ℕ) (kept : List ℕ) → PassAt vs i kept → i < length vs → v ≡ get_or vs i v → passes (look v) t ≡ Gives false → PassAt vs (i + 1) kept
  pass_dropped vs i v kept h n is e = next vs i v kept false h n is e ∙ dropped (passing look t (drop (i + 1) vs)) kept

  pub pass_kept : (vs : List ℕ) (i v : ℕ) (kept new : List ℕ) → PassAt vs i kept → i < length vs → v ≡ get_or vs i v → passes (look v) t ≡ Gives true → new ≡ kept ++ v ∷ [] → PassAt vs (i + 1) new
  pass_kept vs i v kept new h n is e w =
      next vs i v kept true h n is e ∙ one_before (passing look t (drop (i + 1) vs)) kept v
      ∙ ap (λ ks. and_more ks (passing look t (drop (i + 1) vs))) (sym w)

  begins : (vs : List ℕ) (i v : ℕ) (kept : List ℕ) (o : Answer BlockFault Bool) → and_more kept (o >>= λ b. passing look t (drop (i + 1) vs) >>= λ rest. Gives (if b then v ∷ rest else rest))
      ≡ (o >>= λ b. and_more kept (passing look t (drop (i + 1) vs) >>= λ rest. Gives (if b then v ∷ rest else rest)))
  begins vs i v kept (Gives b) = refl
  begins vs i v kept (Faults w) = refl
  begins vs i v kept Stuck = refl

  pub pass_stops : (vs : List ℕ) (i v : ℕ) (kept : List ℕ) (h : Halt) → PassAt vs i kept → i < length vs → v ≡ get_or vs i v → Halts (passes (look v) t) h → EndsAs (passing look t vs) (fault_at v h)
  pass_stops vs i v kept h inv n is e =
      subst (λ o. EndsAs o (fault_at v h)) (sym (here vs i v kept inv n is ∙ begins vs i v kept (blaming (AtPlace v) (passes (look v) t)))) (stops_at (passes (look v) t) _ v h e)

  pub pass_all : (vs : List ℕ) (i : ℕ) (kept : List ℕ) → PassAt vs i kept → length vs ≤ i → passing look t vs ≡ Gives kept
  pass_all vs i kept h l = nothing_left (passing look t) vs i kept refl h l

-- without HAVING all vertices pass
none_pass : {N : Type 0} (look : ℕ → Look N) (vs : List ℕ) → passing look None vs ≡ Gives vs
none_pass look [] = refl
none_pass look (v ∷ vs) = ap (λ o. o >>= λ rest. Gives (v ∷ rest)) (none_pass look vs)

pub all_pass : {N : Type 0} (look : ℕ → Look N) (vs all : List ℕ) → all ≡ vs → passing look None vs ≡ Gives all
all_pass look vs all e = none_pass look vs ∙ ap (λ vs. Gives vs) (sym e)

pub ruleset none_laws = (all_pass)
