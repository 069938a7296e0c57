-- HavingLemmas: the vertices where a condition holds, one after the other.
use Rattle.std.proofs.Common.{◌≡◌, ℕ, ◌+◌, ◌<◌, ◌≤◌, Bool, true, false, cond, List, [], ◌∷◌, ◌++◌, drop, length, get_or, Some, sym, ap, ◌∙◌}
use Rattle.std.proofs.lemmas.List.{append-nil}
use Rattle.gq_tree.specs.Tree.{Tree}
use Rattle.gq_rules_meaning.specs.Answers.{Gives}
use Rattle.gq_rules_meaning.specs.Expressions.{Look, truth_of}
use Rattle.gq_rules_meaning.specs.Tails.{passing}
use Rattle.gq_eval_operand.specs.declared.halt.Halt.{Halt}
use Rattle.gq_eval_operand.specs.Meant.{Halts}
use Rattle.gq_eval_context.specs.Answered.{EndsAs}
use Rattle.gq_eval_context.specs.Faults.{fault_at}
use Rattle.gq_after.proofs.EachSteps.{and_more}
use Rattle.gq_after.proofs.KeyLemmas.{at_default}
use Rattle.gq_after.proofs.PassLemmas.{pass_first, pass_dropped, pass_kept, pass_stops, pass_all}

module _ {N : Type 0} (look : ℕ → Look N) (t : Tree N) where
  pub hold_first : (vs : List ℕ) → passing look (Some t) vs ≡ and_more [] (passing look (Some t) vs)
  hold_first vs = pass_first look (Some t) vs

  -- one more vertex, where the condition holds or not
  pub hold_next : (vs : List ℕ) (i v : ℕ) (kept new : List ℕ) (b : Bool) → passing look (Some t) vs ≡ and_more kept (passing look (Some t) (drop i vs)) → i < length vs → v ≡ get_or vs i 0 → truth_of (look v) t ≡ Gives b → new ≡ kept ++ cond b (v ∷ []) []
      → passing look (Some t) vs ≡ and_more new (passing look (Some t) (drop (i + 1) vs))
  hold_next vs i v kept new true h n is e w = pass_kept look (Some t) vs i v kept new h n (at_default vs i v n is) e w
  hold_next vs i v kept new false h n is e w =
      pass_dropped look (Some t) vs i v kept h n (at_default vs i v n is) e ∙ ap (λ ks. and_more ks (passing look (Some t) (drop (i + 1) vs))) (sym (append-nil kept) ∙ sym w)

  pub hold_stops : (vs : List ℕ) (i v : ℕ) (kept : List ℕ) (h : Halt) → passing look (Some t) vs ≡ and_more kept (passing look (Some t) (drop i vs)) → i < length vs → v ≡ get_or vs i v → Halts (truth_of (look v) t) h
      → EndsAs (passing look (Some t) vs) (fault_at v h)
  hold_stops vs i v kept h inv n is e = pass_stops look (Some t) vs i v kept h inv n is e

  pub hold_all : (vs : List ℕ) (i : ℕ) (kept : List ℕ) → passing look (Some t) vs ≡ and_more kept (passing look (Some t) (drop i vs)) → length vs ≤ i → passing look (Some t) vs ≡ Gives kept
  hold_all vs i kept h l = pass_all look (Some t) vs i kept h l

pub ruleset hold_laws = (hold_first, hold_stops, hold_all)
