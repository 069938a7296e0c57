use Rattle.std.proofs.Common.{rules, arith, ◌≡◌, ℕ, ◌+◌, ◌<◌, ◌≤◌, ◌≢◌, Bool, true, false, zero, suc, List, ◌∷◌, [], get_or, set, sym, refl, ap, ◌∙◌, subst, get_or-set_other, length}
use mathlib.Core.Logic.{dite}
use native.Mathlib.Decide.{ℕ_discrete}
use lib.ListN.{get_elem?}
use Rattle.std.specs.Slots.{slots_items, slots_filled}
use Rattle.gq_stripe.specs.Ending.{AreTaken}
use Rattle.gq_stripe.proofs.EndLemmas.{one_taken}
use Rattle.gq_stripe.proofs.close.take_all.Goals.{then-not-keep, else-not-keep}
use Rattle.gq_stripe.proofs.close.take_all.Goals as goal

other_filled : (f g : List Bool) (j k : ℕ) → g ≡ set f j false → k ≢ j → get_or g k false ≡ get_or f k false
other_filled f g j k e ne = ap (λ (l : List Bool). get_or l k false) e ∙ get_or-set_other f j k false false ne

here_taken : (f g : List Bool) (j : ℕ) → g ≡ set f j false → get_or g j false ≡ false
here_taken f g j e = ap (λ (l : List Bool). get_or l j false) e ∙ set_false f j
  where
    set_false : (f : List Bool) (j : ℕ) → get_or (set f j false) j false ≡ false
    set_false [] j = refl
    set_false (x ∷ xs) zero = refl
    set_false (x ∷ xs) (suc j) = set_false xs j

pub loop-j-preserved : goal.loop-j-preserved
loop-j-preserved c = record {
  filled = λ k low high. other_filled _ _ _ k c.take.ensures.others.1 (λ e. omega arith) ∙ c.loop-j.invariant.filled k (omega arith) (omega (arith, c.take.ensures.others.2));
  taken = λ k less. dite (ℕ_discrete k c.loop-j.j)
      (λ (e : k ≡ c.loop-j.j). ap (λ (n : ℕ). get_or (slots_filled c.take.new.self.slots) n false) e ∙ here_taken _ _ _ c.take.ensures.others.1)
      (λ (ne : k ≢ c.loop-j.j). other_filled _ _ _ k c.take.ensures.others.1 ne ∙ c.loop-j.invariant.taken k (omega arith));
  same = c.take.ensures.others.0 ∙ c.loop-j.invariant.same;
  len = c.take.ensures.others.2 ∙ c.loop-j.invariant.len;
  room = search rules;
  few = omega (arith, c.loop-j.invariant.few, c.keep.ensures.few);
  fine = λ t. elim c.if-not-keep.branch [
    | then-not-keep w ↦ absurd (wrong c.if-not-keep.fine w.fine-is t)
    | else-not-keep w ↦ one_taken _ _ _ _ c.take.result (ap (λ l. get_elem? l c.loop-j.j) (sym c.loop-j.invariant.same) ∙ c.take.ensures.value) (c.loop-j.invariant.fine (sym w.fine-is ∙ t)) (c.keep.ensures.kept w.if-not-keep.false)
  ];
}
  where
    wrong : (b : Bool) → b ≡ false → b ≡ true → ⊥
    wrong b e f = cc

pub returns : goal.returns
returns c = λ t. subst (λ (n : ℕ). AreTaken n (slots_items c.args.closed.slots) c.loop-j.taken.items) (omega arith) (c.loop-j.invariant.fine t)
