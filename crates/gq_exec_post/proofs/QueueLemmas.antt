-- QueueLemmas: inputs to global accumulators that are appended to those that wait.
use Rattle.std.proofs.Common.{◌≡◌, ℕ, ◌<◌, List, [], ◌∷◌, ◌++◌, map, length, Some, slice_get, refl, sym, ap, subst, ◌∙◌, arith}
use Rattle.std.specs.List.{All}
use Rattle.std.specs.Option.{option_map}
use Rattle.std.proofs.lemmas.List.{append-nil, append_assoc, map-append}
use Rattle.std.proofs.lemmas.List.Elements.{All-nil, All-cons, All-append}
use Rattle.std.proofs.lemmas.Option.{get_or_from_slice_get, slice_get-map}
use Rattle.gq_value.specs.declared.kind.Input.{Input}
use Rattle.gq_value.specs.declared.kind.Slot.{Slot}
use Rattle.gq_value.specs.AccumViews.{accum_of, given}
use Rattle.gq_accum_laws.specs.Targets.{targets}
use Rattle.gq_accum_laws.proofs.TargetLaws.{target_law}
use Rattle.gq_rules_meaning.specs.Blocks.{Contribution}
use Rattle.gq_frame.specs.declared.slots.Slots.{Slots}
use Rattle.gq_frame.specs.Targets.{attached_in, number_of}
use Rattle.gq_exec_feed.specs.Taking.{MayTake}
use Rattle.gq_exec_contribute.specs.declared.cells.Cells.{Cells}
use Rattle.gq_exec_contribute.specs.declared.scalars.ScalarInput.{ScalarInput}
use Rattle.gq_exec_contribute.specs.Prepared.{AreAllCells, AreCells}
use Rattle.gq_exec_contribute.specs.Scalars.{as_input, as_inputs, made_of}
use Rattle.gq_exec_post.specs.declared.waiting.Waiting.{Waiting}
use Rattle.gq_exec_post.specs.Waiting.{IsQueued, IsTaken, MayWait, batch_of, contribution_of, global_to, place_of, waiting_are}

-- ---- what is appended, as a contribution

attached_at : (slots : Slots) (n : ℕ) (s : Slot) → slice_get slots.declared n ≡ Some s → slice_get (attached_in slots.declared) n ≡ Some s.attached
attached_at slots n s e = slice_get-map (λ (s : Slot). s.attached) slots.declared n ∙ ap (option_map (λ (s : Slot). s.attached)) e

module _ (slots : Slots) (n : ℕ) (x : Input) (may : MayTake slots (global_to n x)) where
  placed : place_of slots (number_of slots n 0) ≡ (n, 0)
  placed = get_or_from_slice_get (targets slots.vertices (attached_in slots.declared)) (number_of slots n 0) (n, 0) (0, 0)
      (target_law.place slots.vertices (attached_in slots.declared) n 0 may.slot.attached (attached_at slots n may.slot may.declared) may.within)

  abbrev placed_at : ℕ × ℕ → Contribution
  placed_at p = record { slot = p.0; vertex = p.1; input = given x }

  queued_is : contribution_of slots (number_of slots n 0, x) ≡ global_to n x
  queued_is = ap placed_at placed

  queued_taken : IsTaken slots (number_of slots n 0, x)
  queued_taken = record {
    may = subst (MayTake slots) (sym queued_is) may;
    number = ap (λ (p : ℕ × ℕ). number_of slots p.0 p.1) placed;
  }

module _ (slots : Slots) (n : ℕ) (x : Input) (old new : Waiting) where
  pub waiting_more : IsQueued slots n x old new → waiting_are slots new ≡ waiting_are slots old ++ global_to n x ∷ []
  waiting_more q =
      ap (map (contribution_of slots)) q.added
      ∙ map-append (contribution_of slots) (batch_of old) ((number_of slots n 0, x) ∷ [])
      ∙ ap (λ (c : Contribution). waiting_are slots old ++ c ∷ []) (queued_is slots n x q.may)

  pub all_taken : All (IsTaken slots) (batch_of old) → IsQueued slots n x old new → All (IsTaken slots) (batch_of new)
  all_taken t q = subst (All (IsTaken slots)) (sym q.added)
      (All-append (IsTaken slots) (batch_of old) ((number_of slots n 0, x) ∷ []) t (All-cons (IsTaken slots) (number_of slots n 0, x) [] (queued_taken slots n x q.may) (All-nil (IsTaken slots))))

-- ---- an input that was read

none_left : (xs : List (ℕ × Input)) → length xs ≡ 0 → xs ≡ []
none_left [] e = refl
none_left (x ∷ xs) e = absurd (omega (arith, e))

abbrev read_to : List (ℕ × ScalarInput) → List (ℕ × Input) → List (ℕ × Input)
read_to ints others = as_inputs ints ++ others

pub read_queued : (slots : Slots) (all : List Cells) (n t : ℕ) (x : ScalarInput) (old : Waiting) (ints : List (ℕ × ScalarInput)) → AreAllCells slots all → MayWait all n x t → length old.others ≡ 0 → ints ≡ old.ints ++ (t, x) ∷ []
    → IsQueued slots n (made_of x) old (record { ints = ints; others = old.others })
read_queued slots all n t x old ints are may empty pushed = record {
  may = record { slot = cells.slot; declared = cells.declared; within = subst (λ (m : ℕ). 0 < m) cells.targets may.some; suited = may.takes.each (accum_of cells.slot.kind) cells.takes };
  added = ap (read_to ints) none ∙ append-nil (as_inputs ints) ∙ ap as_inputs pushed
      ∙ map-append as_input old.ints ((t, x) ∷ [])
      ∙ ap (λ (m : ℕ). as_inputs old.ints ++ (m, made_of x) ∷ []) (may.first ∙ cells.first)
      ∙ ap (λ (xs : List (ℕ × Input)). xs ++ (number_of slots n 0, made_of x) ∷ []) (sym (ap (read_to old.ints) none ∙ append-nil (as_inputs old.ints)));
}
  where
    cells : AreCells slots n may.cells
    cells = are.each n may.cells may.there

    none : old.others ≡ []
    none = none_left old.others empty

-- ---- one that was evaluated, or that comes after such a one

pub other_queued : (slots : Slots) (n t : ℕ) (x : Input) (old : Waiting) (others : List (ℕ × Input)) → t ≡ number_of slots n 0 → MayTake slots (global_to n x) → others ≡ old.others ++ (t, x) ∷ []
    → IsQueued slots n x old (record { ints = old.ints; others = others })
other_queued slots n t x old others is may pushed = record {
  may = may;
  added = ap (read_to old.ints) pushed ∙ sym (append_assoc (as_inputs old.ints) old.others ((t, x) ∷ [])) ∙ ap (λ (m : ℕ). batch_of old ++ (m, x) ∷ []) is;
}
