use Rattle.std.proofs.Common.{◌∙◌, ap, sym, cond, ◌++◌, ◌∷◌, [], List, ℕ, slice_index_or, false}
use Rattle.gq_schema.proofs.MemberLemmas.{chosen_more}
use Rattle.gq_schema.proofs.members.chosen.Goals as goal

pub loop-number-preserved : goal.loop-number-preserved
loop-number-preserved c =
    c.in_ok-add_if.ensures
    ∙ ap (λ (l : List ℕ). l ++ cond (slice_index_or c.args.marks.now c.loop-number.number false) (c.loop-number.number ∷ []) []) c.loop-number.invariant
    ∙ sym (chosen_more (λ k. slice_index_or c.args.marks.now k false) c.loop-number.number)
