use Rattle.std.proofs.Common.{◌≡◌, ◌+◌, ◌∙◌, refl, false, get_or, arith}
use Rattle.std.specs.Prelude.{nat_eq, ◌&&◌}
use Rattle.std.proofs.lemmas.Bool.{and_left, and_right, ne_eqb}
use Rattle.gq_token.proofs.EndLemmas.{comment_more}
use Rattle.gq_token.proofs.comments.end.Goals as goal
use Rattle.gq_token.proofs.comments.end.Goals.{else-behind-at-eq42-via-then-behind-at-eq42+else-byte_at-eq47, else-behind-at-eq42-via-else-behind-at-eq42}

pub loop-at-preserved : goal.loop-at-preserved
loop-at-preserved c = comment_more c.args.behind.now c.loop-at.at (c.loop-at.at + 1) c.loop-at.invariant (omega arith) refl plain
  where
    plain : (nat_eq (get_or c.args.behind.now c.loop-at.at 0) 42 && nat_eq (get_or c.args.behind.now (c.loop-at.at + 1) 0) 47) ≡ false
    plain = elim c.else-behind-at-eq42.branch [
      | else-behind-at-eq42-via-then-behind-at-eq42+else-byte_at-eq47 w ↦ and_right _ _ (ne_eqb _ 47 (λ e. w.if-byte_at-eq47.false (w.byte_at.ensures ∙ e)))
      | else-behind-at-eq42-via-else-behind-at-eq42 w ↦ and_left _ _ (ne_eqb _ 42 w.if-behind-at-eq42.false)
    ]
