use Rattle.std.proofs.Common.{◌≡◌, ◌+◌, ◌*◌, length}
use Rattle.gq_value.specs.declared.kind.Input.{size-Input}
use Rattle.gq_value.specs.AccumViews.{given}
use Rattle.gq_nest.specs.declared.content.Content.{out-Content}
use Rattle.gq_nest.specs.Forms.{Feeds}
use Rattle.gq_nest.proofs.PartSteps.{Midway}
use Rattle.gq_nest.proofs.feed.+feeding.Given as goal

abbrev pub decreases-feed : goal.decreases-feed
decreases-feed l = 4 * size-Input l.input.now

abbrev pub decreases-feed_entry : goal.decreases-feed_entry
decreases-feed_entry l = 4 * size-Input l.input.now + 1

abbrev pub decreases-feed_group : goal.decreases-feed_group
decreases-feed_group l = 4 * goal.size-feed_group l + 3

abbrev pub decreases-feed_parts : goal.decreases-feed_parts
decreases-feed_parts l = 4 * goal.size-feed_parts l + 2

-- the first parts are fed, and the others are as they were
abbrev pub invariant-feed_parts-loop-i : goal.invariant-feed_parts-loop-i
invariant-feed_parts-loop-i l = (length l.parts ≡ length l.initial.parts) × Midway (λ c x d. Feeds (out-Content c) (given x) (out-Content d)) l.i l.initial.parts l.inputs l.parts
