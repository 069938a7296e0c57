use Rattle.std.proofs.Common.{◌≡◌, ◌==◌, drop, map}
use Rattle.gq_eval_operand.specs.Words.{under}
use Rattle.gq_frame.specs.Names.{alias_of}
use Rattle.gq_frame.proofs.names.alias_at.Given as goal

-- no alias so far has the place
abbrev pub invariant-loop-alias : goal.invariant-loop-alias
invariant-loop-alias l = under ◌==◌ l.place (map alias_of l.aliases) ≡ under ◌==◌ l.place (map alias_of (drop l.alias-index l.aliases))
