use Rattle.std.proofs.Common.{◌≡◌, map}
use Rattle.gq_value.specs.AccumViews.{base_of}
use Rattle.gq_type.proofs.RuleLemmas.{same_rest}
use Rattle.gq_type.proofs.rules.+kept.Given as goal

abbrev pub invariant-same_all-loop-place : goal.invariant-same_all-loop-place
invariant-same_all-loop-place l = same_rest (map base_of l.a) (map base_of l.b) l.place ≡ same_rest (map base_of l.a) (map base_of l.b) 0
