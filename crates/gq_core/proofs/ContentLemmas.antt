-- ContentLemmas: the order of inputs doesn't affect the content.
use Rattle.std.proofs.Common.{◌≡◌, ℕ, ◌%◌, true, List, map, sym, ◌∙◌}
use Rattle.std.specs.List.Sorted.{IsPermutation}
use Rattle.std.proofs.lemmas.List.Sorted.{IsPermutation-map, IsPermutation-sym}
use Rattle.gq_value.specs.declared.kind.Input.{Input}
use Rattle.gq_value.specs.Accums.{Accum}
use Rattle.gq_value.specs.AccumViews.{given}
use Rattle.gq_value.specs.Typed.{has_no_list}
use Rattle.gq_accum_laws.specs.Holds.{Holds}
use Rattle.gq_accum_laws.specs.After.{fresh, after, merged}
use Rattle.gq_accum_laws.specs.Fits.{IsProper}
use Rattle.gq_accum_laws.proofs.KindLaws.{order_law}
use Rattle.gq_accum_laws.proofs.ProperLaws.{merged_part}
use Rattle.gq_core.specs.declared.job.FeedJob.{FeedJob}
use Rattle.gq_core.specs.Machine.{Machine, stripe_at}
use Rattle.gq_core.specs.Accounts.{IsInOrder}
use Rattle.gq_core.specs.Contents.{IsFinished, HasAll, inputs_to, all_of, given_to}
use Rattle.gq_core.proofs.ShuffleLemmas.{has_inputs}

-- a part, fed the inputs of all in another order, merged into the earlier content
part_of_all : (k : Accum) (c : Holds k) (all mine : List Input) → has_no_list k ≡ true → IsProper k c → IsPermutation all mine
    → merged k c (after k (fresh k) (map given mine)) ≡ after k c (map given all)
part_of_all k c all mine h proper p = merged_part k c (map given mine) proper ∙ sym (order_law k c (map given all) (map given mine) h (IsPermutation-map given all mine p))

pub has_all : (job : FeedJob) (m : Machine) → IsInOrder job m → IsFinished job m → (target : ℕ) → HasAll job m target
has_all job m order done target k c h proper =
    part_of_all k c (inputs_to target (all_of job.chunks)) (inputs_to target (stripe_at m (target % job.stripes)).inputs) h proper (has_inputs job m order done target)
