use Rattle.std.proofs.Common.{ℕ, ◌≡◌, ◌+◌, ◌<◌, ◌-◌, subst, arith}
use Rattle.gq_index.specs.Stretches.{stretch_at}
use Rattle.gq_index.proofs.StretchLemmas.{ends_behind, some_before}
use Rattle.gq_index.proofs.stretches.number_of.Goals as goal

pub returns-clause-high : goal.returns-clause-high
returns-clause-high c =
    let ss = c.args.stretches.now in let place = c.args.place in let end = c.find.result in
    let some : 0 < end = some_before ss end place c.requires.follow c.requires.within c.find.ensures.behind in
    let same : end ≡ end - 1 + 1 = omega arith in
    let P : ℕ → Type 0 = λ k. place < (stretch_at ss k).start in
    ends_behind 0 ss (end - 1) place c.requires.follow (omega arith) (λ g. subst P same (c.find.ensures.behind (omega arith))) (omega (arith, c.requires.within))
