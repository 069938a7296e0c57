use lib.Dec
use Rattle.std.proofs.Common.{ℕ, ◌≡◌, ap, subst, arith, length, List, true}
use Rattle.std.proofs.lemmas.Bool.Decides.{nat_tests}
use mathlib.Core.List.{IsPrefix}
use Rattle.gq_load_check.specs.declared.insert.Insert.{Insert}
use Rattle.gq_store.proofs.Beginnings.{prefix_shorter}
use Rattle.gq_store.proofs.book.News.begins_with.Goals as goal

by_count : (xs ys zs : List Insert) (m n : ℕ) → m ≡ length xs → n ≡ length ys → IsPrefix xs zs → IsPrefix ys zs → lib.Dec.leb n m ≡ true → IsPrefix ys xs
by_count xs ys zs m n a b p q is = prefix_shorter ys xs zs q p (grind (arith, nat_tests))

pub returns : goal.returns
returns g c =
    let both = c.learn.new.self.log in
    let this : IsPrefix c.self.inside.seen.log both = subst (λ (l : List Insert). IsPrefix l both) (ap (λ s. s.log) c.again-both.ensures) c.learn.ensures.2 in
    rw (← c.self.view_is, ← c.other.view_is) (by_count c.self.inside.seen.log c.other.inside.seen.log both c.self.inside.count c.other.inside.count c.self.invariant.0 c.other.invariant.0 this c.learn.ensures.3)
