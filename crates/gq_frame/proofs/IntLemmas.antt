-- IntLemmas: one more INT, in a scalar and in its content.
use Rattle.std.proofs.Common.{◌≡◌, ℕ, ◌+◌, ◌^◌, ◌<◌, ℤ, ◌+ℤ◌, [], ◌∷◌, refl, sym, ap, ap₂, ◌∙◌, subst, FitsSigned, bit_and, bit_or, w64, to_z, of_z}
use Rattle.std.specs.Int.{w128, int_min, int_max}
use Rattle.gq_value.specs.Val.{Int}
use Rattle.gq_value.specs.Accums.{Given, One}
use Rattle.gq_accum_laws.specs.After.{after}
use Rattle.gq_accum_laws.specs.Fits.{HasRoom}
use Rattle.gq_accum.specs.declared.scalar.Mean.{Mean}
use Rattle.gq_accum.specs.declared.scalar.Scalar.{Scalar}
use Rattle.gq_accum.specs.declared.scalar.Scalar.TheVariants.{SumInt, MinInt, MaxInt, BitOr, BitAnd, Avg}
use Rattle.gq_accum.specs.Scalars.{kind_of, IsFar}
use Rattle.gq_accum.specs.Wide.{count_of, sum_of}
use Rattle.gq_accum.specs.declared.wide.Count.{Count}
use Rattle.gq_accum.specs.declared.wide.Sum.{Sum}
use Rattle.gq_accum.proofs.SumSteps.{near, widened, fed_is, count_is, count_room}
use Rattle.gq_accum.proofs.NumberSteps.{min_is, max_is, either_is, both_is}
use Rattle.gq_nest.specs.declared.content.Content.{Content, Content-F, out-Content}
use Rattle.gq_nest.specs.declared.content.Content.TheVariants as made
use Rattle.gq_nest.specs.Forms.{Feeds, view}
use Rattle.gq_nest.specs.Shows.{TakesInput}
use Rattle.gq_nest.proofs.LevelLemmas.{opened-Scalar, scalar_view, scalar_deep}
use Rattle.gq_nest.proofs.FeedSteps.{feeds_by}
use Rattle.gq_frame.specs.Ints.{AddsInt}

-- ---- one more INT in a scalar

of_scalar : (s t r : Scalar) (x : ℤ) → s ≡ t → AddsInt t x r → AddsInt s x r
of_scalar s t r x e h = subst (λ (u : Scalar). AddsInt u x r) (sym e) h

pub adds_sum : (s : Scalar) (a n : Sum) (p y x r : ℤ) → FitsSigned w64 x → y ≡ to_z w64 (of_z w64 x) → p ≡ sum_of a → sum_of n ≡ to_z w128 (of_z w128 r)
    → (IsFar (to_z w128 (of_z w128 p)) → IsFar (to_z w128 (of_z w128 y)) → r ≡ to_z w128 (of_z w128 p) +ℤ to_z w128 (of_z w128 y)) → s ≡ SumInt a → AddsInt s x (SumInt n)
adds_sum s a n p y x r h e pa nr t is = of_scalar s _ _ x is (record { kept = refl; fed = λ suit room. fed_is (sum_of a) p y x r (sum_of n) pa nr t room (near x h) (widened x y h e) })

pub adds_min : (s : Scalar) (a x r : ℤ) → FitsSigned w64 x → FitsSigned w64 a → FitsSigned w64 r → r ≡ int_min (to_z w64 (of_z w64 x)) (to_z w64 (of_z w64 a)) → s ≡ MinInt a → AddsInt s x (MinInt (to_z w64 (of_z w64 r)))
adds_min s a x r f g h e is = of_scalar s _ _ x is (record { kept = refl; fed = λ suit room. min_is x a r f g h e })

pub adds_max : (s : Scalar) (a x r : ℤ) → FitsSigned w64 x → FitsSigned w64 a → FitsSigned w64 r → r ≡ int_max (to_z w64 (of_z w64 x)) (to_z w64 (of_z w64 a)) → s ≡ MaxInt a → AddsInt s x (MaxInt (to_z w64 (of_z w64 r)))
adds_max s a x r f g h e is = of_scalar s _ _ x is (record { kept = refl; fed = λ suit room. max_is x a r f g h e })

pub adds_either : (s : Scalar) (a x : ℤ) → FitsSigned w64 x → FitsSigned w64 a → s ≡ BitOr a → AddsInt s x (BitOr (to_z w64 (bit_or (of_z w64 x) (of_z w64 a))))
adds_either s a x f g is = of_scalar s _ _ x is (record { kept = refl; fed = λ suit room. either_is x a f g })

pub adds_both : (s : Scalar) (a x : ℤ) → FitsSigned w64 x → FitsSigned w64 a → s ≡ BitAnd a → AddsInt s x (BitAnd (to_z w64 (bit_and (of_z w64 x) (of_z w64 a))))
adds_both s a x f g is = of_scalar s _ _ x is (record { kept = refl; fed = λ suit room. both_is x a f g })

pub adds_mean : (s : Scalar) (m : Mean) (d : Sum) (n : Count) (p y x r : ℤ) (q k : ℕ) → FitsSigned w64 x → y ≡ to_z w64 (of_z w64 x) → p ≡ sum_of m.sum → sum_of d ≡ to_z w128 (of_z w128 r)
    → (IsFar (to_z w128 (of_z w128 p)) → IsFar (to_z w128 (of_z w128 y)) → r ≡ to_z w128 (of_z w128 p) +ℤ to_z w128 (of_z w128 y)) → q ≡ count_of m.count → count_of n ≡ k → (q + 1 < 2 ^ 128 → k ≡ q + 1)
    → s ≡ Avg m → AddsInt s x (Avg (record { sum = d; count = n }))
adds_mean s m d n p y x r q k h e pm dr t qm nk u is = of_scalar s _ _ x is (record {
  kept = refl;
  fed = λ suit room. ap₂ (λ (a : ℤ) (c : ℕ). (a, c)) (fed_is (sum_of m.sum) p y x r (sum_of d) pm dr t (room.0, room.1, room.2.0) (near x h) (widened x y h e))
      (count_is (count_of m.count) 1 q 1 k (count_of n) qm refl nk u (count_room (count_of m.count) room.0 room.1 room.2.1));
})

-- ---- and in its content

-- what takes an input is fed by it
pub feeds_of : (old new : Content) (x : Given) → TakesInput old x new → Feeds (out-Content old) x (out-Content new)
feeds_of old new x takes = record { each = λ k of_kind proper room suit. let s = takes.each k (view k (out-Content old)) (record { of_kind = of_kind; holds = refl; proper = proper }) room suit in (s.of_kind, s.holds) }

pub scalar_feeds : (s r : Scalar) (x : ℤ) → AddsInt s x r → Feeds (Content-F.Scalar s) (One (Int x)) (out-Content (made.Scalar r))
scalar_feeds s r x h = feeds_by (λ (u : Unit {0}). kind_of s) (Content-F.Scalar s) (Content-F.Scalar r) (made.Scalar r) (One (Int x)) (opened-Scalar r) (λ k e. (tt, e))
    (λ u deep proper room suit. (
      (sym h.kept, scalar_deep s (Content-F.Scalar r)),
      scalar_view s (Content-F.Scalar r) ∙ h.fed suit (subst (HasRoom (kind_of s)) (scalar_view s (Content-F.Scalar s)) room)
          ∙ ap (λ c. after (kind_of s) c (One (Int x) ∷ [])) (sym (scalar_view s (Content-F.Scalar s))),
    ))
