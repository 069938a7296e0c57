-- ContentLaws: the values that contents read as, and the results of the methods of collections.
use Rattle.std.proofs.Common.{◌≡◌, ℕ, zero, suc, Bool, true, false, List, refl}
use Rattle.std.specs.Prelude.{if◌then◌else◌, ℤ}
use Rattle.gq_value.specs.declared.value.Wrong.{Wrong}
use Rattle.gq_value.specs.declared.kind.Number.TheVariants as number
use Rattle.gq_value.specs.Val.{Val}
use Rattle.gq_value.specs.Accums.{Base, Accum, SumAccum, MinAccum, MaxAccum, OrAccum, AndAccum, BitwiseOrAccum, BitwiseAndAccum, AvgAccum, SetAccum, BagAccum, ListAccum, MapAccum, GroupByAccum, HeapAccum, Parts, no_part, part_and}
use Rattle.gq_value.specs.Typed.{is_scalar}
use Rattle.gq_rules_typing.specs.Holds.{Holds}
use Rattle.gq_rules_typing.specs.After.{fresh, fresh_each}
use Rattle.gq_rules_typing.specs.Reads.{average}
use Rattle.gq_rules_typing.specs.Judging.{Average}
use Rattle.gq_rules_typing.specs.Kinds.{read_type}
use Rattle.gq_rules_meaning.specs.Answers.{Answer, Gives, found}
use Rattle.gq_rules_meaning.specs.Answers as answers
use Rattle.gq_rules_meaning.specs.Meanings.{Meant, IsAverage, read}
use Rattle.gq_rules_meaning.specs.Collections.{size_of}
use Rattle.gq_rules_meaning.specs.Expressions.{World}
use Rattle.gq_rules_meaning.specs.Fitting.{Safe, HoldsValues, HoldValues, Suits}

module _ {N : Type 0} (world : World N) where
  average_suits : (s : ℤ) (n : ℕ) → Suits world Average (IsAverage (average s n))
  average_suits s zero = tt
  average_suits s (suc n) = tt

  pub read_suits : (k : Accum) (c : Holds k) → HoldsValues world k c → Suits world (read_type k) (read k c)
  read_suits (SumAccum number.Int) c h = (refl, refl)
  read_suits (SumAccum number.UInt) c h = (refl, refl)
  read_suits (MinAccum number.Int) c h = (refl, refl)
  read_suits (MinAccum number.UInt) c h = (refl, refl)
  read_suits (MaxAccum number.Int) c h = (refl, refl)
  read_suits (MaxAccum number.UInt) c h = (refl, refl)
  read_suits OrAccum c h = (refl, refl)
  read_suits AndAccum c h = (refl, refl)
  read_suits BitwiseOrAccum c h = (refl, refl)
  read_suits BitwiseAndAccum c h = (refl, refl)
  read_suits AvgAccum c h = average_suits c.0 c.1
  read_suits (SetAccum b) c h = (refl, refl, h)
  read_suits (BagAccum b) c h = (refl, refl, h)
  read_suits (ListAccum b) c h = (refl, refl, h)
  read_suits (MapAccum b k) c h = (refl, refl, h)
  read_suits (GroupByAccum keys ps) c h = (refl, refl, h)
  read_suits (HeapAccum b n by) c h = (refl, refl, h)

  mutual
    pub fresh_holds : (k : Accum) → HoldsValues world k (fresh k)
    fresh_holds (SumAccum n) = tt
    fresh_holds (MinAccum n) = tt
    fresh_holds (MaxAccum n) = tt
    fresh_holds OrAccum = tt
    fresh_holds AndAccum = tt
    fresh_holds BitwiseOrAccum = tt
    fresh_holds BitwiseAndAccum = tt
    fresh_holds AvgAccum = tt
    fresh_holds (SetAccum b) = refl
    fresh_holds (BagAccum b) = refl
    fresh_holds (ListAccum b) = refl
    fresh_holds (HeapAccum b n by) = refl
    fresh_holds (MapAccum b k) = (refl, λ q. fresh_holds k)
    fresh_holds (GroupByAccum keys ps) = (refl, λ q. fresh_hold ps)

    pub fresh_hold : (ps : Parts) → HoldValues world ps (fresh_each ps)
    fresh_hold no_part = tt
    fresh_hold (part_and name k ps) = (fresh_holds k, fresh_hold ps)

  -- a collection has a size
  pub size_safe : (k : Accum) (c : Holds k) (Q : Meant → Type 0) (f : ℕ → Answer Wrong Meant) → is_scalar k ≡ false → ((n : ℕ) → Safe Q (f n)) → Safe Q (answers.◌>>=◌ (found (size_of k c)) f)
  size_safe (SetAccum b) c Q f h g = g _
  size_safe (BagAccum b) c Q f h g = g _
  size_safe (ListAccum b) c Q f h g = g _
  size_safe (MapAccum b k) c Q f h g = g _
  size_safe (GroupByAccum keys ps) c Q f h g = g _
  size_safe (HeapAccum b n by) c Q f h g = g _
  size_safe k c Q f h g = cc

  -- the content under a key, or the opening
  pub got_map : (b : Base) (k : Accum) (c : Holds (MapAccum b k)) (row : List Val) → HoldsValues world (MapAccum b k) c → (t : Bool) → HoldsValues world k (if t then c.1 row else fresh k)
  got_map b k c row h true = h.1 row
  got_map b k c row h false = fresh_holds k

  pub got_group : (keys : _) (ps : Parts) (c : Holds (GroupByAccum keys ps)) (row : List Val) → HoldsValues world (GroupByAccum keys ps) c → (t : Bool) → HoldValues world ps (if t then c.1 row else fresh_each ps)
  got_group keys ps c row h true = h.1 row
  got_group keys ps c row h false = fresh_hold ps
