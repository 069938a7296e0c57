-- ContentLemmas: the values that sound contents read as.
use Rattle.std.proofs.Common.{◌≡◌, ℕ, zero, suc, ℤ, Bool, true, false, List, refl, sym, ap, subst, ◌∙◌}
use Rattle.gq_value.specs.Val.{Val, Int, UInt, Truth, Text, Vertex, Tuple, Fraction}
use Rattle.gq_value.specs.Views.{val, vals}
use Rattle.gq_value.specs.ViewLaws.{val-Int, val-UInt, val-Bool, val-Text, val-Vertex, val-Tuple}
use Rattle.gq_value.specs.declared.value.Value.{Value}
use Rattle.gq_value.specs.declared.value.Value.TheVariants as value
use Rattle.gq_value.specs.declared.kind.Number.{Number}
use Rattle.gq_value.specs.Accums.{Base, INT, BOOL, Accum, SumAccum, MinAccum, MaxAccum, OrAccum, AndAccum, BitwiseOrAccum, BitwiseAndAccum, AvgAccum, SetAccum, BagAccum, ListAccum, MapAccum, GroupByAccum, HeapAccum}
use Rattle.gq_value.specs.Typed.{is_scalar, number_type}
use Rattle.gq_accum_laws.specs.Reads.{average, value_in}
use Rattle.gq_nest.specs.declared.content.Content.{Content, out-Content}
use Rattle.gq_nest.specs.Forms.{view}
use Rattle.gq_nest.specs.Tells.{Tells, IsFitting}
use Rattle.gq_plan_ir.specs.Meanings.{Meant, Is, IsAverage, IsContent, read}
use Rattle.gq_plan_ir.specs.Answers.{Answer, Gives}
use Rattle.gq_value.specs.declared.value.Wrong.{Wrong}
use Rattle.gq_accum_laws.specs.Holds.{Holds}
use Rattle.gq_accum_laws.specs.After.{fresh}
use Rattle.gq_eval_operand.specs.Meant.{read_of, opening_of}
use Rattle.gq_eval_operand.specs.Sound.{IsSound, ReadsAs}

pub fitting : (k : Accum) (c : Content) → IsSound k c → is_scalar k ≡ true → IsFitting c
fitting k c s h = record { kind = k; holds = view k (out-Content c); shows = s.shows; scalar = h; fitting = s.fit }

pub value_is : (k : Accum) (c : Content) (v : Val) → IsSound k c → Tells c v value_in → v ≡ value_in k (view k (out-Content c))
value_is k c v s t = t.each k (view k (out-Content c)) s.shows

pub read_is : (k : Accum) (c : Content) (b : Base) (v : Val) → IsSound k c → ReadsAs k b → Tells c v value_in → Is b v ≡ read_of k c
read_is k c b v s r t = ap (Is b) (value_is k c v s t) ∙ sym (r.each (view k (out-Content c)))

pub ruleset scalar_laws = (fitting, value_is, read_is)

pub reads_sum : (n : Number) → ReadsAs (SumAccum n) (number_type n)
reads_sum n = record { each = λ h. refl }

pub reads_min : (n : Number) → ReadsAs (MinAccum n) (number_type n)
reads_min n = record { each = λ h. refl }

pub reads_max : (n : Number) → ReadsAs (MaxAccum n) (number_type n)
reads_max n = record { each = λ h. refl }

pub reads_or : ReadsAs OrAccum BOOL
reads_or = record { each = λ h. refl }

pub reads_and : ReadsAs AndAccum BOOL
reads_and = record { each = λ h. refl }

pub reads_bit_or : ReadsAs BitwiseOrAccum INT
reads_bit_or = record { each = λ h. refl }

pub reads_bit_and : ReadsAs BitwiseAndAccum INT
reads_bit_and = record { each = λ h. refl }

pub ruleset read_laws = (reads_sum, reads_min, reads_max, reads_or, reads_and, reads_bit_or, reads_bit_and)

-- ---- averages, and collections

pub average_read : (k : Accum) (c : Content) (v : Val) (x : ℤ) (n : ℕ) → IsSound k c → k ≡ AvgAccum → Tells c v value_in → v ≡ Fraction x n → ◌≡◌ {A = Answer Wrong Meant} (Gives (read_of k c)) (Gives (IsAverage (Fraction x n)))
average_read k c v x n s e t is = go k e (view k (out-Content c)) (sym (value_is k c v s t) ∙ is)
  where
    go : (k : Accum) → k ≡ AvgAccum → (h : Holds k) → value_in k h ≡ Fraction x n → ◌≡◌ {A = Answer Wrong Meant} (Gives (read k h)) (Gives (IsAverage (Fraction x n)))
    go AvgAccum e h is = ap (λ v. Gives (IsAverage v)) is
    go (SumAccum m) e h is = absurd (cc)
    go (MinAccum m) e h is = absurd (cc)
    go (MaxAccum m) e h is = absurd (cc)
    go OrAccum e h is = absurd (cc)
    go AndAccum e h is = absurd (cc)
    go BitwiseOrAccum e h is = absurd (cc)
    go BitwiseAndAccum e h is = absurd (cc)
    go (SetAccum b) e h is = absurd (cc)
    go (BagAccum b) e h is = absurd (cc)
    go (ListAccum b) e h is = absurd (cc)
    go (MapAccum b j) e h is = absurd (cc)
    go (GroupByAccum ks ps) e h is = absurd (cc)
    go (HeapAccum b m by) e h is = absurd (cc)

abbrev IsFraction : Val → Type 0
IsFraction (Fraction x n) = Unit {0}
IsFraction _ = ⊥

-- the value of an average is a fraction
only_average : (k : Accum) (c : Content) (v : Val) → IsSound k c → k ≡ AvgAccum → Tells c v value_in → IsFraction v
only_average k c v s e t = subst IsFraction (sym (value_is k c v s t)) (go k e (view k (out-Content c)))
  where
    averages : (x : ℤ) (n : ℕ) → IsFraction (average x n)
    averages x zero = tt
    averages x (suc n) = tt

    go : (k : Accum) → k ≡ AvgAccum → (h : Holds k) → IsFraction (value_in k h)
    go AvgAccum e h = averages h.0 h.1
    go (SumAccum m) e h = absurd (cc)
    go (MinAccum m) e h = absurd (cc)
    go (MaxAccum m) e h = absurd (cc)
    go OrAccum e h = absurd (cc)
    go AndAccum e h = absurd (cc)
    go BitwiseOrAccum e h = absurd (cc)
    go BitwiseAndAccum e h = absurd (cc)
    go (SetAccum b) e h = absurd (cc)
    go (BagAccum b) e h = absurd (cc)
    go (ListAccum b) e h = absurd (cc)
    go (MapAccum b j) e h = absurd (cc)
    go (GroupByAccum ks ps) e h = absurd (cc)
    go (HeapAccum b m by) e h = absurd (cc)

module _ (k : Accum) (c : Content) (v : Value) (s : IsSound k c) (e : k ≡ AvgAccum) (t : Tells c (val v) value_in) where
  other : (u : Val) → val v ≡ u → IsFraction u
  other u is = subst IsFraction is (only_average k c (val v) s e t)

  pub average_int : (x : ℤ) → v ≡ value.Int x → ⊥
  average_int x is = other (Int x) (ap val is ∙ val-Int x)

  pub average_uint : (n : ℕ) → v ≡ value.UInt n → ⊥
  average_uint n is = other (UInt n) (ap val is ∙ val-UInt n)

  pub average_truth : (b : Bool) → v ≡ value.Bool b → ⊥
  average_truth b is = other (Truth b) (ap val is ∙ val-Bool b)

  pub average_text : (bs : List ℕ) → v ≡ value.Text bs → ⊥
  average_text bs is = other (Text bs) (ap val is ∙ val-Text bs)

  pub average_vertex : (n : ℕ) → v ≡ value.Vertex n → ⊥
  average_vertex n is = other (Vertex n) (ap val is ∙ val-Vertex n)

  pub average_tuple : (row : List Value) → v ≡ value.Tuple row → ⊥
  average_tuple row is = other (Tuple (vals row)) (ap val is ∙ val-Tuple row)

whole : (k : Accum) → is_scalar k ≡ false → (h : Holds k) → read k h ≡ IsContent k h
whole (SetAccum b) e h = refl
whole (BagAccum b) e h = refl
whole (ListAccum b) e h = refl
whole (MapAccum b k) e h = refl
whole (GroupByAccum ks ps) e h = refl
whole (HeapAccum b n by) e h = refl
whole k e h = absurd (cc)

pub whole_read : (k : Accum) (c : Content) → is_scalar k ≡ false → ◌≡◌ {A = Answer Wrong Meant} (Gives (read_of k c)) (Gives (IsContent k (view k (out-Content c))))
whole_read k c e = ap Gives (whole k e (view k (out-Content c)))

pub whole_opening : (k : Accum) → is_scalar k ≡ false → IsContent k (fresh k) ≡ opening_of k
whole_opening k e = sym (whole k e (fresh k))

pub ruleset whole_laws = (whole_read, whole_opening)
