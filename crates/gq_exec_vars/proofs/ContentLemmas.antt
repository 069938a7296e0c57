-- ContentLemmas: initial contents: none is spoiled, values have their types, and sums are in range.
use Rattle.std.proofs.Common.{◌≡◌, ℕ, ◌+◌, ◌^◌, ◌<◌, true, false, List, [], ◌∷◌, ◌++◌, length, Option, Some, None, refl, sym, ap, ◌∙◌, subst, arith}
use Rattle.std.proofs.lemmas.Bool.Decides.{nat_tests}
use Rattle.gq_value.specs.declared.kind.Number.TheVariants as number
use Rattle.gq_value.specs.declared.value.Value.{Value}
use Rattle.gq_value.specs.Accums as kinds
use Rattle.gq_value.specs.Accums.{Accum, Parts, no_part, part_and}
use Rattle.gq_value.specs.Arithmetic.{is_within, whole}
use Rattle.gq_value.specs.Typed.{is_of, takes}
use Rattle.gq_value.specs.Val.{Val, Int, UInt, Truth, Text, Vertex, Tuple, Fraction}
use Rattle.gq_value.specs.Views.{val}
use Rattle.gq_accum_laws.specs.Holds.{Holds}
use Rattle.gq_accum_laws.specs.After.{fresh, fresh_each}
use Rattle.gq_accum_laws.specs.Fits.{fits}
use Rattle.gq_accum_laws.specs.Reads.{set_to}
use Rattle.gq_nest.specs.declared.content.Content.{Content}
use Rattle.gq_nest.specs.Entries.{every}
use Rattle.gq_nest.specs.Shows.{Shows, ShowsTheSame}
use Rattle.gq_nest.specs.Tells.{CanBeSet, IsSet, is_settable}
use Rattle.gq_eval_operand.specs.Sound.{HoldsForms, HoldForms, IsSound}
use Rattle.gq_frame.specs.Pages.{Fills}
use Rattle.gq_exec_feed.proofs.SlotLemmas.{Every}
use Rattle.gq_exec_vars.specs.Begun.{AddsContents, CanOpen, opens_with}

-- ---- the kind's own

mutual
  forms_fresh : (k : Accum) → HoldsForms k (fresh k)
  forms_fresh (kinds.SumAccum n) = tt
  forms_fresh (kinds.MinAccum n) = tt
  forms_fresh (kinds.MaxAccum n) = tt
  forms_fresh kinds.OrAccum = tt
  forms_fresh kinds.AndAccum = tt
  forms_fresh kinds.BitwiseOrAccum = tt
  forms_fresh kinds.BitwiseAndAccum = tt
  forms_fresh kinds.AvgAccum = tt
  forms_fresh (kinds.SetAccum b) = refl
  forms_fresh (kinds.BagAccum b) = refl
  forms_fresh (kinds.ListAccum b) = refl
  forms_fresh (kinds.HeapAccum b n by) = refl
  forms_fresh (kinds.MapAccum b k) = λ q. forms_fresh k
  forms_fresh (kinds.GroupByAccum keys ps) = λ q. forms_each ps

  forms_each : (ps : Parts) → HoldForms ps (fresh_each ps)
  forms_each no_part = tt
  forms_each (part_and name k ps) = (forms_fresh k, forms_each ps)

fits_fresh : (k : Accum) → fits k (fresh k) ≡ true
fits_fresh (kinds.SumAccum number.Int) = refl
fits_fresh (kinds.SumAccum number.UInt) = refl
fits_fresh kinds.AvgAccum = refl
fits_fresh (kinds.MinAccum n) = refl
fits_fresh (kinds.MaxAccum n) = refl
fits_fresh kinds.OrAccum = refl
fits_fresh kinds.AndAccum = refl
fits_fresh kinds.BitwiseOrAccum = refl
fits_fresh kinds.BitwiseAndAccum = refl
fits_fresh (kinds.SetAccum b) = refl
fits_fresh (kinds.BagAccum b) = refl
fits_fresh (kinds.ListAccum b) = refl
fits_fresh (kinds.MapAccum b k) = refl
fits_fresh (kinds.GroupByAccum keys ps) = refl
fits_fresh (kinds.HeapAccum b n by) = refl

-- ---- one that is set to a value

apart : {P : Type 0} → false ≡ true → P
apart h = absurd (cc h)

int_within : (v : Val) → is_of kinds.INT v ≡ true → is_within number.Int (whole v) ≡ true
int_within (Int x) h = h
int_within (UInt n) h = apart h
int_within (Truth b) h = apart h
int_within (Text s) h = apart h
int_within (Vertex n) h = apart h
int_within (Tuple vs) h = apart h
int_within (Fraction s n) h = apart h

uint_within : (v : Val) → is_of kinds.UINT v ≡ true → is_within number.UInt (whole v) ≡ true
uint_within (UInt n) h = let k : n < 2 ^ 64 = grind (arith, nat_tests) in grind (arith, nat_tests)
uint_within (Int x) h = apart h
uint_within (Truth b) h = apart h
uint_within (Text s) h = apart h
uint_within (Vertex n) h = apart h
uint_within (Tuple vs) h = apart h
uint_within (Fraction s n) h = apart h

fits_put : (k : Accum) (v : Val) → is_settable k ≡ true → takes k v ≡ true → fits k (set_to k v) ≡ true
fits_put (kinds.SumAccum number.Int) v e h = int_within v h
fits_put (kinds.SumAccum number.UInt) v e h = uint_within v h
fits_put kinds.AvgAccum v e h = apart e
fits_put (kinds.MinAccum n) v e h = refl
fits_put (kinds.MaxAccum n) v e h = refl
fits_put kinds.OrAccum v e h = refl
fits_put kinds.AndAccum v e h = refl
fits_put kinds.BitwiseOrAccum v e h = refl
fits_put kinds.BitwiseAndAccum v e h = refl
fits_put (kinds.SetAccum b) v e h = apart e
fits_put (kinds.BagAccum b) v e h = apart e
fits_put (kinds.ListAccum b) v e h = apart e
fits_put (kinds.MapAccum b k) v e h = apart e
fits_put (kinds.GroupByAccum keys ps) v e h = apart e
fits_put (kinds.HeapAccum b n by) v e h = apart e

forms_put : (k : Accum) (v : Val) → is_settable k ≡ true → HoldsForms k (set_to k v)
forms_put (kinds.SumAccum n) v e = tt
forms_put (kinds.MinAccum n) v e = tt
forms_put (kinds.MaxAccum n) v e = tt
forms_put kinds.OrAccum v e = tt
forms_put kinds.AndAccum v e = tt
forms_put kinds.BitwiseOrAccum v e = tt
forms_put kinds.BitwiseAndAccum v e = tt
forms_put kinds.AvgAccum v e = tt
forms_put (kinds.SetAccum b) v e = apart e
forms_put (kinds.BagAccum b) v e = apart e
forms_put (kinds.ListAccum b) v e = apart e
forms_put (kinds.MapAccum b k) v e = apart e
forms_put (kinds.GroupByAccum keys ps) v e = apart e
forms_put (kinds.HeapAccum b n by) v e = apart e

-- ---- both

sound_of : (k : Accum) (c : Content) (h : Holds k) → Shows k c h → HoldsForms k h → fits k h ≡ true → IsSound k c
sound_of k c h s forms fit = record {
  shows = subst (Shows k c) (sym s.holds) s;
  forms = subst (HoldsForms k) (sym s.holds) forms;
  fit = ap (fits k) s.holds ∙ fit;
}

pub opened_sound : (k : Accum) (first : Option Value) (c : Content) → CanOpen k first → Shows k c (opens_with k first) → IsSound k c
opened_sound k None c can s = sound_of k c (fresh k) s (forms_fresh k) (fits_fresh k)
opened_sound k (Some v) c can s = sound_of k c (set_to k (val v)) s (forms_put k (val v) can.0) (fits_put k (val v) can.0 can.1)

pub may_be_set : (k : Accum) (v : Value) (first : Option Value) (c : Content) → CanOpen k first → first ≡ Some v → Shows k c (fresh k) → CanBeSet c (val v)
may_be_set k v first c can is s = let h : CanOpen k (Some v) = subst (CanOpen k) is can in record { kind = k; holds = fresh k; shows = s; settable = h.0; takes = h.1 }

pub shows_set : (k : Accum) (v : Value) (first : Option Value) (old new : Content) → first ≡ Some v → Shows k old (fresh k) → IsSet old (val v) new → Shows k new (opens_with k first)
shows_set k v first old new is s set = subst (λ (o : Option Value). Shows k new (opens_with k o)) (sym is) (set.each k (fresh k) s)

pub shows_own : (k : Accum) (first : Option Value) (c : Content) → first ≡ None → Shows k c (fresh k) → Shows k c (opens_with k first)
shows_own k first c is s = subst (λ (o : Option Value). Shows k c (opens_with k o)) (sym is) s

pub ruleset content_laws = (may_be_set, shows_set, shows_own)

-- ---- many that are alike

all_show : (k : Accum) (h : Holds k) (c : Content) → Shows k c h → (xs : List Content) → every (ShowsTheSame c) xs → Every (λ d. Shows k d h) xs
all_show k h c s [] like = tt
all_show k h c s (x ∷ xs) like = (like.0.each k h s, all_show k h c s xs like.1)

pub adds_alike : (k : Accum) (h : Holds k) (c : Content) (n : ℕ) (old new : List Content) → Shows k c h → Fills c n old new → AddsContents k h n old new
adds_alike k h c n old new s f = record { more = f.more; added = f.added; many = f.many; shows = all_show k h c s f.more f.like }
