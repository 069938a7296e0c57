-- JudgingSteps: the entries at the keys of an input decide whether a content fits, for each variant.
use Rattle.std.proofs.Common.{◌≡◌, ℕ, zero, suc, ◌+◌, ◌<◌, ◌≤◌, pos, ◌&&◌, Bool, true, false, List, [], ◌∷◌, map, drop, length, get_or, Some, None, refl, sym, ap, ap₂, ◌∙◌, subst, arith}
use Rattle.std.specs.Ordering.{is_eq, on}
use Rattle.std.specs.Cmp.Lexicographic.{slice_cmp}
use Rattle.std.specs.Map.{lookup}
use Rattle.std.specs.Slice.{IsItemAt}
use Rattle.std.specs.Global.{Vec}
use Rattle.std.specs.BTreeMap.{BTreeMap}
use Rattle.gq_value.specs.declared.value.Value.{Value}
use Rattle.gq_value.specs.declared.kind.Input.{Input}
use Rattle.gq_value.specs.Val.{Val, Int}
use Rattle.gq_value.specs.Views.{val}
use Rattle.gq_value.specs.Order.{place}
use Rattle.gq_value.specs.Accums.{Base, Accum, SumAccum, MinAccum, MaxAccum, OrAccum, AndAccum, BitwiseOrAccum, BitwiseAndAccum, AvgAccum, SetAccum, BagAccum, ListAccum, MapAccum, GroupByAccum, HeapAccum, Parts, no_part, part_and, Given, One, Keyed, Givens}
use Rattle.gq_value.specs.AccumViews.{given, givens}
use Rattle.gq_accum_laws.specs.Holds.{Holds, HoldsEach}
use Rattle.gq_accum_laws.specs.Inputs.{first, rest}
use Rattle.gq_accum_laws.specs.After.{fresh_each}
use Rattle.gq_accum_laws.specs.Fits.{fits, AreProper}
use Rattle.gq_accum.specs.declared.scalar.Scalar.{Scalar}
use Rattle.gq_accum.specs.declared.scalar.Scalar.TheVariants.{SumInt, SumUInt, MinInt, MinUInt, MaxInt, MaxUInt, Or, And, BitOr, BitAnd, Avg}
use Rattle.gq_accum.specs.Scalars.{kind_of}
use Rattle.gq_nest.specs.declared.content.Content.{Content, Content-F, out-Content}
use Rattle.gq_nest.specs.declared.content.Content.TheVariants as made
use Rattle.gq_nest.specs.Entries.{group_row, at_or, under}
use Rattle.gq_nest.specs.Forms.{view_each, AreOf, HasForm, IsOf, groups_in}
use Rattle.gq_nest.specs.Shows.{Shows, ShowEach}
use Rattle.gq_nest.specs.Tells.{Tells, HasKey, LacksKey}
use Rattle.gq_nest.proofs.GroupLemmas.{group_test}
use Rattle.gq_nest.proofs.GroupSteps.{lacks_row}
use Rattle.gq_nest.proofs.LevelLemmas.{opened-Scalar, opened-Map, opened-Group}
use Rattle.gq_nest.proofs.PartSteps.{left_more, left_none, shown_each}
use Rattle.gq_exec_post.specs.Judging.{EachTellsWhere, fits_where, fit_where, given_at}
use Rattle.gq_exec_post.proofs.JudgingLaws.{fresh_where, fresh_each_where}

-- ---- contents without keys, and inputs without keys

one_where : (k : Accum) (h : Holds k) (v : Val) → fits_where k h (One v) ≡ fits k h
one_where (SumAccum n) h v = refl
one_where (MinAccum n) h v = refl
one_where (MaxAccum n) h v = refl
one_where OrAccum h v = refl
one_where AndAccum h v = refl
one_where BitwiseOrAccum h v = refl
one_where BitwiseAndAccum h v = refl
one_where AvgAccum h v = refl
one_where (SetAccum b) h v = refl
one_where (BagAccum b) h v = refl
one_where (ListAccum b) h v = refl
one_where (MapAccum b k) h v = refl
one_where (GroupByAccum keys ps) h v = refl
one_where (HeapAccum b n by) h v = refl

pub tells_one : (c : Content) (r : Bool) (x : Given) (v : Val) → x ≡ One v → Tells c r fits → Tells c r (λ k h. fits_where k h x)
tells_one c r x v e t = record { each = λ k h s. t.each k h s ∙ sym (ap (fits_where k h) e ∙ one_where k h v) }

abbrev has_keys : Accum → Bool
has_keys (MapAccum b k) = true
has_keys (GroupByAccum keys ps) = true
has_keys k = false

plain_where : (k : Accum) (h : Holds k) (x : Given) → has_keys k ≡ false → fits_where k h x ≡ fits k h
plain_where (SumAccum n) h x e = refl
plain_where (MinAccum n) h x e = refl
plain_where (MaxAccum n) h x e = refl
plain_where OrAccum h x e = refl
plain_where AndAccum h x e = refl
plain_where BitwiseOrAccum h x e = refl
plain_where BitwiseAndAccum h x e = refl
plain_where AvgAccum h x e = refl
plain_where (SetAccum b) h x e = refl
plain_where (BagAccum b) h x e = refl
plain_where (ListAccum b) h x e = refl
plain_where (MapAccum b k) h x e = absurd (cc e)
plain_where (GroupByAccum keys ps) h x e = absurd (cc e)
plain_where (HeapAccum b n by) h x e = refl

module _ (c : Content) (r : Bool) (x : Given) (t : Tells c r fits) where
  tells_plain : (l : Content-F Content) → out-Content c ≡ l → ((k : Accum) → HasForm l k → has_keys k ≡ false) → Tells c r (λ k h. fits_where k h x)
  tells_plain l o plain = record { each = λ k h s. t.each k h s ∙ sym (plain_where k h x (plain k (subst (λ m. HasForm m k) o s.of_kind.0))) }

  pub tells_scalar : (s : Scalar) → c ≡ made.Scalar s → Tells c r (λ k h. fits_where k h x)
  tells_scalar s e = tells_plain (Content-F.Scalar s) (ap out-Content e ∙ opened-Scalar s) (λ k f. ap has_keys f ∙ by s)
    where
      by : (s : Scalar) → has_keys (kind_of s) ≡ false
      by (SumInt d) = refl
      by (SumUInt d) = refl
      by (MinInt d) = refl
      by (MinUInt d) = refl
      by (MaxInt d) = refl
      by (MaxUInt d) = refl
      by (Or d) = refl
      by (And d) = refl
      by (BitOr d) = refl
      by (BitAnd d) = refl
      by (Avg d) = refl

-- ---- a map

module _ (c o : Content) (m : BTreeMap Value Content) (e : c ≡ made.Map o m) (x : Given) (row : List Val) (xs : Givens) (is : x ≡ Keyed row xs) where
  -- a property of everything that a content shows as a map
  tells_map : (r : Bool) → ((b : Base) (k : Accum) (h : Holds (MapAccum b k)) → Shows (MapAccum b k) c h → r ≡ fits_where k (h.1 row) (first xs)) → Tells c r (λ k h. fits_where k h x)
  tells_map r each = record { each = λ k h s. go k h s (subst (λ l. HasForm l k) (ap out-Content e ∙ opened-Map o m) s.of_kind.0) }
    where
      go : (k : Accum) (h : Holds k) → Shows k c h → HasForm (Content-F.Map o m) k → r ≡ fits_where k h x
      go k h s f = subst (λ (i : Accum). (d : Holds i) → Shows i c d → r ≡ fits_where i d x) (sym f.2) (λ d t. each f.0 f.1 d t ∙ ap (fits_where (MapAccum f.0 f.1) d) (sym is)) h s

  pub lacks_where : LacksKey c row → Tells c true (λ k h. fits_where k h x)
  lacks_where lacks = tells_map true (λ b k h s. sym (ap (λ (d : Holds k). fits_where k d (first xs)) (s.proper.1 row (lacks.each b k h s)) ∙ fresh_where k (first xs)))

  pub has_where : (part : Content) (r : Bool) → HasKey c row part → Tells part r (λ k h. fits_where k h (first xs)) → Tells c r (λ k h. fits_where k h x)
  has_where part r has t = tells_map r (λ b k h s. t.each k (h.1 row) (has.each b k h s).1)

-- ---- a group

module _ (c : Content) (os : List Content) (m : BTreeMap (Vec Value) (List Content)) (e : c ≡ made.Group os m) (row seen : List Value) (same : seen ≡ row) (x : Given) (xs : Givens) (is : x ≡ Keyed (map val row) xs) where
  level : out-Content c ≡ Content-F.Group os m
  level = ap out-Content e ∙ opened-Group os m

  tells_group : (r : Bool) → ((keys : List (List ℕ × Base)) (ps : Parts) (h : Holds (GroupByAccum keys ps)) → Shows (GroupByAccum keys ps) c h → r ≡ fit_where ps (h.1 (map val row)) xs) → Tells c r (λ k h. fits_where k h x)
  tells_group r each = record { each = λ k h s. go k h s (subst (λ l. HasForm l k) level s.of_kind.0) }
    where
      go : (k : Accum) (h : Holds k) → Shows k c h → HasForm (Content-F.Group os m) k → r ≡ fits_where k h x
      go k h s f = subst (λ (i : Accum). (d : Holds i) → Shows i c d → r ≡ fits_where i d x) (sym f.2) (λ d t. each f.0 f.1 d t ∙ ap (fits_where (GroupByAccum f.0 f.1) d) (sym is)) h s

  pub group_lacks : None ≡ lookup (λ (k : Vec Value). is_eq (slice_cmp (on val place) seen k.items)) m.entries → Tells c true (λ k h. fits_where k h x)
  group_lacks none = tells_group true (λ keys ps h s. at keys ps h s)
    where
      at : (keys : List (List ℕ × Base)) (ps : Parts) (h : Holds (GroupByAccum keys ps)) → Shows (GroupByAccum keys ps) c h → true ≡ fit_where ps (h.1 (map val row)) xs
      at keys no_part h s = refl
      at keys (part_and name k ps) h s = sym (ap (λ (d : HoldsEach (part_and name k ps)). fit_where (part_and name k ps) d xs)
          (s.proper.1 (map val row) ((lacks_row c os m e row seen same 0 none).each keys (part_and name k ps) h s refl)) ∙ fresh_each_where (part_and name k ps) xs)

  -- the parts at a row show what the group holds there
  module _ (cs : List Content) (found : Some cs ≡ lookup (λ (k : Vec Value). is_eq (slice_cmp (on val place) seen k.items)) m.entries) (keys : List (List ℕ × Base)) (ps : Parts) (h : Holds (GroupByAccum keys ps)) (s : Shows (GroupByAccum keys ps) c h) where
    there : under group_row (map val row) m.entries ≡ Some cs
    there = sym (found ∙ ap (λ t. lookup t m.entries) (group_test seen) ∙ ap (λ r. under group_row (map val r) m.entries) same)

    are_parts : AreOf ps cs
    are_parts = (subst (IsOf (GroupByAccum keys ps)) level s.of_kind).1.1 (map val row) cs there

    held : view_each ps cs ≡ h.1 (map val row)
    held = ap (at_or (λ p. view_each ps p) (fresh_each ps)) (sym there) ∙ ap (λ l. at_or (λ p. view_each ps p) (fresh_each ps) (under group_row (map val row) (groups_in l))) (sym level)
        ∙ ap (λ (d : Holds (GroupByAccum keys ps)). d.1 (map val row)) s.holds

    shown : ShowEach ps cs (h.1 (map val row))
    shown = subst (ShowEach ps cs) held (shown_each ps cs are_parts (subst (AreProper ps) (sym held) (s.proper.2 (map val row))))

  pub group_has : (cs : List Content) → Some cs ≡ lookup (λ (k : Vec Value). is_eq (slice_cmp (on val place) seen k.items)) m.entries → (ys : List Given) → xs ≡ givens ys → (ds : List Content) → ds ≡ cs → (r : Bool) → EachTellsWhere ys ds r → Tells c r (λ k h. fits_where k h x)
  group_has cs found ys g ds ds_are r t = tells_group r (λ keys ps h s.
      t.each ps (h.1 (map val row)) (subst (λ l. ShowEach ps l (h.1 (map val row))) (sym ds_are) (shown cs found keys ps h s)) ∙ ap (fit_where ps (h.1 (map val row))) (sym g))

-- ---- parts in order

past_end : (xs : List Input) (i : ℕ) → length xs ≤ i → given_at xs i ≡ One (Int (pos 0))
past_end xs i l = ap (λ ys. first (givens (map given ys))) (left_none xs i l)

pub no_input : (xs : List Input) (i : ℕ) (part : Content) (r : Bool) → IsItemAt xs i None → Tells part r fits → Tells part r (λ k h. fits_where k h (given_at xs i))
no_input xs i part r at t = let l = at.3 in tells_one part r (given_at xs i) (Int (pos 0)) (past_end xs i l) t

-- the parts so far fit
pub record JudgedTo (xs : List Input) (cs : List Content) (i : ℕ) : Type 0 where
  pub each : (ps : Parts) (h : HoldsEach ps) → ShowEach ps cs h → (qs : Parts) × (g : HoldsEach qs) × ShowEach qs (drop i cs) g × (fit_where qs g (givens (map given (drop i xs))) ≡ fit_where ps h (givens (map given xs)))

pub judged_first : (xs : List Input) (cs : List Content) → JudgedTo xs cs 0
judged_first xs cs = record { each = λ ps h s. (ps, h, s, refl) }

rest_left : (xs : List Input) (i : ℕ) → rest (givens (map given (drop i xs))) ≡ givens (map given (drop (i + 1) xs))
rest_left xs i = step xs i ∙ (let n : suc i ≡ i + 1 = omega arith in ap (λ (j : ℕ). givens (map given (drop j xs))) n)
  where
    step : (xs : List Input) (i : ℕ) → rest (givens (map given (drop i xs))) ≡ givens (map given (drop (suc i) xs))
    step [] zero = refl
    step [] (suc i) = refl
    step (x ∷ xs) zero = refl
    step (x ∷ xs) (suc i) = step xs i

module _ (xs : List Input) (cs : List Content) (i : ℕ) (part : Content) (l : i < length cs) (is : part ≡ get_or cs i part) (before : JudgedTo xs cs i) where
  judged : (b : Bool) → Tells part b (λ k h. fits_where k h (given_at xs i)) → (ps : Parts) (h : HoldsEach ps) → ShowEach ps cs h
      → (qs : Parts) × (g : HoldsEach qs) × ShowEach qs (drop (i + 1) cs) g × ((b && fit_where qs g (givens (map given (drop (i + 1) xs)))) ≡ fit_where ps h (givens (map given xs)))
  judged b t ps h s = let r = before.each ps h s in go r.0 r.1 (subst (λ l. ShowEach r.0 l r.1) (left_more cs i part l is) r.2) r.3
    where
      go : (qs : Parts) (g : HoldsEach qs) → ShowEach qs (part ∷ drop (i + 1) cs) g → fit_where qs g (givens (map given (drop i xs))) ≡ fit_where ps h (givens (map given xs))
          → (rs : Parts) × (f : HoldsEach rs) × ShowEach rs (drop (i + 1) cs) f × ((b && fit_where rs f (givens (map given (drop (i + 1) xs)))) ≡ fit_where ps h (givens (map given xs)))
      go no_part g s e = absurd s
      go (part_and name k qs) g s e = (qs, g.1, s.1, ap₂ ◌&&◌ (t.each k g.0 s.0) (ap (fit_where qs g.1) (sym (rest_left xs i))) ∙ e)

  pub judged_more : Tells part true (λ k h. fits_where k h (given_at xs i)) → JudgedTo xs cs (i + 1)
  judged_more t = record { each = λ ps h s. judged true t ps h s }

  pub judged_not : Tells part false (λ k h. fits_where k h (given_at xs i)) → EachTellsWhere (map given xs) cs false
  judged_not t = record { each = λ ps h s. (judged false t ps h s).3 }

pub judged_all : (xs : List Input) (cs : List Content) (i : ℕ) → length cs ≤ i → JudgedTo xs cs i → EachTellsWhere (map given xs) cs true
judged_all xs cs i l before = record { each = λ ps h s. let r = before.each ps h s in go ps h r.0 r.1 (subst (λ m. ShowEach r.0 m r.1) (left_none cs i l) r.2) r.3 }
  where
    go : (ps : Parts) (h : HoldsEach ps) (qs : Parts) (g : HoldsEach qs) → ShowEach qs [] g → fit_where qs g (givens (map given (drop i xs))) ≡ fit_where ps h (givens (map given xs)) → true ≡ fit_where ps h (givens (map given xs))
    go ps h no_part g s e = e
    go ps h (part_and name k qs) g s e = absurd s
