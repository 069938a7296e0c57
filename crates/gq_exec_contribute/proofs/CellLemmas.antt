-- CellLemmas: the targets of contents, and what contents read as.
use Rattle.std.proofs.Common.{◌≡◌, ℕ, zero, suc, ◌+◌, ◌<◌, Bool, List, [], ◌∷◌, ◌++◌, length, Option, Some, None, refl, sym, ap, subst, ◌∙◌, arith}
use Rattle.std.specs.Prelude.{ℤ, IfSome, slice_get}
use Rattle.gq_value.specs.Val.{Int, Truth}
use Rattle.gq_value.specs.Accums.{Accum, SumAccum, MinAccum, MaxAccum, OrAccum, AndAccum, BitwiseOrAccum, BitwiseAndAccum, AvgAccum, INT, BOOL}
use Rattle.gq_value.specs.AccumViews.{accum_of}
use Rattle.gq_value.specs.ViewLaws.{val-Int, val-Bool}
use Rattle.gq_value.specs.declared.kind.Number.TheVariants as number
use Rattle.gq_value.specs.declared.kind.Slot as code_slot
use Rattle.gq_value.specs.declared.value.Value.TheVariants as value
use Rattle.gq_accum.specs.declared.scalar.Scalar.{Scalar}
use Rattle.gq_accum.specs.declared.scalar.Scalar.TheVariants.{SumInt, MinInt, MaxInt, Or, And, BitOr, BitAnd}
use Rattle.gq_accum.specs.declared.wide.Sum.{Sum}
use Rattle.gq_accum.specs.Scalars.{kind_of}
use Rattle.gq_accum.specs.Wide.{sum_of}
use Rattle.gq_nest.specs.declared.content.Content.{Content, Content-F, out-Content}
use Rattle.gq_nest.specs.declared.content.Content.TheVariants as made
use Rattle.gq_nest.specs.Forms.{view, IsOf, HasForm}
use Rattle.gq_nest.proofs.LevelLemmas.{opened-Scalar}
use Rattle.gq_frame.specs.declared.accums.Accums.{Accums}
use Rattle.gq_frame.specs.declared.slots.Slots.{Slots}
use Rattle.gq_frame.specs.Slots.{slots_are, AreSound}
use Rattle.gq_frame.specs.Targets.{targets_of, number_of}
use Rattle.gq_frame.proofs.SlotLemmas.{content_read, sound_there}
use Rattle.gq_rules_meaning.specs.Answers.{Gives}
use Rattle.gq_rules_meaning.specs.Calendars.{Calendar}
use Rattle.gq_rules_meaning.specs.Meanings.{Meant, Is, read}
use Rattle.gq_rules_meaning.specs.States.{read_slot}
use Rattle.gq_plan_ir.specs.Reference.{Slot}
use Rattle.gq_eval_operand.specs.Meant.{meant, read_of}
use Rattle.gq_eval_operand.specs.declared.seen.Seen.{Seen}
use Rattle.gq_eval_operand.specs.declared.seen.Seen.TheVariants as seen
use Rattle.gq_eval_operand.specs.declared.seen.Sort.TheVariants as sort
use Rattle.gq_eval_operand.specs.declared.seen.Operand.TheVariants as operand
use Rattle.std.specs.Prelude.{Ok}
use Rattle.gq_exec_feed.proofs.SuitLemmas.{within_int}
use Rattle.gq_eval_context.specs.Viewed.{Over}
use Rattle.gq_eval_context.specs.Looks.{world_over}
use Rattle.gq_exec_contribute.specs.declared.cells.Cells.{Cells}
use Rattle.gq_exec_contribute.specs.declared.cells.Taken.TheVariants as taken
use Rattle.gq_exec_contribute.specs.Prepared.{Takes, AreCells, AreAllCells, IsTarget, StandsAt, HoldsInt, HoldsTruth, ReadsInt, ReadsTruth}

-- ---- kinds

pub sum_takes : Takes (SumAccum number.Int) taken.Int
sum_takes = record { typed = refl; suited = λ x h. within_int x h }

pub min_takes : Takes (MinAccum number.Int) taken.Int
min_takes = record { typed = refl; suited = λ x h. within_int x h }

pub max_takes : Takes (MaxAccum number.Int) taken.Int
max_takes = record { typed = refl; suited = λ x h. within_int x h }

pub bit_or_takes : Takes BitwiseOrAccum taken.Int
bit_or_takes = record { typed = refl; suited = λ x h. within_int x h }

pub bit_and_takes : Takes BitwiseAndAccum taken.Int
bit_and_takes = record { typed = refl; suited = λ x h. within_int x h }

pub avg_takes : Takes AvgAccum taken.Int
avg_takes = record { typed = refl; suited = λ x h. within_int x h }

pub or_takes : Takes OrAccum taken.Truth
or_takes = record { typed = refl; suited = λ b. refl }

pub and_takes : Takes AndAccum taken.Truth
and_takes = record { typed = refl; suited = λ b. refl }

pub other_takes : (k : Accum) → Takes k taken.Other
other_takes k = tt

pub ruleset kind_laws = (sum_takes, min_takes, max_takes, bit_or_takes, bit_and_takes, avg_takes, or_takes, and_takes, other_takes)

-- ---- the cells of each slot

-- the cells of the first i slots
pub record CellsTo (slots : Slots) (i : ℕ) (all : List Cells) : Type 0 where
  pub count : length all ≡ i
  pub each : AreAllCells slots all

get_past : {A : Type 0} (xs : List A) (n : ℕ) (y : A) → slice_get xs n ≡ Some y → n < length xs
get_past [] n y e = absurd (cc e)
get_past (x ∷ xs) zero y e = omega arith
get_past (x ∷ xs) (suc n) y e = let l = get_past xs n y e in omega (arith, l)

pub get_pushed : {A : Type 0} (xs : List A) (x y : A) (n : ℕ) (P : A → ℕ → Type 0) → ((m : ℕ) (z : A) → slice_get xs m ≡ Some z → P z m) → P x (length xs) → slice_get (xs ++ x ∷ []) n ≡ Some y → P y n
get_pushed [] x y zero P each last e = subst (λ z. P z 0) (cc e) last
get_pushed [] x y (suc n) P each last e = absurd (cc e)
get_pushed (w ∷ xs) x y zero P each last e = each 0 y e
get_pushed (w ∷ xs) x y (suc n) P each last e = get_pushed xs x y n (λ z m. P z (suc m)) (λ m z. each (suc m) z) last e

pub longer : {A : Type 0} (xs : List A) (x : A) → length (xs ++ x ∷ []) ≡ length xs + 1
longer [] x = refl
longer (y ∷ xs) x = let l = longer xs x in omega (arith, l)

pub cells_made : (slots : Slots) (n slot : ℕ) (s : code_slot.Slot) (cells : Cells) → slot ≡ n → slice_get slots.declared n ≡ Some s → cells.first ≡ number_of slots slot 0 → cells.targets ≡ targets_of slots.vertices s → Takes (accum_of s.kind) cells.takes → AreCells slots n cells
cells_made slots n slot s cells same there first targets takes = record { slot = s; declared = there; first = first ∙ ap (λ (m : ℕ). number_of slots m 0) same; targets = targets; takes = takes }

pub cells_none : (slots : Slots) (all : List Cells) → all ≡ [] → CellsTo slots 0 all
cells_none slots all e = subst (CellsTo slots 0) (sym e) (record { count = refl; each = record { each = λ n cells h. absurd (cc h) } })

pub cells_more : (slots : Slots) (i : ℕ) (all now : List Cells) (cells : Cells) → AreCells slots i cells → now ≡ all ++ cells ∷ [] → CellsTo slots i all → CellsTo slots (i + 1) now
cells_more slots i all now cells are push so = subst (CellsTo slots (i + 1)) (sym push) (record {
  count = longer all cells ∙ ap (λ (n : ℕ). n + 1) so.count;
  each = record { each = λ n found h. get_pushed all cells found n (λ z m. AreCells slots m z) so.each.each (subst (λ (n : ℕ). AreCells slots n cells) (sym so.count) are) h };
})

pub cells_all : (slots : Slots) (i : ℕ) (all : List Cells) → CellsTo slots i all → AreAllCells slots all
cells_all slots i all so = so.each

pub ruleset cells_laws = (cells_none, cells_all)

-- ---- a target

number_of_vertex : (slots : Slots) (n v t first : ℕ) → t ≡ first + v → first ≡ number_of slots n 0 → t ≡ number_of slots n v
number_of_vertex slots n v t first e f = omega (arith, e, f)

pub content_stands : (a : Accums) (all : List Cells) (n v t : ℕ) (cells : Cells) (c : Option Content) → AreSound a → AreAllCells a.slots all → slice_get all n ≡ Some cells → IsTarget cells v t → slice_get a.contents t ≡ c → IfSome c (StandsAt a n v)
content_stands a all n v t cells None sound are there target at = tt
content_stands a all n v t cells (Some c) sound are there target at =
    let h = are.each n cells there in let within = subst (λ (m : ℕ). v < m) h.targets target.within in let number = number_of_vertex a.slots n v t cells.first target.number h.first in record {
      slot = h.slot;
      declared = h.declared;
      within = within;
      stands = ap (slice_get a.contents) (sym number) ∙ at;
      sound = sound_there a n v t h.slot c sound h.declared within number at;
    }

pub content_there : (a : Accums) (all : List Cells) (n v t : ℕ) (cells : Cells) (c : Content) → AreSound a → AreAllCells a.slots all → slice_get all n ≡ Some cells → IsTarget cells v t → slice_get a.contents t ≡ Some c → StandsAt a n v c
content_there a all n v t cells c sound are there target at = content_stands a all n v t cells (Some c) sound are there target at

pub ruleset target_laws = (content_there)

-- ---- contents

read_scalar : (c : Content) (s : Scalar) (m : Meant) → c ≡ made.Scalar s → read (kind_of s) (view (kind_of s) (Content-F.Scalar s)) ≡ m → (k : Accum) → IsOf k (out-Content c) → read k (view k (out-Content c)) ≡ m
read_scalar c s m e reads k of = of_form (out-Content c) (ap out-Content e ∙ opened-Scalar s) of.0
  where
    of_form : (f : Content-F Content) → f ≡ Content-F.Scalar s → HasForm f k → read k (view k f) ≡ m
    of_form f is h = subst (λ (f : Content-F Content). HasForm f k → read k (view k f) ≡ m) (sym is) (λ form. subst (λ (k : Accum). read k (view k (Content-F.Scalar s)) ≡ m) (sym form) reads) h

pub min_holds : (c : Content) (s : Scalar) (x : ℤ) → c ≡ made.Scalar s → s ≡ MinInt x → HoldsInt c x
min_holds c s x e is = record { each = read_scalar c s (Is INT (Int x)) e (subst (λ (s : Scalar). read (kind_of s) (view (kind_of s) (Content-F.Scalar s)) ≡ Is INT (Int x)) (sym is) refl) }

pub max_holds : (c : Content) (s : Scalar) (x : ℤ) → c ≡ made.Scalar s → s ≡ MaxInt x → HoldsInt c x
max_holds c s x e is = record { each = read_scalar c s (Is INT (Int x)) e (subst (λ (s : Scalar). read (kind_of s) (view (kind_of s) (Content-F.Scalar s)) ≡ Is INT (Int x)) (sym is) refl) }

pub bit_or_holds : (c : Content) (s : Scalar) (x : ℤ) → c ≡ made.Scalar s → s ≡ BitOr x → HoldsInt c x
bit_or_holds c s x e is = record { each = read_scalar c s (Is INT (Int x)) e (subst (λ (s : Scalar). read (kind_of s) (view (kind_of s) (Content-F.Scalar s)) ≡ Is INT (Int x)) (sym is) refl) }

pub bit_and_holds : (c : Content) (s : Scalar) (x : ℤ) → c ≡ made.Scalar s → s ≡ BitAnd x → HoldsInt c x
bit_and_holds c s x e is = record { each = read_scalar c s (Is INT (Int x)) e (subst (λ (s : Scalar). read (kind_of s) (view (kind_of s) (Content-F.Scalar s)) ≡ Is INT (Int x)) (sym is) refl) }

pub sum_holds : (c : Content) (s : Scalar) (a : Sum) (x : ℤ) (r : Option ℤ) → c ≡ made.Scalar s → s ≡ SumInt a → x ≡ sum_of a → IfSome r (λ y. y ≡ x) → IfSome r (HoldsInt c)
sum_holds c s a x None e is z h = tt
sum_holds c s a x (Some y) e is z h = subst (HoldsInt c) (sym (h ∙ z)) (record { each = read_scalar c s (Is INT (Int (sum_of a))) e (subst (λ (s : Scalar). read (kind_of s) (view (kind_of s) (Content-F.Scalar s)) ≡ Is INT (Int (sum_of a))) (sym is) refl) })

pub ruleset int_laws = (min_holds, max_holds, bit_or_holds, bit_and_holds, sum_holds)

pub or_holds : (c : Content) (s : Scalar) (b : Bool) → c ≡ made.Scalar s → s ≡ Or b → HoldsTruth c b
or_holds c s b e is = record { each = read_scalar c s (Is BOOL (Truth b)) e (subst (λ (s : Scalar). read (kind_of s) (view (kind_of s) (Content-F.Scalar s)) ≡ Is BOOL (Truth b)) (sym is) refl) }

pub and_holds : (c : Content) (s : Scalar) (b : Bool) → c ≡ made.Scalar s → s ≡ And b → HoldsTruth c b
and_holds c s b e is = record { each = read_scalar c s (Is BOOL (Truth b)) e (subst (λ (s : Scalar). read (kind_of s) (view (kind_of s) (Content-F.Scalar s)) ≡ Is BOOL (Truth b)) (sym is) refl) }

pub ruleset truth_laws = (or_holds, and_holds)

-- ---- what accumulators read as

read_as : (clock : Calendar) (o : Over) (accums : Accums) (n v : ℕ) (c : Content) (m : Meant) (r : Seen) → StandsAt accums n v c → ((k : Accum) → IsOf k (out-Content c) → read_of k c ≡ m) → meant r ≡ m → read_slot (world_over clock o) (slots_are accums) (Slot n) v ≡ Gives m
read_as clock o accums n v c m r at holds is =
    (content_read accums n v (number_of accums.slots n v) at.slot c (Ok r) at.declared at.within refl at.stands (ap Gives (holds (accum_of at.slot.kind) at.sound.shows.of_kind ∙ sym is))).each (world_over clock o) refl ∙ ap Gives is

pub int_read : (clock : Calendar) (o : Over) (accums : Accums) (n v : ℕ) (c : Content) (r : Option ℤ) → StandsAt accums n v c → IfSome r (HoldsInt c) → IfSome r (ReadsInt clock o accums n v)
int_read clock o accums n v c None at h = tt
int_read clock o accums n v c (Some x) at h = read_as clock o accums n v c (Is INT (Int x)) (seen.Value sort.Int (operand.Made (value.Int x))) at h.each (ap (Is INT) (val-Int x))

pub truth_read : (clock : Calendar) (o : Over) (accums : Accums) (n v : ℕ) (c : Content) (r : Option Bool) → StandsAt accums n v c → IfSome r (HoldsTruth c) → IfSome r (ReadsTruth clock o accums n v)
truth_read clock o accums n v c None at h = tt
truth_read clock o accums n v c (Some b) at h = read_as clock o accums n v c (Is BOOL (Truth b)) (seen.Value sort.Bool (operand.Made (value.Bool b))) at h.each (ap (Is BOOL) (val-Bool b))

pub ruleset held_laws = (int_read, truth_read)
