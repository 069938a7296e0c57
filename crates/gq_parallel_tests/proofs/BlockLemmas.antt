-- BlockLemmas: sums of 1 for three vertices, the layout of their targets, and the seats that a thread returns.
use Rattle.std.proofs.Common.{◌≡◌, ℕ, pos, ◌<◌, ◌+◌, ◌-◌, ◌≤◌, List, [], ◌∷◌, ◌++◌, length, slice_get, Some, true, Result, Ok, Err, OnOk, refl, sym, ap, subst, ◌∙◌, arith}
use Rattle.std.specs.Prelude.{OnErr}
use Rattle.std.specs.List.{All}
use Rattle.std.proofs.lemmas.List.Elements.{All-nil, All-cons}
use Rattle.gq_value.specs.Accums.{Accum, SumAccum}
use Rattle.gq_value.specs.Arithmetic.{is_within}
use Rattle.gq_value.specs.declared.kind.Kind.TheVariants as kind
use Rattle.gq_value.specs.declared.kind.Number.TheVariants as number
use Rattle.gq_value.specs.declared.kind.Slot.{Slot}
use Rattle.gq_value.specs.AccumViews.{accum_of}
use Rattle.gq_value.specs.Typed.{has_no_list}
use Rattle.gq_value.proofs.AccumLemmas.{accum_of-Sum}
use Rattle.gq_accum_laws.specs.Fits.{fits}
use Rattle.gq_accum.specs.declared.scalar.Scalar.TheVariants.{SumInt}
use Rattle.gq_accum.specs.declared.wide.Sum.{Sum}
use Rattle.gq_accum.specs.Wide.{sum_of}
use Rattle.gq_nest.specs.declared.content.Content.{Content, out-Content}
use Rattle.gq_nest.specs.declared.content.Content.TheVariants as made
use Rattle.gq_nest.specs.Forms.{view, IsOf}
use Rattle.gq_nest.proofs.LevelLemmas.{opened-Scalar}
use Rattle.gq_eval_operand.specs.Sound.{IsSound}
use Rattle.gq_frame.specs.declared.accums.Accums.{Accums}
use Rattle.gq_frame.specs.declared.slots.Slots.{Slots}
use Rattle.gq_frame.specs.Slots.{AreSound}
use Rattle.gq_stripe.specs.declared.book.Book.{Book}
use Rattle.gq_stripe.specs.declared.seat.Seat.{Seat}
use Rattle.gq_stripe.specs.declared.view.Plan.{Plan}
use Rattle.gq_stripe.specs.declared.view.View.{View}
use Rattle.gq_stripe.specs.Rule.{first}
use Rattle.gq_stripe.specs.Seats.{IsFree, IsSameSeat, IsSeatOf, chunk_held, view_of}
use Rattle.gq_words.specs.declared.view.View as words
use Rattle.gq_workers.specs.Working.{DoesChunks, Job, Works, kinds_of}
use Rattle.gq_parallel_tests.specs.Blocks.{AreSums, HasSums}
use Rattle.gq_parallel_tests.proofs.RowLemmas.{all_at, all_more}

-- ---- the sums

-- a content with the number 1
pub one_sound : (s : Sum) → sum_of s ≡ pos 1 → IsSound (SumAccum number.Int) (made.Scalar (SumInt s))
one_sound s is =
    let k = SumAccum number.Int in let opened = opened-Scalar (SumInt s) in
    record {
      shows = record { of_kind = subst (IsOf k) (sym opened) (refl, tt); holds = refl; proper = tt };
      forms = tt;
      fit = ap (λ l. fits k (view k l)) opened ∙ ap (is_within number.Int) is;
    }

-- a push that failed changes nothing
pub pushed : {A E : Type 0} (P : A → Type 0) (r : Result (Unit {0}) E) (old new : List A) (x : A) → OnOk r (new ≡ old ++ x ∷ []) → OnErr r (new ≡ old) → All P old → P x → All P new
pushed P (Ok u) old new x ok err all own = subst (All P) (sym ok) (all_more P old x all own)
pushed P (Err e) old new x ok err all own = subst (All P) (sym err) all

sums_are : (P : Slot → Type 0) (slots : Slots) → AreSums slots → P (record { kind = kind.Sum number.Int; attached = true }) → All P slots.declared
sums_are P slots is own = subst (λ (s : Slots). All P s.declared) (sym is) (All-cons P (record { kind = kind.Sum number.Int; attached = true }) [] own (All-nil P))

pub sums_sound : (a : Accums) → AreSums a.slots → All (IsSound (SumAccum number.Int)) a.contents → AreSound a
sums_sound a is all = record {
  each = λ n v s c at below there.
      let k = all_at (λ (x : Slot). accum_of x.kind ≡ SumAccum number.Int) a.slots.declared n s (sums_are (λ (x : Slot). accum_of x.kind ≡ SumAccum number.Int) a.slots is (accum_of-Sum number.Int)) at in
      subst (λ (x : Accum). IsSound x c) (sym k) (all_at (IsSound (SumAccum number.Int)) a.contents _ c all there);
}

pub sums_flat : (slots : Slots) → AreSums slots → All (λ (s : Slot). has_no_list (accum_of s.kind) ≡ true) slots.declared
sums_flat slots is = sums_are (λ (s : Slot). has_no_list (accum_of s.kind) ≡ true) slots is (ap has_no_list (accum_of-Sum number.Int))

pub sums_layout : (plan : Plan) (slots : Slots) → AreSums slots → plan.layout ≡ kinds_of slots → HasSums plan
sums_layout plan slots is layout = layout ∙ ap kinds_of is

-- ---- the seats

-- the first of two seats may be split
pub one_spare : (plan : Plan) (v : View) → v ≡ first plan → plan.seats ≡ 2 → 1 ≤ v.spare
one_spare plan v is two = let s = ap (λ (w : View). w.spare) is in omega (arith, s, two)

-- a seat that did chunks is one of the same book
does_of : (job : Job) (chunks : List ℕ) (old new : View) (before after : words.View) → DoesChunks job chunks old new before after → new.of ≡ old.of
does_of job [] old new before after none = ap (λ (v : View). v.of) none.0
does_of job (chunk ∷ chunks) old new before after all = does_of job chunks all.0 new all.1.0 after all.1.1.1 ∙ ap (λ (v : View). v.of) all.1.1.0.put.3

-- one that has ended holds no chunk
pub works_free : (book : Book) (job : Job) (seat after : Seat) (before then : words.View) → IsSeatOf book seat → IsSameSeat seat after → Works job (view_of seat) (view_of after) before then → IsFree book after
works_free book job seat after before then own same works = (
  record { table = same.0 ∙ own.table; plan = ap (λ (v : View). v.of) works.ended ∙ (does_of job works.chunks (view_of seat) works.stood before then works.does ∙ own.plan) },
  ap (λ (v : View). chunk_held v.phase) works.ended,
)
