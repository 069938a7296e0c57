-- PutLemmas: puts at one stripe after another.
use Rattle.std.proofs.Common.{◌≡◌, ℕ, zero, suc, ◌+◌, ◌*◌, ◌%◌, ◌^◌, ◌<◌, ◌≤◌, ◌≢◌, ◌||◌, nat_lt, Bool, true, false, if◌then◌else◌, List, [], ◌∷◌, ◌++◌, take, length, get_or, slice_get, Option, Some, None, sym, refl, ap, ap₂, ◌∙◌, subst, arith, append_assoc, append-nil, length-append, lt-ltb, le-ltb, le_refl, add-one, length-take}
use Rattle.std.proofs.lemmas.Option.{none-some, slice_get_within}
use Rattle.std.proofs.lemmas.List.Folds.{list_any-append}
use Rattle.std.proofs.lemmas.List.Sums.{sum_by-cons}
use Rattle.gq_core.specs.declared.worker.Phase.{Phase}
use Rattle.gq_core.specs.declared.worker.Phase.TheVariants.{Idle, Ended, Holds, Waits, Served, Lifted, Laid, Joined}
use Rattle.gq_core.specs.Machine.{is_free}
use Rattle.gq_stripe.specs.declared.view.Stage.{Stage}
use Rattle.gq_stripe.specs.declared.view.Stage.TheVariants as stage
use Rattle.gq_stripe.specs.declared.view.Plan.{Plan}
use Rattle.gq_stripe.specs.declared.view.Put.{Put}
use Rattle.gq_stripe.specs.declared.view.View.{View}
use mathlib.Core.Option.{none}
use Rattle.atomic_table.specs.Table.{rest, step, Allows}
use Rattle.gq_core.specs.declared.worker.Turn.{Turn}
use Rattle.gq_stripe.specs.declared.stripe.Stripe.{Stripe}
use Rattle.gq_stripe.specs.Contents.{Batch, FitsBatch, any_spoiled, all_scalar}
use Rattle.gq_stripe.specs.Laid.{IsLaid}
use Rattle.gq_stripe.specs.declared.book.Book.{Book}
use Rattle.gq_stripe.specs.Feeding.{IsOpen, CanLay, IsLaidOn}
use Rattle.gq_stripe.specs.Rule.{Slot, IsKept}
use Rattle.gq_stripe.proofs.LeaveLemmas.{leave_one}
use Rattle.gq_stripe.specs.Phases.{phase_of, held_by}
use Rattle.gq_stripe.specs.Steps.{Known, IsTaken, IsLook, lifted, waiting, made_put, left, Leaves}
use Rattle.gq_stripe.specs.Seats.{chunk_held, has_ended, contributions, FitBatches, ArePuts, with_puts, HasPut}
use Rattle.gq_stripe.specs.Turns.{Place, IsAt, turn_at, HasAway, HasLaid, CanLeave, HasPutAt}

-- ---- the stage of a seat between two calls
pub free_of : (p : Phase) (now : Stage) → p ≡ phase_of now → chunk_held p ≡ None → is_free p ≡ true
free_of p (stage.Holds c) e h = absurd (none-some c (sym h ∙ ap chunk_held e))
free_of p stage.Ended e h = ap is_free e
free_of p stage.Idle e h = ap is_free e

pub idle_of : (p : Phase) (now : Stage) → p ≡ phase_of now → chunk_held p ≡ None → has_ended p ≡ false → p ≡ Idle
idle_of p (stage.Holds c) e h l = absurd (none-some c (sym h ∙ ap chunk_held e))
idle_of p stage.Ended e h l = let d : true ≡ false = sym (ap has_ended e) ∙ l in cc
idle_of p stage.Idle e h l = e

pub holds_of : (p : Phase) (now : Stage) (c : ℕ) → p ≡ phase_of now → chunk_held p ≡ Some c → p ≡ Holds c 0
holds_of p (stage.Holds d) c e h = e ∙ ap (λ (n : ℕ). Holds n 0) (Rattle.std.proofs.lemmas.Option.same_Some d c (sym (ap chunk_held e) ∙ h))
holds_of p stage.Ended c e h = absurd (none-some c (sym (ap chunk_held e) ∙ h))
holds_of p stage.Idle c e h = absurd (none-some c (sym (ap chunk_held e) ∙ h))

-- where a chunk is put next: at stripe j, or nowhere after the last one
abbrev pub from : ℕ → ℕ → ℕ → Phase
from stripes chunk j = if nat_lt j stripes then Holds chunk j else Idle

-- the chunk's batches before stripe j were put
abbrev pub put_to : View → ℕ → ℕ → List Put → View
put_to v chunk j puts = record v { phase = from v.of.stripes chunk j; batch = []; base = []; puts = v.puts ++ puts }

abbrev pub IsPutTo : ℕ → ℕ → List Batch → Bool → View → View → Type 0
IsPutTo chunk j batches spoiled old new = (puts : List Put) × ArePuts chunk 0 puts batches × (any_spoiled puts ≡ spoiled) × (new ≡ put_to old chunk j puts)

puts-snoc : (chunk j : ℕ) (ps : List Put) (bs : List Batch) (p : Put) (b : Batch) → ArePuts chunk j ps bs → p.chunk ≡ chunk → p.stripe ≡ j + length bs → p.batch ≡ b → ArePuts chunk j (ps ++ p ∷ []) (bs ++ b ∷ [])
puts-snoc chunk j [] [] p b h c s e = (c, s ∙ omega arith, e, tt)
puts-snoc chunk j [] (x ∷ bs) p b h c s e = absurd h
puts-snoc chunk j (q ∷ ps) [] p b h c s e = absurd h
puts-snoc chunk j (q ∷ ps) (x ∷ bs) p b h c s e =
    let n : length (x ∷ bs) ≡ length bs + 1 = omega arith in (h.0, h.1, h.2, puts-snoc chunk (j + 1) ps bs p b h.3 c (s ∙ omega arith) e)

-- there are as many puts as batches
pub puts_long : (chunk j : ℕ) (ps : List Put) (bs : List Batch) → ArePuts chunk j ps bs → length ps ≡ length bs
puts_long chunk j [] [] h = refl
puts_long chunk j [] (b ∷ bs) h = absurd h
puts_long chunk j (p ∷ ps) [] h = absurd h
puts_long chunk j (p ∷ ps) (b ∷ bs) h = ap suc (puts_long chunk (j + 1) ps bs h.3)

or_false : (b : Bool) → (b || false) ≡ b
or_false true = refl
or_false false = refl

or_turned : (a b : Bool) → (a || b) ≡ (b || a)
or_turned true true = refl
or_turned true false = refl
or_turned false true = refl
or_turned false false = refl

-- the state before anything was put
pub put_none : (v : View) (chunk : ℕ) → v.phase ≡ Holds chunk 0 → v.batch ≡ [] → v.base ≡ [] → 0 < v.of.stripes → IsPutTo chunk 0 [] false v v
put_none v chunk phase batch base some = (
  [],
  tt,
  refl,
  λ i. record v {
    phase = (phase ∙ ap (λ (q : Bool). if q then Holds chunk 0 else Idle) (sym (lt-ltb 0 v.of.stripes some))) i;
    batch = batch i;
    base = base i;
    puts = sym (append-nil v.puts) i;
  },
)

-- one more batch was put
pub put_one : (chunk j : ℕ) (bs : List Batch) (b : Batch) (spoiled now : Bool) (v w u : View) → length bs ≡ j → IsPutTo chunk j bs spoiled v w → HasPutAt chunk j b now w u → IsPutTo chunk (j + 1) (bs ++ b ∷ []) (now || spoiled) v u
put_one chunk j bs b spoiled now v w u long (ps, are, any, is) (ticket, went) =
    let p : Put = record { chunk = chunk; stripe = j; ticket = ticket; batch = b; spoiled = now } in (
      ps ++ p ∷ [],
      puts-snoc chunk 0 ps bs p b are refl (sym long ∙ omega arith) refl,
      list_any-append (λ (q : Put). q.spoiled) ps (p ∷ []) ∙ (ap₂ (λ (x y : Bool). x || y) any (or_false now) ∙ or_turned spoiled now),
      went ∙ (ap (λ (z : View). left (waiting z chunk j ticket b) (turn_at chunk j ticket) now) is
          ∙ (λ i. record v { phase = from v.of.stripes chunk (j + 1); batch = []; base = []; puts = append_assoc v.puts ps (p ∷ []) i })),
    )

-- all batches were put
pub put_all : (chunk j : ℕ) (bs : List Batch) (spoiled : Bool) (v w : View) → v.of.stripes ≤ j → v.batch ≡ [] → v.base ≡ [] → IsPutTo chunk j bs spoiled v w → HasPut chunk bs spoiled v w
put_all chunk j bs spoiled v w all batch base (ps, are, any, is) = (
  ps,
  are,
  any,
  is ∙ (λ i. record v {
    phase = ap (λ (q : Bool). if q then Holds chunk j else Idle) (le-ltb j v.of.stripes all) i;
    batch = sym batch i;
    base = sym base i;
    puts = v.puts ++ ps;
  }),
)

pub taken : {A : Type 0} → (l : List A) (j : ℕ) (a : A) → slice_get l j ≡ Some a → take (j + 1) l ≡ take j l ++ a ∷ []
taken l j a h = rw add-one (go l j a h)
  where
    go : {A : Type 0} → (l : List A) (j : ℕ) (a : A) → slice_get l j ≡ Some a → take (suc j) l ≡ take j l ++ a ∷ []
    go [] j a h = absurd (none-some a h)
    go (x ∷ xs) zero a h = ap (λ y. y ∷ []) (Rattle.std.proofs.lemmas.Option.same_Some x a h)
    go (x ∷ xs) (suc j) a h = ap (λ r. x ∷ r) (go xs j a h)

-- ---- the stripe that is away

abbrev stripe_or : Stripe → Slot → Stripe
stripe_or d (Some x) = x
stripe_or d None = d

abbrev head_or : Slot → List (ℕ × Slot) → Slot
head_or d [] = d
head_or d (c ∷ cs) = c.1

-- the stripe that was exchanged is the one that was taken
pub taken_stripe : (j : ℕ) (away : List (ℕ × Slot)) (x y : Stripe) (r : Slot) → away ≡ (j, Some x) ∷ [] → away ≡ (j, r) ∷ rest away → r ≡ Some y → x ≡ y
taken_stripe j away x y r one other some = ap (stripe_or y) (ap (head_or r) (sym one) ∙ (ap (head_or r) other ∙ some))

pub can_lay : (plan : Plan) (n j : ℕ) (base : List Put) (x y : Stripe) (batch : Batch) → IsTaken plan j base x → FitsBatch plan.layout plan.stripes j batch → plan.stripes ≡ n → x ≡ y → CanLay n batch y
can_lay plan n j base x y batch taken fits e same =
    let few = taken.few in let room = taken.room in let short = fits.few in
    subst (CanLay n batch) same (
      plan.layout,
      j,
      base,
      subst (λ (m : ℕ). IsOpen plan.layout m j base batch x) e record {
        laid = taken.laid;
        fit = taken.fit;
        comes = fits.each;
        room = omega arith;
        few = omega arith;
      },
    )

-- the batch was laid on it
pub has_laid : (t : Turn) (old new : Place) (n : ℕ) (batch : Batch) (x y new_stripe : Stripe) → IsTaken old.me.0.of t.stripe old.me.0.base x → FitsBatch old.me.0.of.layout old.me.0.of.stripes t.stripe batch → old.me.0.of.stripes ≡ n → x ≡ y
    → IsLaidOn n batch y new_stripe → new.me.1 ≡ (t.stripe, Some new_stripe) ∷ [] → HasLaid t batch new_stripe.spoiled old new
has_laid t old new n batch x y new_stripe taken fits e same on away =
    let plan : Plan = old.me.0.of in let base : List Put = old.me.0.base in
    let few = taken.few in let room = taken.room in let short = fits.few in
    let laid_on : IsLaidOn plan.stripes batch x new_stripe = subst (λ (z : ℕ × Stripe). IsLaidOn z.0 batch z.1 new_stripe) (λ i. (sym e i, sym same i)) on in
    let open_now : IsOpen plan.layout plan.stripes t.stripe base batch x = record { laid = taken.laid; fit = taken.fit; comes = fits.each; room = omega arith; few = omega arith } in record {
      stripe = new_stripe;
      away = away;
      is = refl;
      laid = λ p batch_is spoiled_is. laid_on.next plan.layout t.stripe base open_now p batch_is spoiled_is;
      scalars = λ all. laid_on.scalars plan.layout t.stripe base open_now all (taken.laid.spoiled ∙ taken.scalars all);
    }

-- the stripe may be brought back
pub can_leave : (t : Turn) (old new : Place) (batch : Batch) (spoiled : Bool) → HasLaid t batch spoiled old new → new.me.0 ≡ old.me.0 → old.me.0.phase ≡ Lifted t → old.me.0.batch ≡ batch → FitsBatch old.me.0.of.layout old.me.0.of.stripes t.stripe batch
    → CanLeave t spoiled new
can_leave t old new batch spoiled h same phase batch_is fits =
    let there : (P : View → Type 0) → P old.me.0 → P new.me.0 = λ (P : View → Type 0) x. subst P (sym same) x in record {
      phase = there (λ v. v.phase ≡ Lifted t) phase;
      stripe = h.stripe;
      away = h.away;
      is = h.is;
      laid = there (λ v. IsLaid v.of.layout v.of.stripes t.stripe (v.base ++ made_put v t spoiled ∷ []) h.stripe) (h.laid (made_put old.me.0 t spoiled) batch_is refl);
      fits = there (λ v. FitsBatch v.of.layout v.of.stripes t.stripe v.batch) (subst (FitsBatch old.me.0.of.layout old.me.0.of.stripes t.stripe) (sym batch_is) fits);
      scalars = there (λ v. all_scalar v.of.layout ≡ true → spoiled ≡ false) h.scalars;
    }

-- ---- one batch of all

one_of_all : (bs : List Batch) (j : ℕ) (b : Batch) → slice_get bs j ≡ Some b → length b ≤ contributions bs
one_of_all [] j b got = absurd (none-some b got)
one_of_all (x ∷ xs) zero b got = let e = ap length (Rattle.std.proofs.lemmas.Option.same_Some x b got) in omega (arith, sum_by-cons (λ (batch : Batch). length batch) x xs)
one_of_all (x ∷ xs) (suc j) b got = let r = one_of_all xs j b got in omega (arith, sum_by-cons (λ (batch : Batch). length batch) x xs)

pub fits_at : (plan : Plan) (bs : List Batch) (j : ℕ) (b : Batch) → FitBatches plan bs → slice_get bs j ≡ Some b → FitsBatch plan.layout plan.stripes j b
fits_at plan bs j b fit got = let few = fit.few in let one = one_of_all bs j b got in record { few = omega arith; each = fit.each j b got }

-- the place is ready for the next stripe
pub at_next : (book : Book) (old p : Place) (chunk j : ℕ) (bs : List Batch) (spoiled : Bool) → IsAt book old 0 → p.table_id ≡ old.table_id → IsPutTo chunk j bs spoiled old.me.0 p.me.0 → j < book.stripes → IsAt book p j
at_next book old p chunk j bs spoiled at table (ps, are, any, is) inside =
    let stands = ap (λ (v : View). v.stands) is in let live = at.live in record {
      table = table ∙ at.table;
      inside = inside;
      live = omega arith;
      plan = ap (λ (v : View). v.of) is ∙ at.plan;
    }

pub holds_next : (chunk j : ℕ) (bs : List Batch) (spoiled : Bool) (v w : View) → j < v.of.stripes → IsPutTo chunk j bs spoiled v w → w.phase ≡ Holds chunk j
holds_next chunk j bs spoiled v w inside (ps, are, any, is) = ap (λ (x : View). x.phase) is ∙ ap (λ (q : Bool). if q then Holds chunk j else Idle) (lt-ltb j v.of.stripes inside)

pub of_next : (chunk j : ℕ) (bs : List Batch) (spoiled : Bool) (v w : View) → IsPutTo chunk j bs spoiled v w → w.of ≡ v.of
of_next chunk j bs spoiled v w (ps, are, any, is) = ap (λ (x : View). x.of) is

-- the leave keeps the rule
pub leave_allowed : (plan : Plan) (slots id : ℕ) (p : Place) (t : Turn) (k : ℕ) (spoiled : Bool) → CanLeave t spoiled p → k ≡ 2 * t.stripe + 2 → 0 < p.me.0.stands → p.me.0.of ≡ plan
    → Allows (IsKept plan) slots id p.me k (λ n. (n + 1) % 2 ^ 64) (Leaves (step slots k 1 0 none) p.me)
leave_allowed plan slots id p t k spoiled h place alive of =
    leave_one plan slots id p.me t k h.stripe h.phase place alive of h.away
    (subst (λ (z : Plan × Bool). IsLaid z.0.layout z.0.stripes t.stripe (p.me.0.base ++ made_put p.me.0 t z.1 ∷ []) h.stripe) (λ i. (of i, sym h.is i)) h.laid)
    (subst (λ (o : Plan). FitsBatch o.layout o.stripes t.stripe p.me.0.batch) of h.fits)
    (λ all. h.is ∙ h.scalars (ap (λ (o : Plan). all_scalar o.layout) of ∙ all))

-- ---- the wait

-- the result of a look that found another ticket, and of one that found the seat's own
pub looked_on : (t : Turn) (start before after : Known) (n : ℕ) → before ≡ start → start.0.phase ≡ Waits t → ((u : Turn) → before.0.phase ≡ Waits u → IsLook u before n after) → n ≢ t.ticket → after ≡ start
looked_on t start before after n same phase look other = (look t (ap (λ (m : Known). m.0.phase) same ∙ phase)).other other ∙ same

pub got_turn : (t : Turn) (start before after : Known) (n : ℕ) → before ≡ start → start.0.phase ≡ Waits t → start.1 ≡ [] → ((u : Turn) → before.0.phase ≡ Waits u → IsLook u before n after) → n ≡ t.ticket
    → (base : List Put) × (stripe : Stripe) × (after ≡ (lifted start.0 t base, (t.stripe, Some stripe) ∷ [])) × IsTaken start.0.of t.stripe base stripe
got_turn t start before after n same phase bare look hit =
    let x = (look t (ap (λ (m : Known). m.0.phase) same ∙ phase)).turn hit in (
      x.0,
      x.1,
      x.2 ∙ (λ i. (lifted (same i).0 t x.0, (t.stripe, Some x.1) ∷ (ap (λ (m : Known). m.1) same ∙ bare) i)),
      subst (λ (m : Known). IsTaken m.0.of t.stripe x.0 x.1) same x.3,
    )

pub away_now : (t : Turn) (p : Place) (v : View) (base : List Put) (stripe : Stripe) → p.me ≡ (lifted v t base, (t.stripe, Some stripe) ∷ []) → IsTaken v.of t.stripe base stripe → HasAway t p
away_now t p v base stripe is taken = record {
  phase = ap (λ (m : Known). m.0.phase) is;
  stripe = stripe;
  away = ap (λ (m : Known). m.1) is;
  taken = subst (λ (m : Known). IsTaken m.0.of t.stripe m.0.base stripe) (sym is) taken;
}

-- ---- the slot

pub may_exchange : (j : ℕ) (away : List (ℕ × Slot)) (x : Slot) → away ≡ (j, x) ∷ [] → (old : Slot) × (away ≡ (j, old) ∷ rest away)
may_exchange j away x e = (x, e ∙ ap (λ (l : List (ℕ × Slot)). (j, x) ∷ l) (sym (ap rest e)))

pub exchanged : (j : ℕ) (away away' away'' : List (ℕ × Slot)) (x y z : Slot) → away ≡ (j, x) ∷ [] → away' ≡ (j, y) ∷ rest away → away'' ≡ (j, z) ∷ rest away' → away'' ≡ (j, z) ∷ []
exchanged j away away' away'' x y z e f g = g ∙ ap (λ (l : List (ℕ × Slot)). (j, z) ∷ l) (ap rest f ∙ ap rest e)

-- ---- one stripe's put, step by step

-- the place is still one of the book, if its view is of the book and represents as many seats
pub still_at : (book : Book) (p q : Place) (j : ℕ) → IsAt book p j → q.table_id ≡ p.table_id → q.me.0.of ≡ p.me.0.of → q.me.0.stands ≡ p.me.0.stands → IsAt book q j
still_at book p q j at table of stands = record { table = table ∙ at.table; inside = at.inside; live = subst (λ (n : ℕ). 0 < n) (sym stands) at.live; plan = of ∙ at.plan }

-- the view of a seat that has taken a ticket, was served, and has laid its batch
pub after_wait : (v w u : View) (chunk j ticket : ℕ) (batch : Batch) (base : List Put) → w ≡ waiting v chunk j ticket batch → u ≡ lifted w (turn_at chunk j ticket) base → u ≡ lifted (waiting v chunk j ticket batch) (turn_at chunk j ticket) base
after_wait v w u chunk j ticket batch base e f = f ∙ ap (λ (x : View). lifted x (turn_at chunk j ticket) base) e

pub put_at_stripe : (v u w : View) (chunk j ticket : ℕ) (batch : Batch) (base : List Put) (spoiled : Bool) → u ≡ lifted (waiting v chunk j ticket batch) (turn_at chunk j ticket) base → w ≡ left u (turn_at chunk j ticket) spoiled
    → HasPutAt chunk j batch spoiled v w
put_at_stripe v u w chunk j ticket batch base spoiled e f = (ticket, f ∙ ap (λ (x : View). left x (turn_at chunk j ticket) spoiled) e)

pub nil_of : {A : Type 0} (xs : List A) → length xs ≡ 0 → xs ≡ []
nil_of [] e = refl
nil_of (x ∷ xs) e = absurd (omega arith)

pub held_one : (p : Phase) (now : Stage) (c : ℕ) → p ≡ phase_of now → chunk_held p ≡ Some c → held_by now ≡ 1
held_one p (stage.Holds d) c e h = refl
held_one p stage.Ended c e h = absurd (none-some c (sym (ap chunk_held e) ∙ h))
held_one p stage.Idle c e h = absurd (none-some c (sym (ap chunk_held e) ∙ h))

-- there are j batches before stripe j
pub before_long : (bs : List Batch) (j : ℕ) (b : Batch) → slice_get bs j ≡ Some b → length (take j bs) ≡ j
before_long bs j b got = let inside = slice_get_within bs j b got in let t = length-take j bs in omega arith

-- with one more batch of the list
pub put_next : (chunk j : ℕ) (bs : List Batch) (b : Batch) (spoiled now then_spoiled : Bool) (v w u : View) → slice_get bs j ≡ Some b → (now || spoiled) ≡ then_spoiled
    → IsPutTo chunk j (take j bs) spoiled v w → HasPutAt chunk j b now w u → IsPutTo chunk (j + 1) (take (j + 1) bs) then_spoiled v u
put_next chunk j bs b spoiled now then_spoiled v w u got e puts one =
    subst (λ (z : List Batch × Bool). IsPutTo chunk (j + 1) z.0 z.1 v u) (λ i. (sym (taken bs j b got) i, e i)) (put_one chunk j (take j bs) b spoiled now v w u (before_long bs j b got) puts one)
