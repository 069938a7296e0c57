-- WorkingLemmas: a worker's part of a block: the targets of its contributions, its batches, and what is fed to the words.
use Rattle.std.proofs.Common.{◌≡◌, ℕ, zero, suc, ◌+◌, ◌-◌, ◌*◌, ◌/◌, ◌%◌, ◌^◌, ◌<◌, ◌≤◌, ◌==◌, Bool, true, false, List, [], ◌∷◌, ◌++◌, map, filter, take, drop, length, min, replicate, slice_get, Option, Some, None, refl, sym, ap, ap₂, ◌∙◌, subst, arith, cond, eqb-true, length-append, append-nil, inl, inr, Result, Ok, Err, get_or}
use Rattle.std.specs.Prelude.{MatchResult, OnOk}
use Rattle.std.specs.List.{All, flat_map, sum_by}
use Rattle.std.specs.Fork.{slice_chunk}
use Rattle.std.proofs.lemmas.List.{append_assoc, map-append, length-replicate, length-take, length-drop, take_more}
use Rattle.std.proofs.lemmas.List.Elements.{All-nil, All-cons, All-head, All-tail, All-append, All-filter, All-replicate, filter-append}
use Rattle.std.proofs.lemmas.List.Concat.{flat_map-append}
use Rattle.std.proofs.lemmas.Option.{none-some, same_Some, slice_get_within}
use Rattle.gq_value.specs.declared.kind.Kind.{Kind}
use Rattle.gq_value.specs.declared.kind.Slot.{Slot}
use Rattle.gq_value.specs.declared.kind.Input.{Input}
use Rattle.gq_value.specs.declared.value.Wrong.{Wrong}
use Rattle.gq_value.specs.Accums.{Given}
use Rattle.gq_value.specs.AccumViews.{accum_of, given}
use Rattle.gq_value.specs.Typed.{has_no_list, suits}
use Rattle.gq_graph.specs.declared.rows.Candidate.{Candidate}
use Rattle.gq_accum_laws.specs.Targets.{target_count, target_number}
use Rattle.gq_frame.specs.declared.slots.Slots.{Slots}
use Rattle.gq_frame.specs.Targets.{attached_in, targets_of, number_of}
use Rattle.gq_frame.proofs.TargetLemmas.{get_front}
use Rattle.gq_core.specs.Batches.{batch_of}
use Rattle.gq_stripe.specs.declared.view.Plan.{Plan}
use Rattle.gq_stripe.specs.declared.view.View.{View}
use Rattle.gq_stripe.specs.Contents.{FitsInput}
use Rattle.gq_stripe.specs.Steps.{got}
use Rattle.gq_stripe.specs.declared.seat.Seat.{Seat}
use Rattle.gq_stripe.specs.declared.book.Book.{Book}
use Rattle.gq_stripe.specs.Seats.{contributions, FitBatches, HasPut, IsSeatOf, IsSameSeat, IsIdle, plan_of, view_of, chunk_held, has_ended}
use Rattle.gq_words.specs.declared.fold.Op.{Op}
use Rattle.gq_words.specs.declared.fold.Op.TheVariants.{Min, Or}
use Rattle.gq_words.specs.declared.view.View as words
use Rattle.gq_words.specs.declared.words.Words.{Words}
use Rattle.gq_words.specs.Fold.{Feed}
use Rattle.gq_words.specs.Rule.{view}
use Rattle.gq_words.specs.Seats.{HasOp}
use Rattle.gq_rules_meaning.specs.Answers.{Answer, Gives, Faults, Stuck}
use Rattle.gq_rules_meaning.specs.Blocks.{Contribution, Match}
use Rattle.gq_exec_feed.specs.Taking.{MayTake, AreBatched, as_given, targeted}
use Rattle.gq_exec_contribute.specs.Passing.{GainsAll, Comes, stopped}
use Rattle.gq_exec_contribute.specs.declared.candidate.Outcome.{Outcome}
use Rattle.gq_exec_contribute.specs.declared.candidate.Outcome.TheVariants as outcome
use Rattle.gq_exec_contribute.specs.declared.candidate.Stop.{Stop}
use Rattle.gq_exec_contribute.specs.declared.candidate.Stop.TheVariants as stop
use Rattle.gq_workers.specs.Running.{gives_of}
use Rattle.gq_workers.specs.Working.{Job, kinds_from, kinds_of, parts, marks, word_openings, AreTables, given_in, mark_of, mark_in, marks_of, feeds_in, given_by, fed_by, job_chunk, AreJobBatches, with_feeds, DoesChunk, DoesChunks, Works, Gathers, GathersOne, AreWords, IsFirst}

-- ---- the kinds of targets

get_behind : {A : Type 0} (xs ys : List A) (i : ℕ) → slice_get (xs ++ ys) (length xs + i) ≡ slice_get ys i
get_behind [] ys i = ap (slice_get ys) (let e : 0 + i ≡ i = omega arith in e)
get_behind (x ∷ xs) ys i = ap (slice_get (x ∷ (xs ++ ys))) (let e : suc (length xs) + i ≡ suc (length xs + i) = omega arith in e) ∙ get_behind xs ys i

get_same : {A : Type 0} (n i : ℕ) (x : A) → i < n → slice_get (replicate n x) i ≡ Some x
get_same zero i x h = absurd (omega (arith, h))
get_same (suc n) zero x h = refl
get_same (suc n) (suc i) x h = get_same n i x (omega (arith, h))

-- the kind of a target is that of its slot
kind_at : (vertices : ℕ) (slots : List Slot) (n v : ℕ) (s : Slot) → slice_get slots n ≡ Some s → v < targets_of vertices s → slice_get (kinds_from vertices slots) (target_number vertices (attached_in slots) n v) ≡ Some s.kind
kind_at vertices [] n v s at below = absurd (none-some s at)
kind_at vertices (d ∷ slots) zero v s at below =
    let same : d ≡ s = same_Some d s at in
    ap (slice_get (kinds_from vertices (d ∷ slots))) (let e : 0 + v ≡ v = omega arith in e) ∙
    get_front (replicate (targets_of vertices d) d.kind) (kinds_from vertices slots) v s.kind
    (get_same (targets_of vertices d) v d.kind (subst (λ (x : Slot). v < targets_of vertices x) (sym same) below) ∙ ap (λ (x : Slot). Some x.kind) same)
kind_at vertices (d ∷ slots) (suc n) v s at below =
    let long = length-replicate (targets_of vertices d) d.kind in
    ap (slice_get (kinds_from vertices (d ∷ slots))) (let e : target_number vertices (attached_in (d ∷ slots)) (suc n) v ≡ length (replicate (targets_of vertices d) d.kind) + target_number vertices (attached_in slots) n v = omega (arith, long) in e)
    ∙ get_behind (replicate (targets_of vertices d) d.kind) (kinds_from vertices slots) (target_number vertices (attached_in slots) n v)
    ∙ kind_at vertices slots n v s at below

-- ---- contributions fit the tables

-- an input whose target has a kind that takes it, and is no list
record Takes (kinds : List Kind) (x : ℕ × Input) : Type 0 where
  pub kind : Kind
  pub is : slice_get kinds x.0 ≡ Some kind
  pub flat : has_no_list (accum_of kind) ≡ true
  pub takes : suits (accum_of kind) (given x.1) ≡ true

module _ {A : Type 0} (P : A → Type 0) where
  all_at : (xs : List A) (i : ℕ) (x : A) → All P xs → slice_get xs i ≡ Some x → P x
  all_at [] i x h at = absurd (none-some x at)
  all_at (y ∷ xs) zero x h at = subst P (same_Some y x at) (All-head P y xs h)
  all_at (y ∷ xs) (suc i) x h at = all_at xs i x (All-tail P y xs h) at

module _ (slots : Slots) (flat : All (λ (s : Slot). has_no_list (accum_of s.kind) ≡ true) slots.declared) where
  taken : (c : Contribution) (x : ℕ × Input) → MayTake slots c → as_given x ≡ targeted slots c → Takes (kinds_of slots) x
  taken c x may same = record {
    kind = may.slot.kind;
    is = ap (slice_get (kinds_of slots)) (ap (λ (y : ℕ × Given). y.0) same) ∙ kind_at slots.vertices slots.declared c.slot c.vertex may.slot may.declared may.within;
    flat = all_at (λ (s : Slot). has_no_list (accum_of s.kind) ≡ true) slots.declared c.slot may.slot flat may.declared;
    takes = ap (suits (accum_of may.slot.kind)) (ap (λ (y : ℕ × Given). y.1) same) ∙ may.suited;
  }

  all_taken : (gives : List Contribution) (inputs : List (ℕ × Input)) → All (MayTake slots) gives → AreBatched slots gives inputs → All (Takes (kinds_of slots)) inputs
  all_taken gives [] may same = All-nil (Takes (kinds_of slots))
  all_taken [] (x ∷ inputs) may same = absurd (cc same)
  all_taken (c ∷ gives) (x ∷ inputs) may same =
      let first : as_given x ≡ targeted slots c = cc same in let rest : map as_given inputs ≡ map (targeted slots) gives = cc same in
      All-cons (Takes (kinds_of slots)) x inputs (taken c x (All-head (MayTake slots) c gives may) first) (all_taken gives inputs (All-tail (MayTake slots) c gives may) rest)

-- those of one stripe
fit_stripe : (kinds : List Kind) (stripes stripe : ℕ) (inputs : List (ℕ × Input)) → All (Takes kinds) inputs → All (FitsInput kinds stripes stripe) (batch_of stripes stripe inputs)
fit_stripe kinds stripes stripe [] h = All-nil (FitsInput kinds stripes stripe)
fit_stripe kinds stripes stripe (x ∷ inputs) h = pick (x.0 % stripes == stripe) refl (fit_stripe kinds stripes stripe inputs (All-tail (Takes kinds) x inputs h))
  where
    pick : (b : Bool) → (x.0 % stripes == stripe) ≡ b → All (FitsInput kinds stripes stripe) (batch_of stripes stripe inputs) → All (FitsInput kinds stripes stripe) (cond b (x ∷ batch_of stripes stripe inputs) (batch_of stripes stripe inputs))
    pick true e rest = let t = All-head (Takes kinds) x inputs h in All-cons (FitsInput kinds stripes stripe) x (batch_of stripes stripe inputs) (record { here = eqb-true (x.0 % stripes) stripe e; kind = t.kind; is = t.is; flat = t.flat; takes = t.takes }) rest
    pick false e rest = rest

-- ---- batches

as_given_stripe : (stripes stripe : ℕ) (inputs : List (ℕ × Input)) → map as_given (batch_of stripes stripe inputs) ≡ batch_of stripes stripe (map as_given inputs)
as_given_stripe stripes stripe [] = refl
as_given_stripe stripes stripe (x ∷ inputs) = pick (x.0 % stripes == stripe) (as_given_stripe stripes stripe inputs)
  where
    pick : (b : Bool) → map as_given (batch_of stripes stripe inputs) ≡ batch_of stripes stripe (map as_given inputs) → map as_given (cond b (x ∷ batch_of stripes stripe inputs) (batch_of stripes stripe inputs)) ≡ cond b (as_given x ∷ batch_of stripes stripe (map as_given inputs)) (batch_of stripes stripe (map as_given inputs))
    pick true rest = ap (λ ys. as_given x ∷ ys) rest
    pick false rest = rest

get_below : {A : Type 0} (xs : List A) (i : ℕ) (x : A) → slice_get xs i ≡ Some x → i < length xs
get_below [] i x h = absurd (none-some x h)
get_below (y ∷ xs) zero x h = omega arith
get_below (y ∷ xs) (suc i) x h = let l = get_below xs i x h in omega (arith, l)

module _ (job : Job) (n : ℕ) (cs : List Candidate) (batches : List (List (ℕ × Input))) (before after : words.View) (g : Gathers job n cs batches before after) where
  count_is : length batches ≡ job.stripes
  count_is = g.gained.same ∙ length-replicate job.stripes []

  batch_is : (stripe : ℕ) (batch : List (ℕ × Input)) → slice_get batches stripe ≡ Some batch → batch ≡ batch_of job.stripes stripe g.inputs
  batch_is stripe batch at =
      let below : stripe < job.stripes = let b = get_below batches stripe batch at in omega (arith, b, count_is) in
      same_Some batch (batch_of job.stripes stripe g.inputs)
      (sym at ∙ g.gained.gains stripe [] (get_same job.stripes stripe [] below) ∙ ap (λ (k : ℕ). Some (batch_of k stripe g.inputs)) (length-replicate job.stripes []))

  pub gathered_fits : (plan : Plan) (openings : List (Op × ℕ)) → AreTables job plan openings → contributions batches ≤ 2 ^ 35 → FitBatches plan batches
  gathered_fits plan openings t few = record {
    stripes = count_is ∙ sym t.stripes;
    few = few;
    each = λ stripe batch at. subst (All (FitsInput plan.layout plan.stripes stripe)) (sym (batch_is stripe batch at))
        (subst (λ (k : ℕ). All (FitsInput plan.layout k stripe) (batch_of job.stripes stripe g.inputs)) (sym t.stripes)
        (subst (λ (kinds : List Kind). All (FitsInput kinds job.stripes stripe) (batch_of job.stripes stripe g.inputs)) (sym t.layout)
        (fit_stripe (kinds_of job.slots) job.stripes stripe g.inputs (all_taken job.slots t.flat (given_by job.go cs) g.inputs g.may g.batched))));
  }

  gathered_batches : (stripe : ℕ) (batch : List (ℕ × Input)) → slice_get batches stripe ≡ Some batch → map as_given batch ≡ batch_of job.stripes stripe (map (targeted job.slots) (given_by job.go cs))
  gathered_batches stripe batch at = ap (map as_given) (batch_is stripe batch at) ∙ as_given_stripe job.stripes stripe g.inputs ∙ ap (batch_of job.stripes stripe) g.batched

-- a chunk's batches are those of the job
pub job_batches : (job : Job) (n chunk : ℕ) (batches : List (List (ℕ × Input))) (before after : words.View) → Gathers job n (slice_chunk job.candidates job.size chunk) batches before after → AreJobBatches job chunk batches
job_batches job n chunk batches before after g = record {
  count = count_is job n (slice_chunk job.candidates job.size chunk) batches before after g;
  each = gathered_batches job n (slice_chunk job.candidates job.size chunk) batches before after g;
}

gains_both : (old mid new : List (List (ℕ × Input))) (xs ys : List (ℕ × Input)) → GainsAll old mid xs → GainsAll mid new ys → GainsAll old new (xs ++ ys)
gains_both old mid new xs ys f g = record {
  same = g.same ∙ f.same;
  gains = λ stripe batch at. g.gains stripe (batch ++ batch_of (length old) stripe xs) (f.gains stripe batch at)
      ∙ ap Some (append_assoc batch (batch_of (length old) stripe xs) (batch_of (length mid) stripe ys)
      ∙ ap (λ (k : ℕ). batch ++ (batch_of (length old) stripe xs ++ batch_of k stripe ys)) f.same
      ∙ ap (λ zs. batch ++ zs) (sym (filter-append (λ (input : ℕ × Input). input.0 % length old == stripe) xs ys)));
}

-- ---- what is fed

pub fed_none : (w : words.View) → with_feeds w [] ≡ w
fed_none w = ap (view w.stands w.spare) (append-nil w.feeds)

pub fed_both : (w : words.View) (xs ys : List Feed) → with_feeds (with_feeds w xs) ys ≡ with_feeds w (xs ++ ys)
fed_both w xs ys = ap (view w.stands w.spare) (append_assoc w.feeds xs ys)

module _ (go : Candidate → Answer Wrong (List Match)) where
  given_more : (cs : List Candidate) (c : Candidate) → given_by go (cs ++ c ∷ []) ≡ given_by go cs ++ given_in (go c)
  given_more cs c = flat_map-append (λ (d : Candidate). given_in (go d)) cs (c ∷ []) ∙ ap (λ xs. given_by go cs ++ xs) (append-nil (given_in (go c)))

  fed_more : (vertices n : ℕ) (cs : List Candidate) (c : Candidate) → fed_by go vertices n (cs ++ c ∷ []) ≡ fed_by go vertices n cs ++ feeds_in vertices (n + length cs) (go c)
  fed_more vertices n [] c = append-nil (feeds_in vertices n (go c)) ∙ ap (λ (k : ℕ). feeds_in vertices k (go c)) (let e : n ≡ n + 0 = omega arith in e)
  fed_more vertices n (d ∷ cs) c = ap (λ xs. feeds_in vertices n (go d) ++ xs) (fed_more vertices (suc n) cs c)
      ∙ sym (append_assoc (feeds_in vertices n (go d)) (fed_by go vertices (suc n) cs) (feeds_in vertices (suc n + length cs) (go c)))
      ∙ ap (λ (k : ℕ). (feeds_in vertices n (go d) ++ fed_by go vertices (suc n) cs) ++ feeds_in vertices k (go c)) (let e : suc n + length cs ≡ n + suc (length cs) = omega arith in e)

-- ---- one candidate

module _ (job : Job) (n : ℕ) (c : Candidate) (old new : List (List (ℕ × Input))) (before after : words.View) where
  gathers_one : (gives : List Contribution) (feeds : List Feed) (inputs : List (ℕ × Input)) → given_in (job.go c) ≡ gives → feeds_in job.vertices n (job.go c) ≡ feeds → All (MayTake job.slots) gives → AreBatched job.slots gives inputs
      → GainsAll old new inputs → after ≡ with_feeds before feeds → GathersOne job n c old new before after
  gathers_one gives feeds inputs gives_is feeds_is may batched gained fed first start cs place g =
      let more : given_by job.go (cs ++ c ∷ []) ≡ given_by job.go cs ++ gives = given_more job.go cs c ∙ ap (λ xs. given_by job.go cs ++ xs) gives_is in
      record {
        inputs = g.inputs ++ inputs;
        may = subst (All (MayTake job.slots)) (sym more) (All-append (MayTake job.slots) (given_by job.go cs) gives g.may may);
        batched = map-append as_given g.inputs inputs ∙ ap₂ (λ (xs ys : List (ℕ × Given)). xs ++ ys) g.batched batched ∙ sym (map-append (targeted job.slots) (given_by job.go cs) gives) ∙ sym (ap (map (targeted job.slots)) more);
        gained = gains_both (replicate job.stripes []) old new g.inputs inputs g.gained gained;
        fed = fed ∙ ap (λ (w : words.View). with_feeds w feeds) g.fed ∙ fed_both first (fed_by job.go job.vertices start cs) feeds
            ∙ ap (with_feeds first) (ap (λ xs. fed_by job.go job.vertices start cs ++ xs) (sym feeds_is ∙ ap (λ (k : ℕ). feeds_in job.vertices k (job.go c)) (sym place)) ∙ sym (fed_more job.go job.vertices start cs c));
      }

  nothing_gained : new ≡ old → GainsAll old new []
  nothing_gained same = record { same = ap length same; gains = λ stripe batch at. ap (λ (bs : List (List (ℕ × Input))). slice_get bs stripe) same ∙ at ∙ ap Some (sym (append-nil batch)) }

  stopped_gives : (w : Stop) → job.go c ≡ stopped w → (given_in (job.go c) ≡ []) × (feeds_in job.vertices n (job.go c) ≡ (0, n) ∷ [])
  stopped_gives (stop.Wrong w) e = (ap given_in e, ap (feeds_in job.vertices n) e)
  stopped_gives stop.Stuck e = (ap given_in e, ap (feeds_in job.vertices n) e)

  pub gathers_fault : (w : Stop) → Comes job.slots c (job.go c) old new (outcome.Fault w) → after ≡ with_feeds before ((0, n) ∷ []) → GathersOne job n c old new before after
  gathers_fault w comes fed = let s = stopped_gives w comes.0 in gathers_one [] ((0, n) ∷ []) [] s.0 s.1 (All-nil (MayTake job.slots)) refl (nothing_gained comes.1) fed

  pub gathers_filtered : Comes job.slots c (job.go c) old new outcome.Filtered → after ≡ before → GathersOne job n c old new before after
  gathers_filtered comes same = gathers_one [] [] [] (ap given_in comes.0) (ap (feeds_in job.vertices n) comes.0) (All-nil (MayTake job.slots)) refl (nothing_gained comes.1) (same ∙ sym (fed_none before))

  pub gathers_passed : Comes job.slots c (job.go c) old new outcome.Passed → after ≡ with_feeds before (mark_of 1 c.source ∷ mark_in (1 + marks job.vertices) c.target) → GathersOne job n c old new before after
  gathers_passed comes fed = let m = comes.2 in gathers_one comes.0 (mark_of 1 c.source ∷ mark_in (1 + marks job.vertices) c.target) m.inputs
      (ap given_in comes.1 ∙ append-nil comes.0)
      (ap (feeds_in job.vertices n) comes.1 ∙ ap (λ xs. mark_of 1 c.source ∷ xs) (append-nil (mark_in (1 + marks job.vertices) c.target)))
      m.may m.are m.gained fed

-- ---- a chunk

pub gathers_none : (job : Job) (n : ℕ) (batches : List (List (ℕ × Input))) (w : words.View) → batches ≡ replicate job.stripes [] → Gathers job n [] batches w w
gathers_none job n batches w empty = record {
  inputs = [];
  may = All-nil (MayTake job.slots);
  batched = refl;
  gained = record { same = ap length empty; gains = λ stripe batch at. ap (λ (bs : List (List (ℕ × Input))). slice_get bs stripe) empty ∙ at ∙ ap Some (sym (append-nil batch)) };
  fed = sym (fed_none w);
}

-- the next candidate of those from `start` on
next_of : (cs : List Candidate) (k : ℕ) (c : Candidate) → slice_get cs k ≡ Some c → take (suc k) cs ≡ take k cs ++ c ∷ []
next_of [] k c at = absurd (none-some c at)
next_of (d ∷ cs) zero c at = ap (λ x. x ∷ []) (same_Some d c at)
next_of (d ∷ cs) (suc k) c at = ap (λ xs. d ∷ xs) (next_of cs k c at)

next_in : (cs : List Candidate) (start k : ℕ) (c : Candidate) → slice_get cs (start + k) ≡ Some c → take (suc k) (drop start cs) ≡ take k (drop start cs) ++ c ∷ []
next_in cs zero k c at = next_of cs k c (ap (slice_get cs) (let e : k ≡ 0 + k = omega arith in e) ∙ at)
next_in [] (suc start) k c at = absurd (none-some c at)
next_in (d ∷ cs) (suc start) k c at = next_in cs start k c (ap (slice_get (d ∷ cs)) (let e : suc (start + k) ≡ suc start + k = omega arith in e) ∙ at)

pub gathers_next : (job : Job) (start place : ℕ) (c : Candidate) (old new : List (List (ℕ × Input))) (first before after : words.View) → start ≤ place → slice_get job.candidates place ≡ Some c
    → Gathers job start (take (place - start) (drop start job.candidates)) old first before → GathersOne job place c old new before after → Gathers job start (take (place + 1 - start) (drop start job.candidates)) new first after
gathers_next job start place c old new first before after le at g one =
    let below = get_below job.candidates place c at in let l = length-take (place - start) (drop start job.candidates) in let d = length-drop start job.candidates in
    let next : take (place + 1 - start) (drop start job.candidates) ≡ take (place - start) (drop start job.candidates) ++ c ∷ [] =
    ap (λ (k : ℕ). take k (drop start job.candidates)) (let e : place + 1 - start ≡ suc (place - start) = omega (arith, le) in e)
    ∙ next_in job.candidates start (place - start) c (ap (slice_get job.candidates) (let e : start + (place - start) ≡ place = omega (arith, le) in e) ∙ at) in
    subst (λ (cs : List Candidate). Gathers job start cs new first after) (sym next)
    (one first start (take (place - start) (drop start job.candidates)) (omega (arith, le, below, l, d)) g)

-- all of them
pub whole_chunk : (cs : List Candidate) (size chunk end : ℕ) → chunk * size < length cs → end ≡ min (chunk * size + size) (length cs) → take (end - chunk * size) (drop (chunk * size) cs) ≡ slice_chunk cs size chunk
whole_chunk cs size chunk end inside is = taken (drop (chunk * size) cs) size (end - chunk * size) (let d = length-drop (chunk * size) cs in omega (arith, inside, is, d))
  where
    nothing : (n m : ℕ) → ◌≡◌ {A = List Candidate} (take n []) (take m [])
    nothing zero zero = refl
    nothing zero (suc m) = refl
    nothing (suc n) zero = refl
    nothing (suc n) (suc m) = refl

    taken : (xs : List Candidate) (size n : ℕ) → n ≡ min size (length xs) → take n xs ≡ take size xs
    taken [] size n e = nothing n size
    taken (x ∷ xs) zero n e = ap (λ (k : ℕ). take k (x ∷ xs)) (let z : n ≡ 0 = omega (arith, e) in z)
    taken (x ∷ xs) (suc size) zero e = absurd (omega (arith, e))
    taken (x ∷ xs) (suc size) (suc n) e = ap (λ ys. x ∷ ys) (taken xs size n (omega (arith, e)))

-- ---- the words

map_same : {A B : Type 0} (f : A → B) (n : ℕ) (x : A) → map f (replicate n x) ≡ replicate n (f x)
map_same f zero x = refl
map_same f (suc n) x = ap (λ ys. f x ∷ ys) (map_same f n x)

op_at : (vertices i : ℕ) → i < 2 * marks vertices → slice_get (map (λ (o : Op × ℕ). o.0) (word_openings vertices)) (suc i) ≡ Some Or
op_at vertices i h = ap (λ (os : List Op). slice_get os i) (map_same (λ (o : Op × ℕ). o.0) (2 * marks vertices) (Or, 0)) ∙ get_same (2 * marks vertices) i Or h

word_of : (vertices v : ℕ) → v < vertices → v / 64 < marks vertices
word_of vertices v h = omega (arith, h)

pub has_mark : (words : Words) (vertices first v : ℕ) → AreWords vertices words → IsFirst vertices first → v < vertices → HasOp words (first + v / 64) Or
has_mark words vertices first v are is below = ap (λ (os : List (Op × ℕ)). slice_get (map (λ (o : Op × ℕ). o.0) os) (first + v / 64)) are ∙ at is
  where
    at : IsFirst vertices first → slice_get (map (λ (o : Op × ℕ). o.0) (word_openings vertices)) (first + v / 64) ≡ Some Or
    at (inl e) = ap (slice_get (map (λ (o : Op × ℕ). o.0) (word_openings vertices))) (let i : first + v / 64 ≡ suc (v / 64) = omega (arith, e) in i) ∙ op_at vertices (v / 64) (let w = word_of vertices v below in omega (arith, w))
    at (inr e) = ap (slice_get (map (λ (o : Op × ℕ). o.0) (word_openings vertices))) (let i : first + v / 64 ≡ suc (marks vertices + v / 64) = omega (arith, e) in i) ∙ op_at vertices (marks vertices + v / 64) (let w = word_of vertices v below in omega (arith, w))

pub has_least : (words : Words) (vertices : ℕ) → AreWords vertices words → HasOp words 0 Min
has_least words vertices are = ap (λ (os : List (Op × ℕ)). slice_get (map (λ (o : Op × ℕ). o.0) os) 0) are

-- ---- chunk after chunk

pub one_more : (job : Job) (chunks : List ℕ) (chunk : ℕ) (old mid new : View) (before between after : words.View) → DoesChunks job chunks old mid before between → DoesChunk job chunk mid new between after
    → DoesChunks job (chunks ++ chunk ∷ []) old new before after
one_more job [] chunk old mid new before between after none does = (new, (after, (record { batches = does.batches; are = does.are; put = subst (λ (v : View). HasPut chunk does.batches false (got v chunk) new) none.0 does.put; fed = does.fed ∙ ap (λ (w : words.View). with_feeds w (fed_by job.go job.vertices (chunk * job.size) (slice_chunk job.candidates job.size chunk))) none.1 }, (refl, refl))))
one_more job (first ∷ chunks) chunk old mid new before between after all does = (all.0, (all.1.0, (all.1.1.0, one_more job chunks chunk all.0 mid new all.1.0 between after all.1.1.1 does)))

-- a chunk that was gathered and put is done
pub does_chunk : {E : Type 0} (job : Job) (chunk : ℕ) (batches : List (List (ℕ × Input))) (r : Result (Unit {0}) E) (old new : View) (before after : words.View)
    → Gathers job (chunk * job.size) (slice_chunk job.candidates job.size chunk) batches before after → MatchResult r (λ _. HasPut chunk batches false old new) (λ _. HasPut chunk batches true old new)
    → OnOk r ((v : View) → old ≡ got v chunk → DoesChunk job chunk v new before after)
does_chunk job chunk batches (Ok u) old new before after g put = λ v e. record {
  batches = batches;
  are = job_batches job (chunk * job.size) chunk batches before after g;
  put = subst (λ (w : View). HasPut chunk batches false w new) e put;
  fed = g.fed;
}
does_chunk job chunk batches (Err e) old new before after g put = tt

-- ---- the layout

kinds_more : (vertices : ℕ) (xs : List Slot) (s : Slot) → kinds_from vertices (xs ++ s ∷ []) ≡ kinds_from vertices xs ++ replicate (targets_of vertices s) s.kind
kinds_more vertices [] s = append-nil (replicate (targets_of vertices s) s.kind)
kinds_more vertices (x ∷ xs) s = ap (λ ks. replicate (targets_of vertices x) x.kind ++ ks) (kinds_more vertices xs s) ∙ sym (append_assoc (replicate (targets_of vertices x) x.kind) (kinds_from vertices xs) (replicate (targets_of vertices s) s.kind))

pub kinds_next : (vertices : ℕ) (xs : List Slot) (i : ℕ) (s : Slot) → i < length xs → s ≡ get_or xs i s → kinds_from vertices (take (i + 1) xs) ≡ kinds_from vertices (take i xs) ++ replicate (targets_of vertices s) s.kind
kinds_next vertices xs i s below is = ap (kinds_from vertices) (take_more xs i s below ∙ ap (λ (x : Slot). take i xs ++ x ∷ []) (sym is)) ∙ kinds_more vertices (take i xs) s

-- ---- the worker's seat

-- it may draw again
pub may_draw : (book : Book) (job : Job) (chunk : ℕ) (seat after : Seat) (v : View) (before then : words.View) → IsSeatOf book seat → v.of ≡ plan_of book → IsSameSeat seat after → DoesChunk job chunk v (view_of after) before then → IsIdle book after
may_draw book job chunk seat after v before then own of same does = (
  record { table = same.0 ∙ own.table; plan = ap (λ (w : View). w.of) does.put.3 ∙ of },
  ap (λ (w : View). chunk_held w.phase) does.put.3,
  ap (λ (w : View). has_ended w.phase) does.put.3,
)
