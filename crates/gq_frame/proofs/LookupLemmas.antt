-- LookupLemmas: names that are declared, assigned and removed.
use Rattle.std.proofs.Common.{◌≡◌, ◌≢◌, ◌⊎◌, inl, inr, ℕ, zero, suc, ◌+◌, ◌-◌, ◌<◌, ◌≤◌, ◌==◌, leb, Bool, true, false, cond, List, [], ◌∷◌, ◌++◌, drop, length, reverse, set, Option, Some, None, Result, Ok, Err, OnOk, refl, sym, ap, subst, ◌∙◌, arith}
use Rattle.std.specs.Prelude.{is_some, if◌then◌else◌}
use Rattle.std.specs.List.{slice_get}
use Rattle.std.proofs.lemmas.List.{reverse-append, length-reverse, drop-drop}
use Rattle.std.proofs.lemmas.Bool.{eqb-true}
use Rattle.std.proofs.lemmas.Bool.Decides.{eqb_tells, leb_tells, nat_tests}
use Rattle.gq_base.specs.declared.memory.OutOfMemory.{OutOfMemory}
use Rattle.gq_rules_typing.specs.Words.{under}
use Rattle.gq_rules_meaning.specs.Expressions.{World}
use Rattle.gq_rules_meaning.specs.States as states
use Rattle.gq_rules_meaning.specs.States.{State, with_new, with_name, changed}
use Rattle.gq_plan_ir.specs.Reference.{Reference, Place, Slot, VertexType, EdgeType, TupleType, TypeName, FieldAt, Calls, Does}
use Rattle.gq_plan_ir.specs.References.{same}
use Rattle.gq_frame.specs.declared.frame.Thing.{Thing}
use Rattle.gq_frame.specs.Names.{thing_is, held_thing, thing_in, thing_for}
use Rattle.gq_frame.specs.Slots.{slots_are}
use Rattle.gq_frame.specs.declared.live.Live.{Live}
use Rattle.gq_frame.specs.declared.live.Undo.{Undo}
use Rattle.gq_frame.specs.Lives.{Alike, Unwinds, Lives, without}

-- ---- lists

get_set_same : {A : Type 0} (xs : List A) (i : ℕ) (x y : A) → slice_get xs i ≡ Some x → slice_get (set xs i y) i ≡ Some y
get_set_same [] i x y e = cc
get_set_same (a ∷ xs) zero x y e = refl
get_set_same (a ∷ xs) (suc i) x y e = get_set_same xs i x y e

get_set_other : {A : Type 0} (xs : List A) (i j : ℕ) (y : A) → (i == j) ≡ false → slice_get (set xs i y) j ≡ slice_get xs j
get_set_other [] i j y e = refl
get_set_other (a ∷ xs) zero zero y e = cc
get_set_other (a ∷ xs) zero (suc j) y e = refl
get_set_other (a ∷ xs) (suc i) zero y e = refl
get_set_other (a ∷ xs) (suc i) (suc j) y e = get_set_other xs i j y (let d : (i == j) ≡ false = grind (arith, nat_tests) in d)

set_set : {A : Type 0} (xs : List A) (i : ℕ) (x y : A) → set (set xs i x) i y ≡ set xs i y
set_set [] i x y = refl
set_set (a ∷ xs) zero x y = refl
set_set (a ∷ xs) (suc i) x y = ap (λ ys. a ∷ ys) (set_set xs i x y)

set_swap : {A : Type 0} (xs : List A) (i j : ℕ) (x y : A) → (i == j) ≡ false → set (set xs i x) j y ≡ set (set xs j y) i x
set_swap [] i j x y e = refl
set_swap (a ∷ xs) zero zero x y e = cc
set_swap (a ∷ xs) zero (suc j) x y e = refl
set_swap (a ∷ xs) (suc i) zero x y e = refl
set_swap (a ∷ xs) (suc i) (suc j) x y e = ap (λ ys. a ∷ ys) (set_swap xs i j x y (let d : (i == j) ≡ false = grind (arith, nat_tests) in d))

set_get : {A : Type 0} (xs : List A) (i : ℕ) (x : A) → slice_get xs i ≡ Some x → set xs i x ≡ xs
set_get [] i x e = refl
set_get (a ∷ xs) zero x e = ap (λ b. b ∷ xs) (let d : x ≡ a = cc in d)
set_get (a ∷ xs) (suc i) x e = ap (λ ys. a ∷ ys) (set_get xs i x e)

set_end : {A : Type 0} (xs : List A) (i : ℕ) (x y z : A) → slice_get xs i ≡ Some x → set (xs ++ z ∷ []) i y ≡ set xs i y ++ z ∷ []
set_end [] i x y z e = cc
set_end (a ∷ xs) zero x y z e = refl
set_end (a ∷ xs) (suc i) x y z e = ap (λ ys. a ∷ ys) (set_end xs i x y z e)

same_self : (n : ℕ) → (n == n) ≡ true
same_self n = grind (arith, nat_tests)

-- ---- a place after something else was put there

-- the frame with another thing at place p
choice : (things : List (Option Thing)) (p : ℕ) (old : Option Thing) (thing : Thing) (t : states.Thing) (other : Reference → Option states.Thing)
    → slice_get things p ≡ Some old → held_thing (Some (Some thing)) ≡ Some t
    → ((x : Reference) → other x ≡ thing_for things x)
    → (x : Reference) → cond (same (Place p) x) (Some t) (other x) ≡ thing_for (set things p (Some thing)) x
choice things p old thing t other at h o (Place n) = chosen (eqb_tells p n)
  where
    chosen : (((p == n) ≡ true) × (p ≡ n)) ⊎ (((p == n) ≡ false) × (p ≢ n)) → cond (p == n) (Some t) (other (Place n)) ≡ thing_for (set things p (Some thing)) (Place n)
    chosen (inl e) =
        ap (λ b. cond b (Some t) (other (Place n))) e.0
        ∙ sym (subst (λ m. thing_for (set things p (Some thing)) (Place m) ≡ Some t) e.1 (ap held_thing (get_set_same things p old (Some thing) at) ∙ h))
    chosen (inr e) =
        ap (λ b. cond b (Some t) (other (Place n))) e.0
        ∙ o (Place n)
        ∙ ap held_thing (sym (get_set_other things p n (Some thing) e.0))
choice things p old thing t other at h o (Slot n) = o (Slot n)
choice things p old thing t other at h o (VertexType n) = o (VertexType n)
choice things p old thing t other at h o (EdgeType n) = o (EdgeType n)
choice things p old thing t other at h o (TupleType n) = o (TupleType n)
choice things p old thing t other at h o TypeName = o TypeName
choice things p old thing t other at h o (FieldAt c) = o (FieldAt c)
choice things p old thing t other at h o (Calls f) = o (Calls f)
choice things p old thing t other at h o (Does m) = o (Does m)

-- ---- names that are declared

pub alike_now : (things : List (Option Thing)) (us : List Undo) (ns : List (Reference × states.Thing)) → Unwinds things us ns → Alike things ns
alike_now things [] [] h = h
alike_now things (u ∷ us) (n ∷ ns) h = h.0
alike_now things [] (n ∷ ns) h = absurd h
alike_now things (u ∷ us) [] h = absurd h

as_long : (things : List (Option Thing)) (us : List Undo) (ns : List (Reference × states.Thing)) → Unwinds things us ns → length us ≡ length ns
as_long things [] [] h = refl
as_long things (u ∷ us) (n ∷ ns) h = ap suc (as_long (set things u.place u.was) us ns h.2)
as_long things [] (n ∷ ns) h = absurd h
as_long things (u ∷ us) [] h = absurd h

pub as_many : (live : Live) (s : State Reference) → Lives live s → length live.undo.items ≡ length s.names
as_many live s l = sym (length-reverse live.undo.items) ∙ as_long live.frame.things (reverse live.undo.items) s.names l.names

new_unwinds : (things : List (Option Thing)) (us : List Undo) (u : Undo) (thing : Thing) (t : states.Thing) (ns : List (Reference × states.Thing))
    → slice_get things u.place ≡ Some u.was → held_thing (Some (Some thing)) ≡ Some t
    → Unwinds things us ns → Unwinds (set things u.place (Some thing)) (u ∷ us) ((Place u.place, t) ∷ ns)
new_unwinds things us u thing t ns at h l = (
  record { each = choice things u.place u.was thing t (λ x. under same x ns) at h (alike_now things us ns l).each },
  refl,
  subst (λ xs. Unwinds xs us ns) (sym (set_set things u.place (Some thing) u.was ∙ set_get things u.place u.was at)) l,
)

pub new_lives : (old new : Live) (u : Undo) (thing : Thing) (s : State Reference) (t : states.Thing)
    → new.frame.things ≡ set old.frame.things u.place (Some thing) → new.undo.items ≡ old.undo.items ++ u ∷ [] → new.frame.accums ≡ old.frame.accums
    → slice_get old.frame.things u.place ≡ Some u.was → held_thing (Some (Some thing)) ≡ Some t
    → Lives old s → Lives new (with_new (Place u.place) t s)
new_lives old new u thing s t things log accums at h l = record {
  names =
      subst (λ xs. Unwinds xs (reverse new.undo.items) ((Place u.place, t) ∷ s.names)) (sym things)
      (subst (λ us. Unwinds (set old.frame.things u.place (Some thing)) us ((Place u.place, t) ∷ s.names)) (sym (ap reverse log ∙ reverse-append old.undo.items (u ∷ [])))
      (new_unwinds old.frame.things (reverse old.undo.items) u thing t s.names at h l.names));
  slots = l.slots ∙ ap slots_are (sym accums);
}

-- a place whose name is visible has something
there : (things : List (Option Thing)) (p : ℕ) (old : states.Thing) → thing_in things p ≡ Some old → (was : Option Thing) × (slice_get things p ≡ Some was)
there things p old h = of_entry (slice_get things p) refl h
  where
    of_entry : (o : Option (Option Thing)) → slice_get things p ≡ o → held_thing o ≡ Some old → (was : Option Thing) × (slice_get things p ≡ Some was)
    of_entry (Some was) e h = (was, e)
    of_entry None e h = cc

-- ---- a frame with one place more, which has nothing

held_more : (things : List (Option Thing)) (n : ℕ) → held_thing (slice_get (things ++ None ∷ []) n) ≡ held_thing (slice_get things n)
held_more [] zero = refl
held_more [] (suc n) = refl
held_more (a ∷ things) zero = refl
held_more (a ∷ things) (suc n) = held_more things n

thing_more : (things : List (Option Thing)) (x : Reference) → thing_for (things ++ None ∷ []) x ≡ thing_for things x
thing_more things (Place n) = held_more things n
thing_more things (Slot n) = refl
thing_more things (VertexType n) = refl
thing_more things (EdgeType n) = refl
thing_more things (TupleType n) = refl
thing_more things TypeName = refl
thing_more things (FieldAt c) = refl
thing_more things (Calls f) = refl
thing_more things (Does m) = refl

alike_more : (things : List (Option Thing)) (ns : List (Reference × states.Thing)) → Alike things ns → Alike (things ++ None ∷ []) ns
alike_more things ns a = record { each = λ x. a.each x ∙ sym (thing_more things x) }

first_name : (p : ℕ) (n : Reference × states.Thing) (ns : List (Reference × states.Thing)) → n.0 ≡ Place p → under same (Place p) (n ∷ ns) ≡ Some n.1
first_name p n ns e = ap (λ r. cond (same r (Place p)) (Some n.1) (under same (Place p) ns)) e ∙ ap (λ b. cond b (Some n.1) (under same (Place p) ns)) (same_self p)

unwinds_more : (things : List (Option Thing)) (us : List Undo) (ns : List (Reference × states.Thing)) → Unwinds things us ns → Unwinds (things ++ None ∷ []) us ns
unwinds_more things [] [] h = alike_more things [] h
unwinds_more things (u ∷ us) (n ∷ ns) h =
    let w = there things u.place n.1 (sym (h.0.each (Place u.place)) ∙ first_name u.place n ns h.1) in
    (alike_more things (n ∷ ns) h.0, h.1, subst (λ xs. Unwinds xs us ns) (sym (set_end things u.place w.0 u.was None w.1)) (unwinds_more (set things u.place u.was) us ns h.2))
unwinds_more things [] (n ∷ ns) h = absurd h
unwinds_more things (u ∷ us) [] h = absurd h

pub lives_more : (old new : Live) (s : State Reference) → new.frame.things ≡ old.frame.things ++ None ∷ [] → new.undo.items ≡ old.undo.items → new.frame.accums ≡ old.frame.accums
    → Lives old s → Lives new s
lives_more old new s things log accums l = record {
  names =
      subst (λ xs. Unwinds xs (reverse new.undo.items) s.names) (sym things)
      (subst (λ us. Unwinds (old.frame.things ++ None ∷ []) us s.names) (sym (ap reverse log)) (unwinds_more old.frame.things (reverse old.undo.items) s.names l.names));
  slots = l.slots ∙ ap slots_are (sym accums);
}

-- ---- names that are assigned

same_place : (x : Reference) (p : ℕ) → same x (Place p) ≡ true → x ≡ Place p
same_place (Place n) p e = ap Place (eqb-true n p e)
same_place (Slot n) p e = cc
same_place (VertexType n) p e = cc
same_place (EdgeType n) p e = cc
same_place (TupleType n) p e = cc
same_place TypeName p e = cc
same_place (FieldAt c) p e = cc
same_place (Calls f) p e = cc
same_place (Does m) p e = cc

is_or_not : (b : Bool) → (b ≡ true) ⊎ (b ≡ false)
is_or_not true = inl refl
is_or_not false = inr refl

twice : (b : Bool) (u v w : Option states.Thing) → cond b u v ≡ cond b u (cond b w v)
twice true u v w = refl
twice false u v w = refl

exchanged : (a b : Bool) (u v w : Option states.Thing) → (a ≡ true → b ≡ false) → cond a u (cond b v w) ≡ cond b v (cond a u w)
exchanged true true u v w h = cc (h refl)
exchanged true false u v w h = refl
exchanged false true u v w h = refl
exchanged false false u v w h = refl

turned : (m p : ℕ) → (m == p) ≡ false → (p == m) ≡ false
turned m p e = grind (arith, nat_tests)

not_both : (p : ℕ) (r x : Reference) → same r (Place p) ≡ false → same r x ≡ true → same (Place p) x ≡ false
not_both p r (Place m) d y = subst (λ q. same q (Place p) ≡ false → same (Place p) (Place m) ≡ false) (sym (same_place r m y)) (turned m p) d
not_both p r (Slot m) d y = refl
not_both p r (VertexType m) d y = refl
not_both p r (EdgeType m) d y = refl
not_both p r (TupleType m) d y = refl
not_both p r TypeName d y = refl
not_both p r (FieldAt c) d y = refl
not_both p r (Calls f) d y = refl
not_both p r (Does m) d y = refl

-- a visible name refers to the new thing, and all others to what they did
under_changed : (p : ℕ) (old t : states.Thing) (ns : List (Reference × states.Thing)) (x : Reference) → under same (Place p) ns ≡ Some old
    → under same x (changed same (Place p) t ns) ≡ cond (same (Place p) x) (Some t) (under same x ns)
under_changed p old t [] x e = cc
under_changed p old t (n ∷ ns) x e = by_name (λ d. under_changed p old t ns x (ap (λ b. cond b (Some n.1) (under same (Place p) ns)) (sym d) ∙ e)) (is_or_not (same n.0 (Place p)))
  where
    by_name : (same n.0 (Place p) ≡ false → under same x (changed same (Place p) t ns) ≡ cond (same (Place p) x) (Some t) (under same x ns)) → ((same n.0 (Place p) ≡ true) ⊎ (same n.0 (Place p) ≡ false)) → under same x (changed same (Place p) t (n ∷ ns)) ≡ cond (same (Place p) x) (Some t) (under same x (n ∷ ns))
    by_name next (inl y) =
        ap (λ b. under same x (cond b ((Place p, t) ∷ ns) (n ∷ changed same (Place p) t ns))) y
        ∙ twice (same (Place p) x) (Some t) (under same x ns) (Some n.1)
        ∙ ap (λ r. cond (same (Place p) x) (Some t) (cond (same r x) (Some n.1) (under same x ns))) (sym (same_place n.0 p y))
    by_name next (inr d) =
        ap (λ b. under same x (cond b ((Place p, t) ∷ ns) (n ∷ changed same (Place p) t ns))) d
        ∙ ap (cond (same n.0 x) (Some n.1)) (next d)
        ∙ exchanged (same n.0 x) (same (Place p) x) (Some n.1) (Some t) (under same x ns) (not_both p n.0 x d)

alike_changed : (things : List (Option Thing)) (p : ℕ) (thing : Thing) (old t : states.Thing) (ns : List (Reference × states.Thing))
    → Alike things ns → under same (Place p) ns ≡ Some old → held_thing (Some (Some thing)) ≡ Some t
    → Alike (set things p (Some thing)) (changed same (Place p) t ns)
alike_changed things p thing old t ns a e h =
    let w = there things p old (sym (a.each (Place p)) ∙ e) in
    record { each = λ x. under_changed p old t ns x e ∙ choice things p w.0 thing t (λ x. under same x ns) w.1 h a.each x }

changed_unwinds : (things : List (Option Thing)) (us : List Undo) (p : ℕ) (thing : Thing) (old t : states.Thing) (ns : List (Reference × states.Thing))
    → under same (Place p) ns ≡ Some old → held_thing (Some (Some thing)) ≡ Some t
    → Unwinds things us ns → Unwinds (set things p (Some thing)) us (changed same (Place p) t ns)
changed_unwinds things [] p thing old t [] e h l = cc
changed_unwinds things [] p thing old t (n ∷ ns) e h l = absurd l
changed_unwinds things (u ∷ us) p thing old t [] e h l = absurd l
changed_unwinds things (u ∷ us) p thing old t (n ∷ ns) e h l = by_place (λ e. changed_unwinds (set things u.place u.was) us p thing old t ns e h l.2) (eqb_tells u.place p)
  where
    alike : Alike (set things p (Some thing)) (changed same (Place p) t (n ∷ ns))
    alike = alike_changed things p thing old t (n ∷ ns) l.0 e h

    tested : same n.0 (Place p) ≡ (u.place == p)
    tested = ap (λ r. same r (Place p)) l.1

    by_place : (under same (Place p) ns ≡ Some old → Unwinds (set (set things u.place u.was) p (Some thing)) us (changed same (Place p) t ns)) → (((u.place == p) ≡ true) × (u.place ≡ p)) ⊎ (((u.place == p) ≡ false) × (u.place ≢ p)) → Unwinds (set things p (Some thing)) (u ∷ us) (changed same (Place p) t (n ∷ ns))
    by_place next (inl y) =
        let is : changed same (Place p) t (n ∷ ns) ≡ (Place p, t) ∷ ns = ap (λ b. cond b ((Place p, t) ∷ ns) (n ∷ changed same (Place p) t ns)) (tested ∙ y.0) in
        subst (Unwinds (set things p (Some thing)) (u ∷ us)) (sym is) (
          subst (Alike (set things p (Some thing))) is alike,
          ap Place (sym y.1),
          subst (λ q. Unwinds (set (set things q (Some thing)) u.place u.was) us ns) y.1 (subst (λ xs. Unwinds xs us ns) (sym (set_set things u.place (Some thing) u.was)) l.2),
        )
    by_place next (inr d) =
        let is : changed same (Place p) t (n ∷ ns) ≡ n ∷ changed same (Place p) t ns = ap (λ b. cond b ((Place p, t) ∷ ns) (n ∷ changed same (Place p) t ns)) (tested ∙ d.0) in
        subst (Unwinds (set things p (Some thing)) (u ∷ us)) (sym is) (
          subst (Alike (set things p (Some thing))) is alike,
          l.1,
          subst (λ xs. Unwinds xs us (changed same (Place p) t ns)) (sym (set_swap things p u.place (Some thing) u.was (turned u.place p d.0)))
              (next (ap (λ b. cond b (Some n.1) (under same (Place p) ns)) (sym (tested ∙ d.0)) ∙ e)),
        )

-- ---- what the code does

is_some_is : {A : Type 0} (o : Option A) → is_some o ≡ true → (a : A) × (o ≡ Some a)
is_some_is (Some a) e = (a, refl)
is_some_is None e = absurd (let f : ⊥ = cc in f)

changed_lives : (old new : Live) (p : ℕ) (thing : Thing) (s : State Reference) (t was : states.Thing)
    → new.frame.things ≡ set old.frame.things p (Some thing) → new.undo.items ≡ old.undo.items → new.frame.accums ≡ old.frame.accums
    → held_thing (Some (Some thing)) ≡ Some t → under same (Place p) s.names ≡ Some was
    → Lives old s → Lives new (record s { names = changed same (Place p) t s.names })
changed_lives old new p thing s t was things log accums h e l = record {
  names =
      subst (λ xs. Unwinds xs (reverse new.undo.items) (changed same (Place p) t s.names)) (sym things)
      (subst (λ us. Unwinds (set old.frame.things p (Some thing)) us (changed same (Place p) t s.names)) (sym (ap reverse log))
      (changed_unwinds old.frame.things (reverse old.undo.items) p thing was t s.names e h l.names));
  slots = l.slots ∙ ap slots_are (sym accums);
}

-- a name as it is looked up in a world
abbrev named_by : (Reference → Reference → Bool) → ℕ → states.Thing → State Reference → State Reference
named_by f p t s = if is_some (under f (Place p) s.names) then (record s { names = changed f (Place p) t s.names }) else with_new (Place p) t s

pub seen_there : (live : Live) (p : ℕ) (s : State Reference) → Lives live s → under same (Place p) s.names ≡ thing_in live.frame.things p
seen_there live p s l = (alike_now live.frame.things (reverse live.undo.items) s.names l.names).each (Place p)

-- a visible name
pub assigned_lives : (old new : Live) (p : ℕ) (thing : Thing)
    → is_some (thing_in old.frame.things p) ≡ true
    → new.frame.things ≡ set old.frame.things p (Some thing) → new.undo.items ≡ old.undo.items → new.frame.accums ≡ old.frame.accums
    → (world : World Reference) (s : State Reference) → world.words.same ≡ same → Lives old s
    → Lives new (with_name world (Place p) (thing_is thing) s)
assigned_lives old new p thing y things log accums world s w l =
    let is = is_some_is (under same (Place p) s.names) (ap is_some (seen_there old p s l) ∙ y) in
    subst (λ f. Lives new (named_by f p (thing_is thing) s)) (sym w)
    (subst (λ b. Lives new (if b then (record s { names = changed same (Place p) (thing_is thing) s.names }) else with_new (Place p) (thing_is thing) s)) (sym (ap is_some (seen_there old p s l) ∙ y))
    (changed_lives old new p thing s (thing_is thing) is.0 things log accums refl is.1 l))

-- another one
pub declared_lives : (old new : Live) (p : ℕ) (thing : Thing)
    → is_some (thing_in old.frame.things p) ≡ false
    → ((s : State Reference) → Lives old s → Lives new (with_new (Place p) (thing_is thing) s))
    → (world : World Reference) (s : State Reference) → world.words.same ≡ same → Lives old s
    → Lives new (with_name world (Place p) (thing_is thing) s)
declared_lives old new p thing d next world s w l =
    subst (λ f. Lives new (named_by f p (thing_is thing) s)) (sym w)
    (subst (λ b. Lives new (if b then (record s { names = changed same (Place p) (thing_is thing) s.names }) else with_new (Place p) (thing_is thing) s)) (sym (ap is_some (seen_there old p s l) ∙ d))
    (next s l))

-- ---- names that are removed

-- the last name is removed
pub last_leaves : (things : List (Option Thing)) (log rest : List Undo) (u : Undo) (ns : List (Reference × states.Thing))
    → log ≡ rest ++ u ∷ [] → Unwinds things (reverse log) ns → Unwinds (set things u.place u.was) (reverse rest) (drop 1 ns)
last_leaves things log rest u ns e l = one ns (subst (λ us. Unwinds things us ns) (ap reverse e ∙ reverse-append rest (u ∷ [])) l)
  where
    one : (ns : List (Reference × states.Thing)) → Unwinds things (u ∷ reverse rest) ns → Unwinds (set things u.place u.was) (reverse rest) (drop 1 ns)
    one [] l = absurd l
    one (n ∷ ns) l = l.2

pub none_leaves : (things : List (Option Thing)) (ns : List (Reference × states.Thing)) → Unwinds things [] ns → Unwinds things [] (drop 1 ns)
none_leaves things [] l = l
none_leaves things (n ∷ ns) l = absurd l

pub more_leave : (live : Live) (s : State Reference) (k j : ℕ) → j ≡ k + 1 → Lives live (without 1 (without k s)) → Lives live (without j s)
more_leave live s k j e l = record {
  names = subst (Unwinds live.frame.things (reverse live.undo.items)) (drop-drop 1 k s.names ∙ ap (λ n. drop n s.names) (let d : k + 1 ≡ j = omega arith in d)) l.names;
  slots = l.slots;
}

pub declared_on_ok : (result : Result (Unit {0}) OutOfMemory) (old new : Live) (p : ℕ) (thing : Thing)
    → is_some (thing_in old.frame.things p) ≡ false
    → OnOk result ((s : State Reference) → Lives old s → Lives new (with_new (Place p) (thing_is thing) s))
    → OnOk result ((world : World Reference) (s : State Reference) → world.words.same ≡ same → Lives old s → Lives new (with_name world (Place p) (thing_is thing) s))
declared_on_ok (Ok x) old new p thing d h = declared_lives old new p thing d h
declared_on_ok (Err e) old new p thing d h = h

pub turns_taken : (turn mark last n : ℕ) → last ≡ n → (mark ≤ last → turn ≤ last) → last ≤ turn → (last ≤ mark → turn ≡ mark) → turn - mark ≡ n - mark
turns_taken turn mark last n e above below none = by_order (leb_tells mark last)
  where
    by_order : (((leb mark last) ≡ true) × (mark ≤ last)) ⊎ (((leb mark last) ≡ false) × (last < mark)) → turn - mark ≡ n - mark
    by_order (inl l) = let t = above l.1 in let b = l.1 in omega (arith, t, b, below, e)
    by_order (inr l) = let b = l.1 in let t = none (omega (arith, b)) in omega (arith, t, b, e)
