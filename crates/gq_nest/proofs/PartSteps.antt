-- PartSteps: the parts of a group, each read as a content of its kind.
use Rattle.std.proofs.Common.{◌≡◌, ℕ, zero, suc, ◌+◌, ◌<◌, ◌≤◌, true, false, ◌&&◌, List, [], ◌∷◌, ◌++◌, map, take, drop, length, get_or, set, Some, refl, sym, ap, ap₂, ◌∙◌, subst, arith}
use Rattle.std.specs.List.{slice_get}
use Rattle.std.proofs.lemmas.List.{drop_more, length-map}
use Rattle.gq_value.specs.declared.kind.Kind.{Kind}
use Rattle.gq_value.specs.Accums.{Parts, no_part, part_and, Given}
use Rattle.gq_value.specs.AccumViews.{accum_of, parts_of, givens}
use Rattle.gq_value.specs.Typed.{suits, suit}
use Rattle.gq_accum_laws.specs.Holds.{HoldsEach}
use Rattle.gq_accum_laws.specs.After.{fresh_each, after_each, merged_each}
use Rattle.gq_accum_laws.specs.Fits.{fits, fit, AreProper}
use Rattle.gq_accum_laws.proofs.KindLaws.{both}
use Rattle.gq_nest.specs.declared.content.Content.{Content, out-Content}
use Rattle.gq_nest.specs.Entries.{Pairs, StepsEach}
use Rattle.gq_nest.specs.Forms.{view, view_each, AreOf, FeedsEach, FeedsParts, MergesEach, CopyEach, HaveRoom}
use Rattle.gq_nest.specs.Shows.{Shows, AreFresh, ShowEach}
use Rattle.gq_nest.specs.Tells.{Tells, EachTells, ShowsPart, has_part}

-- ---- one part after another

-- as many pairs as were gone over
pub pairs_more : {X Y : Type 0} (R : X → Y → Type 0) (i : ℕ) (xs : List X) (ys : List Y) (x : X) (y : Y) → i < length xs → x ≡ get_or xs i x → R x y
    → Pairs R (take i xs) ys → Pairs R (take (suc i) xs) (ys ++ y ∷ [])
pairs_more R zero [] ys x y l e r h = absurd (omega (arith, l))
pairs_more R zero (z ∷ xs) [] x y l e r h = (subst (λ v. R v y) e r, tt)
pairs_more R zero (z ∷ xs) (w ∷ ys) x y l e r h = absurd h
pairs_more R (suc i) [] ys x y l e r h = absurd (omega (arith, l))
pairs_more R (suc i) (z ∷ xs) [] x y l e r h = absurd h
pairs_more R (suc i) (z ∷ xs) (w ∷ ys) x y l e r h = (h.0, pairs_more R i xs ys x y (omega (arith, l)) e r h.1)

pub pairs_next : {X Y : Type 0} (R : X → Y → Type 0) (i : ℕ) (xs : List X) (ys ys' : List Y) (x : X) (y : Y) → i < length xs → x ≡ get_or xs i x → R x y
    → ys' ≡ ys ++ y ∷ [] → Pairs R (take i xs) ys → Pairs R (take (i + 1) xs) ys'
pairs_next R i xs ys ys' x y l e r is h =
    let n : suc i ≡ i + 1 = omega arith in
    subst (λ zs. Pairs R (take (i + 1) xs) zs) (sym is) (subst (λ (m : ℕ). Pairs R (take m xs) (ys ++ y ∷ [])) n (pairs_more R i xs ys x y l e r h))

module _ {X Y : Type 0} (step : X → Y → X → Type 0) where
  -- the first i have made a step, and the others are as they were
  abbrev pub Midway : ℕ → List X → List Y → List X → Type 0
  Midway zero old ys now = now ≡ old
  Midway (suc i) (x ∷ old) (y ∷ ys) (z ∷ now) = step x y z × Midway i old ys now
  Midway (suc i) _ _ _ = ⊥

  pub midway_more : (i : ℕ) (old : List X) (ys : List Y) (now : List X) (x z : X) (y : Y) → i < length ys → y ≡ get_or ys i y → slice_get now i ≡ Some x → step x y z
      → Midway i old ys now → Midway (suc i) old ys (set now i z)
  midway_more zero [] ys [] x z y l e g s h = absurd (cc g)
  midway_more zero [] ys (n ∷ now) x z y l e g s h = absurd (cc h)
  midway_more zero (o ∷ old) [] now x z y l e g s h = absurd (omega (arith, l))
  midway_more zero (o ∷ old) (v ∷ ys) [] x z y l e g s h = absurd (cc h)
  midway_more zero (o ∷ old) (v ∷ ys) (n ∷ now) x z y l e g s h =
      let a : x ≡ o = cc in let b : now ≡ old = cc in
      (subst (λ w. step o w z) e (subst (λ w. step w y z) a s), b)
  midway_more (suc i) [] ys now x z y l e g s h = absurd h
  midway_more (suc i) (o ∷ old) [] now x z y l e g s h = absurd h
  midway_more (suc i) (o ∷ old) (v ∷ ys) [] x z y l e g s h = absurd h
  midway_more (suc i) (o ∷ old) (v ∷ ys) (n ∷ now) x z y l e g s h = (h.0, midway_more i old ys now x z y (omega (arith, l)) e g s h.1)

  pub midway_all : (i : ℕ) (old : List X) (ys : List Y) (now : List X) → i ≡ length ys → length ys ≡ length old → Midway i old ys now → StepsEach step old ys now
  midway_all zero [] [] [] e f h = tt
  midway_all zero [] [] (n ∷ now) e f h = absurd (cc h)
  midway_all zero [] (y ∷ ys) now e f h = absurd (omega (arith, f))
  midway_all zero (o ∷ old) [] now e f h = absurd (omega (arith, f))
  midway_all zero (o ∷ old) (y ∷ ys) now e f h = absurd (omega (arith, e))
  midway_all (suc i) [] ys now e f h = absurd h
  midway_all (suc i) (o ∷ old) [] now e f h = absurd h
  midway_all (suc i) (o ∷ old) (y ∷ ys) [] e f h = absurd h
  midway_all (suc i) (o ∷ old) (y ∷ ys) (n ∷ now) e f h = (h.0, midway_all i old ys now (omega (arith, e)) (omega (arith, f)) h.1)

-- ---- what the parts hold

pub fresh_are : (ps : List (List ℕ × Kind)) (cs : List Content) → AreFresh ps cs
    → AreOf (parts_of (map (λ p. (p.0, accum_of p.1)) ps)) cs × (view_each (parts_of (map (λ p. (p.0, accum_of p.1)) ps)) cs ≡ fresh_each (parts_of (map (λ p. (p.0, accum_of p.1)) ps)))
fresh_are [] [] h = (tt, refl)
fresh_are [] (c ∷ cs) h = absurd h
fresh_are (p ∷ ps) [] h = absurd h
fresh_are (p ∷ ps) (c ∷ cs) h = let r = fresh_are ps cs h.1 in ((h.0.of_kind, r.0), ap₂ (λ a b. (a, b)) h.0.holds r.1)

pub copies_are : (ps : Parts) (old new : List Content) → CopyEach old new → AreOf ps old → AreOf ps new × (view_each ps new ≡ view_each ps old)
copies_are no_part [] [] h a = (tt, refl)
copies_are no_part [] (d ∷ new) h a = absurd h
copies_are no_part (c ∷ old) new h a = absurd a
copies_are (part_and name k ps) [] new h a = absurd a
copies_are (part_and name k ps) (c ∷ old) [] h a = absurd h
copies_are (part_and name k ps) (c ∷ old) (d ∷ new) h a =
    let r = copies_are ps old new h.1 a.1 in let s = h.0.each k a.0 in
    ((s.0, r.0), ap₂ (λ a b. (a, b)) s.1 r.1)

pub feeds_are : (ps : Parts) (old : List Content) (xs : List Given) (new : List Content) → FeedsEach old xs new → AreOf ps old → AreProper ps (view_each ps old) → HaveRoom ps (view_each ps old)
    → suit ps (givens xs) ≡ true → AreOf ps new × (view_each ps new ≡ after_each ps (view_each ps old) (givens xs ∷ []))
feeds_are no_part [] [] [] h a p room s = (tt, refl)
feeds_are no_part [] [] (d ∷ new) h a p room s = absurd h
feeds_are no_part [] (x ∷ xs) new h a p room s = absurd (cc s)
feeds_are no_part (c ∷ old) xs new h a p room s = absurd a
feeds_are (part_and name k ps) [] xs new h a p room s = absurd a
feeds_are (part_and name k ps) (c ∷ old) [] new h a p room s = absurd (cc s)
feeds_are (part_and name k ps) (c ∷ old) (x ∷ xs) [] h a p room s = absurd h
feeds_are (part_and name k ps) (c ∷ old) (x ∷ xs) (d ∷ new) h a p room s =
    let t = both (suits k x) (suit ps (givens xs)) s in
    let r = feeds_are ps old xs new h.1 a.1 p.1 (room.0, room.1, room.2.1) t.1 in
    let g = h.0.each k a.0 p.0 (room.0, room.1, room.2.0) t.0 in
    ((g.0, r.0), ap₂ (λ a b. (a, b)) g.1 r.1)

-- as many contents as parts
pub as_many : (ps : Parts) (cs : List Content) (xs : List Given) → AreOf ps cs → suit ps (givens xs) ≡ true → length xs ≡ length cs
as_many no_part [] [] a s = refl
as_many no_part [] (x ∷ xs) a s = absurd (cc s)
as_many no_part (c ∷ cs) xs a s = absurd a
as_many (part_and name k ps) [] xs a s = absurd a
as_many (part_and name k ps) (c ∷ cs) [] a s = absurd (cc s)
as_many (part_and name k ps) (c ∷ cs) (x ∷ xs) a s = ap suc (as_many ps cs xs a.1 (both (suits k x) (suit ps (givens xs)) s).1)

-- as many contents in both
pub same_many : (ps : Parts) (cs ds : List Content) → AreOf ps cs → AreOf ps ds → length cs ≡ length ds
same_many no_part [] [] a b = refl
same_many no_part [] (d ∷ ds) a b = absurd b
same_many no_part (c ∷ cs) ds a b = absurd a
same_many (part_and name k ps) [] ds a b = absurd a
same_many (part_and name k ps) (c ∷ cs) [] a b = absurd b
same_many (part_and name k ps) (c ∷ cs) (d ∷ ds) a b = ap suc (same_many ps cs ds a.1 b.1)

pub merges_are : (ps : Parts) (old other new : List Content) → MergesEach old other new → AreOf ps old → AreOf ps other → AreProper ps (view_each ps old)
    → HaveRoom ps (view_each ps old) → HaveRoom ps (view_each ps other) → AreOf ps new × (view_each ps new ≡ merged_each ps (view_each ps old) (view_each ps other))
merges_are no_part [] [] [] h a b p room also = (tt, refl)
merges_are no_part [] [] (d ∷ new) h a b p room also = absurd h
merges_are no_part [] (x ∷ xs) new h a b p room also = absurd b
merges_are no_part (c ∷ old) xs new h a b p room also = absurd a
merges_are (part_and name k ps) [] xs new h a b p room also = absurd a
merges_are (part_and name k ps) (c ∷ old) [] new h a b p room also = absurd b
merges_are (part_and name k ps) (c ∷ old) (x ∷ xs) [] h a b p room also = absurd h
merges_are (part_and name k ps) (c ∷ old) (x ∷ xs) (d ∷ new) h a b p room also =
    let r = merges_are ps old xs new h.1 a.1 b.1 p.1 (room.0, room.1, room.2.1) (also.0, also.1, also.2.1) in
    let g = h.0.each k a.0 b.0 p.0 (room.0, room.1, room.2.0) (also.0, also.1, also.2.0) in
    ((g.0, r.0), ap₂ (λ a b. (a, b)) g.1 r.1)

-- parts show what they hold
pub shown_each : (ps : Parts) (cs : List Content) → AreOf ps cs → AreProper ps (view_each ps cs) → ShowEach ps cs (view_each ps cs)
shown_each no_part [] a p = tt
shown_each no_part (c ∷ cs) a p = absurd a
shown_each (part_and name k ps) [] a p = absurd a
shown_each (part_and name k ps) (c ∷ cs) a p = (record { of_kind = a.0; holds = refl; proper = p.0 }, shown_each ps cs a.1 p.1)

-- the part at a place
pub part_there : (ps : Parts) (cs : List Content) (i : ℕ) (c : Content) → AreOf ps cs → AreProper ps (view_each ps cs) → i < length cs → c ≡ get_or cs i c → ShowsPart ps i (view_each ps cs) c
part_there no_part [] i c a p l e = absurd (omega (arith, l))
part_there no_part (d ∷ cs) i c a p l e = absurd a
part_there (part_and name k ps) [] i c a p l e = absurd a
part_there (part_and name k ps) (d ∷ cs) zero c a p l e = subst (λ x. Shows k x (view k (out-Content d))) (sym e) (record { of_kind = a.0; holds = refl; proper = p.0 })
part_there (part_and name k ps) (d ∷ cs) (suc i) c a p l e = part_there ps cs i c a.1 p.1 (omega (arith, l)) e

pub no_part_there : (ps : Parts) (cs : List Content) (i : ℕ) → AreOf ps cs → length cs < i + 1 → has_part ps i ≡ true → ⊥
no_part_there no_part cs i a l h = cc h
no_part_there (part_and name k ps) [] i a l h = a
no_part_there (part_and name k ps) (d ∷ cs) zero a l h = absurd (omega (arith, l))
no_part_there (part_and name k ps) (d ∷ cs) (suc i) a l h = no_part_there ps cs i a.1 (omega (arith, l)) h

-- ---- whether they fit

-- midway: what was passed fits
pub record FittingEach (all left : List Content) : Type 0 where
  pub each : (ps : Parts) (h : HoldsEach ps) → ShowEach ps all h → (qs : Parts) × (g : HoldsEach qs) × ShowEach qs left g × (fit qs g ≡ fit ps h)

pub fitting_each_first : (all left : List Content) → left ≡ all → FittingEach all left
fitting_each_first all left e = subst (FittingEach all) (sym e) (record { each = λ ps h s. (ps, h, s, refl) })

pub fitting_each_more : (all left rest : List Content) (part : Content) → left ≡ part ∷ rest → Tells part true fits → FittingEach all left → FittingEach all rest
fitting_each_more all left rest part e t before = next (subst (FittingEach all) e before)
  where
    go : (ps : Parts) (h : HoldsEach ps) (qs : Parts) (g : HoldsEach qs) → ShowEach qs (part ∷ rest) g → fit qs g ≡ fit ps h → (rs : Parts) × (f : HoldsEach rs) × ShowEach rs rest f × (fit rs f ≡ fit ps h)
    go ps h no_part g s e = absurd s
    go ps h (part_and name k qs) g s e = (qs, g.1, s.1, ap (λ b. b && fit qs g.1) (t.each k g.0 s.0) ∙ e)

    next : FittingEach all (part ∷ rest) → FittingEach all rest
    next u = record { each = λ ps h s. let r = u.each ps h s in go ps h r.0 r.1 r.2 r.3 }

pub fitting_each_all : (all left : List Content) → left ≡ [] → FittingEach all left → EachTells all true
fitting_each_all all left e before = done (subst (FittingEach all) e before)
  where
    go : (ps : Parts) (h : HoldsEach ps) (qs : Parts) (g : HoldsEach qs) → ShowEach qs [] g → fit qs g ≡ fit ps h → true ≡ fit ps h
    go ps h no_part g s e = e
    go ps h (part_and name k qs) g s e = absurd s

    done : FittingEach all [] → EachTells all true
    done u = record { each = λ ps h s. let r = u.each ps h s in go ps h r.0 r.1 r.2 r.3 }

pub one_part_unfit : (all left rest : List Content) (part : Content) → left ≡ part ∷ rest → Tells part false fits → FittingEach all left → EachTells all false
one_part_unfit all left rest part e t before = done (subst (FittingEach all) e before)
  where
    go : (ps : Parts) (h : HoldsEach ps) (qs : Parts) (g : HoldsEach qs) → ShowEach qs (part ∷ rest) g → fit qs g ≡ fit ps h → false ≡ fit ps h
    go ps h no_part g s e = absurd s
    go ps h (part_and name k qs) g s e = ap (λ b. b && fit qs g.1) (t.each k g.0 s.0) ∙ e

    done : FittingEach all (part ∷ rest) → EachTells all false
    done u = record { each = λ ps h s. let r = u.each ps h s in go ps h r.0 r.1 r.2 r.3 }

-- what stands in each place, as another makes it
pub steps_map : {X Y Z : Type 0} (step : X → Z → X → Type 0) (f : Y → Z) (old : List X) (ys : List Y) (new : List X) → StepsEach (λ x y z. step x (f y) z) old ys new → StepsEach step old (map f ys) new
steps_map step f [] [] [] h = tt
steps_map step f [] [] (z ∷ new) h = absurd h
steps_map step f [] (y ∷ ys) new h = absurd h
steps_map step f (x ∷ old) [] new h = absurd h
steps_map step f (x ∷ old) (y ∷ ys) [] h = absurd h
steps_map step f (x ∷ old) (y ∷ ys) (z ∷ new) h = (h.0, steps_map step f old ys new h.1)

pub length-set : {X : Type 0} (xs : List X) (i : ℕ) (x : X) → length (set xs i x) ≡ length xs
length-set [] i x = refl
length-set (y ∷ xs) zero x = refl
length-set (y ∷ xs) (suc i) x = ap suc (length-set xs i x)

pub midway_next : {X Y : Type 0} (step : X → Y → X → Type 0) (i : ℕ) (old : List X) (ys : List Y) (now now' : List X) (x z : X) (y : Y) → i < length ys → y ≡ get_or ys i y → slice_get now i ≡ Some x → step x y z → now' ≡ set now i z
    → (length now ≡ length old) × Midway step i old ys now → (length now' ≡ length old) × Midway step (i + 1) old ys now'
midway_next step i old ys now now' x z y l e g s is h =
    let n : suc i ≡ i + 1 = omega arith in
    (ap length is ∙ length-set now i z ∙ h.0, subst (λ w. Midway step (i + 1) old ys w) (sym is) (subst (λ (m : ℕ). Midway step m old ys (set now i z)) n (midway_more step i old ys now x z y l e g s h.1)))

-- what is left of a list
pub left_more : {X : Type 0} (xs : List X) (i : ℕ) (x : X) → i < length xs → x ≡ get_or xs i x → drop i xs ≡ x ∷ drop (i + 1) xs
left_more xs i x l e = drop_more xs i x l ∙ ap (λ v. v ∷ drop (i + 1) xs) (sym e)

pub left_none : {X : Type 0} (xs : List X) (i : ℕ) → length xs ≤ i → drop i xs ≡ []
left_none [] zero l = refl
left_none [] (suc i) l = refl
left_none (x ∷ xs) zero l = absurd (omega (arith, l))
left_none (x ∷ xs) (suc i) l = left_none xs i (omega (arith, l))

-- more or fewer of them
pub other_many : {A : Type 0} (old : List Content) (xs : List A) (f : A → Given) → (length xs ≡ length old → ⊥) → FeedsParts old (map f xs) old
other_many old xs f n = λ e. absurd (n (sym (length-map xs f) ∙ e))
