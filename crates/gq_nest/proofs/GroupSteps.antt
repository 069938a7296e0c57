-- GroupSteps: a group before any input, after one more, once more, and what it tells.
use Rattle.std.proofs.Common.{if◌then◌else◌, ◌≡◌, ℕ, ◌+◌, ◌<◌, Bool, true, false, ◌||◌, List, [], ◌∷◌, ◌++◌, map, length, get_or, is_some, Option, Some, None, Bor, MatchOption, refl, sym, ap, ◌∙◌, subst, arith, ltb-true}
use Rattle.std.specs.Ordering.{is_eq, on}
use Rattle.std.specs.Cmp.Lexicographic.{slice_cmp}
use Rattle.std.specs.Map.{lookup, keys_of}
use Rattle.std.specs.Slice.{IsItemAt}
use Rattle.std.specs.Global.{Vec}
use Rattle.std.specs.BTreeMap.{BTreeMap}
use Rattle.std.specs.List.Sorted.{IsStrictlySortedBy}
use Rattle.std.proofs.lemmas.List.{length-map}
use Rattle.gq_value.specs.declared.value.Value.{Value}
use Rattle.gq_value.specs.declared.kind.Kind.{Kind}
use Rattle.gq_value.specs.declared.kind.GroupShape.{GroupShape}
use Rattle.gq_value.specs.declared.kind.Kind.TheVariants as kind
use Rattle.gq_value.specs.declared.kind.Input.{Input}
use Rattle.gq_value.specs.Val.{Val}
use Rattle.gq_value.specs.Views.{val}
use Rattle.gq_value.specs.Order.{place}
use Rattle.gq_value.specs.Accums.{Base, Accum, GroupByAccum, Parts, Given, Keyed}
use Rattle.gq_value.specs.AccumViews.{base_of, accum_of, parts_of, given, givens}
use Rattle.gq_value.specs.Typed.{suits, suit, row_is_of}
use Rattle.gq_value.proofs.AccumLemmas.{accum_of-Group}
use Rattle.gq_accum_laws.specs.Gather.{distinct, among}
use Rattle.gq_accum_laws.specs.Holds.{Holds, HoldsEach, row_cmp}
use Rattle.gq_accum_laws.specs.Inputs.{own}
use Rattle.gq_accum_laws.specs.After.{fresh, fresh_each, after, after_each}
use Rattle.gq_accum_laws.specs.Fits.{HasRoom, IsProper, AreProper}
use Rattle.gq_accum_laws.proofs.KindLaws.{both}
use Rattle.gq_accum_laws.proofs.RowLaws.{row_linear, among_distinct}
use Rattle.gq_accum_laws.proofs.ProperLaws.{each_none}
use Rattle.gq_nest.specs.declared.content.Content.{Content, Content-F, out-Content}
use Rattle.gq_nest.specs.declared.content.Content.TheVariants as made
use Rattle.gq_nest.specs.Entries.{group_row, is_row, at_or, rows, under, Each}
use Rattle.gq_nest.specs.Forms.{view, view_each, HasForm, Deep, AreOf, IsOf, Feeds, Copies, CopyEach, FeedsGroup, CopiesGroups, HaveRoom, groups_in}
use Rattle.gq_nest.specs.Shows.{Shows, AreFresh}
use Rattle.gq_nest.specs.Tells.{Tells, LacksPart, HasPart, ShowsPart}
use Rattle.gq_nest.proofs.EntryLemmas.{some_inj, changed}
use Rattle.gq_nest.proofs.LevelLemmas.{opened-Group}
use Rattle.gq_nest.proofs.FreshSteps.{shows_at}
use Rattle.gq_nest.proofs.FeedSteps.{feeds_by, rows_more}
use Rattle.gq_nest.proofs.CopySteps.{copies_by}
use Rattle.gq_nest.proofs.TellSteps.{tells_by}
use Rattle.gq_nest.proofs.PartSteps.{as_many, fresh_are, copies_are, feeds_are, part_there, no_part_there}
use Rattle.gq_nest.proofs.GroupLemmas.{key_cmp, group_test, groups_stay}

abbrev pub group_of : List (List ℕ × Base) × Parts → Accum
group_of p = GroupByAccum p.0 p.1

pub group_form : (os : List Content) (m : BTreeMap (Vec Value) (List Content)) (k : Accum) → HasForm (Content-F.Group os m) k → (p : List (List ℕ × Base) × Parts) × (k ≡ group_of p)
group_form os m k h = ((h.0, h.1), h.2)

-- ---- before any input

pub fresh_group : (k : Kind) (s : GroupShape) (os : List Content) (m : BTreeMap (Vec Value) (List Content)) → k ≡ kind.Group s → AreFresh s.parts os → m.entries ≡ [] → Shows (accum_of k) (made.Group os m) (fresh (accum_of k))
fresh_group k s os m e first empty =
    let keys : List (List ℕ × Base) = map (λ d. (d.0, base_of d.1)) s.keys in
    let ps : Parts = parts_of (map (λ p. (p.0, accum_of p.1)) s.parts) in
    shows_at (accum_of k) (GroupByAccum keys ps) (made.Group os m) (Content-F.Group os m) (ap accum_of e ∙ accum_of-Group s) (opened-Group os m)
    ((keys, ps, refl), ((fresh_are s.parts os first, tt), λ q cs h. absurd (let n : None ≡ under group_row q m.entries = sym (ap (under group_row q) empty) in let w = n ∙ h in cc)))
    (ap (λ es. (distinct row_cmp (rows group_row es), λ q. at_or (λ cs. view_each ps cs) (fresh_each ps) (under group_row q es))) empty)

-- ---- one more input

module _ (os : List Content) (m m' : BTreeMap (Vec Value) (List Content)) (row : List Val) (xs : List Given) (c : FeedsGroup os m.entries row xs m'.entries) (keys : List (List ℕ × Base)) (ps : Parts)
    (deep : Deep (GroupByAccum keys ps) (Content-F.Group os m)) (proper : IsProper (GroupByAccum keys ps) (view (GroupByAccum keys ps) (Content-F.Group os m)))
    (room : HasRoom (GroupByAccum keys ps) (view (GroupByAccum keys ps) (Content-F.Group os m))) (suit_all : suits (GroupByAccum keys ps) (Keyed row (givens xs)) ≡ true) where
  abbrev look : List Content → HoldsEach ps
  look cs = view_each ps cs

  abbrev at : List Val → List (Vec Value × List Content) → HoldsEach ps
  at q es = at_or look (fresh_each ps) (under group_row q es)

  suits_each : suit ps (givens xs) ≡ true
  suits_each = (both (row_is_of (map (λ k. k.1) keys) row) (suit ps (givens xs)) suit_all).1

  entered : Each group_row (λ cs. AreOf ps cs) m'.entries × ((q : List Val) → at q m'.entries ≡ (if is_eq (row_cmp q row) then after_each ps (at q m.entries) (givens xs ∷ []) else at q m.entries))
  entered = changed group_row look (fresh_each ps) _ _ (λ cs. AreOf ps cs) (λ d. after_each ps d (givens xs ∷ [])) m.entries m'.entries row c deep.1
      (λ cs h. let e = copies_are ps os cs h deep.0.0.0 in (e.0, e.1 ∙ deep.0.0.1))
      (λ was now s of_kind same. feeds_are ps was xs now (s (as_many ps was xs of_kind suits_each)) of_kind (subst (AreProper ps) (sym same) (proper.2 row)) (subst (HaveRoom ps) (sym same) (room.0, room.1, room.2 row)) suits_each)

  by : (q : List Val) (d : Bool) → (if d then after_each ps (at q m.entries) (givens xs ∷ []) else at q m.entries) ≡ after_each ps (at q m.entries) ((if d then givens xs ∷ [] else []) ++ [])
  by q true = refl
  by q false = sym (each_none ps (at q m.entries) (proper.2 q))

  entered_all : IsOf (GroupByAccum keys ps) (Content-F.Group os m') × (view (GroupByAccum keys ps) (Content-F.Group os m') ≡ after (GroupByAccum keys ps) (view (GroupByAccum keys ps) (Content-F.Group os m)) (Keyed row (givens xs) ∷ []))
  entered_all =
      let gathered = c.puts.keys ∙ rows_more (rows group_row m.entries) row in
      let there : (q : List Val) → at q m'.entries ≡ after_each ps (at q m.entries) (own q (Keyed row (givens xs) ∷ [])) = λ q. entered.1 q ∙ by q (is_eq (row_cmp q row)) in
      (((keys, ps, refl), (deep.0, entered.0)), λ i. (gathered i, λ q. there q i))

pub feed_group : (os : List Content) (m m' : BTreeMap (Vec Value) (List Content)) (row : List Value) (xs : List Input) → FeedsGroup os m.entries (map val row) (map given xs) m'.entries
    → Feeds (Content-F.Group os m) (Keyed (map val row) (givens (map given xs))) (out-Content (made.Group os m'))
feed_group os m m' row xs c = feeds_by group_of (Content-F.Group os m) (Content-F.Group os m') (made.Group os m') (Keyed (map val row) (givens (map given xs))) (opened-Group os m') (group_form os m)
    (λ p. entered_all os m m' (map val row) (map given xs) c p.0 p.1)

-- ---- once more

pub copies_group : (os ps : List Content) (m m' : BTreeMap (Vec Value) (List Content)) → CopyEach os ps → CopiesGroups m.entries m'.entries → Copies (Content-F.Group os m) (out-Content (made.Group ps m'))
copies_group os ps m m' first c = copies_by group_of (Content-F.Group os m) (Content-F.Group ps m') (made.Group ps m') (opened-Group ps m') (group_form os m)
    (λ a deep. let f = copies_are a.1 os ps first deep.0.0.0 in
    let keys = c.keys in
    let there : (q : List Val) → at_or (λ d. view_each a.1 d) (fresh_each a.1) (under group_row q m'.entries) ≡ at_or (λ d. view_each a.1 d) (fresh_each a.1) (under group_row q m.entries) = λ q. at a.1 deep.1 q (under group_row q m.entries) refl in
    (((a.0, a.1, refl), (((f.0, f.1 ∙ deep.0.0.1), tt), λ q d h. of_kind a.1 deep.1 q d h (under group_row q m.entries) refl)), λ i. (keys i, λ q. there q i)))
  where
    at : (k : Parts) → Each group_row (λ d. AreOf k d) m.entries → (q : List Val) (o : Option (List Content)) → under group_row q m.entries ≡ o
        → at_or (λ d. view_each k d) (fresh_each k) (under group_row q m'.entries) ≡ at_or (λ d. view_each k d) (fresh_each k) (under group_row q m.entries)
    at k all q None h = ap (at_or (λ d. view_each k d) (fresh_each k)) (c.none q h ∙ sym h)
    at k all q (Some x) h = let s = c.some q x h in ap (at_or (λ d. view_each k d) (fresh_each k)) s.1 ∙ (copies_are k x s.0 s.2 (all q x h)).1 ∙ ap (at_or (λ d. view_each k d) (fresh_each k)) (sym h)

    of_kind : (k : Parts) → Each group_row (λ d. AreOf k d) m.entries → (q : List Val) (d : List Content) → under group_row q m'.entries ≡ Some d → (o : Option (List Content)) → under group_row q m.entries ≡ o → AreOf k d
    of_kind k all q d h None s = absurd (let w : None ≡ Some d = sym (c.none q s) ∙ h in cc)
    of_kind k all q d h (Some x) s = let r = c.some q x s in let e : r.0 ≡ d = some_inj (sym r.1 ∙ h) in subst (λ y. AreOf k y) e (copies_are k x r.0 r.2 (all q x s)).0

-- ---- what it tells

pub tells_group : {A : Type 0} (c : Content) (a : A) (f : (k : Accum) → Holds k → A) (os : List Content) (m : BTreeMap (Vec Value) (List Content)) → c ≡ made.Group os m
    → ((keys : List (List ℕ × Base)) (ps : Parts) → a ≡ f (GroupByAccum keys ps) (view (GroupByAccum keys ps) (Content-F.Group os m))) → Tells c a f
tells_group c a f os m e step = tells_by c a f group_of (Content-F.Group os m) (ap out-Content e ∙ opened-Group os m) (group_form os m) (λ p. step p.0 p.1)

pub group_size : (es : List (Vec Value × List Content)) (n : ℕ) → n ≡ length es → IsStrictlySortedBy key_cmp (keys_of es) → n ≡ length (distinct row_cmp (rows group_row es))
group_size es n e up = e ∙ sym (length-map es (λ d. group_row d.0)) ∙ ap length (sym (groups_stay es up))

-- ---- what stands at a key row

among_under : (q : List Val) (es : List (Vec Value × List Content)) → among row_cmp q (rows group_row es) ≡ is_some (under group_row q es)
among_under q [] = refl
among_under q (e ∷ es) = by (is_row group_row q e.0) (among_under q es)
  where
    by : (b : Bool) → among row_cmp q (rows group_row es) ≡ is_some (under group_row q es) → (b || among row_cmp q (rows group_row es)) ≡ is_some (if b then Some e.1 else under group_row q es)
    by true h = refl
    by false h = h

module _ (c : Content) (os : List Content) (m : BTreeMap (Vec Value) (List Content)) (e : c ≡ made.Group os m) (row seen : List Value) (is : seen ≡ row) where
  level : out-Content c ≡ Content-F.Group os m
  level = ap out-Content e ∙ opened-Group os m

  abbrev q : List Val
  q = map val row

  held : (keys : List (List ℕ × Base)) (ps : Parts) (h : Holds (GroupByAccum keys ps)) → Shows (GroupByAccum keys ps) c h → among row_cmp q h.0 ≡ is_some (under group_row q m.entries)
  held keys ps h s = ap (λ (d : Holds (GroupByAccum keys ps)). among row_cmp q d.0) (sym s.holds) ∙ ap (λ l. among row_cmp q (distinct row_cmp (rows group_row (groups_in l)))) level
      ∙ among_distinct row_cmp row_linear q (rows group_row m.entries) ∙ among_under q m.entries

  there : (o : Option (List Content)) → o ≡ lookup (λ (k : Vec Value). is_eq (slice_cmp (on val place) seen k.items)) m.entries → under group_row q m.entries ≡ o
  there o found = sym (found ∙ ap (λ t. lookup t m.entries) (group_test seen) ∙ ap (λ r. under group_row (map val r) m.entries) is)

  pub lacks_row : (i : ℕ) → None ≡ lookup (λ (k : Vec Value). is_eq (slice_cmp (on val place) seen k.items)) m.entries → LacksPart c q i
  lacks_row i none = record { each = λ keys ps h s g. held keys ps h s ∙ ap is_some (there None none) }

  -- the parts at the row, as those of a kind
  module _ (cs : List Content) (found : Some cs ≡ lookup (λ (k : Vec Value). is_eq (slice_cmp (on val place) seen k.items)) m.entries) (keys : List (List ℕ × Base)) (ps : Parts) (h : Holds (GroupByAccum keys ps)) (s : Shows (GroupByAccum keys ps) c h) where
    are_parts : AreOf ps cs
    are_parts = (subst (IsOf (GroupByAccum keys ps)) level s.of_kind).1.1 q cs (there (Some cs) found)

    same : view_each ps cs ≡ h.1 q
    same = ap (at_or (λ p. view_each ps p) (fresh_each ps)) (sym (there (Some cs) found)) ∙ ap (λ l. at_or (λ p. view_each ps p) (fresh_each ps) (under group_row q (groups_in l))) (sym level)
        ∙ ap (λ (d : Holds (GroupByAccum keys ps)). d.1 q) s.holds

    proper_parts : AreProper ps (view_each ps cs)
    proper_parts = subst (AreProper ps) (sym same) (s.proper.2 q)

  pub has_row : (cs : List Content) → Some cs ≡ lookup (λ (k : Vec Value). is_eq (slice_cmp (on val place) seen k.items)) m.entries → (i : ℕ) (p : Content) → i < length cs → p ≡ get_or cs i p → HasPart c q i p
  has_row cs found i p l at = record {
    each = λ keys ps h s. (
      held keys ps h s ∙ ap is_some (there (Some cs) found),
      subst (λ d. ShowsPart ps i d p) (same cs found keys ps h s) (part_there ps cs i p (are_parts cs found keys ps h s) (proper_parts cs found keys ps h s) l at),
    );
  }

  pub lacks_part : (cs : List Content) → Some cs ≡ lookup (λ (k : Vec Value). is_eq (slice_cmp (on val place) seen k.items)) m.entries → (i : ℕ) → length cs < i + 1 → LacksPart c q i
  lacks_part cs found i l = record { each = λ keys ps h s g. absurd (no_part_there ps cs i (are_parts cs found keys ps h s) l g) }

  -- what a look-up at a place of the parts gives
  pub gets_part : (cs seen_parts : List Content) → Some cs ≡ lookup (λ (k : Vec Value). is_eq (slice_cmp (on val place) seen k.items)) m.entries → seen_parts ≡ cs → (i : ℕ) (r : Option (Bor Content)) → IsItemAt seen_parts i r
      → MatchOption r (LacksPart c q i) (λ p. HasPart c q i p.now)
  gets_part cs seen_parts found same_parts i None at = let l = at.3 in lacks_part cs found i (let n = ap length same_parts in omega (arith, l, n))
  gets_part cs seen_parts found same_parts i (Some p) at = let l = ltb-true _ _ (sym at.0) in let n = ap length same_parts in
      has_row cs found i p.now (omega (arith, l, n)) (at.1 ∙ ap (λ zs. get_or zs i p.now) same_parts)
