-- FitSteps: whether what stands at each key fits.
use Rattle.std.specs.Global.{Vec}
use Rattle.std.proofs.Common.{◌≡◌, ℕ, Bool, true, false, ◌&&◌, List, [], ◌∷◌, Option, Some, refl, sym, ap, ap₂, ◌∙◌, subst}
use Rattle.std.specs.List.{list_all}
use Rattle.std.specs.Ordering.{on}
use Rattle.std.specs.Map.{keys_of}
use Rattle.std.specs.List.Sorted.{IsStrictlySortedBy}
use Rattle.std.specs.BTreeMap.{BTreeMap}
use Rattle.gq_value.specs.declared.value.Value.{Value}
use Rattle.gq_value.specs.Val.{Val}
use Rattle.gq_value.specs.Views.{val}
use Rattle.gq_value.specs.Order.{place}
use Rattle.gq_value.specs.Accums.{Base, Accum, MapAccum, GroupByAccum, Parts}
use Rattle.gq_accum_laws.specs.Holds.{Holds}
use Rattle.gq_accum_laws.specs.After.{fresh, fresh_each}
use Rattle.gq_accum_laws.specs.Fits.{fits, fit, IsProper, AreProper}
use Rattle.gq_nest.specs.declared.content.Content.{Content, Content-F, out-Content}
use Rattle.gq_nest.specs.declared.content.Content.TheVariants as made
use Rattle.gq_nest.specs.Entries.{key_row, group_row, every, at_or, rows, under}
use Rattle.gq_nest.specs.Forms.{view, view_each, HasForm, IsOf, at_row, parts_at}
use Rattle.gq_nest.specs.Shows.{Shows, ShowEach}
use Rattle.gq_nest.specs.Tells.{Tells, EachTells}
use Rattle.gq_nest.proofs.LevelLemmas.{opened-Map, opened-Group}
use Rattle.gq_nest.proofs.CopySteps.{Rising, first_under, later_under, value_rising}
use Rattle.gq_nest.proofs.TellSteps.{rows_stay}
use Rattle.gq_nest.proofs.PartSteps.{shown_each}
use Rattle.gq_nest.proofs.GroupLemmas.{key_cmp, group_rising, groups_stay}

-- what stands at each entry of an ordered list of entries is what stands under its row
module _ {K X : Type 0} (row : K → List Val) (whole : List (K × X)) where
  abbrev Within : List (K × X) → Type 0
  Within es = (q : List Val) (p : X) → under row q es ≡ Some p → under row q whole ≡ Some p

  within_rest : (e : K × X) (es : List (K × X)) → Rising row (e ∷ es) → Within (e ∷ es) → Within es
  within_rest e es r h q p g = h q p (later_under row e.0 e.1 p es q r.0 g).1

  all_rows : (S : Option X → Bool) (es : List (K × X)) → Rising row es → Within es → list_all (λ q. S (under row q whole)) (rows row es) ≡ list_all (λ e. S (Some e.1)) es
  all_rows S [] r h = refl
  all_rows S (e ∷ es) r h = ap₂ ◌&&◌ (ap S (h (row e.0) e.1 (first_under row e.0 e.1 es))) (all_rows S es r.1 (within_rest e es r h))

  all_under : (R : X → Type 0) (es : List (K × X)) → Rising row es → Within es → ((q : List Val) (p : X) → under row q whole ≡ Some p → R p) → every (λ e. R e.1) es
  all_under R [] r h each = tt
  all_under R (e ∷ es) r h each = (each (row e.0) e.1 (h (row e.0) e.1 (first_under row e.0 e.1 es)), all_under R es r.1 (within_rest e es r h) each)

-- whether each entry fits, as contents of a kind
abbrev pub all_fit : Accum → List (Value × Content) → Bool
all_fit k es = list_all (λ e. fits k (view k (out-Content e.1))) es

abbrev pub AreShown : Accum → List (Value × Content) → Type 0
AreShown k es = every (λ e. Shows k e.1 (view k (out-Content e.1))) es

-- midway: what was passed fits
pub record Fitting (all left : List (Value × Content)) : Type 0 where
  pub each : (k : Accum) → AreShown k all → AreShown k left × (all_fit k left ≡ all_fit k all)

pub fitting_first : (all left : List (Value × Content)) → left ≡ all → Fitting all left
fitting_first all left e = subst (Fitting all) (sym e) (record { each = λ k h. (h, refl) })

pub fitting_more : (all left rest : List (Value × Content)) (key : Value) (part : Content) → left ≡ (key, part) ∷ rest → Tells part true fits → Fitting all left → Fitting all rest
fitting_more all left rest key part e t before = next (subst (Fitting all) e before)
  where
    next : Fitting all ((key, part) ∷ rest) → Fitting all rest
    next u = record { each = λ k h. let s = u.each k h in (s.0.1, ap (λ b. b && all_fit k rest) (t.each k (view k (out-Content part)) s.0.0) ∙ s.1) }

-- a whole map, where each entry fits or one doesn't
module _ (c o : Content) (m : BTreeMap Value Content) (e : c ≡ made.Map o m) (up : IsStrictlySortedBy (on val place) (keys_of m.entries)) where
  level : out-Content c ≡ Content-F.Map o m
  level = ap out-Content e ∙ opened-Map o m

  are_shown : (b : Base) (k : Accum) (h : Holds (MapAccum b k)) → Shows (MapAccum b k) c h → AreShown k m.entries
  are_shown b k h s = all_under key_row m.entries (λ p. Shows k p (view k (out-Content p))) m.entries (value_rising m.entries up) (λ q p g. g)
      (λ q p g. record { of_kind = (subst (IsOf (MapAccum b k)) level s.of_kind).1.1 q p g; holds = refl; proper = subst (IsProper k) (sym (same q) ∙ ap (at_or (λ d. view k (out-Content d)) (fresh k)) g) (s.proper.2 q) })
    where
      same : (q : List Val) → at_row k q m.entries ≡ h.1 q
      same q = ap (λ l. (view (MapAccum b k) l).1 q) (sym level) ∙ ap (λ (d : Holds (MapAccum b k)). d.1 q) s.holds

  fits_map : (b : Base) (k : Accum) (h : Holds (MapAccum b k)) → Shows (MapAccum b k) c h → fits (MapAccum b k) h ≡ all_fit k m.entries
  fits_map b k h s = ap (fits (MapAccum b k)) (sym s.holds ∙ ap (view (MapAccum b k)) level)
      ∙ ap (list_all (λ q. fits k (at_row k q m.entries))) (rows_stay m.entries up)
      ∙ all_rows key_row m.entries (λ d. fits k (at_or (λ p. view k (out-Content p)) (fresh k) d)) m.entries (value_rising m.entries up) (λ q p g. g)

  tells_fit : (b : Bool) → ((k : Accum) → AreShown k m.entries → b ≡ all_fit k m.entries) → Tells c b fits
  tells_fit b each = record { each = λ k h s. go k h s (subst (λ l. HasForm l k) level s.of_kind.0) }
    where
      go : (k : Accum) (h : Holds k) → Shows k c h → HasForm (Content-F.Map o m) k → b ≡ fits k h
      go k h s f = subst (λ (i : Accum). (d : Holds i) → Shows i c d → b ≡ fits i d) (sym f.2) (λ d t. each f.1 (are_shown f.0 f.1 d t) ∙ sym (fits_map f.0 f.1 d t)) h s

  pub all_fitting : (left : List (Value × Content)) → left ≡ [] → Fitting m.entries left → Tells c true fits
  all_fitting left n u = tells_fit true (λ k h. ap (all_fit k) (sym n) ∙ (u.each k h).1)

  pub one_unfit : (left rest : List (Value × Content)) (key : Value) (part : Content) → left ≡ (key, part) ∷ rest → Tells part false fits → Fitting m.entries left → Tells c false fits
  one_unfit left rest key part n t u = tells_fit false (λ k h. go k (subst (Fitting m.entries) n u) h)
    where
      go : (k : Accum) → Fitting m.entries ((key, part) ∷ rest) → AreShown k m.entries → false ≡ all_fit k m.entries
      go k w h = let s = w.each k h in ap (λ b. b && all_fit k rest) (t.each k (view k (out-Content part)) s.0.0) ∙ s.1

-- ---- groups

abbrev pub groups_fit : Parts → List (Vec Value × List Content) → Bool
groups_fit ps es = list_all (λ e. fit ps (view_each ps e.1)) es

abbrev pub GroupsAreShown : Parts → List (Vec Value × List Content) → Type 0
GroupsAreShown ps es = every (λ e. ShowEach ps e.1 (view_each ps e.1)) es

-- midway: what was passed fits
pub record FittingGroups (all left : List (Vec Value × List Content)) : Type 0 where
  pub each : (ps : Parts) → GroupsAreShown ps all → GroupsAreShown ps left × (groups_fit ps left ≡ groups_fit ps all)

pub groups_fitting_first : (all left : List (Vec Value × List Content)) → left ≡ all → FittingGroups all left
groups_fitting_first all left e = subst (FittingGroups all) (sym e) (record { each = λ ps h. (h, refl) })

pub groups_fitting_more : (all left rest : List (Vec Value × List Content)) (key : Vec Value) (parts seen : List Content) → left ≡ (key, parts) ∷ rest → seen ≡ parts → EachTells seen true → FittingGroups all left → FittingGroups all rest
groups_fitting_more all left rest key parts seen e same t before = next (subst (λ ds. EachTells ds true) same t) (subst (FittingGroups all) e before)
  where
    next : EachTells parts true → FittingGroups all ((key, parts) ∷ rest) → FittingGroups all rest
    next t u = record { each = λ ps h. let s = u.each ps h in (s.0.1, ap (λ b. b && groups_fit ps rest) (t.each ps (view_each ps parts) s.0.0) ∙ s.1) }

-- a whole group, where the parts at each key row fit or one doesn't
module _ (c : Content) (os : List Content) (m : BTreeMap (Vec Value) (List Content)) (e : c ≡ made.Group os m) (up : IsStrictlySortedBy key_cmp (keys_of m.entries)) where
  group_level : out-Content c ≡ Content-F.Group os m
  group_level = ap out-Content e ∙ opened-Group os m

  groups_shown : (keys : List (List ℕ × Base)) (ps : Parts) (h : Holds (GroupByAccum keys ps)) → Shows (GroupByAccum keys ps) c h → GroupsAreShown ps m.entries
  groups_shown keys ps h s = all_under group_row m.entries (λ cs. ShowEach ps cs (view_each ps cs)) m.entries (group_rising m.entries up) (λ q p g. g)
      (λ q p g. shown_each ps p ((subst (IsOf (GroupByAccum keys ps)) group_level s.of_kind).1.1 q p g) (subst (AreProper ps) (sym (same q) ∙ ap (at_or (λ d. view_each ps d) (fresh_each ps)) g) (s.proper.2 q)))
    where
      same : (q : List Val) → parts_at ps q m.entries ≡ h.1 q
      same q = ap (λ l. (view (GroupByAccum keys ps) l).1 q) (sym group_level) ∙ ap (λ (d : Holds (GroupByAccum keys ps)). d.1 q) s.holds

  fits_group : (keys : List (List ℕ × Base)) (ps : Parts) (h : Holds (GroupByAccum keys ps)) → Shows (GroupByAccum keys ps) c h → fits (GroupByAccum keys ps) h ≡ groups_fit ps m.entries
  fits_group keys ps h s = ap (fits (GroupByAccum keys ps)) (sym s.holds ∙ ap (view (GroupByAccum keys ps)) group_level)
      ∙ ap (list_all (λ q. fit ps (parts_at ps q m.entries))) (groups_stay m.entries up)
      ∙ all_rows group_row m.entries (λ d. fit ps (at_or (λ p. view_each ps p) (fresh_each ps) d)) m.entries (group_rising m.entries up) (λ q p g. g)

  groups_tell : (b : Bool) → ((ps : Parts) → GroupsAreShown ps m.entries → b ≡ groups_fit ps m.entries) → Tells c b fits
  groups_tell b each = record { each = λ k h s. go k h s (subst (λ l. HasForm l k) group_level s.of_kind.0) }
    where
      go : (k : Accum) (h : Holds k) → Shows k c h → HasForm (Content-F.Group os m) k → b ≡ fits k h
      go k h s f = subst (λ (i : Accum). (d : Holds i) → Shows i c d → b ≡ fits i d) (sym f.2) (λ d t. each f.1 (groups_shown f.0 f.1 d t) ∙ sym (fits_group f.0 f.1 d t)) h s

  pub all_groups_fit : (left : List (Vec Value × List Content)) → left ≡ [] → FittingGroups m.entries left → Tells c true fits
  all_groups_fit left n u = groups_tell true (λ ps h. ap (groups_fit ps) (sym n) ∙ (u.each ps h).1)

  pub one_group_unfit : (left rest : List (Vec Value × List Content)) (key : Vec Value) (parts seen : List Content) → left ≡ (key, parts) ∷ rest → seen ≡ parts → EachTells seen false → FittingGroups m.entries left → Tells c false fits
  one_group_unfit left rest key parts seen n same t u = groups_tell false (λ ps h. go ps (subst (λ ds. EachTells ds false) same t) (subst (FittingGroups m.entries) n u) h)
    where
      go : (ps : Parts) → EachTells parts false → FittingGroups m.entries ((key, parts) ∷ rest) → GroupsAreShown ps m.entries → false ≡ groups_fit ps m.entries
      go ps t w h = let s = w.each ps h in ap (λ b. b && groups_fit ps rest) (t.each ps (view_each ps parts) s.0.0) ∙ s.1
