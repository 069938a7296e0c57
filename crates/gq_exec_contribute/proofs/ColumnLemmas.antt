-- ColumnLemmas: what the accumulators of a slot are, side by side.
use Rattle.std.proofs.Common.{◌≡◌, ℕ, ◌+◌, Bool, List, [], ◌∷◌, ◌++◌, length, Option, Some, None, refl, sym, ap, subst, ◌∙◌, arith, inl, inr}
use Rattle.std.specs.Prelude.{ℤ, IfSome, slice_get}
use Rattle.gq_nest.specs.declared.content.Content.{Content}
use Rattle.gq_graph.specs.declared.rows.Candidate.{Candidate}
use Rattle.gq_rules_meaning.specs.Calendars.{Calendar}
use Rattle.gq_eval_context.specs.Viewed.{Over}
use Rattle.gq_frame.specs.declared.accums.Accums.{Accums}
use Rattle.gq_exec_contribute.specs.declared.columns.Column.{Column}
use Rattle.gq_exec_contribute.specs.declared.filters.EndCell.{EndCell}
use Rattle.gq_exec_contribute.specs.declared.leaves.Leaves.{Leaves}
use Rattle.gq_exec_contribute.specs.Columns.{AreInts, AreTruths, HasInt, IsColumn, ListsInt, ListsTruth, StandsInt, StandsTruth}
use Rattle.gq_exec_contribute.specs.Filters.{IsEndCell, StandsAtEnd, end_tree, end_vertex}
use Rattle.gq_exec_contribute.specs.Prepared.{HoldsInt, HoldsTruth, IsInt, IsTruth, StandsAt, sees_in}
use Rattle.gq_exec_contribute.proofs.CellLemmas.{get_pushed, longer}
use Rattle.gq_exec_contribute.proofs.FilterLemmas.{end_int, end_truth}

-- ---- what is listed

pub int_stands : (a : Accums) (n v : ℕ) (content : Content) (r : Option ℤ) → StandsAt a n v content → IfSome r (HoldsInt content) → IfSome r (StandsInt a n v)
int_stands a n v content None at h = tt
int_stands a n v content (Some x) at h = record { content = content; stands = at; holds = h }

pub truth_stands : (a : Accums) (n v : ℕ) (content : Content) (r : Option Bool) → StandsAt a n v content → IfSome r (HoldsTruth content) → IfSome r (StandsTruth a n v)
truth_stands a n v content None at h = tt
truth_stands a n v content (Some b) at h = record { content = content; stands = at; holds = h }

pub ruleset stands_laws = (int_stands, truth_stands)

-- what a column has for the vertex of an end
pub int_listed : (m : Column) (e : EndCell) (c : Candidate) (v : ℕ) (r : Option ℤ) → end_vertex e.is_target c ≡ Some v → m.slot ≡ e.slot
    → IfSome r (HasInt m v) → IfSome r (ListsInt m e c)
int_listed m e c v None at slot there = tt
int_listed m e c v (Some x) at slot there = record { vertex = v; at = at; slot = slot; there = there }

-- the first i items of a list are what P says of their numbers
pub record ListTo {A : Type 0} (P : ℕ → A → Type 0) (i : ℕ) (xs : List A) : Type 0 where
  pub count : length xs ≡ i
  pub each : (v : ℕ) (x : A) → slice_get xs v ≡ Some x → P v x

pub list_none : {A : Type 0} (P : ℕ → A → Type 0) (xs : List A) → xs ≡ [] → ListTo P 0 xs
list_none P xs e = subst (ListTo P 0) (sym e) (record { count = refl; each = λ v x h. absurd (cc h) })

pub list_more : {A : Type 0} (P : ℕ → A → Type 0) (i : ℕ) (xs now : List A) (x : A) → P i x → now ≡ xs ++ x ∷ [] → ListTo P i xs → ListTo P (i + 1) now
list_more P i xs now x is push so = subst (ListTo P (i + 1)) (sym push) (record {
  count = longer xs x ∙ ap (λ (n : ℕ). n + 1) so.count;
  each = λ v y h. get_pushed xs x y v (λ z m. P m z) so.each (subst (λ (n : ℕ). P n x) (sym so.count) is) h;
})

pub ints_none : (a : Accums) (n : ℕ) (xs : List ℤ) → xs ≡ [] → AreInts a n xs
ints_none a n xs e = (list_none (StandsInt a n) xs e).each

pub truths_none : (a : Accums) (n : ℕ) (bs : List Bool) → bs ≡ [] → AreTruths a n bs
truths_none a n bs e = (list_none (StandsTruth a n) bs e).each

-- ---- a column

pub ints_column : (a : Accums) (m : Column) → AreInts a m.slot m.ints → m.shorts ≡ [] → m.truths ≡ [] → IsColumn a m
ints_column a m ints none nor = record { ints = ints; shorts = ints_none a m.slot m.shorts none; truths = truths_none a m.slot m.truths nor }

pub shorts_column : (a : Accums) (m : Column) (ints : List ℤ) → AreInts a m.slot ints → m.ints ≡ [] → m.shorts ≡ ints → m.truths ≡ [] → IsColumn a m
shorts_column a m ints are none same nor = record { ints = ints_none a m.slot m.ints none; shorts = subst (AreInts a m.slot) (sym same) are; truths = truths_none a m.slot m.truths nor }

pub truths_column : (a : Accums) (m : Column) → m.ints ≡ [] → m.shorts ≡ [] → AreTruths a m.slot m.truths → IsColumn a m
truths_column a m none nor truths = record { ints = ints_none a m.slot m.ints none; shorts = ints_none a m.slot m.shorts nor; truths = truths }

pub no_column : (a : Accums) (m : Column) → m.ints ≡ [] → m.shorts ≡ [] → m.truths ≡ [] → IsColumn a m
no_column a m none nor neither = ints_column a m (ints_none a m.slot m.ints none) nor neither

pub ruleset column_laws = (ints_column, shorts_column, truths_column, no_column)

pub has_int : (a : Accums) (m : Column) (v : ℕ) (x : ℤ) → IsColumn a m → HasInt m v x → StandsInt a m.slot v x
has_int a m v x column (inl there) = column.shorts v x there
has_int a m v x column (inr there) = column.ints v x there

-- ---- what an end reads as

module _ (clock : Calendar) (o : Over) (l : Leaves) (accums : Accums) (c : Candidate) (e : EndCell) (m : Column) (cell : IsEndCell l e) (column : IsColumn accums m) where
  pub column_int : (x : ℤ) → ListsInt m e c x → IsInt (sees_in clock o l accums c) (end_tree e) x
  column_int x h =
      let s = has_int accums m h.vertex x column h.there in
      let at = subst (λ (n : ℕ). StandsAt accums n h.vertex s.content) h.slot s.stands in
      end_int clock o l accums c e s.content cell (record { vertex = h.vertex; at = h.at; stands = at }) (Some x) s.holds

  pub column_truth : (b : Bool) → ListsTruth m e c b → IsTruth (sees_in clock o l accums c) (end_tree e) b
  column_truth b h =
      let s = column.truths h.vertex b h.there in
      let at = subst (λ (n : ℕ). StandsAt accums n h.vertex s.content) h.slot s.stands in
      end_truth clock o l accums c e s.content cell (record { vertex = h.vertex; at = h.at; stands = at }) (Some b) s.holds
