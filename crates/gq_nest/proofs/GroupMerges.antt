-- GroupMerges: one group merged into another, key row by key row.
use Rattle.std.proofs.Common.{if◌then◌else◌, ◌≡◌, Bool, true, false, List, [], ◌∷◌, map, Option, Some, None, refl, sym, ap, ◌∙◌, subst}
use Rattle.std.specs.Ordering.{is_eq}
use Rattle.std.specs.BTreeMap.{BTreeMap}
use Rattle.std.specs.Global.{Vec}
use Rattle.gq_value.specs.declared.value.Value.{Value}
use Rattle.gq_value.specs.Val.{Val}
use Rattle.gq_value.specs.Views.{val}
use Rattle.gq_value.specs.Accums.{Parts}
use Rattle.gq_accum_laws.specs.Gather.{into, put, distinct}
use Rattle.gq_accum_laws.specs.Holds.{row_cmp}
use Rattle.gq_accum_laws.specs.After.{fresh_each, merged_each}
use Rattle.gq_accum_laws.specs.Fits.{AreProper}
use Rattle.gq_accum_laws.proofs.Shuffles.{past}
use Rattle.gq_accum_laws.proofs.GatherLaws.{put_commutes}
use Rattle.gq_accum_laws.proofs.RowLaws.{row_linear}
use Rattle.gq_accum_laws.proofs.ProperLaws.{each_neutral}
use Rattle.gq_nest.specs.declared.content.Content.{Content, Content-F, out-Content, roll-Content, roll-out-Content}
use Rattle.gq_nest.specs.declared.content.Content.TheVariants as made
use Rattle.gq_nest.specs.Entries.{group_row, at_or, rows, under, Each}
use Rattle.gq_nest.specs.Forms.{view_each, AreOf, Merges, MergesGroup, GroupsAreReady, UnitesGroups, HaveRoom, parts_at, groups_in}
use Rattle.gq_nest.proofs.EntryLemmas.{same_row, changed}
use Rattle.gq_nest.proofs.LevelLemmas.{opened-Group}
use Rattle.gq_nest.proofs.CopySteps.{Rising, first_under, later_under, other_under}
use Rattle.gq_nest.proofs.MergeSteps.{merges_by, rows_both}
use Rattle.gq_nest.proofs.PartSteps.{copies_are, same_many, merges_are}
use Rattle.gq_nest.proofs.GroupSteps.{group_of, group_form}

-- midway: what is left of the key rows is still to be merged
pub record MidwayGroups (ps : Parts) (old all now left : List (Vec Value × List Content)) : Type 0 where
  pub kept : Each group_row (λ cs. AreOf ps cs) now
  pub waits : (q : List Val) (p : List Content) → under group_row q left ≡ Some p → (parts_at ps q now ≡ parts_at ps q old) × (under group_row q all ≡ Some p)
  pub finished : (q : List Val) → under group_row q left ≡ None → parts_at ps q now ≡ at_or (λ p. merged_each ps (parts_at ps q old) (view_each ps p)) (parts_at ps q old) (under group_row q all)

pub record UnitingGroups (openings : List Content) (old all now left : List (Vec Value × List Content)) : Type 0 where
  pub rises : Rising group_row left
  pub keys : into (put row_cmp false) (rows group_row left) (distinct row_cmp (rows group_row now)) ≡ into (put row_cmp false) (rows group_row all) (distinct row_cmp (rows group_row old))
  pub each : (ps : Parts) → GroupsAreReady ps openings old all → MidwayGroups ps old all now left

pub groups_first : (openings : List Content) (old all left : List (Vec Value × List Content)) → left ≡ all → Rising group_row all → UnitingGroups openings old all old left
groups_first openings old all left e r = subst (UnitingGroups openings old all old) (sym e) (record {
  rises = r;
  keys = refl;
  each = λ ps ready. record { kept = ready.mine; waits = λ q p h. (refl, h); finished = λ q h. ap (at_or (λ p. merged_each ps (parts_at ps q old) (view_each ps p)) (parts_at ps q old)) (sym h) };
})

-- one key row more is merged
module _ (ps : Parts) (openings : List Content) (old all now now' rest : List (Vec Value × List Content)) (key : Vec Value) (part : List Content) (j : MergesGroup openings now (group_row key) part now')
    (rises : Rising group_row ((key, part) ∷ rest)) (ready : GroupsAreReady ps openings old all) (u : MidwayGroups ps old all now ((key, part) ∷ rest)) where
  abbrev row : List Val
  row = group_row key

  here : under group_row row ((key, part) ∷ rest) ≡ Some part
  here = first_under group_row key part rest

  there : (parts_at ps row now ≡ parts_at ps row old) × (under group_row row all ≡ Some part)
  there = u.waits row part here

  also : HaveRoom ps (view_each ps part)
  also = subst (λ o. HaveRoom ps (at_or (λ cs. view_each ps cs) (fresh_each ps) o)) there.1 (ready.also row)

  joined : Each group_row (λ cs. AreOf ps cs) now' × ((q : List Val) → parts_at ps q now' ≡ (if is_eq (row_cmp q row) then merged_each ps (parts_at ps q now) (view_each ps part) else parts_at ps q now))
  joined = changed group_row (λ cs. view_each ps cs) (fresh_each ps) _ _ (λ cs. AreOf ps cs) (λ d. merged_each ps d (view_each ps part)) now now' row j u.kept
      (λ p h. let e = copies_are ps openings p h ready.first in (e.0, e.1 ∙ ready.opens))
      (λ was new s of_kind same. merges_are ps was part new (s (same_many ps part was (ready.theirs row part there.1) of_kind)) of_kind (ready.theirs row part there.1) (subst (AreProper ps) (sym (same ∙ there.0)) (ready.proper row)) (subst (HaveRoom ps) (sym (same ∙ there.0)) (ready.room row)) also)

  passes : (q : List Val) → is_eq (row_cmp q row) ≡ false → parts_at ps q now' ≡ parts_at ps q now
  passes q s = joined.1 q ∙ ap (λ b. if b then merged_each ps (parts_at ps q now) (view_each ps part) else parts_at ps q now) s

  done : (q : List Val) → under group_row q rest ≡ None → (b : Bool) → is_eq (row_cmp q row) ≡ b → parts_at ps q now' ≡ at_or (λ p. merged_each ps (parts_at ps q old) (view_each ps p)) (parts_at ps q old) (under group_row q all)
  done q none true s =
      let a : q ≡ row = same_row q row s in
      joined.1 q ∙ ap (λ b. if b then merged_each ps (parts_at ps q now) (view_each ps part) else parts_at ps q now) s
      ∙ ap (λ v. merged_each ps (parts_at ps v now) (view_each ps part)) a ∙ ap (λ d. merged_each ps d (view_each ps part)) there.0
      ∙ ap (at_or (λ p. merged_each ps (parts_at ps row old) (view_each ps p)) (parts_at ps row old)) (sym there.1)
      ∙ ap (λ v. at_or (λ p. merged_each ps (parts_at ps v old) (view_each ps p)) (parts_at ps v old) (under group_row v all)) (sym a)
  done q none false s = passes q s ∙ u.finished q (other_under group_row key part rest q none s)

  midway_group : MidwayGroups ps old all now' rest
  midway_group = record {
    kept = joined.0;
    waits = λ q p h. let l = later_under group_row key part p rest q rises.0 h in let w = u.waits q p l.1 in (passes q l.0 ∙ w.0, w.1);
    finished = λ q h. done q h (is_eq (row_cmp q row)) refl;
  }

pub groups_more : (openings : List Content) (old all now now' left rest : List (Vec Value × List Content)) (key : Vec Value) (part : List Content) (items : List Value) → left ≡ (key, part) ∷ rest → items ≡ key.items → MergesGroup openings now (map val items) part now'
    → UnitingGroups openings old all now left → UnitingGroups openings old all now' rest
groups_more openings old all now now' left rest key part items e same k before = next (subst (UnitingGroups openings old all now) e before)
  where
    j : MergesGroup openings now (group_row key) part now'
    j = subst (λ r. MergesGroup openings now r part now') (ap (map val) same) k

    next : UnitingGroups openings old all now ((key, part) ∷ rest) → UnitingGroups openings old all now' rest
    next u = record {
      rises = u.rises.1;
      keys = ap (into (put row_cmp false) (rows group_row rest)) j.puts.keys ∙ past (put row_cmp false) (put_commutes row_cmp row_linear false) (group_row key) (rows group_row rest) (distinct row_cmp (rows group_row now)) ∙ u.keys;
      each = λ ps ready. midway_group ps openings old all now now' rest key part j u.rises ready (u.each ps ready);
    }

pub groups_all : (openings : List Content) (old all now left : List (Vec Value × List Content)) → left ≡ [] → UnitingGroups openings old all now left → UnitesGroups openings old all now
groups_all openings old all now left e before = close (subst (UnitingGroups openings old all now) e before)
  where
    by : (ps : Parts) → GroupsAreReady ps openings old all → (q : List Val) (o : Option (List Content)) → at_or (λ p. merged_each ps (parts_at ps q old) (view_each ps p)) (parts_at ps q old) o ≡ merged_each ps (parts_at ps q old) (at_or (λ cs. view_each ps cs) (fresh_each ps) o)
    by ps ready q None = sym (each_neutral ps (parts_at ps q old) (ready.proper q))
    by ps ready q (Some p) = refl

    close : UnitingGroups openings old all now [] → UnitesGroups openings old all now
    close u = record {
      keys = u.keys ∙ rows_both (rows group_row all) (rows group_row old);
      each = λ ps ready. let m = u.each ps ready in (m.kept, λ q. m.finished q refl ∙ by ps ready q (under group_row q all));
    }

pub merge_group : (os : List Content) (m m' : BTreeMap (Vec Value) (List Content)) (l : Content-F Content) → UnitesGroups os m.entries (groups_in l) m'.entries → Merges (Content-F.Group os m) l (out-Content (made.Group os m'))
merge_group os m m' l u = merges_by group_of (Content-F.Group os m) l (Content-F.Group os m') (made.Group os m') (opened-Group os m') (group_form os m)
    (λ a deep other proper room also.
    let e = u.each a.1 (record { first = deep.0.0.0; opens = deep.0.0.1; mine = deep.1; theirs = other.1.1; proper = proper.2; room = λ q. (room.0, room.1, room.2 q); also = λ q. (also.0, also.1, also.2 q) }) in
    let keys = u.keys in
    (((a.0, a.1, refl), (deep.0, e.0)), λ i. (keys i, λ q. e.1 q i)))

-- a group to which no key rows come
pub groups_none : (openings : List Content) (old all : List (Vec Value × List Content)) → all ≡ [] → UnitesGroups openings old all old
groups_none openings old all e = groups_all openings old all old all e (groups_first openings old all all refl (subst (Rising group_row) (sym e) tt))

-- what isn't a group has no key rows
pub no_groups : (c : Content) → ((os : List Content) (m : BTreeMap (Vec Value) (List Content)) → c ≡ made.Group os m → ⊥) → groups_in (out-Content c) ≡ []
no_groups c isnt = by (out-Content c) refl
  where
    by : (l : Content-F Content) → out-Content c ≡ l → groups_in l ≡ []
    by (Content-F.Scalar s) e = refl
    by (Content-F.Set m) e = refl
    by (Content-F.Bag items) e = refl
    by (Content-F.List items) e = refl
    by (Content-F.Heap h) e = refl
    by (Content-F.Map o m) e = refl
    by (Content-F.Group os m) e = absurd (isnt os m (sym (roll-out-Content c) ∙ ap roll-Content e ∙ made.rolls-Group os m))
    by Content-F.Spoiled e = refl
