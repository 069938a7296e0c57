-- PrintLaws: what PRINT prints by references is what it prints by names.
use Rattle.std.proofs.Common.{◌≡◌, ℕ, Bool, true, List, [], ◌∷◌, ◌++◌, map, Option, Some, refl, ap, ◌∙◌}
use mathlib.Core.Path.{fun_ext}
use Rattle.std.specs.Prelude.{slice_get}
use Rattle.gq_value.specs.Val.{Val, Vals, Int, Tuple, more}
use Rattle.gq_value.specs.Accums.{Base, INT, TUPLE, Accum, SumAccum, MinAccum, MaxAccum, SetAccum, BagAccum, ListAccum, MapAccum, GroupByAccum, HeapAccum, Parts, no_part, part_and}
use Rattle.gq_value.specs.Typed.{number_type}
use Rattle.gq_accum_laws.specs.Holds.{Holds, HoldsEach, entries}
use Rattle.gq_accum_laws.specs.Reads.{value_in}
use Rattle.gq_rules_typing.specs.Statements.{Bytes, Item, Printed, Whole, Selection}
use Rattle.gq_rules_typing.specs.Sorts.{Fields}
use Rattle.gq_rules_typing.specs.FieldTypes.{tuple_fields}
use Rattle.gq_rules_meaning.specs.Answers.{Gives, ◌>>=◌, found}
use Rattle.gq_rules_meaning.specs.Graphs.{sort_of_vertex}
use Rattle.gq_rules_meaning.specs.Meanings.{Meant, Is, IsAverage, IsContent, IsSet}
use Rattle.gq_rules_meaning.specs.Expressions.{World, setting, Look}
use Rattle.gq_rules_meaning.specs.States.{Slot, Thing, SetOf, Member, State}
use Rattle.gq_rules_meaning.specs.Outs.{Out, OutList, OutObject, member_and, outs, members, out_value, out_fields, first_text, out_named, out_items, out_content, out_parts}
use Rattle.gq_rules_meaning.specs.Printing.{out_vertex, of_content, out_attached, out_whole_vertex, out_meant, out_item, out_member, selection, printed}
use Rattle.gq_rules_meaning.specs.StateFits.{AllOf}
use Rattle.gq_plan_ir.specs.Alike.{Sides, old_world, new_world, WordsAlike, new_slots, AccumIs}
use Rattle.gq_plan_laws.proofs.AnswerLaws.{each_same, each_alike}
use Rattle.gq_plan_laws.proofs.SightLaws.{found_same}
use Rattle.gq_rules_typing.specs.Words.{under}
use Rattle.gq_plan_ir.specs.Renamed.{SeesAlike}
use Rattle.gq_plan_ir.proofs.RenamedLaws.{then_same, meaning-renamed}
use Rattle.gq_plan_ir.specs.Naming.{named_by}
use Rattle.gq_plan_ir.specs.RenamedStatements.{renamed_item, renamed_printed}
use Rattle.gq_plan_laws.proofs.NameLaws.{Told, LooksAlike, looks_new}
use Rattle.gq_plan_laws.proofs.SelectLaws.{new_state, old_look, new_look, seen_alike}

-- ---- values and contents are printed alike, whatever represents names

pub map_same : {A B : Type 0} (f g : A → B) → ((a : A) → g a ≡ f a) → (as' : List A) → map g as' ≡ map f as'
map_same f g h as' = ap (λ k. map k as') (fun_ext h)

module _ {M N : Type 0} (s : Sides M N) (w : WordsAlike s) where
  abbrev old : World M
  old = old_world s

  abbrev new : World N
  new = new_world s

  mutual
    pub value_out : (b : Base) (v : Val) → out_value new b v ≡ out_value old b v
    value_out b (Int x) = refl
    value_out (TUPLE n bs) (Tuple row) = ap (λ fs. OutObject (out_fields new fs row)) (w.tuples n) ∙ ap OutObject (fields_out (tuple_fields (setting old) n) row)
    value_out b v = refl

    fields_out : (fs : Fields) (row : Vals) → out_fields new fs row ≡ out_fields old fs row
    fields_out (f ∷ fs) (more v row) = ap (λ o. member_and f.0 o (out_fields new fs row)) (value_out f.1 v) ∙ ap (member_and f.0 (out_value old f.1 v)) (fields_out fs row)
    fields_out fs row = refl

  pub named_out : (fs : Fields) (vs : List Val) → out_named new fs vs ≡ out_named old fs vs
  named_out (f ∷ fs) (v ∷ vs) = ap (λ o. (f.0, o) ∷ out_named new fs vs) (value_out f.1 v) ∙ ap (λ ms. (f.0, out_value old f.1 v) ∷ ms) (named_out fs vs)
  named_out fs vs = refl

  items_out : (b : Base) (vs : List Val) → out_items new b vs ≡ out_items old b vs
  items_out b vs = ap (λ os. OutList (outs os)) (map_same (out_value old b) (out_value new b) (value_out b) vs)

  abbrev map_entry : (k : Accum) → ((k : Accum) → Holds k → Out) → List Val × Holds k → Bytes × Out
  map_entry k f e = (first_text s.graph e.0, f k e.1)

  abbrev group_entry : (ps : Parts) → (List Val → List (Bytes × Out)) → ((ps : Parts) → HoldsEach ps → List (Bytes × Out)) → List Val × HoldsEach ps → Out
  group_entry ps f g e = OutObject (members (f e.0 ++ g ps e.1))

  mutual
    pub content_out : (k : Accum) (c : Holds k) → out_content new k c ≡ out_content old k c
    content_out (SetAccum b) c = items_out b c
    content_out (BagAccum b) c = items_out b c
    content_out (ListAccum b) c = items_out b c
    content_out (HeapAccum b n by) c = items_out b c
    content_out (MapAccum b k) c = ap (λ es. OutObject (members es)) (map_same (map_entry k (out_content old)) (map_entry k (out_content new)) (λ e. ap (λ o. (first_text s.graph e.0, o)) (content_out k e.1)) (entries c))
    content_out (GroupByAccum keys ps) c =
        ap (λ os. OutList (outs os)) (map_same (group_entry ps (out_named old keys) (out_parts old)) (group_entry ps (out_named new keys) (out_parts new))
        (λ e. ap (λ ms. OutObject (members (ms ++ out_parts new ps e.1))) (named_out keys e.0) ∙ ap (λ ms. OutObject (members (out_named old keys e.0 ++ ms))) (parts_out ps e.1)) (entries c))
    content_out (SumAccum n) c = value_out (number_type n) (value_in (SumAccum n) c)
    content_out (MinAccum n) c = value_out (number_type n) (value_in (MinAccum n) c)
    content_out (MaxAccum n) c = value_out (number_type n) (value_in (MaxAccum n) c)
    content_out k c = refl

    parts_out : (ps : Parts) (cs : HoldsEach ps) → out_parts new ps cs ≡ out_parts old ps cs
    parts_out no_part cs = refl
    parts_out (part_and name k ps) cs = ap (λ o. (name, o) ∷ out_parts new ps cs.1) (content_out k cs.0) ∙ ap (λ ms. (name, out_content old k cs.0) ∷ ms) (parts_out ps cs.1)

  -- ---- vertices

  of_out : (name : Bytes) (k : Accum) (attached : Bool) (c : Option (Holds k)) → of_content new name k attached c ≡ of_content old name k attached c
  of_out name k true (Some c) = ap (λ o. (name, o) ∷ []) (content_out k c)
  of_out name k attached c = refl

  attached_out : (v : ℕ) (slots : List (Slot M)) → AllOf (AccumIs s) slots → out_attached new v (new_slots s slots) ≡ out_attached old v slots
  attached_out v [] h = refl
  attached_out v (t ∷ slots) h = simp (h.0.said, of_out (s.fixed.names.said t.name) t.kind t.attached (slice_get t.contents v), attached_out v slots h.1)

  whole_out : (slots : List (Slot M)) → AllOf (AccumIs s) slots → (v : ℕ) → out_whole_vertex new (new_slots s slots) v ≡ out_whole_vertex old slots v
  whole_out slots h v = found_same s w (sort_of_vertex s.graph v) _ _ (λ sort e. found_same s w (slice_get s.graph.vertex_values v) _ _
      (λ vs g. ap (λ ms. out_vertex new v (ms ++ out_attached new v (new_slots s slots))) (named_out sort.fields vs) ∙ ap (λ ms. out_vertex new v (out_named old sort.fields vs ++ ms)) (attached_out v slots h)))

  pub meant_out : (slots : List (Slot M)) → AllOf (AccumIs s) slots → (m : Meant) → out_meant new (new_slots s slots) m ≡ out_meant old slots m
  meant_out slots h (Is b v) = ap Gives (value_out b v)
  meant_out slots h (IsAverage v) = ap Gives (value_out INT v)
  meant_out slots h (IsContent k c) = ap Gives (content_out k c)
  meant_out slots h (IsSet vs) = ap (λ o. o >>= λ os. Gives (OutList (outs os))) (each_same (out_whole_vertex old slots) (out_whole_vertex new (new_slots s slots)) (whole_out slots h) vs)
  meant_out slots h m = refl

-- ---- what PRINT prints by references is what it prints by names

module _ {M N : Type 0} (s : Sides M N) (w : WordsAlike s) (f : M → N) where
  item_out : (slots : List (Slot M)) → AllOf (AccumIs s) slots → (old : Look M) (new : Look N) → SeesAlike (named_by s.fixed f) old new → (i : Item M)
      → out_item (new_world s) new (new_slots s slots) (renamed_item (named_by s.fixed f) i) ≡ out_item (old_world s) old slots i
  item_out slots h old new k i = ap (λ o. o >>= λ out. Gives (keyed out)) (then_same _ _ _ _ (meaning-renamed (named_by s.fixed f) old new k i.tree) (meant_out s w slots h))
    where
      keyed : Out → Bytes × Out
      keyed out = (i.key, out)

  -- the reference of a name that is there is looked for as the name is
  abbrev pub SeenTold : List (M × Thing) → Type 0
  SeenTold as' = (x : M) (thing : Thing) → under s.fixed.names.same x as' ≡ Some thing → Told s w f (f x) x

  module _ (old : State M) (bs : List (N × Thing)) (k : LooksAlike s w f old.names bs) (h : AllOf (AccumIs s) old.slots) (t : SeenTold old.names) where
    member_out : (x : M) → Told s w f (f x) x → (types vs : List ℕ) (items : List (Item M)) (v : ℕ)
        → out_member (new_world s) (new_state s w f bs old) (f x) types (map (renamed_item (named_by s.fixed f)) items) vs v ≡ out_member (old_world s) old x types items vs v
    member_out x e types vs items v =
        ap (λ o. o >>= out_vertex (old_world s) v)
        (each_alike (renamed_item (named_by s.fixed f)) _ _ (item_out old.slots h (old_look s w f ((x, Member types vs v) ∷ old.names) ((f x, Member types vs v) ∷ bs) looks old.slots old.slots) (new_look s w f ((x, Member types vs v) ∷ old.names) ((f x, Member types vs v) ∷ bs) looks old.slots old.slots)
        (seen_alike s w f ((x, Member types vs v) ∷ old.names) ((f x, Member types vs v) ∷ bs) looks old.slots old.slots h h)) items)
      where
        looks : LooksAlike s w f ((x, Member types vs v) ∷ old.names) ((f x, Member types vs v) ∷ bs)
        looks = looks_new s w f old.names bs x (f x) (Member types vs v) e k

    selection_out : (x : M) → Told s w f (f x) x → (items : List (Item M)) (thing : Thing)
        → selection (new_world s) (new_state s w f bs old) (f x) (map (renamed_item (named_by s.fixed f)) items) thing ≡ selection (old_world s) old x items thing
    selection_out x e items (SetOf types vs) = ap (λ o. o >>= λ os. Gives (OutList (outs os))) (each_same _ _ (member_out x e types vs items) vs)
    selection_out x e items thing = refl

    pub printed_alike : (p : Printed M) → printed (new_world s) (new_state s w f bs old) (renamed_printed (named_by s.fixed f) p) ≡ printed (old_world s) old p
    printed_alike (Whole i) = item_out old.slots h (old_look s w f old.names bs k old.slots old.slots) (new_look s w f old.names bs k old.slots old.slots) (seen_alike s w f old.names bs k old.slots old.slots h h) i
    printed_alike (Selection x items key) =
        ap (λ o. o >>= λ out. Gives (keyed out))
        (ap (λ o. found o >>= selection (new_world s) (new_state s w f bs old) (f x) (map (renamed_item (named_by s.fixed f)) items)) (k x)
        ∙ found_same s w (under s.fixed.names.same x old.names) _ _ (λ thing e. selection_out x (t x thing e) items thing))
      where
        keyed : Out → Bytes × Out
        keyed out = (key, out)
