-- ContentLemmas: the printed form of contents.
use Rattle.std.specs.Global.{Vec}
use Rattle.std.proofs.Common.{◌≡◌, ℕ, zero, suc, ◌+◌, ◌<◌, ◌≤◌, ℤ, Bool, true, false, ◌&&◌, List, [], ◌∷◌, ◌++◌, drop, map, length, get_or, Option, Some, Result, Ok, Err, IfOk, refl, sym, ap, ap₂, subst, ◌∙◌, arith}
use Rattle.std.specs.List.{slice_get, list_all}
use Rattle.std.specs.Ordering.{on}
use Rattle.std.specs.Map.{keys_of}
use Rattle.std.specs.List.Sorted.{IsStrictlySortedBy}
use Rattle.std.specs.BTreeMap.{BTreeMap}
use Rattle.std.specs.BTreeSet.{BTreeSet}
use Rattle.std.proofs.lemmas.List.{append_assoc, append-nil, drop_all}
use Rattle.gq_value.specs.declared.kind.BaseType.{BaseType}
use Rattle.gq_value.specs.declared.kind.GroupShape.{GroupShape}
use Rattle.gq_value.specs.declared.kind.Kind.{Kind}
use Rattle.gq_value.specs.declared.kind.Number.TheVariants as number
use Rattle.gq_value.specs.declared.value.Value.{Value}
use Rattle.gq_value.specs.Val.{Val}
use Rattle.gq_value.specs.Views.{val}
use Rattle.gq_value.specs.Order.{place}
use Rattle.gq_value.specs.AccumViews.{accum_of}
use Rattle.gq_value.specs.Accums.{Base, INT, Accum, SumAccum, MinAccum, MaxAccum, OrAccum, AndAccum, BitwiseOrAccum, BitwiseAndAccum, AvgAccum, SetAccum, BagAccum, ListAccum, MapAccum, GroupByAccum, HeapAccum, Parts, part_and}
use Rattle.gq_value.specs.Typed.{is_scalar}
use Rattle.gq_accum_laws.specs.Gather.{distinct}
use Rattle.gq_accum_laws.specs.Holds.{Holds, HoldsEach, entries, row_cmp}
use Rattle.gq_accum_laws.specs.After.{fresh, fresh_each}
use Rattle.gq_accum_laws.specs.Fits.{fits, fit, IsProper, AreProper}
use Rattle.gq_accum_laws.specs.Reads.{value_in}
use Rattle.gq_accum_laws.proofs.RowLaws.{place_linear}
use Rattle.gq_nest.specs.declared.content.Content.{Content, Content-F, out-Content}
use Rattle.gq_nest.specs.declared.content.Content.TheVariants as made
use Rattle.gq_nest.specs.Entries.{key_row, group_row, every, at_or, rows, under}
use Rattle.gq_nest.specs.Forms.{view, view_each, IsOf}
use Rattle.gq_nest.specs.Tells.{Tells, IsFitting, elements_of}
use Rattle.gq_nest.proofs.EntryLemmas.{some_inj}
use Rattle.gq_nest.proofs.LevelLemmas.{opened-Map, opened-Group}
use Rattle.gq_nest.proofs.CopySteps.{Rising, first_under, later_under, value_rising}
use Rattle.gq_nest.proofs.SortSteps.{ascending_stays}
use Rattle.gq_nest.proofs.TellSteps.{rows_stay}
use Rattle.gq_nest.proofs.PartSteps.{shown_each}
use Rattle.gq_nest.proofs.GroupLemmas.{key_cmp, group_rising, groups_stay}
use Rattle.gq_json.specs.declared.out.Out as json
use Rattle.gq_json.specs.declared.out.Out.TheVariants as out
use Rattle.gq_rules_typing.specs.Statements.{Bytes}
use Rattle.gq_rules_typing.specs.Sorts.{Fields}
use Rattle.gq_rules_meaning.specs.Built.{built, built_list, built_members, built_print}
use Rattle.gq_rules_meaning.specs.Expressions.{World}
use Rattle.gq_rules_meaning.specs.Outs.{Out, OutList, OutObject, outs, members, key_text, first_text, out_content, out_value, out_named, out_parts}
use Rattle.gq_plan_ir.specs.Reference.{Reference}
use Rattle.gq_eval_operand.specs.Meant.{keys_are, parts_are}
use Rattle.gq_eval_operand.specs.Sound.{IsSound}
use Rattle.gq_output.specs.Printed.{AreShown, IsGroup, IsMap, IsShown, content_shown, elements_out, elements_shown, key_fields, groups_shown, map_shown, named_shown, part_kinds, parts_shown, plain_shown, scalar_shown, value_shown}
use Rattle.gq_output.proofs.NamedLemmas.{at_get, drop_at}

-- ---- lists and objects

pub listed : (os : List Out) → built_list (outs os) ≡ map built os
listed [] = refl
listed (o ∷ os) = ap (λ ps. built o ∷ ps) (listed os)

pub membered : (ms : List (Bytes × Out)) → built_members (members ms) ≡ built_print ms
membered [] = refl
membered (m ∷ ms) = ap (λ ps. (m.0, built m.1) ∷ ps) (membered ms)

pub map_map : {A B C : Type 0} (f : B → C) (g : A → B) (xs : List A) → map f (map g xs) ≡ map (λ x. f (g x)) xs
map_map f g [] = refl
map_map f g (x ∷ xs) = ap (λ ys. f (g x) ∷ ys) (map_map f g xs)

pub print_joined : (ms ns : List (Bytes × Out)) → built_print (ms ++ ns) ≡ built_print ms ++ built_print ns
print_joined [] ns = refl
print_joined (m ∷ ms) ns = ap (λ ps. (m.0, built m.1) ∷ ps) (print_joined ms ns)

pub sound_shown : (k : Accum) (c : Content) → IsSound k c → IsShown k c
sound_shown k c s = record { shows = s.shows; within = s.fit }

-- ---- numbers, truth values and averages

average_shown : (world : World Reference) (s : ℤ) (n : ℕ) → built (out_content world AvgAccum (s, n)) ≡ plain_shown (value_in AvgAccum (s, n))
average_shown world s zero = refl
average_shown world s (suc n) = refl

scalar_is : (world : World Reference) (k : Accum) (h : Holds k) → is_scalar k ≡ true → built (out_content world k h) ≡ plain_shown (value_in k h)
scalar_is world (SumAccum number.Int) h e = refl
scalar_is world (SumAccum number.UInt) h e = refl
scalar_is world (MinAccum number.Int) h e = refl
scalar_is world (MinAccum number.UInt) h e = refl
scalar_is world (MaxAccum number.Int) h e = refl
scalar_is world (MaxAccum number.UInt) h e = refl
scalar_is world OrAccum h e = refl
scalar_is world AndAccum h e = refl
scalar_is world BitwiseOrAccum h e = refl
scalar_is world BitwiseAndAccum h e = refl
scalar_is world AvgAccum h e = average_shown world h.0 h.1
scalar_is world (SetAccum b) h e = absurd (cc e)
scalar_is world (BagAccum b) h e = absurd (cc e)
scalar_is world (ListAccum b) h e = absurd (cc e)
scalar_is world (MapAccum b k) h e = absurd (cc e)
scalar_is world (GroupByAccum keys ps) h e = absurd (cc e)
scalar_is world (HeapAccum b n by) h e = absurd (cc e)

pub scalar_there : (world : World Reference) (k : Accum) (c : Content) (o : json.Out) → is_scalar k ≡ true → o ≡ scalar_shown k c → o ≡ content_shown world k c
scalar_there world k c o s e = e ∙ sym (scalar_is world k (view k (out-Content c)) s)

pub is_fitting : (k : Accum) (c : Content) → IsShown k c → is_scalar k ≡ true → IsFitting c
is_fitting k c shown s = record { kind = k; holds = view k (out-Content c); shows = shown.shows; scalar = s; fitting = shown.within }

pub plain_told : (k : Accum) (c : Content) (v : Val) (o : json.Out) → IsShown k c → Tells c v value_in → o ≡ plain_shown v → o ≡ scalar_shown k c
plain_told k c v o shown t e = e ∙ ap plain_shown (t.each k (view k (out-Content c)) shown.shows)

pub ruleset scalar_laws = (is_fitting, plain_told)

-- ---- elements

module _ (world : World Reference) (b : Base) where
  pub row_told : (xs : List Value) (o : List json.Out) → o ≡ map (λ v. value_shown world b (val v)) xs → o ≡ map (value_shown world b) (map val xs)
  row_told xs o e = e ∙ sym (map_map (value_shown world b) val xs)

  pub elements_told : (c : Content) (xs : List Value) (o : List json.Out) → Tells c (map val xs) elements_of → o ≡ map (λ v. value_shown world b (val v)) xs → Tells c o (elements_shown world b)
  elements_told c xs o t e = record { each = λ k h s. row_told xs o e ∙ ap (map (value_shown world b)) (t.each k h s) }

  list_is : (vs : List Val) → out.List (map (value_shown world b) vs) ≡ built (OutList (outs (map (out_value world b) vs)))
  list_is vs = ap out.List (sym (listed (map (out_value world b) vs) ∙ map_map built (out_value world b) vs))

  pub set_told : {E : Type 0} (j : Accum) (c : Content) (r : Result json.Out E) → j ≡ SetAccum b → IsShown j c → IfOk r (λ o. Tells c o (elements_out world b)) → IfOk r (λ o. o ≡ content_shown world j c)
  set_told j c (Ok o) e s t = t.each j (view j (out-Content c)) s.shows ∙ subst (λ (k : Accum). elements_out world b k (view k (out-Content c)) ≡ content_shown world k c) (sym e) (list_is (view (SetAccum b) (out-Content c)))
  set_told j c (Err m) e s t = tt

  pub bag_told : {E : Type 0} (j : Accum) (c : Content) (r : Result json.Out E) → j ≡ BagAccum b → IsShown j c → IfOk r (λ o. Tells c o (elements_out world b)) → IfOk r (λ o. o ≡ content_shown world j c)
  bag_told j c (Ok o) e s t = t.each j (view j (out-Content c)) s.shows ∙ subst (λ (k : Accum). elements_out world b k (view k (out-Content c)) ≡ content_shown world k c) (sym e) (list_is (view (BagAccum b) (out-Content c)))
  bag_told j c (Err m) e s t = tt

  pub list_told : {E : Type 0} (j : Accum) (c : Content) (r : Result json.Out E) → j ≡ ListAccum b → IsShown j c → IfOk r (λ o. Tells c o (elements_out world b)) → IfOk r (λ o. o ≡ content_shown world j c)
  list_told j c (Ok o) e s t = t.each j (view j (out-Content c)) s.shows ∙ subst (λ (k : Accum). elements_out world b k (view k (out-Content c)) ≡ content_shown world k c) (sym e) (list_is (view (ListAccum b) (out-Content c)))
  list_told j c (Err m) e s t = tt

  pub heap_told : {E : Type 0} (j : Accum) (c : Content) (n : ℕ) (by : List (ℕ × Bool)) (r : Result json.Out E) → j ≡ HeapAccum b n by → IsShown j c → IfOk r (λ o. Tells c o (elements_out world b)) → IfOk r (λ o. o ≡ content_shown world j c)
  heap_told j c n by (Ok o) e s t = t.each j (view j (out-Content c)) s.shows ∙ subst (λ (k : Accum). elements_out world b k (view k (out-Content c)) ≡ content_shown world k c) (sym e) (list_is (view (HeapAccum b n by) (out-Content c)))
  heap_told j c n by (Err m) e s t = tt

  pub list_made : (c : Content) (os : List json.Out) → Tells c os (elements_shown world b) → Tells c (out.List os) (elements_out world b)
  list_made c os t = record { each = λ k h s. ap out.List (t.each k h s) }

  -- the keys after the iteration over all of them
  pub keys_all : (m : BTreeSet Value) (done : List json.Out) (left : List Value) → left ≡ [] → done ++ map (λ v. value_shown world b (val v)) left ≡ map (λ v. value_shown world b (val v)) m.keys → IsStrictlySortedBy (on val place) m.keys
      → done ≡ map (value_shown world b) (distinct place (map val m.keys))
  keys_all m done left e inv up = row_told m.keys done (sym (append-nil done) ∙ ap (λ ys. done ++ map (λ v. value_shown world b (val v)) ys) (sym e) ∙ inv) ∙ ap (map (value_shown world b)) (sym (ascending_stays place place_linear val m.keys up))

-- ---- maps and groups, by the content at each key row

pub map_there : (world : World Reference) (b : Base) (k : Accum) (c : Content) (ms : List (Bytes × json.Out)) → ms ≡ map_shown world k c → out.Object ms ≡ content_shown world (MapAccum b k) c
map_there world b k c ms e = ap out.Object (e ∙ sym (membered (map (λ e. (first_text world.graph e.0, out_content world k e.1)) (entries (view (MapAccum b k) (out-Content c))))))

pub group_there : (world : World Reference) (keys : Fields) (ps : Parts) (c : Content) (os : List json.Out) → os ≡ groups_shown world keys ps c → out.List os ≡ content_shown world (GroupByAccum keys ps) c
group_there world keys ps c os e = ap out.List (e ∙ sym (listed (map object es) ∙ map_map built object es ∙ each es))
  where
    es : List (List Val × HoldsEach ps)
    es = entries (view (GroupByAccum keys ps) (out-Content c))

    object : List Val × HoldsEach ps → Out
    object e = OutObject (members (out_named world keys e.0 ++ out_parts world ps e.1))

    each : (es : List (List Val × HoldsEach ps)) → map (λ e. built (object e)) es ≡ map (λ e. out.Object (built_print (out_named world keys e.0) ++ built_print (out_parts world ps e.1))) es
    each [] = refl
    each (e ∷ es) = ap₂ (λ o os. o ∷ os) (ap out.Object (membered (out_named world keys e.0 ++ out_parts world ps e.1) ∙ print_joined (out_named world keys e.0) (out_parts world ps e.1))) (each es)

pub map_told : (world : World Reference) (j : Accum) (b : Base) (k : Accum) (c : Content) (ms : List (Bytes × json.Out)) → j ≡ MapAccum b k → ms ≡ map_shown world k c → out.Object ms ≡ content_shown world j c
map_told world j b k c ms e h = map_there world b k c ms h ∙ ap (λ i. content_shown world i c) (sym e)

pub map_asked : (j : Accum) (b : Base) (k : Accum) (c : Content) → j ≡ MapAccum b k → IsShown j c → IsMap k c
map_asked j b k c e s = (b, subst (λ i. IsShown i c) e s)

pub group_told : (world : World Reference) (j : Accum) (keys : Fields) (ps : Parts) (c : Content) (os : List json.Out) → j ≡ GroupByAccum keys ps → os ≡ groups_shown world keys ps c → out.List os ≡ content_shown world j c
group_told world j keys ps c os e h = group_there world keys ps c os h ∙ ap (λ i. content_shown world i c) (sym e)

pub group_asked : (j : Accum) (keys : Fields) (ps : Parts) (c : Content) → j ≡ GroupByAccum keys ps → IsShown j c → IsGroup keys ps c
group_asked j keys ps c e s = subst (λ i. IsShown i c) e s

-- a key row with its parts
pub group_put : (world : World Reference) (shape : GroupShape) (row : List Value) (parts : List Content) (none one two : List (Bytes × json.Out)) (ks : List (Bytes × BaseType)) (qs : List (Bytes × Kind)) → none ≡ [] → ks ≡ shape.keys → qs ≡ shape.parts
    → one ≡ none ++ named_shown world (key_fields ks) (map val row) → two ≡ one ++ parts_shown world (part_kinds qs) parts
    → out.Object two ≡ out.Object (named_shown world (keys_are shape) (map val row) ++ parts_shown world (parts_are shape) parts)
group_put world shape row parts none one two ks qs n e f h g =
    ap out.Object (g ∙ ap₂ (λ ms (ps : List (Bytes × Kind)). ms ++ parts_shown world (part_kinds ps) parts) (h ∙ ap₂ (λ ms (ls : List (Bytes × BaseType)). ms ++ named_shown world (key_fields ls) (map val row)) n e) f)

both : (a b : Bool) → (a && b) ≡ true → (a ≡ true) × (b ≡ true)
both true true e = (refl, refl)
both true false e = absurd (cc e)
both false b e = absurd (cc e)

module _ {K X : Type 0} (row : K → List Val) (whole : List (K × X)) where
  abbrev Within : List (K × X) → Type 0
  Within es = (q : List Val) (p : X) → under row q es ≡ Some p → under row q whole ≡ Some p

  within_rest : (e : K × X) (es : List (K × X)) → Rising row (e ∷ es) → Within (e ∷ es) → Within es
  within_rest e es r h q p g = h q p (later_under row e.0 e.1 p es q r.0 g).1

  rows_read : {B : Type 0} (F : List Val → Option X → B) (es : List (K × X)) → Rising row es → Within es → map (λ q. F q (under row q whole)) (rows row es) ≡ map (λ e. F (row e.0) (Some e.1)) es
  rows_read F [] r h = refl
  rows_read F (e ∷ es) r h = ap₂ (λ b bs. b ∷ bs) (ap (F (row e.0)) (h (row e.0) e.1 (first_under row e.0 e.1 es))) (rows_read F es r.1 (within_rest e es r h))

  all_under : (T : List Val → Bool) (R : X → Type 0) (es : List (K × X)) → Rising row es → Within es → list_all T (rows row es) ≡ true → ((q : List Val) (p : X) → under row q whole ≡ Some p → T q ≡ true → R p) → every (λ e. R e.1) es
  all_under T R [] r h t each = tt
  all_under T R (e ∷ es) r h t each =
      let b = both (T (row e.0)) (list_all T (rows row es)) t in
      (each (row e.0) e.1 (h (row e.0) e.1 (first_under row e.0 e.1 es)) b.0, all_under T R es r.1 (within_rest e es r h) b.1 each)

-- ---- maps, entry after entry

abbrev pub entry_shown : World Reference → Accum → Value × Content → Bytes × json.Out
entry_shown world k e = (key_text world.graph (val e.0), content_shown world k e.1)

-- the invariant: the members so far, followed by the entries that are left; these are contents of the kind
pub record Entries (world : World Reference) (k : Accum) (c : Content) (done : List (Bytes × json.Out)) (left : List (Value × Content)) : Type 0 where
  pub shown : every (λ e. IsShown k e.1) left
  pub goes : done ++ map (entry_shown world k) left ≡ map_shown world k c

module _ (world : World Reference) (k : Accum) (c : Content) where
  pub entries_first : (o : Content) (m : BTreeMap Value Content) (done : List (Bytes × json.Out)) (left : List (Value × Content)) → c ≡ made.Map o m → IsStrictlySortedBy (on val place) (keys_of m.entries)
      → IsMap k c → done ≡ [] → left ≡ m.entries → Entries world k c done left
  entries_first o m done left e up is none first = subst (λ ds. Entries world k c ds left) (sym none) (subst (Entries world k c []) (sym first) (record { shown = shown; goes = sym goes }))
    where
      level : out-Content c ≡ Content-F.Map o m
      level = ap out-Content e ∙ opened-Map o m

      same : (q : List Val) → at_or (λ d. view k (out-Content d)) (fresh k) (under key_row q m.entries) ≡ (view (MapAccum is.0 k) (out-Content c)).1 q
      same q = ap (λ l. (view (MapAccum is.0 k) l).1 q) (sym level)

      there : (q : List Val) (p : Content) → under key_row q m.entries ≡ Some p → (view (MapAccum is.0 k) (out-Content c)).1 q ≡ view k (out-Content p)
      there q p g = sym (same q) ∙ ap (at_or (λ d. view k (out-Content d)) (fresh k)) g

      fits_at : List Val → Bool
      fits_at q = fits k ((view (MapAccum is.0 k) (out-Content c)).1 q)

      all_fit : list_all fits_at (rows key_row m.entries) ≡ true
      all_fit = ap (list_all fits_at) (sym (ap (λ l. (view (MapAccum is.0 k) l).0) level ∙ rows_stay m.entries up)) ∙ is.1.within

      shown : every (λ e. IsShown k e.1) m.entries
      shown = all_under key_row m.entries fits_at (IsShown k) m.entries (value_rising m.entries up) (λ q p g. g) all_fit
          (λ q p g t. record {
            shows = record { of_kind = (subst (IsOf (MapAccum is.0 k)) level is.1.shows.of_kind).1.1 q p g; holds = refl; proper = subst (IsProper k) (there q p g) (is.1.shows.proper.2 q) };
            within = ap (fits k) (sym (there q p g)) ∙ t;
          })

      printed : List Val → Holds k → Bytes × json.Out
      printed q h = (first_text world.graph q, built (out_content world k h))

      goes : map_shown world k c ≡ map (entry_shown world k) m.entries
      goes =
          ap (λ l. built_print (map (λ e. (first_text world.graph e.0, out_content world k e.1)) (entries (view (MapAccum INT k) l)))) level
          ∙ map_map (λ m. (m.0, built m.1)) (λ e. (first_text world.graph e.0, out_content world k e.1)) (entries (view (MapAccum INT k) (Content-F.Map o m)))
          ∙ map_map (λ e. printed e.0 e.1) (λ q. (q, at_or (λ d. view k (out-Content d)) (fresh k) (under key_row q m.entries))) (distinct row_cmp (rows key_row m.entries))
          ∙ ap (map (λ q. printed q (at_or (λ d. view k (out-Content d)) (fresh k) (under key_row q m.entries)))) (rows_stay m.entries up)
          ∙ rows_read key_row m.entries (λ q o. printed q (at_or (λ d. view k (out-Content d)) (fresh k) o)) m.entries (value_rising m.entries up) (λ q p g. g)

  pub entry_there : (done : List (Bytes × json.Out)) (left rest : List (Value × Content)) (key : Value) (part : Content) → left ≡ (key, part) ∷ rest → Entries world k c done left → IsShown k part
  entry_there done left rest key part e u = (subst (Entries world k c done) e u).shown.0

  pub entries_more : (done new : List (Bytes × json.Out)) (left rest : List (Value × Content)) (key : Value) (part : Content) (text : Bytes) (o : json.Out) → left ≡ (key, part) ∷ rest
      → text ≡ key_text world.graph (val key) → o ≡ content_shown world k part → new ≡ done ++ (text, o) ∷ [] → Entries world k c done left → Entries world k c new rest
  entries_more done new left rest key part text o e t p is u = next (subst (Entries world k c done) e u)
    where
      next : Entries world k c done ((key, part) ∷ rest) → Entries world k c new rest
      next w = record {
        shown = w.shown.1;
        goes = ap (λ ms. ms ++ map (entry_shown world k) rest) (is ∙ ap₂ (λ a b. done ++ (a, b) ∷ []) t p) ∙ append_assoc done (entry_shown world k (key, part) ∷ []) (map (entry_shown world k) rest) ∙ w.goes;
      }

  pub entries_all : (done : List (Bytes × json.Out)) (left : List (Value × Content)) → left ≡ [] → Entries world k c done left → done ≡ map_shown world k c
  entries_all done left e u = sym (append-nil done) ∙ (subst (Entries world k c done) e u).goes

-- ---- groups, key row after key row

abbrev pub group_shown : World Reference → Fields → Parts → Vec Value × List Content → json.Out
group_shown world keys ps e = out.Object (named_shown world keys (group_row e.0) ++ parts_shown world ps e.1)

-- the invariant: the objects so far, followed by the key rows that are left; their parts are contents of the group's
pub record Groups (world : World Reference) (keys : Fields) (ps : Parts) (c : Content) (done : List json.Out) (left : List (Vec Value × List Content)) : Type 0 where
  pub shown : every (λ e. AreShown ps e.1) left
  pub goes : done ++ map (group_shown world keys ps) left ≡ groups_shown world keys ps c

module _ (world : World Reference) (keys : Fields) (ps : Parts) (c : Content) where
  pub groups_first : (os : List Content) (m : BTreeMap (Vec Value) (List Content)) (done : List json.Out) (left : List (Vec Value × List Content)) → c ≡ made.Group os m → IsStrictlySortedBy key_cmp (keys_of m.entries)
      → IsGroup keys ps c → done ≡ [] → left ≡ m.entries → Groups world keys ps c done left
  groups_first os m done left e up is none first = subst (λ ds. Groups world keys ps c ds left) (sym none) (subst (Groups world keys ps c []) (sym first) (record { shown = shown; goes = sym goes }))
    where
      level : out-Content c ≡ Content-F.Group os m
      level = ap out-Content e ∙ opened-Group os m

      same : (q : List Val) → at_or (λ d. view_each ps d) (fresh_each ps) (under group_row q m.entries) ≡ (view (GroupByAccum keys ps) (out-Content c)).1 q
      same q = ap (λ l. (view (GroupByAccum keys ps) l).1 q) (sym level)

      there : (q : List Val) (p : List Content) → under group_row q m.entries ≡ Some p → (view (GroupByAccum keys ps) (out-Content c)).1 q ≡ view_each ps p
      there q p g = sym (same q) ∙ ap (at_or (λ d. view_each ps d) (fresh_each ps)) g

      fit_at : List Val → Bool
      fit_at q = fit ps ((view (GroupByAccum keys ps) (out-Content c)).1 q)

      all_fit : list_all fit_at (rows group_row m.entries) ≡ true
      all_fit = ap (list_all fit_at) (sym (ap (λ l. (view (GroupByAccum keys ps) l).0) level ∙ groups_stay m.entries up)) ∙ is.within

      shown : every (λ e. AreShown ps e.1) m.entries
      shown = all_under group_row m.entries fit_at (AreShown ps) m.entries (group_rising m.entries up) (λ q p g. g) all_fit
          (λ q p g t. record {
            shows = shown_each ps p ((subst (IsOf (GroupByAccum keys ps)) level is.shows.of_kind).1.1 q p g) (subst (AreProper ps) (there q p g) (is.shows.proper.2 q));
            within = ap (fit ps) (sym (there q p g)) ∙ t;
          })

      printed : List Val → HoldsEach ps → json.Out
      printed q h = out.Object (built_print (out_named world keys q) ++ built_print (out_parts world ps h))

      goes : groups_shown world keys ps c ≡ map (group_shown world keys ps) m.entries
      goes =
          ap (λ l. map (λ e. printed e.0 e.1) (entries (view (GroupByAccum keys ps) l))) level
          ∙ map_map (λ e. printed e.0 e.1) (λ q. (q, at_or (λ d. view_each ps d) (fresh_each ps) (under group_row q m.entries))) (distinct row_cmp (rows group_row m.entries))
          ∙ ap (map (λ q. printed q (at_or (λ d. view_each ps d) (fresh_each ps) (under group_row q m.entries)))) (groups_stay m.entries up)
          ∙ rows_read group_row m.entries (λ q o. printed q (at_or (λ d. view_each ps d) (fresh_each ps) o)) m.entries (group_rising m.entries up) (λ q p g. g)

  pub group_parts : (done : List json.Out) (left rest : List (Vec Value × List Content)) (key : Vec Value) (parts seen : List Content) → left ≡ (key, parts) ∷ rest → seen ≡ parts → Groups world keys ps c done left → AreShown ps seen
  group_parts done left rest key parts seen e same u = subst (AreShown ps) (sym same) (subst (Groups world keys ps c done) e u).shown.0

  pub groups_more : (done new : List json.Out) (left rest : List (Vec Value × List Content)) (key : Vec Value) (parts seen : List Content) (row : List Value) (o : json.Out) → left ≡ (key, parts) ∷ rest → seen ≡ parts → row ≡ key.items
      → o ≡ out.Object (named_shown world keys (map val row) ++ parts_shown world ps seen) → new ≡ done ++ o ∷ [] → Groups world keys ps c done left → Groups world keys ps c new rest
  groups_more done new left rest key parts seen row o e same of p is u = next (subst (Groups world keys ps c done) e u)
    where
      next : Groups world keys ps c done ((key, parts) ∷ rest) → Groups world keys ps c new rest
      next w = record {
        shown = w.shown.1;
        goes =
            ap (λ ms. ms ++ map (group_shown world keys ps) rest) (is ∙ ap (λ q. done ++ q ∷ []) (p ∙ ap₂ (λ (r : List Value) (s : List Content). out.Object (named_shown world keys (map val r) ++ parts_shown world ps s)) of same))
            ∙ append_assoc done (group_shown world keys ps (key, parts) ∷ []) (map (group_shown world keys ps) rest) ∙ w.goes;
      }

  pub groups_all : (done : List json.Out) (left : List (Vec Value × List Content)) → left ≡ [] → Groups world keys ps c done left → done ≡ groups_shown world keys ps c
  groups_all done left e u = sym (append-nil done) ∙ (subst (Groups world keys ps c done) e u).goes

-- ---- parts, one after the other

-- the first of some parts, and the others
first_shown : (name : Bytes) (k : Accum) (ps : Parts) (c : Content) (cs : List Content) → AreShown (part_and name k ps) (c ∷ cs) → IsShown k c
first_shown name k ps c cs s = record { shows = s.shows.0; within = (both (fits k (view k (out-Content c))) (fit ps (view_each ps cs)) s.within).0 }

rest_shown : (name : Bytes) (k : Accum) (ps : Parts) (c : Content) (cs : List Content) → AreShown (part_and name k ps) (c ∷ cs) → AreShown ps cs
rest_shown name k ps c cs s = record { shows = s.shows.1; within = (both (fits k (view k (out-Content c))) (fit ps (view_each ps cs)) s.within).1 }

-- the invariant: the members so far, followed by the parts from a place on, which are contents of their kinds
pub record PartsFrom (world : World Reference) (kinds : List (Bytes × Kind)) (cs : List Content) (whole done : List (Bytes × json.Out)) (i : ℕ) : Type 0 where
  pub shown : AreShown (part_kinds (drop i kinds)) (drop i cs)
  pub goes : done ++ parts_shown world (part_kinds (drop i kinds)) (drop i cs) ≡ whole

module _ (world : World Reference) (kinds : List (Bytes × Kind)) (cs : List Content) where
  pub parts_first : (old : List (Bytes × json.Out)) → AreShown (part_kinds kinds) cs → PartsFrom world kinds cs (old ++ parts_shown world (part_kinds kinds) cs) old 0
  parts_first old s = record { shown = s; goes = refl }

  abbrev Goes : List (Bytes × json.Out) → List (Bytes × json.Out) → List (Bytes × Kind) → List Content → Type 0
  Goes whole done ks ds = AreShown (part_kinds ks) ds × (done ++ parts_shown world (part_kinds ks) ds ≡ whole)

  here : (whole done : List (Bytes × json.Out)) (i : ℕ) (part : Content) (kind : Bytes × Kind) → PartsFrom world kinds cs whole done i → slice_get kinds i ≡ Some kind → slice_get cs i ≡ Some part
      → Goes whole done (kind ∷ drop (i + 1) kinds) (part ∷ drop (i + 1) cs)
  here whole done i part kind u e f = subst (λ ds. Goes whole done (kind ∷ drop (i + 1) kinds) ds) (drop_at cs i part f) (subst (λ ks. Goes whole done ks (drop i cs)) (drop_at kinds i kind e) (u.shown, u.goes))

  pub part_there : (whole done : List (Bytes × json.Out)) (i : ℕ) (part : Content) (kind : Bytes × Kind) → PartsFrom world kinds cs whole done i → slice_get kinds i ≡ Some kind → slice_get cs i ≡ Some part → IsShown (accum_of kind.1) part
  part_there whole done i part kind u e f = first_shown kind.0 (accum_of kind.1) (part_kinds (drop (i + 1) kinds)) part (drop (i + 1) cs) (here whole done i part kind u e f).0

  pub parts_more : (whole done new : List (Bytes × json.Out)) (i : ℕ) (part : Content) (kind : Bytes × Kind) (o : json.Out) → PartsFrom world kinds cs whole done i → slice_get kinds i ≡ Some kind → slice_get cs i ≡ Some part
      → o ≡ content_shown world (accum_of kind.1) part → new ≡ done ++ (kind.0, o) ∷ [] → PartsFrom world kinds cs whole new (i + 1)
  parts_more whole done new i part kind o u e f p is =
      let h = here whole done i part kind u e f in
      let rest = parts_shown world (part_kinds (drop (i + 1) kinds)) (drop (i + 1) cs) in
      record {
        shown = rest_shown kind.0 (accum_of kind.1) (part_kinds (drop (i + 1) kinds)) part (drop (i + 1) cs) h.0;
        goes = ap (λ ms. ms ++ rest) (is ∙ ap (λ q. done ++ (kind.0, q) ∷ []) p) ∙ append_assoc done ((kind.0, content_shown world (accum_of kind.1) part) ∷ []) rest ∙ h.1;
      }

  pub parts_next : (whole done new : List (Bytes × json.Out)) (i : ℕ) (part : Content) (kind : Bytes × Kind) (name : Bytes) (o : json.Out) → PartsFrom world kinds cs whole done i → slice_get kinds i ≡ Some kind → i < length cs → part ≡ get_or cs i part
      → name ≡ kind.0 → o ≡ content_shown world (accum_of kind.1) part → new ≡ done ++ (name, o) ∷ [] → PartsFrom world kinds cs whole new (i + 1)
  parts_next whole done new i part kind name o u e l f same p is = parts_more whole done new i part kind o u e (at_get cs i part l f) p (is ∙ ap (λ n. done ++ (n, o) ∷ []) same)

  pub parts_all : (whole done : List (Bytes × json.Out)) (i : ℕ) → PartsFrom world kinds cs whole done i → length cs ≤ i → done ≡ whole
  parts_all whole done i u l = ended (drop i kinds) (subst (λ ds. Goes whole done (drop i kinds) ds) (drop_all i cs l) (u.shown, u.goes))
    where
      ended : (ks : List (Bytes × Kind)) → Goes whole done ks [] → done ≡ whole
      ended [] h = sym (append-nil done) ∙ h.1
      ended (k ∷ ks) h = absurd h.0.shows

pub as_many : (kinds : List (Bytes × Kind)) (cs : List Content) (i : ℕ) (part : Content) → AreShown (part_kinds kinds) cs → slice_get cs i ≡ Some part → i < length kinds
as_many [] [] i part s f = absurd (cc f)
as_many [] (c ∷ cs) i part s f = absurd s.shows
as_many (k ∷ kinds) [] i part s f = absurd (cc f)
as_many (k ∷ kinds) (c ∷ cs) zero part s f = omega arith
as_many (k ∷ kinds) (c ∷ cs) (suc i) part s f = let n = as_many kinds cs i part (rest_shown k.0 (accum_of k.1) (part_kinds kinds) c cs s) f in omega (arith, n)

pub shown_at : (kinds : List (Bytes × Kind)) (cs : List Content) (i : ℕ) (kind : Bytes × Kind) (part : Content) → AreShown (part_kinds kinds) cs → slice_get kinds i ≡ Some kind → slice_get cs i ≡ Some part → IsShown (accum_of kind.1) part
shown_at [] cs i kind part s e f = absurd (cc e)
shown_at (k ∷ kinds) [] i kind part s e f = absurd (cc f)
shown_at (k ∷ kinds) (c ∷ cs) zero kind part s e f =
    let a : k ≡ kind = some_inj e in
    let b : c ≡ part = some_inj f in
    subst (λ (q : Bytes × Kind). IsShown (accum_of q.1) part) a (subst (IsShown (accum_of k.1)) b (first_shown k.0 (accum_of k.1) (part_kinds kinds) c cs s))
shown_at (k ∷ kinds) (c ∷ cs) (suc i) kind part s e f = shown_at kinds cs i kind part (rest_shown k.0 (accum_of k.1) (part_kinds kinds) c cs s) e f

pub ruleset part_laws = (parts_first, parts_all, at_get)

pub ruleset content_laws = (scalar_there, set_told, bag_told, list_told, heap_told, map_told, map_asked, group_told, group_asked)
