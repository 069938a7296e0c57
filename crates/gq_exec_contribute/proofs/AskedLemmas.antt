-- AskedLemmas: results of methods of accumulators.
use Rattle.std.proofs.Common.{◌≡◌, ℕ, ◌-◌, ◌<◌, ◌≤◌, Bool, true, false, List, [], ◌∷◌, take, drop, length, get_or, Option, Some, None, Ok, Bor, MatchOption, refl, sym, ap, subst, ◌∙◌, arith}
use Rattle.std.specs.Prelude.{ℤ, pos, IfSome, slice_get}
use Rattle.std.specs.Int.{w64}
use Rattle.std.specs.Int.RustNames.{FitsSigned}
use Rattle.std.specs.List.{All}
use Rattle.std.specs.Option.{option_copied}
use Rattle.std.specs.BTreeMap.{BTreeMap}
use Rattle.std.specs.BTreeSet.{BTreeSet}
use Rattle.std.proofs.lemmas.List.{drop_more, take_rest}
use Rattle.std.proofs.lemmas.List.Elements.{All-head}
use Rattle.gq_tree.specs.Tree as tree
use Rattle.gq_tree.specs.Tree.{Tree, Parts, Method, Post}
use Rattle.gq_value.specs.declared.kind.Slot as code_slot
use Rattle.gq_value.specs.declared.value.Value.{Value}
use Rattle.gq_value.specs.declared.value.Value.TheVariants as value
use Rattle.gq_value.specs.declared.value.Wrong.{Wrong}
use Rattle.gq_value.specs.Accums.{Accum, Base, MapAccum, INT}
use Rattle.gq_value.specs.AccumViews.{accum_of}
use Rattle.gq_value.specs.Typed.{is_scalar}
use Rattle.gq_value.specs.Val.{Int, Truth}
use Rattle.gq_value.specs.ViewLaws.{val-Int}
use Rattle.gq_value.specs.Views.{val}
use Rattle.gq_value.proofs.ArithmeticLemmas.{kept_int}
use Rattle.gq_accum_laws.specs.Holds.{Holds}
use Rattle.gq_graph.specs.declared.rows.Candidate.{Candidate}
use Rattle.gq_nest.specs.declared.content.Content.{Content, Content-F, out-Content}
use Rattle.gq_nest.specs.declared.content.Content.TheVariants as made
use Rattle.gq_nest.specs.declared.content.Heap.{Heap}
use Rattle.gq_nest.specs.Forms as forms
use Rattle.gq_nest.specs.Forms.{HasForm, IsOf}
use Rattle.gq_nest.specs.Tells.{HasKey, LacksKey, Tells, size_of}
use Rattle.gq_nest.proofs.LevelLemmas.{opened-Set, opened-Bag, opened-List, opened-Heap, opened-Map, opened-Group}
use Rattle.gq_nest.proofs.ReadSteps.{gets_value}
use Rattle.std.specs.Global.{Vec}
use Rattle.gq_rules_typing.specs.Kinds.{key_types}
use Rattle.gq_rules_typing.specs.Words as words
use Rattle.gq_rules_meaning.specs.Answers.{Answer, Gives, Faults, Stuck, ◌>>=◌, found, of_result}
use Rattle.gq_rules_meaning.specs.Calendars.{Calendar}
use Rattle.gq_rules_meaning.specs.Calls.{method_of, method_wants}
use Rattle.gq_rules_meaning.specs.Collections.{got, has_row}
use Rattle.gq_rules_meaning.specs.Expressions.{Look, arguments, meaning_part, meaning_parts, value_of, wanted}
use Rattle.gq_rules_meaning.specs.Meanings.{Meant, Is, IsContent, Outcome, as_truth, truly, value_of_meant, vertex_of_meant}
use Rattle.gq_frame.specs.declared.accums.Accums.{Accums}
use Rattle.gq_frame.specs.declared.slots.Slots.{Slots}
use Rattle.gq_frame.specs.Names.{AVertex}
use Rattle.gq_frame.specs.Targets.{number_of}
use Rattle.gq_frame.proofs.SlotLemmas.{content_read}
use Rattle.gq_plan_ir.specs.declared.expr.Behind as code
use Rattle.gq_plan_ir.specs.declared.expr.Behind.TheVariants as behind
use Rattle.gq_plan_ir.specs.declared.expr.Expr.{Expr}
use Rattle.gq_plan_ir.specs.declared.expr.Expr.TheVariants as expr
use Rattle.gq_plan_ir.specs.declared.expr.Method as code_method
use Rattle.gq_plan_ir.specs.declared.expr.Method.TheVariants as method
use Rattle.gq_plan_ir.specs.ExprView as shown
use Rattle.gq_plan_ir.specs.ExprView.{view, view_behind, view_parts, views}
use Rattle.gq_plan_ir.specs.Reference.{Reference, Does, Place, Slot}
use Rattle.gq_plan_ir.proofs.ViewLaws.{view-Global, view-Name, view_behind-Attached, view_behind-Method}
use Rattle.gq_eval_operand.specs.declared.seen.Operand.TheVariants as operand
use Rattle.gq_eval_operand.specs.declared.seen.Seen.TheVariants as seen
use Rattle.gq_eval_operand.specs.declared.seen.Sort.TheVariants as sort
use Rattle.gq_eval_operand.specs.Meant.{read_of}
use Rattle.gq_eval_operand.specs.Sound.{IsSound}
use Rattle.gq_eval_operand.proofs.ContentLemmas.{whole_read}
use Rattle.gq_eval_builtins.specs.Elements.{size_meant}
use Rattle.gq_eval_builtins.proofs.KeyLemmas.{inner_sound, map_holds, map_lacks, part_got}
use Rattle.gq_eval_builtins.proofs.ListSteps.{none_list, one_list}
use Rattle.gq_eval_builtins.proofs.MethodLemmas.{content_size}
use Rattle.gq_eval_builtins.proofs.MethodSteps.{size_goes}
use Rattle.gq_eval_context.specs.Viewed.{Over}
use Rattle.gq_eval_context.specs.Looks.{world_over}
use Rattle.gq_exec_contribute.specs.declared.asked.Accumulator.{Accumulator}
use Rattle.gq_exec_contribute.specs.declared.cells.Cells.{Cells}
use Rattle.gq_exec_contribute.specs.declared.cells.Taken.{Taken}
use Rattle.gq_exec_contribute.specs.declared.cells.Taken.TheVariants as taken
use Rattle.gq_exec_contribute.specs.declared.leaves.Leaves.{Leaves}
use Rattle.gq_exec_contribute.specs.Asked.{Begins, HasEntry, HasIntKey, HasSize, HoldsKey, IsBehind, IsCollection, IsGot, IsKey, IsMap, IsSize, found_in, slot_read}
use Rattle.gq_exec_contribute.specs.Prepared.{AreAllCells, HoldsInt, IsInt, IsTruth, IsVertex, ReadsInt, ReadsTruth, StandsAt, Takes, TakesKeyed, int_meant, sees_in}
use Rattle.gq_exec_contribute.proofs.NameLemmas.{named}

-- ---- collections

form_is : (c : Content) (l : Content-F Content) (k : Accum) → out-Content c ≡ l → IsOf k (out-Content c) → HasForm l k
form_is c l k e of = subst (λ (f : Content-F Content). HasForm f k) e of.0

pub set_is : (c : Content) (m : BTreeSet Value) → c ≡ made.Set m → IsCollection c
set_is c m e = record { each = λ k of. ap is_scalar (form_is c (Content-F.Set m) k (ap out-Content e ∙ opened-Set m) of).1 }

pub bag_is : (c : Content) (xs : List Value) → c ≡ made.Bag xs → IsCollection c
bag_is c xs e = record { each = λ k of. ap is_scalar (form_is c (Content-F.Bag xs) k (ap out-Content e ∙ opened-Bag xs) of).1 }

pub list_is : (c : Content) (xs : List Value) → c ≡ made.List xs → IsCollection c
list_is c xs e = record { each = λ k of. ap is_scalar (form_is c (Content-F.List xs) k (ap out-Content e ∙ opened-List xs) of).1 }

pub heap_is : (c : Content) (h : Heap) → c ≡ made.Heap h → IsCollection c
heap_is c h e = record { each = λ k of. ap is_scalar (form_is c (Content-F.Heap h) k (ap out-Content e ∙ opened-Heap h) of).1 }

pub map_whole : (c o : Content) (m : BTreeMap Value Content) → c ≡ made.Map o m → IsCollection c
map_whole c o m e = record { each = λ k of. ap is_scalar (form_is c (Content-F.Map o m) k (ap out-Content e ∙ opened-Map o m) of).2 }

pub group_is : (c : Content) (os : List Content) (m : BTreeMap (Vec Value) (List Content)) → c ≡ made.Group os m → IsCollection c
group_is c os m e = record { each = λ k of. ap is_scalar (form_is c (Content-F.Group os m) k (ap out-Content e ∙ opened-Group os m) of).2 }

pub ruleset collection_laws = (set_is, bag_is, list_is, heap_is, map_whole, group_is)

pub sized : (c : Content) (n : ℕ) (r : Option ℤ) → IsCollection c → Tells c n size_of → IfSome r (λ z. z ≡ pos n) → IfSome r (HasSize c)
sized c n None whole tells h = tt
sized c n (Some z) whole tells h = record {
  collection = whole;
  each = λ k sound. let ns = whole.each k sound.shows.of_kind in ap (λ o. o >>= size_meant) (whole_read k c ns) ∙ content_size k c n sound ns tells ∙ ap (λ z. Gives (int_meant z)) (sym h);
}

-- ---- maps

pub map_is : (c o : Content) (m : BTreeMap Value Content) → c ≡ made.Map o m → IsMap c
map_is c o m e = record { each = λ k of. form_is c (Content-F.Map o m) k (ap out-Content e ∙ opened-Map o m) of }

int_key_is : (x : ℤ) → Int x ∷ [] ≡ val (value.Int x) ∷ []
int_key_is x = ap (λ v. v ∷ []) (sym (val-Int x))

pub entry_there : (c o : Content) (m : BTreeMap Value Content) (x : ℤ) (r : Option (Bor Content)) → c ≡ made.Map o m → option_copied r ≡ found_in (value.Int x) m.entries → IfSome r (λ p. HasEntry c x p.now)
entry_there c o m x None e h = tt
entry_there c o m x (Some p) e h = record { map = map_is c o m e; has = gets_value c o m e (value.Int x) (Int x ∷ []) (int_key_is x) (Some p) h }

pub key_there : (c o : Content) (m : BTreeMap Value Content) (x : ℤ) (r : Option (Bor Content)) (p : Bor Content) → c ≡ made.Map o m → r ≡ Some p → option_copied r ≡ found_in (value.Int x) m.entries → HoldsKey c x true
key_there c o m x r p e some h = record { map = map_is c o m e; is = (p.now, subst (λ r. MatchOption r (LacksKey c (Int x ∷ [])) (λ p. HasKey c (Int x ∷ []) p.now)) some (gets_value c o m e (value.Int x) (Int x ∷ []) (int_key_is x) r h)) }

pub key_lacks : (c o : Content) (m : BTreeMap Value Content) (x : ℤ) (r : Option (Bor Content)) → c ≡ made.Map o m → r ≡ None → option_copied r ≡ found_in (value.Int x) m.entries → HoldsKey c x false
key_lacks c o m x r e none h = record { map = map_is c o m e; is = subst (λ r. MatchOption r (LacksKey c (Int x ∷ [])) (λ p. HasKey c (Int x ∷ []) p.now)) none (gets_value c o m e (value.Int x) (Int x ∷ []) (int_key_is x) r h) }

-- ---- the meaning of the accumulator of a slot

stands_read : (clock : Calendar) (o : Over) (accums : Accums) (n v : ℕ) (c : Content) (at : StandsAt accums n v c) → is_scalar (accum_of at.slot.kind) ≡ false → slot_read clock o accums n v ≡ Gives (IsContent (accum_of at.slot.kind) (forms.view (accum_of at.slot.kind) (out-Content c)))
stands_read clock o accums n v c at ns =
    (content_read accums n v (number_of accums.slots n v) at.slot c (Ok (seen.Whole (record { ref_ptr = (0, 0); now = at.slot.kind }) (record { ref_ptr = (0, 0); now = c }))) at.declared at.within refl at.stands (whole_read (accum_of at.slot.kind) c ns)).each (world_over clock o) refl

-- ---- one part

last : (o : Outcome) → ((o >>= λ n. Gives n) >>= value_of_meant) ≡ (o >>= value_of_meant)
last (Gives m) = refl
last (Faults w) = refl
last Stuck = refl

one_part : (look : Look Reference) (o : Outcome) (b : tree.Behind Reference) → ((o >>= λ m. meaning_parts look m (tree.part b tree.no_part)) >>= value_of_meant) ≡ ((o >>= λ m. meaning_part look m b) >>= value_of_meant)
one_part look (Gives m) b = last (meaning_part look m b)
one_part look (Faults w) b = refl
one_part look Stuck b = refl

two_parts : (look : Look Reference) (o : Outcome) (b : tree.Behind Reference) (ps : Parts Reference) → ((o >>= λ m. meaning_parts look m (tree.part b ps)) >>= value_of_meant) ≡ (((o >>= λ m. meaning_part look m b) >>= λ n. meaning_parts look n ps) >>= value_of_meant)
two_parts look (Gives m) b ps = refl
two_parts look (Faults w) b ps = refl
two_parts look Stuck b ps = refl

-- ---- size

size_part : (look : Look Reference) (m : Meant) (z : ℤ) → look.world.words.method (Does words.Size) ≡ Some words.Size → size_meant m ≡ Gives (int_meant z) → meaning_part look m (Method (Does words.Size) tree.no_tree) ≡ Gives (int_meant z)
size_part look m z w h =
    let as_int : ◌≡◌ {A = Answer Wrong Meant} (Gives (Is INT (val (value.Int z)))) (Gives (int_meant z)) = ap (λ v. Gives (Is INT v)) (val-Int z) in
    size_goes look m (Ok (seen.Value sort.Int (operand.Made (value.Int z)))) w (h ∙ sym as_int) ∙ as_int

size_read : (clock : Calendar) (o : Over) (l : Leaves) (accums : Accums) (c : Candidate) (m : Meant) (part : code.Behind) (z : ℤ) → IsSize part → size_meant m ≡ Gives (int_meant z) → meaning_part (sees_in clock o l accums c) m (view_behind part) ≡ Gives (int_meant z)
size_read clock o l accums c m part z is h = ap (meaning_part (sees_in clock o l accums c) m) is ∙ size_part (sees_in clock o l accums c) m z refl h

pub size_asked : (clock : Calendar) (o : Over) (l : Leaves) (accums : Accums) (c : Candidate) (n v : ℕ) (part : code.Behind) (content : Content) (r : Option ℤ) → StandsAt accums n v content → IsSize part → IfSome r (HasSize content) → IfSome r (λ x. IsBehind clock o l accums c n v (part ∷ []) (Int x))
size_asked clock o l accums c n v part content None at is h = tt
size_asked clock o l accums c n v part content (Some z) at is h =
    let k = accum_of at.slot.kind in let ns = h.collection.each k at.sound.shows.of_kind in record {
      is = one_part (sees_in clock o l accums c) (slot_read clock o accums n v) (view_behind part)
          ∙ ap (λ u. (u >>= λ m. meaning_part (sees_in clock o l accums c) m (view_behind part)) >>= value_of_meant) (stands_read clock o accums n v content at ns)
          ∙ ap (λ o. o >>= value_of_meant) (size_read clock o l accums c (IsContent k (forms.view k (out-Content content))) part z is (ap (λ o. o >>= size_meant) (sym (whole_read k content ns)) ∙ h.each k at.sound));
    }

-- ---- entries

one_argument : (look : Look Reference) (t : Tree Reference) (x : ℤ) → IsInt look t x → FitsSigned w64 x → arguments look (Some INT ∷ []) (tree.tree t tree.no_tree) ≡ Gives (Int x ∷ [])
one_argument look t x is fits = ap (λ u. u >>= wanted (Some INT) >>= λ v. arguments look [] tree.no_tree >>= λ vs. Gives (v ∷ vs)) is ∙ ap (λ r. of_result r >>= λ v. Gives (v ∷ [])) (kept_int x fits)

asked_get : (look : Look Reference) (j : Accum) (h : Holds (MapAccum INT j)) (t : Tree Reference) (x : ℤ) → look.world.words.method (Does words.Get) ≡ Some words.Get → IsInt look t x → FitsSigned w64 x
    → meaning_part look (IsContent (MapAccum INT j) h) (Method (Does words.Get) (tree.tree t tree.no_tree)) ≡ found (got (MapAccum INT j) h (Int x ∷ []))
asked_get look j h t x w is fits =
    ap (λ o. found {F = Wrong} o >>= λ f. arguments look (method_wants f (IsContent (MapAccum INT j) h)) (tree.tree t tree.no_tree) >>= method_of look.world.graph f (IsContent (MapAccum INT j) h)) w
    ∙ ap (λ o. o >>= method_of look.world.graph words.Get (IsContent (MapAccum INT j) h)) (one_argument look t x is fits)

asked_key : (look : Look Reference) (j : Accum) (h : Holds (MapAccum INT j)) (t : Tree Reference) (x : ℤ) → look.world.words.method (Does words.ContainsKey) ≡ Some words.ContainsKey → IsInt look t x → FitsSigned w64 x
    → meaning_part look (IsContent (MapAccum INT j) h) (Method (Does words.ContainsKey) (tree.tree t tree.no_tree)) ≡ (found (has_row (MapAccum INT j) h (Int x ∷ [])) >>= truly)
asked_key look j h t x w is fits =
    ap (λ o. found {F = Wrong} o >>= λ f. arguments look (method_wants f (IsContent (MapAccum INT j) h)) (tree.tree t tree.no_tree) >>= method_of look.world.graph f (IsContent (MapAccum INT j) h)) w
    ∙ ap (λ o. o >>= method_of look.world.graph words.ContainsKey (IsContent (MapAccum INT j) h)) (one_argument look t x is fits)

-- a map with an INT key
record IntMap (k : Accum) : Type 0 where
  part : Accum
  is : k ≡ MapAccum INT part

int_map : (accums : Accums) (n v : ℕ) (c : Content) (at : StandsAt accums n v c) → IsMap c → HasIntKey accums.slots n → IntMap (accum_of at.slot.kind)
int_map accums n v c at map keys =
    let m = map.each (accum_of at.slot.kind) at.sound.shows.of_kind in
    let b : m.0 ∷ [] ≡ INT ∷ [] = sym (ap key_types m.2) ∙ keys.each at.slot at.declared in
    let is : m.0 ≡ INT = cc b in record { part = m.1; is = m.2 ∙ ap (λ (b : Base). MapAccum b m.1) is }

map_read : (clock : Calendar) (o : Over) (accums : Accums) (n v : ℕ) (c : Content) (at : StandsAt accums n v c) → IntMap (accum_of at.slot.kind) → slot_read clock o accums n v ≡ Gives (IsContent (accum_of at.slot.kind) (forms.view (accum_of at.slot.kind) (out-Content c)))
map_read clock o accums n v c at m = stands_read clock o accums n v c at (ap is_scalar m.is)

method_is : (part : code.Behind) (m : code_method.Method) (ts us : List Expr) (t : Tree Reference) → part ≡ behind.Method m ts → us ≡ ts → views us ≡ tree.tree t tree.no_tree → view_behind part ≡ Method (Does (shown.method_of m)) (tree.tree t tree.no_tree)
method_is part m ts us t is s one = ap view_behind is ∙ view_behind-Method m ts ∙ ap (λ l. Method (Does (shown.method_of m)) (views l)) (sym s) ∙ ap (Method (Does (shown.method_of m))) one

get_map : (look : Look Reference) (k : Accum) (m : IntMap k) (h : Holds k) (t : Tree Reference) (x : ℤ) → look.world.words.method (Does words.Get) ≡ Some words.Get → IsInt look t x → FitsSigned w64 x
    → meaning_part look (IsContent k h) (Method (Does words.Get) (tree.tree t tree.no_tree)) ≡ found (got k h (Int x ∷ []))
get_map look k m h t x w is fits =
    subst (λ (k : Accum). (h : Holds k) → meaning_part look (IsContent k h) (Method (Does words.Get) (tree.tree t tree.no_tree)) ≡ found (got k h (Int x ∷ []))) (sym m.is) (λ h. asked_get look m.part h t x w is fits) h

key_map : (look : Look Reference) (k : Accum) (m : IntMap k) (h : Holds k) (t : Tree Reference) (x : ℤ) → look.world.words.method (Does words.ContainsKey) ≡ Some words.ContainsKey → IsInt look t x → FitsSigned w64 x
    → meaning_part look (IsContent k h) (Method (Does words.ContainsKey) (tree.tree t tree.no_tree)) ≡ (found (has_row k h (Int x ∷ [])) >>= truly)
key_map look k m h t x w is fits =
    subst (λ (k : Accum). (h : Holds k) → meaning_part look (IsContent k h) (Method (Does words.ContainsKey) (tree.tree t tree.no_tree)) ≡ (found (has_row k h (Int x ∷ [])) >>= truly)) (sym m.is) (λ h. asked_key look m.part h t x w is fits) h

pub got_there : (clock : Calendar) (o : Over) (l : Leaves) (accums : Accums) (c : Candidate) (n v : ℕ) (part : code.Behind) (ts us : List Expr) (x : ℤ) (content : Content) (r : Option (Bor Content)) → part ≡ behind.Method method.Get ts → us ≡ ts → IsKey accums (sees_in clock o l accums c) n us x → StandsAt accums n v content
    → IfSome r (λ p. HasEntry content x p.now) → IfSome r (λ p. IsGot clock o l accums c n v part p.now)
got_there clock o l accums c n v part ts us x content None is s key at h = tt
got_there clock o l accums c n v part ts us x content (Some p) is s key at h =
    let k = accum_of at.slot.kind in let m = int_map accums n v content at h.map key.keys in record {
      kind = m.part;
      sound = inner_sound k INT m.part content p.now (Int x ∷ []) at.sound m.is h.has;
      is = ap (λ u. u >>= λ m. meaning_part (sees_in clock o l accums c) m (view_behind part)) (map_read clock o accums n v content at m)
          ∙ ap (meaning_part (sees_in clock o l accums c) (IsContent k (forms.view k (out-Content content)))) (method_is part method.Get ts us key.argument is s key.one)
          ∙ get_map (sees_in clock o l accums c) k m (forms.view k (out-Content content)) key.argument x refl key.is key.fits
          ∙ part_got k INT m.part content p.now (Int x ∷ []) at.sound m.is h.has;
    }

holds : (a : Accum) (m : IntMap a) (content : Content) (x : ℤ) (b : Bool) → IsSound a content → HoldsKey content x b → (found {F = Wrong} (has_row a (forms.view a (out-Content content)) (Int x ∷ [])) >>= truly) ≡ truly b
holds a m content x true sound h = map_holds a INT m.part content h.is.0 (Int x ∷ []) sound m.is h.is.1
holds a m content x false sound h = map_lacks a INT m.part content (Int x ∷ []) sound m.is h.is

pub key_asked : (clock : Calendar) (o : Over) (l : Leaves) (accums : Accums) (c : Candidate) (n v : ℕ) (part : code.Behind) (ts us : List Expr) (x : ℤ) (content : Content) (r : Option Bool) → part ≡ behind.Method method.ContainsKey ts → us ≡ ts → IsKey accums (sees_in clock o l accums c) n us x → StandsAt accums n v content
    → IfSome r (HoldsKey content x) → IfSome r (λ b. IsBehind clock o l accums c n v (part ∷ []) (Truth b))
key_asked clock o l accums c n v part ts us x content None is s key at h = tt
key_asked clock o l accums c n v part ts us x content (Some b) is s key at h =
    let k = accum_of at.slot.kind in let m = int_map accums n v content at h.map key.keys in record {
      is = one_part (sees_in clock o l accums c) (slot_read clock o accums n v) (view_behind part)
          ∙ ap (λ u. (u >>= λ m. meaning_part (sees_in clock o l accums c) m (view_behind part)) >>= value_of_meant) (map_read clock o accums n v content at m)
          ∙ ap (λ b. meaning_part (sees_in clock o l accums c) (IsContent k (forms.view k (out-Content content))) b >>= value_of_meant) (method_is part method.ContainsKey ts us key.argument is s key.one)
          ∙ ap (λ o. o >>= value_of_meant) (key_map (sees_in clock o l accums c) k m (forms.view k (out-Content content)) key.argument x refl key.is key.fits ∙ holds k m content x b at.sound h);
    }

-- ---- INT entries, and the size of an entry

pub got_asked : (clock : Calendar) (o : Over) (l : Leaves) (accums : Accums) (c : Candidate) (n v : ℕ) (part : code.Behind) (entry : Content) (r : Option ℤ) → IsGot clock o l accums c n v part entry → IfSome r (HoldsInt entry) → IfSome r (λ x. IsBehind clock o l accums c n v (part ∷ []) (Int x))
got_asked clock o l accums c n v part entry None got h = tt
got_asked clock o l accums c n v part entry (Some z) got h = record {
  is = one_part (sees_in clock o l accums c) (slot_read clock o accums n v) (view_behind part) ∙ ap (λ o. o >>= value_of_meant) got.is ∙ ap value_of_meant (h.each got.kind got.sound.shows.of_kind);
}

pub got_size : (clock : Calendar) (o : Over) (l : Leaves) (accums : Accums) (c : Candidate) (n v : ℕ) (parts : List code.Behind) (part next : code.Behind) (entry : Content) (r : Option ℤ) → parts ≡ part ∷ next ∷ [] → IsGot clock o l accums c n v part entry → IsSize next → IfSome r (HasSize entry)
    → IfSome r (λ x. IsBehind clock o l accums c n v parts (Int x))
got_size clock o l accums c n v parts part next entry None list got is h = tt
got_size clock o l accums c n v parts part next entry (Some z) list got is h = subst (λ l'. IsBehind clock o l accums c n v l' (Int z)) (sym list) (record {
  is = two_parts (sees_in clock o l accums c) (slot_read clock o accums n v) (view_behind part) (tree.part (view_behind next) tree.no_part)
      ∙ ap (λ u. (u >>= λ n. meaning_parts (sees_in clock o l accums c) n (tree.part (view_behind next) tree.no_part)) >>= value_of_meant) got.is
      ∙ last (meaning_part (sees_in clock o l accums c) (read_of got.kind entry) (view_behind next))
      ∙ ap (λ o. o >>= value_of_meant) (size_read clock o l accums c (read_of got.kind entry) next z is (h.each got.kind got.sound));
})

pub none_asked : (clock : Calendar) (o : Over) (l : Leaves) (accums : Accums) (c : Candidate) (n v : ℕ) (parts : List code.Behind) (r : Option ℤ) → length parts < 1 → IfSome r (ReadsInt clock o accums n v) → IfSome r (λ x. IsBehind clock o l accums c n v parts (Int x))
none_asked clock o l accums c n v parts None few h = tt
none_asked clock o l accums c n v parts (Some x) few h = subst (λ l'. IsBehind clock o l accums c n v l' (Int x)) (sym (none_list parts few)) (record { is = ap (λ o. (o >>= λ m. Gives m) >>= value_of_meant) h })

pub none_held : (clock : Calendar) (o : Over) (l : Leaves) (accums : Accums) (c : Candidate) (n v : ℕ) (parts : List code.Behind) (r : Option Bool) → length parts < 1 → IfSome r (ReadsTruth clock o accums n v) → IfSome r (λ b. IsBehind clock o l accums c n v parts (Truth b))
none_held clock o l accums c n v parts None few h = tt
none_held clock o l accums c n v parts (Some b) few h = subst (λ l'. IsBehind clock o l accums c n v l' (Truth b)) (sym (none_list parts few)) (record { is = ap (λ o. (o >>= λ m. Gives m) >>= value_of_meant) h })

pub one_asked : (clock : Calendar) (o : Over) (l : Leaves) (accums : Accums) (c : Candidate) (n v : ℕ) (parts : List code.Behind) (part : code.Behind) (r : Option ℤ) → 1 ≤ length parts → length parts < 2 → part ≡ get_or parts 0 part → IfSome r (λ x. IsBehind clock o l accums c n v (part ∷ []) (Int x)) → IfSome r (λ x. IsBehind clock o l accums c n v parts (Int x))
one_asked clock o l accums c n v parts part r many few is h = subst (λ l'. IfSome r (λ x. IsBehind clock o l accums c n v l' (Int x))) (sym (one_list parts part many few is)) h

pub one_held : (clock : Calendar) (o : Over) (l : Leaves) (accums : Accums) (c : Candidate) (n v : ℕ) (parts : List code.Behind) (part : code.Behind) (r : Option Bool) → 1 ≤ length parts → length parts < 2 → part ≡ get_or parts 0 part → IfSome r (λ b. IsBehind clock o l accums c n v (part ∷ []) (Truth b)) → IfSome r (λ b. IsBehind clock o l accums c n v parts (Truth b))
one_held clock o l accums c n v parts part r many few is h = subst (λ l'. IfSome r (λ b. IsBehind clock o l accums c n v l' (Truth b))) (sym (one_list parts part many few is)) h

-- ---- the keys of a slot

one_int : (bs : List Base) → All (λ b. b ≡ INT) bs → length bs ≡ 1 → bs ≡ INT ∷ []
one_int [] all e = absurd (omega (arith, e))
one_int (b ∷ []) all e = ap (λ b. b ∷ []) (All-head (λ (b : Base). b ≡ INT) b [] all)
one_int (b ∷ d ∷ bs) all e = absurd (omega (arith, e))

keyed : (k : Accum) (t : Taken) (count parts : ℕ) → t ≡ taken.Keyed count parts → count ≡ 1 → Takes k t → key_types k ≡ INT ∷ []
keyed k t count parts e one takes = of_keyed (subst (Takes k) e takes)
  where
    of_keyed : TakesKeyed k count parts → key_types k ≡ INT ∷ []
    of_keyed h = one_int (key_types k) h.keys (h.key_count ∙ one)

pub int_keyed : (slots : Slots) (all : List Cells) (n count parts : ℕ) (cells : Cells) → slice_get all n ≡ Some cells → cells.takes ≡ taken.Keyed count parts → count ≡ 1 → AreAllCells slots all → HasIntKey slots n
int_keyed slots all n count parts cells there e one are = let h = are.each n cells there in record {
  each = λ s declared. let same : h.slot ≡ s = cc (sym h.declared ∙ declared) in ap (λ (s : code_slot.Slot). key_types (accum_of s.kind)) (sym same) ∙ keyed (accum_of h.slot.kind) cells.takes count parts e one h.takes;
}

pub key_made : (accums : Accums) (look : Look Reference) (n : ℕ) (arguments : List Expr) (argument : Expr) (x : ℤ) → HasIntKey accums.slots n → 1 ≤ length arguments → length arguments < 2 → argument ≡ get_or arguments 0 argument → IsInt look (view argument) x → FitsSigned w64 x → IsKey accums look n arguments x
key_made accums look n arguments argument x keys many few is read fits = record { argument = view argument; one = ap views (one_list arguments argument many few is); is = read; fits = fits; keys = keys }

pub key_of : (accums : Accums) (look : Look Reference) (n : ℕ) (arguments : List Expr) (argument : Expr) (r : Option ℤ) → HasIntKey accums.slots n → 1 ≤ length arguments → length arguments < 2 → argument ≡ get_or arguments 0 argument → IfSome r (IsInt look (view argument)) → IfSome r (FitsSigned w64)
    → IfSome r (IsKey accums look n arguments)
key_of accums look n arguments argument None keys many few is read fits = tt
key_of accums look n arguments argument (Some x) keys many few is read fits = key_made accums look n arguments argument x keys many few is read fits

-- a method, given which one it is
pub method_part : (part : code.Behind) (m n : code_method.Method) (ts : List Expr) → part ≡ behind.Method m ts → m ≡ n → part ≡ behind.Method n ts
method_part part m n ts is named = is ∙ ap (λ m. behind.Method m ts) named

pub size_is : (part : code.Behind) (ts : List Expr) → part ≡ behind.Method method.Size ts → length ts ≡ 0 → IsSize part
size_is part ts is none = ap view_behind is ∙ view_behind-Method method.Size ts ∙ ap (λ l. Method (Does words.Size) (views l)) (none_list ts (omega (arith, none)))

-- ---- the accumulator that an expression begins with

pub begins_global : (clock : Calendar) (l : Leaves) (c : Candidate) (n : ℕ) (first : Expr) (parts : List code.Behind) (a : Accumulator) → first ≡ expr.Global n → a.slot ≡ n → a.vertex ≡ 0 → a.parts.now ≡ parts → Begins clock l c (Post (view first) (view_parts parts)) a
begins_global clock l c n first parts a is s v p = record {
  each = λ o accums.
      ap (λ t. value_of (sees_in clock o l accums c) (Post t (view_parts parts))) (ap view is ∙ view-Global n)
      ∙ sym (ap (λ n. (slot_read clock o accums n a.vertex >>= λ m. meaning_parts (sees_in clock o l accums c) m (view_parts a.parts.now)) >>= value_of_meant) s
      ∙ ap (λ v. (slot_read clock o accums n v >>= λ m. meaning_parts (sees_in clock o l accums c) m (view_parts a.parts.now)) >>= value_of_meant) v
      ∙ ap (λ ps. (slot_read clock o accums n 0 >>= λ m. meaning_parts (sees_in clock o l accums c) m (view_parts ps)) >>= value_of_meant) p);
}

pub begins_attached : (clock : Calendar) (l : Leaves) (c : Candidate) (p n v : ℕ) (part : code.Behind) (others : List code.Behind) (a : Accumulator) → part ≡ behind.Attached n → IsVertex l c p v → a.slot ≡ n → a.vertex ≡ v → a.parts.now ≡ others
    → Begins clock l c (Post (tree.Name (Place p)) (view_parts (part ∷ others))) a
begins_attached clock l c p n v part others a e at s u q = record {
  each = λ o accums.
      ap (λ b. ((sees_in clock o l accums c).named (Place p) >>= λ m. meaning_part (sees_in clock o l accums c) m b >>= λ n. meaning_parts (sees_in clock o l accums c) n (view_parts others)) >>= value_of_meant) (ap view_behind e ∙ view_behind-Attached n)
      ∙ ap (λ w. (w >>= λ m. (vertex_of_meant m >>= (sees_in clock o l accums c).attached (Slot n)) >>= λ n. meaning_parts (sees_in clock o l accums c) n (view_parts others)) >>= value_of_meant) (named clock o l accums c p (AVertex at.0 v) at.1)
      ∙ sym (ap (λ n. (slot_read clock o accums n a.vertex >>= λ m. meaning_parts (sees_in clock o l accums c) m (view_parts a.parts.now)) >>= value_of_meant) s
      ∙ ap (λ v. (slot_read clock o accums n v >>= λ m. meaning_parts (sees_in clock o l accums c) m (view_parts a.parts.now)) >>= value_of_meant) u
      ∙ ap (λ ps. (slot_read clock o accums n v >>= λ m. meaning_parts (sees_in clock o l accums c) m (view_parts ps)) >>= value_of_meant) q);
}

-- the first part and the others, as a slice's pattern names them
opened : {A : Type 0} (xs : List A) (x : A) → 1 ≤ length xs → x ≡ get_or xs 0 x → xs ≡ x ∷ take (length xs - 1) (drop 1 xs)
opened xs x m h = drop_more xs 0 x m ∙ ap (λ z. z ∷ drop 1 xs) (sym h) ∙ ap (λ zs. x ∷ zs) (sym (take_rest xs 1))

pub begins_name : (clock : Calendar) (l : Leaves) (c : Candidate) (first : Expr) (parts : List code.Behind) (p : ℕ) (part : code.Behind) (r : Option Accumulator) → first ≡ expr.Name p → 1 ≤ length parts → part ≡ get_or parts 0 part
    → IfSome r (Begins clock l c (Post (tree.Name (Place p)) (view_parts (part ∷ take (length parts - 1) (drop 1 parts))))) → IfSome r (Begins clock l c (Post (view first) (view_parts parts)))
begins_name clock l c first parts p part r is some at h =
    subst (λ (t : Tree Reference). IfSome r (Begins clock l c t)) (sym (ap (λ t. Post t (view_parts parts)) (ap view is ∙ view-Name p) ∙ ap (λ ps. Post (tree.Name (Place p)) (view_parts ps)) (opened parts part some at))) h

pub begun_int : (clock : Calendar) (o : Over) (l : Leaves) (accums : Accums) (c : Candidate) (t : Tree Reference) (a : Accumulator) (r : Option ℤ) → Begins clock l c t a → IfSome r (λ x. IsBehind clock o l accums c a.slot a.vertex a.parts.now (Int x)) → IfSome r (IsInt (sees_in clock o l accums c) t)
begun_int clock o l accums c t a None b h = tt
begun_int clock o l accums c t a (Some x) b h = b.each o accums ∙ h.is

pub begun_truth : (clock : Calendar) (o : Over) (l : Leaves) (accums : Accums) (c : Candidate) (t : Tree Reference) (a : Accumulator) (r : Option Bool) → Begins clock l c t a → IfSome r (λ x. IsBehind clock o l accums c a.slot a.vertex a.parts.now (Truth x)) → IfSome r (IsTruth (sees_in clock o l accums c) t)
begun_truth clock o l accums c t a None b h = tt
begun_truth clock o l accums c t a (Some x) b h = ap (λ o. o >>= as_truth) (b.each o accums ∙ h.is)
