-- KeyLemmas: the contents at the keys of sound maps and groups.
use Rattle.std.proofs.Common.{◌≡◌, ℕ, zero, suc, ◌≤◌, length, arith, Bool, true, false, ◌&&◌, ◌||◌, List, [], ◌∷◌, map, None, refl, sym, ap, subst, ◌∙◌}
use Rattle.std.specs.List.{list_all, slice_get}
use Rattle.std.specs.Option.{option_map}
use Rattle.std.specs.Ordering.{is_eq, on, ordering_then}
use Rattle.std.specs.Cmp.Lexicographic.{slice_cmp}
use Rattle.std.specs.Prelude.{if◌then◌else◌}
use Rattle.gq_value.specs.declared.kind.BaseType.{BaseType}
use Rattle.gq_value.specs.declared.kind.GroupShape.{GroupShape}
use Rattle.gq_value.specs.Val.{Val}
use Rattle.gq_value.specs.Views.{val}
use Rattle.gq_value.specs.Order.{place}
use Rattle.gq_value.specs.declared.value.Value.{Value}
use Rattle.gq_value.specs.Accums.{Base, Accum, MapAccum, GroupByAccum, Parts}
use Rattle.gq_value.specs.AccumViews.{base_of, accum_of, parts_of}
use Rattle.gq_value.specs.declared.kind.Kind.{Kind}
use Rattle.gq_accum_laws.specs.Gather.{among}
use Rattle.gq_accum_laws.specs.Holds.{Holds, row_cmp}
use Rattle.gq_accum_laws.specs.After.{fresh}
use Rattle.gq_accum_laws.specs.Fits.{fits}
use Rattle.gq_nest.specs.declared.content.Content.{Content, out-Content}
use Rattle.gq_nest.specs.Forms.{view}
use Rattle.gq_nest.specs.Shows.{Shows}
use Rattle.gq_nest.specs.Tells.{Tells, LacksKey, HasKey, LacksPart, HasPart, has_part, keys_of}
use Rattle.gq_nest.proofs.EntryLemmas.{same_row}
use Rattle.gq_rules_meaning.specs.Answers.{Gives}
use Rattle.gq_rules_meaning.specs.Meanings.{IsContent, IsRow, truly, read}
use Rattle.gq_eval_operand.specs.Meant.{keys_are, parts_are, parts_at, read_of, opening_of}
use Rattle.gq_eval_operand.specs.Sound.{IsSound, HoldsForms}
use Rattle.gq_eval_builtins.specs.Elements.{contains_key_meant, get_meant, holds_row, got_in, opening_row, opening_got}

-- ---- types

pub key_types_are : (keys : List (List ℕ × BaseType)) → map (λ f. base_of f.1) keys ≡ map (λ (k : List ℕ × Base). k.1) (map {A = List ℕ × BaseType} {B = List ℕ × Base} (λ k. (k.0, base_of k.1)) keys)
key_types_are [] = refl
key_types_are (k ∷ keys) = ap (λ ts. base_of k.1 ∷ ts) (key_types_are keys)

pub want_map : {A : Type 0} (f : A → Base) (xs : List A) (i : ℕ) → slice_get (map f xs) i ≡ option_map f (slice_get xs i)
want_map f [] i = refl
want_map f (x ∷ xs) zero = refl
want_map f (x ∷ xs) (suc i) = want_map f xs i

pub want_past : (b : Base) (i : ℕ) → (i ≡ 0 → ⊥) → slice_get (b ∷ []) i ≡ None
want_past b zero h = absurd (h refl)
want_past b (suc i) h = refl

pub ruleset want_laws = (want_map, want_past)

-- ---- whether a row is held

map_row : (a : Accum) (b : Base) (j : Accum) (c : Content) (row : List Val) (f : Bool) → a ≡ MapAccum b j
    → ((h : Holds (MapAccum b j)) → Shows (MapAccum b j) c h → among row_cmp row h.0 ≡ f) → IsSound a c → holds_row a c row ≡ truly f
map_row a b j c row f e h = subst (λ a. IsSound a c → holds_row a c row ≡ truly f) (sym e) (λ s. ap (λ t. truly t) (h (view (MapAccum b j) (out-Content c)) s.shows))

pub map_holds : (a : Accum) (b : Base) (j : Accum) (c part : Content) (row : List Val) → IsSound a c → a ≡ MapAccum b j → HasKey c row part → holds_row a c row ≡ truly true
map_holds a b j c part row s e h = map_row a b j c row true e (λ x shown. (h.each b j x shown).0) s

pub map_lacks : (a : Accum) (b : Base) (j : Accum) (c : Content) (row : List Val) → IsSound a c → a ≡ MapAccum b j → LacksKey c row → holds_row a c row ≡ truly false
map_lacks a b j c row s e h = map_row a b j c row false e (λ x shown. h.each b j x shown) s

group_row : (a : Accum) (keys : List (List ℕ × Base)) (ps : Parts) (c : Content) (row : List Val) (f : Bool) → a ≡ GroupByAccum keys ps
    → ((h : Holds (GroupByAccum keys ps)) → Shows (GroupByAccum keys ps) c h → among row_cmp row h.0 ≡ f) → IsSound a c → holds_row a c row ≡ truly f
group_row a keys ps c row f e h = subst (λ a. IsSound a c → holds_row a c row ≡ truly f) (sym e) (λ s. ap (λ t. truly t) (h (view (GroupByAccum keys ps) (out-Content c)) s.shows))

pub group_holds : (a : Accum) (keys : List (List ℕ × Base)) (ps : Parts) (c part : Content) (key : List Val) → IsSound a c → a ≡ GroupByAccum keys ps → HasPart c key 0 part → holds_row a c key ≡ truly true
group_holds a keys ps c part row s e h = group_row a keys ps c row true e (λ x shown. (h.each keys ps x shown).0) s

pub group_lacks : (a : Accum) (keys : List (List ℕ × Base)) (ps : Parts) (c : Content) (key : List Val) → IsSound a c → a ≡ GroupByAccum keys ps → has_part ps 0 ≡ true → LacksPart c key 0 → holds_row a c key ≡ truly false
group_lacks a keys ps c row s e p h = group_row a keys ps c row false e (λ x shown. h.each keys ps x shown p) s

-- a group's rows, searched one by one
pub group_searched : (a : Accum) (keys : List (List ℕ × Base)) (ps : Parts) (c : Content) (key : List Val) (rows : List (List Val)) (f : Bool) → IsSound a c → a ≡ GroupByAccum keys ps → Tells c rows keys_of → f ≡ among row_cmp key rows
    → holds_row a c key ≡ truly f
group_searched a keys ps c key rows f s e t is = group_row a keys ps c key f e (λ h shown. ap (among row_cmp key) (sym (t.each (GroupByAccum keys ps) h shown)) ∙ sym is) s

-- comparing rows of values is comparing their plain data
pub cmp_mapped : (xs ys : List Value) → slice_cmp (on val place) xs ys ≡ row_cmp (map val xs) (map val ys)
cmp_mapped [] [] = refl
cmp_mapped [] (y ∷ ys) = refl
cmp_mapped (x ∷ xs) [] = refl
cmp_mapped (x ∷ xs) (y ∷ ys) = ap (ordering_then (place (val x) (val y))) (cmp_mapped xs ys)

pub yet_holds : (k : Accum) (row : List Val) → contains_key_meant (IsContent k (fresh k)) row ≡ opening_row k
yet_holds (MapAccum b k) row = refl
yet_holds (GroupByAccum keys ps) row = refl
yet_holds k row = refl

pub ruleset holds_laws = (map_holds, map_lacks, group_holds, group_lacks, yet_holds)

-- ---- the content at a row

at_rows : (P : List Val → Bool) (row : List Val) (rows : List (List Val)) → list_all P rows ≡ true → among row_cmp row rows ≡ true → P row ≡ true
at_rows P row [] h g = absurd (cc)
at_rows P row (q ∷ rows) h g = go (is_eq (row_cmp row q)) refl (P q) refl (at_rows P row rows)
  where
    go : (t : Bool) → is_eq (row_cmp row q) ≡ t → (u : Bool) → P q ≡ u → (list_all P rows ≡ true → among row_cmp row rows ≡ true → P row ≡ true) → P row ≡ true
    go true e true f rest = ap P (same_row row q e) ∙ f
    go true e false f rest = absurd (let z : false ≡ true = ap (λ u. u && list_all P rows) (sym f) ∙ h in cc z)
    go false e true f rest = rest (ap (λ u. u && list_all P rows) (sym f) ∙ h) (ap (λ t. t || among row_cmp row rows) (sym e) ∙ g)
    go false e false f rest = absurd (let z : false ≡ true = ap (λ u. u && list_all P rows) (sym f) ∙ h in cc z)

part_sound : (b : Base) (j : Accum) (c part : Content) (row : List Val) → IsSound (MapAccum b j) c → HasKey c row part → IsSound j part
part_sound b j c part row s h =
    let k = h.each b j (view (MapAccum b j) (out-Content c)) s.shows in
    record {
      shows = subst (Shows j part) (sym k.1.holds) k.1;
      forms = subst (HoldsForms j) (sym k.1.holds) (s.forms row);
      fit = ap (fits j) k.1.holds ∙ at_rows (λ q. fits j ((view (MapAccum b j) (out-Content c)).1 q)) row (view (MapAccum b j) (out-Content c)).0 s.fit k.0;
    }

pub inner_sound : (a : Accum) (b : Base) (j : Accum) (c part : Content) (row : List Val) → IsSound a c → a ≡ MapAccum b j → HasKey c row part → IsSound j part
inner_sound a b j c part row s e h = part_sound b j c part row (subst (λ a. IsSound a c) e s) h

pub part_got : (a : Accum) (b : Base) (j : Accum) (c part : Content) (row : List Val) → IsSound a c → a ≡ MapAccum b j → HasKey c row part → got_in a c row ≡ Gives (read_of j part)
part_got a b j c part row s e h = subst (λ a. IsSound a c → got_in a c row ≡ Gives (read_of j part)) (sym e) (λ s.
    let k = h.each b j (view (MapAccum b j) (out-Content c)) s.shows in
    ap (λ t. Gives (read j (if t then (view (MapAccum b j) (out-Content c)).1 row else fresh j))) k.0 ∙ ap (λ x. Gives (read j x)) (sym k.1.holds)) s

pub opening_at : (a : Accum) (b : Base) (j : Accum) (c : Content) (row : List Val) → IsSound a c → a ≡ MapAccum b j → LacksKey c row → got_in a c row ≡ Gives (opening_of j)
opening_at a b j c row s e h = subst (λ a. IsSound a c → got_in a c row ≡ Gives (opening_of j)) (sym e) (λ s.
    ap (λ t. Gives (read j (if t then (view (MapAccum b j) (out-Content c)).1 row else fresh j))) (h.each b j (view (MapAccum b j) (out-Content c)) s.shows)) s

pub ruleset at_key_laws = (inner_sound, part_got, opening_at)

pub row_got : (a : Accum) (shape : GroupShape) (c : Content) (row : List Val) → a ≡ GroupByAccum (keys_are shape) (parts_are shape) → got_in a c row ≡ Gives (IsRow (parts_are shape) (parts_at shape c row))
row_got a shape c row e = subst (λ a. got_in a c row ≡ Gives (IsRow (parts_are shape) (parts_at shape c row))) (sym e) refl

pub yet_got : (k : Accum) (row : List Val) → get_meant (IsContent k (fresh k)) row ≡ opening_got k
yet_got (MapAccum b k) row = refl
yet_got (GroupByAccum keys ps) row = refl
yet_got k row = refl

pub ruleset got_laws = (row_got, yet_got)

pub first_part : (ps : List (List ℕ × Kind)) → 1 ≤ length ps → has_part (parts_of (map (λ p. (p.0, accum_of p.1)) ps)) 0 ≡ true
first_part [] h = absurd (omega (arith, h))
first_part (p ∷ ps) h = refl
