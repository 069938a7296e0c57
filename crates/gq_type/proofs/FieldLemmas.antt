-- FieldLemmas: fields by name, in types by number, and in several types at once.
use Rattle.std.proofs.Common.{ℕ, zero, suc, ◌+◌, ◌-◌, ◌<◌, ◌≤◌, ◌≡◌, ◌==◌, Bool, true, false, not, ◌&&◌, cond, List, [], ◌∷◌, length, get_or, take, drop, map, Option, Some, None, refl, ap, sym, ◌∙◌, subst, arith}
use Rattle.std.specs.Str.{bytes_eq}
use Rattle.std.specs.Option.{option_map, unwrap_or}
use Rattle.std.specs.List.{slice_get, position, position_or_len, prefix_len}
use Rattle.std.proofs.Math.Dec.{ltb}
use Rattle.std.proofs.Math.Seq.{take-length}
use Rattle.std.proofs.lemmas.Bool.{ltb-false}
use Rattle.std.proofs.lemmas.List.{length-map}
use Rattle.std.proofs.lemmas.Option.{slice_get-get_or, slice_get_past}
use Rattle.gq_value.specs.Accums.{Base, Accum}
use Rattle.gq_value.specs.AccumViews.{accum_of}
use Rattle.gq_value.specs.declared.kind.Kind.{Kind}
use Rattle.gq_graph.specs.declared.types.EdgeType.{EdgeType}
use Rattle.gq_graph.specs.declared.types.VertexType.{VertexType}
use Rattle.gq_rules_typing.specs.Statements.{Bytes}
use Rattle.gq_rules_typing.specs.Sorts.{Fields, Sorts, VertexSort, EdgeSort, vertex_sort, edge_sort, vertex_fields, edge_fields, attribute_fields, with_id, names_of, bases_of}
use Rattle.gq_rules_typing.specs.Words.{Setting, Owner, place_of, names_of_parts}
use Rattle.gq_rules_typing.specs.Types.{same_base}
use Rattle.gq_rules_typing.specs.Kinds.{kinds_in}
use Rattle.gq_rules_typing.specs.FieldTypes.{field_base, at_place, tuple_fields, one_base, agreed, of_parts}
use Rattle.gq_scope.specs.Held.{Held, sorts_in, setting_in}
use Rattle.gq_scope.specs.Views.{parts_are, part_read}
use Rattle.gq_scope.specs.Parts.{first_named, chained}

-- ---- by name

at_length : {A : Type 0} (f : Bytes) (xs : List (Bytes × A)) → slice_get (map (λ x. x.1) xs) (position_or_len (bytes_eq f) (map (λ x. x.0) xs)) ≡ first_named xs f
at_length f [] = refl
at_length {A = A} f (x ∷ xs) = step (bytes_eq f x.0) (at_length f xs)
  where
    step : (b : Bool) → slice_get (map (λ x. x.1) xs) (position_or_len (bytes_eq f) (map (λ x. x.0) xs)) ≡ first_named xs f
        → slice_get (x.1 ∷ map (λ y. y.1) xs) (cond (not b) (1 + position_or_len (bytes_eq f) (map (λ y. y.0) xs)) 0) ≡ cond b (Some x.1) (first_named xs f)
    step true rest = refl
    step false rest = ap (slice_get (x.1 ∷ map (λ y. y.1) xs)) (let e : 1 + position_or_len (bytes_eq f) (map (λ y. y.0) xs) ≡ suc (position_or_len (bytes_eq f) (map (λ y. y.0) xs)) = omega arith in e) ∙ rest

in_place : {A : Type 0} (xs : List A) (n m : ℕ) → length xs ≡ m → at_place xs (cond (ltb n m) (Some n) None) ≡ slice_get xs n
in_place {A = A} xs n m long = step (ltb n m) refl
  where
    step : (b : Bool) → ltb n m ≡ b → at_place xs (cond b (Some n) None) ≡ slice_get xs n
    step true is = refl
    step false is = sym (slice_get_past xs n (omega (arith, ltb-false n m is, long)))

-- the value of a name is the one at the name's place
pub by_place : {A : Type 0} (f : Bytes) (xs : List (Bytes × A)) → at_place (map (λ x. x.1) xs) (place_of (map (λ x. x.0) xs) f) ≡ first_named xs f
by_place f xs =
    in_place (map (λ x. x.1) xs) (position_or_len (bytes_eq f) (map (λ x. x.0) xs)) (length (map (λ x. x.0) xs)) (length-map xs (λ x. x.1) ∙ sym (length-map xs (λ x. x.0)))
    ∙ at_length f xs

pub field_is : (h : Held) (owner : Owner) (fields : Fields) (f : Bytes) → field_base (setting_in h) owner fields f ≡ first_named fields f
unfolding setting_in
field_is h owner fields f = by_place f fields

-- ---- types by number

vertex_fields_of : (sorts : Sorts) (t : ℕ) (s : VertexSort) → slice_get sorts.vertices t ≡ Some s → vertex_fields sorts t ≡ s.fields
vertex_fields_of sorts t s e = rw e refl

no_vertex_fields : (sorts : Sorts) (t : ℕ) → slice_get sorts.vertices t ≡ None → vertex_fields sorts t ≡ []
no_vertex_fields sorts t e = rw e refl

edge_fields_of : (sorts : Sorts) (t : ℕ) (s : EdgeSort) → slice_get sorts.edges t ≡ Some s → edge_fields sorts t ≡ s.fields
edge_fields_of sorts t s e = rw e refl

no_edge_fields : (sorts : Sorts) (t : ℕ) → slice_get sorts.edges t ≡ None → edge_fields sorts t ≡ []
no_edge_fields sorts t e = rw e refl

slice_get_map : {A B : Type 0} (f : A → B) (xs : List A) (n : ℕ) → slice_get (map f xs) n ≡ option_map f (slice_get xs n)
slice_get_map f [] n = refl
slice_get_map f (x ∷ xs) zero = refl
slice_get_map f (x ∷ xs) (suc n) = slice_get_map f xs n

pub vertex_field_is : (h : Held) (owner : Owner) (t : ℕ) (f : Bytes) (v : VertexType) → slice_get h.schema.vertex_types t ≡ Some v
    → first_named (with_id v.id (attribute_fields v.attributes)) f ≡ field_base (setting_in h) owner (vertex_fields (setting_in h).sorts t) f
unfolding setting_in sorts_in
vertex_field_is h owner t f v at =
    sym (by_place f (with_id v.id (attribute_fields v.attributes)))
    ∙ ap (λ (fields : Fields). field_base (setting_in h) owner fields f)
    (sym (vertex_fields_of (sorts_in h) t (vertex_sort v) (slice_get_map vertex_sort h.schema.vertex_types t ∙ ap (option_map vertex_sort) at)))

pub no_vertex_field : (h : Held) (owner : Owner) (t : ℕ) (f : Bytes) → length h.schema.vertex_types ≤ t → None ≡ field_base (setting_in h) owner (vertex_fields (setting_in h).sorts t) f
unfolding setting_in sorts_in
no_vertex_field h owner t f over =
    sym (by_place f [])
    ∙ ap (λ (fields : Fields). field_base (setting_in h) owner fields f)
    (sym (no_vertex_fields (sorts_in h) t (slice_get_map vertex_sort h.schema.vertex_types t ∙ ap (option_map vertex_sort) (slice_get_past h.schema.vertex_types t over))))

pub edge_field_is : (h : Held) (owner : Owner) (t : ℕ) (f : Bytes) (e : EdgeType) → slice_get h.schema.edge_types t ≡ Some e
    → first_named (attribute_fields e.attributes) f ≡ field_base (setting_in h) owner (edge_fields (setting_in h).sorts t) f
unfolding setting_in sorts_in
edge_field_is h owner t f e at =
    sym (by_place f (attribute_fields e.attributes))
    ∙ ap (λ (fields : Fields). field_base (setting_in h) owner fields f)
    (sym (edge_fields_of (sorts_in h) t (edge_sort e) (slice_get_map edge_sort h.schema.edge_types t ∙ ap (option_map edge_sort) at)))

pub no_edge_field : (h : Held) (owner : Owner) (t : ℕ) (f : Bytes) → length h.schema.edge_types ≤ t → None ≡ field_base (setting_in h) owner (edge_fields (setting_in h).sorts t) f
unfolding setting_in sorts_in
no_edge_field h owner t f over =
    sym (by_place f [])
    ∙ ap (λ (fields : Fields). field_base (setting_in h) owner fields f)
    (sym (no_edge_fields (sorts_in h) t (slice_get_map edge_sort h.schema.edge_types t ∙ ap (option_map edge_sort) (slice_get_past h.schema.edge_types t over))))

-- ---- tuple types by number

tuple_fields_of : (setting : Setting Bytes) (n : ℕ) (o : Option (Bytes × Fields)) → slice_get setting.tuples n ≡ o → tuple_fields setting n ≡ unwrap_or (option_map (λ (t : Bytes × Fields). t.1) o) []
tuple_fields_of setting n None e = rw e refl
tuple_fields_of setting n (Some t) e = rw e refl

pub tuple_field_is : (h : Held) (owner : Owner) (n : ℕ) (f : Bytes) (o : Option Fields) → o ≡ option_map (λ (t : Bytes × Fields). t.1) (slice_get (setting_in h).tuples n)
    → first_named (unwrap_or o []) f ≡ field_base (setting_in h) owner (tuple_fields (setting_in h) n) f
tuple_field_is h owner n f o at =
    ap (λ (p : Option Fields). first_named (unwrap_or p []) f) at
    ∙ ap (λ (fields : Fields). first_named fields f) (sym (tuple_fields_of (setting_in h) n (slice_get (setting_in h).tuples n) refl))
    ∙ sym (field_is h owner (tuple_fields (setting_in h) n) f)

-- ---- parts

part_names : (ps : List (Bytes × Kind)) → names_of_parts (parts_are ps) ≡ map (λ (p : Bytes × Accum). p.0) (map {A = Bytes × Kind} {B = Bytes × Accum} (λ p. (p.0, accum_of p.1)) ps)
part_names [] = refl
part_names (p ∷ ps) = ap (λ ns. p.0 ∷ ns) (part_names ps)

part_kinds : (ps : List (Bytes × Kind)) → kinds_in (parts_are ps) ≡ map (λ (p : Bytes × Accum). p.1) (map {A = Bytes × Kind} {B = Bytes × Accum} (λ p. (p.0, accum_of p.1)) ps)
part_kinds [] = refl
part_kinds (p ∷ ps) = ap (λ ks. accum_of p.1 ∷ ks) (part_kinds ps)

pub parts_read : (h : Held) (ps : List (Bytes × Kind)) (f : Bytes)
    → part_read f (first_named (map {A = Bytes × Kind} {B = Bytes × Accum} (λ p. (p.0, accum_of p.1)) ps) f) ≡ of_parts (setting_in h) (parts_are ps) f
unfolding setting_in
parts_read h ps f =
    let pairs = map {A = Bytes × Kind} {B = Bytes × Accum} (λ p. (p.0, accum_of p.1)) ps in
    ap (part_read f)
    (sym (by_place f pairs) ∙ ap (λ (ks : List Accum). at_place ks (place_of (map (λ (p : Bytes × Accum). p.0) pairs) f)) (sym (part_kinds ps))
    ∙ ap (λ (ns : List Bytes). at_place (kinds_in (parts_are ps)) (place_of ns f)) (sym (part_names ps)))

-- ---- several types

none_agrees : (bs : List (Option Base)) → one_base (None ∷ bs) ≡ None
none_agrees [] = refl
none_agrees (b ∷ bs) = refl

one_chain : (b : Base) (bs : List (Option Base)) → one_base (Some b ∷ bs) ≡ cond (chained b bs) (Some b) None
one_chain b [] = refl
one_chain b (None ∷ bs) = ap (agreed (Some b)) (none_agrees bs)
one_chain b (Some c ∷ bs) = ap (agreed (Some b)) (one_chain c bs) ∙ step (chained c bs) (same_base b c)
  where
    step : (t s : Bool) → agreed (Some b) (cond t (Some c) None) ≡ cond (same_base b c && t) (Some b) None
    step true s = both (same_base b c)
      where
        both : (r : Bool) → cond r (Some b) None ≡ cond (r && true) (Some b) None
        both true = refl
        both false = refl
    step false s = none (same_base b c)
      where
        none : (r : Bool) → None ≡ cond (r && false) (Some b) None
        none true = refl
        none false = refl

behind : (F : ℕ → Option Base) (t : ℕ) (ts : List ℕ) → map F (take (length (t ∷ ts) - 1) (drop 1 (t ∷ ts))) ≡ map F ts
behind F t ts = ap (λ n. map F (take n ts)) (let e : suc (length ts) - 1 ≡ length ts = omega arith in e) ∙ ap (map F) (take-length ts)

-- there are some types if the list isn't empty
pub some_types : (ts : List ℕ) (t : Bool) → t ≡ (length ts == 0) → t ≡ false → 0 < length ts
some_types [] t is not = absurd (let e : true ≡ false = cc in cc)
some_types (x ∷ xs) t is not = omega arith

pub one_then : (F : ℕ → Option Base) (types : List ℕ) (b : Base) (t : Bool) → 0 < length types → Some b ≡ F (get_or types 0 0)
    → t ≡ chained b (map F (take (length types - 1) (drop 1 types))) → t ≡ true → Some b ≡ one_base (map F types)
one_then F [] b t some at all is = absurd (omega arith)
one_then F (x ∷ xs) b t some at all is =
    sym (ap (λ o. one_base (o ∷ map F xs)) (sym at) ∙ one_chain b (map F xs) ∙ ap (λ r. cond r (Some b) None) (sym (ap (chained b) (behind F x xs)) ∙ sym all ∙ is))

pub one_else : (F : ℕ → Option Base) (types : List ℕ) (b : Base) (t : Bool) → 0 < length types → Some b ≡ F (get_or types 0 0)
    → t ≡ chained b (map F (take (length types - 1) (drop 1 types))) → t ≡ false → None ≡ one_base (map F types)
one_else F [] b t some at all is = absurd (omega arith)
one_else F (x ∷ xs) b t some at all is =
    sym (ap (λ o. one_base (o ∷ map F xs)) (sym at) ∙ one_chain b (map F xs) ∙ ap (λ r. cond r (Some b) None) (sym (ap (chained b) (behind F x xs)) ∙ sym all ∙ is))

pub one_none : (F : ℕ → Option Base) (types : List ℕ) → None ≡ F (get_or types 0 0) → 0 < length types → None ≡ one_base (map F types)
one_none F [] at some = absurd (omega arith)
one_none F (x ∷ xs) at some = sym (ap (λ o. one_base (o ∷ map F xs)) (sym at) ∙ none_agrees (map F xs))
