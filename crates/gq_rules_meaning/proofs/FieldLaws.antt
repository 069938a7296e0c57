-- FieldLaws: fields of vertices, edges, tuples and group rows have their types.
use Rattle.std.proofs.Common.{◌≡◌, ℕ, zero, suc, Bool, true, false, List, [], ◌∷◌, map, Option, Some, None, Ok, refl, ap, sym, ◌∙◌, subst}
use Rattle.std.specs.Prelude.{◌||◌, ◌==◌, if◌then◌else◌, slice_get}
use Rattle.std.specs.List.{list_any}
use Rattle.gq_value.specs.Val.{Val, Vals, Tuple, list_of, none, more}
use Rattle.gq_value.specs.Accums.{Base, STRING, TUPLE, Bases, Accum, Parts, no_part, part_and}
use Rattle.gq_value.specs.AccumViews.{bases}
use Rattle.gq_graph.specs.Candidates.{among, is_target}
use Rattle.gq_rules_typing.specs.Holds.{HoldsEach}
use Rattle.gq_rules_typing.specs.Sorts.{Fields, VertexSort, EdgeSort, names_of, bases_of, vertex_fields, edge_fields}
use Rattle.gq_rules_typing.specs.Words.{OfVertexType, OfEdgeType, OfTupleType, OfParts, names_of_parts}
use Rattle.gq_rules_typing.specs.Judging.{Typed, Of, GroupRow, Judged, NoAttribute, or_fault}
use Rattle.gq_rules_typing.specs.Types.{same_base}
use Rattle.gq_rules_typing.specs.Kinds.{read_type, kinds_in}
use Rattle.gq_rules_typing.specs.FieldTypes.{tuple_fields, at_place, field_base, agreed, one_base, of_vertices, of_edges, field_type}
use Rattle.gq_rules_meaning.specs.Answers.{Answer, Gives, Faults, Stuck, found}
use Rattle.gq_rules_meaning.specs.Answers as answers
use Rattle.gq_rules_meaning.specs.Meanings.{Is, IsRow, said, read}
use Rattle.gq_rules_meaning.specs.Expressions.{World, setting}
use Rattle.gq_rules_meaning.specs.States.{value_at, part_at, vertex_field, edge_field, field_of}
use Rattle.gq_rules_meaning.specs.Fitting.{Safe, is_value, are_values, row_is, HoldValues, is_row_of, VertexFits, EdgeFits, WorldFits, Suits}
use Rattle.gq_rules_meaning.proofs.AnswerLaws.{safe_found, then_ok, or_fault_ok, ok_inj, some_inj, and_ok, both_ok}
use Rattle.gq_rules_meaning.proofs.ValueLaws.{same_number, same_base_is, same_bases_are, IsValue}
use Rattle.gq_rules_meaning.proofs.ContentLaws.{read_suits}

-- ---- one type of several

agreed_is : (b c : Option Base) (d : Base) → agreed b c ≡ Some d → (b ≡ Some d) × (c ≡ Some d)
agreed_is (Some b) (Some c) d h = go (same_base b c) refl h
  where
    go : (t : Bool) → same_base b c ≡ t → (if t then Some b else None) ≡ Some d → (Some b ≡ Some d) × (Some c ≡ Some d)
    go true e h = let f = same_base_is b c e in (h, ap Some (sym f) ∙ h)
    go false e h = cc
agreed_is None c d h = cc
agreed_is (Some b) None d h = cc

-- each of several types has the attribute, with the one type
one_base_at : (f : ℕ → Option Base) (ts : List ℕ) (b : Base) (t : ℕ) → one_base (map f ts) ≡ Some b → among ts t ≡ true → f t ≡ Some b
one_base_at f [] b t h k = cc
one_base_at f (u ∷ []) b t h k = go (u == t) refl k
  where
    go : (q : Bool) → (u == t) ≡ q → (q || list_any (λ m. m == t) []) ≡ true → f t ≡ Some b
    go true e k = subst (λ z. f z ≡ Some b) (same_number u t e) h
    go false e k = cc
one_base_at f (u ∷ w ∷ ts) b t h k = go (u == t) refl k (λ k. one_base_at f (w ∷ ts) b t (agreed_is (f u) (one_base (map f (w ∷ ts))) b h).1 k)
  where
    go : (q : Bool) → (u == t) ≡ q → (q || list_any (λ m. m == t) (w ∷ ts)) ≡ true → (among (w ∷ ts) t ≡ true → f t ≡ Some b) → f t ≡ Some b
    go true e k rest = subst (λ z. f z ≡ Some b) (same_number u t e) (agreed_is (f u) (one_base (map f (w ∷ ts))) b h).0
    go false e k rest = rest k

-- ---- the type of a vertex

kind_among : List ℕ → Option ℕ → Bool
kind_among types None = false
kind_among types (Some t) = among types t

pub target_kind : (kinds types : List ℕ) (v : ℕ) → is_target kinds types v ≡ true → (t : ℕ) × (slice_get kinds v ≡ Some t) × (among types t ≡ true)
unfolding kind_among
target_kind kinds types v h = go (slice_get kinds v) refl h
  where
    go : (o : Option ℕ) → slice_get kinds v ≡ o → kind_among types o ≡ true → (t : ℕ) × (slice_get kinds v ≡ Some t) × (among types t ≡ true)
    go (Some t) e h = (t, e, h)
    go None e h = cc

module _ {N : Type 0} (world : World N) where
  -- ---- rows of values

  -- the value at a place of a row has the type of the place
  row_at : (bs : List Base) (vs : List Val) (i : ℕ) (b : Base) → row_is world bs vs ≡ true → slice_get bs i ≡ Some b → (v : Val) × (slice_get vs i ≡ Some v) × (IsValue world b v)
  row_at [] [] i b h e = cc
  row_at (c ∷ bs) (v ∷ vs) zero b h e = (v, refl, subst (λ d. IsValue world d v) (some_inj e) (and_ok _ _ h).0)
  row_at (c ∷ bs) (v ∷ vs) (suc i) b h e = row_at bs vs i b (and_ok _ _ h).1 e
  row_at [] (v ∷ vs) i b h e = cc
  row_at (c ∷ bs) [] i b h e = cc

  value_safe : (bs : List Base) (vs : List Val) (n : Option ℕ) (b : Base) → row_is world bs vs ≡ true → at_place bs n ≡ Some b → Safe (Suits world (Of b)) (value_at bs vs n)
  value_safe bs vs None b h e = cc
  value_safe bs vs (Some i) b h e =
      let w = row_at bs vs i b h e in
      safe_found _ (slice_get bs i) b _ e (safe_found _ (slice_get vs i) w.0 _ w.1 (refl, w.2))

  -- the values of a tuple as a row
  tuple_row : (bs : List Base) (vs : Vals) → are_values world (bases bs) vs ≡ true → row_is world bs (list_of vs) ≡ true
  tuple_row [] none h = refl
  tuple_row (b ∷ bs) (more v vs) h = let w = and_ok (is_value world b v) (are_values world (bases bs) vs) h in both_ok _ _ w.0 (tuple_row bs vs w.1)
  tuple_row [] (more v vs) h = cc
  tuple_row (b ∷ bs) none h = cc

  -- ---- vertices

  abbrev Named : N → Type 0
  Named f = world.words.is_type f ≡ false

  -- by the name of its type, or by an attribute
  vertex_field_is : (f : N) (v t : ℕ) → slice_get world.graph.sight.kinds v ≡ Some t → VertexFits world v t → (ty : Typed) → (q : Bool) → world.words.is_type f ≡ q
      → (q ≡ true → ty ≡ Of STRING)
      → (q ≡ false → (b : Base) × (ty ≡ Of b) × (field_base (setting world) (OfVertexType t) (vertex_fields world.graph.sorts t) f ≡ Some b))
      → Safe (Suits world ty) (vertex_field world f v)
  vertex_field_is f v t k fits ty true e named field =
      safe_found _ (slice_get world.graph.sight.kinds v) t _ k (safe_found _ (slice_get world.graph.sorts.vertices t) fits.sort _ fits.is_sort
      (subst (λ q. Safe (Suits world ty) (if q then said fits.sort.name else (answers.◌>>=◌ (found (slice_get world.graph.vertex_values v)) (λ vs. value_at (bases_of fits.sort.fields) vs (world.words.field (OfVertexType t) (names_of fits.sort.fields) f))))) (sym e)
      (subst (λ ty. Safe (Suits world ty) (said fits.sort.name)) (sym (named refl)) (refl, refl))))
  vertex_field_is f v t k fits ty false e named field =
      let w = field refl in
      let place : at_place (bases_of fits.sort.fields) (world.words.field (OfVertexType t) (names_of fits.sort.fields) f) ≡ Some w.0 = sym (ap (λ o. field_base (setting world) (OfVertexType t) (of_sort o) f) fits.is_sort) ∙ w.2 in
      safe_found _ (slice_get world.graph.sight.kinds v) t _ k (safe_found _ (slice_get world.graph.sorts.vertices t) fits.sort _ fits.is_sort
      (subst (λ q. Safe (Suits world ty) (if q then said fits.sort.name else (answers.◌>>=◌ (found (slice_get world.graph.vertex_values v)) (λ vs. value_at (bases_of fits.sort.fields) vs (world.words.field (OfVertexType t) (names_of fits.sort.fields) f))))) (sym e)
      (safe_found _ (slice_get world.graph.vertex_values v) fits.values _ fits.are_values
      (subst (λ ty. Safe (Suits world ty) (value_at (bases_of fits.sort.fields) fits.values (world.words.field (OfVertexType t) (names_of fits.sort.fields) f))) (sym w.1)
      (value_safe (bases_of fits.sort.fields) fits.values _ w.0 fits.fit place)))))
    where
      of_sort : Option VertexSort → Fields
      of_sort None = []
      of_sort (Some s) = s.fields

  -- the part after a dot of vertices of these types: the name of the type, or one attribute of all
  behind_vertices : (f : N) (types : List ℕ) (t : ℕ) (ty : Typed) → among types t ≡ true → of_vertices (setting world) types f ≡ Ok ty → (b : Base) × (ty ≡ Of b) × (field_base (setting world) (OfVertexType t) (vertex_fields world.graph.sorts t) f ≡ Some b)
  behind_vertices f types t ty k e =
      let w = then_ok (field_fault (one_base (map field types))) _ ty e in
      (w.0, sym (ok_inj w.2), one_base_at field types w.0 t (or_fault_ok _ (one_base (map field types)) w.0 w.1) k)
    where
      field : ℕ → Option Base
      field t = field_base (setting world) (OfVertexType t) (vertex_fields world.graph.sorts t) f

      field_fault : Option Base → Judged Base
      field_fault o = or_fault (NoAttribute (world.words.said f)) o

  -- the part after a dot of one of these vertices
  pub vertex_behind : WorldFits world → (f : N) (types : List ℕ) (v : ℕ) (ty : Typed) → is_target world.graph.sight.kinds types v ≡ true
      → (world.words.is_type f ≡ true → ty ≡ Of STRING) → (world.words.is_type f ≡ false → of_vertices (setting world) types f ≡ Ok ty) → Safe (Suits world ty) (vertex_field world f v)
  vertex_behind fits f types v ty h named field =
      let k = target_kind world.graph.sight.kinds types v h in
      vertex_field_is f v k.0 k.1 (fits.vertices v k.0 k.1) ty (world.words.is_type f) refl named (λ e. behind_vertices f types k.0 ty k.2 (field e))

  -- ---- edges

  edge_field_is : (f : N) (r t : ℕ) → EdgeFits world r t → (ty : Typed) → (q : Bool) → world.words.is_type f ≡ q
      → (q ≡ true → ty ≡ Of STRING)
      → (q ≡ false → (b : Base) × (ty ≡ Of b) × (field_base (setting world) (OfEdgeType t) (edge_fields world.graph.sorts t) f ≡ Some b))
      → Safe (Suits world ty) (edge_field world f r t)
  edge_field_is f r t fits ty true e named field =
      safe_found _ (slice_get world.graph.sorts.edges t) fits.sort _ fits.is_sort
      (subst (λ q. Safe (Suits world ty) (if q then said fits.sort.name else (answers.◌>>=◌ (found (slice_get world.graph.edge_values r)) (λ vs. value_at (bases_of fits.sort.fields) vs (world.words.field (OfEdgeType t) (names_of fits.sort.fields) f))))) (sym e)
      (subst (λ ty. Safe (Suits world ty) (said fits.sort.name)) (sym (named refl)) (refl, refl)))
  edge_field_is f r t fits ty false e named field =
      let w = field refl in
      let place : at_place (bases_of fits.sort.fields) (world.words.field (OfEdgeType t) (names_of fits.sort.fields) f) ≡ Some w.0 = sym (ap (λ o. field_base (setting world) (OfEdgeType t) (of_sort o) f) fits.is_sort) ∙ w.2 in
      safe_found _ (slice_get world.graph.sorts.edges t) fits.sort _ fits.is_sort
      (subst (λ q. Safe (Suits world ty) (if q then said fits.sort.name else (answers.◌>>=◌ (found (slice_get world.graph.edge_values r)) (λ vs. value_at (bases_of fits.sort.fields) vs (world.words.field (OfEdgeType t) (names_of fits.sort.fields) f))))) (sym e)
      (safe_found _ (slice_get world.graph.edge_values r) fits.values _ fits.are_values
      (subst (λ ty. Safe (Suits world ty) (value_at (bases_of fits.sort.fields) fits.values (world.words.field (OfEdgeType t) (names_of fits.sort.fields) f))) (sym w.1)
      (value_safe (bases_of fits.sort.fields) fits.values _ w.0 fits.fit place))))
    where
      of_sort : Option EdgeSort → Fields
      of_sort None = []
      of_sort (Some s) = s.fields

  behind_edges : (f : N) (types : List ℕ) (t : ℕ) (ty : Typed) → among types t ≡ true → of_edges (setting world) types f ≡ Ok ty → (b : Base) × (ty ≡ Of b) × (field_base (setting world) (OfEdgeType t) (edge_fields world.graph.sorts t) f ≡ Some b)
  behind_edges f types t ty k e =
      let w = then_ok (field_fault (one_base (map field types))) _ ty e in
      (w.0, sym (ok_inj w.2), one_base_at field types w.0 t (or_fault_ok _ (one_base (map field types)) w.0 w.1) k)
    where
      field : ℕ → Option Base
      field t = field_base (setting world) (OfEdgeType t) (edge_fields world.graph.sorts t) f

      field_fault : Option Base → Judged Base
      field_fault o = or_fault (NoAttribute (world.words.said f)) o

  pub edge_behind : WorldFits world → (f : N) (types : List ℕ) (r t : ℕ) (ty : Typed) → is_row_of world.graph types r t ≡ true
      → (world.words.is_type f ≡ true → ty ≡ Of STRING) → (world.words.is_type f ≡ false → of_edges (setting world) types f ≡ Ok ty) → Safe (Suits world ty) (edge_field world f r t)
  edge_behind fits f types r t ty h named field =
      edge_field_is f r t (fits.edges r t types h) ty (world.words.is_type f) refl named (λ e. behind_edges f types t ty (and_ok (among types t) _ h).0 (field e))

  -- ---- tuples and group rows

  pub tuple_behind : (f : N) (n : ℕ) (bs : Bases) (vs : Vals) (ty : Typed) → IsValue world (TUPLE n bs) (Tuple vs) → field_type (setting world) (Of (TUPLE n bs)) f ≡ Ok ty → Safe (Suits world ty) (field_of world (Is (TUPLE n bs) (Tuple vs)) f)
  tuple_behind f n bs vs ty h e =
      let fields = tuple_fields (setting world) n in
      let u = and_ok (are_values world bs vs) _ h in
      let same : bs ≡ bases (bases_of fields) = same_bases_are bs (bases (bases_of fields)) u.1 in
      let row = tuple_row (bases_of fields) vs (subst (λ bs. are_values world bs vs ≡ true) same u.0) in
      let w = then_ok (or_fault (NoAttribute (world.words.said f)) (field_base (setting world) (OfTupleType n) fields f)) _ ty e in
      subst (λ ty. Safe (Suits world ty) (field_of world (Is (TUPLE n bs) (Tuple vs)) f)) (ok_inj w.2)
      (value_safe (bases_of fields) (list_of vs) _ w.0 row (or_fault_ok _ (field_base (setting world) (OfTupleType n) fields f) w.0 w.1))

  part_safe : (ps : Parts) (cs : HoldsEach ps) (i : ℕ) (k : Accum) → HoldValues world ps cs → slice_get (kinds_in ps) i ≡ Some k → Safe (Suits world (read_type k)) (part_at ps cs i)
  part_safe no_part cs i k h e = cc
  part_safe (part_and name j ps) cs zero k h e = subst (λ k. Suits world (read_type k) (read j cs.0)) (some_inj e) (read_suits world j cs.0 h.0)
  part_safe (part_and name j ps) cs (suc i) k h e = part_safe ps cs.1 i k h.1 e

  pub row_behind : (f : N) (ps : Parts) (cs : HoldsEach ps) (ty : Typed) → HoldValues world ps cs → field_type (setting world) (GroupRow ps) f ≡ Ok ty → Safe (Suits world ty) (field_of world (IsRow ps cs) f)
  row_behind f ps cs ty h e =
      let w = then_ok (or_fault (NoAttribute (world.words.said f)) (at_place (kinds_in ps) (world.words.field OfParts (names_of_parts ps) f))) _ ty e in
      subst (λ ty. Safe (Suits world ty) (field_of world (IsRow ps cs) f)) (ok_inj w.2) (at (world.words.field OfParts (names_of_parts ps) f) (or_fault_ok _ (at_place (kinds_in ps) (world.words.field OfParts (names_of_parts ps) f)) w.0 w.1))
    where
      at : (n : Option ℕ) {k : Accum} → at_place (kinds_in ps) n ≡ Some k → Safe (Suits world (read_type k)) (answers.◌>>=◌ (found n) (part_at ps cs))
      at None g = cc
      at (Some i) {k} g = part_safe ps cs i k h g
