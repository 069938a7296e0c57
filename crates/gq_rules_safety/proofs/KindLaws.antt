-- KindLaws: a kind as written depends only on the setting; typed queries and plans are never stuck.
use Rattle.std.proofs.Common.{◌≡◌, ℕ, Bool, true, false, List, [], ◌∷◌, Option, Some, None, Ok, refl, ap, sym, ◌∙◌, subst}
use Rattle.std.proofs.lemmas.Slice.Eq.{bytes_eq-Decides}
use Rattle.std.specs.Prelude.{◌&&◌, ◌-◌, if◌then◌else◌, nat_lt, nat_le}
use Rattle.gq_tree.specs.declared.kind.Plain.{Plain}
use Rattle.gq_tree.specs.declared.kind.Plain.TheVariants as plain
use Rattle.gq_tree.specs.declared.kind.Bits.{Bits}
use Rattle.gq_tree.specs.declared.kind.Bits.TheVariants as bits
use Rattle.gq_value.specs.declared.value.Wrong.{Wrong}
use Rattle.gq_value.specs.declared.kind.Number.{Number}
use Rattle.gq_value.specs.Accums.{Base, INT, UINT, BOOL, Accum, SumAccum, MinAccum, MaxAccum, MapAccum, GroupByAccum, HeapAccum, Parts}
use Rattle.gq_graph.specs.Candidates.{among}
use Rattle.gq_value.specs.Typed.{has_no_list, have_no_list}
use Rattle.gq_rules_typing.specs.Statements.{Bytes, Elem, OfBase, OfTuple, KindTree, OverElem, OverBits, Averaged, MapTo, MapToElem, Grouped, Heap, PartTrees, no_part_tree, part_tree_and}
use Rattle.gq_rules_typing.specs.Sorts.{names_of}
use Rattle.gq_rules_typing.specs.Words.{place_of, if_own}
use Rattle.gq_rules_typing.specs.Judging.{Judged, ◌>>=◌, ◌>>◌, unless, or_fault, BadKind, UnknownName}
use Rattle.gq_rules_typing.specs.FieldTypes.{tuple_fields}
use Rattle.gq_rules_typing.specs.Scopes.{Scope, unknown}
use Rattle.gq_rules_typing.specs.KindTypes.{fields_written, tuple_named, tuple_base, elem_written, optional_elem, over_number, over_elem, over_bits, is_key, sort_fields, part_name, level_left, kind_within, parts_within, kind_written}
use Rattle.gq_rules_meaning.specs.Answers.{Gives}
use Rattle.gq_rules_meaning.specs.Calendars.{Calendar}
use Rattle.gq_rules_meaning.specs.Graphs.{Graph}
use Rattle.gq_rules_meaning.specs.Expressions.{setting}
use Rattle.gq_rules_meaning.specs.Queries.{judged, scope_of, kind_of, world_of}
use Rattle.gq_rules_meaning.proofs.AnswerLaws.{then_ok, after_ok, checked, or_fault_ok, ok_inj, some_inj}
use Rattle.gq_rules_safety.specs.Matching.{WordsFit}
use Rattle.gq_rules_safety.specs.Laws.{PlanLaw, QueryLaw}
use Rattle.gq_rules_safety.proofs.QueryLaws.{KindsAgree, base_same, fields_same, over_safe}

join : {A B : Type 0} (r : Judged A) (f : A → Judged B) (a : A) (b : B) → r ≡ Ok a → f a ≡ Ok b → (r >>= f) ≡ Ok b
join r f a b e h = ap (λ r. r >>= f) e ∙ h

join_after : {A B : Type 0} (r : Judged A) (j : Judged B) (a : A) (b : B) → r ≡ Ok a → j ≡ Ok b → (r >> j) ≡ Ok b
join_after r j a b e h = ap (λ r. r >> j) e ∙ h

passes : {B : Type 0} (e f : _) (t : Bool) (s : Judged B) (b : B) → (unless e t >> s) ≡ Ok b → (unless f t >> s) ≡ Ok b
passes e f true s b h = h
passes e f false s b h = cc

elem_same : {N : Type 0} (s t : Scope N) (e : Elem N) → s.setting ≡ t.setting → elem_written s e ≡ elem_written t e
elem_same s t (OfBase b) h = base_same s t b h
elem_same s t (OfTuple x) h = ap (λ z. or_fault (UnknownName (z.words.said x)) (tuple_named z x) >>= λ n. Ok (tuple_base z n)) h

optional_same : {N : Type 0} (s t : Scope N) (e : Option (Elem N)) → s.setting ≡ t.setting → optional_elem s e ≡ optional_elem t e
optional_same s t None h = refl
optional_same s t (Some e) h = ap (λ r. r >>= λ b. Ok (Some b)) (elem_same s t e h)

number_same : (k : Number → Accum) (a b : Bytes) (c : Base) (kind : Accum) → over_number k a c ≡ Ok kind → over_number k b c ≡ Ok kind
number_same k a b INT kind e = e
number_same k a b UINT kind e = e
number_same k a b c kind e = cc

over_elem_same : (p : Plain) (a b : Bytes) (c : Base) (kind : Accum) → over_elem p a c ≡ Ok kind → over_elem p b c ≡ Ok kind
over_elem_same plain.Sum a b c kind e = number_same SumAccum a b c kind e
over_elem_same plain.Min a b c kind e = number_same MinAccum a b c kind e
over_elem_same plain.Max a b c kind e = number_same MaxAccum a b c kind e
over_elem_same plain.Set a b c kind e = e
over_elem_same plain.Bag a b c kind e = e
over_elem_same plain.List a b c kind e = e

over_bits_same : (k : Bits) (a b : Bytes) (c : Option Base) (kind : Accum) → over_bits k a c ≡ Ok kind → over_bits k b c ≡ Ok kind
over_bits_same bits.Or a b None kind e = e
over_bits_same bits.And a b None kind e = e
over_bits_same bits.BitwiseOr a b None kind e = e
over_bits_same bits.BitwiseAnd a b None kind e = e
over_bits_same bits.Or a b (Some BOOL) kind e = e
over_bits_same bits.And a b (Some BOOL) kind e = e
over_bits_same bits.BitwiseOr a b (Some INT) kind e = e
over_bits_same bits.BitwiseAnd a b (Some INT) kind e = e
over_bits_same k a b c kind e = cc

sort_same : (a b : Bytes) (names : List Bytes) (fs : List (Bytes × Bool)) (by : List (ℕ × Bool)) → sort_fields a names fs ≡ Ok by → sort_fields b names fs ≡ Ok by
sort_same a b names [] by e = e
sort_same a b names (f ∷ fs) by e =
    let i = then_ok (or_fault (BadKind a) (place_of names f.0) >>= λ i. Ok (i, f.1)) _ by e in
    let p = then_ok (or_fault (BadKind a) (place_of names f.0)) (λ i. Ok (i, f.1)) i.0 i.1 in
    let o = or_fault_ok (BadKind a) (place_of names f.0) p.0 p.1 in
    let r = then_ok (sort_fields a names fs) _ by i.2 in
    join (or_fault (BadKind b) (place_of names f.0) >>= λ i. Ok (i, f.1)) _ i.0 by (join (or_fault (BadKind b) (place_of names f.0)) (λ i. Ok (i, f.1)) p.0 i.0 (ap (or_fault (BadKind b)) o) p.2) (join (sort_fields b names fs) _ r.0 by (sort_same a b names fs r.0 r.1) r.2)

module _ {N : Type 0} (s t : Scope N) (a b : Bytes) (h : s.setting ≡ t.setting) where
  mutual
    pub kind_same : (n : ℕ) (k : KindTree N) (kind : Accum) → kind_within n s a k ≡ Ok kind → kind_within n t b k ≡ Ok kind
    kind_same n (OverElem p e) kind r =
        let c = then_ok (level_left n >> elem_written s e) (over_elem p a) kind r in let l = after_ok (level_left n) (elem_written s e) c.0 c.1 in
        join (level_left n >> elem_written t e) (over_elem p b) c.0 kind (join_after (level_left n) (elem_written t e) l.0.0 c.0 l.0.1 (sym (elem_same s t e h) ∙ l.1)) (over_elem_same p a b c.0 kind c.2)
    kind_same n (OverBits p e) kind r =
        let c = then_ok (level_left n >> optional_elem s e) (over_bits p a) kind r in let l = after_ok (level_left n) (optional_elem s e) c.0 c.1 in
        join (level_left n >> optional_elem t e) (over_bits p b) c.0 kind (join_after (level_left n) (optional_elem t e) l.0.0 c.0 l.0.1 (sym (optional_same s t e h) ∙ l.1)) (over_bits_same p a b c.0 kind c.2)
    kind_same n Averaged kind r = r
    kind_same n (MapTo e k) kind r =
        let c = then_ok (level_left n >> elem_written s e) _ kind r in let l = after_ok (level_left n) (elem_written s e) c.0 c.1 in
        let v = then_ok (kind_within (n - 1) s a k) _ kind c.2 in
        join (level_left n >> elem_written t e) _ c.0 kind (join_after (level_left n) (elem_written t e) l.0.0 c.0 l.0.1 (sym (elem_same s t e h) ∙ l.1))
        (join (kind_within (n - 1) t b k) _ v.0 kind (kind_same (n - 1) k v.0 v.1) (passes (BadKind a) (BadKind b) (is_key c.0 && has_no_list v.0) (Ok (MapAccum c.0 v.0)) kind v.2))
    kind_same n (MapToElem e g) kind r =
        let c = then_ok (level_left n >> elem_written s e) _ kind r in let l = after_ok (level_left n) (elem_written s e) c.0 c.1 in
        let d = then_ok (elem_written s g) _ kind c.2 in
        let v = then_ok (unless (BadKind a) (is_key c.0) >> over_number SumAccum a d.0) _ kind d.2 in
        join (level_left n >> elem_written t e) _ c.0 kind (join_after (level_left n) (elem_written t e) l.0.0 c.0 l.0.1 (sym (elem_same s t e h) ∙ l.1))
        (join (elem_written t g) _ d.0 kind (sym (elem_same s t g h) ∙ d.1)
        (join (unless (BadKind b) (is_key c.0) >> over_number SumAccum b d.0) _ v.0 kind (number_after (is_key c.0) d.0 v.0 v.1) v.2))
      where
        number_after : (q : Bool) (d : Base) (v : Accum) → (unless (BadKind a) q >> over_number SumAccum a d) ≡ Ok v → (unless (BadKind b) q >> over_number SumAccum b d) ≡ Ok v
        number_after true d v e = number_same SumAccum a b d v e
        number_after false d v e = cc
    kind_same n (Grouped keys ps) kind r =
        let ks = then_ok (level_left n >> fields_written s 8 [] keys) _ kind r in let l = after_ok (level_left n) (fields_written s 8 [] keys) ks.0 ks.1 in
        let qs = then_ok (parts_within (n - 1) s a (names_of ks.0) [] ps) _ kind ks.2 in
        join (level_left n >> fields_written t 8 [] keys) _ ks.0 kind (join_after (level_left n) (fields_written t 8 [] keys) l.0.0 ks.0 l.0.1 (sym (fields_same s t 8 [] keys h) ∙ l.1))
        (join (parts_within (n - 1) t b (names_of ks.0) [] ps) _ qs.0 kind (parts_same (n - 1) (names_of ks.0) [] ps qs.0 qs.1) (passes (BadKind a) (BadKind b) (have_no_list qs.0) (Ok (GroupByAccum ks.0 qs.0)) kind qs.2))
    kind_same n (Heap x capacity order) kind r =
        let m = then_ok (level_left n >> or_fault (unknown s x) (tuple_named s.setting x)) _ kind r in let l = after_ok (level_left n) (or_fault (unknown s x) (tuple_named s.setting x)) m.0 m.1 in
        let o = then_ok (unless (BadKind a) (nat_lt 0 capacity && nat_le capacity 1000000) >> sort_fields a (names_of (tuple_fields s.setting m.0)) order) _ kind m.2 in
        let u = checked (BadKind a) (nat_lt 0 capacity && nat_le capacity 1000000) (sort_fields a (names_of (tuple_fields s.setting m.0)) order) o.0 o.1 in
        join (level_left n >> or_fault (unknown t x) (tuple_named t.setting x)) _ m.0 kind (join_after (level_left n) (or_fault (unknown t x) (tuple_named t.setting x)) l.0.0 m.0 l.0.1 (sym (ap (λ z. or_fault (UnknownName (z.words.said x)) (tuple_named z x)) h) ∙ l.1))
        (join (unless (BadKind b) (nat_lt 0 capacity && nat_le capacity 1000000) >> sort_fields b (names_of (tuple_fields t.setting m.0)) order) _ o.0 kind
        (ap (λ q. unless (BadKind b) q >> sort_fields b (names_of (tuple_fields t.setting m.0)) order) u.0 ∙ sort_same a b (names_of (tuple_fields t.setting m.0)) order o.0 (subst (λ z. sort_fields a (names_of (tuple_fields z m.0)) order ≡ Ok o.0) h u.1))
        (subst (λ z. ◌≡◌ {A = Judged Accum} (Ok (HeapAccum (tuple_base z m.0) capacity o.0)) (Ok kind)) h o.2))

    parts_same : (n : ℕ) (keys names : List Bytes) (ps : PartTrees N) (qs : Parts) → parts_within n s a keys names ps ≡ Ok qs → parts_within n t b keys names ps ≡ Ok qs
    parts_same n keys names no_part_tree qs r = r
    parts_same n keys names (part_tree_and k name ps) qs r =
        let kind = then_ok (kind_within n s a k) _ qs r in let more = then_ok (part_name keys names name) _ qs kind.2 in let rest = then_ok (parts_within n s a keys more.0 ps) _ qs more.2 in
        join (kind_within n t b k) _ kind.0 qs (kind_same n k kind.0 kind.1) (join (part_name keys names name) _ more.0 qs more.1 (join (parts_within n t b keys more.0 ps) _ rest.0 qs (parts_same n keys more.0 ps rest.0 rest.1) rest.2))

pub plan_law : (N : Type 0) → PlanLaw N
plan_law N world words stores q t e arguments a turns = over_safe world words stores (λ s a k. Ok k) (λ w k. Gives k) (λ s w a k kind z e. ap Gives (ok_inj e)) q t e arguments a turns

kinds_agree : KindsAgree {N = Bytes} {K = KindTree Bytes} kind_written kind_of
kinds_agree s world a k kind z e = ap (judged {F = Wrong}) (kind_same s (scope_of (setting world)) a [] z 8 k kind e)

-- ---- words by name

own_is : (ns : List ℕ) (o : Option ℕ) (t : ℕ) → if_own ns o ≡ Some t → among ns t ≡ true
own_is ns None t e = cc
own_is ns (Some n) t e = go (among ns n) refl e
  where
    go : (b : Bool) → among ns n ≡ b → (if b then Some n else None) ≡ Some t → among ns t ≡ true
    go true f e = subst (λ z. among ns z ≡ true) (some_inj e) f
    go false f e = cc

words_by_name : (g : Graph) (clock : Calendar) → WordsFit (world_of g clock)
words_by_name g clock = record {
  same = λ x y e. (bytes_eq-Decides x y).0 e;
  vertex_type = λ x t e. own_is g.sorts.own_vertices _ t e;
  edge_type = λ x t e. own_is g.sorts.own_edges _ t e;
}

pub query_law : QueryLaw
query_law g clock stores q t e arguments a turns = over_safe (world_of g clock) (words_by_name g clock) stores kind_written kind_of kinds_agree q t e arguments a turns

pub plan_law_by_name : PlanLaw Bytes
plan_law_by_name = plan_law Bytes
