-- ValueFits: arguments that denote values denote values of their parameters' types.
use Rattle.std.proofs.Common.{◌≡◌, ℕ, Bool, true, false, List, [], ◌∷◌, get_or, Option, Some, None, refl, ap, ap₂, sym, ◌∙◌, subst, eq-eqb}
use Rattle.std.proofs.lemmas.Bool.{eqb-true}
use Rattle.std.proofs.lemmas.List.Quantifiers.{position-Some}
use Rattle.std.proofs.lemmas.Option.{slice_get-map, slice_get-get_or}
use Rattle.std.specs.Prelude.{◌&&◌, ◌||◌, ◌==◌, if◌then◌else◌, map, slice_get}
use Rattle.std.specs.Option.{option_map}
use Rattle.gq_value.specs.declared.kind.Number.TheVariants as number
use Rattle.gq_value.specs.Val.{Val, Int, UInt, Truth, Text, Vertex}
use Rattle.gq_value.specs.Arithmetic.{is_within}
use Rattle.gq_value.specs.Accums.{Base, INT, UINT, BOOL, STRING, VERTEX, VERTEX_OF}
use Rattle.gq_graph.specs.Candidates.{among, is_target}
use Rattle.gq_graph.specs.Catalog.{Schema}
use Rattle.gq_graph.specs.Vertices.{is_vertex, vertex_number, no_vertex}
use Rattle.gq_graph.specs.declared.types.GraphType.{GraphType}
use Rattle.gq_graph.specs.declared.rows.VertexRow.{VertexRow}
use Rattle.gq_graph.specs.declared.rows.EdgeRow.{EdgeRow}
use Rattle.gq_rules_typing.specs.Statements.{Bytes, BaseTree, Ints, UInts, Bools, Strings, AnyVertex, VertexOf, Literal, Signed, Quoted, Truthful, Parameter}
use Rattle.gq_rules_typing.specs.Sorts.{Sorts, sorts_of}
use Rattle.gq_rules_typing.specs.Words.{if_own, by_name}
use Rattle.gq_rules_typing.specs.Signed.{signed}
use Rattle.gq_value.specs.declared.value.Wrong.{Wrong}
use Rattle.gq_rules_meaning.specs.Answers.{Answer, Gives, ◌>>=◌, found}
use Rattle.gq_rules_meaning.specs.Calendars.{Calendar}
use Rattle.gq_rules_meaning.specs.Expressions.{World}
use Rattle.gq_rules_meaning.specs.Graphs.{Graph, graph_of}
use Rattle.gq_rules_meaning.specs.Queries.{world_of}
use Rattle.gq_rules_meaning.specs.Statements.{base_of_tree}
use Rattle.gq_rules_meaning.specs.Fitting.{is_value}
use Rattle.gq_rules_meaning.specs.Arguments.{Argument, OfLiteral, OfVertex, a_vertex, vertex_in, number_id, if_fits, literal_value, argument_value, in_order, by_members, Values, AllValues, BadArgument, value_and, values_of}
use Rattle.gq_rules_safety.specs.Laws.{ArgumentsFit}
use Rattle.gq_rules_store.specs.Values.{OrderLaw, MemberLaw}

some_same : {A : Type 0} (x y : A) → Some x ≡ Some y → x ≡ y
some_same x y e = cc

both : (p q : Bool) → (p && q) ≡ true → (p ≡ true) × (q ≡ true)
both true q e = (refl, e)
both false q e = absurd (cc e)

own_known : (own : List ℕ) (o : Option ℕ) (t : ℕ) → if_own own o ≡ Some t → among own t ≡ true
own_known own None t e = absurd (cc e)
own_known own (Some n) t e = go (among own n) refl e
  where
    go : (b : Bool) → among own n ≡ b → (if b then Some n else None) ≡ Some t → among own t ≡ true
    go true f e = let P : ℕ → Type 0 = λ z. among own z ≡ true in subst P (some_same n t e) f
    go false f e = absurd (cc e)

-- an argument for each parameter
abbrev AsMany : List (Parameter Bytes) → List Argument → Type 0
AsMany [] [] = Unit {0}
AsMany (p ∷ ps) (a ∷ arguments) = AsMany ps arguments
AsMany ps arguments = ⊥

module _ (schema : Schema) (own : Option GraphType) (vertices : List VertexRow) (edges : List EdgeRow) (clock : Calendar) where
  abbrev sorts : Sorts
  sorts = sorts_of schema own

  abbrev graph : Graph
  graph = graph_of schema own vertices edges

  abbrev world : World Bytes
  world = world_of graph clock

  -- ---- vertices

  abbrev target_by : List ℕ → Option ℕ → Bool
  target_by types None = false
  target_by types (Some t) = among types t

  target_is : (types : List ℕ) (v t : ℕ) → slice_get graph.sight.kinds v ≡ Some t → is_target graph.sight.kinds types v ≡ among types t
  target_is types v t e = ap (target_by types) e

  kind_is : (t v : ℕ) (id : Bytes) → vertex_number vertices t id ≡ Some v → slice_get graph.sight.kinds v ≡ Some t
  kind_is t v id e =
      let p = position-Some (is_vertex t id) vertices v no_vertex e in
      let k = both ((get_or vertices v no_vertex).kind == t) _ p.1 in
      slice_get-map (λ (r : VertexRow). r.kind) vertices v ∙ ap (option_map (λ (r : VertexRow). r.kind)) (slice_get-get_or vertices v no_vertex p.0) ∙ ap Some (eqb-true (get_or vertices v no_vertex).kind t k.0)

  abbrev IsVertex : Bytes → Val → Type 0
  IsVertex type v = (t : ℕ) × ((by_name sorts).vertex_type type ≡ Some t) × (is_value world (VERTEX_OF t) v ≡ true) × (is_value world VERTEX v ≡ true)

  vertex_is : (type id : Bytes) (v : Val) → vertex_in sorts vertices type id ≡ Some v → IsVertex type v
  vertex_is type id v e = go ((by_name sorts).vertex_type type) refl e
    where
      of_type : Option ℕ → Option Val
      of_type None = None
      of_type (Some t) = a_vertex (vertex_number vertices t id)

      is : (t n : ℕ) → (by_name sorts).vertex_type type ≡ Some t → vertex_number vertices t id ≡ Some n → Vertex n ≡ v → IsVertex type v
      is t n f k e =
          let o : among sorts.own_vertices t ≡ true = own_known sorts.own_vertices _ t f in
          let own_target : is_target graph.sight.kinds sorts.own_vertices n ≡ true = target_is sorts.own_vertices n t (kind_is t n id k) ∙ o in
          let its_target : is_target graph.sight.kinds (t ∷ []) n ≡ true = target_is (t ∷ []) n t (kind_is t n id k) ∙ ap (λ q. q || false) (eq-eqb t t refl) in
          subst (IsVertex type) e (t, f, ap₂ (λ p q. p && q) its_target own_target, own_target)

      go : (o : Option ℕ) → (by_name sorts).vertex_type type ≡ o → of_type o ≡ Some v → IsVertex type v
      go None f e = absurd (cc e)
      go (Some t) f e = found (vertex_number vertices t id) refl e
        where
          found : (o : Option ℕ) → vertex_number vertices t id ≡ o → a_vertex o ≡ Some v → IsVertex type v
          found None k e = absurd (cc e)
          found (Some n) k e = is t n f k (some_same (Vertex n) v e)

  -- ---- one argument

  abbrev IsOf : BaseTree Bytes → Val → Type 0
  IsOf base v = (b : Base) → base_of_tree world base ≡ Gives b → is_value world b v ≡ true

  gives_same : (b c : Base) → ◌≡◌ {A = Answer Wrong Base} (Gives b) (Gives c) → b ≡ c
  gives_same b c e = cc

  fits_is : (q : Bool) (x v : Val) → if_fits q x ≡ Some v → x ≡ v
  fits_is true x v e = some_same x v e
  fits_is false x v e = absurd (cc e)

  is_of : (base : BaseTree Bytes) (c : Base) (x v : Val) → base_of_tree world base ≡ Gives c → is_value world c x ≡ true → x ≡ v → IsOf base v
  is_of base c x v k h e b g = subst (λ b. is_value world b v ≡ true) (gives_same c b (sym k ∙ g)) (subst (λ v. is_value world c v ≡ true) e h)

  vertex_of : (type id : Bytes) (v : Val) → vertex_in sorts vertices type id ≡ Some v → IsOf (VertexOf type) v
  vertex_of type id v e =
      let w = vertex_is type id v e in
      is_of (VertexOf type) (VERTEX_OF w.0) v v (ap (λ o. found {F = Wrong} o >>= λ n. Gives (VERTEX_OF n)) w.1) w.2 refl

  literal_is : (base : BaseTree Bytes) (l : Literal) (v : Val) → literal_value sorts vertices base l ≡ Some v → IsOf base v
  literal_is Ints (Signed minus n) v e = is_of Ints INT (Int (signed minus n)) v refl refl (fits_is (is_within number.Int (signed minus n)) (Int (signed minus n)) v e)
  literal_is UInts (Signed minus n) v e = is_of UInts UINT (UInt n) v refl refl (fits_is (is_within number.UInt (signed minus n)) (UInt n) v e)
  literal_is Bools (Truthful q) v e = is_of Bools BOOL (Truth q) v refl refl (some_same (Truth q) v e)
  literal_is Strings (Quoted s) v e = is_of Strings STRING (Text s) v refl refl (some_same (Text s) v e)
  literal_is (VertexOf type) (Quoted id) v e = vertex_of type id v e
  literal_is (VertexOf type) (Signed minus n) v e = vertex_of type (number_id minus n) v e
  literal_is base l v e = absurd (cc e)

  argument_is : (base : BaseTree Bytes) (a : Argument) (v : Val) → argument_value sorts vertices base a ≡ Some v → IsOf base v
  argument_is base (OfLiteral l) v e = literal_is base l v e
  argument_is AnyVertex (OfVertex id type) v e = let w = vertex_is type id v e in is_of AnyVertex VERTEX v v refl w.3 refl
  argument_is base a v e = absurd (cc e)

  -- ---- all of them

  all_same : (vs ws : List Val) → AllValues vs ≡ AllValues ws → vs ≡ ws
  all_same vs ws e = cc

  values_are : (ps : List (Parameter Bytes)) (arguments : List Argument) (vs : List Val) → AsMany ps arguments → values_of sorts vertices ps arguments ≡ AllValues vs → ArgumentsFit world ps vs
  values_are [] [] vs m e = subst (ArgumentsFit world []) (all_same [] vs e) tt
  values_are [] (a ∷ arguments) vs m e = absurd m
  values_are (p ∷ ps) [] vs m e = absurd m
  values_are (p ∷ ps) (a ∷ arguments) vs m e = go (argument_value sorts vertices p.base a) refl (values_of sorts vertices ps arguments) refl e (λ ws k. values_are ps arguments ws m k)
    where
      go : (o : Option Val) → argument_value sorts vertices p.base a ≡ o → (r : Values) → values_of sorts vertices ps arguments ≡ r → value_and o p.name r ≡ AllValues vs → ((ws : List Val) → values_of sorts vertices ps arguments ≡ AllValues ws → ArgumentsFit world ps ws) → ArgumentsFit world (p ∷ ps) vs
      go None f r k e rest = absurd (cc e)
      go (Some v) f (BadArgument x) k e rest = absurd (cc e)
      go (Some v) f (AllValues ws) k e rest = subst (ArgumentsFit world (p ∷ ps)) (all_same (v ∷ ws) vs e) (argument_is p.base a v f, rest ws k)

order_many : (ps : List (Parameter Bytes)) (arguments : List Argument) → AsMany ps (in_order ps arguments)
order_many [] arguments = tt
order_many (p ∷ ps) [] = order_many ps []
order_many (p ∷ ps) (a ∷ arguments) = order_many ps arguments

map_many : (f : Parameter Bytes → Argument) (ps : List (Parameter Bytes)) → AsMany ps (map f ps)
map_many f [] = tt
map_many f (p ∷ ps) = map_many f ps

pub order_law : OrderLaw
order_law schema own vertices edges clock ps arguments vs e = values_are schema own vertices edges clock ps (in_order ps arguments) vs (order_many ps arguments) e

pub member_law : MemberLaw
member_law schema own vertices edges clock ps members vs e = values_are schema own vertices edges clock ps (by_members ps members) vs (map_many _ ps) e
