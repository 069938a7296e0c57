-- HasLemmas: what is well typed has a plan: options with a value, lists, expressions, and names that a scope shows.
use Rattle.std.proofs.Common.{◌≡◌, ℕ, Bool, true, List, [], ◌∷◌, Option, Some, None, Ok, refl, ap, ◌∙◌, false, sym, subst, suc}
use Rattle.gq_tree.specs.Tree.{Tree, Trees, no_tree, tree}
use Rattle.gq_value.specs.Accums.{Base, Accum}
use Rattle.gq_scope.specs.Named.{Named, found_in, seen_at, place_at, marked_in, with_name}
use Rattle.gq_rules_typing.specs.Statements.{Bytes, BaseTree, Ints, UInts, Bools, Strings, AnyVertex, VertexOf}
use Rattle.gq_rules_typing.specs.Selecting.{Types, Every, These, Input, Plain, Keys, Inputs, no_input, input_and}
use Rattle.gq_rules_typing.specs.Judging.{Typed, Judged, ◌>>◌, each_judged, through_judged, NameTwice}
use Rattle.gq_rules_typing.specs.Types.{as_base}
use Rattle.gq_rules_typing.specs.ExpressionTypes.{Names, typing, typing_all, base_type, condition, number, converting}
use Rattle.gq_rules_typing.specs.ActTypes.{kinds_of, typing_input, typing_inputs, vertex_alias}
use Rattle.gq_rules_typing.specs.SelectTypes.{all_known, optional}
use Rattle.gq_rules_meaning.proofs.AnswerLaws.{then_ok, after_ok, unless_ok, or_fault_ok}
use Rattle.gq_plan_ir.specs.declared.block.Feed.TheVariants as feed
use Rattle.gq_plan_ir.specs.declared.block.Types.TheVariants as types
use Rattle.gq_plan_expr.specs.Known.{Known, KnowsAll, method_at}
use Rattle.gq_plan_expr.specs.Resolved as plans
use Rattle.gq_plan_expr.specs.Resolved.{resolved, resolved_all}
use Rattle.gq_plan_expr.proofs.TypedLaws.{typed_law}
use Rattle.gq_plan_select.specs.Resolved.{if_there, each_resolved, resolved_types, resolved_input, resolved_inputs}
use Rattle.gq_plan_stmt.specs.Steps.{Behind, when_new}
use Rattle.std.specs.Prelude.{not, is_some, if◌then◌else◌, bytes_eq}
use Rattle.std.specs.Option.{option_map}
use Rattle.std.proofs.lemmas.Slice.Eq.{bytes_eq-Decides}
use Rattle.gq_scope.specs.declared.places.NameBinding.{NameBinding}
use Rattle.gq_rules_typing.specs.Scopes.{Entry, Variable, SetVariable, Alias, EdgeAlias, Accumulator, TupleName, Place, Scope, entry, said, unknown, with_entry, new_name, name_at, declared_kind, global_at, before_at, names_at, base_written, vertex_type, edge_type}
use Rattle.gq_rules_typing.specs.SetTypes.{is_set, set_types}
use Rattle.gq_plan_ir.specs.declared.plan.Declared.TheVariants as declared
use Rattle.gq_plan_expr.specs.Globals.{Globals, known_in}
use Rattle.gq_plan_stmt.specs.Parts.{resolved_base}
use Rattle.gq_plan_stmt.specs.Steps as steps
use Rattle.gq_plan_laws.specs.Shown.{InView, IsShown, FindsWords, Shows}
use Rattle.gq_rules_typing.specs.Sorts.{Sorts, bases_of}
use Rattle.gq_rules_typing.specs.Words as words
use Rattle.gq_rules_typing.specs.Words.{by_name, under, methods, functions, function_from, edge_quoted}
use Rattle.gq_rules_meaning.specs.StateFits.{AllOf}
use Rattle.gq_plan_ir.specs.declared.expr.Function.TheVariants as function
use Rattle.gq_plan_expr.specs.Found.{TupleTypes, plain_fields, plain_tuples, field_types, tuple_from, own_function, own_if, language, or_language, globals_of}
use Rattle.gq_plan_laws.specs.Planned.{setting_of}

-- ---- options that have a value, and lists and expressions that have a plan if they are well typed

-- ---- options that have a value

abbrev pub Has : {A : Type 0} → Option A → Type 0
Has {A = A} o = (a : A) × (o ≡ Some a)

pub has_one : {A B : Type 0} (o : Option A) (f : A → B) → Has o → Has (plans.◌>>=◌ o (λ a. Some (f a)))
has_one o f h = (f h.0, ap (λ o. plans.◌>>=◌ o (λ a. Some (f a))) h.1)

pub has_two : {A B C : Type 0} (f : A → B → C) {o : Option A} {p : Option B} → Has o → Has p → Has (plans.◌>>=◌ o (λ a. plans.◌>>=◌ p (λ b. Some (f a b))))
has_two f h g = (f h.0 g.0, simp (h.1, g.1))

pub has_three : {A B C D : Type 0} (f : A → B → C → D) {o : Option A} {p : Option B} {q : Option C} → Has o → Has p → Has q → Has (plans.◌>>=◌ o (λ a. plans.◌>>=◌ p (λ b. plans.◌>>=◌ q (λ c. Some (f a b c)))))
has_three f h g i = (f h.0 g.0 i.0, simp (h.1, g.1, i.1))

pub has_four : {A B C D E : Type 0} (f : A → B → C → D → E) {o : Option A} {p : Option B} {q : Option C} {r : Option D} → Has o → Has p → Has q → Has r
    → Has (plans.◌>>=◌ o (λ a. plans.◌>>=◌ p (λ b. plans.◌>>=◌ q (λ c. plans.◌>>=◌ r (λ d. Some (f a b c d))))))
has_four f h g i j = (f h.0 g.0 i.0 j.0, simp (h.1, g.1, i.1, j.1))

-- ---- what is planned, with the names in view then, of which something holds

pub record Goes {A : Type 0} (After : Named → Type 0) (o : Option (Behind A)) : Type 0 where
  pub behind : Named
  pub planned : A
  pub is : o ≡ Some (behind, planned)
  pub after : After behind

pub goes_now : {A : Type 0} (After : Named → Type 0) (n : Named) (a : A) → After n → Goes After (Some (n, a))
goes_now After n a h = record { behind = n; planned = a; is = refl; after = h }

-- behind a part in which no name comes into view
pub has_goes : {A B : Type 0} (After : Named → Type 0) (o : Option A) (f : A → Option (Behind B)) → Has o → ((a : A) → Goes After (f a)) → Goes After (plans.◌>>=◌ o f)
has_goes {A = A} {B = B} After o f h g = let r = g h.0 in record { behind = r.behind; planned = r.planned; is = ap {A = Option A} {B = Option (Behind B)} (λ o. plans.◌>>=◌ o f) h.1 ∙ r.is; after = r.after }

-- behind a part in which names may
pub goes_then : {A B : Type 0} (Here After : Named → Type 0) (o : Option (Behind A)) (f : Behind A → Option (Behind B)) → Goes Here o → ((n : Named) (a : A) → Here n → Goes After (f (n, a))) → Goes After (plans.◌>>=◌ o f)
goes_then {A = A} {B = B} Here After o f h g =
    let r = g h.behind h.planned h.after in
    record { behind = r.behind; planned = r.planned; is = ap {A = Option (Behind A)} {B = Option (Behind B)} (λ o. plans.◌>>=◌ o f) h.is ∙ r.is; after = r.after }

-- what is made of it
pub goes_as : {A B : Type 0} (Here After : Named → Type 0) (o : Option (Behind A)) (f : A → B) → ((n : Named) → Here n → After n) → Goes Here o → Goes After (plans.◌>>=◌ o (λ b. Some (b.0, f b.1)))
goes_as {A = A} {B = B} Here After o f to h =
    record { behind = h.behind; planned = f h.planned; is = ap {A = Option (Behind A)} {B = Option (Behind B)} (λ o. plans.◌>>=◌ o (λ b. Some (b.0, f b.1))) h.is; after = to h.behind h.after }

-- the same names are in view
abbrev pub Same : Named → Named → Type 0
Same n m = m.visible ≡ n.visible

-- ---- rules that passed

abbrev pub Passes : {A : Type 0} → Judged A → Type 0
Passes {A = A} j = (a : A) × (j ≡ Ok a)

pub six_ok : {A B C D E F R : Type 0} (a : Judged A) (b : Judged B) (c : Judged C) (d : Judged D) (e : Judged E) (f : Judged F) (r : Judged R) (x : R) → (a >> b >> c >> d >> e >> f >> r) ≡ Ok x
    → Passes a × (Passes b × (Passes c × (Passes d × (Passes e × Passes f))))
six_ok a b c d e f r x h =
    let u = after_ok (a >> b >> c >> d >> e >> f) r x h in
    let v = after_ok (a >> b >> c >> d >> e) f u.0.0 u.0.1 in
    let w = after_ok (a >> b >> c >> d) e v.0.0 v.0.1 in
    let y = after_ok (a >> b >> c) d w.0.0 w.0.1 in
    let z = after_ok (a >> b) c y.0.0 y.0.1 in
    let q = after_ok a b z.0.0 z.0.1 in
    (q.0, ((z.0.0, q.1), ((y.0.0, z.1), ((w.0.0, y.1), ((v.0.0, w.1), (u.0.0, v.1))))))

-- ---- lists

pub each_has : {A B C : Type 0} (f : A → Option B) (r : A → Judged C) → ((a : A) (c : C) → r a ≡ Ok c → Has (f a)) → (xs : List A) (cs : List C) → each_judged r xs ≡ Ok cs → Has (each_resolved f xs)
each_has f r one [] cs h = ([], refl)
each_has f r one (a ∷ xs) cs h =
    let u = then_ok (r a) _ cs h in
    let v = then_ok (each_judged r xs) _ cs u.2 in
    has_two _ (one a u.0 u.1) (each_has f r one xs v.0 v.1)

pub through_has : {A B S : Type 0} (f : A → Option B) (r : S → A → Judged S) → ((s : S) (a : A) (t : S) → r s a ≡ Ok t → Has (f a)) → (xs : List A) (s t : S) → through_judged r s xs ≡ Ok t → Has (each_resolved f xs)
through_has f r one [] s t h = ([], refl)
through_has f r one (a ∷ xs) s t h =
    let u = then_ok (r s a) _ t h in
    has_two _ (one s a u.0 u.1) (through_has f r one xs u.0 t u.2)

pub types_have : (f : Bytes → Option ℕ) (r : Bytes → Judged ℕ) → ((x : Bytes) (m : ℕ) → r x ≡ Ok m → Has (f x)) → (ts : Types Bytes) (ns : List ℕ) → all_known r ts ≡ Ok ns → Has (resolved_types f ts)
types_have f r one Every ns h = (types.Every, refl)
types_have f r one (These names) ns h = has_one (each_resolved f names) types.These (each_has f r one names ns h)

-- ---- expressions

module _ (names : Names Bytes) (k : Known) (knows : KnowsAll names k) where
  pub tree_has : (t : Tree Bytes) (ty : Typed) → typing names t ≡ Ok ty → Has (resolved k t)
  tree_has t ty h = typed_law names k knows t ty h

  pub base_has : (t : Tree Bytes) (b : Base) → base_type names t ≡ Ok b → Has (resolved k t)
  base_has t b h = let u = then_ok (typing names t) as_base b h in tree_has t u.0 u.1

  pub condition_has : (t : Tree Bytes) (q : Bool) → condition names t ≡ Ok q → Has (resolved k t)
  condition_has t q h = let u = then_ok (base_type names t) _ q h in base_has t u.0 u.1

  pub number_has : (t : Tree Bytes) (b : Base) → number names t ≡ Ok b → Has (resolved k t)
  number_has t b h = let u = then_ok (base_type names t) _ b h in base_has t u.0 u.1

  pub converting_has : (want : Base) (t : Tree Bytes) (q : Bool) → converting names want t ≡ Ok q → Has (resolved k t)
  converting_has want t q h = let u = then_ok (base_type names t) _ q h in base_has t u.0 u.1

  pub all_have : (ts : Trees Bytes) (xs : List Typed) → typing_all names ts ≡ Ok xs → Has (resolved_all k ts)
  all_have no_tree xs h = ([], refl)
  all_have (tree t ts) xs h =
      let u = then_ok (typing names t) _ xs h in
      let v = then_ok (typing_all names ts) _ xs u.2 in
      has_two _ (tree_has t u.0 u.1) (all_have ts v.0 v.1)

  -- ---- inputs

  mutual
    pub input_has : (kind : Option Accum) (x : Input Bytes) (q : Bool) → typing_input names kind x ≡ Ok q → Has (resolved_input k x)
    input_has kind (Plain t) q h = let u = then_ok (base_type names t) _ q h in has_one (resolved k t) feed.One (base_has t u.0 u.1)
    input_has kind (Keys ts xs) q h =
        let u = then_ok (typing_all names ts) _ q h in
        let v = then_ok (typing_inputs names (kinds_of kind) xs >> each_judged as_base u.0) _ q u.2 in
        let w = after_ok (typing_inputs names (kinds_of kind) xs) (each_judged as_base u.0) v.0 v.1 in
        has_two _ (all_have ts u.0 u.1) (inputs_have (kinds_of kind) xs w.0.0 w.0.1)

    inputs_have : (ks : List Accum) (xs : Inputs Bytes) (q : Bool) → typing_inputs names ks xs ≡ Ok q → Has (resolved_inputs k xs)
    inputs_have ks no_input q h = ([], refl)
    inputs_have [] (input_and x xs) q h =
        let u = after_ok (typing_input names None x) (typing_inputs names [] xs) q h in
        has_two _ (input_has None x u.0.0 u.0.1) (inputs_have [] xs q u.1)
    inputs_have (j ∷ ks) (input_and x xs) q h =
        let u = after_ok (typing_input names (Some j) x) (typing_inputs names ks xs) q h in
        has_two _ (input_has (Some j) x u.0.0 u.0.1) (inputs_have ks xs q u.1)

-- optional parts
pub optional_has : {A : Type 0} (k : Known) (rule : Tree Bytes → Judged A) → ((t : Tree Bytes) (a : A) → rule t ≡ Ok a → Has (resolved k t)) → (o : Option (Tree Bytes)) (q : Bool) → optional rule o ≡ Ok q → Has (if_there (resolved k) o)
optional_has k rule one None q h = (None, refl)
optional_has k rule one (Some t) q h = let u = after_ok (rule t) (Ok true) q h in has_one (resolved k t) Some (one t u.0.0 u.0.1)

-- ---- the names that a scope shows are found, and names that come into view

pub same_bytes : (a b : Bytes) → bytes_eq a b ≡ true → a ≡ b
same_bytes a b h = (bytes_eq-Decides a b).0 h

pub same_itself : (a : Bytes) → bytes_eq a a ≡ true
same_itself a = (bytes_eq-Decides a a).1 refl

abbrev pub place_in : Option NameBinding → Option ℕ
place_in o = option_map (λ (s : NameBinding). s.place) o

pub in_view : (o : Option NameBinding) (marked : Bool) → InView o marked → Has (place_in o)
in_view o marked v = (v.0, ap place_in v.1)

pub none_if : {A : Type 0} (o : Option A) → not (is_some o) ≡ true → o ≡ None
none_if None h = refl
none_if (Some a) h = cc

-- a new name isn't visible
pub entry_none : (s : Scope Bytes) (x : Bytes) (q : Bool) → new_name s x ≡ Ok q → entry s x ≡ None
entry_none s x q h = none_if (entry s x) (unless_ok (NameTwice (said s x)) (not (is_some (entry s x))) q h)

-- only a set is marked
pub set_is_marked : (slot : Option ℕ) (o : Option NameBinding) (e : Option Entry) → IsShown slot o e → marked_in o ≡ is_set e
set_is_marked slot o (Some (Accumulator k attached)) h = ap marked_in h.0
set_is_marked slot o (Some TupleName) h = ap marked_in h
set_is_marked slot o None h = ap marked_in h
set_is_marked slot o e h = ap marked_in h.1

-- an entry that may come into view with a mark
abbrev pub Marks : Bool → Entry → Type 0
Marks marked (Variable b) = marked ≡ false
Marks marked (SetVariable types) = marked ≡ true
Marks marked (Alias types) = marked ≡ false
Marks marked (EdgeAlias types) = marked ≡ false
Marks marked (Accumulator k attached) = ⊥
Marks marked TupleName = ⊥

marked_shown : (slot : Option ℕ) (marked : Bool) (e : Entry) (p : ℕ) → Marks marked e → IsShown slot (Some (record { place = p; marked = marked })) (Some e)
marked_shown slot marked (Accumulator k attached) p h = absurd h
marked_shown slot marked TupleName p h = absurd h
marked_shown slot marked e p h = (p, ap {A = Bool} {B = Option NameBinding} (λ q. Some (record { place = p; marked = q })) h)

one_more : (slot : Option ℕ) (b c : Bool) → b ≡ c → (seen : NameBinding) (o : Option NameBinding) (e : Entry) (p : Option Entry) → IsShown slot (Some seen) (Some e) → IsShown slot o p → IsShown slot (if b then Some seen else o) (if c then Some e else p)
one_more slot true true h seen o e p new old = new
one_more slot false false h seen o e p new old = old
one_more slot b c h seen o e p new old = absurd (cc h)

-- a type that is written is found
pub written_has : (g : Globals) (s : Scope Bytes) → FindsWords g s.setting → (b : BaseTree Bytes) (c : Base) → base_written s b ≡ Ok c → Has (resolved_base g b)
written_has g s words Ints c h = (declared.Int, refl)
written_has g s words UInts c h = (declared.UInt, refl)
written_has g s words Bools c h = (declared.Bool, refl)
written_has g s words Strings c h = (declared.Text, refl)
written_has g s words AnyVertex c h = (declared.AnyVertex, refl)
written_has g s words (VertexOf t) c h =
    let u = then_ok (vertex_type s t) _ c h in
    has_one (g.vertex_type t) declared.VertexOf (u.0, words.vertex_type t u.0 (or_fault_ok (unknown s t) (s.setting.words.vertex_type t) u.0 u.1))

-- ---- when a scope is shown

module _ (g : Globals) (s : Scope Bytes) (n : Named) (shows : Shows g s n) where
  pub slot_has : (attached : Bool) (a : Bytes) (kind : Accum) → declared_kind s attached a ≡ Ok kind → Has (g.slot a)
  slot_has attached a kind e = go (entry s a) refl (shows.names a)
    where
      go : (o : Option Entry) → entry s a ≡ o → IsShown (g.slot a) (seen_at n a) o → Has (g.slot a)
      go (Some (Accumulator j flag)) i d = d.1
      go o i d = let h = rw (i, declared_kind) at e in absurd (cc h)

  pub place_has : (place : Place Bytes) (x : Bytes) (ty : Typed) → name_at s place x (entry s x) ≡ Ok ty → Has (place_at n x)
  place_has place x ty e = go (entry s x) (shows.names x) e
    where
      go : (o : Option Entry) → IsShown (g.slot x) (seen_at n x) o → name_at s place x o ≡ Ok ty → Has (place_at n x)
      go (Some (SetVariable ts)) d h = in_view (seen_at n x) true d
      go (Some (Accumulator k flag)) d h = cc
      go (Some TupleName) d h = cc
      go None d h = cc
      go o d h = in_view (seen_at n x) false d

  pub knows : (place : Place Bytes) → KnowsAll (names_at s place) (known_in g n)
  knows place = record {
    named = place_has place;
    global = λ a kind h. let u = then_ok (declared_kind s false a) (global_at place) kind h in slot_has false a u.0 u.1;
    attached = slot_has true;
    before = λ a kind h. let u = then_ok (declared_kind s true a) (before_at place) kind h in slot_has true a u.0 u.1;
    function = shows.words.function;
    method = shows.words.method;
    all_counted = shows.words.all_counted;
    counted = shows.words.counted;
  }

  -- a visible set variable
  pub set_has : (x : Bytes) (types : List ℕ) → set_types s x ≡ Ok types → InView (seen_at n x) true
  set_has x types e = go (entry s x) refl (shows.names x)
    where
      go : (o : Option Entry) → entry s x ≡ o → IsShown (g.slot x) (seen_at n x) o → InView (seen_at n x) true
      go (Some (SetVariable ts)) i d = d
      go o i d = let h = rw (i, set_types) at e in absurd (cc h)

  pub set_place : (x : Bytes) (types : List ℕ) → set_types s x ≡ Ok types → Has (place_at n x)
  set_place x types e = in_view (seen_at n x) true (set_has x types e)

  -- an alias of a vertex
  pub alias_has : (v : Bytes) (q : Bool) → vertex_alias s v ≡ Ok q → Has (place_at n v)
  alias_has v q e = go (entry s v) refl (shows.names v)
    where
      go : (o : Option Entry) → entry s v ≡ o → IsShown (g.slot v) (seen_at n v) o → Has (place_at n v)
      go (Some (Alias ts)) i d = in_view (seen_at n v) false d
      go o i d = let h = rw (i, vertex_alias) at e in absurd (cc h)

  pub vertex_type_has : (t : Bytes) (m : ℕ) → vertex_type s t ≡ Ok m → Has (g.vertex_type t)
  vertex_type_has t m h = (m, shows.words.vertex_type t m (or_fault_ok (unknown s t) (s.setting.words.vertex_type t) m h))

  pub edge_type_has : (t : Bytes) (m : ℕ) → edge_type s t ≡ Ok m → Has (g.edge_type t)
  edge_type_has t m h = (m, shows.words.edge_type t m (or_fault_ok (unknown s t) (s.setting.words.edge_type t) m h))

  -- ---- new names

  pub new_seen : (x : Bytes) (q : Bool) → new_name s x ≡ Ok q → seen_at n x ≡ None
  new_seen x q h = subst (IsShown (g.slot x) (seen_at n x)) (entry_none s x q h) (shows.names x)

  pub new_is : (x : Bytes) (q : Bool) → new_name s x ≡ Ok q → steps.new_name n x ≡ Some (with_name n x false, n.next)
  new_is x q h = ap (λ o. when_new o (with_name n x false, n.next)) (new_seen x q h)

  pub shown_new : (x : Bytes) (e : Entry) (marked : Bool) → Marks marked e → Shows g (with_entry x e s) (with_name n x marked)
  shown_new x e marked h = record {
    words = shows.words;
    names = λ y.
        one_more (g.slot y) (bytes_eq x y) (s.setting.words.same x y) (sym (shows.words.same x y)) (record { place = n.next; marked = marked }) (seen_at n y) e (entry s y)
        (marked_shown (g.slot y) marked e n.next h) (shows.names y);
  }

  pub name_goes : (x : Bytes) (e : Entry) (q : Bool) → Marks false e → new_name s x ≡ Ok q → Goes (Shows g (with_entry x e s)) (steps.new_name n x)
  name_goes x e q mark h = record { behind = with_name n x false; planned = n.next; is = new_is x q h; after = shown_new x e false mark }

  -- if the same names are in view
  pub shows_same : (m : Named) → m.visible ≡ n.visible → Shows g s m
  shows_same m e = record { words = shows.words; names = λ x. subst (λ v. IsShown (g.slot x) (found_in v x) (entry s x)) (sym e) (shows.names x) }

-- ---- the meaning of a name in typing is found for it, by the types of a graph and a query's tuple types

method_is : (m : Bytes) → under bytes_eq m methods ≡ method_at m
unfolding method_at
method_is m = refl

-- ---- functions

own_under : (f : Bytes) (pairs : List (Bytes × words.Function)) → AllOf (λ (p : Bytes × words.Function). Has (own_function p.1)) pairs → (w : words.Function) → under bytes_eq f pairs ≡ Some w → Has (own_function w)
own_under f [] all w h = cc
own_under f (p ∷ pairs) all w h = go (bytes_eq p.0 f) h (own_under f pairs all.1 w)
  where
    go : (q : Bool) → (if q then Some p.1 else under bytes_eq f pairs) ≡ Some w → (under bytes_eq f pairs ≡ Some w → Has (own_function w)) → Has (own_function w)
    go true e rest = let i : p.1 ≡ w = cc in subst (λ z. Has (own_function z)) i all.0
    go false e rest = rest e

all_own : AllOf (λ (p : Bytes × words.Function). Has (own_function p.1)) functions
all_own =
    ((_, refl), ((_, refl), ((_, refl), ((_, refl), ((_, refl), ((_, refl), ((_, refl), ((_, refl), ((_, refl), ((_, refl), ((_, refl), ((_, refl), ((_, refl), tt)))))))))))))

language_has : (f : Bytes) (w : words.Function) → under bytes_eq f functions ≡ Some w → Has (language f)
language_has f w h = let u = own_under f functions all_own w h in (u.0, ap own_if h ∙ u.1)

function_has : (sorts : Sorts) (f : Bytes) (n : ℕ) (ts : TupleTypes) (w : words.Function) → function_from (by_name sorts) f n (plain_tuples ts) ≡ Some w → Has (or_language (tuple_from f n ts) f)
function_has sorts f n [] w h = language_has f w h
function_has sorts f n (t ∷ ts) w h = go (bytes_eq t.0 f) h (function_has sorts f (suc n) ts w)
  where
    go : (q : Bool) → (if q then Some (words.Makes n (bases_of (plain_fields t.1))) else function_from (by_name sorts) f (suc n) (plain_tuples ts)) ≡ Some w
        → (function_from (by_name sorts) f (suc n) (plain_tuples ts) ≡ Some w → Has (or_language (tuple_from f (suc n) ts) f)) → Has (or_language (if q then Some (function.Tuple n (field_types t.1)) else tuple_from f (suc n) ts) f)
    go true e rest = (function.Tuple n (field_types t.1), refl)
    go false e rest = rest e

-- ---- all together

pub words_found : (sorts : Sorts) (ts : TupleTypes) (slots : Named) → FindsWords (globals_of sorts ts slots) (setting_of sorts ts)
words_found sorts ts slots = record {
  same = λ a b. refl;
  function = λ f w h. function_has sorts f 0 ts w h;
  method = method_is;
  all_counted = (sorts.own_edges, refl);
  counted = λ e t h. (t ∷ [], ap one h);
  vertex_type = λ t n h. h;
  edge_type = λ t n h. h;
}
  where
    one : Option ℕ → Option (List ℕ)
    one None = None
    one (Some t) = Some (t ∷ [])

-- in a scope with this setting
pub words_in : (sorts : Sorts) (ts : TupleTypes) (slots : Named) (s : Scope Bytes) → s.setting ≡ setting_of sorts ts → FindsWords (globals_of sorts ts slots) s.setting
words_in sorts ts slots s z = subst (λ w. FindsWords (globals_of sorts ts slots) w) (sym z) (words_found sorts ts slots)
