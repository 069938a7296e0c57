-- AssignLaws: typed assignments are never stuck, and the state after them matches their scope.
use Rattle.std.proofs.Common.{◌≡◌, ℕ, Bool, true, false, List, [], ◌∷◌, Option, Some, None, Ok, Err, refl, ap, sym, ◌∙◌, subst}
use Rattle.std.specs.Prelude.{if◌then◌else◌}
use Rattle.std.specs.List.{list_all}
use Rattle.gq_tree.specs.Tree.{Tree, Number, Text, Truth, Global, Name, Call, Post, Neg, Mul, Sum, Cmp, Not, And, Or}
use Rattle.gq_value.specs.declared.value.Wrong.{Wrong}
use Rattle.gq_value.specs.Val.{Vertex}
use Rattle.gq_value.specs.Accums.{Base}
use Rattle.gq_graph.specs.Candidates.{among}
use Rattle.gq_rules_typing.specs.Selecting.{Select}
use Rattle.gq_rules_typing.specs.Statements.{SetTypes, AnyType, TypeOf, Right, Selects, Sets, Expression}
use Rattle.gq_rules_typing.specs.Judging.{Typed, Judged, ◌>>=◌, ◌>>◌, Mismatch, WiderSet}
use Rattle.gq_rules_typing.specs.Types.{alone}
use Rattle.gq_rules_typing.specs.ExpressionTypes.{typing, base_type, converting}
use Rattle.gq_rules_typing.specs.Scopes.{Entry, Variable, SetVariable, Alias, EdgeAlias, Accumulator, TupleName, InStatement, Scope, entry, said, unknown, with_entry, new_name, name_at, vertex_type}
use Rattle.gq_rules_typing.specs.SelectTypes.{typing_select}
use Rattle.gq_rules_typing.specs.SetTypes.{here, set_types, is_set, sets_types, right_types, kept_within, typing_assign, fixed_types, typing_fixed, typing_assignment}
use Rattle.gq_rules_meaning.specs.Answers.{Answer, Gives, Faults, Stuck, blaming, found}
use Rattle.gq_rules_meaning.specs.Answers as answers
use Rattle.gq_rules_meaning.specs.Expressions.{World, setting, value_as}
use Rattle.gq_rules_meaning.specs.States.{Thing, SetOf, Slot, State, thing_named, with_name, seen}
use Rattle.gq_rules_meaning.specs.States as states
use Rattle.gq_rules_meaning.specs.Sources.{from, candidates_of, within_bound, selects_target, types_at}
use Rattle.gq_rules_meaning.specs.Sets.{TypedSet, set_named, sets_of, types_fixed, types_kept, set_assigned}
use Rattle.gq_rules_meaning.specs.Statements.{Fault, PathBound, Evaluation, of_block, select_assigned, value_assigned, expression_assigned, assigned}
use Rattle.gq_rules_meaning.specs.Statements as statements
use Rattle.gq_rules_meaning.specs.Tails.{select}
use Rattle.gq_rules_meaning.specs.Runs.{run_all}
use Rattle.gq_rules_meaning.specs.Fitting.{Safe, is_vertex_of}
use Rattle.gq_rules_meaning.specs.StateFits.{ThingFits, NamesFit}
use Rattle.gq_rules_meaning.proofs.AnswerLaws.{safe_then, safe_with, safe_blaming, then_ok, after_ok, unless_ok, or_fault_ok, ok_inj}
use Rattle.gq_rules_meaning.proofs.ValueLaws.{IsValue}
use Rattle.gq_rules_meaning.proofs.InputLaws.{value_as_safe}
use Rattle.gq_rules_safety.specs.Matching.{WordsFit, has_thing, StateIs}
use Rattle.gq_rules_safety.specs.Laws.{SelectedFits, SelectLaw, StatementLaw}
use Rattle.gq_rules_safety.proofs.NameLaws.{Grows, grows_same, grows_new, Behind, behind_then, assigned_behind, declared_behind}
use Rattle.gq_rules_safety.proofs.LocalLaws.{new_none, here_fits}
use Rattle.gq_rules_safety.proofs.OrderLaws.{all_among, all_pass, vertex_wider}
use Rattle.gq_rules_safety.proofs.PrintLaws.{set_entry, print_safe}
use Rattle.gq_rules_safety.proofs.SetLaws.{GoodSet, sets_safe, set_named_safe}
use Rattle.gq_rules_safety.proofs.RunLaws.{runs_safe}

module _ {N : Type 0} (world : World N) (words : WordsFit world) where
  -- the typing of an assignment of a set of these types: x keeps its types, or comes into view with fixed ones
  data SetAssigned (s : Scope N) (x : N) (types : Option (SetTypes N)) (got : List ℕ) (t : Scope N) : Type 0 where
    keeps : (fixed : List ℕ) → entry s x ≡ Some (SetVariable fixed) → ((u : ℕ) → among got u ≡ true → among fixed u ≡ true) → s ≡ t → SetAssigned s x types got t
    declares : (fixed : List ℕ) → entry s x ≡ None → types_fixed world types got ≡ fixed → ((u : ℕ) → among got u ≡ true → among fixed u ≡ true) → with_entry x (SetVariable fixed) s ≡ t → SetAssigned s x types got t

  set_grows : (s t : Scope N) (x : N) (types : Option (SetTypes N)) (got : List ℕ) → s.setting ≡ setting world → SetAssigned s x types got t → Grows s t
  set_grows s t x types got z (keeps fixed e w u) = subst (Grows s) u (grows_same s)
  set_grows s t x types got z (declares fixed e f w u) = subst (Grows s) u (grows_new world words s x (SetVariable fixed) (ap (λ z. z.words.same) z) e)

  kept_thing : (fixed : List ℕ) (o : Option Thing) → ThingFits world (SetVariable fixed) o → (vs : List ℕ) × (o ≡ Some (SetOf fixed vs))
  kept_thing fixed (Some (SetOf ts vs)) h = (vs, ap (λ ts. Some (SetOf ts vs)) h.0)
  kept_thing fixed (Some (states.Variable c v)) h = absurd h
  kept_thing fixed (Some (states.EdgeRow r t)) h = absurd h
  kept_thing fixed (Some (states.Member ts vs v)) h = absurd h
  kept_thing fixed None h = absurd h

  wider : (got fixed : List ℕ) (vs : List ℕ) → ((u : ℕ) → among got u ≡ true → among fixed u ≡ true) → list_all (is_vertex_of world.graph got) vs ≡ true → list_all (is_vertex_of world.graph fixed) vs ≡ true
  wider got fixed vs w h = all_pass (is_vertex_of world.graph got) (is_vertex_of world.graph fixed) vs (λ v. vertex_wider world.graph got fixed v w) h

  set_behind : (s t : Scope N) (state : State N) (x : N) (types : Option (SetTypes N)) (got : List ℕ) (set : TypedSet) → StateIs world s state → SetAssigned s x types got t → GoodSet world got set → Behind world words s t state (set_assigned world x types set state)
  set_behind s t state x types got set h (keeps fixed e w u) g =
      let k = kept_thing fixed (thing_named world state.names x) (h.fits.named x (SetVariable fixed) e) in
      subst (λ t. Behind world words s t state (set_assigned world x types set state)) u
      (subst (λ ts. Behind world words s s state (with_name world x (SetOf ts set.1) state)) (sym (ap (λ o. types_kept o (types_fixed world types set.0)) k.1))
      (assigned_behind world words s state x (SetVariable fixed) (SetOf fixed set.1) (SetOf fixed k.0) h e refl k.1 (refl, wider got fixed set.1 w g.0.1, g.1)))
  set_behind s t state x types got set h (declares fixed e f w u) g =
      let d : types_kept (thing_named world state.names x) (types_fixed world types set.0) ≡ fixed = ap (λ o. types_kept o (types_fixed world types set.0)) (h.alone x (ap has_thing e)) ∙ ap (types_fixed world types) g.0.0 ∙ f in
      subst (λ t. Behind world words s t state (set_assigned world x types set state)) u
      (subst (λ ts. Behind world words s (with_entry x (SetVariable fixed) s) state (with_name world x (SetOf ts set.1) state)) (sym d)
      (declared_behind world words s state x (SetVariable fixed) (SetOf fixed set.1) h e refl (refl, wider got fixed set.1 w g.0.1, g.1)))

  -- ---- facts from typing

  kept_all : (s : Scope N) (x : N) (fixed got : List ℕ) (q : Bool) → kept_within s x fixed got ≡ Ok q → (u : ℕ) → among got u ≡ true → among fixed u ≡ true
  kept_all s x fixed got q e u h = all_among got fixed u (unless_ok (WiderSet (said s x)) (list_all (among fixed) got) q e) h

  fixed_known : (s : Scope N) (types : SetTypes N) (fixed got : List ℕ) → s.setting ≡ setting world → fixed_types s types ≡ Ok fixed → types_fixed world (Some types) got ≡ fixed
  fixed_known s AnyType fixed got z e = ap (λ z. z.sorts.own_vertices) (sym z) ∙ ok_inj e
  fixed_known s (TypeOf n) fixed got z e =
      let t = then_ok (vertex_type s n) _ fixed e in let k = or_fault_ok (unknown s n) (s.setting.words.vertex_type n) t.0 t.1 in
      let d : world.words.vertex_type n ≡ Some t.0 = subst (λ z. z.words.vertex_type n ≡ Some t.0) z k in ap of_type d ∙ ok_inj t.2
    where
      of_type : Option ℕ → List ℕ
      of_type None = got
      of_type (Some n) = n ∷ []

  assign_known : (s t : Scope N) (x : N) (right : Right N) (set : Judged (List ℕ)) (o : Option Entry) → entry s x ≡ o → typing_assign s x right o (Some set) ≡ Ok t → (got : List ℕ) × (set ≡ Ok got) × SetAssigned s x None got t
  assign_known s t x right set (Some (SetVariable fixed)) d e =
      let u = after_ok (set >>= kept_within s x fixed) (Ok s) t (given right e) in let g = then_ok set (kept_within s x fixed) u.0.0 u.0.1 in
      (g.0, g.1, keeps fixed d (kept_all s x fixed g.0 u.0.0 g.2) (ok_inj u.1))
    where
      given : (right : Right N) → typing_assign s x right (Some (SetVariable fixed)) (Some set) ≡ Ok t → (set >>= kept_within s x fixed >> Ok s) ≡ Ok t
      given (Selects q) e = e
      given (Sets a rest) e = e
      given (Expression a) e = e
  assign_known s t x right set None d e =
      let g = then_ok set (λ types. Ok (with_entry x (SetVariable types) s)) t (given right e) in (g.0, g.1, declares g.0 d refl (λ u h. h) (ok_inj g.2))
    where
      given : (right : Right N) → typing_assign s x right None (Some set) ≡ Ok t → (set >>= λ types. Ok (with_entry x (SetVariable types) s)) ≡ Ok t
      given (Selects q) e = e
      given (Sets a rest) e = e
      given (Expression a) e = e
  assign_known s t x (Selects q) set (Some (Variable b)) d e = cc
  assign_known s t x (Sets a rest) set (Some (Variable b)) d e = cc
  assign_known s t x (Expression a) set (Some (Variable b)) d e = cc
  assign_known s t x (Selects q) set (Some (Alias ts)) d e = cc
  assign_known s t x (Sets a rest) set (Some (Alias ts)) d e = cc
  assign_known s t x (Expression a) set (Some (Alias ts)) d e = cc
  assign_known s t x (Selects q) set (Some (EdgeAlias ts)) d e = cc
  assign_known s t x (Sets a rest) set (Some (EdgeAlias ts)) d e = cc
  assign_known s t x (Expression a) set (Some (EdgeAlias ts)) d e = cc
  assign_known s t x (Selects q) set (Some (Accumulator k attached)) d e = cc
  assign_known s t x (Sets a rest) set (Some (Accumulator k attached)) d e = cc
  assign_known s t x (Expression a) set (Some (Accumulator k attached)) d e = cc
  assign_known s t x (Selects q) set (Some TupleName) d e = cc
  assign_known s t x (Sets a rest) set (Some TupleName) d e = cc
  assign_known s t x (Expression a) set (Some TupleName) d e = cc

  set_known : (s t : Scope N) (x : N) (types : Option (SetTypes N)) (right : Right N) (set : Judged (List ℕ)) → s.setting ≡ setting world → right_types s right ≡ Some set → typing_assignment s x types right ≡ Ok t → (got : List ℕ) × (set ≡ Ok got) × SetAssigned s x types got t
  set_known s t x None right set z r e = assign_known s t x right set (entry s x) refl (subst (λ o. typing_assign s x right (entry s x) o ≡ Ok t) r e)
  set_known s t x (Some types) right set z r e =
      let f = then_ok (fixed_types s types) _ t e in
      let u = after_ok (new_name s x) (typing_fixed s x f.0 right (right_types s right)) t f.2 in
      let v : (set >>= kept_within s x f.0 >> Ok (with_entry x (SetVariable f.0) s)) ≡ Ok t = subst (λ o. typing_fixed s x f.0 right o ≡ Ok t) r u.1 in
      let w = after_ok (set >>= kept_within s x f.0) _ t v in
      let g = then_ok set (kept_within s x f.0) w.0.0 w.0.1 in
      (g.0, g.1, declares f.0 (new_none s x u.0.0 u.0.1) (fixed_known s types f.0 g.0 z f.1) (kept_all s x f.0 g.0 w.0.0 g.2) (ok_inj w.1))

  -- an expression that isn't a set is assigned to a visible variable
  value_known : (s t : Scope N) (x : N) (types : Option (SetTypes N)) (a : Tree N) → right_types s (Expression a) ≡ None → typing_assignment s x types (Expression a) ≡ Ok t
      → (b : Base) × (entry s x ≡ Some (Variable b)) × (q : Bool) × (converting (here s) b a ≡ Ok q) × (s ≡ t)
  value_known s t x None a r e = go (entry s x) refl (subst (λ o. typing_assign s x (Expression a) (entry s x) o ≡ Ok t) r e)
    where
      go : (o : Option Entry) → entry s x ≡ o → typing_assign s x (Expression a) o None ≡ Ok t → (b : Base) × (entry s x ≡ Some (Variable b)) × (q : Bool) × (converting (here s) b a ≡ Ok q) × (s ≡ t)
      go (Some (Variable b)) d e = let u = after_ok (converting (here s) b a) (Ok s) t e in (b, d, u.0.0, u.0.1, ok_inj u.1)
      go (Some (SetVariable ts)) d e = cc
      go (Some (Alias ts)) d e = cc
      go (Some (EdgeAlias ts)) d e = cc
      go (Some (Accumulator k attached)) d e = cc
      go (Some TupleName) d e = cc
      go None d e = cc
  value_known s t x (Some types) a r e =
      let f = then_ok (fixed_types s types) _ t e in
      let u = after_ok (new_name s x) (typing_fixed s x f.0 (Expression a) (right_types s (Expression a))) t f.2 in
      let v : (typing (here s) a >> Err Mismatch) ≡ Ok t = subst (λ o. typing_fixed s x f.0 (Expression a) o ≡ Ok t) r u.1 in
      absurd (never (typing (here s) a) v)
    where
      never : (j : Judged Typed) → (j >> Err Mismatch) ≡ Ok t → ⊥
      never (Ok y) h = cc
      never (Err f) h = cc

  -- a right side is a set, or an expression that is none
  expression_kind : (s : Scope N) (a : Tree N) (B : Type 0) → ((set : Judged (List ℕ)) → right_types s (Expression a) ≡ Some set → B) → (right_types s (Expression a) ≡ None → B) → B
  expression_kind s a B f g = go (right_types s (Expression a)) refl
    where
      go : (o : Option (Judged (List ℕ))) → right_types s (Expression a) ≡ o → B
      go (Some set) e = f set e
      go None e = g e

  pub assignment_grows : (s t : Scope N) (x : N) (types : Option (SetTypes N)) (right : Right N) → s.setting ≡ setting world → typing_assignment s x types right ≡ Ok t → Grows s t
  assignment_grows s t x types (Selects q) z e = let u = set_known s t x types (Selects q) (typing_select s q) z refl e in set_grows s t x types u.0 z u.2
  assignment_grows s t x types (Sets a rest) z e = let u = set_known s t x types (Sets a rest) (sets_types s a rest) z refl e in set_grows s t x types u.0 z u.2
  assignment_grows s t x types (Expression a) z e =
      expression_kind s a (Grows s t) (λ set r. let u = set_known s t x types (Expression a) set z r e in set_grows s t x types u.0 z u.2) (λ r. let u = value_known s t x types a r e in subst (Grows s) u.4 (grows_same s))

  -- ---- values

  variable_assigned : (s : Scope N) (state : State N) (x : N) (b : Base) (a : Tree N) (q : Bool) → StateIs world s state → entry s x ≡ Some (Variable b) → converting (here s) b a ≡ Ok q → Safe (Behind world words s s state) (value_assigned world state x a)
  variable_assigned s state x b a q h d e = go (thing_named world state.names x) refl (h.fits.named x (Variable b) d)
    where
      of_thing : Thing → Answer Wrong (State N)
      of_thing (states.Variable b v) = answers.◌>>=◌ (value_as (seen world state) b a) (λ w. Gives (with_name world x (states.Variable b w) state))
      of_thing thing = Stuck

      go : (o : Option Thing) → thing_named world state.names x ≡ o → ThingFits world (Variable b) o → Safe (Behind world words s s state) (answers.◌>>=◌ (found o) of_thing)
      go (Some (states.Variable c v)) k f =
          subst (λ c. Safe (Behind world words s s state) (of_thing (states.Variable c v))) (sym f.0)
          (safe_then (IsValue world b) (Behind world words s s state) (value_as (seen world state) b a) _ (value_as_safe (here s) (seen world state) (here_fits world words s state h) b a q e)
          (λ w g. assigned_behind world words s state x (Variable b) (states.Variable b w) (states.Variable c v) h d refl k (refl, g)))
      go (Some (SetOf ts vs)) k f = absurd f
      go (Some (states.EdgeRow r t)) k f = absurd f
      go (Some (states.Member ts vs v)) k f = absurd f
      go None k f = absurd f

  -- ---- names alone

  is_set_thing : (types : List ℕ) (o : Option Thing) → ThingFits world (SetVariable types) o → statements.is_set o ≡ true
  is_set_thing types (Some (SetOf ts vs)) h = refl
  is_set_thing types (Some (states.Variable c v)) h = absurd h
  is_set_thing types (Some (states.EdgeRow r t)) h = absurd h
  is_set_thing types (Some (states.Member ts vs v)) h = absurd h
  is_set_thing types None h = absurd h

  variable_no_set : (b : Base) (o : Option Thing) → ThingFits world (Variable b) o → statements.is_set o ≡ false
  variable_no_set b (Some (SetOf ts vs)) h = absurd h
  variable_no_set b (Some (states.Variable c v)) h = refl
  variable_no_set b (Some (states.EdgeRow r t)) h = absurd h
  variable_no_set b (Some (states.Member ts vs v)) h = absurd h
  variable_no_set b None h = absurd h

  alias_no_set : (ts : List ℕ) (o : Option Thing) → ThingFits world (Alias ts) o → statements.is_set o ≡ false
  alias_no_set ts (Some (SetOf us vs)) h = absurd h
  alias_no_set ts (Some (states.Variable c (Vertex v))) h = refl
  alias_no_set ts (Some (states.Variable c v)) h = absurd h
  alias_no_set ts (Some (states.EdgeRow r t)) h = absurd h
  alias_no_set ts (Some (states.Member us vs v)) h = absurd h
  alias_no_set ts None h = absurd h

  -- a name that is a value isn't a set
  value_no_set : (s : Scope N) (state : State N) (y : N) (ty : Typed) → StateIs world s state → is_set (entry s y) ≡ false → typing (here s) (Name y) ≡ Ok ty → statements.is_set (thing_named world state.names y) ≡ false
  value_no_set s state y ty h n e = go (entry s y) refl n (then_ok (name_at s InStatement y (entry s y)) alone ty e)
    where
      go : (o : Option Entry) → entry s y ≡ o → is_set o ≡ false → (x : Typed) × (name_at s InStatement y o ≡ Ok x) × (alone x ≡ Ok ty) → statements.is_set (thing_named world state.names y) ≡ false
      go (Some (Variable b)) d n u = variable_no_set b (thing_named world state.names y) (h.fits.named y (Variable b) d)
      go (Some (Alias ts)) d n u = alias_no_set ts (thing_named world state.names y) (h.fits.named y (Alias ts) d)
      go (Some (SetVariable ts)) d n u = cc
      go (Some (EdgeAlias ts)) d n u = let k : name_at s InStatement y (Some (EdgeAlias ts)) ≡ Ok u.0 = u.1 in let l = u.2 in cc
      go (Some (Accumulator k attached)) d n u = let l = u.1 in cc
      go (Some TupleName) d n u = let l = u.1 in cc
      go None d n u = let l = u.1 in cc

  abbrev ChosenAs : Scope N → Scope N → State N → N → N → Option (SetTypes N) → Bool → Type 0
  ChosenAs s t state x y types b = Safe (Behind world words s t state) (elim b [ true ↦ answers.◌>>=◌ (set_named world state y) (λ set. Gives (set_assigned world x types set state)) | false ↦ value_assigned world state x (Name y) ])

  name_assigned : (s t : Scope N) (state : State N) (x y : N) (types : Option (SetTypes N)) → StateIs world s state → typing_assignment s x types (Expression (Name y)) ≡ Ok t → Safe (Behind world words s t state) (expression_assigned world state x types (Name y))
  name_assigned s t state x y types h e = go (is_set (entry s y)) refl
    where
      go : (b : Bool) → is_set (entry s y) ≡ b → ChosenAs s t state x y types (statements.is_set (thing_named world state.names y))
      go true i =
          let r : right_types s (Expression (Name y)) ≡ Some (set_types s y) = ap (λ b. if b then Some (set_types s y) else None) i in
          let u = set_known s t x types (Expression (Name y)) (set_types s y) h.fits.setting r e in
          let d = set_entry world words s y u.0 u.1 in
          subst (ChosenAs s t state x y types) (sym (is_set_thing u.0 (thing_named world state.names y) (h.fits.named y (SetVariable u.0) d)))
          (safe_then (GoodSet world u.0) (Behind world words s t state) (set_named world state y) _ (set_named_safe world words s state y u.0 h d) (λ set g. set_behind s t state x types u.0 set h u.2 g))
      go false i =
          let r : right_types s (Expression (Name y)) ≡ None = ap (λ b. if b then Some (set_types s y) else None) i in
          let u = value_known s t x types (Name y) r e in
          let b = then_ok (base_type (here s) (Name y)) _ u.2 u.3 in
          let ty = then_ok (typing (here s) (Name y)) _ b.0 b.1 in
          subst (ChosenAs s t state x y types) (sym (value_no_set s state y ty.0 h i ty.1)) (subst (λ t. Safe (Behind world words s t state) (value_assigned world state x (Name y))) u.4 (variable_assigned s state x u.0 (Name y) u.2 h u.1 u.3))

  -- any other expression is a value
  other_assigned : (s t : Scope N) (state : State N) (x : N) (types : Option (SetTypes N)) (a : Tree N) → StateIs world s state → right_types s (Expression a) ≡ None → typing_assignment s x types (Expression a) ≡ Ok t → Safe (Behind world words s t state) (value_assigned world state x a)
  other_assigned s t state x types a h r e = let u = value_known s t x types a r e in subst (λ t. Safe (Behind world words s t state) (value_assigned world state x a)) u.4 (variable_assigned s state x u.0 a u.2 h u.1 u.3)

  expression_safe : (s t : Scope N) (state : State N) (x : N) (types : Option (SetTypes N)) (a : Tree N) → StateIs world s state → typing_assignment s x types (Expression a) ≡ Ok t → Safe (Behind world words s t state) (expression_assigned world state x types a)
  expression_safe s t state x types (Name y) h e = name_assigned s t state x y types h e
  expression_safe s t state x types (Number n) h e = other_assigned s t state x types (Number n) h refl e
  expression_safe s t state x types (Text b) h e = other_assigned s t state x types (Text b) h refl e
  expression_safe s t state x types (Truth b) h e = other_assigned s t state x types (Truth b) h refl e
  expression_safe s t state x types (Global a) h e = other_assigned s t state x types (Global a) h refl e
  expression_safe s t state x types (Call f ts) h e = other_assigned s t state x types (Call f ts) h refl e
  expression_safe s t state x types (Post a ps) h e = other_assigned s t state x types (Post a ps) h refl e
  expression_safe s t state x types (Neg n a) h e = other_assigned s t state x types (Neg n a) h refl e
  expression_safe s t state x types (Mul a fs) h e = other_assigned s t state x types (Mul a fs) h refl e
  expression_safe s t state x types (Sum a ts) h e = other_assigned s t state x types (Sum a ts) h refl e
  expression_safe s t state x types (Cmp a c b) h e = other_assigned s t state x types (Cmp a c b) h refl e
  expression_safe s t state x types (Not n a) h e = other_assigned s t state x types (Not n a) h refl e
  expression_safe s t state x types (And a ts) h e = other_assigned s t state x types (And a ts) h refl e
  expression_safe s t state x types (Or a ts) h e = other_assigned s t state x types (Or a ts) h refl e

  -- ---- all assignments

  module _ (law : SelectLaw N) where
    with_slots : (s : Scope N) (state : State N) (slots : List (Slot N)) → StateIs world s state → NamesFit world s state.names slots → Behind world words s s state (record state { slots = slots })
    with_slots s state slots h f = record { is = record { fits = f; alone = h.alone }; extends = record { news = []; keys = refl; new = tt } }

    select_safe : (s t : Scope N) (state : State N) (x : N) (types : Option (SetTypes N)) (q : Select N) → StateIs world s state → typing_assignment s x types (Selects q) ≡ Ok t → Safe (Behind world words s t state) (select_assigned world state x types q)
    select_safe s t state x types q h e = go (within_bound q.walk (candidates_of world (from world state.names q).start q.walk))
      where
        chosen : List ℕ
        chosen = types_at (from world state.names q) (selects_target world q)

        go : (b : Bool) → Safe (Behind world words s t state) (elim b [ false ↦ Faults PathBound | true ↦ answers.◌>>=◌ (blaming of_block (select world state q)) (λ r. Gives (set_assigned world x types (chosen, r.vertices) (record state { slots = r.slots }))) ])
        go false = tt
        go true =
            let u = set_known s t x types (Selects q) (typing_select s q) h.fits.setting refl e in
            let w = law world words s state h q u.0 u.1 in
            safe_then (SelectedFits world s state u.0) (Behind world words s t state) (blaming of_block (select world state q)) _ (safe_blaming (SelectedFits world s state u.0) of_block (select world state q) w.1)
            (λ r f. let b = with_slots s state r.slots h f.slots in
            behind_then world words s s t state (record state { slots = r.slots }) (set_assigned world x types (chosen, r.vertices) (record state { slots = r.slots })) (grows_same s) b
            (set_behind s t (record state { slots = r.slots }) x types u.0 (chosen, r.vertices) b.is u.2 ((w.0, f.vertices), f.once)))

    pub assignment_safe : (s t : Scope N) (state : State N) (x : N) (types : Option (SetTypes N)) (right : Right N) → StateIs world s state → typing_assignment s x types right ≡ Ok t → Safe (Behind world words s t state) (assigned world state x types right)
    assignment_safe s t state x types (Selects q) h e = select_safe s t state x types q h e
    assignment_safe s t state x types (Sets a rest) h e =
        let u = set_known s t x types (Sets a rest) (sets_types s a rest) h.fits.setting refl e in
        safe_then (GoodSet world u.0) (Behind world words s t state) (blaming Evaluation (sets_of world state a rest)) _ (safe_blaming (GoodSet world u.0) Evaluation (sets_of world state a rest) (sets_safe world words s state a rest u.0 h u.1))
        (λ set g. set_behind s t state x types u.0 set h u.2 g)
    assignment_safe s t state x types (Expression a) h e = safe_blaming (Behind world words s t state) Evaluation (expression_assigned world state x types a) (expression_safe s t state x types a h e)

pub statement_law : (N : Type 0) → SelectLaw N → StatementLaw N
statement_law N law world words s t body e r h =
    safe_with _ _ (run_all world body r) (runs_safe world words (assignment_safe world words law) (assignment_grows world words) (print_safe world words) body s t e r h) (λ after f. f.is)
