-- StepLaws: the statements of a plan represent those of the query.
use Rattle.std.proofs.Common.{◌≡◌, ◌<◌, ℕ, suc, Bool, true, false, List, [], ◌∷◌, ◌++◌, map, arith, eq-eqb, ne_eqb, ◌≢◌, Option, Some, None, refl, sym, ap, ◌∙◌, subst}
use Rattle.std.specs.Prelude.{if◌then◌else◌, ◌==◌}
use Rattle.std.specs.Str.{bytes_eq}
use Rattle.std.specs.Option.{option_map}
use Rattle.std.proofs.lemmas.Slice.Eq.{bytes_eq-Decides}
use mathlib.Core.Path.{fun_ext}
use Rattle.gq_tree.specs.Tree.{Tree, Number, Text, Truth, Global, Name, Call, Post, Neg, Mul, Sum, Cmp, Not, And, Or}
use Rattle.gq_tree.specs.declared.body.SetOp.{SetOp}
use Rattle.gq_scope.specs.declared.places.NameBinding.{NameBinding}
use Rattle.gq_scope.specs.Named.{Named, found_in, seen_at, place_at, marked_in, is_marked, with_name}
use Rattle.gq_rules_typing.specs.Statements as plain
use Rattle.gq_rules_typing.specs.Statements.{Bytes, Stmt, Local, Assign, ChangeGlobal, If, While, Foreach, Print, Stmts, no_stmt, stmt_and, Branches, else_, if_}
use Rattle.gq_rules_typing.specs.Selecting as selecting
use Rattle.gq_rules_typing.specs.Selecting.{Select}
use Rattle.gq_rules_typing.specs.Patterns.{edge_alias, target_alias, last_step}
use Rattle.gq_rules_typing.specs.Sorts.{Sorts}
use Rattle.gq_rules_typing.specs.StatementViews.{stmts_or_none}
use Rattle.gq_rules_meaning.specs.StateFits.{AllOf}
use Rattle.gq_plan_ir.specs.declared.expr.Expr.{Expr}
use Rattle.gq_plan_ir.specs.declared.block.Block.{Block}
use Rattle.gq_plan_ir.specs.declared.plan.Declared.{Declared}
use Rattle.gq_plan_ir.specs.declared.step.Seed.{Seed}
use Rattle.gq_plan_ir.specs.declared.step.SetTerm as term_code
use Rattle.gq_plan_ir.specs.declared.step.SetTypes.{SetTypes}
use Rattle.gq_plan_ir.specs.declared.step.Right.{Right}
use Rattle.gq_plan_ir.specs.declared.step.Right.TheVariants as right
use Rattle.gq_plan_ir.specs.declared.step.Over.{Over}
use Rattle.gq_plan_ir.specs.declared.step.PrintItem.{PrintItem}
use Rattle.gq_plan_ir.specs.declared.step.Step.{Step}
use Rattle.gq_plan_ir.specs.declared.step.Step.TheVariants as step
use Rattle.gq_plan_ir.specs.Reference.{Reference, Place, Slot, VertexType}
use Rattle.gq_plan_ir.specs.References.{same}
use Rattle.gq_plan_ir.specs.Renamed.{Renaming, renamed}
use Rattle.gq_plan_ir.specs.ExprView.{view}
use Rattle.gq_plan_ir.specs.BlockView.{view_change, view_block}
use Rattle.gq_plan_ir.specs.PlanView.{view_declared, view_seed, view_term, view_set_types, view_right, view_over, view_keyed, view_item, view_locals, view_step, view_steps}
use Rattle.gq_plan_ir.proofs.ViewLaws.{view_step-Local, view_step-Assign, view_step-Global, view_step-If, view_step-While, view_step-Foreach, view_step-Print, view_branches}
use Rattle.gq_plan_ir.specs.Naming.{Visible, View, Fixed, Naming, IsNew, visible_at, reference_or_nothing, set_flag, is_set_at, reference_at, source_at, named_by, inside, naming_by, naming}
use Rattle.gq_plan_ir.specs.Naming as names
use Rattle.gq_plan_ir.specs.RenamedBlocks.{renamed_change, renamed_select, renamed_step, renamed_walk}
use Rattle.gq_plan_ir.specs.RenamedStatements.{renamed_base, renamed_seed, renamed_term, renamed_set_types, renamed_over, renamed_item, renamed_printed}
use Rattle.gq_plan_ir.specs.StandsFor as stands
use Rattle.gq_plan_ir.specs.StandsFor.{AliasIsNew, SelectStands, RightStands, TargetStands, with_target, LocalsStand, with_locals, behind, Stands, AllStand, BranchesStand, behind_all}
use Rattle.gq_plan_expr.specs.Known.{Known, or_nothing, references}
use Rattle.gq_plan_expr.specs.Resolved.{resolved}
use Rattle.gq_plan_expr.proofs.PlanLaws.{then_some, some_inj, planned}
use Rattle.gq_plan_select.specs.References.{naming_of, source_reference}
use Rattle.gq_plan_select.specs.Resolved.{if_there, each_resolved, resolved_change, resolved_select}
use Rattle.gq_plan_select.proofs.BlockLaws.{two, there_planned, each_planned, found_is, change_planned, if_planned, block_planned}
use Rattle.gq_plan_expr.specs.Globals.{Globals, known_in, sees_in}
use Rattle.gq_plan_stmt.specs.References.{visible_of, view_of, fixed_in}
use Rattle.gq_plan_stmt.specs.Parts.{resolved_base, resolved_seed, resolved_term, resolved_operand, resolved_sets, resolved_set_types, is_set_right, resolved_over, resolved_keyed, resolved_item}
use Rattle.gq_plan_stmt.specs.Steps.{Behind, Parts, when_new, new_name, ended, with_alias, with_aliases, resolved_block, resolved_right, same_mark, if_same, target_seen, resolved_target, resolved_locals, local_and, if_of, else_of, body_of, resolved_stmt, resolved_stmts, resolved_branches}
use Rattle.gq_plan_stmt.specs.Laws.{IsBounded, Grows, StepsStand, StepsLaw}
use Rattle.gq_plan_stmt.proofs.GrowLemmas.{grows_none, grows_twice, aliases_grow, stmts_grow}

-- ---- places in view

all_map : {A B : Type 0} (P : A → Type 0) (Q : B → Type 0) (f : A → B) → ((a : A) → P a → Q (f a)) → (xs : List A) → AllOf P xs → AllOf Q (map f xs)
all_map P Q f h [] u = u
all_map P Q f h (x ∷ xs) u = (h x u.0, all_map P Q f h xs u.1)

all_more : {A : Type 0} (P Q : A → Type 0) → ((a : A) → P a → Q a) → (xs : List A) → AllOf P xs → AllOf Q xs
all_more P Q h [] u = u
all_more P Q h (x ∷ xs) u = (h x u.0, all_more P Q h xs u.1)

pub bounded_name : (n : Named) (x : Bytes) (marked : Bool) → IsBounded n → IsBounded (with_name n x marked)
bounded_name n x marked b = (
  let low : n.next < suc n.next = omega arith in low,
  all_more (λ (e : Bytes × NameBinding). e.1.place < n.next) (λ (e : Bytes × NameBinding). e.1.place < suc n.next) (λ e h. omega (arith, h)) n.visible b,
)

-- the next place isn't one that is in view
not_same : (p q : ℕ) → p < q → (p == q) ≡ false
not_same p q h = let ne : p ≢ q = omega (arith, h) in ne_eqb p q ne

not_same_back : (p q : ℕ) → p < q → (q == p) ≡ false
not_same_back p q h = let ne : q ≢ p = omega (arith, h) in ne_eqb q p ne

same_self : (p : ℕ) → (p == p) ≡ true
same_self p = eq-eqb p p refl

-- a name that isn't found differs from all names in view
not_found : (x : Bytes) (es : List (Bytes × NameBinding)) → found_in es x ≡ None → AllOf (λ (e : Bytes × NameBinding). bytes_eq e.0 x ≡ false) es
not_found x [] h = _
not_found x (e ∷ es) h = go (bytes_eq e.0 x) refl h (not_found x es)
  where
    go : (q : Bool) → bytes_eq e.0 x ≡ q → (if q then Some e.1 else found_in es x) ≡ None → (found_in es x ≡ None → AllOf (λ (e : Bytes × NameBinding). bytes_eq e.0 x ≡ false) es)
        → (bytes_eq e.0 x ≡ false) × AllOf (λ (e : Bytes × NameBinding). bytes_eq e.0 x ≡ false) es
    go true d k rest = cc
    go false d k rest = (d, rest k)

new_is : (n : Named) (x : Bytes) (b : Behind ℕ) → new_name n x ≡ Some b → (seen_at n x ≡ None) × ◌≡◌ {A = Behind ℕ} (with_name n x false, n.next) b
new_is n x b h = go (seen_at n x) refl h
  where
    go : (o : Option NameBinding) → seen_at n x ≡ o → when_new o (with_name n x false, n.next) ≡ Some b → (seen_at n x ≡ None) × ◌≡◌ {A = Behind ℕ} (with_name n x false, n.next) b
    go None e g = (e, some_inj g)
    go (Some s) e g = cc

-- a name that is in view keeps its place
abbrev Stays : Named → Named → Type 0
Stays n m = (y : Bytes) (p : ℕ) → place_at n y ≡ Some p → place_at m y ≡ Some p

stays_new : (n : Named) (x : Bytes) → seen_at n x ≡ None → Stays n (with_name n x false)
stays_new n x none y p h = go (bytes_eq x y) refl
  where
    placed : NameBinding → ℕ
    placed s = s.place

    go : (q : Bool) → bytes_eq x y ≡ q → option_map placed (if q then Some (record { place = n.next; marked = false }) else seen_at n y) ≡ Some p
    go true e = let u : None ≡ Some p = ap (option_map placed) (sym none) ∙ (ap (λ z. option_map placed (seen_at n z)) ((bytes_eq-Decides x y).0 e) ∙ h) in absurd (cc u)
    go false e = h

module _ (sorts : Sorts) (accums : List Bytes) (g : Globals) where
  abbrev F : Fixed Bytes Reference
  F = fixed_in sorts accums g

  -- ---- the references of names

  -- a name in view, with its place and mark
  abbrev placed : NameBinding → ℕ
  placed s = s.place

  reference_is : (es : List (Bytes × NameBinding)) (x : Bytes) → reference_or_nothing F (visible_at F (map visible_of es) x) ≡ or_nothing Place (option_map placed (found_in es x))
  reference_is [] x = refl
  reference_is (e ∷ es) x = go (bytes_eq e.0 x) (reference_is es x)
    where
      go : (q : Bool) → reference_or_nothing F (visible_at F (map visible_of es) x) ≡ or_nothing Place (option_map placed (found_in es x))
          → reference_or_nothing F (if q then Some (visible_of e) else visible_at F (map visible_of es) x) ≡ or_nothing Place (option_map placed (if q then Some e.1 else found_in es x))
      go true h = refl
      go false h = h

  flag_is : (es : List (Bytes × NameBinding)) (x : Bytes) → set_flag F (visible_at F (map visible_of es) x) ≡ marked_in (found_in es x)
  flag_is [] x = refl
  flag_is (e ∷ es) x = go (bytes_eq e.0 x) (flag_is es x)
    where
      go : (q : Bool) → set_flag F (visible_at F (map visible_of es) x) ≡ marked_in (found_in es x)
          → set_flag F (if q then Some (visible_of e) else visible_at F (map visible_of es) x) ≡ marked_in (if q then Some e.1 else found_in es x)
      go true h = refl
      go false h = h

  pub inside_is : (n : Named) → references (known_in g n) ≡ inside F (view_of n)
  inside_is n = sym (ap (named_by F) (fun_ext (reference_is n.visible)))

  source_is : (n : Named) (x : Bytes) → source_at F (view_of n) x ≡ source_reference (known_in g n) (sees_in g n) x
  source_is n x =
      ap (λ q. if q then reference_at F (view_of n) x else F.vertex_type x) (flag_is n.visible x)
      ∙ ap (λ z. if is_marked n x then z else F.vertex_type x) (reference_is n.visible x)

  naming_is : (n : Named) → naming_of (known_in g n) (sees_in g n) ≡ naming F (view_of n)
  naming_is n = sym (two (naming_by F) (reference_at F (view_of n)) (references (known_in g n)).name (source_at F (view_of n)) (source_reference (known_in g n) (sees_in g n)) (fun_ext (reference_is n.visible)) (fun_ext (source_is n)))

  -- ---- names that come into view

  pub is_new : (n : Named) (x : Bytes) → IsBounded n → seen_at n x ≡ None → IsNew F (view_of n) x (Place n.next)
  is_new n x b none = record {
    name = all_map (λ (e : Bytes × NameBinding). bytes_eq e.0 x ≡ false) (λ (v : Visible Bytes Reference). bytes_eq v.name x ≡ false) visible_of (λ e h. h) n.visible (not_found x n.visible none);
    reference = all_map (λ (e : Bytes × NameBinding). e.1.place < n.next) (λ (v : Visible Bytes Reference). (same v.reference (Place n.next) ≡ false) × (same (Place n.next) v.reference ≡ false)) visible_of
        (λ e h. (not_same e.1.place n.next h, not_same_back e.1.place n.next h)) n.visible b;
    itself = same_self n.next;
  }

  abbrev alias_in : Named → Option Bytes → Option Reference
  alias_in m x = option_map (references (known_in g m)).name x

  -- an alias comes into view, and stays in view until the last one has
  record AliasStands (n m : Named) (x : Option Bytes) (last : Named) : Type 0 where
    pub new : AliasIsNew F (view_of n) x (alias_in last x)
    pub view : stands.with_alias F (view_of n) x (alias_in last x) ≡ view_of m

  alias_bounded : (n : Named) (x : Option Bytes) (m : Named) → IsBounded n → with_alias n x ≡ Some m → IsBounded m
  alias_bounded n None m b h = subst IsBounded (some_inj h) b
  alias_bounded n (Some x) m b h =
      let u = then_some (new_name n x) _ m h in
      let w = new_is n x u.0 u.1 in
      subst IsBounded (ap (λ (p : Behind ℕ). p.0) w.1 ∙ some_inj u.2) (bounded_name n x false b)

  alias_stays : (n : Named) (x : Option Bytes) (m : Named) → with_alias n x ≡ Some m → Stays n m
  alias_stays n None m h = subst (Stays n) (some_inj h) (λ y p e. e)
  alias_stays n (Some x) m h =
      let u = then_some (new_name n x) _ m h in
      let w = new_is n x u.0 u.1 in
      subst (Stays n) (ap (λ (p : Behind ℕ). p.0) w.1 ∙ some_inj u.2) (stays_new n x w.0)

  first_is : (x : Bytes) (s : NameBinding) (es : List (Bytes × NameBinding)) → found_in ((x, s) ∷ es) x ≡ Some s
  first_is x s es = ap (λ q. if q then Some s else found_in es x) ((bytes_eq-Decides x x).1 refl)

  alias_stands : (n m last : Named) (x : Option Bytes) → IsBounded n → with_alias n x ≡ Some m → Stays m last → AliasStands n m x last
  alias_stands n m last None b h later = record { new = _; view = ap view_of (some_inj h) }
  alias_stands n m last (Some x) b h later =
      let u = then_some (new_name n x) _ m h in
      let w = new_is n x u.0 u.1 in
      let e : with_name n x false ≡ m = ap (λ (p : Behind ℕ). p.0) w.1 ∙ some_inj u.2 in
      let there : place_at m x ≡ Some n.next = ap (λ z. place_at z x) (sym e) ∙ ap (option_map placed) (first_is x (record { place = n.next; marked = false }) n.visible) in
      let at : Place n.next ≡ (references (known_in g last)).name x = sym (ap (or_nothing Place) (later x n.next there)) in
      record {
        new = subst (IsNew F (view_of n) x) at (is_new n x b w.0);
        view = ap (λ z. names.with_name F (view_of n) x z false) (sym at) ∙ ap view_of e;
      }

  -- ---- SELECT

  last_renamed : (r : Naming Bytes Reference) (steps : List (selecting.Step Bytes)) → last_step (map (renamed_step r) steps) ≡ option_map (renamed_step r) (last_step steps)
  last_renamed r [] = refl
  last_renamed r (t ∷ []) = refl
  last_renamed r (t ∷ u ∷ rest) = last_renamed r (u ∷ rest)

  edge_renamed : (r : Naming Bytes Reference) (walk : selecting.Walk Bytes) → edge_alias (renamed_walk r walk) ≡ option_map r.inside.name (edge_alias walk)
  edge_renamed r selecting.Nowhere = refl
  edge_renamed r (selecting.OneHop h) = refl
  edge_renamed r (selecting.Path steps) = ap of_step (last_renamed r steps) ∙ go (last_step steps)
    where
      of_step : {N : Type 0} → Option (selecting.Step N) → Option N
      of_step None = None
      of_step (Some t) = t.edge_alias

      go : (o : Option (selecting.Step Bytes)) → of_step (option_map (renamed_step r) o) ≡ option_map r.inside.name (of_step o)
      go None = refl
      go (Some t) = refl

  target_renamed : (r : Naming Bytes Reference) (walk : selecting.Walk Bytes) → target_alias (renamed_walk r walk) ≡ option_map r.inside.name (target_alias walk)
  target_renamed r selecting.Nowhere = refl
  target_renamed r (selecting.OneHop h) = refl
  target_renamed r (selecting.Path steps) = ap of_step (last_renamed r steps) ∙ go (last_step steps)
    where
      of_step : {N : Type 0} → Option (selecting.Step N) → Option N
      of_step None = None
      of_step (Some t) = t.target_alias

      go : (o : Option (selecting.Step Bytes)) → of_step (option_map (renamed_step r) o) ≡ option_map r.inside.name (of_step o)
      go None = refl
      go (Some t) = refl

  record BlockStands (n : Named) (q : Select Bytes) (m : Named) (b : Block) : Type 0 where
    pub stands : SelectStands F (view_of n) q (view_block b)
    pub visible : m.visible ≡ n.visible
    pub bounded : IsBounded m

  -- places stay bounded when names end
  pub bounded_back : (n m : Named) → Grows n m → IsBounded m → IsBounded (ended n m)
  bounded_back n m grows b = behind_them grows.more (subst (AllOf (λ (e : Bytes × NameBinding). e.1.place < m.next)) grows.is b)
    where
      behind_them : (more : List (Bytes × NameBinding)) → AllOf (λ (e : Bytes × NameBinding). e.1.place < m.next) (more ++ n.visible) → AllOf (λ (e : Bytes × NameBinding). e.1.place < m.next) n.visible
      behind_them [] u = u
      behind_them (e ∷ more) u = behind_them more u.1

  select_stands : (n a c m : Named) (q : Select Bytes) (p : Select Reference) → IsBounded n → with_alias n q.alias ≡ Some a → with_alias a (edge_alias q.walk) ≡ Some c → with_alias c (target_alias q.walk) ≡ Some m
      → p ≡ renamed_select (naming_of (known_in g m) (sees_in g m)) q → SelectStands F (view_of n) q p
  select_stands n a c m q p b e f h is =
      let r = naming_of (known_in g m) (sees_in g m) in
      let bound_a = alias_bounded n q.alias a b e in
      let bound_c = alias_bounded a (edge_alias q.walk) c bound_a f in
      let stays_c = alias_stays c (target_alias q.walk) m h in
      let stays_a = λ (y : Bytes) (l : ℕ) (k : place_at a y ≡ Some l). stays_c y l (alias_stays a (edge_alias q.walk) c f y l k) in
      let one = alias_stands n a m q.alias b e stays_a in
      let two' = alias_stands a c m (edge_alias q.walk) bound_a f stays_c in
      let three' = alias_stands c m m (target_alias q.walk) bound_c h (λ y l k. k) in
      let s : alias_in m q.alias ≡ p.alias = sym (ap (λ (z : Select Reference). z.alias) is) in
      let t : alias_in m (edge_alias q.walk) ≡ edge_alias p.walk = sym (ap (λ (z : Select Reference). edge_alias z.walk) is ∙ edge_renamed r q.walk) in
      let v : alias_in m (target_alias q.walk) ≡ target_alias p.walk = sym (ap (λ (z : Select Reference). target_alias z.walk) is ∙ target_renamed r q.walk) in
      let view_a : stands.with_source F (view_of n) q p ≡ view_of a = ap (stands.with_alias F (view_of n) q.alias) (sym s) ∙ one.view in
      let view_c : stands.with_edge F (view_of n) q p ≡ view_of c = two (λ w z. stands.with_alias F w (edge_alias q.walk) z) _ _ _ _ view_a (sym t) ∙ two'.view in
      let view_m : stands.with_aliases F (view_of n) q p ≡ view_of m = two (λ w z. stands.with_alias F w (target_alias q.walk) z) _ _ _ _ view_c (sym v) ∙ three'.view in
      record {
        source = subst (AliasIsNew F (view_of n) q.alias) s one.new;
        edge = subst (λ w. AliasIsNew F w (edge_alias q.walk) (edge_alias p.walk)) (sym view_a) (subst (AliasIsNew F (view_of a) (edge_alias q.walk)) t two'.new);
        target = subst (λ w. AliasIsNew F w (target_alias q.walk) (target_alias p.walk)) (sym view_c) (subst (AliasIsNew F (view_of c) (target_alias q.walk)) v three'.new);
        is = is ∙ ap (λ z. renamed_select z q) (naming_is m ∙ ap (naming F) (sym view_m));
      }

  block_stands : (n : Named) (q : Select Bytes) (b : Behind Block) → IsBounded n → resolved_block g n q ≡ Some b → BlockStands n q b.0 b.1
  block_stands n q b bound h =
      let u = then_some (with_aliases n q) _ b h in
      let v = then_some (resolved_select (known_in g u.0) (sees_in g u.0) q) _ b u.2 in
      let a = then_some (with_alias n q.alias) _ u.0 u.1 in
      let c = then_some (with_alias a.0 (edge_alias q.walk)) _ u.0 a.2 in
      let bound_a = alias_bounded n q.alias a.0 bound a.1 in
      let bound_c = alias_bounded a.0 (edge_alias q.walk) c.0 bound_a c.1 in
      subst (λ (p : Behind Block). BlockStands n q p.0 p.1) (some_inj v.2)
      (record {
        stands = select_stands n a.0 c.0 u.0 q (view_block v.0) bound a.1 c.1 c.2 (block_planned (known_in g u.0) (sees_in g u.0) q v.0 v.1);
        visible = refl;
        bounded = bounded_back n u.0 (aliases_grow n q u.0 u.1) (alias_bounded c.0 (target_alias q.walk) u.0 bound_c c.2);
      })

  -- ---- parts

  base_planned : (b : plain.BaseTree Bytes) (d : Declared) → resolved_base g b ≡ Some d → view_declared d ≡ renamed_base F.vertex_type b
  base_planned plain.Ints d h = ap view_declared (sym (some_inj h))
  base_planned plain.UInts d h = ap view_declared (sym (some_inj h))
  base_planned plain.Bools d h = ap view_declared (sym (some_inj h))
  base_planned plain.Strings d h = ap view_declared (sym (some_inj h))
  base_planned plain.AnyVertex d h = ap view_declared (sym (some_inj h))
  base_planned (plain.VertexOf t) d h = let u = then_some (g.vertex_type t) _ d h in ap view_declared (sym (some_inj u.2)) ∙ ap plain.VertexOf (found_is VertexType (g.vertex_type t) u.0 u.1)

  name_is : (n : Named) (x : Bytes) (p : ℕ) → place_at n x ≡ Some p → Place p ≡ reference_at F (view_of n) x
  name_is n x p h = found_is Place (place_at n x) p h ∙ sym (reference_is n.visible x)

  module _ (n : Named) where
    abbrev N : Naming Bytes Reference
    N = naming F (view_of n)

    seed_planned : (s : plain.Seed Bytes) (c : Seed) → resolved_seed g n s ≡ Some c → view_seed c ≡ renamed_seed N s
    seed_planned (plain.AllOf t) c h = let u = then_some (g.vertex_type t) _ c h in ap view_seed (sym (some_inj u.2)) ∙ ap plain.AllOf (found_is VertexType (g.vertex_type t) u.0 u.1)
    seed_planned plain.AllVertices c h = ap view_seed (sym (some_inj h))
    seed_planned (plain.OneVertex x) c h = let u = then_some (place_at n x) _ c h in ap view_seed (sym (some_inj u.2)) ∙ ap plain.OneVertex (name_is n x u.0 u.1)
    seed_planned (plain.ContentOf a) c h = let u = then_some (g.slot a) _ c h in ap view_seed (sym (some_inj u.2)) ∙ ap plain.ContentOf (found_is Slot (g.slot a) u.0 u.1)

    term_planned : (t : plain.SetTerm Bytes) (c : term_code.SetTerm) → resolved_term g n t ≡ Some c → view_term c ≡ renamed_term N t
    term_planned (plain.SetNamed x) c h = let u = then_some (place_at n x) _ c h in ap view_term (sym (some_inj u.2)) ∙ ap plain.SetNamed (name_is n x u.0 u.1)
    term_planned (plain.Seeds seeds) c h =
        let u = then_some (each_resolved (resolved_seed g n) seeds) _ c h in
        ap view_term (sym (some_inj u.2)) ∙ ap plain.Seeds (each_planned (resolved_seed g n) view_seed (renamed_seed N) seed_planned seeds u.0 u.1)

    abbrev an_operand : SetOp → plain.SetTerm Reference → SetOp × plain.SetTerm Reference
    an_operand op t = (op, t)

    operand_planned : (t : SetOp × plain.SetTerm Bytes) (c : SetOp × term_code.SetTerm) → resolved_operand g n t ≡ Some c → an_operand c.0 (view_term c.1) ≡ an_operand t.0 (renamed_term N t.1)
    operand_planned t c h =
        let u = then_some (resolved_term g n t.1) _ c h in
        ap {A = SetOp × term_code.SetTerm} (λ d. an_operand d.0 (view_term d.1)) (sym (some_inj u.2)) ∙ ap (an_operand t.0) (term_planned t.1 u.0 u.1)

  set_types_planned : (t : plain.SetTypes Bytes) (c : SetTypes) → resolved_set_types g t ≡ Some c → view_set_types c ≡ renamed_set_types F.vertex_type t
  set_types_planned plain.AnyType c h = ap view_set_types (sym (some_inj h))
  set_types_planned (plain.TypeOf t) c h = let u = then_some (g.vertex_type t) _ c h in ap view_set_types (sym (some_inj u.2)) ∙ ap plain.TypeOf (found_is VertexType (g.vertex_type t) u.0 u.1)

  module _ (k : Known) where
    abbrev r : Renaming Bytes Reference
    r = references k

    over_planned : (o : plain.Over Bytes) (c : Over) → resolved_over k o ≡ Some c → view_over c ≡ renamed_over r o
    over_planned (plain.Elements t) c h = let u = then_some (resolved k t) _ c h in ap view_over (sym (some_inj u.2)) ∙ ap plain.Elements (planned k t u.0 u.1)
    over_planned (plain.Range s t) c h =
        let u = then_some (resolved k s) _ c h in
        let v = then_some (resolved k t) _ c u.2 in
        ap view_over (sym (some_inj v.2)) ∙ two plain.Range (view u.0) (renamed r s) (view v.0) (renamed r t) (planned k s u.0 u.1) (planned k t v.0 v.1)

    abbrev an_item : Bytes → Tree Reference → plain.Item Reference
    an_item key t = record { tree = t; key = key }

    keyed_planned : (i : plain.Item Bytes) (c : Expr × Bytes) → resolved_keyed k i ≡ Some c → view_keyed c ≡ renamed_item r i
    keyed_planned i c h = let u = then_some (resolved k i.tree) _ c h in ap view_keyed (sym (some_inj u.2)) ∙ ap (an_item i.key) (planned k i.tree u.0 u.1)

    item_planned : (i : plain.Printed Bytes) (c : PrintItem) → resolved_item k i ≡ Some c → view_item c ≡ renamed_printed r i
    item_planned (plain.Whole i) c h =
        let u = then_some (resolved k i.tree) _ c h in ap view_item (sym (some_inj u.2)) ∙ ap (λ t. plain.Whole (an_item i.key t)) (planned k i.tree u.0 u.1)
    item_planned (plain.Selection x items key) c h =
        let u = then_some (k.place x) _ c h in
        let v = then_some (each_resolved (resolved_keyed k) items) _ c u.2 in
        ap view_item (sym (some_inj v.2))
        ∙ two (λ a b. plain.Selection a b key) (Place u.0) (r.name x) (map view_keyed v.0) (map (renamed_item r) items) (found_is Place (k.place x) u.0 u.1) (each_planned (resolved_keyed k) view_keyed (renamed_item r) keyed_planned items v.0 v.1)

  -- an expression, and an optional one, with these names in view
  tree_planned : (n : Named) (t : Tree Bytes) (e : Expr) → resolved (known_in g n) t ≡ Some e → view e ≡ renamed (inside F (view_of n)) t
  tree_planned n t e h = planned (known_in g n) t e h ∙ ap (λ z. renamed z t) (inside_is n)

  tree_if_planned : (n : Named) (t : Option (Tree Bytes)) (e : Option Expr) → if_there (resolved (known_in g n)) t ≡ Some e → option_map view e ≡ option_map (renamed (inside F (view_of n))) t
  tree_if_planned n t e h = if_planned (known_in g n) t e h ∙ ap (λ z. option_map (renamed z) t) (inside_is n)

  -- ---- assignments

  record RightIs (n : Named) (r : plain.Right Bytes) (m : Named) (c : Right) : Type 0 where
    pub stands : RightStands F (view_of n) r (view_right c)
    pub visible : m.visible ≡ n.visible
    pub bounded : IsBounded m

  right_is : (n : Named) (r : plain.Right Bytes) (b : Behind Right) → IsBounded n → resolved_right g n r ≡ Some b → RightIs n r b.0 b.1
  right_is n (plain.Selects q) b bound h =
      let u = then_some (resolved_block g n q) _ b h in
      let i = block_stands n q u.0 bound u.1 in
      subst (λ (p : Behind Right). RightIs n (plain.Selects q) p.0 p.1) (some_inj u.2) (record { stands = i.stands; visible = i.visible; bounded = i.bounded })
  right_is n (plain.Sets t rest) b bound h =
      let u = then_some (resolved_sets g n t rest) _ b h in
      let v = then_some (resolved_term g n t) _ u.0 u.1 in
      let w = then_some (each_resolved (resolved_operand g n) rest) _ u.0 v.2 in
      subst (λ (p : Behind Right). RightIs n (plain.Sets t rest) p.0 p.1) (some_inj u.2)
      (record {
        stands = subst (λ s. RightStands F (view_of n) (plain.Sets t rest) (view_right (right.Sets s))) (some_inj w.2)
            (term_planned n t v.0 v.1, each_planned (resolved_operand g n) (λ s. an_operand n s.0 (view_term s.1)) (λ s. an_operand n s.0 (renamed_term (naming F (view_of n)) s.1)) (operand_planned n) rest w.0 w.1);
        visible = refl;
        bounded = bound;
      })
  right_is n (plain.Expression t) b bound h =
      let u = then_some (resolved (known_in g n) t) _ b h in
      subst (λ (p : Behind Right). RightIs n (plain.Expression t) p.0 p.1) (some_inj u.2) (record { stands = tree_planned n t u.0 u.1; visible = refl; bounded = bound })

  set_right_is : (n : Named) (r : plain.Right Bytes) → is_set_right n r ≡ stands.is_set_right F (view_of n) r
  set_right_is n (plain.Selects q) = refl
  set_right_is n (plain.Sets t rest) = refl
  set_right_is n (plain.Expression (Name y)) = sym (flag_is n.visible y)
  set_right_is n (plain.Expression (Number m)) = refl
  set_right_is n (plain.Expression (Text s)) = refl
  set_right_is n (plain.Expression (Truth b)) = refl
  set_right_is n (plain.Expression (Global a)) = refl
  set_right_is n (plain.Expression (Call f ts)) = refl
  set_right_is n (plain.Expression (Post t ps)) = refl
  set_right_is n (plain.Expression (Neg m t)) = refl
  set_right_is n (plain.Expression (Mul t fs)) = refl
  set_right_is n (plain.Expression (Sum t ts)) = refl
  set_right_is n (plain.Expression (Cmp s sign t)) = refl
  set_right_is n (plain.Expression (Not m t)) = refl
  set_right_is n (plain.Expression (And t ts)) = refl
  set_right_is n (plain.Expression (Or t ts)) = refl

  -- the thing in view under a name
  seen_visible : (es : List (Bytes × NameBinding)) (x : Bytes) (s : NameBinding) → found_in es x ≡ Some s → (v : Visible Bytes Reference) × (visible_at F (map visible_of es) x ≡ Some v) × (Place s.place ≡ v.reference) × (v.is_set ≡ s.marked)
  seen_visible [] x s h = cc
  seen_visible (e ∷ es) x s h = go (bytes_eq e.0 x) h (seen_visible es x s)
    where
      go : (q : Bool) → (if q then Some e.1 else found_in es x) ≡ Some s
          → (found_in es x ≡ Some s → (v : Visible Bytes Reference) × (visible_at F (map visible_of es) x ≡ Some v) × (Place s.place ≡ v.reference) × (v.is_set ≡ s.marked))
          → (v : Visible Bytes Reference) × ((if q then Some (visible_of e) else visible_at F (map visible_of es) x) ≡ Some v) × (Place s.place ≡ v.reference) × (v.is_set ≡ s.marked)
      go true k rest = (visible_of e, refl, ap (λ (z : NameBinding). Place z.place) (sym (some_inj k)), ap (λ (z : NameBinding). z.marked) (some_inj k))
      go false k rest = rest k

  unseen_visible : (es : List (Bytes × NameBinding)) (x : Bytes) → found_in es x ≡ None → visible_at F (map visible_of es) x ≡ None
  unseen_visible [] x h = refl
  unseen_visible (e ∷ es) x h = go (bytes_eq e.0 x) h (unseen_visible es x)
    where
      go : (q : Bool) → (if q then Some e.1 else found_in es x) ≡ None → (found_in es x ≡ None → visible_at F (map visible_of es) x ≡ None) → (if q then Some (visible_of e) else visible_at F (map visible_of es) x) ≡ None
      go true k rest = cc
      go false k rest = rest k

  if_same_is : (q : Bool) (a b : Behind ℕ) → if_same q a ≡ Some b → (q ≡ true) × (a ≡ b)
  if_same_is true a b h = (refl, some_inj h)
  if_same_is false a b h = cc

  marks_are : (p q : Bool) → same_mark p q ≡ true → p ≡ q
  marks_are true true h = refl
  marks_are false false h = refl
  marks_are true false h = cc
  marks_are false true h = cc

  record TargetIs (n : Named) (x : Bytes) (set : Bool) (m : Named) (place : ℕ) : Type 0 where
    pub stands : TargetStands F (view_of n) x (Place place) set
    pub view : with_target F (view_of n) x (Place place) ≡ view_of m
    pub bounded : IsBounded m

  target_is : (n : Named) (x : Bytes) (set : Bool) (b : Behind ℕ) → IsBounded n → resolved_target n x set ≡ Some b → TargetIs n x set b.0 b.1
  target_is n x set b bound h = go (seen_at n x) refl h
    where
      of_visible : ℕ → Option (Visible Bytes Reference) → Type 0
      of_visible p (Some v) = (Place p ≡ v.reference) × (v.is_set ≡ set)
      of_visible p None = (set ≡ true) × IsNew F (view_of n) x (Place p)

      view_with : ℕ → Option (Visible Bytes Reference) → View Bytes Reference
      view_with p (Some v) = view_of n
      view_with p None = names.with_name F (view_of n) x (Place p) true

      go : (o : Option NameBinding) → seen_at n x ≡ o → target_seen o n x set ≡ Some b → TargetIs n x set b.0 b.1
      go (Some s) e k =
          let i = if_same_is (same_mark s.marked set) (n, s.place) b k in
          let v = seen_visible n.visible x s e in
          subst (λ (p : Behind ℕ). TargetIs n x set p.0 p.1) i.1
          (record {
            stands = subst (of_visible s.place) (sym v.1) (v.2, v.3 ∙ marks_are s.marked set i.0);
            view = ap (view_with s.place) v.1;
            bounded = bound;
          })
      go None e k =
          let i = if_same_is set (with_name n x true, n.next) b k in
          let v = unseen_visible n.visible x e in
          subst (λ (p : Behind ℕ). TargetIs n x set p.0 p.1) i.1
          (record {
            stands = subst (of_visible n.next) (sym v) (i.0, is_new n x bound e);
            view = ap (view_with n.next) v;
            bounded = bounded_name n x true bound;
          })

  -- ---- locals

  record LocalsAre (n : Named) (xs : List (Bytes × Option (Tree Bytes))) (m : Named) (ys : List (ℕ × Option Expr)) : Type 0 where
    pub stands : LocalsStand F (view_of n) xs (view_locals ys)
    pub view : with_locals F (view_of n) xs (view_locals ys) ≡ view_of m
    pub bounded : IsBounded m

  locals_are : (n : Named) (xs : List (Bytes × Option (Tree Bytes))) (b : Behind (List (ℕ × Option Expr))) → IsBounded n → resolved_locals g n xs ≡ Some b → LocalsAre n xs b.0 b.1
  locals_are n [] b bound h = subst (λ (p : Behind (List (ℕ × Option Expr))). LocalsAre n [] p.0 p.1) (some_inj h) (record { stands = _; view = refl; bounded = bound })
  locals_are n (x ∷ xs) b bound h =
      let u = then_some (if_there (resolved (known_in g n)) x.1) _ b h in
      let v = then_some (new_name n x.0) _ b u.2 in
      let new = new_is n x.0 v.0 v.1 in
      let w = then_some (resolved_locals g v.0.0 xs) _ b v.2 in
      let rest = subst (λ z. resolved_locals g z xs ≡ Some w.0) (sym (ap (λ (p : Behind ℕ). p.0) new.1)) w.1 in
      let i = locals_are (with_name n x.0 false) xs w.0 (bounded_name n x.0 false bound) rest in
      subst (λ (p : Behind (List (ℕ × Option Expr))). LocalsAre n (x ∷ xs) p.0 p.1) (ap (λ (p : Behind ℕ). local_and p.1 u.0 w.0) new.1 ∙ some_inj w.2)
      (record { stands = (is_new n x.0 bound new.0, tree_if_planned n x.1 u.0 u.1, i.stands); view = i.view; bounded = i.bounded })

  -- ---- statements

  record StepIs (n : Named) (st : Stmt Bytes) (m : Named) (s : Step) : Type 0 where
    pub stands : Stands F (view_of n) st (view_step s)
    pub view : behind F (view_of n) st (view_step s) ≡ view_of m
    pub bounded : IsBounded m

  by_view : (n : Named) (st : Stmt Bytes) (m : Named) (s : Step) (z : plain.Stmt Reference) → view_step s ≡ z → Stands F (view_of n) st z → behind F (view_of n) st z ≡ view_of m → IsBounded m → StepIs n st m s
  by_view n st m s z e a b c = record { stands = subst (Stands F (view_of n) st) (sym e) a; view = ap (behind F (view_of n) st) e ∙ b; bounded = c }

  same_view : (n m : Named) → m.visible ≡ n.visible → view_of n ≡ view_of m
  same_view n m h = ap (map visible_of) (sym h)

  -- a body that starts with these names, whose own names end with it
  record BodyStands (m : Named) (body : Stmts Bytes) (n : Named) (c : Behind (List Step)) : Type 0 where
    pub stand : AllStand F (view_of m) body (view_steps c.1)
    pub visible : c.0.visible ≡ n.visible
    pub bounded : IsBounded c.0

  body_stands : (n m : Named) (body : Stmts Bytes) (c : Behind (List Step)) → Grows n m → ((b : Behind (List Step)) → resolved_stmts g m body ≡ Some b → StepsStand sorts accums g m body b.0 b.1) → body_of n (resolved_stmts g m body) ≡ Some c → BodyStands m body n c
  body_stands n m body c grows all h =
      let u = then_some (resolved_stmts g m body) _ c h in
      let i = all u.0 u.1 in
      subst (BodyStands m body n) (some_inj u.2)
      (record { stand = i.stand; visible = refl; bounded = bounded_back n u.0.0 (grows_twice n m u.0.0 grows (stmts_grow g m body u.0 u.1)) i.bounded })

  record BranchesAre (n : Named) (branches : Branches Bytes) (b : Behind Parts) : Type 0 where
    pub stand : BranchesStand F (view_of n) branches (view_branches b.1.0 b.1.1)
    pub visible : b.0.visible ≡ n.visible
    pub bounded : IsBounded b.0

  record ElseStands (n : Named) (body : Stmts Bytes) (b : Behind (Option (List Step))) : Type 0 where
    pub stand : AllStand F (view_of n) body (stmts_or_none (option_map (map view_step) b.1))
    pub visible : b.0.visible ≡ n.visible
    pub bounded : IsBounded b.0

  else_stands : (n : Named) (body : Stmts Bytes) (o : Option (Behind (List Step))) (b : Behind (Option (List Step))) → IsBounded n → ((c : Behind (List Step)) → o ≡ Some c → BodyStands n body n c) → else_of n body o ≡ Some b → ElseStands n body b
  else_stands n no_stmt o b bound all h = subst (ElseStands n no_stmt) (some_inj h) (record { stand = _; visible = refl; bounded = bound })
  else_stands n (stmt_and s rest) o b bound all h =
      let u = then_some o _ b h in
      let i = all u.0 u.1 in
      subst (ElseStands n (stmt_and s rest)) (some_inj u.2) (record { stand = i.stand; visible = i.visible; bounded = i.bounded })

  mutual
    step_is : (n : Named) (st : Stmt Bytes) (b : Behind Step) → IsBounded n → resolved_stmt g n st ≡ Some b → StepIs n st b.0 b.1
    step_is n (Local d xs) b bound h =
        let u = then_some (resolved_base g d) _ b h in
        let v = then_some (resolved_locals g n xs) _ b u.2 in
        let i = locals_are n xs v.0 bound v.1 in
        subst (λ (p : Behind Step). StepIs n (Local d xs) p.0 p.1) (some_inj v.2)
        (by_view n (Local d xs) v.0.0 (step.Local u.0 v.0.1) (plain.Local (view_declared u.0) (view_locals v.0.1)) (view_step-Local u.0 v.0.1) (base_planned d u.0 u.1, i.stands) i.view i.bounded)
    step_is n (Assign x types r) b bound h =
        let u = then_some (if_there (resolved_set_types g) types) _ b h in
        let v = then_some (resolved_right g n r) _ b u.2 in
        let w = then_some (resolved_target v.0.0 x (is_set_right n r)) _ b v.2 in
        let i = right_is n r v.0 bound v.1 in
        let t = target_is v.0.0 x (is_set_right n r) w.0 i.bounded w.1 in
        let back : view_of v.0.0 ≡ view_of n = sym (same_view n v.0.0 i.visible) in
        subst (λ (p : Behind Step). StepIs n (Assign x types r) p.0 p.1) (some_inj w.2)
        (by_view n (Assign x types r) w.0.0 (step.Assign w.0.1 u.0 v.0.1) (plain.Assign (Place w.0.1) (option_map view_set_types u.0) (view_right v.0.1)) (view_step-Assign w.0.1 u.0 v.0.1) (
          there_planned (resolved_set_types g) view_set_types (renamed_set_types F.vertex_type) set_types_planned types u.0 u.1,
          i.stands,
          subst (TargetStands F (view_of n) x (Place w.0.1)) (set_right_is n r) (subst (λ z. TargetStands F z x (Place w.0.1) (is_set_right n r)) back t.stands),
        )
        (ap (λ z. with_target F z x (Place w.0.1)) (sym back) ∙ t.view) t.bounded)
    step_is n (ChangeGlobal a c) b bound h =
        let u = then_some (g.slot a) _ b h in
        let v = then_some (resolved_change (known_in g n) c) _ b u.2 in
        subst (λ (p : Behind Step). StepIs n (ChangeGlobal a c) p.0 p.1) (some_inj v.2)
        (by_view n (ChangeGlobal a c) n (step.Global u.0 v.0) (plain.ChangeGlobal (Slot u.0) (view_change v.0)) (view_step-Global u.0 v.0)
        (found_is Slot (g.slot a) u.0 u.1, change_planned (known_in g n) c v.0 v.1 ∙ ap (λ z. renamed_change z c) (inside_is n)) refl bound)
    step_is n (If branches) b bound h =
        let u = then_some (resolved_branches g n branches) _ b h in
        let i = branches_are n branches u.0 bound u.1 in
        subst (λ (p : Behind Step). StepIs n (If branches) p.0 p.1) (some_inj u.2)
        (by_view n (If branches) u.0.0 (if_of u.0.1) (plain.If (view_branches u.0.1.0 u.0.1.1)) (view_step-If u.0.1.0 u.0.1.1) i.stand (same_view n u.0.0 i.visible) i.bounded)
    step_is n (While t limit body) b bound h =
        let u = then_some (resolved (known_in g n) t) _ b h in
        let v = then_some (if_there (resolved (known_in g n)) limit) _ b u.2 in
        let w = then_some (body_of n (resolved_stmts g n body)) _ b v.2 in
        let i = body_stands n n body w.0 (grows_none n n refl) (λ c e. all_are n body c bound e) w.1 in
        subst (λ (p : Behind Step). StepIs n (While t limit body) p.0 p.1) (some_inj w.2)
        (by_view n (While t limit body) w.0.0 (step.While u.0 v.0 w.0.1) (plain.While (view u.0) (option_map view v.0) (view_steps w.0.1)) (view_step-While u.0 v.0 w.0.1)
        (tree_planned n t u.0 u.1, tree_if_planned n limit v.0 v.1, i.stand) (same_view n w.0.0 i.visible) i.bounded)
    step_is n (Foreach x o body) b bound h =
        let u = then_some (resolved_over (known_in g n) o) _ b h in
        let v = then_some (new_name n x) _ b u.2 in
        let new = new_is n x v.0 v.1 in
        let w = then_some (body_of n (resolved_stmts g v.0.0 body)) _ b v.2 in
        let inner = subst (λ (z : Named). body_of n (resolved_stmts g z body) ≡ Some w.0) (sym (ap (λ (p : Behind ℕ). p.0) new.1)) w.1 in
        let m = with_name n x false in
        let i = body_stands n m body w.0 (record { more = (x, record { place = n.next; marked = false }) ∷ []; is = refl }) (λ c e. all_are m body c (bounded_name n x false bound) e) inner in
        subst (λ (p : Behind Step). StepIs n (Foreach x o body) p.0 p.1) (ap {B = Behind Step} (λ (p : Behind ℕ). (w.0.0, step.Foreach p.1 u.0 w.0.1)) new.1 ∙ some_inj w.2)
        (by_view n (Foreach x o body) w.0.0 (step.Foreach n.next u.0 w.0.1) (plain.Foreach (Place n.next) (view_over u.0) (view_steps w.0.1)) (view_step-Foreach n.next u.0 w.0.1)
        (is_new n x bound new.0, over_planned (known_in g n) o u.0 u.1 ∙ ap (λ z. renamed_over z o) (inside_is n), i.stand) (same_view n w.0.0 i.visible) i.bounded)
    step_is n (Print items) b bound h =
        let u = then_some (each_resolved (resolved_item (known_in g n)) items) _ b h in
        subst (λ (p : Behind Step). StepIs n (Print items) p.0 p.1) (some_inj u.2)
        (by_view n (Print items) n (step.Print u.0) (plain.Print (map view_item u.0)) (view_step-Print u.0)
        (each_planned (resolved_item (known_in g n)) view_item (renamed_printed (references (known_in g n))) (item_planned (known_in g n)) items u.0 u.1 ∙ ap (λ z. map (renamed_printed z) items) (inside_is n)) refl bound)

    all_are : (n : Named) (body : Stmts Bytes) (b : Behind (List Step)) → IsBounded n → resolved_stmts g n body ≡ Some b → StepsStand sorts accums g n body b.0 b.1
    all_are n no_stmt b bound h = subst (λ (p : Behind (List Step)). StepsStand sorts accums g n no_stmt p.0 p.1) (some_inj h) (record { stand = _; behind = refl; bounded = bound })
    all_are n (stmt_and s rest) b bound h =
        let u = then_some (resolved_stmt g n s) _ b h in
        let v = then_some (resolved_stmts g u.0.0 rest) _ b u.2 in
        let i = step_is n s u.0 bound u.1 in
        let j = all_are u.0.0 rest v.0 i.bounded v.1 in
        subst (λ (p : Behind (List Step)). StepsStand sorts accums g n (stmt_and s rest) p.0 p.1) (some_inj v.2)
        (record {
          stand = (i.stands, subst (λ w. AllStand F w rest (view_steps v.0.1)) (sym i.view) j.stand);
          behind = ap (λ w. behind_all F w rest (view_steps v.0.1)) i.view ∙ j.behind;
          bounded = j.bounded;
        })

    branches_are : (n : Named) (branches : Branches Bytes) (b : Behind Parts) → IsBounded n → resolved_branches g n branches ≡ Some b → BranchesAre n branches b
    branches_are n (else_ body) b bound h =
        let u = then_some (else_of n body (body_of n (resolved_stmts g n body))) _ b h in
        let i = else_stands n body (body_of n (resolved_stmts g n body)) u.0 bound (λ c e. body_stands n n body c (grows_none n n refl) (λ d k. all_are n body d bound k) e) u.1 in
        subst (BranchesAre n (else_ body)) (some_inj u.2) (record { stand = i.stand; visible = i.visible; bounded = i.bounded })
    branches_are n (if_ t body rest) b bound h =
        let u = then_some (resolved (known_in g n) t) _ b h in
        let v = then_some (body_of n (resolved_stmts g n body)) _ b u.2 in
        let i = body_stands n n body v.0 (grows_none n n refl) (λ d k. all_are n body d bound k) v.1 in
        let w = then_some (resolved_branches g v.0.0 rest) _ b v.2 in
        let j = branches_are v.0.0 rest w.0 i.bounded w.1 in
        subst (BranchesAre n (if_ t body rest)) (some_inj w.2)
        (record {
          stand = (tree_planned n t u.0 u.1, i.stand, subst (λ z. BranchesStand F z rest (view_branches w.0.1.0 w.0.1.1)) (sym (same_view n v.0.0 i.visible)) j.stand);
          visible = j.visible ∙ i.visible;
          bounded = j.bounded;
        })

pub steps_law : StepsLaw
steps_law sorts accums g n bound body m steps h = all_are sorts accums g n body (m, steps) bound h
