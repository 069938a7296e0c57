-- StepHas: acts, walks, SELECTs and statements that have a plan if they are well typed.
use Rattle.std.proofs.Common.{◌≡◌, ℕ, Bool, true, false, List, [], ◌∷◌, Option, Some, None, Ok, Err, refl, sym, ap, subst, ◌∙◌}
use Rattle.std.specs.Prelude.{not, is_some, if◌then◌else◌, bytes_eq}
use Rattle.gq_tree.specs.Tree.{Tree, Name}
use Rattle.gq_tree.specs.declared.select.Way.{Way}
use Rattle.gq_value.specs.Accums.{Base, Accum}
use Rattle.gq_scope.specs.declared.places.NameBinding.{NameBinding}
use Rattle.gq_scope.specs.Named.{Named, seen_at, place_at, marked_in, is_marked, with_name, found_in}
use Rattle.gq_rules_typing.specs.Statements.{Bytes, Seed, AllOf, AllVertices, OneVertex, ContentOf, SetTerm, SetNamed, Seeds, SetTypes, AnyType, TypeOf, Right, Selects, Sets, Expression, Item, Printed, Whole, Selection, Over, Elements, Range, Stmt, Local, Assign, ChangeGlobal, If, While, Foreach, Print, Stmts, no_stmt, stmt_and, Branches, else_, if_}
use Rattle.gq_rules_typing.specs.Selecting as plain
use Rattle.gq_rules_typing.specs.Selecting.{Hop, Walk, Nowhere, OneHop, Path, Change, Adds, Puts, Act, AtAlias, AtGlobal, Choose, Acts, no_act, act_and, Choices, otherwise, when, Select}
use Rattle.gq_rules_typing.specs.Judging.{NotAllowedHere, TwoAliases, OrderDependent, Judged, ◌>>=◌, ◌>>◌, unless, each_judged, Typed, TypingFault, SetOf, Mismatch, through_judged}
use Rattle.gq_rules_typing.specs.Kinds.{is_list}
use Rattle.gq_rules_typing.specs.ExpressionTypes.{typing, condition, number, converting, base_type}
use Rattle.gq_rules_typing.specs.Scopes.{Entry, SetVariable, Alias, EdgeAlias, Place, InBlock, InPost, InTail, InLimit, Scope, entry, said, unknown, with_entry, new_name, declared_kind, names_at, vertex_type, edge_type, Variable, InStatement, InSelection, base_written}
use Rattle.gq_rules_typing.specs.Patterns.{edge_types, end_types, edge_alias, target_alias}
use Rattle.gq_rules_typing.specs.ActTypes.{vertex_alias, settable, typing_input, typing_given, typing_written, typing_fed, typing_at, typing_global, place_of, one_more, typing_acts, typing_act, typing_choices, names_one, typing_post}
use Rattle.gq_rules_typing.specs.SelectTypes.{source_types, all_known, typing_hop, way_known, nameless, typing_steps, typing_walk, optional, sort_key, selected_types, typing_select}
use Rattle.gq_rules_typing.specs.SelectTypes as typed
use Rattle.gq_rules_meaning.proofs.AnswerLaws.{then_ok, after_ok, unless_ok, ok_inj}
use Rattle.gq_plan_ir.specs.declared.block.Change.TheVariants as change
use Rattle.gq_plan_ir.specs.declared.block.Act as code
use Rattle.gq_plan_ir.specs.declared.block.Walk.TheVariants as walk
use Rattle.gq_plan_ir.specs.declared.block.SelectSource.TheVariants as source
use Rattle.gq_plan_ir.specs.declared.block.Block.{Block}
use Rattle.gq_plan_expr.specs.Known.{Known}
use Rattle.gq_plan_expr.specs.Resolved as plans
use Rattle.gq_plan_expr.specs.Resolved.{resolved}
use Rattle.gq_plan_select.specs.Resolved.{if_there, each_resolved, resolved_input, resolved_change, else_of, if_of, resolved_act, resolved_acts, resolved_choices, resolved_hop, resolved_way, resolved_step, resolved_walk, resolved_source, resolved_key, resolved_select}
use Rattle.gq_plan_expr.specs.Globals.{Globals, known_in, sees_in}
use Rattle.gq_plan_stmt.specs.Steps.{Behind, ended, with_aliases, resolved_block, resolved_right, if_same, same_mark, target_seen, resolved_target, resolved_assign, resolved_locals, body_of, resolved_stmt, resolved_stmts, resolved_branches}
use Rattle.gq_plan_stmt.specs.Steps as steps
use Rattle.gq_plan_laws.specs.Shown.{IsShown, Shows, InView}
use Rattle.gq_plan_laws.proofs.HasLemmas.{Has, has_one, has_two, has_three, has_four, Goes, Same, six_ok, each_has, types_have, tree_has, condition_has, number_has, converting_has, input_has, optional_has, goes_now, has_goes, goes_then, goes_as, through_has, same_bytes, same_itself, place_in, in_view, none_if, slot_has, knows, alias_has, vertex_type_has, edge_type_has, new_seen, new_is, shown_new, Marks, set_is_marked, place_has, set_place, written_has, name_goes, shows_same}
use Rattle.gq_tree.specs.declared.body.SetOp.{SetOp}
use Rattle.gq_rules_typing.specs.Types.{as_base, alone, printable}
use Rattle.gq_rules_typing.specs.SetTypes.{here, types_of, content_types, seed_types, set_types, term_types, joined_types, sets_types, is_set, right_types, right_value, kept_within, typing_assign, fixed_types, typing_fixed, typing_assignment}
use Rattle.gq_rules_typing.specs.StatementTypes.{may_lack_value, typing_local, typing_change, element_of, variable_type, new_key, typing_whole, typing_item, typing_printed, typing_stmt, typing_stmts, typing_branches}
use Rattle.gq_plan_ir.specs.declared.step.Seed.TheVariants as seed
use Rattle.gq_plan_ir.specs.declared.step.SetTerm.TheVariants as term
use Rattle.gq_plan_ir.specs.declared.step.SetTypes.TheVariants as set_type
use Rattle.gq_plan_ir.specs.declared.step.Over.TheVariants as over
use Rattle.gq_plan_ir.specs.declared.step.PrintItem.TheVariants as item
use Rattle.gq_plan_ir.specs.declared.step.Right.TheVariants as right
use Rattle.gq_plan_ir.specs.declared.step.Step.{Step}
use Rattle.gq_plan_ir.specs.declared.step.Step.TheVariants as step
use Rattle.gq_plan_stmt.specs.Parts.{resolved_base, resolved_seed, resolved_term, resolved_operand, resolved_sets, resolved_set_types, is_set_right, resolved_over, resolved_keyed, resolved_item}
use Rattle.gq_plan_laws.specs.Laws.{StatementsLaw}

-- ---- acts, walks and SELECTs that have a plan if they are well typed

-- ---- acts

else_has : (acts : Acts Bytes) (o : Option (List code.Act)) → Has o → Has (else_of acts o)
else_has no_act o h = (None, refl)
else_has (act_and a rest) o h = has_one o Some h

module _ (g : Globals) (s : Scope Bytes) (n : Named) (shows : Shows g s n) where
  abbrev k : Known
  k = known_in g n

  fed_at : (place : Place Bytes) (kind : Accum) (x : plain.Input Bytes) (q : Bool) → typing_input (names_at s place) (Some kind) x ≡ Ok q → Has (resolved_change k (Adds x))
  fed_at place kind x q h = has_one (resolved_input k x) change.Feed (input_has (names_at s place) k (knows g s n shows place) (Some kind) x q h)

  set_at : (place : Place Bytes) (b : Base) (t : Tree Bytes) (q : Bool) → converting (names_at s place) b t ≡ Ok q → Has (resolved_change k (Puts t))
  set_at place b t q h = has_one (resolved k t) change.Set (converting_has (names_at s place) k (knows g s n shows place) b t q h)

  given_has : (a : Bytes) (kind : Accum) (c : Change Bytes) (q : Bool) → typing_given s a kind c ≡ Ok q → Has (resolved_change k c)
  given_has a kind (Adds x) q h = let u = after_ok (unless (OrderDependent (said s a)) (not (is_list kind))) (typing_input (names_at s InBlock) (Some kind) x) q h in fed_at InBlock kind x q u.1
  given_has a kind (Puts t) q h = cc

  changed_has : (kind : Accum) (c : Change Bytes) (q : Bool) → typing_written s kind c ≡ Ok q → Has (resolved_change k c)
  changed_has kind (Adds x) q h = fed_at InPost kind x q h
  changed_has kind (Puts t) q h = let u = then_ok (settable kind) _ q h in set_at InPost u.0 t q u.2

  fed_has : (kind : Accum) (c : Change Bytes) (q : Bool) → typing_fed s kind c ≡ Ok q → Has (resolved_change k c)
  fed_has kind (Adds x) q h = fed_at InPost kind x q h
  fed_has kind (Puts t) q h = cc

  at_has : (post : Bool) (v a : Bytes) (c : Change Bytes) (q : Bool) → typing_at s post v a c ≡ Ok q → Has (resolved_act k (AtAlias v a c))
  at_has true v a c q h =
      let u = then_ok (vertex_alias s v >> declared_kind s true a) _ q h in
      let w = after_ok (vertex_alias s v) (declared_kind s true a) u.0 u.1 in
      has_three _ (alias_has g s n shows v w.0.0 w.0.1) (slot_has g s n shows true a u.0 w.1) (changed_has u.0 c q u.2)
  at_has false v a c q h =
      let u = then_ok (vertex_alias s v >> declared_kind s true a) _ q h in
      let w = after_ok (vertex_alias s v) (declared_kind s true a) u.0 u.1 in
      has_three _ (alias_has g s n shows v w.0.0 w.0.1) (slot_has g s n shows true a u.0 w.1) (given_has a u.0 c q u.2)

  global_has : (post : Bool) (a : Bytes) (c : Change Bytes) (q : Bool) → typing_global s post a c ≡ Ok q → Has (resolved_act k (AtGlobal a c))
  global_has true a c q h = let u = then_ok (declared_kind s false a) _ q h in has_two _ (slot_has g s n shows false a u.0 u.1) (fed_has u.0 c q u.2)
  global_has false a c q h = let u = then_ok (declared_kind s false a) _ q h in has_two _ (slot_has g s n shows false a u.0 u.1) (given_has a u.0 c q u.2)

  mutual
    pub acts_have : (post : Bool) (acts : Acts Bytes) (i j : ℕ) → typing_acts s post i acts ≡ Ok j → Has (resolved_acts k acts)
    acts_have post no_act i j h = ([], refl)
    acts_have post (act_and a acts) i j h =
        let u = then_ok (one_more i) _ j h in
        let v = then_ok (typing_act s post u.0 a) _ j u.2 in
        has_two _ (act_has post a u.0 v.0 v.1) (acts_have post acts v.0 j v.2)

    act_has : (post : Bool) (a : Act Bytes) (i j : ℕ) → typing_act s post i a ≡ Ok j → Has (resolved_act k a)
    act_has post (AtAlias v a c) i j h = let u = after_ok (typing_at s post v a c) (Ok i) j h in at_has post v a c u.0.0 u.0.1
    act_has post (AtGlobal a c) i j h = let u = after_ok (typing_global s post a c) (Ok i) j h in global_has post a c u.0.0 u.0.1
    act_has post (Choose choices) i j h = has_one (resolved_choices k choices) if_of (choices_have post choices i j h)

    choices_have : (post : Bool) (choices : Choices Bytes) (i j : ℕ) → typing_choices s post i choices ≡ Ok j → Has (resolved_choices k choices)
    choices_have post (otherwise acts) i j h = has_one (else_of acts (resolved_acts k acts)) (λ others. ([], others)) (else_has acts (resolved_acts k acts) (acts_have post acts i j h))
    choices_have post (when t acts rest) i j h =
        let u = then_ok (condition (names_at s (place_of post)) t >> typing_acts s post i acts) _ j h in
        let v = after_ok (condition (names_at s (place_of post)) t) (typing_acts s post i acts) u.0 u.1 in
        has_three _ (condition_has (names_at s (place_of post)) k (knows g s n shows (place_of post)) t v.0.0 v.0.1) (acts_have post acts i u.0 v.1) (choices_have post rest u.0 j u.2)

  pub posts_have : (a b : Option Bytes) (acts : Acts Bytes) (i j : ℕ) → typing_post s a b i acts ≡ Ok j → Has (resolved_acts k acts)
  posts_have a b no_act i j h = ([], refl)
  posts_have a b (act_and c acts) i j h =
      let u = then_ok (one_more i) _ j h in
      let v = then_ok (typing_act s true u.0 c) _ j u.2 in
      let w = after_ok (unless TwoAliases (names_one s a b c)) (typing_post s a b v.0 acts) j v.2 in
      has_two _ (act_has true c u.0 v.0 v.1) (posts_have a b acts v.0 j w.1)

-- ---- aliases that come into view

-- a set variable has a place, and any other source is a type
abbrev SourceAt : Option ℕ → Option NameBinding → Bool → Type 0
SourceAt t o true = Has (place_in o)
SourceAt t o false = Has t

abbrev IsSource : Option ℕ → Option NameBinding → Type 0
IsSource t o = SourceAt t o (marked_in o)

-- with more names
record Joined (g : Globals) (t : Scope Bytes) (n m : Named) : Type 0 where
  shows : Shows g t m
  kept : (x : Bytes) → Has (place_at n x) → Has (place_at m x)
  source : (x : Bytes) → IsSource (g.vertex_type x) (seen_at n x) → IsSource (g.vertex_type x) (seen_at m x)

joined_none : (g : Globals) (s : Scope Bytes) (n : Named) → Shows g s n → Joined g s n n
joined_none g s n shows = record { shows = shows; kept = λ x h. h; source = λ x h. h }

joined_twice : (g : Globals) (s t : Scope Bytes) (n m o : Named) → Joined g s n m → Joined g t m o → Joined g t n o
joined_twice g s t n m o i j = record { shows = j.shows; kept = λ x h. j.kept x (i.kept x h); source = λ x h. j.source x (i.source x h) }

-- an alias that is there is in view
abbrev HasAlias : Named → Option Bytes → Type 0
HasAlias n o = (x : Bytes) → o ≡ Some x → Has (place_at n x)

alias_there : (n : Named) (o : Option Bytes) → HasAlias n o → Has (if_there (place_at n) o)
alias_there n None h = (None, refl)
alias_there n (Some x) h = has_one (place_at n x) Some (h x refl)

no_there : (n : Named) (o : Option Bytes) → o ≡ None → HasAlias n o
no_there n None e x f = cc
no_there n (Some y) e x f = cc

record AliasJoins (g : Globals) (t : Scope Bytes) (n : Named) (o : Option Bytes) : Type 0 where
  behind : Named
  is : steps.with_alias n o ≡ Some behind
  joined : Joined g t n behind
  alias : HasAlias behind o

place_behind : (b : Bool) (p : ℕ) (o : Option NameBinding) → Has (place_in o) → Has (place_in (if b then Some (record { place = p; marked = false }) else o))
place_behind true p o h = (p, refl)
place_behind false p o h = h

place_first : (b : Bool) (p : ℕ) (o : Option NameBinding) → b ≡ true → Has (place_in (if b then Some (record { place = p; marked = false }) else o))
place_first true p o h = (p, refl)
place_first false p o h = cc

source_behind : (t : Option ℕ) (b : Bool) (p : ℕ) (o : Option NameBinding) → (b ≡ true → o ≡ None) → IsSource t o → IsSource t (if b then Some (record { place = p; marked = false }) else o)
source_behind t true p o new h = subst (IsSource t) (new refl) h
source_behind t false p o new h = h

alias_joins : (g : Globals) (s : Scope Bytes) (n : Named) → Shows g s n → (o : Option Bytes) (e : Entry) (t : Scope Bytes) → Marks false e → typed.with_alias o e s ≡ Ok t → AliasJoins g t n o
alias_joins g s n shows None e t mark h =
    subst (λ t. AliasJoins g t n None) (ok_inj h) (record { behind = n; is = refl; joined = joined_none g s n shows; alias = λ x i. cc })
alias_joins g s n shows (Some x) e t mark h =
    let u = after_ok (new_name s x) (Ok (with_entry x e s)) t h in
    let seen = new_seen g s n shows x u.0.0 u.0.1 in
    subst (λ t. AliasJoins g t n (Some x)) (ok_inj u.1)
    (record {
      behind = with_name n x false;
      is = ap (λ (o : Option (Behind ℕ)). plans.◌>>=◌ o (λ b. Some b.0)) (new_is g s n shows x u.0.0 u.0.1);
      joined = record {
        shows = shown_new g s n shows x e false mark;
        kept = λ y i. place_behind (bytes_eq x y) n.next (seen_at n y) i;
        source = λ y i. source_behind (g.vertex_type y) (bytes_eq x y) n.next (seen_at n y) (λ q. subst (λ z. seen_at n z ≡ None) (same_bytes x y q) seen) i;
      };
      alias = first;
    })
  where
    first : (z : Bytes) → ◌≡◌ {A = Option Bytes} (Some x) (Some z) → Has (place_at (with_name n x false) z)
    first z j = let e : x ≡ z = cc in place_first (bytes_eq x z) n.next (seen_at n z) (subst (λ y. bytes_eq x y ≡ true) e (same_itself x))

-- ---- walks

record WalkJoins (g : Globals) (t : Scope Bytes) (n : Named) (w : Walk Bytes) : Type 0 where
  edge : Named
  target : Named
  edge_is : steps.with_alias n (edge_alias w) ≡ Some edge
  target_is : steps.with_alias edge (target_alias w) ≡ Some target
  joined : Joined g t n target
  walked : Has (resolved_walk (known_in g target) (sees_in g target) w)

record StepsJoin (g : Globals) (t : Scope Bytes) (n : Named) (path : List (plain.Step Bytes)) : Type 0 where
  edge : Named
  target : Named
  edge_is : steps.with_alias n (edge_alias (Path path)) ≡ Some edge
  target_is : steps.with_alias edge (target_alias (Path path)) ≡ Some target
  joined : Joined g t n target
  walked : Has (each_resolved (resolved_step (known_in g target) (sees_in g target)) path)

no_alias : (o : Option Bytes) (e : Entry) (s t : Scope Bytes) → o ≡ None → typed.with_alias o e s ≡ Ok t → s ≡ t
no_alias None e s t n h = ok_inj h
no_alias (Some x) e s t n h = cc

module _ (g : Globals) (ends : List ℕ) where
  way_has : (s : Scope Bytes) (n m : Named) → Shows g s n → (d : Way × Bytes) (t : ℕ) → way_known s d ≡ Ok t → Has (resolved_way (sees_in g m) d)
  way_has s n m shows d t h = let u = then_ok (edge_type s d.1) _ t h in has_one (g.edge_type d.1) (λ (t : ℕ). (d.0, t)) (edge_type_has g s n shows d.1 u.0 u.1)

  hop_joins : (s t : Scope Bytes) (n : Named) (hop : Hop Bytes) → Shows g s n → typing_hop s ends hop ≡ Ok t → WalkJoins g t n (OneHop hop)
  hop_joins s t n hop shows h =
      let a = then_ok (unless NotAllowedHere (not s.with_paths) >> all_known (edge_type s) hop.edges >> typed.with_alias hop.edge_alias (EdgeAlias (edge_types s.setting hop.edges)) s) _ t h in
      let b = after_ok (unless NotAllowedHere (not s.with_paths) >> all_known (edge_type s) hop.edges) (typed.with_alias hop.edge_alias (EdgeAlias (edge_types s.setting hop.edges)) s) a.0 a.1 in
      let c = after_ok (unless NotAllowedHere (not s.with_paths)) (all_known (edge_type s) hop.edges) b.0.0 b.0.1 in
      let d = after_ok (all_known (vertex_type a.0) hop.targets) (typed.with_alias hop.target_alias (Alias ends) a.0) t a.2 in
      let i = alias_joins g s n shows hop.edge_alias (EdgeAlias (edge_types s.setting hop.edges)) a.0 refl b.1 in
      let j = alias_joins g a.0 i.behind i.joined.shows hop.target_alias (Alias ends) t refl d.1 in
      record {
        edge = i.behind;
        target = j.behind;
        edge_is = i.is;
        target_is = j.is;
        joined = joined_twice g a.0 t n i.behind j.behind i.joined j.joined;
        walked =
            has_one (resolved_hop (known_in g j.behind) (sees_in g j.behind) hop) walk.Hop
            (has_four _ (types_have g.edge_type (edge_type s) (edge_type_has g s n shows) hop.edges b.0.0 c.1)
            (alias_there j.behind hop.edge_alias (λ x e. j.joined.kept x (i.alias x e))) (types_have g.vertex_type (vertex_type a.0) (vertex_type_has g a.0 i.behind i.joined.shows) hop.targets d.0.0 d.0.1)
            (alias_there j.behind hop.target_alias j.alias));
      }

  steps_join : (path : List (plain.Step Bytes)) (s t : Scope Bytes) (n : Named) → Shows g s n → typing_steps s ends path ≡ Ok t → StepsJoin g t n path
  steps_join [] s t n shows h = subst (λ t. StepsJoin g t n []) (ok_inj h) (record { edge = n; target = n; edge_is = refl; target_is = refl; joined = joined_none g s n shows; walked = ([], refl) })
  steps_join (p ∷ []) s t n shows h =
      let a = then_ok (each_judged (way_known s) p.ways) _ t h in
      let b = then_ok (nameless true p.edge_alias >> typed.with_alias p.edge_alias (EdgeAlias a.0) s) _ t a.2 in
      let c = then_ok (all_known (vertex_type b.0) p.targets >> nameless true p.target_alias >> typed.with_alias p.target_alias (Alias ends) b.0) _ t b.2 in
      let d = after_ok (all_known (vertex_type b.0) p.targets >> nameless true p.target_alias) (typed.with_alias p.target_alias (Alias ends) b.0) c.0 c.1 in
      let e = after_ok (all_known (vertex_type b.0) p.targets) (nameless true p.target_alias) d.0.0 d.0.1 in
      let i = alias_joins g s n shows p.edge_alias (EdgeAlias a.0) b.0 refl b.1 in
      let j = alias_joins g b.0 i.behind i.joined.shows p.target_alias (Alias ends) c.0 refl d.1 in
      subst (λ t. StepsJoin g t n (p ∷ [])) (ok_inj c.2)
      (record {
        edge = i.behind;
        target = j.behind;
        edge_is = i.is;
        target_is = j.is;
        joined = joined_twice g b.0 c.0 n i.behind j.behind i.joined j.joined;
        walked =
            has_one _ (λ q. q ∷ [])
            (has_four _ (each_has (resolved_way (sees_in g j.behind)) (way_known s) (way_has s n j.behind shows) p.ways a.0 a.1)
            (alias_there j.behind p.edge_alias (λ x f. j.joined.kept x (i.alias x f))) (types_have g.vertex_type (vertex_type b.0) (vertex_type_has g b.0 i.behind i.joined.shows) p.targets e.0.0 e.0.1)
            (alias_there j.behind p.target_alias j.alias));
      })
  steps_join (p ∷ u ∷ rest) s t n shows h =
      let a = then_ok (each_judged (way_known s) p.ways) _ t h in
      let b = then_ok (nameless false p.edge_alias >> typed.with_alias p.edge_alias (EdgeAlias a.0) s) _ t a.2 in
      let v = after_ok (nameless false p.edge_alias) (typed.with_alias p.edge_alias (EdgeAlias a.0) s) b.0 b.1 in
      let c = then_ok (all_known (vertex_type b.0) p.targets >> nameless false p.target_alias >> typed.with_alias p.target_alias (Alias ends) b.0) _ t b.2 in
      let d = after_ok (all_known (vertex_type b.0) p.targets >> nameless false p.target_alias) (typed.with_alias p.target_alias (Alias ends) b.0) c.0 c.1 in
      let e = after_ok (all_known (vertex_type b.0) p.targets) (nameless false p.target_alias) d.0.0 d.0.1 in
      let no_edge : p.edge_alias ≡ None = none_if p.edge_alias (unless_ok NotAllowedHere (not (is_some p.edge_alias)) v.0.0 v.0.1) in
      let no_target : p.target_alias ≡ None = none_if p.target_alias (unless_ok NotAllowedHere (not (is_some p.target_alias)) d.0.0 e.1) in
      let first : s ≡ b.0 = no_alias p.edge_alias (EdgeAlias a.0) s b.0 no_edge v.1 in
      let second : b.0 ≡ c.0 = no_alias p.target_alias (Alias ends) b.0 c.0 no_target d.1 in
      let r = steps_join (u ∷ rest) s t n shows (subst (λ z. typing_steps z ends (u ∷ rest) ≡ Ok t) (sym (first ∙ second)) c.2) in
      record {
        edge = r.edge;
        target = r.target;
        edge_is = r.edge_is;
        target_is = r.target_is;
        joined = r.joined;
        walked =
            has_two _
            (has_four _ (each_has (resolved_way (sees_in g r.target)) (way_known s) (way_has s n r.target shows) p.ways a.0 a.1)
            (alias_there r.target p.edge_alias (no_there r.target p.edge_alias no_edge)) (types_have g.vertex_type (vertex_type s) (vertex_type_has g s n shows) p.targets e.0.0 (subst (λ z. all_known (vertex_type z) p.targets ≡ Ok e.0.0) (sym first) e.0.1))
            (alias_there r.target p.target_alias (no_there r.target p.target_alias no_target))) r.walked;
      }

  walk_joins : (w : Walk Bytes) (s t : Scope Bytes) (n : Named) → Shows g s n → typing_walk s ends w ≡ Ok t → WalkJoins g t n w
  walk_joins Nowhere s t n shows h = subst (λ t. WalkJoins g t n Nowhere) (ok_inj h) (record { edge = n; target = n; edge_is = refl; target_is = refl; joined = joined_none g s n shows; walked = (walk.Nowhere, refl) })
  walk_joins (OneHop hop) s t n shows h = hop_joins s t n hop shows h
  walk_joins (Path path) s t n shows h =
      let u = after_ok _ (typing_steps s ends path) t h in
      let r = steps_join path s t n shows u.1 in
      record { edge = r.edge; target = r.target; edge_is = r.edge_is; target_is = r.target_is; joined = r.joined; walked = has_one (each_resolved (resolved_step (known_in g r.target) (sees_in g r.target)) path) walk.Path r.walked }

-- ---- SELECT

source_is : (g : Globals) (s : Scope Bytes) (n : Named) → Shows g s n → (x : Bytes) (types : List ℕ) → source_types s x ≡ Ok types → IsSource (g.vertex_type x) (seen_at n x)
source_is g s n shows x types e = go (entry s x) refl (shows.names x)
  where
    go : (o : Option Entry) → entry s x ≡ o → IsShown (g.slot x) (seen_at n x) o → IsSource (g.vertex_type x) (seen_at n x)
    go (Some (SetVariable ts)) i d = subst (SourceAt (g.vertex_type x) (seen_at n x)) (sym (ap marked_in d.1)) (in_view (seen_at n x) true d)
    go o i d =
        let u = then_ok (vertex_type s x) (λ t. Ok (t ∷ [])) types (rw (i, source_types) at e) in
        subst (SourceAt (g.vertex_type x) (seen_at n x)) (sym (set_is_marked (g.slot x) (seen_at n x) o d)) (vertex_type_has g s n shows x u.0 u.1)

selected_has : (g : Globals) (s : Scope Bytes) (n : Named) → Shows g s n → (a b : Option Bytes) (x : Bytes) (types : List ℕ) → selected_types s a b x ≡ Ok types → Has (place_at n x)
selected_has g s n shows a b x types e = go (entry s x) refl (shows.names x)
  where
    go : (o : Option Entry) → entry s x ≡ o → IsShown (g.slot x) (seen_at n x) o → Has (place_at n x)
    go (Some (Alias ts)) i d = in_view (seen_at n x) false d
    go o i d = let h = (after_ok _ (Err (unknown s x)) types (rw (i, selected_types) at e)).1 in absurd (cc h)

source_has : (g : Globals) (n : Named) (x : Bytes) → IsSource (g.vertex_type x) (seen_at n x) → Has (resolved_source (known_in g n) (sees_in g n) x)
source_has g n x h = go (is_marked n x) h
  where
    go : (b : Bool) → SourceAt (g.vertex_type x) (seen_at n x) b → Has (if b then (plans.◌>>=◌ (place_at n x) (λ m. Some (source.Set m))) else (plans.◌>>=◌ (g.vertex_type x) (λ t. Some (source.Type t))))
    go true h = has_one (place_at n x) source.Set h
    go false h = has_one (g.vertex_type x) source.Type h

key_has : (g : Globals) (s : Scope Bytes) (n : Named) → Shows g s n → (place : Place Bytes) (key : Tree Bytes × Bool) (q : Bool) → sort_key (names_at s place) key ≡ Ok q → Has (resolved_key (known_in g n) key)
key_has g s n shows place key q h = let u = then_ok (typing (names_at s place) key.0) _ q h in has_one (resolved (known_in g n) key.0) (λ e. (e, key.1)) (tree_has (names_at s place) (known_in g n) (knows g s n shows place) key.0 u.0 u.1)

-- after the block of a SELECT the same names are in view as before
pub select_has : (g : Globals) (s : Scope Bytes) (n : Named) → Shows g s n → (q : Select Bytes) (types : List ℕ) → typing_select s q ≡ Ok types → Goes (Same n) (resolved_block g n q)
select_has g s n shows q types h =
    let a = then_ok (source_types s q.source) _ types h in
    let b = then_ok (typed.with_alias q.alias (Alias a.0) s) _ types a.2 in
    let c = then_ok (typing_walk b.0 (end_types s.setting q.walk) q.walk) _ types b.2 in
    let d = then_ok (selected_types c.0 q.alias (target_alias q.walk) q.selected) _ types c.2 in
    let i = alias_joins g s n shows q.alias (Alias a.0) b.0 refl b.1 in
    let w = walk_joins g (end_types s.setting q.walk) q.walk b.0 c.0 i.behind i.joined.shows c.1 in
    let j = joined_twice g b.0 c.0 n i.behind w.target i.joined w.joined in
    let o = six_ok (optional (condition (names_at c.0 InBlock)) q.filter) (typing_acts c.0 false 0 q.accum) (typing_post c.0 q.alias (target_alias q.walk) 0 q.post) (optional (condition (names_at c.0 (InTail q.selected))) q.having)
    (each_judged (sort_key (names_at c.0 (InTail q.selected))) q.order) (optional (number (names_at c.0 InLimit)) q.limit) (Ok d.0) types d.2 in
    let k = known_in g w.target in
    let inside = j.shows in
    let from =
    has_four _ (selected_has g c.0 w.target inside q.alias (target_alias q.walk) q.selected d.0 d.1) (source_has g w.target q.source (j.source q.source (source_is g s n shows q.source a.0 a.1)))
    (alias_there w.target q.alias (λ x e. w.joined.kept x (i.alias x e))) w.walked in
    let clauses =
    has_three _ (optional_has k (condition (names_at c.0 InBlock)) (condition_has (names_at c.0 InBlock) k (knows g c.0 w.target inside InBlock)) q.filter o.0.0 o.0.1)
    (acts_have g c.0 w.target inside false q.accum 0 o.1.0.0 o.1.0.1) (posts_have g c.0 w.target inside q.alias (target_alias q.walk) q.post 0 o.1.1.0.0 o.1.1.0.1) in
    let tail =
    has_three _ (optional_has k (condition (names_at c.0 (InTail q.selected))) (condition_has (names_at c.0 (InTail q.selected)) k (knows g c.0 w.target inside (InTail q.selected))) q.having o.1.1.1.0.0 o.1.1.1.0.1)
    (each_has (resolved_key k) (sort_key (names_at c.0 (InTail q.selected))) (key_has g c.0 w.target inside (InTail q.selected)) q.order o.1.1.1.1.0.0 o.1.1.1.1.0.1)
    (optional_has k (number (names_at c.0 InLimit)) (number_has (names_at c.0 InLimit) k (knows g c.0 w.target inside InLimit)) q.limit o.1.1.1.1.1.0 o.1.1.1.1.1.1) in
    let block = has_three _ from clauses tail in
    let aliases : with_aliases n q ≡ Some w.target =
    ap (λ (x : Option Named). plans.◌>>=◌ x (λ a. plans.◌>>=◌ (steps.with_alias a (edge_alias q.walk)) (λ b. steps.with_alias b (target_alias q.walk)))) i.is
    ∙ (ap (λ (x : Option Named). plans.◌>>=◌ x (λ b. steps.with_alias b (target_alias q.walk))) w.edge_is ∙ w.target_is) in
    record {
      behind = ended n w.target;
      planned = block.0;
      is =
          ap (λ (x : Option Named). plans.◌>>=◌ x (λ m. plans.◌>>=◌ (resolved_select (known_in g m) (sees_in g m) q) (λ b. Some (ended n m, b)))) aliases
          ∙ ap (λ (x : Option Block). plans.◌>>=◌ x (λ b. Some (ended n w.target, b))) block.1;
      after = refl;
    }

-- ---- statements that have a plan if they are well typed

-- ---- parts in which no name comes into view

module _ (g : Globals) (s : Scope Bytes) (n : Named) (shows : Shows g s n) where
  abbrev known : Known
  known = known_in g n

  -- a name alone that has a base type
  name_has : (x : Bytes) (b : Base) → base_type (here s) (Name x) ≡ Ok b → Has (place_at n x)
  name_has x b h =
      let u = then_ok (typing (here s) (Name x)) as_base b h in
      let v = then_ok ((here s).named x) alone u.0 u.1 in
      place_has g s n shows InStatement x v.0 v.1

  seed_has : (z : Seed Bytes) (types : List ℕ) → seed_types s z ≡ Ok types → Has (resolved_seed g n z)
  seed_has (AllOf t) types h = let u = then_ok (vertex_type s t) _ types h in has_one (g.vertex_type t) seed.Type (vertex_type_has g s n shows t u.0 u.1)
  seed_has AllVertices types h = (seed.Every, refl)
  seed_has (OneVertex x) types h = let u = then_ok (base_type (here s) (Name x)) (types_of s) types h in has_one (place_at n x) seed.Name (name_has x u.0 u.1)
  seed_has (ContentOf a) types h = let u = then_ok (declared_kind s false a) (content_types s) types h in has_one (g.slot a) seed.Global (slot_has g s n shows false a u.0 u.1)

  term_has : (t : SetTerm Bytes) (types : List ℕ) → term_types s t ≡ Ok types → Has (resolved_term g n t)
  term_has (SetNamed x) types h = has_one (place_at n x) term.Name (set_place g s n shows x types h)
  term_has (Seeds seeds) types h = let u = then_ok (each_judged (seed_types s) seeds) _ types h in has_one (each_resolved (resolved_seed g n) seeds) term.Seeds (each_has (resolved_seed g n) (seed_types s) seed_has seeds u.0 u.1)

  operand_has : (b : List ℕ) (t : SetOp × SetTerm Bytes) (types : List ℕ) → (term_types s t.1 >>= λ c. Ok (joined_types t.0 b c)) ≡ Ok types → Has (resolved_operand g n t)
  operand_has b t types h = let u = then_ok (term_types s t.1) _ types h in has_one (resolved_term g n t.1) (λ x. (t.0, x)) (term_has t.1 u.0 u.1)

  chain_has : (t : SetTerm Bytes) (rest : List (SetOp × SetTerm Bytes)) (types : List ℕ) → (term_types s t >>= λ a. through_judged (λ b next. term_types s next.1 >>= λ c. Ok (joined_types next.0 b c)) a rest) ≡ Ok types → Has (resolved_sets g n t rest)
  chain_has t rest types h =
      let u = then_ok (term_types s t) _ types h in
      has_two _ (term_has t u.0 u.1) (through_has (resolved_operand g n) (λ b next. term_types s next.1 >>= λ c. Ok (joined_types next.0 b c)) operand_has rest u.0 types u.2)

  sets_have : (t : SetTerm Bytes) (rest : List (SetOp × SetTerm Bytes)) (types : List ℕ) → sets_types s t rest ≡ Ok types → Has (resolved_sets g n t rest)
  sets_have (Seeds []) [] types h = (record { first = term.Seeds []; others = [] }, refl)
  sets_have t rest types h = chain_has t rest types h

  -- ---- changes of global accumulators

  change_has : (kind : Accum) (c : Change Bytes) (q : Bool) → typing_change s kind c ≡ Ok q → Has (resolved_change known c)
  change_has kind (Adds x) q h = has_one (resolved_input known x) change.Feed (input_has (here s) known (knows g s n shows InStatement) (Some kind) x q h)
  change_has kind (Puts t) q h = let u = then_ok (settable kind) _ q h in has_one (resolved known t) change.Set (converting_has (here s) known (knows g s n shows InStatement) u.0 t q u.2)

  -- ---- the values of FOREACH, and the items of PRINT

  over_has : (o : Over Bytes) (b : Base) → variable_type (here s) o ≡ Ok b → Has (resolved_over known o)
  over_has (Elements t) b h = let u = then_ok (typing (here s) t) element_of b h in has_one (resolved known t) over.Elements (tree_has (here s) known (knows g s n shows InStatement) t u.0 u.1)
  over_has (Range a t) b h =
      let u = then_ok (number (here s) a) _ b h in
      let v = then_ok (number (here s) t) _ b u.2 in
      has_two _ (number_has (here s) known (knows g s n shows InStatement) a u.0 u.1) (number_has (here s) known (knows g s n shows InStatement) t v.0 v.1)

  -- the name of a set, or an expression
  whole_name : (x : Bytes) (ty : Typed) → typing_whole s (Name x) ≡ Ok ty → Has (place_at n x)
  whole_name x ty e = go (entry s x) (shows.names x) refl e
    where
      named : typing (here s) (Name x) ≡ Ok ty → Has (place_at n x)
      named h = let v = then_ok ((here s).named x) alone ty h in place_has g s n shows InStatement x v.0 v.1

      go : (o : Option Entry) → IsShown (g.slot x) (seen_at n x) o → entry s x ≡ o → (if is_set o then Ok (SetOf []) else typing (here s) (Name x)) ≡ Ok ty → Has (place_at n x)
      go (Some (SetVariable ts)) d i h = in_view (seen_at n x) true d
      go o d i h = named h

  whole_has : (t : Tree Bytes) (ty : Typed) → typing_whole s t ≡ Ok ty → Has (resolved known t)
  whole_has (Name x) ty h = has_one (place_at n x) _ (whole_name x ty h)
  whole_has t ty h = let u = then_ok (typing (here s) t) printable ty h in tree_has (here s) known (knows g s n shows InStatement) t u.0 u.1

  keyed_has : (x : Bytes) (keys : List Bytes) (i : Item Bytes) (more : List Bytes) → typing_item (names_at s (InSelection x)) keys i ≡ Ok more → Has (resolved_keyed known i)
  keyed_has x keys i more h =
      let u = after_ok (typing (names_at s (InSelection x)) i.tree >>= printable) (new_key keys i.key) more h in
      let v = then_ok (typing (names_at s (InSelection x)) i.tree) printable u.0.0 u.0.1 in
      has_one (resolved known i.tree) (λ e. (e, i.key)) (tree_has (names_at s (InSelection x)) known (knows g s n shows (InSelection x)) i.tree v.0 v.1)

  printed_has : (keys : List Bytes) (p : Printed Bytes) (more : List Bytes) → typing_printed s keys p ≡ Ok more → Has (resolved_item known p)
  printed_has keys (Whole i) more h = let u = after_ok (typing_whole s i.tree) (new_key keys i.key) more h in has_one (resolved known i.tree) (λ e. item.Value e i.key) (whole_has i.tree u.0.0 u.0.1)
  printed_has keys (Selection x items key) more h =
      let u = after_ok (set_types s x >> through_judged (typing_item (names_at s (InSelection x))) [] items) (new_key keys key) more h in
      let v = after_ok (set_types s x) (through_judged (typing_item (names_at s (InSelection x))) [] items) u.0.0 u.0.1 in
      has_two _ (set_place g s n shows x v.0.0 v.0.1) (through_has (resolved_keyed known) (typing_item (names_at s (InSelection x))) (keyed_has x) items [] u.0.0 v.1)

  -- ---- the right side of an assignment

  -- whether it is a set, as typing has it; the same names are in view after it
  abbrev RightFits : Right Bytes → Option (Judged (List ℕ)) → Type 0
  RightFits r (Some set) = (is_set_right n r ≡ true) × ((types : List ℕ) → set ≡ Ok types → Goes (Same n) (resolved_right g n r))
  RightFits r None = is_set_right n r ≡ false

  value_has : (t : Tree Bytes) → Has (resolved known t) → Goes (Same n) (resolved_right g n (Expression t))
  value_has t h = has_goes (Same n) (resolved known t) _ h (λ e. goes_now (Same n) n (right.Value e) refl)

  right_fits : (r : Right Bytes) → RightFits r (right_types s r)
  right_fits (Selects q) = (refl, λ types h. goes_as (Same n) (Same n) (resolved_block g n q) right.Select (λ m i. i) (select_has g s n shows q types h))
  right_fits (Sets t rest) = (refl, λ types h. has_goes (Same n) (resolved_sets g n t rest) _ (sets_have t rest types h) (λ z. goes_now (Same n) n (right.Sets z) refl))
  right_fits (Expression (Name y)) = go (is_set (entry s y)) (set_is_marked (g.slot y) (seen_at n y) (entry s y) (shows.names y))
    where
      go : (b : Bool) → is_marked n y ≡ b → RightFits (Expression (Name y)) (if b then Some (set_types s y) else None)
      go true e = (e, λ types h. value_has (Name y) (has_one (place_at n y) _ (set_place g s n shows y types h)))
      go false e = e
  right_fits (Expression t) = refl

-- ---- assignments

refused : {A : Type 0} {e : TypingFault} {t : A} → ◌≡◌ {A = Judged A} (Err e) (Ok t) → ⊥
refused h = cc

module _ (g : Globals) (s : Scope Bytes) (n : Named) (shows : Shows g s n) where
  -- a name that is in view keeps its entry
  old_target : (x : Bytes) (set : Bool) → InView (seen_at n x) set → (m : Named) → Same n m → Goes (Shows g s) (resolved_target m x set)
  old_target x set v m i = record {
    behind = m;
    planned = v.0;
    is = ap (λ o. target_seen o m x set) (ap (λ l. found_in l x) i ∙ v.1) ∙ kept set;
    after = shows_same g s n shows m i;
  }
    where
      kept : (b : Bool) → if_same (same_mark b b) (m, v.0) ≡ Some (m, v.0)
      kept true = refl
      kept false = refl

  new_target : (x : Bytes) (types : List ℕ) → seen_at n x ≡ None → (m : Named) → Same n m → Goes (Shows g (with_entry x (SetVariable types) s)) (resolved_target m x true)
  new_target x types e m i = record {
    behind = with_name m x true;
    planned = m.next;
    is = ap (λ o. target_seen o m x true) (ap (λ l. found_in l x) i ∙ e);
    after = shown_new g s m (shows_same g s n shows m i) x (SetVariable types) true refl;
  }

  assigned : (t : Scope Bytes) (x : Bytes) (types : Option (SetTypes Bytes)) (r : Right Bytes) (set : Bool) → Has (if_there (resolved_set_types g) types) → is_set_right n r ≡ set → Goes (Same n) (resolved_right g n r)
      → ((m : Named) → Same n m → Goes (Shows g t) (resolved_target m x set)) → Goes (Shows g t) (resolved_assign g n x types r)
  assigned t x types r set a e h w =
      has_goes (Shows g t) (if_there (resolved_set_types g) types) _ a (λ ts. goes_then (Same n) (Shows g t) (resolved_right g n r) _ h (λ m b i.
      goes_as (Shows g t) (Shows g t) (resolved_target m x (is_set_right n r)) (λ p. step.Assign p ts b) (λ o j. j) (subst (λ q. Goes (Shows g t) (resolved_target m x q)) (sym e) (w m i))))

  -- without types after the name
  assign_has : (x : Bytes) (r : Right Bytes) (t : Scope Bytes) (e : Option Entry) (o : Option (Judged (List ℕ))) → IsShown (g.slot x) (seen_at n x) e → RightFits g s n shows r o → typing_assign s x r e o ≡ Ok t → Goes (Shows g t) (resolved_assign g n x None r)
  assign_has x r t (Some (SetVariable fixed)) (Some set) d f h =
      let u = after_ok (set >>= kept_within s x fixed) (Ok s) t h in
      let v = then_ok set (kept_within s x fixed) u.0.0 u.0.1 in
      subst (λ t. Goes (Shows g t) (resolved_assign g n x None r)) (ok_inj u.1) (assigned s x None r true (None, refl) f.0 (f.1 v.0 v.1) (old_target x true d))
  assign_has x (Expression e) t (Some (Variable b)) None d f h =
      let u = after_ok (converting (here s) b e) (Ok s) t h in
      let w = value_has g s n shows e (converting_has (here s) (known_in g n) (knows g s n shows InStatement) b e u.0.0 u.0.1) in
      subst (λ t. Goes (Shows g t) (resolved_assign g n x None (Expression e))) (ok_inj u.1) (assigned s x None (Expression e) false (None, refl) f w (old_target x false d))
  assign_has x r t None (Some set) d f h =
      let v = then_ok set _ t h in
      subst (λ t. Goes (Shows g t) (resolved_assign g n x None r)) (ok_inj v.2) (assigned (with_entry x (SetVariable v.0) s) x None r true (None, refl) f.0 (f.1 v.0 v.1) (new_target x v.0 d))
  assign_has x r t e o d f h = absurd (refused h)

  set_types_have : (ts : SetTypes Bytes) (types : List ℕ) → fixed_types s ts ≡ Ok types → Has (if_there (resolved_set_types g) (Some ts))
  set_types_have AnyType types h = (Some set_type.Every, refl)
  set_types_have (TypeOf x) types h =
      let u = then_ok (vertex_type s x) _ types h in
      has_one (resolved_set_types g (TypeOf x)) Some (has_one (g.vertex_type x) set_type.Of (vertex_type_has g s n shows x u.0 u.1))

  fixed_has : (x : Bytes) (ts : SetTypes Bytes) (fixed : List ℕ) (r : Right Bytes) (t : Scope Bytes) (o : Option (Judged (List ℕ))) → Has (if_there (resolved_set_types g) (Some ts)) → seen_at n x ≡ None → RightFits g s n shows r o → typing_fixed s x fixed r o ≡ Ok t
      → Goes (Shows g t) (resolved_assign g n x (Some ts) r)
  fixed_has x ts fixed r t (Some set) a e f h =
      let u = after_ok (set >>= kept_within s x fixed) (Ok (with_entry x (SetVariable fixed) s)) t h in
      let v = then_ok set (kept_within s x fixed) u.0.0 u.0.1 in
      subst (λ t. Goes (Shows g t) (resolved_assign g n x (Some ts) r)) (ok_inj u.1) (assigned (with_entry x (SetVariable fixed) s) x (Some ts) r true a f.0 (f.1 v.0 v.1) (new_target x fixed e))
  fixed_has x ts fixed r t None a e f h = let u = after_ok (right_value r >>= typing (here s)) (Err Mismatch) t h in absurd (refused u.1)

  assignment_has : (x : Bytes) (types : Option (SetTypes Bytes)) (r : Right Bytes) (t : Scope Bytes) → typing_assignment s x types r ≡ Ok t → Goes (Shows g t) (resolved_assign g n x types r)
  assignment_has x None r t h = assign_has x r t (entry s x) (right_types s r) (shows.names x) (right_fits g s n shows r) h
  assignment_has x (Some ts) r t h =
      let u = then_ok (fixed_types s ts) _ t h in
      let v = after_ok (new_name s x) (typing_fixed s x u.0 r (right_types s r)) t u.2 in
      fixed_has x ts u.0 r t (right_types s r) (set_types_have ts u.0 u.1) (new_seen g s n shows x v.0.0 v.0.1) (right_fits g s n shows r) v.1

-- ---- locals

locals_have : (g : Globals) (b : Base) (xs : List (Bytes × Option (Tree Bytes))) (s t : Scope Bytes) (n : Named) → Shows g s n → through_judged (typing_local b) s xs ≡ Ok t → Goes (Shows g t) (resolved_locals g n xs)
locals_have g b [] s t n shows h = goes_now (Shows g t) n [] (subst (λ t. Shows g t n) (ok_inj h) shows)
locals_have g b (x ∷ xs) s t n shows h =
    let u = then_ok (typing_local b s x) _ t h in
    let a = after_ok (unless NotAllowedHere (may_lack_value b (is_some x.1)) >> new_name s x.0 >> optional (converting (here s) b) x.1) (Ok (with_entry x.0 (Variable b) s)) u.0 u.1 in
    let c = after_ok (unless NotAllowedHere (may_lack_value b (is_some x.1)) >> new_name s x.0) (optional (converting (here s) b) x.1) a.0.0 a.0.1 in
    let d = after_ok (unless NotAllowedHere (may_lack_value b (is_some x.1))) (new_name s x.0) c.0.0 c.0.1 in
    has_goes (Shows g t) (if_there (resolved (known_in g n)) x.1) _ (optional_has (known_in g n) (converting (here s) b) (converting_has (here s) (known_in g n) (knows g s n shows InStatement) b) x.1 a.0.0 c.1) (λ e.
    goes_then (Shows g (with_entry x.0 (Variable b) s)) (Shows g t) (steps.new_name n x.0) _ (name_goes g s n shows x.0 (Variable b) c.0.0 refl d.1) (λ m p i.
    goes_as (Shows g t) (Shows g t) (resolved_locals g m xs) (λ l. (p, e) ∷ l) (λ o j. j) (locals_have g b xs u.0 t m (subst (λ z. Shows g z m) (ok_inj a.1) i) u.2)))

-- ---- statements

-- the names of a body end with it
body_goes : (After : Named → Type 0) (n : Named) (o : Option (Behind (List Step))) → Goes After o → Goes (Same n) (body_of n o)
body_goes After n o h = record { behind = ended n h.behind; planned = h.planned; is = ap (body_of n) h.is; after = refl }

else_goes : (n : Named) (body : Stmts Bytes) (o : Option (Behind (List Step))) → Goes (Same n) o → Goes (Same n) (steps.else_of n body o)
else_goes n no_stmt o h = goes_now (Same n) n None refl
else_goes n (stmt_and s rest) o h = goes_as (Same n) (Same n) o Some (λ m i. i) h

module _ (g : Globals) where
  -- the scope is the one before
  back : (s t : Scope Bytes) (n : Named) → Shows g s n → ◌≡◌ {A = Judged (Scope Bytes)} (Ok s) (Ok t) → (m : Named) → Same n m → Shows g t m
  back s t n shows e m i = subst (λ t. Shows g t m) (ok_inj e) (shows_same g s n shows m i)

  mutual
    stmt_has : (st : Stmt Bytes) (s t : Scope Bytes) (n : Named) → Shows g s n → typing_stmt s st ≡ Ok t → Goes (Shows g t) (resolved_stmt g n st)
    stmt_has (Local base xs) s t n shows h =
        let u = then_ok (base_written s base) _ t h in
        has_goes (Shows g t) (resolved_base g base) _ (written_has g s shows.words base u.0 u.1) (λ d. goes_as (Shows g t) (Shows g t) (resolved_locals g n xs) (step.Local d) (λ m i. i) (locals_have g u.0 xs s t n shows u.2))
    stmt_has (Assign x types r) s t n shows h = assignment_has g s n shows x types r t h
    stmt_has (ChangeGlobal a c) s t n shows h =
        let u = then_ok (declared_kind s false a) _ t h in
        let v = after_ok (typing_change s u.0 c) (Ok s) t u.2 in
        has_goes (Shows g t) (g.slot a) _ (slot_has g s n shows false a u.0 u.1) (λ m. has_goes (Shows g t) (resolved_change (known_in g n) c) _ (change_has g s n shows u.0 c v.0.0 v.0.1) (λ d.
        goes_now (Shows g t) n (step.Global m d) (back s t n shows v.1 n refl)))
    stmt_has (If branches) s t n shows h =
        let u = after_ok (typing_branches s branches) (Ok s) t h in
        goes_as (Same n) (Shows g t) (resolved_branches g n branches) steps.if_of (back s t n shows u.1) (branches_have branches s n shows u.0.0 u.0.1)
    stmt_has (While c limit body) s t n shows h =
        let u = after_ok (condition (here s) c >> optional (number (here s)) limit >> typing_stmts s body) (Ok s) t h in
        let v = after_ok (condition (here s) c >> optional (number (here s)) limit) (typing_stmts s body) u.0.0 u.0.1 in
        let w = after_ok (condition (here s) c) (optional (number (here s)) limit) v.0.0 v.0.1 in
        let k = known_in g n in
        let know = knows g s n shows InStatement in
        has_goes (Shows g t) (resolved k c) _ (condition_has (here s) k know c w.0.0 w.0.1) (λ e.
        has_goes (Shows g t) (if_there (resolved k) limit) _ (optional_has k (number (here s)) (number_has (here s) k know) limit v.0.0 w.1) (λ l.
        goes_as (Same n) (Shows g t) (body_of n (resolved_stmts g n body)) (step.While e l) (back s t n shows u.1) (body_goes (Shows g u.0.0) n (resolved_stmts g n body) (stmts_have body s u.0.0 n shows v.1))))
    stmt_has (Foreach x o body) s t n shows h =
        let u = then_ok (new_name s x >> variable_type (here s) o) _ t h in
        let v = after_ok (new_name s x) (variable_type (here s) o) u.0 u.1 in
        let inner = with_entry x (Variable u.0) s in
        let w = after_ok (typing_stmts inner body) (Ok s) t u.2 in
        has_goes (Shows g t) (resolved_over (known_in g n) o) _ (over_has g s n shows o u.0 v.1) (λ p.
        goes_then (Shows g inner) (Shows g t) (steps.new_name n x) _ (name_goes g s n shows x (Variable u.0) v.0.0 refl v.0.1) (λ m q i.
        goes_as (Same n) (Shows g t) (body_of n (resolved_stmts g m body)) (step.Foreach q p) (back s t n shows w.1) (body_goes (Shows g w.0.0) n (resolved_stmts g m body) (stmts_have body inner w.0.0 m i w.0.1))))
    stmt_has (Print ps) s t n shows h =
        let u = after_ok (through_judged (typing_printed s) [] ps) (Ok s) t h in
        has_goes (Shows g t) (each_resolved (resolved_item (known_in g n)) ps) _ (through_has (resolved_item (known_in g n)) (typing_printed s) (printed_has g s n shows) ps [] u.0.0 u.0.1) (λ is.
        goes_now (Shows g t) n (step.Print is) (back s t n shows u.1 n refl))

    stmts_have : (body : Stmts Bytes) (s t : Scope Bytes) (n : Named) → Shows g s n → typing_stmts s body ≡ Ok t → Goes (Shows g t) (resolved_stmts g n body)
    stmts_have no_stmt s t n shows h = goes_now (Shows g t) n [] (back s t n shows h n refl)
    stmts_have (stmt_and st rest) s t n shows h =
        let u = then_ok (typing_stmt s st) _ t h in
        goes_then (Shows g u.0) (Shows g t) (resolved_stmt g n st) _ (stmt_has st s u.0 n shows u.1) (λ m a i. goes_as (Shows g t) (Shows g t) (resolved_stmts g m rest) (λ l. a ∷ l) (λ o j. j) (stmts_have rest u.0 t m i u.2))

    branches_have : (branches : Branches Bytes) (s : Scope Bytes) (n : Named) → Shows g s n → (q : Bool) → typing_branches s branches ≡ Ok q → Goes (Same n) (resolved_branches g n branches)
    branches_have (else_ body) s n shows q h =
        let u = after_ok (typing_stmts s body) (Ok true) q h in
        goes_as (Same n) (Same n) (steps.else_of n body (body_of n (resolved_stmts g n body))) (λ o. ([], o)) (λ m i. i) (else_goes n body (body_of n (resolved_stmts g n body)) (body_goes (Shows g u.0.0) n (resolved_stmts g n body) (stmts_have body s u.0.0 n shows u.0.1)))
    branches_have (if_ c body rest) s n shows q h =
        let u = after_ok (condition (here s) c >> typing_stmts s body) (typing_branches s rest) q h in
        let v = after_ok (condition (here s) c) (typing_stmts s body) u.0.0 u.0.1 in
        has_goes (Same n) (resolved (known_in g n) c) _ (condition_has (here s) (known_in g n) (knows g s n shows InStatement) c v.0.0 v.0.1) (λ e.
        goes_then (Same n) (Same n) (body_of n (resolved_stmts g n body)) _ (body_goes (Shows g u.0.0) n (resolved_stmts g n body) (stmts_have body s u.0.0 n shows v.1)) (λ m b i.
        goes_as (Same m) (Same n) (resolved_branches g m rest) (λ z. ((e, b) ∷ z.0, z.1)) (λ o j. j ∙ i) (branches_have rest s m (shows_same g s n shows m i) q u.1)))

pub statements_law : StatementsLaw
statements_law g s n shows body t h = let r = stmts_have g body s t n shows h in record { behind = r.behind; steps = r.planned; is = r.is; shows = r.after }
