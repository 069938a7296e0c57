-- RunLaws: sets, assignments and statements that represent others do the same.
use Rattle.std.proofs.Common.{◌≡◌, ℕ, List, [], ◌∷◌, map, Option, Some, None, refl, ap, Bool, true, false, sym, ◌∙◌, subst, zero, suc, ◌++◌}
use Rattle.std.specs.Option.{option_map}
use Rattle.std.proofs.lemmas.List.{append_assoc}
use Rattle.gq_tree.specs.declared.body.SetOp.{SetOp}
use Rattle.gq_value.specs.Val.{Vertex, Val}
use Rattle.gq_value.specs.Accums.{Base, VERTEX_OF, SetAccum}
use Rattle.gq_rules_typing.specs.Statements as statements
use Rattle.gq_rules_typing.specs.Statements.{BaseTree, Ints, UInts, Bools, Strings, AnyVertex, VertexOf, Seed, AllVertices, OneVertex, ContentOf, SetTerm, SetNamed, Seeds, SetTypes, AnyType, TypeOf, Over, Elements, Range, Sets, Expression, Right, Selects, Printed, Stmt, Local, Assign, ChangeGlobal, If, While, Foreach, Print, Stmts, no_stmt, stmt_and, Branches, else_, if_}
use Rattle.gq_rules_meaning.specs.Answers.{Gives, ◌>>=◌, found, through, Answer, blaming, Faults, each}
use Rattle.gq_rules_meaning.specs.Graphs.{vertices_of}
use Rattle.gq_rules_meaning.specs.Meanings.{Meant, Is, IsContent}
use Rattle.gq_rules_meaning.specs.States.{Thing, State, seen, Variable, SetOf, thing_named, changed, with_new, with_name}
use Rattle.gq_rules_meaning.specs.Sets.{types_of_base, vertices_in, of_variable, of_content, seed_of, all_of, set_in, set_named, term_of, joined, sets_of, types_fixed, TypedSet, types_kept, set_assigned}
use Rattle.gq_rules_meaning.specs.Statements.{base_of_tree, elements_of, between, gone_over, Evaluation, is_set, value_assigned, expression_assigned, assigned, Fault, PathBound, of_block, of_write, local_value, with_local, select_assigned}
use Rattle.gq_rules_meaning.specs.StateFits.{AllOf}
use Rattle.gq_plan_ir.specs.Renamed.{SeesAlike, renamed}
use Rattle.gq_plan_ir.proofs.RenamedLaws.{then_same, meaning-renamed}
use Rattle.gq_plan_ir.specs.Naming.{named_by, naming_by, View, is_set_at, reference_or_nothing, reference_at, AreDistinct, inside, naming, source_at, Visible, visible_at, with_name as view_with}
use Rattle.gq_plan_ir.specs.RenamedStatements.{renamed_base, renamed_seed, renamed_term, renamed_set_types, renamed_over, renamed_printed}
use Rattle.gq_plan_ir.specs.Alike.{Sides, old_world, new_world, WordsAlike, AccumIs, AnswersAlike, SlotsAlike, StatesAlike, NamesAlike, RunsAlike}
use Rattle.gq_plan_laws.proofs.AnswerLaws.{each_alike, through_same, alike_same, alike_then, alike_blaming, through_each}
use Rattle.gq_plan_laws.proofs.NameLaws.{LooksAlike, found_set, Told, all_told, found_visible, told_at, seen as view_seen, at_target, assigned_alike, new_alike, ended_alike}
use Rattle.gq_plan_laws.proofs.SightLaws.{value_alike, as_alike, number_alike, truth_alike}
use Rattle.gq_plan_laws.proofs.SelectLaws.{new_state, seen_alike, renamed_from, from_alike, candidates_alike, bound_alike, slots_changed_alike, selects_alike, SelectedAlike, select_alike, SelectSeen, select_seen}
use Rattle.std.specs.Prelude.{if◌then◌else◌, is_some}
use Rattle.gq_tree.specs.Tree.{Tree, Name}
use Rattle.gq_rules_typing.specs.Words.{under}
use Rattle.gq_rules_meaning.specs.Expressions.{World, truth_of}
use Rattle.gq_plan_ir.specs.StandsFor.{is_set_right, TargetStands, with_target, with_aliases, SelectStands, RightStands, LocalsStand, with_locals, behind, Stands, AllStand, BranchesStand, behind_all}
use Rattle.gq_rules_typing.specs.Selecting.{Change, Select}
use Rattle.gq_rules_meaning.specs.Sources.{From, from, candidates_of, within_bound, selects_target, types_at}
use Rattle.gq_rules_meaning.specs.Writes.{slots_changed}
use Rattle.gq_rules_meaning.specs.Printing.{printed}
use Rattle.gq_rules_meaning.specs.Tails.{select}
use Rattle.gq_rules_meaning.specs.Runs.{Running, with_state, Body, inner, enter, is_reached, one_less, rounds, count_of, limit_of, condition_of, for_each, global_changed, run, run_all, run_branches}
use Rattle.gq_plan_ir.specs.RenamedBlocks.{renamed_change, renamed_select}
use Rattle.gq_plan_laws.specs.RefinementLaws.{StatementLaw}
use Rattle.gq_plan_laws.proofs.PrintLaws.{SeenTold, printed_alike}

-- ---- set expressions by references hold the same vertices, and the assigned values are the same

module _ {M N : Type 0} (s : Sides M N) (w : WordsAlike s) where
  pub base_alike : (b : BaseTree M) → base_of_tree (new_world s) (renamed_base s.fixed.vertex_type b) ≡ base_of_tree (old_world s) b
  base_alike (VertexOf t) = ap (λ o. found o >>= λ n. Gives (VERTEX_OF n)) (w.vertex_type t)
  base_alike b = refl

  types_alike : (b : Base) → types_of_base (new_world s) b ≡ types_of_base (old_world s) b
  types_alike (VERTEX_OF t) = refl
  types_alike b = refl

  variable_alike : (m : Meant) → of_variable (new_world s) m ≡ of_variable (old_world s) m
  variable_alike (Is b (Vertex v)) = ap (λ ts. Gives (ts, v ∷ [])) (types_alike b)
  variable_alike m = refl

  content_alike : (m : Meant) → of_content (new_world s) m ≡ of_content (old_world s) m
  content_alike (IsContent (SetAccum b) c) = ap (λ ts. Gives (ts, vertices_in c)) (types_alike b)
  content_alike m = refl

  pub fixed_alike : (types : Option (SetTypes M)) (ts : List ℕ) → types_fixed (new_world s) (option_map (renamed_set_types s.fixed.vertex_type) types) ts ≡ types_fixed (old_world s) types ts
  fixed_alike (Some (TypeOf t)) ts = ap of_type (w.vertex_type t)
    where
      of_type : Option ℕ → List ℕ
      of_type None = ts
      of_type (Some n) = n ∷ []
  fixed_alike types ts = refl

  module _ (f source : M → N) (old : State M) (bs : List (N × Thing)) (k : LooksAlike s w f old.names bs) (h : AllOf (AccumIs s) old.slots) where
    abbrev pub sees : SeesAlike (named_by s.fixed f) (seen (old_world s) old) (seen (new_world s) (new_state s w f bs old))
    sees = seen_alike s w f old.names bs k old.slots old.slots h h

    seed_alike : (x : Seed M) → seed_of (new_world s) (new_state s w f bs old) (renamed_seed (naming_by s.fixed f source) x) ≡ seed_of (old_world s) old x
    seed_alike (statements.AllOf t) = ap (λ o. found o >>= λ t. Gives (t ∷ [], vertices_of s.graph (t ∷ []))) (w.vertex_type t)
    seed_alike AllVertices = refl
    seed_alike (OneVertex x) = then_same _ _ _ _ (sees.named x) variable_alike
    seed_alike (ContentOf a) = then_same _ _ _ _ (sees.global a) content_alike

    pub set_alike : (x : M) → set_named (new_world s) (new_state s w f bs old) (f x) ≡ set_named (old_world s) old x
    set_alike x = ap (λ o. found o >>= set_in) (k x)

    term_alike : (x : SetTerm M) → term_of (new_world s) (new_state s w f bs old) (renamed_term (naming_by s.fixed f source) x) ≡ term_of (old_world s) old x
    term_alike (SetNamed x) = set_alike x
    term_alike (Seeds seeds) = ap (λ o. o >>= λ sets. Gives (all_of sets)) (each_alike (renamed_seed (naming_by s.fixed f source)) _ _ seed_alike seeds)

    abbrev new_term : SetOp × SetTerm M → SetOp × SetTerm N
    new_term x = (x.0, renamed_term (naming_by s.fixed f source) x.1)

    chain_alike : (x : SetTerm M) (rest : List (SetOp × SetTerm M))
        → (term_of (new_world s) (new_state s w f bs old) (renamed_term (naming_by s.fixed f source) x) >>= λ a. through (λ b next. term_of (new_world s) (new_state s w f bs old) next.1 >>= λ c. Gives (joined next.0 b c)) a (map new_term rest))
        ≡ (term_of (old_world s) old x >>= λ a. through (λ b next. term_of (old_world s) old next.1 >>= λ c. Gives (joined next.0 b c)) a rest)
    chain_alike x rest = then_same _ _ _ _ (term_alike x) (λ a. through_same new_term _ _ (λ b next. ap (λ o. o >>= λ c. Gives (joined next.0 b c)) (term_alike next.1)) rest a)

    pub sets_alike : (x : SetTerm M) (rest : List (SetOp × SetTerm M)) → sets_of (new_world s) (new_state s w f bs old) (renamed_term (naming_by s.fixed f source) x) (map new_term rest) ≡ sets_of (old_world s) old x rest
    sets_alike (Seeds []) [] = refl
    sets_alike x rest = chain_alike x rest

    pub over_alike : (over : Over M) → gone_over (seen (new_world s) (new_state s w f bs old)) (renamed_over (named_by s.fixed f) over) ≡ gone_over (seen (old_world s) old) over
    over_alike (Elements t) = ap (λ o. o >>= elements_of) (meaning-renamed (named_by s.fixed f) _ _ sees t)
    over_alike (Range t u) = then_same _ _ _ _ (value_alike (named_by s.fixed f) _ _ sees t) (λ v. ap (λ o. o >>= between v) (value_alike (named_by s.fixed f) _ _ sees u))

  -- ---- assignments by references assign what assignments by names do

  abbrev same : M → M → Bool
  same = s.fixed.names.same

  abbrev like : N → N → Bool
  like = s.fixed.references.same

  -- ---- states

  kept_slots : {N : Type 0} (world : World N) (x : N) (thing : Thing) (a : State N) → (with_name world x thing a).slots ≡ a.slots
  kept_slots world x thing a = elim (is_some (thing_named world a.names x)) as (λ b. (if b then (record a { names = changed world.words.same x thing a.names }) else with_new x thing a).slots ≡ a.slots) [ true ↦ refl | false ↦ refl ]

  -- a fact on the state with the accumulators renamed
  pub on_state : (P : State N → Type 0) (old : State M) (new : State N) → SlotsAlike s old.slots new.slots → P (new_state s w (λ x. s.fixed.nothing) new.names old) → P new
  on_state P old new h p = subst (λ ts. P (record { names = new.names; slots = ts })) (sym h.is) p

  module _ (view : View M N) (d : AreDistinct s.fixed view) (x : M) (r : N) where
    -- a name that is assigned, on both sides
    named_alike : (old : State M) (new : State N) (q : Bool) (thing : Thing) → StatesAlike s view old new → TargetStands s.fixed view x r q → is_set (Some thing) ≡ q
        → StatesAlike s (with_target s.fixed view x r) (with_name (old_world s) x thing old) (with_name (new_world s) r thing new)
    named_alike old new q thing h t i = record {
      names = assigned_alike s w view old new x r q thing d h.names t i;
      slots = rw (kept_slots (old_world s) x thing old, kept_slots (new_world s) r thing new) h.slots;
    }

    pub set_assigned_alike : (old : State M) (new : State N) (types : Option (SetTypes M)) (set : TypedSet) → StatesAlike s view old new → TargetStands s.fixed view x r true
        → StatesAlike s (with_target s.fixed view x r) (set_assigned (old_world s) x types set old) (set_assigned (new_world s) r (option_map (renamed_set_types s.fixed.vertex_type) types) set new)
    set_assigned_alike old new types set h t =
        rw (ap (λ o. types_kept o (types_fixed (new_world s) (option_map (renamed_set_types s.fixed.vertex_type) types) set.0)) (at_target s w view old.names new.names x r true d h.names t), fixed_alike types set.0)
        (named_alike old new true (SetOf (types_kept (under same x old.names) (types_fixed (old_world s) types set.0)) set.1) h t refl)

    -- ---- values

    module _ (old : State M) (new : State N) (h : StatesAlike s view old new) where
      abbrev f : M → N
      f = reference_at s.fixed view

      abbrev k : LooksAlike s w f old.names new.names
      k = view_seen s w view old.names new.names d h.names

      abbrev renewed : State N
      renewed = new_state s w f new.names old

      same_other : StatesAlike s view old renewed
      same_other = record { names = h.names; slots = record { is = refl; accums = h.slots.accums } }

      abbrev Assigned : {F : Type 0} → Answer F (State M) → Answer F (State N) → Type 0
      Assigned o p = AnswersAlike (StatesAlike s (with_target s.fixed view x r)) o p

      value_assigned_alike : (t : Tree M) → TargetStands s.fixed view x r false → Assigned (value_assigned (old_world s) old x t) (value_assigned (new_world s) renewed r (renamed (inside s.fixed view) t))
      value_assigned_alike t g =
          alike_same (StatesAlike s (with_target s.fixed view x r)) _ _ _ _ (ap found (at_target s w view old.names new.names x r false d h.names g))
          (elim [ Variable b v ↦ alike_same (StatesAlike s (with_target s.fixed view x r)) _ _ _ _ (as_alike (named_by s.fixed f) _ _ (sees f (source_at s.fixed view) old new.names k h.slots.accums) b t) (λ v. named_alike old renewed false (Variable b v) same_other g refl) | thing ↦ tt ])

      name_alike : (types : Option (SetTypes M)) (y : M) (q : Bool) → is_set (under same y old.names) ≡ q → TargetStands s.fixed view x r q
          → Assigned (expression_assigned (old_world s) old x types (Name y)) (expression_assigned (new_world s) renewed r (option_map (renamed_set_types s.fixed.vertex_type) types) (Name (f y)))
      name_alike types y true e g =
          rw (e, ap is_set (k y) ∙ e, expression_assigned)
          (alike_same (StatesAlike s (with_target s.fixed view x r)) _ _ _ _ (set_alike f (source_at s.fixed view) old new.names k h.slots.accums y) (λ set. set_assigned_alike old renewed types set same_other g))
      name_alike types y false e g = rw (e, ap is_set (k y) ∙ e, expression_assigned) (value_assigned_alike (Name y) g)

      pub expression_alike : (types : Option (SetTypes M)) (t : Tree M) → TargetStands s.fixed view x r (is_set_right s.fixed view (Expression t))
          → Assigned (expression_assigned (old_world s) old x types t) (expression_assigned (new_world s) renewed r (option_map (renamed_set_types s.fixed.vertex_type) types) (renamed (inside s.fixed view) t))
      expression_alike types (Name y) g = name_alike types y (is_set_at s.fixed view y) (sym (found_set s w view old.names new.names h.names y)) g
      expression_alike types t g = value_assigned_alike t g

      pub sets_assigned_alike : (types : Option (SetTypes M)) (t : SetTerm M) (rest : List (SetOp × SetTerm M)) → TargetStands s.fixed view x r true
          → Assigned (assigned (old_world s) old x types (Sets t rest)) (assigned (new_world s) renewed r (option_map (renamed_set_types s.fixed.vertex_type) types) (Sets (renamed_term (naming s.fixed view) t) (map {A = SetOp × SetTerm M} (λ z. (z.0, renamed_term (naming s.fixed view) z.1)) rest)))
      sets_assigned_alike types t rest g =
          alike_same (StatesAlike s (with_target s.fixed view x r)) _ _ _ _ (ap (blaming Evaluation) (sets_alike f (source_at s.fixed view) old new.names k h.slots.accums t rest)) (λ set. set_assigned_alike old renewed types set same_other g)

  -- ---- statements that represent others do the same

  -- ---- the context

  pub sees_alike : (view : View M N) → AreDistinct s.fixed view → (old : State M) (new : State N) → StatesAlike s view old new → SeesAlike (inside s.fixed view) (seen (old_world s) old) (seen (new_world s) new)
  sees_alike view d old new h =
      on_state (λ new. SeesAlike (inside s.fixed view) (seen (old_world s) old) (seen (new_world s) new)) old new h.slots
      (sees (reference_at s.fixed view) (source_at s.fixed view) old new.names (view_seen s w view old.names new.names d h.names) h.slots.accums)

  -- the references of names that are there
  seen_told : (view : View M N) → AreDistinct s.fixed view → (as' : List (M × Thing)) (bs : List (N × Thing)) → NamesAlike s view as' bs → SeenTold s w (reference_at s.fixed view) as'
  seen_told view d as' bs h x thing e = go (visible_at s.fixed view x) refl (found_visible s w view as' bs h x ∙ ap is_some e)
    where
      go : (o : Option (Visible M N)) → visible_at s.fixed view x ≡ o → is_some o ≡ true → Told s w (reference_at s.fixed view) (reference_at s.fixed view x) x
      go None g i = cc
      go (Some v) g i = subst (λ z. Told s w (reference_at s.fixed view) z x) (sym (ap (reference_or_nothing s.fixed) g)) (told_at s w (reference_at s.fixed view) view (all_told s w view d) x v g)

  -- ---- assignments

  select_assigned_alike : (view : View M N) → AreDistinct s.fixed view → (x : M) (r : N) (types : Option (SetTypes M)) (q : Select M) (p : Select N) (old : State M) (new : State N) → StatesAlike s view old new → SelectStands s.fixed view q p → TargetStands s.fixed view x r true
      → AnswersAlike (StatesAlike s (with_target s.fixed view x r)) (select_assigned (old_world s) old x types q) (select_assigned (new_world s) new r (option_map (renamed_set_types s.fixed.vertex_type) types) p)
  select_assigned_alike view d x r types q p old new h st g =
      on_state (λ new. Alike (select_assigned (old_world s) old x types q) (select_assigned (new_world s) new r others p)) old new h.slots
      (rw st.is (subst (λ b. Alike (old_by (within_bound q.walk (candidates_of (old_world s) m.start q.walk))) (new_by b)) (sym bound) (go (within_bound q.walk (candidates_of (old_world s) m.start q.walk)))))
    where
      Alike : Answer Fault (State M) → Answer Fault (State N) → Type 0
      Alike o p = AnswersAlike (StatesAlike s (with_target s.fixed view x r)) o p

      others : Option (SetTypes N)
      others = option_map (renamed_set_types s.fixed.vertex_type) types

      f : M → N
      f = reference_at s.fixed (with_aliases s.fixed view q p)

      source : M → N
      source = source_at s.fixed (with_aliases s.fixed view q p)

      u : SelectSeen s w view q p old.names new.names
      u = select_seen s w view q p old.names new.names d st h.names

      t : Select N
      t = renamed_select (naming_by s.fixed f source) q

      m : From M
      m = from (old_world s) old.names q

      other : State N
      other = new_state s w f new.names old

      old_by : Bool → Answer Fault (State M)
      old_by b = elim b [
        | false ↦ Faults PathBound
        | true ↦ blaming of_block (select (old_world s) old q) >>= λ z. Gives (set_assigned (old_world s) x types (types_at m (selects_target (old_world s) q), z.vertices) (record old { slots = z.slots }))
      ]

      new_by : Bool → Answer Fault (State N)
      new_by b = elim b [
        | false ↦ Faults PathBound
        | true ↦ blaming of_block (select (new_world s) other t) >>= λ z. Gives (set_assigned (new_world s) r others (types_at (from (new_world s) new.names t) (selects_target (new_world s) t), z.vertices) (record other { slots = z.slots }))
      ]

      from_is : from (new_world s) new.names t ≡ renamed_from s w f m
      from_is = from_alike s w f source q old.names new.names u.source

      bound : within_bound t.walk (candidates_of (new_world s) (from (new_world s) new.names t).start t.walk) ≡ within_bound q.walk (candidates_of (old_world s) m.start q.walk)
      bound = ap (λ (z : From N). within_bound t.walk (candidates_of (new_world s) z.start t.walk)) from_is ∙ ap (within_bound t.walk) (candidates_alike s w f source m.start q.walk) ∙ bound_alike s w f source q.walk (candidates_of (old_world s) m.start q.walk)

      types_are : types_at (from (new_world s) new.names t) (selects_target (new_world s) t) ≡ types_at m (selects_target (old_world s) q)
      types_are = ap (λ (z : From N). types_at z (selects_target (new_world s) t)) from_is ∙ ap (types_at (renamed_from s w f m)) (selects_alike s w f source q u.target) ∙ elim (selects_target (old_world s) q) as (λ b. types_at (renamed_from s w f m) b ≡ types_at m b) [ true ↦ refl | false ↦ refl ]

      go : (b : Bool) → Alike (old_by b) (new_by b)
      go false = refl
      go true =
          alike_then (SelectedAlike s w f source q old new.names u.aliases u.source u.looks h.slots.accums u.target) (StatesAlike s (with_target s.fixed view x r)) _ _ _ _
          (alike_blaming (SelectedAlike s w f source q old new.names u.aliases u.source u.looks h.slots.accums u.target) of_block _ _ (select_alike s w f source q old new.names u.aliases u.source u.looks h.slots.accums u.target))
          (λ a b i. rw (types_are, i.vertices) (set_assigned_alike view d x r (record old { slots = a.slots }) (record other { slots = b.slots }) types (types_at m (selects_target (old_world s) q), a.vertices) (record { names = h.names; slots = i.slots }) g))

  assign_alike : (view : View M N) → AreDistinct s.fixed view → (x : M) (r : N) (types : Option (SetTypes M)) (right : Right M) (other : Right N) (old : State M) (new : State N) → StatesAlike s view old new → RightStands s.fixed view right other → TargetStands s.fixed view x r (is_set_right s.fixed view right)
      → AnswersAlike (StatesAlike s (with_target s.fixed view x r)) (assigned (old_world s) old x types right) (assigned (new_world s) new r (option_map (renamed_set_types s.fixed.vertex_type) types) other)
  assign_alike view d x r types (Selects q) (Selects p) old new h st g = select_assigned_alike view d x r types q p old new h st g
  assign_alike view d x r types (Sets t rest) (Sets u more) old new h st g =
      on_state (λ new. AnswersAlike (StatesAlike s (with_target s.fixed view x r)) (assigned (old_world s) old x types (Sets t rest)) (assigned (new_world s) new r (option_map (renamed_set_types s.fixed.vertex_type) types) (Sets u more))) old new h.slots
      (rw (st.0, st.1) (sets_assigned_alike view d x r old new h types t rest g))
  assign_alike view d x r types (Expression t) (Expression u) old new h st g =
      on_state (λ new. AnswersAlike (StatesAlike s (with_target s.fixed view x r)) (assigned (old_world s) old x types (Expression t)) (assigned (new_world s) new r (option_map (renamed_set_types s.fixed.vertex_type) types) (Expression u))) old new h.slots
      (rw st (alike_blaming (StatesAlike s (with_target s.fixed view x r)) Evaluation _ _ (expression_alike view d x r old new h types t g)))
  assign_alike view d x r types right other old new h st g = absurd st

  -- ---- locals

  local_alike : (view : View M N) → AreDistinct s.fixed view → (b : Base) (x : M × Option (Tree M)) (y : N × Option (Tree N)) (old : State M) (new : State N) → StatesAlike s view old new → y.1 ≡ option_map (renamed (inside s.fixed view)) x.1
      → AnswersAlike (StatesAlike s (view_with s.fixed view x.0 y.0 false)) (with_local (old_world s) b old x) (with_local (new_world s) b new y)
  local_alike view d b x y old new h e =
      alike_same (StatesAlike s (view_with s.fixed view x.0 y.0 false)) _ _ _ _ (ap (local_value (seen (new_world s) new) b) e ∙ value_is x.1)
      (λ v. record { names = new_alike s w view old.names new.names x.0 y.0 (Variable b v) false refl h.names; slots = h.slots })
    where
      value_is : (t : Option (Tree M)) → local_value (seen (new_world s) new) b (option_map (renamed (inside s.fixed view)) t) ≡ local_value (seen (old_world s) old) b t
      value_is None = refl
      value_is (Some t) = as_alike (inside s.fixed view) _ _ (sees_alike view d old new h) b t

  locals_alike : (view : View M N) → AreDistinct s.fixed view → (b : Base) (xs : List (M × Option (Tree M))) (ys : List (N × Option (Tree N))) (old : State M) (new : State N) → StatesAlike s view old new → LocalsStand s.fixed view xs ys
      → AnswersAlike (StatesAlike s (with_locals s.fixed view xs ys)) (through (with_local (old_world s) b) old xs) (through (with_local (new_world s) b) new ys)
  locals_alike view d b [] [] old new h st = h
  locals_alike view d b (x ∷ xs) (y ∷ ys) old new h st =
      alike_then (StatesAlike s (view_with s.fixed view x.0 y.0 false)) (StatesAlike s (with_locals s.fixed (view_with s.fixed view x.0 y.0 false) xs ys)) _ _ _ _ (local_alike view d b x y old new h st.1)
      (λ a c k. locals_alike (view_with s.fixed view x.0 y.0 false) (st.0, d) b xs ys a c k st.2)
  locals_alike view d b xs ys old new h st = absurd st

  -- ---- views after statements

  -- more may be visible
  abbrev Extends : View M N → View M N → Type 0
  Extends view more = (added : View M N) × (more ≡ added ++ view)

  extends_same : (view : View M N) → Extends view view
  extends_same view = ([], refl)

  extends_then : (a b c : View M N) → Extends a b → Extends b c → Extends a c
  extends_then a b c h g = (g.0 ++ h.0, g.1 ∙ ap (λ l. g.0 ++ l) h.1 ∙ sym (append_assoc g.0 h.0 a))

  locals_extend : (view : View M N) (xs : List (M × Option (Tree M))) (ys : List (N × Option (Tree N))) → Extends view (with_locals s.fixed view xs ys)
  locals_extend view (x ∷ xs) (y ∷ ys) = extends_then view (view_with s.fixed view x.0 y.0 false) (with_locals s.fixed (view_with s.fixed view x.0 y.0 false) xs ys) ((record { name = x.0; reference = y.0; is_set = false }) ∷ [], refl) (locals_extend (view_with s.fixed view x.0 y.0 false) xs ys)
  locals_extend view xs ys = extends_same view

  target_extends : (view : View M N) (x : M) (r : N) → Extends view (with_target s.fixed view x r)
  target_extends view x r = go (visible_at s.fixed view x) refl
    where
      go : (o : Option (Visible M N)) → visible_at s.fixed view x ≡ o → Extends view (with_target s.fixed view x r)
      go (Some v) e = rw (e, with_target) ([], refl)
      go None e = rw (e, with_target) ((record { name = x; reference = r; is_set = true }) ∷ [], refl)

  behind_extends : (st : Stmt M) (su : Stmt N) (view : View M N) → Extends view (behind s.fixed view st su)
  behind_extends (Local b xs) (Local c ys) view = locals_extend view xs ys
  behind_extends (Assign x types right) (Assign r others other) view = target_extends view x r
  behind_extends st su view = ([], refl)

  all_extend : (body : Stmts M) (other : Stmts N) (view : View M N) → Extends view (behind_all s.fixed view body other)
  all_extend (stmt_and st rest) (stmt_and su more) view = extends_then view (behind s.fixed view st su) (behind_all s.fixed (behind s.fixed view st su) rest more) (behind_extends st su view) (all_extend rest more (behind s.fixed view st su))
  all_extend body other view = ([], refl)

  locals_distinct : (view : View M N) (xs : List (M × Option (Tree M))) (ys : List (N × Option (Tree N))) → AreDistinct s.fixed view → LocalsStand s.fixed view xs ys → AreDistinct s.fixed (with_locals s.fixed view xs ys)
  locals_distinct view [] [] d h = d
  locals_distinct view (x ∷ xs) (y ∷ ys) d h = locals_distinct (view_with s.fixed view x.0 y.0 false) xs ys (h.0, d) h.2
  locals_distinct view xs ys d h = absurd h

  target_distinct : (view : View M N) (x : M) (r : N) (q : Bool) → AreDistinct s.fixed view → TargetStands s.fixed view x r q → AreDistinct s.fixed (with_target s.fixed view x r)
  target_distinct view x r q d h = go (visible_at s.fixed view x) refl
    where
      go : (o : Option (Visible M N)) → visible_at s.fixed view x ≡ o → AreDistinct s.fixed (with_target s.fixed view x r)
      go (Some v) e = rw (e, with_target) d
      go None e = let u = rw (e, TargetStands) at h in rw (e, with_target) (u.1, d)

  behind_distinct : (st : Stmt M) (su : Stmt N) (view : View M N) → AreDistinct s.fixed view → Stands s.fixed view st su → AreDistinct s.fixed (behind s.fixed view st su)
  behind_distinct (Local b xs) (Local c ys) view d h = locals_distinct view xs ys d h.1
  behind_distinct (Assign x types right) (Assign r others other) view d h = target_distinct view x r (is_set_right s.fixed view right) d h.2
  behind_distinct st su view d h = d

  -- ---- bodies

  -- a run from one view to the view after it
  abbrev Carries : View M N → View M N → Body M → Body N → Type 0
  Carries view more body other = (r : Running M) (q : Running N) → RunsAlike s view r q → AnswersAlike (RunsAlike s more) (body r) (other q)

  inner_alike : (view more : View M N) (body : Body M) (other : Body N) → Extends view more → Carries view more body other → Carries view view (inner body) (inner other)
  inner_alike view more body other g f r q h =
      alike_then (RunsAlike s more) (RunsAlike s view) _ _ _ _ (f r q h)
      (λ t u k. record {
        state = record {
          names = ended_alike s w g.0 view r.state.names t.state.names q.state.names u.state.names h.state.names (subst (λ v. NamesAlike s v t.state.names u.state.names) g.1 k.state.names);
          slots = k.state.slots;
        };
        turns = k.turns;
        printed = k.printed;
      })

  enter_alike : (view more : View M N) (body : Body M) (other : Body N) → Extends view more → Carries view more body other → Carries view view (enter body) (enter other)
  enter_alike view more body other g f r q h = subst (λ n. AnswersAlike (RunsAlike s view) (enter body r) (enter other (record q { turns = n }))) (sym h.turns) (go r.turns)
    where
      go : (n : ℕ) → AnswersAlike (RunsAlike s view) (enter body (record r { turns = n })) (enter other (record q { turns = n }))
      go zero = refl
      go (suc n) = inner_alike view more body other g f (record r { turns = n }) (record q { turns = n }) (record { state = h.state; turns = refl; printed = h.printed })

  abbrev SameTest : View M N → (Running M → Answer Fault Bool) → (Running N → Answer Fault Bool) → Type 0
  SameTest view test other = (r : Running M) (q : Running N) → RunsAlike s view r q → other q ≡ test r

  rounds_alike : (view more : View M N) (body : Body M) (other : Body N) (test : Running M → Answer Fault Bool) (test' : Running N → Answer Fault Bool) → Extends view more → Carries view more body other → SameTest view test test'
      → (n : ℕ) (limit : Option ℕ) → Carries view view (rounds n limit test body) (rounds n limit test' other)
  rounds_alike view more body other test test' g f c zero limit r q h = refl
  rounds_alike view more body other test test' g f c (suc n) limit r q h = go (is_reached limit) refl (rounds_alike view more body other test test' g f c n (one_less limit))
    where
      go : (b : Bool) → is_reached limit ≡ b → Carries view view (rounds n (one_less limit) test body) (rounds n (one_less limit) test' other)
          → AnswersAlike (RunsAlike s view) (rounds (suc n) limit test body r) (rounds (suc n) limit test' other q)
      go true e rest = rw (e, rounds) h
      go false e rest =
          rw (e, rounds)
          (alike_same (RunsAlike s view) _ _ _ _ (c r q h) (elim [ true ↦ alike_then (RunsAlike s view) (RunsAlike s view) _ _ _ _ (enter_alike view more body other g f r q h) rest | false ↦ h ]))

  each_value_alike : (view more : View M N) (x : M) (y : N) (body : Body M) (other : Body N) → Extends (view_with s.fixed view x y false) more → Carries (view_with s.fixed view x y false) more body other
      → (vs : List (Base × Val)) → Carries view view (for_each x body vs) (for_each y other vs)
  each_value_alike view more x y body other g f vs r q h =
      through_each (RunsAlike s view) _ _ (λ a b v k. enter_alike view more (λ p. body (with_state (with_new x (Variable v.0 v.1) p.state) p)) (λ p. other (with_state (with_new y (Variable v.0 v.1) p.state) p))
      (extends_then view (view_with s.fixed view x y false) more ((record { name = x; reference = y; is_set = false }) ∷ [], refl) g)
      (λ p t i. f (with_state (with_new x (Variable v.0 v.1) p.state) p) (with_state (with_new y (Variable v.0 v.1) t.state) t)
      (record { state = record { names = new_alike s w view p.state.names t.state.names x y (Variable v.0 v.1) false refl i.state.names; slots = i.state.slots }; turns = i.turns; printed = i.printed }))
      a b k) vs r q h

  -- ---- statements

  condition_alike : (view : View M N) → AreDistinct s.fixed view → (t : Tree M) (u : Tree N) → u ≡ renamed (inside s.fixed view) t → SameTest view (condition_of (old_world s) t) (condition_of (new_world s) u)
  condition_alike view d t u e r q h = ap (blaming Evaluation) (ap (truth_of (seen (new_world s) q.state)) e ∙ truth_alike (inside s.fixed view) _ _ (sees_alike view d r.state q.state h.state) t)

  limit_alike : (view : View M N) → AreDistinct s.fixed view → (limit : Option (Tree M)) (bound : Option (Tree N)) → bound ≡ option_map (renamed (inside s.fixed view)) limit → (old : State M) (new : State N) → StatesAlike s view old new → limit_of (new_world s) new bound ≡ limit_of (old_world s) old limit
  limit_alike view d limit bound e old new h = ap (limit_of (new_world s) new) e ∙ go limit
    where
      go : (limit : Option (Tree M)) → limit_of (new_world s) new (option_map (renamed (inside s.fixed view)) limit) ≡ limit_of (old_world s) old limit
      go None = refl
      go (Some t) = ap (λ o. o >>= λ n. Gives (Some (count_of n))) (number_alike (inside s.fixed view) _ _ (sees_alike view d old new h) t)

  -- a state that comes after another
  behind_alike : (view more : View M N) (r : Running M) (q : Running N) → RunsAlike s view r q → (o : Answer Fault (State M)) (p : Answer Fault (State N)) → AnswersAlike (StatesAlike s more) o p
      → AnswersAlike (RunsAlike s more) (o >>= λ a. Gives (with_state a r)) (p >>= λ a. Gives (with_state a q))
  behind_alike view more r q h o p k = alike_then (StatesAlike s more) (RunsAlike s more) _ _ _ _ k (λ a b i. record { state = i; turns = h.turns; printed = h.printed })

  global_alike : (view : View M N) → AreDistinct s.fixed view → (a : M) (change : Change M) → Carries view view (global_changed (old_world s) a change) (global_changed (new_world s) (s.fixed.accum a) (renamed_change (inside s.fixed view) change))
  global_alike view d a change r q h =
      alike_then (SlotsAlike s) (RunsAlike s view) _ _ _ _
      (alike_blaming (SlotsAlike s) of_write _ _ (on_state (λ new. AnswersAlike (SlotsAlike s) (slots_changed (seen (old_world s) r.state) r.state.slots a 0 change) (slots_changed (seen (new_world s) new) new.slots (s.fixed.accum a) 0 (renamed_change (inside s.fixed view) change))) r.state q.state h.state.slots
      (slots_changed_alike s w (reference_at s.fixed view) r.state.names q.state.names (view_seen s w view r.state.names q.state.names d h.state.names) r.state.slots r.state.slots h.state.slots.accums h.state.slots.accums a 0 change)))
      (λ ss ts i. record { state = record { names = h.state.names; slots = i }; turns = h.turns; printed = h.printed })

  foreach_alike : (view more : View M N) → AreDistinct s.fixed view → (x : M) (y : N) (over : _) (over' : _) (body : Body M) (other : Body N) → over' ≡ renamed_over (inside s.fixed view) over → Extends (view_with s.fixed view x y false) more → Carries (view_with s.fixed view x y false) more body other
      → Carries view view (λ r. blaming Evaluation (gone_over (seen (old_world s) r.state) over) >>= λ vs. for_each x body vs r) (λ q. blaming Evaluation (gone_over (seen (new_world s) q.state) over') >>= λ vs. for_each y other vs q)
  foreach_alike view more d x y over over' body other e g f r q h =
      alike_same (RunsAlike s view) _ _ _ _
      (ap (λ o. blaming Evaluation (gone_over (seen (new_world s) q.state) o)) e
      ∙ on_state (λ new. blaming Evaluation (gone_over (seen (new_world s) new) (renamed_over (inside s.fixed view) over)) ≡ blaming Evaluation (gone_over (seen (old_world s) r.state) over)) r.state q.state h.state.slots
      (ap (blaming Evaluation) (over_alike (reference_at s.fixed view) (source_at s.fixed view) r.state q.state.names (view_seen s w view r.state.names q.state.names d h.state.names) h.state.slots.accums over)))
      (λ vs. each_value_alike view more x y body other g f vs r q h)

  print_alike : (view : View M N) → AreDistinct s.fixed view → (items : List (Printed M)) (others : List (Printed N)) → others ≡ map (renamed_printed (inside s.fixed view)) items → (r : Running M) (q : Running N) → RunsAlike s view r q
      → each (printed (new_world s) q.state) others ≡ each (printed (old_world s) r.state) items
  print_alike view d items others e r q h =
      ap (each (printed (new_world s) q.state)) e
      ∙ on_state (λ new. each (printed (new_world s) new) (map (renamed_printed (inside s.fixed view)) items) ≡ each (printed (old_world s) r.state) items) r.state q.state h.state.slots
      (each_alike (renamed_printed (inside s.fixed view)) _ _ (printed_alike s w (reference_at s.fixed view) r.state q.state.names (view_seen s w view r.state.names q.state.names d h.state.names) h.state.slots.accums (seen_told view d r.state.names q.state.names h.state.names)) items)

  mutual
    run_alike : (st : Stmt M) (su : Stmt N) (view : View M N) → AreDistinct s.fixed view → Stands s.fixed view st su → Carries view (behind s.fixed view st su) (run (old_world s) st) (run (new_world s) su)
    run_alike (Local b xs) (Local c ys) view d st r q h =
        alike_same (RunsAlike s (with_locals s.fixed view xs ys)) _ _ _ _ (ap (blaming Evaluation) (ap (base_of_tree (new_world s)) st.0 ∙ base_alike b))
        (λ b. behind_alike view (with_locals s.fixed view xs ys) r q h _ _ (alike_blaming (StatesAlike s (with_locals s.fixed view xs ys)) Evaluation _ _ (locals_alike view d b xs ys r.state q.state h.state st.1)))
    run_alike (Assign x types right) (Assign y others other) view d st r q h =
        behind_alike view (with_target s.fixed view x y) r q h _ _
        (rw st.0 (assign_alike view d x y types right other r.state q.state h.state st.1 st.2))
    run_alike (ChangeGlobal a change) (ChangeGlobal b other) view d st r q h =
        rw (st.0, st.1) (global_alike view d a change r q h)
    run_alike (If branches) (If others) view d st r q h = branches_alike branches others view d st r q h
    run_alike (While t limit body) (While u bound other) view d st r q h =
        alike_same (RunsAlike s view) _ _ _ _ (ap (blaming Evaluation) (limit_alike view d limit bound st.1 r.state q.state h.state))
        (λ l. subst (λ n. AnswersAlike (RunsAlike s view) (rounds (suc r.turns) l (condition_of (old_world s) t) (run_all (old_world s) body) r) (rounds (suc n) l (condition_of (new_world s) u) (run_all (new_world s) other) q)) (sym h.turns)
        (rounds_alike view (behind_all s.fixed view body other) (run_all (old_world s) body) (run_all (new_world s) other) (condition_of (old_world s) t) (condition_of (new_world s) u) (all_extend body other view) (runs_alike body other view d st.2) (condition_alike view d t u st.0) (suc r.turns) l r q h))
    run_alike (Foreach x over body) (Foreach y others other) view d st r q h =
        foreach_alike view (behind_all s.fixed (view_with s.fixed view x y false) body other) d x y over others (run_all (old_world s) body) (run_all (new_world s) other) st.1 (all_extend body other (view_with s.fixed view x y false)) (runs_alike body other (view_with s.fixed view x y false) (st.0, d) st.2) r q h
    run_alike (Print items) (Print others) view d st r q h =
        alike_same (RunsAlike s view) _ _ _ _ (ap (blaming Evaluation) (print_alike view d items others st r q h)) (λ ms. record { state = h.state; turns = h.turns; printed = ap (λ p. p ++ ms ∷ []) h.printed })
    run_alike st su view d h r q k = absurd h

    pub runs_alike : (body : Stmts M) (other : Stmts N) (view : View M N) → AreDistinct s.fixed view → AllStand s.fixed view body other → Carries view (behind_all s.fixed view body other) (run_all (old_world s) body) (run_all (new_world s) other)
    runs_alike no_stmt no_stmt view d st r q h = h
    runs_alike (stmt_and st rest) (stmt_and su more) view d h r q k =
        alike_then (RunsAlike s (behind s.fixed view st su)) (RunsAlike s (behind_all s.fixed (behind s.fixed view st su) rest more)) _ _ _ _ (run_alike st su view d h.0 r q k)
        (runs_alike rest more (behind s.fixed view st su) (behind_distinct st su view d h.0) h.1)
    runs_alike body other view d h r q k = absurd h

    branches_alike : (branches : Branches M) (others : Branches N) (view : View M N) → AreDistinct s.fixed view → BranchesStand s.fixed view branches others → Carries view view (run_branches (old_world s) branches) (run_branches (new_world s) others)
    branches_alike (else_ body) (else_ other) view d st r q h = inner_alike view (behind_all s.fixed view body other) (run_all (old_world s) body) (run_all (new_world s) other) (all_extend body other view) (runs_alike body other view d st) r q h
    branches_alike (if_ t body rest) (if_ u other more) view d st r q h =
        alike_same (RunsAlike s view) _ _ _ _ (condition_alike view d t u st.0 r q h)
        (elim [ true ↦ inner_alike view (behind_all s.fixed view body other) (run_all (old_world s) body) (run_all (new_world s) other) (all_extend body other view) (runs_alike body other view d st.1) r q h | false ↦ branches_alike rest more view d st.2 r q h ])
    branches_alike branches others view d h r q k = absurd h

pub statement_law : {M N : Type 0} → StatementLaw M N
statement_law s w view d body other st r q h = runs_alike s w body other view d st r q h
