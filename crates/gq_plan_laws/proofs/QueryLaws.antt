-- QueryLaws: declarations that represent others open the same accumulators, and a plan prints what its query prints.
use Rattle.std.proofs.Common.{◌≡◌, ℕ, Bool, true, false, List, [], ◌∷◌, ◌++◌, map, Option, Some, None, Ok, refl, sym, ap, ◌∙◌, subst}
use Rattle.std.specs.Option.{option_map}
use Rattle.gq_tree.specs.Tree.{Tree}
use Rattle.gq_value.specs.declared.value.Wrong.{Wrong}
use Rattle.gq_value.specs.Val.{Val}
use Rattle.gq_value.specs.Accums.{Base, VERTEX_OF, Accum}
use Rattle.gq_accum_laws.specs.Reads.{set_to}
use Rattle.gq_rules_typing.specs.Statements.{Bytes, BaseTree, VertexOf, Definition, TupleType, Accums, Parameter, QueryOver}
use Rattle.gq_rules_typing.specs.Sorts.{Fields}
use Rattle.gq_rules_typing.specs.Judging.{Judged, UnknownName, or_fault}
use Rattle.gq_rules_typing.specs.Judging as judging
use Rattle.gq_rules_typing.specs.Kinds.{set_type}
use Rattle.gq_rules_typing.specs.Scopes.{base_written}
use Rattle.gq_rules_typing.specs.KindTypes.{own_name, fields_written}
use Rattle.gq_rules_meaning.specs.Answers.{Answer, Gives, ◌>>=◌, found, through}
use Rattle.gq_rules_meaning.specs.Expressions.{World, setting}
use Rattle.gq_rules_meaning.specs.States.{Thing, Variable, Slot, State, seen}
use Rattle.gq_rules_meaning.specs.Outs.{Out}
use Rattle.gq_rules_meaning.specs.Statements.{Fault, Evaluation, base_of_tree}
use Rattle.gq_rules_meaning.specs.Runs.{run_all}
use Rattle.gq_rules_meaning.specs.Queries.{opening, places, opened, Defining, judged, scope_of, fields_of, with_tuples, defined, bound, start, run_over, run_plan}
use Rattle.gq_rules_meaning.specs.StateFits.{AllOf}
use Rattle.gq_rules_meaning.proofs.AnswerLaws.{then_ok}
use Rattle.gq_plan_ir.specs.Renamed.{renamed}
use Rattle.gq_plan_ir.proofs.RenamedLaws.{then_same}
use Rattle.gq_plan_ir.specs.Naming.{View, AreDistinct, inside}
use Rattle.gq_plan_ir.specs.RenamedStatements.{renamed_base}
use Rattle.gq_plan_ir.specs.StandsFor.{AllStand, behind_all}
use Rattle.gq_plan_ir.specs.Alike.{AnswersAlike, old_world, new_world, NamesAlike, new_slot, SlotsAlike, StatesAlike, RunsAlike}
use Rattle.gq_plan_ir.specs.Plans.{Ground, old_ground, new_ground, Declared, fixed_in, sides, AccumTold, IsSound, WithTuple, ParametersStand, parameters_view, AccumsStand, TupleStands, DefinitionsStand, QueryStands}
use Rattle.gq_plan_laws.specs.RefinementLaws.{QueryLaw}
use Rattle.gq_plan_laws.proofs.AnswerLaws.{alike_then, alike_same, alike_blaming, alike_is, each_same}
use Rattle.gq_plan_laws.proofs.SightLaws.{as_alike}
use Rattle.gq_plan_laws.proofs.RunLaws.{base_alike, sees_alike, runs_alike}
use Rattle.gq_plan_laws.proofs.NameLaws.{new_alike}

module _ {M N : Type 0} (ground : Ground M N) where
  -- ---- accumulators, each with its reference

  abbrev named_slot : N → Slot M → Slot N
  named_slot r slot = record { name = r; attached = slot.attached; kind = slot.kind; contents = slot.contents }

  abbrev SlotsStand : List (M × N) → List (Slot M) → List (Slot N) → Type 0
  SlotsStand [] [] [] = Unit {0}
  SlotsStand (a ∷ accums) (t ∷ old) (u ∷ new) = ((t.name ≡ a.0) × (u ≡ named_slot a.1 t)) × SlotsStand accums old new
  SlotsStand accums old new = ⊥

  one_more : (accums : List (M × N)) (old : List (Slot M)) (new : List (Slot N)) (slot : Slot M) (r : N) → SlotsStand accums old new → SlotsStand (accums ++ (slot.name, r) ∷ []) (old ++ slot ∷ []) (new ++ named_slot r slot ∷ [])
  one_more [] [] [] slot r h = ((refl, refl), tt)
  one_more (a ∷ accums) (t ∷ old) (u ∷ new) slot r h = (h.0, one_more accums old new slot r h.1)
  one_more accums old new slot r h = absurd h

  -- they hold the same if each accumulator's reference represents its name
  slots_alike : (d : Declared ground) (accums : List (M × N)) (old : List (Slot M)) (new : List (Slot N)) → AllOf (AccumTold ground d) accums → SlotsStand accums old new → SlotsAlike (sides ground d) old new
  slots_alike d [] [] [] t h = record { is = refl; accums = tt }
  slots_alike d (a ∷ accums) (x ∷ old) (y ∷ new) t h =
      let r = slots_alike d accums old new t.1 h.1 in
      let e : d.accum x.name ≡ a.1 = ap d.accum h.0.0 ∙ t.0.is in
      record {
        is = ap (λ z. z ∷ new) (h.0.1 ∙ ap (λ z. named_slot z x) (sym e)) ∙ ap (λ zs. new_slot (sides ground d) x ∷ zs) r.is;
        accums = (
          record {
            same = λ b. ap (λ z. ground.references.same z (d.accum b)) e ∙ t.0.same b ∙ ap (λ z. ground.names.same z b) (sym h.0.0);
            said = ap ground.references.said e ∙ t.0.said ∙ ap ground.names.said (sym h.0.0);
          },
          r.accums,
        );
      }
  slots_alike d accums old new t h = absurd h

  -- ---- parameters

  bound_alike : (d : Declared ground) → IsSound ground d → (ps : List (Parameter M)) (qs : List (Parameter N)) → ParametersStand ground d ps qs → (arguments : List Val)
      → AnswersAlike (NamesAlike (sides ground d) (parameters_view ground d ps qs)) (bound (old_world (sides ground d)) ps arguments) (bound (new_world (sides ground d)) qs arguments)
  bound_alike d i [] [] h [] = tt
  bound_alike d i [] [] h (v ∷ vs) = tt
  bound_alike d i (p ∷ ps) (q ∷ qs) h [] = tt
  bound_alike d i (p ∷ ps) (q ∷ qs) h (v ∷ vs) =
      alike_same (NamesAlike (sides ground d) (parameters_view ground d (p ∷ ps) (q ∷ qs))) _ _ _ _ (ap (base_of_tree (new_world (sides ground d))) h.0 ∙ base_alike (sides ground d) i.words p.base)
      (λ b. alike_then (NamesAlike (sides ground d) (parameters_view ground d ps qs)) (NamesAlike (sides ground d) (parameters_view ground d (p ∷ ps) (q ∷ qs))) _ _ _ _ (bound_alike d i ps qs h.1 vs)
      (λ as' bs k. new_alike (sides ground d) i.words (parameters_view ground d ps qs) as' bs p.name q.name (Variable b v) false refl k))
  bound_alike d i ps qs h vs = absurd h

  -- ---- tuple types

  base_written_alike : (d : Declared ground) → IsSound ground d → (b : BaseTree M) (c : Base) → base_written (scope_of (setting (old_world (sides ground d)))) b ≡ Ok c → base_written (scope_of (setting (new_world (sides ground d)))) (renamed_base d.vertex_type b) ≡ Ok c
  base_written_alike d i (VertexOf t) c e = go (ground.names.vertex_type t) (ground.references.vertex_type (d.vertex_type t)) (i.words.vertex_type t) e
    where
      go : (o p : Option ℕ) → p ≡ o → judging.◌>>=◌ (or_fault (UnknownName (ground.names.said t)) o) (λ n. Ok (VERTEX_OF n)) ≡ Ok c
          → judging.◌>>=◌ (or_fault (UnknownName (ground.references.said (d.vertex_type t))) p) (λ n. Ok (VERTEX_OF n)) ≡ Ok c
      go (Some n) p e h = subst (λ p. judging.◌>>=◌ (or_fault (UnknownName (ground.references.said (d.vertex_type t))) p) (λ n. Ok (VERTEX_OF n)) ≡ Ok c) (sym e) h
      go None p e h = cc
  base_written_alike d i b c e = e

  abbrev new_field : Declared ground → BaseTree M × Bytes → BaseTree N × Bytes
  new_field d f = (renamed_base d.vertex_type f.0, f.1)

  fields_alike : (d : Declared ground) → IsSound ground d → (most : ℕ) (names : List Bytes) (fs : List (BaseTree M × Bytes)) (fields : Fields) → fields_written (scope_of (setting (old_world (sides ground d)))) most names fs ≡ Ok fields
      → fields_written (scope_of (setting (new_world (sides ground d)))) most names (map (new_field d) fs) ≡ Ok fields
  fields_alike d i most names [] fields e = e
  fields_alike d i most names (f ∷ fs) fields e =
      let b = then_ok (base_written (scope_of (setting (old_world (sides ground d)))) f.0) _ fields e in
      let n = then_ok (own_name most names f.1) _ fields b.2 in
      let r = then_ok (fields_written (scope_of (setting (old_world (sides ground d)))) most n.0 fs) _ fields n.2 in
      simp (base_written_alike d i f.0 b.0 b.1, n.1, fields_alike d i most n.0 fs r.0 r.1) r.2

  -- ---- declarations

  states_alike : (view : View M N) (d : Declared ground) → IsSound ground d → (old : State M) (new : State N) → NamesAlike (sides ground d) view old.names new.names → SlotsStand d.accums old.slots new.slots → StatesAlike (sides ground d) view old new
  states_alike view d i old new n h = record { names = n; slots = slots_alike d d.accums old.slots new.slots i.accums h }

  opening_alike : (view : View M N) (d : Declared ground) → IsSound ground d → AreDistinct (fixed_in ground d) view → (old : State M) (new : State N) → StatesAlike (sides ground d) view old new → (k : Accum) (t : Option (Tree M))
      → opening (seen (new_world (sides ground d)) new) k (option_map (renamed (inside (fixed_in ground d) view)) t) ≡ opening (seen (old_world (sides ground d)) old) k t
  opening_alike view d i di old new h k None = refl
  opening_alike view d i di old new h k (Some t) =
      then_same (found (set_type k)) _ _ _ refl (λ b. ap (λ o. o >>= λ v. Gives (set_to k v)) (as_alike (inside (fixed_in ground d) view) _ _ (sees_alike (sides ground d) i.words view di old new h) b t))

  -- names that are visible stay so
  distinct_in : (d e : Declared ground) (view : View M N) → AreDistinct (fixed_in ground d) view → AreDistinct (fixed_in ground e) view
  distinct_in d e [] h = tt
  distinct_in d e (v ∷ view) h = (record { name = h.0.name; reference = h.0.reference; itself = h.0.itself }, distinct_in d e view h.1)

  names_in : (d e : Declared ground) (view : View M N) (as' : List (M × Thing)) (bs : List (N × Thing)) → NamesAlike (sides ground d) view as' bs → NamesAlike (sides ground e) view as' bs
  names_in d e [] [] [] h = tt
  names_in d e (v ∷ view) (a ∷ as') (b ∷ bs) h = (record { name = h.0.name; reference = h.0.reference; thing = h.0.thing; set = h.0.set }, names_in d e view as' bs h.1)
  names_in d e view as' bs h = absurd h

  module _ {K : Type 0} (kinds : World M → K → Answer Wrong Accum) (view : View M N) where
    -- after some declarations, if the rest holds
    record Behind (Then : Declared ground → Type 0) (world : World M) (other : World N) (old : State M) (new : State N) : Type 0 where
      declared : Declared ground
      sound : IsSound ground declared
      distinct : AreDistinct (fixed_in ground declared) view
      old_is : world ≡ old_world (sides ground declared)
      new_is : other ≡ new_world (sides ground declared)
      names : NamesAlike (sides ground declared) view old.names new.names
      slots : SlotsStand declared.accums old.slots new.slots
      rest : Then declared

    opened_alike : (d : Declared ground) → IsSound ground d → AreDistinct (fixed_in ground d) view → (k : Accum) (a : Bool × M × Option (Tree M)) (b : Bool × N × Option (Tree N)) → b.0 ≡ a.0 → b.2 ≡ option_map (renamed (inside (fixed_in ground d) view)) a.2
        → (old : State M) (new : State N) → NamesAlike (sides ground d) view old.names new.names → SlotsStand d.accums old.slots new.slots
        → AnswersAlike (λ (x : State M) (y : State N). NamesAlike (sides ground d) view x.names y.names × SlotsStand (d.accums ++ (a.1, b.1) ∷ []) x.slots y.slots) (opened (old_world (sides ground d)) k old a) (opened (new_world (sides ground d)) k new b)
    opened_alike d i di k a b e g old new n h =
        rw (e, g, same_places a.0)
        (alike_same (λ (x : State M) (y : State N). NamesAlike (sides ground d) view x.names y.names × SlotsStand (d.accums ++ (a.1, b.1) ∷ []) x.slots y.slots) _ _ _ _
        (each_same _ _ (λ v. opening_alike view d i di old new (states_alike view d i old new n h) k a.2) (places (old_world (sides ground d)) a.0))
        (λ cs. (n, one_more d.accums old.slots new.slots (record { name = a.1; attached = a.0; kind = k; contents = cs }) b.1 h)))
      where
        same_places : (z : Bool) → places (new_world (sides ground d)) z ≡ places (old_world (sides ground d)) z
        same_places true = refl
        same_places false = refl

    accums_alike : (Then : Declared ground → Type 0) (k : Accum) (accums : List (Bool × M × Option (Tree M))) (others : List (Bool × N × Option (Tree N))) (d : Declared ground) → IsSound ground d → AreDistinct (fixed_in ground d) view → AccumsStand ground kinds view d accums others Then
        → (world : World M) (other : World N) → world ≡ old_world (sides ground d) → other ≡ new_world (sides ground d) → (old : State M) (new : State N) → NamesAlike (sides ground d) view old.names new.names → SlotsStand d.accums old.slots new.slots
        → AnswersAlike (Behind Then world other) (through (opened world k) old accums) (through (opened other k) new others)
    accums_alike Then k [] [] d i di st world other e g old new n h = record { declared = d; sound = i; distinct = di; old_is = e; new_is = g; names = n; slots = h; rest = st }
    accums_alike Then k (a ∷ accums) (b ∷ others) d i di st world other e g old new n h =
        alike_then (λ (x : State M) (y : State N). NamesAlike (sides ground d) view x.names y.names × SlotsStand (d.accums ++ (a.1, b.1) ∷ []) x.slots y.slots) (Behind Then world other) _ _ _ _
        (rw (e, g)
        (opened_alike d i di k a b st.0.0 st.0.1 old new n h))
        (λ x y p. accums_alike Then k accums others st.1.0 st.1.1.0.sound (distinct_in d st.1.0 view di) st.1.1.1 world other
        (e ∙ sym (ap (λ ts. with_tuples ts (old_ground ground)) st.1.1.0.named_tuples)) (g ∙ sym (ap (λ ts. with_tuples ts (new_ground ground)) st.1.1.0.tuples)) x y (names_in d st.1.0 view x.names y.names p.0) (subst (λ z. SlotsStand z x.slots y.slots) (sym st.1.1.0.accums) p.1))
    accums_alike Then k accums others d i di st world other e g old new n h = absurd st

    -- after some declarations, with the tuple types
    abbrev DefinedAlike : (Declared ground → Type 0) → Defining M → Defining N → Type 0
    DefinedAlike Then a b = Behind Then (with_tuples a.tuples (old_ground ground)) (with_tuples b.tuples (new_ground ground)) a.state b.state

    abbrev own_kinds : World N → Accum → Answer Wrong Accum
    own_kinds w k = Gives k

    accum_defined : (Then : Declared ground → Type 0) (k : K) (kind : Accum) (accums : List (Bool × M × Option (Tree M))) (others : List (Bool × N × Option (Tree N))) (d : Declared ground)
        → (kinds (old_world (sides ground d)) k ≡ Gives kind) → AccumsStand ground kinds view d accums others Then
        → (a : Defining M) (b : Defining N) → IsSound ground d → AreDistinct (fixed_in ground d) view → with_tuples a.tuples (old_ground ground) ≡ old_world (sides ground d) → with_tuples b.tuples (new_ground ground) ≡ new_world (sides ground d) → NamesAlike (sides ground d) view a.state.names b.state.names → SlotsStand d.accums a.state.slots b.state.slots
        → AnswersAlike (DefinedAlike Then) (defined (old_ground ground) kinds a (Accums k accums)) (defined (new_ground ground) own_kinds b (Accums kind others))
    accum_defined Then k kind accums others d e st a b i di w z n h =
        rw (ap (λ w. kinds w k) w ∙ e)
        (alike_then (Behind Then (with_tuples a.tuples (old_ground ground)) (with_tuples b.tuples (new_ground ground))) (DefinedAlike Then) _ _ _ _
        (accums_alike Then kind accums others d i di st (with_tuples a.tuples (old_ground ground)) (with_tuples b.tuples (new_ground ground)) w z a.state b.state n h) (λ x y p. p))

    tuple_defined : (Then : Declared ground → Type 0) (fs : List (BaseTree M × Bytes)) (x : M) (gs : List (BaseTree N × Bytes)) (y : N) (d : Declared ground) → TupleStands ground kinds view d fs x gs y Then
        → (a : Defining M) (b : Defining N) → IsSound ground d → AreDistinct (fixed_in ground d) view → with_tuples a.tuples (old_ground ground) ≡ old_world (sides ground d) → with_tuples b.tuples (new_ground ground) ≡ new_world (sides ground d) → NamesAlike (sides ground d) view a.state.names b.state.names → SlotsStand d.accums a.state.slots b.state.slots
        → AnswersAlike (DefinedAlike Then) (defined (old_ground ground) kinds a (TupleType fs x)) (defined (new_ground ground) own_kinds b (TupleType gs y))
    tuple_defined Then fs x gs y d st a b i di w z n h =
        rw (old_fields, new_fields)
        (record {
          declared = e;
          sound = t.0.sound;
          distinct = distinct_in d e view di;
          old_is = ap (λ ts. with_tuples ts (old_ground ground)) (ap (λ ts. ts ++ (x, st.1.0) ∷ []) (ap (λ (v : World M). v.tuples) w) ∙ sym t.0.named_tuples);
          new_is = ap (λ ts. with_tuples ts (new_ground ground)) (ap (λ ts. ts ++ (y, st.1.0) ∷ []) (ap (λ (v : World N). v.tuples) z) ∙ sym t.0.tuples);
          names = names_in d e view a.state.names b.state.names n;
          slots = subst (λ c. SlotsStand c a.state.slots b.state.slots) (sym t.0.accums) h;
          rest = t.1;
        })
      where
        e : Declared ground
        e = st.1.1.1.0

        t : WithTuple ground d x y st.1.0 st.1.1.1.0 × Then st.1.1.1.0
        t = st.1.1.1.1

        old_fields : fields_of (with_tuples a.tuples (old_ground ground)) fs ≡ Gives st.1.0
        old_fields = ap (λ w. fields_of w fs) w ∙ ap judged st.1.1.0

        new_fields : fields_of (with_tuples b.tuples (new_ground ground)) gs ≡ Gives st.1.0
        new_fields = ap (λ w. fields_of w gs) z ∙ ap (fields_of (new_world (sides ground d))) st.0 ∙ ap judged (fields_alike d i 16 [] fs st.1.0 st.1.1.0)

    definitions_alike : (Then : Declared ground → Type 0) (ds : List (Definition M K)) (es : List (Definition N Accum)) (a : Defining M) (b : Defining N) → DefinedAlike (λ d. DefinitionsStand ground kinds view d ds es Then) a b
        → AnswersAlike (DefinedAlike Then) (through (defined (old_ground ground) kinds) a ds) (through (defined (new_ground ground) own_kinds) b es)
    definitions_alike Then [] [] a b p = p
    definitions_alike Then (TupleType fs x ∷ ds) (TupleType gs y ∷ es) a b p =
        alike_then (DefinedAlike (λ d. DefinitionsStand ground kinds view d ds es Then)) (DefinedAlike Then) _ _ _ _
        (tuple_defined (λ d. DefinitionsStand ground kinds view d ds es Then) fs x gs y p.declared p.rest a b p.sound p.distinct p.old_is p.new_is p.names p.slots) (λ u v q. definitions_alike Then ds es u v q)
    definitions_alike Then (Accums k accums ∷ ds) (Accums kind others ∷ es) a b p =
        alike_then (DefinedAlike (λ d. DefinitionsStand ground kinds view d ds es Then)) (DefinedAlike Then) _ _ _ _
        (accum_defined (λ d. DefinitionsStand ground kinds view d ds es Then) k kind accums others p.declared p.rest.0 p.rest.1 a b p.sound p.distinct p.old_is p.new_is p.names p.slots) (λ u v q. definitions_alike Then ds es u v q)
    definitions_alike Then ds es a b p = absurd p.rest

  -- ---- queries

  module _ {K : Type 0} (kinds : World M → K → Answer Wrong Accum) (q : QueryOver M K) (p : QueryOver N Accum) (st : QueryStands ground kinds q p) where
    abbrev view : View M N
    view = parameters_view ground st.declared q.parameters p.parameters

    abbrev Statements : Declared ground → Type 0
    Statements d = AllStand (fixed_in ground d) view q.statements p.statements

    started : (arguments : List Val) → AnswersAlike (DefinedAlike kinds view Statements) (start (old_ground ground) kinds q arguments) (start (new_ground ground) (own_kinds kinds view) p arguments)
    started arguments =
        alike_then (NamesAlike (sides ground st.declared) view) (DefinedAlike kinds view Statements) _ _ _ _ names
        (λ as' bs n. definitions_alike kinds view Statements q.definitions p.definitions _ _ (record {
          declared = st.declared;
          sound = st.sound;
          distinct = st.distinct;
          old_is = sym old_world_is;
          new_is = sym new_world_is;
          names = n;
          slots = subst (λ c. SlotsStand c [] []) (sym st.no_accums) tt;
          rest = st.definitions;
        }))
      where
        old_world_is : old_world (sides ground st.declared) ≡ old_ground ground
        old_world_is = ap (λ ts. with_tuples ts (old_ground ground)) st.no_names

        new_world_is : new_world (sides ground st.declared) ≡ new_ground ground
        new_world_is = ap (λ ts. with_tuples ts (new_ground ground)) st.no_tuples

        names : AnswersAlike (NamesAlike (sides ground st.declared) view) (bound (old_ground ground) q.parameters arguments) (bound (new_ground ground) p.parameters arguments)
        names =
            rw (sym old_world_is, sym new_world_is)
            (bound_alike st.declared st.sound q.parameters p.parameters st.parameters arguments)

    abbrev PrintedSame : Answer Fault (List (List (Bytes × Out))) → Answer Fault (List (List (Bytes × Out))) → Type 0
    PrintedSame o r = AnswersAlike (λ (x y : List (List (Bytes × Out))). y ≡ x) o r

    ran : (turns : ℕ) (a : Defining M) (b : Defining N) → DefinedAlike kinds view Statements a b
        → PrintedSame (run_all (with_tuples a.tuples (old_ground ground)) q.statements (record { state = a.state; turns = turns; printed = [] }) >>= λ r. Gives r.printed) (run_all (with_tuples b.tuples (new_ground ground)) p.statements (record { state = b.state; turns = turns; printed = [] }) >>= λ r. Gives r.printed)
    ran turns a b h =
        rw (h.old_is, h.new_is)
        (alike_then (RunsAlike (sides ground h.declared) (behind_all (fixed_in ground h.declared) view q.statements p.statements)) (λ (x y : List (List (Bytes × Out))). y ≡ x) _ _ _ _
        (runs_alike (sides ground h.declared) h.sound.words q.statements p.statements view h.distinct h.rest _ _
        (record { state = states_alike view h.declared h.sound a.state b.state h.names h.slots; turns = refl; printed = refl }))
        (λ x y k. k.printed))

    pub query_alike : (arguments : List Val) (turns : ℕ) → run_plan (new_ground ground) p arguments turns ≡ run_over (old_ground ground) kinds q arguments turns
    query_alike arguments turns =
        alike_is _ _ (alike_then (DefinedAlike kinds view Statements) (λ (x y : List (List (Bytes × Out))). y ≡ x) _ _ _ _ (alike_blaming (DefinedAlike kinds view Statements) Evaluation _ _ (started arguments)) (λ a b h. ran turns a b h))

pub query_law : {M N K : Type 0} → QueryLaw M N K
query_law ground kinds q p st arguments turns = query_alike ground kinds q p st arguments turns
