-- QueryLaws: a plan that is made of a query represents it.
use Rattle.std.proofs.Common.{◌≡◌, ◌+◌, ℕ, suc, Bool, false, List, [], ◌∷◌, ◌++◌, length, map, arith, Option, Some, None, refl, sym, ap, ◌∙◌, subst}
use Rattle.std.specs.Prelude.{slice_get}
use Rattle.std.specs.Option.{option_map}
use Rattle.std.specs.List.{flat_map}
use Rattle.std.proofs.lemmas.List.{append_assoc, length_push}
use Rattle.gq_tree.specs.Tree.{Tree}
use Rattle.gq_value.specs.declared.kind.BaseType.{BaseType}
use Rattle.gq_value.specs.declared.value.Wrong.{Wrong}
use Rattle.gq_scope.specs.declared.places.NameBinding.{NameBinding}
use Rattle.gq_scope.specs.Named.{Named, seen_at, with_name}
use Rattle.gq_rules_typing.specs.Statements.{Bytes, BaseTree, VertexOf, KindTree, Definition, TupleType, Accums, Parameter}
use Rattle.gq_rules_typing.specs.Sorts.{Fields}
use Rattle.gq_rules_meaning.specs.Calendars.{Calendar}
use Rattle.gq_rules_meaning.specs.Graphs.{Graph}
use Rattle.gq_rules_meaning.specs.Queries.{kind_of, judged}
use Rattle.gq_plan_ir.specs.declared.plan.Accum as code
use Rattle.gq_plan_ir.specs.declared.plan.Declared as declared
use Rattle.gq_plan_ir.specs.declared.plan.Definition as definition_code
use Rattle.gq_plan_ir.specs.declared.plan.Definition.TheVariants as definition
use Rattle.gq_plan_ir.specs.declared.plan.Parameter as parameter_code
use Rattle.gq_plan_ir.specs.Reference as reference
use Rattle.gq_plan_ir.specs.Reference.{Reference, Place, Slot, VertexType}
use Rattle.gq_plan_ir.specs.PlanView.{view_declared, view_accum, view_definition, view_parameter, view_plan, names_in, accum_names}
use Rattle.gq_plan_ir.specs.Renamed.{renamed}
use Rattle.gq_plan_ir.specs.Naming.{View, AreDistinct, inside}
use Rattle.gq_plan_ir.specs.Naming as naming
use Rattle.gq_plan_ir.specs.RenamedStatements.{renamed_base}
use Rattle.gq_plan_ir.specs.StandsFor.{AllStand}
use Rattle.gq_plan_ir.specs.Plans as stands
use Rattle.gq_plan_ir.specs.Plans.{Declared, WithAccum, WithTuple, ParametersStand, parameters_view, AccumsStand, TupleStands, DefinitionsStand, QueryStands}
use Rattle.gq_plan_expr.specs.Resolved.{◌>>=◌}
use Rattle.gq_plan_expr.proofs.PlanLaws.{then_some, some_inj}
use Rattle.gq_plan_select.proofs.BlockLaws.{each_planned, found_is, if_planned}
use Rattle.gq_plan_expr.specs.Globals.{known_in}
use Rattle.gq_plan_stmt.specs.References.{view_of}
use Rattle.gq_plan_stmt.specs.Parts.{resolved_base}
use Rattle.gq_plan_stmt.specs.Steps.{Behind, when_new, new_name}
use Rattle.gq_plan_stmt.specs.Laws.{IsBounded}
use Rattle.gq_plan_stmt.proofs.StepLaws.{bounded_name, inside_is, is_new, steps_law}
use Rattle.gq_plan_expr.specs.Found.{TupleTypes, plain_fields, plain_tuples, globals_of}
use Rattle.gq_plan_laws.specs.Sides.{numbered}
use Rattle.gq_plan_laws.specs.Declared.{ground_of, declared_of, SlotsAre}
use Rattle.gq_plan_laws.specs.Planned.{Heads, with_accum, with_tuple, AccumsPlanned, DefinitionsPlanned}
use Rattle.gq_plan_laws.specs.PlannedLaws.{no_names, no_heads, ParametersPlanned, PlanLaw}
use Rattle.gq_plan_laws.proofs.FoundLaws.{sound_is, slots_more, slice_at}

new_is : (n : Named) (x : Bytes) (m : Named) (place : ℕ) → new_name n x ≡ Some (m, place) → (seen_at n x ≡ None) × (with_name n x false ≡ m) × (n.next ≡ place)
new_is n x m place h = go (seen_at n x) refl h
  where
    go : (o : Option NameBinding) → seen_at n x ≡ o → when_new o (with_name n x false, n.next) ≡ Some (m, place) → (seen_at n x ≡ None) × (with_name n x false ≡ m) × (n.next ≡ place)
    go None e k = (e, ap (λ (p : Behind ℕ). p.0) (some_inj k), ap (λ (p : Behind ℕ). p.1) (some_inj k))
    go (Some s) e k = cc

-- one tuple type more
numbered_more : (i : ℕ) (ts : TupleTypes) (x : Bytes) (fields : List (Bytes × BaseType)) → numbered i (ts ++ (x, fields) ∷ []) ≡ numbered i ts ++ (reference.TupleType (i + length ts), plain_fields fields) ∷ []
numbered_more i [] x fields = let same : i ≡ i + 0 = omega arith in ap {B = List (Reference × Fields)} (λ k. (reference.TupleType k, plain_fields fields) ∷ []) same
numbered_more i (t ∷ ts) x fields =
    let same : suc i + length ts ≡ i + suc (length ts) = omega arith in
    ap (λ l. (reference.TupleType i, plain_fields t.1) ∷ l) (numbered_more (suc i) ts x fields ∙ ap {B = List (Reference × Fields)} (λ k. numbered (suc i) ts ++ (reference.TupleType k, plain_fields fields) ∷ []) same)

numbered_next : (ts : TupleTypes) (x : Bytes) (fields : List (Bytes × BaseType)) → numbered 0 (ts ++ (x, fields) ∷ []) ≡ numbered 0 ts ++ (reference.TupleType (length ts), plain_fields fields) ∷ []
numbered_next ts x fields =
    let same : 0 + length ts ≡ length ts = omega arith in
    numbered_more 0 ts x fields ∙ ap {B = List (Reference × Fields)} (λ k. numbered 0 ts ++ (reference.TupleType k, plain_fields fields) ∷ []) same

pub tuples_more : (ts : TupleTypes) (x : Bytes) (fields : List (Bytes × BaseType)) → plain_tuples (ts ++ (x, fields) ∷ []) ≡ plain_tuples ts ++ (x, plain_fields fields) ∷ []
tuples_more [] x fields = refl
tuples_more (t ∷ ts) x fields = ap (λ l. (t.0, plain_fields t.1) ∷ l) (tuples_more ts x fields)

abbrev accum_names_of : List code.Accum → List Bytes
accum_names_of bs = map (λ (b : code.Accum). b.name) bs

module _ (g : Graph) (clock : Calendar) (accums : List Bytes) where
  abbrev G : stands.Ground Bytes Reference
  G = ground_of g clock accums

  abbrev D : TupleTypes → Named → Declared G
  D ts slots = declared_of g clock accums ts slots

  -- the declarations, and the names of their accumulators so far
  record At (h : Heads) (done more : List Bytes) : Type 0 where
    pub slots : SlotsAre accums h.slots
    pub count : length done ≡ h.slots.next
    pub are : accums ≡ done ++ more

  base_is : (h : Heads) (b : BaseTree Bytes) (d : declared.Declared) → resolved_base (globals_of g.sorts h.tuples h.slots) b ≡ Some d → view_declared d ≡ renamed_base (D h.tuples h.slots).vertex_type b
  base_is h (VertexOf t) d e =
      let u = then_some ((globals_of g.sorts h.tuples h.slots).vertex_type t) _ d e in ap view_declared (sym (some_inj u.2)) ∙ ap VertexOf (found_is VertexType ((globals_of g.sorts h.tuples h.slots).vertex_type t) u.0 u.1)
  base_is h b d e = ap view_declared (sym (some_inj e))

  -- ---- accumulators

  accum_at : (h : Heads) (done : List Bytes) (x : Bytes) (attached : Bool) (more : List Bytes) → seen_at h.slots x ≡ None → At h done (x ∷ more) → At (with_accum h x attached) (done ++ x ∷ []) more
  accum_at h done x attached more none at = record {
    slots = slots_more accums h.slots x attached at.slots none (ap (slice_get accums) (sym at.count) ∙ (ap (λ l. slice_get l (length done)) at.are ∙ slice_at accums done x more));
    count = length_push done x ∙ (let same : length done + 1 ≡ suc h.slots.next = omega (arith, at.count) in same);
    are = at.are ∙ sym (append_assoc done (x ∷ []) more);
  }

  module _ (n : Named) where
    accums_stand : (h : Heads) (as' : List (Bool × Bytes × Option (Tree Bytes))) (bs : List code.Accum) (j : Heads) (done more : List Bytes) (Then : Declared G → Type 0)
        → AccumsPlanned g.sorts n h as' bs j → At h done (accum_names_of bs ++ more) → ((dones : List Bytes) → At j dones more → Then (D j.tuples j.slots))
        → AccumsStand G kind_of (view_of n) (D h.tuples h.slots) as' (map view_accum bs) Then
    accums_stand h [] [] j done more Then p at then = subst (λ (i : Heads). Then (D i.tuples i.slots)) (sym p) (then done (subst (λ i. At i done more) p at))
    accums_stand h (a ∷ rest) (b ∷ bs) j done more Then p at then =
        let named = subst (λ x. At h done (x ∷ (accum_names_of bs ++ more))) p.0.name at in
        let next = accum_at h done a.1 a.0 (accum_names_of bs ++ more) p.0.new named in
        let opens = if_planned (known_in (globals_of g.sorts h.tuples h.slots) n) a.2 b.opening p.0.opening ∙ ap (λ z. option_map (renamed z) a.2) (inside_is g.sorts accums (globals_of g.sorts h.tuples h.slots) n) in
        let is_sound = sound_is accums g clock h.tuples (with_name h.slots a.1 a.0) next.slots in
        let others = accums_stand (with_accum h a.1 a.0) rest bs j (done ++ a.1 ∷ []) more Then p.1 next then in
        ((p.0.attached, opens), (D h.tuples (with_name h.slots a.1 a.0), (rw p.0.slot (record { sound = is_sound; named_tuples = refl; tuples = refl; accums = refl }), others)))
    accums_stand h as' bs j done more Then p at then = absurd p

    -- ---- definitions

    abbrev names_of_all : List definition_code.Definition → List Bytes
    names_of_all es = flat_map names_in es

    definitions_stand : (h : Heads) (ds : List (Definition Bytes (KindTree Bytes))) (es : List definition_code.Definition) (j : Heads) (done : List Bytes) (Then : Declared G → Type 0)
        → DefinitionsPlanned g.sorts n h ds es j → At h done (names_of_all es) → ((dones : List Bytes) → At j dones [] → Then (D j.tuples j.slots))
        → DefinitionsStand G kind_of (view_of n) (D h.tuples h.slots) ds (map view_definition es) Then
    definitions_stand h [] [] j done Then p at then = subst (λ (i : Heads). Then (D i.tuples i.slots)) (sym p) (then done (subst (λ i. At i done []) p at))
    definitions_stand h (TupleType fs x ∷ ds) (definition.Tuple gs m ∷ es) j done Then p at then =
        let t = p.1 in
        let fields = p.0 in
        let found = each_planned (λ (f : BaseTree Bytes × Bytes). resolved_base (globals_of g.sorts h.tuples h.slots) f.0 >>= λ b. Some (a_field b f.1)) (λ (f : declared.Declared × Bytes). a_view (view_declared f.0) f.1) (λ (f : BaseTree Bytes × Bytes). a_view (renamed_base (D h.tuples h.slots).vertex_type f.0) f.1) field_is fs gs t.fields in
        let is_sound = sound_is accums g clock (h.tuples ++ (x, fields) ∷ []) h.slots at.slots in
        let others = definitions_stand (with_tuple h x fields) ds es j done Then p.2 (record { slots = at.slots; count = at.count; are = at.are }) then in
        (found, (plain_fields fields, (t.written, (D (h.tuples ++ (x, fields) ∷ []) h.slots, (rw t.number (record { sound = is_sound; named_tuples = tuples_more h.tuples x fields; tuples = numbered_next h.tuples x fields; accums = refl }), others)))))
      where
        a_field : declared.Declared → Bytes → declared.Declared × Bytes
        a_field d name = (d, name)

        a_view : BaseTree Reference → Bytes → BaseTree Reference × Bytes
        a_view b name = (b, name)

        field_is : (f : BaseTree Bytes × Bytes) (d : declared.Declared × Bytes) → (resolved_base (globals_of g.sorts h.tuples h.slots) f.0 >>= λ b. Some (a_field b f.1)) ≡ Some d → a_view (view_declared d.0) d.1 ≡ a_view (renamed_base (D h.tuples h.slots).vertex_type f.0) f.1
        field_is f d e =
            let u = then_some (resolved_base (globals_of g.sorts h.tuples h.slots) f.0) _ d e in
            ap (λ (z : declared.Declared × Bytes). a_view (view_declared z.0) z.1) (sym (some_inj u.2)) ∙ ap (λ b. a_view b f.1) (base_is h f.0 u.0 u.1)
    definitions_stand h (Accums k as' ∷ ds) (definition.Accums kind bs ∷ es) j done Then p at then = (
      ap (judged {F = Wrong}) p.0,
      accums_stand h as' bs p.1.0 done (names_of_all es) (λ e. DefinitionsStand G kind_of (view_of n) e ds (map view_definition es) Then) p.1.1.0 at
          (λ dones i. definitions_stand p.1.0 ds es j dones Then p.1.1.1 i then),
    )
    definitions_stand h ds es j done Then p at then = absurd p

  -- ---- parameters

  record ParametersAre (ps : List (Parameter Bytes)) (qs : List parameter_code.Parameter) (n : Named) : Type 0 where
    pub stand : ParametersStand G (D [] no_names) ps (map view_parameter qs)
    pub view : parameters_view G (D [] no_names) ps (map view_parameter qs) ≡ view_of n
    pub distinct : AreDistinct (stands.fixed_in G (D [] no_names)) (view_of n)
    pub bounded : IsBounded n

  parameters_are : (ps : List (Parameter Bytes)) (qs : List parameter_code.Parameter) (n : Named) → ParametersPlanned g.sorts ps qs n → ParametersAre ps qs n
  parameters_are [] [] n p = subst (ParametersAre [] []) (sym p) (record { stand = _; view = refl; distinct = _; bounded = _ })
  parameters_are (x ∷ ps) (q ∷ qs) n p =
      let m = p.1.0 in
      let i = parameters_are ps qs m p.1.1.0 in
      let new = new_is m x.name n q.place p.1.1.1 in
      subst (ParametersAre (x ∷ ps) (q ∷ qs)) new.1
      (record {
        stand = (base_is no_heads x.base q.base p.0, i.stand);
        view = ap (λ v. naming.with_name (stands.fixed_in G (D [] no_names)) v x.name (Place q.place) false) i.view ∙ ap (λ k. naming.with_name (stands.fixed_in G (D [] no_names)) (view_of m) x.name (Place k) false) (sym new.2);
        distinct = (is_new g.sorts accums (globals_of g.sorts [] no_names) m x.name i.bounded new.0, i.distinct);
        bounded = bounded_name m x.name false i.bounded;
      })
  parameters_are ps qs n p = absurd p

pub plan_law : PlanLaw
plan_law g clock q p h =
    let accums = accum_names p in
    let i = parameters_are g clock accums q.parameters p.parameters h.names h.parameters in
    let first : At g clock accums no_heads [] accums = record { slots = record { found = _; told = _ }; count = refl; are = refl } in
    let d = declared_of g clock accums [] no_names in
    record {
      declared = d;
      sound = sound_is accums g clock [] no_names first.slots;
      no_names = refl;
      no_tuples = refl;
      no_accums = refl;
      parameters = i.stand;
      distinct = subst (AreDistinct (stands.fixed_in (ground_of g clock accums) d)) (sym i.view) i.distinct;
      definitions = subst (λ v. DefinitionsStand (ground_of g clock accums) kind_of v d q.definitions (map view_definition p.definitions) (λ e. AllStand (stands.fixed_in (ground_of g clock accums) e) v q.statements (view_plan p).statements)) (sym i.view)
          (definitions_stand g clock accums h.names no_heads q.definitions p.definitions h.heads [] (λ e. AllStand (stands.fixed_in (ground_of g clock accums) e) (view_of h.names) q.statements (view_plan p).statements) h.definitions first
          (λ dones at. (steps_law g.sorts accums (globals_of g.sorts h.heads.tuples h.heads.slots) h.names i.bounded q.statements h.behind p.steps h.statements).stand));
    }
