-- DeclareLaws: declarations that pass in a scope of typing that shows those before them are found, and shown after them.
use Rattle.std.proofs.Common.{◌≡◌, ℕ, Bool, true, false, List, [], ◌∷◌, ◌++◌, length, Option, Some, None, Ok, refl, sym, ap, subst, ◌∙◌}
use Rattle.std.specs.Prelude.{◌||◌, if◌then◌else◌, bytes_eq, filter, is_some, nat_lt}
use Rattle.std.proofs.lemmas.List.{map_push}
use Rattle.std.proofs.lemmas.List.Folds.{list_any-append}
use Rattle.gq_tree.specs.Tree.{Tree}
use Rattle.gq_value.specs.declared.kind.BaseType.{BaseType}
use Rattle.gq_value.specs.Accums.{Accum}
use Rattle.gq_scope.specs.declared.places.NameBinding.{NameBinding}
use Rattle.gq_scope.specs.Named.{Named, seen_at, with_name}
use Rattle.gq_rules_typing.specs.Statements.{Bytes, BaseTree, KindTree, Definition, TupleType, Accums}
use Rattle.gq_rules_typing.specs.Sorts.{Fields, Sorts}
use Rattle.gq_rules_typing.specs.Words.{Setting, by_name}
use Rattle.gq_rules_typing.specs.Judging.{TooMany, BadKind, Judged, ◌>>◌, unless, or_fault, through_judged}
use Rattle.gq_rules_typing.specs.Kinds.{set_type}
use Rattle.gq_rules_typing.specs.Scopes.{Entry, Accumulator, TupleName, InOpening, Scope, said, entry, with_entry, new_name, names_at, base_written}
use Rattle.gq_rules_typing.specs.KindTypes.{own_name, fields_written, kind_written}
use Rattle.gq_rules_typing.specs.QueryTypes.{is_accum, typing_opening, typing_accum, first_name, typing_definition}
use Rattle.gq_rules_typing.specs.QueryTypes as typed
use Rattle.gq_rules_meaning.specs.Queries.{scope_of}
use Rattle.gq_rules_meaning.proofs.AnswerLaws.{then_ok, after_ok, ok_inj}
use Rattle.gq_rules_safety.proofs.QueryLaws.{fields_same}
use Rattle.gq_rules_safety.proofs.KindLaws.{kind_same}
use Rattle.gq_plan_ir.specs.declared.plan.Accum as code
use Rattle.gq_plan_ir.specs.declared.plan.Declared as declared
use Rattle.gq_plan_ir.specs.declared.plan.Definition as definition_code
use Rattle.gq_plan_ir.specs.declared.plan.Definition.TheVariants as definition
use Rattle.gq_plan_expr.specs.Resolved as plans
use Rattle.gq_plan_expr.specs.Resolved.{resolved}
use Rattle.gq_plan_select.specs.Resolved.{if_there, each_resolved}
use Rattle.gq_plan_expr.specs.Globals.{Globals, known_in}
use Rattle.gq_plan_stmt.specs.Parts.{resolved_base}
use Rattle.gq_plan_expr.specs.Found.{plain_fields, plain_tuples, globals_of}
use Rattle.gq_plan_laws.specs.Planned.{Heads, setting_of, with_accum, with_tuple, AccumsPlanned, DefinitionsPlanned}
use Rattle.gq_plan_laws.specs.Shown.{IsShown}
use Rattle.gq_plan_laws.specs.Declares.{tuple_names, is_taken, Declares}
use Rattle.gq_plan_laws.proofs.HasLemmas.{Has, has_one, has_two, converting_has, same_bytes, place_in, entry_none, written_has, new_seen, knows, words_in}
use Rattle.gq_plan_laws.proofs.PlannedQueryLaws.{tuples_more}

-- ---- one more name

slot_more : (q r : Bool) → q ≡ r → (seen : NameBinding) (o : Option NameBinding) (slots : Option NameBinding) (k : Accum) (attached : Bool) (e : Option Entry) → (q ≡ true → o ≡ None) → IsShown (place_in slots) o e
    → IsShown (place_in (if q then Some seen else slots)) o (if r then Some (Accumulator k attached) else e)
slot_more true true i seen o slots k attached e new h = (new refl, (seen.place, refl))
slot_more false false i seen o slots k attached e new h = h
slot_more q r i seen o slots k attached e new h = absurd (cc i)

free_more : (q r : Bool) → q ≡ r → (seen : NameBinding) (slots : Option NameBinding) (d : Entry) (e : Option Entry) → (e ≡ None → slots ≡ None) → (if r then Some d else e) ≡ None → (if q then Some seen else slots) ≡ None
free_more true true i seen slots d e h k = cc
free_more false false i seen slots d e h k = h k
free_more q r i seen slots d e h k = absurd (cc i)

name_more : (r : Bool) (slot : Option ℕ) (o : Option NameBinding) (e : Option Entry) → (r ≡ true → o ≡ None) → IsShown slot o e → IsShown slot o (if r then Some TupleName else e)
name_more true slot o e new h = new refl
name_more false slot o e new h = h

still_free : (r : Bool) (d : Entry) (e : Option Entry) (slots : Option NameBinding) → (e ≡ None → slots ≡ None) → (if r then Some d else e) ≡ None → slots ≡ None
still_free true d e slots h k = cc
still_free false d e slots h k = h k

still_taken : (r : Bool) (d : Entry) (o : Option Entry) → is_some o ≡ true → is_some (if r then Some d else o) ≡ true
still_taken true d o h = refl
still_taken false d o h = h

taken_more : (a b c : Bool) (o : Option Entry) → b ≡ c → (a ≡ true → is_some o ≡ true) → (a || (b || false)) ≡ true → is_some (if c then Some TupleName else o) ≡ true
taken_more a b true o e was t = refl
taken_more true b false o e was t = was refl
taken_more false true false o e was t = absurd (cc e)
taken_more false false false o e was t = absurd (cc t)

not_taken : (b : Bool) (o : Option Entry) → o ≡ None → (b ≡ true → is_some o ≡ true) → b ≡ false
not_taken true o none h = let there = h refl in absurd (cc (none, there))
not_taken false o none h = refl

module _ (sorts : Sorts) (n : Named) where
  -- ---- accumulators

  opening_has : (s : Scope Bytes) (h : Heads) → Declares sorts n h s → (name : Bytes) (kind : Accum) (o : Option (Tree Bytes)) (q : Bool) → typing_opening s name kind o ≡ Ok q → Has (if_there (resolved (known_in (globals_of sorts h.tuples h.slots) n)) o)
  opening_has s h d name kind None q e = (None, refl)
  opening_has s h d name kind (Some t) q e =
      let k = known_in (globals_of sorts h.tuples h.slots) n in
      let u = then_ok (or_fault (BadKind name) (set_type kind)) _ q e in
      has_one (resolved k t) Some (converting_has (names_at s InOpening) k (knows (globals_of sorts h.tuples h.slots) s n d.shows InOpening) u.0 t q u.2)

  accum_declared : (s : Scope Bytes) (h : Heads) → Declares sorts n h s → (name : Bytes) (attached : Bool) (kind : Accum) (q : Bool) → new_name s name ≡ Ok q → Declares sorts n (with_accum h name attached) (with_entry name (Accumulator kind attached) s)
  accum_declared s h d name attached kind q e =
      let g = globals_of sorts h.tuples h.slots in
      let seen : seen_at n name ≡ None = new_seen g s n d.shows name q e in
      let same : (x : Bytes) → bytes_eq name x ≡ s.setting.words.same name x = λ x. ap (λ w. w.words.same name x) (sym d.setting) in
      record {
        setting = d.setting;
        shows = record {
          words = words_in sorts h.tuples (with_name h.slots name attached) s d.setting;
          names = λ x.
              slot_more (bytes_eq name x) (s.setting.words.same name x) (same x) (record { place = h.slots.next; marked = attached }) (seen_at n x) (seen_at h.slots x) kind attached (entry s x)
              (λ i. subst (λ y. seen_at n y ≡ None) (same_bytes name x i) seen) (d.shows.names x);
        };
        free = λ x. free_more (bytes_eq name x) (s.setting.words.same name x) (same x) (record { place = h.slots.next; marked = attached }) (seen_at h.slots x) (Accumulator kind attached) (entry s x) (d.free x);
        taken = λ x t. still_taken (s.setting.words.same name x) (Accumulator kind attached) (entry s x) (d.taken x t);
      }

  -- an accumulator that passes: its opening has a plan, it has no slot yet, and is shown then
  pub record AccumPasses (h : Heads) (a : Bool × Bytes × Option (Tree Bytes)) (t : Scope Bytes) : Type 0 where
    pub opening : Has (if_there (resolved (known_in (globals_of sorts h.tuples h.slots) n)) a.2)
    pub new : seen_at h.slots a.1 ≡ None
    pub behind : Declares sorts n (with_accum h a.1 a.0) t

  pub accum_passes : (kind : Accum) (s t : Scope Bytes) (h : Heads) (a : Bool × Bytes × Option (Tree Bytes)) → Declares sorts n h s → typing_accum kind s a ≡ Ok t → AccumPasses h a t
  accum_passes kind s t h a d e =
      let v = after_ok (new_name s a.1 >> unless TooMany (nat_lt (length (filter is_accum s.names)) 256) >> typing_opening s (said s a.1) kind a.2) (Ok (with_entry a.1 (Accumulator kind a.0) s)) t e in
      let w = after_ok (new_name s a.1 >> unless TooMany (nat_lt (length (filter is_accum s.names)) 256)) (typing_opening s (said s a.1) kind a.2) v.0.0 v.0.1 in
      let x = after_ok (new_name s a.1) (unless TooMany (nat_lt (length (filter is_accum s.names)) 256)) w.0.0 w.0.1 in
      record {
        opening = opening_has s h d (said s a.1) kind a.2 v.0.0 w.1;
        new = d.free a.1 (entry_none s a.1 x.0.0 x.0.1);
        behind = subst (Declares sorts n (with_accum h a.1 a.0)) (ok_inj v.1) (accum_declared s h d a.1 a.0 kind x.0.0 x.0.1);
      }

  -- none is left
  both_end : (s t : Scope Bytes) (h i : Heads) → Declares sorts n h s → ◌≡◌ {A = Judged (Scope Bytes)} (Ok s) (Ok t) → h ≡ i → Declares sorts n i t
  both_end s t h i d e p = subst (λ j. Declares sorts n j t) p (subst (Declares sorts n h) (ok_inj e) d)

  pub accums_behind : (kind : Accum) (accums : List (Bool × Bytes × Option (Tree Bytes))) (s t : Scope Bytes) (h i : Heads) (bs : List code.Accum) → Declares sorts n h s → through_judged (typing_accum kind) s accums ≡ Ok t → AccumsPlanned sorts n h accums bs i
      → Declares sorts n i t
  accums_behind kind [] s t h i [] d e p = both_end s t h i d e p
  accums_behind kind (a ∷ rest) s t h i (b ∷ bs) d e p =
      let u = then_ok (typing_accum kind s a) _ t e in
      accums_behind kind rest u.0 t (with_accum h a.1 a.0) i bs (accum_passes kind s u.0 h a d u.1).behind u.2 p.1
  accums_behind kind accums s t h i bs d e p = absurd p

  -- ---- tuple types

  -- a field with the type that is found for it
  abbrev pub field_found : Globals → BaseTree Bytes × Bytes → Option (declared.Declared × Bytes)
  field_found g f = plans.◌>>=◌ (resolved_base g f.0) (λ b. Some (b, f.1))

  fields_have : (s : Scope Bytes) (h : Heads) → s.setting ≡ setting_of sorts h.tuples → (most : ℕ) (names : List Bytes) (fs : List (BaseTree Bytes × Bytes)) (fields : Fields) → fields_written s most names fs ≡ Ok fields
      → Has (each_resolved (field_found (globals_of sorts h.tuples h.slots)) fs)
  fields_have s h z most names [] fields e = ([], refl)
  fields_have s h z most names (f ∷ fs) fields e =
      let g = globals_of sorts h.tuples h.slots in
      let u = then_ok (base_written s f.0) _ fields e in
      let v = then_ok (own_name most names f.1) _ fields u.2 in
      let w = then_ok (fields_written s most v.0 fs) _ fields v.2 in
      has_two _ (has_one (resolved_base g f.0) (λ b. (b, f.1)) (written_has g s (words_in sorts h.tuples h.slots s z) f.0 u.0 u.1)) (fields_have s h z most v.0 fs w.0 w.1)

  tuple_declared : (s : Scope Bytes) (h : Heads) → Declares sorts n h s → (name : Bytes) (fields : Fields) (own : List (Bytes × BaseType)) → plain_fields own ≡ fields → (q : Bool) → new_name s name ≡ Ok q
      → Declares sorts n (with_tuple h name own) (typed.with_tuple name fields s)
  tuple_declared s h d name fields own is q e =
      let g = globals_of sorts h.tuples h.slots in
      let seen : seen_at n name ≡ None = new_seen g s n d.shows name q e in
      let same : (x : Bytes) → s.setting.words.same name x ≡ bytes_eq name x = λ x. ap (λ w. w.words.same name x) d.setting in
      let more : plain_tuples h.tuples ++ (name, fields) ∷ [] ≡ plain_tuples (h.tuples ++ (name, own) ∷ []) =
      ap {A = Fields} {B = List (Bytes × Fields)} (λ f. plain_tuples h.tuples ++ (name, f) ∷ []) (sym is) ∙ sym (tuples_more h.tuples name own) in
      let setting : (typed.with_tuple name fields s).setting ≡ setting_of sorts (h.tuples ++ (name, own) ∷ []) =
      ap (λ (w : Setting Bytes). record w { tuples = w.tuples ++ (name, fields) ∷ [] }) d.setting ∙ ap {A = List (Bytes × Fields)} {B = Setting Bytes} (λ l. record { words = by_name sorts; sorts = sorts; tuples = l }) more in
      let names : (x : Bytes) → is_taken (tuple_names (h.tuples ++ (name, own) ∷ [])) x ≡ (is_taken (tuple_names h.tuples) x || (bytes_eq name x || false)) =
      λ x. ap (λ l. is_taken l x) (map_push (λ (t : Bytes × List (Bytes × BaseType)). t.0) h.tuples (name, own)) ∙ list_any-append (λ y. bytes_eq y x) (tuple_names h.tuples) (name ∷ []) in
      record {
        setting = setting;
        shows = record {
          words = words_in sorts (h.tuples ++ (name, own) ∷ []) h.slots (typed.with_tuple name fields s) setting;
          names = λ x. name_more (s.setting.words.same name x) (place_in (seen_at h.slots x)) (seen_at n x) (entry s x) (λ i. subst (λ y. seen_at n y ≡ None) (same_bytes name x (sym (same x) ∙ i)) seen) (d.shows.names x);
        };
        free = λ x. still_free (s.setting.words.same name x) TupleName (entry s x) (seen_at h.slots x) (d.free x);
        taken = λ x t. taken_more (is_taken (tuple_names h.tuples) x) (bytes_eq name x) (s.setting.words.same name x) (entry s x) (sym (same x)) (d.taken x) (sym (names x) ∙ t);
      }

  -- a tuple type that passes: its fields are found, its name is new, and it is shown then
  pub record TuplePasses (h : Heads) (fs : List (BaseTree Bytes × Bytes)) (x : Bytes) (t : Scope Bytes) : Type 0 where
    pub fields : Fields
    pub written : fields_written (scope_of (setting_of sorts h.tuples)) 16 [] fs ≡ Ok fields
    pub found : Has (each_resolved (field_found (globals_of sorts h.tuples h.slots)) fs)
    pub free : is_taken (tuple_names h.tuples) x ≡ false
    pub behind : (own : List (Bytes × BaseType)) → plain_fields own ≡ fields → Declares sorts n (with_tuple h x own) t

  pub tuple_passes : (s t : Scope Bytes) (h : Heads) (fs : List (BaseTree Bytes × Bytes)) (x : Bytes) → Declares sorts n h s → typing_definition kind_written s (TupleType fs x) ≡ Ok t → TuplePasses h fs x t
  tuple_passes s t h fs x d e =
      let v = then_ok (fields_written s 16 [] fs) _ t e in
      let w = after_ok (new_name s x) (Ok (typed.with_tuple x v.0 s)) t v.2 in
      record {
        fields = v.0;
        written = fields_same (scope_of (setting_of sorts h.tuples)) s 16 [] fs (sym d.setting) ∙ v.1;
        found = fields_have s h d.setting 16 [] fs v.0 v.1;
        free = not_taken (is_taken (tuple_names h.tuples) x) (entry s x) (entry_none s x w.0.0 w.0.1) (d.taken x);
        behind = λ own is. subst (Declares sorts n (with_tuple h x own)) (ok_inj w.1) (tuple_declared s h d x v.0 own is w.0.0 w.0.1);
      }

  -- ---- definitions

  -- accumulators of a kind that pass
  pub record KindPasses (h : Heads) (k : KindTree Bytes) (accums : List (Bool × Bytes × Option (Tree Bytes))) (s t : Scope Bytes) : Type 0 where
    pub kind : Accum
    pub written : kind_written (scope_of (setting_of sorts h.tuples)) [] k ≡ Ok kind
    pub accums_pass : through_judged (typing_accum kind) s accums ≡ Ok t

  pub kind_passes : (s t : Scope Bytes) (h : Heads) (k : KindTree Bytes) (accums : List (Bool × Bytes × Option (Tree Bytes))) → Declares sorts n h s → typing_definition kind_written s (Accums k accums) ≡ Ok t → KindPasses h k accums s t
  kind_passes s t h k accums d e =
      let v = then_ok (kind_written s (first_name s accums) k) _ t e in
      record { kind = v.0; written = kind_same s (scope_of (setting_of sorts h.tuples)) (first_name s accums) [] d.setting 8 k v.0 v.1; accums_pass = v.2 }

  pub definitions_behind : (ds : List (Definition Bytes (KindTree Bytes))) (s t : Scope Bytes) (h i : Heads) (es : List definition_code.Definition) → Declares sorts n h s → through_judged (typing_definition kind_written) s ds ≡ Ok t → DefinitionsPlanned sorts n h ds es i
      → Declares sorts n i t
  definitions_behind [] s t h i [] d e p = both_end s t h i d e p
  definitions_behind (TupleType fs x ∷ ds) s t h i (definition.Tuple gs m ∷ es) d e p =
      let u = then_ok (typing_definition kind_written s (TupleType fs x)) _ t e in
      let v = tuple_passes s u.0 h fs x d u.1 in
      definitions_behind ds u.0 t (with_tuple h x p.0) i es (v.behind p.0 (ok_inj (sym p.1.written ∙ v.written))) u.2 p.2
  definitions_behind (Accums k accums ∷ ds) s t h i (definition.Accums kind bs ∷ es) d e p =
      let u = then_ok (typing_definition kind_written s (Accums k accums)) _ t e in
      let v = kind_passes s u.0 h k accums d u.1 in
      let q = p.1 in
      let r = q.1 in
      definitions_behind ds u.0 t q.0 i es (accums_behind v.kind accums s u.0 h q.0 bs d v.accums_pass r.0) u.2 r.1
  definitions_behind ds s t h i es d e p = absurd p
