-- HeadLemmas: accumulators and definitions, one after the other.
use Rattle.std.proofs.Common.{◌≡◌, ◌+◌, ◌<◌, ◌≤◌, ℕ, Bool, List, [], ◌∷◌, ◌++◌, length, get_or, take, drop, map, Option, Some, Ok, refl, sym, ap, subst, ◌∙◌, take_all}
use Rattle.std.proofs.lemmas.List.{take_more, take-append-drop, map_push, map-append}
use Rattle.gq_tree.specs.Tree.{Tree}
use Rattle.gq_tree.specs.declared.kind.AccumTree.{AccumTree}
use Rattle.gq_tree.specs.declared.kind.DefinitionTree as definition_tree
use Rattle.gq_value.specs.declared.kind.BaseType.{BaseType}
use Rattle.gq_value.specs.declared.kind.Kind.{Kind}
use Rattle.gq_value.specs.AccumViews.{accum_of}
use Rattle.gq_scope.specs.Named.{Named, with_name}
use Rattle.gq_rules_typing.specs.Statements.{Bytes, BaseTree, KindTree, Definition, TupleType, Accums}
use Rattle.gq_rules_typing.specs.StatementViews.{view_accum, view_definition}
use Rattle.gq_rules_typing.specs.Sorts.{Sorts}
use Rattle.gq_rules_typing.specs.Judging.{Judged, ◌>>=◌, through_judged}
use Rattle.gq_rules_typing.specs.KindTypes.{fields_written, kind_written}
use Rattle.gq_rules_typing.specs.QueryTypes.{typing_accum, typing_definition}
use Rattle.gq_rules_meaning.proofs.AnswerLaws.{then_ok}
use Rattle.gq_plan_ir.specs.declared.plan.Accum as code
use Rattle.gq_plan_ir.specs.declared.plan.Declared.{Declared}
use Rattle.gq_plan_ir.specs.declared.plan.Definition as definition_code
use Rattle.gq_plan_ir.specs.declared.plan.Definition.TheVariants as definition
use Rattle.gq_plan_select.specs.Resolved.{each_resolved}
use Rattle.gq_scope.specs.Held.{Held, fields_of, sorts_in, scope_in}
use Rattle.gq_plan_expr.specs.Found.{TupleTypes, globals_of}
use Rattle.gq_plan_laws.specs.Planned.{Heads, with_accum, with_tuple, AccumPlanned, AccumsPlanned, DefinitionsPlanned}
use Rattle.gq_plan_laws.proofs.DeclareLaws.{accums_behind, definitions_behind}
use Rattle.gq_plan.specs.Heading.{IsScoped, heads_of, resolved_field}
use Rattle.gq_plan.specs.Unplanned.{NoAccum, NoAccums, NoDefinition, NoDefinitions}
use Rattle.gq_plan.proofs.PlaceLemmas.{left_at}
use Rattle.gq_plan.proofs.ScopeLemmas.{fields_here, kind_here}
use Rattle.gq_plan.proofs.FailLemmas.{fields_lack, fields_fail, tuple_twice, kind_fails, accums_lack}

-- ---- lists

-- a rule on some and then on others
through_at : {A S : Type 0} (f : S → A → Judged S) (s : S) (xs ys : List A) (t : S) → through_judged f s (xs ++ ys) ≡ Ok t → (u : S) × (through_judged f s xs ≡ Ok u) × (through_judged f u ys ≡ Ok t)
through_at f s [] ys t h = (s, refl, h)
through_at f s (x ∷ xs) ys t h =
    let u = then_ok (f s x) (λ z. through_judged f z (xs ++ ys)) t h in
    let v = through_at f u.0 xs ys t u.2 in
    (v.0, ap (λ j. j >>= λ z. through_judged f z xs) u.1 ∙ v.1, v.2)

-- the current one, with those before it and the rest
around : {A B : Type 0} (f : A → B) (xs : List A) (k : ℕ) (a : A) → k < length xs → a ≡ get_or xs k a → map f (take k xs) ++ f a ∷ map f (drop (k + 1) xs) ≡ map f xs
around f xs k a low is = sym (ap (map f) (sym (take-append-drop k xs)) ∙ (map-append f (take k xs) (drop k xs) ∙ ap (λ l. map f (take k xs) ++ map f l) (left_at xs k a low is)))

one_more : {A B : Type 0} (f : A → B) (xs : List A) (k : ℕ) (a : A) → k < length xs → a ≡ get_or xs k a → map f (take k xs) ++ f a ∷ [] ≡ map f (take (k + 1) xs)
one_more f xs k a low is = sym (ap (map f) (take_more xs k a low ∙ ap (λ x. take k xs ++ x ∷ []) (sym is)) ∙ map_push f (take k xs) a)

-- ---- accumulators

accums_push : (sorts : Sorts) (n : Named) (h i : Heads) (accums : List (Bool × Bytes × Option (Tree Bytes))) (bs : List code.Accum) (a : Bool × Bytes × Option (Tree Bytes)) (b : code.Accum)
    → AccumsPlanned sorts n h accums bs i → AccumPlanned sorts n i a b → AccumsPlanned sorts n h (accums ++ a ∷ []) (bs ++ b ∷ []) (with_accum i a.1 a.0)
accums_push sorts n h i [] [] a b p one = (subst (λ j. AccumPlanned sorts n j a b) (sym p) one, ap (λ (j : Heads). with_accum j a.1 a.0) p)
accums_push sorts n h i [] (c ∷ bs) a b p one = absurd p
accums_push sorts n h i (d ∷ accums) [] a b p one = absurd p
accums_push sorts n h i (d ∷ accums) (c ∷ bs) a b p one = (p.0, accums_push sorts n (with_accum h d.1 d.0) i accums bs a b p.1 one)

-- the first k are planned
pub record AccumsSoFar (sorts : Sorts) (n : Named) (start : Heads) (trees : List AccumTree) (k : ℕ) (done : List code.Accum) (now : Heads) : Type 0 where
  pub are : AccumsPlanned sorts n start (map view_accum (take k trees)) done now

pub accums_begin : (sorts : Sorts) (n : Named) (start : Heads) (trees : List AccumTree) → AccumsSoFar sorts n start trees 0 [] start
accums_begin sorts n start trees = record { are = refl }

pub accum_next : (sorts : Sorts) (n : Named) (start : Heads) (trees : List AccumTree) (done : List code.Accum) (k : ℕ) (tuples : TupleTypes) (slots more : Named) (t : AccumTree) (b : code.Accum)
    → k < length trees → t ≡ get_or trees k t → AccumsSoFar sorts n start trees k done (heads_of tuples slots) → AccumPlanned sorts n (heads_of tuples slots) (view_accum t) b → more ≡ with_name slots t.name t.attached
    → AccumsSoFar sorts n start trees (k + 1) (done ++ b ∷ []) (heads_of tuples more)
accum_next sorts n start trees done k tuples slots more t b low is so_far one new = record {
  are =
      subst (λ m. AccumsPlanned sorts n start (map view_accum (take (k + 1) trees)) (done ++ b ∷ []) (heads_of tuples m)) (sym new)
      (subst (λ l. AccumsPlanned sorts n start l (done ++ b ∷ []) (heads_of tuples (with_name slots t.name t.attached))) (one_more view_accum trees k t low is)
      (accums_push sorts n start (heads_of tuples slots) (map view_accum (take k trees)) done (view_accum t) b so_far.are one));
}

pub accums_end : (sorts : Sorts) (n : Named) (start now : Heads) (trees : List AccumTree) (done : List code.Accum) (k : ℕ)
    → length trees ≤ k → AccumsSoFar sorts n start trees k done now → AccumsPlanned sorts n start (map view_accum trees) done now
accums_end sorts n start now trees done k high so_far = subst (λ l. AccumsPlanned sorts n start (map view_accum l) done now) (take_all k trees high) so_far.are

pub accum_lacks : (sorts : Sorts) (n : Named) (start now : Heads) (trees : List AccumTree) (done : List code.Accum) (k : ℕ) (t : AccumTree)
    → k < length trees → t ≡ get_or trees k t → AccumsSoFar sorts n start trees k done now → NoAccum sorts n now (view_accum t) → NoAccums sorts n start (map view_accum trees)
accum_lacks sorts n start now trees done k t low is so_far never = record {
  none = λ kind s z d e.
      let u = through_at (typing_accum kind) s (map view_accum (take k trees)) (view_accum t ∷ map view_accum (drop (k + 1) trees)) z (ap (through_judged (typing_accum kind) s) (around view_accum trees k t low is) ∙ e) in
      let v = then_ok (typing_accum kind u.0 (view_accum t)) _ z u.2 in
      never.none kind u.0 v.0 (accums_behind sorts n kind (map view_accum (take k trees)) s u.0 start now done d u.1 so_far.are) v.1;
}

pub ruleset accum_laws = (accums_begin, accum_next, accums_end, accum_lacks)

-- ---- one definition

pub tuple_planned : (s : Held) (n : Named) (tuples more : TupleTypes) (slots : Named) (fs : List (BaseTree Bytes × Bytes)) (x : Bytes) (gs : List (Declared × Bytes)) (own : List (Bytes × BaseType)) (m : ℕ)
    → IsScoped (sorts_in s) tuples s → m ≡ length tuples → each_resolved (resolved_field (globals_of (sorts_in s) tuples slots)) fs ≡ Some gs → fields_written (scope_in s) 16 [] fs ≡ Ok (fields_of own)
    → more ≡ tuples ++ (x, own) ∷ [] → DefinitionsPlanned (sorts_in s) n (heads_of tuples slots) (TupleType fs x ∷ []) (definition.Tuple gs m ∷ []) (heads_of more slots)
tuple_planned s n tuples more slots fs x gs own m scoped number fields written new =
    (own, (record { number = number; written = fields_here (sorts_in s) tuples s fs (fields_of own) scoped written; fields = fields }), ap (λ ts. heads_of ts slots) (sym new))

pub kind_planned : (s : Held) (n : Named) (h i : Heads) (k : KindTree Bytes) (all : List (Bool × Bytes × Option (Tree Bytes))) (kind : Kind) (bs : List code.Accum)
    → IsScoped (sorts_in s) h.tuples s → kind_written (scope_in s) [] k ≡ Ok (accum_of kind) → AccumsPlanned (sorts_in s) n h all bs i
    → DefinitionsPlanned (sorts_in s) n h (Accums k all ∷ []) (definition.Accums kind bs ∷ []) i
kind_planned s n h i k all kind bs scoped written planned = (kind_here (sorts_in s) h.tuples s k (accum_of kind) scoped written, (i, (planned, refl)))

pub ruleset tuple_laws = (tuple_planned, fields_lack, fields_fail, tuple_twice)

pub ruleset kind_laws = (kind_planned, kind_fails, accums_lack)

-- ---- definitions

definitions_push : (sorts : Sorts) (n : Named) (h i j : Heads) (ds : List (Definition Bytes (KindTree Bytes))) (es : List definition_code.Definition) (d : Definition Bytes (KindTree Bytes)) (e : definition_code.Definition)
    → DefinitionsPlanned sorts n h ds es i → DefinitionsPlanned sorts n i (d ∷ []) (e ∷ []) j → DefinitionsPlanned sorts n h (ds ++ d ∷ []) (es ++ e ∷ []) j
definitions_push sorts n h i j [] [] d e p one = subst (λ k. DefinitionsPlanned sorts n k (d ∷ []) (e ∷ []) j) (sym p) one
definitions_push sorts n h i j [] (f ∷ es) d e p one = absurd p
definitions_push sorts n h i j (TupleType fs x ∷ ds) [] d e p one = absurd p
definitions_push sorts n h i j (Accums k all ∷ ds) [] d e p one = absurd p
definitions_push sorts n h i j (TupleType fs x ∷ ds) (definition.Accums kind bs ∷ es) d e p one = absurd p
definitions_push sorts n h i j (Accums k all ∷ ds) (definition.Tuple gs m ∷ es) d e p one = absurd p
definitions_push sorts n h i j (TupleType fs x ∷ ds) (definition.Tuple gs m ∷ es) d e p one = (p.0, p.1, definitions_push sorts n (with_tuple h x p.0) i j ds es d e p.2 one)
definitions_push sorts n h i j (Accums k all ∷ ds) (definition.Accums kind bs ∷ es) d e p one = (p.0, (p.1.0, (p.1.1.0, definitions_push sorts n p.1.0 i j ds es d e p.1.1.1 one)))

-- the first k are planned, with the current scope
pub record DefinitionsSoFar (n : Named) (s t : Held) (before tuples : TupleTypes) (first slots : Named) (trees : List definition_tree.DefinitionTree) (k : ℕ) (done : List definition_code.Definition) : Type 0 where
  pub scoped : IsScoped (sorts_in s) tuples t
  pub are : DefinitionsPlanned (sorts_in s) n (heads_of before first) (map view_definition (take k trees)) done (heads_of tuples slots)

pub definitions_begin : (n : Named) (s : Held) (tuples : TupleTypes) (slots : Named) (trees : List definition_tree.DefinitionTree) → IsScoped (sorts_in s) tuples s
    → DefinitionsSoFar n s s tuples tuples slots slots trees 0 []
definitions_begin n s tuples slots trees scoped = record { scoped = scoped; are = refl }

-- the current scope has its own types
pub scope_here : (s t : Held) (tuples : TupleTypes) → IsScoped (sorts_in s) tuples t → IsScoped (sorts_in t) tuples t
scope_here s t tuples h = subst (λ z. IsScoped z tuples t) (sym h.sorts_are) h

pub definition_next : (n : Named) (s t u : Held) (before tuples more : TupleTypes) (first slots slots' : Named) (trees : List definition_tree.DefinitionTree) (k : ℕ) (done : List definition_code.Definition) (d : definition_tree.DefinitionTree) (e : definition_code.Definition)
    → k < length trees → d ≡ get_or trees k d → DefinitionsSoFar n s t before tuples first slots trees k done
    → DefinitionsPlanned (sorts_in t) n (heads_of tuples slots) (view_definition d ∷ []) (e ∷ []) (heads_of more slots') → IsScoped (sorts_in t) more u
    → DefinitionsSoFar n s u before more first slots' trees (k + 1) (done ++ e ∷ [])
definition_next n s t u before tuples more first slots slots' trees k done d e low is so_far one scoped = record {
  scoped = subst (λ z. IsScoped z more u) so_far.scoped.sorts_are scoped;
  are =
      subst (λ l. DefinitionsPlanned (sorts_in s) n (heads_of before first) l (done ++ e ∷ []) (heads_of more slots')) (one_more view_definition trees k d low is)
      (definitions_push (sorts_in s) n (heads_of before first) (heads_of tuples slots) (heads_of more slots') (map view_definition (take k trees)) done (view_definition d) e so_far.are
      (subst (λ z. DefinitionsPlanned z n (heads_of tuples slots) (view_definition d ∷ []) (e ∷ []) (heads_of more slots')) so_far.scoped.sorts_are one));
}

pub definitions_end : (n : Named) (s t : Held) (before tuples : TupleTypes) (first slots : Named) (trees : List definition_tree.DefinitionTree) (k : ℕ) (done : List definition_code.Definition)
    → length trees ≤ k → DefinitionsSoFar n s t before tuples first slots trees k done → DefinitionsPlanned (sorts_in s) n (heads_of before first) (map view_definition trees) done (heads_of tuples slots)
definitions_end n s t before tuples first slots trees k done high so_far =
    subst (λ l. DefinitionsPlanned (sorts_in s) n (heads_of before first) (map view_definition l) done (heads_of tuples slots)) (take_all k trees high) so_far.are

pub definition_lacks : (n : Named) (s t : Held) (before tuples : TupleTypes) (first slots : Named) (trees : List definition_tree.DefinitionTree) (k : ℕ) (done : List definition_code.Definition) (d : definition_tree.DefinitionTree)
    → k < length trees → d ≡ get_or trees k d → DefinitionsSoFar n s t before tuples first slots trees k done → NoDefinition (sorts_in t) n (heads_of tuples slots) (view_definition d)
    → NoDefinitions (sorts_in s) n (heads_of before first) (map view_definition trees)
definition_lacks n s t before tuples first slots trees k done d low is so_far never = record {
  none = λ z y declared e.
      let here : NoDefinition (sorts_in s) n (heads_of tuples slots) (view_definition d) = subst (λ w. NoDefinition w n (heads_of tuples slots) (view_definition d)) so_far.scoped.sorts_are never in
      let u = through_at (typing_definition kind_written) z (map view_definition (take k trees)) (view_definition d ∷ map view_definition (drop (k + 1) trees)) y (ap (through_judged (typing_definition kind_written) z) (around view_definition trees k d low is) ∙ e) in
      let v = then_ok (typing_definition kind_written u.0 (view_definition d)) _ y u.2 in
      here.none u.0 v.0 (definitions_behind (sorts_in s) n (map view_definition (take k trees)) z u.0 (heads_of before first) (heads_of tuples slots) done declared u.1 so_far.are) v.1;
}

pub ruleset definition_laws = (definitions_begin, scope_here, definition_next, definitions_end, definition_lacks)
