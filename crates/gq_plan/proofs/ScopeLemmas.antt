-- ScopeLemmas: the types of a scope, as tuple types are added to it.
use Rattle.std.proofs.Common.{◌≡◌, Bool, true, false, List, [], ◌∷◌, ◌++◌, Option, Some, Ok, refl, sym, ap, ◌∙◌, subst}
use Rattle.std.specs.Prelude.{◌||◌, if◌then◌else◌, bytes_eq, is_some}
use Rattle.std.proofs.lemmas.List.{map_push}
use Rattle.std.proofs.lemmas.List.Folds.{list_any-append}
use Rattle.std.proofs.lemmas.List.Elements.{filter_map-append}
use Rattle.gq_value.specs.declared.kind.BaseType.{BaseType}
use Rattle.gq_value.specs.Accums.{Accum}
use Rattle.gq_rules_typing.specs.Statements.{Bytes, BaseTree, KindTree}
use Rattle.gq_rules_typing.specs.Sorts.{Sorts, Fields}
use Rattle.gq_rules_typing.specs.KindTypes.{fields_written, kind_written}
use Rattle.gq_rules_typing.specs.Scopes as typing
use Rattle.gq_rules_meaning.specs.Queries.{scope_of}
use Rattle.gq_rules_safety.proofs.QueryLaws.{fields_same}
use Rattle.gq_rules_safety.proofs.KindLaws.{kind_same}
use Rattle.gq_scope.specs.declared.entry.Entry.{Entry}
use Rattle.gq_scope.specs.declared.entry.Entry.TheVariants as entry
use Rattle.gq_scope.specs.Kept.{tuple_types, named_tuple}
use Rattle.gq_scope.specs.Held.{Held, sorts_in, setting_in, scope_in}
use Rattle.gq_check_decls.proofs.HeadLemmas.{tuple_added}
use Rattle.gq_plan_expr.specs.Found.{TupleTypes}
use Rattle.gq_plan_laws.specs.Planned.{setting_of}
use Rattle.gq_plan_laws.specs.Declares.{tuple_names, is_taken}
use Rattle.gq_plan.specs.Heading.{IsScoped}

types_more : (names : List (Bytes × Entry)) (x : Bytes) (fields : List (Bytes × BaseType)) → tuple_types (names ++ (x, entry.TupleType fields) ∷ []) ≡ tuple_types names ++ (x, fields) ∷ []
types_more names x fields = filter_map-append named_tuple names ((x, entry.TupleType fields) ∷ [])

sorts_stay : (s : Held) (names : List (Bytes × Entry)) → sorts_in (record s { names = names }) ≡ sorts_in s
unfolding sorts_in
sorts_stay s names = refl

-- ---- names that are free

-- neither among these names nor the one after them
not_taken : (names : List Bytes) (x y : Bytes) → is_taken (names ++ x ∷ []) y ≡ false → (is_taken names y ≡ false) × (bytes_eq x y ≡ false)
not_taken names x y h = go (is_taken names y) (bytes_eq x y) (sym (list_any-append (λ z. bytes_eq z y) names (x ∷ [])) ∙ h)
  where
    go : (a b : Bool) → (a || (b || false)) ≡ false → (a ≡ false) × (b ≡ false)
    go false false e = (refl, refl)
    go false true e = absurd (cc e)
    go true b e = absurd (cc e)

same_in : (s : Held) (x y : Bytes) → (scope_in s).setting.words.same x y ≡ bytes_eq x y
unfolding scope_in setting_in
same_in s x y = refl

entry_more : (s : Held) (x y : Bytes) (fields : List (Bytes × BaseType))
    → typing.entry (scope_in (record s { names = s.names ++ (x, entry.TupleType fields) ∷ [] })) y ≡ (if bytes_eq x y then Some typing.TupleName else typing.entry (scope_in s) y)
entry_more s x y fields =
    ap (λ (t : typing.Scope Bytes). typing.entry t y) (tuple_added s x fields)
    ∙ ap (λ (b : Bool). if b then Some typing.TupleName else typing.entry (scope_in s) y) (same_in s x y)

free_more : (s : Held) (tuples : TupleTypes) (x : Bytes) (fields : List (Bytes × BaseType)) → ((y : Bytes) → is_taken (tuple_names tuples) y ≡ false → is_some (typing.entry (scope_in s) y) ≡ false)
    → (y : Bytes) → is_taken (tuple_names (tuples ++ (x, fields) ∷ [])) y ≡ false → is_some (typing.entry (scope_in (record s { names = s.names ++ (x, entry.TupleType fields) ∷ [] })) y) ≡ false
free_more s tuples x fields was y h =
    let u = not_taken (tuple_names tuples) x y (ap (λ l. is_taken l y) (sym (map_push (λ (t : Bytes × List (Bytes × BaseType)). t.0) tuples (x, fields))) ∙ h) in
    ap (λ (e : Option typing.Entry). is_some e) (entry_more s x y fields) ∙ (ap (λ (b : Bool). is_some (if b then Some typing.TupleName else typing.entry (scope_in s) y)) u.1 ∙ was y u.0)

-- a visible name is that of a tuple type
pub taken_here : (s : Held) (tuples : TupleTypes) (x : Bytes) → IsScoped (sorts_in s) tuples s → is_some (typing.entry (scope_in s) x) ≡ true → is_taken (tuple_names tuples) x ≡ true
taken_here s tuples x scoped there = go (is_taken (tuple_names tuples) x) (scoped.free x)
  where
    go : (b : Bool) → (b ≡ false → is_some (typing.entry (scope_in s) x) ≡ false) → b ≡ true
    go true h = refl
    go false h = let none = h refl in absurd (cc (none, there))

-- with one more tuple type
pub scope_more : (s t : Held) (tuples more : TupleTypes) (x : Bytes) (fields : List (Bytes × BaseType)) → IsScoped (sorts_in s) tuples s
    → t ≡ record s { names = s.names ++ (x, entry.TupleType fields) ∷ [] } → more ≡ tuples ++ (x, fields) ∷ [] → IsScoped (sorts_in s) more t
scope_more s t tuples more x fields was new is =
    subst (λ (h : Held). IsScoped (sorts_in s) more h) (sym new) (record {
      sorts_are = sorts_stay s (s.names ++ (x, entry.TupleType fields) ∷ []);
      tuples_are = types_more s.names x fields ∙ (ap (λ l. l ++ (x, fields) ∷ []) was.tuples_are ∙ sym is);
      free = λ y h. free_more s tuples x fields was.free y (ap (λ (ts : TupleTypes). is_taken (tuple_names ts) y) (sym is) ∙ h);
    })

pub ruleset scope_laws = (scope_more, taken_here)

-- ---- the setting, and the judgements in it

pub setting_is : (sorts : Sorts) (tuples : TupleTypes) (s : Held) → IsScoped sorts tuples s → setting_in s ≡ setting_of sorts tuples
unfolding setting_in
setting_is sorts tuples s h = ap (λ z. setting_of z (tuple_types s.names)) h.sorts_are ∙ ap (setting_of sorts) h.tuples_are

pub scope_is : (sorts : Sorts) (tuples : TupleTypes) (s : Held) → IsScoped sorts tuples s → (scope_in s).setting ≡ (scope_of (setting_of sorts tuples)).setting
unfolding scope_in
scope_is sorts tuples s h = setting_is sorts tuples s h

pub fields_here : (sorts : Sorts) (tuples : TupleTypes) (s : Held) (fs : List (BaseTree Bytes × Bytes)) (fields : Fields) → IsScoped sorts tuples s
    → fields_written (scope_in s) 16 [] fs ≡ Ok fields → fields_written (scope_of (setting_of sorts tuples)) 16 [] fs ≡ Ok fields
fields_here sorts tuples s fs fields h is = sym (fields_same (scope_in s) (scope_of (setting_of sorts tuples)) 16 [] fs (scope_is sorts tuples s h)) ∙ is

pub kind_here : (sorts : Sorts) (tuples : TupleTypes) (s : Held) (k : KindTree Bytes) (a : Accum) → IsScoped sorts tuples s
    → kind_written (scope_in s) [] k ≡ Ok a → kind_written (scope_of (setting_of sorts tuples)) [] k ≡ Ok a
kind_here sorts tuples s k a h is = kind_same (scope_in s) (scope_of (setting_of sorts tuples)) [] [] (scope_is sorts tuples s h) 8 k a is
