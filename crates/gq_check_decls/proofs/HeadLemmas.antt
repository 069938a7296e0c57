-- HeadLemmas: adding a tuple type, counting accumulators, and the place of an expression.
use Rattle.std.proofs.Common.{◌≡◌, ◌∙◌, Bool, List, [], ◌∷◌, ◌++◌, map, reverse, refl, ap, sym, subst, Option, Result}
use Rattle.std.proofs.lemmas.List.{reverse-append, map_push}
use Rattle.std.proofs.lemmas.List.Elements.{filter_map-append}
use Rattle.gq_value.specs.declared.kind.BaseType.{BaseType}
use Rattle.gq_rules_typing.specs.Statements.{Bytes, KindTree, Accums}
use Rattle.gq_rules_typing.specs.Judging.{Judged, ◌>>=◌, through_judged}
use Rattle.gq_rules_typing.specs.KindTypes.{kind_written}
use Rattle.gq_rules_typing.specs.Sorts.{Fields}
use Rattle.gq_rules_typing.specs.Words.{by_name}
use Rattle.gq_rules_typing.specs.Scopes as typing
use Rattle.gq_rules_typing.specs.QueryTypes.{with_tuple}
use Rattle.gq_rules_typing.specs.QueryTypes as heads
use Rattle.gq_tree.specs.Tree.{Tree}
use Rattle.gq_scope.specs.declared.entry.Entry.{Entry}
use Rattle.gq_scope.specs.declared.entry.Entry.TheVariants.{TupleType}
use Rattle.gq_scope.specs.Kept.{named_tuple, tuple_types}
use Rattle.gq_scope.specs.Held.{Held, entry_of, fields_of, sorts_in, setting_in, scope_in, names_in}
use Rattle.gq_check_from.specs.declared.fault.CheckFault.{CheckFault}
use Rattle.gq_check_from.specs.Faults.{Judges}
use Rattle.gq_check_from.proofs.GrowLemmas.{gained}
use Rattle.gq_check_decls.specs.Heads.{first_name, accums}

-- ---- tuple types

tuples_more : (names : List (Bytes × Entry)) (x : Bytes) (fields : List (Bytes × BaseType)) → tuple_types (names ++ (x, TupleType fields) ∷ []) ≡ tuple_types names ++ (x, fields) ∷ []
tuples_more names x fields = filter_map-append named_tuple names ((x, TupleType fields) ∷ [])

-- the scope of these tuple types and names, which are in reverse order
scope_of : Held → List (Bytes × Fields) → List (Bytes × Entry) → typing.Scope Bytes
scope_of h tuples names = record {
  setting = record { words = by_name (sorts_in h); sorts = sorts_in h; tuples = tuples };
  names = map (λ e. (e.0, entry_of e.1)) names;
  with_paths = h.with_paths;
}

typed : List (Bytes × List (Bytes × BaseType)) → List (Bytes × Fields)
typed ts = map (λ t. (t.0, fields_of t.1)) ts

pub tuple_added : (h : Held) (x : Bytes) (fields : List (Bytes × BaseType)) → scope_in (gained h x (TupleType fields)) ≡ with_tuple x (fields_of fields) (scope_in h)
unfolding scope_in setting_in sorts_in scope_of typed
tuple_added h x fields =
    ap (λ ts. scope_of h ts (reverse (h.names ++ (x, TupleType fields) ∷ [])))
    (ap typed (tuples_more h.names x fields) ∙ map_push (λ (t : Bytes × List (Bytes × BaseType)). (t.0, fields_of t.1)) (tuple_types h.names) (x, fields))
    ∙ ap (scope_of h (typed (tuple_types h.names) ++ (x, fields_of fields) ∷ [])) (reverse-append h.names ((x, TupleType fields) ∷ []))

pub ruleset tuple_laws = (tuple_added)

-- ---- the name in a bad kind

pub first_is : (h : Held) (trees : List (Bool × Bytes × Option (Tree Bytes))) → heads.first_name (scope_in h) trees ≡ first_name trees
unfolding scope_in setting_in
first_is h [] = refl
first_is h (a ∷ rest) = refl

pub accums_are : (h : Held) (k : KindTree Bytes) (trees : List (Bool × Bytes × Option (Tree Bytes))) → heads.typing_definition kind_written (scope_in h) (Accums k trees) ≡ accums (scope_in h) k trees
accums_are h k trees = ap (λ n. kind_written (scope_in h) n k >>= λ kind. through_judged (heads.typing_accum kind) (scope_in h) trees) (first_is h trees)

-- a result of one rule is also that of an equal rule
pub judged_by : {A B : Type 0} (view : B → A) (i j : Judged A) (r : Result B CheckFault) → j ≡ i → Judges view i r → Judges view j r
judged_by view i j r e is = subst (λ k. Judges view k r) (sym e) is

-- ---- the place of an expression

abbrev pub put_at : Held → typing.Place Bytes → Held
put_at h place = record h { place = place }

pub scope_put : (h : Held) (place : typing.Place Bytes) → scope_in (put_at h place) ≡ scope_in h
unfolding scope_in setting_in sorts_in
scope_put h place = refl

pub names_put : (h : Held) (place : typing.Place Bytes) → names_in (put_at h place) ≡ typing.names_at (scope_in h) place
unfolding names_in scope_in setting_in sorts_in
names_put h place = refl

pub put_back : (h : Held) (place back : typing.Place Bytes) → h.place ≡ back → put_at (put_at h place) back ≡ h
put_back h place back is = ap (put_at h) (sym is)

pub ruleset place_laws = (scope_put, names_put, put_back)
