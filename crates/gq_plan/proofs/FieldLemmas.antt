-- FieldLemmas: fields in order, and their names.
use Rattle.std.proofs.Common.{◌≡◌, ◌+◌, ◌<◌, ◌≤◌, ℕ, Bool, true, false, List, [], ◌∷◌, ◌++◌, length, get_or, drop, map, Ok, Err, arith, refl, sym, ap, subst}
use Rattle.std.specs.Prelude.{not, nat_lt}
use Rattle.std.proofs.lemmas.Bool.{ltb-true}
use Rattle.std.proofs.lemmas.List.{map_push, length-map}
use Rattle.gq_tree.specs.declared.query.BaseTree as tree
use Rattle.gq_value.specs.declared.kind.BaseType.{BaseType}
use Rattle.gq_value.specs.AccumViews.{base_of}
use Rattle.gq_rules_typing.specs.Statements.{Bytes}
use Rattle.gq_rules_typing.specs.StatementViews.{view_base, view_fields}
use Rattle.gq_rules_typing.specs.Sorts.{Fields}
use Rattle.gq_rules_typing.specs.Judging.{Judged, NameTwice, TooMany, unless, ◌>>◌}
use Rattle.gq_rules_typing.specs.Scopes.{Scope, base_written}
use Rattle.gq_rules_typing.specs.KindTypes.{stands_in, own_name, fields_written}
use Rattle.gq_rules_meaning.proofs.AnswerLaws.{then_ok}
use Rattle.gq_scope.specs.Held.{fields_of}
use Rattle.gq_type.proofs.ArgumentLemmas.{after}
use Rattle.gq_plan.specs.Unplanned.{Fails}
use Rattle.gq_plan.proofs.PlaceLemmas.{left_at}
use Rattle.gq_plan.proofs.FailLemmas.{failed}

pub fields_more : (fs : List (Bytes × BaseType)) (name : Bytes) (b : BaseType) → fields_of (fs ++ (name, b) ∷ []) ≡ fields_of fs ++ (name, base_of b) ∷ []
fields_more fs name b = map_push (λ (f : Bytes × BaseType). (f.0, base_of f.1)) fs (name, b)

pub names_more : (fs : List (Bytes × BaseType)) (name : Bytes) (b : BaseType) → map (λ (f : Bytes × BaseType). f.0) (fs ++ (name, b) ∷ []) ≡ map (λ (f : Bytes × BaseType). f.0) fs ++ name ∷ []
names_more fs name b = map_push (λ (f : Bytes × BaseType). f.0) fs (name, b)

pub ruleset field_laws = (fields_more, names_more)

-- ---- names that a type can't have

pub name_twice : (names : List Bytes) (x : Bytes) → stands_in names x ≡ true → Fails (own_name 16 names x)
name_twice names x there =
    failed (own_name 16 names x) (NameTwice x) (ap (λ (b : Bool). unless (NameTwice x) (not b) >> unless TooMany (nat_lt (length names) 16) >> Ok (names ++ x ∷ [])) there)

pub too_many : (fields : List (Bytes × BaseType)) (x : Bytes) → 16 ≤ length fields → Fails (own_name 16 (map (λ (f : Bytes × BaseType). f.0) fields) x)
too_many fields x many = record { none = λ a h. go a (stands_in names x) (nat_lt (length names) 16) high h }
  where
    names : List Bytes
    names = map (λ (f : Bytes × BaseType). f.0) fields

    less : (a b : ℕ) → a ≡ b → 16 ≤ b → a < 16 → ⊥
    less a b e m l = omega (arith, e, m, l)

    high : nat_lt (length names) 16 ≡ true → ⊥
    high h = less (length names) (length fields) (length-map fields (λ (f : Bytes × BaseType). f.0)) many (ltb-true (length names) 16 h)

    go : (a : List Bytes) (b c : Bool) → (c ≡ true → ⊥) → (unless (NameTwice x) (not b) >> unless TooMany c >> Ok (names ++ x ∷ [])) ≡ Ok a → ⊥
    go a true c never h = cc h
    go a false true never h = never refl
    go a false false never h = cc h

pub ruleset name_laws = (name_twice, too_many)

-- ---- fields that aren't written

-- if the rest fails, so does it after the earlier fields
after_fails : {A : Type 0} (done : List A) (j : Judged (List A)) → Fails j → Fails (after done j)
after_fails done (Ok rest) never = absurd (never.none rest refl)
after_fails done (Err e) never = failed (after done (Err e)) e refl

-- if the rest fails, so do all
module _ (s : Scope Bytes) (names : List Bytes) (trees : List (tree.BaseTree × Bytes)) (k : ℕ) (t : tree.BaseTree × Bytes) (done : Fields) (low : k < length trees) (is : t ≡ get_or trees k t)
    (so_far : fields_written s 16 [] (view_fields trees) ≡ after done (fields_written s 16 names (view_fields (drop k trees)))) where
  rest_fails : Fails (fields_written s 16 names (view_fields (t ∷ drop (k + 1) trees))) → Fails (fields_written s 16 [] (view_fields trees))
  rest_fails never =
      subst (λ j. Fails j) (sym so_far) (after_fails done (fields_written s 16 names (view_fields (drop k trees)))
      (subst (λ l. Fails (fields_written s 16 names (view_fields l))) (sym (left_at trees k t low is)) never))

  pub base_fails : Fails (base_written s (view_base t.0)) → Fails (fields_written s 16 [] (view_fields trees))
  base_fails never = rest_fails (record { none = λ fields h. let u = then_ok (base_written s (view_base t.0)) _ fields h in never.none u.0 u.1 })

  pub name_fails : Fails (own_name 16 names t.1) → Fails (fields_written s 16 [] (view_fields trees))
  name_fails never = rest_fails (record {
    none = λ fields h.
        let u = then_ok (base_written s (view_base t.0)) _ fields h in
        let v = then_ok (own_name 16 names t.1) _ fields u.2 in
        never.none v.0 v.1;
  })

pub ruleset fail_laws = (base_fails, name_fails)
