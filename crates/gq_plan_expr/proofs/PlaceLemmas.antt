-- PlaceLemmas: the index of a name in a list of names.
use Rattle.std.proofs.Common.{◌≡◌, ◌+◌, ℕ, suc, Bool, true, false, cond, List, [], ◌∷◌, arith, Some, refl, sym, ap, ◌∙◌}
use Rattle.std.specs.Option.{option_map}
use Rattle.std.specs.Str.{bytes_eq}
use Rattle.std.specs.List.{position_from}
use Rattle.std.proofs.lemmas.Iterator.Adapters.{position_from-zero}
use Rattle.gq_graph.specs.declared.types.IdShape.{IdShape}
use Rattle.gq_rules_typing.specs.Statements.{Bytes}
use Rattle.gq_rules_typing.specs.Sorts.{Fields, names_of, with_id}
use Rattle.gq_rules_typing.specs.Words.{place_of}

pub place_from : (names : List Bytes) (name : Bytes) → place_of names name ≡ position_from (bytes_eq name) 0 names
place_from names name = position_from-zero (bytes_eq name) names

pub ruleset place_laws = (place_from)

-- ---- after a first name

later : (name : Bytes) (i : ℕ) (names : List Bytes) → position_from (bytes_eq name) (suc i) names ≡ option_map suc (position_from (bytes_eq name) i names)
later name i [] = refl
later name i (x ∷ xs) = go (bytes_eq name x) (let e : suc i + 1 ≡ suc (i + 1) = omega arith in ap (λ k. position_from (bytes_eq name) k xs) e ∙ later name (i + 1) xs)
  where
    go : (q : Bool) → position_from (bytes_eq name) (suc i + 1) xs ≡ option_map suc (position_from (bytes_eq name) (i + 1) xs)
        → cond q (Some (suc i)) (position_from (bytes_eq name) (suc i + 1) xs) ≡ option_map suc (cond q (Some i) (position_from (bytes_eq name) (i + 1) xs))
    go true e = refl
    go false e = e

behind_first : (x : Bytes) (names : List Bytes) (name : Bytes) → place_of (x ∷ names) name ≡ cond (bytes_eq name x) (Some 0) (option_map suc (place_of names name))
behind_first x names name =
    place_from (x ∷ names) name ∙ (let e : 0 + 1 ≡ suc 0 = omega arith in
    ap (λ o. cond (bytes_eq name x) (Some 0) o) (ap (λ k. position_from (bytes_eq name) k names) e ∙ (later name 0 names ∙ ap (option_map suc) (sym (place_from names name)))))

pub id_first : (shape : IdShape) (fields : Fields) (name : Bytes) → shape.shown ≡ true → bytes_eq name shape.name ≡ true → place_of (names_of (with_id shape fields)) name ≡ Some 0
id_first shape fields name shown is = go shape.shown shown
  where
    go : (b : Bool) → b ≡ true → place_of (names_of (with_id (record shape { shown = b }) fields)) name ≡ Some 0
    go true e = behind_first shape.name (names_of fields) name ∙ ap (λ q. cond q (Some 0) (option_map suc (place_of (names_of fields) name))) is
    go false e = cc

pub id_passed : (shape : IdShape) (fields : Fields) (name : Bytes) → shape.shown ≡ true → bytes_eq name shape.name ≡ false
    → place_of (names_of (with_id shape fields)) name ≡ option_map suc (place_of (names_of fields) name)
id_passed shape fields name shown is = go shape.shown shown
  where
    go : (b : Bool) → b ≡ true → place_of (names_of (with_id (record shape { shown = b }) fields)) name ≡ option_map suc (place_of (names_of fields) name)
    go true e = behind_first shape.name (names_of fields) name ∙ ap (λ q. cond q (Some 0) (option_map suc (place_of (names_of fields) name))) is
    go false e = cc

pub id_hidden : (shape : IdShape) (fields : Fields) (name : Bytes) → shape.shown ≡ false → place_of (names_of (with_id shape fields)) name ≡ place_of (names_of fields) name
id_hidden shape fields name hidden = go shape.shown hidden
  where
    go : (b : Bool) → b ≡ false → place_of (names_of (with_id (record shape { shown = b }) fields)) name ≡ place_of (names_of fields) name
    go true e = cc
    go false e = refl

pub ruleset id_laws = (id_first, id_passed, id_hidden)
