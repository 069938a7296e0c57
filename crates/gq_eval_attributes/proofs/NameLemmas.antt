-- NameLemmas: a name is found at the same place among items as among their names.
use Rattle.std.proofs.Common.{◌≡◌, ℕ, suc, ◌+◌, ◌<◌, length, Bool, true, false, cond, List, [], ◌∷◌, map, Option, Some, None, refl, sym, ap, ◌∙◌, arith}
use Rattle.std.specs.List.{position, position_from}
use Rattle.std.specs.Option.{option_map}
use Rattle.std.specs.Str.{bytes_eq}
use Rattle.std.proofs.lemmas.Iterator.Adapters.{position_from-zero}
use Rattle.std.proofs.lemmas.List.Quantifiers.{position-Some}
use Rattle.gq_graph.specs.declared.types.Attribute.{Attribute}
use Rattle.gq_graph.specs.declared.types.VertexType.{VertexType}
use Rattle.gq_rules_typing.specs.Statements.{Bytes}
use Rattle.gq_rules_typing.specs.Sorts.{Fields, names_of, attribute_fields, vertex_sort, id_base}
use Rattle.gq_rules_typing.specs.Words.{place_of}

from_map : {A : Type 0} (f : A → Bytes) (p : Bytes → Bool) (n : ℕ) (xs : List A) → position_from p n (map f xs) ≡ position_from (λ x. p (f x)) n xs
from_map f p n [] = refl
from_map f p n (x ∷ xs) = ap (cond (p (f x)) (Some n)) (from_map f p (n + 1) xs)

pub among_mapped : {A : Type 0} (f : A → Bytes) (p : Bytes → Bool) (xs : List A) → position (λ x. p (f x)) xs ≡ position p (map f xs)
among_mapped f p xs = position_from-zero (λ x. p (f x)) xs ∙ sym (from_map f p 0 xs) ∙ sym (position_from-zero p (map f xs))

attribute_names : (xs : List Attribute) → names_of (attribute_fields xs) ≡ map (λ (a : Attribute). a.name) xs
attribute_names [] = refl
attribute_names (a ∷ xs) = ap (λ ns. a.name ∷ ns) (attribute_names xs)

pub among_attributes : (name : Bytes) (xs : List Attribute) (r : Option ℕ) → r ≡ position (λ (a : Attribute). bytes_eq name a.name) xs → r ≡ place_of (names_of (attribute_fields xs)) name
among_attributes name xs r e = e ∙ among_mapped (λ (a : Attribute). a.name) (bytes_eq name) xs ∙ ap (position (bytes_eq name)) (sym (attribute_names xs))

pub place_low : (name : Bytes) (xs : List Attribute) (n : ℕ) (r : Option ℕ) → r ≡ position (λ (a : Attribute). bytes_eq name a.name) xs → r ≡ Some n → n < length xs
place_low name xs n r at e = low xs (sym at ∙ e)
  where
    low : (xs : List Attribute) → position (λ (a : Attribute). bytes_eq name a.name) xs ≡ Some n → n < length xs
    low [] e = absurd (cc e)
    low (x ∷ xs) e = (position-Some (λ (a : Attribute). bytes_eq name a.name) (x ∷ xs) n x e).0

pub ruleset name_laws = (among_attributes, place_low)

-- ---- a shown id comes first

from_later : {A : Type 0} (p : A → Bool) (n : ℕ) (xs : List A) → position_from p (n + 1) xs ≡ option_map suc (position_from p n xs)
from_later p n [] = refl
from_later p n (x ∷ xs) = go (p x) refl (from_later p (n + 1) xs)
  where
    go : (b : Bool) → p x ≡ b → position_from p (n + 1 + 1) xs ≡ option_map suc (position_from p (n + 1) xs) → position_from p (n + 1) (x ∷ xs) ≡ option_map suc (position_from p n (x ∷ xs))
    go true e rest = ap (λ b. cond b (Some (n + 1)) (position_from p (n + 1 + 1) xs)) e ∙ ap Some (let f : n + 1 ≡ suc n = omega arith in f) ∙ ap (λ b. option_map suc (cond b (Some n) (position_from p (n + 1) xs))) (sym e)
    go false e rest = ap (λ b. cond b (Some (n + 1)) (position_from p (n + 1 + 1) xs)) e ∙ rest ∙ ap (λ b. option_map suc (cond b (Some n) (position_from p (n + 1) xs))) (sym e)

first_place : (p : Bytes → Bool) (x : Bytes) (xs : List Bytes) → p x ≡ true → position p (x ∷ xs) ≡ Some 0
first_place p x xs e = position_from-zero p (x ∷ xs) ∙ ap (λ b. cond b (Some 0) (position_from p 1 xs)) e

later_place : (p : Bytes → Bool) (x : Bytes) (xs : List Bytes) → p x ≡ false → position p (x ∷ xs) ≡ option_map suc (position p xs)
later_place p x xs e = position_from-zero p (x ∷ xs) ∙ ap (λ b. cond b (Some 0) (position_from p 1 xs)) e ∙ from_later p 0 xs ∙ ap (option_map suc) (sym (position_from-zero p xs))

-- the fields of a vertex type, given the flag of its id
fields_shown : (t : VertexType) → t.id.shown ≡ true → names_of (vertex_sort t).fields ≡ t.id.name ∷ names_of (attribute_fields t.attributes)
fields_shown t e = ap (λ b. names_of (shown b)) e
  where
    shown : Bool → Fields
    shown true = (t.id.name, id_base t.id.kind) ∷ attribute_fields t.attributes
    shown false = attribute_fields t.attributes

fields_plain : (t : VertexType) → t.id.shown ≡ false → names_of (vertex_sort t).fields ≡ names_of (attribute_fields t.attributes)
fields_plain t e = ap (λ b. names_of (shown b)) e
  where
    shown : Bool → Fields
    shown true = (t.id.name, id_base t.id.kind) ∷ attribute_fields t.attributes
    shown false = attribute_fields t.attributes

pub hidden_id : (t : VertexType) (name : Bytes) (r : Option ℕ) → t.id.shown ≡ false → r ≡ place_of (names_of (attribute_fields t.attributes)) name → r ≡ place_of (names_of (vertex_sort t).fields) name
hidden_id t name r e f = f ∙ ap (λ ns. place_of ns name) (sym (fields_plain t e))

pub id_named : (t : VertexType) (name : Bytes) → t.id.shown ≡ true → bytes_eq name t.id.name ≡ true → Some 0 ≡ place_of (names_of (vertex_sort t).fields) name
id_named t name e f = sym (ap (λ ns. place_of ns name) (fields_shown t e) ∙ first_place (bytes_eq name) t.id.name (names_of (attribute_fields t.attributes)) f)

pub behind_id : (t : VertexType) (name : Bytes) (n m : ℕ) → t.id.shown ≡ true → bytes_eq name t.id.name ≡ false → Some n ≡ place_of (names_of (attribute_fields t.attributes)) name → m ≡ n + 1 → Some m ≡ place_of (names_of (vertex_sort t).fields) name
behind_id t name n m e f h g = ap Some (let i : m ≡ suc n = omega (arith, g) in i) ∙ ap (option_map suc) h ∙ sym (ap (λ ns. place_of ns name) (fields_shown t e) ∙ later_place (bytes_eq name) t.id.name (names_of (attribute_fields t.attributes)) f)

pub nowhere : (t : VertexType) (name : Bytes) → t.id.shown ≡ true → bytes_eq name t.id.name ≡ false → None ≡ place_of (names_of (attribute_fields t.attributes)) name → None ≡ place_of (names_of (vertex_sort t).fields) name
nowhere t name e f h = ap (option_map suc) h ∙ sym (ap (λ ns. place_of ns name) (fields_shown t e) ∙ later_place (bytes_eq name) t.id.name (names_of (attribute_fields t.attributes)) f)

pub ruleset vertex_laws = (hidden_id, id_named, behind_id, nowhere)
