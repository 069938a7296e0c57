-- Lemmas for loops over attributes.
use Rattle.std.proofs.Common.{ℕ, suc, ◌+◌, ◌<◌, ◌≡◌, Bool, true, false, not, cond, List, [], ◌∷◌, ◌++◌, length, get_or, take, drop, map, Option, Some, None, refl, ap, sym, ◌∙◌, arith, add-one, drop-cons, is_some}
use Rattle.std.specs.List.{find}
use Rattle.std.specs.Option.{option_map}
use Rattle.gq_graph.specs.declared.types.Attribute.{Attribute}
use Rattle.gq_graph.specs.Defaults.{has_good_default}
use Rattle.gq_graph.specs.Catalog.{stands}
use Rattle.gq_schema.specs.declared.fault.SchemaFault.{SchemaFault}
use Rattle.gq_schema.specs.declared.fault.SchemaFault.TheVariants as fault
use Rattle.gq_schema.specs.Refusals.{bad_default, attribute_names, twice_after}

pub next : (xs : List Attribute) (i : ℕ) (x : Attribute) → i < length xs → x ≡ get_or xs i x → drop i xs ≡ x ∷ drop (i + 1) xs
next xs i x low read = drop-cons xs i x low ∙ ap (λ y. y ∷ drop (suc i) xs) (sym read) ∙ ap (λ n. x ∷ drop n xs) (sym (add-one i))

pub good_next : (xs : List Attribute) (i : ℕ) (x : Attribute) (t : Bool) → bad_default xs ≡ bad_default (drop i xs) → i < length xs → x ≡ get_or xs i x
    → t ≡ has_good_default x → t ≡ true → bad_default xs ≡ bad_default (drop (i + 1) xs)
good_next xs i x t rest low read test good =
    rest ∙ ap bad_default (next xs i x low read)
    ∙ ap (λ b. option_map (λ (a : Attribute). fault.BadDefault a.name) (cond (not b) (Some x) (find (λ a. not (has_good_default a)) (drop (i + 1) xs)))) (sym test ∙ good)

pub good_found : (xs : List Attribute) (i : ℕ) (x : Attribute) (t : Bool) → bad_default xs ≡ bad_default (drop i xs) → i < length xs → x ≡ get_or xs i x
    → t ≡ has_good_default x → t ≡ false → bad_default xs ≡ Some (fault.BadDefault x.name)
good_found xs i x t rest low read test bad =
    rest ∙ ap bad_default (next xs i x low read)
    ∙ ap (λ b. option_map (λ (a : Attribute). fault.BadDefault a.name) (cond (not b) (Some x) (find (λ a. not (has_good_default a)) (drop (i + 1) xs)))) (sym test ∙ bad)

pub names_next : (due : Option (List ℕ)) (table : List (List ℕ)) (xs : List Attribute) (i : ℕ) (x : Attribute)
    → due ≡ twice_after table (attribute_names (drop i xs)) → i < length xs → x ≡ get_or xs i x → stands table x.name ≡ false
    → due ≡ twice_after (table ++ x.name ∷ []) (attribute_names (drop (i + 1) xs))
names_next due table xs i x rest low read new =
    rest ∙ ap (λ l. twice_after table (attribute_names l)) (next xs i x low read)
    ∙ ap (λ b. cond b (Some x.name) (twice_after (table ++ x.name ∷ []) (attribute_names (drop (i + 1) xs)))) new

pub names_found : (due : Option (List ℕ)) (table : List (List ℕ)) (xs : List Attribute) (i : ℕ) (x : Attribute)
    → due ≡ twice_after table (attribute_names (drop i xs)) → i < length xs → x ≡ get_or xs i x → stands table x.name ≡ true → due ≡ Some x.name
names_found due table xs i x rest low read old =
    rest ∙ ap (λ l. twice_after table (attribute_names l)) (next xs i x low read)
    ∙ ap (λ b. cond b (Some x.name) (twice_after (table ++ x.name ∷ []) (attribute_names (drop (i + 1) xs)))) old
