-- The places of tuple types stay correct when a name is added, and when names are cut.
use Rattle.std.proofs.Common.{ℕ, ◌+◌, ◌-◌, ◌<◌, ◌≤◌, ◌≡◌, Bool, cond, List, [], ◌∷◌, ◌++◌, length, take, drop, Option, Some, None, refl, ap, sym, ◌∙◌, arith}
use Rattle.std.specs.Option.{is_some}
use Rattle.std.proofs.lemmas.List.{length-take-le}
use Rattle.gq_rules_typing.specs.Statements.{Bytes}
use Rattle.gq_scope.specs.declared.entry.Entry.{Entry}
use Rattle.gq_scope.specs.Kept.{noted, tuple_in, is_tuple, tuple_types, tuple_places, IsNumbered}
use Rattle.gq_scope.proofs.TupleLemmas.{places_push, places_cut}

-- a place, if a tuple type is stored there
noted_if : {A : Type 0} (o : Option A) (n : ℕ) → cond (is_some o) (n ∷ []) [] ≡ noted o n []
noted_if None n = refl
noted_if (Some a) n = refl

pub numbered_push : (names : List (Bytes × Entry)) (tuples : List ℕ) (e : Bytes × Entry) (b : Bool) (n : ℕ) → IsNumbered names tuples → n ≡ length names → b ≡ is_tuple e.1
    → length (names ++ e ∷ []) < 4294967296 → IsNumbered (names ++ e ∷ []) (tuples ++ cond b (n ∷ []) [])
numbered_push names tuples e b n kept at is few = record {
  numbered = ap (λ t. t ++ cond b (n ∷ []) []) kept.numbered
      ∙ ap (λ c. tuple_places 0 names ++ cond c (n ∷ []) []) is
      ∙ ap (λ l. tuple_places 0 names ++ l) (noted_if (tuple_in e.1) n)
      ∙ ap (λ m. tuple_places 0 names ++ noted (tuple_in e.1) m []) (at ∙ (let same : length names ≡ 0 + length names = omega arith in same)) ∙ sym (places_push 0 names e);
  few = few;
}

pub numbered_cut : (k kept : ℕ) (names : List (Bytes × Entry)) (tuples : List ℕ) → IsNumbered names tuples → k ≤ length names
    → kept ≡ length tuples - length (tuple_types (drop k names)) → IsNumbered (take k names) (take kept tuples)
numbered_cut k kept names tuples is low count = record {
  numbered = places_cut k kept names tuples is.numbered count;
  few = omega (arith, is.few, length-take-le k names low);
}
