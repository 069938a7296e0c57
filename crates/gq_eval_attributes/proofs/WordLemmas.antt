-- WordLemmas: the meaning of functions and tuple types, whatever tuple types a query has.
use Rattle.std.proofs.Common.{◌≡◌, ℕ, zero, suc, ◌+◌, ◌<◌, ◌==◌, Bool, true, false, cond, List, [], ◌∷◌, Option, Some, refl, ap, ◌∙◌, arith}
use Rattle.std.specs.List.{slice_get}
use Rattle.std.specs.Option.{option_map}
use Rattle.std.proofs.lemmas.Bool.Decides.{nat_tests}
use Rattle.gq_rules_typing.specs.Sorts.{bases_of}
use Rattle.gq_rules_typing.specs.Words.{Function, Makes, Abs, ToString, ToDatetime, EpochToDatetime, DatetimeToEpoch, DatetimeDiff, DatetimeAdd, PartOf, Words, function_from}
use Rattle.gq_plan_ir.specs.Reference as reference
use Rattle.gq_plan_ir.specs.Reference.{Reference, Calls}
use Rattle.gq_plan_ir.specs.References as references
use Rattle.gq_eval_operand.specs.Sound.{IsOwn}
use Rattle.gq_eval_attributes.specs.declared.tuple_type.TupleType.{TupleType}
use Rattle.gq_eval_attributes.specs.Tuples.{fields_in, tuples_from}

number_same : (a b : ℕ) → a ≡ b → (a == b) ≡ true
number_same a b e = grind (arith, nat_tests)

number_differs : (a b : ℕ) → a < b → (a == b) ≡ false
number_differs a b h = grind (arith, nat_tests)

-- ---- functions of the language's own

pub own_there : (f : Function) → IsOwn f → references.function (Calls f) ≡ Some f
own_there (Makes n fields) own = absurd own
own_there Abs own = refl
own_there ToString own = refl
own_there ToDatetime own = refl
own_there EpochToDatetime own = refl
own_there DatetimeToEpoch own = refl
own_there DatetimeDiff own = refl
own_there DatetimeAdd own = refl
own_there (PartOf part) own = refl

pub calls_from : (words : Words Reference) → words.same ≡ references.same → words.function ≡ references.function → (f : Function) (n : ℕ) (ts : List TupleType) → function_from words (Calls f) n (tuples_from n ts) ≡ references.function (Calls f)
calls_from words s g f n [] = ap (λ (h : Reference → Option Function). h (Calls f)) g
calls_from words s g f n (t ∷ ts) =
    ap (λ (same : Reference → Reference → Bool). cond (same (reference.TupleType n) (Calls f)) (Some (Makes n (bases_of (fields_in t)))) (function_from words (Calls f) (suc n) (tuples_from (suc n) ts))) s
    ∙ calls_from words s g f (suc n) ts

-- ---- tuple types

pub makes_from : (words : Words Reference) → words.same ≡ references.same → words.function ≡ references.function → (n i : ℕ) (ts : List TupleType)
    → function_from words (reference.TupleType (n + i)) n (tuples_from n ts) ≡ option_map (λ t. Makes (n + i) (bases_of (fields_in t))) (slice_get ts i)
makes_from words s g n i [] = ap (λ (h : Reference → Option Function). h (reference.TupleType (n + i))) g
makes_from words s g n zero (t ∷ ts) =
    ap (λ (same : Reference → Reference → Bool). cond (same (reference.TupleType n) (reference.TupleType (n + 0))) (Some (Makes n (bases_of (fields_in t)))) (function_from words (reference.TupleType (n + 0)) (suc n) (tuples_from (suc n) ts))) s
    ∙ ap (λ b. cond b (Some (Makes n (bases_of (fields_in t)))) (function_from words (reference.TupleType (n + 0)) (suc n) (tuples_from (suc n) ts))) (number_same n (n + 0) (omega arith))
    ∙ ap (λ m. Some (Makes m (bases_of (fields_in t)))) (let e : n ≡ n + 0 = omega arith in e)
makes_from words s g n (suc i) (t ∷ ts) =
    ap (λ (same : Reference → Reference → Bool). cond (same (reference.TupleType n) (reference.TupleType (n + suc i))) (Some (Makes n (bases_of (fields_in t)))) (function_from words (reference.TupleType (n + suc i)) (suc n) (tuples_from (suc n) ts))) s
    ∙ ap (λ b. cond b (Some (Makes n (bases_of (fields_in t)))) (function_from words (reference.TupleType (n + suc i)) (suc n) (tuples_from (suc n) ts))) (number_differs n (n + suc i) (omega arith))
    ∙ ap (λ m. function_from words (reference.TupleType m) (suc n) (tuples_from (suc n) ts)) (let e : n + suc i ≡ suc n + i = omega arith in e)
    ∙ makes_from words s g (suc n) i ts
    ∙ ap (λ m. option_map (λ r. Makes m (bases_of (fields_in r))) (slice_get ts i)) (let e : suc n + i ≡ n + suc i = omega arith in e)
