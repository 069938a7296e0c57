-- TupleLemmas: the first tuple type with a name, by its index, and built-in functions.
use Rattle.std.proofs.Common.{◌≡◌, ◌+◌, ◌<◌, ◌≤◌, ℕ, suc, true, false, cond, List, length, get_or, drop, arith, Option, Some, None, refl, sym, ap, ◌∙◌}
use Rattle.std.specs.Option.{option_map}
use Rattle.std.specs.Str.{bytes_eq}
use Rattle.std.proofs.lemmas.List.{drop_all}
use Rattle.gq_value.specs.declared.kind.BaseType.{BaseType}
use Rattle.gq_rules_typing.specs.Statements.{Bytes}
use Rattle.gq_rules_typing.specs.Unit.TheVariants as unit
use Rattle.gq_rules_typing.specs.Builtins.{builtin_is}
use Rattle.gq_rules_typing.specs.declared.words.Builtin.{Builtin}
use Rattle.gq_rules_typing.specs.declared.words.Builtin.TheVariants as builtin
use Rattle.gq_plan_ir.specs.declared.expr.Function.TheVariants as function
use Rattle.gq_plan_expr.specs.Found.{TupleTypes, field_types, tuple_from, own_function, own_if, or_language, function_at, language}
use Rattle.gq_plan_expr.proofs.RowLemmas.{left_at}

pub tuple_passed : (f : Bytes) (ts : TupleTypes) (n : ℕ) (t : Bytes × List (Bytes × BaseType)) → n < length ts → t ≡ get_or ts n t → bytes_eq t.0 f ≡ false
    → tuple_from f n (drop n ts) ≡ tuple_from f (n + 1) (drop (n + 1) ts)
tuple_passed f ts n t low at other =
    ap (tuple_from f n) (left_at ts n t low at) ∙ (let next : suc n ≡ n + 1 = omega arith in
    ap (λ q. cond q (Some (function.Tuple n (field_types t.1))) (tuple_from f (suc n) (drop (n + 1) ts))) other ∙ ap (λ k. tuple_from f k (drop (n + 1) ts)) next)

pub tuple_met : (f : Bytes) (ts : TupleTypes) (n : ℕ) (t : Bytes × List (Bytes × BaseType)) → n < length ts → t ≡ get_or ts n t → bytes_eq t.0 f ≡ true
    → tuple_from f 0 ts ≡ tuple_from f n (drop n ts) → function_at ts f ≡ Some (function.Tuple n (field_types t.1))
tuple_met f ts n t low at same so_far =
    ap (λ o. or_language o f) (so_far ∙ (ap (tuple_from f n) (left_at ts n t low at) ∙ ap (λ q. cond q (Some (function.Tuple n (field_types t.1))) (tuple_from f (suc n) (drop (n + 1) ts))) same))

pub tuple_missing : (f : Bytes) (ts : TupleTypes) (n : ℕ) → length ts ≤ n → tuple_from f 0 ts ≡ tuple_from f n (drop n ts) → function_at ts f ≡ language f
tuple_missing f ts n end so_far = ap (λ o. or_language o f) (so_far ∙ ap (tuple_from f n) (drop_all n ts end))

pub ruleset tuple_laws = (tuple_passed, tuple_met, tuple_missing)

-- ---- built-in functions

builtin_own : (b : Builtin) → own_function (builtin_is b) ≡ Some (function.Own b)
builtin_own builtin.Abs = refl
builtin_own builtin.ToString = refl
builtin_own builtin.ToDatetime = refl
builtin_own builtin.EpochToDatetime = refl
builtin_own builtin.DatetimeToEpoch = refl
builtin_own builtin.DatetimeDiff = refl
builtin_own builtin.DatetimeAdd = refl
builtin_own (builtin.Part unit.Year) = refl
builtin_own (builtin.Part unit.Month) = refl
builtin_own (builtin.Part unit.Day) = refl
builtin_own (builtin.Part unit.Hour) = refl
builtin_own (builtin.Part unit.Minute) = refl
builtin_own (builtin.Part unit.Second) = refl

pub own_named : (o : Option Builtin) → option_map function.Own o ≡ own_if (option_map builtin_is o)
own_named None = refl
own_named (Some b) = sym (builtin_own b)
