-- SeesLemmas: what an `EvalContext` returns is what it means.
use Rattle.std.proofs.Common.{◌≡◌, ℕ, ◌+◌, map, Some, None, Result, refl, ap, subst, ◌∙◌, arith}
use Rattle.std.specs.List.{slice_get}
use Rattle.std.specs.Option.{option_map}
use Rattle.gq_value.specs.AccumViews.{base_of}
use Rattle.gq_rules_typing.specs.Sorts.{bases_of}
use Rattle.gq_rules_typing.specs.Words.{Makes, function_from, function_named}
use Rattle.gq_rules_meaning.specs.Calendars.{Calendar}
use Rattle.gq_rules_meaning.specs.Expressions.{setting}
use Rattle.gq_plan_ir.specs.Reference as reference
use Rattle.gq_eval_attributes.specs.declared.tuple_type.TupleType.{TupleType}
use Rattle.gq_eval_attributes.specs.Tuples.{fields_in, tuples_are}
use Rattle.gq_eval_attributes.proofs.TupleLemmas.{tuple_bases}
use Rattle.gq_eval_attributes.proofs.WordLemmas.{makes_from}
use Rattle.gq_eval_context.specs.Viewed.{Viewed}
use Rattle.gq_eval_context.specs.Looks.{world_in}
use Rattle.gq_rules_meaning.specs.States.{read_slot}
use Rattle.gq_plan_ir.specs.Reference.{Reference, Slot}
use Rattle.gq_eval_operand.specs.declared.seen.Seen.{Seen}
use Rattle.gq_eval_operand.specs.declared.halt.Halt.{Halt}
use Rattle.gq_eval_operand.specs.Meant.{meant, Tells}
use Rattle.gq_frame.specs.Slots.{slots_are, ReadsAs}

-- ---- accumulators of a given context

pub reads_now : (clock : Calendar) (v w : Viewed) (n x : ℕ) (r : Result Seen Halt) → w ≡ v → ReadsAs w.accums n x r → Tells meant (read_slot (world_in clock v) (slots_are v.accums) (Slot n) x) r
reads_now clock v w n x r e h = (subst (λ (u : Viewed). ReadsAs u.accums n x r) e h).each (world_in clock v) refl

pub reads_before : (clock : Calendar) (v w : Viewed) (n x : ℕ) (r : Result Seen Halt) → w ≡ v → ReadsAs w.before n x r → Tells meant (read_slot (world_in clock v) (slots_are v.before) (Slot n) x) r
reads_before clock v w n x r e h = (subst (λ (u : Viewed). ReadsAs u.before n x r) e h).each (world_in clock v) refl

-- ---- tuple types

tuple_made : (clock : Calendar) (v : Viewed) (n : ℕ) → function_named (setting (world_in clock v)) (reference.TupleType n) ≡ option_map (λ t. Makes n (bases_of (fields_in t))) (slice_get v.tuples n)
tuple_made clock v n =
    ap (λ m. function_from (world_in clock v).words (reference.TupleType m) 0 (tuples_are v.tuples)) (let e : n ≡ 0 + n = omega arith in e)
    ∙ makes_from (world_in clock v).words refl refl 0 n v.tuples
    ∙ ap (λ m. option_map (λ r. Makes m (bases_of (fields_in r))) (slice_get v.tuples n)) (let e : 0 + n ≡ n = omega arith in e)

pub tuple_there : (clock : Calendar) (v : Viewed) (n : ℕ) (t : TupleType) → slice_get v.tuples n ≡ Some t → function_named (setting (world_in clock v)) (reference.TupleType n) ≡ Some (Makes n (map base_of t.types))
tuple_there clock v n t e = tuple_made clock v n ∙ ap (option_map (λ r. Makes n (bases_of (fields_in r)))) e ∙ ap (λ bs. Some (Makes n bs)) (tuple_bases t)

pub no_tuple : (clock : Calendar) (v : Viewed) (n : ℕ) → slice_get v.tuples n ≡ None → function_named (setting (world_in clock v)) (reference.TupleType n) ≡ None
no_tuple clock v n e = tuple_made clock v n ∙ ap (option_map (λ r. Makes n (bases_of (fields_in r)))) e

pub ruleset sees_laws = (tuple_there, no_tuple)
