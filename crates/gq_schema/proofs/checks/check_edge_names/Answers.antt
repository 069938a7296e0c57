use Rattle.std.proofs.Common.{◌≡◌, ◌∙◌, ◌++◌, [], ap, sym, subst, Option, List, ℕ, Some, None}
use Rattle.std.specs.Option.{option_map, option_or}
use Rattle.gq_schema.specs.declared.fault.SchemaFault.{SchemaFault}
use Rattle.gq_schema.specs.declared.fault.SchemaFault.TheVariants as fault
use Rattle.gq_schema.specs.Refusals.{Judges, twice, twice_after, attribute_names}
use Rattle.gq_schema.proofs.JudgeLemmas.{judge_fault, judge_first, twice_join}
use Rattle.gq_schema.proofs.checks.check_edge_names.Goals as goal

pub returns-in-Err : goal.returns-in-Err
returns-in-Err c other =
    twice_join c.args.key.now c.args.rest.now
    ∙ ap (λ (o : Option SchemaFault). option_or o (option_map fault.AttributeTwice (twice_after (attribute_names c.args.key.now) (attribute_names c.args.rest.now))))
    (ap (λ (t : List (List ℕ)). option_map fault.AttributeTwice (twice_after t (attribute_names c.args.key.now))) (sym c.new-names.ensures) ∙ c.in-Err.ensures.judged other)

pub returns : goal.returns
returns c =
    let first : twice (attribute_names c.args.key.now) ≡ None =
    ap (λ (t : List (List ℕ)). option_map fault.AttributeTwice (twice_after t (attribute_names c.args.key.now))) (sym c.new-names.ensures) ∙ c.in-Ok.ensures.judged in
    let table : c.check_names.new.table ≡ attribute_names c.args.key.now =
    c.in-Ok.ensures.added ∙ ap (λ (t : List (List ℕ)). t ++ attribute_names c.args.key.now) c.new-names.ensures in
    subst (λ (o : Option SchemaFault). Judges o c.check_names-2.result) (sym (twice_join c.args.key.now c.args.rest.now))
    (judge_first (twice (attribute_names c.args.key.now)) (option_map fault.AttributeTwice (twice_after (attribute_names c.args.key.now) (attribute_names c.args.rest.now)))
    c.check_names-2.result first
    (subst (λ (t : List (List ℕ)). Judges (option_map fault.AttributeTwice (twice_after t (attribute_names c.args.rest.now))) c.check_names-2.result) table c.check_names-2.ensures.judged))
