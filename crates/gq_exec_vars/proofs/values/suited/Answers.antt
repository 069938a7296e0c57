use Rattle.std.proofs.Common.{false, sym, ◌∙◌}
use Rattle.gq_value.specs.AccumViews.{accum_of}
use Rattle.gq_value.specs.Views.{val}
use Rattle.gq_value.specs.ViewLaws.{val-Bool}
use Rattle.gq_value.specs.declared.value.Value.TheVariants as value
use Rattle.gq_exec_vars.proofs.ValueLemmas.{false_set, false_taken}
use Rattle.gq_exec_vars.proofs.values.suited.Goals as goal

pub returns-else-takes-clause-same : goal.returns-else-takes-clause-same
returns-else-takes-clause-same c = false_set (accum_of c.args.kind.now) (val c.args.value) (val (value.Bool false)) c.requires (sym c.takes.ensures ∙ c.if-takes.false) (val-Bool false)

pub returns-else-takes-clause-suits : goal.returns-else-takes-clause-suits
returns-else-takes-clause-suits c = false_taken (accum_of c.args.kind.now) (val c.args.value) (val (value.Bool false)) c.requires (sym c.takes.ensures ∙ c.if-takes.false) (val-Bool false)
