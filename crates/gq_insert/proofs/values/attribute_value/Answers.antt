use Rattle.std.proofs.Common.{ap, ◌∙◌}
use Rattle.gq_graph.specs.Defaults.{sort_of}
use Rattle.gq_value.specs.Views.{val}
use Rattle.gq_insert.specs.Fits.{is_value}
use Rattle.gq_insert.proofs.FitLemmas.{default_fits}
use Rattle.gq_insert.proofs.values.attribute_value.Goals as goal

pub returns-in-Ok-clause-fits : goal.returns-in-Ok-clause-fits
returns-in-Ok-clause-fits c =
    ap (λ v. is_value (sort_of c.args.attribute.now.kind) (val v)) c.in-Ok.ensures ∙ default_fits c.args.attribute.now c.requires
