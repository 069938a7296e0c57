use Rattle.std.proofs.Common.{◌∙◌, List, All, subst, sym}
use Rattle.gq_load_check.specs.declared.job.LoadLine.{LoadLine}
use Rattle.gq_load_check.specs.Fits.{LineFits}
use Rattle.gq_load_check.specs.Placed.{defining}
use Rattle.gq_load_check.specs.Targets.{graph_at}
use Rattle.gq_load_check.proofs.FileLemmas.{same_due}
use Rattle.gq_load_check.proofs.FitLemmas.{lines_fit}
use Rattle.gq_load_check.proofs.check.check_job.Goals as goal

pub returns-in-Ok-lines_of-clause-judged : goal.returns-in-Ok-lines_of-clause-judged
returns-in-Ok-lines_of-clause-judged c =
    same_due c.args.catalog.now (graph_at c.args.catalog.now c.args.graph) c.graph_at.result.now c.in-Ok.files c.as_slice.result.now c.as_slice-2.result.now c.args.job.now.lines
    c.graph_at.ensures c.in-Ok.ensures c.as_slice.ensures c.as_slice-2.ensures
    ∙ c.in-Ok-lines_of.ensures.judged

pub returns-in-Err-lines_of-clause-judged : goal.returns-in-Err-lines_of-clause-judged
returns-in-Err-lines_of-clause-judged c = λ other.
    same_due c.args.catalog.now (graph_at c.args.catalog.now c.args.graph) c.graph_at.result.now c.in-Ok.files c.as_slice.result.now c.as_slice-2.result.now c.args.job.now.lines
    c.graph_at.ensures c.in-Ok.ensures c.as_slice.ensures c.as_slice-2.ensures
    ∙ c.in-Err-lines_of.ensures.judged other

pub returns-in-Ok-lines_of-clause-fits : goal.returns-in-Ok-lines_of-clause-fits
returns-in-Ok-lines_of-clause-fits c =
    let P : List LoadLine → Type 0 = λ lines. All (LineFits c.args.catalog.now) lines in
    subst P (sym c.in-Ok-lines_of.ensures.made)
    (lines_fit c.args.catalog.now c.graph_at.result.now (defining c.in-Ok.files) c.as_slice-2.result.now c.in-Ok-lines_of.ensures.judged)
