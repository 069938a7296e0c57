use Rattle.std.proofs.Common.{sym, ◌∙◌}
use Rattle.gq_index.proofs.RunLemmas.{length_runs}
use Rattle.gq_index.proofs.runs.Runs.len.Goals as goal

pub returns : goal.returns
returns c = c.len.ensures ∙ c.self.inside.reached.ok.0 ∙ sym (length_runs c.self.inside.segments.items c.self.inside.reached.items c.args.self.now c.self.view_is)
