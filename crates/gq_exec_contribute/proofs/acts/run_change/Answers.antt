use Rattle.std.proofs.Common.{rules}
use Rattle.gq_exec_contribute.specs.Gathered.{shown, gathered_in}
use Rattle.gq_exec_contribute.proofs.ActLemmas.{feed_stops}
use Rattle.gq_exec_contribute.proofs.acts.run_change.Goals as goal

pub returns-in_err-input-in-Some : goal.returns-in_err-input-in-Some
returns-in_err-input-in-Some g c =
    feed_stops (g.V.Sees.look c.args.sight.now) c.args.accums.now (shown c.args.before.items) c.args.to.0 c.args.to.1 c.in-Some.declared.now c.args.change.now c.in-Feed.feed c.in_err-input-in-Some.field-0.0 gathered_in c.from_residual.result
    c.requires c.in-Feed.is (search rules) (search rules) (search rules)
