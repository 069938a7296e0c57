use Rattle.std.proofs.Common.{refl, sym, ◌∙◌}
use Rattle.gq_frame.proofs.LookupLemmas.{assigned_lives, declared_on_ok}
use Rattle.gq_frame.proofs.live.Live.assign.Goals as goal

pub returns-then-has-clause-names : goal.returns-then-has-clause-names
returns-then-has-clause-names c = assigned_lives c.args.self.now _ c.args.place c.args.thing (sym c.has.ensures ∙ c.if-has.true) c.set.ensures refl refl

pub returns-else-has-clause-names : goal.returns-else-has-clause-names
returns-else-has-clause-names c = declared_on_ok c.declare.result c.args.self.now c.declare.new.self c.args.place c.args.thing (sym c.has.ensures ∙ c.if-has.false) c.declare.ensures.names
