use Rattle.std.specs.Arc.{arc_value}
use Rattle.std.proofs.Common.{ap, map}
use Rattle.gq_value.specs.Views.{val}
use Rattle.gq_store.specs.declared.view.Shown.{Shown}
use Rattle.gq_store.proofs.CopyLemmas.{copy_indexed, ran_over}
use Rattle.gq_store.proofs.store_copy.StoreCopy.run.Goals as goal

pub returns-then-has_as_many : goal.returns-then-has_as_many
returns-then-has_as_many g c =
    ran_over c.args.catalog.now c.args.plan.now (map val c.args.arguments.now) c.args.turns g.N.StoreName.base c.self.inside.store c.self.inside.rows c.args.self.now.rows c.run_plan.result
    c.self.invariant.after (ap (λ (s : Shown). s.rows) c.self.view_is) c.run_plan.ensures

pub run_plan-requires-in-Ok-clause-indexed : goal.run_plan-requires-in-Ok-clause-indexed
run_plan-requires-in-Ok-clause-indexed g c κs within =
    copy_indexed g.N.StoreName.base g.N.StoreName.schema (arc_value c.self.inside.catalog) c.self.inside.store c.self.inside.index c.self.inside.sealed c.self.inside.rows c.self.invariant
    c.args.catalog.now c.in-Ok.index c.requires.grown c.in-Ok.ensures

pub returns-in-Ok : goal.returns-in-Ok
returns-in-Ok g c =
    ran_over c.args.catalog.now c.args.plan.now (map val c.args.arguments.now) c.args.turns g.N.StoreName.base c.self.inside.store c.self.inside.rows c.args.self.now.rows c.run_plan-in-Ok.result
    c.self.invariant.after (ap (λ (s : Shown). s.rows) c.self.view_is) c.run_plan-in-Ok.ensures
