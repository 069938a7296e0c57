use Rattle.std.proofs.Common.{subst, sym}
use Rattle.gq_rules_meaning.specs.Sets.{seed_of}
use Rattle.gq_plan_ir.specs.PlanView.{view_seed}
use Rattle.gq_exec_vars.specs.Written.{Seeded}
use Rattle.gq_exec_vars.proofs.seeds.gather.Goals as goal

pub returns-in-Type-clause-seeded : goal.returns-in-Type-clause-seeded
returns-in-Type-clause-seeded c = λ world s seen. subst (λ x. Seeded (seed_of world s (view_seed x)) c.args.bits.now c.gather_type.new.bits c.gather_type.result) (sym c.in-Type.is) (c.gather_type.ensures.seeded world s seen)

pub returns-in-Every-clause-seeded : goal.returns-in-Every-clause-seeded
returns-in-Every-clause-seeded c = λ world s seen. subst (λ x. Seeded (seed_of world s (view_seed x)) c.args.bits.now c.gather_every.new.bits c.gather_every.result) (sym c.in-Every.is) (c.gather_every.ensures.seeded world s seen)

pub returns-in-Name-clause-seeded : goal.returns-in-Name-clause-seeded
returns-in-Name-clause-seeded c = λ world s seen. subst (λ x. Seeded (seed_of world s (view_seed x)) c.args.bits.now c.gather_vertex.new.bits c.gather_vertex.result) (sym c.in-Name.is) (c.gather_vertex.ensures.seeded world s seen)

pub returns-in-Global-clause-seeded : goal.returns-in-Global-clause-seeded
returns-in-Global-clause-seeded c = λ world s seen. subst (λ x. Seeded (seed_of world s (view_seed x)) c.args.bits.now c.gather_content.new.bits c.gather_content.result) (sym c.in-Global.is) (c.gather_content.ensures.seeded world s seen)
