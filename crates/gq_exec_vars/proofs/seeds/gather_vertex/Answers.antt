use Rattle.std.proofs.Common.{ap, ◌∙◌}
use Rattle.gq_value.specs.AccumViews.{base_of}
use Rattle.gq_frame.specs.Names.{thing_in}
use Rattle.gq_exec_vars.specs.Lookups.{variable_in, vertex_in}
use Rattle.gq_exec_vars.proofs.SeedLemmas.{no_vertex, vertex_seeded}
use Rattle.gq_exec_vars.proofs.seeds.gather_vertex.Goals as goal

pub returns-in_ok-put-in-Some-clause-seeded : goal.returns-in_ok-put-in-Some-clause-seeded
returns-in_ok-put-in-Some-clause-seeded c =
    vertex_seeded c.args.at.now c.args.place (base_of c.in-Some.base.now) c.in-Some.vertex c.args.bits.now (record { types = c.put_base.new.words; vertices = c.put.new.words })
    (c.in-Some.ensures ∙ ap (λ things. vertex_in (variable_in (thing_in things c.args.place))) c.as_slice.ensures) c.in_ok-put_base-in-Some.ensures c.in_ok-put-in-Some.ensures

pub returns-in-None-clause-seeded : goal.returns-in-None-clause-seeded
returns-in-None-clause-seeded c =
    no_vertex c.args.at.now c.args.place c.args.bits.now c.args.bits.now (c.in-None.ensures ∙ ap (λ things. vertex_in (variable_in (thing_in things c.args.place))) c.as_slice.ensures)
