use Rattle.std.proofs.Common.{refl, sym, ◌∙◌}
use Rattle.gq_value.specs.declared.kind.BaseType.TheVariants as base
use Rattle.gq_exec_vars.proofs.FieldLemmas.{is_vertex_of}
use Rattle.gq_exec_vars.proofs.fields.declared_base.Goals as goal

pub returns-then-is_own : goal.returns-then-is_own
returns-then-is_own c = is_vertex_of c.args.own.now c.args.declared (base.VertexOf c.in-VertexOf.kind) c.in-VertexOf.kind c.in-VertexOf.is refl (sym c.is_own.ensures ∙ c.if-is_own.true)
