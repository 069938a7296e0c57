use Rattle.std.proofs.Common.{rules, FitsSigned, ap, ◌∙◌}
use Rattle.std.specs.Int.{w128}
use Rattle.std.proofs.lemmas.Int.{to_z-of_z}
use Rattle.std.specs.Fmt.{signed_decimal}
use Rattle.gq_scope.specs.Held.{sorts_in}
use Rattle.gq_rules_meaning.specs.Arguments.{vertex_in}
use Rattle.gq_arguments.proofs.LookupLemmas.{id_of_number}
use Rattle.gq_arguments.proofs.lookup.numbered_vertex.Goals as goal

pub returns : goal.returns
returns c =
    let fits : FitsSigned w128 c.signed.result = search rules in
    c.vertex_in.ensures
    ∙ ap (vertex_in (sorts_in c.args.types.now) c.args.vertices.now c.args.kind.now)
    (c.format.ensures.text ∙ ap signed_decimal (to_z-of_z w128 c.signed.result fits ∙ c.signed.ensures) ∙ id_of_number c.args.minus c.args.number)
