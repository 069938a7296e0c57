use Rattle.std.proofs.Common.{ap, sym, ◌∙◌}
use Rattle.std.specs.Prelude.{option_and_then}
use Rattle.serde_json.specs.View.{view}
use Rattle.serde_json.specs.Find.{as_number, as_integer}
use Rattle.gq_rules_typing.specs.StatementViews.{view_base}
use Rattle.gq_rules_meaning.specs.Arguments.{of_member}
use Rattle.gq_arguments.proofs.MemberLemmas.{vertex_is, none_of}
use Rattle.gq_arguments.proofs.given.named.Goals as goal

pub returns-in-None-whole_number : goal.returns-in-None-whole_number
returns-in-None-whole_number c =
    c.vertex.ensures (view_base c.args.base.now)
    ∙ ap (of_member (view_base c.args.base.now))
    (vertex_is (view c.args.member.now) (sym c.in-None.ensures) (sym c.in-None-as_bool.ensures)
    (none_of _ (option_and_then as_integer (as_number (view c.args.member.now))) c.in-None-whole_number.ensures))
