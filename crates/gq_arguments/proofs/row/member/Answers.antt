use Rattle.std.proofs.Common.{bytes_eq, ap, sym, ◌∙◌}
use Rattle.std.specs.Prelude.{option_map}
use Rattle.serde_json.specs.View.{view}
use Rattle.gq_rules_typing.specs.Words.{under}
use Rattle.gq_arguments.specs.Members.{member_of, members_in}
use Rattle.gq_arguments.proofs.MemberLemmas.{found, by_data}
use Rattle.gq_arguments.proofs.row.member.Goals as goal

pub returns-in-Some : goal.returns-in-Some
returns-in-Some c =
    by_data c.get.result
    ∙ ap (option_map member_of) c.get.ensures
    ∙ found c.args.name.now (view c.in-Some.object.now)
    ∙ ap (λ o. under bytes_eq c.args.name.now (members_in (option_map (λ m. view m.now) o))) (sym c.in-Some.is)
