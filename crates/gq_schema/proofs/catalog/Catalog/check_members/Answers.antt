use Rattle.std.proofs.Common.{◌∙◌, ap, sym, Some}
use Rattle.std.specs.Option.{option_map}
use Rattle.gq_schema.specs.declared.fault.SchemaFault.TheVariants as fault
use Rattle.gq_schema.specs.Members as spec
use Rattle.gq_schema.proofs.MemberLemmas.{member_next, member_found}
use Rattle.gq_schema.proofs.catalog.Catalog.check_members.Goals as goal

pub returns-then-not-fits : goal.returns-then-not-fits
returns-then-not-fits c other =
    ap (option_map fault.NoSuchType)
    (member_found c.args.self.now c.args.members.now c.args.marks.now c.loop-member.member-index c.member-item.result c.fits.result
    (spec.misfit c.args.self.now c.args.members.now) c.requires c.loop-member.invariant c.loop-member-test.true c.member-item.is
    (c.fits.ensures ∙ ap (spec.fits_marked c.args.self.now c.args.marks.now) c.as_str-name.ensures) c.if-not-fits.true)
    ∙ ap Some (sym (c.no_such_type.ensures other ∙ ap fault.NoSuchType c.as_str-name.ensures))

pub loop-member-preserved : goal.loop-member-preserved
loop-member-preserved c =
    member_next c.args.self.now c.args.members.now c.args.marks.now c.loop-member.member-index c.member-item.result c.fits.result
    (spec.misfit c.args.self.now c.args.members.now) c.requires c.loop-member.invariant c.loop-member-test.true c.member-item.is
    (c.fits.ensures ∙ ap (spec.fits_marked c.args.self.now c.args.marks.now) c.as_str-name.ensures) c.if-not-fits.false
