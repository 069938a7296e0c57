use Rattle.std.proofs.Common.{◌≡◌, ◌∙◌, ap, sym, length, take, List, ℕ, replicate, false, Bool}
use Rattle.std.specs.List.{range_with_len}
use Rattle.std.proofs.lemmas.List.FromFn.{length-range_with_len}
use Rattle.gq_graph.specs.Catalog.{name_place}
use Rattle.gq_schema.specs.Members.{below, marked_by, is_listed}
use Rattle.gq_schema.proofs.MemberLemmas.{none_listed, marked_on, marks_long}
use Rattle.gq_schema.proofs.members.listed.Goals as goal

pub mark-requires : goal.mark-requires
mark-requires c =
    c.loop-member.marks.ok.0 ∙ ap length c.loop-member.invariant
    ∙ marks_long (is_listed c.args.table.now (take c.loop-member.member-index c.args.members.now)) (length c.args.table.now)

pub loop-member-init : goal.loop-member-init
loop-member-init c =
    let n = length c.args.table.now in
    c.in_ok-marks.ensures.items_if_clones_equal (λ y e. e) ∙ ap (λ k. replicate k false) c.len.ensures
    ∙ sym (none_listed c.args.table.now (below n) ∙ ap (λ k. replicate k false) (length-range_with_len 0 n))

pub loop-member-preserved : goal.loop-member-preserved
loop-member-preserved c =
    marked_on c.args.table.now c.args.members.now c.member-item.result c.loop-member.member-index c.loop-member.marks.items c.mark.new.marks.items
    c.loop-member-test.true c.member-item.is
    (c.mark.ensures ∙ ap (λ m. marked_by c.loop-member.marks.items (name_place c.args.table.now m)) c.as_str.ensures) c.loop-member.invariant
