use Rattle.std.proofs.Common.{◌≡◌, ◌∙◌, [], ap, get_or, length, arith}
use Rattle.std.proofs.lemmas.List.{get_or_read}
use Rattle.gq_index.specs.Places.{cut_up}
use Rattle.gq_index.specs.Sights.{type_at, no_type, vertex_kinds}
use Rattle.gq_index.proofs.WalkLemmas.{kind_part_below}
use Rattle.gq_exec_source.specs.Hops.{is_kept, kept}
use Rattle.gq_exec_source.specs.Ways.{step_of}
use Rattle.gq_exec_source.proofs.RowLemmas.{type_more, first_all}
use Rattle.gq_exec_source.proofs.walks.walks_of.Goals as goal

pub add_rows-requires : goal.add_rows-requires
add_rows-requires c =
    kind_part_below c.args.rows.now c.args.starts.now c.args.order.now c.part-numbers.result.now (length c.args.types.now) c.unwrap_or-base.result c.requires.placed
    (c.part-numbers.ensures ∙ ap (λ k. get_or (cut_up c.args.starts.now c.args.order.now) k []) c.min.ensures)

pub loop-kind-preserved : goal.loop-kind-preserved
loop-kind-preserved c =
    let b = c.args.beyond.now in let types = c.args.types.now in let e = c.loop-kind.kind in let type = c.index-types-kind.result in
    let is : type ≡ type_at types e = get_or_read types e type c.loop-kind-test.true c.index-types-kind.is no_type in
    type_more (is_kept (vertex_kinds b.vertices.now) b.targets.now b.hops.now) (step_of c.args.step.now) types c.args.rows.now c.args.starts.now c.args.order.now c.part-numbers.result.now c.deref.result.now type e
    c.loop-kind.walks.items c.add_rows.new.walks.items c.requires.placed is (c.deref.ensures.value ∙ c.in_ok-ways.ensures)
    (rw (← c.unwrap_or-base.ensures) (c.part-numbers.ensures ∙ ap (λ k. get_or (cut_up c.args.starts.now c.args.order.now) k []) c.min.ensures))
    c.loop-kind.invariant c.in_ok-add_rows.ensures

pub returns : goal.returns
returns c =
    let all : c.loop-kind.kind ≡ length c.args.types.now = omega arith in
    c.loop-kind.invariant ∙ ap (kept c.args.beyond.now) (first_all (step_of c.args.step.now) c.args.types.now c.args.rows.now c.loop-kind.kind all)
