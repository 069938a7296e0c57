use Rattle.std.proofs.Common.{◌<◌, ◌∙◌, length, set, subst, sym}
use Rattle.gq_graph.specs.declared.row_values.Span.{Span}
use Rattle.gq_graph.specs.Spans.{AreApart}
use Rattle.gq_value.specs.declared.value.Value.{Value}
use Rattle.std.specs.Prelude.{List}
use Rattle.gq_graph.proofs.SpanLemmas.{moved_is, written_is, inside_view, apart_moved}
use Rattle.gq_graph.proofs.row_list.Rows.set.Goals as goal

pub returns-then-span-len-clause-ok : goal.returns-then-span-len-clause-ok
returns-then-span-len-clause-ok c =
    let spans = c.self.inside.spans in let values = c.self.inside.values.items in
    let inside : c.args.number < length spans = inside_view spans values c.args.self.now c.args.number c.self.view_is c.requires in
    written_is spans values c.write.new.values.items c.args.row.now c.args.self.now c.args.number c.at-span.result c.self.view_is c.self.invariant inside
    c.at-span.ensures (c.if-span-len.true ∙ c.len.ensures) c.write.ensures

pub invariant_of-self-in-Ok : goal.invariant_of-self-in-Ok
invariant_of-self-in-Ok c =
    let spans = c.self.inside.spans in let values = c.self.inside.values.items in
    let inside : c.args.number < length spans = inside_view spans values c.args.self.now c.args.number c.self.view_is c.requires in
    subst (λ (s : List Span). AreApart s (length c.append.new.values.items)) (sym c.in-Ok.ensures)
    (subst (λ (l : List Value). AreApart (set spans c.args.number c.in_ok-span.span) (length l)) (sym c.in_ok-span.ensures.ok)
    (apart_moved spans values c.args.row.now c.args.number c.in_ok-span.span inside c.self.invariant c.in_ok-span.ensures.start c.in_ok-span.ensures.len))

pub returns-in-Ok-clause-ok : goal.returns-in-Ok-clause-ok
returns-in-Ok-clause-ok c =
    moved_is c.self.inside.spans c.set.new.self c.self.inside.values.items c.append.new.values.items c.args.row.now c.args.self.now c.args.number c.in_ok-span.span c.self.view_is
    c.self.invariant c.in-Ok.ensures c.in_ok-span.ensures.ok c.in_ok-span.ensures.start c.in_ok-span.ensures.len
