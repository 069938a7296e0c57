use Rattle.std.proofs.Common.{ap, ◌∙◌}
use Rattle.gq_value.specs.AccumViews.{accum_of}
use Rattle.gq_value.specs.Views.{val}
use Rattle.gq_value.specs.ViewLaws.{val-Fraction}
use Rattle.gq_eval_operand.proofs.ContentLemmas.{average_read, average_int, average_uint, average_truth, average_text, average_vertex, average_tuple}
use Rattle.gq_eval_operand.proofs.contents.averaged.Goals as goal

pub returns-clause-read : goal.returns-clause-read
returns-clause-read c = average_read (accum_of c.args.kind.now) c.args.content.now (val c.value.result) c.in-Fraction.average.sum c.in-Fraction.average.count c.requires.sound c.requires.average c.value.ensures (ap val c.in-Fraction.is ∙ val-Fraction c.in-Fraction.average)

pub unreachable-requires : goal.unreachable-requires
unreachable-requires c = average_int (accum_of c.args.kind.now) c.args.content.now c.value.result c.requires.sound c.requires.average c.value.ensures _ c.in-Int.is

pub unreachable-requires-in-UInt : goal.unreachable-requires-in-UInt
unreachable-requires-in-UInt c = average_uint (accum_of c.args.kind.now) c.args.content.now c.value.result c.requires.sound c.requires.average c.value.ensures _ c.in-UInt.is

pub unreachable-requires-in-Bool : goal.unreachable-requires-in-Bool
unreachable-requires-in-Bool c = average_truth (accum_of c.args.kind.now) c.args.content.now c.value.result c.requires.sound c.requires.average c.value.ensures _ c.in-Bool.is

pub unreachable-requires-in-Text : goal.unreachable-requires-in-Text
unreachable-requires-in-Text c = average_text (accum_of c.args.kind.now) c.args.content.now c.value.result c.requires.sound c.requires.average c.value.ensures _ c.in-Text.is

pub unreachable-requires-in-Vertex : goal.unreachable-requires-in-Vertex
unreachable-requires-in-Vertex c = average_vertex (accum_of c.args.kind.now) c.args.content.now c.value.result c.requires.sound c.requires.average c.value.ensures _ c.in-Vertex.is

pub unreachable-requires-in-Tuple : goal.unreachable-requires-in-Tuple
unreachable-requires-in-Tuple c = average_tuple (accum_of c.args.kind.now) c.args.content.now c.value.result c.requires.sound c.requires.average c.value.ensures _ c.in-Tuple.is
