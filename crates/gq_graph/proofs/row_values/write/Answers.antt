use Rattle.std.proofs.Common.{◌+◌, ◌<◌, ◌≡◌, ◌∙◌, ap, sym, length, get_or, set, drop, arith, length-set, false}
use Rattle.std.proofs.Math.Seq.{paste}
use Rattle.std.proofs.lemmas.List.Edits.{paste_more}
use Rattle.std.proofs.lemmas.Option.{get_or_from_slice_get}
use Rattle.gq_value.specs.declared.value.Value.TheVariants.{Bool}
use Rattle.gq_graph.proofs.SpanLemmas.{same_here, same_behind, pasted_all}
use Rattle.gq_graph.proofs.row_values.write.Goals as goal

pub loop-at-preserved : goal.loop-at-preserved
loop-at-preserved c =
    let x = c.take_out.result in let row = c.args.row.now in let at = c.loop-at.at in let vs = c.args.values.now.items in let start = c.args.start in
    let low : at < length row = omega (arith, c.loop-at-test.true, c.len-at-end.ensures) in
    let within : start + at < length vs = omega (arith, low, c.requires) in
    let here : x ≡ get_or row at x =
    sym (get_or_from_slice_get c.loop-at.row at x x c.take_out.ensures.value) ∙ same_here c.loop-at.row row at x c.loop-at.invariant.rest in
    record {
      done = c.put_at.ensures ∙ ap (λ l. set l (start + at) x) c.loop-at.invariant.done ∙ ap (λ v. set (paste vs start row at) (start + at) v) here
          ∙ paste_more vs start row at x within low;
      rest = ap (drop (at + 1)) c.take_out.ensures.others ∙ same_behind c.loop-at.row row at (Bool false) c.loop-at.invariant.rest;
      long = ap length c.take_out.ensures.others ∙ length-set c.loop-at.row at (Bool false) ∙ c.loop-at.invariant.long;
    }

pub returns : goal.returns
returns c =
    let all : c.loop-at.at ≡ length c.args.row.now = omega (arith, c.loop-at-test.false, c.len-at-end.ensures, c.loop-at.auto.at-end) in
    c.loop-at.invariant.done ∙ pasted_all c.args.values.now.items c.args.row.now c.args.start c.loop-at.at all
