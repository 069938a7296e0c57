use Rattle.std.proofs.Common.{◌≡◌, sym, length, arith}
use Rattle.std.proofs.lemmas.List.{get_or_read}
use Rattle.gq_index.specs.Sights.{type_at, no_type}
use Rattle.gq_exec_source.specs.Ways.{step_of}
use Rattle.gq_exec_source.proofs.EntryLemmas.{entry_more, entry_none, entries_all}
use Rattle.gq_exec_source.proofs.entries.entries_of.Goals as goal
use Rattle.gq_exec_source.proofs.entries.entries_of.Goals.{then-len-eq1+in-Some+in_ok-push-in-Some, else-len-eq1}

pub loop-kind-preserved : goal.loop-kind-preserved
loop-kind-preserved c =
    let types = c.args.types.now in let step = step_of c.args.step.now in let e = c.loop-kind.kind in let type = c.index-types-kind.result in let ways = c.in_ok-ways.ways.items in
    let at : type ≡ type_at types e = get_or_read types e type c.loop-kind-test.true c.index-types-kind.is no_type in
    elim c.if-len-eq1.branch [
      | then-len-eq1+in-Some+in_ok-push-in-Some w ↦
          let one : length ways ≡ 1 = omega (arith, c.len-in-loop-kind.ensures, w.if-len-eq1.true) in
          rw w.entries-is (entry_more step types c.loop-kind.entries.items w.push.new.self.items ways w.index.result.now e w.in-Some.under type c.loop-kind-test.true at c.in_ok-ways.ensures one
          (get_or_read ways 0 w.index.result.now (omega (arith, one)) w.index.ensures w.index.result.now) (sym w.in-Some.ensures) w.in_ok-push-in-Some.ensures.items c.loop-kind.invariant)
      | else-len-eq1 w ↦
          let none : length ways ≡ 0 = omega (arith, c.len.ensures, c.if-len-gt1.false, c.len-in-loop-kind.ensures, w.if-len-eq1.false) in
          rw w.entries-is (entry_none step types c.loop-kind.entries.items ways e c.in_ok-ways.ensures none c.loop-kind.invariant)
    ]

pub returns : goal.returns
returns c =
    let all : c.loop-kind.kind ≡ length c.args.types.now = omega arith in
    entries_all (step_of c.args.step.now) c.args.types.now c.loop-kind.entries.items c.loop-kind.kind all c.loop-kind.invariant
