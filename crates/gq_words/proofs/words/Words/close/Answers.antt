use Rattle.std.proofs.Common.{arith, ◌≤◌, sym, subst}
use Rattle.gq_words.specs.Rule.{openings}
use Rattle.gq_words.specs.Seats.{AreFolds}
use Rattle.gq_words.proofs.RuleLemmas.{ends, ends_whole}
use Rattle.gq_words.proofs.words.Words.close.Goals as goal

pub overflow_cast-result : goal.overflow_cast-result
overflow_cast-result c =
    let e = ends _ _ _ _ _ _ _ c.args.self.counted c.word-made.ensures c.close_with-closed.ensures.values.2 in
    let few : c.word-made.result ≤ 1024 = e.2 in omega arith

pub returns-then-from-made-clause-fault : goal.returns-then-from-made-clause-fault
returns-then-from-made-clause-fault c =
    let e = ends _ _ _ _ _ _ _ c.args.self.counted c.word-made.ensures c.close_with-closed.ensures.values.2 in
    record { last = e.0.0; ends = e.0.1; seats = e.0.2; stands_is = sym c.args.seat.stands_is; missing = omega arith; within = e.1 }

pub returns-clause-folds : goal.returns-clause-folds
returns-clause-folds c =
    let e = ends_whole _ _ _ _ _ _ _ c.args.self.counted c.word-made.ensures c.close_with-closed.ensures.values.2 (omega arith) in
    subst (AreFolds (openings c.args.self.table.shared.key) c.args.seat.seat.me.0.feeds) (sym c.in_ok-words.ensures) e.0

pub returns-clause-whole : goal.returns-clause-whole
returns-clause-whole c =
    let e = ends_whole _ _ _ _ _ _ _ c.args.self.counted c.word-made.ensures c.close_with-closed.ensures.values.2 (omega arith) in
    record { last = e.1.0; ends = e.1.1; seats = e.1.2; feeds = e.1.3; all = e.1.4 }
