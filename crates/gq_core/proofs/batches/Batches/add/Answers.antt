use Rattle.std.proofs.Common.{◌≡◌, ℕ, ◌<◌, ◌%◌, length, map, set, sym, ◌∙◌, ap, arith, subst}
use Rattle.std.proofs.lemmas.Option.{slice_get_read}
use Rattle.std.proofs.lemmas.Result.{err_from_is_err_and}
use Rattle.std.proofs.Math.Seq.{map-set_same}
use Rattle.gq_core.specs.Batches.{Gains}
use Rattle.gq_core.proofs.BatchLemmas.{gained}
use Rattle.gq_core.proofs.batches.Batches.add.Goals as goal

pub returns-in_err-push-clause-err : goal.returns-in_err-push-clause-err
returns-in_err-push-clause-err c =
    let vs = c.self.inside.lists.items in let i = c.args.target % c.len.result in let p = err_from_is_err_and c.from_residual.result c.from_residual.ensures.1 in
    let same : map (λ list. list.items) (set vs i c.push.new.self) ≡ map (λ list. list.items) vs =
    map-set_same (λ list. list.items) vs i c.push.new.self c.index_mut.result.now (c.in_err-push.ensures.items ∙ ap (λ list. list.items) c.index_mut.ensures.value) in
    rw p.1 (same ∙ c.self.view_is)

pub returns-clause-ok : goal.returns-clause-ok
returns-clause-ok c =
    let vs = c.self.inside.lists.items in let old = c.index_mut.result.now in
    let some : 0 < length vs = c.self.invariant in
    let many : length vs ≡ c.len.result = sym c.self.inside.lists.ok.0 ∙ sym c.len.ensures in
    let at : c.args.target % c.len.result ≡ c.args.target % length vs = ap (λ (n : ℕ). c.args.target % n) (sym many) in
    subst (λ lists. Gains lists (map (λ list. list.items) (set vs (c.args.target % c.len.result) c.push.new.self)) c.args.target c.args.input) c.self.view_is
    (gained (λ list. list.items) vs (c.args.target % c.len.result) old c.push.new.self c.args.target c.args.input at
    (slice_get_read vs c.len.result (c.args.target % c.len.result) old (sym many) (omega arith) c.index_mut.ensures.value) c.in_ok-push.ensures.items)
