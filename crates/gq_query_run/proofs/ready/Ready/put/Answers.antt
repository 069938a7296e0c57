use Rattle.std.proofs.Common.{List, Option, Some, None, length, refl, ap, sym, ◌∙◌, arith}
use Rattle.std.proofs.lemmas.List.{length_push}
use Rattle.gq_query_run.specs.Ready.{ready_at}
use Rattle.gq_query_run.proofs.ReadyLemmas.{any_err, pushed_nowhere, pushed_others, pushed_there, ready_elsewhere, ready_longer, ready_set}
use Rattle.gq_query_run.proofs.ready.Ready.put.Goals as goal

pub loop-init : goal.loop-init
loop-init g c = (c.len-counter.ensures, λ k. refl)

pub returns-in_err-push-clause-stays : goal.returns-in_err-push-clause-stays
returns-in_err-push-clause-stays g c =
    any_err c.from_residual.result (ap (λ (l : List (Option g.row.P.Denot)). ready_at l c.args.place) c.in_err-push.ensures.err ∙ c.loop.invariant.1 c.args.place)

pub returns-in_err-push-clause-others : goal.returns-in_err-push-clause-others
returns-in_err-push-clause-others g c k other = ap (λ (l : List (Option g.row.P.Denot)). ready_at l k) c.in_err-push.ensures.err ∙ c.loop.invariant.1 k

pub loop-preserved : goal.loop-preserved
loop-preserved g c = (
  omega (arith, c.loop.invariant.0, ap length c.in_ok-push.ensures.ok, length_push c.loop.self.plans None),
  λ k. ap (λ (l : List (Option g.row.P.Denot)). ready_at l k) c.in_ok-push.ensures.ok ∙ ready_longer c.loop.self.plans k ∙ c.loop.invariant.1 k,
)

pub returns-then-len-place-clause-there : goal.returns-then-len-place-clause-there
returns-then-len-place-clause-there g c =
    pushed_there c.loop.self.plans c.push-then-len-place.new.self (Some c.args.plan) c.args.place c.push-then-len-place.result (sym c.len.ensures ∙ c.if-len-place.true) c.push-then-len-place.ensures.ok

pub returns-then-len-place-clause-stays : goal.returns-then-len-place-clause-stays
returns-then-len-place-clause-stays g c =
    pushed_nowhere c.args.self.now.plans c.loop.self.plans c.push-then-len-place.new.self c.args.place c.push-then-len-place.result c.loop.invariant.1 c.push-then-len-place.ensures.err

pub returns-then-len-place-clause-others : goal.returns-then-len-place-clause-others
returns-then-len-place-clause-others g c =
    pushed_others c.args.self.now.plans c.loop.self.plans c.push-then-len-place.new.self (Some c.args.plan) c.args.place c.push-then-len-place.result (sym c.len.ensures ∙ c.if-len-place.true) c.loop.invariant.1
    c.push-then-len-place.ensures.ok c.push-then-len-place.ensures.err

pub set-requires : goal.set-requires
set-requires g c = omega (arith, c.loop-test.false, c.loop.invariant.0, c.len.ensures, c.if-len-place.false)

pub returns-clause-there : goal.returns-clause-there
returns-clause-there g c = ap (λ (l : List (Option g.row.P.Denot)). ready_at l c.args.place) c.set.ensures
    ∙ ready_set c.loop.self.plans c.args.place (Some c.args.plan) (omega (arith, c.loop-test.false, c.loop.invariant.0, c.len.ensures, c.if-len-place.false))

pub returns-clause-others : goal.returns-clause-others
returns-clause-others g c k other = ap (λ (l : List (Option g.row.P.Denot)). ready_at l k) c.set.ensures ∙ ready_elsewhere c.loop.self.plans c.args.place (Some c.args.plan) k other ∙ c.loop.invariant.1 k
