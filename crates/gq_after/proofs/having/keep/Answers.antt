use Rattle.std.proofs.Common.{◌≡◌, ◌++◌, [], ◌∷◌, Bool, cond, subst, sym}
use Rattle.std.specs.Prelude.{OnOk}
use Rattle.std.proofs.lemmas.List.{append-nil}
use Rattle.gq_after.proofs.having.keep.Goals as goal

pub returns-then-holds : goal.returns-then-holds
returns-then-holds c = subst (λ (b : Bool). OnOk c.push.result (c.push.new.self ≡ c.args.kept.now ++ cond b (c.args.vertex ∷ []) [])) (sym c.if-holds.true) c.push.ensures.ok

pub returns-else-holds : goal.returns-else-holds
returns-else-holds c = subst (λ (b : Bool). c.args.kept.now ≡ c.args.kept.now ++ cond b (c.args.vertex ∷ []) []) (sym c.if-holds.false) (sym (append-nil c.args.kept.now))
