use Rattle.std.proofs.Common.{◌≡◌, true, set, get_or, sym, ◌∙◌, ap, subst}
use Rattle.gq_core.specs.Machine.{worker_at, is_free, join, Tells}
use Rattle.gq_core.proofs.StepLemmas.{whole, free_within, join_told, put_back}
use Rattle.gq_core.proofs.machine.Core.join.Goals as goal

pub returns-clause-ok : goal.returns-clause-ok
returns-clause-ok c =
    let a = c.self.inside in let w = c.args.w in let x = c.args.x in let ws = a.workers.items in let n = c.replace-other.new.dest in let u = c.replace-other.result in
    let free_w : is_free (worker_at (whole a.next a.stripes.items ws w) w).phase ≡ true =
    subst (λ m. is_free (worker_at m w).phase ≡ true) (sym c.self.view_is) (sym (c.is_free.ensures ∙ ap is_free c.phase.ensures) ∙ c.if-not-is_free.false) in
    let free_x : is_free (worker_at (whole a.next a.stripes.items ws w) x).phase ≡ true =
    subst (λ m. is_free (worker_at m x).phase ≡ true) (sym c.self.view_is) (sym (c.is_free-else-not-is_free.ensures ∙ ap is_free c.phase-else-not-is_free.ensures) ∙ c.if-not-is_free-2.false) in
    let is_u : u ≡ get_or ws x u = c.replace-other.ensures.value ∙ (c.index_mut.ensures.value ∙ ap (λ d. get_or ws x d) (sym c.replace-other.ensures.value)) in
    subst (λ m. Tells (join m w x) _ m (record { next = a.next; stripes = a.stripes.items; workers = set (set ws x n) w c.gather.new.self })) c.self.view_is
    (join_told a.next a.stripes.items ws w x c.index_mut-2.result.now u n c.gather.new.self c.if-w-x.false free_w free_x
    (free_within (whole a.next a.stripes.items ws w) w free_w) (free_within (whole a.next a.stripes.items ws w) x free_x)
    c.index_mut-2.ensures.value is_u (c.replace-other.ensures.after ∙ c.new.ensures) c.in_default.ensures.ok)

pub returns-in-Err-clause-err : goal.returns-in-Err-clause-err
returns-in-Err-clause-err c =
    let a = c.self.inside in
    ap (λ ws. record { next = a.next; stripes = a.stripes.items; workers = ws })
    (put_back a.next a.stripes.items a.workers.items c.args.w c.args.x c.index_mut-2.result.now c.replace-other.new.dest c.gather.new.self c.replace-other.result c.if-w-x.false
    c.index_mut-2.ensures.value c.in-Err.ensures.err
    (c.replace-other.ensures.value ∙ (c.index_mut.ensures.value ∙ ap (λ d. get_or a.workers.items c.args.x d) (sym c.replace-other.ensures.value))))
    ∙ c.self.view_is
