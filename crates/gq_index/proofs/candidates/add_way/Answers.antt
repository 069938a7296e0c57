use Rattle.std.proofs.Common.{◌∙◌, ◌++◌, List, [], ◌∷◌, cond, append-nil, ap, sym, subst}
use Rattle.gq_index.specs.declared.walks.Traversal.{Traversal}
use Rattle.gq_index.specs.Runs.{Holds}
use Rattle.gq_index.proofs.candidates.add_way.Goals as goal

pub returns-then-wants : goal.returns-then-wants
returns-then-wants c = λ before h.
    let w : Traversal = c.args.walk in
    let P : List Traversal → Type 0 = λ l. Holds c.push.new.segments.items c.push.new.reached.items l in
    subst P (ap (λ b. before ++ cond b (w ∷ []) []) (sym (sym c.wants.ensures ∙ c.if-wants.true))) (c.in_ok-push.ensures before h)

pub returns : goal.returns
returns c = λ before h.
    let w : Traversal = c.args.walk in
    let P : List Traversal → Type 0 = λ l. Holds c.args.segments.now.items c.args.reached.now.items l in
    subst P (sym (append-nil before) ∙ ap (λ b. before ++ cond b (w ∷ []) []) (sym (sym c.wants.ensures ∙ c.if-wants.false))) h
