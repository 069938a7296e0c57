use Rattle.std.proofs.Common.{◌≡◌, [], ◌∷◌, ◌++◌}
use Rattle.gq_plan.proofs.ScopeLemmas.{scope_more}
use Rattle.gq_plan.proofs.tuples.declare.Goals as goal

pub returns-clause-scoped : goal.returns-clause-scoped
returns-clause-scoped c =
    let is : c.push.new.self ≡ c.args.tuples.now ++ (c.args.name.now, c.in_ok-copy.copy) ∷ [] = cc (c.in_ok-push.ensures.ok, c.in_ok-own.ensures, c.in_ok-copy.ensures, c.as_slice.ensures) in
    scope_more c.args.scope.now c.add.new.self c.args.tuples.now c.push.new.self c.args.name.now c.in_ok-copy.copy c.requires c.in_ok-add.ensures is
