use Rattle.std.proofs.Common.{◌≡◌, ◌++◌, ◌∷◌, []}
use Rattle.gq_check.proofs.KeyLemmas.{known_more}
use Rattle.gq_check.proofs.keys.PrintKeys.push.Goals as goal

pub invariant_of-self-2 : goal.invariant_of-self-2
invariant_of-self-2 c =
    let given = c.self.inside.given.items in
    let given_are : c.put.new.given.items ≡ given ++ c.args.key ∷ [] = cc (c.put.ensures, c.reserve.ensures.items) in
    rw (given_are) (known_more given c.self.inside.known c.insert.new.self c.args.key c.in-Ok.ensures.updates c.self.invariant)
