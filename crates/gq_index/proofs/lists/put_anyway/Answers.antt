use Rattle.std.proofs.Common.{sym, subst}
use Rattle.gq_index.specs.Walks.{AreListed}
use Rattle.gq_index.proofs.lists.put_anyway.Goals as goal

pub returns-in_ok-put_apart-in-Together : goal.returns-in_ok-put_apart-in-Together
returns-in_ok-put_apart-in-Together c =
    rw c.in-Together.is (λ n count walks low are.
    c.in_ok-put_apart-in-Together.ensures n count walks low (subst (λ l. AreListed n count l walks) (sym c.in_ok-apart-in-Together.ensures) are))

pub returns-in-Apart : goal.returns-in-Apart
returns-in-Apart c = rw c.in-Apart.is c.put_apart-in-Apart.ensures
