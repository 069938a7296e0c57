-- PlaceLemmas: the places of expressions in statements.
use Rattle.std.proofs.Common.{◌≡◌, ◌∙◌, ap, refl}
use Rattle.gq_value.specs.Accums.{Accum}
use Rattle.gq_rules_typing.specs.Statements.{Bytes}
use Rattle.gq_rules_typing.specs.Selecting.{Change, Adds, Puts}
use Rattle.gq_rules_typing.specs.ExpressionTypes.{Names}
use Rattle.gq_rules_typing.specs.Scopes as typing
use Rattle.gq_rules_typing.specs.SetTypes.{here}
use Rattle.gq_rules_typing.specs.StatementTypes.{typing_change}
use Rattle.gq_scope.specs.Held.{Held, sorts_in, setting_in, scope_in, names_in}
use Rattle.gq_check_select.specs.Trees.{change_written}

pub names_here : (h : Held) → h.place ≡ typing.InStatement → names_in h ≡ here (scope_in h)
unfolding names_in scope_in setting_in sorts_in
names_here h is = ap (typing.names_at (scope_in h)) is

pub ruleset here_laws = (names_here)

-- a change in a statement, at the scope's own place
pub change_is : (h : Held) (k : Accum) (change : Change Bytes) → h.place ≡ typing.InStatement → change_written (names_in h) k change ≡ typing_change (scope_in h) k change
change_is h k change is = ap (λ (names : Names Bytes). change_written names k change) (names_here h is) ∙ by change
  where
    by : (change : Change Bytes) → change_written (here (scope_in h)) k change ≡ typing_change (scope_in h) k change
    by (Adds x) = refl
    by (Puts t) = refl

pub ruleset change_laws = (change_is)
