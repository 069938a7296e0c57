-- PlaceLemmas: a scope at its place.
use Rattle.std.proofs.Common.{◌≡◌, refl, sym, ap}
use Rattle.gq_rules_typing.specs.Statements.{Bytes}
use Rattle.gq_rules_typing.specs.Scopes.{Place, names_at}
use Rattle.gq_scope.specs.Held.{Held, scope_in, setting_in, sorts_in, names_in}

pub names_here : (h : Held) → names_in h ≡ names_at (scope_in h) h.place
unfolding names_in
names_here h = refl

-- the scope of the rules doesn't depend on the place
pub place_free : (h : Held) (p : Place Bytes) → scope_in (record h { place = p }) ≡ scope_in h
unfolding scope_in setting_in sorts_in
place_free h p = refl

-- what may be named after the place of a scope is set
pub names_put : (old new : Held) (p : Place Bytes) → new ≡ record old { place = p } → names_at (scope_in old) p ≡ names_in new
unfolding names_in scope_in setting_in sorts_in
names_put old new p is = ap names_in (sym is)

pub ruleset place_laws = (names_here, place_free)

pub scope_sorts : (h : Held) → (scope_in h).setting.sorts ≡ sorts_in h
unfolding scope_in setting_in
scope_sorts h = refl

pub ruleset sort_laws = (scope_sorts)
