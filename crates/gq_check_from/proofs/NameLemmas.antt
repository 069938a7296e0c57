-- NameLemmas: names in a scope, and types by name.
use Rattle.std.proofs.Common.{◌≡◌, refl}
use Rattle.gq_rules_typing.specs.Statements.{Bytes}
use Rattle.gq_rules_typing.specs.Judging.{UnknownName, or_fault}
use Rattle.gq_rules_typing.specs.Scopes as typing
use Rattle.gq_scope.specs.Held.{Held, setting_in, scope_in}

pub scope_said : (h : Held) (x : Bytes) → (scope_in h).setting.words.said x ≡ x
unfolding scope_in setting_in
scope_said h x = refl

pub vertex_is : (h : Held) (x : Bytes) → typing.vertex_type (scope_in h) x ≡ or_fault (UnknownName x) ((setting_in h).words.vertex_type x)
unfolding scope_in setting_in
vertex_is h x = refl

pub edge_is : (h : Held) (x : Bytes) → typing.edge_type (scope_in h) x ≡ or_fault (UnknownName x) ((setting_in h).words.edge_type x)
unfolding scope_in setting_in
edge_is h x = refl

pub ruleset name_laws = (scope_said, vertex_is, edge_is)
