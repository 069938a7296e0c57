-- ScopeLemmas: names in a scope over bytes.
use Rattle.std.proofs.Common.{◌≡◌, Bool, true, false, not, Option, Some, None, Ok, Err, codes, refl}
use Rattle.std.specs.Str.{bytes_eq}
use Rattle.gq_rules_typing.specs.Statements.{Bytes}
use Rattle.gq_rules_typing.specs.Judging.{◌>>=◌}
use Rattle.gq_rules_typing.specs.Words.{edge_quoted, under, methods}
use Rattle.gq_rules_typing.specs.Scopes.{entry, name_at, declared_kind, global_at, before_at}
use Rattle.gq_scope.specs.Held.{Held, scope_in, setting_in, sorts_in, names_in}

pub said_is : (h : Held) (x : Bytes) → (scope_in h).setting.words.said x ≡ x
unfolding scope_in setting_in
said_is h x = refl

pub same_is : (h : Held) (x y : Bytes) → (scope_in h).setting.words.same x y ≡ bytes_eq x y
unfolding scope_in setting_in
same_is h x y = refl

pub ruleset scope_laws = (said_is, same_is)

-- ---- what an expression may name

pub named_is : (h : Held) (x : Bytes) → (names_in h).named x ≡ name_at (scope_in h) h.place x (entry (scope_in h) x)
unfolding names_in
named_is h x = refl

pub global_is : (h : Held) (x : Bytes) → (names_in h).global x ≡ (declared_kind (scope_in h) false x >>= global_at h.place)
unfolding names_in
global_is h x = refl

pub attached_is : (h : Held) (x : Bytes) → (names_in h).attached x ≡ declared_kind (scope_in h) true x
unfolding names_in
attached_is h x = refl

pub before_is : (h : Held) (x : Bytes) → (names_in h).before x ≡ (declared_kind (scope_in h) true x >>= before_at h.place)
unfolding names_in
before_is h x = refl

pub setting_is : (h : Held) → (names_in h).setting ≡ setting_in h
unfolding names_in scope_in
setting_is h = refl

pub ruleset here_laws = (named_is, global_is, attached_is, before_is, setting_is)

-- ---- the setting

pub setting_said : (h : Held) (x : Bytes) → (setting_in h).words.said x ≡ x
unfolding setting_in
setting_said h x = refl

pub setting_sorts : (h : Held) → (setting_in h).sorts ≡ sorts_in h
unfolding setting_in
setting_sorts h = refl

pub setting_type : (h : Held) (x : Bytes) → (setting_in h).words.is_type x ≡ bytes_eq (codes "type") x
unfolding setting_in
setting_type h x = refl

pub edge_words : (h : Held) (e : Bytes) → (setting_in h).words.edge_type e ≡ edge_quoted (setting_in h).sorts e
unfolding setting_in
edge_words h e = refl

pub ruleset setting_laws = (setting_said, setting_sorts, setting_type, edge_words)

pub setting_method : (h : Held) (m : Bytes) → (setting_in h).words.method m ≡ under bytes_eq m methods
unfolding setting_in
setting_method h m = refl

pub ruleset call_laws = (setting_is, setting_said, setting_method, setting_sorts)
