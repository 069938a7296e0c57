-- ScopeLemmas: a scope whose names are bytes, and names that are added in sequence.
use Rattle.std.proofs.Common.{◌≡◌, Result, refl, sym, subst}
use Rattle.std.specs.Str.{bytes_eq}
use Rattle.gq_rules_typing.specs.Statements.{Bytes}
use Rattle.gq_scope.specs.Held.{Held, scope_in, setting_in}
use Rattle.gq_rules_typing.specs.Judging.{Judged}
use Rattle.gq_check_from.specs.Faults.{Judges}
use Rattle.gq_check_from.specs.declared.fault.CheckFault.{CheckFault}
use Rattle.gq_check_from.proofs.GrowLemmas.{grows_none, grows_on}

pub said_is : (h : Held) (x : Bytes) → (scope_in h).setting.words.said x ≡ x
unfolding scope_in setting_in
said_is h x = refl

pub same_is : (h : Held) → (scope_in h).setting.words.same ≡ bytes_eq
unfolding scope_in setting_in
same_is h = refl

pub ruleset scope_laws = (said_is, same_is)

pub setting_is : (h : Held) → (scope_in h).setting ≡ setting_in h
unfolding scope_in
setting_is h = refl

pub paths_are : (h : Held) → (scope_in h).with_paths ≡ h.with_paths
unfolding scope_in
paths_are h = refl

pub ruleset walk_laws = (setting_is, paths_are, grows_none, grows_on)

pub ruleset grow_laws = (grows_none, grows_on)

-- a result of one rule is also that of an equal rule
pub judged_by : {A B : Type 0} (view : B → A) (j i : Judged A) (r : Result B CheckFault) → j ≡ i → Judges view i r → Judges view j r
judged_by view j i r same is = subst (λ k. Judges view k r) (sym same) is
