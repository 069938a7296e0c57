-- Faults: the meaning of the checker's faults, when a result is that of a rule, and which names a scope gains.
use Rattle.std.specs.Prelude.{◌≡◌, ◌≢◌, ◌≤◌, length, take, Result, Ok, Err}
use Rattle.gq_rules_typing.specs.Judging as judging
use Rattle.gq_scope.specs.Views.{fault_is}
use Rattle.gq_scope.specs.declared.fault.TypeFault.{TypeFault}
use Rattle.gq_scope.specs.declared.fault.TypeFault.TheVariants as typing
use Rattle.gq_scope.specs.Held.{Held}
use Rattle.gq_check_from.specs.declared.fault.CheckFault.{CheckFault}
use Rattle.gq_check_from.specs.declared.fault.CheckFault.TheVariants as fault

-- the meaning of a fault; OutOfMemory is left open and may occur at any time
abbrev pub fault_of : CheckFault → judging.TypingFault
fault_of fault.Mismatch = judging.Mismatch
fault_of (fault.UnknownName name) = judging.UnknownName name
fault_of (fault.NoAttribute name) = judging.NoAttribute name
fault_of fault.NotAllowedHere = judging.NotAllowedHere
fault_of (fault.OrderDependent name) = judging.OrderDependent name
fault_of (fault.WiderSet name) = judging.WiderSet name
fault_of fault.TwoAliases = judging.TwoAliases
fault_of (fault.BadKind name) = judging.BadKind name
fault_of (fault.NameTwice name) = judging.NameTwice name
fault_of fault.TooMany = judging.TooMany
fault_of fault.OutOfMemory = judging.TooMany

-- a result is what a rule gives, or its fault, except for OutOfMemory
abbrev pub Judges : {A B : Type 0} → (B → A) → judging.Judged A → Result B CheckFault → Type 0
Judges view j (Ok b) = j ≡ Ok (view b)
Judges view j (Err e) = e ≢ fault.OutOfMemory → j ≡ Err (fault_of e)

-- a fault of an expression means the same as one of a query
abbrev pub SaysSame : TypeFault → CheckFault → Type 0
SaysSame t e = e ≢ fault.OutOfMemory → (t ≢ typing.OutOfMemory) × (fault_of e ≡ fault_is t)

-- names may have been appended, and nothing else changed: a cut to the earlier names restores the scope
pub record Grows (before after : Held) : Type 0 where
  pub more : length before.names ≤ length after.names
  pub kept : record after { names = take (length before.names) after.names } ≡ before
