-- Places: the argument of the parameter at one place.
use Rattle.std.specs.Prelude.{List, Option, Some, None, bytes_eq}
use Rattle.gq_rules_typing.specs.Statements.{Bytes, Parameter}
use Rattle.gq_rules_typing.specs.Words.{under}
use Rattle.gq_rules_meaning.specs.Arguments.{Argument, Nothing, Member, default_or, of_member}

-- the argument at the parameter's place, or its default
abbrev pub listed_or : Parameter Bytes → Option Argument → Argument
listed_or p None = default_or Nothing p.default
listed_or p (Some a) = a

-- the member under the parameter's name, or its default
abbrev pub named_or : Parameter Bytes → Option Member → Argument
named_or p None = default_or Nothing p.default
named_or p (Some m) = of_member p.base m

abbrev pub named_argument : List (Bytes × Member) → Parameter Bytes → Argument
named_argument members p = named_or p (under bytes_eq p.name members)
