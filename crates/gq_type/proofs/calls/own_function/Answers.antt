use Rattle.std.proofs.Common.{sym, ap, ◌∙◌}
use Rattle.std.specs.Option.{option_map}
use Rattle.gq_rules_typing.specs.Builtins.{builtin_is}
use Rattle.gq_type.proofs.calls.own_function.Goals as goal

pub returns-in-None : goal.returns-in-None
returns-in-None c = ap (option_map builtin_is) (sym c.in-None.is) ∙ c.builtin_named.ensures

pub returns-in-Some : goal.returns-in-Some
returns-in-Some c = ap (option_map builtin_is) (sym c.in-Some.is) ∙ c.builtin_named.ensures
