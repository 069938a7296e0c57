-- Trees: lists of inputs and branches of an IF as plain data, and two rules of ACCUM and POST-ACCUM over byte names.
use Rattle.std.specs.Prelude.{ℕ, Bool, true, not, ◌&&◌, List, map, Option, Some, Ok}
use Rattle.std.specs.Option.{option_map}
use Rattle.std.specs.Str.{bytes_eq}
use Rattle.gq_tree.specs.View.{Named, view}
use Rattle.gq_tree.specs.declared.expr.Node.{Node}
use Rattle.gq_tree.specs.declared.select.ActTree.{ActTree}
use Rattle.gq_tree.specs.declared.select.InputTree.{InputTree}
use Rattle.gq_value.specs.Accums.{Accum}
use Rattle.gq_rules_typing.specs.Statements.{Bytes}
use Rattle.gq_rules_typing.specs.Selecting as plain
use Rattle.gq_rules_typing.specs.SelectViews.{inputs_of, view_input, choices_of, view_act}
use Rattle.gq_rules_typing.specs.Judging.{TwoAliases, OrderDependent, Judged, ◌>>=◌, ◌>>◌, unless}
use Rattle.gq_rules_typing.specs.Kinds.{is_list}
use Rattle.gq_rules_typing.specs.ExpressionTypes.{Names, converting}
use Rattle.gq_rules_typing.specs.Scopes.{Scope}
use Rattle.gq_rules_typing.specs.ActTypes.{one_more, settable, typing_act, typing_input}
use Rattle.gq_rules_typing.specs.Patterns.{is_alias}
use Rattle.gq_rules_typing.specs.Mentions.{in_act}

abbrev pub view_inputs : List InputTree → plain.Inputs Named
view_inputs xs = inputs_of (map view_input xs)

-- IF and each ELSE IF with its acts, and the acts of ELSE
abbrev pub view_choices : List (Node × List ActTree) → Option (List ActTree) → plain.Choices Named
view_choices branches others = choices_of (map (λ b. (view b.0, map view_act b.1)) branches) (option_map (map view_act) others)

-- a ListAccum takes no input in ACCUM
abbrev pub in_any_order : Bytes → Accum → Judged Bool
in_any_order a k = unless (OrderDependent a) (not (is_list k))

-- a change by inputs, or an assignment of a value
abbrev pub change_written : Names Bytes → Accum → plain.Change Bytes → Judged Bool
change_written names k (plain.Adds x) = typing_input names (Some k) x
change_written names k (plain.Puts t) = settable k >>= λ b. converting names b t

-- a statement of POST-ACCUM names at most one vertex alias
abbrev pub names_one : Option Bytes → Option Bytes → plain.Act Named → Judged Bool
names_one source target a = unless TwoAliases (not (in_act (is_alias bytes_eq source) a && in_act (is_alias bytes_eq target) a))

-- one more statement of POST-ACCUM, after n; the result is their number after it
abbrev pub post_act : Scope Bytes → Option Bytes → Option Bytes → ℕ → plain.Act Named → Judged ℕ
post_act s source target n a = one_more n >>= λ m. typing_act s true m a >>= λ k. names_one source target a >> Ok k
