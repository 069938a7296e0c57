-- Arguments: the types of a call and of a part after a dot, given the types of the arguments.
-- Each is a line of gq_rules_typing's rules.
use Rattle.std.specs.Prelude.{Bool, true, false, List, Option, Ok}
use Rattle.gq_value.specs.Accums as plain
use Rattle.gq_tree.specs.Tree.{Tree, Trees, Neg, Mul, Sum, Cmp, Not, And, Or}
use Rattle.gq_rules_typing.specs.Statements.{Bytes}
use Rattle.gq_rules_typing.specs.Words.{function_named}
use Rattle.gq_rules_typing.specs.Judging as judging
use Rattle.gq_rules_typing.specs.Judging.{Judged, NotAllowedHere, UnknownName, ◌>>=◌, ◌>>◌, unless, or_fault, each_judged}
use Rattle.gq_rules_typing.specs.Types.{as_base, has_accums}
use Rattle.gq_rules_typing.specs.Kinds.{read_type}
use Rattle.gq_rules_typing.specs.CallTypes.{function_type, method_type}
use Rattle.gq_rules_typing.specs.ExpressionTypes.{Names}

-- arguments, each of which is a value
abbrev pub all_bases : List judging.Typed → Judged (List plain.Base)
all_bases xs = each_judged as_base xs

abbrev pub known : {A : Type 0} → Bytes → Option A → Judged A
known name o = or_fault (UnknownName name) o

abbrev pub called : Names Bytes → Bytes → Trees Bytes → List judging.Typed → Judged judging.Typed
called names f ts xs = or_fault (UnknownName (names.setting.words.said f)) (function_named names.setting f) >>= λ g. each_judged as_base xs >>= function_type g ts

abbrev pub method_called : Names Bytes → Bytes → judging.Typed → Trees Bytes → List judging.Typed → Judged judging.Typed
method_called names m x ts ys = or_fault (UnknownName (names.setting.words.said m)) (names.setting.words.method m) >>= λ f. each_judged as_base ys >>= method_type names.setting.sorts f x ts

abbrev pub read_attached : Names Bytes → judging.Typed → Bytes → Judged judging.Typed
read_attached names x a = unless NotAllowedHere (has_accums x) >> names.attached a >>= λ k. Ok (read_type k)

abbrev pub read_before : Names Bytes → judging.Typed → Bytes → Judged judging.Typed
read_before names x a = unless NotAllowedHere (has_accums x) >> names.before a >>= λ k. Ok (read_type k)

-- ---- forms

-- an operation on operands
abbrev pub is_operation : {N : Type 0} → Tree N → Bool
is_operation (Neg n t) = true
is_operation (Mul t factors) = true
is_operation (Sum t terms) = true
is_operation (Cmp t sign u) = true
is_operation (Not n t) = true
is_operation (And t others) = true
is_operation (Or t others) = true
is_operation t = false
