-- Rows: the values of a query's parameters, or why RUN QUERY is refused because of its arguments.
use Rattle.std.specs.Prelude.{◌≡◌, if◌then◌else◌, Bool, false, List, map, option_map, Result, Ok, Err}
use Rattle.gq_value.specs.Val.{Val}
use Rattle.gq_value.specs.Views.{val}
use Rattle.gq_graph.specs.declared.rows.VertexRow.{VertexRow}
use Rattle.gq_value.specs.declared.value.Value.{Value}
use Rattle.serde_json.specs.View.{view}
use Rattle.gq_rules_typing.specs.Statements.{Bytes, Parameter}
use Rattle.gq_rules_typing.specs.Sorts.{Sorts}
use Rattle.gq_diagnostics.specs.declared.refusal.Refusal.{Refusal}
use Rattle.gq_diagnostics.specs.declared.refusal.Refusal.TheVariants as refusal
use Rattle.gq_diagnostics.specs.declared.refusal.StatementFault.{StatementFault}
use Rattle.gq_diagnostics.specs.declared.refusal.StatementFault.TheVariants.{Refused, ReadFault, OutOfMemory}
use Rattle.gq_rules_meaning.specs.Arguments as meaning
use Rattle.gq_rules_meaning.specs.Arguments.{Values, AllValues, BadArgument, in_order, by_members, values_of}
use Rattle.gq_arguments.specs.declared.row.Arguments.{Arguments}
use Rattle.gq_arguments.specs.declared.row.Arguments.TheVariants.{Listed, Named}
use Rattle.gq_arguments.specs.Given.{view_argument}
use Rattle.gq_arguments.specs.Members.{members_in}

-- ---- meaning

-- the argument of each parameter, from the parentheses or the file
abbrev pub all_given : List (Parameter Bytes) → Arguments → List meaning.Argument
all_given ps (Listed arguments) = in_order ps (map view_argument arguments.now)
all_given ps (Named found) = by_members ps (members_in (option_map (λ m. view m.now) found))

-- the number of arguments in parentheses is wrong; in a file it can't be
abbrev pub wrong_number : List (Parameter Bytes) → Arguments → Bool
wrong_number ps (Listed arguments) = meaning.wrong_number ps (map view_argument arguments.now)
wrong_number ps (Named found) = false

abbrev pub of_values : Values → Result (List Val) Refusal
of_values (AllValues vs) = Ok vs
of_values (BadArgument x) = Err (refusal.BadArgument x)

-- the values of all parameters, with the types that the query sees
abbrev pub values_given : Sorts → List VertexRow → List (Parameter Bytes) → Arguments → Result (List Val) Refusal
values_given sorts rows ps arguments =
    if wrong_number ps arguments then Err refusal.WrongArguments else of_values (values_of sorts rows ps (all_given ps arguments))

-- ---- answers

-- the answer is the values or the refusal that is meant; OutOfMemory may occur at any time
abbrev pub Gives : Result (List Val) Refusal → Result (List Value) StatementFault → Type 0
Gives meant (Ok row) = meant ≡ Ok (map val row)
Gives meant (Err (Refused found)) = meant ≡ Err found
Gives meant (Err ReadFault) = ⊥
Gives meant (Err OutOfMemory) = Unit {0}

-- the refusal that is due, or OutOfMemory for its name
abbrev pub Tells : Refusal → StatementFault → Type 0
Tells due (Refused found) = found ≡ due
Tells due ReadFault = ⊥
Tells due OutOfMemory = Unit {0}
