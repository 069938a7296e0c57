-- The number of arguments.
use Rattle.std.proofs.Common.{◌≡◌, ◌<◌, ◌≤◌, Bool, true, ◌||◌, List, [], ◌∷◌, length, map, drop, Option, Some, None, is_none, refl, ap, ◌∙◌, arith}
use Rattle.std.specs.List.{list_any}
use Rattle.std.specs.Option.{option_map}
use Rattle.gq_tree.specs.declared.query.Argument.{Argument}
use Rattle.gq_tree.specs.declared.query.ParameterTree.{ParameterTree}
use Rattle.gq_tree.specs.declared.schema.Literal.{Literal}
use Rattle.gq_rules_typing.specs.StatementViews.{view_parameter, view_literal}
use Rattle.gq_rules_meaning.specs.Arguments.{wrong_number, lacks_default}
use Rattle.gq_arguments.specs.Given.{view_argument}

pub too_many : (ps : List ParameterTree) (arguments : List Argument) → length ps < length arguments → wrong_number (map view_parameter ps) (map view_argument arguments) ≡ true
too_many [] [] more = absurd (omega (arith, more))
too_many [] (a ∷ arguments) more = refl
too_many (p ∷ ps) [] more = absurd (omega (arith, more))
too_many (p ∷ ps) (a ∷ arguments) more = too_many ps arguments (omega (arith, more))

lacks : (o : Option Literal) → is_none o ≡ lacks_default (option_map view_literal o)
lacks None = refl
lacks (Some l) = refl

or_of : (a b x y : Bool) → a ≡ x → b ≡ y → (a || b) ≡ (x || y)
or_of a b x y first second = ap (λ c. c || b) first ∙ ap (λ c. x || c) second

pub left_out : (ps : List ParameterTree) → list_any (λ (p : ParameterTree). is_none p.default) ps ≡ wrong_number (map view_parameter ps) []
left_out [] = refl
left_out (p ∷ ps) = or_of (is_none p.default) (list_any (λ (q : ParameterTree). is_none q.default) ps) (lacks_default (option_map view_literal p.default)) (wrong_number (map view_parameter ps) []) (lacks p.default) (left_out ps)

pub none_left : (ps : List ParameterTree) (arguments : List Argument) → length arguments ≤ length ps
    → list_any (λ (p : ParameterTree). is_none p.default) (drop (length arguments) ps) ≡ wrong_number (map view_parameter ps) (map view_argument arguments)
none_left [] [] few = refl
none_left [] (a ∷ arguments) few = absurd (omega (arith, few))
none_left (p ∷ ps) [] few = left_out (p ∷ ps)
none_left (p ∷ ps) (a ∷ arguments) few = none_left ps arguments (omega (arith, few))
