-- ExpressionTypes: the typing rules of expressions, one line for each form. A form's rule is judged after its parts,
-- from left to right; in a chain each operation is judged after its right operand.
use Rattle.std.specs.Prelude.{ℕ, zero, suc, ◌^◌, Bool, ◌&&◌, if◌then◌else◌, nat_lt, List, [], ◌∷◌, Ok}
use Rattle.gq_tree.specs.declared.expr.AddSign.{AddSign}
use Rattle.gq_tree.specs.declared.expr.AddSign.TheVariants as sign
use Rattle.gq_tree.specs.Tree.{Tree, Behind, Trees, Parts, Factors, Terms, Number, Text, Truth, Global, Name, Call, Post, Neg, Mul, Sum, Cmp, Not, And, Or, Field, Method, Attached, Before, no_tree, tree, no_part, part, no_factor, factor, no_term, term}
use Rattle.gq_tree.specs.Accums.{Base, INT, UINT, BOOL, STRING, Accum}
use Rattle.gq_rules_typing.specs.Words.{Setting, function_named}
use Rattle.gq_rules_typing.specs.Judging.{Typed, Of, Mismatch, NotAllowedHere, UnknownName, Judged, ◌>>=◌, ◌>>◌, unless, or_fault, each_judged}
use Rattle.gq_rules_typing.specs.Types.{is_number, is_bool, converts, as_base, has_accums, alone, calculated, added, comparable}
use Rattle.gq_rules_typing.specs.Kinds.{read_type}
use Rattle.gq_rules_typing.specs.FieldTypes.{behind_dot}
use Rattle.gq_rules_typing.specs.CallTypes.{method_type, function_type}

-- the names that an expression may use at its place
pub record Names (N : Type 0) : Type 0 where
  pub named : N → Judged Typed
  pub global : N → Judged Accum
  -- of `v.@a`, and of `v.@a'`
  pub attached : N → Judged Accum
  pub before : N → Judged Accum
  pub setting : Setting N

-- up to 9223372036854775807 INT, a larger one UINT
abbrev pub literal_type : ℕ → Base
literal_type n = if nat_lt n (2 ^ 63) then INT else UINT

-- before a dot a name may be an edge or a set too
abbrev pub before_dot : {N : Type 0} → Names N → Tree N → Judged Typed → Judged Typed
before_dot names (Name x) typed = names.named x
before_dot names t typed = typed

-- `+` joins texts too
abbrev pub summed : AddSign → Base → Base → Judged Typed
summed sign.Plus b c = added b c
summed sign.Minus b c = calculated b c

-- AND and OR
abbrev pub both_bool : Base → Base → Judged Typed
both_bool b c = unless Mismatch (is_bool b && is_bool c) >> Ok (Of BOOL)

-- an operation on two values, once both operands have types
abbrev pub operated : (Base → Base → Judged Typed) → Typed → Typed → Judged Typed
operated rule x y = as_base x >>= λ b. as_base y >>= rule b

-- minus signs make an INT of a number
abbrev pub negated : ℕ → Base → Judged Typed
negated zero b = unless Mismatch (is_number b) >> Ok (Of b)
negated (suc n) b = unless Mismatch (is_number b) >> Ok (Of INT)

abbrev pub a_bool : Base → Judged Typed
a_bool b = unless Mismatch (is_bool b) >> Ok (Of BOOL)

abbrev mutual
  pub typing : {N : Type 0} → Names N → Tree N → Judged Typed
  typing names (Number n) = Ok (Of (literal_type n))
  typing names (Text said) = Ok (Of STRING)
  typing names (Truth b) = Ok (Of BOOL)
  typing names (Global a) = names.global a >>= λ k. Ok (read_type k)
  typing names (Name x) = names.named x >>= alone
  typing names (Call f ts) = typing_all names ts >>= λ xs. or_fault (UnknownName (names.setting.words.said f)) (function_named names.setting f) >>= λ g. each_judged as_base xs >>= function_type g ts
  typing names (Post t parts) = before_dot names t (typing names t) >>= λ x. typing_parts names x parts
  typing names (Neg n t) = typing names t >>= as_base >>= negated n
  typing names (Mul t factors) = typing names t >>= λ x. typing_factors names x factors
  typing names (Sum t terms) = typing names t >>= λ x. typing_terms names x terms
  typing names (Cmp s sign t) = typing names s >>= λ x. typing names t >>= λ y. unless Mismatch (comparable sign x y) >> Ok (Of BOOL)
  typing names (Not n t) = typing names t >>= as_base >>= a_bool
  typing names (And t ts) = typing names t >>= λ x. typing_bools names x ts
  typing names (Or t ts) = typing names t >>= λ x. typing_bools names x ts

  -- arguments from left to right
  pub typing_all : {N : Type 0} → Names N → Trees N → Judged (List Typed)
  typing_all names no_tree = Ok []
  typing_all names (tree t ts) = typing names t >>= λ x. typing_all names ts >>= λ xs. Ok (x ∷ xs)

  -- x with the parts after its dots
  pub typing_parts : {N : Type 0} → Names N → Typed → Parts N → Judged Typed
  typing_parts names x no_part = alone x
  typing_parts names x (part p ps) = typing_part names x p >>= λ y. typing_parts names y ps

  pub typing_part : {N : Type 0} → Names N → Typed → Behind N → Judged Typed
  typing_part names x (Field f) = behind_dot names.setting x f
  typing_part names x (Method m ts) = typing_all names ts >>= λ ys. or_fault (UnknownName (names.setting.words.said m)) (names.setting.words.method m) >>= λ f. each_judged as_base ys >>= method_type names.setting.sorts f x ts
  typing_part names x (Attached a) = unless NotAllowedHere (has_accums x) >> names.attached a >>= λ k. Ok (read_type k)
  typing_part names x (Before a) = unless NotAllowedHere (has_accums x) >> names.before a >>= λ k. Ok (read_type k)

  -- a chain, from the type of the operands before
  pub typing_factors : {N : Type 0} → Names N → Typed → Factors N → Judged Typed
  typing_factors names x no_factor = Ok x
  typing_factors names x (factor sign t rest) = typing names t >>= operated calculated x >>= λ y. typing_factors names y rest

  pub typing_terms : {N : Type 0} → Names N → Typed → Terms N → Judged Typed
  typing_terms names x no_term = Ok x
  typing_terms names x (term sign t rest) = typing names t >>= operated (summed sign) x >>= λ y. typing_terms names y rest

  pub typing_bools : {N : Type 0} → Names N → Typed → Trees N → Judged Typed
  typing_bools names x no_tree = as_base x >>= a_bool
  typing_bools names x (tree t ts) = typing names t >>= operated both_bool x >>= λ y. typing_bools names y ts

-- ---- the types that a place requires

-- a value of a base type
abbrev pub base_type : {N : Type 0} → Names N → Tree N → Judged Base
base_type names t = typing names t >>= as_base

-- a BOOL
abbrev pub condition : {N : Type 0} → Names N → Tree N → Judged Bool
condition names t = base_type names t >>= λ b. unless Mismatch (is_bool b)

-- a number; its type
abbrev pub number : {N : Type 0} → Names N → Tree N → Judged Base
number names t = base_type names t >>= λ b. unless Mismatch (is_number b) >> Ok b

-- a value that converts to a type
abbrev pub converting : {N : Type 0} → Names N → Base → Tree N → Judged Bool
converting names want t = base_type names t >>= λ b. unless Mismatch (converts b want)
