-- Values, parameter by parameter.
use Rattle.std.proofs.Common.{ℕ, zero, suc, ◌+◌, ◌≡◌, ◌<◌, ◌≤◌, List, [], ◌∷◌, ◌++◌, length, map, drop, get_or, Some, None, refl, ap, sym, ◌∙◌, arith, add-one}
use Rattle.std.proofs.lemmas.List.{append-nil, drop_all}
use Rattle.std.proofs.lemmas.Option.{slice_get-map}
use Rattle.std.specs.Prelude.{slice_get, option_map, Err}
use Rattle.gq_value.specs.Val.{Val}
use Rattle.gq_graph.specs.declared.rows.VertexRow.{VertexRow}
use Rattle.gq_rules_typing.specs.Statements.{Bytes, Parameter}
use Rattle.gq_rules_typing.specs.Sorts.{Sorts}
use Rattle.gq_rules_typing.specs.StatementViews.{view_parameter}
use Rattle.gq_tree.specs.declared.query.ParameterTree as tree
use Rattle.gq_diagnostics.specs.declared.refusal.Refusal.TheVariants as refusal
use Rattle.gq_diagnostics.specs.declared.refusal.StatementFault.{StatementFault}
use Rattle.gq_diagnostics.specs.declared.refusal.StatementFault.TheVariants.{Refused, ReadFault, OutOfMemory}
use Rattle.gq_rules_meaning.specs.Arguments.{Argument, Member, Values, AllValues, BadArgument, argument_value, value_and, values_of, in_order, by_members}
use Rattle.gq_arguments.specs.Rows.{Gives, Tells, of_values}
use Rattle.gq_arguments.specs.Places.{listed_or, named_argument}

some_inj : {A : Type 0} (x y : A) → Some x ≡ Some y → x ≡ y
some_inj {A} x y e = cc

left : (ps : List (Parameter Bytes)) (i : ℕ) (p : Parameter Bytes) → slice_get ps i ≡ Some p → slice_get (in_order ps []) i ≡ Some (listed_or p None)
left [] i p is = absurd (cc)
left (q ∷ ps) zero p is = ap (λ r. Some (listed_or r None)) (some_inj q p is)
left (q ∷ ps) (suc i) p is = left ps i p is

-- the argument at a place in parentheses
pub listed_place : (ps : List (Parameter Bytes)) (arguments : List Argument) (i : ℕ) (p : Parameter Bytes) → slice_get ps i ≡ Some p
    → slice_get (in_order ps arguments) i ≡ Some (listed_or p (slice_get arguments i))
listed_place [] arguments i p is = absurd (cc)
listed_place (q ∷ ps) [] i p is = left (q ∷ ps) i p is
listed_place (q ∷ ps) (a ∷ arguments) zero p is = refl
listed_place (q ∷ ps) (a ∷ arguments) (suc i) p is = listed_place ps arguments i p is

named_one : (members : List (Bytes × Member)) (q : Parameter Bytes) (ps : List (Parameter Bytes)) → by_members (q ∷ ps) members ≡ named_argument members q ∷ by_members ps members
named_one members q ps = refl

-- and among the members of the file
pub named_place : (ps : List (Parameter Bytes)) (members : List (Bytes × Member)) (i : ℕ) (p : Parameter Bytes) → slice_get ps i ≡ Some p
    → slice_get (by_members ps members) i ≡ Some (named_argument members p)
named_place [] members i p is = absurd (cc)
named_place (q ∷ ps) members zero p is = ap (λ r. Some (named_argument members r)) (some_inj q p is)
named_place (q ∷ ps) members (suc i) p is = named_place ps members i p is

-- ---- value by value

-- values appended to earlier ones
abbrev pub behind : List Val → Values → Values
behind before (AllValues vs) = AllValues (before ++ vs)
behind before (BadArgument x) = BadArgument x

pub behind_none : (w : Values) → w ≡ behind [] w
behind_none (AllValues vs) = refl
behind_none (BadArgument x) = refl

seam : {A : Type 0} (l : List A) (x : A) (xs : List A) → l ++ x ∷ xs ≡ (l ++ x ∷ []) ++ xs
seam [] x xs = refl
seam (y ∷ l) x xs = ap (λ r. y ∷ r) (seam l x xs)

behind_and : (before : List Val) (v : Val) (name : Bytes) (rest : Values) → behind before (value_and (Some v) name rest) ≡ behind (before ++ v ∷ []) rest
behind_and before v name (AllValues vs) = ap AllValues (seam before v vs)
behind_and before v name (BadArgument x) = refl

placed : {A : Type 0} (xs : List A) (i : ℕ) (x : A) → i < length xs → x ≡ get_or xs i x → slice_get xs i ≡ Some x
placed [] i x low is = absurd (omega (arith, low))
placed (y ∷ xs) zero x low is = ap Some (sym is)
placed (y ∷ xs) (suc i) x low is = placed xs i x (omega (arith, low)) is

dropped : {A : Type 0} (xs : List A) (i : ℕ) (x : A) → slice_get xs i ≡ Some x → drop i xs ≡ x ∷ drop (suc i) xs
dropped [] i x is = absurd (cc)
dropped (y ∷ xs) zero x is = ap (λ z. z ∷ xs) (some_inj y x is)
dropped (y ∷ xs) (suc i) x is = dropped xs i x is

-- a parameter at a place, as gq_rules_typing has it
pub parameter_at : (ps : List tree.ParameterTree) (i : ℕ) (p : tree.ParameterTree) → i < length ps → p ≡ get_or ps i p → slice_get (map view_parameter ps) i ≡ Some (view_parameter p)
parameter_at ps i p low is = slice_get-map view_parameter ps i ∙ ap (option_map view_parameter) (placed ps i p low is)

next : {A : Type 0} (xs : List A) (i : ℕ) (x : A) → slice_get xs i ≡ Some x → drop i xs ≡ x ∷ drop (i + 1) xs
next xs i x is = dropped xs i x is ∙ ap (λ n. x ∷ drop n xs) (sym (add-one i))

module _ (sorts : Sorts) (rows : List VertexRow) (ps : List (Parameter Bytes)) (all : List Argument) where
  -- the values of the parameters from a place on
  abbrev pub from : ℕ → Values
  from i = values_of sorts rows (drop i ps) (drop i all)

  at : (i : ℕ) (p : Parameter Bytes) (a : Argument) → slice_get ps i ≡ Some p → slice_get all i ≡ Some a → from i ≡ value_and (argument_value sorts rows p.base a) p.name (from (i + 1))
  at i p a first second = ap (λ xs. values_of sorts rows xs (drop i all)) (next ps i p first) ∙ ap (λ ys. values_of sorts rows (p ∷ drop (i + 1) ps) ys) (next all i a second)

  pub one_more : (i : ℕ) (p : Parameter Bytes) (a : Argument) (before : List Val) (v : Val) (whole : Values) → slice_get ps i ≡ Some p → slice_get all i ≡ Some a
      → Some v ≡ argument_value sorts rows p.base a → whole ≡ behind before (from i) → whole ≡ behind (before ++ v ∷ []) (from (i + 1))
  one_more i p a before v whole first second is so_far =
      so_far ∙ ap (behind before) (at i p a first second)
      ∙ ap (λ o. behind before (value_and o p.name (from (i + 1)))) (sym is)
      ∙ behind_and before v p.name (from (i + 1))

  pub bad_one : (i : ℕ) (p : Parameter Bytes) (a : Argument) (before : List Val) (whole : Values) → slice_get ps i ≡ Some p → slice_get all i ≡ Some a
      → None ≡ argument_value sorts rows p.base a → whole ≡ behind before (from i) → whole ≡ BadArgument p.name
  bad_one i p a before whole first second is so_far =
      so_far ∙ ap (behind before) (at i p a first second)
      ∙ ap (λ o. behind before (value_and o p.name (from (i + 1)))) (sym is)

  pub at_end : (i : ℕ) (before : List Val) (whole : Values) → length ps ≤ i → whole ≡ behind before (from i) → whole ≡ AllValues before
  at_end i before whole end so_far =
      so_far ∙ ap (λ xs. behind before (values_of sorts rows xs (drop i all))) (drop_all i ps end) ∙ ap AllValues (append-nil before)

-- the refusal that is due, or OutOfMemory for the parameter's name
pub told : (w : Values) (name said : Bytes) (f : StatementFault) → w ≡ BadArgument name → said ≡ name → Tells (refusal.BadArgument said) f → Gives (of_values w) (Err f)
told w name said (Refused found) bad same is = ap of_values bad ∙ ap (λ x. Err (refusal.BadArgument x)) (sym same) ∙ ap Err (sym is)
told w name said ReadFault bad same is = is
told w name said OutOfMemory bad same is = tt
