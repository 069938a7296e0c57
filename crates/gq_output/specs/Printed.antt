-- Printed: the output of values, contents and expressions, as values of gq_json.
use Rattle.std.specs.Prelude.{◌≡◌, ℤ, true, List, [], ◌++◌, map}
use Rattle.gq_value.specs.declared.value.Wrong.{Wrong}
use Rattle.gq_value.specs.declared.kind.BaseType.{BaseType}
use Rattle.gq_value.specs.declared.kind.Kind.{Kind}
use Rattle.gq_value.specs.Val.{Val, Int, UInt, Truth, Fraction}
use Rattle.gq_value.specs.AccumViews.{base_of, accum_of, parts_of}
use Rattle.gq_value.specs.Accums.{Base, INT, DATETIME, Accum, MapAccum, GroupByAccum, Parts}
use Rattle.gq_accum_laws.specs.Holds.{Holds, entries}
use Rattle.gq_accum_laws.specs.After.{fresh}
use Rattle.gq_accum_laws.specs.Fits.{fits, fit}
use Rattle.gq_accum_laws.specs.Reads.{value_in}
use Rattle.gq_nest.specs.declared.content.Content.{Content, out-Content}
use Rattle.gq_nest.specs.Forms.{view, view_each}
use Rattle.gq_nest.specs.Shows.{Shows, ShowEach}
use Rattle.gq_nest.specs.Tells.{elements_of}
use Rattle.gq_json.specs.declared.out.Out as json
use Rattle.gq_json.specs.declared.out.Out.TheVariants as out
use Rattle.gq_rules_typing.specs.Statements.{Bytes}
use Rattle.gq_rules_typing.specs.Sorts.{Fields}
use Rattle.gq_rules_meaning.specs.Answers.{Answer, Gives, ◌>>=◌}
use Rattle.gq_rules_meaning.specs.Built.{built, built_print}
use Rattle.gq_rules_meaning.specs.Calendars.{Calendar}
use Rattle.gq_rules_meaning.specs.Expressions.{World}
use Rattle.gq_rules_meaning.specs.Lines.{fraction_of}
use Rattle.gq_rules_meaning.specs.Meanings.{Meant}
use Rattle.gq_rules_meaning.specs.Printing.{out_meant}
use Rattle.gq_rules_meaning.specs.States.{Slot}
use Rattle.gq_rules_meaning.specs.Outs.{Out, out_value, out_named, first_text, out_content, out_parts}
use Rattle.gq_plan_ir.specs.Reference.{Reference}

-- an answer, with its result as a value of gq_json
abbrev pub shown : Answer Wrong Out → Answer Wrong json.Out
shown o = o >>= λ p. Gives (built p)

abbrev pub shown_members : Answer Wrong (List (Bytes × Out)) → Answer Wrong (List (Bytes × json.Out))
shown_members o = o >>= λ ms. Gives (built_print ms)

-- ---- values

abbrev pub value_shown : World Reference → Base → Val → json.Out
value_shown world b v = built (out_value world b v)

-- fields with their values
abbrev pub named_shown : World Reference → Fields → List Val → List (Bytes × json.Out)
named_shown world fields vs = built_print (out_named world fields vs)

-- a time, by the calendar
abbrev pub time_shown : Calendar → ℤ → json.Out
time_shown clock x = out.Text (clock.write x)

-- a signed number of a type
abbrev pub int_shown : Calendar → Base → ℤ → json.Out
int_shown clock DATETIME x = time_shown clock x
int_shown clock b x = out.Int x

-- ---- contents

-- a content of a kind, whatever it holds, with sums in range
pub record IsShown (k : Accum) (c : Content) : Type 0 where
  pub shows : Shows k c (view k (out-Content c))
  pub within : fits k (view k (out-Content c)) ≡ true

-- the same for a map, whatever the type of its keys, and for a group
abbrev pub IsMap : Accum → Content → Type 0
IsMap k c = (b : Base) × IsShown (MapAccum b k) c

abbrev pub IsGroup : List (Bytes × Base) → Parts → Content → Type 0
IsGroup keys ps c = IsShown (GroupByAccum keys ps) c

-- a content for each part
pub record AreShown (ps : Parts) (cs : List Content) : Type 0 where
  pub shows : ShowEach ps cs (view_each ps cs)
  pub within : fit ps (view_each ps cs) ≡ true

abbrev pub content_shown : World Reference → Accum → Content → json.Out
content_shown world k c = built (out_content world k (view k (out-Content c)))

-- a number, a truth value or an average
abbrev pub plain_shown : Val → json.Out
plain_shown (Int x) = out.Int x
plain_shown (UInt n) = out.UInt n
plain_shown (Truth b) = out.Bool b
plain_shown (Fraction s n) = out.Fraction (fraction_of s n)
plain_shown v = out.List []

abbrev pub scalar_shown : Accum → Content → json.Out
scalar_shown k c = plain_shown (value_in k (view k (out-Content c)))

-- the keys and the parts of a group
abbrev pub key_fields : List (Bytes × BaseType) → Fields
key_fields keys = map (λ k. (k.0, base_of k.1)) keys

abbrev pub part_kinds : List (Bytes × Kind) → Parts
part_kinds parts = parts_of (map (λ p. (p.0, accum_of p.1)) parts)

-- the elements of a set, bag, list or heap
abbrev pub elements_shown : World Reference → Base → (k : Accum) → Holds k → List json.Out
elements_shown world b k h = map (value_shown world b) (elements_of k h)

abbrev pub elements_out : World Reference → Base → (k : Accum) → Holds k → json.Out
elements_out world b k h = out.List (elements_shown world b k h)

-- the entries of a map, as members
abbrev pub map_shown : World Reference → Accum → Content → List (Bytes × json.Out)
map_shown world k c = built_print (map (λ e. (first_text world.graph e.0, out_content world k e.1)) (entries (view (MapAccum INT k) (out-Content c))))

abbrev pub parts_shown : World Reference → (ps : Parts) → List Content → List (Bytes × json.Out)
parts_shown world ps cs = built_print (out_parts world ps (view_each ps cs))

-- the key rows of a group, as objects
abbrev pub groups_shown : World Reference → Fields → Parts → Content → List json.Out
groups_shown world keys ps c = map (λ e. out.Object (built_print (out_named world keys e.0) ++ built_print (out_parts world ps e.1))) (entries (view (GroupByAccum keys ps) (out-Content c)))

-- ---- the values of expressions

abbrev pub meant_shown : World Reference → List (Slot Reference) → Meant → Answer Wrong json.Out
meant_shown world slots m = shown (out_meant world slots m)

abbrev pub fresh_shown : World Reference → Accum → json.Out
fresh_shown world k = built (out_content world k (fresh k))
