-- Items: the output of items, as values of gq_json, in a `BlockContext`, which has the contents of names and slots.
use Rattle.std.specs.Prelude.{ℕ, List, [], ◌∷◌, Option, Some}
use Rattle.gq_value.specs.declared.value.Wrong.{Wrong}
use Rattle.gq_json.specs.declared.out.Out as json
use Rattle.gq_json.specs.declared.out.Out.TheVariants as out
use Rattle.gq_tree.specs.Tree.{Tree}
use Rattle.gq_rules_typing.specs.Statements.{Bytes}
use Rattle.gq_rules_meaning.specs.Answers.{Answer, Gives, Stuck, ◌>>=◌, each}
use Rattle.gq_rules_meaning.specs.Calendars.{Calendar}
use Rattle.gq_rules_meaning.specs.Expressions.{World, Look, meaning}
use Rattle.gq_rules_meaning.specs.Printing.{out_meant}
use Rattle.gq_rules_meaning.specs.States.{Slot, Thing, SetOf}
use Rattle.gq_plan_ir.specs.declared.expr.Expr.{Expr}
use Rattle.gq_plan_ir.specs.declared.step.PrintItem.{PrintItem}
use Rattle.gq_plan_ir.specs.declared.step.PrintItem.TheVariants as item
use Rattle.gq_plan_ir.specs.ExprView.{view}
use Rattle.gq_plan_ir.specs.Reference.{Reference}
use Rattle.gq_frame.specs.Names.{Placed, AMember, thing_in}
use Rattle.gq_frame.specs.Slots.{slots_are}
use Rattle.gq_eval_context.specs.Viewed.{Over, viewed}
use Rattle.gq_eval_context.specs.Looks.{look_of, world_over}
use Rattle.gq_output.specs.Printed.{shown}
use Rattle.gq_output.specs.Vertices.{vertex_shown}

-- an expression
abbrev pub item_shown : World Reference → Look Reference → List (Slot Reference) → Tree Reference → Answer Wrong json.Out
item_shown world look slots tree = shown (meaning look tree >>= out_meant world slots)

-- expressions with their keys
abbrev pub member_of : World Reference → Look Reference → List (Slot Reference) → Expr × Bytes → Answer Wrong (Bytes × json.Out)
member_of world look slots i = item_shown world look slots (view i.0) >>= λ o. Gives (i.1, o)

abbrev pub members_shown : World Reference → Look Reference → List (Slot Reference) → List (Expr × Bytes) → Answer Wrong (List (Bytes × json.Out))
members_shown world look slots items = each (member_of world look slots) items

-- a vertex with columns
abbrev pub member_shown : World Reference → Look Reference → List (Slot Reference) → List (Expr × Bytes) → ℕ → Answer Wrong json.Out
member_shown world look slots columns v = members_shown world look slots columns >>= vertex_shown world v

-- ---- in a block

-- what is seen of it, with aliases before its names
abbrev pub look_with : Calendar → Over → List (ℕ × Placed) → Look Reference
look_with clock s aliases = look_of clock (viewed s aliases s.frame.accums s.frame.accums)

-- a vertex of a set at a place
abbrev pub member_at : Calendar → Over → List (Expr × Bytes) → ℕ → List ℕ → List ℕ → ℕ → Answer Wrong json.Out
member_at clock s columns n types vs v = member_shown (world_over clock s) (look_with clock s ((n, AMember types vs v) ∷ [])) (slots_are s.frame.accums) columns v

abbrev pub columns_shown : Calendar → Over → List (Expr × Bytes) → ℕ → Option Thing → Answer Wrong json.Out
columns_shown clock s columns n (Some (SetOf types vs)) = each (member_at clock s columns n types vs) vs >>= λ os. Gives (out.List os)
columns_shown clock s columns n o = Stuck

abbrev pub value_at : Calendar → Over → PrintItem → Answer Wrong json.Out
value_at clock s (item.Value t key) = item_shown (world_over clock s) (look_with clock s []) (slots_are s.frame.accums) (view t)
value_at clock s (item.Columns n columns key) = columns_shown clock s columns n (thing_in s.frame.things n)

abbrev pub key_in : PrintItem → Bytes
key_in (item.Value t key) = key
key_in (item.Columns n columns key) = key

-- an item with its key
abbrev pub keyed_shown : Calendar → Over → PrintItem → Answer Wrong (Bytes × json.Out)
keyed_shown clock s i = value_at clock s i >>= λ o. Gives (key_in i, o)
