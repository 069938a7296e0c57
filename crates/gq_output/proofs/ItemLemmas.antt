-- ItemLemmas: expressions with their keys.
use Rattle.std.proofs.Common.{◌≡◌, ℕ, ◌+◌, ◌<◌, ◌≤◌, List, [], ◌∷◌, ◌++◌, length, get_or, Result, sym, ap, subst}
use Rattle.gq_json.specs.declared.out.Out as json
use Rattle.gq_tree.specs.Tree.{Tree}
use Rattle.gq_rules_typing.specs.Statements.{Bytes}
use Rattle.gq_rules_meaning.specs.Answers.{Gives, ◌>>=◌}
use Rattle.gq_rules_meaning.specs.Expressions.{World, Look, meaning}
use Rattle.gq_rules_meaning.specs.Meanings.{Meant}
use Rattle.gq_rules_meaning.specs.Printing.{out_meant}
use Rattle.gq_rules_meaning.specs.States.{Slot}
use Rattle.gq_plan_ir.specs.declared.expr.Expr.{Expr}
use Rattle.gq_plan_ir.specs.ExprView.{view}
use Rattle.gq_plan_ir.specs.Reference.{Reference}
use Rattle.gq_eval_operand.specs.declared.halt.Halt.{Halt}
use Rattle.gq_eval_operand.specs.Meant.{itself, Halts, Tells}
use Rattle.gq_output.specs.Printed.{shown, meant_shown}
use Rattle.gq_output.proofs.EachLemmas.{EachFrom, each_first}
use Rattle.gq_output.specs.Items.{item_shown, member_of, members_shown}
use Rattle.gq_output.proofs.EachSteps.{stops, keyed_next, keyed_stops, keyed_all}

module _ (world : World Reference) (look : Look Reference) (slots : List (Slot Reference)) where
  pub item_told : (tree : Tree Reference) (m : Meant) (r : Result json.Out Halt) → meaning look tree ≡ Gives m → Tells itself (meant_shown world slots m) r → Tells itself (item_shown world look slots tree) r
  item_told tree m r e told = subst (λ o. Tells (itself {A = json.Out}) o r) (sym (ap (λ p. shown (p >>= out_meant world slots)) e)) told

  pub item_stops : (tree : Tree Reference) (h : Halt) → Halts (meaning look tree) h → Halts (item_shown world look slots tree) h
  item_stops tree h e = stops (meaning look tree >>= out_meant world slots) _ h (stops (meaning look tree) (out_meant world slots) h e)

  abbrev pub MembersFrom : List (Expr × Bytes) → ℕ → List (Bytes × json.Out) → Type 0
  MembersFrom items i done = EachFrom (member_of world look slots) items i done

  pub members_first : (items : List (Expr × Bytes)) → MembersFrom items 0 []
  members_first items = each_first (member_of world look slots) items

  pub members_next : (items : List (Expr × Bytes)) (i : ℕ) (x : Expr × Bytes) (done new : List (Bytes × json.Out)) (o : json.Out) → MembersFrom items i done → i < length items → x ≡ get_or items i x
      → item_shown world look slots (view x.0) ≡ Gives o → new ≡ done ++ (x.1, o) ∷ [] → MembersFrom items (i + 1) new
  members_next items i x done new o inv l e h is = keyed_next (λ (x : Expr × Bytes). item_shown world look slots (view x.0)) (λ (x : Expr × Bytes). x.1) items i x done new o inv l e h is

  pub members_stop : (items : List (Expr × Bytes)) (i : ℕ) (x : Expr × Bytes) (done : List (Bytes × json.Out)) (h : Halt) → MembersFrom items i done → i < length items → x ≡ get_or items i x
      → Halts (item_shown world look slots (view x.0)) h → Halts (members_shown world look slots items) h
  members_stop items i x done h inv l e s = keyed_stops (λ (x : Expr × Bytes). item_shown world look slots (view x.0)) (λ (x : Expr × Bytes). x.1) items i x done h inv l e s

  pub members_all : (items : List (Expr × Bytes)) (i : ℕ) (done : List (Bytes × json.Out)) → MembersFrom items i done → length items ≤ i → members_shown world look slots items ≡ Gives done
  members_all items i done inv l = keyed_all (λ (x : Expr × Bytes). item_shown world look slots (view x.0)) (λ (x : Expr × Bytes). x.1) items i done inv l

pub ruleset item_laws = (item_told, item_stops)

pub ruleset member_laws = (members_first, members_next, members_stop, members_all)
