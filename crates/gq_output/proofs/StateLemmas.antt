-- StateLemmas: items are printed in a `BlockContext` as they are over each state that its frame shows.
use Rattle.std.proofs.Common.{◌≡◌, ℕ, List, [], ◌∷◌, map, Option, Some, None, refl, sym, ap, ap₂, ◌∙◌}
use Rattle.gq_value.specs.declared.value.Wrong.{Wrong}
use Rattle.gq_json.specs.declared.out.Out as json
use Rattle.gq_json.specs.declared.out.Out.TheVariants as out
use Rattle.gq_rules_typing.specs.Statements.{Bytes}
use Rattle.gq_rules_typing.specs.Words.{under}
use Rattle.gq_rules_meaning.specs.Answers.{Answer, Gives, Faults, Stuck, ◌>>=◌, found, each}
use Rattle.gq_rules_meaning.specs.Built.{built, built_print}
use Rattle.gq_rules_meaning.specs.Calendars.{Calendar}
use Rattle.gq_rules_meaning.specs.Expressions.{World, Look, meaning}
use Rattle.gq_rules_meaning.specs.Outs.{Out}
use Rattle.gq_rules_meaning.specs.Printing.{out_item, out_member, out_meant, out_vertex, selection, printed}
use Rattle.gq_rules_meaning.specs.States.{State, Slot, Thing, Variable, SetOf, EdgeRow, Member, seen, sight, with_new}
use Rattle.gq_plan_ir.specs.declared.expr.Expr.{Expr}
use Rattle.gq_plan_ir.specs.declared.step.PrintItem.{PrintItem}
use Rattle.gq_plan_ir.specs.declared.step.PrintItem.TheVariants as item
use Rattle.gq_plan_ir.specs.ExprView.{view}
use Rattle.gq_plan_ir.specs.PlanView.{view_keyed, view_item}
use Rattle.gq_plan_ir.specs.Reference.{Reference, Place}
use Rattle.gq_frame.specs.Names.{AMember, thing_in}
use Rattle.gq_frame.specs.Shows.{Shows}
use Rattle.gq_eval_context.specs.Viewed.{Over}
use Rattle.gq_eval_context.specs.Looks.{world_over}
use Rattle.gq_eval_context.specs.LookLaws.{look_over, look_shows}
use Rattle.gq_output.specs.Printed.{shown}
use Rattle.gq_output.specs.Vertices.{vertex_shown}
use Rattle.gq_output.proofs.EachLemmas.{each_made}
use Rattle.gq_output.proofs.ListLemmas.{list_value}
use Rattle.gq_output.proofs.VertexLemmas.{vertex_printed}
use Rattle.gq_output.specs.Items.{item_shown, member_of, members_shown, member_shown, member_at, columns_shown, keyed_shown}

-- ---- answers

each_mapped : {F A B C : Type 0} (f : B → Answer F C) (g : A → B) (xs : List A) → each f (map g xs) ≡ each (λ x. f (g x)) xs
each_mapped f g [] = refl
each_mapped f g (x ∷ xs) = ap (λ o. f (g x) >>= λ b. o >>= λ bs. Gives (b ∷ bs)) (each_mapped f g xs)

each_same : {F A B : Type 0} (f g : A → Answer F B) → ((x : A) → f x ≡ g x) → (xs : List A) → each f xs ≡ each g xs
each_same f g h [] = refl
each_same f g h (x ∷ xs) = ap₂ (λ p o. p >>= λ b. o >>= λ bs. Gives (b ∷ bs)) (h x) (each_same f g h xs)

-- a member, with its value as gq_json's
abbrev pub with_value : Bytes × Out → Answer Wrong (Bytes × json.Out)
with_value m = Gives (m.0, built m.1)

keyed_value : (key : Bytes) (p : Answer Wrong Out) → (p >>= (λ o. Gives (key, o)) >>= with_value) ≡ (shown p >>= λ o. Gives (key, o))
keyed_value key (Gives o) = refl
keyed_value key (Faults w) = refl
keyed_value key Stuck = refl

-- ---- expressions with their keys

module _ (world : World Reference) (look : Look Reference) (slots : List (Slot Reference)) where
  one_item : (i : Expr × Bytes) → (out_item world look slots (view_keyed i) >>= with_value) ≡ member_of world look slots i
  one_item i = keyed_value i.1 (meaning look (view i.0) >>= out_meant world slots)

  all_items : (items : List (Expr × Bytes)) → (each (out_item world look slots) (map view_keyed items) >>= λ ms. Gives (built_print ms)) ≡ members_shown world look slots items
  all_items items =
      sym (each_made (λ (m : Bytes × Out). (m.0, built m.1)) (out_item world look slots) (map view_keyed items))
      ∙ each_mapped (λ i. out_item world look slots i >>= with_value) view_keyed items
      ∙ each_same (λ i. out_item world look slots (view_keyed i) >>= with_value) (member_of world look slots) one_item items

  one_member : (columns : List (Expr × Bytes)) (v : ℕ) → shown (each (out_item world look slots) (map view_keyed columns) >>= out_vertex world v) ≡ member_shown world look slots columns v
  one_member columns v = by (each (out_item world look slots) (map view_keyed columns)) ∙ ap (λ p. p >>= vertex_shown world v) (all_items columns)
    where
      by : (p : Answer Wrong (List (Bytes × Out))) → shown (p >>= out_vertex world v) ≡ (p >>= (λ ms. Gives (built_print ms)) >>= vertex_shown world v)
      by (Gives ms) = vertex_printed world v ms
      by (Faults w) = refl
      by Stuck = refl

-- ---- over a state

module _ (clock : Calendar) (s : Over) (state : State Reference) (shows : Shows s.frame state) where
  member_is : (columns : List (Expr × Bytes)) (n : ℕ) (types vs : List ℕ) (v : ℕ) → shown (out_member (world_over clock s) state (Place n) types (map view_keyed columns) vs v) ≡ member_at clock s columns n types vs v
  member_is columns n types vs v =
      one_member (world_over clock s) (seen (world_over clock s) (with_new (Place n) (Member types vs v) state)) state.slots columns v
      ∙ ap₂ (λ look slots. member_shown (world_over clock s) look slots columns v)
      (ap (λ slots. sight (world_over clock s) ((Place n, Member types vs v) ∷ state.names) slots slots) shows.slots ∙ sym (look_over clock s state ((n, AMember types vs v) ∷ []) s.frame.accums s.frame.accums shows))
      shows.slots

  columns_are : (columns : List (Expr × Bytes)) (n : ℕ) (o : Option Thing) → shown (found o >>= selection (world_over clock s) state (Place n) (map view_keyed columns)) ≡ columns_shown clock s columns n o
  columns_are columns n None = refl
  columns_are columns n (Some (Variable b v)) = refl
  columns_are columns n (Some (EdgeRow r t)) = refl
  columns_are columns n (Some (Member types vs v)) = refl
  columns_are columns n (Some (SetOf types vs)) =
      list_value (out_member (world_over clock s) state (Place n) types (map view_keyed columns) vs) vs
      ∙ ap (λ p. p >>= λ os. Gives (out.List os)) (each_same (λ v. shown (out_member (world_over clock s) state (Place n) types (map view_keyed columns) vs v)) (member_at clock s columns n types vs) (member_is columns n types vs) vs)

  printed_is : (i : PrintItem) → (printed (world_over clock s) state (view_item i) >>= with_value) ≡ keyed_shown clock s i
  printed_is (item.Value t key) =
      keyed_value key (meaning (seen (world_over clock s) state) (view t) >>= out_meant (world_over clock s) state.slots)
      ∙ ap₂ (λ look slots. item_shown (world_over clock s) look slots (view t) >>= λ o. Gives (key, o)) (sym (look_shows clock s state shows)) shows.slots
  printed_is (item.Columns n columns key) =
      keyed_value key (found (under (world_over clock s).words.same (Place n) state.names) >>= selection (world_over clock s) state (Place n) (map view_keyed columns))
      ∙ ap (λ p. p >>= λ o. Gives (key, o)) (ap (λ o. shown (found o >>= selection (world_over clock s) state (Place n) (map view_keyed columns))) (shows.names (Place n)) ∙ columns_are columns n (thing_in s.frame.things n))

  pub all_printed : (items : List PrintItem) → (each (printed (world_over clock s) state) (map view_item items) >>= λ ms. Gives (built_print ms)) ≡ each (keyed_shown clock s) items
  all_printed items =
      sym (each_made (λ (m : Bytes × Out). (m.0, built m.1)) (printed (world_over clock s) state) (map view_item items))
      ∙ each_mapped (λ i. printed (world_over clock s) state i >>= with_value) view_item items
      ∙ each_same (λ i. printed (world_over clock s) state (view_item i) >>= with_value) (keyed_shown clock s) printed_is items
