-- NameLemmas: names and fields.
use Rattle.std.proofs.Common.{◌≡◌, ℕ, ◌==◌, Bool, true, false, if◌then◌else◌, List, ◌++◌, Option, Some, None, refl, sym, ap, ap₂, subst, ◌∙◌}
use Rattle.std.specs.Prelude.{ℤ, IfSome, slice_get, Ok}
use Rattle.std.specs.Option.{option_map, option_or, option_to_list}
use Rattle.gq_value.specs.Val.{Int, Truth}
use Rattle.gq_value.specs.Views.{val}
use Rattle.gq_value.specs.AccumViews.{base_of}
use Rattle.gq_value.specs.declared.value.Value.{Value}
use Rattle.gq_value.specs.declared.kind.BaseType.{BaseType}
use Rattle.gq_graph.specs.declared.rows.Candidate.{Candidate}
use Rattle.gq_index.specs.declared.store.Graph as code
use Rattle.gq_tree.specs.Tree as tree
use Rattle.gq_tree.specs.Tree.{Tree}
use Rattle.gq_tree.specs.declared.expr.CmpSign.{CmpSign}
use Rattle.gq_plan_ir.specs.declared.expr.Behind as code_behind
use Rattle.gq_plan_ir.specs.declared.expr.Expr.{Expr}
use Rattle.gq_plan_ir.specs.declared.expr.Expr.TheVariants as expr
use Rattle.gq_plan_ir.proofs.ViewLaws.{view-Name, view-Post, view-Cmp, view-Not, view-And, view-Or}
use Rattle.gq_rules_meaning.specs.Answers.{Gives, ◌>>=◌}
use Rattle.gq_rules_meaning.specs.Calendars.{Calendar}
use Rattle.gq_rules_meaning.specs.Meanings.{Is, Outcome, value_of_meant, as_truth}
use Rattle.gq_rules_meaning.specs.Expressions.{World}
use Rattle.gq_rules_meaning.specs.States as states
use Rattle.gq_plan_ir.specs.declared.expr.Field.{Field}
use Rattle.gq_plan_ir.specs.declared.plan.Plan.{Plan}
use Rattle.gq_plan_ir.specs.ExprView.{view, views, view_parts, field_of}
use Rattle.gq_plan_ir.specs.PlanView.{accum_names}
use Rattle.gq_plan_ir.specs.Reference.{Reference, Place}
use Rattle.gq_plan_ir.specs.Words.{under}
use Rattle.gq_eval_attributes.specs.declared.tuple_type.TupleType.{TupleType}
use Rattle.gq_eval_attributes.specs.Reads.{IsReadInt}
use Rattle.gq_eval_attributes.specs.Tuples.{tuples_are}
use Rattle.gq_eval_attributes.specs.Worlds.{InWorld, graph_is}
use Rattle.gq_eval_operand.specs.Meant.{meant}
use Rattle.gq_eval_operand.specs.declared.seen.Seen.{Seen}
use Rattle.gq_plan_ir.specs.Belonging.{world_of}
use Rattle.gq_frame.specs.declared.frame.Frame.{Frame}
use Rattle.gq_frame.specs.declared.frame.Thing.TheVariants as thing
use Rattle.gq_frame.specs.Names.{Placed, AVertex, AnEdge, thing_of, thing_in, thing_meant, held_thing}
use Rattle.gq_eval_context.specs.Viewed.{Over}
use Rattle.gq_exec_source.specs.declared.ends.End.{End}
use Rattle.gq_exec_source.specs.declared.ends.Ends.{Ends}
use Rattle.gq_exec_source.specs.Ends.{end_things}
use Rattle.gq_frame.specs.declared.accums.Accums.{Accums}
use Rattle.gq_exec_contribute.specs.declared.leaves.Leaves.{Leaves}
use Rattle.gq_exec_contribute.specs.Aliases.{target_bound, edge_bound, bound_to}
use Rattle.gq_exec_contribute.specs.Prepared.{is_at, IsEdge, NoAlias, IsVertex, IsHeld, IsHeldInt, IsHeldTruth, IsInt, IsTruth, part_value, sees_in}

-- ---- aliases by their places

-- an alias with another place is skipped
past_end : (p : ℕ) (e : End) (v : ℕ) (rest : List (ℕ × Placed)) → is_at e.alias p ≡ false → under ◌==◌ p (option_to_list (end_things e v) ++ rest) ≡ under ◌==◌ p rest
past_end p e v rest h = go e.alias h
  where
    go : (a : Option ℕ) → is_at a p ≡ false → under ◌==◌ p (option_to_list (option_map (λ (place : ℕ). (place, AVertex e.types v)) a) ++ rest) ≡ under ◌==◌ p rest
    go None h = refl
    go (Some q) h = ap (λ b. if b then Some (AVertex e.types v) else under ◌==◌ p rest) h

past_target : (p : ℕ) (e : End) (t : Option ℕ) (rest : List (ℕ × Placed)) → is_at e.alias p ≡ false → under ◌==◌ p (option_to_list (target_bound e t) ++ rest) ≡ under ◌==◌ p rest
past_target p e None rest h = refl
past_target p e (Some v) rest h = past_end p e v rest h

past_edge : (p : ℕ) (edge row kind : Option ℕ) (rest : List (ℕ × Placed)) → is_at edge p ≡ false → under ◌==◌ p (option_to_list (edge_bound edge row kind) ++ rest) ≡ under ◌==◌ p rest
past_edge p None row kind rest h = refl
past_edge p (Some q) None kind rest h = refl
past_edge p (Some q) (Some r) None rest h = refl
past_edge p (Some q) (Some r) (Some t) rest h = ap (λ b. if b then Some (AnEdge r t) else under ◌==◌ p rest) h

at_end : (p : ℕ) (e : End) (v : ℕ) (rest : List (ℕ × Placed)) → is_at e.alias p ≡ true → under ◌==◌ p (option_to_list (end_things e v) ++ rest) ≡ Some (AVertex e.types v)
at_end p e v rest h = go e.alias h
  where
    go : (a : Option ℕ) → is_at a p ≡ true → under ◌==◌ p (option_to_list (option_map (λ (place : ℕ). (place, AVertex e.types v)) a) ++ rest) ≡ Some (AVertex e.types v)
    go None h = absurd (cc h)
    go (Some q) h = ap (λ b. if b then Some (AVertex e.types v) else under ◌==◌ p rest) h

at_source : (p : ℕ) (e : End) (v : ℕ) → is_at e.alias p ≡ true → under ◌==◌ p (option_to_list (end_things e v)) ≡ Some (AVertex e.types v)
at_source p e v h = go e.alias h
  where
    go : (a : Option ℕ) → is_at a p ≡ true → under ◌==◌ p (option_to_list (option_map (λ (place : ℕ). (place, AVertex e.types v)) a)) ≡ Some (AVertex e.types v)
    go None h = absurd (cc h)
    go (Some q) h = ap (λ b. if b then Some (AVertex e.types v) else None) h

at_edge : (p : ℕ) (edge : Option ℕ) (r t : ℕ) (rest : List (ℕ × Placed)) → is_at edge p ≡ true → under ◌==◌ p (option_to_list (edge_bound edge (Some r) (Some t)) ++ rest) ≡ Some (AnEdge r t)
at_edge p None r t rest h = absurd (cc h)
at_edge p (Some q) r t rest h = ap (λ b. if b then Some (AnEdge r t) else under ◌==◌ p rest) h

past_source : (p : ℕ) (e : End) (v : ℕ) → is_at e.alias p ≡ false → under ◌==◌ p (option_to_list (end_things e v)) ≡ None
past_source p e v h = go e.alias h
  where
    go : (a : Option ℕ) → is_at a p ≡ false → under ◌==◌ p (option_to_list (option_map (λ (place : ℕ). (place, AVertex e.types v)) a)) ≡ None
    go None h = refl
    go (Some q) h = ap (λ b. if b then Some (AVertex e.types v) else None) h

module _ (ends : Ends) (edge : Option ℕ) (c : Candidate) (p : ℕ) where
  target_there : (v : ℕ) → is_at ends.target.alias p ≡ true → c.target ≡ Some v → under ◌==◌ p (bound_to ends edge c) ≡ Some (AVertex ends.target.types v)
  target_there v h e = ap (λ t. under ◌==◌ p (option_to_list (target_bound ends.target t) ++ (option_to_list (edge_bound edge c.edge c.kind) ++ option_to_list (end_things ends.source c.source)))) e ∙ at_end p ends.target v _ h

  edge_there : (r t : ℕ) → is_at ends.target.alias p ≡ false → is_at edge p ≡ true → c.edge ≡ Some r → c.kind ≡ Some t → under ◌==◌ p (bound_to ends edge c) ≡ Some (AnEdge r t)
  edge_there r t n h e k =
      past_target p ends.target c.target _ n
      ∙ ap₂ (λ row kind. under ◌==◌ p (option_to_list (edge_bound edge row kind) ++ option_to_list (end_things ends.source c.source))) e k
      ∙ at_edge p edge r t (option_to_list (end_things ends.source c.source)) h

  source_there : is_at ends.target.alias p ≡ false → is_at edge p ≡ false → is_at ends.source.alias p ≡ true → under ◌==◌ p (bound_to ends edge c) ≡ Some (AVertex ends.source.types c.source)
  source_there n m h = past_target p ends.target c.target _ n ∙ past_edge p edge c.edge c.kind _ m ∙ at_source p ends.source c.source h

  none_there : is_at ends.target.alias p ≡ false → is_at edge p ≡ false → is_at ends.source.alias p ≡ false → under ◌==◌ p (bound_to ends edge c) ≡ None
  none_there n m k = past_target p ends.target c.target _ n ∙ past_edge p edge c.edge c.kind _ m ∙ past_source p ends.source c.source k

-- ---- a vertex

pub target_is : (l : Leaves) (c : Candidate) (p : ℕ) (v : Option ℕ) → is_at l.ends.now.target.alias p ≡ true → c.target ≡ v → IfSome v (IsVertex l c p)
target_is l c p None h e = tt
target_is l c p (Some v) h e = (l.ends.now.target.types, target_there l.ends.now l.edge c p v h e)

pub source_is : (l : Leaves) (c : Candidate) (p : ℕ) → is_at l.ends.now.target.alias p ≡ false → is_at l.edge p ≡ false → is_at l.ends.now.source.alias p ≡ true → IsVertex l c p c.source
source_is l c p n m h = (l.ends.now.source.types, source_there l.ends.now l.edge c p n m h)

pub ruleset vertex_laws = (target_is, source_is)

-- ---- contexts

pub named : (clock : Calendar) (o : Over) (l : Leaves) (accums : Accums) (c : Candidate) (p : ℕ) (x : Placed) → under ◌==◌ p (bound_to l.ends.now l.edge c) ≡ Some x → (sees_in clock o l accums c).named (Place p) ≡ Gives (states.meant (thing_of x))
named clock o l accums c p x e = ap (λ u. thing_meant (option_or (option_map thing_of u) (thing_in o.frame.things p))) e

module _ (clock : Calendar) (g : code.Graph) (plan : Plan) (tuples : List TupleType) (frame : Frame) (l : Leaves) (accums : Accums) (c : Candidate) (p : ℕ) where
  abbrev pub o : Over
  o = record { schema = g.catalog.now; vertices = g.store.now.vertices; edges = g.store.now.edges; plan = plan; tuples = tuples; frame = frame }

  pub vertex_read : (field : Field) (v : ℕ) (r : Option ℤ) → IsVertex l c p v → IsReadInt g (λ world. states.vertex_field world (field_of field) v) r → IfSome r (λ x. part_value (sees_in clock o l accums c) p (tree.Field (field_of field)) ≡ Gives (Int x))
  vertex_read field v None at h = tt
  vertex_read field v (Some x) at h = ap (λ m. m >>= λ m. (sees_in clock o l accums c).field m (field_of field) >>= value_of_meant) (named clock o l accums c p (AVertex at.0 v) at.1) ∙ h.each plan.vertices plan.edges (accum_names plan) (tuples_are tuples) clock

  pub edge_read : (field : Field) (row kind : ℕ) (r : Option ℤ) → IsEdge l p → c.edge ≡ Some row → c.kind ≡ Some kind → IsReadInt g (λ world. states.edge_field world (field_of field) row kind) r
      → IfSome r (λ x. part_value (sees_in clock o l accums c) p (tree.Field (field_of field)) ≡ Gives (Int x))
  edge_read field row kind None at e k h = tt
  edge_read field row kind (Some x) at e k h = ap (λ m. m >>= λ m. (sees_in clock o l accums c).field m (field_of field) >>= value_of_meant) (named clock o l accums c p (AnEdge row kind) (edge_there l.ends.now l.edge c p row kind at.0 at.1 e k)) ∙ h.each plan.vertices plan.edges (accum_names plan) (tuples_are tuples) clock

-- ---- a field of a vertex that isn't an INT attribute

pub field_seen : (g : code.Graph) (meaning : World Reference → Outcome) (s : Seen) (r : Option ℤ) → InWorld g meaning (Ok s) → IfSome r (λ x. value_of_meant (meant s) ≡ Gives (Int x)) → IsReadInt g meaning r
field_seen g meaning s r h is = record { each = λ vertices edges names tuples clock. go (meaning (world_of names tuples (graph_is g vertices edges) clock)) r is (h.each vertices edges names tuples clock) }
  where
    go : (o : Outcome) (r : Option ℤ) → IfSome r (λ x. value_of_meant (meant s) ≡ Gives (Int x)) → o ≡ Gives (meant s) → IfSome r (λ x. (o >>= value_of_meant) ≡ Gives (Int x))
    go o None is e = tt
    go o (Some x) is e = ap (λ o. o >>= value_of_meant) e ∙ is

pub none_read : (g : code.Graph) (meaning : World Reference → Outcome) → IsReadInt g meaning None
none_read g meaning = record { each = λ vertices edges names tuples clock. tt }

pub ruleset field_laws = (field_seen, none_read)

-- ---- a variable

pub held_named : (clock : Calendar) (o : Over) (l : Leaves) (accums : Accums) (c : Candidate) (p : ℕ) (v : Value) → (h : IsHeld o l p v) → (sees_in clock o l accums c).named (Place p) ≡ Gives (Is (base_of h.base) (val v))
held_named clock o l accums c p v h =
    ap (λ u. thing_meant (option_or (option_map thing_of u) (thing_in o.frame.things p))) (none_there l.ends.now l.edge c p h.none.target h.none.edge h.none.source)
    ∙ ap (λ x. thing_meant (held_thing x)) h.there

pub held_made : (o : Over) (l : Leaves) (p : ℕ) (b : BaseType) (v : Value) → NoAlias l p → slice_get o.frame.things p ≡ Some (Some (thing.Value b v)) → IsHeld o l p v
held_made o l p b v none there = record { none = none; base = b; there = there }

pub int_variable : (o : Over) (l : Leaves) (p : ℕ) (v : Value) (r : Option ℤ) → IsHeld o l p v → IfSome r (λ x. val v ≡ Int x) → IfSome r (IsHeldInt o l p)
int_variable o l p v None h e = tt
int_variable o l p v (Some x) h e = record { value = v; variable = h; is = e }

pub truth_variable : (o : Over) (l : Leaves) (p : ℕ) (v : Value) (r : Option Bool) → IsHeld o l p v → IfSome r (λ b. val v ≡ Truth b) → IfSome r (IsHeldTruth o l p)
truth_variable o l p v None h e = tt
truth_variable o l p v (Some b) h e = record { value = v; variable = h; is = e }

pub ruleset variable_laws = (int_variable, truth_variable)

pub int_name : (clock : Calendar) (o : Over) (l : Leaves) (accums : Accums) (c : Candidate) (p : ℕ) (r : Option ℤ) → IfSome r (IsHeldInt o l p) → IfSome r (IsInt (sees_in clock o l accums c) (tree.Name (Place p)))
int_name clock o l accums c p None h = tt
int_name clock o l accums c p (Some x) h = ap (λ o. o >>= value_of_meant) (held_named clock o l accums c p h.value h.variable) ∙ ap Gives h.is

pub truth_name : (clock : Calendar) (o : Over) (l : Leaves) (accums : Accums) (c : Candidate) (p : ℕ) (r : Option Bool) → IfSome r (IsHeldTruth o l p) → IfSome r (IsTruth (sees_in clock o l accums c) (tree.Name (Place p)))
truth_name clock o l accums c p None h = tt
truth_name clock o l accums c p (Some b) h = ap (λ o. o >>= value_of_meant >>= as_truth) (held_named clock o l accums c p h.value h.variable) ∙ ap as_truth h.is

-- ---- views of the code's expressions

pub moved : {A : Type 0} (P : Tree Reference → A → Type 0) (s t : Tree Reference) (r : Option A) → s ≡ t → IfSome r (P t) → IfSome r (P s)
moved P s t r e h = subst (λ t. IfSome r (P t)) (sym e) h

pub name_view : (e : Expr) (p : ℕ) → e ≡ expr.Name p → view e ≡ tree.Name (Place p)
name_view e p is = ap view is ∙ view-Name p

pub post_view : (e first g : Expr) (parts ps : List code_behind.Behind) → e ≡ expr.Post first parts → g ≡ first → ps ≡ parts → view e ≡ tree.Post (view g) (view_parts ps)
post_view e first g parts ps is s t = ap view is ∙ view-Post first parts ∙ ap₂ (λ f p. tree.Post (view f) (view_parts p)) (sym s) (sym t)

pub cmp_view : (e a g b h : Expr) (s : CmpSign) → e ≡ expr.Cmp a s b → g ≡ a → h ≡ b → view e ≡ tree.Cmp (view g) s (view h)
cmp_view e a g b h s is t u = ap view is ∙ view-Cmp a s b ∙ ap₂ (λ x y. tree.Cmp (view x) s (view y)) (sym t) (sym u)

pub not_view : (e a g : Expr) (n : ℕ) → e ≡ expr.Not n a → g ≡ a → view e ≡ tree.Not n (view g)
not_view e a g n is t = ap view is ∙ view-Not n a ∙ ap (λ x. tree.Not n (view x)) (sym t)

pub and_view : (e a g : Expr) (xs ys : List Expr) → e ≡ expr.And a xs → g ≡ a → ys ≡ xs → view e ≡ tree.And (view g) (views ys)
and_view e a g xs ys is t u = ap view is ∙ view-And a xs ∙ ap₂ (λ x zs. tree.And (view x) (views zs)) (sym t) (sym u)

pub or_view : (e a g : Expr) (xs ys : List Expr) → e ≡ expr.Or a xs → g ≡ a → ys ≡ xs → view e ≡ tree.Or (view g) (views ys)
or_view e a g xs ys is t u = ap view is ∙ view-Or a xs ∙ ap₂ (λ x zs. tree.Or (view x) (views zs)) (sym t) (sym u)
