-- ReadLemmas: literals, globals, and parts after a name.
use Rattle.std.proofs.Common.{◌≡◌, ℕ, ◌<◌, ◌≤◌, ◌^◌, Bool, true, if◌then◌else◌, List, [], ◌∷◌, length, get_or, Option, Some, None, refl, sym, ap, subst, ◌∙◌, arith}
use Rattle.std.specs.Prelude.{ℤ, pos, nat_lt, IfSome}
use Rattle.std.proofs.lemmas.Bool.Decides.{nat_tests}
use Rattle.gq_tree.specs.Tree as tree
use Rattle.gq_tree.specs.Tree.{Tree, Post}
use Rattle.gq_value.specs.Val.{Int, UInt}
use Rattle.gq_value.specs.Accums.{INT, UINT}
use Rattle.gq_graph.specs.declared.rows.Candidate.{Candidate}
use Rattle.gq_frame.specs.Names.{Placed, AVertex}
use Rattle.gq_rules_meaning.specs.Answers.{Gives, Faults, Stuck, ◌>>=◌}
use Rattle.gq_rules_meaning.specs.Calendars.{Calendar}
use Rattle.gq_rules_meaning.specs.Expressions.{Look, value_of, meaning_part}
use Rattle.gq_rules_meaning.specs.Meanings.{Outcome, Is, literal, value_of_meant, vertex_of_meant, as_truth}
use Rattle.gq_plan_ir.specs.declared.expr.Behind as code
use Rattle.gq_plan_ir.specs.declared.expr.Expr.{Expr}
use Rattle.gq_plan_ir.specs.declared.expr.Expr.TheVariants as expr
use Rattle.gq_plan_ir.specs.declared.expr.Behind.TheVariants as behind
use Rattle.gq_plan_ir.specs.declared.expr.Field.{Field}
use Rattle.gq_plan_ir.specs.ExprView.{view, view_behind, view_parts, field_of}
use Rattle.gq_plan_ir.specs.Reference.{Reference, Place, Slot}
use Rattle.gq_plan_ir.proofs.ViewLaws.{view-Name, view_behind-Field, view_behind-Attached}
use Rattle.gq_eval_builtins.proofs.ListSteps.{one_list}
use Rattle.gq_eval_context.specs.Viewed.{Over, viewed}
use Rattle.gq_eval_context.specs.Looks.{look_of}
use Rattle.gq_exec_contribute.specs.Aliases.{bound_to}
use Rattle.gq_frame.specs.declared.accums.Accums.{Accums}
use Rattle.gq_exec_contribute.specs.declared.leaves.Leaves.{Leaves}
use Rattle.gq_exec_contribute.specs.Prepared.{IsInt, IsTruth, IsVertex, ReadsInt, ReadsTruth, part_value, sees_in}
use Rattle.gq_exec_contribute.proofs.NameLemmas.{named}

-- ---- literals and globals

pub number_meant : (n : ℕ) → n < 2 ^ 63 → (literal n >>= value_of_meant) ≡ Gives (Int (pos n))
number_meant n h = ap (λ b. (if b then Gives (Is INT (Int (pos n))) else Gives (Is UINT (UInt n))) >>= value_of_meant) (small n h)
  where
    small : (n : ℕ) → n < 2 ^ 63 → nat_lt n (2 ^ 63) ≡ true
    small n h = grind (arith, nat_tests)

pub number_is : (look : Look Reference) (n : ℕ) (z : ℤ) → n < 2 ^ 63 → z ≡ pos n → IsInt look (tree.Number n) z
number_is look n z h same = number_meant n h ∙ ap (λ x. Gives (Int x)) (sym same)

pub global_int : (clock : Calendar) (o : Over) (l : Leaves) (accums : Accums) (c : Candidate) (n : ℕ) (r : Option ℤ) → IfSome r (ReadsInt clock o accums n 0) → IfSome r (IsInt (sees_in clock o l accums c) (tree.Global (Slot n)))
global_int clock o l accums c n None h = tt
global_int clock o l accums c n (Some x) h = ap (λ o. o >>= value_of_meant) h

pub global_truth : (clock : Calendar) (o : Over) (l : Leaves) (accums : Accums) (c : Candidate) (n : ℕ) (r : Option Bool) → IfSome r (ReadsTruth clock o accums n 0) → IfSome r (IsTruth (sees_in clock o l accums c) (tree.Global (Slot n)))
global_truth clock o l accums c n None h = tt
global_truth clock o l accums c n (Some x) h = ap (λ o. o >>= value_of_meant >>= as_truth) h

pub ruleset int_laws = (global_int)

-- ---- one part after a name

last : (o : Outcome) → ((o >>= λ n. Gives n) >>= value_of_meant) ≡ (o >>= value_of_meant)
last (Gives m) = refl
last (Faults w) = refl
last Stuck = refl

pub behind_name : (look : Look Reference) (p : ℕ) (b : code.Behind) → value_of look (Post (tree.Name (Place p)) (view_parts (b ∷ []))) ≡ part_value look p (view_behind b)
behind_name look p b = go (look.named (Place p))
  where
    go : (o : Outcome) → (o >>= (λ m. meaning_part look m (view_behind b) >>= λ n. Gives n) >>= value_of_meant) ≡ (o >>= λ m. meaning_part look m (view_behind b) >>= value_of_meant)
    go (Gives m) = last (meaning_part look m (view_behind b))
    go (Faults w) = refl
    go Stuck = refl

part_is : (look : Look Reference) (first : Expr) (parts : List code.Behind) (p : ℕ) (b : code.Behind) → first ≡ expr.Name p → 1 ≤ length parts → length parts < 2 → b ≡ get_or parts 0 b → value_of look (Post (view first) (view_parts parts)) ≡ part_value look p (view_behind b)
part_is look first parts p b is m n at =
    ap (λ f. value_of look (Post (view f) (view_parts parts))) is
    ∙ ap (λ ps. value_of look (Post (view (expr.Name p)) (view_parts ps))) (one_list parts b m n at)
    ∙ ap (λ t. value_of look (Post t (view_parts (b ∷ [])))) (view-Name p)
    ∙ behind_name look p b

pub int_post : (look : Look Reference) (first : Expr) (parts : List code.Behind) (p : ℕ) (b : code.Behind) (r : Option ℤ) → first ≡ expr.Name p → 1 ≤ length parts → length parts < 2 → b ≡ get_or parts 0 b
    → IfSome r (λ x. part_value look p (view_behind b) ≡ Gives (Int x)) → IfSome r (IsInt look (Post (view first) (view_parts parts)))
int_post look first parts p b None is m n at h = tt
int_post look first parts p b (Some x) is m n at h = part_is look first parts p b is m n at ∙ h

pub ruleset post_laws = (int_post)

-- ---- a field, and an accumulator

pub int_field : (look : Look Reference) (p : ℕ) (b : code.Behind) (f : Field) (r : Option ℤ) → b ≡ behind.Field f → IfSome r (λ x. part_value look p (tree.Field (field_of f)) ≡ Gives (Int x)) → IfSome r (λ x. part_value look p (view_behind b) ≡ Gives (Int x))
int_field look p b f None e h = tt
int_field look p b f (Some x) e h = ap (part_value look p) (ap view_behind e ∙ view_behind-Field f) ∙ h

pub attached_is : (clock : Calendar) (o : Over) (l : Leaves) (accums : Accums) (c : Candidate) (p n v : ℕ) (b : code.Behind) → b ≡ behind.Attached n → IsVertex l c p v
    → part_value (sees_in clock o l accums c) p (view_behind b) ≡ ((sees_in clock o l accums c).attached (Slot n) v >>= value_of_meant)
attached_is clock o l accums c p n v b e at =
    ap (part_value (sees_in clock o l accums c) p) (ap view_behind e ∙ view_behind-Attached n)
    ∙ ap (λ m. m >>= λ m. (vertex_of_meant m >>= (sees_in clock o l accums c).attached (Slot n)) >>= value_of_meant) (named clock o l accums c p (AVertex at.0 v) at.1)

pub int_attached : (clock : Calendar) (o : Over) (l : Leaves) (accums : Accums) (c : Candidate) (p n v : ℕ) (b : code.Behind) (r : Option ℤ) → b ≡ behind.Attached n → IsVertex l c p v → IfSome r (ReadsInt clock o accums n v)
    → IfSome r (λ x. part_value (sees_in clock o l accums c) p (view_behind b) ≡ Gives (Int x))
int_attached clock o l accums c p n v b None e at h = tt
int_attached clock o l accums c p n v b (Some x) e at h = attached_is clock o l accums c p n v b e at ∙ ap (λ o. o >>= value_of_meant) h

pub ruleset part_laws = (int_field, int_attached)

-- ---- evaluated leaves

pub evaluated_own : (clock : Calendar) (o : Over) (l : Leaves) (accums : Accums) (c : Candidate) (t : Tree Reference) (aliases : List (ℕ × Placed)) (r : Option ℤ) → aliases ≡ bound_to l.ends.now l.edge c
    → IfSome r (IsInt (look_of clock (viewed o aliases accums o.frame.accums)) t) → IfSome r (IsInt (sees_in clock o l accums c) t)
evaluated_own clock o l accums c t aliases r e h = subst (λ (names : List (ℕ × Placed)). IfSome r (IsInt (look_of clock (viewed o names accums o.frame.accums)) t)) e h
