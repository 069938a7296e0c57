-- LocalLemmas: declarations, one after the other.
use Rattle.std.proofs.Common.{◌≡◌, ℕ, ◌+◌, ◌<◌, ◌≤◌, List, ◌∷◌, drop, length, get_or, true, Option, Some, Ok, Err, refl, sym, ap, subst, ◌∙◌}
use Rattle.std.specs.List.{list_any}
use Rattle.std.specs.Prelude.{◌==◌, if◌then◌else◌}
use Rattle.std.specs.Option.{option_map}
use Rattle.std.proofs.lemmas.List.{drop_more, drop_all}
use Rattle.gq_tree.specs.Tree.{Tree}
use Rattle.gq_rules_typing.specs.Statements.{BaseTree}
use Rattle.gq_value.specs.declared.kind.BaseType.{BaseType}
use Rattle.gq_value.specs.declared.value.Value.{Value}
use Rattle.gq_value.specs.AccumViews.{base_of}
use Rattle.gq_value.specs.Accums.{Base}
use Rattle.gq_value.specs.Val.{Val}
use Rattle.gq_value.specs.Views.{val}
use Rattle.gq_rules_meaning.specs.Answers.{Gives, Stuck, ◌>>=◌, blaming, found, through}
use Rattle.gq_rules_meaning.specs.Calendars.{Calendar}
use Rattle.gq_rules_meaning.specs.Expressions.{World}
use Rattle.gq_rules_meaning.specs.States.{State, Variable, with_new, seen}
use Rattle.gq_rules_meaning.specs.Statements.{Evaluation, base_of_tree, local_value, with_local}
use Rattle.gq_plan_ir.specs.declared.expr.Expr.{Expr}
use Rattle.gq_plan_ir.specs.declared.plan.Declared.{Declared}
use Rattle.gq_plan_ir.specs.declared.plan.Declared.TheVariants as declared
use Rattle.gq_plan_ir.specs.ExprView.{view}
use Rattle.gq_plan_ir.specs.PlanView.{view_declared, view_locals}
use Rattle.gq_plan_ir.specs.Reference.{Reference, Place}
use Rattle.gq_frame.specs.declared.live.Live.{Live}
use Rattle.gq_frame.specs.Lives.{Lives}
use Rattle.gq_exec_control.specs.declared.running.RunFault.{RunFault}
use Rattle.gq_exec_control.specs.declared.running.RunFault.TheVariants as fault
use Rattle.gq_exec_control.proofs.FaultLemmas.{ends_bind, ends_same}
use Rattle.gq_exec_control.specs.Contexts.{Basis, world_on}
use Rattle.gq_exec_control.specs.Changes.{Becomes, Reads}
use Rattle.gq_exec_control.proofs.ContextLemmas.{shows_of}
use Rattle.gq_exec_control.proofs.Steps.{bound, unblamed}
use Rattle.gq_exec_control.specs.Locals.{declared_all, declared_one, base_declared, IsKnown, IsUnknown}

-- ---- the type

own_there : (own : List ℕ) (t : ℕ) → list_any (λ m. m == t) own ≡ true → (if list_any (λ m. m == t) own then Some t else Option.None) ≡ Some t
own_there own t e = ap (λ b. if b then Some t else Option.None) e

pub base_known : (clock : Calendar) (b : Basis) (d : Declared) → IsKnown b.plan.vertices d → base_of_tree (world_on clock b) (view_declared d) ≡ Gives (base_declared d)
base_known clock b declared.Int k = refl
base_known clock b declared.UInt k = refl
base_known clock b declared.Bool k = refl
base_known clock b declared.Text k = refl
base_known clock b declared.AnyVertex k = refl
base_known clock b (declared.VertexOf t) k = ap (λ c. found (if c then Some t else Option.None) >>= λ n. Gives (base_declared (declared.VertexOf n))) k

pub base_unknown : (clock : Calendar) (b : Basis) (d : Declared) → IsUnknown b.plan.vertices d → base_of_tree (world_on clock b) (view_declared d) ≡ Stuck
base_unknown clock b declared.Int k = absurd k
base_unknown clock b declared.UInt k = absurd k
base_unknown clock b declared.Bool k = absurd k
base_unknown clock b declared.Text k = absurd k
base_unknown clock b declared.AnyVertex k = absurd k
base_unknown clock b (declared.VertexOf t) k = ap (λ c. found (if c then Some t else Option.None) >>= λ n. Gives (base_declared (declared.VertexOf n))) k

pub type_stops : (clock : Calendar) (b : Basis) (d : Declared) (xs : List (Reference × Option (Tree Reference))) (old new : Live) → IsUnknown b.plan.vertices d
    → Becomes (declared_all (world_on clock b) (view_declared d) xs) old new (Err fault.Stuck)
type_stops clock b d xs old new k = record {
  each = λ s l. ap (λ o. blaming Evaluation o >>= λ c. blaming Evaluation (through (with_local (world_on clock b) c) s xs)) (base_unknown clock b d k);
}

-- ---- one variable

module _ (world : World Reference) (place : ℕ) (base : Base) (local : Option (Tree Reference)) where
  -- the state after the variable is declared with a value
  abbrev with_value : State Reference → Val → State Reference
  with_value s v = with_new (Place place) (Variable base v) s

  one_is : (s : State Reference) → declared_one world base (Place place, local) s ≡ (blaming Evaluation (local_value (seen world s) base local) >>= λ v. Gives (with_value s v))
  one_is s = bound (local_value (seen world s) base local) (λ v. Gives (with_value s v))

  pub one_stops : (old new : Live) (e : RunFault) → Reads val (λ s. blaming Evaluation (local_value (seen world s) base local)) old.frame (Err e) → Becomes (declared_one world base (Place place, local)) old new (Err e)
  one_stops old new e r = record {
    each = λ s l.
        ends_same (declared_one world base (Place place, local) s) (blaming Evaluation (local_value (seen world s) base local) >>= λ v. Gives (with_value s v)) e (one_is s)
        (ends_bind (blaming Evaluation (local_value (seen world s) base local)) (λ v. Gives (with_value s v)) e (r.each s (shows_of old s l)));
  }

  pub one_done : (old new : Live) (held : BaseType) (value : Value) → base_of held ≡ base
      → Reads val (λ s. blaming Evaluation (local_value (seen world s) base local)) old.frame (Ok value)
      → ((s : State Reference) → Lives old s → Lives new (with_new (Place place) (Variable (base_of held) (val value)) s))
      → Becomes (declared_one world base (Place place, local)) old new (Ok tt)
  one_done old new held value is r lives = record {
    each = λ s l. (
      with_value s (val value),
      one_is s ∙ ap (λ o. o >>= λ v. Gives (with_value s v)) (r.each s (shows_of old s l)),
      subst (λ (b : Base). Lives new (with_new (Place place) (Variable b (val value)) s)) is (lives s l),
    );
  }

-- ---- one after the other

-- a prefix of the variables is declared, and the rest remains to be declared
pub record Declares (world : World Reference) (base : Base) (all rest : List (ℕ × Option Expr)) (old now : Live) : Type 0 where
  pub each : (s : State Reference) → Lives old s → (t : State Reference) × (through (with_local world base) s (view_locals all) ≡ through (with_local world base) t (view_locals rest)) × Lives now t

module _ (world : World Reference) (base : Base) (all : List (ℕ × Option Expr)) (old : Live) where
  pub none_declared : Declares world base all all old old
  none_declared = record { each = λ s l. (s, refl, l) }

  next_is : (i : ℕ) (x : ℕ × Option Expr) (t : State Reference) → i < length all → x ≡ get_or all i x
      → through (with_local world base) t (view_locals (drop i all)) ≡ (with_local world base t (Place x.0, option_map view x.1) >>= λ u. through (with_local world base) u (view_locals (drop (i + 1) all)))
  next_is i x t l e = ap (λ xs. through (with_local world base) t (view_locals xs)) (drop_more all i x l ∙ ap (λ y. y ∷ drop (i + 1) all) (sym e))

  pub more_declared : (i : ℕ) (x : ℕ × Option Expr) (mid new : Live) → i < length all → x ≡ get_or all i x → Declares world base all (drop i all) old mid
      → Becomes (declared_one world base (Place x.0, option_map view x.1)) mid new (Ok tt) → Declares world base all (drop (i + 1) all) old new
  more_declared i x mid new n e g d = record {
    each = λ s l.
        let h = g.each s l in
        let k = d.each h.0 h.2 in
        (k.0, h.1 ∙ next_is i x h.0 n e ∙ ap (λ o. o >>= λ u. through (with_local world base) u (view_locals (drop (i + 1) all))) (unblamed (with_local world base h.0 (Place x.0, option_map view x.1)) k.0 k.1), k.2);
  }

  whole_is : (tree : BaseTree Reference) (s : State Reference) → base_of_tree world tree ≡ Gives base → declared_all world tree (view_locals all) s ≡ blaming Evaluation (through (with_local world base) s (view_locals all))
  whole_is tree s e = ap (λ o. blaming Evaluation o >>= λ b. blaming Evaluation (through (with_local world b) s (view_locals all))) e

  pub next_stops : (tree : BaseTree Reference) (i : ℕ) (x : ℕ × Option Expr) (mid new other : Live) (e : RunFault) → base_of_tree world tree ≡ Gives base → i < length all → x ≡ get_or all i x → Declares world base all (drop i all) old mid
      → Becomes (declared_one world base (Place x.0, option_map view x.1)) mid new (Err e) → Becomes (declared_all world tree (view_locals all)) old other (Err e)
  next_stops tree i x mid new other e is n same g d = record {
    each = λ s l.
        let h = g.each s l in
        ends_same (declared_all world tree (view_locals all) s) (declared_one world base (Place x.0, option_map view x.1) h.0 >>= λ u. blaming Evaluation (through (with_local world base) u (view_locals (drop (i + 1) all)))) e
        (whole_is tree s is ∙ ap (blaming Evaluation) (h.1 ∙ next_is i x h.0 n same) ∙ bound (with_local world base h.0 (Place x.0, option_map view x.1)) (λ u. through (with_local world base) u (view_locals (drop (i + 1) all))))
        (ends_bind (declared_one world base (Place x.0, option_map view x.1) h.0) (λ u. blaming Evaluation (through (with_local world base) u (view_locals (drop (i + 1) all)))) e (d.each h.0 h.2));
  }

  pub all_declared : (tree : BaseTree Reference) (i : ℕ) (now : Live) → base_of_tree world tree ≡ Gives base → length all ≤ i → Declares world base all (drop i all) old now → Becomes (declared_all world tree (view_locals all)) old now (Ok tt)
  all_declared tree i now is n g = record {
    each = λ s l.
        let h = g.each s l in
        (h.0, whole_is tree s is ∙ ap (blaming Evaluation) (h.1 ∙ ap (λ xs. through (with_local world base) h.0 (view_locals xs)) (drop_all i all n)), h.2);
  }
