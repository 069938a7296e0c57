-- ColumnLemmas: a set with columns, vertex after vertex.
use Rattle.std.proofs.Common.{◌≡◌, ℕ, zero, suc, ◌+◌, ◌<◌, ◌≤◌, List, [], ◌∷◌, ◌++◌, length, get_or, false, Option, Some, None, Result, refl, sym, ap, subst, ◌∙◌, arith}
use Rattle.gq_json.specs.declared.out.Out as json
use Rattle.gq_json.specs.declared.out.Out.TheVariants as out
use Rattle.gq_rules_typing.specs.Statements.{Bytes}
use Rattle.gq_rules_meaning.specs.Answers.{Gives, Stuck, ◌>>=◌, each}
use Rattle.gq_rules_meaning.specs.Calendars.{Calendar}
use Rattle.gq_rules_meaning.specs.Expressions.{World, Look}
use Rattle.gq_rules_meaning.specs.Statements.{is_set}
use Rattle.gq_rules_meaning.specs.States.{Slot, Thing, Variable, SetOf, EdgeRow, Member}
use Rattle.gq_plan_ir.specs.declared.expr.Expr.{Expr}
use Rattle.gq_plan_ir.specs.Reference.{Reference}
use Rattle.gq_eval_operand.specs.declared.halt.Halt.{Halt}
use Rattle.gq_eval_operand.specs.Meant.{itself, Halts, Tells}
use Rattle.gq_eval_context.specs.Viewed.{Over}
use Rattle.gq_output.specs.Vertices.{vertex_shown}
use Rattle.gq_output.proofs.EachLemmas.{EachFrom, each_first, each_next, each_all}
use Rattle.gq_output.proofs.NamedLemmas.{at_get}
use Rattle.gq_output.specs.Items.{members_shown, member_shown, member_at, columns_shown}
use Rattle.gq_output.proofs.EachSteps.{stops, each_stops}

module _ (world : World Reference) (look : Look Reference) (slots : List (Slot Reference)) (columns : List (Expr × Bytes)) (v : ℕ) where
  pub member_told : (ms : List (Bytes × json.Out)) (r : Result json.Out Halt) → members_shown world look slots columns ≡ Gives ms → Tells itself (vertex_shown world v ms) r → Tells itself (member_shown world look slots columns v) r
  member_told ms r e told = subst (λ o. Tells (itself {A = json.Out}) o r) (sym (ap (λ p. p >>= vertex_shown world v) e)) told

  pub member_stops : (h : Halt) → Halts (members_shown world look slots columns) h → Halts (member_shown world look slots columns v) h
  member_stops h e = stops (members_shown world look slots columns) (vertex_shown world v) h e

pub ruleset member_laws = (member_told, member_stops)

at_default : (vs : List ℕ) (i v : ℕ) → i < length vs → v ≡ get_or vs i 0 → v ≡ get_or vs i v
at_default [] i v n is = let no : ⊥ = omega arith in absurd no
at_default (x ∷ xs) zero v n is = is
at_default (x ∷ xs) (suc i) v n is = at_default xs i v (omega arith) is

module _ (clock : Calendar) (s : Over) (columns : List (Expr × Bytes)) (n : ℕ) where
  abbrev pub VerticesFrom : List ℕ → List ℕ → ℕ → List json.Out → Type 0
  VerticesFrom types vs i done = EachFrom (member_at clock s columns n types vs) vs i done

  pub vertices_first : (types vs : List ℕ) → VerticesFrom types vs 0 []
  vertices_first types vs = each_first (member_at clock s columns n types vs) vs

  pub vertices_next : (types vs : List ℕ) (i v : ℕ) (done new : List json.Out) (o : json.Out) → VerticesFrom types vs i done → i < length vs → v ≡ get_or vs i v → member_at clock s columns n types vs v ≡ Gives o → new ≡ done ++ o ∷ [] → VerticesFrom types vs (i + 1) new
  vertices_next types vs i v done new o inv l e h is = each_next (member_at clock s columns n types vs) vs i v done new o inv (at_get vs i v l e) h is

  pub vertex_put : (types vs : List ℕ) (i v : ℕ) (done new : List json.Out) (o : json.Out) → VerticesFrom types vs i done → i < length vs → v ≡ get_or vs i 0 → member_at clock s columns n types vs v ≡ Gives o → new ≡ done ++ o ∷ [] → VerticesFrom types vs (i + 1) new
  vertex_put types vs i v done new o inv l e h is = vertices_next types vs i v done new o inv l (at_default vs i v l e) h is

  pub vertices_stop : (types vs : List ℕ) (i v : ℕ) (done : List json.Out) (h : Halt) → VerticesFrom types vs i done → i < length vs → v ≡ get_or vs i v → Halts (member_at clock s columns n types vs v) h → Halts (each (member_at clock s columns n types vs) vs) h
  vertices_stop types vs i v done h inv l e g = each_stops (member_at clock s columns n types vs) vs i v done h inv (at_get vs i v l e) g

  pub vertices_all : (types vs : List ℕ) (i : ℕ) (done : List json.Out) → VerticesFrom types vs i done → length vs ≤ i → each (member_at clock s columns n types vs) vs ≡ Gives done
  vertices_all types vs i done inv l = each_all (member_at clock s columns n types vs) vs i done inv l

  pub columns_given : (o : Option Thing) (types vs : List ℕ) (os : List json.Out) → o ≡ Some (SetOf types vs) → each (member_at clock s columns n types vs) vs ≡ Gives os → columns_shown clock s columns n o ≡ Gives (out.List os)
  columns_given o types vs os e h = ap (columns_shown clock s columns n) e ∙ ap (λ p. p >>= λ os. Gives (out.List os)) h

  pub columns_stuck : (o : Option Thing) → is_set o ≡ false → columns_shown clock s columns n o ≡ Stuck
  columns_stuck None e = refl
  columns_stuck (Some (SetOf types vs)) e = absurd (cc e)
  columns_stuck (Some (Variable b v)) e = refl
  columns_stuck (Some (EdgeRow r t)) e = refl
  columns_stuck (Some (Member types vs v)) e = refl

  pub columns_stop : (o : Option Thing) (types vs : List ℕ) (h : Halt) → o ≡ Some (SetOf types vs) → Halts (each (member_at clock s columns n types vs) vs) h → Halts (columns_shown clock s columns n o) h
  columns_stop o types vs h e g = subst (λ p. Halts (columns_shown clock s columns n p) h) (sym e) (stops (each (member_at clock s columns n types vs) vs) (λ os. Gives (out.List os)) h g)

pub ruleset vertex_laws = (vertices_first, vertices_next, vertices_stop, vertices_all)

pub ruleset column_laws = (columns_given, columns_stuck, columns_stop)
