-- NameLemmas: parameters, from the last one on.
use Rattle.std.proofs.Common.{◌≡◌, ◌≢◌, ℕ, zero, suc, ◌≤◌, ◌==◌, true, false, List, [], ◌∷◌, ◌++◌, drop, map, length, reverse, Option, Some, None, refl, sym, ap, ap₂, subst, ◌∙◌}
use Rattle.std.specs.List.{slice_get, list_any}
use Rattle.std.specs.Prelude.{if◌then◌else◌}
use Rattle.std.proofs.lemmas.List.{drop_all, length-map}
use Rattle.gq_value.specs.declared.kind.BaseType.{BaseType}
use Rattle.gq_value.specs.declared.value.Value.{Value}
use Rattle.gq_value.specs.AccumViews.{base_of}
use Rattle.gq_value.specs.Views.{val}
use Rattle.gq_index.specs.declared.store.Graph as code
use Rattle.gq_value.specs.declared.value.Wrong.{Wrong}
use Rattle.gq_value.specs.Val.{Val}
use Rattle.gq_value.specs.Accums.{Base, INT, UINT, BOOL, STRING, VERTEX, VERTEX_OF}
use Rattle.gq_rules_typing.specs.Statements as plain
use Rattle.gq_rules_typing.specs.Statements.{BaseTree, Ints, UInts, Bools, Strings, AnyVertex, VertexOf}
use Rattle.gq_rules_typing.specs.Words.{under}
use Rattle.gq_rules_meaning.specs.Calendars.{Calendar}
use Rattle.gq_rules_meaning.specs.Answers.{Answer, Gives, Stuck, ◌>>=◌, found}
use Rattle.gq_rules_meaning.specs.Expressions.{World}
use Rattle.gq_rules_meaning.specs.Statements.{base_of_tree}
use Rattle.gq_rules_meaning.specs.States as states
use Rattle.gq_rules_meaning.specs.States.{State, Variable, with_new}
use Rattle.gq_rules_meaning.specs.Queries.{bound}
use Rattle.gq_plan_ir.specs.declared.plan.Parameter.{Parameter}
use Rattle.gq_plan_ir.specs.declared.plan.Plan.{Plan}
use Rattle.gq_plan_ir.specs.PlanView.{view_parameter}
use Rattle.gq_plan_ir.specs.Reference.{Reference, Place, Slot, VertexType, EdgeType, TupleType, TypeName, FieldAt, Calls, Does}
use Rattle.gq_plan_ir.specs.References.{same}
use Rattle.gq_eval_attributes.specs.declared.tuple_type.TupleType as fields
use Rattle.gq_frame.specs.Names.{thing_for}
use Rattle.gq_frame.specs.Slots.{slots_are}
use Rattle.gq_frame.specs.declared.live.Live.{Live}
use Rattle.gq_frame.specs.Lives.{Alike, Lives, Unwinds}
use Rattle.gq_eval_operand.specs.declared.halt.Halt.{Halt}
use Rattle.gq_eval_operand.specs.declared.halt.Halt.TheVariants as halt
use Rattle.gq_exec_vars.specs.Begun.{BindHalts, Binds, BoundHalts, IsBound, IsDeclared, KnowsTypes, no_accums, world_with}

-- ---- types

-- a vertex type that is known, as a run has it
pub vertex_runs : (own : List ℕ) (t : ℕ) (world : World Reference) → KnowsTypes own world → list_any (λ m. m == t) own ≡ true → base_of_tree world (VertexOf (VertexType t)) ≡ Gives (VERTEX_OF t)
vertex_runs own t world known e = ap (λ o. found o >>= λ n. Gives (VERTEX_OF n)) (known.each t e)

-- one that isn't
pub no_vertex_runs : (own : List ℕ) (t : ℕ) (world : World Reference) → KnowsTypes own world → list_any (λ m. m == t) own ≡ false → base_of_tree world (VertexOf (VertexType t)) ≡ Stuck
no_vertex_runs own t world known e = ap (λ o. found o >>= λ n. Gives (VERTEX_OF n)) (known.none t e)

-- the types of a plan's graph are known
pub knows_own : (clock : Calendar) (g : code.Graph) (plan : Plan) (tuples : List fields.TupleType) → KnowsTypes plan.vertices (world_with clock g plan tuples)
knows_own clock g plan tuples = record { each = λ t e. ap (λ b. if b then Some t else None) e; none = λ t e. ap (λ b. if b then Some t else None) e }

-- ---- one parameter

pub binds : (plan : Plan) (parameter : Parameter) (argument copy : Value) (base : BaseType) (old new : Live)
    → IsDeclared plan.vertices parameter.base base → copy ≡ argument
    → ((s : State Reference) → Lives old s → Lives new (with_new (Place parameter.place) (Variable (base_of base) (val copy)) s))
    → Binds plan parameter argument old new
binds plan parameter argument copy base old new declared is lives = record {
  base = base;
  declared = declared;
  lives = λ s l. subst (λ v. Lives new (with_new (Place parameter.place) (Variable (base_of base) (val v)) s)) is (lives s l);
}

-- ---- none yet

alike_none : Alike [] []
alike_none = record { each = each }
  where
    each : (x : Reference) → under same x [] ≡ thing_for [] x
    each (Place n) = refl
    each (Slot n) = refl
    each (VertexType n) = refl
    each (EdgeType n) = refl
    each (TupleType n) = refl
    each TypeName = refl
    each (FieldAt c) = refl
    each (Calls f) = refl
    each (Does m) = refl

pub nothing_lives : (live : Live) (count : ℕ) → live.undo.items ≡ [] → live.frame.things ≡ [] → live.frame.accums ≡ no_accums count → Lives live (record { names = []; slots = [] })
nothing_lives live count undo things accums = record {
  names = subst (λ us. Unwinds live.frame.things (reverse us) []) (sym undo) (subst (λ ts. Alike ts []) (sym things) alike_none);
  slots = sym (ap slots_are accums);
}

-- ---- all parameters

-- those from a number on are bound
pub record BoundFrom (plan : Plan) (arguments : List Value) (live : Live) (at : ℕ) : Type 0 where
  pub each : (world : World Reference) → KnowsTypes plan.vertices world
      → (names : List (Reference × states.Thing)) × (bound world (map view_parameter (drop at plan.parameters)) (map val (drop at arguments)) ≡ Gives names) × Lives live (record { names = names; slots = [] })

pub bound_none : (plan : Plan) (arguments : List Value) (live : Live) (at : ℕ) → length plan.parameters ≤ at → length arguments ≤ at → Lives live (record { names = []; slots = [] }) → BoundFrom plan arguments live at
bound_none plan arguments live at n m l = record {
  each = λ world known. ([], ap₂ (λ ps vs. bound world (map view_parameter ps) (map val vs)) (drop_all at plan.parameters n) (drop_all at arguments m), l);
}

item_first : {A : Type 0} (xs : List A) (i j : ℕ) (x : A) → slice_get xs i ≡ Some x → j ≡ suc i → drop i xs ≡ x ∷ drop j xs
item_first {A = A} xs i j x e is = go xs i e ∙ ap (λ n. x ∷ drop n xs) (sym is)
  where
    go : (xs : List A) (i : ℕ) → slice_get xs i ≡ Some x → drop i xs ≡ x ∷ drop (suc i) xs
    go [] i e = absurd (cc e)
    go (y ∷ xs) zero e = ap (λ z. z ∷ xs) (let s : y ≡ x = cc in s)
    go (y ∷ xs) (suc i) e = go xs i e

pub bound_more : (plan : Plan) (arguments : List Value) (old new : Live) (at next : ℕ) (parameter : Parameter) (argument : Value)
    → slice_get plan.parameters at ≡ Some parameter → slice_get arguments at ≡ Some argument → next ≡ suc at → Binds plan parameter argument old new
    → BoundFrom plan arguments old next → BoundFrom plan arguments new at
bound_more plan arguments old new at next parameter argument p v is b h = record {
  each = λ world known.
      let r = h.each world known in (
        (Place parameter.place, Variable (base_of b.base) (val argument)) ∷ r.0,
        ap₂ (λ ps vs. bound world (map view_parameter ps) (map val vs)) (item_first plan.parameters at next parameter p is) (item_first arguments at next argument v is)
            ∙ ap (λ o. o >>= λ base. bound world (map view_parameter (drop next plan.parameters)) (map val (drop next arguments)) >>= λ names. Gives ((Place parameter.place, Variable base (val argument)) ∷ names)) (b.declared.runs world known)
            ∙ ap (λ o. o >>= λ names. Gives ((Place parameter.place, Variable (base_of b.base) (val argument)) ∷ names)) r.1,
        b.lives (record { names = r.0; slots = [] }) r.2,
      );
}

pub bound_all : (plan : Plan) (arguments : List Value) (live : Live) → BoundFrom plan arguments live 0 → IsBound plan arguments live
bound_all plan arguments live h = record { each = h.each }

-- ---- parameters that can't be bound

-- a type gives a base type, or is stuck
base_or_stuck : {A : Type 0} (world : World Reference) (t : BaseTree Reference) (f : Base → Answer Wrong A) → ((b : Base) → f b ≡ Stuck) → (base_of_tree world t >>= f) ≡ Stuck
base_or_stuck world Ints f h = h INT
base_or_stuck world UInts f h = h UINT
base_or_stuck world Bools f h = h BOOL
base_or_stuck world Strings f h = h STRING
base_or_stuck world AnyVertex f h = h VERTEX
base_or_stuck world (VertexOf t) f h = by (world.words.vertex_type t)
  where
    by : (o : Option ℕ) → (found o >>= (λ n. Gives (VERTEX_OF n)) >>= f) ≡ Stuck
    by None = refl
    by (Some n) = h (VERTEX_OF n)

-- there are more of the one than of the other
uneven : (world : World Reference) (ps : List (plain.Parameter Reference)) (vs : List Val) → length ps ≢ length vs → bound world ps vs ≡ Stuck
uneven world [] [] apart = absurd (apart refl)
uneven world [] (v ∷ vs) apart = refl
uneven world (p ∷ ps) [] apart = refl
uneven world (p ∷ ps) (v ∷ vs) apart =
    base_or_stuck world p.base (λ b. bound world ps vs >>= λ names. Gives ((p.name, Variable b v) ∷ names))
    (λ b. ap (λ o. o >>= λ names. Gives ((p.name, Variable b v) ∷ names)) (uneven world ps vs (λ e. apart (ap suc e))))

-- a parameter's type is none of the graph's
one_stuck : (world : World Reference) (ps : List (plain.Parameter Reference)) (vs : List Val) (i : ℕ) (p : plain.Parameter Reference) → slice_get ps i ≡ Some p → base_of_tree world p.base ≡ Stuck → bound world ps vs ≡ Stuck
one_stuck world [] vs i p at e = absurd (cc at)
one_stuck world (q ∷ ps) [] i p at e = refl
one_stuck world (q ∷ ps) (v ∷ vs) zero p at e =
    ap (λ (r : plain.Parameter Reference). base_of_tree world r.base >>= λ b. bound world ps vs >>= λ names. Gives ((r.name, Variable b v) ∷ names)) (let s : q ≡ p = cc in s)
    ∙ ap (λ o. o >>= λ b. bound world ps vs >>= λ names. Gives ((p.name, Variable b v) ∷ names)) e
one_stuck world (q ∷ ps) (v ∷ vs) (suc i) p at e =
    base_or_stuck world q.base (λ b. bound world ps vs >>= λ names. Gives ((q.name, Variable b v) ∷ names))
    (λ b. ap (λ o. o >>= λ names. Gives ((q.name, Variable b v) ∷ names)) (one_stuck world ps vs i p at e))

get_map : {A B : Type 0} (f : A → B) (xs : List A) (i : ℕ) (x : A) → slice_get xs i ≡ Some x → slice_get (map f xs) i ≡ Some (f x)
get_map f [] i x e = absurd (cc e)
get_map f (y ∷ xs) zero x e = ap (λ z. Some (f z)) (let s : y ≡ x = cc in s)
get_map f (y ∷ xs) (suc i) x e = get_map f xs i x e

pub bound_unlike : (plan : Plan) (arguments : List Value) (n m : ℕ) → n ≡ length arguments → m ≡ length plan.parameters → n ≢ m → BoundHalts plan arguments halt.Stuck
bound_unlike plan arguments n m e f apart = record {
  each = λ world known. uneven world (map view_parameter plan.parameters) (map val arguments)
      (λ g. apart (e ∙ sym (length-map arguments val) ∙ sym g ∙ length-map plan.parameters view_parameter ∙ sym f));
}

pub bound_short : (plan : Plan) (arguments : List Value) → BoundHalts plan arguments halt.OutOfMemory
bound_short plan arguments = record { each = λ world known. tt }

pub bound_stops : (plan : Plan) (arguments : List Value) (at : ℕ) (parameter : Parameter) (h : Halt) → slice_get plan.parameters at ≡ Some parameter → BindHalts plan parameter h → BoundHalts plan arguments h
bound_stops plan arguments at parameter halt.Stuck e b = record {
  each = λ world known. one_stuck world (map view_parameter plan.parameters) (map val arguments) at (view_parameter parameter) (get_map view_parameter plan.parameters at parameter e) (b.runs world known);
}
bound_stops plan arguments at parameter halt.OutOfMemory e b = bound_short plan arguments
bound_stops plan arguments at parameter (halt.Wrong w) e b = absurd b

pub ruleset bound_laws = (nothing_lives, bound_none, bound_more, bound_all, bound_short, bound_unlike, bound_stops)
