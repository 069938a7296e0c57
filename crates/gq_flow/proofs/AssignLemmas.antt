-- AssignLemmas: from what the code assigns to the states of the definitions.
use Rattle.std.proofs.Common.{◌≡◌, ℕ, Bool, true, false, List, reverse, Option, Some, None, Result, Ok, Err, OnOk, refl, sym, ap, subst, ◌∙◌}
use Rattle.std.specs.Prelude.{slice_get}
use Rattle.gq_tree.specs.declared.body.SetOp.{SetOp}
use Rattle.gq_tree.specs.Tree.{Tree, Number, Text, Truth, Global, Name, Call, Post, Neg, Mul, Sum, Cmp, Not, And, Or}
use Rattle.gq_rules_typing.specs.Selecting.{Select}
use Rattle.gq_rules_typing.specs.Statements as plain
use Rattle.gq_rules_typing.specs.Statements.{SetTypes}
use Rattle.gq_value.specs.declared.kind.BaseType.{BaseType}
use Rattle.gq_graph.specs.declared.rows.VertexRow.{VertexRow}
use Rattle.gq_value.specs.declared.value.Value.{Value}
use Rattle.gq_value.specs.declared.value.Wrong.{Wrong}
use Rattle.gq_value.specs.Accums.{Base}
use Rattle.gq_value.specs.AccumViews.{base_of}
use Rattle.gq_value.specs.Val.{Val}
use Rattle.gq_value.specs.Views.{val}
use Rattle.gq_base.specs.declared.memory.OutOfMemory.{OutOfMemory}
use Rattle.gq_rules_meaning.specs.Answers.{Answer, Gives, Faults, Stuck, ◌>>=◌, blaming, found}
use Rattle.gq_rules_meaning.specs.Blocks as blocks
use Rattle.gq_rules_meaning.specs.Calendars.{Calendar}
use Rattle.gq_rules_meaning.specs.Expressions.{World, value_as}
use Rattle.gq_rules_meaning.specs.Sets as sets
use Rattle.gq_rules_meaning.specs.Sets.{set_assigned, set_in, set_named, sets_of}
use Rattle.gq_rules_meaning.specs.Sources.{from, selects_target, types_at, within_bound, candidates_of}
use Rattle.gq_rules_meaning.specs.States as states
use Rattle.gq_rules_meaning.specs.States.{State, Thing, Variable, SetOf, EdgeRow, Member, thing_named, with_name, seen}
use Rattle.gq_rules_meaning.specs.Statements.{Fault, Evaluation, PathBound, is_set, of_block, expression_assigned, select_assigned, value_assigned}
use Rattle.gq_rules_meaning.specs.Tails as tails
use Rattle.gq_rules_meaning.specs.Tails.{select}
use Rattle.gq_plan_ir.specs.declared.block.Block.{Block}
use Rattle.gq_plan_ir.specs.BlockView.{view_block}
use Rattle.gq_plan_ir.specs.Reference.{Reference, Place}
use Rattle.gq_plan_ir.specs.References.{same}
use Rattle.gq_eval_operand.specs.declared.halt.Halt.{Halt}
use Rattle.gq_eval_operand.specs.Meant.{Tells}
use Rattle.gq_frame.specs.declared.frame.Frame.{Frame}
use Rattle.gq_frame.specs.declared.frame.Thing as code
use Rattle.gq_frame.specs.Names.{thing_in}
use Rattle.gq_frame.specs.Shows.{Shows}
use Rattle.gq_frame.specs.declared.accums.Accums.{Accums}
use Rattle.gq_frame.specs.Slots.{AreSound, slots_are}
use Rattle.gq_frame.specs.declared.live.Live.{Live}
use Rattle.gq_frame.specs.Lives.{Lives, Unwinds}
use Rattle.gq_frame.proofs.LookupLemmas.{seen_there}
use Rattle.gq_exec_control.specs.declared.running.RunFault.{RunFault}
use Rattle.gq_exec_control.specs.declared.running.RunFault.TheVariants as fault
use Rattle.gq_exec_control.specs.Standing.{Says}
use Rattle.gq_exec_control.proofs.FaultLemmas.{ends_bind, ends_same, leads_same}
use Rattle.gq_exec_vars.specs.declared.lookup.Lookup.{Lookup}
use Rattle.gq_exec_vars.specs.declared.typed.TypedSet.{TypedSet}
use Rattle.gq_exec_vars.specs.Lookups.{IsOver, IsSeen}
use Rattle.gq_exec_vars.specs.Written.{typed}
use Rattle.gq_flow.specs.declared.selects.Selected.{Selected}
use Rattle.gq_flow.specs.Selecting.{Chosen, Selects, chosen, chosen_if, selected_by}
use Rattle.gq_exec_control.specs.Contexts.{Basis, over_of, world_on}
use Rattle.gq_exec_control.specs.Faults.{faults_of}
use Rattle.gq_exec_control.specs.Changes.{Change, Becomes, Reads}
use Rattle.gq_exec_control.specs.Places.{IsVariable, is_variable}
use Rattle.gq_exec_control.proofs.ContextLemmas.{says_told, shows_of}
use Rattle.gq_exec_control.proofs.Steps.{bound}
use Rattle.gq_flow.specs.Assigning.{Fixed, IsNoName, Kept}

-- ---- what set expressions read

pub is_over : (clock : Calendar) (b : Basis) → IsOver b.vertices b.plan.vertices (world_on clock b)
is_over clock b = record { like = refl; vertex_type = λ t. refl; types = refl; kinds = refl }

pub is_seen : (clock : Calendar) (b : Basis) (f : Frame) (at : Lookup) → at.vertices.now ≡ b.vertices → at.own.now ≡ b.plan.vertices → at.frame.now ≡ f
    → (s : State Reference) → Shows f s → IsSeen at (world_on clock b) s
is_seen clock b f at vertices own frame s shows = record {
  over = subst (λ vs. IsOver vs at.own.now (world_on clock b)) (sym vertices) (subst (λ o. IsOver b.vertices o (world_on clock b)) (sym own) (is_over clock b));
  shows = subst (λ g. Shows g s) (sym frame) shows;
}

-- the vertices of a set expression, read of each state
pub held_on : (clock : Calendar) (b : Basis) (f : Frame) (at : Lookup) (first : plain.SetTerm Reference) (rest : List (SetOp × plain.SetTerm Reference)) (told : Result TypedSet Halt) (r : Result TypedSet RunFault)
    → at.vertices.now ≡ b.vertices → at.own.now ≡ b.plan.vertices → at.frame.now ≡ f
    → ((world : World Reference) (s : State Reference) → IsSeen at world s → Tells typed (sets_of world s first rest) told) → r ≡ faults_of told
    → Reads typed (λ s. blaming Evaluation (sets_of (world_on clock b) s first rest)) f r
held_on clock b f at first rest told r vertices own frame t e = record {
  each = λ s shows.
      subst (Says typed (blaming Evaluation (sets_of (world_on clock b) s first rest))) (sym e)
      (says_told typed (sets_of (world_on clock b) s first rest) told (t (world_on clock b) s (is_seen clock b f at vertices own frame s shows)));
}

-- ---- a set variable

pub fixed_by : (clock : Calendar) (b : Basis) (place : ℕ) (types : Option (SetTypes Reference)) (set : sets.TypedSet) (own : List ℕ) (old new : Live) (r : Result (Unit {0}) OutOfMemory) → own ≡ b.plan.vertices
    → OnOk r ((vertices : List VertexRow) (world : World Reference) (s : State Reference) → IsOver vertices own world → Lives old s → Lives new (set_assigned world (Place place) types set s)) → Fixed clock b place types set old new r
fixed_by clock b place types set own old new (Ok u) o h = λ s l. h b.vertices (world_on clock b) s (subst (λ os. IsOver b.vertices os (world_on clock b)) (sym o) (is_over clock b)) l
fixed_by clock b place types set own old new (Err e) o h = tt

pub ruleset fixed_laws = (fixed_by)

-- a set that is read and assigned to a variable
module _ (clock : Calendar) (b : Basis) (place : ℕ) (types : Option (SetTypes Reference)) (read : State Reference → Answer Wrong sets.TypedSet) where
  -- the definitions of the assignment
  abbrev giving : Change
  giving s = blaming Evaluation (read s) >>= λ set. Gives (set_assigned (world_on clock b) (Place place) types set s)

  pub set_stops : (old new : Live) (e : RunFault) → Reads typed (λ s. blaming Evaluation (read s)) old.frame (Err e) → Becomes giving old new (Err e)
  set_stops old new e r = record { each = λ s l. ends_bind (blaming Evaluation (read s)) (λ set. Gives (set_assigned (world_on clock b) (Place place) types set s)) e (r.each s (shows_of old s l)) }

  pub set_given : (old new : Live) (set : TypedSet) → Reads typed (λ s. blaming Evaluation (read s)) old.frame (Ok set) → Fixed clock b place types (typed set) old new (Ok tt) → Becomes giving old new (Ok tt)
  set_given old new set r f = record {
    each = λ s l. (
      set_assigned (world_on clock b) (Place place) types (typed set) s,
      ap (λ o. o >>= λ set. Gives (set_assigned (world_on clock b) (Place place) types set s)) (r.each s (shows_of old s l)),
      f s l,
    );
  }

-- ---- an expression

-- the assignment of a name alone
abbrev by_name : World Reference → State Reference → Reference → Option (SetTypes Reference) → Reference → Option Thing → Answer Wrong (State Reference)
by_name world s x types y o =
    elim (is_set o) [
      | true ↦ (found o >>= set_in) >>= λ set. Gives (set_assigned world x types set s)
      | false ↦ value_assigned world s x (Name y)
    ]

-- the same, by whether it is a set
abbrev named_so : World Reference → State Reference → Reference → Option (SetTypes Reference) → Reference → Bool → Answer Wrong (State Reference)
named_so world s x types y c = elim c [ true ↦ set_named world s y >>= λ set. Gives (set_assigned world x types set s) | false ↦ value_assigned world s x (Name y) ]

no_name_is : (world : World Reference) (s : State Reference) (x : Reference) (types : Option (SetTypes Reference)) (t : Tree Reference) → IsNoName t → expression_assigned world s x types t ≡ value_assigned world s x t
no_name_is world s x types (Number n) h = refl
no_name_is world s x types (Text u) h = refl
no_name_is world s x types (Truth u) h = refl
no_name_is world s x types (Global a) h = refl
no_name_is world s x types (Name y) h = absurd h
no_name_is world s x types (Call f ts) h = refl
no_name_is world s x types (Post t ps) h = refl
no_name_is world s x types (Neg n t) h = refl
no_name_is world s x types (Mul t fs) h = refl
no_name_is world s x types (Sum t ts) h = refl
no_name_is world s x types (Cmp t c u) h = refl
no_name_is world s x types (Not n t) h = refl
no_name_is world s x types (And t ts) h = refl
no_name_is world s x types (Or t ts) h = refl

module _ (clock : Calendar) (b : Basis) (place : ℕ) (types : Option (SetTypes Reference)) (t : Tree Reference) (old new : Live) where
  -- the definitions of the assignment
  abbrev valuing : Change
  valuing s = blaming Evaluation (value_assigned (world_on clock b) s (Place place) t)

  abbrev expressing : Change
  expressing s = blaming Evaluation (expression_assigned (world_on clock b) s (Place place) types t)

  -- the expression isn't a name
  pub no_name : (r : Result (Unit {0}) RunFault) → IsNoName t → Becomes valuing old new r → Becomes expressing old new r
  no_name r h d = record {
    each = λ s l. leads_same (Lives new) (expressing s) (valuing s) r (ap (blaming Evaluation) (no_name_is (world_on clock b) s (Place place) types t h)) (d.each s l);
  }

  -- a name that isn't a set
  pub no_set : (y : ℕ) (r : Result (Unit {0}) RunFault) → t ≡ Name (Place y) → is_set (thing_in old.frame.things y) ≡ false → Becomes valuing old new r → Becomes expressing old new r
  no_set y r e h d = record {
    each = λ s l.
        let world = world_on clock b in
        let is : is_set (thing_named world s.names (Place y)) ≡ false = ap is_set (seen_there old y s l) ∙ h in
        leads_same (Lives new) (expressing s) (valuing s) r
        (ap (λ u. blaming Evaluation (expression_assigned world s (Place place) types u)) e
        ∙ ap (λ c. blaming Evaluation (named_so world s (Place place) types (Place y) c)) is
        ∙ ap (λ u. blaming Evaluation (value_assigned world s (Place place) u)) (sym e))
        (d.each s l);
  }

  -- the name of a set
  pub set_named_there : (y : ℕ) (set : TypedSet) → t ≡ Name (Place y) → thing_in old.frame.things y ≡ Some (SetOf set.types set.vertices) → Fixed clock b place types (typed set) old new (Ok tt) → Becomes expressing old new (Ok tt)
  set_named_there y set e h f = record {
    each = λ s l.
        let world = world_on clock b in (
          set_assigned world (Place place) types (typed set) s,
          ap (λ u. blaming Evaluation (expression_assigned world s (Place place) types u)) e
              ∙ ap (λ o. blaming Evaluation (by_name world s (Place place) types (Place y) o)) (seen_there old y s l ∙ h),
          f s l,
        );
  }

-- ---- a value

-- the assignment, by the thing that the name refers to
abbrev valued_by : World Reference → State Reference → Reference → Tree Reference → Option Thing → Answer Wrong (State Reference)
valued_by world s x t o = found o >>= of_thing
  where
    of_thing : Thing → Answer Wrong (State Reference)
    of_thing (Variable b v) = value_as (seen world s) b t >>= λ w. Gives (with_name world x (Variable b w) s)
    of_thing thing = Stuck

module _ (clock : Calendar) (b : Basis) (place : ℕ) (t : Tree Reference) (base : Base) (old new : Live) (there : IsVariable base (thing_in old.frame.things place)) where
  abbrev with_value : State Reference → Val → State Reference
  with_value s w = with_name (world_on clock b) (Place place) (Variable base w) s

  value_is : (s : State Reference) → Lives old s
      → blaming Evaluation (value_assigned (world_on clock b) s (Place place) t) ≡ (blaming Evaluation (value_as (seen (world_on clock b) s) base t) >>= λ w. Gives (with_value s w))
  value_is s l =
      ap (λ o. blaming Evaluation (valued_by (world_on clock b) s (Place place) t o)) (seen_there old place s l ∙ there.is)
      ∙ bound (value_as (seen (world_on clock b) s) base t) (λ w. Gives (with_value s w))

  pub value_stops : (e : RunFault) → Reads val (λ s. blaming Evaluation (value_as (seen (world_on clock b) s) base t)) old.frame (Err e)
      → Becomes (λ s. blaming Evaluation (value_assigned (world_on clock b) s (Place place) t)) old new (Err e)
  value_stops e r = record {
    each = λ s l.
        ends_same (blaming Evaluation (value_assigned (world_on clock b) s (Place place) t)) (blaming Evaluation (value_as (seen (world_on clock b) s) base t) >>= λ w. Gives (with_value s w)) e (value_is s l)
        (ends_bind (blaming Evaluation (value_as (seen (world_on clock b) s) base t)) (λ w. Gives (with_value s w)) e (r.each s (shows_of old s l)));
  }

  pub value_given : (value : Value) → Reads val (λ s. blaming Evaluation (value_as (seen (world_on clock b) s) base t)) old.frame (Ok value)
      → ((world : World Reference) (s : State Reference) → world.words.same ≡ same → Lives old s → Lives new (with_name world (Place place) (Variable base (val value)) s))
      → Becomes (λ s. blaming Evaluation (value_assigned (world_on clock b) s (Place place) t)) old new (Ok tt)
  value_given value r names = record {
    each = λ s l. (
      with_value s (val value),
      value_is s l ∙ ap (λ o. o >>= λ w. Gives (with_value s w)) (r.each s (shows_of old s l)),
      names (world_on clock b) s refl l,
    );
  }

-- no variable is in view
no_value : (world : World Reference) (s : State Reference) (x : Reference) (t : Tree Reference) (o : Option Thing) → is_variable o ≡ false → valued_by world s x t o ≡ Stuck
no_value world s x t None e = refl
no_value world s x t (Some (Variable c v)) e = absurd (cc e)
no_value world s x t (Some (SetOf ts vs)) e = refl
no_value world s x t (Some (EdgeRow r k)) e = refl
no_value world s x t (Some (Member vs ts v)) e = refl

pub value_sticks : (clock : Calendar) (b : Basis) (place : ℕ) (t : Tree Reference) (old new : Live) → is_variable (thing_in old.frame.things place) ≡ false
    → Becomes (λ s. blaming Evaluation (value_assigned (world_on clock b) s (Place place) t)) old new (Err fault.Stuck)
value_sticks clock b place t old new none = record {
  each = λ s l.
      ap (λ o. blaming Evaluation (valued_by (world_on clock b) s (Place place) t o)) (seen_there old place s l)
      ∙ ap (blaming Evaluation) (no_value (world_on clock b) s (Place place) t (thing_in old.frame.things place) none);
}

-- ---- SELECT

-- the vertices are assigned, and the accumulators kept
abbrev given_to : World Reference → Reference → Option (SetTypes Reference) → State Reference → Chosen → State Reference
given_to world x types s c = set_assigned world x types c.0 (record s { slots = c.1 })

given_joined : (world : World Reference) (x : Reference) (types : Option (SetTypes Reference)) (s : State Reference) (found : List ℕ) (o : Answer blocks.BlockFault (tails.Selected Reference))
    → (blaming of_block o >>= λ r. Gives (set_assigned world x types (found, r.vertices) (record s { slots = r.slots }))) ≡ (blaming of_block (o >>= λ r. Gives ((found, r.vertices), r.slots)) >>= λ c. Gives (given_to world x types s c))
given_joined world x types s found (Gives r) = refl
given_joined world x types s found (Faults e) = refl
given_joined world x types s found Stuck = refl

-- the definition of the assignment, by whether the path has at most as many bindings as allowed
abbrev bounded : World Reference → State Reference → Reference → Option (SetTypes Reference) → Select Reference → Bool → Answer Fault (State Reference)
bounded world s x types q few =
    elim few [
      | false ↦ Faults PathBound
      | true ↦ blaming of_block (select world s q) >>= λ r. Gives (set_assigned world x types (types_at (from world s.names q) (selects_target world q), r.vertices) (record s { slots = r.slots }))
    ]

bounded_joined : (world : World Reference) (s : State Reference) (x : Reference) (types : Option (SetTypes Reference)) (q : Select Reference) (few : Bool)
    → bounded world s x types q few ≡ (chosen_if world s q few >>= λ c. Gives (given_to world x types s c))
bounded_joined world s x types q false = refl
bounded_joined world s x types q true = given_joined world x types s (types_at (from world s.names q) (selects_target world q)) (select world s q)

module _ (clock : Calendar) (b : Basis) (place : ℕ) (types : Option (SetTypes Reference)) (q : Block) where
  -- the definitions of the assignment
  abbrev selecting : Change
  selecting s = select_assigned (world_on clock b) s (Place place) types (view_block q)

  abbrev given_so : State Reference → Chosen → State Reference
  given_so s c = given_to (world_on clock b) (Place place) types s c

  select_is : (s : State Reference) → selecting s ≡ (selected_by (world_on clock b) s (view_block q) >>= λ c. Gives (given_so s c))
  select_is s =
      bounded_joined (world_on clock b) s (Place place) types (view_block q)
      (within_bound (view_block q).walk (candidates_of (world_on clock b) (from (world_on clock b) s.names (view_block q)).start (view_block q).walk))

  pub select_stops : (old new : Live) (e : RunFault) → Selects clock (over_of b old.frame) q (Err e) → Becomes selecting old new (Err e)
  select_stops old new e d = record {
    each = λ s l.
        ends_same (selecting s) (selected_by (world_on clock b) s (view_block q) >>= λ c. Gives (given_so s c)) e (select_is s)
        (ends_bind (selected_by (world_on clock b) s (view_block q)) (λ c. Gives (given_so s c)) e (d.each s (shows_of old s l)));
  }

  pub select_given : (old new : Live) (r : Selected) → Selects clock (over_of b old.frame) q (Ok r) → Kept clock b place types r old new (Ok tt) → Becomes selecting old new (Ok tt)
  select_given old new r d k = record {
    each = λ s l. (
      given_so s (chosen r),
      select_is s ∙ ap (λ o. o >>= λ c. Gives (given_so s c)) (d.each s (shows_of old s l)),
      k s l,
    );
  }

-- the accumulators are replaced
accums_live : (old new : Live) (s : State Reference) → new.frame.things ≡ old.frame.things → new.undo ≡ old.undo → Lives old s → Lives new (record s { slots = slots_are new.frame.accums })
accums_live old new s things undo l = record {
  names = subst (λ ts. Unwinds ts (reverse new.undo.items) s.names) (sym things) (subst (λ us. Unwinds old.frame.things (reverse us.items) s.names) (sym undo) l.names);
  slots = refl;
}

pub kept_by : (clock : Calendar) (b : Basis) (place : ℕ) (types : Option (SetTypes Reference)) (r : Selected) (old mid new : Live) (result : Result (Unit {0}) OutOfMemory) → mid.frame.things ≡ old.frame.things → mid.undo ≡ old.undo → mid.frame.accums ≡ r.accums
    → Fixed clock b place types (r.types, r.vertices) mid new result → Kept clock b place types r old new result
kept_by clock b place types r old mid new (Ok u) things undo accums f = λ s l.
    f (record s { slots = slots_are r.accums }) (subst (λ a. Lives mid (record s { slots = slots_are a })) accums (accums_live old mid s things undo l))
kept_by clock b place types r old mid new (Err e) things undo accums f = tt

-- ---- contents

pub sound_kept : (r : Result (Unit {0}) RunFault) (old new : Accums) → new ≡ old → AreSound old → OnOk r (AreSound new)
sound_kept (Ok u) old new e h = subst AreSound (sym e) h
sound_kept (Err x) old new e h = tt

pub sound_given : (r : Selected) (new : Accums) → new ≡ r.accums → AreSound r.accums → AreSound new
sound_given r new e h = subst AreSound (sym e) h

pub no_memory : (does : Change) (old new : Live) → Becomes does old new (Err fault.OutOfMemory)
no_memory does old new = record { each = λ s l. tt }

-- ---- the type of a variable

pub base_copied : (things all : List (Option code.Thing)) (place : ℕ) (base copy : BaseType) → things ≡ all → copy ≡ base → IsVariable (base_of base) (thing_in things place) → IsVariable (base_of copy) (thing_in all place)
base_copied things all place base copy e f h = subst (λ ts. IsVariable (base_of copy) (thing_in ts place)) e (subst (λ c. IsVariable (base_of c) (thing_in things place)) (sym f) h)

pub ruleset base_laws = (base_copied)
