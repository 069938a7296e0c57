-- SelectLemmas: a SELECT from its block to its vertices.
use Rattle.std.proofs.Common.{◌≡◌, ℕ, Bool, true, false, List, Result, Ok, Err, refl, sym, ap, subst, ◌∙◌, nat_eq}
use Rattle.std.specs.List.{IsDistinct}
use Rattle.gq_graph.specs.declared.rows.Candidate.{Candidate}
use Rattle.gq_rules_typing.specs.Patterns.{is_alias, target_alias}
use Rattle.gq_rules_typing.specs.Selecting.{Select}
use Rattle.gq_rules_meaning.specs.Answers.{Answer, Gives, Faults, Stuck, ◌>>=◌, blaming}
use Rattle.gq_rules_meaning.specs.Blocks as blocks
use Rattle.gq_rules_meaning.specs.Blocks.{accumulated}
use Rattle.gq_rules_meaning.specs.Calendars.{Calendar}
use Rattle.gq_rules_meaning.specs.Expressions.{World}
use Rattle.gq_rules_meaning.specs.Posts.{posted}
use Rattle.gq_rules_meaning.specs.Sources.{From, from, selects_target, types_at, within_bound}
use Rattle.gq_rules_meaning.specs.States.{State}
use Rattle.gq_rules_meaning.specs.Statements.{of_block}
use Rattle.gq_rules_meaning.specs.Tails as tails
use Rattle.gq_rules_meaning.specs.Tails.{tail}
use Rattle.gq_plan_ir.specs.declared.block.Block.{Block}
use Rattle.gq_plan_ir.specs.BlockView.{view_block}
use Rattle.gq_plan_ir.specs.PlanView.{accum_names}
use Rattle.gq_plan_ir.specs.Reference.{Reference}
use Rattle.gq_plan_ir.specs.References.{same}
use Rattle.gq_eval_attributes.specs.Tuples.{tuples_are}
use Rattle.gq_eval_operand.specs.Meant.{itself}
use Rattle.gq_frame.specs.Shows.{Shows}
use Rattle.gq_frame.specs.Slots.{AreSound, slots_are}
use Rattle.gq_eval_context.specs.Viewed.{Over}
use Rattle.gq_eval_context.specs.Looks.{world_over}
use Rattle.gq_eval_context.specs.declared.after.After.{After}
use Rattle.gq_eval_context.specs.declared.after.BlockFault.{BlockFault}
use Rattle.gq_eval_context.specs.declared.after.BlockFault.TheVariants as fault
use Rattle.gq_eval_context.specs.Answered.{Answered, EndsAs, after_is}
use Rattle.gq_eval_context.proofs.FaultLemmas.{ends_with}
use Rattle.gq_exec_source.specs.declared.ends.Ends as ends
use Rattle.gq_exec_source.specs.Ends.{HasEnds, AreEnds, end_at}
use Rattle.gq_exec_source.specs.Starts.{AreCandidates, AreTooMany}
use Rattle.gq_exec_control.specs.declared.running.RunFault.{RunFault}
use Rattle.gq_exec_control.specs.declared.running.RunFault.TheVariants as run
use Rattle.gq_exec_control.specs.Faults.{fault_of_block}
use Rattle.gq_exec_control.specs.Standing.{Ends}
use Rattle.gq_exec_control.proofs.FaultLemmas.{ends_same}
use Rattle.gq_workers.specs.Results.{Answers}
use Rattle.gq_exec_post.specs.Phases.{KeepsAll}
use Rattle.gq_flow.specs.declared.selects.Selected.{Selected}
use Rattle.gq_flow.specs.Selecting.{Chosen, chosen, chosen_by, chosen_after, chosen_if, selected_by, Chooses, Selects, Posts, HasTypes}

-- ---- faults

same_end : {A : Type 0} (o p : Answer blocks.BlockFault A) (e : BlockFault) → o ≡ p → EndsAs p e → EndsAs o e
same_end o p (fault.Eval at w) h g = h ∙ g
same_end o p (fault.SumRange n) h g = h ∙ g
same_end o p fault.Stuck h g = h ∙ g
same_end o p fault.OutOfMemory h g = tt

answered_same : {A B : Type 0} (view : B → A) (o p : Answer blocks.BlockFault A) (r : Result B BlockFault) → o ≡ p → Answered view p r → Answered view o r
answered_same view o p (Ok b) h g = h ∙ g
answered_same view o p (Err e) h g = same_end o p e h g

-- ---- the block

abbrev selected_of : blocks.After Reference → List ℕ → tails.Selected Reference
selected_of b vs = record { slots = b.slots; vertices = vs }

abbrev given_as : List ℕ → tails.Selected Reference → Answer blocks.BlockFault Chosen
given_as types r = Gives ((types, r.vertices), r.slots)

-- the types of the selected end
abbrev types_there : World Reference → State Reference → Select Reference → List ℕ
types_there world s q = types_at (from world s.names q) (selects_target world q)

by_tail : (types : List ℕ) (b : blocks.After Reference) (t : Answer blocks.BlockFault (List ℕ)) → ((t >>= λ vs. Gives (selected_of b vs)) >>= given_as types) ≡ (t >>= λ vs. Gives ((types, vs), b.slots))
by_tail types b (Gives vs) = refl
by_tail types b (Faults e) = refl
by_tail types b Stuck = refl

by_post : (types : List ℕ) (t : blocks.After Reference → Answer blocks.BlockFault (List ℕ)) (o : Answer blocks.BlockFault (blocks.After Reference)) → ((o >>= λ b. t b >>= λ vs. Gives (selected_of b vs)) >>= given_as types) ≡ (o >>= λ b. t b >>= λ vs. Gives ((types, vs), b.slots))
by_post types t (Gives b) = by_tail types b (t b)
by_post types t (Faults e) = refl
by_post types t Stuck = refl

by_block : (types : List ℕ) (p : blocks.After Reference → Answer blocks.BlockFault (blocks.After Reference)) (t : blocks.After Reference → Answer blocks.BlockFault (List ℕ)) (o : Answer blocks.BlockFault (blocks.After Reference))
    → ((o >>= p >>= λ b. t b >>= λ vs. Gives (selected_of b vs)) >>= given_as types) ≡ (o >>= λ a. p a >>= λ b. t b >>= λ vs. Gives ((types, vs), b.slots))
by_block types p t (Gives a) = by_post types t (p a)
by_block types p t (Faults e) = refl
by_block types p t Stuck = refl

chosen_is : (world : World Reference) (s : State Reference) (q : Select Reference) → chosen_by world s q ≡ (accumulated world s q >>= chosen_after world s q)
chosen_is world s q = by_block (types_there world s q) (posted world s q) (tail world s q) (accumulated world s q)

pub block_stops : (clock : Calendar) (o : Over) (block : Block) (e : BlockFault) → Answers clock o block (Err e) → Chooses clock o block (Err e)
block_stops clock o block e a = record {
  each = λ s shows.
      let world = world_over clock o in
      let q = view_block block in
      same_end (chosen_by world s q) (accumulated world s q >>= chosen_after world s q) e (chosen_is world s q) (ends_with (accumulated world s q) (chosen_after world s q) e (a.each s shows));
}

pub block_goes : (clock : Calendar) (o : Over) (block : Block) (after : After) (r : Result Selected BlockFault) → Answers clock o block (Ok after) → Posts clock o block after r → Chooses clock o block r
block_goes clock o block after r a p = record {
  each = λ s shows.
      let world = world_over clock o in
      let q = view_block block in
      answered_same chosen (chosen_by world s q) (chosen_after world s q (after_is after)) r (chosen_is world s q ∙ ap (λ x. x >>= chosen_after world s q) (a.each s shows)) (p.each s shows);
}

-- ---- the bound

ends_block : {A : Type 0} (o : Answer blocks.BlockFault A) (e : BlockFault) → EndsAs o e → Ends (blaming of_block o) (fault_of_block e)
ends_block o (fault.Eval at w) h = ap (blaming of_block) h
ends_block o (fault.SumRange n) h = ap (blaming of_block) h
ends_block o fault.Stuck h = ap (blaming of_block) h
ends_block o fault.OutOfMemory h = tt

module _ (clock : Calendar) (o : Over) (block : Block) where
  pub too_many : AreTooMany o block → Selects clock o block (Err run.PathBound)
  too_many many = record { each = λ s shows. ap (chosen_if (world_over clock o) s (view_block block)) (many.each clock s shows) }

  -- candidates that were listed are at most as many as allowed
  few_enough : (cs : List Candidate) → AreCandidates o block cs → (s : State Reference) → Shows o.frame s
      → selected_by (world_over clock o) s (view_block block) ≡ blaming of_block (chosen_by (world_over clock o) s (view_block block))
  few_enough cs are s shows =
      ap (chosen_if (world_over clock o) s (view_block block)) (ap (within_bound (view_block block).walk) (sym (are.each clock s shows)) ∙ are.bounded)

  pub choice_stops : (cs : List Candidate) (e : BlockFault) (other : RunFault) → AreCandidates o block cs → other ≡ fault_of_block e → Chooses clock o block (Err e) → Selects clock o block (Err other)
  choice_stops cs e other are is d = record {
    each = λ s shows.
        let world = world_over clock o in
        let q = view_block block in
        ends_same (selected_by world s q) (blaming of_block (chosen_by world s q)) other (few_enough cs are s shows)
        (subst (Ends (blaming of_block (chosen_by world s q))) (sym is) (ends_block (chosen_by world s q) e (d.each s shows)));
  }

  pub choice_goes : (cs : List Candidate) (r : Selected) → AreCandidates o block cs → Chooses clock o block (Ok r) → Selects clock o block (Ok r)
  choice_goes cs r are d = record { each = λ s shows. few_enough cs are s shows ∙ ap (blaming of_block) (d.each s shows) }

-- ---- POST-ACCUM and the tail

-- the answers, as the code promises each of them
abbrev pub Told : {A B : Type 0} → Over → (B → A) → (State Reference → Answer blocks.BlockFault A) → Result B BlockFault → Type 0
Told o view does r = (s : State Reference) → Shows o.frame s → Answered view (does s) r

module _ (clock : Calendar) (o : Over) (block : Block) (after : After) where
  -- what comes after POST-ACCUM
  abbrev tail_after : State Reference → blocks.After Reference → Answer blocks.BlockFault Chosen
  tail_after s b = tail (world_over clock o) s (view_block block) b >>= λ vs. Gives ((types_at (from (world_over clock o) s.names (view_block block)) (selects_target (world_over clock o) (view_block block)), vs), b.slots)

  pub post_stops : (e : BlockFault) → Told o after_is (λ s. posted (world_over clock o) s (view_block block) (after_is after)) (Err e) → Posts clock o block after (Err e)
  post_stops e p = record { each = λ s shows. ends_with (posted (world_over clock o) s (view_block block) (after_is after)) (tail_after s) e (p s shows) }

  pub tail_stops : (new : After) (e : BlockFault) → Told o after_is (λ s. posted (world_over clock o) s (view_block block) (after_is after)) (Ok new)
      → Told {B = List ℕ} o itself (λ s. tail (world_over clock o) s (view_block block) (after_is new)) (Err e) → Posts clock o block after (Err e)
  tail_stops new e p t = record {
    each = λ s shows.
        same_end (chosen_after (world_over clock o) s (view_block block) (after_is after)) (tail_after s (after_is new)) e (ap (λ x. x >>= tail_after s) (p s shows))
        (ends_with (tail (world_over clock o) s (view_block block) (after_is new)) (λ vs. Gives ((types_at (from (world_over clock o) s.names (view_block block)) (selects_target (world_over clock o) (view_block block)), vs), slots_are new.accums)) e (t s shows));
  }

  pub all_goes : (new : After) (vertices types : List ℕ) (r : Selected) → Told o after_is (λ s. posted (world_over clock o) s (view_block block) (after_is after)) (Ok new)
      → Told o itself (λ s. tail (world_over clock o) s (view_block block) (after_is new)) (Ok vertices) → HasTypes clock o block types
      → r ≡ record { accums = new.accums; types = types; vertices = vertices } → Posts clock o block after (Ok r)
  all_goes new vertices types r p t h is = record {
    each = λ s shows.
        ap (λ x. x >>= tail_after s) (p s shows) ∙ ap (λ x. x >>= λ vs. Gives ((types_at (from (world_over clock o) s.names (view_block block)) (selects_target (world_over clock o) (view_block block)), vs), slots_are new.accums)) (t s shows)
        ∙ ap (λ ts. Gives ((ts, vertices), slots_are new.accums)) (sym (h.each s shows)) ∙ ap (λ x. Gives (chosen x)) (sym is);
  }

pub kept_sound : (old new : After) → KeepsAll old new → AreSound new.accums
kept_sound old new k = k.accums.sound

pub kept_apart : (new old : List ℕ) → new ≡ old → IsDistinct nat_eq old → IsDistinct nat_eq new
kept_apart new old e d = subst (IsDistinct nat_eq) (sym e) d

pub selected_sound : (r : Selected) (new : After) (types vertices : List ℕ) → r ≡ record { accums = new.accums; types = types; vertices = vertices } → AreSound new.accums → AreSound r.accums
selected_sound r new types vertices is h = subst (λ (x : Selected). AreSound x.accums) (sym is) h

-- ---- the types

types_at_end : (e : ends.Ends) (f : From Reference) (b : Bool) → AreEnds e f → (end_at e b).types ≡ types_at f b
types_at_end e f true a = a.target_types
types_at_end e f false a = a.source_types

pub types_are : (clock : Calendar) (o : Over) (block : Block) (e : ends.Ends) (b : Bool) (types : List ℕ) → HasEnds o.schema o.plan o.frame.things block e
    → b ≡ is_alias same (target_alias (view_block block).walk) (view_block block).selected → types ≡ (end_at e b).types → HasTypes clock o block types
types_are clock o block e b types has is t = record {
  each = λ s shows.
      let f = from (world_over clock o) s.names (view_block block) in
      t ∙ types_at_end e f b (has.each (accum_names o.plan) (tuples_are o.tuples) o.vertices o.edges.rows clock s.names shows.names) ∙ ap (types_at f) is;
}
