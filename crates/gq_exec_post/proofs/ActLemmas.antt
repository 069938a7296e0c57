-- ActLemmas: statements at a vertex in order, and IF.
use Rattle.std.proofs.Common.{◌≡◌, ℕ, ◌+◌, ◌<◌, ◌≤◌, Bool, true, false, List, [], ◌∷◌, map, drop, length, get_or, Option, Some, None, Result, Ok, Err, refl, sym, ap, subst, ◌∙◌}
use Rattle.std.specs.Option.{option_map}
use Rattle.std.proofs.lemmas.List.{drop_all}
use Rattle.gq_tree.specs.Tree.{Tree}
use Rattle.gq_rules_typing.specs.SelectViews.{choices_of}
use Rattle.gq_rules_typing.specs.Selecting as plain
use Rattle.gq_rules_typing.specs.Selecting.{Acts, Choices}
use Rattle.gq_rules_meaning.specs.Answers.{Answer, Gives, ◌>>=◌, blaming}
use Rattle.gq_rules_meaning.specs.Blocks.{BlockFault, AtPlace}
use Rattle.gq_rules_meaning.specs.Calendars.{Calendar}
use Rattle.gq_rules_meaning.specs.Expressions.{truth_of}
use Rattle.gq_rules_meaning.specs.Posts.{Post, Written, feed, post_look, post_act, post_acts, post_choices, write}
use Rattle.gq_plan_ir.specs.declared.block.Act.{Act}
use Rattle.gq_plan_ir.specs.declared.block.Act.TheVariants as act
use Rattle.gq_plan_ir.specs.declared.block.Change as change
use Rattle.gq_plan_ir.specs.declared.expr.Expr.{Expr}
use Rattle.gq_plan_ir.specs.BlockView.{view_act, view_acts, view_change}
use Rattle.gq_plan_ir.specs.ExprView.{view}
use Rattle.gq_plan_ir.specs.Reference.{Reference, Slot}
use Rattle.gq_plan_ir.proofs.ViewLaws.{view_act-Attached, view_act-Global, view_act-If}
use Rattle.gq_frame.specs.declared.accums.Accums.{Accums}
use Rattle.gq_eval_operand.specs.declared.halt.Halt.{Halt}
use Rattle.gq_eval_operand.specs.Meant.{Halts}
use Rattle.gq_frame.specs.Names.{Placed}
use Rattle.gq_frame.specs.Slots.{AreSound}
use Rattle.gq_eval_context.specs.Viewed.{Over}
use Rattle.gq_eval_context.specs.declared.after.BlockFault as code
use Rattle.gq_eval_context.specs.Answered.{Answered, EndsAs}
use Rattle.gq_exec_post.specs.declared.writing.Writing.{Writing}
use Rattle.gq_eval_context.specs.Faults.{fault_at}
use Rattle.gq_exec_contribute.specs.declared.leaves.Leaves.{Leaves}
use Rattle.gq_exec_post.specs.Sights.{DoesSo, ReadsAt, SeesSo, look_now}
use Rattle.gq_exec_post.specs.Writing.{AreTaken, KeepsTo, written}
use Rattle.gq_eval_context.proofs.FaultLemmas.{ends_with, stops_at}
use Rattle.gq_exec_post.proofs.Steps.{at_place}

pub keeps_itself : (a : Accums) → AreSound a → KeepsTo a a
keeps_itself a s = record { sound = s; slots = refl }

pub keeps_on : (a b c : Accums) → KeepsTo a b → KeepsTo b c → KeepsTo a c
keeps_on a b c h k = record { sound = k.sound; slots = k.slots ∙ h.slots }

-- ---- statements in order

-- the state so far, followed by the remaining statements
pub record ActsTo (clock : Calendar) (o : Over) (aliases : List (ℕ × Placed)) (v : ℕ) (acts : List Act) (before : Writing) (i : ℕ) (now : Writing) : Type 0 where
  pub each : (p : Post Reference) → SeesSo clock o aliases v p → post_acts p (view_acts acts) (written before) ≡ post_acts p (view_acts (drop i acts)) (written now)
  pub keeps : KeepsTo before.accums now.accums
  pub taken : AreTaken now

module _ (clock : Calendar) (o : Over) (aliases : List (ℕ × Placed)) (v : ℕ) (acts : List Act) where
  pub acts_begin : (before : Writing) → AreSound before.accums → AreTaken before → ActsTo clock o aliases v acts before 0 before
  acts_begin before s t = record { each = λ p h. refl; keeps = keeps_itself before.accums s; taken = t }

  act_here : (i : ℕ) (a : Act) (before now : Writing) → ActsTo clock o aliases v acts before i now → i < length acts → a ≡ get_or acts i a → (p : Post Reference) → SeesSo clock o aliases v p
      → post_acts p (view_acts acts) (written before) ≡ (post_act p (view_act a) (written now) >>= post_acts p (view_acts (drop (i + 1) acts)))
  act_here i a before now inv n is p h = inv.each p h ∙ ap (λ bs. post_acts p (view_acts bs) (written now)) (at_place acts i a n is)

  pub act_stops : (i : ℕ) (a : Act) (before now : Writing) (e : code.BlockFault) → ActsTo clock o aliases v acts before i now → i < length acts → a ≡ get_or acts i a
      → DoesSo clock o aliases v (λ p. post_act p (view_act a)) now (Err e) → DoesSo clock o aliases v (λ p. post_acts p (view_acts acts)) before (Err e)
  act_stops i a before now e inv n is d = record { each = λ p h. subst (λ o. EndsAs o e) (sym (act_here i a before now inv n is p h)) (ends_with (post_act p (view_act a) (written now)) (post_acts p (view_acts (drop (i + 1) acts))) e (d.each p h)) }

  pub act_next : (i : ℕ) (a : Act) (before now next : Writing) → ActsTo clock o aliases v acts before i now → i < length acts → a ≡ get_or acts i a
      → DoesSo clock o aliases v (λ p. post_act p (view_act a)) now (Ok next) → KeepsTo now.accums next.accums → AreTaken next → ActsTo clock o aliases v acts before (i + 1) next
  act_next i a before now next inv n is d k t = record {
    each = λ p h. act_here i a before now inv n is p h ∙ ap (λ o. o >>= post_acts p (view_acts (drop (i + 1) acts))) (d.each p h);
    keeps = keeps_on before.accums now.accums next.accums inv.keeps k;
    taken = t;
  }

  pub acts_end : (i : ℕ) (before now : Writing) → ActsTo clock o aliases v acts before i now → length acts ≤ i → DoesSo clock o aliases v (λ p. post_acts p (view_acts acts)) before (Ok now)
  acts_end i before now inv l = record { each = λ p h. inv.each p h ∙ ap (λ bs. post_acts p (view_acts bs) (written now)) (drop_all i acts l) }

  pub acts_sound : (i : ℕ) (before now : Writing) → ActsTo clock o aliases v acts before i now → AreSound now.accums
  acts_sound i before now inv = inv.keeps.sound

  pub acts_keep : (i : ℕ) (before now : Writing) → ActsTo clock o aliases v acts before i now → KeepsTo before.accums now.accums
  acts_keep i before now inv = inv.keeps

  pub acts_taken : (i : ℕ) (before now : Writing) → ActsTo clock o aliases v acts before i now → AreTaken now
  acts_taken i before now inv = inv.taken

pub ruleset acts_laws = (acts_begin, acts_end, acts_sound, acts_keep, acts_taken)

-- ---- a change

pub attached_is : (clock : Calendar) (o : Over) (aliases : List (ℕ × Placed)) (v : ℕ) (a : Act) (place slot : ℕ) (c : change.Change) (before : Writing) (r : Result Writing code.BlockFault) → a ≡ act.Attached place slot c
    → DoesSo clock o aliases v (λ p. write p (Slot slot) (view_change c)) before r → DoesSo clock o aliases v (λ p. post_act p (view_act a)) before r
attached_is clock o aliases v a place slot c before r is d = record { each = λ p h. subst (λ (x : plain.Act Reference). Answered written (post_act p x (written before)) r) (sym (ap view_act is ∙ view_act-Attached place slot c)) (d.each p h) }

pub global_is : (clock : Calendar) (o : Over) (aliases : List (ℕ × Placed)) (v : ℕ) (a : Act) (slot : ℕ) (c : change.Change) (before : Writing) (r : Result Writing code.BlockFault) → a ≡ act.Global slot c
    → DoesSo clock o aliases v (λ p. feed p (Slot slot) (view_change c)) before r → DoesSo clock o aliases v (λ p. post_act p (view_act a)) before r
global_is clock o aliases v a slot c before r is d = record { each = λ p h. subst (λ (x : plain.Act Reference). Answered written (post_act p x (written before)) r) (sym (ap view_act is ∙ view_act-Global slot c)) (d.each p h) }

-- ---- IF

-- IF and each ELSE IF, and the statements of ELSE
abbrev pub view_choices : List (Expr × List Act) → Option (List Act) → Choices Reference
view_choices branches others = choices_of (map (λ b. (view b.0, map view_act b.1)) branches) (option_map (map view_act) others)

-- none of the first i conditions holds
pub record ChosenTo (clock : Calendar) (o : Over) (aliases : List (ℕ × Placed)) (v : ℕ) (bs : List (Expr × List Act)) (others : Option (List Act)) (before : Writing) (i : ℕ) : Type 0 where
  pub each : (p : Post Reference) → SeesSo clock o aliases v p → post_choices p (view_choices bs others) (written before) ≡ post_choices p (view_choices (drop i bs) others) (written before)

abbrev of_truth : Post Reference → Acts Reference → Choices Reference → Written Reference → Bool → Answer BlockFault (Written Reference)
of_truth p acts rest w = elim [ true ↦ post_acts p acts w | false ↦ post_choices p rest w ]

same_choices : (bs : List (Expr × List Act)) → map {A = Expr × List (plain.Act Reference)} {B = Tree Reference × List (plain.Act Reference)} (λ b. (view b.0, b.1)) (map {A = Expr × List Act} {B = Expr × List (plain.Act Reference)} (λ b. (b.0, map view_act b.1)) bs)
    ≡ map {A = Expr × List Act} {B = Tree Reference × List (plain.Act Reference)} (λ b. (view b.0, map view_act b.1)) bs
same_choices [] = refl
same_choices (b ∷ bs) = ap (λ cs. (view b.0, map view_act b.1) ∷ cs) (same_choices bs)

module _ (clock : Calendar) (o : Over) (aliases : List (ℕ × Placed)) (v : ℕ) (a : Act) (bs items : List (Expr × List Act)) (others : Option (List Act)) (is : a ≡ act.If bs others) (lent : items ≡ bs) (before : Writing) where
  if_is : (p : Post Reference) → post_act p (view_act a) (written before) ≡ post_choices p (view_choices items others) (written before)
  if_is p =
      ap (λ a. post_act p (view_act a) (written before)) is ∙ ap (λ a. post_act p a (written before)) (view_act-If bs others)
      ∙ ap (λ cs. post_choices p (choices_of cs (option_map (map view_act) others)) (written before)) (same_choices bs)
      ∙ ap (λ bs. post_choices p (view_choices bs others) (written before)) (sym lent)

  module _ (i : ℕ) (inv : ChosenTo clock o aliases v items others before i) where
    choice_here : (b : Expr × List Act) → i < length items → b ≡ get_or items i b → (p : Post Reference) → SeesSo clock o aliases v p
        → post_choices p (view_choices items others) (written before) ≡ (blaming (AtPlace v) (truth_of (look_now clock o aliases before.accums) (view b.0)) >>= of_truth p (view_acts b.1) (view_choices (drop (i + 1) items) others) (written before))
    choice_here b n at p h =
        inv.each p h ∙ ap (λ cs. post_choices p (view_choices cs others) (written before)) (at_place items i b n at)
        ∙ ap (λ v. blaming (AtPlace v) (truth_of (post_look p (written before)) (view b.0)) >>= of_truth p (view_acts b.1) (view_choices (drop (i + 1) items) others) (written before)) h.vertex
        ∙ ap (λ look. blaming (AtPlace v) (truth_of look (view b.0)) >>= of_truth p (view_acts b.1) (view_choices (drop (i + 1) items) others) (written before)) (sym (h.looks before.accums))

    pub if_stops : (b : Expr × List Act) (h : Halt) → i < length items → b ≡ get_or items i b → Halts (truth_of (look_now clock o aliases before.accums) (view b.0)) h → (e : code.BlockFault) → e ≡ fault_at v h
        → DoesSo clock o aliases v (λ p. post_act p (view_act a)) before (Err e)
    if_stops b h n at s e eq = subst (λ e. DoesSo clock o aliases v (λ p. post_act p (view_act a)) before (Err e)) (sym eq) (record {
      each = λ p sees. subst (λ o. EndsAs o (fault_at v h)) (sym (if_is p ∙ choice_here b n at p sees)) (stops_at (truth_of (look_now clock o aliases before.accums) (view b.0)) (of_truth p (view_acts b.1) (view_choices (drop (i + 1) items) others) (written before)) v h s);
    })

    pub if_holds : (b : Expr × List Act) (acts : List Act) (r : Result Writing code.BlockFault) (q : Bool) → i < length items → b ≡ get_or items i b → truth_of (look_now clock o aliases before.accums) (view b.0) ≡ Gives q → q ≡ true → acts ≡ b.1
        → DoesSo clock o aliases v (λ p. post_acts p (view_acts acts)) before r → DoesSo clock o aliases v (λ p. post_act p (view_act a)) before r
    if_holds b acts r q n at t e same d = record {
      each = λ p sees. subst (λ o. Answered written o r)
          (sym (if_is p ∙ choice_here b n at p sees ∙ ap (λ o. blaming (AtPlace v) o >>= of_truth p (view_acts b.1) (view_choices (drop (i + 1) items) others) (written before)) t ∙ ap (of_truth p (view_acts b.1) (view_choices (drop (i + 1) items) others) (written before)) e ∙ ap (λ acts. post_acts p (view_acts acts) (written before)) (sym same)))
          (d.each p sees);
    }

    left : (x : Option (List Act)) → length items ≤ i → others ≡ x → (p : Post Reference) → SeesSo clock o aliases v p → post_act p (view_act a) (written before) ≡ post_choices p (view_choices [] x) (written before)
    left x l e p h = if_is p ∙ inv.each p h ∙ ap (λ cs. post_choices p (view_choices cs others) (written before)) (drop_all i items l) ∙ ap (λ x. post_choices p (view_choices [] x) (written before)) e

    pub if_last : (rest acts : List Act) (r : Result Writing code.BlockFault) → length items ≤ i → others ≡ Some rest → acts ≡ rest → DoesSo clock o aliases v (λ p. post_acts p (view_acts acts)) before r → DoesSo clock o aliases v (λ p. post_act p (view_act a)) before r
    if_last rest acts r l some same d = record {
      each = λ p h. subst (λ o. Answered written o r) (sym (left (Some rest) l some p h ∙ ap (λ acts. post_acts p (view_acts acts) (written before)) (sym same))) (d.each p h);
    }

    pub if_none : length items ≤ i → others ≡ None → DoesSo clock o aliases v (λ p. post_act p (view_act a)) before (Ok before)
    if_none l none = record { each = λ p h. left None l none p h }

pub choice_begin : (clock : Calendar) (o : Over) (aliases : List (ℕ × Placed)) (v : ℕ) (bs : List (Expr × List Act)) (others : Option (List Act)) (before : Writing) → ChosenTo clock o aliases v bs others before 0
choice_begin clock o aliases v bs others before = record { each = λ p h. refl }

pub choice_next : (clock : Calendar) (o : Over) (aliases : List (ℕ × Placed)) (v : ℕ) (bs : List (Expr × List Act)) (others : Option (List Act)) (before : Writing) (i : ℕ) (b : Expr × List Act) (q : Bool) → ChosenTo clock o aliases v bs others before i → i < length bs → b ≡ get_or bs i b
    → truth_of (look_now clock o aliases before.accums) (view b.0) ≡ Gives q → q ≡ false → ChosenTo clock o aliases v bs others before (i + 1)
choice_next clock o aliases v bs others before i b q inv n is t e = record {
  each = λ p h.
      inv.each p h ∙ ap (λ cs. post_choices p (view_choices cs others) (written before)) (at_place bs i b n is)
      ∙ ap (λ look. blaming (AtPlace p.vertex) (truth_of look (view b.0)) >>= of_truth p (view_acts b.1) (view_choices (drop (i + 1) bs) others) (written before)) (sym (h.looks before.accums))
      ∙ ap (λ o. blaming (AtPlace p.vertex) o >>= of_truth p (view_acts b.1) (view_choices (drop (i + 1) bs) others) (written before)) t
      ∙ ap (of_truth p (view_acts b.1) (view_choices (drop (i + 1) bs) others) (written before)) e;
}

pub none_chosen : (w : Writing) → AreSound w.accums → KeepsTo w.accums w.accums
none_chosen w s = keeps_itself w.accums s

-- before the branches of an IF, of which none is chosen yet, nothing is written
pub record Unwritten (clock : Calendar) (o : Over) (aliases : List (ℕ × Placed)) (v : ℕ) (l : Leaves) (bs : List (Expr × List Act)) (others : Option (List Act)) (old now : Writing) (i : ℕ) : Type 0 where
  pub same : now ≡ old
  pub sound : AreSound now.accums
  pub taken : AreTaken now
  pub reads : ReadsAt l aliases v now.accums
  pub chosen : ChosenTo clock o aliases v bs others now i

pub unwritten : (clock : Calendar) (o : Over) (aliases : List (ℕ × Placed)) (v : ℕ) (l : Leaves) (bs : List (Expr × List Act)) (others : Option (List Act)) (w : Writing) → AreSound w.accums → AreTaken w → ReadsAt l aliases v w.accums → Unwritten clock o aliases v l bs others w w 0
unwritten clock o aliases v l bs others w s t r = record { same = refl; sound = s; taken = t; reads = r; chosen = choice_begin clock o aliases v bs others w }

pub unwritten_sound : (clock : Calendar) (o : Over) (aliases : List (ℕ × Placed)) (v : ℕ) (l : Leaves) (bs : List (Expr × List Act)) (others : Option (List Act)) (old now : Writing) (i : ℕ) → Unwritten clock o aliases v l bs others old now i → AreSound now.accums
unwritten_sound clock o aliases v l bs others old now i u = u.sound

pub unwritten_taken : (clock : Calendar) (o : Over) (aliases : List (ℕ × Placed)) (v : ℕ) (l : Leaves) (bs : List (Expr × List Act)) (others : Option (List Act)) (old now : Writing) (i : ℕ) → Unwritten clock o aliases v l bs others old now i → AreTaken now
unwritten_taken clock o aliases v l bs others old now i u = u.taken

pub unwritten_reads : (clock : Calendar) (o : Over) (aliases : List (ℕ × Placed)) (v : ℕ) (l : Leaves) (bs : List (Expr × List Act)) (others : Option (List Act)) (old now : Writing) (i : ℕ) → Unwritten clock o aliases v l bs others old now i → ReadsAt l aliases v now.accums
unwritten_reads clock o aliases v l bs others old now i u = u.reads

pub ruleset act_laws = (unwritten, unwritten_sound, unwritten_taken, unwritten_reads, none_chosen)
