-- ActLemmas: the contributions of statements, from those of the first one.
use Rattle.std.proofs.Common.{◌≡◌, ℕ, ◌+◌, ◌<◌, ◌≤◌, Bool, true, false, List, [], ◌∷◌, ◌++◌, map, drop, length, get_or, Option, Some, None, Result, Err, refl, sym, ap, subst, ◌∙◌}
use Rattle.std.specs.List.{slice_get}
use Rattle.std.specs.Option.{option_map}
use Rattle.std.proofs.lemmas.List.{append_assoc, append-nil, drop_more, drop_all}
use Rattle.gq_tree.specs.Tree.{Tree}
use Rattle.gq_value.specs.declared.kind.Input.{Input}
use Rattle.gq_value.specs.declared.kind.Slot.{Slot}
use Rattle.gq_value.specs.declared.value.Wrong.{Wrong}
use Rattle.gq_value.specs.Accums.{Given}
use Rattle.gq_value.specs.AccumViews.{accum_of, given}
use Rattle.gq_frame.specs.declared.accums.Accums.{Accums}
use Rattle.gq_rules_typing.specs.SelectViews.{choices_of}
use Rattle.gq_rules_typing.specs.Selecting as plain
use Rattle.gq_rules_typing.specs.Selecting.{Acts, Choices, Change, Adds, act_and}
use Rattle.gq_rules_meaning.specs.Answers.{Answer, Gives, Faults, Stuck, ◌>>=◌, found}
use Rattle.gq_rules_meaning.specs.Expressions.{Look, truth_of}
use Rattle.gq_rules_meaning.specs.Meanings.{Meant, vertex_of_meant}
use Rattle.gq_rules_meaning.specs.Blocks.{Contribution, input_of, contributions, of_act, of_choices, contributed, vertex_named}
use Rattle.gq_rules_meaning.specs.States as states
use Rattle.gq_rules_meaning.specs.States.{slot_number, slot_named}
use Rattle.gq_plan_ir.specs.declared.block.Act.{Act}
use Rattle.gq_plan_ir.specs.declared.block.Act.TheVariants as act
use Rattle.gq_plan_ir.specs.declared.block.Change as code
use Rattle.gq_plan_ir.specs.declared.block.Change.TheVariants as change
use Rattle.gq_plan_ir.specs.declared.block.Feed.{Feed}
use Rattle.gq_plan_ir.specs.declared.expr.Expr.{Expr}
use Rattle.gq_plan_ir.specs.BlockView.{view_acts, view_act, view_change, view_feed}
use Rattle.gq_plan_ir.proofs.ViewLaws.{view_act-If}
use Rattle.gq_plan_ir.specs.ExprView.{view}
use Rattle.gq_plan_ir.specs.Reference as reference
use Rattle.gq_plan_ir.specs.Reference.{Reference}
use Rattle.gq_plan_ir.specs.References.{same}
use Rattle.gq_eval_operand.specs.declared.halt.Halt.{Halt}
use Rattle.gq_eval_operand.specs.declared.halt.Halt.TheVariants as halt
use Rattle.gq_eval_operand.specs.Meant.{Halts, Tells}
use Rattle.gq_frame.specs.Slots.{slots_are}
use Rattle.gq_frame.proofs.SlotLemmas.{number_there, named_some}
use Rattle.gq_eval_builtins.proofs.TimeLemmas.{stops}
use Rattle.gq_exec_contribute.specs.declared.feeding.Feeding.{Feeding}
use Rattle.gq_exec_contribute.specs.Gathered.{contribution_of, shown, after}

-- ---- after earlier contributions

-- a halt of the first part is a halt of the whole
after_stops : (xs : List Contribution) (o : Answer Wrong (List Contribution)) (f : List Contribution → Answer Wrong (List Contribution)) (h : Halt) → Halts (after xs o) h → Halts (after xs (o >>= f)) h
after_stops xs (Gives ys) f (halt.Wrong w) s = absurd (cc s)
after_stops xs (Gives ys) f halt.Stuck s = absurd (cc s)
after_stops xs (Gives ys) f halt.OutOfMemory s = tt
after_stops xs (Faults v) f (halt.Wrong w) s = s
after_stops xs (Faults v) f halt.Stuck s = absurd (cc s)
after_stops xs (Faults v) f halt.OutOfMemory s = tt
after_stops xs Stuck f (halt.Wrong w) s = absurd (cc s)
after_stops xs Stuck f halt.Stuck s = s
after_stops xs Stuck f halt.OutOfMemory s = tt

within : {A : Type 0} (xs : List Contribution) (o : Answer Wrong A) (f : A → Answer Wrong (List Contribution)) (h : Halt) → Halts o h → Halts (after xs (o >>= f)) h
within xs o f (halt.Wrong w) s = ap (λ o. after xs (o >>= f)) s
within xs o f halt.Stuck s = ap (λ o. after xs (o >>= f)) s
within xs o f halt.OutOfMemory s = tt

gives_inj : {A : Type 0} {a b : A} → ◌≡◌ {A = Answer Wrong A} (Gives a) (Gives b) → a ≡ b
gives_inj e = cc

behind : (xs ys : List Contribution) (p : Answer Wrong (List Contribution)) → after xs (p >>= λ us. Gives (ys ++ us)) ≡ after (xs ++ ys) p
behind xs ys (Gives us) = ap Gives (sym (append_assoc xs ys us))
behind xs ys (Faults w) = refl
behind xs ys Stuck = refl

after_next : (xs zs : List Contribution) (o p : Answer Wrong (List Contribution)) → after xs o ≡ Gives zs → after xs (o >>= λ ys. p >>= λ us. Gives (ys ++ us)) ≡ after zs p
after_next xs zs (Gives ys) p e = behind xs ys p ∙ ap (λ zs. after zs p) (gives_inj e)
after_next xs zs (Faults w) p e = absurd (cc e)
after_next xs zs Stuck p e = absurd (cc e)

-- ---- statements in order

-- the inputs gathered so far, followed by the contributions of the remaining statements
abbrev pub GatheredTo : Look Reference → List (states.Slot Reference) → List Act → List Contribution → ℕ → List Contribution → Type 0
GatheredTo look slots acts xs i ys = after xs (contributions look slots (view_acts acts)) ≡ after ys (contributions look slots (view_acts (drop i acts)))

at_act : (acts : List Act) (i : ℕ) (a : Act) → i < length acts → a ≡ get_or acts i a → drop i acts ≡ a ∷ drop (i + 1) acts
at_act acts i a n is = drop_more acts i a n ∙ ap (λ x. x ∷ drop (i + 1) acts) (sym is)

act_here : (look : Look Reference) (slots : List (states.Slot Reference)) (acts : List Act) (xs ys : List Contribution) (i : ℕ) (a : Act) → GatheredTo look slots acts xs i ys → i < length acts → a ≡ get_or acts i a
    → after xs (contributions look slots (view_acts acts)) ≡ after ys (of_act look slots (view_act a) >>= λ us. contributions look slots (view_acts (drop (i + 1) acts)) >>= λ vs. Gives (us ++ vs))
act_here look slots acts xs ys i a inv n is = inv ∙ ap (λ bs. after ys (contributions look slots (view_acts bs))) (at_act acts i a n is)

pub act_stops : (look : Look Reference) (slots : List (states.Slot Reference)) (acts : List Act) (xs ys : List Contribution) (i : ℕ) (a : Act) (h : Halt) → GatheredTo look slots acts xs i ys → i < length acts → a ≡ get_or acts i a
    → Halts (after ys (of_act look slots (view_act a))) h → Halts (after xs (contributions look slots (view_acts acts))) h
act_stops look slots acts xs ys i a h inv n is s = subst (λ o. Halts o h) (sym (act_here look slots acts xs ys i a inv n is)) (after_stops ys (of_act look slots (view_act a)) _ h s)

pub act_next : (look : Look Reference) (slots : List (states.Slot Reference)) (acts : List Act) (xs ys zs : List Contribution) (i : ℕ) (a : Act) → GatheredTo look slots acts xs i ys → i < length acts → a ≡ get_or acts i a
    → after ys (of_act look slots (view_act a)) ≡ Gives zs → GatheredTo look slots acts xs (i + 1) zs
act_next look slots acts xs ys zs i a inv n is e = act_here look slots acts xs ys i a inv n is ∙ after_next ys zs (of_act look slots (view_act a)) (contributions look slots (view_acts (drop (i + 1) acts))) e

pub acts_end : (look : Look Reference) (slots : List (states.Slot Reference)) (acts : List Act) (xs ys : List Contribution) (i : ℕ) → GatheredTo look slots acts xs i ys → length acts ≤ i → after xs (contributions look slots (view_acts acts)) ≡ Gives ys
acts_end look slots acts xs ys i inv l = inv ∙ ap (λ bs. after ys (contributions look slots (view_acts bs))) (drop_all i acts l) ∙ ap Gives (append-nil ys)

pub ruleset acts_laws = (act_stops, act_next, acts_end)

-- ---- one statement

pub alias_stops : (look : Look Reference) (slots : List (states.Slot Reference)) (xs : List Contribution) (v a : Reference) (c : Change Reference) (h : Halt) → Halts (vertex_named look v) h → Halts (after xs (of_act look slots (plain.AtAlias v a c))) h
alias_stops look slots xs v a c h s = within xs (vertex_named look v) (λ n. contributed look slots a n c) h s

pub alias_goes : (look : Look Reference) (slots : List (states.Slot Reference)) (xs : List Contribution) (v a : Reference) (n : ℕ) (c : Change Reference) {C : Type 0} (view : C → List Contribution) (r : Result C Halt) → vertex_named look v ≡ Gives n → Tells view (after xs (contributed look slots a n c)) r → Tells view (after xs (of_act look slots (plain.AtAlias v a c))) r
alias_goes look slots xs v a n c view r e t = subst (λ o. Tells view (after xs (o >>= λ n. contributed look slots a n c)) r) (sym e) t

pub ruleset act_laws = (alias_stops, alias_goes)

-- ---- the vertex of an alias

pub named_stops : (look : Look Reference) (v : Reference) (h : Halt) → Halts (look.named v) h → Halts (vertex_named look v) h
named_stops look v h s = stops (look.named v) vertex_of_meant h s

pub named_goes : (look : Look Reference) (v : Reference) (m : Meant) {C : Type 0} (view : C → ℕ) (r : Result C Halt) → look.named v ≡ Gives m → Tells view (vertex_of_meant m) r → Tells view (vertex_named look v) r
named_goes look v m view r e t = subst (λ o. Tells view (o >>= vertex_of_meant) r) (sym e) t

pub ruleset vertex_laws = (named_stops, named_goes)

-- ---- a change

abbrev one_more : ℕ → ℕ → Given → Answer Wrong (List Contribution)
one_more n v y = Gives (record { slot = n; vertex = v; input = y } ∷ [])

abbrev of_slot : Look Reference → plain.Input Reference → ℕ → ℕ → Option (states.Slot Reference) → Answer Wrong (List Contribution)
of_slot look x v n o = found o >>= λ s. input_of look s.kind x >>= one_more n v

change_there : (look : Look Reference) (a : Accums) (n v : ℕ) (s : Slot) (x : plain.Input Reference) → look.world.words.same ≡ same → slice_get a.slots.declared n ≡ Some s → contributed look (slots_are a) (reference.Slot n) v (Adds x) ≡ (input_of look (accum_of s.kind) x >>= one_more n v)
change_there look a n v s x w e =
    ap (λ o. found o >>= λ m. of_slot look x v m (slot_named look.world (slots_are a) (reference.Slot n))) (number_there look.world a n w ∙ ap (option_map (λ s. n)) e)
    ∙ ap (of_slot look x v n) (named_some look.world a n s w e)

change_gone : (look : Look Reference) (a : Accums) (n v : ℕ) (x : plain.Input Reference) → look.world.words.same ≡ same → slice_get a.slots.declared n ≡ None → contributed look (slots_are a) (reference.Slot n) v (Adds x) ≡ Stuck
change_gone look a n v x w e = ap (λ o. found o >>= λ m. of_slot look x v m (slot_named look.world (slots_are a) (reference.Slot n))) (number_there look.world a n w ∙ ap (option_map (λ s. n)) e)

pub slot_gone : (look : Look Reference) (a : Accums) (xs : List Contribution) (n v : ℕ) (x : plain.Input Reference) → look.world.words.same ≡ same → slice_get a.slots.declared n ≡ None → after xs (contributed look (slots_are a) (reference.Slot n) v (Adds x)) ≡ Stuck
slot_gone look a xs n v x w e = ap (after xs) (change_gone look a n v x w e)

input_stops : (look : Look Reference) (a : Accums) (xs : List Contribution) (n v : ℕ) (s : Slot) (x : plain.Input Reference) (h : Halt) → look.world.words.same ≡ same → slice_get a.slots.declared n ≡ Some s → Halts (input_of look (accum_of s.kind) x) h
    → Halts (after xs (contributed look (slots_are a) (reference.Slot n) v (Adds x))) h
input_stops look a xs n v s x h w e p = subst (λ o. Halts (after xs o) h) (sym (change_there look a n v s x w e)) (within xs (input_of look (accum_of s.kind) x) (one_more n v) h p)

shown_more : (fs : List Feeding) (f : Feeding) → shown (fs ++ f ∷ []) ≡ shown fs ++ contribution_of f ∷ []
shown_more [] f = refl
shown_more (g ∷ fs) f = ap (λ xs. contribution_of g ∷ xs) (shown_more fs f)

pub input_gathered : (look : Look Reference) (a : Accums) (fs gs : List Feeding) (n v : ℕ) (s : Slot) (x : plain.Input Reference) (i : Input) → look.world.words.same ≡ same → slice_get a.slots.declared n ≡ Some s → input_of look (accum_of s.kind) x ≡ Gives (given i)
    → gs ≡ fs ++ (record { slot = n; vertex = v; input = i }) ∷ [] → after (shown fs) (contributed look (slots_are a) (reference.Slot n) v (Adds x)) ≡ Gives (shown gs)
input_gathered look a fs gs n v s x i w e g push =
    ap (after (shown fs)) (change_there look a n v s x w e ∙ ap (λ o. o >>= one_more n v) g)
    ∙ ap Gives (sym (shown_more fs (record { slot = n; vertex = v; input = i })) ∙ ap shown (sym push))

pub feed_stops : (look : Look Reference) (a : Accums) (xs : List Contribution) (n v : ℕ) (s : Slot) (c : code.Change) (f : Feed) (h : Halt) {C : Type 0} (view_of : C → List Contribution) (r : Result C Halt) → look.world.words.same ≡ same → c ≡ change.Feed f → slice_get a.slots.declared n ≡ Some s
    → Halts (input_of look (accum_of s.kind) (view_feed f)) h → r ≡ Err h → Tells view_of (after xs (contributed look (slots_are a) (reference.Slot n) v (view_change c))) r
feed_stops look a xs n v s c f h view_of r w is e p failed =
    subst (λ r. Tells view_of (after xs (contributed look (slots_are a) (reference.Slot n) v (view_change c))) r) (sym failed)
    (subst (λ c. Halts (after xs (contributed look (slots_are a) (reference.Slot n) v (view_change c))) h) (sym is) (input_stops look a xs n v s (view_feed f) h w e p))

pub ruleset change_laws = (slot_gone, input_gathered)

-- ---- IF

-- IF and each ELSE IF, and the statements of ELSE
abbrev pub view_choices : List (Expr × List Act) → Option (List Act) → Choices Reference
view_choices branches others = choices_of (map (λ b. (view b.0, map view_act b.1)) branches) (option_map (map view_act) others)

abbrev pub ChosenTo : Look Reference → List (states.Slot Reference) → List (Expr × List Act) → Option (List Act) → ℕ → Type 0
ChosenTo look slots bs others i = of_choices look slots (view_choices bs others) ≡ of_choices look slots (view_choices (drop i bs) others)

abbrev of_truth : Look Reference → List (states.Slot Reference) → Acts Reference → Choices Reference → Bool → Answer Wrong (List Contribution)
of_truth look slots acts rest = elim [ true ↦ contributions look slots acts | false ↦ of_choices look slots rest ]

choice_here : (look : Look Reference) (slots : List (states.Slot Reference)) (bs : List (Expr × List Act)) (others : Option (List Act)) (i : ℕ) (b : Expr × List Act) → ChosenTo look slots bs others i → i < length bs → b ≡ get_or bs i b
    → of_choices look slots (view_choices bs others) ≡ (truth_of look (view b.0) >>= of_truth look slots (view_acts b.1) (view_choices (drop (i + 1) bs) others))
choice_here look slots bs others i b inv n is = inv ∙ ap (λ cs. of_choices look slots (view_choices cs others)) (drop_more bs i b n ∙ ap (λ x. x ∷ drop (i + 1) bs) (sym is))

choice_stops : (look : Look Reference) (slots : List (states.Slot Reference)) (bs : List (Expr × List Act)) (others : Option (List Act)) (i : ℕ) (b : Expr × List Act) (xs : List Contribution) (h : Halt) → ChosenTo look slots bs others i → i < length bs → b ≡ get_or bs i b
    → Halts (truth_of look (view b.0)) h → Halts (after xs (of_choices look slots (view_choices bs others))) h
choice_stops look slots bs others i b xs h inv n is s = subst (λ o. Halts (after xs o) h) (sym (choice_here look slots bs others i b inv n is)) (within xs (truth_of look (view b.0)) (of_truth look slots (view_acts b.1) (view_choices (drop (i + 1) bs) others)) h s)

choice_holds : (look : Look Reference) (slots : List (states.Slot Reference)) (bs : List (Expr × List Act)) (others : Option (List Act)) (i : ℕ) (b : Expr × List Act) (q : Bool) (xs : List Contribution) {C : Type 0} (view_of : C → List Contribution) (r : Result C Halt) → ChosenTo look slots bs others i → i < length bs → b ≡ get_or bs i b
    → truth_of look (view b.0) ≡ Gives q → q ≡ true → Tells view_of (after xs (contributions look slots (view_acts b.1))) r → Tells view_of (after xs (of_choices look slots (view_choices bs others))) r
choice_holds look slots bs others i b q xs view_of r inv n is e t h =
    subst (λ o. Tells view_of (after xs o) r) (sym (choice_here look slots bs others i b inv n is ∙ ap (λ o. o >>= of_truth look slots (view_acts b.1) (view_choices (drop (i + 1) bs) others)) (e ∙ ap Gives t))) h

pub choice_next : (look : Look Reference) (slots : List (states.Slot Reference)) (bs : List (Expr × List Act)) (others : Option (List Act)) (i : ℕ) (b : Expr × List Act) (q : Bool) → ChosenTo look slots bs others i → i < length bs → b ≡ get_or bs i b
    → truth_of look (view b.0) ≡ Gives q → q ≡ false → ChosenTo look slots bs others (i + 1)
choice_next look slots bs others i b q inv n is e t = choice_here look slots bs others i b inv n is ∙ ap (λ o. o >>= of_truth look slots (view_acts b.1) (view_choices (drop (i + 1) bs) others)) (e ∙ ap Gives t)

left : (look : Look Reference) (slots : List (states.Slot Reference)) (bs : List (Expr × List Act)) (others o : Option (List Act)) (i : ℕ) → ChosenTo look slots bs others i → length bs ≤ i → others ≡ o
    → of_choices look slots (view_choices bs others) ≡ of_choices look slots (view_choices [] o)
left look slots bs others o i inv l e = inv ∙ ap (λ cs. of_choices look slots (view_choices cs others)) (drop_all i bs l) ∙ ap (λ o. of_choices look slots (view_choices [] o)) e

choice_last : (look : Look Reference) (slots : List (states.Slot Reference)) (bs : List (Expr × List Act)) (others : Option (List Act)) (acts : List Act) (i : ℕ) → ChosenTo look slots bs others i → length bs ≤ i → others ≡ Some acts
    → of_choices look slots (view_choices bs others) ≡ contributions look slots (view_acts acts)
choice_last look slots bs others acts i inv l e = left look slots bs others (Some acts) i inv l e

choice_none : (look : Look Reference) (slots : List (states.Slot Reference)) (bs : List (Expr × List Act)) (others : Option (List Act)) (i : ℕ) (xs : List Contribution) → ChosenTo look slots bs others i → length bs ≤ i → others ≡ None
    → after xs (of_choices look slots (view_choices bs others)) ≡ Gives xs
choice_none look slots bs others i xs inv l e = ap (after xs) (left look slots bs others None i inv l e) ∙ ap Gives (append-nil xs)

-- ---- the statement IF

same_choices : (bs : List (Expr × List Act)) → map {A = Expr × List (plain.Act Reference)} {B = Tree Reference × List (plain.Act Reference)} (λ b. (view b.0, b.1)) (map {A = Expr × List Act} {B = Expr × List (plain.Act Reference)} (λ b. (b.0, map view_act b.1)) bs)
    ≡ map {A = Expr × List Act} {B = Tree Reference × List (plain.Act Reference)} (λ b. (view b.0, map view_act b.1)) bs
same_choices [] = refl
same_choices (b ∷ bs) = ap (λ cs. (view b.0, map view_act b.1) ∷ cs) (same_choices bs)

if_is : (look : Look Reference) (slots : List (states.Slot Reference)) (a : Act) (bs items : List (Expr × List Act)) (others : Option (List Act)) → a ≡ act.If bs others → items ≡ bs → of_act look slots (view_act a) ≡ of_choices look slots (view_choices items others)
if_is look slots a bs items others is e =
    ap (λ a. of_act look slots (view_act a)) is ∙ ap (of_act look slots) (view_act-If bs others)
    ∙ ap (λ cs. of_choices look slots (choices_of cs (option_map (map view_act) others))) (same_choices bs)
    ∙ ap (λ bs. of_choices look slots (view_choices bs others)) (sym e)

module _ (look : Look Reference) (slots : List (states.Slot Reference)) (a : Act) (bs items : List (Expr × List Act)) (others : Option (List Act)) (is : a ≡ act.If bs others) (e : items ≡ bs) (i : ℕ) (xs : List Contribution) where
  pub if_stops : (b : Expr × List Act) (h : Halt) {C : Type 0} (view_of : C → List Contribution) (r : Result C Halt) → ChosenTo look slots items others i → i < length items → b ≡ get_or items i b
      → Halts (truth_of look (view b.0)) h → r ≡ Err h → Tells view_of (after xs (of_act look slots (view_act a))) r
  if_stops b h view_of r inv n at s failed =
      subst (λ r. Tells view_of (after xs (of_act look slots (view_act a))) r) (sym failed)
      (subst (λ o. Halts (after xs o) h) (sym (if_is look slots a bs items others is e)) (choice_stops look slots items others i b xs h inv n at s))

  pub if_holds : (b : Expr × List Act) (q : Bool) (acts : List Act) {C : Type 0} (view_of : C → List Contribution) (r : Result C Halt) → ChosenTo look slots items others i → i < length items → b ≡ get_or items i b
      → truth_of look (view b.0) ≡ Gives q → q ≡ true → acts ≡ b.1 → Tells view_of (after xs (contributions look slots (view_acts acts))) r → Tells view_of (after xs (of_act look slots (view_act a))) r
  if_holds b q acts view_of r inv n at t yes_it_is same t2 =
      subst (λ o. Tells view_of (after xs o) r) (sym (if_is look slots a bs items others is e))
      (choice_holds look slots items others i b q xs view_of r inv n at t yes_it_is (subst (λ acts. Tells view_of (after xs (contributions look slots (view_acts acts))) r) same t2))

  pub if_last : (o acts : List Act) {C : Type 0} (view_of : C → List Contribution) (r : Result C Halt) → ChosenTo look slots items others i → length items ≤ i → others ≡ Some o → acts ≡ o
      → Tells view_of (after xs (contributions look slots (view_acts acts))) r → Tells view_of (after xs (of_act look slots (view_act a))) r
  if_last o acts view_of r inv l some same t =
      subst (λ o. Tells view_of (after xs o) r) (sym (if_is look slots a bs items others is e ∙ choice_last look slots items others o i inv l some))
      (subst (λ acts. Tells view_of (after xs (contributions look slots (view_acts acts))) r) same t)

  pub if_none : ChosenTo look slots items others i → length items ≤ i → others ≡ None → after xs (of_act look slots (view_act a)) ≡ Gives xs
  if_none inv l none = ap (after xs) (if_is look slots a bs items others is e) ∙ choice_none look slots items others i xs inv l none
