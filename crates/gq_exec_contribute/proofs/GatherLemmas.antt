-- GatherLemmas: the inputs that are read are the contributions of the statements.
use Rattle.std.proofs.Common.{◌≡◌, ℕ, ◌+◌, ◌<◌, ◌≤◌, Bool, true, false, List, [], ◌∷◌, ◌++◌, map, take, length, get_or, Option, Some, None, Result, Ok, Err, refl, sym, ap, ap₂, subst, ◌∙◌, arith, append-nil, append_assoc}
use Rattle.std.specs.Prelude.{IfOk, slice_get}
use Rattle.std.specs.List.{All}
use Rattle.std.specs.Option.{option_map}
use Rattle.std.proofs.lemmas.List.{map-append, take_all, take_more}
use Rattle.std.proofs.lemmas.List.Elements.{All-nil, All-cons, All-head, All-tail}
use Rattle.gq_value.specs.AccumViews.{accum_of, given}
use Rattle.gq_value.specs.declared.kind.Slot as code_slot
use Rattle.gq_value.specs.declared.value.Wrong.{Wrong}
use Rattle.gq_graph.specs.declared.rows.Candidate.{Candidate}
use Rattle.gq_frame.specs.declared.accums.Accums.{Accums}
use Rattle.gq_frame.specs.declared.slots.Slots.{Slots}
use Rattle.gq_frame.specs.Names.{AVertex}
use Rattle.gq_frame.specs.Slots.{slots_are}
use Rattle.gq_frame.specs.Targets.{number_of}
use Rattle.gq_frame.proofs.SlotLemmas.{number_there, named_some}
use Rattle.gq_rules_typing.specs.Selecting as plain
use Rattle.gq_rules_typing.specs.Selecting.{Adds, Plain}
use Rattle.gq_rules_meaning.specs.Answers.{Answer, Gives, Faults, Stuck, ◌>>=◌, found}
use Rattle.gq_rules_meaning.specs.Blocks.{Contribution, contributions, of_act, contributed, input_of}
use Rattle.gq_rules_meaning.specs.Calendars.{Calendar}
use Rattle.gq_rules_meaning.specs.Expressions.{Look}
use Rattle.gq_rules_meaning.specs.Meanings.{vertex_of_meant}
use Rattle.gq_rules_meaning.specs.States.{slot_named}
use Rattle.gq_plan_ir.specs.declared.block.Act.{Act}
use Rattle.gq_plan_ir.specs.declared.block.Act.TheVariants as act
use Rattle.gq_plan_ir.specs.declared.block.Change as code_change
use Rattle.gq_plan_ir.specs.declared.block.Feed.{Feed}
use Rattle.gq_plan_ir.specs.BlockView.{view_act, view_acts, view_change, view_feed}
use Rattle.gq_plan_ir.proofs.ViewLaws.{view_act-Attached, view_act-Global}
use Rattle.gq_plan_ir.specs.Reference.{Reference, Slot}
use Rattle.gq_plan_ir.specs.References.{same}
use Rattle.gq_exec_feed.specs.Taking.{MayTake, as_given, targeted}
use Rattle.gq_eval_context.specs.Viewed.{Over}
use Rattle.gq_exec_contribute.specs.declared.cells.Cells.{Cells}
use Rattle.gq_exec_contribute.specs.declared.scalars.ScalarInput.{ScalarInput}
use Rattle.gq_exec_contribute.specs.declared.leaves.Leaves.{Leaves}
use Rattle.gq_exec_contribute.specs.Scalars.{made_of, as_input, as_inputs}
use Rattle.gq_exec_contribute.specs.Prepared.{AreFound, AreIn, IsAdded, IsVertex, IsInput, IsTarget, IsFed, AreInputs, Gathers, sees, sees_at}
use Rattle.gq_exec_contribute.proofs.NameLemmas.{named}

-- ---- the input of a change

added_there : (look : Look Reference) (a : Accums) (n v : ℕ) (s : code_slot.Slot) (x : plain.Input Reference) → look.world.words.same ≡ same → slice_get a.slots.declared n ≡ Some s
    → contributed look (slots_are a) (Slot n) v (Adds x) ≡ (input_of look (accum_of s.kind) x >>= λ y. Gives (record { slot = n; vertex = v; input = y } ∷ []))
added_there look a n v s x w e =
    ap (λ o. found o >>= λ m. found (slot_named look.world (slots_are a) (Slot n)) >>= λ s. input_of look s.kind x >>= λ y. Gives (record { slot = m; vertex = v; input = y } ∷ [])) (number_there look.world a n w ∙ ap (option_map (λ s. n)) e)
    ∙ ap (λ o. found o >>= λ s. input_of look s.kind x >>= λ y. Gives (record { slot = n; vertex = v; input = y } ∷ [])) (named_some look.world a n s w e)

target_number : (slots : Slots) (n v t first : ℕ) → t ≡ first + v → first ≡ number_of slots n 0 → t ≡ number_of slots n v
target_number slots n v t first e f = omega (arith, e, f)

pub input_is : (clock : Calendar) (o : Over) (l : Leaves) (c : Candidate) (n v t : ℕ) (ch : code_change.Change) (f : Feed) (cells : Cells) (x : ScalarInput) → AreFound o l → view_change ch ≡ Adds (view_feed f) → slice_get l.cells n ≡ Some cells → IsTarget cells v t
    → IsFed (sees clock o l c) (view_feed f) cells.takes x → IsInput o.frame.accums.slots (contributed (sees clock o l c) (slots_are o.frame.accums) (Slot n) v (view_change ch)) (t, x)
input_is clock o l c n v t ch f cells x found adds there target is = let h = found.cells.each n cells there in let fed = is.each (accum_of h.slot.kind) h.takes in let a = o.frame.accums in record {
  contribution = record { slot = n; vertex = v; input = given (made_of x) };
  is =
      ap (contributed (sees clock o l c) (slots_are a) (Slot n) v) adds
      ∙ added_there (sees clock o l c) a n v h.slot (view_feed f) refl h.declared
      ∙ ap (λ o. o >>= λ y. Gives (record { slot = n; vertex = v; input = y } ∷ [])) fed.input;
  may = record { slot = h.slot; declared = h.declared; within = subst (λ (m : ℕ). v < m) h.targets target.within; suited = fed.suited };
  batched = ap (λ (m : ℕ). (m, given (made_of x)) ∷ []) (target_number a.slots n v t cells.first target.number h.first);
}

pub ruleset input_laws = (input_is)

pub added_is : (clock : Calendar) (o : Over) (l : Leaves) (accums : Accums) (n v : ℕ) (ch : code_change.Change) (f : Feed) (cells : Cells) (x : ScalarInput) → AreIn accums l → view_change ch ≡ Adds (view_feed f) → slice_get l.cells n ≡ Some cells
    → IsFed (sees_at clock o l accums v) (view_feed f) cells.takes x → IsAdded (sees_at clock o l accums v) accums.slots n (view_change ch) x
added_is clock o l accums n v ch f cells x found adds there is = let h = found.cells.each n cells there in record {
  slot = h.slot;
  declared = h.declared;
  feed = view_feed f;
  adds = adds;
  input = (is.each (accum_of h.slot.kind) h.takes).input;
}

-- ---- one statement

pub one_input : (slots : Slots) (gives : Answer Wrong (List Contribution)) (old new : List (ℕ × ScalarInput)) (x : ℕ × ScalarInput) → IsInput slots gives x → new ≡ old ++ x ∷ [] → Gathers slots gives old new true
one_input slots gives old new x is push = (x ∷ [], push, record { contributed = is.contribution ∷ []; are = is.is; may = All-cons (MayTake slots) is.contribution [] is.may (All-nil (MayTake slots)); batched = is.batched })

pub ruleset change_laws = (one_input)

of_answer : (slots : Slots) (g h : Answer Wrong (List Contribution)) (old new : List (ℕ × ScalarInput)) (b : Bool) → g ≡ h → Gathers slots h old new b → Gathers slots g old new b
of_answer slots g h old new b e k = subst (λ o. Gathers slots o old new b) (sym e) k

pub attached_gathers : {E : Type 0} (clock : Calendar) (o : Over) (l : Leaves) (c : Candidate) (p n v : ℕ) (a : Act) (ch : code_change.Change) (old new : List (ℕ × ScalarInput)) (r : Result Bool E) → a ≡ act.Attached p n ch → IsVertex l c p v
    → IfOk r (Gathers o.frame.accums.slots (contributed (sees clock o l c) (slots_are o.frame.accums) (Slot n) v (view_change ch)) old new)
    → IfOk r (Gathers o.frame.accums.slots (of_act (sees clock o l c) (slots_are o.frame.accums) (view_act a)) old new)
attached_gathers clock o l c p n v a ch old new (Err x) e at h = tt
attached_gathers clock o l c p n v a ch old new (Ok b) e at h = of_answer o.frame.accums.slots _ _ old new b
    (ap (λ a. of_act (sees clock o l c) (slots_are o.frame.accums) (view_act a)) e ∙ ap (of_act (sees clock o l c) (slots_are o.frame.accums)) (view_act-Attached p n ch)
    ∙ ap (λ m. (m >>= vertex_of_meant) >>= λ v. contributed (sees clock o l c) (slots_are o.frame.accums) (Slot n) v (view_change ch)) (named clock o l o.frame.accums c p (AVertex at.0 v) at.1)) h

pub global_gathers : {E : Type 0} (clock : Calendar) (o : Over) (l : Leaves) (c : Candidate) (n : ℕ) (a : Act) (ch : code_change.Change) (old new : List (ℕ × ScalarInput)) (r : Result Bool E) → a ≡ act.Global n ch
    → IfOk r (Gathers o.frame.accums.slots (contributed (sees clock o l c) (slots_are o.frame.accums) (Slot n) 0 (view_change ch)) old new)
    → IfOk r (Gathers o.frame.accums.slots (of_act (sees clock o l c) (slots_are o.frame.accums) (view_act a)) old new)
global_gathers clock o l c n a ch old new (Err x) e h = tt
global_gathers clock o l c n a ch old new (Ok b) e h = of_answer o.frame.accums.slots _ _ old new b
    (ap (λ a. of_act (sees clock o l c) (slots_are o.frame.accums) (view_act a)) e ∙ ap (of_act (sees clock o l c) (slots_are o.frame.accums)) (view_act-Global n ch)) h

pub ruleset act_laws = (attached_gathers, global_gathers)

-- ---- statements in order

-- the inputs of the first i statements are appended
pub record GatheredTo (clock : Calendar) (o : Over) (l : Leaves) (c : Candidate) (acts : List Act) (i : ℕ) (old now : List (ℕ × ScalarInput)) : Type 0 where
  pub more : List (ℕ × ScalarInput)
  pub added : now ≡ old ++ more
  pub are : AreInputs o.frame.accums.slots (contributions (sees clock o l c) (slots_are o.frame.accums) (view_acts (take i acts))) more

module _ (clock : Calendar) (o : Over) (l : Leaves) (c : Candidate) where
  abbrev slots : Slots
  slots = o.frame.accums.slots

  abbrev given_by : List Act → Answer Wrong (List Contribution)
  given_by acts = contributions (sees clock o l c) (slots_are o.frame.accums) (view_acts acts)

  take_none : (acts : List Act) → take 0 acts ≡ []
  take_none [] = refl
  take_none (a ∷ acts) = refl

  pub gathered_first : (acts : List Act) (old : List (ℕ × ScalarInput)) → GatheredTo clock o l c acts 0 old old
  gathered_first acts old = record { more = []; added = sym (append-nil old); are = record { contributed = []; are = ap given_by (take_none acts); may = All-nil (MayTake slots); batched = refl } }

  -- statements and one more
  one_more : (acts : List Act) (a : Act) → given_by (acts ++ a ∷ []) ≡ (given_by acts >>= λ xs. of_act (sees clock o l c) (slots_are o.frame.accums) (view_act a) >>= λ ys. Gives (xs ++ ys))
  one_more [] a = last (of_act (sees clock o l c) (slots_are o.frame.accums) (view_act a))
    where
      last : (g : Answer Wrong (List Contribution)) → (g >>= λ xs. Gives [] >>= λ ys. Gives (xs ++ ys)) ≡ (g >>= λ ys. Gives ys)
      last (Gives xs) = ap Gives (append-nil xs)
      last (Faults w) = refl
      last Stuck = refl
  one_more (b ∷ acts) a = ap (λ g. of_act (sees clock o l c) (slots_are o.frame.accums) (view_act b) >>= λ xs. g >>= λ ys. Gives (xs ++ ys)) (one_more acts a) ∙ go (of_act (sees clock o l c) (slots_are o.frame.accums) (view_act b)) (given_by acts) (of_act (sees clock o l c) (slots_are o.frame.accums) (view_act a))
    where
      go : (f g h : Answer Wrong (List Contribution)) → (f >>= λ xs. (g >>= λ ys. h >>= λ zs. Gives (ys ++ zs)) >>= λ ws. Gives (xs ++ ws)) ≡ ((f >>= λ xs. g >>= λ ys. Gives (xs ++ ys)) >>= λ us. h >>= λ zs. Gives (us ++ zs))
      go (Gives xs) (Gives ys) (Gives zs) = ap Gives (sym (append_assoc xs ys zs))
      go (Gives xs) (Gives ys) (Faults w) = refl
      go (Gives xs) (Gives ys) Stuck = refl
      go (Gives xs) (Faults w) h = refl
      go (Gives xs) Stuck h = refl
      go (Faults w) g h = refl
      go Stuck g h = refl

  all_append : {A : Type 0} (P : A → Type 0) (xs ys : List A) → All P xs → All P ys → All P (xs ++ ys)
  all_append P [] ys h k = k
  all_append P (x ∷ xs) ys h k = All-cons P x (xs ++ ys) (All-head P x xs h) (all_append P xs ys (All-tail P x xs h) k)

  joined : (g h : Answer Wrong (List Contribution)) (xs ys : List (ℕ × ScalarInput)) → AreInputs slots g xs → AreInputs slots h ys → AreInputs slots (g >>= λ us. h >>= λ vs. Gives (us ++ vs)) (xs ++ ys)
  joined g h xs ys a b = record {
    contributed = a.contributed ++ b.contributed;
    are = ap₂ (λ g h. g >>= λ us. h >>= λ vs. Gives (us ++ vs)) a.are b.are;
    may = all_append (MayTake slots) a.contributed b.contributed a.may b.may;
    batched = ap (map as_given) (map-append as_input xs ys) ∙ map-append as_given (as_inputs xs) (as_inputs ys) ∙ ap₂ ◌++◌ a.batched b.batched ∙ sym (map-append (targeted slots) a.contributed b.contributed);
  }

  pub gathered_more : (acts : List Act) (i : ℕ) (a : Act) (old was now : List (ℕ × ScalarInput)) (b : Bool) → i < length acts → a ≡ get_or acts i a → b ≡ true → Gathers slots (of_act (sees clock o l c) (slots_are o.frame.accums) (view_act a)) was now b
      → GatheredTo clock o l c acts i old was → GatheredTo clock o l c acts (i + 1) old now
  gathered_more acts i a old was now b n is t g so = let h : Gathers slots (of_act (sees clock o l c) (slots_are o.frame.accums) (view_act a)) was now true = subst (Gathers slots (of_act (sees clock o l c) (slots_are o.frame.accums) (view_act a)) was now) t g in record {
    more = so.more ++ h.0;
    added = h.1 ∙ ap (λ l. l ++ h.0) so.added ∙ append_assoc old so.more h.0;
    are = subst (λ g. AreInputs slots g (so.more ++ h.0)) (sym (ap given_by (take_more acts i a n ∙ ap (λ z. take i acts ++ z ∷ []) (sym is)) ∙ one_more (take i acts) a)) (joined (given_by (take i acts)) (of_act (sees clock o l c) (slots_are o.frame.accums) (view_act a)) so.more h.0 so.are h.2);
  }

  taken_back : (old more : List (ℕ × ScalarInput)) → take (length old) (old ++ more) ≡ old
  taken_back [] more = none more
    where
      none : (xs : List (ℕ × ScalarInput)) → take 0 xs ≡ []
      none [] = refl
      none (x ∷ xs) = refl
  taken_back (x ∷ old) more = ap (λ l. x ∷ l) (taken_back old more)

  pub gathered_none : (acts : List Act) (g : Answer Wrong (List Contribution)) (i n : ℕ) (old was mid now : List (ℕ × ScalarInput)) (b : Bool) → GatheredTo clock o l c acts i old was → b ≡ false → Gathers slots g was mid b → n ≡ length old → now ≡ take n mid → now ≡ old
  gathered_none acts g i n old was mid now b so f h e cut = cut ∙ ap (λ l. take n l) (subst (Gathers slots g was mid) f h ∙ so.added) ∙ ap (λ (m : ℕ). take m (old ++ so.more)) e ∙ taken_back old so.more

  pub gathered_all : (acts : List Act) (i : ℕ) (old now : List (ℕ × ScalarInput)) → length acts ≤ i → GatheredTo clock o l c acts i old now → Gathers slots (given_by acts) old now true
  gathered_all acts i old now n so = (so.more, so.added, subst (λ l. AreInputs slots (given_by l) so.more) (take_all i acts n) so.are)

pub ruleset gather_laws = (gathered_first, gathered_none, gathered_all)
