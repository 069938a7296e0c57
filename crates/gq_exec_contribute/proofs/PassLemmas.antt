-- PassLemmas: the result of a candidate, and batches after one contribution more.
use Rattle.std.proofs.Common.{◌≡◌, ℕ, ◌%◌, ◌==◌, Bool, true, false, List, [], ◌∷◌, ◌++◌, map, length, reverse, Some, refl, sym, ap, subst, ◌∙◌}
use Rattle.std.specs.List.{All}
use Rattle.std.specs.Option.{option_map}
use Rattle.std.proofs.lemmas.List.Elements.{All-nil, All-cons, All-append, filter-append}
use Rattle.std.proofs.lemmas.List.{append_assoc, append-nil, reverse-append, reverse-reverse}
use Rattle.gq_value.specs.declared.kind.Input.{Input}
use Rattle.gq_graph.specs.declared.rows.Candidate.{Candidate}
use Rattle.gq_value.specs.declared.value.Wrong.{Wrong}
use Rattle.gq_value.specs.AccumViews.{given}
use Rattle.gq_core.specs.Batches.{batch_of, Gains}
use Rattle.gq_frame.specs.declared.slots.Slots.{Slots}
use Rattle.gq_frame.specs.Targets.{number_of}
use Rattle.gq_rules_meaning.specs.Answers.{Answer, Gives, Faults, Stuck, ◌>>=◌}
use Rattle.gq_rules_meaning.specs.Expressions.{Look}
use Rattle.gq_rules_meaning.specs.Blocks.{Contribution, Match, contributions, match_of, passes}
use Rattle.gq_rules_meaning.specs.States as states
use Rattle.gq_plan_ir.specs.declared.block.Block.{Block}
use Rattle.gq_plan_ir.specs.BlockView.{view_acts, view_block}
use Rattle.gq_plan_ir.specs.ExprView.{view}
use Rattle.gq_plan_ir.specs.Reference.{Reference}
use Rattle.gq_exec_contribute.specs.declared.candidate.Outcome.TheVariants as outcome
use Rattle.gq_exec_contribute.specs.declared.candidate.Stop.{Stop}
use Rattle.gq_exec_contribute.specs.declared.candidate.Stop.TheVariants as stop
use Rattle.gq_exec_contribute.specs.declared.feeding.Feeding.{Feeding}
use Rattle.gq_exec_contribute.specs.Gathered.{shown, after, contribution_of}
use Rattle.gq_exec_feed.specs.Taking.{MayTake, targeted, as_given}
use Rattle.gq_exec_contribute.specs.Passing.{GainsAll, GainsMatch, Comes, stopped}

-- ---- a candidate

module _ (look : Look Reference) (slots : List (states.Slot Reference)) (q : Block) (c : Candidate) where
  abbrev of_filter : Bool → Answer Wrong (List Match)
  of_filter = elim [ true ↦ contributions look slots (view_acts q.accum) >>= λ xs. Gives (record { candidate = c; gives = xs } ∷ []) | false ↦ Gives [] ]

  match_is : match_of (view_block q) slots c look ≡ (passes look (option_map view q.filter) >>= of_filter)
  match_is = refl

  filtered_is : passes look (option_map view q.filter) ≡ Gives false → match_of (view_block q) slots c look ≡ Gives []
  filtered_is e = ap (λ o. o >>= of_filter) e

  passed_is : passes look (option_map view q.filter) ≡ Gives true → match_of (view_block q) slots c look ≡ (contributions look slots (view_acts q.accum) >>= λ xs. Gives (record { candidate = c; gives = xs } ∷ []))
  passed_is e = ap (λ o. o >>= of_filter) e

  fault_first : (w : Stop) → passes look (option_map view q.filter) ≡ stopped w → match_of (view_block q) slots c look ≡ stopped w
  fault_first (stop.Wrong w) e = ap (λ o. o >>= of_filter) e
  fault_first stop.Stuck e = ap (λ o. o >>= of_filter) e

  fault_late : (w : Stop) → passes look (option_map view q.filter) ≡ Gives true → contributions look slots (view_acts q.accum) ≡ stopped w → match_of (view_block q) slots c look ≡ stopped w
  fault_late (stop.Wrong w) e p = passed_is e ∙ ap (λ o. o >>= λ xs. Gives (record { candidate = c; gives = xs } ∷ [])) p
  fault_late stop.Stuck e p = passed_is e ∙ ap (λ o. o >>= λ xs. Gives (record { candidate = c; gives = xs } ∷ [])) p

-- no earlier contributions
from_none : (o : Answer Wrong (List Contribution)) → after [] o ≡ o
from_none (Gives xs) = refl
from_none (Faults w) = refl
from_none Stuck = refl

pub comes_filtered : (look : Look Reference) (slots : List (states.Slot Reference)) (s : Slots) (q : Block) (old new : List (List (ℕ × Input))) (b : Bool) → passes look (option_map view q.filter) ≡ Gives b → b ≡ false → new ≡ old
    → (c : Candidate) → Comes s c (match_of (view_block q) slots c look) old new outcome.Filtered
comes_filtered look slots s q old new b e f same c = (filtered_is look slots q c (e ∙ ap Gives f), same)

pub comes_fault : (look : Look Reference) (slots : List (states.Slot Reference)) (s : Slots) (q : Block) (old new : List (List (ℕ × Input))) (w : Stop) → passes look (option_map view q.filter) ≡ stopped w → new ≡ old
    → (c : Candidate) → Comes s c (match_of (view_block q) slots c look) old new (outcome.Fault w)
comes_fault look slots s q old new w p same c = (fault_first look slots q c w p, same)

pub comes_late_fault : (look : Look Reference) (slots : List (states.Slot Reference)) (s : Slots) (q : Block) (old new : List (List (ℕ × Input))) (b : Bool) (before : List Feeding) (w : Stop) → passes look (option_map view q.filter) ≡ Gives b → b ≡ true → before ≡ []
    → after (shown before) (contributions look slots (view_acts q.accum)) ≡ stopped w → new ≡ old → (c : Candidate) → Comes s c (match_of (view_block q) slots c look) old new (outcome.Fault w)
comes_late_fault look slots s q old new b before w e f none p same c = (
  fault_late look slots q c w (e ∙ ap Gives f) (sym (from_none (contributions look slots (view_acts q.accum))) ∙ ap (λ bs. after (shown bs) (contributions look slots (view_acts q.accum))) (sym none) ∙ p),
  same,
)

pub comes_passed : (look : Look Reference) (slots : List (states.Slot Reference)) (s : Slots) (q : Block) (old new : List (List (ℕ × Input))) (b : Bool) (before gathered : List Feeding) → passes look (option_map view q.filter) ≡ Gives b → b ≡ true → before ≡ []
    → after (shown before) (contributions look slots (view_acts q.accum)) ≡ Gives (shown gathered) → GainsMatch s old new (shown gathered) → (c : Candidate) → Comes s c (match_of (view_block q) slots c look) old new outcome.Passed
comes_passed look slots s q old new b before gathered e f none g gains c = (
  shown gathered,
  passed_is look slots q c (e ∙ ap Gives f) ∙ ap (λ o. o >>= λ xs. Gives (record { candidate = c; gives = xs } ∷ []))
      (sym (from_none (contributions look slots (view_acts q.accum))) ∙ ap (λ bs. after (shown bs) (contributions look slots (view_acts q.accum))) (sym none) ∙ g),
  gains,
)

pub ruleset comes_laws = (comes_filtered, comes_fault, comes_late_fault, comes_passed)

-- ---- batches

gains_none : {A : Type 0} (bs : List (List (ℕ × A))) → GainsAll bs bs []
gains_none bs = record { same = refl; gains = λ stripe batch e. e ∙ ap Some (sym (append-nil batch)) }

gains_more : {A : Type 0} (old mid new : List (List (ℕ × A))) (xs : List (ℕ × A)) (t : ℕ) (x : A) → GainsAll old mid xs → Gains mid new t x → GainsAll old new (xs ++ (t, x) ∷ [])
gains_more old mid new xs t x all one = record {
  same = one.same ∙ all.same;
  gains = λ stripe batch e. one.gains stripe (batch ++ batch_of (length old) stripe xs) (all.gains stripe batch e)
      ∙ ap (λ n. Some ((batch ++ batch_of (length old) stripe xs) ++ batch_of n stripe ((t, x) ∷ []))) all.same
      ∙ ap Some (append_assoc batch (batch_of (length old) stripe xs) (batch_of (length old) stripe ((t, x) ∷ [])))
      ∙ ap (λ zs. Some (batch ++ zs)) (sym (filter-append (λ input. input.0 % length old == stripe) xs ((t, x) ∷ [])));
}

mapped_more : {A B : Type 0} (f : A → B) (xs : List A) (x : A) → map f (xs ++ x ∷ []) ≡ map f xs ++ f x ∷ []
mapped_more f [] x = refl
mapped_more f (y ∷ xs) x = ap (λ ys. f y ∷ ys) (mapped_more f xs x)

reverse_last : {A : Type 0} (xs : List A) (x : A) → reverse (xs ++ x ∷ []) ≡ x ∷ reverse xs
reverse_last xs x = reverse-append xs (x ∷ [])

-- the inputs added so far, and the rest, last one first
pub record PutTo (s : Slots) (old now : List (List (ℕ × Input))) (all left : List Feeding) : Type 0 where
  pub done : List Feeding
  pub whole : done ++ reverse left ≡ all
  pub gained : GainsMatch s old now (shown done)

pub put_first : (s : Slots) (bs now : List (List (ℕ × Input))) (all left : List Feeding) → left ≡ reverse all → now ≡ bs → PutTo s bs now all left
put_first s bs now all left e same = record { done = []; whole = ap reverse e ∙ reverse-reverse all; gained = subst (λ n. GainsMatch s bs n []) (sym same) (record { inputs = []; are = refl; may = All-nil (MayTake s); gained = gains_none bs }) }

pub put_more : (s : Slots) (old now new : List (List (ℕ × Input))) (all left rest : List Feeding) (f : Feeding) (t : ℕ) → PutTo s old now all left → left ≡ rest ++ f ∷ [] → t ≡ number_of s f.slot f.vertex → MayTake s (contribution_of f) → Gains now new t f.input → PutTo s old new all rest
put_more s old now new all left rest f t p e is may g = record {
  done = p.done ++ f ∷ [];
  whole = append_assoc p.done (f ∷ []) (reverse rest) ∙ ap (λ zs. p.done ++ zs) (sym (reverse_last rest f) ∙ ap reverse (sym e)) ∙ p.whole;
  gained = record {
    inputs = p.gained.inputs ++ (t, f.input) ∷ [];
    are = mapped_more as_given p.gained.inputs (t, f.input)
        ∙ ap (λ zs. zs ++ (t, given f.input) ∷ []) p.gained.are
        ∙ ap (λ t. map (targeted s) (shown p.done) ++ (t, given f.input) ∷ []) is
        ∙ sym (ap (map (targeted s)) (mapped_more contribution_of p.done f) ∙ mapped_more (targeted s) (shown p.done) (contribution_of f));
    may = subst (All (MayTake s)) (sym (mapped_more contribution_of p.done f)) (All-append (MayTake s) (shown p.done) (contribution_of f ∷ []) p.gained.may (All-cons (MayTake s) (contribution_of f) [] may (All-nil (MayTake s))));
    gained = gains_more old now new p.gained.inputs t f.input p.gained.gained g;
  };
}

pub put_all : (s : Slots) (old now : List (List (ℕ × Input))) (all left : List Feeding) → PutTo s old now all left → left ≡ [] → GainsMatch s old now (shown all)
put_all s old now all left p e = subst (λ fs. GainsMatch s old now (shown fs)) (sym (append-nil p.done) ∙ ap (λ zs. p.done ++ reverse zs) (sym e) ∙ p.whole) p.gained

pub ruleset put_laws = (put_first, put_more, put_all)
