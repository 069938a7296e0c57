-- SlotLemmas: the content at a target is what the accumulator of that number reads as.
use Rattle.std.proofs.Common.{◌≡◌, ℕ, zero, suc, ◌+◌, ◌<◌, ◌≤◌, ◌==◌, Bool, true, false, cond, List, [], ◌∷◌, take, drop, Option, Some, None, Result, Err, refl, sym, ap, subst, ◌∙◌, arith}
use Rattle.std.specs.List.{slice_get, position_from}
use Rattle.std.specs.Option.{option_map}
use Rattle.std.proofs.lemmas.List.{drop-drop}
use Rattle.std.proofs.lemmas.Option.{slice_get-map}
use Rattle.std.proofs.lemmas.Iterator.Adapters.{position_from-zero}
use Rattle.std.proofs.lemmas.Bool.Decides.{nat_tests}
use Rattle.gq_value.specs.declared.kind.Slot.{Slot}
use Rattle.gq_value.specs.AccumViews.{accum_of}
use Rattle.gq_nest.specs.declared.content.Content.{Content, out-Content}
use Rattle.gq_nest.specs.Forms.{view}
use Rattle.gq_accum_laws.specs.Targets.{target_count}
use Rattle.gq_frame.specs.declared.accums.Accums.{Accums}
use Rattle.gq_frame.specs.Targets.{attached_in, targets_of, number_of}
use Rattle.gq_eval_operand.specs.Answers.{Gives, ◌>>=◌, found}
use Rattle.gq_eval_operand.specs.Meanings.{Outcome, read}
use Rattle.gq_eval_operand.specs.Expressions.{World}
use Rattle.gq_eval_operand.specs.States as states
use Rattle.gq_eval_operand.specs.States.{slot_number, slot_named, read_slot}
use Rattle.gq_eval_operand.specs.Reference as reference
use Rattle.gq_eval_operand.specs.Reference.{Reference}
use Rattle.gq_eval_operand.specs.References.{same}
use Rattle.gq_eval_operand.specs.declared.seen.Seen.{Seen}
use Rattle.gq_eval_operand.specs.declared.halt.Halt.{Halt}
use Rattle.gq_eval_operand.specs.declared.halt.Halt.TheVariants as halt
use Rattle.gq_eval_operand.specs.Meant.{meant, read_of, Tells}
use Rattle.gq_eval_operand.specs.Sound.{IsSound}
use Rattle.gq_frame.specs.Slots.{slot_seen, slots_from, slots_are, AreSound, ReadsAs}

-- ---- numbers

number_same : (a b : ℕ) → a ≡ b → (a == b) ≡ true
number_same a b e = grind (arith, nat_tests)

number_differs : (a b : ℕ) → a < b → (a == b) ≡ false
number_differs a b h = grind (arith, nat_tests)

-- ---- the slot of a number

abbrev test : ℕ → states.Slot Reference → Bool
test n s = same s.name (reference.Slot n)

slot_found : (vertices m i k : ℕ) (ss : List Slot) (cs : List Content) → position_from (test (m + i)) k (slots_from vertices m ss cs) ≡ option_map (λ s. k + i) (slice_get ss i)
slot_found vertices m i k [] cs = refl
slot_found vertices m zero k (s ∷ ss) cs =
    ap (λ t. cond t (Some k) (position_from (test (m + 0)) (k + 1) (slots_from vertices (suc m) ss (drop (targets_of vertices s) cs)))) (number_same m (m + 0) (omega arith))
    ∙ ap Some (omega arith)
slot_found vertices m (suc i) k (s ∷ ss) cs =
    ap (λ t. cond t (Some k) (position_from (test (m + suc i)) (k + 1) (slots_from vertices (suc m) ss (drop (targets_of vertices s) cs)))) (number_differs m (m + suc i) (omega arith))
    ∙ ap (λ n. position_from (test n) (k + 1) (slots_from vertices (suc m) ss (drop (targets_of vertices s) cs))) (let e : m + suc i ≡ suc m + i = omega arith in e)
    ∙ slot_found vertices (suc m) i (k + 1) ss (drop (targets_of vertices s) cs)
    ∙ ap (λ n. option_map (λ s. n) (slice_get ss i)) (let e : k + 1 + i ≡ k + suc i = omega arith in e)

-- the contents from its first target on
abbrev pub from_first : ℕ → ℕ → List Slot → List Content → List Content
from_first vertices i ss cs = drop (target_count vertices (take i (attached_in ss))) cs

slot_at : (vertices m i : ℕ) (ss : List Slot) (cs : List Content) → slice_get (slots_from vertices m ss cs) i ≡ option_map (λ s. slot_seen (m + i) s (take (targets_of vertices s) (from_first vertices i ss cs))) (slice_get ss i)
slot_at vertices m i [] cs = refl
slot_at vertices m zero (s ∷ ss) cs = ap (λ n. Some (slot_seen n s (take (targets_of vertices s) cs))) (let e : m ≡ m + 0 = omega arith in e)
slot_at vertices m (suc i) (s ∷ ss) cs =
    slot_at vertices (suc m) i ss (drop (targets_of vertices s) cs)
    ∙ ap (λ n. option_map (λ r. slot_seen n r (take (targets_of vertices r) (from_first vertices i ss (drop (targets_of vertices s) cs)))) (slice_get ss i)) (let e : suc m + i ≡ m + suc i = omega arith in e)
    ∙ ap (λ ds. option_map (λ r. slot_seen (m + suc i) r (take (targets_of vertices r) ds)) (slice_get ss i)) (drop-drop (target_count vertices (take i (attached_in ss))) (targets_of vertices s) cs)

-- ---- a target among those of its slot

get_drop : {A : Type 0} (n i : ℕ) (xs : List A) → slice_get (drop n xs) i ≡ slice_get xs (n + i)
get_drop zero i xs = ap (slice_get xs) (let e : i ≡ 0 + i = omega arith in e)
get_drop (suc n) i [] = refl
get_drop (suc n) i (x ∷ xs) = get_drop n i xs ∙ ap (slice_get (x ∷ xs)) (let e : suc (n + i) ≡ suc n + i = omega arith in e)

get_take : {A : Type 0} (n i : ℕ) (xs : List A) → i < n → slice_get (take n xs) i ≡ slice_get xs i
get_take zero i xs h = absurd (omega (arith, h))
get_take (suc n) i [] h = refl
get_take (suc n) zero (x ∷ xs) h = refl
get_take (suc n) (suc i) (x ∷ xs) h = get_take n i xs (omega (arith, h))

get_past : {A : Type 0} (n i : ℕ) (xs : List A) → n ≤ i → slice_get (take n xs) i ≡ None
get_past zero i xs h = refl
get_past (suc n) i [] h = refl
get_past (suc n) zero (x ∷ xs) h = absurd (omega (arith, h))
get_past (suc n) (suc i) (x ∷ xs) h = get_past n i xs (omega (arith, h))

-- ---- what is read

abbrev at_number : List (states.Slot Reference) → Option ℕ → Option (states.Slot Reference)
at_number slots None = None
at_number slots (Some n) = slice_get slots n

abbrev read_at : Option (states.Slot Reference) → ℕ → Outcome
read_at o v = found o >>= λ s. found (slice_get s.contents v) >>= λ c. Gives (read s.kind c)

pub number_there : (world : World Reference) (a : Accums) (n : ℕ) → world.words.same ≡ same → slot_number world (slots_are a) (reference.Slot n) ≡ option_map (λ s. n) (slice_get a.slots.declared n)
number_there world a n w =
    position_from-zero (λ (s : states.Slot Reference). world.words.same s.name (reference.Slot n)) (slots_are a)
    ∙ ap (λ (f : Reference → Reference → Bool). position_from (λ (s : states.Slot Reference). f s.name (reference.Slot n)) 0 (slots_are a)) w
    ∙ ap (λ m. position_from (test m) 0 (slots_are a)) (let e : n ≡ 0 + n = omega arith in e)
    ∙ slot_found a.slots.vertices 0 n 0 a.slots.declared a.contents
    ∙ ap (λ m. option_map (λ s. m) (slice_get a.slots.declared n)) (let e : 0 + n ≡ n = omega arith in e)

named_is : (world : World Reference) (a : Accums) (n : ℕ) → slot_named world (slots_are a) (reference.Slot n) ≡ at_number (slots_are a) (slot_number world (slots_are a) (reference.Slot n))
named_is world a n = refl

-- the slot with its targets
abbrev pub slot_there : Accums → ℕ → Slot → states.Slot Reference
slot_there a n s = slot_seen (0 + n) s (take (targets_of a.slots.vertices s) (from_first a.slots.vertices n a.slots.declared a.contents))

pub named_some : (world : World Reference) (a : Accums) (n : ℕ) (s : Slot) → world.words.same ≡ same → slice_get a.slots.declared n ≡ Some s → slot_named world (slots_are a) (reference.Slot n) ≡ Some (slot_there a n s)
named_some world a n s w e =
    named_is world a n
    ∙ ap (at_number (slots_are a)) (number_there world a n w ∙ ap (option_map (λ s. n)) e)
    ∙ slot_at a.slots.vertices 0 n a.slots.declared a.contents
    ∙ ap (option_map (slot_there a n)) e

pub named_none : (world : World Reference) (a : Accums) (n : ℕ) → world.words.same ≡ same → slice_get a.slots.declared n ≡ None → slot_named world (slots_are a) (reference.Slot n) ≡ None
named_none world a n w e = named_is world a n ∙ ap (at_number (slots_are a)) (number_there world a n w ∙ ap (option_map (λ s. n)) e)

abbrev read_content : Slot → Option Content → Outcome
read_content s o = found o >>= λ c. Gives (read_of (accum_of s.kind) c)

read_mapped : (s : Slot) (o : Option Content) → (found (option_map (λ c. view (accum_of s.kind) (out-Content c)) o) >>= λ h. Gives (read (accum_of s.kind) h)) ≡ read_content s o
read_mapped s None = refl
read_mapped s (Some c) = refl

read_there : (world : World Reference) (a : Accums) (n v : ℕ) (s : Slot) → world.words.same ≡ same → slice_get a.slots.declared n ≡ Some s
    → read_slot world (slots_are a) (reference.Slot n) v ≡ read_content s (slice_get (take (targets_of a.slots.vertices s) (from_first a.slots.vertices n a.slots.declared a.contents)) v)
read_there world a n v s w e =
    ap (λ o. read_at o v) (named_some world a n s w e)
    ∙ ap (λ o. found o >>= λ h. Gives (read (accum_of s.kind) h)) (slice_get-map (λ c. view (accum_of s.kind) (out-Content c)) (take (targets_of a.slots.vertices s) (from_first a.slots.vertices n a.slots.declared a.contents)) v)
    ∙ read_mapped s (slice_get (take (targets_of a.slots.vertices s) (from_first a.slots.vertices n a.slots.declared a.contents)) v)

read_within : (world : World Reference) (a : Accums) (n v : ℕ) (s : Slot) → world.words.same ≡ same → slice_get a.slots.declared n ≡ Some s → v < targets_of a.slots.vertices s
    → read_slot world (slots_are a) (reference.Slot n) v ≡ read_content s (slice_get a.contents (number_of a.slots n v))
read_within world a n v s w e l =
    read_there world a n v s w e
    ∙ ap (read_content s) (get_take (targets_of a.slots.vertices s) v (from_first a.slots.vertices n a.slots.declared a.contents) l ∙ get_drop (target_count a.slots.vertices (take n (attached_in a.slots.declared))) v a.contents)

-- ---- in the four cases of the code

pub no_slot : (a : Accums) (n v : ℕ) → slice_get a.slots.declared n ≡ None → ReadsAs a n v (Err halt.Stuck)
no_slot a n v e = record { each = λ world w. ap (λ o. read_at o v) (named_none world a n w e) }

pub no_target : (a : Accums) (n v : ℕ) (s : Slot) → slice_get a.slots.declared n ≡ Some s → targets_of a.slots.vertices s ≤ v → ReadsAs a n v (Err halt.Stuck)
no_target a n v s e l = record { each = λ world w. read_there world a n v s w e ∙ ap (read_content s) (get_past (targets_of a.slots.vertices s) v (from_first a.slots.vertices n a.slots.declared a.contents) l) }

pub no_content : (a : Accums) (n v : ℕ) (s : Slot) → slice_get a.slots.declared n ≡ Some s → v < targets_of a.slots.vertices s → slice_get a.contents (number_of a.slots n v) ≡ None → ReadsAs a n v (Err halt.Stuck)
no_content a n v s e l i = record { each = λ world w. read_within world a n v s w e l ∙ ap (read_content s) i }

pub content_read : (a : Accums) (n v t : ℕ) (s : Slot) (c : Content) (r : Result Seen Halt) → slice_get a.slots.declared n ≡ Some s → v < targets_of a.slots.vertices s → t ≡ number_of a.slots n v → slice_get a.contents t ≡ Some c
    → Tells meant (Gives (read_of (accum_of s.kind) c)) r → ReadsAs a n v r
content_read a n v t s c r e l at i told = record { each = λ world w. subst (λ o. Tells meant o r) (sym (read_within world a n v s w e l ∙ ap (read_content s) (ap (slice_get a.contents) (sym at) ∙ i))) told }

pub sound_there : (a : Accums) (n v t : ℕ) (s : Slot) (c : Content) → AreSound a → slice_get a.slots.declared n ≡ Some s → v < targets_of a.slots.vertices s → t ≡ number_of a.slots n v → slice_get a.contents t ≡ Some c → IsSound (accum_of s.kind) c
sound_there a n v t s c h e l at i = h.each n v s c e l (ap (slice_get a.contents) (sym at) ∙ i)

pub ruleset slot_laws = (no_slot, no_target, no_content, content_read, sound_there)
