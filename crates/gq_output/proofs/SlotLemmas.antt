-- SlotLemmas: the members of a vertex for its accumulators, one after the other.
use Rattle.std.proofs.Common.{if◌then◌else◌, ◌≡◌, ℕ, zero, suc, ◌+◌, ◌-◌, ◌<◌, ◌≤◌, Bool, true, false, List, [], ◌∷◌, ◌++◌, take, drop, map, length, get_or, Option, Some, None, Result, Ok, Err, OnOk, refl, sym, ap, ap₂, ◌∙◌, arith}
use Rattle.std.specs.List.{slice_get, flat_map}
use Rattle.std.specs.Option.{option_map, unwrap_or}
use Rattle.std.proofs.lemmas.List.{append_assoc, append-nil, drop_all}
use Rattle.std.proofs.lemmas.Option.{slice_get-map}
use Rattle.gq_value.specs.declared.kind.Slot as code
use Rattle.gq_value.specs.AccumViews.{accum_of}
use Rattle.gq_accum_laws.specs.Holds.{Holds}
use Rattle.gq_accum_laws.specs.Targets.{target_count}
use Rattle.gq_nest.specs.declared.content.Content.{Content, out-Content}
use Rattle.gq_nest.specs.Forms.{view}
use Rattle.gq_frame.specs.declared.accums.Accums.{Accums}
use Rattle.gq_frame.specs.declared.slots.Slots.{Slots}
use Rattle.gq_frame.specs.Targets.{attached_in, number_of, targets_of}
use Rattle.gq_json.specs.declared.out.Out as json
use Rattle.gq_rules_typing.specs.Statements.{Bytes}
use Rattle.gq_rules_meaning.specs.Built.{built_print}
use Rattle.gq_rules_meaning.specs.Calendars.{Calendar}
use Rattle.gq_rules_meaning.specs.Expressions.{World}
use Rattle.gq_rules_meaning.specs.Printing.{of_content, out_attached}
use Rattle.gq_rules_meaning.specs.States as states
use Rattle.gq_rules_meaning.specs.States.{slot_number, slot_named}
use Rattle.gq_plan_ir.specs.declared.plan.Accum as plan
use Rattle.gq_plan_ir.specs.declared.plan.Definition.{Definition}
use Rattle.gq_plan_ir.specs.PlanView.{accum_names, names_in}
use Rattle.gq_plan_ir.specs.Reference.{Reference, Slot}
use Rattle.gq_frame.specs.Slots.{AreSound, slots_from, slots_are}
use Rattle.gq_frame.proofs.SlotLemmas.{number_there, named_some, slot_there, from_first}
use Rattle.gq_eval_context.specs.Viewed.{Over}
use Rattle.gq_eval_context.specs.Looks.{world_over}
use Rattle.gq_output.specs.Printed.{IsShown, content_shown}
use Rattle.gq_output.specs.Vertices.{IsFirst, attached_shown, slot_shown}
use Rattle.gq_output.proofs.ContentLemmas.{print_joined, sound_shown}
use Rattle.gq_output.proofs.NamedLemmas.{at_get, drop_at, mapped_at}

-- ---- items of a part of a list

get_drop : {A : Type 0} (n i : ℕ) (xs : List A) → slice_get (drop n xs) i ≡ slice_get xs (n + i)
get_drop zero i xs = ap (slice_get xs) (let e : i ≡ 0 + i = omega arith in e)
get_drop (suc n) i [] = refl
get_drop (suc n) i (x ∷ xs) = get_drop n i xs ∙ ap (slice_get (x ∷ xs)) (let e : suc (n + i) ≡ suc n + i = omega arith in e)

get_take : {A : Type 0} (n i : ℕ) (xs : List A) → i < n → slice_get (take n xs) i ≡ slice_get xs i
get_take zero i xs h = absurd (omega (arith, h))
get_take (suc n) i [] h = refl
get_take (suc n) zero (x ∷ xs) h = refl
get_take (suc n) (suc i) (x ∷ xs) h = get_take n i xs (omega (arith, h))

get_past : {A : Type 0} (n i : ℕ) (xs : List A) → n ≤ i → slice_get (take n xs) i ≡ None
get_past zero i xs h = refl
get_past (suc n) i [] h = refl
get_past (suc n) zero (x ∷ xs) h = absurd (omega (arith, h))
get_past (suc n) (suc i) (x ∷ xs) h = get_past n i xs (omega (arith, h))

-- ---- the slot with a number

abbrev at_number : List (states.Slot Reference) → Option ℕ → Option (states.Slot Reference)
at_number slots None = None
at_number slots (Some n) = slice_get slots n

module _ (clock : Calendar) (s : Over) (a : Accums) (n : ℕ) (d : code.Slot) (e : slice_get a.slots.declared n ≡ Some d) where
  named_is : slot_named (world_over clock s) (slots_are a) (Slot n) ≡ at_number (slots_are a) (slot_number (world_over clock s) (slots_are a) (Slot n))
  named_is = refl

  slot_is : slice_get (slots_are a) n ≡ Some (slot_there a n d)
  slot_is =
      sym (named_is ∙ ap (at_number (slots_are a)) (number_there (world_over clock s) a n refl ∙ ap (option_map (λ d. n)) e))
      ∙ named_some (world_over clock s) a n d refl e

  abbrev put_of : Bool → Option (Holds (accum_of d.kind)) → List (Bytes × json.Out)
  put_of b p = built_print (of_content (world_over clock s) ((world_over clock s).words.said (Slot (0 + n))) (accum_of d.kind) b p)

  shown_is : (v : ℕ) → slot_shown (world_over clock s) v (slice_get (slots_are a) n) ≡ put_of d.attached (slice_get (slot_there a n d).contents v)
  shown_is v = ap (slot_shown (world_over clock s) v) slot_is

  adds_nothing : (v : ℕ) (old : List (Bytes × json.Out)) → put_of d.attached (slice_get (slot_there a n d).contents v) ≡ [] → old ≡ old ++ slot_shown (world_over clock s) v (slice_get (slots_are a) n)
  adds_nothing v old h = sym (append-nil old) ∙ ap (λ ms. old ++ ms) (sym (shown_is v ∙ h))

  -- an accumulator that isn't attached adds nothing
  pub slot_left : (v : ℕ) (old : List (Bytes × json.Out)) → d.attached ≡ false → old ≡ old ++ slot_shown (world_over clock s) v (slice_get (slots_are a) n)
  slot_left v old f = adds_nothing v old (ap (λ b. put_of b (slice_get (slot_there a n d).contents v)) f)

  abbrev as_seen : Option Content → Option (Holds (accum_of d.kind))
  as_seen o = option_map (λ c. view (accum_of d.kind) (out-Content c)) o

  contents_are : (v : ℕ) → slice_get (slot_there a n d).contents v ≡ as_seen (slice_get (take (targets_of a.slots.vertices d) (from_first a.slots.vertices n a.slots.declared a.contents)) v)
  contents_are v = slice_get-map (λ c. view (accum_of d.kind) (out-Content c)) (take (targets_of a.slots.vertices d) (from_first a.slots.vertices n a.slots.declared a.contents)) v

  module _ (attached : d.attached ≡ true) where
    targets_are : targets_of a.slots.vertices d ≡ a.slots.vertices
    targets_are = ap (λ b. if b then a.slots.vertices else 1) attached

    -- neither does an attached one that has no content at the vertex
    pub slot_past : (v : ℕ) (old : List (Bytes × json.Out)) → a.slots.vertices ≤ v → old ≡ old ++ slot_shown (world_over clock s) v (slice_get (slots_are a) n)
    slot_past v old l =
        adds_nothing v old (
        ap (λ b. put_of b (slice_get (slot_there a n d).contents v)) attached
        ∙ ap (put_of true) (contents_are v ∙ ap as_seen (get_past (targets_of a.slots.vertices d) v (from_first a.slots.vertices n a.slots.declared a.contents) (omega (arith, targets_are, l)))))

    content_is : (v t : ℕ) → v < a.slots.vertices → t ≡ number_of a.slots n v → slice_get (slot_there a n d).contents v ≡ as_seen (slice_get a.contents t)
    content_is v t l at =
        contents_are v
        ∙ ap as_seen (get_take (targets_of a.slots.vertices d) v (from_first a.slots.vertices n a.slots.declared a.contents) (omega (arith, targets_are, l))
        ∙ get_drop (target_count a.slots.vertices (take n (attached_in a.slots.declared))) v a.contents ∙ ap (slice_get a.contents) (sym at))

    put_there : (v t : ℕ) → v < a.slots.vertices → t ≡ number_of a.slots n v → put_of d.attached (slice_get (slot_there a n d).contents v) ≡ put_of true (as_seen (slice_get a.contents t))
    put_there v t l at = ap (λ b. put_of b (slice_get (slot_there a n d).contents v)) attached ∙ ap (put_of true) (content_is v t l at)

    pub slot_empty : (v t : ℕ) (old : List (Bytes × json.Out)) → v < a.slots.vertices → t ≡ number_of a.slots n v → slice_get a.contents t ≡ None
        → old ≡ old ++ slot_shown (world_over clock s) v (slice_get (slots_are a) n)
    slot_empty v t old l at h = adds_nothing v old (put_there v t l at ∙ ap (λ o. put_of true (as_seen o)) h)

    -- and one that has a content adds its name with it
    pub slot_told : {A E : Type 0} (v t : ℕ) (c : Content) (said : Bytes) (o : json.Out) (old new : List (Bytes × json.Out)) (r : Result A E) → v < a.slots.vertices → t ≡ number_of a.slots n v → slice_get a.contents t ≡ Some c
        → said ≡ unwrap_or (slice_get (accum_names s.plan) n) [] → o ≡ content_shown (world_over clock s) (accum_of d.kind) c → OnOk r (new ≡ old ++ (said, o) ∷ []) → OnOk r (new ≡ old ++ slot_shown (world_over clock s) v (slice_get (slots_are a) n))
    slot_told v t c said o old new (Ok u) l at h name is put =
        put ∙ ap (λ ms. old ++ ms) (ap₂ (λ m p. (m, p) ∷ []) (name ∙ ap (λ m. unwrap_or (slice_get (accum_names s.plan) m) []) (let z : n ≡ 0 + n = omega arith in z)) is ∙ sym (shown_is v ∙ put_there v t l at ∙ ap (λ o. put_of true (as_seen o)) h))
    slot_told v t c said o old new (Err m) l at h name is put = tt

    pub sound_there : (v t : ℕ) (c : Content) → AreSound a → v < a.slots.vertices → t ≡ number_of a.slots n v → slice_get a.contents t ≡ Some c → IsShown (accum_of d.kind) c
    sound_there v t c sound l at h = sound_shown (accum_of d.kind) c (sound.each n v d c e (omega (arith, targets_are, l)) (ap (slice_get a.contents) (sym at) ∙ h))

pub ruleset slot_laws = (slot_left, slot_past)

-- ---- all of them

slots_count : (vertices n : ℕ) (ss : List code.Slot) (cs : List Content) → length (slots_from vertices n ss cs) ≡ length ss
slots_count vertices n [] cs = refl
slots_count vertices n (s ∷ ss) cs = ap suc (slots_count vertices (suc n) ss (drop (targets_of vertices s) cs))

module _ (world : World Reference) (v : ℕ) where
  one_more : (slots : List (states.Slot Reference)) (n : ℕ) → attached_shown world v (take (suc n) slots) ≡ attached_shown world v (take n slots) ++ slot_shown world v (slice_get slots n)
  one_more [] zero = refl
  one_more [] (suc n) = refl
  one_more (s ∷ ss) zero = ap built_print (append-nil (of_content world (world.words.said s.name) s.kind s.attached (slice_get s.contents v)))
  one_more (s ∷ ss) (suc n) =
      let first = of_content world (world.words.said s.name) s.kind s.attached (slice_get s.contents v) in
      print_joined first (out_attached world v (take (suc n) ss))
      ∙ ap (λ ms. built_print first ++ ms) (one_more ss n)
      ∙ sym (append_assoc (built_print first) (attached_shown world v (take n ss)) (slot_shown world v (slice_get ss n)))
      ∙ ap (λ ms. ms ++ slot_shown world v (slice_get ss n)) (sym (print_joined first (out_attached world v (take n ss))))

  pub attached_none : (slots : List (states.Slot Reference)) (old : List (Bytes × json.Out)) → old ≡ old ++ attached_shown world v (take 0 slots)
  attached_none slots old = sym (append-nil old)

  pub attached_more : (slots : List (states.Slot Reference)) (n : ℕ) (old done new : List (Bytes × json.Out)) → done ≡ old ++ attached_shown world v (take n slots) → new ≡ done ++ slot_shown world v (slice_get slots n) → new ≡ old ++ attached_shown world v (take (n + 1) slots)
  attached_more slots n old done new h is =
      is ∙ ap (λ ms. ms ++ slot_shown world v (slice_get slots n)) h ∙ append_assoc old (attached_shown world v (take n slots)) (slot_shown world v (slice_get slots n))
      ∙ ap (λ ms. old ++ ms) (sym (ap (λ m. attached_shown world v (take m slots)) (let e : n + 1 ≡ suc n = omega arith in e) ∙ one_more slots n))

  take_whole : {A : Type 0} (n : ℕ) (xs : List A) → length xs ≤ n → take n xs ≡ xs
  take_whole zero [] h = refl
  take_whole zero (x ∷ xs) h = absurd (omega (arith, h))
  take_whole (suc n) [] h = refl
  take_whole (suc n) (x ∷ xs) h = ap (λ ys. x ∷ ys) (take_whole n xs (omega (arith, h)))

  pub attached_all : (a : Accums) (n : ℕ) (old done : List (Bytes × json.Out)) → done ≡ old ++ attached_shown world v (take n (slots_are a)) → length a.slots.declared ≤ n → done ≡ old ++ attached_shown world v (slots_are a)
  attached_all a n old done h l = h ∙ ap (λ slots. old ++ attached_shown world v slots) (take_whole n (slots_are a) (let c = slots_count a.slots.vertices 0 a.slots.declared a.contents in omega (arith, c, l)))

pub ruleset attached_laws = (attached_none, attached_more, attached_all)

-- ---- the first target of each slot

taken : {A : Type 0} (xs : List A) (i : ℕ) (x : A) → slice_get xs i ≡ Some x → take (suc i) xs ≡ take i xs ++ x ∷ []
taken [] i x e = absurd (cc e)
taken (y ∷ xs) zero x e = ap (λ z. z ∷ []) (cc e)
taken (y ∷ xs) (suc i) x e = ap (λ zs. y ∷ zs) (taken xs i x e)

counted : (vertices : ℕ) (bs : List Bool) (b : Bool) → target_count vertices (bs ++ b ∷ []) ≡ target_count vertices bs + (if b then vertices else 1)
counted vertices [] b = omega arith
counted vertices (c ∷ bs) b = let h = counted vertices bs b in omega (arith, h)

pub first_zero : (slots : Slots) → IsFirst slots 0 0
first_zero slots = record { is = refl; room = omega arith }

pub first_next : (slots : Slots) (n m first count : ℕ) (d : code.Slot) → IsFirst slots n first → slice_get slots.declared n ≡ Some d → count ≡ targets_of slots.vertices d → count < 4294967296 → m ≡ n + 1 → IsFirst slots m (first + count)
first_next slots n m first count d h e is few same = record {
  is =
      (let k = counted slots.vertices (take n (attached_in slots.declared)) d.attached in
      let l = ap (target_count slots.vertices) (taken (attached_in slots.declared) n d.attached (mapped_at (λ (c : code.Slot). c.attached) slots.declared n d e)) in
      let q = ap (λ i. target_count slots.vertices (take i (attached_in slots.declared))) (let z : m ≡ suc n = omega (arith, same) in z) in
      let f = h.is in
      omega (arith, k, l, q, f, is));
  room = (let r = h.room in omega (arith, r, few, same));
}

pub at_target : (slots : Slots) (n v first : ℕ) → IsFirst slots n first → first + v ≡ number_of slots n v
at_target slots n v first h = let e = h.is in omega (arith, e)

-- ---- names

get_front : {A : Type 0} (xs ys : List A) (i : ℕ) (x : A) → slice_get xs i ≡ Some x → slice_get (xs ++ ys) i ≡ Some x
get_front [] ys i x e = absurd (cc e)
get_front (z ∷ xs) ys zero x e = e
get_front (z ∷ xs) ys (suc i) x e = get_front xs ys i x e

get_behind : {A : Type 0} (xs ys : List A) (i : ℕ) → slice_get xs i ≡ None → slice_get (xs ++ ys) i ≡ slice_get ys (i - length xs)
get_behind [] ys i e = ap (slice_get ys) (let q : i ≡ i - 0 = omega arith in q)
get_behind (z ∷ xs) ys zero e = absurd (cc e)
get_behind (z ∷ xs) ys (suc i) e = get_behind xs ys i e ∙ ap (slice_get ys) (let q : i - length xs ≡ suc i - suc (length xs) = omega arith in q)

abbrev pub NamedFrom : List Definition → ℕ → ℕ → ℕ → Type 0
NamedFrom ds slot i left = slice_get (flat_map names_in ds) slot ≡ slice_get (flat_map names_in (drop i ds)) left

pub name_first : (ds : List Definition) (slot : ℕ) → NamedFrom ds slot 0 slot
name_first ds slot = refl

pub name_there : (ds : List Definition) (slot i left : ℕ) (d : Definition) (name : Bytes) → NamedFrom ds slot i left → i < length ds → d ≡ get_or ds i d → slice_get (names_in d) left ≡ Some name → slice_get (flat_map names_in ds) slot ≡ Some name
name_there ds slot i left d name h l e f = h ∙ ap (λ es. slice_get (flat_map names_in es) left) (drop_at ds i d (at_get ds i d l e)) ∙ get_front (names_in d) (flat_map names_in (drop (i + 1) ds)) left name f

pub name_later : (ds : List Definition) (slot i left now : ℕ) (d : Definition) → NamedFrom ds slot i left → i < length ds → d ≡ get_or ds i d → slice_get (names_in d) left ≡ None → now ≡ left - length (names_in d) → NamedFrom ds slot (i + 1) now
name_later ds slot i left now d h l e f is =
    h ∙ ap (λ es. slice_get (flat_map names_in es) left) (drop_at ds i d (at_get ds i d l e))
    ∙ get_behind (names_in d) (flat_map names_in (drop (i + 1) ds)) left f
    ∙ ap (slice_get (flat_map names_in (drop (i + 1) ds))) (sym is)

pub name_nowhere : (ds : List Definition) (slot i left : ℕ) → NamedFrom ds slot i left → length ds ≤ i → slice_get (flat_map names_in ds) slot ≡ None
name_nowhere ds slot i left h l = h ∙ ap (λ es. slice_get (flat_map names_in es) left) (drop_all i ds l)

pub ruleset name_laws = (name_first, name_there, name_later, name_nowhere)

pub line_name : (xs : List plan.Accum) (i : ℕ) (a : plan.Accum) → slice_get xs i ≡ Some a → slice_get (map (λ (a : plan.Accum). a.name) xs) i ≡ Some a.name
line_name xs i a e = mapped_at (λ (a : plan.Accum). a.name) xs i a e

pub line_none : (xs : List plan.Accum) (i : ℕ) → slice_get xs i ≡ None → slice_get (map (λ (a : plan.Accum). a.name) xs) i ≡ None
line_none xs i e = slice_get-map (λ (a : plan.Accum). a.name) xs i ∙ ap (option_map (λ (a : plan.Accum). a.name)) e

pub line_count : (xs : List plan.Accum) (n : ℕ) → n ≡ length xs → n ≡ length (map (λ (a : plan.Accum). a.name) xs)
line_count [] n e = e
line_count (a ∷ xs) n e = e ∙ ap suc (line_count xs (length xs) refl)

pub ruleset line_laws = (line_name, line_none, line_count)
