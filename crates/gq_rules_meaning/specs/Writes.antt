-- Writes: the immediate effect of a change on one content, outside ACCUM: `+=` with one input, and `=`.
use Rattle.std.specs.Prelude.{ℕ, zero, suc, Bool, true, false, List, [], ◌∷◌}
use Rattle.gq_value.specs.declared.value.Wrong.{Wrong}
use Rattle.gq_value.specs.Val.{Val}
use Rattle.gq_value.specs.Accums.{Accum, Given}
use Rattle.gq_rules_typing.specs.Holds.{Holds}
use Rattle.gq_rules_typing.specs.After.{after}
use Rattle.gq_rules_typing.specs.Fits.{fits}
use Rattle.gq_rules_typing.specs.Reads.{set_to}
use Rattle.gq_rules_typing.specs.Selecting.{Change, Adds, Puts}
use Rattle.gq_rules_typing.specs.Kinds.{set_type}
use Rattle.gq_rules_meaning.specs.Answers.{Answer, Gives, Faults, ◌>>=◌, blaming, found}
use Rattle.gq_rules_meaning.specs.Expressions.{Look, value_as}
use Rattle.gq_rules_meaning.specs.States.{Slot, slot_number, slot_named}
use Rattle.gq_rules_meaning.specs.Blocks.{input_of}

-- an expression's fault, or a sum out of range in the accumulator of this number
pub data WriteFault : Type 0 where
  Wrongly : Wrong → WriteFault
  TooBig : ℕ → WriteFault

-- the effect of a change on a content
abbrev pub Making : Type 0
Making = (k : Accum) → Holds k → Holds k

abbrev pub with_input : Given → Making
with_input x k c = after k c (x ∷ [])

abbrev pub with_value : Val → Making
with_value v k c = set_to k v

abbrev pub made_by : {N : Type 0} → Look N → Accum → Change N → Answer Wrong Making
made_by look k (Adds x) = input_of look k x >>= λ y. Gives (with_input y)
made_by look k (Puts t) = found (set_type k) >>= λ b. value_as look b t >>= λ v. Gives (with_value v)

-- the list with another item at a place
abbrev pub changed_at : {A : Type 0} → (A → A) → ℕ → List A → List A
changed_at f n [] = []
changed_at f zero (a ∷ rest) = f a ∷ rest
changed_at f (suc n) (a ∷ rest) = a ∷ changed_at f n rest

-- whether the item at a place passes
abbrev pub passes_at : {A : Type 0} → (A → Bool) → ℕ → List A → Bool
passes_at p n [] = true
passes_at p zero (a ∷ rest) = p a
passes_at p (suc n) (a ∷ rest) = passes_at p n rest

-- an accumulator with another content at a vertex
abbrev pub slot_changed : {N : Type 0} → Making → ℕ → Slot N → Slot N
slot_changed f v s = record s { contents = changed_at (f s.kind) v s.contents }

abbrev pub fits_at : {N : Type 0} → ℕ → Slot N → Bool
fits_at v s = passes_at (fits s.kind) v s.contents

abbrev pub if_fit : {A : Type 0} → ℕ → Bool → A → Answer WriteFault A
if_fit n true a = Gives a
if_fit n false a = Faults (TooBig n)

-- the accumulators with a change of one of them at a vertex, which has to fit; a global one is at 0
abbrev pub slots_changed : {N : Type 0} → Look N → List (Slot N) → N → ℕ → Change N → Answer WriteFault (List (Slot N))
slots_changed look slots a v change =
    found (slot_number look.world slots a) >>= λ n. found (slot_named look.world slots a) >>= λ s.
    blaming Wrongly (made_by look s.kind change) >>= λ f. if_fit n (fits_at v (slot_changed f v s)) (changed_at (slot_changed f v) n slots)
