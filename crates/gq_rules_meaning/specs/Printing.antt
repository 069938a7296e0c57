-- Printing: the output of PRINT for vertices, sets and items, vertex by vertex in the set's order, from left to right.
use Rattle.std.specs.Prelude.{ℕ, Bool, true, List, [], ◌∷◌, ◌++◌, Option, Some, codes, slice_get}
use Rattle.gq_value.specs.declared.value.Wrong.{Wrong}
use Rattle.gq_value.specs.Accums.{Accum}
use Rattle.gq_rules_typing.specs.Holds.{Holds}
use Rattle.gq_rules_typing.specs.Statements.{Bytes, Item, Printed, Whole, Selection}
use Rattle.gq_rules_meaning.specs.Answers.{Answer, Gives, Stuck, ◌>>=◌, found, each}
use Rattle.gq_rules_meaning.specs.Graphs.{sort_of_vertex}
use Rattle.gq_rules_meaning.specs.Meanings.{Meant, Is, IsAverage, IsContent, IsSet}
use Rattle.gq_value.specs.Accums as accums
use Rattle.gq_rules_meaning.specs.Expressions.{World, Look, meaning}
use Rattle.gq_rules_meaning.specs.States.{Thing, SetOf, Member, Slot, State, thing_named, with_new, seen}
use Rattle.gq_rules_meaning.specs.Outs.{Out, OutText, OutList, OutObject, outs, members, id_of, out_value, out_named, out_content}

-- ---- vertices

-- a vertex, with these members as its attributes
abbrev pub out_vertex : {N : Type 0} → World N → ℕ → List (Bytes × Out) → Answer Wrong Out
out_vertex world v attributes =
    found (sort_of_vertex world.graph v) >>= λ sort.
    Gives (OutObject (members ((codes "v_id", OutText (id_of world.graph v)) ∷ (codes "v_type", OutText sort.name) ∷ (codes "attributes", OutObject (members attributes)) ∷ [])))

abbrev pub of_content : {N : Type 0} → World N → Bytes → (k : Accum) → Bool → Option (Holds k) → List (Bytes × Out)
of_content world name k true (Some c) = (name, out_content world k c) ∷ []
of_content world name k _ _ = []

-- the attached accumulators, in order of declaration
abbrev pub out_attached : {N : Type 0} → World N → ℕ → List (Slot N) → List (Bytes × Out)
out_attached world v [] = []
out_attached world v (s ∷ ss) = of_content world (world.words.said s.name) s.kind s.attached (slice_get s.contents v) ++ out_attached world v ss

-- with all its attributes, and then its attached accumulators
abbrev pub out_whole_vertex : {N : Type 0} → World N → List (Slot N) → ℕ → Answer Wrong Out
out_whole_vertex world slots v =
    found (sort_of_vertex world.graph v) >>= λ sort. found (slice_get world.graph.vertex_values v) >>= λ vs.
    out_vertex world v (out_named world sort.fields vs ++ out_attached world v slots)

-- ---- items

abbrev pub out_meant : {N : Type 0} → World N → List (Slot N) → Meant → Answer Wrong Out
out_meant world slots (Is b v) = Gives (out_value world b v)
out_meant world slots (IsAverage v) = Gives (out_value world accums.INT v)
out_meant world slots (IsContent k c) = Gives (out_content world k c)
out_meant world slots (IsSet vs) = each (out_whole_vertex world slots) vs >>= λ os. Gives (OutList (outs os))
out_meant world slots m = Stuck

abbrev pub out_item : {N : Type 0} → World N → Look N → List (Slot N) → Item N → Answer Wrong (Bytes × Out)
out_item world look slots i = meaning look i.tree >>= out_meant world slots >>= λ o. Gives (i.key, o)

-- a vertex of `S[..]`, with the listed expressions in place of its attributes
abbrev pub out_member : {N : Type 0} → World N → State N → N → List ℕ → List (Item N) → List ℕ → ℕ → Answer Wrong Out
out_member world s x types items vs v = each (out_item world (seen world (with_new x (Member types vs v) s)) s.slots) items >>= out_vertex world v

abbrev pub selection : {N : Type 0} → World N → State N → N → List (Item N) → Thing → Answer Wrong Out
selection world s x items (SetOf types vs) = each (out_member world s x types items vs) vs >>= λ os. Gives (OutList (outs os))
selection world s x items thing = Stuck

-- one item of PRINT, with its key
abbrev pub printed : {N : Type 0} → World N → State N → Printed N → Answer Wrong (Bytes × Out)
printed world s (Whole i) = out_item world (seen world s) s.slots i
printed world s (Selection x items key) = found (thing_named world s.names x) >>= selection world s x items >>= λ o. Gives (key, o)
