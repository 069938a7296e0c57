-- WaitingLemmas: inputs whose rows are kept apart, when one more is appended and when only the first are kept.
use Rattle.std.proofs.Common.{◌≡◌, ℕ, suc, ◌≤◌, List, [], ◌∷◌, ◌++◌, length, take, refl, sym, ap, ap₂, ◌∙◌, arith}
use Rattle.std.specs.List.{All}
use Rattle.std.proofs.lemmas.List.{get_or_append_left, map_push, take-map}
use Rattle.std.proofs.lemmas.List.Elements.{All-head, All-tail}
use Rattle.gq_exec_contribute.specs.declared.rows.Ints.{Ints}
use Rattle.gq_exec_contribute.specs.declared.scalars.ScalarInput.{ScalarInput}
use Rattle.gq_exec_contribute.specs.declared.scalars.ScalarInput.TheVariants as scalar
use Rattle.gq_exec_contribute.specs.declared.waiting.PackedInput.{PackedInput}
use Rattle.gq_exec_contribute.specs.declared.waiting.PackedInput.TheVariants as packed
use Rattle.gq_exec_contribute.specs.Waiting.{no_row, row_at, unpacked, unpacked_head, inputs_of, rows_needed, IsPlaced, ArePlaced, IsPacked}

-- ---- more rows

row_stays : (rows more : List Ints) (place : ℕ) → suc place ≤ length rows → row_at (rows ++ more) place ≡ row_at rows place
row_stays rows more place low = get_or_append_left rows more no_row place (omega (arith, low))

input_stays : (rows more : List Ints) (p : PackedInput) → rows_needed p ≤ length rows → unpacked (rows ++ more) p ≡ unpacked rows p
input_stays rows more (packed.Int x) low = refl
input_stays rows more (packed.Truth b) low = refl
input_stays rows more (packed.Element x) low = refl
input_stays rows more (packed.Tuple place) low = ap scalar.Tuple (row_stays rows more place low)
input_stays rows more (packed.Keyed n place) low = ap (scalar.Keyed n) (row_stays rows more place low)

inputs_stay : (heads : List (ℕ × PackedInput)) (rows more : List Ints) → All (IsPlaced (length rows)) heads → inputs_of heads (rows ++ more) ≡ inputs_of heads rows
inputs_stay [] rows more are = refl
inputs_stay (h ∷ hs) rows more are =
    ap₂ ◌∷◌ (ap (λ (x : ScalarInput). (h.0, x)) (input_stays rows more h.1 (All-head (IsPlaced (length rows)) h hs are)))
    (inputs_stay hs rows more (All-tail (IsPlaced (length rows)) h hs are))

-- a packed input leaves the others as they are
pub others_are : (heads : List (ℕ × PackedInput)) (rows now : List Ints) (all : List (ℕ × ScalarInput)) (x : ScalarInput) (p : PackedInput) → inputs_of heads rows ≡ all → ArePlaced heads (length rows)
    → IsPacked rows now x p → inputs_of heads now ≡ all
others_are heads rows now all x p view are is = ap (inputs_of heads) is.added ∙ inputs_stay heads rows is.more are.each ∙ view

-- ---- one more input

pub pushed_is : (heads after : List (ℕ × PackedInput)) (rows now : List Ints) (all : List (ℕ × ScalarInput)) (t : ℕ) (x : ScalarInput) (p : PackedInput) → inputs_of heads rows ≡ all → ArePlaced heads (length rows)
    → IsPacked rows now x p → after ≡ heads ++ (t, p) ∷ [] → inputs_of after now ≡ all ++ (t, x) ∷ []
pushed_is heads after rows now all t x p view are is more =
    ap (λ hs. inputs_of hs now) more
    ∙ map_push (unpacked_head now) heads (t, p)
    ∙ ap₂ (λ l y. l ++ (t, y) ∷ []) (others_are heads rows now all x p view are is) is.is

-- ---- only the first inputs

pub cut_is : (heads after : List (ℕ × PackedInput)) (rows : List Ints) (all : List (ℕ × ScalarInput)) (n : ℕ) → inputs_of heads rows ≡ all → after ≡ take n heads → inputs_of after rows ≡ take n all
cut_is heads after rows all n view cut = ap (λ hs. inputs_of hs rows) cut ∙ sym (take-map (unpacked_head rows) n heads) ∙ ap (take n) view
