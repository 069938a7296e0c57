-- Worked contents: each is proved by computation.
use Rattle.std.proofs.Common.{◌≡◌, ℕ, ℤ, pos, negsuc, true, false, List, [], ◌∷◌, ◌++◌, refl}
use Rattle.gq_value.specs.declared.kind.Number.TheVariants as number
use Rattle.gq_value.specs.Val.{Val, Int, Truth, Text, Tuple, Fraction, none, more}
use Rattle.gq_value.specs.Accums.{INT, STRING, TUPLE, no_base, base_and, Accum, SumAccum, MinAccum, MaxAccum, OrAccum, AndAccum, BitwiseOrAccum, BitwiseAndAccum, AvgAccum, SetAccum, BagAccum, ListAccum, MapAccum, GroupByAccum, HeapAccum, no_part, part_and, Given, One, Keyed, no_given, given_and}
use Rattle.gq_value.specs.Typed.{suits}
use Rattle.gq_accum_laws.specs.Holds.{Holds, entries}
use Rattle.gq_accum_laws.specs.After.{fresh, after, merged}
use Rattle.gq_accum_laws.specs.Fits.{fits}
use Rattle.gq_accum_laws.specs.Reads.{value_in}

abbrev from : (k : Accum) → List Given → Holds k
from k xs = after k (fresh k) xs

abbrev int : ℤ → Given
int x = One (Int x)

-- ---- sums

abbrev sum : Accum
sum = SumAccum number.Int

abbrev great : List Given
great = int (pos 9223372036854775807) ∷ int (pos 1) ∷ []

a_sum_may_leave_its_type_on_the_way : from sum (great ++ int (negsuc 0) ∷ []) ≡ pos 9223372036854775807
a_sum_may_leave_its_type_on_the_way = refl

and_fits_in_the_end : fits sum (from sum (great ++ int (negsuc 0) ∷ [])) ≡ true
and_fits_in_the_end = refl

a_sum_that_stays_outside_does_not_fit : fits sum (from sum great) ≡ false
a_sum_that_stays_outside_does_not_fit = refl

-- ---- averages

abbrev average_of : List Given → Val
average_of xs = value_in AvgAccum (from AvgAccum xs)

three_halves : average_of (int (pos 1) ∷ int (pos 2) ∷ []) ≡ Fraction (pos 3) 2
three_halves = refl

four_thirds : average_of (int (pos 1) ∷ int (pos 1) ∷ int (pos 2) ∷ []) ≡ Fraction (pos 4) 3
four_thirds = refl

four_thirds_below : average_of (int (negsuc 0) ∷ int (negsuc 0) ∷ int (negsuc 1) ∷ []) ≡ Fraction (negsuc 3) 3
four_thirds_below = refl

nothing_averages_to_nought : average_of [] ≡ Fraction (pos 0) 1
nothing_averages_to_nought = refl

-- ---- extremes, truths and bits

the_extremes : (from (MinAccum number.Int) great ≡ pos 1) × (from (MaxAccum number.Int) great ≡ pos 9223372036854775807)
the_extremes = (refl, refl)

extremes_of_nothing : (from (MinAccum number.UInt) [] ≡ pos 18446744073709551615) × (from (MaxAccum number.Int) [] ≡ negsuc 9223372036854775807)
extremes_of_nothing = (refl, refl)

truths : (from OrAccum (One (Truth false) ∷ One (Truth true) ∷ []) ≡ true) × (from AndAccum (One (Truth false) ∷ One (Truth true) ∷ []) ≡ false) × (from AndAccum [] ≡ true)
truths = (refl, refl, refl)

bits : (from BitwiseOrAccum (int (pos 12) ∷ int (pos 10) ∷ []) ≡ pos 14) × (from BitwiseAndAccum (int (pos 12) ∷ int (pos 10) ∷ []) ≡ pos 8) × (from BitwiseAndAccum [] ≡ negsuc 0)
bits = (refl, refl, refl)

bits_of_negative_numbers : (from BitwiseOrAccum (int (negsuc 15) ∷ int (pos 3) ∷ []) ≡ negsuc 12) × (from BitwiseAndAccum (int (negsuc 15) ∷ int (negsuc 3) ∷ []) ≡ negsuc 15)
bits_of_negative_numbers = (refl, refl)

-- ---- sets, bags and lists

abbrev three : List Given
three = int (pos 2) ∷ int (pos 1) ∷ int (pos 2) ∷ []

a_set_keeps_each_once : from (SetAccum INT) three ≡ Int (pos 1) ∷ Int (pos 2) ∷ []
a_set_keeps_each_once = refl

a_bag_keeps_all_ascending : from (BagAccum INT) three ≡ Int (pos 1) ∷ Int (pos 2) ∷ Int (pos 2) ∷ []
a_bag_keeps_all_ascending = refl

a_list_keeps_all_as_they_came : from (ListAccum INT) three ≡ Int (pos 2) ∷ Int (pos 1) ∷ Int (pos 2) ∷ []
a_list_keeps_all_as_they_came = refl

-- ---- heaps: two tuples, the greatest scores first

abbrev scored : ℤ → ℕ → Val
scored score name = Tuple (more (Int score) (more (Text (name ∷ [])) none))

abbrev best : Accum
best = HeapAccum (TUPLE 0 (base_and INT (base_and STRING no_base))) 2 ((0, true) ∷ [])

ties_go_by_the_other_fields : from best (One (scored (pos 5) 99) ∷ One (scored (pos 7) 100) ∷ One (scored (pos 5) 97) ∷ []) ≡ scored (pos 7) 100 ∷ scored (pos 5) 97 ∷ []
ties_go_by_the_other_fields = refl

equal_tuples_are_all_kept : from best (One (scored (pos 5) 97) ∷ One (scored (pos 4) 97) ∷ One (scored (pos 5) 97) ∷ []) ≡ scored (pos 5) 97 ∷ scored (pos 5) 97 ∷ []
equal_tuples_are_all_kept = refl

-- ---- maps: from a text to a sum

abbrev counts : Accum
counts = MapAccum STRING sum

abbrev counted : ℕ → ℤ → Given
counted key x = Keyed (Text (key ∷ []) ∷ []) (given_and (int x) no_given)

abbrev two_keys : List (List Val × ℤ)
two_keys = (Text (97 ∷ []) ∷ [], pos 2) ∷ (Text (98 ∷ []) ∷ [], pos 4) ∷ []

a_map_has_each_key_with_its_own_sum : entries (from counts (counted 98 (pos 1) ∷ counted 97 (pos 2) ∷ counted 98 (pos 3) ∷ [])) ≡ two_keys
a_map_has_each_key_with_its_own_sum = refl

in_another_order : entries (from counts (counted 98 (pos 3) ∷ counted 98 (pos 1) ∷ counted 97 (pos 2) ∷ [])) ≡ two_keys
in_another_order = refl

in_a_third_order : entries (from counts (counted 97 (pos 2) ∷ counted 98 (pos 3) ∷ counted 98 (pos 1) ∷ [])) ≡ two_keys
in_a_third_order = refl

merged_of_two_parts : entries (merged counts (from counts (counted 98 (pos 1) ∷ [])) (from counts (counted 97 (pos 2) ∷ counted 98 (pos 3) ∷ []))) ≡ two_keys
merged_of_two_parts = refl

a_key_that_is_not_held_has_the_opening : (from counts (counted 98 (pos 1) ∷ [])).1 (Text (97 ∷ []) ∷ []) ≡ pos 0
a_key_that_is_not_held_has_the_opening = refl

one_sum_in_a_map_may_not_fit : fits counts (from counts (counted 97 (pos 1) ∷ counted 98 (pos 9223372036854775807) ∷ counted 98 (pos 1) ∷ [])) ≡ false
one_sum_in_a_map_may_not_fit = refl

a_map_takes_keys_of_its_type : (suits counts (counted 97 (pos 1)) ≡ true) × (suits counts (int (pos 1)) ≡ false) × (suits counts (Keyed (Int (pos 1) ∷ []) (given_and (int (pos 1)) no_given)) ≡ false)
a_map_takes_keys_of_its_type = (refl, refl, refl)

-- ---- groups: by parity, with a sum and the greatest

abbrev by_parity : Accum
by_parity = GroupByAccum ((112 ∷ [], INT) ∷ []) (part_and (115 ∷ []) sum (part_and (109 ∷ []) (MaxAccum number.Int) no_part))

abbrev odd_or_even : ℤ → ℤ → Given
odd_or_even parity x = Keyed (Int parity ∷ []) (given_and (int x) (given_and (int x) no_given))

a_group_has_its_parts_at_each_key_row : entries (from by_parity (odd_or_even (pos 1) (pos 5) ∷ odd_or_even (pos 0) (pos 4) ∷ odd_or_even (pos 1) (pos 3) ∷ []))
    ≡ (Int (pos 0) ∷ [], (pos 4, (pos 4, tt))) ∷ (Int (pos 1) ∷ [], (pos 8, (pos 5, tt))) ∷ []
a_group_has_its_parts_at_each_key_row = refl

-- ---- eight levels: a map of maps of maps .. of sums

abbrev deep : Accum
deep = MapAccum INT (MapAccum INT (MapAccum INT (MapAccum INT (MapAccum INT (MapAccum INT (MapAccum INT sum))))))

abbrev under : Given → Given
under x = Keyed (Int (pos 1) ∷ []) (given_and x no_given)

abbrev one_key : List Val
one_key = Int (pos 1) ∷ []

eight_levels : (((((((from deep (under (under (under (under (under (under (under (int (pos 3)))))))) ∷ under (under (under (under (under (under (under (int (pos 4)))))))) ∷ [])).1 one_key).1 one_key).1 one_key).1 one_key).1 one_key).1 one_key).1 one_key ≡ pos 7
eight_levels = refl
