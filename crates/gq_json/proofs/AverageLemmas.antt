-- The text of averages: halves, digits that are truncated instead of rounded, a sign only if a digit isn't zero.
use Rattle.std.proofs.Common.{◌≡◌, pos, negsuc, refl, codes}
use Rattle.std.specs.Fmt.{digits}
use Rattle.gq_json.specs.Average.{fraction_text}

halves : fraction_text (record { sum = pos 3; count = 2 }) ≡ codes "1.5"
unfolding fraction_text digits
halves = refl

thirds : fraction_text (record { sum = pos 4; count = 3 }) ≡ codes "1.333333"
unfolding fraction_text digits
thirds = refl

thirds_below : fraction_text (record { sum = negsuc 3; count = 3 }) ≡ codes "-1.333333"
unfolding fraction_text digits
thirds_below = refl

cut_off : fraction_text (record { sum = pos 5; count = 3 }) ≡ codes "1.666666"
unfolding fraction_text digits
cut_off = refl

nothing : fraction_text (record { sum = pos 0; count = 1 }) ≡ codes "0"
unfolding fraction_text digits
nothing = refl

too_small : fraction_text (record { sum = negsuc 0; count = 10000000 }) ≡ codes "0"
unfolding fraction_text digits
too_small = refl

smallest : fraction_text (record { sum = negsuc 0; count = 1000000 }) ≡ codes "-0.000001"
unfolding fraction_text digits
smallest = refl

tens : fraction_text (record { sum = pos 120; count = 4 }) ≡ codes "30"
unfolding fraction_text digits
tens = refl
