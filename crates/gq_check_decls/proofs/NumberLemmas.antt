-- NumberLemmas: which numbers of a text are an INT or a UINT.
use Rattle.std.proofs.Common.{ℕ, zero, suc, ◌≡◌, ◌<◌, ◌^◌, ◌==◌, true, false, nat_lt, nat_le, refl, arith}
use Rattle.gq_value.specs.Accums.{INT, UINT}
use Rattle.gq_rules_typing.specs.Statements.{Signed}
use Rattle.gq_rules_typing.specs.QueryTypes.{stands_for}

pub int_plus : (n : ℕ) → stands_for INT (Signed false n) ≡ nat_lt n 9223372036854775808
int_plus n = grind arith

pub int_minus : (n : ℕ) → stands_for INT (Signed true n) ≡ nat_le n 9223372036854775808
int_minus zero = refl
int_minus (suc m) = grind arith

pub uint_plus : (n : ℕ) → n < 2 ^ 64 → stands_for UINT (Signed false n) ≡ true
uint_plus n low = grind arith

pub uint_minus : (n : ℕ) → stands_for UINT (Signed true n) ≡ (n == 0)
uint_minus zero = refl
uint_minus (suc m) = grind arith

pub ruleset int_laws = (int_plus, int_minus)

pub ruleset uint_laws = (uint_plus, uint_minus)
