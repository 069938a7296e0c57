-- Wide: numbers of 128 bits as two words.
use Rattle.std.specs.Prelude.{ℕ, ◌+◌, ◌*◌, ◌^◌, ℤ}
use Rattle.std.specs.Int.{w128, cast_signed}
use Rattle.gq_accum.specs.declared.wide.Sum.{Sum}
use Rattle.gq_accum.specs.declared.wide.Count.{Count}

-- both words as one number
abbrev pub count_of : Count → ℕ
count_of c = c.high * 2 ^ 64 + c.low

-- the same for a signed number, by its bits
abbrev pub sum_of : Sum → ℤ
sum_of s = cast_signed w128 (s.high * 2 ^ 64 + s.low)
