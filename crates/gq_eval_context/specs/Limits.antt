-- Limits: how many vertices a LIMIT keeps.
use Rattle.std.specs.Prelude.{ℕ, ℤ}
use Rattle.gq_value.specs.declared.value.Wrong.{Wrong}
use Rattle.gq_rules_meaning.specs.Answers.{Answer, Gives, ◌>>=◌}
use Rattle.gq_rules_meaning.specs.Runs.{count_of}

-- from the value of its expression
abbrev pub most_of : Answer Wrong ℤ → Answer Wrong ℕ
most_of o = o >>= λ x. Gives (count_of x)
