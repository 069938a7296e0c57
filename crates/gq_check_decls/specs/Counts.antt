-- Counts: how many accumulators are visible.
use Rattle.std.specs.Prelude.{ℕ, length, filter}
use Rattle.gq_rules_typing.specs.Statements.{Bytes}
use Rattle.gq_rules_typing.specs.Scopes.{Scope}
use Rattle.gq_rules_typing.specs.QueryTypes.{is_accum}

abbrev pub accum_count : Scope Bytes → ℕ
accum_count s = length (filter is_accum s.names)
