-- FieldLemmas: the place of a name.
use Rattle.std.proofs.Common.{◌≡◌, List}
use Rattle.std.specs.Str.{bytes_eq}
use Rattle.std.specs.List.{position_from}
use Rattle.std.proofs.lemmas.Iterator.Adapters.{position_from-zero}
use Rattle.gq_rules_typing.specs.Statements.{Bytes}
use Rattle.gq_rules_typing.specs.Words.{place_of}

pub place_from : (names : List Bytes) (name : Bytes) → place_of names name ≡ position_from (bytes_eq name) 0 names
place_from names name = position_from-zero (bytes_eq name) names

pub ruleset place_laws = (place_from)
