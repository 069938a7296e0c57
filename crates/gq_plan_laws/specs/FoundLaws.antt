-- Laws: the references found for names denote what the names denote.
use Rattle.std.specs.Prelude.{List}
use Rattle.gq_scope.specs.Named.{Named}
use Rattle.gq_rules_typing.specs.Statements.{Bytes}
use Rattle.gq_rules_meaning.specs.Calendars.{Calendar}
use Rattle.gq_rules_meaning.specs.Graphs.{Graph}
use Rattle.gq_plan_ir.specs.Alike.{WordsAlike}
use Rattle.gq_plan_expr.specs.Found.{TupleTypes}
use Rattle.gq_plan_laws.specs.Sides.{sides_of}

-- references represent names
abbrev pub FoundLaw : Type 0
FoundLaw = (g : Graph) (clock : Calendar) (ts : TupleTypes) (accums : List Bytes) (slots : Named) → WordsAlike (sides_of g clock ts accums slots)
