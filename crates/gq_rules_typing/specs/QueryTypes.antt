-- QueryTypes: the typing rules of parameters, declarations and whole queries, in order of text.
use Rattle.std.specs.Prelude.{ℕ, Bool, true, false, nat_lt, List, [], ◌∷◌, ◌++◌, filter, length, Option, Some, None, Ok}
use Rattle.gq_tree.specs.Signed.{signed}
use Rattle.gq_tree.specs.Tree.{Tree}
use Rattle.gq_tree.specs.Number.TheVariants as number
use Rattle.gq_tree.specs.Arithmetic.{is_within}
use Rattle.gq_tree.specs.Accums.{Base, INT, UINT, BOOL, STRING, VERTEX_OF, Accum}
use Rattle.gq_rules_typing.specs.Statements.{Bytes, Definition, TupleType, Accums, Literal, Signed, Quoted, Truthful, Parameter, Query, QueryOver}
use Rattle.gq_rules_typing.specs.Sorts.{Fields, Sorts}
use Rattle.gq_rules_typing.specs.Words.{Setting, by_name}
use Rattle.gq_rules_typing.specs.Judging.{Mismatch, TooMany, BadKind, Judged, ◌>>=◌, ◌>>◌, unless, or_fault, through_judged}
use Rattle.gq_rules_typing.specs.Kinds.{set_type}
use Rattle.gq_rules_typing.specs.ExpressionTypes.{converting}
use Rattle.gq_rules_typing.specs.Scopes.{Entry, Variable, Accumulator, TupleName, InOpening, Scope, said, with_entry, new_name, names_at, base_written}
use Rattle.gq_rules_typing.specs.StatementTypes.{typing_stmts}
use Rattle.gq_rules_typing.specs.KindTypes.{fields_written, kind_written}

-- ---- parameters

-- whether a literal may be given for a type; a vertex is given by its id
abbrev pub stands_for : Base → Literal → Bool
stands_for INT (Signed minus n) = is_within number.Int (signed minus n)
stands_for UINT (Signed minus n) = is_within number.UInt (signed minus n)
stands_for BOOL (Truthful b) = true
stands_for STRING (Quoted said) = true
stands_for (VERTEX_OF t) (Signed minus n) = true
stands_for (VERTEX_OF t) (Quoted said) = true
stands_for b l = false

abbrev pub good_default : Base → Option Literal → Bool
good_default b None = true
good_default b (Some l) = stands_for b l

abbrev pub typing_parameter : {N : Type 0} → Scope N → Parameter N → Judged (Scope N)
typing_parameter s p = base_written s p.base >>= λ b. new_name s p.name >> unless Mismatch (good_default b p.default) >> Ok (with_entry p.name (Variable b) s)

-- ---- declarations

-- a tuple type has at most 16 fields, and is numbered by its place among those of its query
abbrev pub with_tuple : {N : Type 0} → N → Fields → Scope N → Scope N
with_tuple x fields s = with_entry x TupleName (record s { setting = record (s.setting) { tuples = s.setting.tuples ++ (x, fields) ∷ [] } })

abbrev pub is_accum : {N : Type 0} → N × Entry → Bool
is_accum e = of_entry e.1
  where
    of_entry : Entry → Bool
    of_entry (Accumulator k attached) = true
    of_entry _ = false

-- an opening is a value that `=` may set; it names only parameters
abbrev pub typing_opening : {N : Type 0} → Scope N → Bytes → Accum → Option (Tree N) → Judged Bool
typing_opening s a k None = Ok true
typing_opening s a k (Some t) = or_fault (BadKind a) (set_type k) >>= λ b. converting (names_at s InOpening) b t

-- at most 256 accumulators; each comes into view after its opening
abbrev pub typing_accum : {N : Type 0} → Accum → Scope N → Bool × N × Option (Tree N) → Judged (Scope N)
typing_accum k s a = new_name s a.1 >> unless TooMany (nat_lt (length (filter is_accum s.names)) 256) >> typing_opening s (said s a.1) k a.2 >> Ok (with_entry a.1 (Accumulator k a.0) s)

-- a bad kind of several accumulators names the first
abbrev pub first_name : {N : Type 0} → Scope N → List (Bool × N × Option (Tree N)) → Bytes
first_name s [] = []
first_name s (a ∷ rest) = said s a.1

abbrev pub typing_definition : {N K : Type 0} → (Scope N → Bytes → K → Judged Accum) → Scope N → Definition N K → Judged (Scope N)
typing_definition kinds s (TupleType fs x) = fields_written s 16 [] fs >>= λ fields. new_name s x >> Ok (with_tuple x fields s)
typing_definition kinds s (Accums k accums) = kinds s (first_name s accums) k >>= λ kind. through_judged (typing_accum kind) s accums

-- ---- queries

-- with a rule for what represents a kind
abbrev pub typing_over : {N K : Type 0} → (Scope N → Bytes → K → Judged Accum) → Setting N → QueryOver N K → Judged (Scope N)
typing_over kinds setting q =
    through_judged typing_parameter (record { setting = setting; names = []; with_paths = q.with_paths }) q.parameters >>= λ s.
    through_judged (typing_definition kinds) s q.definitions >>= λ s₁.
    typing_stmts s₁ q.statements

-- a query as written, for the types that it sees
abbrev pub typing_query : Sorts → Query Bytes → Judged (Scope Bytes)
typing_query sorts q = typing_over kind_written (record { words = by_name sorts; sorts = sorts; tuples = [] }) q
