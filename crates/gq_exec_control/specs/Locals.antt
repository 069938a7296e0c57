-- Locals: declarations of a body, and the types that they name.
use Rattle.std.specs.Prelude.{◌≡◌, ℕ, true, false, List, Option}
use Rattle.std.specs.List.{list_any}
use Rattle.std.specs.Prelude.{◌==◌}
use Rattle.gq_tree.specs.Tree.{Tree}
use Rattle.gq_value.specs.Accums.{Base, INT, UINT, BOOL, STRING, VERTEX, VERTEX_OF}
use Rattle.gq_rules_typing.specs.Statements.{BaseTree}
use Rattle.gq_rules_meaning.specs.Answers.{◌>>=◌, blaming, through}
use Rattle.gq_rules_meaning.specs.Expressions.{World}
use Rattle.gq_rules_meaning.specs.Statements.{Evaluation, base_of_tree, with_local}
use Rattle.gq_plan_ir.specs.declared.plan.Declared.{Declared}
use Rattle.gq_plan_ir.specs.declared.plan.Declared.TheVariants as declared
use Rattle.gq_plan_ir.specs.Reference.{Reference}
use Rattle.gq_exec_control.specs.Changes.{Change}

-- declares the variables of a declaration, with the type that it names
abbrev pub declared_all : World Reference → BaseTree Reference → List (Reference × Option (Tree Reference)) → Change
declared_all world base xs s = blaming Evaluation (base_of_tree world base) >>= λ b. blaming Evaluation (through (with_local world b) s xs)

abbrev pub declared_one : World Reference → Base → Reference × Option (Tree Reference) → Change
declared_one world b x s = blaming Evaluation (with_local world b s x)

abbrev pub base_declared : Declared → Base
base_declared declared.Int = INT
base_declared declared.UInt = UINT
base_declared declared.Bool = BOOL
base_declared declared.Text = STRING
base_declared declared.AnyVertex = VERTEX
base_declared (declared.VertexOf t) = VERTEX_OF t

-- a declared vertex type is one of the graph
abbrev pub IsKnown : List ℕ → Declared → Type 0
IsKnown own (declared.VertexOf t) = list_any (λ m. m == t) own ≡ true
IsKnown own d = Unit {0}

-- it isn't
abbrev pub IsUnknown : List ℕ → Declared → Type 0
IsUnknown own (declared.VertexOf t) = list_any (λ m. m == t) own ≡ false
IsUnknown own d = ⊥
