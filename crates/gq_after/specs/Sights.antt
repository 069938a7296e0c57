-- Sights: what the expressions of a tail see, as the code iterates over the vertices.
use Rattle.std.specs.Prelude.{◌≡◌, ℕ, Bool, List, [], ◌∷◌, map, take, Option, Some, None}
use Rattle.gq_accum_laws.specs.Gather.{sorted}
use Rattle.gq_tree.specs.Tree.{Tree}
use Rattle.gq_rules_typing.specs.Selecting.{Select}
use Rattle.gq_rules_meaning.specs.Answers.{Answer, Gives, ◌>>=◌, each}
use Rattle.gq_rules_meaning.specs.Blocks.{BlockFault}
use Rattle.gq_rules_meaning.specs.Calendars.{Calendar}
use Rattle.gq_rules_meaning.specs.Expressions.{World, Look}
use Rattle.gq_rules_meaning.specs.Tails.{Ranked, passing, ranked, in_order, cut}
use Rattle.gq_plan_ir.specs.Reference.{Reference}
use Rattle.gq_frame.specs.declared.accums.Accums.{Accums}
use Rattle.gq_frame.specs.Names.{Placed}
use Rattle.gq_eval_context.specs.Viewed.{Over, viewed}
use Rattle.gq_eval_context.specs.Looks.{look_of}
use Rattle.gq_exec_source.specs.declared.ends.End.{End}
use Rattle.gq_exec_source.specs.Ends.{end_things}
use Rattle.gq_exec_contribute.specs.Prepared.{AreAllCells}
use Rattle.gq_exec_contribute.specs.declared.leaves.Leaves.{Leaves}

-- with no alias
abbrev pub plain_look : Calendar → Over → Accums → Look Reference
plain_look clock o accums = look_of clock (viewed o [] accums accums)

abbrev pub one_alias : Option (ℕ × Placed) → List (ℕ × Placed)
one_alias None = []
one_alias (Some a) = a ∷ []

-- with a vertex under the alias of an end
abbrev pub vertex_look : Calendar → Over → Accums → End → ℕ → Look Reference
vertex_look clock o accums end v = look_of clock (viewed o (one_alias (end_things end v)) accums accums)

-- a tail of these vertices, given what is seen of each of them, and without any
abbrev pub tail_of : {N : Type 0} → World N → (ℕ → Look N) → Look N → Select N → List ℕ → Answer BlockFault (List ℕ)
tail_of world look plain q vertices =
    passing look q.having vertices >>= λ vs.
    each (ranked look q.order) vs >>= λ rs.
    cut world plain q.limit (map (λ (r : Ranked). r.vertex) (sorted (in_order q.order) rs))

-- vertices in the order of their keys
abbrev pub ordered : {N : Type 0} → (ℕ → Look N) → List (Tree N × Bool) → List ℕ → Answer BlockFault (List ℕ)
ordered look order vs = each (ranked look order) vs >>= λ rs. Gives (map (λ (r : Ranked). r.vertex) (sorted (in_order order) rs))

-- all items, or the first `n`
abbrev pub first_of : Option ℕ → List ℕ → List ℕ
first_of None vs = vs
first_of (Some n) vs = take n vs

-- the leaves of a tail have the bindings of an end alone, and the slots of the accumulators
pub record ReadsEnd (l : Leaves) (end : End) (accums : Accums) : Type 0 where
  pub source : l.ends.now.source ≡ end
  pub edge : l.edge ≡ None
  pub cells : AreAllCells accums.slots l.cells
