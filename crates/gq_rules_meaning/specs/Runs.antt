-- Runs: the effects of statements, one after the other, with a bound on loop iterations.
use Rattle.std.specs.Prelude.{ℕ, zero, suc, Bool, true, false, List, [], ◌∷◌, ◌++◌, ℤ, pos, negsuc, Option, Some, None}
use Rattle.gq_rules_typing.specs.Tree.{Tree}
use Rattle.gq_value.specs.declared.value.Wrong.{Wrong}
use Rattle.gq_value.specs.Val.{Val}
use Rattle.gq_value.specs.Accums.{Base}
use Rattle.gq_rules_typing.specs.Selecting.{Change}
use Rattle.gq_rules_typing.specs.Statements.{Bytes, Stmt, Local, Assign, ChangeGlobal, If, While, Foreach, Print, Stmts, no_stmt, stmt_and, Branches, else_, if_}
use Rattle.gq_rules_meaning.specs.Answers.{Answer, Gives, Faults, ◌>>=◌, blaming, each, through}
use Rattle.gq_rules_meaning.specs.Expressions.{World, number_of, truth_of}
use Rattle.gq_rules_meaning.specs.States.{Variable, State, with_new, without_new, seen}
use Rattle.gq_rules_meaning.specs.Writes.{slots_changed}
use Rattle.gq_rules_meaning.specs.Outs.{Out}
use Rattle.gq_rules_meaning.specs.Printing.{printed}
use Rattle.gq_rules_meaning.specs.Statements.{Fault, Evaluation, LoopBound, of_write, base_of_tree, with_local, assigned, gone_over}

-- a state, the loop entries left, and the output: an object for each PRINT
pub record Running (N : Type 0) : Type 0 where
  pub state : State N
  pub turns : ℕ
  pub printed : List (List (Bytes × Out))

abbrev pub with_state : {N : Type 0} → State N → Running N → Running N
with_state s r = record r { state = s }

-- a body to run
abbrev pub Body : Type 0 → Type 0
Body N = Running N → Answer Fault (Running N)

-- the names of a body end with it
abbrev pub inner : {N : Type 0} → Body N → Body N
inner body r = body r >>= λ t. Gives (with_state (without_new r.state t.state) t)

-- each entry of a body counts against the bound
abbrev pub enter : {N : Type 0} → Body N → Body N
enter {N = N} body r = with_turns r.turns
  where
    with_turns : ℕ → Answer Fault (Running N)
    with_turns zero = Faults LoopBound
    with_turns (suc n) = inner body (record r { turns = n })

-- ---- WHILE

abbrev pub is_reached : Option ℕ → Bool
is_reached (Some zero) = true
is_reached limit = false

abbrev pub one_less : Option ℕ → Option ℕ
one_less (Some (suc n)) = Some n
one_less limit = limit

-- in each iteration first the limit is checked, then the condition, then the body runs; as each iteration counts,
-- there is at most one more than the entries left
abbrev pub rounds : {N : Type 0} → ℕ → Option ℕ → (Running N → Answer Fault Bool) → Body N → Body N
rounds zero limit condition body r = Faults LoopBound
rounds (suc n) limit condition body r =
    elim (is_reached limit) [
      | true ↦ Gives r
      | false ↦ condition r >>= elim [ true ↦ enter body r >>= rounds n (one_less limit) condition body | false ↦ Gives r ]
    ]

-- a negative limit counts as 0
abbrev pub count_of : ℤ → ℕ
count_of (pos n) = n
count_of (negsuc n) = 0

abbrev pub limit_of : {N : Type 0} → World N → State N → Option (Tree N) → Answer Wrong (Option ℕ)
limit_of world s None = Gives None
limit_of world s (Some t) = number_of (seen world s) t >>= λ n. Gives (Some (count_of n))

abbrev pub condition_of : {N : Type 0} → World N → Tree N → Running N → Answer Fault Bool
condition_of world t r = blaming Evaluation (truth_of (seen world r.state) t)

-- ---- FOREACH

abbrev pub for_each : {N : Type 0} → N → Body N → List (Base × Val) → Body N
for_each x body vs r = through (λ q v. enter (λ p. body (with_state (with_new x (Variable v.0 v.1) p.state) p)) q) r vs

-- ---- statements

abbrev pub locals : {N : Type 0} → World N → Base → List (N × Option (Tree N)) → Body N
locals world b xs r = blaming Evaluation (through (with_local world b) r.state xs) >>= λ s. Gives (with_state s r)

abbrev pub global_changed : {N : Type 0} → World N → N → Change N → Body N
global_changed world a change r = blaming of_write (slots_changed (seen world r.state) r.state.slots a 0 change) >>= λ slots. Gives (with_state (record (r.state) { slots = slots }) r)

abbrev mutual
  pub run : {N : Type 0} → World N → Stmt N → Body N
  run world (Local base xs) r = blaming Evaluation (base_of_tree world base) >>= λ b. locals world b xs r
  run world (Assign x types right) r = assigned world r.state x types right >>= λ s. Gives (with_state s r)
  run world (ChangeGlobal a change) r = global_changed world a change r
  run world (If branches) r = run_branches world branches r
  run world (While t limit body) r = blaming Evaluation (limit_of world r.state limit) >>= λ l. rounds (suc r.turns) l (condition_of world t) (run_all world body) r
  run world (Foreach x over body) r = blaming Evaluation (gone_over (seen world r.state) over) >>= λ vs. for_each x (run_all world body) vs r
  run world (Print ps) r = blaming Evaluation (each (printed world r.state) ps) >>= λ ms. Gives (record r { printed = r.printed ++ ms ∷ [] })

  pub run_all : {N : Type 0} → World N → Stmts N → Body N
  run_all world no_stmt r = Gives r
  run_all world (stmt_and s rest) r = run world s r >>= run_all world rest

  -- the first branch whose condition holds
  pub run_branches : {N : Type 0} → World N → Branches N → Body N
  run_branches world (else_ body) r = inner (run_all world body) r
  run_branches world (if_ t body rest) r = condition_of world t r >>= elim [ true ↦ inner (run_all world body) r | false ↦ run_branches world rest r ]
