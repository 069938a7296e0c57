-- RunLaws: typed statements are never stuck, and the state after them matches their scope.
use Rattle.std.proofs.Common.{◌≡◌, ℕ, zero, suc, Bool, true, false, List, [], ◌∷◌, Option, Some, None, Ok, refl, ap, sym, ◌∙◌, subst}
use Rattle.gq_tree.specs.Tree.{Tree}
use Rattle.gq_value.specs.Val.{Val}
use Rattle.gq_value.specs.Accums.{Base, Accum}
use Rattle.gq_rules_typing.specs.Selecting.{Change, Adds, Puts}
use Rattle.gq_rules_typing.specs.Statements.{Bytes, SetTypes, Right, Printed, Stmt, Local, Assign, ChangeGlobal, If, While, Foreach, Print, Stmts, no_stmt, stmt_and, Branches, else_, if_}
use Rattle.gq_rules_typing.specs.Judging.{◌>>◌, through_judged}
use Rattle.gq_rules_typing.specs.ExpressionTypes.{condition, number}
use Rattle.gq_rules_typing.specs.Scopes.{Scope, entry, with_entry, new_name, declared_kind, base_written}
use Rattle.gq_rules_typing.specs.Scopes as scopes
use Rattle.gq_rules_typing.specs.SelectTypes.{optional}
use Rattle.gq_rules_typing.specs.SetTypes.{here, typing_assignment}
use Rattle.gq_rules_typing.specs.StatementTypes.{typing_change, variable_type, typing_printed, typing_stmt, typing_stmts, typing_branches}
use Rattle.gq_rules_meaning.specs.Answers.{Answer, Gives, Faults, Stuck, blaming, each, through}
use Rattle.gq_rules_meaning.specs.Answers as answers
use Rattle.gq_rules_meaning.specs.Expressions.{World, setting, truth_of, number_of}
use Rattle.gq_rules_meaning.specs.States.{Slot, State, Variable, with_new, seen}
use Rattle.gq_rules_meaning.specs.Writes.{slots_changed}
use Rattle.gq_rules_meaning.specs.Outs.{Out}
use Rattle.gq_rules_meaning.specs.Printing.{printed}
use Rattle.gq_rules_meaning.specs.Statements.{Fault, Evaluation, of_write, with_local, assigned, gone_over}
use Rattle.gq_rules_meaning.specs.Runs.{Running, with_state, Body, inner, enter, is_reached, one_less, rounds, limit_of, condition_of, for_each, locals, global_changed, run, run_all, run_branches}
use Rattle.gq_rules_meaning.specs.Fitting.{Safe}
use Rattle.gq_rules_meaning.specs.StateFits.{AllOf}
use Rattle.gq_rules_meaning.proofs.AnswerLaws.{safe_then, safe_with, safe_blaming, then_ok, after_ok, ok_inj}
use Rattle.gq_rules_meaning.proofs.LookLaws.{declared_entry}
use Rattle.gq_rules_safety.specs.Matching.{WordsFit, StateIs}
use Rattle.gq_rules_safety.proofs.NameLaws.{Grows, grows_same, grows_then, grows_new, Behind, behind_same, behind_then, new_behind, body_ends}
use Rattle.gq_rules_safety.proofs.ValueLaws.{condition_safe, number_of_safe}
use Rattle.gq_rules_safety.proofs.SlotLaws.{Keeps, keeps_names}
use Rattle.gq_rules_safety.proofs.WriteLaws.{typed_change, change_safe}
use Rattle.gq_rules_safety.proofs.LocalLaws.{new_none, written_base, here_fits, locals_safe, locals_grow, IsOf, gone_safe}

module _ {N : Type 0} (world : World N) (words : WordsFit world) where
  -- after a run from a scope to a scope
  abbrev pub Ran : Scope N → Scope N → Running N → Running N → Type 0
  Ran s t r q = Behind world words s t r.state q.state

  abbrev pub IsSafe : Scope N → Scope N → Body N → Type 0
  IsSafe s t body = (r : Running N) → StateIs world s r.state → Safe (Ran s t r) (body r)

  -- other accumulators that keep fitting
  pub slots_behind : (s : Scope N) (state : State N) (slots : List (Slot N)) → StateIs world s state → Keeps world state.slots slots → Behind world words s s state (record state { slots = slots })
  slots_behind s state slots h k = record {
    is = record { fits = keeps_names world s state.names state.slots slots k h.fits; alone = h.alone };
    extends = record { news = []; keys = refl; new = tt };
  }

  -- ---- bodies

  inner_safe : (s t : Scope N) (body : Body N) → Grows s t → IsSafe s t body → IsSafe s s (inner body)
  inner_safe s t body g f r h = safe_then (Ran s t r) (Ran s s r) (body r) _ (f r h) (λ q k. body_ends world words s t r.state q.state g h k)

  enter_safe : (s t : Scope N) (body : Body N) → Grows s t → IsSafe s t body → IsSafe s s (enter body)
  enter_safe s t body g f r h = go r.turns
    where
      with_turns : ℕ → Answer Fault (Running N)
      with_turns zero = Faults Fault.LoopBound
      with_turns (suc n) = inner body (record r { turns = n })

      go : (n : ℕ) → Safe (Ran s s r) (with_turns n)
      go zero = tt
      go (suc n) = inner_safe s t body g f (record r { turns = n }) h

  then_runs : (s t u : Scope N) (o : Answer Fault (Running N)) (next : Body N) (r : Running N) → Grows s t → Safe (Ran s t r) o → IsSafe t u next → Safe (Ran s u r) (answers.◌>>=◌ o next)
  then_runs s t u o next r g h k = safe_then (Ran s t r) (Ran s u r) o next h (λ q f. safe_with (Ran t u q) (Ran s u r) (next q) (k q f.is) (λ p l. behind_then world words s t u r.state q.state p.state g f l))

  rounds_safe : (s t : Scope N) (body : Body N) (holds : Running N → Answer Fault Bool) → Grows s t → IsSafe s t body → ((r : Running N) → StateIs world s r.state → Safe (λ (b : Bool). Unit {0}) (holds r)) → (n : ℕ) (limit : Option ℕ) → IsSafe s s (rounds n limit holds body)
  rounds_safe s t body holds g f c zero limit r h = tt
  rounds_safe s t body holds g f c (suc n) limit r h = go (is_reached limit) (rounds_safe s t body holds g f c n (one_less limit))
    where
      again : (b : Bool) → IsSafe s s (rounds n (one_less limit) holds body) → Safe (Ran s s r) (elim b [ true ↦ answers.◌>>=◌ (enter body r) (rounds n (one_less limit) holds body) | false ↦ Gives r ])
      again true rest = then_runs s s s (enter body r) (rounds n (one_less limit) holds body) r (grows_same s) (enter_safe s t body g f r h) rest
      again false rest = behind_same world words s r.state h

      go : (b : Bool) → IsSafe s s (rounds n (one_less limit) holds body)
          → Safe (Ran s s r) (elim b [ true ↦ Gives r | false ↦ answers.◌>>=◌ (holds r) (λ b. elim b [ true ↦ answers.◌>>=◌ (enter body r) (rounds n (one_less limit) holds body) | false ↦ Gives r ]) ])
      go true rest = behind_same world words s r.state h
      go false rest = safe_then (λ (b : Bool). Unit {0}) (Ran s s r) (holds r) _ (c r h) (λ b u. again b rest)

  -- each value one after the other, under a new name
  each_safe : (s t : Scope N) (x : N) (b : Base) (body : Body N) → entry s x ≡ None → Grows s (with_entry x (scopes.Variable b) s) → Grows (with_entry x (scopes.Variable b) s) t → IsSafe (with_entry x (scopes.Variable b) s) t body
      → (vs : List (Base × Val)) → AllOf (IsOf world words b) vs → IsSafe s s (for_each x body vs)
  each_safe s t x b body n g k f [] a r h = behind_same world words s r.state h
  each_safe s t x b body n g k f (v ∷ vs) a r h =
      then_runs s s s (enter (λ p. body (with_state (with_new x (Variable v.0 v.1) p.state) p)) r) (for_each x body vs) r (grows_same s)
      (enter_safe s t (λ p. body (with_state (with_new x (Variable v.0 v.1) p.state) p)) (grows_then s (with_entry x (scopes.Variable b) s) t g k) one r h) (each_safe s t x b body n g k f vs a.1)
    where
      one : IsSafe s t (λ p. body (with_state (with_new x (Variable v.0 v.1) p.state) p))
      one p i =
          let w = new_behind world words s p.state x (scopes.Variable b) (Variable v.0 v.1) i n refl a.0 in
          safe_with (Ran (with_entry x (scopes.Variable b) s) t (with_state (with_new x (Variable v.0 v.1) p.state) p)) (Ran s t p) _ (f (with_state (with_new x (Variable v.0 v.1) p.state) p) w.is)
          (λ q l. behind_then world words s (with_entry x (scopes.Variable b) s) t p.state (with_new x (Variable v.0 v.1) p.state) q.state g w l)

  -- ---- what statements rely on

  condition_holds : (s : Scope N) (t : Tree N) (q : Bool) → condition (here s) t ≡ Ok q → (r : Running N) → StateIs world s r.state → Safe (λ (b : Bool). Unit {0}) (condition_of world t r)
  condition_holds s t q e r h = safe_blaming (λ (b : Bool). Unit {0}) Evaluation (truth_of (seen world r.state) t) (condition_safe (here s) (seen world r.state) (here_fits world words s r.state h) t q e)

  limit_safe : (s : Scope N) (limit : Option (Tree N)) (q : Bool) (state : State N) → optional (number (here s)) limit ≡ Ok q → StateIs world s state → Safe (λ (n : Option ℕ). Unit {0}) (limit_of world state limit)
  limit_safe s None q state e h = tt
  limit_safe s (Some t) q state e h =
      let u = after_ok (number (here s) t) (Ok true) q e in
      safe_then (λ (n : _). Unit {0}) (λ (n : Option ℕ). Unit {0}) (number_of (seen world state) t) _ (number_of_safe (here s) (seen world state) (here_fits world words s state h) t u.0.0 u.0.1) (λ n k. tt)

  abbrev pub AssignSafe : Type 0
  AssignSafe = (s t : Scope N) (state : State N) (x : N) (types : Option (SetTypes N)) (right : Right N) → StateIs world s state → typing_assignment s x types right ≡ Ok t → Safe (Behind world words s t state) (assigned world state x types right)

  abbrev pub AssignGrows : Type 0
  AssignGrows = (s t : Scope N) (x : N) (types : Option (SetTypes N)) (right : Right N) → s.setting ≡ setting world → typing_assignment s x types right ≡ Ok t → Grows s t

  abbrev pub PrintSafe : Type 0
  PrintSafe = (s : Scope N) (state : State N) (known keys : List Bytes) (p : Printed N) → StateIs world s state → typing_printed s known p ≡ Ok keys → Safe (λ (m : Bytes × Out). Unit {0}) (printed world state p)

  module _ (assign_safe : AssignSafe) (assign_grows : AssignGrows) (print_safe : PrintSafe) where
    prints_safe : (s : Scope N) (state : State N) (ps : List (Printed N)) (known keys : List Bytes) → StateIs world s state → through_judged (typing_printed s) known ps ≡ Ok keys → Safe (λ (ms : List (Bytes × Out)). Unit {0}) (each (printed world state) ps)
    prints_safe s state [] known keys h e = tt
    prints_safe s state (p ∷ ps) known keys h e =
        let u = then_ok (typing_printed s known p) _ keys e in
        safe_then (λ (m : Bytes × Out). Unit {0}) (λ (ms : List (Bytes × Out)). Unit {0}) (printed world state p) _ (print_safe s state known u.0 p h u.1)
        (λ m f. safe_then (λ (ms : List (Bytes × Out)). Unit {0}) (λ (ms : List (Bytes × Out)). Unit {0}) (each (printed world state) ps) _ (prints_safe s state ps u.0 keys h u.2) (λ ms g. tt))

    -- ---- scopes after statements

    mutual
      pub stmt_grows : (st : Stmt N) (s t : Scope N) → s.setting ≡ setting world → typing_stmt s st ≡ Ok t → Grows s t
      stmt_grows (Local base xs) s t z e = let b = then_ok (base_written s base) _ t e in locals_grow world words b.0 xs s t z b.2
      stmt_grows (Assign x types right) s t z e = assign_grows s t x types right z e
      stmt_grows (ChangeGlobal a change) s t z e = let k = then_ok (declared_kind s false a) _ t e in let u = after_ok (typing_change s k.0 change) (Ok s) t k.2 in subst (Grows s) (ok_inj u.1) (grows_same s)
      stmt_grows (If branches) s t z e = let u = after_ok (typing_branches s branches) (Ok s) t e in subst (Grows s) (ok_inj u.1) (grows_same s)
      stmt_grows (While c limit body) s t z e = let u = after_ok (condition (here s) c >> optional (number (here s)) limit >> typing_stmts s body) (Ok s) t e in subst (Grows s) (ok_inj u.1) (grows_same s)
      stmt_grows (Foreach x over body) s t z e =
          let b = then_ok (new_name s x >> variable_type (here s) over) _ t e in
          let u = after_ok (typing_stmts (with_entry x (scopes.Variable b.0) s) body) (Ok s) t b.2 in subst (Grows s) (ok_inj u.1) (grows_same s)
      stmt_grows (Print ps) s t z e = let u = after_ok (through_judged (typing_printed s) [] ps) (Ok s) t e in subst (Grows s) (ok_inj u.1) (grows_same s)

      pub stmts_grow : (body : Stmts N) (s t : Scope N) → s.setting ≡ setting world → typing_stmts s body ≡ Ok t → Grows s t
      stmts_grow no_stmt s t z e = subst (Grows s) (ok_inj e) (grows_same s)
      stmts_grow (stmt_and st rest) s t z e = let u = then_ok (typing_stmt s st) _ t e in let g = stmt_grows st s u.0 z u.1 in grows_then s u.0 t g (stmts_grow rest u.0 t (g.setting ∙ z) u.2)

    -- ---- statements

    global_safe : (s : Scope N) (a : N) (k : Accum) (change : Change N) (q : Bool) → declared_kind s false a ≡ Ok k → typing_change s k change ≡ Ok q → IsSafe s s (global_changed world a change)
    global_safe s a k change q d e r h =
        safe_then (Keeps world r.state.slots) (Ran s s r) (blaming of_write (slots_changed (seen world r.state) r.state.slots a 0 change)) _
        (safe_blaming (Keeps world r.state.slots) of_write (slots_changed (seen world r.state) r.state.slots a 0 change)
        (change_safe (here s) (seen world r.state) (here_fits world words s r.state h) r.state.slots a k false 0 change q (h.fits.accum a k false (declared_entry world s false a k d)) (typed change e)))
        (λ slots k. slots_behind s r.state slots h k)
      where
        typed : (change : Change N) → typing_change s k change ≡ Ok q → typed_change (here s) k change ≡ Ok q
        typed (Adds x) e = e
        typed (Puts t) e = e

    mutual
      pub run_safe : (st : Stmt N) (s t : Scope N) → typing_stmt s st ≡ Ok t → IsSafe s t (run world st)
      run_safe (Local base xs) s t e r h =
          let b = then_ok (base_written s base) _ t e in let w = written_base world s base b.0 h.fits.setting b.1 in
          subst (λ o. Safe (Ran s t r) (answers.◌>>=◌ (blaming Evaluation o) (λ b. locals world b xs r))) (sym w.0)
          (safe_then (Behind world words s t r.state) (Ran s t r) (blaming Evaluation (through (with_local world b.0) r.state xs)) _
          (safe_blaming (Behind world words s t r.state) Evaluation (through (with_local world b.0) r.state xs) (locals_safe world words b.0 w.1 xs s t r.state h.fits.setting b.2 h)) (λ c k. k))
      run_safe (Assign x types right) s t e r h = safe_then (Behind world words s t r.state) (Ran s t r) (assigned world r.state x types right) _ (assign_safe s t r.state x types right h e) (λ c k. k)
      run_safe (ChangeGlobal a change) s t e r h =
          let k = then_ok (declared_kind s false a) _ t e in let u = after_ok (typing_change s k.0 change) (Ok s) t k.2 in
          subst (λ t. Safe (Ran s t r) (global_changed world a change r)) (ok_inj u.1) (global_safe s a k.0 change u.0.0 k.1 u.0.1 r h)
      run_safe (If branches) s t e r h =
          let u = after_ok (typing_branches s branches) (Ok s) t e in subst (λ t. Safe (Ran s t r) (run_branches world branches r)) (ok_inj u.1) (branches_safe branches s u.0.0 u.0.1 r h)
      run_safe (While c limit body) s t e r h =
          let u = after_ok (condition (here s) c >> optional (number (here s)) limit >> typing_stmts s body) (Ok s) t e in
          let v = after_ok (condition (here s) c >> optional (number (here s)) limit) (typing_stmts s body) u.0.0 u.0.1 in
          let w = after_ok (condition (here s) c) (optional (number (here s)) limit) v.0.0 v.0.1 in
          subst (λ t. Safe (Ran s t r) (run world (While c limit body) r)) (ok_inj u.1)
          (safe_then (λ (n : Option ℕ). Unit {0}) (Ran s s r) (blaming Evaluation (limit_of world r.state limit)) _
          (safe_blaming (λ (n : Option ℕ). Unit {0}) Evaluation (limit_of world r.state limit) (limit_safe s limit v.0.0 r.state w.1 h))
          (λ n k. rounds_safe s u.0.0 (run_all world body) (condition_of world c) (stmts_grow body s u.0.0 h.fits.setting v.1) (runs_safe body s u.0.0 v.1) (condition_holds s c w.0.0 w.0.1) (suc r.turns) n r h))
      run_safe (Foreach x over body) s t e r h =
          let b = then_ok (new_name s x >> variable_type (here s) over) _ t e in
          let u = after_ok (typing_stmts (with_entry x (scopes.Variable b.0) s) body) (Ok s) t b.2 in
          let v = after_ok (new_name s x) (variable_type (here s) over) b.0 b.1 in
          let n = new_none s x v.0.0 v.0.1 in
          let g = grows_new world words s x (scopes.Variable b.0) (ap (λ z. z.words.same) h.fits.setting) n in
          subst (λ t. Safe (Ran s t r) (run world (Foreach x over body) r)) (ok_inj u.1)
          (safe_then (AllOf (IsOf world words b.0)) (Ran s s r) (blaming Evaluation (gone_over (seen world r.state) over)) _
          (safe_blaming (AllOf (IsOf world words b.0)) Evaluation (gone_over (seen world r.state) over) (gone_safe world words s r.state over b.0 h v.1))
          (λ vs a. each_safe s u.0.0 x b.0 (run_all world body) n g (stmts_grow body (with_entry x (scopes.Variable b.0) s) u.0.0 h.fits.setting u.0.1) (runs_safe body (with_entry x (scopes.Variable b.0) s) u.0.0 u.0.1) vs a r h))
      run_safe (Print ps) s t e r h =
          let u = after_ok (through_judged (typing_printed s) [] ps) (Ok s) t e in
          subst (λ t. Safe (Ran s t r) (run world (Print ps) r)) (ok_inj u.1)
          (safe_then (λ (ms : List (Bytes × Out)). Unit {0}) (Ran s s r) (blaming Evaluation (each (printed world r.state) ps)) _
          (safe_blaming (λ (ms : List (Bytes × Out)). Unit {0}) Evaluation (each (printed world r.state) ps) (prints_safe s r.state ps [] u.0.0 h u.0.1))
          (λ ms k. behind_same world words s r.state h))

      pub runs_safe : (body : Stmts N) (s t : Scope N) → typing_stmts s body ≡ Ok t → IsSafe s t (run_all world body)
      runs_safe no_stmt s t e r h = subst (λ t. Ran s t r r) (ok_inj e) (behind_same world words s r.state h)
      runs_safe (stmt_and st rest) s t e r h =
          let u = then_ok (typing_stmt s st) _ t e in
          then_runs s u.0 t (run world st r) (run_all world rest) r (stmt_grows st s u.0 h.fits.setting u.1) (run_safe st s u.0 u.1 r h) (runs_safe rest u.0 t u.2)

      branches_safe : (branches : Branches N) (s : Scope N) (q : Bool) → typing_branches s branches ≡ Ok q → IsSafe s s (run_branches world branches)
      branches_safe (else_ body) s q e r h =
          let u = after_ok (typing_stmts s body) (Ok true) q e in inner_safe s u.0.0 (run_all world body) (stmts_grow body s u.0.0 h.fits.setting u.0.1) (runs_safe body s u.0.0 u.0.1) r h
      branches_safe (if_ c body rest) s q e r h =
          let u = after_ok (condition (here s) c >> typing_stmts s body) (typing_branches s rest) q e in
          let v = after_ok (condition (here s) c) (typing_stmts s body) u.0.0 u.0.1 in
          safe_then (λ (b : Bool). Unit {0}) (Ran s s r) (condition_of world c r) _ (condition_holds s c v.0.0 v.0.1 r h)
          (elim [ true ↦ λ k. inner_safe s u.0.0 (run_all world body) (stmts_grow body s u.0.0 h.fits.setting v.1) (runs_safe body s u.0.0 v.1) r h | false ↦ λ k. branches_safe rest s q u.1 r h ])
