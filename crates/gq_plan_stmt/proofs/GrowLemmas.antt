-- GrowLemmas: new names are added in front, so truncating to the former number restores the former names.
use Rattle.std.proofs.Common.{◌≡◌, ◌≤◌, ◌-◌, ℕ, Bool, true, false, List, [], ◌∷◌, ◌++◌, length, drop, arith, Option, Some, None, refl, sym, ap, ◌∙◌}
use Rattle.std.proofs.Math.Seq.{drop-append_seam}
use Rattle.std.proofs.lemmas.List.{length-append}
use Rattle.gq_scope.specs.declared.places.NameBinding.{NameBinding}
use Rattle.gq_scope.specs.Named.{Named, seen_at, with_name, kept}
use Rattle.gq_rules_typing.specs.Statements as plain
use Rattle.gq_rules_typing.specs.Statements.{Bytes, Stmt, Local, Assign, ChangeGlobal, If, While, Foreach, Print, Stmts, no_stmt, stmt_and, Branches, else_, if_}
use Rattle.gq_rules_typing.specs.Selecting.{Select}
use Rattle.gq_rules_typing.specs.Patterns.{edge_alias, target_alias}
use Rattle.gq_tree.specs.Tree.{Tree}
use Rattle.gq_plan_ir.specs.declared.expr.Expr.{Expr}
use Rattle.gq_plan_ir.specs.declared.step.Step.{Step}
use Rattle.gq_plan_expr.specs.Resolved.{◌>>=◌, resolved}
use Rattle.gq_plan_expr.proofs.PlanLaws.{then_some, some_inj}
use Rattle.gq_plan_select.specs.Resolved.{if_there, each_resolved, resolved_change, resolved_select}
use Rattle.gq_plan_expr.specs.Globals.{Globals, known_in, sees_in}
use Rattle.gq_plan_stmt.specs.Parts.{resolved_base, resolved_sets, resolved_set_types, is_set_right, resolved_over, resolved_item}
use Rattle.gq_plan_stmt.specs.Steps.{Behind, Parts, when_new, new_name, ended, with_alias, with_aliases, resolved_block, resolved_right, same_mark, if_same, target_seen, resolved_target, resolved_locals, resolved_stmt, resolved_stmts, resolved_branches, else_of, body_of}
use Rattle.gq_plan_stmt.specs.Laws.{Grows}

pub grows_none : (n m : Named) → m.visible ≡ n.visible → Grows n m
grows_none n m e = record { more = []; is = e }

append_assoc : {A : Type 0} (xs ys zs : List A) → xs ++ (ys ++ zs) ≡ (xs ++ ys) ++ zs
append_assoc [] ys zs = refl
append_assoc (x ∷ xs) ys zs = ap (λ l. x ∷ l) (append_assoc xs ys zs)

pub grows_twice : (n m o : Named) → Grows n m → Grows m o → Grows n o
grows_twice n m o g h = record { more = h.more ++ g.more; is = h.is ∙ (ap (λ l. h.more ++ l) g.is ∙ append_assoc h.more g.more n.visible) }

-- the names in view after what is planned
pub same_behind : {A : Type 0} (n m : Named) (a b : A) → ◌≡◌ {A = Option (Behind A)} (Some (n, a)) (Some (m, b)) → n ≡ m
same_behind n m a b h = ap (λ (p : Behind _). p.0) (some_inj h)

grows_same : {A : Type 0} (n : Named) (a : A) (b : Behind A) → ◌≡◌ {A = Option (Behind A)} (Some (n, a)) (Some b) → Grows n b.0
grows_same n a b h = grows_none n b.0 (ap (λ (p : Behind _). p.0.visible) (sym (some_inj h)))

pub new_grows : (n : Named) (x : Bytes) (b : Behind ℕ) → new_name n x ≡ Some b → Grows n b.0
new_grows n x b h = go (seen_at n x) h
  where
    go : (o : Option NameBinding) → when_new o (with_name n x false, n.next) ≡ Some b → Grows n b.0
    go None e = record { more = (x, record { place = n.next; marked = false }) ∷ []; is = ap (λ (p : Behind ℕ). p.0.visible) (sym (some_inj e)) }
    go (Some s) e = cc

alias_grows : (n : Named) (x : Option Bytes) (m : Named) → with_alias n x ≡ Some m → Grows n m
alias_grows n None m h = grows_none n m (ap (λ (p : Named). p.visible) (sym (some_inj h)))
alias_grows n (Some x) m h =
    let u = then_some (new_name n x) _ m h in
    let g = new_grows n x u.0 u.1 in
    record { more = g.more; is = ap (λ (p : Named). p.visible) (sym (some_inj u.2)) ∙ g.is }

pub aliases_grow : (n : Named) (q : Select Bytes) (m : Named) → with_aliases n q ≡ Some m → Grows n m
aliases_grow n q m h =
    let u = then_some (with_alias n q.alias) _ m h in
    let v = then_some (with_alias u.0 (edge_alias q.walk)) _ m u.2 in
    grows_twice n u.0 m (alias_grows n q.alias u.0 u.1) (grows_twice u.0 v.0 m (alias_grows u.0 (edge_alias q.walk) v.0 v.1) (alias_grows v.0 (target_alias q.walk) m v.2))

right_grows : (g : Globals) (n : Named) (r : plain.Right Bytes) (b : Behind _) → resolved_right g n r ≡ Some b → Grows n b.0
right_grows g n (plain.Selects q) b h =
    let u = then_some (resolved_block g n q) _ b h in
    let v = then_some (with_aliases n q) _ u.0 u.1 in
    let w = then_some (resolved_select (known_in g v.0) (sees_in g v.0) q) _ u.0 v.2 in
    grows_none n b.0 (ap (λ (p : Behind _). p.0.visible) (sym (some_inj u.2)) ∙ ap (λ (p : Behind _). p.0.visible) (sym (some_inj w.2)))
right_grows g n (plain.Sets t rest) b h = let u = then_some (resolved_sets g n t rest) _ b h in grows_same n _ b u.2
right_grows g n (plain.Expression t) b h = let u = then_some (resolved (known_in g n) t) _ b h in grows_same n _ b u.2

same_grows : (q : Bool) (n m : Named) (p : ℕ) (b : Behind ℕ) → Grows n m → if_same q (m, p) ≡ Some b → Grows n b.0
same_grows true n m p b g h = record { more = g.more; is = ap (λ (p : Behind ℕ). p.0.visible) (sym (some_inj h)) ∙ g.is }
same_grows false n m p b g h = cc

target_grows : (n : Named) (x : Bytes) (set : Bool) (b : Behind ℕ) → resolved_target n x set ≡ Some b → Grows n b.0
target_grows n x set b h = go (seen_at n x) h
  where
    go : (o : Option NameBinding) → target_seen o n x set ≡ Some b → Grows n b.0
    go (Some s) e = same_grows (same_mark s.marked set) n n s.place b (grows_none n n refl) e
    go None e = same_grows set n (with_name n x true) n.next b (record { more = (x, record { place = n.next; marked = true }) ∷ []; is = refl }) e

locals_grow : (g : Globals) (n : Named) (xs : List (Bytes × Option (Tree Bytes))) (b : Behind (List (ℕ × Option Expr))) → resolved_locals g n xs ≡ Some b → Grows n b.0
locals_grow g n [] b h = grows_same n [] b h
locals_grow g n (x ∷ xs) b h =
    let u = then_some (if_there (resolved (known_in g n)) x.1) _ b h in
    let v = then_some (new_name n x.0) _ b u.2 in
    let w = then_some (resolved_locals g v.0.0 xs) _ b v.2 in
    let i = grows_twice n v.0.0 w.0.0 (new_grows n x.0 v.0 v.1) (locals_grow g v.0.0 xs w.0 w.1) in
    record { more = i.more; is = ap (λ (p : Behind (List (ℕ × Option Expr))). p.0.visible) (sym (some_inj w.2)) ∙ i.is }

pub body_grows : (n : Named) (o : Option (Behind (List Step))) (b : Behind (List Step)) → body_of n o ≡ Some b → b.0.visible ≡ n.visible
body_grows n o b h = let u = then_some o _ b h in ap (λ (p : Behind (List Step)). p.0.visible) (sym (some_inj u.2))

-- what follows keeps the names in view
moved : {A B : Type 0} (n : Named) (o : Option (Behind A)) (f : Behind A → Behind B) (b : Behind B) → ((a : Behind A) → (f a).0 ≡ a.0) → ((a : Behind A) → o ≡ Some a → Grows n a.0) → (o >>= λ a. Some (f a)) ≡ Some b → Grows n b.0
moved n o f b same grows h =
    let u = then_some o _ b h in
    let i = grows u.0 u.1 in
    record { more = i.more; is = ap (λ (p : Behind _). p.0.visible) (sym (some_inj u.2)) ∙ (ap (λ (p : Named). p.visible) (same u.0) ∙ i.is) }

else_same : (n : Named) (body : Stmts Bytes) (o : Option (Behind (List Step))) (b : Behind (Option (List Step))) → ((c : Behind (List Step)) → o ≡ Some c → c.0.visible ≡ n.visible) → else_of n body o ≡ Some b → b.0.visible ≡ n.visible
else_same n no_stmt o b same h = ap (λ (p : Behind (Option (List Step))). p.0.visible) (sym (some_inj h))
else_same n (stmt_and s rest) o b same h = let u = then_some o _ b h in ap (λ (p : Behind (Option (List Step))). p.0.visible) (sym (some_inj u.2)) ∙ same u.0 u.1

mutual
  pub stmt_grows : (g : Globals) (n : Named) (s : Stmt Bytes) (b : Behind Step) → resolved_stmt g n s ≡ Some b → Grows n b.0
  stmt_grows g n (Local d xs) b h =
      let u = then_some (resolved_base g d) _ b h in
      moved n (resolved_locals g n xs) _ b (λ a. refl) (locals_grow g n xs) u.2
  stmt_grows g n (Assign x types r) b h =
      let u = then_some (if_there (resolved_set_types g) types) _ b h in
      let v = then_some (resolved_right g n r) _ b u.2 in
      let w = then_some (resolved_target v.0.0 x (is_set_right n r)) _ b v.2 in
      let i = grows_twice n v.0.0 w.0.0 (right_grows g n r v.0 v.1) (target_grows v.0.0 x (is_set_right n r) w.0 w.1) in
      record { more = i.more; is = ap (λ (p : Behind Step). p.0.visible) (sym (some_inj w.2)) ∙ i.is }
  stmt_grows g n (ChangeGlobal a c) b h =
      let u = then_some (g.slot a) _ b h in
      let v = then_some (resolved_change (known_in g n) c) _ b u.2 in grows_same n _ b v.2
  stmt_grows g n (If branches) b h = moved n (resolved_branches g n branches) _ b (λ a. refl) (λ c e. grows_none n c.0 (branches_same g n branches c e)) h
  stmt_grows g n (While t limit body) b h =
      let u = then_some (resolved (known_in g n) t) _ b h in
      let v = then_some (if_there (resolved (known_in g n)) limit) _ b u.2 in
      let w = then_some (body_of n (resolved_stmts g n body)) _ b v.2 in
      grows_none n b.0 (ap (λ (p : Behind Step). p.0.visible) (sym (some_inj w.2)) ∙ body_grows n (resolved_stmts g n body) w.0 w.1)
  stmt_grows g n (Foreach x o body) b h =
      let u = then_some (resolved_over (known_in g n) o) _ b h in
      let v = then_some (new_name n x) _ b u.2 in
      let w = then_some (body_of n (resolved_stmts g v.0.0 body)) _ b v.2 in
      grows_none n b.0 (ap (λ (p : Behind Step). p.0.visible) (sym (some_inj w.2)) ∙ body_grows n (resolved_stmts g v.0.0 body) w.0 w.1)
  stmt_grows g n (Print items) b h = let u = then_some (each_resolved (resolved_item (known_in g n)) items) _ b h in grows_same n _ b u.2

  pub stmts_grow : (g : Globals) (n : Named) (body : Stmts Bytes) (b : Behind (List Step)) → resolved_stmts g n body ≡ Some b → Grows n b.0
  stmts_grow g n no_stmt b h = grows_same n [] b h
  stmts_grow g n (stmt_and s rest) b h =
      let u = then_some (resolved_stmt g n s) _ b h in
      let v = then_some (resolved_stmts g u.0.0 rest) _ b u.2 in
      let i = grows_twice n u.0.0 v.0.0 (stmt_grows g n s u.0 u.1) (stmts_grow g u.0.0 rest v.0 v.1) in
      record { more = i.more; is = ap (λ (p : Behind (List Step)). p.0.visible) (sym (some_inj v.2)) ∙ i.is }

  pub branches_same : (g : Globals) (n : Named) (branches : Branches Bytes) (b : Behind Parts) → resolved_branches g n branches ≡ Some b → b.0.visible ≡ n.visible
  branches_same g n (else_ body) b h =
      let u = then_some (else_of n body (body_of n (resolved_stmts g n body))) _ b h in
      ap (λ (p : Behind Parts). p.0.visible) (sym (some_inj u.2)) ∙ else_same n body (body_of n (resolved_stmts g n body)) u.0 (body_grows n (resolved_stmts g n body)) u.1
  branches_same g n (if_ t body rest) b h =
      let u = then_some (resolved (known_in g n) t) _ b h in
      let v = then_some (body_of n (resolved_stmts g n body)) _ b u.2 in
      let w = then_some (resolved_branches g v.0.0 rest) _ b v.2 in
      ap (λ (p : Behind Parts). p.0.visible) (sym (some_inj w.2)) ∙ (branches_same g v.0.0 rest w.0 w.1 ∙ body_grows n (resolved_stmts g n body) v.0 v.1)

-- ---- cuts

pub cut_allowed : (n m : Named) → Grows n m → length n.visible ≤ length m.visible
cut_allowed n m g = omega (arith, ap length g.is, length-append g.more n.visible)

pub cut_back : (n m : Named) (k : ℕ) → Grows n m → k ≡ length n.visible → kept k m ≡ ended n m
cut_back n m k g e =
    let gone : length m.visible - k ≡ length g.more = omega (arith, ap length g.is, length-append g.more n.visible, e) in
    ap (λ l. record { visible = l; next = m.next }) (ap (λ i. drop i m.visible) gone ∙ (ap (drop (length g.more)) g.is ∙ drop-append_seam g.more n.visible))

-- after a SELECT, a body or a loop was planned from the earlier names
pub aliases_cut : (n : Named) (q : Select Bytes) (m : Named) (k : ℕ) → with_aliases n q ≡ Some m → k ≡ length n.visible → kept k m ≡ ended n m
aliases_cut n q m k h e = cut_back n m k (aliases_grow n q m h) e

pub aliases_allow : (n : Named) (q : Select Bytes) (m : Named) (k : ℕ) → with_aliases n q ≡ Some m → k ≡ length n.visible → k ≤ length m.visible
aliases_allow n q m k h e = let i = cut_allowed n m (aliases_grow n q m h) in omega (arith, i, e)

pub stmts_cut : (g : Globals) (n : Named) (body : Stmts Bytes) (m : Named) (steps : List Step) (k : ℕ) → resolved_stmts g n body ≡ Some (m, steps) → k ≡ length n.visible → kept k m ≡ ended n m
stmts_cut g n body m steps k h e = cut_back n m k (stmts_grow g n body (m, steps) h) e

pub stmts_allow : (g : Globals) (n : Named) (body : Stmts Bytes) (m : Named) (steps : List Step) (k : ℕ) → resolved_stmts g n body ≡ Some (m, steps) → k ≡ length n.visible → k ≤ length m.visible
stmts_allow g n body m steps k h e = let i = cut_allowed n m (stmts_grow g n body (m, steps) h) in omega (arith, i, e)

loop_grows : (g : Globals) (n : Named) (x : Bytes) (o : Named) (place : ℕ) (body : Stmts Bytes) (m : Named) (steps : List Step) → new_name n x ≡ Some (o, place) → resolved_stmts g o body ≡ Some (m, steps) → Grows n m
loop_grows g n x o place body m steps h i = grows_twice n o m (new_grows n x (o, place) h) (stmts_grow g o body (m, steps) i)

pub loop_cut : (g : Globals) (n : Named) (x : Bytes) (o : Named) (place : ℕ) (body : Stmts Bytes) (m : Named) (steps : List Step) (k : ℕ) → new_name n x ≡ Some (o, place) → resolved_stmts g o body ≡ Some (m, steps) → k ≡ length n.visible → kept k m ≡ ended n m
loop_cut g n x o place body m steps k h i e = cut_back n m k (loop_grows g n x o place body m steps h i) e

pub loop_allow : (g : Globals) (n : Named) (x : Bytes) (o : Named) (place : ℕ) (body : Stmts Bytes) (m : Named) (steps : List Step) (k : ℕ) → new_name n x ≡ Some (o, place) → resolved_stmts g o body ≡ Some (m, steps) → k ≡ length n.visible → k ≤ length m.visible
loop_allow g n x o place body m steps k h i e = let j = cut_allowed n m (loop_grows g n x o place body m steps h i) in omega (arith, j, e)

pub ruleset block_cuts = (aliases_cut, aliases_allow)

pub ruleset body_cuts = (stmts_cut, stmts_allow)

pub ruleset loop_cuts = (loop_cut, loop_allow)
