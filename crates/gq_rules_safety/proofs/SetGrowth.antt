-- SetGrowth: assignments that are typed over some types are typed over more of them.
use Rattle.std.proofs.Common.{◌≡◌, ℕ, Bool, true, false, List, [], ◌∷◌, Option, Some, None, Ok, Err, refl}
use Rattle.std.specs.Prelude.{if◌then◌else◌}
use Rattle.gq_tree.specs.Tree.{Tree, Name}
use Rattle.gq_value.specs.Accums.{Base}
use Rattle.gq_rules_typing.specs.Selecting.{Select}
use Rattle.gq_rules_typing.specs.Statements.{SetTypes, Right, Selects, Sets, Expression}
use Rattle.gq_rules_typing.specs.Sorts.{Fields, VertexSort, EdgeSort, Sorts}
use Rattle.gq_rules_typing.specs.Words.{Words, Setting}
use Rattle.gq_rules_typing.specs.Judging.{TypingFault, Mismatch, Judged, ◌>>=◌, ◌>>◌}
use Rattle.gq_rules_typing.specs.ExpressionTypes.{typing, converting}
use Rattle.gq_rules_typing.specs.Scopes.{Entry, Variable, SetVariable, Alias, EdgeAlias, Accumulator, TupleName, InStatement, Scope, entry, unknown, with_entry, new_name, names_at}
use Rattle.gq_rules_typing.specs.SelectTypes.{typing_select}
use Rattle.gq_rules_typing.specs.SetTypes.{here, set_types, is_set, sets_types, right_types, right_value, kept_within, typing_assign, fixed_types, typing_fixed, typing_assignment}
use Rattle.gq_rules_safety.proofs.Leads.{Leads, Keeps, kept, fails, fails_after, kept_then, kept_on, leads_and}
use Rattle.gq_rules_safety.proofs.ScopeGrowth.{scoped, Scopes, scopes_ok}
use Rattle.gq_rules_safety.proofs.ExpressionGrowth.{SortsGrow, at₁, at₂, converting_kept}
use Rattle.gq_rules_safety.proofs.WalkGrowth.{Grown, select_kept}

-- a set on both sides, and if there is one the other keeps its types; or none
abbrev pub BothKeep : Option (Judged (List ℕ)) → Option (Judged (List ℕ)) → Type 0
BothKeep None None = Unit {0}
BothKeep (Some j) (Some k) = Keeps j k
BothKeep o p = ⊥

both_kept : (o : Option (Judged (List ℕ))) → BothKeep o o
both_kept None = tt
both_kept (Some j) = kept j

module _ {N : Type 0} (words : Words N) (a : Sorts) (vertices : List VertexSort) (edges : List EdgeSort) (h : SortsGrow words a vertices edges) (tuples : List (N × Fields)) (paths : Bool) (names : List (N × Entry)) where
  abbrev s : Scope N
  s = scoped (at₁ words a vertices edges h tuples) names paths

  abbrev t : Scope N
  t = scoped (at₂ words a vertices edges h tuples) names paths

  abbrev Goes : Judged (Scope N) → Judged (Scope N) → Type 0
  Goes = Leads (Grown words a vertices edges h tuples paths)

  same_names : Goes (Ok s) (Ok t)
  same_names = scopes_ok (at₁ words a vertices edges h tuples) (at₂ words a vertices edges h tuples) paths names

  new_entry : (x : N) (e : Entry) → Goes (Ok (with_entry x e s)) (Ok (with_entry x e t))
  new_entry x e = scopes_ok (at₁ words a vertices edges h tuples) (at₂ words a vertices edges h tuples) paths ((x, e) ∷ names)

  no_scope : (x : TypingFault) (k : Judged (Scope N)) → Goes (Err x) k
  no_scope x k = fails (Grown words a vertices edges h tuples paths) x k

  right_both : (right : Right N) → BothKeep (right_types s right) (right_types t right)
  right_both (Selects q) = select_kept words a vertices edges h tuples paths names q
  right_both (Sets z rest) = kept (sets_types s z rest)
  right_both (Expression (Name y)) = both_kept (right_types s (Expression (Name y)))
  right_both (Expression e) = tt

  value_grown : (b : Base) (e : Tree N) → Goes (converting (here s) b e >> Ok s) (converting (here t) b e >> Ok t)
  value_grown b e = leads_and (converting (here s) b e) (converting (here t) b e) (Ok s) (Ok t) (converting_kept words a vertices edges h tuples (names_at s InStatement) b e) same_names

  within_grown : (x : N) (fixed : List ℕ) (j k : Judged (List ℕ)) → Keeps j k → Goes (j >>= kept_within s x fixed >> Ok s) (k >>= kept_within t x fixed >> Ok t)
  within_grown x fixed j k keeps = leads_and (j >>= kept_within s x fixed) (k >>= kept_within t x fixed) (Ok s) (Ok t) (kept_on j k (kept_within s x fixed) keeps) same_names

  assign_grown : (x : N) (right : Right N) (e : Option Entry) (o p : Option (Judged (List ℕ))) → BothKeep o p → Goes (typing_assign s x right e o) (typing_assign t x right e p)
  assign_grown x right (Some (SetVariable fixed)) (Some j) (Some k) keeps = within_grown x fixed j k keeps
  assign_grown x (Expression e) (Some (Variable b)) None None keeps = value_grown b e
  assign_grown x right None (Some j) (Some k) keeps = kept_then j k _ _ keeps (λ types. new_entry x (SetVariable types))
  assign_grown x right None None None keeps = no_scope (unknown s x) _
  assign_grown x right (Some TupleName) o p keeps = no_scope (unknown s x) _
  assign_grown x (Selects q) (Some (Variable b)) (Some j) (Some k) keeps = no_scope Mismatch _
  assign_grown x (Sets z rest) (Some (Variable b)) (Some j) (Some k) keeps = no_scope Mismatch _
  assign_grown x (Expression e) (Some (Variable b)) (Some j) (Some k) keeps = no_scope Mismatch _
  assign_grown x (Selects q) (Some (Variable b)) None None keeps = no_scope Mismatch _
  assign_grown x (Sets z rest) (Some (Variable b)) None None keeps = no_scope Mismatch _
  assign_grown x right (Some (SetVariable fixed)) None None keeps = no_scope Mismatch _
  assign_grown x right (Some (Alias types)) o p keeps = no_scope Mismatch _
  assign_grown x right (Some (EdgeAlias types)) o p keeps = no_scope Mismatch _
  assign_grown x right (Some (Accumulator k attached)) o p keeps = no_scope Mismatch _
  assign_grown x right e None (Some k) keeps = absurd keeps
  assign_grown x right e (Some j) None keeps = absurd keeps

  fixed_grown : (x : N) (fixed : List ℕ) (right : Right N) (o p : Option (Judged (List ℕ))) → BothKeep o p → Goes (typing_fixed s x fixed right o) (typing_fixed t x fixed right p)
  fixed_grown x fixed right (Some j) (Some k) keeps = leads_and (j >>= kept_within s x fixed) (k >>= kept_within t x fixed) _ _ (kept_on j k (kept_within s x fixed) keeps) (new_entry x (SetVariable fixed))
  fixed_grown x fixed right None None keeps = fails_after (Grown words a vertices edges h tuples paths) (right_value right >>= typing (here s)) Mismatch (typing_fixed t x fixed right None)
  fixed_grown x fixed right None (Some k) keeps = absurd keeps
  fixed_grown x fixed right (Some j) None keeps = absurd keeps

  pub assignment_grown : (x : N) (types : Option (SetTypes N)) (right : Right N) → Goes (typing_assignment s x types right) (typing_assignment t x types right)
  assignment_grown x None right = assign_grown x right (entry s x) (right_types s right) (right_types t right) (right_both right)
  assignment_grown x (Some types) right =
      kept_then (fixed_types s types) (fixed_types t types) _ _ (kept (fixed_types s types))
      (λ fixed. leads_and (new_name s x) (new_name t x) (typing_fixed s x fixed right (right_types s right)) (typing_fixed t x fixed right (right_types t right)) (kept (new_name s x)) (fixed_grown x fixed right (right_types s right) (right_types t right) (right_both right)))
