-- SetLemmas: written sets and chains of sets, and assignments by their left side.
use Rattle.std.proofs.Common.{◌≡◌, ℕ, true, false, ◌||◌, List, [], ◌∷◌, ◌++◌, Option, Some, None, refl, ap, sym, ◌∙◌, Ok, Err}
use Rattle.std.specs.List.{concat}
use Rattle.std.specs.Option.{option_map, is_some}
use Rattle.std.proofs.lemmas.List.{append-nil, append_assoc}
use Rattle.gq_tree.specs.Tree.{Tree, Name}
use Rattle.gq_tree.specs.declared.body.SetOp.{SetOp}
use Rattle.gq_graph.specs.Candidates.{among}
use Rattle.gq_rules_typing.specs.Statements.{Bytes, SetTerm, SetNamed, Seeds, Right, Selects, Sets, Expression}
use Rattle.gq_rules_typing.specs.Judging.{Mismatch, UnknownName, Judged, ◌>>=◌, ◌>>◌}
use Rattle.gq_rules_typing.specs.ExpressionTypes.{base_type}
use Rattle.gq_rules_typing.specs.Scopes.{Entry, Variable, SetVariable, Alias, EdgeAlias, Accumulator, TupleName, Scope, entry, with_entry}
use Rattle.gq_rules_typing.specs.Patterns.{by_number}
use Rattle.gq_rules_typing.specs.SetTypes as typing
use Rattle.gq_rules_typing.specs.SetTypes.{here, types_of, all_types, sets_types, right_types, typing_assign, typing_fixed}
use Rattle.gq_scope.specs.Held.{Held, scope_in, setting_in}
use Rattle.gq_check_from.proofs.NumberLemmas.{rising_same, rising_distinct, among_distinct, among_both}
use Rattle.gq_check_select.specs.declared.assignments.AssignTarget.TheVariants as left
use Rattle.gq_check_select.specs.Selects.{named_types, chain, is_empty, left_of, set_in, set_alone, set_or_mismatch, there_or_mismatch, kept_within, assign_set, assign_with, assign_value, declare_with, declare, fixed_with, declare_fixed}

-- ---- seeds

-- sorted only once
all_types_are : (tss : List (List ℕ)) → all_types tss ≡ by_number (concat tss)
all_types_are [] = refl
all_types_are (ts ∷ rest) =
    ap (λ l. by_number (ts ++ l)) (all_types_are rest)
    ∙ rising_same 0 (by_number (ts ++ by_number (concat rest))) (by_number (ts ++ concat rest)) (rising_distinct (ts ++ by_number (concat rest))) (rising_distinct (ts ++ concat rest))
    (λ v. among_distinct (ts ++ by_number (concat rest)) v ∙ among_both ts (by_number (concat rest)) v ∙ ap (λ b. among ts v || b) (among_distinct (concat rest) v)
    ∙ sym (among_both ts (concat rest) v) ∙ sym (among_distinct (ts ++ concat rest) v))

-- the earlier results, with those of the rest
abbrev pub seeds_after : List ℕ → Judged (List (List ℕ)) → Judged (List ℕ)
seeds_after done j = j >>= λ tss. Ok (by_number (done ++ concat tss))

pub seeds_none : (j : Judged (List (List ℕ))) → (j >>= λ tss. Ok (all_types tss)) ≡ seeds_after [] j
seeds_none (Ok tss) = ap Ok (all_types_are tss)
seeds_none (Err e) = refl

pub seeds_one : (done ts : List ℕ) (j : Judged (List (List ℕ))) → seeds_after done (j >>= λ rest. Ok (ts ∷ rest)) ≡ seeds_after (done ++ ts) j
seeds_one done ts (Ok tss) = ap (λ l. Ok (by_number l)) (sym (append_assoc done ts (concat tss)))
seeds_one done ts (Err e) = refl

pub seeds_all : (done : List ℕ) → seeds_after done (Ok []) ≡ Ok (by_number done)
seeds_all done = ap (λ l. Ok (by_number l)) (append-nil done)

pub ruleset seed_laws = (seeds_none, seeds_one, seeds_all)

-- a name that means one vertex
pub named_types_are : (h : Held) (x : Bytes) → (base_type (here (scope_in h)) (Name x) >>= types_of (scope_in h)) ≡ named_types (scope_in h) x
unfolding scope_in setting_in
named_types_are h x = by_entry (entry (scope_in h) x) refl
  where
    by_entry : (o : Option Entry) → entry (scope_in h) x ≡ o → (base_type (here (scope_in h)) (Name x) >>= types_of (scope_in h)) ≡ named_types (scope_in h) x
    by_entry None e = rw e refl
    by_entry (Some (Variable b)) e = rw e refl
    by_entry (Some (SetVariable types)) e = rw e refl
    by_entry (Some (Alias types)) e = rw e refl
    by_entry (Some (EdgeAlias types)) e = rw e refl
    by_entry (Some (Accumulator k flag)) e = rw e refl
    by_entry (Some TupleName) e = rw e refl

-- ---- chains

pub chain_is : (s : Scope Bytes) (t : SetTerm Bytes) (rest : List (SetOp × SetTerm Bytes)) → is_empty t rest ≡ false → sets_types s t rest ≡ chain s t rest
chain_is s (SetNamed x) rest not = refl
chain_is s (Seeds []) [] not = absurd (cc)
chain_is s (Seeds []) (r ∷ rest) not = refl
chain_is s (Seeds (x ∷ xs)) rest not = refl

pub empty_is : (s : Scope Bytes) (t : SetTerm Bytes) (rest : List (SetOp × SetTerm Bytes)) → is_empty t rest ≡ true → sets_types s t rest ≡ Ok s.setting.sorts.own_vertices
empty_is s (SetNamed x) rest is = absurd (cc)
empty_is s (Seeds []) [] is = refl
empty_is s (Seeds []) (r ∷ rest) is = absurd (cc)
empty_is s (Seeds (x ∷ xs)) rest is = absurd (cc)

pub ruleset sets_laws = (chain_is, empty_is)

-- ---- right sides

abbrev given : List ℕ → Judged (List ℕ)
given types = Ok types

-- an expression is a set if it is just the name of a set variable
pub right_is : (s : Scope Bytes) (t : Tree Bytes) → right_types s (Expression t) ≡ option_map given (set_alone s t)
right_is s (Name y) = by_entry (entry s y) refl
  where
    by_entry : (o : Option Entry) → entry s y ≡ o → right_types s (Expression (Name y)) ≡ option_map given (set_in o)
    by_entry None e = rw e refl
    by_entry (Some (Variable b)) e = rw e refl
    by_entry (Some (SetVariable types)) e = rw e refl
    by_entry (Some (Alias types)) e = rw e refl
    by_entry (Some (EdgeAlias types)) e = rw e refl
    by_entry (Some (Accumulator k flag)) e = rw e refl
    by_entry (Some TupleName) e = rw e refl
right_is s _ = refl

mapped_some : (o : Option (List ℕ)) → is_some (option_map given o) ≡ is_some o
mapped_some None = refl
mapped_some (Some ts) = refl

mapped_or : (o : Option (List ℕ)) → set_or_mismatch (option_map given o) ≡ there_or_mismatch o
mapped_or None = refl
mapped_or (Some ts) = refl

pub right_some : (s : Scope Bytes) (t : Tree Bytes) → is_some (right_types s (Expression t)) ≡ is_some (set_alone s t)
right_some s t = ap is_some (right_is s t) ∙ mapped_some (set_alone s t)

pub right_or : (s : Scope Bytes) (t : Tree Bytes) → set_or_mismatch (right_types s (Expression t)) ≡ there_or_mismatch (set_alone s t)
right_or s t = ap set_or_mismatch (right_is s t) ∙ mapped_or (set_alone s t)

pub ruleset right_laws = (right_some, right_or)

-- ---- left sides

said_is : (h : Held) (x : Bytes) → (scope_in h).setting.words.said x ≡ x
unfolding scope_in setting_in
said_is h x = refl

within_is : (h : Held) (x : Bytes) (fixed types : List ℕ) → typing.kept_within (scope_in h) x fixed types ≡ kept_within x fixed types
within_is h x fixed types = ap (λ name. kept_within name fixed types) (said_is h x)

pub to_set : (h : Held) (x : Bytes) (right : Right Bytes) (fixed : List ℕ) (o : Option Entry) → left.Set fixed ≡ left_of o
    → typing_assign (scope_in h) x right o (right_types (scope_in h) right) ≡ assign_set (scope_in h) x fixed right
to_set h x right fixed (Some (SetVariable types)) is = by_right (right_types (scope_in h) right)
  where
    same : types ≡ fixed
    same = cc

    by_set : (j : Judged (List ℕ)) → (j >>= typing.kept_within (scope_in h) x types >> Ok (scope_in h)) ≡ (j >>= kept_within x fixed >> Ok (scope_in h))
    by_set (Ok ts) = ap (λ j. j >> Ok (scope_in h)) (within_is h x types ts ∙ ap (λ f. kept_within x f ts) same)
    by_set (Err e) = refl

    by_right : (r : Option (Judged (List ℕ))) → typing_assign (scope_in h) x right (Some (SetVariable types)) r ≡ (set_or_mismatch r >>= kept_within x fixed >> Ok (scope_in h))
    by_right None = refl
    by_right (Some j) = by_set j
to_set h x right fixed None is = absurd (cc)
to_set h x right fixed (Some (Variable b)) is = absurd (cc)
to_set h x right fixed (Some (Alias types)) is = absurd (cc)
to_set h x right fixed (Some (EdgeAlias types)) is = absurd (cc)
to_set h x right fixed (Some (Accumulator k flag)) is = absurd (cc)
to_set h x right fixed (Some TupleName) is = absurd (cc)

pub to_value : (h : Held) (x : Bytes) (right : Right Bytes) (o : Option Entry) → left.Value ≡ left_of o
    → typing_assign (scope_in h) x right o (right_types (scope_in h) right) ≡ (assign_value (scope_in h) o right >> Ok (scope_in h))
to_value h x right (Some (Variable b)) is = by_right right (right_types (scope_in h) right)
  where
    by_right : (q : Right Bytes) (r : Option (Judged (List ℕ))) → typing_assign (scope_in h) x q (Some (Variable b)) r ≡ (assign_with (scope_in h) q r (Some (Variable b)) >> Ok (scope_in h))
    by_right (Expression t) None = refl
    by_right (Selects s) None = refl
    by_right (Sets t rest) None = refl
    by_right (Expression t) (Some j) = refl
    by_right (Selects s) (Some j) = refl
    by_right (Sets t rest) (Some j) = refl
to_value h x right (Some (SetVariable types)) is = absurd (cc)
to_value h x right None is = absurd (cc)
to_value h x right (Some (Alias types)) is = absurd (cc)
to_value h x right (Some (EdgeAlias types)) is = absurd (cc)
to_value h x right (Some (Accumulator k flag)) is = absurd (cc)
to_value h x right (Some TupleName) is = absurd (cc)

pub to_new : (h : Held) (x : Bytes) (right : Right Bytes) (o : Option Entry) → left.New ≡ left_of o
    → typing_assign (scope_in h) x right o (right_types (scope_in h) right) ≡ declare (scope_in h) x right
to_new h x right None is = by_right (right_types (scope_in h) right)
  where
    by_right : (r : Option (Judged (List ℕ))) → typing_assign (scope_in h) x right None r ≡ declare_with (scope_in h) x r
    by_right None = ap (λ name. Err (UnknownName name)) (said_is h x)
    by_right (Some j) = refl
to_new h x right (Some (Variable b)) is = absurd (cc)
to_new h x right (Some (SetVariable types)) is = absurd (cc)
to_new h x right (Some (Alias types)) is = absurd (cc)
to_new h x right (Some (EdgeAlias types)) is = absurd (cc)
to_new h x right (Some (Accumulator k flag)) is = absurd (cc)
to_new h x right (Some TupleName) is = absurd (cc)

pub is_new : (o : Option Entry) → left.New ≡ left_of o → is_some o ≡ false
is_new None is = refl
is_new (Some (Variable b)) is = absurd (cc)
is_new (Some (SetVariable types)) is = absurd (cc)
is_new (Some (Alias types)) is = absurd (cc)
is_new (Some (EdgeAlias types)) is = absurd (cc)
is_new (Some (Accumulator k flag)) is = absurd (cc)
is_new (Some TupleName) is = absurd (cc)

pub to_tuple : (h : Held) (x : Bytes) (right : Right Bytes) (o : Option Entry) → left.Tuple ≡ left_of o
    → typing_assign (scope_in h) x right o (right_types (scope_in h) right) ≡ Err (UnknownName x)
to_tuple h x right (Some TupleName) is = by_right (right_types (scope_in h) right)
  where
    by_right : (r : Option (Judged (List ℕ))) → typing_assign (scope_in h) x right (Some TupleName) r ≡ Err (UnknownName x)
    by_right None = ap (λ name. Err (UnknownName name)) (said_is h x)
    by_right (Some j) = ap (λ name. Err (UnknownName name)) (said_is h x)
to_tuple h x right None is = absurd (cc)
to_tuple h x right (Some (Variable b)) is = absurd (cc)
to_tuple h x right (Some (SetVariable types)) is = absurd (cc)
to_tuple h x right (Some (Alias types)) is = absurd (cc)
to_tuple h x right (Some (EdgeAlias types)) is = absurd (cc)
to_tuple h x right (Some (Accumulator k flag)) is = absurd (cc)

pub to_other : (h : Held) (x : Bytes) (right : Right Bytes) (o : Option Entry) → left.Other ≡ left_of o
    → typing_assign (scope_in h) x right o (right_types (scope_in h) right) ≡ Err Mismatch
to_other h x right (Some (Alias types)) is = by_right (right_types (scope_in h) right)
  where
    by_right : (r : Option (Judged (List ℕ))) → typing_assign (scope_in h) x right (Some (Alias types)) r ≡ Err Mismatch
    by_right None = refl
    by_right (Some j) = refl
to_other h x right (Some (EdgeAlias types)) is = by_right (right_types (scope_in h) right)
  where
    by_right : (r : Option (Judged (List ℕ))) → typing_assign (scope_in h) x right (Some (EdgeAlias types)) r ≡ Err Mismatch
    by_right None = refl
    by_right (Some j) = refl
to_other h x right (Some (Accumulator k flag)) is = by_right (right_types (scope_in h) right)
  where
    by_right : (r : Option (Judged (List ℕ))) → typing_assign (scope_in h) x right (Some (Accumulator k flag)) r ≡ Err Mismatch
    by_right None = refl
    by_right (Some j) = refl
to_other h x right None is = absurd (cc)
to_other h x right (Some (Variable b)) is = absurd (cc)
to_other h x right (Some (SetVariable types)) is = absurd (cc)
to_other h x right (Some TupleName) is = absurd (cc)

pub fixed_is : (h : Held) (x : Bytes) (fixed : List ℕ) (right : Right Bytes)
    → typing_fixed (scope_in h) x fixed right (right_types (scope_in h) right) ≡ declare_fixed (scope_in h) x fixed right
fixed_is h x fixed right = by_right (right_types (scope_in h) right)
  where
    by_set : (j : Judged (List ℕ)) → typing_fixed (scope_in h) x fixed right (Some j) ≡ fixed_with (scope_in h) x fixed right (Some j)
    by_set (Ok types) = ap (λ j. j >> Ok (with_entry x (SetVariable fixed) (scope_in h))) (within_is h x fixed types)
    by_set (Err e) = refl

    by_right : (r : Option (Judged (List ℕ))) → typing_fixed (scope_in h) x fixed right r ≡ fixed_with (scope_in h) x fixed right r
    by_right None = refl
    by_right (Some j) = by_set j

pub ruleset assign_laws = (to_set, to_value, to_new, is_new, to_tuple, to_other, fixed_is)
