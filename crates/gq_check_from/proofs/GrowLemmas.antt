-- GrowLemmas: how a scope changes when names are added, one or several in sequence.
use Rattle.std.proofs.Common.{ℕ, ◌≡◌, ◌∙◌, false, List, [], ◌∷◌, ◌++◌, length, take, map, reverse, refl, ap, sym, arith, Option, Some, None}
use Rattle.std.specs.Option.{option_map, is_some}
use Rattle.std.specs.List.{cons_option}
use Rattle.std.proofs.lemmas.List.{append-nil, length-append, reverse-append, take-take}
use Rattle.std.proofs.lemmas.List.Elements.{filter_map-append}
use Rattle.std.proofs.Math.Seq.{take-append_seam, take-length}
use Rattle.gq_value.specs.declared.kind.BaseType.{BaseType}
use Rattle.gq_rules_typing.specs.Statements.{Bytes}
use Rattle.gq_rules_typing.specs.Scopes as typing
use Rattle.gq_scope.specs.declared.entry.Entry.{Entry}
use Rattle.gq_scope.specs.Kept.{tuple_in, is_tuple, named_tuple, tuple_types}
use Rattle.gq_scope.specs.Held.{Held, entry_of, fields_of, sorts_in, setting_in, scope_in}
use Rattle.gq_rules_typing.specs.Words.{by_name}
use Rattle.gq_check_from.specs.Faults.{Grows}

-- ---- added names

-- one more name
abbrev pub gained : Held → Bytes → Entry → Held
gained h name what = record h { names = h.names ++ (name, what) ∷ [] }

with_names : Held → List (Bytes × Entry) → Held
with_names h names = record h { names = names }

pub grows_one : (h : Held) (name : Bytes) (what : Entry) → Grows h (gained h name what)
unfolding with_names
grows_one h name what = record {
  more = omega (arith, length-append h.names ((name, what) ∷ []));
  kept = ap (with_names h) (take-append_seam h.names ((name, what) ∷ []));
}

-- no name was added
pub grows_none : (h : Held) → Grows h h
unfolding with_names
grows_none h = record { more = omega arith; kept = ap (with_names h) (take-length h.names) }

first_names : ℕ → Held → Held
first_names n h = record h { names = take n h.names }

pub grows_on : (a b c : Held) → Grows a b → Grows b c → Grows a c
unfolding with_names first_names
grows_on a b c one two = record {
  more = omega (arith, one.more, two.more);
  kept = ap (with_names c) (sym (take-take (length a.names) (length b.names) c.names one.more)) ∙ ap (first_names (length a.names)) two.kept ∙ one.kept;
}

pub same_place : (a b : Held) → Grows a b → b.place ≡ a.place
same_place a b grows = ap (λ h. h.place) grows.kept

pub ruleset grow_laws = (grows_none, grows_on, same_place)

-- ---- a name that isn't a tuple type

no_tuple : (name : Bytes) (o : Option (List (Bytes × BaseType))) → is_some o ≡ false → cons_option {X = Bytes × List (Bytes × BaseType)} (option_map (λ fields. (name, fields)) o) [] ≡ []
no_tuple name None plain = refl
no_tuple name (Some fields) plain = absurd (cc)

types_stay : (names : List (Bytes × Entry)) (name : Bytes) (what : Entry) → is_tuple what ≡ false → tuple_types (names ++ (name, what) ∷ []) ≡ tuple_types names
types_stay names name what plain =
    filter_map-append named_tuple names ((name, what) ∷ []) ∙ ap (λ ts. tuple_types names ++ ts) (no_tuple name (tuple_in what) plain) ∙ append-nil (tuple_types names)

-- the scope of these tuple types and names, which are in reverse order
scope_of : Held → List (Bytes × List (Bytes × BaseType)) → List (Bytes × Entry) → typing.Scope Bytes
scope_of h tuples names = record {
  setting = record { words = by_name (sorts_in h); sorts = sorts_in h; tuples = map (λ t. (t.0, fields_of t.1)) tuples };
  names = map (λ e. (e.0, entry_of e.1)) names;
  with_paths = h.with_paths;
}

pub plain_added : (h : Held) (name : Bytes) (what : Entry) → is_tuple what ≡ false → scope_in (gained h name what) ≡ typing.with_entry name (entry_of what) (scope_in h)
unfolding scope_in setting_in sorts_in scope_of
plain_added h name what plain =
    ap (λ ts. scope_of h ts (reverse (h.names ++ (name, what) ∷ []))) (types_stay h.names name what plain)
    ∙ ap (scope_of h (tuple_types h.names)) (reverse-append h.names ((name, what) ∷ []))

pub ruleset add_laws = (plain_added, grows_one)
