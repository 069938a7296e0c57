-- ArgumentLemmas: the operand before a dot, and lists that are typed from left to right.
use Rattle.std.proofs.Common.{ℕ, ◌+◌, ◌<◌, ◌≡◌, List, [], ◌∷◌, ◌++◌, length, get_or, drop, map, Option, Some, None, Result, Ok, Err, refl, ap, sym, ◌∙◌}
use Rattle.std.proofs.lemmas.List.{append_assoc, append-nil}
use Rattle.gq_tree.specs.Tree.{Tree, Name}
use Rattle.gq_rules_typing.specs.Judging.{Typed, TypingFault, Judged, ◌>>=◌, each_judged}
use Rattle.gq_rules_typing.specs.ExpressionTypes.{Names, before_dot}
use Rattle.gq_scope.specs.Parts.{name_in}

-- ---- before a dot

pub dot_named : {N : Type 0} (names : Names N) (t : Tree N) (j : Judged Typed) (x : N) → name_in t ≡ Some x → before_dot names t j ≡ names.named x
dot_named names (Name y) j x is = ap names.named (let e : y ≡ x = cc in e)
dot_named names _ j x is = absurd (cc)

pub dot_other : {N : Type 0} (names : Names N) (t : Tree N) (j : Judged Typed) → name_in t ≡ None → before_dot names t j ≡ j
dot_other names (Name y) j is = absurd (cc)
dot_other names _ j is = refl

pub ruleset dot_laws = (dot_named, dot_other)

-- ---- lists from left to right

-- the earlier results, with those of the rest
abbrev pub after : {A : Type 0} → List A → Judged (List A) → Judged (List A)
after done j = j >>= λ rest. Ok (done ++ rest)

pub after_none : {A : Type 0} (j : Judged (List A)) → j ≡ after [] j
after_none (Ok rest) = refl
after_none (Err e) = refl

pub after_one : {A : Type 0} (done : List A) (a : A) (j : Judged (List A)) → after done (j >>= λ rest. Ok (a ∷ rest)) ≡ after (done ++ a ∷ []) j
after_one done a (Ok rest) = ap Ok (sym (append_assoc done (a ∷ []) rest))
after_one done a (Err e) = refl

pub after_all : {A : Type 0} (done : List A) → after done (Ok []) ≡ Ok done
after_all done = ap Ok (append-nil done)

pub ruleset all_laws = (after_none, after_one, after_all)
