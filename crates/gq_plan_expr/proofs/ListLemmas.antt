-- ListLemmas: lists that are planned from the left.
use Rattle.std.proofs.Common.{◌≡◌, List, [], ◌∷◌, ◌++◌, Option, Some, None, refl, ap}
use Rattle.gq_plan_expr.specs.Resolved.{◌>>=◌}

-- the items already planned, followed by the rest
abbrev pub after : {A : Type 0} → List A → Option (List A) → Option (List A)
after done o = o >>= λ rest. Some (done ++ rest)

append_assoc : {A : Type 0} (xs ys zs : List A) → xs ++ (ys ++ zs) ≡ (xs ++ ys) ++ zs
append_assoc [] ys zs = refl
append_assoc (x ∷ xs) ys zs = ap (λ l. x ∷ l) (append_assoc xs ys zs)

append_none : {A : Type 0} (xs : List A) → xs ++ [] ≡ xs
append_none [] = refl
append_none (x ∷ xs) = ap (λ l. x ∷ l) (append_none xs)

pub after_none : {A : Type 0} (o : Option (List A)) → o ≡ after [] o
after_none (Some rest) = refl
after_none None = refl

pub after_one : {A : Type 0} (done : List A) (a : A) (o : Option (List A)) → after done (o >>= λ rest. Some (a ∷ rest)) ≡ after (done ++ a ∷ []) o
after_one done a (Some rest) = ap Some (append_assoc done (a ∷ []) rest)
after_one done a None = refl

pub after_all : {A : Type 0} (done : List A) → after done (Some []) ≡ Some done
after_all done = ap Some (append_none done)

pub ruleset list_laws = (after_none, after_one, after_all)
