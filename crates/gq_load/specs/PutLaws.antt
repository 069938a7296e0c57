-- PutLaws: the function of upserts gives the store of upserts that all succeeded, and None if one was refused.
use Rattle.std.proofs.Common.{◌≡◌, List, [], ◌∷◌, ◌++◌, Some, None, cond, refl, sym, ap, ◌∙◌}
use Rattle.std.proofs.lemmas.List.{append-nil}
use Rattle.gq_index.specs.declared.store.Store.{Store}
use Rattle.gq_index.specs.Steps.{Step, after, after_all, is_refused, AllTaken, Done, Refused, Begun}
use Rattle.gq_load.specs.Puts.{put_all}

-- upserts that succeed, followed by others
taken_before : (store : Store) (xs ys : List Step) → AllTaken store xs → put_all store (xs ++ ys) ≡ put_all (after_all store xs) ys
taken_before store [] ys taken = refl
taken_before store (x ∷ xs) ys taken = ap (λ b. cond b None (put_all (after store x) (xs ++ ys))) taken.0 ∙ taken_before (after store x) xs ys taken.1

taken_all : (store : Store) (xs : List Step) → AllTaken store xs → put_all store xs ≡ Some (after_all store xs)
taken_all store [] taken = refl
taken_all store (x ∷ xs) taken = ap (λ b. cond b None (put_all (after store x) xs)) taken.0 ∙ taken_all (after store x) xs taken.1

pub put_done : (before later : Store) (steps : List Step) → Done before steps later → put_all before steps ≡ Some later
put_done before later steps done = taken_all before steps done.taken ∙ ap (λ (s : Store). Some s) (sym done.leads)

pub put_refused : (before later : Store) (steps : List Step) → Refused before steps later → put_all before steps ≡ None
put_refused before later steps refused =
    ap (put_all before) refused.whole
    ∙ taken_before before refused.first (refused.refused ∷ refused.others) refused.done.taken
    ∙ ap (λ b. cond b None (put_all (after (after_all before refused.first) refused.refused) refused.others))
    (ap (λ s. is_refused s refused.refused) (sym refused.done.leads) ∙ refused.full)

-- all upserts, or those before a refused one, are a prefix of them
pub done_begun : (before later : Store) (steps : List Step) → Done before steps later → Begun before steps later
done_begun before later steps done = record { first = steps; others = []; whole = sym (append-nil steps); done = done }

pub refused_begun : (before later : Store) (steps : List Step) → Refused before steps later → Begun before steps later
refused_begun before later steps refused = record { first = refused.first; others = refused.refused ∷ refused.others; whole = refused.whole; done = refused.done }
