-- EachSteps: the results of applying a function to the items of a list, in order.
use Rattle.std.proofs.Common.{◌≡◌, ℕ, ◌+◌, ◌<◌, ◌≤◌, List, [], ◌∷◌, ◌++◌, drop, map, length, get_or, refl, sym, ap, ◌∙◌}
use Rattle.std.proofs.lemmas.List.{append_assoc, append-nil, drop_more, drop_all}
use Rattle.gq_value.specs.declared.value.Wrong.{Wrong}
use Rattle.gq_rules_meaning.specs.Answers.{Answer, Gives, Faults, Stuck, ◌>>=◌, each}
use Rattle.gq_eval_operand.specs.declared.halt.Halt.{Halt}
use Rattle.gq_eval_operand.specs.declared.halt.Halt.TheVariants as halt
use Rattle.gq_eval_operand.specs.Meant.{Halts}

-- the earlier results, followed by these
abbrev pub and_more : {F B : Type 0} → List B → Answer F (List B) → Answer F (List B)
and_more done o = o >>= λ more. Gives (done ++ more)

pub none_before : {F B : Type 0} (o : Answer F (List B)) → o ≡ and_more [] o
none_before (Gives a) = refl
none_before (Faults w) = refl
none_before Stuck = refl

pub one_before : {F B : Type 0} (o : Answer F (List B)) (done : List B) (b : B) → and_more done (o >>= λ bs. Gives (b ∷ bs)) ≡ and_more (done ++ b ∷ []) o
one_before (Gives bs) done b = ap Gives (sym (append_assoc done (b ∷ []) bs))
one_before (Faults w) done b = refl
one_before Stuck done b = refl

pub at_place : {A : Type 0} (xs : List A) (i : ℕ) (x : A) → i < length xs → x ≡ get_or xs i x → drop i xs ≡ x ∷ drop (i + 1) xs
at_place xs i x n is = drop_more xs i x n ∙ ap (λ y. y ∷ drop (i + 1) xs) (sym is)

pub nothing_left : {A B F : Type 0} (f : List A → Answer F (List B)) (xs : List A) (i : ℕ) (done : List B) → f [] ≡ Gives [] → f xs ≡ and_more done (f (drop i xs)) → length xs ≤ i → f xs ≡ Gives done
nothing_left f xs i done n h l = h ∙ ap (λ ys. and_more done (f ys)) (drop_all i xs l) ∙ ap (and_more done) n ∙ ap Gives (append-nil done)

-- an evaluation that ends stops everything after it
pub stops : {A B : Type 0} (o : Answer Wrong A) (f : A → Answer Wrong B) (h : Halt) → Halts o h → Halts (o >>= f) h
stops o f (halt.Wrong w) e = ap (λ p. p >>= f) e
stops o f halt.Stuck e = ap (λ p. p >>= f) e
stops o f halt.OutOfMemory e = tt

module _ {F A B : Type 0} (f : A → Answer F B) where
  abbrev pub EachAt : List A → ℕ → List B → Type 0
  EachAt xs i done = each f xs ≡ and_more done (each f (drop i xs))

  each_here : (xs : List A) (i : ℕ) (x : A) (done : List B) → EachAt xs i done → i < length xs → x ≡ get_or xs i x → each f xs ≡ and_more done (each f (x ∷ drop (i + 1) xs))
  each_here xs i x done h n is = h ∙ ap (λ ys. and_more done (each f ys)) (at_place xs i x n is)

  pub each_next : (xs : List A) (i : ℕ) (x : A) (done : List B) (b : B) → EachAt xs i done → i < length xs → x ≡ get_or xs i x → f x ≡ Gives b → EachAt xs (i + 1) (done ++ b ∷ [])
  each_next xs i x done b h n is e =
      each_here xs i x done h n is
      ∙ ap (λ o. and_more done (o >>= λ b. each f (drop (i + 1) xs) >>= λ bs. Gives (b ∷ bs))) e
      ∙ one_before (each f (drop (i + 1) xs)) done b

  -- the results from a place on begin with that of the item at the place
  pub each_begins : (xs : List A) (i : ℕ) (x : A) (done : List B) → EachAt xs i done → i < length xs → x ≡ get_or xs i x
      → each f xs ≡ (f x >>= λ b. and_more done (each f (drop (i + 1) xs) >>= λ bs. Gives (b ∷ bs)))
  each_begins xs i x done h n is = each_here xs i x done h n is ∙ joined (f x)
    where
      joined : (p : Answer F B) → and_more done (p >>= λ b. each f (drop (i + 1) xs) >>= λ bs. Gives (b ∷ bs)) ≡ (p >>= λ b. and_more done (each f (drop (i + 1) xs) >>= λ bs. Gives (b ∷ bs)))
      joined (Gives b) = refl
      joined (Faults w) = refl
      joined Stuck = refl

pub each_mapped : {F A B C : Type 0} (f : B → Answer F C) (g : A → B) (xs : List A) → each f (map g xs) ≡ each (λ x. f (g x)) xs
each_mapped f g [] = refl
each_mapped f g (x ∷ xs) = ap (λ o. f (g x) >>= λ b. o >>= λ bs. Gives (b ∷ bs)) (each_mapped f g xs)
